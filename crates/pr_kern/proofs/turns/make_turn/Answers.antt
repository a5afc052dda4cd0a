use Rattle.std.proofs.Common.{◌+◌, ℕ, refl, subst}
use Rattle.std.specs.Prelude.{OnOk}
use Rattle.pr_model.specs.State.{TracedSystem}
use Rattle.pr_proc.specs.Counts.{AllUsedAtMost}
use Rattle.pr_ready.specs.Following.{around_lwp}
use Rattle.pr_ready.proofs.RanLemmas.{ran-covers}
use Rattle.pr_kern.proofs.ReadyLemmas.{instruction-reach, none-has, some-has, turn-follows}
use Rattle.pr_kern.proofs.turns.make_turn.Goals as goal

pub after_instruction-requires-clause-reach : goal.after_instruction-requires-clause-reach
after_instruction-requires-clause-reach c =
    instruction-reach c.in-Some.turned.did (some-has _ _ _ _ c.in-Some.is c.in_ok-run_instruction.ensures.did)

pub after_instruction-requires-clause-ran : goal.after_instruction-requires-clause-ran
after_instruction-requires-clause-ran c only small =
    ran-covers c.args.sys.now c.args.pid c.args.lwp _ (some-has _ _ _ _ c.in-Some.is c.in_ok-run_instruction.ensures.ok)
    only c.args.ready.now c.requires.looks small

pub returns-in-None-clause-used : goal.returns-in-None-clause-used
returns-in-None-clause-used c =
    subst
    (λ (s : TracedSystem).
    OnOk c.any_turn.result ((n : ℕ) → AllUsedAtMost n s → AllUsedAtMost (n + 1) c.any_turn.new.sys))
    (none-has _ _ _ c.in-None.is c.in_ok-run_instruction.ensures.other) c.any_turn.ensures.used

pub returns-in-Some-clause-looks : goal.returns-in-Some-clause-looks
returns-in-Some-clause-looks c =
    turn-follows _ _ _ _ (around_lwp c.args.sys.now c.args.pid c.args.lwp) _ _ c.requires.lawful
    (some-has _ _ _ _ c.in-Some.is c.in_ok-run_instruction.ensures.ok) refl
    (c.after_instruction.ensures (around_lwp c.args.sys.now c.args.pid c.args.lwp)) c.requires.looks
