use Rattle.std.proofs.Common.{sym, ap, ◌∙◌}
use Rattle.pr_model.specs.InstructionEffects.{hit_before}
use Rattle.pr_lwp.specs.Plain.{outcome_of, space_after, store_of}
use Rattle.pr_lwp.proofs.ExecutionLemmas.{store-watched}
use Rattle.pr_lwp.proofs.executing.store_effect.Goals as goal

pub returns-in-Some-hit_before-clause-outcome : goal.returns-in-Some-hit_before-clause-outcome
returns-in-Some-hit_before-clause-outcome c =
    sym (ap outcome_of
    (store-watched c.args.space.now c.args.areas.now c.args.exec_hit c.args.stack c.args.regs
    (store_of c.args.store) c.in-Some-hit_before.at c.in_default.ensures
    (c.in-Some-hit_before.ensures ∙ ap hit_before c.store_hit-hit.ensures)))

pub returns-in-Some-hit_before-clause-space : goal.returns-in-Some-hit_before-clause-space
returns-in-Some-hit_before-clause-space c =
    sym (ap (λ e. space_after e c.args.space.now)
    (store-watched c.args.space.now c.args.areas.now c.args.exec_hit c.args.stack c.args.regs
    (store_of c.args.store) c.in-Some-hit_before.at c.in_default.ensures
    (c.in-Some-hit_before.ensures ∙ ap hit_before c.store_hit-hit.ensures)))
