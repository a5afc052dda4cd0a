use Rattle.std.proofs.Common.{◌==◌, ℕ, sym, subst, arith}
use Rattle.pr_api.specs.Entries.{tick_entry}
use Rattle.pr_judge.specs.Judgements.{Plays}
use Rattle.pr_judge.proofs.PlayLemmas.{clock-ended, ticked-so}
use Rattle.pr_judge.proofs.plays.play_tick.Goals as goal

pub returns-then-clock-ge-CLOCK_LIMIT : goal.returns-then-clock-ge-CLOCK_LIMIT
returns-then-clock-ge-CLOCK_LIMIT g c =
    clock-ended c.args.controllers (g.Q.Kernel.view c.args.kernel.now) (g.Q.Kernel.view c.args.kernel.now)
    (g.met.Q.Kernel.lawful c.args.kernel.now) c.args.clock
    (omega (arith, c.clock.ensures.value, c.if-clock-ge-CLOCK_LIMIT.true))

pub returns : goal.returns
returns g c =
    let old = g.Q.Kernel.view c.args.kernel.now in
    let new = g.Q.Kernel.view c.tick.new.self in
    subst (λ (n : ℕ). Plays c.args.controllers (tick_entry c.args.clock) old new (n == c.args.clock))
    (sym c.clock-2.ensures.value)
    (ticked-so c.args.controllers old new (g.met.Q.Kernel.lawful c.args.kernel.now)
    (omega (arith, c.clock.ensures.value, c.if-clock-ge-CLOCK_LIMIT.false)) c.args.clock c.tick.ensures)
