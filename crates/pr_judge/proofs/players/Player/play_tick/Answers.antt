use Rattle.std.proofs.Common.{◌==◌, ◌+◌, ◌<◌, ◌^◌, sym, subst, arith}
use Rattle.pr_api.specs.Entries.{tick_entry}
use Rattle.pr_kern.proofs.KeptLemmas.{ticked-sound}
use Rattle.pr_lawful.proofs.LawfulStates.CallLemmas.{tick-state}
use Rattle.pr_model.specs.Legal.{ticked}
use Rattle.pr_model.specs.State.{with_system}
use Rattle.pr_judge.proofs.TryLemmas.{tried-tick}
use Rattle.pr_judge.specs.Players.{HasTried, Played}
use Rattle.pr_judge.proofs.players.Player.play_tick.Goals as goal

pub invariant_of-self : goal.invariant_of-self
invariant_of-self c =
    let was = c.self.invariant in
    record {
      sound = ticked-sound _ _ was.sound;
      lawful = tick-state _ was.lawful;
      fits = subst (λ (p : Played). p.steps + 1 < 2 ^ 32) (sym c.self.view_is) c.requires;
    }

pub returns-clause-tried : goal.returns-clause-tried
returns-clause-tried c =
    let machine = c.self.inside.machine in
    let legal = c.args.clock == machine.system.clock + 1 in
    subst
    (λ (p : Played).
    HasTried c.args.controllers (tick_entry c.args.clock) p.state (with_system ticked machine) legal)
    c.self.view_is (tried-tick c.args.controllers machine c.args.clock (omega (arith, c.if-self-ge-CLOCK_LIMIT.false)))
