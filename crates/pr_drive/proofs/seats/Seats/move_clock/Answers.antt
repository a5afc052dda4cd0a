use Rattle.pr_drive.proofs.MoveLemmas.{clock-below, clock-ticked}
use Rattle.pr_drive.proofs.seats.Seats.move_clock.Goals as goal

pub tick-requires-clause-clock : goal.tick-requires-clause-clock
tick-requires-clause-clock c = clock-below c.args.self.now _ _ c.self.view_is c.requires.can.0 c.requires.can.1

pub returns : goal.returns
returns c = clock-ticked c.args.self.now _ _ c.self.view_is c.tick.new.self c.requires.place c.tick.ensures
