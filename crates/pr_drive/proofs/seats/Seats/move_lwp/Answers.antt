use Rattle.pr_drive.proofs.MoveLemmas.{lwp-can_turn, lwp-turned}
use Rattle.pr_drive.proofs.seats.Seats.move_lwp.Goals as goal

pub lwp_turn-requires-clause-movable : goal.lwp_turn-requires-clause-movable
lwp_turn-requires-clause-movable c = lwp-can_turn c.args.self.now _ _ c.self.view_is c.args.pid c.args.lwp
    c.requires.can

pub returns : goal.returns
returns c = lwp-turned c.args.self.now _ _ c.self.view_is c.args.pid c.args.lwp _ c.requires.can c.requires.place
    c.in_ok-lwp_turn.ensures.ok
