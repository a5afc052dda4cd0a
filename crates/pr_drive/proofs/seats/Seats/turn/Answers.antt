use Rattle.std.proofs.Common.{◌∙◌, ap, sym}
use Rattle.pr_drive.specs.Going.{can_move}
use Rattle.pr_drive.proofs.SeatLemmas.{controller-any, lwp-any}
use Rattle.pr_drive.proofs.seats.Seats.turn.Goals as goal

pub move_controller-requires-clause-can : goal.move_controller-requires-clause-can
move_controller-requires-clause-can c =
    controller-any c.requires.can.0 0 c.args.self.now c.in-Controller.number
    (ap (can_move c.requires.can.0 c.args.self.now) (sym c.in-Controller.is) ∙ c.requires.can.1)

pub move_lwp-requires-clause-can : goal.move_lwp-requires-clause-can
move_lwp-requires-clause-can c =
    lwp-any c.requires.can.0 0 c.args.self.now c.in-Lwp.pid c.in-Lwp.lwp
    (ap (can_move c.requires.can.0 c.args.self.now) (sym c.in-Lwp.is) ∙ c.requires.can.1)
