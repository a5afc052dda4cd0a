use Rattle.std.proofs.Common.{◌∙◌, ap, is_some, sym}
use Rattle.pr_model.specs.Calls.{answer_to}
use Rattle.pr_drive.specs.Going.{SeatsState}
use Rattle.pr_drive.proofs.SeatLemmas.{controller-can}
use Rattle.pr_drive.proofs.seats.Seats.controller_can_move.Goals as goal

pub returns-in-Some : goal.returns-in-Some
returns-in-Some c = λ until.
    c.ready.ensures
    ∙ ap (λ (s : SeatsState). is_some (answer_to s.kernel.state c.args.number c.in-Some.call)) c.self.view_is
    ∙ controller-can until c.args.self.now c.args.number c.in-Some.call (sym c.in-Some.is ∙ c.in_ok-call.ensures)
