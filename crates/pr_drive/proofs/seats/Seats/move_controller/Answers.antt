use Rattle.std.proofs.Common.{◌≡◌, ◌∙◌, true, false, sym}
use Rattle.pr_drive.proofs.SeatLemmas.{controller-can, controller-cannot}
use Rattle.pr_drive.proofs.seats.Seats.move_controller.Goals as goal

pub call_by-requires-clause-ready : goal.call_by-requires-clause-ready
call_by-requires-clause-ready c =
    controller-can 0 c.args.self.now c.args.number c.in-Some.call (sym c.in-Some.is ∙ c.in_ok-call.ensures)
    ∙ c.requires.can

pub returns-in-None : goal.returns-in-None
returns-in-None c =
    let no : false ≡ true = controller-cannot 0 c.args.self.now c.args.number (sym c.in-None.is ∙ c.in_ok-call.ensures)
    ∙ c.requires.can in cc
