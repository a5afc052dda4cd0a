use Rattle.std.proofs.Common.{◌∙◌, sym}
use Rattle.pr_drive.proofs.EntryLemmas.{if-ok}
use Rattle.pr_drive.proofs.RoundLemmas.{clock-here, clock-past}
use Rattle.pr_drive.proofs.seats.Seats.next_from_clock.Goals as goal

pub returns-then-can-clause-next : goal.returns-then-can-clause-next
returns-then-can-clause-next c = clock-here c.args.until c.args.self.now (sym c.in_ok-can.ensures ∙ c.if-can.true)

pub returns-clause-next : goal.returns-clause-next
returns-clause-next c =
    if-ok _ _ c.first_controller.result
    (λ next e. e ∙ clock-past c.args.until c.args.self.now (sym c.in_ok-can.ensures ∙ c.if-can.false))
    (c.first_controller.ensures.first c.args.until)
