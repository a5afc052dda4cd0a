use Rattle.std.proofs.Common.{◌∙◌, ap, true}
use Rattle.pr_kern.specs.Orders.{next_of}
use Rattle.pr_drive.specs.Going.{SeatsState}
use Rattle.pr_drive.proofs.EntryLemmas.{if-ok}
use Rattle.pr_drive.proofs.RoundLemmas.{lwps-here, lwps-past}
use Rattle.pr_drive.proofs.seats.Seats.next_from_lwps.Goals as goal

pub returns-in-Some-clause-next : goal.returns-in-Some-clause-next
returns-in-Some-clause-next c =
    lwps-here c.args.until c.args.self.now c.args.after (c.in-Some.pid, c.in-Some.lwp)
    (c.in-Some.ensures ∙ ap (λ (s : SeatsState). next_of true s.kernel.state.system c.args.after) c.self.view_is)

pub returns-in-None-clause-next : goal.returns-in-None-clause-next
returns-in-None-clause-next c =
    if-ok _ _ c.next_from_clock.result
    (λ next e. e ∙ lwps-past c.args.until c.args.self.now c.args.after
    (c.in-None.ensures ∙ ap (λ (s : SeatsState). next_of true s.kernel.state.system c.args.after) c.self.view_is))
    c.next_from_clock.ensures.next
