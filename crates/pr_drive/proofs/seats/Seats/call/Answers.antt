use Rattle.pr_drive.proofs.EntryLemmas.{on-ok}
use Rattle.pr_drive.proofs.MoveLemmas.{from-outside}
use Rattle.pr_drive.proofs.seats.Seats.call.Goals as goal

pub returns : goal.returns
returns c =
    on-ok _ _ c.call.result
    (from-outside c.args.self.now _ _ c.self.view_is c.args.call c.call.new.self c.outside-outside.result
    c.outside-outside.ensures.number c.requires.place)
    c.call.ensures.ok
