use Rattle.pr_drive.proofs.ServeLemmas.{held-cut, held-whole}
use Rattle.pr_drive.proofs.serving.hold.Goals as goal

pub returns-in-Ok : goal.returns-in-Ok
returns-in-Ok g c =
    held-whole c.args.showing _ _ c.in-Ok.status c.in-Ok.ensures.told c.in-Ok.ensures.faults.no_read_fault
    c.in-Ok.ensures.faults.no_write_fault

pub returns-in-Err : goal.returns-in-Err
returns-in-Err g c =
    held-cut c.args.showing _ _ c.in-Err.cut c.status_of.result c.status_of.ensures c.in-Err.ensures.cut
    c.in-Err.ensures.unended c.in-Err.ensures.faults.unread c.in-Err.ensures.faults.unwritten
    c.in-Err.ensures.faults.no_read_fault c.in-Err.ensures.faults.no_write_fault
