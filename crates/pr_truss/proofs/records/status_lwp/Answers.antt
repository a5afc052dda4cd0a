use Rattle.std.proofs.Common.{refl, sym}
use Rattle.pr_truss.proofs.RecordLemmas.{status_found}
use Rattle.pr_truss.proofs.records.status_lwp.Goals as goal

pub returns-in-Ok : goal.returns-in-Ok
returns-in-Ok c =
    sym (status_found c.args.bytes.now c.in-Ok.status
    ((c.in-Ok.ensures.encoded c.in-Ok.status).0 refl).0 c.in-Ok.ensures.ok)
