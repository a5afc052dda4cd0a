use Rattle.std.proofs.Common.{refl, sym}
use Rattle.pr_truss.proofs.RecordLemmas.{lwp_found}
use Rattle.pr_truss.proofs.records.lwp_in.Goals as goal

pub returns-in-Ok-clause-value : goal.returns-in-Ok-clause-value
returns-in-Ok-clause-value c =
    sym (lwp_found c.args.bytes.now c.in-Ok.lwp ((c.in-Ok.ensures.encoded c.in-Ok.lwp).0 refl).0 c.in-Ok.ensures.ok)
