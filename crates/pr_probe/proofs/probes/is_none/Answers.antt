use Rattle.std.proofs.Common.{sym}
use Rattle.pr_probe.proofs.StatusLemmas.{errno-not-zero}
use Rattle.pr_probe.proofs.probes.is_none.Goals as goal

pub returns-in-Some : goal.returns-in-Some
returns-in-Some c = rw c.in-Some.is (sym (errno-not-zero c.in-Some.field-0))
