use Rattle.std.proofs.Common.{refl}
use Rattle.pr_rec.specs.RecordBytes.{psinfo_bytes, lstatus_bytes, sigact_bytes, map_bytes}
use Rattle.pr_core.specs.CoreBytes.{encoded}
use Rattle.pr_core.proofs.laws.sections_are_records.Goals as goal

pub returns : goal.returns
unfolding encoded psinfo_bytes lstatus_bytes sigact_bytes map_bytes
returns c core = refl
