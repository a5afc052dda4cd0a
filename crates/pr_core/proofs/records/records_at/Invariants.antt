use Rattle.std.proofs.Common.{All}
use Rattle.pr_core.proofs.RecordsLemmas.{AreRead}
use Rattle.pr_core.proofs.records.records_at.Given as goal

abbrev pub invariant-loop-place : goal.invariant-loop-place
invariant-loop-place g l = record {
  read : AreRead g.R.Entry.words g.R.Entry.ranges l.bytes l.count l.at l.place l.records;
  ranged : All g.R.Entry.is_ranged l.records;
}
