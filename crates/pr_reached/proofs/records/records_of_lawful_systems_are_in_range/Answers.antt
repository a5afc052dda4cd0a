use Rattle.pr_reached.proofs.RecordsInRange.EntryRanges.{records-range}
use Rattle.pr_reached.proofs.records.records_of_lawful_systems_are_in_range.Goals as goal

pub returns : goal.returns
returns c = records-range
