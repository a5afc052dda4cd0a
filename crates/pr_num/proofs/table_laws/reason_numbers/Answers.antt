use Rattle.pr_num.proofs.EntryLemmas.{reason_of_number-number, reason_number-of_number, reason_numbers-range}
use Rattle.pr_num.proofs.table_laws.reason_numbers.Goals as goal

pub returns : goal.returns
returns c = record {
  back = reason_of_number-number c.args.reason;
  only = reason_number-of_number;
  range = reason_numbers-range;
}
