use Rattle.pr_num.proofs.EntryLemmas.{fault_of_number-number, fault_number-of_number, fault_numbers-range}
use Rattle.pr_num.proofs.table_laws.fault_numbers.Goals as goal

pub returns : goal.returns
returns c = record {
  back = fault_of_number-number c.args.fault;
  only = fault_number-of_number;
  range = fault_numbers-range;
}
