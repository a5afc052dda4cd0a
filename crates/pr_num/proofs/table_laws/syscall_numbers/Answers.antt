use Rattle.pr_num.proofs.EntryLemmas.{syscall_of_number-number, syscall_number-of_number, syscall_numbers-range}
use Rattle.pr_num.proofs.table_laws.syscall_numbers.Goals as goal

pub returns : goal.returns
returns c = record {
  back = syscall_of_number-number c.args.syscall;
  only = syscall_number-of_number;
  range = syscall_numbers-range;
}
