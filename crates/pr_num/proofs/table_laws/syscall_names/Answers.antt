use Rattle.pr_num.proofs.EntryLemmas.{syscall_of_name-name, syscall_name-of_name, syscall_name-none}
use Rattle.pr_num.proofs.table_laws.syscall_names.Goals as goal

pub returns : goal.returns
returns c = record {
  back = syscall_of_name-name c.args.syscall;
  only = syscall_name-of_name;
  none = syscall_name-none;
}
