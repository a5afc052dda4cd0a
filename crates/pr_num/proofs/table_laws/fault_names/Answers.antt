use Rattle.pr_num.proofs.EntryLemmas.{fault_of_name-name, fault_name-of_name, fault_name-none}
use Rattle.pr_num.proofs.table_laws.fault_names.Goals as goal

pub returns : goal.returns
returns c = record {
  back = fault_of_name-name c.args.fault;
  only = fault_name-of_name;
  none = fault_name-none;
}
