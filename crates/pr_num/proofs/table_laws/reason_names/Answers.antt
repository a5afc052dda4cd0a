use Rattle.pr_num.proofs.EntryLemmas.{reason_of_name-name, reason_name-of_name, reason_name-none}
use Rattle.pr_num.proofs.table_laws.reason_names.Goals as goal

pub returns : goal.returns
returns c = record {
  back = reason_of_name-name c.args.reason;
  only = reason_name-of_name;
  none = reason_name-none;
}
