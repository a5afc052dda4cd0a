use Rattle.pr_num.proofs.EntryLemmas.{errno_of_name-name, errno_name-of_name, errno_name-none}
use Rattle.pr_num.proofs.table_laws.errno_names.Goals as goal

pub returns : goal.returns
returns c = record {
  back = errno_of_name-name c.args.errno;
  only = errno_name-of_name;
  none = errno_name-none;
}
