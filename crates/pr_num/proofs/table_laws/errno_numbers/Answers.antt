use Rattle.pr_num.proofs.EntryLemmas.{errno_of_number-number, errno_number-of_number, errno_number-none}
use Rattle.pr_num.proofs.table_laws.errno_numbers.Goals as goal

pub returns : goal.returns
returns c = record {
  back = errno_of_number-number c.args.errno;
  only = errno_number-of_number;
  none = errno_number-none;
}
