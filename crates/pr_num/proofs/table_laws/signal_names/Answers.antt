use Rattle.pr_num.proofs.EntryLemmas.{signal_of_name-name, signal_of_name-short, signal_name-of_name, signal_name-none}
use Rattle.pr_num.proofs.table_laws.signal_names.Goals as goal

pub returns : goal.returns
returns c = record {
  whole = signal_of_name-name c.args.signal;
  short = signal_of_name-short c.args.signal;
  only = signal_name-of_name;
  none = signal_name-none;
}
