use Rattle.pr_num.proofs.EntryLemmas.{signal_of_number-number, signal_number-of_number, signal_numbers-range}
use Rattle.pr_num.proofs.table_laws.signal_numbers.Goals as goal

pub returns : goal.returns
returns c = record {
  back = signal_of_number-number c.args.signal;
  only = signal_number-of_number;
  range = signal_numbers-range;
}
