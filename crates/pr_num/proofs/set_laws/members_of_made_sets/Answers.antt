use Rattle.pr_num.proofs.SetLemmas.{has_number-zero, has_number-union, has_number-common, has_number-minus, has_number-with, has_number-without, has_number-holdable}
use Rattle.pr_num.proofs.set_laws.members_of_made_sets.Goals as goal

pub returns : goal.returns
returns c = record {
  empty = has_number-zero;
  union = has_number-union;
  common = has_number-common;
  minus = has_number-minus;
  added = has_number-with;
  taken_out = has_number-without;
  holdable = has_number-holdable;
}
