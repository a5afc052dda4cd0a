use Rattle.pr_hist.proofs.PartLaws.{selected_text-left_out, selected_text-none, selected_text-told}
use Rattle.pr_hist.proofs.laws.a_part_grows_by_the_blocks_that_are_told.Goals as goal

pub returns-clause-none : goal.returns-clause-none
returns-clause-none c = selected_text-none

pub returns-clause-told : goal.returns-clause-told
returns-clause-told c = selected_text-told

pub returns-clause-left_out : goal.returns-clause-left_out
returns-clause-left_out c = selected_text-left_out
