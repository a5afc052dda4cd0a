use Rattle.pr_hist.proofs.PartLaws.{rows_from-left_out, rows_from-none, rows_from-told, rows_of-counted, rows_text-left_out, rows_text-none, rows_text-told}
use Rattle.pr_hist.proofs.laws.a_chart_grows_by_the_rows_that_are_told.Goals as goal

pub returns-clause-none : goal.returns-clause-none
returns-clause-none c = rows_text-none

pub returns-clause-told : goal.returns-clause-told
returns-clause-told c = rows_text-told

pub returns-clause-left_out : goal.returns-clause-left_out
returns-clause-left_out c = rows_text-left_out

pub returns-clause-no_row : goal.returns-clause-no_row
returns-clause-no_row c = rows_from-none

pub returns-clause-one_row_more : goal.returns-clause-one_row_more
returns-clause-one_row_more c = rows_from-told

pub returns-clause-no_row_more : goal.returns-clause-no_row_more
returns-clause-no_row_more c = rows_from-left_out

pub returns-clause-counted : goal.returns-clause-counted
returns-clause-counted c = rows_of-counted
