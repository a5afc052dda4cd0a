use Rattle.pr_text.proofs.DivisionLemmas.{words_of-divides, words_of-only, words_of-inside, words_of-apart, words_of-covers}
use Rattle.pr_text.proofs.laws.a_line_is_its_words.Goals as goal

pub returns-clause-divides : goal.returns-clause-divides
returns-clause-divides c = words_of-divides

pub returns-clause-only : goal.returns-clause-only
returns-clause-only c = words_of-only

pub returns-clause-inside : goal.returns-clause-inside
returns-clause-inside c = words_of-inside

pub returns-clause-apart : goal.returns-clause-apart
returns-clause-apart c = words_of-apart

pub returns-clause-none_left_out : goal.returns-clause-none_left_out
returns-clause-none_left_out c = words_of-covers
