use Rattle.pr_scen.proofs.EncodingLemmas.{item_read, line_read}
use Rattle.pr_scen.proofs.TrussLemmas.{truss_line_read}
use Rattle.pr_scen.proofs.laws.lines_are_read_as_they_are_encoded.Goals as goal

pub returns-clause-outside : goal.returns-clause-outside
returns-clause-outside c = item_read

pub returns-clause-truss : goal.returns-clause-truss
returns-clause-truss c = truss_line_read

pub returns-clause-in_scripts : goal.returns-clause-in_scripts
returns-clause-in_scripts c = line_read
