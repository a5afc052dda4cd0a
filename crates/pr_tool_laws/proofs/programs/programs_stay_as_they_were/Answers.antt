use Rattle.pr_tool_laws.proofs.ProgramLemmas.{first-same, history-same}
use Rattle.pr_tool_laws.proofs.programs.programs_stay_as_they_were.Goals as goal

pub returns : goal.returns
returns c = record { later = history-same; first = first-same }
