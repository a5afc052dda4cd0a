use Rattle.pr_model.specs.FirstState.{first_state}
use Rattle.pr_tool_laws.proofs.Records.WholeLemmas.{tool-shows}
use Rattle.pr_tool_laws.proofs.shown.tools_show_what_stands_there.Goals as goal
use Rattle.pr_reached.proofs.Together.FirstRanges.{first-stays}

pub returns : goal.returns
returns c = record {
  later = tool-shows;
  first = λ programs files spawns controllers n k kind pid h t labels first once run ends ended accepted.
      tool-shows controllers n k kind pid (first_state programs files spawns) h t labels
      (first-stays programs files spawns h first) once run ends ended accepted;
}
