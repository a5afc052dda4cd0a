use Rattle.pr_model.specs.FirstState.{first_state}
use Rattle.pr_tool_laws.proofs.RunningAgain.RunAgainLemmas.{runs-again}
use Rattle.pr_tool_laws.proofs.stacks.pstack_runs_its_process_again.Goals as goal
use Rattle.pr_reached.proofs.Together.FirstRanges.{first-stays}

pub returns : goal.returns
returns c = record {
  later = runs-again;
  first = λ programs files spawns controllers n k pid h t first run ends ended accepted.
      runs-again controllers n k pid (first_state programs files spawns) h t
      (first-stays programs files spawns h first) run ends ended accepted;
}
