use Rattle.pr_model.specs.FirstState.{first_state}
use Rattle.pr_tool_laws.proofs.Pstack.StackLaw.{shows-one-stack}
use Rattle.pr_tool_laws.proofs.stacks.pstack_shows_one_state.Goals as goal
use Rattle.pr_reached.proofs.Together.FirstRanges.{first-stays}

pub returns : goal.returns
returns c = record {
  later = shows-one-stack;
  first = λ programs files spawns controllers n k pid h t labels first run ends ended accepted.
      shows-one-stack controllers n k pid (first_state programs files spawns) h t labels
      (first-stays programs files spawns h first) run ends ended accepted;
}
