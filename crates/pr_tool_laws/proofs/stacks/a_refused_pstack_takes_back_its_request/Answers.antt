use Rattle.pr_tool_laws.proofs.RunningAgain.RequestLemmas.{takes-back}
use Rattle.pr_tool_laws.proofs.stacks.a_refused_pstack_takes_back_its_request.Goals as goal

pub returns : goal.returns
returns c =
    λ controllers n k pid s h t run ends ended was. takes-back n k pid s controllers h t run ends ended was
