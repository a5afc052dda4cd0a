use Rattle.pr_tool_laws.proofs.OwnFiles.NothingOpenLemmas.{tool-closes}
use Rattle.pr_tool_laws.proofs.handles.tools_that_have_finished_have_nothing_open.Goals as goal

pub returns : goal.returns
returns c =
    λ controllers n k kind pid s h t nothing run ends ended.
    tool-closes n k kind pid s controllers h t nothing run ends ended
