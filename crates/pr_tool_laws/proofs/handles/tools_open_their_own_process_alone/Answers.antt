use Rattle.pr_tool_laws.proofs.OwnFiles.HandleLemmas.{tool-holds}
use Rattle.pr_tool_laws.proofs.handles.tools_open_their_own_process_alone.Goals as goal

pub returns : goal.returns
returns c =
    λ controllers n k kind pid s h t nothing run ends. tool-holds n k kind pid s controllers h t nothing run ends
