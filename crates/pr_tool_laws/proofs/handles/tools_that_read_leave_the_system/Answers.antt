use Rattle.pr_tool_laws.proofs.ReadsOnlyLemmas.{tool-leaves}
use Rattle.pr_tool_laws.proofs.handles.tools_that_read_leave_the_system.Goals as goal

pub returns : goal.returns
returns c =
    λ controllers n k kind pid s h t nothing once run ends.
    tool-leaves n k kind pid once s controllers h t nothing run ends
