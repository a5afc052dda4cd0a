use Rattle.pr_tool_laws.proofs.ToolCalls.CallLaw.{tool-makes-calls}
use Rattle.pr_tool_laws.proofs.calls.tools_make_their_own_calls.Goals as goal

pub returns : goal.returns
returns c = tool-makes-calls
