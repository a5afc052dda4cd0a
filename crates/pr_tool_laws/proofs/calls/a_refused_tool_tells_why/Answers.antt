use Rattle.pr_tool_laws.proofs.ToolCalls.CallLaw.{tool-tells-why}
use Rattle.pr_tool_laws.proofs.calls.a_refused_tool_tells_why.Goals as goal

pub returns : goal.returns
returns c = tool-tells-why
