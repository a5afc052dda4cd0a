use Rattle.pr_tool_laws.proofs.ToolCalls.OnceLaw.{tool-reads-once}
use Rattle.pr_tool_laws.proofs.calls.a_tool_reads_once.Goals as goal

pub returns : goal.returns
returns c = tool-reads-once
