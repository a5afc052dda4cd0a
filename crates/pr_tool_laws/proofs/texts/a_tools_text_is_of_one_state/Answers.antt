use Rattle.pr_tool_laws.proofs.Stages.LawLemmas.{tool-of-one-state}
use Rattle.pr_tool_laws.proofs.texts.a_tools_text_is_of_one_state.Goals as goal

pub returns : goal.returns
returns c = tool-of-one-state
