use Rattle.pr_tool_laws.proofs.Records.ReadTextLemmas.{read-back}
use Rattle.pr_tool_laws.proofs.texts.what_is_read_back_is_what_stands_there.Goals as goal

pub returns : goal.returns
returns c = read-back
