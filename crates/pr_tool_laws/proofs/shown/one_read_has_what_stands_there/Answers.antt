use Rattle.pr_tool_laws.proofs.Records.WholeLemmas.{all-read}
use Rattle.pr_tool_laws.proofs.shown.one_read_has_what_stands_there.Goals as goal

pub returns : goal.returns
returns c = λ kind pid s once lawful ranged. all-read pid s lawful ranged kind once
