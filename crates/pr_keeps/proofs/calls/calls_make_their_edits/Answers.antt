use Rattle.pr_keeps.proofs.CallLemmas.{call-edit}
use Rattle.pr_keeps.proofs.calls.calls_make_their_edits.Goals as goal

pub returns : goal.returns
returns c = call-edit
