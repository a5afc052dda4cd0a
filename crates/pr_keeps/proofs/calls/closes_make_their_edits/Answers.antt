use Rattle.pr_keeps.proofs.CallLemmas.{close-edit}
use Rattle.pr_keeps.proofs.calls.closes_make_their_edits.Goals as goal

pub returns : goal.returns
returns c = close-edit
