use Rattle.pr_probe.proofs.UndoLemmas.{undone-kept}
use Rattle.pr_probe.proofs.laws.a_refused_probe_undoes_what_it_did.Goals as goal

pub returns : goal.returns
returns c s e rs ended = undone-kept s e rs ended
