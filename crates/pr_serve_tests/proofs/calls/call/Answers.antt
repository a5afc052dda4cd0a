use Rattle.pr_serve_tests.proofs.KeptLemmas.{left-legal}
use Rattle.pr_serve_tests.proofs.calls.call.Goals as goal

pub returns : goal.returns
returns g c s read = left-legal _ _ _ _ s c.serve.ensures.kept read
