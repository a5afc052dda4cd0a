use Rattle.pr_ready.proofs.LookLemmas.{but-next}
use Rattle.pr_ready.proofs.looks.renew.Goals as goal

pub returns-clause-grows : goal.returns-clause-grows
returns-clause-grows g c = but-next c.args.pid _ _ _ c.forget.ensures c.look.ensures.grows
