use Rattle.pr_turn.proofs.MoveLemmas.{executed-effect}
use Rattle.pr_turn.proofs.moving.execute_lwp.Goals as goal

pub returns-clause-effect : goal.returns-clause-effect
returns-clause-effect c = executed-effect _ _ _ _ c.in_ok-effect.ensures.lwp
