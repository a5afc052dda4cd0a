use Rattle.pr_kern.proofs.ReadyLemmas.{turn-follows}
use Rattle.pr_kern.proofs.turns.any_turn.Goals as goal

pub returns-clause-looks : goal.returns-clause-looks
returns-clause-looks c =
    turn-follows _ _ _ _ _ _ _ c.requires.lawful c.in_ok-turned.ensures.ok c.around_lwp-around.ensures
    c.after_turn.ensures c.requires.looks
