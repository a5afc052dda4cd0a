use Rattle.std.proofs.Common.{rules, ◌≡◌, ◌∙◌, sym}
use Rattle.pr_judge.proofs.TurnLemmas.{turn-is}
use Rattle.pr_judge.proofs.turns.same_turn.Goals as goal

pub returns-then-one-other-clause-same : goal.returns-then-one-other-clause-same
returns-then-one-other-clause-same c same =
    let stop : c.args.one.stop ≡ c.args.other.stop = search rules in
    turn-is c.args.one c.args.other stop (sym c.same_did.ensures ∙ same)
