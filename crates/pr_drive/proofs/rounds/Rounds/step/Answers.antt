use Rattle.std.proofs.Common.{◌∙◌, sym}
use Rattle.pr_drive.proofs.RoundLemmas.{next-can, nobody-left, somebody-moved}
use Rattle.pr_drive.proofs.rounds.Rounds.step.Goals as goal

pub returns-in_default : goal.returns-in_default
returns-in_default c = nobody-left c.args.until c.args.self.now _ _ c.self.view_is
    (sym c.in_default.is ∙ c.in_ok-next.ensures.next)

pub turn-requires-clause-can : goal.turn-requires-clause-can
turn-requires-clause-can c =
    (c.args.until, next-can c.args.until _ _ c.in-Some.actor (sym c.in-Some.is ∙ c.in_ok-next.ensures.next))

pub returns : goal.returns
returns c =
    let next = sym c.in-Some.is ∙ c.in_ok-next.ensures.next in
    somebody-moved c.args.until c.args.self.now _ _ c.self.view_is c.in-Some.actor _ _ next
    (c.in_ok-turn.ensures c.args.until (next-can c.args.until _ _ c.in-Some.actor next))
    c.place_behind-self-inside.ensures
