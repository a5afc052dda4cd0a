use Rattle.std.proofs.Common.{◌∙◌, ap, length, subst}
use Rattle.pr_drive.specs.Going.{MovesIf}
use Rattle.pr_drive.specs.Rounds.{RoundsState}
use Rattle.pr_drive.specs.declared.sessions.Session.TheInside.{Inside}
use Rattle.pr_drive.proofs.EntryLemmas.{on-ok}
use Rattle.pr_drive.proofs.SessionLemmas.{one-told}
use Rattle.pr_drive.proofs.sessions.Session.move_one.Goals as goal

pub returns-then-moved : goal.returns-then-moved
returns-then-moved c =
    let same = ap (λ (i : Inside). i.rounds) c.self-inside.view_is ∙ c.self.view_is in
    on-ok _ _ c.tell_moves.result
    (one-told c.args.actor c.in_ok-moved.moved c.args.self.now _ c.entries-from.result _ _ c.if-moved.true
    (c.entries-from.ensures.value ∙ ap (λ (r : RoundsState). length r.seats.kernel.history) same)
    (ap (λ (r : RoundsState). r.place) same)
    (subst (λ (r : RoundsState). MovesIf c.in_ok-moved.moved 0 c.args.actor r.seats c.move_actor.new.self) same
    c.in_ok-moved.ensures))
    c.tell_moves.ensures
