use Rattle.std.proofs.Common.{◌∙◌, ap, subst, sym}
use Rattle.pr_drive.specs.Going.{NoneCanMove, SomeCanMove}
use Rattle.pr_drive.specs.Rounds.{RoundsState}
use Rattle.pr_drive.proofs.RoundLemmas.{no-can, some-can}
use Rattle.pr_drive.proofs.rounds.Rounds.some_can_move.Goals as goal

pub returns-clause-some : goal.returns-clause-some
returns-clause-some c = λ h.
    subst (SomeCanMove 0) (ap (λ (r : RoundsState). r.seats) c.self.view_is)
    (some-can c.self.inside.seats c.in_ok-next.next c.in_ok-next.ensures.next (sym c.is_some.ensures ∙ h))

pub returns-clause-none : goal.returns-clause-none
returns-clause-none c = λ h.
    subst (NoneCanMove 0) (ap (λ (r : RoundsState). r.seats) c.self.view_is)
    (no-can c.self.inside.seats c.in_ok-next.next c.in_ok-next.ensures.next (sym c.is_some.ensures ∙ h))
