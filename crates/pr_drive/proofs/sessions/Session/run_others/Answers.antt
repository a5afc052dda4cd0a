use Rattle.std.proofs.Common.{◌∙◌, ap, length}
use Rattle.pr_drive.specs.Rounds.{RoundsState}
use Rattle.pr_drive.specs.declared.sessions.Session.TheInside.{Inside}
use Rattle.pr_drive.proofs.EntryLemmas.{on-ok}
use Rattle.pr_drive.proofs.SessionLemmas.{run-told}
use Rattle.pr_drive.proofs.sessions.Session.run_others.Goals as goal

pub returns : goal.returns
returns c =
    let same = ap (λ (i : Inside). i.rounds) c.self-inside.view_is ∙ c.self.view_is in
    on-ok _ _ c.tell_moves.result
    (run-told c.args.self.now c.go_until_ready.new.self c.entries-from.result _ _
    (c.entries-from.ensures.value ∙ ap (λ (r : RoundsState). length r.seats.kernel.history) same)
    c.in_ok-go_until_ready.ensures)
    c.tell_moves.ensures
