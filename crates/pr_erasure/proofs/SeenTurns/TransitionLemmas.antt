use Rattle.std.proofs.Common.{◌≡◌, ℕ, Option, Some, None, refl, sym, subst, ◌∙◌, ap}
use Rattle.std.proofs.lemmas.Option.{same_Some}
use Rattle.pr_model.specs.Changes.{Ending, all_changed}
use Rattle.pr_model.specs.Erasure.{uncontrolled_lwp, uncontrolled_system, erased_lwp, erased_process, erased_system}
use Rattle.pr_model.specs.LwpTurns.{with_counted, settled}
use Rattle.pr_model.specs.Machines.{traced, untraced}
use Rattle.pr_model.specs.Moves.{Move, moved, stops}
use Rattle.pr_model.specs.Points.{after_meeting}
use Rattle.pr_model.specs.Rows.{Row, requested_row}
use Rattle.pr_model.specs.State.{TracedLwp, TracedProcess, TracedSystem, lwp_of, with_process, with_lwp, with_lwp_of}
use Rattle.pr_model.specs.Transitions.{Transition, ended_if, after_transition, requested}
use Rattle.pr_model.specs.declared.lwps.Phase.{Phase}
use Rattle.pr_erasure.specs.Suiting.{Fits, IsThere, Suits}
use Rattle.pr_erasure.proofs.SeenParts.BareLemmas.{same-system}
use Rattle.pr_erasure.proofs.SeenParts.ChangeLemmas.{all_changed-erased, ended-erased}
use Rattle.pr_erasure.proofs.SeenParts.MoveLemmas.{moved-erased}
use Rattle.pr_erasure.proofs.SeenTurns.PointLemmas.{after_meeting-hidden, with_counted-hidden}
use Rattle.pr_erasure.proofs.SeenTurns.StandingLemmas.{Stands, stands-all}
use Rattle.pr_erasure.proofs.SeenParts.StateLemmas.{with_process-erased, with_process-hidden, with_lwp-erased, with_lwp-hidden}

-- A turn, as programs see it: its transition is the same transition of the untraced machine.

move-erased : (pid id : ℕ) (phase : Phase) (move : Move) (s : TracedSystem) → Fits move phase → Stands pid id phase s
    → erased_system (with_lwp_of pid id (moved traced move) s) ≡ with_lwp_of pid id (moved untraced move)
    (erased_system s)
unfolding with_lwp_of
move-erased pid id phase move s fits st =
    with_process-erased s pid (with_lwp id (moved traced move)) (with_lwp id (moved untraced move)) (λ x found.
    with_lwp-erased x id (moved traced move) (moved untraced move) (λ y there.
    let same_process : st.process ≡ x = same_Some _ _ (sym st.found ∙ found) in
    let same_lwp : st.lwp ≡ y = same_Some _ _ (sym st.there ∙ ap (λ q. lwp_of q id) same_process ∙ there) in
    moved-erased move y (subst (Fits move) (sym st.same ∙ ap (λ m. m.phase) same_lwp) fits)))

pub transition-erased : (s : TracedSystem) (pid : ℕ) (p : TracedProcess) (id : ℕ) (l : TracedLwp)
    → IsThere s pid p id l → (t : Transition) → Suits t l.phase
    → erased_system (after_transition traced pid p id l t s) ≡ after_transition untraced pid (erased_process p) id
    (erased_lwp l) t (erased_system s)
unfolding after_transition
transition-erased s pid p id l here t suits =
    let st =
    stands-all pid id l.phase p l refl t.changes s (record {
      process = p;
      lwp = l;
      found = here.found;
      there = here.there;
      same = refl;
    }) in
    let to = with_lwp_of pid id (moved traced t.move) (all_changed traced pid p id l t.changes s) in
    by t.ending to
    ∙ ap (ended_if untraced pid (erased_process p) id (erased_lwp l) t.ending)
    (move-erased pid id l.phase t.move (all_changed traced pid p id l t.changes s) suits.fits st
    ∙ ap (with_lwp_of pid id (moved untraced t.move)) (all_changed-erased pid p id l t.changes suits.sent s))
  where
    by : (ending : Option Ending) (to : TracedSystem)
        → erased_system (ended_if traced pid p id l ending to) ≡ ended_if untraced pid (erased_process p) id
        (erased_lwp l) ending (erased_system to)
    by None to = refl
    by (Some how) to = ended-erased pid p id l how to

-- ---- a turn

-- counts and stops are hidden
settled-bare : (s : TracedSystem) (pid : ℕ) (p : TracedProcess) (id : ℕ) (l : TracedLwp) (row : Row)
    → uncontrolled_system (settled s pid p id l row).system ≡ uncontrolled_system
    (after_transition traced pid p id l row.transition s)
unfolding settled
settled-bare s pid p id l row =
    with_process-hidden
    (with_process pid (with_counted row.did row.begun) (after_transition traced pid p id l row.transition s)) pid
    (after_meeting row.point id) (after_meeting-hidden row.point id)
    ∙ with_process-hidden (after_transition traced pid p id l row.transition s) pid (with_counted row.did row.begun)
    (with_counted-hidden row.did row.begun)

-- so that programs see its transition alone
pub settled-erased : (s : TracedSystem) (pid : ℕ) (p : TracedProcess) (id : ℕ) (l : TracedLwp) → IsThere s pid p id l
    → (row : Row) → Suits row.transition l.phase
    → erased_system (settled s pid p id l row).system ≡ after_transition untraced pid (erased_process p) id
    (erased_lwp l) row.transition (erased_system s)
settled-erased s pid p id l here row suits =
    same-system (settled s pid p id l row).system (after_transition traced pid p id l row.transition s)
    (settled-bare s pid p id l row)
    ∙ transition-erased s pid p id l here row.transition suits

-- an lwp that stops as directed, whatever else it might do
pub requested-bare : (s : TracedSystem) (pid : ℕ) (p : TracedProcess) (id : ℕ) (l : TracedLwp)
    → uncontrolled_system (settled s pid p id l requested_row).system ≡ uncontrolled_system s
unfolding uncontrolled_lwp requested_row requested after_transition with_lwp_of all_changed moved
requested-bare s pid p id l =
    settled-bare s pid p id l requested_row
    ∙ with_process-hidden s pid (with_lwp id (moved traced stops))
    (λ x. with_lwp-hidden x id (moved traced stops) (λ k. refl))

pub ruleset transitions = (transition-erased)
