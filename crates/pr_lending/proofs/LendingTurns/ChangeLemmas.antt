use Rattle.std.proofs.Common.{◌≡◌, ◌⊎◌, ◌&&◌, ◌+◌, ℕ, Bool, true, false, eqb, is_some, cond, Option, Some, None, List, [], ◌∷◌, refl, sym, ◌∙◌, subst, inl, inr}
use Rattle.std.proofs.lemmas.Bool.{and_from, eq-eqb, false≢true}
use Rattle.std.proofs.lemmas.Option.{none-some}
use Rattle.pr_num.specs.ById.{inserted}
use Rattle.pr_num.specs.Control.{has_flags, async_mode}
use Rattle.pr_num.proofs.BoolLemmas.{either}
use Rattle.pr_model.specs.Changes.{Change, files_are, space_is, signals, signals_itself, takes_shared, job_stops, disposition_is, held_is, resumes, forks, reaps, becomes, makes_lwp, suspends, Ending, ends_process, ends_lwp, all_changed, changed, ended, with_disposition_of, with_fds, with_held, with_job_stop, with_shared_taken, with_space, with_suspended, resumed}
use Rattle.pr_lending.specs.Lending.{AreLending}
use Rattle.pr_model.specs.Lives.{new_lwp, with_new_lwp}
use Rattle.pr_model.specs.LwpTurns.{settled, with_counted}
use Rattle.pr_model.specs.Machines.{traced}
use Rattle.pr_model.specs.Moves.{Move, moved}
use Rattle.pr_model.specs.Points.{after_meeting, is_traced, stopped_at, with_others_directed, with_stop_at}
use Rattle.pr_model.specs.Readers.{borrower_at}
use Rattle.pr_model.specs.Rows.{Row}
use Rattle.pr_model.specs.Signals.{is_kill}
use Rattle.pr_model.specs.State.{TracedLwp, TracedProcess, TracedSystem, lwp_of, with_lwp, with_lwp_of, with_process}
use Rattle.pr_model.specs.Stops.{with_all_directed}
use Rattle.pr_model.specs.Transitions.{Transition, after_transition, ended_if}
use Rattle.pr_model.specs.declared.stops.Point.{Point}
use Rattle.pr_lending.proofs.ProcessLoans.BirthLemmas.{IsNextFree, lending-born}
use Rattle.pr_lending.proofs.ProcessLoans.LifeLemmas.{IsOwner, lending-begun, lending-ended, lending-generated, lwp_ended-lends, owner-kept, owner-signalled, stands-kept}
use Rattle.pr_lending.proofs.ProcessLoans.LoanLemmas.{alike-loans, IsZombie, KeepsLoans, SameLoans, borrower-found, lending-kept, loans-next, process-kept, processes-same, reaped-kept, same-loans}
use Rattle.pr_lending.proofs.ProcessLoans.PassLemmas.{Stands}

-- What a turn of a process that has lent nothing changes leaves memory lent in order: a line a kind of change.

-- ---- one process, changed in its place

-- a change of one process that is none of what it lends, borrows and has mapped, nor of its end
pub unlent : (f : TracedProcess → TracedProcess) → ((z : TracedProcess) → SameLoans z (f z)) → (s : TracedSystem)
    (pid : ℕ) → KeepsLoans s (with_process pid f s)
unlent f same s pid = process-kept s pid f (λ z found. same z)

pub lwp-same : (id : ℕ) (f : TracedLwp → TracedLwp) (z : TracedProcess) → SameLoans z (with_lwp id f z)
unfolding with_lwp
lwp-same id f z = alike-loans _ _ refl refl refl refl

new_lwp-same : (new : ℕ) (regs : List ℕ) (held : ℕ) (z : TracedProcess)
    → SameLoans z (with_new_lwp traced new regs held z)
unfolding with_new_lwp
new_lwp-same new regs held z =
    either (SameLoans z) (is_some (lwp_of z new)) z
    (record z { next_lwp = new + 1; lwps = inserted new (new_lwp traced regs held (traced.marks false)) z.lwps })
    (same-loans z)
    (alike-loans _ _ refl refl refl refl)

-- its memory, where it has lent nothing
space-kept : (s : TracedSystem) (pid : ℕ) (f : TracedProcess → TracedProcess) → borrower_at s pid ≡ None
    → ((z : TracedProcess) → (f z).borrower ≡ z.borrower) → ((z : TracedProcess) → (f z).lender ≡ z.lender)
    → ((z : TracedProcess) → (f z).ended ≡ z.ended) → KeepsLoans s (with_process pid f s)
space-kept s pid f own borrower lender over =
    process-kept s pid f (λ z found. record {
      borrower = borrower z;
      lender = lender z;
      ended = over z;
      space = λ child is. absurd (none-some child (sym own ∙ borrower-found s pid z found ∙ is));
    })

-- ---- changes

module _ (pid : ℕ) (p : TracedProcess) (id : ℕ) (l : TracedLwp) where
  -- A change suits a system, with those that follow it: who makes a child or runs another program does nothing after
  -- it, the child gets an id that is free, the process is as is said where it runs another program, and what is reaped
  -- is a zombie.
  abbrev pub SuitsChange : List Change → TracedSystem → Change → Type 0
  SuitsChange cs s (forks birth args) = IsNextFree s pid × (cs ≡ [])
  SuitsChange cs s (becomes program) = Stands s pid p × (cs ≡ [])
  SuitsChange cs s (reaps child) = IsZombie s child
  SuitsChange cs s _ = Unit {0}

  -- changes one after another, each in the system that it finds
  abbrev pub SuitChanges : TracedSystem → List Change → Type 0
  SuitChanges s [] = Unit {0}
  SuitChanges s (c ∷ cs) = SuitsChange cs s c × SuitChanges (changed traced pid p id l c s) cs

  -- Memory is lent in order then, and the process has lent nothing still, or nothing follows.
  record IsOrderly (cs : List Change) (s : TracedSystem) : Type 0 where
    lending : AreLending s
    goes_on : (cs ≡ []) ⊎ IsOwner s pid

  orderly-kept : (cs : List Change) (s t : TracedSystem) → AreLending s → IsOwner s pid → KeepsLoans s t
      → IsOrderly cs t
  orderly-kept cs s t h o k = record { lending = lending-kept s t k h; goes_on = inr (owner-kept s t pid k o) }

  -- a change, or nothing
  unless : (cs : List Change) (b : Bool) (s t : TracedSystem) → AreLending s → IsOwner s pid
      → (b ≡ false → IsOrderly cs t) → IsOrderly cs (cond b s t)
  unless cs true s t h o other = record { lending = h; goes_on = inr o }
  unless cs false s t h o other = other refl

  changed-lends : (cs : List Change) (c : Change) (s : TracedSystem) → AreLending s → IsOwner s pid
      → SuitsChange cs s c → IsOrderly cs (changed traced pid p id l c s)
  unfolding changed with_fds with_space with_shared_taken with_job_stop with_disposition_of
  changed-lends cs (files_are files fds) s h o suits =
      orderly-kept cs s _ h o
      (loans-next s (record s { files = files }) _ (processes-same s (record s { files = files }) refl)
      (unlent (with_fds fds) (λ z. alike-loans _ _ refl refl refl refl)
      (record s { files = files }) pid))
  changed-lends cs (space_is space) s h o suits =
      orderly-kept cs s _ h o (space-kept s pid (with_space space) o.own (λ z. refl) (λ z. refl) (λ z. refl))
  changed-lends cs (signals target g info) s h o suits =
      unless cs (is_kill g && eqb target pid) s _ h o
      (λ other. record {
        lending = lending-generated s target None g info h;
        goes_on =
            inr (owner-signalled s target None g info pid h
            (λ kill same.
            false≢true (sym other ∙ and_from (is_kill g) (eqb target pid) kill (eq-eqb target pid same))) o);
      })
  changed-lends cs (signals_itself g info) s h o suits =
      unless cs (is_kill g) s _ h o
      (λ other. record {
        lending = lending-generated s pid (Some id) g info h;
        goes_on =
            inr (owner-signalled s pid (Some id) g info pid h (λ kill. absurd (false≢true (sym other ∙ kill))) o);
      })
  changed-lends cs (takes_shared g) s h o suits =
      orderly-kept cs s _ h o
      (unlent (with_shared_taken g)
      (λ z. alike-loans _ _ refl refl refl refl) s pid)
  changed-lends cs (job_stops g) s h o suits =
      orderly-kept cs s _ h o
      (unlent (with_job_stop g) (λ z. alike-loans _ _ refl refl refl refl)
      s pid)
  changed-lends cs (disposition_is g d) s h o suits =
      orderly-kept cs s _ h o
      (unlent (with_disposition_of g d)
      (λ z. alike-loans _ _ refl refl refl refl) s pid)
  changed-lends cs (held_is held) s h o suits =
      orderly-kept cs s _ h o (unlent (with_lwp id (with_held held)) (lwp-same id (with_held held)) s pid)
  changed-lends cs (resumes frame frames) s h o suits =
      orderly-kept cs s _ h o (unlent (with_lwp id (resumed frame frames)) (lwp-same id (resumed frame frames)) s pid)
  changed-lends cs (forks birth args) s h o suits =
      unless cs (eqb s.made pid) s _ h o
      (λ other. record { lending = lending-born s pid p l args h o suits.0 birth; goes_on = inl suits.1 })
  changed-lends cs (reaps child) s h o suits =
      unless cs (eqb child pid) s _ h o (λ other. orderly-kept cs s _ h o (reaped-kept s child h suits))
  changed-lends cs (becomes program) s h o suits = record {
    lending = lending-begun s pid p id l program h suits.0 o;
    goes_on = inl suits.1;
  }
  changed-lends cs (makes_lwp new regs held) s h o suits =
      orderly-kept cs s _ h o (unlent (with_new_lwp traced new regs held) (new_lwp-same new regs held) s pid)
  changed-lends cs (suspends other suspended) s h o suits =
      orderly-kept cs s _ h o
      (unlent (with_lwp other (with_suspended suspended)) (lwp-same other (with_suspended suspended)) s pid)

  pub all_changed-lends : (cs : List Change) (s : TracedSystem) → AreLending s → IsOwner s pid → SuitChanges s cs
      → AreLending (all_changed traced pid p id l cs s)
  unfolding all_changed
  all_changed-lends [] s h o suits = h
  all_changed-lends (c ∷ cs) s h o suits =
      let first = changed-lends cs c s h o suits.0 in
      let then = changed traced pid p id l c s in
      and_then cs then first (λ own. all_changed-lends cs then first.lending own suits.1)
    where
      and_then : (cs : List Change) (t : TracedSystem) → IsOrderly cs t
          → (IsOwner t pid → AreLending (all_changed traced pid p id l cs t))
          → AreLending (all_changed traced pid p id l cs t)
      and_then cs t first rest =
          elim first.goes_on [
            | inl last ↦
                subst (λ (ds : List Change). AreLending (all_changed traced pid p id l ds t)) (sym last) first.lending
            | inr own ↦ rest own
          ]

  -- ---- the move, and the end

  pub moved-kept : (m : Move) (s : TracedSystem) → KeepsLoans s (with_lwp_of pid id (moved traced m) s)
  unfolding with_lwp_of
  moved-kept m s = unlent (with_lwp id (moved traced m)) (lwp-same id (moved traced m)) s pid

  ending-lends : (how : Ending) (s : TracedSystem) → AreLending s → Stands s pid p
      → AreLending (ended traced pid p id how s)
  unfolding ended
  ending-lends (ends_process status) s h stands = lending-ended s pid p status h stands
  ending-lends ends_lwp s h stands = lwp_ended-lends s pid p id h stands

  -- what ends its lwp or its process does nothing else
  pub record SuitsTransition (s : TracedSystem) (t : Transition) : Type 0 where
    pub changes : SuitChanges s t.changes
    pub alone : (how : Ending) → t.ending ≡ Some how → t.changes ≡ []

  pub transition-lends : (s : TracedSystem) (t : Transition) → AreLending s → IsOwner s pid → Stands s pid p
      → SuitsTransition s t → AreLending (after_transition traced pid p id l t s)
  unfolding after_transition all_changed
  transition-lends s t h o stands suits = by t.ending refl
    where
      to : TracedSystem
      to = with_lwp_of pid id (moved traced t.move) (all_changed traced pid p id l t.changes s)

      lending : AreLending to
      lending =
          lending-kept (all_changed traced pid p id l t.changes s) to
          (moved-kept t.move (all_changed traced pid p id l t.changes s))
          (all_changed-lends t.changes s h o suits.changes)

      stands_still : (how : Ending) → t.ending ≡ Some how → Stands to pid p
      stands_still how is =
          stands-kept (all_changed traced pid p id l t.changes s) to pid p
          (moved-kept t.move (all_changed traced pid p id l t.changes s))
          (subst (λ (cs : List Change). Stands (all_changed traced pid p id l cs s) pid p) (sym (suits.alone how is))
          stands)

      by : (o : Option Ending) → t.ending ≡ o → AreLending (ended_if traced pid p id l o to)
      by None is = lending
      by (Some how) is = ending-lends how to lending (stands_still how is)

-- ---- counts and stops

counted-kept : (s : TracedSystem) (pid : ℕ) (row : Row)
    → KeepsLoans s (with_process pid (with_counted row.did row.begun) s)
unfolding with_counted
counted-kept s pid row =
    unlent (with_counted row.did row.begun)
    (λ z. alike-loans _ _ refl refl refl refl) s pid

meeting-same : (point : Option Point) (id : ℕ) (z : TracedProcess) → SameLoans z (after_meeting point id z)
unfolding after_meeting with_stop_at with_others_directed with_all_directed with_lwp
meeting-same None id z = same-loans z
meeting-same (Some point) id z =
    let at = with_lwp id (stopped_at point) z in
    let async = has_flags at.control.modes async_mode in
    either (SameLoans z) (is_traced z.control point) (cond async at (with_all_directed at)) z
    (either (SameLoans z) async at (with_all_directed at)
    (alike-loans _ _ refl refl refl refl)
    (alike-loans _ _ refl refl refl refl))
    (same-loans z)

-- what follows a transition
pub settled-lends : (s : TracedSystem) (pid : ℕ) (p : TracedProcess) (id : ℕ) (l : TracedLwp) (row : Row)
    → AreLending (after_transition traced pid p id l row.transition s) → AreLending (settled s pid p id l row).system
unfolding settled
settled-lends s pid p id l row h =
    let to = after_transition traced pid p id l row.transition s in
    let counts = with_process pid (with_counted row.did row.begun) to in
    lending-kept counts (with_process pid (after_meeting row.point id) counts)
    (unlent (after_meeting row.point id) (meeting-same row.point id) counts pid)
    (lending-kept to counts (counted-kept to pid row) h)
