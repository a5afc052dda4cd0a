use Rattle.std.proofs.Common.{◌≡◌, ◌==◌, ◌<◌, ◌≤◌, ◌+◌, ℕ, true, is_some, None, Some, Option, List, [], ◌∷◌, refl, sym, ap, ◌∙◌, arith, inl, inr}
use Rattle.std.proofs.lemmas.Bool.{cases_Bool, eqb-false, eqb-true, false≢true}
use Rattle.std.proofs.lemmas.List.Elements.{All-cons, All-nil, All-weaker}
use Rattle.std.specs.List.{All}
use Rattle.pr_num.proofs.ByIdLaws.{All-under}
use Rattle.pr_num.proofs.ByIdLemmas.{rises_from-tail}
use Rattle.pr_num.specs.ById.{rises_from, under}
use Rattle.pr_num.specs.Programs.{Program}
use Rattle.pr_num.specs.declared.infos.Info.{Info}
use Rattle.pr_num.specs.declared.messages.Message.{Message}
use Rattle.pr_num.specs.declared.signals.Sig.{Sig}
use Rattle.pr_laws.proofs.RepresentativeLemmas.{ids-above}
use Rattle.pr_lawful.proofs.LawfulTurns.EndLemmas.{found-live}
use Rattle.pr_keeps.specs.ProcessEdits as process
use Rattle.pr_keeps.specs.ProcessEdits.{ProcessEdit}
use Rattle.pr_keeps.proofs.KeepsLemmas.{choice, process-edits-relate}
use Rattle.pr_lending.proofs.ProcessLoans.LifeLemmas.{signalled-same}
use Rattle.pr_model.specs.Changes.{ended, with_disposition_of, with_fds, with_job_stop, with_shared_taken, with_space}
use Rattle.pr_model.specs.Generation.{signalled}
use Rattle.pr_model.specs.Handles.{released}
use Rattle.pr_model.specs.Lawful.{IsLawfulSystem}
use Rattle.pr_model.specs.Legal.{IsLegalEntry, after}
use Rattle.pr_model.specs.Lives.{bare_process, is_id, lent_to, orphaned, with_lender_of, with_loan_back, with_new_lwp, with_program, without_lwp, zombie}
use Rattle.pr_model.specs.LwpTurns.{with_counted}
use Rattle.pr_model.specs.Machines.{traced}
use Rattle.pr_model.specs.Messages.{with_agent}
use Rattle.pr_model.specs.Rows.{Row, row_for}
use Rattle.pr_model.specs.State.{TracedLwp, TracedProcess, TracedState, TracedSystem, live_process, lwp_of, with_lwp}
use Rattle.pr_model.specs.declared.events.Act.{Act}
use Rattle.pr_model.specs.declared.events.Actor.{Actor}
use Rattle.pr_truss_laws.proofs.EventStops.OwnTurnLemmas.{meeting-same}
use Rattle.pr_keeps.proofs.KeptHistories.{AnyEntry, AnyState, KeepsEach, act-keeps}
use Rattle.pr_keeps.proofs.KeptProcesses.{KeepsProcesses, processes-keep, turns-keep}
use Rattle.pr_keeps.proofs.KeptSystems as step
use Rattle.pr_keeps.proofs.KeptSystems.{AnyLwp, ProcessStep, TurnStep, keeps-each}

-- A process that has borrowed its memory from nobody never does: a lender is given to a new process alone, and who has
-- one may get another.

-- ---- one process

-- one that lives in the place of another has no lender, where that had none
pub record BorrowsNoMore (x y : TracedProcess) : Type 0 where
  pub none : (x.ended ≡ None → x.lender ≡ None) → y.ended ≡ None → y.lender ≡ None

-- the same lender, and as live
no-more : (x y : TracedProcess) → y.ended ≡ x.ended → y.lender ≡ x.lender → BorrowsNoMore x y
no-more x y ended lender = record { none = λ was live. lender ∙ was (sym ended ∙ live) }

no-more-self : (x : TracedProcess) → BorrowsNoMore x x
no-more-self x = no-more x x refl refl

no-more-next : (x y z : TracedProcess) → BorrowsNoMore x y → BorrowsNoMore y z → BorrowsNoMore x z
no-more-next x y z one two = record { none = λ was live. two.none (λ alive. one.none was alive) live }

told-less : (target : Option ℕ) (g : Sig) (info : Info) (x : TracedProcess)
    → BorrowsNoMore x (signalled target g info x)
told-less target g info x = let same = signalled-same target g info x in no-more x _ same.ended same.lender

loan_back-less : (gone : ℕ) (p x : TracedProcess) → BorrowsNoMore x (with_loan_back gone p x)
unfolding with_loan_back
loan_back-less gone p x =
    choice (BorrowsNoMore x) (is_id gone x.borrower) _ _ (λ lent. no-more x _ refl refl) (λ other. no-more-self x)

-- who had no lender gets none by the end of another
lender_of-less : (gone : ℕ) (p x : TracedProcess) → BorrowsNoMore x (with_lender_of gone p x)
unfolding with_lender_of
lender_of-less gone p x =
    choice (BorrowsNoMore x) (is_id gone x.lender) _ _
    (λ lent. record { none = λ was live. absurd (false≢true (sym (ap (is_id gone) (was live)) ∙ lent)) })
    (λ other. no-more-self x)

zombie-less : (status : ℕ) (x : TracedProcess) → BorrowsNoMore x (zombie traced status x)
unfolding zombie bare_process
zombie-less status x = record { none = λ was live. refl }

orphaned-less : (gone : ℕ) (x : TracedProcess) → BorrowsNoMore x (orphaned gone x)
unfolding orphaned
orphaned-less gone x =
    choice (BorrowsNoMore x) (x.parent == gone) _ _ (λ own. no-more x _ refl refl) (λ other. no-more-self x)

program-less : (id : ℕ) (l : TracedLwp) (program : Program) (x : TracedProcess)
    → BorrowsNoMore x (with_program traced id l program x)
unfolding with_program
program-less id l program x = record { none = λ was live. refl }

new_lwp-less : (new held : ℕ) (regs : List ℕ) (x : TracedProcess)
    → BorrowsNoMore x (with_new_lwp traced new regs held x)
unfolding with_new_lwp
new_lwp-less new held regs x =
    choice (BorrowsNoMore x) (is_some (lwp_of x new)) _ _ (λ there. no-more-self x) (λ free. no-more x _ refl refl)

edit-less : (m : Message) (tail : List ℕ) (x y : TracedProcess) → ProcessEdit m tail x y → BorrowsNoMore x y
unfolding with_agent with_space with_lwp
edit-less m tail x y (process.one_lwp id f edits) = no-more x _ refl refl
edit-less m tail x y (process.each_lwp f edits) = no-more x _ refl refl
edit-less m tail x y (process.control_is e) = no-more x _ refl refl
edit-less m tail x y (process.takes_back is) = no-more x _ refl refl
edit-less m tail x y (process.gets_agent none room) = no-more x _ refl refl
edit-less m tail x y (process.is_written own mapped) = no-more x _ refl refl

-- ---- each step of a process

step-less : (f : TracedProcess → TracedProcess) → ProcessStep AnyLwp f → (x : TracedProcess) → BorrowsNoMore x (f x)
unfolding released lent_to with_fds with_space with_shared_taken with_job_stop with_disposition_of with_lwp without_lwp
step-less f (step.told target g info other) x = told-less target g info x
step-less f (step.dies status) x = zombie-less status x
step-less f (step.loses_parent gone) x = orphaned-less gone x
step-less f (step.gets_back gone p) x = loan_back-less gone p x
step-less f (step.gets_lender gone p) x = lender_of-less gone p x
step-less f (step.becomes id l program own) x = program-less id l program x
step-less f (step.gets_lwp id regs held) x = new_lwp-less id held regs x
step-less f _ x = no-more x (f x) refl refl

own-less : (id : ℕ) (row : Row) (f : TracedProcess → TracedProcess) → TurnStep id row f → (x : TracedProcess)
    → BorrowsNoMore x (f x)
unfolding with_lwp with_counted
own-less id row f step.moves x = no-more x (f x) refl refl
own-less id row f step.counts x = no-more x (f x) refl refl
own-less id row f step.meets x =
    no-more x (f x) (meeting-same (λ (y : TracedProcess). y.ended) (λ y es. refl) row.point id x)
    (meeting-same (λ (y : TracedProcess). y.lender) (λ y es. refl) row.point id x)

-- ---- a system

-- what stands in a system, if it stands under this id and lives, has no lender
pub record IsUnborrowedAt (pid : ℕ) (e : ℕ × TracedProcess) : Type 0 where
  pub none : e.0 ≡ pid → e.1.ended ≡ None → e.1.lender ≡ None

-- an id was given out, and what lives under it, if anything does, has borrowed its memory from nobody
pub record IsUnborrowed (pid : ℕ) (s : TracedSystem) : Type 0 where
  pub made : pid < s.made
  pub none : All (IsUnborrowedAt pid) s.processes

module _ (pid : ℕ) where
  -- among rising ids it is enough that what is found under this one has none
  unborrowed-from : (low : ℕ) (es : List (ℕ × TracedProcess)) → rises_from low es ≡ true
      → ((p : TracedProcess) → under pid es ≡ Some p → p.ended ≡ None → p.lender ≡ None)
      → All (IsUnborrowedAt pid) es
  unborrowed-from low [] rises none = All-nil (IsUnborrowedAt pid)
  unborrowed-from low (e ∷ es) rises none =
      elim (cases_Bool (e.0 == pid)) [
        | inl same ↦ here (eqb-true e.0 pid same) (λ live. none e.1 (rw same refl) live)
        | inr differs ↦ All-cons (IsUnborrowedAt pid) e es
            (record { none = λ is live. absurd (eqb-false e.0 pid differs is) })
            (unborrowed-from (e.0 + 1) es tail (λ p found live. none p (rw differs found) live))
      ]
    where
      tail : rises_from (e.0 + 1) es ≡ true
      tail = rises_from-tail low e es rises

      here : e.0 ≡ pid → (e.1.ended ≡ None → e.1.lender ≡ None) → All (IsUnborrowedAt pid) (e ∷ es)
      here same free =
          All-cons (IsUnborrowedAt pid) e es (record { none = λ is live. free live })
          (All-weaker (λ (d : ℕ × TracedProcess). e.0 + 1 ≤ d.0) (IsUnborrowedAt pid)
          (λ d above. record { none = λ is live. absurd (omega arith) }) es (ids-above (e.0 + 1) es tail))

  pub unborrowed-now : (s : TracedSystem) → IsLawfulSystem s → pid < s.made
      → ((p : TracedProcess) → live_process s pid ≡ Some p → p.lender ≡ None) → IsUnborrowed pid s
  unfolding live_process
  unborrowed-now s lawful made none = record {
    made = made;
    none = unborrowed-from 0 s.processes lawful.rising (λ p found live. none p (rw (found, live) refl));
  }

  pub unborrowed-none : (s : TracedSystem) → IsUnborrowed pid s → (p : TracedProcess) → live_process s pid ≡ Some p
      → p.lender ≡ None
  unborrowed-none s o p live =
      let was = found-live s pid p live in
      let it = All-under (IsUnborrowedAt pid) pid p s.processes o.none was.0 in
      it.none refl was.1

  -- ---- every entry

  less : (other : ℕ) (x y : TracedProcess) → BorrowsNoMore x y → IsUnborrowedAt pid (other, x)
      → IsUnborrowedAt pid (other, y)
  less other x y l it = record { none = λ same live. l.none (λ was. it.none same was) live }

  unborrowed-processes : KeepsProcesses AnyLwp (λ made. pid < made) (IsUnborrowedAt pid)
  unborrowed-processes = record {
    step = λ other x f is it. less other x (f x) (step-less f is x) it;
    edits = λ other m tail x y made it.
        less other x y
        (process-edits-relate m tail BorrowsNoMore no-more-self no-more-next (edit-less m tail) x y made) it;
    newborn = λ made x below new. record { none = λ same live. absurd (omega (arith, below, same)) };
    later = λ made below. omega (arith, below);
  }

  each_unborrowed : (s : TracedSystem) → IsUnborrowed pid s → (pid < s.made) × All (IsUnborrowedAt pid) s.processes
  each_unborrowed s o = (o.made, o.none)

  unborrowed_each : (s : TracedSystem) → (pid < s.made) × All (IsUnborrowedAt pid) s.processes → IsUnborrowed pid s
  unborrowed_each s it = record { made = it.0; none = it.1 }

  each-unborrowed : (n : ℕ) → KeepsEach n AnyState AnyEntry (λ s. IsUnborrowed pid s.system)
  each-unborrowed =
      keeps-each AnyLwp (IsUnborrowed pid)
      (processes-keep AnyLwp (λ made. pid < made) (IsUnborrowedAt pid) (IsUnborrowed pid) each_unborrowed
      unborrowed_each unborrowed-processes)
      (turns-keep AnyLwp (λ made. pid < made) (IsUnborrowedAt pid) (IsUnborrowed pid) each_unborrowed unborrowed_each
      (λ s acting p id l o live there. tt)
      (λ s acting p id l f is x it. less acting x (f x) (own-less id (row_for s acting p id l) f is x) it))

  pub entry-unborrowed : (n : ℕ) (s : TracedState) (actor : Actor) (it : Act)
      → IsLegalEntry n s (record { actor = actor; act = it }) → IsUnborrowed pid s.system
      → IsUnborrowed pid (after s (record { actor = actor; act = it })).system
  entry-unborrowed n s actor it legal o =
      act-keeps n AnyState AnyEntry (λ t. IsUnborrowed pid t.system) (each-unborrowed n) s actor it tt tt legal o
