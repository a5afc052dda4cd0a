use Rattle.std.proofs.Common.{◌≡◌, ◌≢◌, ◌<◌, ◌++◌, ℕ, true, Some}
use Rattle.std.proofs.Common.{None, List, [], ◌∷◌, length, sym, subst, ap, ◌∙◌}
use Rattle.std.proofs.lemmas.Option.{none-some}
use Rattle.pr_line.specs.declared.options.Options.{Options}
use Rattle.pr_model.specs.Lawful.{IsLawful}
use Rattle.pr_model.specs.Legal.{IsLegalEntry, after, state_after}
use Rattle.pr_model.specs.State.{TracedProcess, TracedState, live_process, process_of}
use Rattle.pr_model.specs.declared.events.Entry.{Entry}
use Rattle.pr_num.specs.Signals.{signal_number}
use Rattle.pr_num.specs.declared.signals.Sig.TheVariants.{Kill}
use Rattle.pr_report_laws.proofs.Files.FileLaws.{HasFiles}
use Rattle.pr_report_laws.specs.Shown.{LwpEvent}
use Rattle.pr_truss.specs.Asides.{marks_at}
use Rattle.pr_truss.specs.Trusses.{TrussState, traced_at}
use Rattle.pr_truss_laws.proofs.Machine.FrameLemmas.{memory-next}
use Rattle.pr_truss_laws.specs.Exchanges.{exchange_of}
use Rattle.pr_truss_laws.specs.Handles.{HasNoOtherWriter}
use Rattle.pr_truss_laws.specs.Stills.{IsFrozen, KeepsMemory}
use Rattle.pr_function_laws.proofs.LeavingProcesses.LeavingCourse.{entry-legal, files-at}
use Rattle.pr_function_laws.proofs.LeavingProcesses.LeavingCourse.{state-next, truss-next}
use Rattle.pr_function_laws.proofs.LeavingProcesses.LeftProcesses.{IsLeaving, its-control}
use Rattle.pr_function_laws.proofs.LeavingProcesses.LeavingStages.{IsUnlooked}
use Rattle.pr_function_laws.proofs.Listing.ListedStates as states
use Rattle.pr_function_laws.proofs.Listing.ListedStates.{clear, due, hidden, killed-now, lost, since-on}
use Rattle.pr_function_laws.proofs.OpenedProcesses.OpenedLemmas.{control-made, control-sole}
use Rattle.pr_function_laws.specs.Lifted.{HasControl}
use Rattle.pr_function_laws.specs.ListedEvents.{is_to_show}
use Rattle.pr_function_laws.specs.ReachedRuns.{IsReachedFunctionRun}
use Rattle.pr_function_laws.specs.Opened.{IsFunctionRun, functions_at}
use Rattle.pr_function_laws.specs.Ordinary.{ordinary}
use Rattle.pr_function_laws.specs.Runs.{functions_on}

-- A process that truss leaves and has not looked at for the last time: what is known of it at one entry, and what
-- becomes of an event on which an lwp of it stands.

-- ---- a process that truss has not looked at for the last time

-- Truss has opened it whole, and leaves its processes, but has not looked at this one; and no stop is left that stood
-- before truss came.
pub record AwaitsLook (t : TrussState) (pid place : ℕ) : Type 0 where
  pub within : place < length t.traced
  pub its : (traced_at t place).pid ≡ pid
  pub attached : (traced_at t place).attached ≡ true
  pub unlooked : IsUnlooked t.stage place
  pub new : (traced_at t place).old ≡ 0

-- it stands still, as long as truss counts stops of it that are left and stood before it came
abbrev pub StillOld : ℕ → TrussState → TracedState → Type 0
StillOld pid t s =
    (place : ℕ) → place < length t.traced → (traced_at t place).pid ≡ pid → (traced_at t place).attached ≡ true
    → IsUnlooked t.stage place → (traced_at t place).old ≢ 0 → (p : TracedProcess) → live_process s.system pid ≡ Some p
    → IsFrozen p

module _ (n k : ℕ) (o : Options) (s : TracedState) (h : List Entry) (run : IsReachedFunctionRun n k o s h)
    (pid : ℕ) where
  abbrev T : List Entry → TrussState
  T front = functions_at k o front

  abbrev S : List Entry → TracedState
  S front = state_after s front

  abbrev Leaves : List Entry → Type 0
  Leaves f = IsLeaving (Unit {0}) k o (T f) (S f)

  abbrev AwaitsAt : List Entry → ℕ → Type 0
  AwaitsAt f place = AwaitsLook (T f) pid place

  abbrev Stands : List Entry → List LwpEvent → Type 0
  Stands = states.Stands k o s pid AwaitsAt

  abbrev Missing : List Entry → ℕ → LwpEvent → TracedProcess → List LwpEvent → Type 0
  Missing = states.Missing k o s pid

  abbrev ReadsIts : List Entry → Entry → Type 0
  ReadsIts = states.ReadsIts k o s pid

  -- ---- one entry

  module _ (f : List Entry) (e : Entry) (later : List Entry) (is : h ≡ f ++ e ∷ later) (g : Leaves f) where
    abbrev next : List Entry
    next = f ++ e ∷ []

    abbrev t : TrussState
    t = T f

    abbrev now : TracedState
    now = S f

    pub legal : IsLegalEntry n now e
    legal = entry-legal (Unit {0}) n k o s h run.of (λ r. run.reached) (λ r. run.bytes) f e later is

    pub lawful : IsLawful now
    lawful = g.lawful

    pub files : HasFiles k (ordinary t) now
    files = files-at (Unit {0}) n k o s h run.of (λ r. run.reached) (λ r. run.bytes) f (e ∷ later) is

    pub state-is : S next ≡ after now e
    state-is = state-next (Unit {0}) n k o s h run.of (λ r. run.reached) (λ r. run.bytes) f e later is

    pub truss-is : T next ≡ functions_on t (exchange_of k e)
    truss-is = truss-next (Unit {0}) n k o s h run.of (λ r. run.reached) (λ r. run.bytes) f e later is

    pub run-here : IsFunctionRun n k o s (f ++ e ∷ later)
    run-here = subst (λ (es : List Entry). IsFunctionRun n k o s es) is run.of

    pub live-next : (q : TracedProcess) → live_process (S next).system pid ≡ Some q
        → live_process (after now e).system pid ≡ Some q
    live-next q live = ap (λ (u : TracedState). live_process u.system pid) (sym state-is) ∙ live

    pub next-live : (q : TracedProcess) → live_process (after now e).system pid ≡ Some q
        → live_process (S next).system pid ≡ Some q
    next-live q live = ap (λ (u : TracedState). live_process u.system pid) state-is ∙ live

    pub control : (place : ℕ) → AwaitsLook t pid place → HasControl k pid (traced_at t place).control now
    control place w =
        subst (λ i. HasControl k i (traced_at t place).control now) w.its (its-control k t now files place w.within)

    made : (place : ℕ) → AwaitsLook t pid place → pid < now.system.made
    made place w = control-made k pid (traced_at t place).control now lawful (control place w)

    pub sole : (place : ℕ) → AwaitsLook t pid place → HasNoOtherWriter k pid now.opens
    sole place w = control-sole k pid (traced_at t place).control now lawful (control place w)

    pub live-at : (place : ℕ) → AwaitsLook t pid place → (p : TracedProcess) → live_process now.system pid ≡ Some p
        → live_process now.system (traced_at t place).pid ≡ Some p
    live-at place w p live = ap (live_process now.system) w.its ∙ live

    -- it is killed
    pub gone-stands : (event : LwpEvent) (missing : List LwpEvent) (place : ℕ) → AwaitsLook t pid place
        → (p : TracedProcess) → Missing f place event p missing → (ReadsIts f e → ⊥)
        → live_process now.system pid ≡ Some p
        → live_process (after now e).system pid ≡ None → (z : TracedProcess)
        → process_of (after now e).system pid ≡ Some z → z.ended ≡ Some (signal_number Kill) → Stands next missing
    unfolding since-on
    gone-stands event missing place w p (hidden off) quiet live gone z left status =
        clear (λ place2 rest q live_q. absurd (none-some q
        (sym (ap (λ (u : TracedState). live_process u.system pid) state-is ∙ gone) ∙ live_q)))
    gone-stands event missing place w p (due chosen since kept_so) quiet live gone z left status =
        lost event (since-on k o s pid f e event since quiet)
        (states.made-next k o s pid n h run.of f e later is lawful legal (made place w))
        (ap (λ (u : TracedState). live_process u.system pid) state-is ∙ gone)
        (killed-now k o s pid f e since.front since.entry since.mid since.is p live gone z left status)

    -- it goes on to stand there
    pub still-missing : (event : LwpEvent) (missing : List LwpEvent) (place place2 : ℕ) (p q : TracedProcess)
        → Missing f place event p missing → (ReadsIts f e → ⊥) → marks_at (T next) place2 ≡ marks_at t place
        → KeepsMemory p q → Missing next place2 event q missing
    unfolding since-on
    still-missing event missing place place2 p q (hidden off) quiet same memory =
        hidden (ap (λ m. is_to_show o m event.event) same ∙ off)
    still-missing event missing place place2 p q (due chosen since kept_so) quiet same memory =
        due (ap (λ m. is_to_show o m event.event) same ∙ chosen) (since-on k o s pid f e event since quiet)
        (memory-next since.process p q kept_so memory)
