use Rattle.std.proofs.Common.{◌≡◌, ◌≢◌, ◌<◌, ◌++◌, ℕ, Bool, true, false, Some, None, List, [], ◌∷◌, length, ap}
use Rattle.std.proofs.Common.{◌∙◌}
use Rattle.pr_function_hides.proofs.GoingOn.CalmCalls.{left-alone, t, truss}
use Rattle.pr_function_hides.proofs.LeavingCopies.CopyLeft.{IsLeftSo, alone-left}
use Rattle.pr_function_hides.proofs.Clean.HaltedOpenings.{HaltsIn}
use Rattle.pr_function_hides.proofs.GoingOn.KnownTrusses.{KnownOf, known-on}
use Rattle.pr_function_hides.proofs.StandingFaults.OwnFaults.{CountLess, OwnCleared, OwnStand, OwnStops, alone-old, less-clean}
use Rattle.pr_function_hides.proofs.StandingFaults.OwnFaults.{old-cleared, old-stand, stops-stay}
use Rattle.pr_function_hides.proofs.Tidy.TidyKept.{Kept}
use Rattle.pr_function_hides.proofs.Tidy.TidyLaw.{kept-at}
use Rattle.pr_function_hides.specs.RunsOfTrusses.{IsRunOfTrusses}
use Rattle.pr_function_hides.specs.TidyWrites.{IsTrussAfter}
use Rattle.pr_function_hides.specs.Treating.{is_run_soon}
use Rattle.pr_function_laws.specs.Opened.{is_opened}
use Rattle.pr_hidden.specs.Covers.{Covers}
use Rattle.pr_hidden.specs.Hiders.{Hiders, covers_at, hides, patch_at}
use Rattle.pr_model.specs.Legal.{state_after}
use Rattle.pr_model.specs.State.{TracedControl, TracedProcess, TracedState, live_process}
use Rattle.pr_model.specs.declared.events.Actor.TheVariants.{Lwp}
use Rattle.pr_model.specs.declared.events.Entry.{Entry}
use Rattle.pr_num.specs.Limits.{all_faults}
use Rattle.pr_truss.specs.Asides.{marks_at}
use Rattle.pr_truss.specs.Trusses.{TrussState, traced_at}
use Rattle.pr_truss_laws.specs.Exchanges.{exchange_of}
use Rattle.pr_world.specs.ControllerStates.{ControllerState}

-- Each lwp that stands at a fault of one who hides stands on the stop of that fault, from when it incurs it. What is
-- said of that, also while truss leaves its processes; and entries of others leave it so.

module _ {n : ℕ} {who : Hiders} {controllers : List ControllerState} {first : TracedState}
    {h : List Entry} (run : IsRunOfTrusses n who controllers first h) where
  abbrev here : List Entry → TracedState
  here front = state_after first front

  abbrev covers : List Entry → Covers
  covers front = covers_at who first front

  abbrev After : List Entry → ℕ → TrussState → Type 0
  After front k t = IsTrussAfter who controllers first h front k t

  abbrev kept : (front back : List Entry) → h ≡ front ++ back → Kept who controllers first h front
  kept = kept-at run

  -- ---- what is said

  -- each lwp of a process that stands at such a fault stands on its stop
  abbrev pub RestsIn : List Entry → ℕ → Type 0
  RestsIn front pid =
      (p : TracedProcess) → live_process (here front).system pid ≡ Some p → OwnStand (covers front pid) p

  -- and these run flags clear it
  abbrev pub SoonIn : List Entry → ℕ → ℕ → Type 0
  SoonIn front flags pid =
      (p : TracedProcess) → live_process (here front).system pid ≡ Some p → OwnCleared flags (covers front pid) p

  -- no lwp of it counts as one at such a fault
  abbrev pub CleanIn : List Entry → ℕ → Type 0
  CleanIn front pid =
      (p : TracedProcess) → live_process (here front).system pid ≡ Some p → (id : ℕ)
      → (covers front pid).faulted id ≡ false

  -- each lwp of it that stands at such a fault stands on its stop, and all faults of it are traced
  abbrev pub LeftIn : List Entry → ℕ → Type 0
  LeftIn front pid =
      (p : TracedProcess) → live_process (here front).system pid ≡ Some p
      → OwnStops (covers front pid) p × (p.control.traced_faults ≡ all_faults)

  -- none counts so, and each lwp of it stands still or will stop
  abbrev pub WaitsIn : List Entry → ℕ → Type 0
  WaitsIn front pid = ((id : ℕ) → (covers front pid).faulted id ≡ false) × HaltsIn (here front) pid

  -- of a process that truss has still to leave: it has stopped for truss, or not yet
  abbrev pub LeftAs : List Entry → Bool → ℕ → Type 0
  LeftAs front true pid = LeftIn front pid
  LeftAs front false pid = WaitsIn front pid

  -- So it is of each process that a truss has opened whole; none counts so of one of which it counts stops that stood
  -- before it came; and of one that it runs soon the run flags clear the fault. Where it leaves its processes, each lwp
  -- stands on its stop in those that stopped for it.
  pub record Posted (front : List Entry) : Type 0 where
    pub rests : (k : ℕ) → hides who k ≡ true → (t : TrussState) → After front k t → t.leaving ≡ false → (q : ℕ)
        → q < length t.traced → is_opened t.stage q ≡ true → is_run_soon t.stage q ≡ false
        → RestsIn front (traced_at t q).pid
    pub soon : (k : ℕ) → hides who k ≡ true → (t : TrussState) → After front k t → t.leaving ≡ false → (q : ℕ)
        → q < length t.traced → is_run_soon t.stage q ≡ true → SoonIn front (marks_at t q).flags (traced_at t q).pid
    pub clean : (k : ℕ) → hides who k ≡ true → (t : TrussState) → After front k t → t.leaving ≡ false → (q : ℕ)
        → q < length t.traced → is_opened t.stage q ≡ true → (traced_at t q).old ≢ 0
        → CleanIn front (traced_at t q).pid
    pub left : (k : ℕ) → hides who k ≡ true → (t : TrussState) → After front k t → t.leaving ≡ true → (q : ℕ)
        → q < length t.traced → LeftAs front (traced_at t q).attached (traced_at t q).pid

  -- where the process is left as it is
  pub left-stays : (front next : List Entry) (attached : Bool) (pid : ℕ)
      → CountLess (covers front pid) (covers next pid)
      → ((x : TracedProcess) → live_process (here next).system pid ≡ Some x
      → (p : TracedProcess) × ((live_process (here front).system pid ≡ Some p) × IsLeftSo p x))
      → LeftAs front attached pid → LeftAs next attached pid
  left-stays front next true pid less steps left = λ x later.
      let was = steps x later in
      let so = left was.0 was.1.0 in
      let w : IsLeftSo was.0 x = was.1.1 in (
        stops-stay (covers front pid) (covers next pid) was.0 x less w.faults so.0,
        ap (λ (c : TracedControl). c.traced_faults) w.control ∙ so.1,
      )
  left-stays front next false pid less steps waits = (
    less-clean (covers front pid) (covers next pid) less waits.0,
    λ x later.
        let was = steps x later in let w : IsLeftSo was.0 x = was.1.1 in w.halting (waits.1 was.0 was.1.0),
  )

  -- ---- an entry of others

  module _ (front : List Entry) (e : Entry) (back : List Entry) (place : h ≡ front ++ e ∷ back) (k : ℕ)
      (hider : hides who k ≡ true) where
    abbrev next_front : List Entry
    next_front = front ++ e ∷ []

    abbrev tr : TrussState
    tr = t run front e back place k hider

    pub known-here : tr.leaving ≡ false → KnownOf run front k hider tr
    known-here off =
        let w = truss run front e back place k hider in known-on run front (e ∷ back) place k hider w.t w.is off

    module _ (none : exchange_of k e ≡ None) (q : ℕ) (within : q < length tr.traced)
        (apart : (own : ℕ) → e.actor ≢ Lwp (traced_at tr q).pid own) where
      abbrev pid : ℕ
      pid = (traced_at tr q).pid

      module _ (less : CountLess (covers front pid) (covers next_front pid)) where
        pub framed-rests : (covers next_front pid).patches ≡ (covers front pid).patches → RestsIn front pid
            → RestsIn next_front pid
        framed-rests same rests x later =
            let was = left-alone run front e back place k hider none q within apart x later in
            old-stand (covers front pid) (covers next_front pid) was.0 x less (alone-old was.0 x was.1.1)
            (λ at g there. (g, ap (patch_at at) same ∙ there)) (rests was.0 was.1.0)

        pub framed-clean : CleanIn front pid → CleanIn next_front pid
        framed-clean clean x later =
            let was = left-alone run front e back place k hider none q within apart x later in
            less-clean (covers front pid) (covers next_front pid) less (clean was.0 was.1.0)

        pub framed-soon : (flags : ℕ) → SoonIn front flags pid → SoonIn next_front flags pid
        framed-soon flags soon x later =
            let was = left-alone run front e back place k hider none q within apart x later in
            old-cleared (covers front pid) (covers next_front pid) was.0 x less (alone-old was.0 x was.1.1) flags
            (soon was.0 was.1.0)

        pub framed-left : (attached : Bool) → LeftAs front attached pid → LeftAs next_front attached pid
        framed-left attached =
            left-stays front next_front attached pid less (λ x later.
            let was = left-alone run front e back place k hider none q within apart x later in
            (was.0, (was.1.0, alone-left was.0 x was.1.1)))
