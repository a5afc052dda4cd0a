use Rattle.std.proofs.Common.{◌≡◌, ◌≢◌, ◌<◌, ◌++◌, ℕ, Bool, true, cond, Some, None, List, []}
use Rattle.std.proofs.Common.{◌∷◌, length, refl, sym, ap, ◌∙◌, inl, inr}
use Rattle.std.proofs.lemmas.Bool.{cases_Bool, ne_eqb}
use Rattle.pr_api.specs.Entries.{call_entry}
use Rattle.pr_function_hides.proofs.GoingOn.CalmCalls as Calm
use Rattle.pr_function_hides.proofs.GoingOn.CalmCalls.{files, t}
pub use Rattle.pr_function_hides.proofs.GoingOn.CalmCalls.{AwayFrom, kept-now, own-alone}
use Rattle.pr_function_hides.proofs.Tidy.CopyFree.{handle-place}
use Rattle.pr_function_hides.proofs.StandingFaults.CountedFaults.{called-less}
use Rattle.pr_function_hides.proofs.StandingFaults.OwnFaults.{CountLess, alone-old, old-cleared, old-stand}
use Rattle.pr_function_hides.proofs.FaultStops.StoppedFaults.{CleanIn, LeftAs, RestsIn, SoonIn, framed-clean, framed-left}
use Rattle.pr_function_hides.proofs.FaultStops.StoppedFaults.{framed-rests, framed-soon}
use Rattle.pr_function_hides.proofs.Tidy.TidyCalls as Calls
use Rattle.pr_function_hides.proofs.Tidy.TidyEntries.{its-lawful}
use Rattle.pr_function_hides.proofs.Tidy.TidyKept.{Kept}
use Rattle.pr_function_hides.specs.RunsOfTrusses.{IsRunOfTrusses}
use Rattle.pr_function_laws.proofs.OpenedProcesses.OpenedLemmas.{control-sole}
use Rattle.pr_hidden.specs.Covers.{Cover, Covers}
use Rattle.pr_hidden.specs.Hiders.{Hiders, covers_at, hides, patch_at}
use Rattle.pr_model.specs.Legal.{state_after}
use Rattle.pr_model.specs.State.{TracedState}
use Rattle.pr_model.specs.declared.calls.Call.{Call}
use Rattle.pr_model.specs.declared.calls.Reply.{Reply}
use Rattle.pr_model.specs.declared.events.Entry.{Entry}
use Rattle.pr_truss.specs.Trusses.{TrussState, traced_at}
use Rattle.pr_truss_laws.specs.Exchanges.{exchange_of}
use Rattle.pr_world.specs.ControllerStates.{ControllerState}

-- Behind a call each lwp that stood at a fault of one who hides stands so still, in the processes of other trusses, and
-- in those of the truss that makes it on which the call does not act.

module _ {n : ℕ} {who : Hiders} {controllers : List ControllerState} {first : TracedState}
    {h : List Entry} (run : IsRunOfTrusses n who controllers first h) (front back : List Entry)
    (j : ℕ) (c : Call) (r : Reply) (place : h ≡ front ++ call_entry j c r ∷ back) where
  abbrev here : List Entry → TracedState
  here front = state_after first front

  abbrev covers : List Entry → Covers
  covers front = covers_at who first front

  abbrev e : Entry
  e = call_entry j c r

  abbrev pub later_front : List Entry
  later_front = front ++ e ∷ []

  abbrev v : TracedState
  v = here front

  abbrev kept-at-call : Kept who controllers first h front
  kept-at-call = kept-now run front back j c r place

  pub less-now : (pid : ℕ) → CountLess (covers front pid) (covers later_front pid)
  less-now pid id is =
      called-less who run.are.no_probes (covers front) v j pid c r id
      (ap (λ (d : Cover). d.faulted id) (sym (Calm.called-cover run front back j c r place pid)) ∙ is)

  -- ---- the other trusses

  module _ (k : ℕ) (its : hides who k ≡ true) (apart : j ≢ k) where
    abbrev x : TrussState
    x = t run front e back place k its

    none-of : exchange_of k e ≡ None
    none-of = ap (λ b. cond b (Some (record { call = c; reply = r })) None) (ne_eqb j k apart)

    pub other-patches : (q : ℕ) → q < length x.traced
        → (covers later_front (traced_at x q).pid).patches ≡ (covers front (traced_at x q).pid).patches
    other-patches q within = elim (cases_Bool (hides who j)) [
      | inl hider ↦ Calm.away-patches run front back j c r place (traced_at x q).pid (away hider)
      | inr none ↦
          (let s = Calls.other-stays run front back j c r place kept-at-call none (traced_at x q).pid in
          s.patches)
    ]
      where
        -- none of the processes of that truss is this one
        away : hides who j ≡ true → AwayFrom run front back j c r place (traced_at x q).pid
        away hider m held acts there at =
            let found = handle-place run front (e ∷ back) place kept-at-call j hider m held there in
            let its_files = files run front e back place k its in
            let own_files = Calls.files-now run front back j c r place kept-at-call hider in
            let sole =
            control-sole k (traced_at x q).pid (traced_at x q).control v
            (its-lawful run front e back place kept-at-call) (its_files.control q within) in
            sole.none j (traced_at (Calls.tr run front back j c r place kept-at-call hider) found.0).control
            (Calls.held-of run front back j c r place kept-at-call hider found.0) apart
            (own_files.control found.0 found.1.0) refl (found.1.1 ∙ at)

    pub other-rests : (q : ℕ) → q < length x.traced → RestsIn run front
        (traced_at x q).pid
        → RestsIn run later_front (traced_at x q).pid
    other-rests q within =
        framed-rests run front e back place k its none-of q within (λ own is. cc)
        (less-now (traced_at x q).pid) (other-patches q within)

    pub other-clean : (q : ℕ) → q < length x.traced → CleanIn run front (traced_at x q).pid
        → CleanIn run later_front (traced_at x q).pid
    other-clean q within =
        framed-clean run front e back place k its none-of q within (λ own is. cc)
        (less-now (traced_at x q).pid)

    pub other-soon : (q flags : ℕ) → q < length x.traced
        → SoonIn run front flags (traced_at x q).pid
        → SoonIn run later_front flags (traced_at x q).pid
    other-soon q flags within =
        framed-soon run front e back place k its none-of q within (λ own is. cc)
        (less-now (traced_at x q).pid) flags

    pub other-left : (q : ℕ) (attached : Bool) → q < length x.traced → LeftAs run front attached (traced_at x q).pid
        → LeftAs run later_front attached (traced_at x q).pid
    other-left q attached within =
        framed-left run front e back place k its none-of q within (λ own is. cc) (less-now (traced_at x q).pid) attached

  -- ---- its own processes

  module _ (hider : hides who j ≡ true) where
    abbrev tr : TrussState
    tr = Calm.tr run front back j c r place hider

    -- one on which it does not act
    module _ (i : ℕ) (inside : i < length tr.traced) (away : AwayFrom run front back j c r place (traced_at tr i).pid)
      where
        abbrev pid : ℕ
        pid = (traced_at tr i).pid

        pub own-rests : RestsIn run front pid → RestsIn run later_front pid
        own-rests rests x later =
            let was = own-alone run front back j c r place hider i inside away x later in
            old-stand (covers front pid) (covers later_front pid) was.0 x (less-now pid) (alone-old was.0 x was.1.1)
            (λ at g there.
            (g, ap (patch_at at) (Calm.away-patches run front back j c r place pid away) ∙ there)) (rests was.0 was.1.0)

        pub own-soon : (flags : ℕ) → SoonIn run front flags pid → SoonIn run later_front flags pid
        own-soon flags soon x later =
            let was = own-alone run front back j c r place hider i inside away x later in
            old-cleared (covers front pid) (covers later_front pid) was.0 x (less-now pid)
            (alone-old was.0 x was.1.1) flags
            (soon was.0 was.1.0)
