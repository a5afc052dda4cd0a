use Rattle.std.proofs.Common.{◌≡◌, ◌⊎◌, ◌<◌, ◌++◌, ℕ, true, Some, None, List, [], ◌∷◌, length, sym, subst, ap}
use Rattle.std.proofs.Common.{◌∙◌, inl, inr}
use Rattle.std.proofs.lemmas.Option.{none-some}
use Rattle.pr_api.specs.Entries.{call_entry}
use Rattle.pr_function_hides.proofs.Closing.ClosingCalls.{IsClosing, is-closing, last-pid, left-closing}
use Rattle.pr_function_hides.proofs.Closing.ClosingCourse.{goes_so, leaves_so, no_leaves, no_opens}
use Rattle.pr_function_hides.proofs.Closing.ClosingCourse as Course
use Rattle.pr_function_hides.proofs.Replies.ClosingWalk.{Lifts, StageSo}
use Rattle.pr_function_hides.proofs.Tidy.CopyFree.{none-marked}
use Rattle.pr_function_hides.proofs.Replies.OwnFiles.{GoesOn, IsWithin}
use Rattle.pr_function_hides.proofs.Tidy.TidyCalls as Calls
use Rattle.pr_function_hides.proofs.Tidy.TidyKept.{Truss as TidyTruss, stays-on}
use Rattle.pr_function_hides.proofs.Tidy.TidyLaw.{kept-at}
use Rattle.pr_function_hides.specs.Copying.{IsEmpty}
use Rattle.pr_function_hides.specs.RunsOfTrusses.{IsRunOfTrusses}
use Rattle.pr_function_hides.specs.TidyCloses.{LeavesNoBreakpoint}
use Rattle.pr_hidden.specs.Covers.{Patch}
use Rattle.pr_hidden.specs.Hiders.{Hiders, covers_at, hides}
use Rattle.pr_model.specs.Handles.{handle_of}
use Rattle.pr_model.specs.Legal.{state_after}
use Rattle.pr_model.specs.State.{TracedProcess, TracedState, live_process}
use Rattle.pr_model.specs.declared.calls.Call.TheVariants as call
use Rattle.pr_model.specs.declared.calls.Reply.{Reply}
use Rattle.pr_model.specs.declared.events.Entry.{Entry}
use Rattle.pr_model.specs.declared.handles.Held.{Held}
use Rattle.pr_truss.specs.Asides.{marks_at}
use Rattle.pr_truss.specs.FunctionCalls.{next_function_call_of}
use Rattle.pr_truss.specs.Marks.{has_functions}
use Rattle.pr_truss.specs.Processes.{last_handle}
use Rattle.pr_truss.specs.Trusses.{TrussState, traced_at}
use Rattle.pr_truss.specs.declared.asides.Aside.{Aside}
use Rattle.pr_truss.specs.declared.stages.AfterClosing.{AfterClosing}
use Rattle.pr_truss.specs.declared.stages.AfterClosing.TheVariants.{OpenNext, GoOn}
use Rattle.pr_truss.specs.declared.stages.Stage.TheVariants.{Closing}
use Rattle.pr_world.specs.ControllerStates.{ControllerState}

-- Where truss closes a file of a process that lives, no breakpoint stands there, also where it leaves its processes.

-- ---- a close

module _ {n : ℕ} {who : Hiders} {controllers : List ControllerState} {first : TracedState}
    {h : List Entry} (run : IsRunOfTrusses n who controllers first h) where
  abbrev here : List Entry → TracedState
  here front = state_after first front

  abbrev Over : List Entry → ℕ → Type 0
  Over front pid = live_process (here front).system pid ≡ None

  module _ (front back : List Entry) (j number : ℕ) (r : Reply)
      (place : h ≡ front ++ call_entry j (call.Close number) r ∷ back) (hider : hides who j ≡ true) (held : Held)
      (there : handle_of (here front).opens j number ≡ Some held) (p : TracedProcess)
      (live : live_process (here front).system held.pid ≡ Some p) where
    abbrev its : TidyTruss who controllers first h front j
    its =
        let kept = kept-at run front (call_entry j (call.Close number) r ∷ back) place in
        kept.trusses j hider

    abbrev t : TrussState
    t = let w = its in w.t

    abbrev patches : List Patch
    patches = (covers_at who first front held.pid).patches

    has : has_functions t.options ≡ true
    has =
        Calls.has run front back j (call.Close number) r place
        (kept-at run front (call_entry j (call.Close number) r ∷ back) place) hider

    next : next_function_call_of t ≡ Some (call.Close number)
    next =
        Calls.next run front back j (call.Close number) r place
        (kept-at run front (call_entry j (call.Close number) r ∷ back) place) hider

    -- it closes a file of this process next, which has ended, or in which nothing is planted
    closes-own : (q : ℕ) → q < length t.traced → last_handle (traced_at t q) ≡ number
        → Over front (traced_at t q).pid ⊎ IsEmpty (marks_at t q).planted → patches ≡ []
    closes-own q within last so = by so
      where
        same : (traced_at t q).pid ≡ held.pid
        same =
            let w = its in
            last-pid j (here front) (traced_at t q) (w.files q within) held
            (ap (handle_of (here front).opens j) last ∙ there)

        by : Over front (traced_at t q).pid ⊎ IsEmpty (marks_at t q).planted → patches ≡ []
        by (inl over) =
            absurd (none-some p (sym (ap (λ i. live_process (here front).system i) (sym same) ∙ over) ∙ live))
        by (inr none) =
            let w = its in
            let stand = w.stand q within (p, ap (λ i. live_process (here front).system i) same ∙ live) in
            ap (λ i. (covers_at who first front i).patches) (sym same)
            ∙ none-marked t.options (marks_at t q).planted _ none stand.all

    -- where it goes on
    closes-at : Course.ClosesAt run front t → IsClosing t number → patches ≡ []
    closes-at was w = of w.following w.stage w.inside
      where
        so-at : (following : AfterClosing) → t.stage ≡ Closing w.place following
            → StageSo (Over front) no_opens no_leaves t (Closing w.place following)
        so-at following at =
            let so = was.closes in
            subst (StageSo (Over front) no_opens no_leaves t) at so.stage

        refused : StageSo (Over front) no_opens no_leaves t (Closing w.place OpenNext)
            → Over front (traced_at t w.place).pid ⊎ IsEmpty (marks_at t w.place).planted
        refused (inl over) = inl over
        refused (inr it) =
            inr (subst (λ (a : Aside). Lifts (Over front) no_opens no_leaves w.place a (marks_at t w.place).planted)
            w.idle it.1)

        of : (following : AfterClosing) → t.stage ≡ Closing w.place following
            → IsWithin (length t.traced) (Closing w.place following) → patches ≡ []
        of OpenNext at inside = closes-own w.place w.within w.last (refused (so-at OpenNext at))
        of GoOn at inside = closes-own w.place w.within w.last (inl (so-at GoOn at))
        of _ at inside = absurd inside

    pub closes-bare : patches ≡ []
    closes-bare = let w = its in by (Course.comes-at run front _ place j hider w.t w.is)
      where
        by : Course.ComesTo run front t → patches ≡ []
        by (goes_so was) =
            let known = was.known in
            let g : GoesOn t = stays-on its known.off in
            closes-at was (is-closing t number g.stage g.beside has next)
        by (leaves_so w) =
            let one = left-closing t number (Over front) has next w.at w.bare in
            closes-own 0 one.0 one.1.0 one.1.1

  pub leaves-none : LeavesNoBreakpoint who first h
  leaves-none = record {
    bare = λ front back k number r held p place hider there live.
        closes-bare front back k number r place hider held there p live;
    no_agent = λ front back pid place. let w = kept-at run front back place in w.no_agent pid;
  }

pub ruleset leaves = (leaves-none)
