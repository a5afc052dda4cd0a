use Rattle.pr_api.specs.Entries.{call_entry}
use Rattle.pr_function_hides.proofs.GoingOn.CalmCalls as Calm
use Rattle.pr_function_hides.proofs.LeavingFaults.LeavingCalls.{beside, has, staged, patch-is}
use Rattle.pr_function_hides.proofs.LeavingFaults.LeavingDone.{done-cleared, done-closed, done-told, gone-ended}
use Rattle.pr_function_hides.proofs.LeavingFaults.LeavingFirst.{FirstAt, FirstMade}
use Rattle.pr_function_hides.proofs.LeavingFaults.LeavingMet.{DoneIn, LeavesMet, Leads, Still}
use Rattle.pr_function_hides.proofs.LeavingFaults.LeavingPlaces.{asked, done-ended, done-lifted, done-quiet, due-first}
use Rattle.pr_function_hides.proofs.LeavingFaults.LeavingPlaces.{leads-lifted, leads-told, waited}
use Rattle.pr_function_hides.proofs.LeavingFaults.LeavingPlaces.{none-clears}
use Rattle.pr_function_hides.proofs.Replies.LeavingStages.{IsLeft, asks, awaits, closes_files, halts, has_ended}
use Rattle.pr_function_hides.proofs.Replies.LeavingStages.{lifts_all, looks, reads_text, waits_again}
use Rattle.pr_function_hides.proofs.LeavingFaults.LeavingWaits.{stop-half, stop-read}
use Rattle.pr_function_hides.proofs.LeavingFaults.LeavingWaits.{wstop-half, wstop-read}
use Rattle.pr_function_hides.specs.RunsOfTrusses.{IsRunOfTrusses}
use Rattle.pr_function_hides.proofs.Replies.TreatedEvents.{first-of-none}
use Rattle.pr_function_laws.proofs.OrdinaryTruss.OrdinaryStops.{FitsAside, IsToDo}
use Rattle.pr_function_laws.specs.Stretches.{acts_by}
use Rattle.pr_hidden.specs.Covers.{Covers}
use Rattle.pr_hidden.specs.Hiders.{Hiders, covers_at, hides}
use Rattle.pr_model.specs.ControlMessages.{tail_of}
use Rattle.pr_model.specs.Legal.{state_after}
use Rattle.pr_model.specs.State.{TracedState}
use Rattle.pr_model.specs.declared.calls.Call.{Call}
use Rattle.pr_model.specs.declared.calls.Reply.{Reply}
use Rattle.pr_model.specs.declared.events.Entry.{Entry}
use Rattle.pr_num.specs.Control.{clear_fault, has_flags}
use Rattle.pr_num.specs.Messages.{spelling}
use Rattle.pr_num.specs.declared.errnos.Errno.{Errno}
use Rattle.pr_num.specs.declared.messages.Message.TheVariants as message
use Rattle.pr_num.specs.declared.messages.Message.{Message}
use Rattle.pr_truss.specs.Asides.{marks_at}
use Rattle.pr_truss.specs.FunctionCalls.{call_beside, function_call_of, patch_call, wait_call}
use Rattle.pr_truss.specs.Marks.{first_function, no_functions}
use Rattle.pr_truss.specs.NextCalls.{call_of}
use Rattle.pr_truss.specs.Replies.{answer_of}
use Rattle.pr_truss.specs.Trusses.{TrussState, traced_at}
use Rattle.pr_truss.specs.declared.asides.Aside.TheVariants.{Asking, AwaitingAgain, AwaitingStop, Nothing, Patching}
use Rattle.pr_truss.specs.declared.asides.Aside.{Aside}
use Rattle.pr_truss.specs.declared.replies.Answer.TheVariants.{Accepted, Gone, Interrupted, Refused}
use Rattle.pr_truss.specs.declared.stages.AfterClosing.TheVariants.{GoOn}
use Rattle.pr_truss.specs.declared.stages.Stage.TheVariants.{Closing, ReadingText, ReadingLwps, Unfollowing}
use Rattle.pr_truss.specs.declared.stages.Stage.{Stage}
use Rattle.pr_world.specs.ControllerStates.{ControllerState}
use Rattle.std.proofs.Common.{◌||◌, ℕ, ◌≡◌, ◌≢◌, ◌<◌, ◌++◌, Bool, true, false, is_some}
use Rattle.std.proofs.Common.{Option, Some, None, List, [], ◌∷◌, length, refl, sym, subst, ap, ◌∙◌}
use Rattle.std.proofs.lemmas.Option.{same_Some}

-- What a call of a truss that leaves its processes has made so of the one that it leaves now, a row a place.

module _ {n : ℕ} {who : Hiders} {controllers : List ControllerState} {first : TracedState}
    {h : List Entry} (run : IsRunOfTrusses n who controllers first h) (front back : List Entry) (j : ℕ) (c : Call)
    (r : Reply) (place : h ≡ front ++ call_entry j c r ∷ back) (hider : hides who j ≡ true) where
  abbrev here : List Entry → TracedState
  here front = state_after first front

  abbrev covers : List Entry → Covers
  covers front = covers_at who first front

  abbrev e : Entry
  e = call_entry j c r

  abbrev later_front : List Entry
  later_front = front ++ e ∷ []

  abbrev v : TracedState
  v = here front

  abbrev t : TrussState
  t = Calm.tr run front back j c r place hider

  abbrev pid : ℕ
  pid = (traced_at t 0).pid

  module _ (w : LeavesMet run front t) (on : t.leaving ≡ true) (follow : t.options.follow ≡ false) where
    pub at-place : (a : Aside) (s : Stage) → t.aside ≡ a → t.stage ≡ s
        → FirstAt (Still run front) (Leads run front) (DoneIn run front) a s (traced_at t 0)
    at-place a s beside at =
        subst (λ y. FirstAt (Still run front) (Leads run front) (DoneIn run front) y s (traced_at t 0)) beside
        (subst (λ y. FirstAt (Still run front) (Leads run front) (DoneIn run front) t.aside y (traced_at t 0)) at
        w.place)

    calm-accepted : answer_of r ≡ Accepted → answer_of r ≢ Interrupted
    calm-accepted is broken = let both : Accepted ≡ Interrupted = sym is ∙ broken in cc

    calm-refused : (errno : Errno) → answer_of r ≡ Refused errno → answer_of r ≢ Interrupted
    calm-refused errno is broken = let both : Refused errno ≡ Interrupted = sym is ∙ broken in cc

    await-is : (until : ℕ) (m : Message) → until ≡ 0 → Some (wait_call (traced_at t 0).control until m) ≡ Some c
        → c ≡ wait_call (traced_at t 0).control 0 m
    await-is until m ends is =
        sym (same_Some _ c is) ∙ ap (λ u. wait_call (traced_at t 0).control u m) ends

    patches-is : (clear : Bool) → t.aside ≡ Patching 0 no_functions (marks_at t 0).planted clear
        → Some (patch_call t.options (traced_at t 0).control None (first_function (marks_at t 0).planted)) ≡ Some c
    unfolding call_beside
    patches-is clear is =
        sym (ap (λ plant. Some (patch_call t.options (traced_at t 0).control plant
        (first_function (marks_at t 0).planted))) first-of-none)
        ∙ beside run front back j c r place hider (Patching 0 no_functions (marks_at t 0).planted clear) is

    lift-is : (lift : Option ℕ) → first_function (marks_at t 0).planted ≡ lift → (clear : Bool)
        → t.aside ≡ Patching 0 no_functions (marks_at t 0).planted clear
        → c ≡ patch_call t.options (traced_at t 0).control None lift
    lift-is lift found clear is =
        sym (same_Some _ c (patches-is clear is))
        ∙ ap (λ x. patch_call t.options (traced_at t 0).control None x) found

    -- of a fault that is to be cleared, or where none is
    lifted-at : (clear : Bool) → t.aside ≡ Patching 0 no_functions (marks_at t 0).planted clear
        → (clear ≡ true → Leads run front pid) × (clear ≡ false → DoneIn run front pid)
    lifted-at clear is = (
      λ clears.
          at-place (Patching 0 no_functions (marks_at t 0).planted true) t.stage
          (is ∙ ap (λ b. Patching 0 no_functions (marks_at t 0).planted b) clears) refl,
      λ none.
          at-place (Patching 0 no_functions (marks_at t 0).planted false) t.stage
          (is ∙ ap (λ b. Patching 0 no_functions (marks_at t 0).planted b) none) refl,
    )

    -- the last thing to do is to clear the fault
    last-clears : (clear : Bool) → t.aside ≡ Patching 0 no_functions (marks_at t 0).planted clear
        → first_function (marks_at t 0).planted ≡ None → clear ≡ true
    last-clears clear is none =
        let fits = subst (λ (a : Aside). FitsAside a t.stage) is (Calm.fit-here run front e back place j hider) in
        let to_do : IsToDo no_functions (marks_at t 0).planted clear = fits.1 in
        sym (ap (λ (o : Option ℕ). is_some o || is_some (first_function (marks_at t 0).planted) || clear)
        first-of-none
        ∙ ap (λ (o : Option ℕ). is_some o || clear) none) ∙ to_do

    lifts-made : (within : 0 < length t.traced) (clear : Bool)
        → t.aside ≡ Patching 0 no_functions (marks_at t 0).planted clear
        → ((i : ℕ) → first_function (marks_at t 0).planted ≡ Some i
        → (clear ≡ true → Leads run later_front pid) × (clear ≡ false → DoneIn run later_front pid))
        × ((first_function (marks_at t 0).planted ≡ None → DoneIn run later_front pid)
        × (answer_of r ≡ Gone → DoneIn run later_front pid))
    lifts-made within clear is = (
      λ i found. (
        λ clears.
            leads-lifted run front back j c r place hider within i (lift-is (Some i) found clear is)
            ((lifted-at clear is).0 clears),
        λ none.
            done-lifted run front back j c r place hider within i (lift-is (Some i) found clear is)
            ((lifted-at clear is).1 none),
      ),
      (
        (λ none.
            done-cleared run front back j c r place hider within (lift-is None none clear is)
            ((lifted-at clear is).0 (last-clears clear is none))),
        (λ gone.
            let sent =
            patch-is run front back j c r place hider t (λ x. true) (first_function (marks_at t 0).planted)
            (patches-is clear is) in
            done-ended run front back j c r place hider within
            (gone-ended run front back j c r place hider within sent.0 sent.1 gone)),
      ),
    )

    pub first-made : (l : IsLeft t)
        → FirstMade (Still run later_front) (Leads run later_front) (DoneIn run later_front) t r on follow
        (has run front back j c r place hider) l
    unfolding call_beside function_call_of call_of
    first-made (halts at idle within) = (
      at-place Nothing Unfollowing idle at,
      asked run front back j c r place hider within message.Stop 8 stop-read
          refl (λ p aim. stop-half v.system pid p aim (tail_of message.Stop (spelling message.Stop [])) 8)
          (sym (same_Some _ c (staged run front back j c r place hider Unfollowing at idle))),
    )
    first-made (awaits until at is within) =
        let p = at-place (AwaitingStop until) ReadingLwps is at in
        let calls =
        await-is until message.Stop p.1 (beside run front back j c r place hider (AwaitingStop until) is) in
        let made = waited run front back j c r place hider within w at message.Stop 8 refl stop-read calls p.0 in (
          p.0,
          (
            (λ accepted. made.0 (calm-accepted accepted)),
            ((λ errno refused. made.0 (calm-refused errno refused)), made.1),
          ),
        )
    first-made (asks at is within) = (
      at-place Asking ReadingLwps is at,
      asked run front back j c r place hider within message.Wstop 8 wstop-read
          refl (λ p aim. wstop-half v.system pid p aim (tail_of message.Wstop (spelling message.Wstop [])) 8)
          (sym (same_Some _ c (beside run front back j c r place hider Asking is))),
    )
    first-made (waits_again until at is within) =
        let p = at-place (AwaitingAgain until) ReadingLwps is at in
        let calls =
        await-is until message.Wstop p.1 (beside run front back j c r place hider (AwaitingAgain until) is) in
        let made = waited run front back j c r place hider within w at message.Wstop 8 refl wstop-read calls p.0 in (
          p.0,
          (
            (λ accepted. made.0 (calm-accepted accepted)),
            ((λ errno refused. made.0 (calm-refused errno refused)), made.1),
          ),
        )
    first-made (looks at idle within) =
        let p = at-place Nothing ReadingLwps idle at in
        let d = due-first run front back j c r place hider within w at p.0 in
        let is = sym (same_Some _ c (staged run front back j c r place hider ReadingLwps at idle)) in (
          ap (λ f. has_flags f clear_fault) d.flags ∙ none-clears,
          (
            leads-told run front back j c r place hider within w at is p.0 p.1,
            done-told run front back j c r place hider within w at is p.0 p.1,
          ),
        )
    first-made (reads_text l from len at idle within) =
        done-quiet run front back j c r place hider within
        (ap acts_by (sym (same_Some _ c (staged run front back j c r place hider (ReadingText 0 l from len) at idle))))
        (at-place Nothing (ReadingText 0 l from len) idle at)
    first-made (lifts_all clear at is within) = lifts-made within clear is
    first-made (closes_files at idle within) = λ u left attached.
        done-closed run front back j c r place hider within
        (sym (same_Some _ c (staged run front back j c r place hider (Closing 0 GoOn) at idle))) u left
        (at-place Nothing (Closing 0 GoOn) idle at attached)
    first-made (has_ended at idle) = tt
