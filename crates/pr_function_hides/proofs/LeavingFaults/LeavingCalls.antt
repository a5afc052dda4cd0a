use Rattle.std.proofs.Common.{◌≡◌, ◌≢◌, ◌<◌, ◌++◌, ℕ, Bool, true, Option, Some, None, List, [], ◌∷◌}
use Rattle.std.proofs.Common.{length, refl, sym, subst, ap, ◌∙◌, inl, inr}
use Rattle.std.proofs.lemmas.Bool.{cases_eq}
use Rattle.std.proofs.lemmas.Option.{none-some, same_Some}
use Rattle.pr_api.specs.Entries.{call_entry}
use Rattle.pr_function_hides.proofs.GoingOn.CalmCalls as Calm
use Rattle.pr_function_hides.proofs.Closing.ClosingCalls.{last-pid}
use Rattle.pr_function_hides.proofs.LeavingCopies.CopyHalts.{BeginLeaving, sent-left, stop-leaves, wstop-leaves}
use Rattle.pr_function_hides.proofs.LeavingCopies.CopyLeft.{alone-left}
use Rattle.pr_function_hides.proofs.StandingFaults.CountedFaults.{called-more}
use Rattle.pr_function_hides.proofs.Tidy.CalledCovers.{ctl-still}
use Rattle.pr_function_hides.proofs.FaultStops.LeftCalls.{lost-attached}
use Rattle.pr_function_hides.proofs.Tidy.StillMessages.{BeginStill, stop-still, wstop-still}
use Rattle.pr_function_hides.proofs.FaultStops.StoppedCalls as Away
use Rattle.pr_hidden.specs.Hiders.{covers_called, patch_at}
use Rattle.pr_truss_laws.proofs.EventStops.AloneLemmas.{alone-frozen}
use Rattle.pr_function_hides.proofs.LeavingFaults.LeavingMet.{IsDue, LeftMet, WasNew, WasOpened, due-alike, met-alike}
use Rattle.pr_function_hides.proofs.LeavingFaults.LeavingSent.{IsAsked, alone-lasts, asked-lasts, stands-on, stands-unmarked}
use Rattle.pr_function_hides.proofs.LeavingFaults.LeavingSent.{stop-sent, wstop-sent}
use Rattle.pr_function_hides.proofs.Replies.LeavingStages.{IsLeft, asks, awaits, closes_files, halts, has_ended, lifts_all}
use Rattle.pr_function_hides.proofs.Replies.LeavingStages.{looks, reads_text, waits_again, with_fewer, with_no_marks}
use Rattle.pr_function_hides.proofs.Replies.LeavingWalk.{After, Rest}
use Rattle.pr_function_hides.proofs.StandingFaults.OwnFaults.{CountLess, alone-old, less-clean, old-stand}
use Rattle.pr_function_hides.proofs.CodeThere.StepCode.{own-step}
use Rattle.pr_function_hides.proofs.Tidy.TidyCalls as Calls
use Rattle.pr_function_hides.proofs.Tidy.TidyEntries.{its-legal, now-is}
use Rattle.pr_function_hides.proofs.Tidy.TidyKept.{Kept}
use Rattle.pr_function_hides.specs.RunsOfTrusses.{IsRunOfTrusses}
use Rattle.pr_function_hides.proofs.Replies.TreatedEvents.{first-of-none}
use Rattle.pr_function_laws.proofs.NextCalls.PatchCalls.{next-beside, next-staged}
use Rattle.pr_function_laws.specs.Stretches.{acts_by}
use Rattle.pr_hidden.specs.Covers.{Cover, Covers}
use Rattle.pr_hidden.specs.Hiders.{Hiders, covers_at, hides}
use Rattle.pr_model.specs.Handles.{handle_of}
use Rattle.pr_model.specs.Legal.{state_after}
use Rattle.pr_model.specs.State.{TracedProcess, TracedState, live_process}
use Rattle.pr_model.specs.declared.calls.Call.{Call}
use Rattle.pr_model.specs.declared.calls.Call.TheVariants as call
use Rattle.pr_model.specs.declared.calls.Reply.{Reply}
use Rattle.pr_model.specs.declared.events.Entry.{Entry}
use Rattle.pr_model.specs.declared.handles.Held.{Held}
use Rattle.pr_num.specs.Messages.{spelling}
use Rattle.pr_num.specs.declared.messages.Message.TheVariants as message
use Rattle.pr_report_laws.proofs.Invariant.StandLemmas.{Each}
use Rattle.pr_truss.specs.Asides.{marks_at}
use Rattle.pr_truss.specs.FunctionCalls.{call_beside, function_call_of, patch_call}
use Rattle.pr_truss.specs.Marks.{first_function, has_functions, no_functions}
use Rattle.pr_truss.specs.Messages.{message_call}
use Rattle.pr_truss.specs.NextCalls.{call_of}
use Rattle.pr_truss.specs.Processes.{last_handle, without_last}
use Rattle.pr_truss.specs.Trusses.{TrussState, traced_at}
use Rattle.pr_truss.specs.declared.asides.Aside.{Aside}
use Rattle.pr_truss.specs.declared.asides.Aside.TheVariants.{Asking, AwaitingAgain, AwaitingStop, Nothing, Patching}
use Rattle.pr_truss.specs.declared.processes.Traced.{Traced}
use Rattle.pr_truss.specs.declared.stages.AfterClosing.TheVariants.{GoOn}
use Rattle.pr_truss.specs.declared.stages.Stage.{Stage}
use Rattle.pr_truss.specs.declared.stages.Stage.TheVariants.{Closing, Finished, ReadingLwps, ReadingText, Unfollowing}
use Rattle.pr_truss_laws.proofs.Machine.OverLemmas.{stays-over}
use Rattle.pr_truss_laws.proofs.Replies.ReplySteps.{lost-same}
use Rattle.pr_world.specs.ControllerStates.{ControllerState}

-- What a call of a truss that leaves its processes makes of what is so of each of them.

module _ {n : ℕ} {who : Hiders} {controllers : List ControllerState} {first : TracedState}
    {h : List Entry} (run : IsRunOfTrusses n who controllers first h) (front back : List Entry) (j : ℕ) (c : Call)
    (r : Reply) (place : h ≡ front ++ call_entry j c r ∷ back) (hider : hides who j ≡ true) where
  abbrev here : List Entry → TracedState
  here front = state_after first front

  abbrev covers : List Entry → Covers
  covers front = covers_at who first front

  abbrev e : Entry
  e = call_entry j c r

  abbrev later_front : List Entry
  later_front = front ++ e ∷ []

  abbrev v : TracedState
  v = here front

  abbrev t : TrussState
  t = Calm.tr run front back j c r place hider

  abbrev kept-now : Kept who controllers first h front
  kept-now = Calm.kept-now run front back j c r place

  pub has : has_functions t.options ≡ true
  has = Calm.has run front back j c r place hider

  pub staged : (stage : Stage) → t.stage ≡ stage → t.aside ≡ Nothing → function_call_of t stage ≡ Some c
  staged stage is idle =
      sym (next-staged t.options has t stage refl idle is) ∙ Calm.next run front back j c r place hider

  pub beside : (aside : Aside) → t.aside ≡ aside → call_beside t t.stage aside ≡ Some c
  beside aside is =
      sym (next-beside t.options has t refl ∙ ap (call_beside t t.stage) is)
      ∙ Calm.next run front back j c r place hider

  abbrev AwayFrom : ℕ → Type 0
  AwayFrom pid = (m : ℕ) (held : Held) → acts_by c ≡ Some m → handle_of v.opens j m ≡ Some held → held.pid ≢ pid

  -- no fewer lwps of a process count, unless its control file is closed
  pub more-stay : (pid : ℕ)
      → ((number : ℕ) (x : Held) → c ≡ call.Close number → handle_of v.opens j number ≡ Some x → x.pid ≢ pid)
      → CountLess (covers later_front pid) (covers front pid)
  more-stay pid shut id is =
      ap (λ (d : Cover). d.faulted id) (Calm.called-cover run front back j c r place pid)
      ∙ called-more who run.are.no_probes (covers front) v j pid c r (λ number x closes there both. shut number x closes
      there) id is

  pub over-own : (let own = Calls.own run front back j c r place kept-now hider in
      (at : ℕ) → at < v.system.made → live_process v.system at ≡ None
      → live_process own.answer.state.system at ≡ None)
  over-own at made none =
      let own = Calls.own run front back j c r place kept-now hider in
      ap (λ (y : TracedState). live_process y.system at) own.later
      ∙ stays-over n v e at (Calm.lawful run front back j c r place hider)
      (its-legal run front e back place kept-now) made none

  pub answered-is : (let own = Calls.own run front back j c r place kept-now hider in
      own.answer.state ≡ here later_front)
  answered-is =
      let own = Calls.own run front back j c r place kept-now hider in
      own.later ∙ sym (now-is run front e back place kept-now)

  -- ---- a process on which it does not act

  module _ (t0 : TrussState) (due : ℕ → Bool) where
    abbrev Was : Traced → Type 0
    Was = LeftMet run front t0 due t.options

    abbrev Now : Traced → Type 0
    Now = LeftMet run later_front t0 due t.options

    away-met : (i : ℕ) → i < length t.traced → AwayFrom (traced_at t i).pid → Was (traced_at t i)
        → Now (traced_at t i)
    away-met i inside away w = (
      w.0,
      λ is_due opened.
          let d = w.1 is_due opened in
          record {
            flags = d.flags;
            known = d.known;
            code = λ new.
                own-step run front back j c r place hider i inside
                (λ number x closes there its. absurd (away number x (ap acts_by closes) there its)) (d.code new);
            stands = λ x later.
                let was = Calm.own-alone run front back j c r place hider i inside away x later in
                stands-on t.options (WasNew t0 (traced_at t i).pid) (marks_at t i) (covers front (traced_at t i).pid)
                (covers later_front (traced_at t i).pid) was.0 x (alone-left was.0 x was.1.1)
                (alone-lasts was.0 x was.1.1)
                (more-stay (traced_at t i).pid (λ number x closes there. away number x (ap acts_by closes) there))
                (d.stands was.0 was.1.0);
            rests = λ settled new x later.
                let was = Calm.own-alone run front back j c r place hider i inside away x later in
                old-stand (covers front (traced_at t i).pid) (covers later_front (traced_at t i).pid) was.0 x
                (Away.less-now run front back j c r place (traced_at t i).pid) (alone-old was.0 x was.1.1)
                (λ at g there. (
                  g,
                  ap (patch_at at) (Calm.away-patches run front back j c r place (traced_at t i).pid away) ∙ there,
                )) (d.rests settled new was.0 was.1.0);
            calm = λ settled old x later.
                let was = Calm.own-alone run front back j c r place hider i inside away x later in
                let so = d.calm settled old was.0 was.1.0 in (
                  alone-frozen was.0 x was.1.1 so.0,
                  less-clean (covers front (traced_at t i).pid) (covers later_front (traced_at t i).pid)
                      (Away.less-now run front back j c r place (traced_at t i).pid) so.1,
                );
          },
    )

    quiet-away : acts_by c ≡ None → (pid : ℕ) → AwayFrom pid
    quiet-away none pid m held acts there = absurd (none-some m (sym none ∙ acts))

    pub quiet-met : acts_by c ≡ None → Each Was t.traced → Each Now t.traced
    quiet-met none all i inside = away-met i inside (quiet-away none (traced_at t i).pid) (all i inside)

    apart-pid : (i : ℕ) → i < length t.traced → 0 < length t.traced → i ≢ 0 → (traced_at t 0).pid ≢ (traced_at t i).pid
    apart-pid i inside within other =
        let f = Calm.files run front e back place j hider in
        f.apart 0 i within inside (λ same. other (sym same))

    -- it acts on the first
    control-away : 0 < length t.traced → (bytes : List ℕ) → c ≡ call.Ctl (traced_at t 0).control bytes → (i : ℕ)
        → i < length t.traced → i ≢ 0 → AwayFrom (traced_at t i).pid
    control-away within bytes is i inside other m held acts there same =
        let f = Calm.files run front e back place j hider in
        let its : (traced_at t 0).control ≡ m = same_Some _ m (ap acts_by (sym is) ∙ acts) in
        apart-pid i inside within other
        (ap (λ (x : Held). x.pid)
        (same_Some _ held (sym (f.control 0 within) ∙ ap (handle_of v.opens j) its ∙ there)) ∙ same)

    close-away : 0 < length t.traced → c ≡ call.Close (last_handle (traced_at t 0)) → (i : ℕ) → i < length t.traced
        → i ≢ 0 → AwayFrom (traced_at t i).pid
    close-away within is i inside other m held acts there same =
        let w = Calm.truss run front e back place j hider in
        let its : last_handle (traced_at t 0) ≡ m = same_Some _ m (ap acts_by (sym is) ∙ acts) in
        apart-pid i inside within other
        (last-pid j v (traced_at t 0) (w.files 0 within) held (ap (handle_of v.opens j) its ∙ there) ∙ same)

    -- ---- the first, where it is asked to stop

    asked-met : 0 < length t.traced → (bytes : List ℕ) → c ≡ call.Ctl (traced_at t 0).control bytes
        → BeginLeaving bytes → BeginStill bytes
        → ((x : TracedProcess) → live_process (here later_front).system (traced_at t 0).pid ≡ Some x
        → (p : TracedProcess) × ((live_process v.system (traced_at t 0).pid ≡ Some p) × IsAsked p x))
        → Was (traced_at t 0) → Now (traced_at t 0)
    asked-met within bytes is begins still sent w = (
      w.0,
      λ is_due opened.
          let d = w.1 is_due opened in
          record {
            flags = d.flags;
            known = d.known;
            code = λ new.
                own-step run front back j c r place hider 0 within
                (λ number x closes there its. absurd (never number closes)) (d.code new);
            stands = λ x later.
                let was = sent x later in
                let own = Calls.own run front back j c r place kept-now hider in
                let f = Calm.files run front e back place j hider in
                let left =
                sent-left n j t.options v (Calm.lawful run front back j c r place hider) c own.answer own.is over-own
                (traced_at t 0).pid (traced_at t 0).control bytes is (f.control 0 within) begins x
                (ap (λ (y : TracedState). live_process y.system (traced_at t 0).pid) answered-is ∙ later) in
                let same : left.0 ≡ was.0 = same_Some left.0 was.0 (sym left.1.0 ∙ was.1.0) in
                stands-on t.options (WasNew t0 (traced_at t 0).pid) (marks_at t 0) (covers front (traced_at t 0).pid)
                (covers later_front (traced_at t 0).pid) left.0 x left.1.1
                (asked-lasts left.0 x (subst (λ (y : TracedProcess). IsAsked y x) (sym same) was.1.1))
                (more-stay (traced_at t 0).pid (λ number y closes there. absurd (never number closes)))
                (d.stands left.0 left.1.0);
            rests = λ settled new x later.
                let was = sent x later in
                let lasts = asked-lasts was.0 x was.1.1 in
                old-stand (covers front (traced_at t 0).pid) (covers later_front (traced_at t 0).pid) was.0 x
                (Away.less-now run front back j c r place (traced_at t 0).pid) lasts.old
                (λ at g there. (g, ap (patch_at at) same-patches ∙ there)) (d.rests settled new was.0 was.1.0);
            calm = λ settled old x later.
                let was = sent x later in
                let lasts = asked-lasts was.0 x was.1.1 in
                let so = d.calm settled old was.0 was.1.0 in (
                  lasts.still so.0,
                  less-clean (covers front (traced_at t 0).pid) (covers later_front (traced_at t 0).pid)
                      (Away.less-now run front back j c r place (traced_at t 0).pid) so.1,
                );
          },
    )
      where
        same-patches : (covers later_front (traced_at t 0).pid).patches ≡ (covers front (traced_at t 0).pid).patches
        same-patches =
            ap (λ (d : Cover). d.patches)
            (Calm.called-cover run front back j c r place (traced_at t 0).pid
            ∙ ap (λ (d : Call). covers_called who (covers front) v j d r (traced_at t 0).pid) is)
            ∙ (let stays =
            ctl-still who run.are.no_probes (covers front) v j (traced_at t 0).pid (traced_at t 0).control bytes r still
            in stays.patches)

        never : (number : ℕ) → c ≡ call.Close number → ⊥
        never number closes =
            let both : call.Ctl (traced_at t 0).control bytes ≡ call.Close number = sym is ∙ closes in cc

    -- all of them, where the first is asked
    ask-met : (within : 0 < length t.traced) → Each Was t.traced → (bytes : List ℕ)
        → c ≡ call.Ctl (traced_at t 0).control bytes → Now (traced_at t 0) → Each Now t.traced
    ask-met within all bytes is one i inside = elim (cases_eq i 0) [
      | inl same ↦ subst (λ m. Now (traced_at t m)) (sym same) one
      | inr other ↦ away-met i inside (control-away within bytes is i inside other) (all i inside)
    ]

    stop-met : (within : 0 < length t.traced) → Each Was t.traced
        → c ≡ message_call (traced_at t 0).control message.Stop → Each Now t.traced
    stop-met within all is =
        let own = Calls.own run front back j c r place kept-now hider in
        let f = Calm.files run front e back place j hider in
        ask-met within all (spelling message.Stop []) is
        (asked-met within (spelling message.Stop []) is stop-leaves stop-still
        (λ x later.
        stop-sent n j t.options v (Calm.lawful run front back j c r place hider) c own.answer own.is over-own
        (traced_at t 0).pid (traced_at t 0).control (f.control 0 within) is x
        (ap (λ (y : TracedState). live_process y.system (traced_at t 0).pid) answered-is ∙ later)) (all 0 within))

    wstop-met : (within : 0 < length t.traced) → Each Was t.traced
        → c ≡ message_call (traced_at t 0).control message.Wstop → Each Now t.traced
    wstop-met within all is =
        let own = Calls.own run front back j c r place kept-now hider in
        let f = Calm.files run front e back place j hider in
        ask-met within all (spelling message.Wstop []) is
        (asked-met within (spelling message.Wstop []) is wstop-leaves wstop-still
        (λ x later.
        wstop-sent n j t.options v (Calm.lawful run front back j c r place hider) c own.answer own.is over-own
        (traced_at t 0).pid (traced_at t 0).control (f.control 0 within) is x
        (ap (λ (y : TracedState). live_process y.system (traced_at t 0).pid) answered-is ∙ later)) (all 0 within))

    -- ---- one at which truss has looked

    undue-met : (u : Traced) → (u.attached ≡ true → WasOpened t0 u.pid) → (due u.pid ≡ true → ⊥) → Now u
    undue-met u attached none = (attached, λ is_due opened. absurd (none is_due))

    -- the memory was replaced
    unmarked-met : Now (traced_at t 0) → Now (with_no_marks (traced_at t 0))
    unmarked-met w = (
      w.0,
      λ is_due opened.
          let d = w.1 is_due opened in
          record {
            flags = refl;
            known = d.known;
            code = λ new step under_way f named. absurd (none-some step under_way);
            stands = λ x later.
                stands-unmarked t.options (WasNew t0 (traced_at t 0).pid) (marks_at t 0)
                (covers later_front (traced_at t 0).pid) x (d.stands x later);
            rests = d.rests;
            calm = d.calm;
          },
    )

    -- ---- a row a place

    pub patch-is : (lift : Option ℕ)
        → Some (patch_call t.options (traced_at t 0).control None lift) ≡ Some c
        → (bytes : List ℕ) × (c ≡ call.Ctl (traced_at t 0).control bytes)
    patch-is (Some i) is = (_, sym (same_Some _ c is))
    patch-is None is = (_, sym (same_Some _ c is))

    lost-met : (u : Option Traced) → without_last (traced_at t 0) ≡ u → Was (traced_at t 0)
        → (due (traced_at t 0).pid ≡ true → ⊥)
        → Rest Now (met-alike run later_front t0 due t.options) (IsDue t0 due) (due-alike t0 due) u
    lost-met None is w none = tt
    lost-met (Some u) is w none =
        let same = lost-same (traced_at t 0) u is in
        undue-met u
        (λ attached. subst (WasOpened t0) (sym same.pid) (w.0 (sym (lost-attached (traced_at t 0) u is) ∙ attached)))
        (λ is_due. none (ap due (sym same.pid) ∙ is_due))

    pub left-made : (w : IsLeft t) → Each Was t.traced
        → (t.stage ≡ Closing 0 GoOn → due (traced_at t 0).pid ≡ true → ⊥)
        → After Now (met-alike run later_front t0 due t.options) (IsDue t0 due) (due-alike t0 due) t r w
    unfolding call_beside function_call_of call_of
    left-made (halts at idle within) all done =
        stop-met within all (sym (same_Some _ c (staged Unfollowing at idle)))
    left-made (awaits until at is within) all done =
        quiet-met (ap acts_by (sym (same_Some _ c (beside (AwaitingStop until) is)))) all
    left-made (asks at is within) all done = wstop-met within all (sym (same_Some _ c (beside Asking is)))
    left-made (waits_again until at is within) all done =
        quiet-met (ap acts_by (sym (same_Some _ c (beside (AwaitingAgain until) is)))) all
    left-made (looks at idle within) all done =
        let now = quiet-met (ap acts_by (sym (same_Some _ c (staged ReadingLwps at idle)))) all in
        (now, λ tells. unmarked-met (now 0 within))
    left-made (reads_text l from len at idle within) all done =
        quiet-met (ap acts_by (sym (same_Some _ c (staged (ReadingText 0 l from len) at idle)))) all
    left-made (lifts_all clear at is within) all done =
        let sent =
        patch-is (first_function (marks_at t 0).planted)
        (sym (ap (λ plant. Some (patch_call t.options (traced_at t 0).control plant
        (first_function (marks_at t 0).planted))) first-of-none)
        ∙ beside (Patching 0 no_functions (marks_at t 0).planted clear) is) in
        let w = all 0 within in (
          (λ i inside other. away-met i inside (control-away within sent.0 sent.1 i inside other) (all i inside)),
          undue-met (with_fewer (traced_at t 0)) w.0 (done at),
        )
    left-made (closes_files at idle within) all done =
        let is : c ≡ call.Close (last_handle (traced_at t 0)) =
        sym (same_Some _ c (staged (Closing 0 GoOn) at idle)) in (
          (λ i inside other. away-met i inside (close-away within is i inside other) (all i inside)),
          lost-met (without_last (traced_at t 0)) refl (all 0 within) (done at),
        )
    left-made (has_ended at idle) all done = absurd (none-some c (staged Finished at idle))
