use Rattle.std.proofs.Common.{◌≡◌, ◌≢◌, ◌<◌, ◌++◌, ℕ, Bool, true, false, not, cond, is_some, Option, Some, None, List}
use Rattle.std.proofs.Common.{[], ◌∷◌, length, refl, sym, subst, ap, ◌∙◌, inl, inr}
use Rattle.std.proofs.lemmas.Bool.{cases_eq, eq-eqb, ne_eqb}
use Rattle.std.proofs.lemmas.Option.{none-some, same_Some}
use Rattle.pr_api.specs.Entries.{call_entry}
use Rattle.pr_function_hides.proofs.Clean.CleanCalls.{Closes, Leaves, Opens, Over}
use Rattle.pr_function_hides.proofs.Closing.ClosingCalls.{last-pid}
use Rattle.pr_function_hides.proofs.Replies.ClosingWalk.{StageSo}
use Rattle.pr_function_hides.proofs.Copying.CopyActs.{read-closed}
use Rattle.pr_function_hides.proofs.LeavingCopies.CopyBegins.{waits-act}
use Rattle.pr_function_laws.proofs.LeavingProcesses.LeavingWaits.{WaitsAt, awaits_opening, polls, waits-at}
use Rattle.pr_function_hides.proofs.Copying.CopyClosing.{last-read}
use Rattle.pr_function_hides.proofs.LeavingCopies.CopyHalts.{BeginLeaving, cfault-leaves, sent-left, stop-leaves, write-leaves}
use Rattle.pr_function_hides.proofs.LeavingCopies.CopyHalts.{wstop-leaves}
use Rattle.pr_function_hides.proofs.LeavingCopies.CopyLeft.{IsLeftSo, alone-left, same-left}
use Rattle.pr_function_hides.proofs.LeavingCopies.CopyStill.{may-can}
use Rattle.pr_function_hides.proofs.Files.FilesCalls.{Files}
use Rattle.pr_function_hides.proofs.Replies.FilesWalk.{SameFiles}
use Rattle.pr_function_hides.proofs.GoingOn.KnownTrusses.{KnownOf, known-on}
use Rattle.pr_function_hides.proofs.Replies.LeavingStages.{IsLeft, asks, awaits, closes_files, halts, has_ended, lifts_all}
use Rattle.pr_function_hides.proofs.Replies.LeavingStages.{looks}
use Rattle.pr_function_hides.proofs.Replies.LeavingStages.{reads_text, waits_again}
use Rattle.pr_function_hides.proofs.Replies.LeavingWalk.{After, Left, Rest, begins-left, fed-left}
use Rattle.pr_function_hides.proofs.Replies.OwnFiles.{GoesOn, HasItsFiles}
use Rattle.pr_function_hides.proofs.Files.StandingTrusses.{StandsSo, awaits-free, opens-attached, polls-attached}
use Rattle.pr_function_hides.proofs.Files.StandingTrusses.{stands-there}
use Rattle.pr_function_hides.proofs.FaultStops.StoppedCalls as Away
use Rattle.pr_function_hides.proofs.FaultStops.StoppedFaults.{LeftAs, LeftIn, Posted, left-stays}
use Rattle.pr_function_hides.proofs.Tidy.TidyCalls as Calls
use Rattle.pr_function_hides.proofs.Tidy.TidyEntries.{its-lawful, its-legal, now-is}
use Rattle.pr_function_hides.proofs.Tidy.TidyKept.{Kept, Truss}
use Rattle.pr_function_hides.proofs.Replies.TreatedEvents.{first-of-none}
use Rattle.pr_function_hides.specs.RunsOfTrusses.{IsRunOfTrusses}
use Rattle.pr_function_hides.specs.Treating.{is_run_soon}
use Rattle.pr_function_laws.proofs.Pending.KnownFiles.{Knows}
use Rattle.pr_function_laws.proofs.OpenedProcesses.OpenedLaws.{goes-opened}
use Rattle.pr_function_laws.proofs.OpenedProcesses.OpenedLemmas.{Holds}
use Rattle.pr_function_laws.proofs.OrdinaryTruss.OrdinaryFiles.{entry-calm}
use Rattle.pr_function_laws.proofs.NextCalls.PatchCalls.{next-beside, next-staged}
use Rattle.pr_function_laws.specs.Opened.{is_opened}
use Rattle.pr_function_laws.specs.Soon.{may_wait}
use Rattle.pr_function_laws.specs.Stretches.{acts_by}
use Rattle.pr_hidden.specs.Covers.{Covers}
use Rattle.pr_hidden.specs.Hiders.{Hiders, covers_at, hides}
use Rattle.pr_model.specs.Handles.{handle_of}
use Rattle.pr_model.specs.Lawful.{IsLawful}
use Rattle.pr_model.specs.Legal.{state_after}
use Rattle.pr_model.specs.State.{TracedProcess, TracedState, TracedSystem, live_process}
use Rattle.pr_model.specs.declared.calls.Call.{Call}
use Rattle.pr_model.specs.declared.calls.Call.TheVariants as call
use Rattle.pr_model.specs.declared.calls.Reply.{Reply}
use Rattle.pr_model.specs.declared.calls.Reply.TheVariants as reply
use Rattle.pr_model.specs.declared.events.Entry.{Entry}
use Rattle.pr_model.specs.declared.handles.Held.{Held}
use Rattle.pr_num.specs.Limits.{instruction_size}
use Rattle.pr_num.specs.declared.errnos.Errno.TheVariants.{Intr}
use Rattle.pr_report_laws.proofs.Invariant.StandLemmas.{Each, EachBut}
use Rattle.pr_truss.specs.Asides.{marks_at}
use Rattle.pr_truss.specs.FunctionCalls.{call_beside, function_call_of, next_function_call_of, patch_call}
use Rattle.pr_truss.specs.FunctionFeeding.{fed_functions}
use Rattle.pr_truss.specs.Marks.{address_of, code_of, first_function, has_functions, no_functions}
use Rattle.pr_truss.specs.NextCalls.{call_of}
use Rattle.pr_truss.specs.Processes.{last_handle, without_last}
use Rattle.pr_truss.specs.Replies.{answer_of}
use Rattle.pr_truss.specs.Trusses.{TrussState, traced_at}
use Rattle.pr_truss.specs.declared.asides.Aside.{Aside}
use Rattle.pr_truss.specs.declared.asides.Aside.TheVariants.{Asking, AwaitingAgain, AwaitingStop, Nothing, Patching}
use Rattle.pr_truss.specs.declared.processes.Traced.{Traced}
use Rattle.pr_truss.specs.declared.replies.Answer.TheVariants.{Interrupted}
use Rattle.pr_truss.specs.declared.stages.AfterClosing.TheVariants.{GoOn}
use Rattle.pr_truss.specs.declared.stages.OpeningStep.TheVariants as opening
use Rattle.pr_truss.specs.declared.stages.Stage.{Stage}
use Rattle.pr_truss.specs.declared.stages.Stage.TheVariants.{Closing, Finished}
use Rattle.pr_truss.specs.declared.stages.Stage.TheVariants.{ReadingLwps, ReadingText}
use Rattle.pr_truss.specs.declared.stages.Stage.TheVariants.{Unfollowing}
use Rattle.pr_truss_laws.proofs.Replies.AnswerLemmas.{IsAnswer, answer-is}
use Rattle.pr_truss_laws.proofs.Machine.OverLemmas.{stays-over}
use Rattle.pr_truss_laws.proofs.Replies.ReplySteps.{lost-same}
use Rattle.pr_world.specs.ControllerStates.{ControllerState}

-- A call of a truss that leaves its processes, or begins to, leaves each lwp of those that stopped for it on the stop
-- of a fault of its own, or clears that; and so it is until the control file of the process is closed. One whose
-- opening had not come to its stop will stop before it does anything.

-- ---- a file that is closed

pub lost-attached : (t u : Traced) → without_last t ≡ Some u → u.attached ≡ t.attached
unfolding without_last
lost-attached t u is = by t.memory t.lstatus t.status is
  where
    by : (memory lstatus status : Option ℕ)
        → cond (is_some memory) (Some (record t { memory = None }))
        (cond (is_some lstatus) (Some (record t { lstatus = None }))
        (cond (is_some status) (Some (record t { status = None })) None)) ≡ Some u → u.attached ≡ t.attached
    by (Some m) lstatus status found = ap (λ (x : Traced). x.attached) (sym (same_Some _ u found))
    by None (Some l) status found = ap (λ (x : Traced). x.attached) (sym (same_Some _ u found))
    by None None (Some f) found = ap (λ (x : Traced). x.attached) (sym (same_Some _ u found))
    by None None None found = absurd (none-some u found)

-- ---- a call

module _ {n : ℕ} {who : Hiders} {controllers : List ControllerState} {first : TracedState}
    {h : List Entry} (run : IsRunOfTrusses n who controllers first h) (front back : List Entry)
    (j : ℕ) (c : Call) (r : Reply) (place : h ≡ front ++ call_entry j c r ∷ back)
    (posted : Posted run front) (hider : hides who j ≡ true) where
  abbrev here : List Entry → TracedState
  here front = state_after first front

  abbrev covers : List Entry → Covers
  covers front = covers_at who first front

  abbrev e : Entry
  e = call_entry j c r

  abbrev later_front : List Entry
  later_front = front ++ e ∷ []

  abbrev v : TracedState
  v = here front

  abbrev kept-now : Kept who controllers first h front
  kept-now = Away.kept-now run front back j c r place

  abbrev tr : TrussState
  tr = Calls.tr run front back j c r place kept-now hider

  abbrev u : TrussState
  u = fed_functions tr r

  truss : Truss who controllers first h front j
  truss = Calls.truss-now run front back j c r place kept-now hider

  files : HasItsFiles j tr v
  files = Calls.files-now run front back j c r place kept-now hider

  has : has_functions tr.options ≡ true
  has = Calls.has run front back j c r place kept-now hider

  next : next_function_call_of tr ≡ Some c
  next = Calls.next run front back j c r place kept-now hider

  lawful : IsLawful v
  lawful = its-lawful run front e back place kept-now

  follow : tr.options.follow ≡ false
  follow = let w = Calls.truss-now run front back j c r place kept-now hider in w.follow

  apart : (i k : ℕ) → i < length tr.traced → k < length tr.traced → i ≢ k
      → (traced_at tr i).pid ≢ (traced_at tr k).pid
  apart = let w = Calls.truss-now run front back j c r place kept-now hider in w.apart

  abbrev WasSo : Traced → Type 0
  WasSo x = LeftAs run front x.attached x.pid

  abbrev S : Traced → Type 0
  S x = LeftAs run later_front x.attached x.pid

  s-alike : (x y : Traced) → SameFiles x y → y.attached ≡ x.attached → y.marks ≡ x.marks → S x → S y
  s-alike x y same attached marks it =
      subst (λ b. LeftAs run later_front b y.pid) (sym attached)
      (subst (λ i. LeftAs run later_front x.attached i) (sym same.pid) it)

  -- nothing is asked of old stops
  abbrev none_old : Traced → Type 0
  none_old x = Unit {0}

  as-old : (x y : Traced) → SameFiles x y → y.attached ≡ x.attached → y.old ≡ x.old → y.seen ≡ x.seen
      → none_old x → none_old y
  as-old x y same attached old seen it = it

  -- ---- one process

  stays : (x : Traced)
      → ((q : TracedProcess) → live_process (here later_front).system x.pid ≡ Some q
      → (p : TracedProcess) × ((live_process v.system x.pid ≡ Some p) × IsLeftSo p q)) → WasSo x → S x
  stays x steps =
      left-stays run front later_front x.attached x.pid (Away.less-now run front back j c r place x.pid) steps

  away-one : (i : ℕ) → i < length tr.traced → Away.AwayFrom run front back j c r place (traced_at tr i).pid
      → WasSo (traced_at tr i) → S (traced_at tr i)
  away-one i inside away =
      stays (traced_at tr i) (λ q later.
      let it = Away.own-alone run front back j c r place hider i inside away q later in
      (it.0, (it.1.0, alone-left it.0 q it.1.1)))

  -- by a call that acts by no handle
  quiet-one : acts_by c ≡ None → (i : ℕ) → i < length tr.traced → WasSo (traced_at tr i) → S (traced_at tr i)
  quiet-one none i inside = away-one i inside (λ m held acts there at. none-some m (sym none ∙ acts))

  over : (let own = Calls.own run front back j c r place kept-now hider in
      (at : ℕ) → at < v.system.made → live_process v.system at ≡ None
      → live_process own.answer.state.system at ≡ None)
  over at made none =
      let own = Calls.own run front back j c r place kept-now hider in
      ap (λ (y : TracedState). live_process y.system at) own.later
      ∙ stays-over n v e at lawful (its-legal run front e back place kept-now) made none

  state-is : (let own = Calls.own run front back j c r place kept-now hider in
      own.answer.state ≡ here later_front)
  state-is =
      let own = Calls.own run front back j c r place kept-now hider in
      own.later ∙ sym (now-is run front e back place kept-now)

  -- by a message to it
  sent-one : (i : ℕ) → i < length tr.traced → (bytes : List ℕ) → c ≡ call.Ctl (traced_at tr i).control bytes
      → BeginLeaving bytes → WasSo (traced_at tr i) → S (traced_at tr i)
  sent-one i inside bytes is begins =
      let own = Calls.own run front back j c r place kept-now hider in
      let f = files in
      stays (traced_at tr i) (λ q later.
      sent-left n j tr.options v lawful c own.answer own.is over (traced_at tr i).pid (traced_at tr i).control bytes is
      (f.control i inside) begins q
      (ap (λ (y : TracedState). live_process y.system (traced_at tr i).pid) state-is ∙ later))

  -- ---- where it leaves its processes

  module _ (on : tr.leaving ≡ true) where
    was-so : (i : ℕ) → i < length tr.traced → WasSo (traced_at tr i)
    was-so i inside =
        let w = Calls.truss-now run front back j c r place kept-now hider in
        posted.left j hider w.t w.is on i inside

    quiet-so : (d : Call) → Some d ≡ Some c → acts_by d ≡ None → Each S tr.traced
    quiet-so d is none i inside =
        quiet-one (ap acts_by (sym (same_Some d c is)) ∙ none) i inside (was-so i inside)

    -- the call acts by the handle of the first process
    module _ (within : 0 < length tr.traced) where
      message-so : (bytes : List ℕ) → Some (call.Ctl (traced_at tr 0).control bytes) ≡ Some c → BeginLeaving bytes
          → Each S tr.traced
      message-so bytes same begins i inside = elim (cases_eq i 0) [
        | inl first_place ↦ sent-one i inside bytes
            (is ∙ ap (λ q. call.Ctl (traced_at tr q).control bytes) (sym first_place)) begins (was-so i inside)
        | inr other ↦ away-one i inside (beside other) (was-so i inside)
      ]
        where
          is : c ≡ call.Ctl (traced_at tr 0).control bytes
          is = sym (same_Some _ c same)

          beside : i ≢ 0 → Away.AwayFrom run front back j c r place (traced_at tr i).pid
          beside other m held acts there at =
              let f = files in
              let handle : (traced_at tr 0).control ≡ m = same_Some _ m (sym (ap acts_by is) ∙ acts) in
              apart 0 i within inside (λ zero_is. other (sym zero_is))
              (ap (λ (y : Held). y.pid)
              (same_Some _ held (sym (f.control 0 within) ∙ ap (handle_of v.opens j) handle ∙ there)) ∙ at)

      closed-so : Some (call.Close (last_handle (traced_at tr 0))) ≡ Some c
          → EachBut S tr.traced 0 × Rest S s-alike none_old as-old (without_last (traced_at tr 0))
      closed-so same = (
        λ i inside other. away-one i inside (beside i inside other) (was-so i inside),
        by (without_last (traced_at tr 0)) refl,
      )
        where
          is : c ≡ call.Close (last_handle (traced_at tr 0))
          is = sym (same_Some _ c same)

          its-files : Files j v (traced_at tr 0)
          its-files =
              let w = Calls.truss-now run front back j c r place kept-now hider in w.files 0 within

          beside : (i : ℕ) → i < length tr.traced → i ≢ 0
              → Away.AwayFrom run front back j c r place (traced_at tr i).pid
          beside i inside other m held acts there at =
              let handle : last_handle (traced_at tr 0) ≡ m = same_Some _ m (sym (ap acts_by is) ∙ acts) in
              apart 0 i within inside (λ zero_is. other (sym zero_is))
              (last-pid j v (traced_at tr 0) its-files held (ap (handle_of v.opens j) handle ∙ there) ∙ at)

          held : Holds j tr.options v (Some opening.OpenStatus) (traced_at tr 0).pid (traced_at tr 0).control
              (traced_at tr 0).status (traced_at tr 0).lstatus (traced_at tr 0).memory
          held = let f = its-files in record {
            its = f.control;
            its_status = f.status;
            its_lstatus = f.lstatus;
            its_memory = f.memory;
            known = tt;
            set = λ p live. tt;
          }

          -- another file of it is open: the one that is closed is open for reading
          system-same : (y : Traced) → without_last (traced_at tr 0) ≡ Some y → (here later_front).system ≡ v.system
          system-same y left =
              let own = Calls.own run front back j c r place kept-now hider in
              let t0 = traced_at tr 0 in
              let read = last-read j tr.options v t0 y t0.memory t0.lstatus t0.status held left in
              ap (λ (x : TracedState). x.system) (sym state-is)
              ∙ read-closed n j v lawful c own.answer own.is over (last_handle t0) read.0 read.1.0 read.1.1 is

          by : (y : Option Traced) → without_last (traced_at tr 0) ≡ y → Rest S s-alike none_old as-old y
          by None left = tt
          by (Some y) left =
              let same_files = lost-same (traced_at tr 0) y left in
              subst (λ b. LeftAs run later_front b y.pid) (sym (lost-attached (traced_at tr 0) y left))
              (subst (λ i. LeftAs run later_front (traced_at tr 0).attached i) (sym same_files.pid)
              (stays (traced_at tr 0) (λ q later. (
                q,
                (
                  ap (λ (s : TracedSystem). live_process s (traced_at tr 0).pid) (sym (system-same y left)) ∙ later,
                  same-left q q refl,
                ),
              )) (was-so 0 within)))

    staged : (stage : Stage) → tr.stage ≡ stage → tr.aside ≡ Nothing → function_call_of tr stage ≡ Some c
    staged stage is idle = sym (next-staged tr.options has tr stage refl idle is) ∙ next

    beside-is : (aside : Aside) → tr.aside ≡ aside → call_beside tr tr.stage aside ≡ Some c
    beside-is aside is =
        sym (next-beside tr.options has tr refl ∙ ap (call_beside tr tr.stage) is) ∙ next

    -- a breakpoint is lifted, or a fault cleared
    lifted-so : (within : 0 < length tr.traced) (lift : Option ℕ)
        → Some (patch_call tr.options (traced_at tr 0).control None lift) ≡ Some c → Each S tr.traced
    lifted-so within None is = message-so within _ is cfault-leaves
    lifted-so within (Some i) is =
        message-so within _ is (write-leaves (address_of tr.options i) instruction_size (code_of tr.options i))

    but-first : Each S tr.traced → EachBut S tr.traced 0
    but-first all i inside other = all i inside

    -- what the call has made so, a row a place
    made-so : (w : IsLeft tr) → After S s-alike none_old as-old tr r w
    unfolding call_beside function_call_of call_of
    made-so (halts is idle within) = message-so within _ (staged Unfollowing is idle) stop-leaves
    made-so (awaits until is aside within) = quiet-so _ (beside-is (AwaitingStop until) aside) refl
    made-so (asks is aside within) = message-so within _ (beside-is Asking aside) wstop-leaves
    made-so (waits_again until is aside within) = quiet-so _ (beside-is (AwaitingAgain until) aside) refl
    made-so (looks is idle within) =
        let all = quiet-so _ (staged ReadingLwps is idle) refl in (all, λ tells. all 0 within)
    made-so (reads_text l from len is idle within) = quiet-so _ (staged (ReadingText 0 l from len) is idle) refl
    made-so (lifts_all clear is aside within) =
        let all =
        lifted-so within (first_function (marks_at tr 0).planted)
        (sym (ap (λ plant. Some (patch_call tr.options (traced_at tr 0).control plant
        (first_function (marks_at tr 0).planted))) first-of-none)
        ∙ beside-is (Patching 0 no_functions (marks_at tr 0).planted clear) aside) in
        (but-first all, all 0 within)
    made-so (closes_files is idle within) = closed-so within (staged (Closing 0 GoOn) is idle)
    made-so (has_ended is idle) = absurd (none-some c (staged Finished is idle))

    left-later : IsLeft tr → Left S s-alike none_old as-old u
    left-later there =
        fed-left S s-alike none_old as-old tr r on follow has apart (λ q within still. tt) there (made-so there)

    -- it leaves them still, and so it is then
    pub leaves-on : IsLeft tr → u.leaving ≡ true
    leaves-on there = let w = left-later there in w.on

    pub left-then : IsLeft tr → (q : ℕ) → q < length u.traced
        → LeftAs run later_front (traced_at u q).attached (traced_at u q).pid
    left-then there q within = let w = left-later there in w.each q within

  -- ---- the first interrupt

  -- none counts as one at a fault of its own in a process whose stop it waits for
  module _ (g : GoesOn tr) (closes : Closes who first front tr) (interrupted : answer_of r ≡ Interrupted) where
    waits : may_wait c ≡ true
    unfolding IsAnswer
    waits =
        let broken : r ≡ reply.Fail Intr = subst (IsAnswer r) interrupted (answer-is r) in
        let calm =
        entry-calm n j v e (record { call = c; reply = r }) (its-legal run front e back place kept-now)
        (ap (λ b. cond b (Some (record { call = c; reply = r })) None) (eq-eqb j j refl)) in
        calm.waits broken

    facts : KnownOf run front j hider tr
    facts =
        let w = Calls.truss-now run front back j c r place kept-now hider in
        known-on run front (e ∷ back) place j hider w.t w.is g.off

    waiting : WaitsAt tr
    waiting =
        let w = facts in
        let k = w.knows in
        let at = waits-at tr.options has tr refl Knows c waits k.stage k.beside next in at.1

    stands : StandsSo tr
    stands =
        let w = Calls.truss-now run front back j c r place kept-now hider in
        stands-there run j hider front (e ∷ back) place w.t w.is

    -- one that it has opened stands so
    rested : (i : ℕ) → i < length tr.traced → is_opened tr.stage i ≡ true → is_run_soon tr.stage i ≡ false
        → LeftIn run front (traced_at tr i).pid
    rested i inside opened quiet p live =
        let w = Calls.truss-now run front back j c r place kept-now hider in
        let k = facts in
        let rests = posted.rests j hider w.t w.is g.off i inside opened quiet in
        let owns = goes-opened (Unit {0}) j _ tr v k.goes i inside opened in
        let all = owns.traces p live in
        let stops = all.stops in
        ((λ id x. (rests p live id x).0), stops.faults)

    as-attached : (i : ℕ) (b : Bool) → (traced_at tr i).attached ≡ b → LeftAs run front b (traced_at tr i).pid
        → WasSo (traced_at tr i)
    as-attached i b is it = subst (λ x. LeftAs run front x (traced_at tr i).pid) (sym is) it

    was-begun : (i : ℕ) → i < length tr.traced → WasSo (traced_at tr i)
    was-begun i inside = by waiting
      where
        by : WaitsAt tr → WasSo (traced_at tr i)
        by (awaits_opening q until at) = elim (cases_eq i q) [
          | inl same ↦
              (let w =
              subst (StageSo (Over who first front) (Opens who first front) (Leaves who first front) tr) at closes.stage
              in
              subst (λ m. WasSo (traced_at tr m)) (sym same)
              (as-attached q false (awaits-free tr stands g.off q until at) (w.0, w.1)))
          | inr other ↦
              as-attached i true (opens-attached tr stands g.off q (opening.AwaitStop until) at i inside other)
              (rested i inside
              (ap (λ st. is_opened st i) at ∙ ap not (ne_eqb q i (λ same. other (sym same))))
              (ap (λ st. is_run_soon st i) at))
        ]
        by (polls at) =
            as-attached i true (polls-attached tr stands g.off at i inside)
            (rested i inside (ap (λ st. is_opened st i) at) (ap (λ st. is_run_soon st i) at))

    begun-later : Left S s-alike none_old as-old u
    begun-later =
        begins-left S s-alike none_old as-old tr r follow has apart
        (λ i inside. quiet-one (waits-act c waits) i inside (was-begun i inside)) (λ q within. tt)
        (λ q step opens within. tt) interrupted c
        (may-can c waits) g.stage g.beside next

    pub leaves-then : u.leaving ≡ true
    leaves-then = let w = begun-later in w.on

    pub begun-then : (q : ℕ) → q < length u.traced
        → LeftAs run later_front (traced_at u q).attached (traced_at u q).pid
    begun-then q within = let w = begun-later in w.each q within
