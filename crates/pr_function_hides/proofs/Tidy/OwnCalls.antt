use Rattle.std.proofs.Common.{◌≡◌, ◌≢◌, ◌⊎◌, ◌<◌, ◌^◌, ℕ, Bool, true, false, cond, Option, Some, None, Ok, List, [], All, length, refl, sym, subst, ap, ◌∙◌, inl, inr, arith}
use Rattle.std.proofs.lemmas.List.Elements.{All-head}
use Rattle.std.proofs.lemmas.Option.{none-some, same_Some}
use Rattle.std.specs.List.{cons_option, slice_get}
use Rattle.std.specs.Prelude.{map}
use Rattle.std.specs.Str.{bytes_eq}
use Rattle.std.proofs.lemmas.Slice.Eq.{bytes_eq-Decides}
use Rattle.pr_hidden.specs.Covers.{Cover, Covers, Patch}
use Rattle.pr_hidden.specs.Hiders.{Hiders, cover_sent, covers_called, covers_controlled, function_written, is_ctl, patch_at, patches_written, probe_written, with_patch, without_patch}
use Rattle.pr_line.specs.declared.functions.Function.{Function}
use Rattle.pr_line.specs.declared.options.Options.{Options}
use Rattle.pr_model.specs.ControlMessages.{tail_of, target_of}
use Rattle.pr_model.specs.Handles.{handle_of}
use Rattle.pr_model.specs.State.{TracedProcess, TracedState, live_process}
use Rattle.pr_model.specs.declared.calls.Call.{Call}
use Rattle.pr_model.specs.declared.calls.Call.TheVariants as call
use Rattle.pr_model.specs.declared.calls.File.TheVariants as file
use Rattle.pr_model.specs.declared.calls.Mode.TheVariants.{WriteExcl}
use Rattle.pr_model.specs.declared.calls.Reply.{Reply}
use Rattle.pr_model.specs.declared.calls.Reply.TheVariants as reply
use Rattle.pr_model.specs.declared.handles.Held.{Held}
use Rattle.pr_num.specs.Messages.{first_message, spelling}
use Rattle.pr_num.specs.Words.{IsByte}
use Rattle.pr_num.specs.declared.messages.Message.TheVariants as message
use Rattle.pr_num.proofs.SearchLemmas.{All-at}
use Rattle.pr_reached.proofs.StatesInRange.MemoryRanges.{instruction-bytes}
use Rattle.pr_report_laws.proofs.Invariant.StandLemmas.{Each, EachBut, each-but}
use Rattle.pr_truss.specs.Asides.{marks_at}
use Rattle.pr_truss.specs.FunctionCalls.{call_beside, function_call_of, lift_call, next_function_call_of, patch_call, plant_call}
use Rattle.pr_truss.specs.FunctionFeeding.{fed_functions}
use Rattle.pr_truss.specs.Marks.{breakpoint, code_of, first_function, has_functions, no_functions, with_function, without_function}
use Rattle.pr_truss.specs.NextCalls.{call_of, next_call_of, opening_call}
use Rattle.pr_truss.specs.Processes.{last_handle, without_last}
use Rattle.pr_truss.specs.Replies.{answer_of}
use Rattle.pr_truss.specs.Trusses.{TrussState, traced_at}
use Rattle.pr_truss.specs.declared.asides.Aside.{Aside}
use Rattle.pr_truss.specs.declared.asides.Aside.TheVariants.{Nothing, Reading, Planting, Patching}
use Rattle.pr_truss.specs.declared.marks.Marks.{Marks}
use Rattle.pr_truss.specs.declared.processes.Traced.{Traced}
use Rattle.pr_truss.specs.declared.replies.Answer.{Answer}
use Rattle.pr_truss.specs.declared.replies.Answer.TheVariants.{Accepted, Interrupted, Gone, Refused}
use Rattle.pr_truss.specs.declared.stages.AfterClosing.TheVariants.{OpenNext, GoOn}
use Rattle.pr_truss.specs.declared.stages.OpeningStep.{OpeningStep}
use Rattle.pr_truss.specs.declared.stages.OpeningStep.TheVariants as opening
use Rattle.pr_truss.specs.declared.stages.Stage.{Stage}
use Rattle.pr_truss.specs.declared.stages.Stage.TheVariants.{Spawning, OpeningControl, Opening, Polling, ReadingStatus, ReadingText, Running, Closing, Finished}
use Rattle.pr_num.specs.declared.instructions.Instruction.TheVariants.{Bpt}
use Rattle.pr_truss_laws.proofs.Machine.TakenLemmas.{target-live}
use Rattle.pr_function_laws.proofs.Marks.MarkLemmas.{first-below}
use Rattle.pr_function_laws.proofs.Marks.SoundLemmas.{AsideIsBelow}
use Rattle.pr_function_laws.specs.Planted.{IsFirstThere}
use Rattle.pr_function_hides.proofs.Tidy.CalledCovers.{IsAsPatched, call-still, close-apart, ctl-apart, ctl-still, taken-cover}
use Rattle.pr_function_hides.proofs.Replies.CountedWalk.{AsideIn}
use Rattle.pr_function_hides.proofs.FirstPlanted.FirstFunctions.{IsFirstOf}
use Rattle.pr_function_hides.proofs.Replies.FunctionSets.{first-has}
use Rattle.pr_function_hides.proofs.Memory.MarkedPatches.{function-patch, none-lifted, none-stand, one-lifted, one-planted}
use Rattle.pr_function_hides.proofs.Tidy.OwnWrites.{breakpoint-size, code-is, named-at, write-is, write-read, write-tail}
use Rattle.pr_function_hides.proofs.Replies.PlantedReplies.{AfterAside, AfterStage, LeftSo, NowSo, So, fed-so, planted_after}
use Rattle.pr_function_hides.proofs.Tidy.StillMessages.{BeginStill, cfault-still, read-still, run-still, sentry-still, set-still, sexit-still, sfault-still, stop-still, strace-still, unset-still}
use Rattle.pr_function_hides.specs.FunctionHiders.{ArePatchable, IsPatchable, StandAsMarked, patch_of}
use Rattle.pr_function_hides.proofs.Replies.OwnFiles.{GoesOn, HasItsFiles, IsBeside, IsOfOtherFile, IsWithin, other_handles}
use Rattle.pr_function_hides.proofs.Replies.ToldReplaced.{TellsReplaced}
use Rattle.pr_rec.specs.declared.lwps.LwpStatus.{LwpStatus}
use Rattle.pr_truss.specs.declared.function_events.FunctionEvent.{FunctionEvent}
use Rattle.pr_truss.specs.declared.function_events.FunctionEvent.TheVariants.{Replaced}
use Rattle.pr_truss.specs.FunctionEvents.{function_event}
use Rattle.pr_function_hides.proofs.Replies.PlantedWalk.{marks_then}

-- What a call of truss leaves planted, and hidden, of each process that it traces.

-- ---- the file that is closed

module _ (k : ℕ) (s : TracedState) where
  -- the control file, or another one
  abbrev pub IsLast : Traced → Type 0
  IsLast u = ((last_handle u ≡ u.control) × (without_last u ≡ None)) ⊎ IsOfOtherFile k s (last_handle u)

  last-fields : (pid control : ℕ) (status lstatus memory : Option ℕ) (attached : Bool) (old : ℕ) (seen : Bool)
      (marks : Marks)
      → let u : Traced = record {
        pid = pid;
        control = control;
        status = status;
        lstatus = lstatus;
        memory = memory;
        attached = attached;
        old = old;
        seen = seen;
        marks = marks;
      } in All (IsOfOtherFile k s) (other_handles u) → IsLast u
  unfolding last_handle without_last
  last-fields pid control status lstatus (Some n) attached old seen marks all =
      inr (All-head (IsOfOtherFile k s) n (cons_option lstatus (cons_option status [])) all)
  last-fields pid control status (Some n) None attached old seen marks all =
      inr (All-head (IsOfOtherFile k s) n (cons_option status []) all)
  last-fields pid control (Some n) None None attached old seen marks all =
      inr (All-head (IsOfOtherFile k s) n [] all)
  last-fields pid control None None None attached old seen marks all = inl (refl, refl)

  pub last-is : (u : Traced) → All (IsOfOtherFile k s) (other_handles u) → IsLast u
  last-is u all = last-fields u.pid u.control u.status u.lstatus u.memory u.attached u.old u.seen u.marks all

-- ---- what a reply leaves planted

not-planted : (planted : List Bool) (a : Answer) (i : ℕ) (lift : Option ℕ) → a ≢ Accepted
    → planted_after planted a (Some i) lift ≡ planted
not-planted planted Accepted i lift other = absurd (other refl)
not-planted planted Interrupted i lift other = refl
not-planted planted Gone i lift other = refl
not-planted planted (Refused errno) i lift other = refl

pub lift-after : (planted : List Bool) (a : Answer) (i : ℕ)
    → planted_after planted a None (Some i) ≡ without_function planted i
lift-after planted Accepted i = refl
lift-after planted Interrupted i = refl
lift-after planted Gone i = refl
lift-after planted (Refused errno) i = refl

none-after : (planted : List Bool) (a : Answer) → planted_after planted a None None ≡ planted
none-after planted Accepted = refl
none-after planted Interrupted = refl
none-after planted Gone = refl
none-after planted (Refused errno) = refl

-- ---- the call

module _ (who : Hiders) (none : (k : ℕ) → who.probes k ≡ false) (k : ℕ) (covers : Covers) (s : TracedState) (c : Call)
    (r : Reply) (t : TrussState) (fit : ArePatchable t.options)
    (these : who.functions k ≡ map patch_of t.options.functions) (holds : HasItsFiles k t s)
    (below : AsideIsBelow (length t.options.functions) t.aside) (L : ℕ → Type 0)
    (was : (q : ℕ) → q < length t.traced → L (traced_at t q).pid
    → (p : TracedProcess) × (live_process s.system (traced_at t q).pid ≡ Some p))
    (old : Each (λ (v : Traced). L v.pid → StandAsMarked t.options v.marks.planted (covers v.pid).patches) t.traced)
  where
    abbrev o : Options
    o = t.options

    abbrev later : Covers
    later = covers_called who covers s k c r

    abbrev pub NowStand : ℕ → List Bool → Type 0
    NowStand pid planted = L pid → StandAsMarked o planted (later pid).patches

    -- so it is by the marks of a process
    abbrev pub MarksStand : ℕ → Marks → Type 0
    MarksStand pid m = NowStand pid m.planted

    -- the reply to a message
    abbrev pub Shape : Type 0
    Shape = ((used : ℕ) × (r ≡ reply.Used used)) ⊎ ((answer_of r ≢ Accepted) × ((used : ℕ) → r ≢ reply.Used used))

    abbrev Stays : ℕ → Type 0
    Stays pid = IsAsPatched (covers pid) (later pid)

    stays-so : (v : Traced) → Stays v.pid
        → (L v.pid → StandAsMarked o v.marks.planted (covers v.pid).patches) → So MarksStand v
    stays-so v a w = λ lives. subst (StandAsMarked o v.marks.planted) (sym a.patches) (w lives)

    pub all-stay : ((pid : ℕ) → Stays pid) → Each (So MarksStand) t.traced
    all-stay stays i within = stays-so (traced_at t i) (stays (traced_at t i).pid) (old i within)

    -- ---- calls that leave all

    pub is-call : (d : Call) → Some d ≡ Some c → (pid : ℕ)
        → IsAsPatched (covers pid) (covers_called who covers s k d r pid) → Stays pid
    is-call d same pid stays =
        subst (λ (x : Call). IsAsPatched (covers pid) (covers_called who covers s k x r pid)) (same_Some d c same) stays

    pub still-call : (control : ℕ) (bytes : List ℕ) → Some (call.Ctl control bytes) ≡ Some c → BeginStill bytes
        → (pid : ℕ) → Stays pid
    still-call control bytes same still pid =
        is-call (call.Ctl control bytes) same pid (ctl-still who none covers s k pid control bytes r still)

    pub opening-stays : (q : ℕ) (step : OpeningStep) → function_call_of t (Opening q step) ≡ Some c → (pid : ℕ)
        → Stays pid
    unfolding function_call_of call_of opening_call
    opening-stays q opening.OpenStatus is pid = is-call _ is pid (call-still who none covers s k pid _ r refl)
    opening-stays q opening.OpenLstatus is pid = is-call _ is pid (call-still who none covers s k pid _ r refl)
    opening-stays q opening.OpenMemory is pid = is-call _ is pid (call-still who none covers s k pid _ r refl)
    opening-stays q opening.ClearModes is pid = still-call _ _ is (unset-still _) pid
    opening-stays q opening.SetRelease is pid = still-call _ _ is (set-still _) pid
    opening-stays q opening.Stop is pid = still-call _ _ is stop-still pid
    opening-stays q (opening.AwaitStop until) is pid = is-call _ is pid (call-still who none covers s k pid _ r refl)
    opening-stays q opening.ReadLwps is pid = is-call _ is pid (call-still who none covers s k pid _ r refl)
    opening-stays q opening.TraceSignals is pid = still-call _ _ is (strace-still _) pid
    opening-stays q opening.TraceFaults is pid = still-call _ _ is (sfault-still _) pid
    opening-stays q opening.TraceEntries is pid = still-call _ _ is (sentry-still _) pid
    opening-stays q opening.TraceExits is pid = still-call _ _ is (sexit-still _) pid
    opening-stays q opening.Follow is pid = still-call _ _ is (set-still _) pid
    opening-stays q opening.Start is pid = still-call _ _ is (run-still _) pid

    -- ---- a file is closed

    module _ (q : ℕ) (within : q < length t.traced) (is : Some (call.Close (last_handle (traced_at t q))) ≡ Some c)
      where
        abbrev u : Traced
        u = traced_at t q

        last : IsLast k s u
        last = last-is k s u (holds.others q within)

        held-there : handle_of s.opens k u.control
            ≡ Some (record { controller = k; pid = u.pid; lwp = 0; file = file.Ctl; mode = WriteExcl })
        held-there = holds.control q within

        closes-apart : (pid : ℕ)
            → ((h : Held) → handle_of s.opens k (last_handle u) ≡ Some h → h.pid ≡ pid → is_ctl h.file ≡ false)
            → Stays pid
        closes-apart pid apart = is-call _ is pid (close-apart who none covers s k pid (last_handle u) r apart)

        pub others-stay : EachBut (So MarksStand) t.traced q
        others-stay i inside apart =
            stays-so (traced_at t i) (closes-apart (traced_at t i).pid (λ h there same. file-is last h there same))
            (old i inside)
          where
            file-is : IsLast k s u → (h : Held) → handle_of s.opens k (last_handle u) ≡ Some h
                → h.pid ≡ (traced_at t i).pid → is_ctl h.file ≡ false
            file-is (inr other) h there same = other.other h there
            file-is (inl control) h there same =
                absurd (holds.apart i q inside within apart (sym same ∙ its))
              where
                its : h.pid ≡ u.pid
                its =
                    ap (λ (x : Held). x.pid)
                    (sym (same_Some _ h (sym held-there ∙ ap (handle_of s.opens k) (sym control.0) ∙ there)))

        pub left-so : LeftSo MarksStand (without_last u) u
        left-so = by last
          where
            kept : (v : Option Traced) → Stays u.pid → LeftSo MarksStand v u
            kept None stays = tt
            kept (Some v) stays = stays-so u stays (old q within)

            by : IsLast k s u → LeftSo MarksStand (without_last u) u
            by (inl control) = subst (λ v. LeftSo MarksStand v u) (sym control.1) tt
            by (inr other) = kept (without_last u) (closes-apart u.pid (λ h there same. other.other h there))

    -- ---- a breakpoint is planted or lifted

    module _ (q : ℕ) (within : q < length t.traced) (i : ℕ) (f : Function) (named : slice_get o.functions i ≡ Some f)
        (code : List ℕ) (size : length code ≡ 16) (are : All IsByte code) where
      abbrev v : Traced
      v = traced_at t q

      abbrev bytes : List ℕ
      bytes = spelling (message.Write f.at 16) code

      abbrev held : Held
      held = record { controller = k; pid = v.pid; lwp = 0; file = file.Ctl; mode = WriteExcl }

      there : handle_of s.opens k v.control ≡ Some held
      there = holds.control q within

      patchable : IsPatchable f
      patchable = All-at IsPatchable o.functions i f named fit.each

      fits : f.at < 2 ^ 64
      fits = let p = patchable in let w = p.within in omega (arith, w)

      pub reads : first_message bytes ≡ Ok (message.Write f.at 16, length bytes)
      reads = write-read f.at code fits size are

      pub tail-long : length (tail_of (message.Write f.at 16) bytes) ≡ 16
      tail-long = ap (λ xs. length xs) (write-tail f.at code fits size are) ∙ size

      pub target : target_of s.system held ≡ live_process s.system v.pid
      target = target-live s k v.control held there refl

      module _ (is : c ≡ call.Ctl v.control bytes) where
        others-kept : EachBut (So MarksStand) t.traced q
        others-kept j inside apart =
            stays-so (traced_at t j)
            (is-call (call.Ctl v.control bytes) (ap (λ (x : Call). Some x) (sym is)) (traced_at t j).pid
            (ctl-apart who none covers s k (traced_at t j).pid v.control bytes r (λ h found same.
            holds.apart j q inside within apart
            (sym same ∙ ap (λ (x : Held). x.pid) (sym (same_Some held h (sym there ∙ found)))))))
            (old j inside)

        -- it was taken
        pub taken : (used : ℕ) → r ≡ reply.Used used → (p : TracedProcess) → live_process s.system v.pid ≡ Some p
            → (later v.pid).patches ≡ function_written (Some (patch_of f)) code (covers v.pid).patches
        unfolding covers_called cover_sent
        taken used got p live =
            ap (λ (x : Call). (covers_called who covers s k x r v.pid).patches) is
            ∙ ap (λ (x : Reply). (covers_called who covers s k (call.Ctl v.control bytes) x v.pid).patches) got
            ∙ ap (λ (x : Option Held). (covers_controlled who k s.system x bytes covers v.pid).patches) there
            ∙ ap (λ (x : Cover). x.patches)
            (taken-cover who none covers s.system k held p bytes (message.Write f.at 16) (length bytes) (target ∙ live)
            reads)
            ∙ ap (λ tail. patches_written who k p.space f.at tail (covers v.pid).patches)
            (write-tail f.at code fits size are)
            ∙ ap (λ b. cond b
            (probe_written (patch_at f.at (covers v.pid).patches) p.space f.at code (covers v.pid).patches)
            (function_written (patch_at f.at (who.functions k)) code (covers v.pid).patches)) (none k)
            ∙ ap (λ ps. function_written (patch_at f.at ps) code (covers v.pid).patches) these
            ∙ ap (λ x. function_written x code (covers v.pid).patches) (function-patch o fit i f named)

        -- or not
        pub not-taken : ((used : ℕ) → r ≢ reply.Used used) → (pid : ℕ) → later pid ≡ covers pid
        unfolding covers_called
        not-taken other pid =
            ap (λ (x : Call). covers_called who covers s k x r pid) is ∙ by r other
          where
            by : (x : Reply) → ((used : ℕ) → x ≢ reply.Used used)
                → covers_called who covers s k (call.Ctl v.control bytes) x pid ≡ covers pid
            by (reply.Used used) never = absurd (never used refl)
            by _ never = refl

        stand-now : L v.pid → StandAsMarked o (marks_at t q).planted (covers v.pid).patches
        stand-now = old q within

        pub planted-now : IsFirstThere o i f → bytes_eq code f.code ≡ false → Shape → (lift : Option ℕ)
            → NowStand v.pid (planted_after (marks_at t q).planted (answer_of r) (Some i) lift)
        unfolding answer_of
        planted-now first other (inl got) lift lives =
            let live = was q within lives in
            subst (λ (x : Reply). StandAsMarked o (planted_after (marks_at t q).planted (answer_of x) (Some i) lift)
            (later v.pid).patches) (sym got.1)
            (subst (StandAsMarked o (with_function (marks_at t q).planted i))
            (sym (taken got.0 got.1 live.0 live.1
            ∙ ap (λ b. cond b (without_patch f.at (covers v.pid).patches)
            (with_patch (patch_of f) (covers v.pid).patches)) other))
            (one-planted o fit (marks_at t q).planted (covers v.pid).patches (stand-now lives) i f named first))
        planted-now first other (inr refused) lift lives =
            subst (λ set. StandAsMarked o set (later v.pid).patches)
            (sym (not-planted (marks_at t q).planted (answer_of r) i lift refused.0))
            (subst (λ (x : Cover). StandAsMarked o (marks_at t q).planted x.patches)
            (sym (not-taken refused.1 v.pid)) (stand-now lives))

        pub lifted-now : (L v.pid → IsFirstThere o i f) → bytes_eq code f.code ≡ true → Shape
            → ((p : TracedProcess) (g : Patch) → live_process s.system v.pid ≡ Some p
            → patch_at f.at (covers v.pid).patches ≡ Some g → (used : ℕ) × (r ≡ reply.Used used))
            → NowStand v.pid (planted_after (marks_at t q).planted (answer_of r) None (Some i))
        lifted-now first same shape granted lives =
            subst (λ set. StandAsMarked o set (later v.pid).patches)
            (sym (lift-after (marks_at t q).planted (answer_of r) i)) (by shape)
          where
            live : (p : TracedProcess) × (live_process s.system v.pid ≡ Some p)
            live = was q within lives

            by : Shape → StandAsMarked o (without_function (marks_at t q).planted i) (later v.pid).patches
            by (inl got) =
                subst (StandAsMarked o (without_function (marks_at t q).planted i))
                (sym (taken got.0 got.1 live.0 live.1
                ∙ ap (λ b. cond b (without_patch f.at (covers v.pid).patches)
                (with_patch (patch_of f) (covers v.pid).patches)) same))
                (one-lifted o fit (marks_at t q).planted (covers v.pid).patches (stand-now lives) i f named
                (first lives))
            by (inr refused) =
                subst (λ (x : Cover). StandAsMarked o (without_function (marks_at t q).planted i) x.patches)
                (sym (not-taken refused.1 v.pid)) (of (patch_at f.at (covers v.pid).patches) refl)
              where
                of : (x : Option Patch) → patch_at f.at (covers v.pid).patches ≡ x
                    → StandAsMarked o (without_function (marks_at t q).planted i) (covers v.pid).patches
                of None found =
                    none-lifted o fit (marks_at t q).planted (covers v.pid).patches (stand-now lives) i f named
                    (first lives)
                    found
                of (Some g) found =
                    let got = granted live.0 g live.1 found in absurd (refused.1 got.0 got.1)

    -- ---- the functions of the options

    same-code : (x : List ℕ) → bytes_eq x x ≡ true
    same-code x = (bytes_eq-Decides x x).1 refl

    function-is : (i : ℕ) (f : Function) → slice_get o.functions i ≡ Some f → IsPatchable f
    function-is i f named = All-at IsPatchable o.functions i f named fit.each

    -- ---- what the call has made so

    module _ (shape : (q : ℕ) (bytes : List ℕ) (at len : ℕ) → q < length t.traced
        → c ≡ call.Ctl (traced_at t q).control bytes → first_message bytes ≡ Ok (message.Write at 16, len) → Shape)
        (fresh : (pid : ℕ) → c ≡ call.Open pid 0 file.Ctl WriteExcl → answer_of r ≡ Accepted
        → (covers pid).patches ≡ [])
        (replaced : (q : ℕ) → q < length t.traced → L (traced_at t q).pid → TellsReplaced t q r
        → (covers (traced_at t q).pid).patches ≡ [])
        (granted : (q : ℕ) (bytes : List ℕ) (at len : ℕ) (p : TracedProcess) (g : Patch) → q < length t.traced
        → c ≡ call.Ctl (traced_at t q).control bytes → first_message bytes ≡ Ok (message.Write at 16, len)
        → length (tail_of (message.Write at 16) bytes) ≡ 16 → live_process s.system (traced_at t q).pid ≡ Some p
        → patch_at at (covers (traced_at t q).pid).patches ≡ Some g → (used : ℕ) × (r ≡ reply.Used used)) where
      -- with an event the same breakpoints are planted, or the memory was replaced, and none is
      event-stands : (q : ℕ) (l : LwpStatus) (e : FunctionEvent)
          → (e ≡ Replaced → NowStand (traced_at t q).pid no_functions) → MarksStand (traced_at t q).pid (marks_at t q)
          → MarksStand (traced_at t q).pid (marks_then (marks_at t q) l e)
      event-stands q l Replaced none_stand stand = none_stand refl
      event-stands q l _ none_stand stand = stand

      stage-after : t.aside ≡ Nothing → (stage : Stage) → IsWithin (length t.traced) stage → t.stage ≡ stage
          → function_call_of t stage ≡ Some c → AfterStage MarksStand t r stage
      unfolding function_call_of call_of
      stage-after idle (Spawning program) w at is =
          all-stay (λ pid. is-call _ is pid (call-still who none covers s k pid _ r refl))
      stage-after idle (OpeningControl pid) w at is = (
        all-stay (λ n. is-call _ is n (call-still who none covers s k n _ r refl)),
        λ accepted lives.
            let stays : Stays pid = is-call _ is pid (call-still who none covers s k pid _ r refl) in
            subst (StandAsMarked o no_functions) (sym (stays.patches ∙ fresh pid (sym (same_Some _ c is)) accepted))
            (none-stand o fit),
      )
      stage-after idle (Opening q step) w at is = all-stay (opening-stays q step is)
      stage-after idle Polling w at is =
          all-stay (λ pid. is-call _ is pid (call-still who none covers s k pid _ r refl))
      stage-after idle (ReadingStatus q) w at is = (
        all-stay (λ pid. is-call _ is pid (call-still who none covers s k pid _ r refl)),
        λ l e accepted told new.
            let stays : Stays (traced_at t q).pid =
            is-call _ is (traced_at t q).pid (call-still who none covers s k (traced_at t q).pid _ r refl) in
            event-stands q l (function_event t.options (marks_at t q) l.id e)
            (λ is_replaced lives.
            subst (StandAsMarked o no_functions)
            (sym (stays.patches ∙ replaced q w lives (record {
              reads = at;
              idle = idle;
              accepted = accepted;
              l = l;
              told = told;
              event = e;
              fresh = new;
              replaced = is_replaced;
            })))
            (none-stand o fit))
            (all-stay (λ pid. is-call _ is pid (call-still who none covers s k pid _ r refl)) q w),
      )
      stage-after idle (ReadingText q l from len) w at is =
          all-stay (λ pid. is-call _ is pid (call-still who none covers s k pid _ r refl))
      stage-after idle (Running q) w at is = (
        each-but (So MarksStand) t.traced q (all-stay (λ pid. still-call _ _ is (run-still _) pid)),
        all-stay (λ pid. still-call _ _ is (run-still _) pid) q w,
      )
      stage-after idle (Closing q OpenNext) w at is = (others-stay q w is, left-so q w is)
      stage-after idle (Closing q GoOn) w at is = (others-stay q w is, left-so q w is)
      stage-after idle Finished w at is = absurd (none-some c is)
      stage-after idle _ w at is = absurd w

      -- a breakpoint is planted
      plant-after : (q i : ℕ) (lift : Option ℕ) → q < length t.traced → i < length o.functions
          → IsFirstOf o (traced_at t q).pid i → Some (plant_call o (traced_at t q).control i) ≡ Some c
          → EachBut (So MarksStand) t.traced q × NowSo MarksStand t r q (Some i) lift
      plant-after q i lift within inside first is =
          let it = named-at o i inside in
          let p = function-is i it.0 it.1 in
          let its = write-is o c (traced_at t q).control i it.0 breakpoint breakpoint it.1 refl is in (
            others-kept q within i it.0 it.1 breakpoint breakpoint-size (instruction-bytes Bpt) its,
            planted-now q within i it.0 it.1 breakpoint breakpoint-size (instruction-bytes Bpt) its
                (first it.0 it.1) p.other
                (shape q _ it.0.at _ within its
                (reads q within i it.0 it.1 breakpoint breakpoint-size (instruction-bytes Bpt))) lift,
          )

      -- or lifted
      pub lift-after-all : (q i : ℕ) → q < length t.traced → i < length o.functions
          → (L (traced_at t q).pid → IsFirstOf o (traced_at t q).pid i)
          → Some (lift_call o (traced_at t q).control i) ≡ Some c
          → EachBut (So MarksStand) t.traced q × NowSo MarksStand t r q None (Some i)
      lift-after-all q i within inside first is =
          let it = named-at o i inside in
          let f : Function = it.0 in
          let p = function-is i f it.1 in
          let its = write-is o c (traced_at t q).control i f f.code (code_of o i) it.1 (code-is o i f it.1) is in (
            others-kept q within i f it.1 f.code p.size p.bytes its,
            lifted-now q within i f it.1 f.code p.size p.bytes its (λ lives. first lives f it.1) (same-code f.code)
                (shape q _ f.at _ within its (reads q within i f it.1 f.code p.size p.bytes))
                (λ process g live found.
                granted q _ f.at _ process g within its (reads q within i f it.1 f.code p.size p.bytes)
                (tail-long q within i f it.1 f.code p.size p.bytes) live found),
          )

      aside-after : GoesOn t → (aside : Aside) → t.aside ≡ aside → IsBeside (length t.traced) aside
          → AsideIsBelow (length o.functions) aside → AsideIn (IsFirstOf o) t.traced aside
          → call_beside t t.stage aside ≡ Some c → AfterAside MarksStand t r aside
      unfolding call_beside
      aside-after goes Nothing beside w small firsts is = stage-after beside t.stage goes.stage refl is
      aside-after goes (Reading q i) beside w small firsts is =
          all-stay (λ pid. still-call _ _ is (read-still _ _) pid)
      aside-after goes (Planting q i) beside w small firsts is = plant-after q i None w small firsts is
      aside-after goes (Patching q plants lifts clear) beside w small firsts is =
          by (first_function plants) (first_function lifts) refl refl is
        where
          by : (plant lift : Option ℕ) → first_function plants ≡ plant → first_function lifts ≡ lift
              → Some (patch_call o (traced_at t q).control plant lift) ≡ Some c
              → EachBut (So MarksStand) t.traced q × NowSo MarksStand t r q plant lift
          by (Some i) lift first second its =
              plant-after q i lift w (first-below _ plants i small.0 first) (firsts.0 i (first-has plants i first)) its
          by None (Some i) first second its =
              lift-after-all q i w (first-below _ lifts i small.1 second)
              (λ lives. firsts.1 i (first-has lifts i second)) its
          by None None first second its = (
            each-but (So MarksStand) t.traced q (all-stay (λ pid. still-call _ _ its cfault-still pid)),
            subst (NowStand (traced_at t q).pid) (sym (none-after (marks_at t q).planted (answer_of r)))
                (all-stay (λ pid. still-call _ _ its cfault-still pid) q w),
          )
      aside-after goes _ beside w small firsts is = absurd w

      pub own-planted : GoesOn t → AsideIn (IsFirstOf o) t.traced t.aside → next_function_call_of t ≡ Some c
          → has_functions o ≡ true → answer_of r ≢ Interrupted → Each (So MarksStand) (fed_functions t r).traced
      unfolding next_function_call_of
      own-planted goes firsts next has calm =
          fed-so MarksStand t r goes.off goes.follow goes.stage goes.beside calm has
          (aside-after goes t.aside refl goes.beside below firsts
          (sym (ap (λ b. cond b (call_beside t t.stage t.aside) (next_call_of t)) has) ∙ next))
