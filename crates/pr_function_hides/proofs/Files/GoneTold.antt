use Rattle.std.proofs.Common.{◌≡◌, ◌<◌, ℕ, true, cond, Option, Some, None, List, length, refl, sym, subst, ap, ◌∙◌}
use Rattle.std.proofs.lemmas.Option.{none-some, same_Some}
use Rattle.pr_function_hides.proofs.Replies.BareStages.{Told}
use Rattle.pr_function_hides.proofs.Replies.ClosingWalk.{called_at}
use Rattle.pr_function_hides.proofs.Files.FilesCalls.{Files}
use Rattle.pr_function_laws.proofs.Holding.GoneCalls.{ctl-gone, open-gone, wait-gone}
use Rattle.pr_function_hides.proofs.Replies.LeavingStages.{IsLeft, asks, awaits, closes_files, halts, has_ended}
use Rattle.pr_function_hides.proofs.Replies.LeavingStages.{lifts_all, looks, reads_text, waits_again}
use Rattle.pr_function_hides.proofs.Replies.OwnFiles.{IsBeside, IsWithin}
use Rattle.pr_function_laws.proofs.Marks.KeptPlaces.{AtStage, Kept, opens}
use Rattle.pr_function_laws.proofs.Pending.KnownFiles.{Knows, KnowsAll}
use Rattle.pr_function_laws.proofs.NextCalls.PatchCalls.{next-beside, next-staged}
use Rattle.pr_model.specs.Calls.{Answer, answer_to}
use Rattle.pr_model.specs.Handles.{handle_of}
use Rattle.pr_model.specs.Replies.{number_of}
use Rattle.pr_model.specs.State.{TracedState, live_process}
use Rattle.pr_model.specs.declared.calls.Call.{Call}
use Rattle.pr_model.specs.declared.calls.Call.TheVariants as call
use Rattle.pr_model.specs.declared.calls.File.{File}
use Rattle.pr_model.specs.declared.calls.File.TheVariants as file
use Rattle.pr_model.specs.declared.calls.Mode.TheVariants.{Read}
use Rattle.pr_num.specs.Limits.{read_limit}
use Rattle.pr_rec.specs.declared.lwps.LwpStatus.{LwpStatus}
use Rattle.pr_report_laws.proofs.Invariant.StandLemmas.{IsThere}
use Rattle.pr_report_laws.proofs.Machine.GoneLaws.{is_read, read-gone}
use Rattle.pr_truss.specs.Asides.{marks_at}
use Rattle.pr_truss.specs.FunctionCalls.{call_beside, function_call_of, next_function_call_of, patch_call}
use Rattle.pr_truss.specs.Marks.{first_function, has_functions, no_functions}
use Rattle.pr_truss.specs.NextCalls.{call_of, next_call_of, open_file, opening_call, read_record}
use Rattle.pr_truss.specs.Replies.{answer_of}
use Rattle.pr_truss.specs.Trusses.{TrussState, traced_at}
use Rattle.pr_truss.specs.declared.asides.Aside.{Aside}
use Rattle.pr_truss.specs.declared.asides.Aside.TheVariants.{Nothing, Reading, Planting, Patching, AwaitingStop, Asking}
use Rattle.pr_truss.specs.declared.asides.Aside.TheVariants.{AwaitingAgain}
use Rattle.pr_truss.specs.declared.replies.Answer.TheVariants.{Gone}
use Rattle.pr_truss.specs.declared.stages.OpeningStep.{OpeningStep}
use Rattle.pr_truss.specs.declared.stages.OpeningStep.TheVariants as opening
use Rattle.pr_truss.specs.declared.stages.Stage.{Stage}
use Rattle.pr_truss.specs.declared.stages.Stage.TheVariants.{Opening, ReadingStatus, ReadingText, Running, Unfollowing}
use Rattle.pr_truss.specs.declared.stages.Stage.TheVariants.{ReadingLwps}
use Rattle.pr_truss_laws.proofs.Files.OpensLemmas.{held_by}

-- Truss is told of no process that it is gone but where that has ended.

-- the process that a reply tells of is one of those that truss traces
pub called-within : (t : TrussState) → IsWithin (length t.traced) t.stage → IsBeside (length t.traced) t.aside → (q : ℕ)
    → called_at t.stage t.aside ≡ Some q → q < length t.traced
called-within t within beside q here = by-aside t.aside beside here
  where
    by-stage : (at : Stage) → IsWithin (length t.traced) at → called_at at Nothing ≡ Some q → q < length t.traced
    by-stage (Opening b step) w it = subst (λ i. i < length t.traced) (same_Some b q it) w
    by-stage (ReadingStatus b) w it = subst (λ i. i < length t.traced) (same_Some b q it) w
    by-stage (ReadingText b l from len) w it = subst (λ i. i < length t.traced) (same_Some b q it) w
    by-stage (Running b) w it = subst (λ i. i < length t.traced) (same_Some b q it) w
    by-stage _ w it = absurd (none-some q it)

    by-aside : (aside : Aside) → IsBeside (length t.traced) aside → called_at t.stage aside ≡ Some q
        → q < length t.traced
    by-aside Nothing w it = by-stage t.stage within it
    by-aside (Reading b function) w it = subst (λ i. i < length t.traced) (same_Some b q it) w
    by-aside (Planting b function) w it = subst (λ i. i < length t.traced) (same_Some b q it) w
    by-aside (Patching b plants lifts clear) w it = subst (λ i. i < length t.traced) (same_Some b q it) w
    by-aside _ w it = absurd w

-- truss is told of the process that it acts on that it is gone, where it has ended
module _ (k : ℕ) (s : TracedState) (c : Call) (a : Answer) (given : answer_to s k c ≡ Some a) (t : TrussState)
    (files : (q : ℕ) → q < length t.traced → Files k s (traced_at t q)) where
  abbrev Ended : ℕ → Type 0
  Ended q = live_process s.system (traced_at t q).pid ≡ None

  module _ (gone : answer_of a.reply ≡ Gone) where
    by-message : (q : ℕ) → q < length t.traced → (bytes : List ℕ)
        → Some (call.Ctl (traced_at t q).control bytes) ≡ Some c → Ended q
    by-message q within bytes is =
        let f = files q within in
        ctl-gone s k (traced_at t q).control _ f.control refl a bytes
        (ap (answer_to s k) (same_Some _ c is) ∙ given) gone

    by-wait : (q : ℕ) → q < length t.traced → (until : ℕ) (bytes : List ℕ)
        → Some (call.CtlWait (traced_at t q).control until bytes) ≡ Some c → Ended q
    by-wait q within until bytes is =
        let f = files q within in
        wait-gone s k (traced_at t q).control _ f.control refl a until bytes
        (ap (answer_to s k) (same_Some _ c is) ∙ given) gone

    by-open : (q : ℕ) (f : File) → is_read f ≡ true → Some (open_file (traced_at t q).pid f) ≡ Some c → Ended q
    by-open q f reads is =
        open-gone s k (traced_at t q).pid f reads a (ap (answer_to s k) (same_Some _ c is) ∙ given) gone

    by-read : (q : ℕ) (o : Option ℕ) (m : ℕ) (f : File) (from len : ℕ) → o ≡ Some m
        → handle_of s.opens k m ≡ Some (held_by k (traced_at t q).pid 0 f Read) → is_read f ≡ true
        → Some (call.Read (number_of o) from len) ≡ Some c → Ended q
    by-read q o m f from len is there reads same =
        read-gone s k m (held_by k (traced_at t q).pid 0 f Read) there a from len f refl reads
        (ap (λ (x : Option ℕ). answer_to s k (call.Read (number_of x) from len)) (sym is)
        ∙ ap (answer_to s k) (same_Some _ c same) ∙ given) gone

    by-patch : (q : ℕ) → q < length t.traced → (plant lift : Option ℕ)
        → Some (patch_call t.options (traced_at t q).control plant lift) ≡ Some c → Ended q
    by-patch q within (Some function) lift is = by-message q within _ is
    by-patch q within None (Some function) is = by-message q within _ is
    by-patch q within None None is = by-message q within _ is

  -- ---- where it goes on

  module _ (known : Kept Knows t) (at_stage : IsWithin (length t.traced) t.stage)
      (at_aside : IsBeside (length t.traced) t.aside) (gone : answer_of a.reply ≡ Gone) where
    lwps-read : (q : ℕ) → q < length t.traced → KnowsAll (traced_at t q)
        → Some (read_record (traced_at t q).lstatus) ≡ Some c → Ended q
    lwps-read q within all is =
        let f = files q within in
        let l = all.lstatus in
        by-read gone q (traced_at t q).lstatus l.number file.Lstatus 0 read_limit l.is (f.lstatus l.number l.is) refl is

    by-step : (q : ℕ) (step : OpeningStep) → q < length t.traced → Knows (opens step) (traced_at t q)
        → function_call_of t (Opening q step) ≡ Some c → Ended q
    unfolding function_call_of call_of opening_call
    by-step q opening.OpenStatus within w is = by-open gone q file.Status refl is
    by-step q opening.OpenLstatus within w is = by-open gone q file.Lstatus refl is
    by-step q opening.OpenMemory within w is = by-open gone q file.Mem refl is
    by-step q opening.ClearModes within w is = by-message gone q within _ is
    by-step q opening.SetRelease within w is = by-message gone q within _ is
    by-step q opening.Stop within w is = by-message gone q within _ is
    by-step q (opening.AwaitStop until) within w is = by-wait gone q within until _ is
    by-step q opening.ReadLwps within w is = lwps-read q within w is
    by-step q opening.TraceSignals within w is = by-message gone q within _ is
    by-step q opening.TraceFaults within w is = by-message gone q within _ is
    by-step q opening.TraceEntries within w is = by-message gone q within _ is
    by-step q opening.TraceExits within w is = by-message gone q within _ is
    by-step q opening.Follow within w is = by-message gone q within _ is
    by-step q opening.Start within w is = by-message gone q within _ is

    by-status : (q : ℕ) → q < length t.traced → KnowsAll (traced_at t q)
        → Some (read_record (traced_at t q).status) ≡ Some c → Ended q
    by-status q within all is =
        let f = files q within in
        let x = all.status in
        by-read gone q (traced_at t q).status x.number file.Status 0 read_limit x.is (f.status x.number x.is) refl is

    by-text : (q from len : ℕ) → q < length t.traced → KnowsAll (traced_at t q)
        → Some (call.Read (number_of (traced_at t q).memory) from len) ≡ Some c → Ended q
    by-text q from len within all is =
        let f = files q within in
        let x = all.memory in
        by-read gone q (traced_at t q).memory x.number file.Mem from len x.is (f.memory x.number x.is) refl is

    by-stage : (stage : Stage) → AtStage Knows t.traced stage → function_call_of t stage ≡ Some c → (q : ℕ)
        → called_at stage Nothing ≡ Some q → Ended q
    unfolding function_call_of call_of
    by-stage (Opening b step) w is q here =
        subst Ended (same_Some b q here) (by-step b step w.0 w.1.1 is)
    by-stage (ReadingStatus b) w is q here =
        subst Ended (same_Some b q here) (by-status b w.0 (w.1.0 b w.0) is)
    by-stage (ReadingText b l from len) w is q here =
        subst Ended (same_Some b q here) (by-text b from len w.0 (w.1.0 b w.0) is)
    by-stage (Running b) w is q here =
        subst Ended (same_Some b q here) (by-message gone b w.0 _ is)
    by-stage _ w is q here = absurd (none-some q here)

    by-aside : (aside : Aside) → IsBeside (length t.traced) aside → call_beside t t.stage aside ≡ Some c → (q : ℕ)
        → called_at t.stage aside ≡ Some q → Ended q
    unfolding call_beside
    by-aside Nothing w is q here = by-stage t.stage known.stage is q here
    by-aside (Reading b function) w is q here = subst Ended (same_Some b q here) (by-message gone b w _ is)
    by-aside (Planting b function) w is q here = subst Ended (same_Some b q here) (by-message gone b w _ is)
    by-aside (Patching b plants lifts clear) w is q here =
        subst Ended (same_Some b q here) (by-patch gone b w (first_function plants) (first_function lifts) is)
    by-aside _ w is q here = absurd w

    pub told-gone : has_functions t.options ≡ true → next_function_call_of t ≡ Some c → (q : ℕ)
        → called_at t.stage t.aside ≡ Some q → Ended q
    unfolding next_function_call_of
    told-gone has next q here =
        by-aside t.aside at_aside
        (sym (ap (λ b. cond b (call_beside t t.stage t.aside) (next_call_of t)) has) ∙ next) q here

  -- ---- where it leaves its processes

  -- the first process has ended then, so that it is so later
  module _ (Later : ℕ → Type 0) (stays : (q : ℕ) → q < length t.traced → Ended q → Later (traced_at t q).pid)
      (has : has_functions t.options ≡ true) (next : next_function_call_of t ≡ Some c)
      (lstatus : t.stage ≡ ReadingLwps → IsThere (traced_at t 0).lstatus)
      (memory : (l : LwpStatus) (from len : ℕ) → t.stage ≡ ReadingText 0 l from len → IsThere (traced_at t 0).memory)
    where
      staged : (stage : Stage) → t.stage ≡ stage → t.aside ≡ Nothing → function_call_of t stage ≡ Some c
      staged stage at idle = sym (next-staged t.options has t stage refl idle at) ∙ next

      beside : (aside : Aside) → t.aside ≡ aside → call_beside t t.stage aside ≡ Some c
      beside aside is = sym (next-beside t.options has t refl ∙ ap (call_beside t t.stage) is) ∙ next

      pub left-told : (w : IsLeft t) → Told Later t a.reply w
      unfolding call_beside function_call_of call_of
      left-told (halts at idle within) = λ gone.
          stays 0 within (by-message gone 0 within _ (staged Unfollowing at idle))
      left-told (awaits until at is within) = λ gone.
          stays 0 within (by-wait gone 0 within until _ (beside (AwaitingStop until) is))
      left-told (asks at is within) = λ gone. stays 0 within (by-message gone 0 within _ (beside Asking is))
      left-told (waits_again until at is within) = λ gone.
          stays 0 within (by-wait gone 0 within until _ (beside (AwaitingAgain until) is))
      left-told (looks at idle within) = λ gone.
          let f = files 0 within in
          let x = lstatus at in
          stays 0 within
          (by-read gone 0 (traced_at t 0).lstatus x.number file.Lstatus 0 read_limit x.is (f.lstatus x.number x.is) refl
          (staged ReadingLwps at idle))
      left-told (reads_text l from len at idle within) = λ gone.
          let f = files 0 within in
          let x = memory l from len at in
          stays 0 within
          (by-read gone 0 (traced_at t 0).memory x.number file.Mem from len x.is (f.memory x.number x.is) refl
          (staged (ReadingText 0 l from len) at idle))
      left-told (lifts_all clear at is within) = λ gone.
          stays 0 within
          (by-patch gone 0 within (first_function no_functions) (first_function (marks_at t 0).planted)
          (beside (Patching 0 no_functions (marks_at t 0).planted clear) is))
      left-told (closes_files at idle within) = tt
      left-told (has_ended at idle) = tt
