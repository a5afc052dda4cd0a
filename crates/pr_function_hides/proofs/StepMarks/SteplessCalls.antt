use Rattle.std.proofs.Common.{◌≡◌, ◌≢◌, ◌<◌, ◌&&◌, ◌||◌, ◌%◌, ◌^◌, ℕ, Bool, true, false, Option, Some, None, List, []}
use Rattle.std.proofs.Common.{length, refl, sym, ap, ◌∙◌}
use Rattle.std.proofs.lemmas.Bool.{false≢true}
use Rattle.std.proofs.lemmas.Option.{none-some, same_Some}
use Rattle.std.specs.Bool.{IsTrue}
use Rattle.pr_function_hides.proofs.Replies.LeavingStages.{IsLeft, asks, awaits, closes_files, halts, has_ended, lifts_all}
use Rattle.pr_function_hides.proofs.Replies.LeavingStages.{looks, reads_text, waits_again}
use Rattle.pr_function_hides.proofs.Replies.OwnFiles.{GoesOn, IsBeside, IsWithin}
use Rattle.pr_function_hides.proofs.StepMarks.ReleasedMarks.{BeginWhere, is_mild, reads-where}
use Rattle.pr_function_hides.proofs.Tidy.StillMessages.{wstop-reads}
use Rattle.pr_function_laws.proofs.OpenedProcesses.OpenedCalls.{write-as}
use Rattle.pr_function_laws.proofs.NextCalls.PatchCalls.{next-beside, next-staged}
use Rattle.pr_hidden.specs.Hiders.{Hiders, are_some, hides}
use Rattle.pr_hidden.specs.Tidiness.{is_function_message, is_hider_message, is_probe_message}
use Rattle.pr_model.specs.Passive.{is_passive_message}
use Rattle.pr_model.specs.declared.calls.Call.{Call}
use Rattle.pr_model.specs.declared.calls.Call.TheVariants as call
use Rattle.pr_num.specs.Control.{fork_mode, has_flags, rlc_mode}
use Rattle.pr_num.specs.Messages.{first_message, message_code, message_read, nth_word, operands, spelling, two_words}
use Rattle.pr_num.specs.Sets.{common_word}
use Rattle.pr_num.specs.Words.{word_bytes, word_of}
use Rattle.pr_num.specs.declared.messages.Message.{Message}
use Rattle.pr_num.specs.declared.messages.Message.TheVariants as message
use Rattle.pr_probe_laws.proofs.StepMarks.MarkCalls.{SetsNoStep, passive-plain}
use Rattle.pr_report_laws.proofs.Machine.ControlLaws.{entries-read, exits-read, faults-read, follow-reads}
use Rattle.pr_report_laws.proofs.Machine.ControlLaws.{release-reads, run-reads, signals-read}
use Rattle.pr_truss.specs.Asides.{marks_at}
use Rattle.pr_truss.specs.FunctionCalls.{call_beside, function_call_of, next_function_call_of, patch_call}
use Rattle.pr_truss.specs.Marks.{first_function, has_functions, no_functions}
use Rattle.pr_truss.specs.Messages.{all_modes, message_call}
use Rattle.pr_truss.specs.NextCalls.{call_of, opening_call}
use Rattle.pr_truss.specs.Trusses.{TrussState, traced_at}
use Rattle.pr_truss.specs.declared.asides.Aside.{Aside}
use Rattle.pr_truss.specs.declared.asides.Aside.TheVariants.{Asking, AwaitingAgain, AwaitingStop, Nothing, Patching}
use Rattle.pr_truss.specs.declared.asides.Aside.TheVariants.{Planting, Reading}
use Rattle.pr_truss.specs.declared.stages.AfterClosing.TheVariants.{GoOn, OpenNext}
use Rattle.pr_truss.specs.declared.stages.OpeningStep.{OpeningStep}
use Rattle.pr_truss.specs.declared.stages.OpeningStep.TheVariants as opening
use Rattle.pr_truss.specs.declared.stages.Stage.{Stage}
use Rattle.pr_truss.specs.declared.stages.Stage.TheVariants.{Closing, Finished, Opening, OpeningControl, Polling}
use Rattle.pr_truss.specs.declared.stages.Stage.TheVariants.{ReadingLwps, ReadingStatus, ReadingText, Running}
use Rattle.pr_truss.specs.declared.stages.Stage.TheVariants.{Spawning, Unfollowing}
use Rattle.pr_truss_laws.proofs.Machine.TakenLemmas.{read-as, stop-reads}

-- Which calls set no step mark: those of who hides nothing, where they are passive; and each of truss but PCRUN, with
-- which it runs a process that it has opened whole. And each leaves the modes of a process, but that by which truss
-- clears them as it opens one.

-- ---- messages

stop-mild : BeginWhere is_mild (spelling message.Stop [])
stop-mild = reads-where is_mild message.Stop (first_message (spelling message.Stop [])) refl stop-reads

wstop-mild : BeginWhere is_mild (spelling message.Wstop [])
wstop-mild = reads-where is_mild message.Wstop (first_message (spelling message.Wstop [])) refl wstop-reads

cfault-mild : BeginWhere is_mild (spelling message.Cfault [])
unfolding message_code operands nth_word word_bytes word_of message_read
cfault-mild =
    reads-where is_mild message.Cfault (first_message (spelling message.Cfault [])) refl
    (read-as (spelling message.Cfault []) message.Cfault refl refl)

read-mild : (at size : ℕ) → BeginWhere is_mild (spelling (message.Read at size) [])
unfolding message_code operands nth_word word_bytes word_of message_read two_words
read-mild at size =
    let bytes : List ℕ = spelling (message.Read at size) [] in
    let m : Message = message.Read (nth_word bytes 1) (nth_word bytes 2) in
    reads-where is_mild m (first_message bytes) refl (read-as bytes m refl refl)

write-mild : (at size : ℕ) (code : List ℕ) → BeginWhere is_mild (spelling (message.Write at size) code)
write-mild at size code = write-as is_mild (λ from len. refl) at size code

release-mild : BeginWhere is_mild (spelling (message.Set rlc_mode) [])
release-mild =
    reads-where is_mild (message.Set rlc_mode) (first_message (spelling (message.Set rlc_mode) [])) refl release-reads

follow-mild : BeginWhere is_mild (spelling (message.Set fork_mode) [])
follow-mild =
    reads-where is_mild (message.Set fork_mode) (first_message (spelling (message.Set fork_mode) [])) refl follow-reads

strace-mild : (w : ℕ) → BeginWhere is_mild (spelling (message.Strace w) [])
strace-mild w =
    reads-where is_mild (message.Strace (w % 2 ^ 64)) (first_message (spelling (message.Strace w) [])) refl
    (signals-read w)

sfault-mild : (w : ℕ) → BeginWhere is_mild (spelling (message.Sfault w) [])
sfault-mild w =
    reads-where is_mild (message.Sfault (w % 2 ^ 64)) (first_message (spelling (message.Sfault w) [])) refl
    (faults-read w)

sentry-mild : (w : ℕ) → BeginWhere is_mild (spelling (message.Sentry w) [])
sentry-mild w =
    reads-where is_mild (message.Sentry (w % 2 ^ 64)) (first_message (spelling (message.Sentry w) [])) refl
    (entries-read w)

sexit-mild : (w : ℕ) → BeginWhere is_mild (spelling (message.Sexit w) [])
sexit-mild w =
    reads-where is_mild (message.Sexit (w % 2 ^ 64)) (first_message (spelling (message.Sexit w) [])) refl
    (exits-read w)

-- PCRUN with no run flag
none-mild : is_mild (message.Run 0) ≡ true
unfolding has_flags common_word
none-mild = refl

start-mild : BeginWhere is_mild (spelling (message.Run 0) [])
start-mild = reads-where is_mild (message.Run 0) (first_message (spelling (message.Run 0) [])) none-mild run-reads

-- ---- the calls of truss

module _ (c : Call) (t : TrussState) where
  -- It sends a message that sets no step mark and leaves the modes; or it clears the modes of a process that it opens;
  -- or it runs one; or it is no message.
  pub data Sort : Type 0 where
    mild : (q : ℕ) → q < length t.traced → (bytes : List ℕ) → c ≡ call.Ctl (traced_at t q).control bytes
        → BeginWhere is_mild bytes → Sort
    clears : (q : ℕ) → q < length t.traced → t.leaving ≡ false → t.stage ≡ Opening q opening.ClearModes
        → t.aside ≡ Nothing → c ≡ message_call (traced_at t q).control (message.Unset all_modes) → Sort
    runs : (q : ℕ) → q < length t.traced → t.leaving ≡ false → t.stage ≡ Running q → t.aside ≡ Nothing
        → (flags : ℕ) → c ≡ message_call (traced_at t q).control (message.Run flags) → Sort
    unsent : ((number : ℕ) (bytes : List ℕ) → c ≢ call.Ctl number bytes) → Sort

  is-unsent : (d : Call) → Some d ≡ Some c → ((number : ℕ) (bytes : List ℕ) → d ≢ call.Ctl number bytes) → Sort
  is-unsent d same none = unsent (λ number bytes is. none number bytes (same_Some d c same ∙ is))

  is-mild : (q : ℕ) → q < length t.traced → (bytes : List ℕ)
      → Some (call.Ctl (traced_at t q).control bytes) ≡ Some c → BeginWhere is_mild bytes → Sort
  is-mild q within bytes same begins = mild q within bytes (sym (same_Some _ c same)) begins

  patch-sort : (q : ℕ) → q < length t.traced → (plant lift : Option ℕ)
      → Some (patch_call t.options (traced_at t q).control plant lift) ≡ Some c → Sort
  patch-sort q within (Some function) lift is = is-mild q within _ is (write-mild _ _ _)
  patch-sort q within None (Some function) is = is-mild q within _ is (write-mild _ _ _)
  patch-sort q within None None is = is-mild q within _ is cfault-mild

  module _ (has : has_functions t.options ≡ true) (next : next_function_call_of t ≡ Some c) where
    staged : (stage : Stage) → t.stage ≡ stage → t.aside ≡ Nothing → function_call_of t stage ≡ Some c
    staged stage at idle = sym (next-staged t.options has t stage refl idle at) ∙ next

    beside : (aside : Aside) → t.aside ≡ aside → call_beside t t.stage aside ≡ Some c
    beside aside is = sym (next-beside t.options has t refl ∙ ap (call_beside t t.stage) is) ∙ next

    -- ---- where it does not leave its processes

    module _ (goes : GoesOn t) where
      opening-sort : (q : ℕ) (step : OpeningStep) → t.stage ≡ Opening q step → t.aside ≡ Nothing
          → q < length t.traced → function_call_of t (Opening q step) ≡ Some c → Sort
      unfolding function_call_of call_of opening_call
      opening-sort q opening.OpenStatus at idle w is = is-unsent _ is (λ n b same. cc)
      opening-sort q opening.OpenLstatus at idle w is = is-unsent _ is (λ n b same. cc)
      opening-sort q opening.OpenMemory at idle w is = is-unsent _ is (λ n b same. cc)
      opening-sort q opening.ClearModes at idle w is = clears q w goes.off at idle (sym (same_Some _ c is))
      opening-sort q opening.SetRelease at idle w is = is-mild q w _ is release-mild
      opening-sort q opening.Stop at idle w is = is-mild q w _ is stop-mild
      opening-sort q (opening.AwaitStop until) at idle w is = is-unsent _ is (λ n b same. cc)
      opening-sort q opening.ReadLwps at idle w is = is-unsent _ is (λ n b same. cc)
      opening-sort q opening.TraceSignals at idle w is = is-mild q w _ is (strace-mild _)
      opening-sort q opening.TraceFaults at idle w is = is-mild q w _ is (sfault-mild _)
      opening-sort q opening.TraceEntries at idle w is = is-mild q w _ is (sentry-mild _)
      opening-sort q opening.TraceExits at idle w is = is-mild q w _ is (sexit-mild _)
      opening-sort q opening.Follow at idle w is = is-mild q w _ is follow-mild
      opening-sort q opening.Start at idle w is = is-mild q w _ is start-mild

      stage-sort : t.aside ≡ Nothing → (stage : Stage) → t.stage ≡ stage → IsWithin (length t.traced) stage
          → function_call_of t stage ≡ Some c → Sort
      unfolding function_call_of call_of
      stage-sort idle (Spawning program) at w is = is-unsent _ is (λ n b same. cc)
      stage-sort idle (OpeningControl pid) at w is = is-unsent _ is (λ n b same. cc)
      stage-sort idle (Opening q step) at w is = opening-sort q step at idle w is
      stage-sort idle Polling at w is = is-unsent _ is (λ n b same. cc)
      stage-sort idle (ReadingStatus q) at w is = is-unsent _ is (λ n b same. cc)
      stage-sort idle (ReadingText q l from len) at w is = is-unsent _ is (λ n b same. cc)
      stage-sort idle (Running q) at w is = runs q w goes.off at idle _ (sym (same_Some _ c is))
      stage-sort idle (Closing q OpenNext) at w is = is-unsent _ is (λ n b same. cc)
      stage-sort idle (Closing q GoOn) at w is = is-unsent _ is (λ n b same. cc)
      stage-sort idle Finished at w is = absurd (none-some c is)
      stage-sort idle _ at w is = absurd w

      aside-sort : (aside : Aside) → t.aside ≡ aside → IsBeside (length t.traced) aside
          → call_beside t t.stage aside ≡ Some c → Sort
      unfolding call_beside
      aside-sort Nothing idle w is = stage-sort idle t.stage refl goes.stage is
      aside-sort (Reading q i) at w is = is-mild q w _ is (read-mild _ _)
      aside-sort (Planting q i) at w is = is-mild q w _ is (write-mild _ _ _)
      aside-sort (Patching q plants lifts clear) at w is =
          patch-sort q w (first_function plants) (first_function lifts) is
      aside-sort _ at w is = absurd w

      pub going-sort : Sort
      going-sort = aside-sort t.aside refl goes.beside (beside t.aside refl)

    -- ---- where it does

    pub leaving-sort : IsLeft t → Sort
    unfolding call_beside function_call_of call_of
    leaving-sort (halts at idle within) = is-mild 0 within _ (staged Unfollowing at idle) stop-mild
    leaving-sort (awaits until at is within) = is-unsent _ (beside (AwaitingStop until) is) (λ n b same. cc)
    leaving-sort (asks at is within) = is-mild 0 within _ (beside Asking is) wstop-mild
    leaving-sort (waits_again until at is within) = is-unsent _ (beside (AwaitingAgain until) is) (λ n b same. cc)
    leaving-sort (looks at idle within) = is-unsent _ (staged ReadingLwps at idle) (λ n b same. cc)
    leaving-sort (reads_text l from len at idle within) =
        is-unsent _ (staged (ReadingText 0 l from len) at idle) (λ n b same. cc)
    leaving-sort (lifts_all clear at is within) =
        patch-sort 0 within (first_function no_functions) (first_function (marks_at t 0).planted)
        (beside (Patching 0 no_functions (marks_at t 0).planted clear) is)
    leaving-sort (closes_files at idle within) = is-unsent _ (staged (Closing 0 GoOn) at idle) (λ n b same. cc)
    leaving-sort (has_ended at idle) = absurd (none-some c (staged Finished at idle))

-- ---- the calls of who hides nothing

pub other-stepless : (who : Hiders) (k : ℕ) (m : Message) → hides who k ≡ false
    → IsTrue (is_passive_message m || is_hider_message who k m) → SetsNoStep m
other-stepless who k m bare allowed =
    passive-plain m
    (by (is_passive_message m) (are_some (who.functions k)) (who.probes k) (is_function_message m) (is_probe_message m)
    bare allowed)
  where
    by : (p a b f g : Bool) → (a || b) ≡ false → IsTrue (p || ((a && f) || (b && g))) → p ≡ true
    by true a b f g none it = refl
    by false true b f g none it = absurd (false≢true (sym none))
    by false false true f g none it = absurd (false≢true (sym none))
    by false false false f g none it = absurd (false≢true it)
