use Rattle.std.proofs.Common.{◌≡◌, ◌≢◌, ◌<◌, ℕ, Bool, true, false, is_some, Option, Some, None, List, [], length, refl, sym, ap, ◌∙◌, inl, inr}
use Rattle.std.proofs.lemmas.Bool.{false≢true}
use Rattle.std.proofs.lemmas.Option.{none-some, same_Some}
use Rattle.pr_line.specs.declared.options.Options.{Options}
use Rattle.pr_model.specs.declared.calls.Call.{Call}
use Rattle.pr_model.specs.declared.calls.Call.TheVariants as call
use Rattle.pr_num.specs.Control.{clear_fault, single_step}
use Rattle.pr_num.specs.Messages.{message_code, nth_word, operands, spelling}
use Rattle.pr_num.specs.Sets.{union_word}
use Rattle.pr_num.specs.Words.{word_bytes, word_of}
use Rattle.pr_num.specs.declared.messages.Message.{Message}
use Rattle.pr_num.specs.declared.messages.Message.TheVariants as message
use Rattle.pr_truss.specs.Asides.{marks_at}
use Rattle.pr_truss.specs.FunctionCalls.{call_beside, function_call_of, next_function_call_of, patch_call}
use Rattle.pr_truss.specs.Marks.{first_function, has_functions, no_functions}
use Rattle.pr_truss.specs.Messages.{message_call}
use Rattle.pr_truss.specs.NextCalls.{call_of, opening_call}
use Rattle.pr_truss.specs.Trusses.{TrussState, traced_at}
use Rattle.pr_truss.specs.declared.asides.Aside.{Aside}
use Rattle.pr_truss.specs.declared.asides.Aside.TheVariants.{AwaitingAgain, AwaitingStop, Asking, Nothing, Patching, Planting, Reading}
use Rattle.pr_truss.specs.declared.marks.Marks.{Marks}
use Rattle.pr_truss.specs.declared.marks.Stepped.{Stepped}
use Rattle.pr_truss.specs.declared.stages.AfterClosing.TheVariants.{GoOn, OpenNext}
use Rattle.pr_truss.specs.declared.stages.OpeningStep.{OpeningStep}
use Rattle.pr_truss.specs.declared.stages.OpeningStep.TheVariants as opening
use Rattle.pr_truss.specs.declared.stages.Stage.{Stage}
use Rattle.pr_truss.specs.declared.stages.Stage.TheVariants.{Closing, Finished, Opening, OpeningControl, Polling, ReadingLwps, ReadingStatus, ReadingText, Running, Spawning, Unfollowing}
use Rattle.pr_function_laws.proofs.LeavingProcesses.LeavingStages.{IsLeft, asks, awaits, closes_files, halts, has_ended, lifts_all, looks, reads_text, waits_again}
use Rattle.pr_function_laws.proofs.Marks.LiftLemmas.{step_flags}
use Rattle.pr_function_laws.proofs.NextCalls.PatchCalls.{next-beside, next-staged}
use Rattle.pr_function_hides.proofs.LiftedSteps.MarkedWalk.{IsFlagged}
use Rattle.pr_function_hides.proofs.Replies.OwnFiles.{IsBeside, IsWithin}

-- PCRUN with PRCFAULT and PRSTEP is sent to a process in which a step is under way, and before truss is interrupted.

abbrev bytes_sent : Call → List ℕ
bytes_sent (call.Ctl handle bytes) = bytes
bytes_sent _ = []

-- ---- other messages

-- a message that truss sends, and that is no PCRUN
abbrev is_other : Message → Bool
is_other message.Stop = true
is_other message.Wstop = true
is_other message.Cfault = true
is_other (message.Strace set) = true
is_other (message.Sfault set) = true
is_other (message.Sentry set) = true
is_other (message.Sexit set) = true
is_other (message.Set modes) = true
is_other (message.Unset modes) = true
is_other (message.Read at size) = true
is_other (message.Write at size) = true
is_other m = false

other-first : (m : Message) (tail : List ℕ) (flags : ℕ) → is_other m ≡ true
    → nth_word (spelling m tail) 0 ≢ nth_word (spelling (message.Run flags) []) 0
unfolding message_code operands nth_word word_bytes word_of
other-first message.Stop tail flags it is = cc
other-first message.Wstop tail flags it is = cc
other-first message.Cfault tail flags it is = cc
other-first (message.Strace set) tail flags it is = cc
other-first (message.Sfault set) tail flags it is = cc
other-first (message.Sentry set) tail flags it is = cc
other-first (message.Sexit set) tail flags it is = cc
other-first (message.Set modes) tail flags it is = cc
other-first (message.Unset modes) tail flags it is = cc
other-first (message.Read at size) tail flags it is = cc
other-first (message.Write at size) tail flags it is = cc
other-first _ tail flags it is = absurd (false≢true it)

-- other flags

none-not : nth_word (spelling (message.Run 0) []) 1 ≢ nth_word (spelling (message.Run step_flags) []) 1
unfolding message_code operands nth_word word_bytes word_of union_word
none-not is = cc

clear-not : nth_word (spelling (message.Run clear_fault) []) 1 ≢ nth_word (spelling (message.Run step_flags) []) 1
unfolding message_code operands nth_word word_bytes word_of union_word
clear-not is = cc

single-not : nth_word (spelling (message.Run single_step) []) 1 ≢ nth_word (spelling (message.Run step_flags) []) 1
unfolding message_code operands nth_word word_bytes word_of union_word
single-not is = cc

module _ (t : TrussState) (c : ℕ) where
  abbrev RunCall : Call
  RunCall = message_call c (message.Run step_flags)

  -- it runs the process at a place, in which a step is under way
  pub record RunsStep : Type 0 where
    pub place : ℕ
    pub within : place < length t.traced
    pub stage : t.stage ≡ Running place
    pub idle : t.aside ≡ Nothing
    pub control : (traced_at t place).control ≡ c
    pub flags : spelling (message.Run (marks_at t place).flags) [] ≡ spelling (message.Run step_flags) []

  sends-not : {A : Type 0} (m : Message) → is_other m ≡ true → (handle : ℕ) (tail : List ℕ)
      → Some (call.Ctl handle (spelling m tail)) ≡ Some RunCall → A
  sends-not m it handle tail is =
      absurd (other-first m tail step_flags it
      (ap (λ (d : Call). nth_word (bytes_sent d) 0) (same_Some (call.Ctl handle (spelling m tail)) RunCall is)))

  never-calls : {A : Type 0} (d : Call) → Some d ≡ Some RunCall → ((handle : ℕ) (bytes : List ℕ) → d ≢ call.Ctl handle
      bytes) → A
  never-calls d is other = absurd (other c (spelling (message.Run step_flags) []) (same_Some d RunCall is))

  ctl-same : {a b : ℕ} {xs ys : List ℕ} → call.Ctl a xs ≡ call.Ctl b ys → (a ≡ b) × (xs ≡ ys)
  ctl-same is = (cc, cc)

  opening-not : {A : Type 0} (q : ℕ) (step : OpeningStep) → function_call_of t (Opening q step) ≡ Some RunCall → A
  unfolding function_call_of call_of opening_call
  opening-not q opening.OpenStatus is = never-calls _ is (λ m xs same. cc)
  opening-not q opening.OpenLstatus is = never-calls _ is (λ m xs same. cc)
  opening-not q opening.OpenMemory is = never-calls _ is (λ m xs same. cc)
  opening-not q opening.ClearModes is = sends-not (message.Unset _) refl _ [] is
  opening-not q opening.SetRelease is = sends-not (message.Set _) refl _ [] is
  opening-not q opening.Stop is = sends-not message.Stop refl _ [] is
  opening-not q (opening.AwaitStop until) is = never-calls _ is (λ m xs same. cc)
  opening-not q opening.ReadLwps is = never-calls _ is (λ m xs same. cc)
  opening-not q opening.TraceSignals is = sends-not (message.Strace _) refl _ [] is
  opening-not q opening.TraceFaults is = sends-not (message.Sfault _) refl _ [] is
  opening-not q opening.TraceEntries is = sends-not (message.Sentry _) refl _ [] is
  opening-not q opening.TraceExits is = sends-not (message.Sexit _) refl _ [] is
  opening-not q opening.Follow is = sends-not (message.Set _) refl _ [] is
  opening-not q opening.Start is =
      absurd (none-not
      (ap (λ (d : Call). nth_word (bytes_sent d) 1)
      (same_Some (message_call (traced_at t q).control (message.Run 0)) RunCall is)))

  stage-runs : t.aside ≡ Nothing → (stage : Stage) → t.stage ≡ stage → IsWithin (length t.traced) stage
      → function_call_of t stage ≡ Some RunCall → RunsStep
  unfolding function_call_of call_of
  stage-runs idle (Running q) at within is =
      let both =
      ctl-same (same_Some (message_call (traced_at t q).control (message.Run (marks_at t q).flags)) RunCall is) in
      record { place = q; within = within; stage = at; idle = idle; control = both.0; flags = both.1 }
  stage-runs idle (Opening q step) at within is = opening-not q step is
  stage-runs idle (Spawning program) at within is = never-calls _ is (λ m xs same. cc)
  stage-runs idle (OpeningControl pid) at within is = never-calls _ is (λ m xs same. cc)
  stage-runs idle Polling at within is = never-calls _ is (λ m xs same. cc)
  stage-runs idle (ReadingStatus q) at within is = never-calls _ is (λ m xs same. cc)
  stage-runs idle (ReadingText q l from len) at within is = never-calls _ is (λ m xs same. cc)
  stage-runs idle (Closing q OpenNext) at within is = never-calls _ is (λ m xs same. cc)
  stage-runs idle (Closing q GoOn) at within is = never-calls _ is (λ m xs same. cc)
  stage-runs idle Finished at within is = absurd (none-some RunCall is)
  stage-runs idle _ at within is = absurd within

  patch-not : {A : Type 0} (opts : Options) (control : ℕ) (plant lift : Option ℕ)
      → Some (patch_call opts control plant lift) ≡ Some RunCall → A
  patch-not opts control (Some i) lift is = sends-not (message.Write _ _) refl _ _ is
  patch-not opts control None (Some i) is = sends-not (message.Write _ _) refl _ _ is
  patch-not opts control None None is = sends-not message.Cfault refl _ [] is

  aside-runs : IsWithin (length t.traced) t.stage → (aside : Aside) → t.aside ≡ aside
      → IsBeside (length t.traced) aside → call_beside t t.stage aside ≡ Some RunCall → RunsStep
  unfolding call_beside
  aside-runs within Nothing idle beside is = stage-runs idle t.stage refl within is
  aside-runs within (Reading q function) at beside is = sends-not (message.Read _ _) refl _ [] is
  aside-runs within (Planting q function) at beside is = sends-not (message.Write _ _) refl _ _ is
  aside-runs within (Patching q plants lifts clear) at beside is =
      patch-not t.options (traced_at t q).control (first_function plants) (first_function lifts) is
  aside-runs within _ at beside is = absurd beside

  module _ (has : has_functions t.options ≡ true) (next : next_function_call_of t ≡ Some RunCall) where
    beside-is : call_beside t t.stage t.aside ≡ Some RunCall
    beside-is = sym (next-beside t.options has t refl) ∙ next

    pub runs-step : IsWithin (length t.traced) t.stage → IsBeside (length t.traced) t.aside → RunsStep
    runs-step within beside = aside-runs within t.aside refl beside beside-is

    staged : (stage : Stage) → t.stage ≡ stage → t.aside ≡ Nothing → function_call_of t stage ≡ Some RunCall
    staged stage at idle = sym (next-staged t.options has t stage refl idle at) ∙ next

    besides : (aside : Aside) → t.aside ≡ aside → call_beside t t.stage aside ≡ Some RunCall
    besides aside at = sym (ap (call_beside t t.stage) at) ∙ beside-is

    -- where it leaves its processes it does not
    pub left-not : IsLeft t → ⊥
    unfolding function_call_of call_of call_beside
    left-not (halts at idle within) = sends-not message.Stop refl _ [] (staged Unfollowing at idle)
    left-not (awaits until at beside within) =
        never-calls _ (besides (AwaitingStop until) beside) (λ m xs same. cc)
    left-not (asks at beside within) = sends-not message.Wstop refl _ [] (besides Asking beside)
    left-not (waits_again until at beside within) =
        never-calls _ (besides (AwaitingAgain until) beside) (λ m xs same. cc)
    left-not (looks at idle within) = never-calls _ (staged ReadingLwps at idle) (λ m xs same. cc)
    left-not (reads_text l from len at idle within) =
        never-calls _ (staged (ReadingText 0 l from len) at idle) (λ m xs same. cc)
    left-not (lifts_all clear at beside within) =
        patch-not t.options (traced_at t 0).control (first_function no_functions)
        (first_function (marks_at t 0).planted)
        (besides (Patching 0 no_functions (marks_at t 0).planted clear) beside)
    left-not (closes_files at idle within) =
        never-calls _ (staged (Closing 0 GoOn) at idle) (λ m xs same. cc)
    left-not (has_ended at idle) = absurd (none-some RunCall (staged Finished at idle))

-- the process that it runs with these flags has a step under way
pub flagged-step : (m : Marks) (pid : ℕ) → IsFlagged pid m
    → spelling (message.Run m.flags) [] ≡ spelling (message.Run step_flags) []
    → (step : Stepped) × (m.stepped ≡ Some step)
flagged-step m pid (inl some) same = by m.stepped refl some
  where
    by : (x : Option Stepped) → m.stepped ≡ x → is_some x ≡ true → (step : Stepped) × (m.stepped ≡ Some step)
    by None is none = absurd (false≢true none)
    by (Some step) is it = (step, is)
flagged-step m pid (inr (inl none)) same =
    absurd (none-not (ap (λ f. nth_word (spelling (message.Run f) []) 1) (sym none) ∙ ap (λ xs. nth_word xs 1) same))
flagged-step m pid (inr (inr (inl clears))) same =
    absurd (clear-not (ap (λ f. nth_word (spelling (message.Run f) []) 1) (sym clears) ∙ ap (λ xs. nth_word xs 1) same))
flagged-step m pid (inr (inr (inr steps))) same =
    absurd (single-not (ap (λ f. nth_word (spelling (message.Run f) []) 1) (sym steps) ∙ ap (λ xs. nth_word xs 1) same))
