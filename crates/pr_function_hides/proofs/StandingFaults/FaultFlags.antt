use Rattle.std.proofs.Common.{◌≡◌, ◌≢◌, ◌<◌, ℕ, true, false, Option, Some, None, Ok, [], length, refl, sym, subst}
use Rattle.pr_function_hides.proofs.Replies.OwnFiles.{IsBeside, IsWithin}
use Rattle.pr_function_hides.proofs.Replies.PlantedReplies.{AfterAside, AfterStage, LeftSo, fed-so}
use Rattle.pr_function_hides.proofs.Replies.PlantedWalk.{marks_then}
use Rattle.pr_model.specs.declared.calls.Reply.{Reply}
use Rattle.pr_num.specs.Control.{clear_fault, single_step}
use Rattle.pr_num.specs.Messages.{bad_operand, encoded_length, first_message, in_columns, message_code, message_read, nth_word, one_word, operand_count, operands, spelling, tail_length, unpadded_length, with_tail}
use Rattle.pr_num.specs.Sets.{union_word}
use Rattle.pr_num.specs.Words.{word_bytes, word_of}
use Rattle.pr_num.specs.declared.messages.Message.TheVariants as message
use Rattle.pr_report_laws.proofs.Invariant.StandLemmas.{Each, EachBut, each-but}
use Rattle.pr_rec.specs.declared.lwps.LwpStatus.{LwpStatus}
use Rattle.pr_truss.specs.FunctionFeeding.{fed_functions}
use Rattle.pr_truss.specs.Marks.{has_functions}
use Rattle.pr_truss.specs.Processes.{without_last}
use Rattle.pr_truss.specs.Replies.{answer_of}
use Rattle.pr_truss.specs.Trusses.{TrussState, traced_at}
use Rattle.pr_truss.specs.declared.asides.Aside.{Aside}
use Rattle.pr_truss.specs.declared.asides.Aside.TheVariants.{Nothing, Reading, Planting, Patching}
use Rattle.pr_truss.specs.declared.function_events.FunctionEvent.{FunctionEvent}
use Rattle.pr_truss.specs.declared.function_events.FunctionEvent.TheVariants.{AfterCopy, AtBreakpoint, BeforeCopy, Completed, Other, Replaced, TraceTrap}
use Rattle.pr_truss.specs.declared.marks.Marks.{Marks}
use Rattle.pr_truss.specs.declared.processes.Traced.{Traced}
use Rattle.pr_truss.specs.declared.replies.Answer.TheVariants.{Interrupted}
use Rattle.pr_truss.specs.declared.stages.AfterClosing.TheVariants.{GoOn, OpenNext}
use Rattle.pr_truss.specs.declared.stages.Stage.{Stage}
use Rattle.pr_truss.specs.declared.stages.Stage.TheVariants.{Spawning, OpeningControl, Opening, Polling, ReadingStatus, ReadingText, Running, Closing, Finished}

-- The run flags of a truss with functions are none, PRCFAULT, PRSTEP, or both; and PCRUN with them is read as it is
-- written.

pub data IsRunFlags (n : ℕ) : Type 0 where
  none : n ≡ 0 → IsRunFlags n
  clears : n ≡ clear_fault → IsRunFlags n
  steps : n ≡ single_step → IsRunFlags n
  both : n ≡ union_word clear_fault single_step → IsRunFlags n

-- ---- as they are read

abbrev IsRead : ℕ → Type 0
IsRead n = first_message (spelling (message.Run n) []) ≡ Ok (message.Run n, 16)

read-none : IsRead 0
unfolding first_message message_read message_code operands nth_word word_bytes word_of one_word in_columns bad_operand
    with_tail encoded_length unpadded_length operand_count tail_length
read-none = refl

read-clears : IsRead clear_fault
unfolding first_message message_read message_code operands nth_word word_bytes word_of one_word in_columns bad_operand
    with_tail encoded_length unpadded_length operand_count tail_length
read-clears = refl

read-steps : IsRead single_step
unfolding first_message message_read message_code operands nth_word word_bytes word_of one_word in_columns bad_operand
    with_tail encoded_length unpadded_length operand_count tail_length
read-steps = refl

read-both : IsRead (union_word clear_fault single_step)
unfolding first_message message_read message_code operands nth_word word_bytes word_of one_word in_columns bad_operand
    with_tail encoded_length unpadded_length operand_count tail_length union_word
read-both = refl

pub run-read : (n : ℕ) → IsRunFlags n → IsRead n
run-read n (none is) = subst IsRead (sym is) read-none
run-read n (clears is) = subst IsRead (sym is) read-clears
run-read n (steps is) = subst IsRead (sym is) read-steps
run-read n (both is) = subst IsRead (sym is) read-both

-- ---- along the replies

event-flags : (m : Marks) (l : LwpStatus) (e : FunctionEvent) → IsRunFlags m.flags
    → IsRunFlags (let n = marks_then m l e in n.flags)
event-flags m l (AtBreakpoint function) was = both refl
event-flags m l (Completed step) was = clears refl
event-flags m l TraceTrap was = clears refl
event-flags m l BeforeCopy was = steps refl
event-flags m l AfterCopy was = was
event-flags m l Replaced was = none refl
event-flags m l Other was = was

module _ (t : TrussState) (r : Reply) (off : t.leaving ≡ false) (follow : t.options.follow ≡ false)
    (at_stage : IsWithin (length t.traced) t.stage) (at_aside : IsBeside (length t.traced) t.aside)
    (calm : answer_of r ≢ Interrupted) (all : Each (λ (v : Traced). IsRunFlags v.marks.flags) t.traced) where
  abbrev Q : ℕ → Marks → Type 0
  Q pid m = IsRunFlags m.flags

  others : (q : ℕ) → EachBut (λ (v : Traced). IsRunFlags v.marks.flags) t.traced q
  others q = each-but (λ (v : Traced). IsRunFlags v.marks.flags) t.traced q all

  left : (q : ℕ) → q < length t.traced → (v : Option Traced) → LeftSo Q v (traced_at t q)
  left q within None = tt
  left q within (Some v) = all q within

  stage-flags : (stage : Stage) → IsWithin (length t.traced) stage → AfterStage Q t r stage
  stage-flags (OpeningControl pid) w = (all, λ accepted. none refl)
  stage-flags (ReadingStatus q) w = (all, λ l e accepted told fresh. event-flags _ l _ (all q w))
  stage-flags (Running q) w = (others q, none refl)
  stage-flags (Closing q OpenNext) w = (others q, left q w (without_last (traced_at t q)))
  stage-flags (Closing q GoOn) w = (others q, left q w (without_last (traced_at t q)))
  stage-flags (Spawning program) w = all
  stage-flags (Opening q step) w = all
  stage-flags Polling w = all
  stage-flags (ReadingText q l from len) w = all
  stage-flags Finished w = all
  stage-flags _ w = absurd w

  aside-flags : (aside : Aside) → IsBeside (length t.traced) aside → AfterAside Q t r aside
  aside-flags Nothing w = stage-flags t.stage at_stage
  aside-flags (Reading q function) w = all
  aside-flags (Planting q function) w = (others q, all q w)
  aside-flags (Patching q plants lifts clear) w = (others q, all q w)
  aside-flags _ w = absurd w

  pub fed-flags : has_functions t.options ≡ true
      → Each (λ (v : Traced). IsRunFlags v.marks.flags) (fed_functions t r).traced
  fed-flags has = fed-so Q t r off follow at_stage at_aside calm has (aside-flags t.aside at_aside)
