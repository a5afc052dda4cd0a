use Rattle.std.proofs.Common.{◌≡◌, ◌≢◌, ◌⊎◌, ◌<◌, ◌+◌, ◌||◌, ℕ, Bool, true, false, cond, is_some, nat_lt, Option, Some}
use Rattle.std.proofs.Common.{None, List, [], ◌∷◌, ◌++◌, length, refl, sym, subst, ap, ◌∙◌, inl, inr}
use Rattle.std.proofs.lemmas.Bool.{cases_Bool, cases_eq, false≢true}
use Rattle.std.proofs.lemmas.List.{get_or-set_other, get_or_push}
use Rattle.std.specs.List.{slice_get, slice_set}
use Rattle.pr_function_hides.proofs.Replies.FunctionSets.{first-none, has-without, none-second, without-keeps}
use Rattle.pr_function_hides.specs.Copying.{IsEmpty}
use Rattle.pr_function_hides.proofs.Replies.OwnFiles.{IsBeside, IsWithin}
use Rattle.pr_function_hides.proofs.Replies.PlantedReplies.{learnt-pid, lost-marks}
use Rattle.pr_line.specs.Events.{event_of}
use Rattle.pr_line.specs.Selections.{is_selected}
use Rattle.pr_line.specs.declared.events.Event.{Event}
use Rattle.pr_line.specs.declared.options.Options.{Options}
use Rattle.pr_model.specs.Replies.{bytes_in, handle_in}
use Rattle.pr_model.specs.declared.calls.Reply.{Reply}
use Rattle.pr_num.specs.declared.errnos.Errno.{Errno}
use Rattle.pr_num.specs.declared.errnos.Errno.TheVariants.{Noent}
use Rattle.pr_rec.specs.declared.lwps.LwpStatus.{LwpStatus}
use Rattle.pr_truss.specs.Asides.{marks_at, patching, with_aside, with_lifts, with_marks, with_patches}
use Rattle.pr_truss.specs.Closings.{after_closing, closed_or_removed, polls_or_finished, with_closed, with_closing}
use Rattle.pr_truss.specs.Closings.{with_going_on, with_next_left, with_next_opening}
use Rattle.pr_truss.specs.Feeding.{fed, with_reply}
use Rattle.pr_truss.specs.FunctionEvents.{fresh_event, function_event}
use Rattle.pr_truss.specs.FunctionFeeding.{after_first, after_patch, fed_functions, is_to_plant, planted_if}
use Rattle.pr_truss.specs.FunctionFeeding.{with_aside_answered, with_code_answered, with_code_read, with_function_reply}
use Rattle.pr_truss.specs.FunctionFeeding.{with_function_step_answered, with_functions_begun, with_next_function}
use Rattle.pr_truss.specs.FunctionFeeding.{with_patch_answered, with_pending_told, with_plant_answered, with_planted}
use Rattle.pr_truss.specs.FunctionFeeding.{with_refused_opening, without_planted}
use Rattle.pr_truss.specs.FunctionStops.{after_function_text, with_call_shown, with_copy_begun, with_copy_ended}
use Rattle.pr_truss.specs.FunctionStops.{with_fresh_event, with_function_event, with_function_run_answered}
use Rattle.pr_truss.specs.FunctionStops.{with_function_status_answered, with_function_stop, with_function_stop_read}
use Rattle.pr_truss.specs.FunctionStops.{with_function_text_answered, with_last_event, with_last_stop}
use Rattle.pr_truss.specs.FunctionStops.{with_memory_replaced, with_other_event, with_step_begun, with_step_completed}
use Rattle.pr_truss.specs.FunctionStops.{with_trap_over}
use Rattle.pr_truss.specs.Marks.{first_function, has_function, has_functions, no_functions, without_function}
use Rattle.pr_truss.specs.Openings.{at_step, learnt, step_after, with_control, with_control_answered}
use Rattle.pr_truss.specs.Openings.{with_refused_control, with_refused_start, with_refused_step, with_start_answered}
use Rattle.pr_truss.specs.Openings.{with_step_done}
use Rattle.pr_truss.specs.Processes.{newly_traced, without_last}
use Rattle.pr_truss.specs.Records.{child_of}
use Rattle.pr_truss.specs.Replies.{answer_of}
use Rattle.pr_truss.specs.Stops.{after_text, asked_range, followed_child, text_of, with_child_or, with_event}
use Rattle.pr_truss.specs.Stops.{with_event_over, with_event_shown, with_old_stop_over, with_poll_answered, with_polled}
use Rattle.pr_truss.specs.Stops.{with_run_answered, with_status_answered, with_stop, with_stop_over, with_text_answered}
use Rattle.pr_truss.specs.Stops.{with_text_or_shown}
use Rattle.pr_truss.specs.Trusses.{TrussState, first_of_program, first_truss, idle, nobody, opening_or, traced_at}
use Rattle.pr_truss.specs.Trusses.{with_traced, without_traced}
use Rattle.pr_truss.specs.declared.asides.Aside.TheVariants.{Nothing, Reading, Planting, Patching}
use Rattle.pr_truss.specs.declared.asides.Aside.{Aside}
use Rattle.pr_truss.specs.declared.function_events.FunctionEvent.TheVariants.{Other, AtBreakpoint, Completed, TraceTrap}
use Rattle.pr_truss.specs.declared.function_events.FunctionEvent.TheVariants.{BeforeCopy, AfterCopy, Replaced}
use Rattle.pr_truss.specs.declared.function_events.FunctionEvent.{FunctionEvent}
use Rattle.pr_truss.specs.declared.marks.Marks.{Marks}
use Rattle.pr_truss.specs.declared.processes.Traced.{Traced}
use Rattle.pr_truss.specs.declared.replies.Answer.TheVariants.{Accepted, Interrupted, Gone, Refused}
use Rattle.pr_truss.specs.declared.replies.Answer.{Answer}
use Rattle.pr_truss.specs.declared.stages.AfterClosing.TheVariants.{OpenNext, GoOn, RunParent}
use Rattle.pr_truss.specs.declared.stages.AfterClosing.{AfterClosing}
use Rattle.pr_truss.specs.declared.stages.OpeningStep.TheVariants as opening
use Rattle.pr_truss.specs.declared.stages.OpeningStep.{OpeningStep}
use Rattle.pr_truss.specs.declared.stages.Stage.TheVariants.{Spawning, OpeningControl, Opening, Polling, ReadingStatus}
use Rattle.pr_truss.specs.declared.stages.Stage.TheVariants.{ReadingText, Running, Closing, Finished}
use Rattle.pr_truss.specs.declared.stages.Stage.{Stage}
use Rattle.pr_truss_laws.proofs.Files.HeldLemmas.{at_place, set-at}
use Rattle.pr_truss_laws.proofs.Replies.ReplySteps.{lost-same}
use Rattle.std.proofs.lemmas.Option.{none-some, same_Some}

-- One walk over the replies of a truss with functions that follows no children and was not interrupted: what is so of a
-- process while it is opened stays so where its opening is refused; and then its breakpoints are lifted before its
-- files are closed. Other processes are closed only once they have ended.

-- whether nothing is opened or closed next
abbrev pub is_quiet : Stage → Bool
is_quiet (Opening q step) = false
is_quiet (Closing q next) = false
is_quiet _ = true

-- whether a step of an opening comes next
abbrev pub is_opening : Stage → Bool
is_opening (Opening q step) = true
is_opening _ = false

quiet-opens : (stage : Stage) → is_quiet stage ≡ true → is_opening stage ≡ false
quiet-opens (Opening q step) is = absurd (false≢true is)
quiet-opens _ is = refl

-- whether functions of a process that is opened are looked at
abbrev is_looking : Aside → Bool
is_looking (Reading q function) = true
is_looking (Planting q function) = true
is_looking _ = false

-- the process of which the reply to the next call tells whether it has ended
abbrev pub called_at : Stage → Aside → Option ℕ
called_at stage (Reading q function) = Some q
called_at stage (Planting q function) = Some q
called_at stage (Patching q plants lifts clear) = Some q
called_at (Opening q step) Nothing = Some q
called_at (ReadingStatus q) Nothing = Some q
called_at (ReadingText q l from len) Nothing = Some q
called_at (Running q) Nothing = Some q
called_at stage aside = None

-- the process of which functions are looked at is opened, and only its start is left to do; and else nothing is
-- planted or lifted while a process is opened
abbrev pub LooksSo : Stage → Aside → Type 0
LooksSo stage Nothing = Unit {0}
LooksSo stage (Reading q function) = stage ≡ Opening q opening.Start
LooksSo stage (Planting q function) = stage ≡ Opening q opening.Start
LooksSo stage _ = is_opening stage ≡ false

-- What is so of a process that has ended, of one of which a step of the opening comes next, and of one of which the
-- opening was refused.
module _ (Over : ℕ → Type 0) (Opens : OpeningStep → ℕ → Type 0) (Leaves : ℕ → Type 0) where
  -- no breakpoint is planted, or all that are will be lifted before anything else
  abbrev pub Lifts : ℕ → Aside → List Bool → Type 0
  Lifts q Nothing planted = IsEmpty planted
  Lifts q (Patching b plants lifts clear) planted =
      (b ≡ q)
      × ((first_function plants ≡ None)
      × ((i : ℕ) → has_function planted i ≡ true → has_function lifts i ≡ true))
  Lifts q _ planted = ⊥

  abbrev pub StageSo : TrussState → Stage → Type 0
  StageSo t (Opening q step) = Opens step (traced_at t q).pid
  StageSo t (Closing q OpenNext) =
      Over (traced_at t q).pid ⊎ (Leaves (traced_at t q).pid × Lifts q t.aside (marks_at t q).planted)
  StageSo t (Closing q next) = Over (traced_at t q).pid
  StageSo t _ = Unit {0}

  pub record ClosesSo (t : TrussState) : Type 0 where
    pub stage : StageSo t t.stage
    pub looks : LooksSo t.stage t.aside

  -- ---- where nothing is opened or closed

  record Quiet (v : TrussState) : Type 0 where
    stage : is_quiet v.stage ≡ true
    aside : is_looking v.aside ≡ false

  quiet-stage : (v : TrussState) (stage : Stage) → is_quiet stage ≡ true → StageSo v stage
  quiet-stage v (Opening q step) is = absurd (false≢true is)
  quiet-stage v (Closing q next) is = absurd (false≢true is)
  quiet-stage v _ is = tt

  quiet-looks : (stage : Stage) (aside : Aside) → is_looking aside ≡ false → is_opening stage ≡ false
      → LooksSo stage aside
  quiet-looks stage Nothing is closed = tt
  quiet-looks stage (Reading q function) is closed = absurd (false≢true (sym is))
  quiet-looks stage (Planting q function) is closed = absurd (false≢true (sym is))
  quiet-looks stage _ is closed = closed

  quiet-so : (v : TrussState) → Quiet v → ClosesSo v
  quiet-so v w = record {
    stage = quiet-stage v v.stage w.stage;
    looks = quiet-looks v.stage v.aside w.aside (quiet-opens v.stage w.stage);
  }

  either : (b : Bool) (v w : TrussState) → Quiet v → Quiet w → Quiet (cond b v w)
  either true v w x y = x
  either false v w x y = y

  module _ (u : TrussState) (off : u.leaving ≡ false) (follow : u.options.follow ≡ false)
      (idle_aside : is_looking u.aside ≡ false) where
    at : (stage : Stage) → is_quiet stage ≡ true → Quiet (record u { stage = stage })
    at stage is = record { stage = is; aside = idle_aside }

    over-quiet : (q : ℕ) → Quiet (with_stop_over u q)
    unfolding with_stop_over
    over-quiet q = subst Quiet (sym (ap (λ b. cond b (with_closing u q) (record u { stage = Running q })) off))
        (at (Running q) refl)

    event-over-quiet : (q : ℕ) (l : LwpStatus) → Quiet (with_event_over u q l)
    unfolding with_event_over followed_child
    event-over-quiet q l =
        subst Quiet (sym (ap (λ f. with_child_or u q (cond f (child_of l) None)) follow)) (over-quiet q)

    polls-quiet : (t : Option Traced) → Quiet (polls_or_finished u t)
    polls-quiet None = at Finished refl
    polls-quiet (Some t) = at Polling refl

    going-quiet : Quiet (with_going_on u)
    unfolding with_going_on
    going-quiet =
        subst Quiet (sym (ap (λ b. cond b (with_next_left u) (polls_or_finished u (slice_get u.traced 0))) off))
        (polls-quiet (slice_get u.traced 0))

    next-quiet : (pid : Option ℕ) → Quiet (opening_or u (with_going_on u) pid)
    next-quiet None = going-quiet
    next-quiet (Some pid) = record { stage = refl; aside = idle_aside }

    opening-quiet : Quiet (with_next_opening u)
    unfolding with_next_opening
    opening-quiet = next-quiet (slice_get u.options.pids u.begun)

  module _ (u : TrussState) (off : u.leaving ≡ false) (follow : u.options.follow ≡ false)
      (idle_aside : is_looking u.aside ≡ false) (q : ℕ) (l : LwpStatus) where
    shown-quiet : (range : Option (ℕ × ℕ)) → Quiet (with_text_or_shown u q l range)
    unfolding with_event_shown
    shown-quiet None = event-over-quiet (with_event_shown u q l None) off follow idle_aside q l
    shown-quiet (Some range) = record { stage = refl; aside = idle_aside }

    event-quiet : (e : Option Event) → Quiet (with_event u q l e)
    event-quiet None = over-quiet u off follow idle_aside q
    event-quiet (Some e) =
        either (is_selected u.options e) _ _ (shown-quiet (asked_range u.options e))
        (event-over-quiet u off follow idle_aside q l)

    old-quiet : Quiet (with_old_stop_over u q)
    unfolding with_old_stop_over
    old-quiet = over-quiet (with_traced u q (record (traced_at u q) { old = _ })) off follow idle_aside q

    stop-quiet : Quiet (with_stop u q l)
    unfolding with_stop
    stop-quiet =
        either _ _ _ (over-quiet u off follow idle_aside q)
        (either _ _ _ old-quiet (either _ _ _ (over-quiet u off follow idle_aside q) (event-quiet (event_of l))))

  patching-looks : (q : ℕ) (plants lifts : List Bool) (clear : Bool)
      → is_looking (patching q plants lifts clear) ≡ false
  unfolding patching
  patching-looks q plants lifts clear =
      elim (is_some (first_function plants) || is_some (first_function lifts) || clear)
      as (λ b. is_looking (cond b (Patching q plants lifts clear) Nothing) ≡ false) [ true ↦ refl | false ↦ refl ]

  module _ (u : TrussState) (off : u.leaving ≡ false) (follow : u.options.follow ≡ false)
      (idle_aside : is_looking u.aside ≡ false) (q : ℕ) (l : LwpStatus) where
    patched : (v : TrussState) (plants lifts : List Bool) → Quiet v → Quiet (with_patches v q plants lifts)
    unfolding with_patches
    patched v plants lifts w = record { stage = w.stage; aside = patching-looks q plants lifts false }

    function-quiet : (e : FunctionEvent) → Quiet (with_function_event u q l e)
    unfolding with_function_event with_step_begun with_step_completed with_trap_over with_copy_begun with_copy_ended
        with_other_event with_memory_replaced with_call_shown
    function-quiet (AtBreakpoint function) = patched _ _ _ (over-quiet _ off follow idle_aside q)
    function-quiet (Completed step) = patched _ _ _ (over-quiet _ off follow idle_aside q)
    function-quiet TraceTrap = over-quiet _ off follow idle_aside q
    function-quiet BeforeCopy = patched _ _ _ (stop-quiet _ off follow idle_aside q l)
    function-quiet AfterCopy = patched _ _ _ (stop-quiet _ off follow idle_aside q l)
    function-quiet Replaced = stop-quiet _ off follow idle_aside q l
    function-quiet Other = patched _ _ _ (stop-quiet _ off follow idle_aside q l)

    fresh-quiet : (e : Option Event) → Quiet (with_fresh_event u q l e)
    fresh-quiet None =
        subst Quiet (sym (ap (λ b. cond b (with_last_stop u q l) (with_stop u q l)) off))
        (stop-quiet u off follow idle_aside q l)
    fresh-quiet (Some e) =
        subst Quiet
        (sym (ap (λ b. cond b (with_last_event u q l (function_event u.options (marks_at u q) l.id e))
        (with_function_event u q l (function_event u.options (marks_at u q) l.id e))) off))
        (function-quiet (function_event u.options (marks_at u q) l.id e))

  module _ (u : TrussState) (off : u.leaving ≡ false) (follow : u.options.follow ≡ false)
      (idle_aside : is_looking u.aside ≡ false) (q : ℕ) where
    read-quiet : (l : Option LwpStatus) → Quiet (with_function_stop_read u q l)
    unfolding with_function_stop
    read-quiet None =
        subst Quiet (sym (ap (λ b. cond b (with_lifts (with_stop_over u q) q false) (with_stop_over u q)) off))
        (over-quiet u off follow idle_aside q)
    read-quiet (Some l) = fresh-quiet u off follow idle_aside q l (fresh_event (traced_at u q) l)

  -- ---- the same processes

  pids-set : (u : TrussState) (q : ℕ) (v : Traced) → q < length u.traced → v.pid ≡ (traced_at u q).pid → (i : ℕ)
      → (at_place (slice_set u.traced q v) i).pid ≡ (traced_at u i).pid
  pids-set u q v within same i = elim (cases_eq i q) [
    | inl is ↦
        ap (λ (x : Traced). x.pid) (ap (at_place (slice_set u.traced q v)) is ∙ set-at u.traced q v within)
        ∙ same ∙ ap (λ n. (at_place u.traced n).pid) (sym is)
    | inr apart ↦ ap (λ (x : Traced). x.pid) (get_or-set_other u.traced q i v nobody apart)
  ]

  -- with the same processes
  over-same : (t u : TrussState) (q : ℕ) → (traced_at u q).pid ≡ (traced_at t q).pid → Over (traced_at t q).pid
      → Over (traced_at u q).pid
  over-same t u q same it = subst Over (sym same) it

  -- ---- the replies

  -- What the call has made so, before truss takes its reply: what was so is still so, unless a step of an opening was
  -- granted or the last file of a process is closed.
  pub record CalledSo (t : TrussState) (r : Reply) : Type 0 where
    pub stays : (t.aside ≢ Nothing) ⊎ (answer_of r ≢ Accepted) → StageSo t t.stage
    pub closes : (q : ℕ) (next : AfterClosing) (v : Traced) → t.stage ≡ Closing q next
        → without_last (traced_at t q) ≡ Some v → StageSo t (Closing q next)
    pub gone : (q : ℕ) → called_at t.stage t.aside ≡ Some q → answer_of r ≡ Gone → Over (traced_at t q).pid
    pub begins : (pid : ℕ) → t.stage ≡ OpeningControl pid → t.aside ≡ Nothing → answer_of r ≡ Accepted
        → Opens opening.OpenStatus pid
    pub steps : (q : ℕ) (step next : OpeningStep) → t.stage ≡ Opening q step → t.aside ≡ Nothing
        → answer_of r ≡ Accepted → step_after t.options r step ≡ Some next → Opens next (traced_at t q).pid

  module _ (leaves : (step : OpeningStep) (pid : ℕ) → Opens step pid → Leaves pid) (t : TrussState) (r : Reply)
      (off : t.leaving ≡ false) (follow : t.options.follow ≡ false)
      (at_stage : IsWithin (length t.traced) t.stage) (at_aside : IsBeside (length t.traced) t.aside)
      (calm : answer_of r ≢ Interrupted) (looks_so : LooksSo t.stage t.aside) (called : CalledSo t r) where
    refused-not : (a : Answer) (e : Errno) → a ≡ Refused e → a ≢ Accepted
    refused-not a e is same = let both : Refused e ≡ Accepted = sym is ∙ same in cc

    -- a process that has ended is closed
    over-closes : (v : TrussState) (q : ℕ) → v.stage ≡ Closing q GoOn → Over (traced_at v q).pid
        → is_looking v.aside ≡ false → ClosesSo v
    over-closes v q is over plain = record {
      stage = subst (StageSo v) (sym is) over;
      looks = quiet-looks v.stage v.aside plain (ap is_opening is);
    }

    -- an opening that was refused, by an end
    ended-closes : (v : TrussState) (q : ℕ) → v.stage ≡ Closing q OpenNext → Over (traced_at v q).pid
        → is_looking v.aside ≡ false → ClosesSo v
    ended-closes v q is over plain = record {
      stage = subst (StageSo v) (sym is) (inl over);
      looks = quiet-looks v.stage v.aside plain (ap is_opening is);
    }

    -- and otherwise: what was planted is lifted first
    lifts-so : (q : ℕ) (planted : List Bool) (b : Bool)
        → (is_some (first_function no_functions) || is_some (first_function planted) || false) ≡ b
        → Lifts q (cond b (Patching q no_functions planted false) Nothing) planted
    lifts-so q planted true is = (refl, (refl, λ i has. has))
    lifts-so q planted false is =
        first-none planted (none-second (first_function no_functions) (first_function planted) false is)

    refused-so : (u : TrussState) (q : ℕ) (errno : Errno) → Leaves (traced_at u q).pid
        → ClosesSo (with_refused_opening u q errno)
    unfolding with_refused_opening with_refused_step with_lifts patching
    refused-so u q errno left = record {
      stage = inr (left, lifts-so q (marks_at u q).planted _ refl);
      looks = quiet-looks (Closing q OpenNext) _ (patching-looks q no_functions (marks_at u q).planted false) refl;
    }

    module _ (idle_aside : t.aside ≡ Nothing) where
      plain : is_looking t.aside ≡ false
      plain = ap is_looking idle_aside

      gone-here : (q : ℕ) (stage : Stage) → t.stage ≡ stage → called_at stage Nothing ≡ Some q → answer_of r ≡ Gone
          → Over (traced_at t q).pid
      gone-here q stage is its told =
          called.gone q (ap (λ (x : Stage). called_at x t.aside) is ∙ ap (called_at stage) idle_aside ∙ its) told

      start-so : (program : List ℕ) (a : Answer) → a ≢ Interrupted → Quiet (with_start_answered t program r a)
      unfolding with_start_answered with_refused_start
      start-so program Accepted other = record { stage = refl; aside = plain }
      start-so program (Refused errno) other = going-quiet _ off follow plain
      start-so program Gone other = going-quiet _ off follow plain
      start-so program Interrupted other = absurd (other refl)

      opened-so : (pid : ℕ) → Opens opening.OpenStatus pid → ClosesSo (with_control t pid (handle_in r))
      unfolding with_control newly_traced
      opened-so pid opens =
          let u : Traced = newly_traced pid (handle_in r) in
          let last : at_place (t.traced ++ u ∷ []) (length t.traced) ≡ u =
          get_or_push t.traced u nobody (length t.traced) refl in
          record {
            stage = subst (Opens opening.OpenStatus) (sym (ap (λ (x : Traced). x.pid) last)) opens;
            looks = subst (LooksSo (Opening (length t.traced) opening.OpenStatus)) (sym idle_aside) tt;
          }

      control-so : (pid : ℕ) → t.stage ≡ OpeningControl pid → (a : Answer) → answer_of r ≡ a → a ≢ Interrupted
          → ClosesSo (with_control_answered t pid r a)
      unfolding with_control_answered with_refused_control
      control-so pid is Accepted told other = opened-so pid (called.begins pid is idle_aside told)
      control-so pid is (Refused errno) told other = quiet-so _ (opening-quiet _ off follow plain)
      control-so pid is Gone told other = quiet-so _ (opening-quiet _ off follow plain)
      control-so pid is Interrupted told other = absurd (other refl)

      polled-so : (place : Option ℕ) → t.stage ≡ Polling → Quiet (with_polled t place)
      polled-so None is = record { stage = ap is_quiet is; aside = plain }
      polled-so (Some q) is = record { stage = refl; aside = plain }

      poll-so : (a : Answer) → a ≢ Interrupted → t.stage ≡ Polling → Quiet (with_poll_answered t r a)
      unfolding with_poll_answered
      poll-so Accepted other is = polled-so _ is
      poll-so (Refused errno) other is = polled-so None is
      poll-so Gone other is = polled-so None is
      poll-so Interrupted other is = absurd (other refl)

      status-so : (q : ℕ) → t.stage ≡ ReadingStatus q → (a : Answer) → answer_of r ≡ a → a ≢ Interrupted
          → ClosesSo (with_function_status_answered t q r a)
      unfolding with_function_status_answered with_status_answered
      status-so q is Accepted told other = quiet-so _ (read-quiet t off follow plain q _)
      status-so q is (Refused errno) told other = quiet-so _ (over-quiet t off follow plain q)
      status-so q is Gone told other =
          over-closes _ q refl (gone-here q (ReadingStatus q) is refl told) plain
      status-so q is Interrupted told other = absurd (other refl)

      shown-so : (q : ℕ) (l : LwpStatus) (from len : ℕ) → t.stage ≡ ReadingText q l from len → (a : Answer)
          → answer_of r ≡ a → a ≢ Interrupted
          → ClosesSo (after_text (with_event_shown t q l (text_of len (bytes_in r))) q l a)
      unfolding after_text with_event_shown
      shown-so q l from len is Accepted told other = quiet-so _ (event-over-quiet _ off follow plain q l)
      shown-so q l from len is (Refused errno) told other = quiet-so _ (event-over-quiet _ off follow plain q l)
      shown-so q l from len is Gone told other =
          over-closes _ q refl (gone-here q (ReadingText q l from len) is refl told) plain
      shown-so q l from len is Interrupted told other = absurd (other refl)

      function-text-so : (q : ℕ) (v : TrussState) (a : Answer) → ClosesSo v → ClosesSo (after_function_text t v q a)
      function-text-so q v Gone it = it
      function-text-so q v _ it = subst ClosesSo (sym (ap (λ b. cond b (with_lifts v q false) v) off)) it

      module _ (q : ℕ) (within : q < length t.traced) where
        unflagged-same : (m : Marks) → (traced_at (with_marks t q m) q).pid ≡ (traced_at t q).pid
        unflagged-same m = pids-set t q (record (traced_at t q) { marks = m }) within refl q

        run-so : t.stage ≡ Running q → (a : Answer) → answer_of r ≡ a → a ≢ Interrupted
            → ClosesSo (with_function_run_answered t q a)
        unfolding with_function_run_answered with_run_answered
        run-so is Accepted told other = quiet-so _ (going-quiet _ off follow plain)
        run-so is (Refused errno) told other = quiet-so _ (going-quiet _ off follow plain)
        run-so is Gone told other =
            over-closes _ q refl
            (over-same t (with_marks t q _) q (unflagged-same _) (gone-here q (Running q) is refl told)) plain
        run-so is Interrupted told other = absurd (other refl)

        -- a file is closed
        removed-so : (next : AfterClosing) → IsWithin (length t.traced) (Closing q next)
            → Quiet (after_closing (without_traced t q) next)
        unfolding after_closing
        removed-so OpenNext w = opening-quiet (without_traced t q) off follow plain
        removed-so GoOn w = going-quiet (without_traced t q) off follow plain
        removed-so (RunParent parent) w = absurd w

        left-so : (next : AfterClosing) (v : Traced) → t.stage ≡ Closing q next
            → without_last (traced_at t q) ≡ Some v → ClosesSo (with_traced t q v)
        left-so next v is left = record {
          stage = subst (StageSo (with_traced t q v)) (sym is) (by next (called.closes q next v is left));
          looks = quiet-looks t.stage t.aside plain (ap is_opening is);
        }
          where
            pid-same : (traced_at (with_traced t q v) q).pid ≡ (traced_at t q).pid
            pid-same = pids-set t q v within (let same = lost-same (traced_at t q) v left in same.pid) q

            marks-same : (marks_at (with_traced t q v) q).planted ≡ (marks_at t q).planted
            marks-same =
                ap (λ (x : Traced). x.marks.planted) (set-at t.traced q v within)
                ∙ ap (λ (m : Marks). m.planted) (lost-marks (traced_at t q) v left)

            by : (next : AfterClosing) → StageSo t (Closing q next) → StageSo (with_traced t q v) (Closing q next)
            by OpenNext (inl over) = inl (subst Over (sym pid-same) over)
            by OpenNext (inr w) =
                inr (subst Leaves (sym pid-same) w.0, subst (Lifts q t.aside) (sym marks-same) w.1)
            by GoOn over = subst Over (sym pid-same) over
            by (RunParent parent) over = subst Over (sym pid-same) over

        closed-so : (next : AfterClosing) → t.stage ≡ Closing q next → IsWithin (length t.traced) (Closing q next)
            → (v : Option Traced) → without_last (traced_at t q) ≡ v → ClosesSo (closed_or_removed t q next v)
        closed-so next is w None left = quiet-so _ (removed-so next w)
        closed-so next is w (Some v) left = left-so next v is left

        -- the opening of a process
        step-so : (step : OpeningStep) → t.stage ≡ Opening q step → (a : Answer) → answer_of r ≡ a → a ≢ Interrupted
            → ClosesSo (with_function_step_answered t q step r a)
        unfolding with_function_step_answered with_step_done with_refused_step step_after with_next_function
        step-so step is Accepted told other = done (step_after t.options r step) refl
          where
            u : TrussState
            u = with_traced t q (learnt (traced_at t q) r step)

            pid-same : (traced_at u q).pid ≡ (traced_at t q).pid
            pid-same =
                pids-set t q (learnt (traced_at t q) r step) within (learnt-pid (traced_at t q) r step) q

            done : (next : Option OpeningStep) → step_after t.options r step ≡ next
                → ClosesSo (with_functions_begun (at_step u q next) q step)
            done None after = none-begun step after
              where
                none-begun : (s : OpeningStep) → step_after t.options r s ≡ None
                    → ClosesSo (with_functions_begun (with_next_opening u) q s)
                none-begun opening.TraceExits e = absurd (none-some _ (sym e))
                none-begun _ e = quiet-so _ (opening-quiet u off follow plain)
            done (Some next) after = begun step after
              where
                opens-now : Opens next (traced_at u q).pid
                opens-now =
                    subst (Opens next) (sym pid-same) (called.steps q step next is idle_aside told after)

                base : ClosesSo (record u { stage = Opening q next })
                base = record {
                  stage = opens-now;
                  looks = subst (LooksSo (Opening q next)) (sym idle_aside) tt;
                }

                -- behind the traced sets the start comes
                starts : step_after t.options r opening.TraceExits ≡ Some next → next ≡ opening.Start
                starts its =
                    same_Some next opening.Start
                    (sym its ∙ ap (λ b. Some (cond b opening.Follow opening.Start)) follow)

                first : next ≡ opening.Start → (b : Bool)
                    → ClosesSo
                    (cond b (with_aside (record u { stage = Opening q next }) (Reading q 0))
                    (with_aside (record u { stage = Opening q next }) Nothing))
                first last true = record { stage = opens-now; looks = ap (λ (x : OpeningStep). Opening q x) last }
                first last false = record { stage = opens-now; looks = tt }

                begun : (s : OpeningStep) → step_after t.options r s ≡ Some next
                    → ClosesSo (with_functions_begun (record u { stage = Opening q next }) q s)
                begun opening.TraceExits its = first (starts its) (nat_lt 0 (length t.options.functions))
                begun _ its = base
        step-so step is (Refused errno) told other =
            refused-so t q errno
            (leaves step (traced_at t q).pid
            (subst (StageSo t) is (called.stays (inr (refused-not (answer_of r) errno told)))))
        step-so step is Gone told other =
            ended-closes _ q refl (gone-here q (Opening q step) is refl told) plain
        step-so step is Interrupted told other = absurd (other refl)

      -- a row a stage
      stage-so : (stage : Stage) → t.stage ≡ stage → IsWithin (length t.traced) stage
          → ClosesSo (with_function_reply t r stage)
      unfolding with_function_reply with_reply with_function_text_answered with_text_answered with_closed
      stage-so (Spawning program) is w = quiet-so _ (start-so program (answer_of r) calm)
      stage-so (OpeningControl pid) is w = control-so pid is (answer_of r) refl calm
      stage-so (Opening q step) is w = step-so q w step is (answer_of r) refl calm
      stage-so Polling is w = quiet-so _ (poll-so (answer_of r) calm is)
      stage-so (ReadingStatus q) is w = status-so q is (answer_of r) refl calm
      stage-so (ReadingText q l from len) is w =
          function-text-so q _ (answer_of r) (shown-so q l from len is (answer_of r) refl calm)
      stage-so (Running q) is w = run-so q w is (answer_of r) refl calm
      stage-so (Closing q OpenNext) is w = closed-so q w OpenNext is w (without_last (traced_at t q)) refl
      stage-so (Closing q GoOn) is w = closed-so q w GoOn is w (without_last (traced_at t q)) refl
      stage-so Finished is w = quiet-so _ (record { stage = ap is_quiet is; aside = plain })
      stage-so _ is w = absurd w

    -- ---- what comes before the call of a stage

    abbrev idle_now : TrussState
    idle_now = with_aside t Nothing

    module _ (q : ℕ) (within : q < length t.traced) where
      -- functions are looked at
      module _ (is : t.stage ≡ Opening q opening.Start) (busy : t.aside ≢ Nothing)
          (its : called_at t.stage t.aside ≡ Some q) where
        still : Opens opening.Start (traced_at t q).pid
        still = subst (StageSo t) is (called.stays (inl busy))

        -- the same stage, whatever is planted
        goes : (v : TrussState) (aside : Aside) → v.stage ≡ t.stage → (traced_at v q).pid ≡ (traced_at t q).pid
            → LooksSo (Opening q opening.Start) aside → ClosesSo (with_aside v aside)
        goes v aside stage_is same looks = record {
          stage =
              subst (StageSo (with_aside v aside)) (sym (stage_is ∙ is))
              (subst (Opens opening.Start) (sym same) still);
          looks = subst (λ (x : Stage). LooksSo x aside) (sym (stage_is ∙ is)) looks;
        }

        next-goes : (v : TrussState) (function : ℕ) → v.stage ≡ t.stage → (traced_at v q).pid ≡ (traced_at t q).pid
            → ClosesSo (with_next_function v q function)
        unfolding with_next_function
        next-goes v function stage_is same =
            elim (nat_lt function (length v.options.functions))
            as (λ b. ClosesSo (cond b (with_aside v (Reading q function)) (with_aside v Nothing))) [
              | true ↦ goes v (Reading q function) stage_is same refl
              | false ↦ goes v Nothing stage_is same tt
            ]

        looked-gone : answer_of r ≡ Gone → ClosesSo (with_refused_step idle_now q Noent)
        unfolding with_refused_step
        looked-gone told = ended-closes _ q refl (called.gone q its told) refl

        looked-refused : (errno : Errno) → ClosesSo (with_refused_opening idle_now q errno)
        looked-refused errno = refused-so idle_now q errno (leaves opening.Start (traced_at t q).pid still)

        code-so : (function : ℕ) (a : Answer) → answer_of r ≡ a → a ≢ Interrupted
            → ClosesSo (with_code_answered idle_now q function r a)
        unfolding with_code_answered with_code_read
        code-so function Accepted told other =
            elim (is_to_plant t.options function (bytes_in r))
            as (λ b. ClosesSo
            (cond b (with_aside idle_now (Planting q function)) (with_next_function idle_now q (function + 1)))) [
              | true ↦ goes idle_now (Planting q function) refl refl refl
              | false ↦ next-goes idle_now (function + 1) refl refl
            ]
        code-so function (Refused errno) told other = looked-refused errno
        code-so function Gone told other = looked-gone told
        code-so function Interrupted told other = absurd (other refl)

        plant-so : (function : ℕ) (a : Answer) → answer_of r ≡ a → a ≢ Interrupted
            → ClosesSo (with_plant_answered idle_now q function a)
        unfolding with_plant_answered
        plant-so function Accepted told other =
            next-goes (with_planted idle_now q function) (function + 1) refl
            (pids-set t q (record (traced_at t q) { marks = _ }) within refl q)
        plant-so function (Refused errno) told other = looked-refused errno
        plant-so function Gone told other = looked-gone told
        plant-so function Interrupted told other = absurd (other refl)

      -- breakpoints are planted and lifted
      module _ (plants lifts : List Bool) (clear : Bool) (is : t.aside ≡ Patching q plants lifts clear) where
        busy : t.aside ≢ Nothing
        busy e = let both : Patching q plants lifts clear ≡ Nothing = sym is ∙ e in cc

        not-opening : is_opening t.stage ≡ false
        not-opening = subst (LooksSo t.stage) is looks_so

        still-so : StageSo t t.stage
        still-so = called.stays (inl busy)

        its-gone : answer_of r ≡ Gone → Over (traced_at t q).pid
        its-gone told = called.gone q (ap (called_at t.stage) is) told

        -- the same processes, with other breakpoints planted, and less to do
        module _ (v : TrussState) (stage_is : v.stage ≡ t.stage)
            (same : (i : ℕ) → (traced_at v i).pid ≡ (traced_at t i).pid) (plain : is_looking v.aside ≡ false)
            (rest : Aside) (rest_plain : is_looking rest ≡ false)
            (lifts_on : Lifts q (Patching q plants lifts clear) (marks_at t q).planted
            → Lifts q rest (marks_at v q).planted) where
          on : (stage : Stage) → IsWithin (length t.traced) stage → StageSo t stage
              → StageSo (with_aside v rest) stage
          on (Opening b step) w it = subst (Opens step) (sym (same b)) it
          on (Closing b OpenNext) w (inl over) = inl (subst Over (sym (same b)) over)
          on (Closing b OpenNext) w (inr it) =
              let here : Lifts b (Patching q plants lifts clear) (marks_at t b).planted =
              subst (λ (a : Aside). Lifts b a (marks_at t b).planted) is it.1 in
              let place : b ≡ q = sym here.0 in
              inr (
                subst Leaves (sym (same b)) it.0,
                subst (λ n. Lifts n rest (marks_at v n).planted) (sym place)
                    (lifts_on
                    (subst (λ n. Lifts n (Patching q plants lifts clear) (marks_at t n).planted) place here)),
              )
          on (Closing b GoOn) w over = subst Over (sym (same b)) over
          on (Closing b (RunParent parent)) w over = absurd w
          on (Spawning program) w it = tt
          on (OpeningControl pid) w it = tt
          on Polling w it = tt
          on (ReadingStatus b) w it = tt
          on (ReadingText b l from len) w it = tt
          on (Running b) w it = tt
          on Finished w it = tt
          on _ w it = absurd w

          goes-on : ClosesSo (with_aside v rest)
          goes-on = record {
            stage = subst (StageSo (with_aside v rest)) (sym stage_is) (on t.stage at_stage still-so);
            looks = quiet-looks v.stage rest rest_plain (ap is_opening stage_is ∙ not-opening);
          }

          gone-on : (u : TrussState) → u.stage ≡ Closing q GoOn → (traced_at u q).pid ≡ (traced_at v q).pid
              → is_looking u.aside ≡ false → answer_of r ≡ Gone → ClosesSo u
          gone-on u at same_now plain_now told =
              over-closes u q at (subst Over (sym (same_now ∙ same q)) (its-gone told)) plain_now

          after-so : (stage : Stage) → IsWithin (length t.traced) stage → (a : Answer) → answer_of r ≡ a
              → a ≢ Interrupted → ClosesSo (after_patch v rest q stage a)
          unfolding after_patch with_pending_told
          after-so (Closing b OpenNext) w a told other = goes-on
          after-so (Closing b GoOn) w Gone told other = gone-on _ refl refl plain told
          after-so (Closing b GoOn) w Accepted told other = goes-on
          after-so (Closing b GoOn) w (Refused errno) told other = goes-on
          after-so (Closing b GoOn) w Interrupted told other = goes-on
          after-so (Closing b (RunParent parent)) w a told other = absurd w
          after-so stage w Accepted told other = goes-on
          after-so stage w (Refused errno) told other = goes-on
          after-so stage w Gone told other = gone-on _ refl refl plain told
          after-so stage w Interrupted told other = absurd (other refl)

        set-same : (planted : List Bool) (i : ℕ)
            → (traced_at (with_marks idle_now q (record (marks_at t q) { planted = planted })) i).pid
            ≡ (traced_at t i).pid
        set-same planted i =
            pids-set t q (record (traced_at t q) { marks = record (marks_at t q) { planted = planted } }) within refl i

        set-planted : (planted : List Bool)
            → (marks_at (with_marks idle_now q (record (marks_at t q) { planted = planted })) q).planted ≡ planted
        set-planted planted = ap (λ (x : Traced). x.marks.planted) (set-at t.traced q _ within)

        -- a plant: there is none where the opening was refused
        never-plants : (function : ℕ) → first_function plants ≡ Some function → {A : Type 0}
            → Lifts q (Patching q plants lifts clear) (marks_at t q).planted → A
        never-plants function first w = absurd (none-some function (sym w.1.0 ∙ first))

        planted-so : (function : ℕ) → first_function plants ≡ Some function → (a : Answer) → answer_of r ≡ a
            → a ≢ Interrupted
            → ClosesSo (after_patch (planted_if idle_now q function a)
            (patching q (without_function plants function) lifts clear) q t.stage a)
        planted-so function first Accepted told other =
            after-so (with_planted idle_now q function) refl (set-same _) refl _
            (patching-looks q (without_function plants function) lifts clear) (never-plants function first) t.stage
            at_stage Accepted told other
        planted-so function first (Refused errno) told other =
            after-so idle_now refl (λ i. refl) refl _
            (patching-looks q (without_function plants function) lifts clear) (never-plants function first) t.stage
            at_stage (Refused errno) told other
        planted-so function first Gone told other =
            after-so idle_now refl (λ i. refl) refl _
            (patching-looks q (without_function plants function) lifts clear) (never-plants function first) t.stage
            at_stage Gone told other
        planted-so function first Interrupted told other = absurd (other refl)

        -- a lift: one less is planted, and is to be lifted
        lift-on : (function : ℕ) → first_function lifts ≡ Some function
            → Lifts q (Patching q plants lifts clear) (marks_at t q).planted
            → Lifts q (patching q plants (without_function lifts function) clear)
            (without_function (marks_at t q).planted function)
        unfolding patching
        lift-on function first w =
            by (is_some (first_function plants) || is_some (first_function (without_function lifts function)) || clear)
            refl
          where
            less : (i : ℕ) → has_function (without_function (marks_at t q).planted function) i ≡ true
                → has_function (without_function lifts function) i ≡ true
            less i has =
                let other = has-without (marks_at t q).planted function i has in
                without-keeps lifts function i other.apart (w.1.1 i other.has)

            by : (b : Bool)
                → (is_some (first_function plants) || is_some (first_function (without_function lifts function))
                || clear)
                ≡ b
                → Lifts q (cond b (Patching q plants (without_function lifts function) clear) Nothing)
                (without_function (marks_at t q).planted function)
            by true is = (refl, (w.1.0, less))
            by false is = λ i.
                let gone = first-none (without_function lifts function) (none-second _ _ clear is) in
                elim (cases_Bool (has_function (without_function (marks_at t q).planted function) i)) [
                  | inl has ↦ absurd (false≢true (sym (gone i) ∙ less i has))
                  | inr none ↦ none
                ]

        cleared-on : first_function lifts ≡ None → Lifts q (Patching q plants lifts clear) (marks_at t q).planted
            → IsEmpty (marks_at t q).planted
        cleared-on none w i =
            elim (cases_Bool (has_function (marks_at t q).planted i)) [
              | inl has ↦ absurd (false≢true (sym (first-none lifts none i) ∙ w.1.1 i has))
              | inr not ↦ not
            ]

        first-so : (plant lift : Option ℕ) → first_function plants ≡ plant → first_function lifts ≡ lift
            → ClosesSo (after_first idle_now q plants lifts clear (answer_of r) plant lift)
        first-so (Some function) lift one two = planted-so function one (answer_of r) refl calm
        first-so None (Some function) one two =
            after-so (without_planted idle_now q function) refl (set-same _) refl _
            (patching-looks q plants (without_function lifts function) clear)
            (λ w. subst (Lifts q (patching q plants (without_function lifts function) clear)) (sym (set-planted _))
            (lift-on function two w)) t.stage at_stage (answer_of r) refl calm
        first-so None None one two =
            after-so idle_now refl (λ i. refl) refl Nothing refl (cleared-on two) t.stage at_stage (answer_of r) refl
            calm

    aside-so : (aside : Aside) → t.aside ≡ aside → IsBeside (length t.traced) aside → LooksSo t.stage aside
        → ClosesSo (with_aside_answered t r aside)
    unfolding with_aside_answered with_patch_answered
    aside-so Nothing is w looks = stage-so is t.stage refl at_stage
    aside-so (Reading q function) is w looks =
        code-so q w looks (λ e. let both : Reading q function ≡ Nothing = sym is ∙ e in cc)
        (ap (called_at t.stage) is) function (answer_of r) refl calm
    aside-so (Planting q function) is w looks =
        plant-so q w looks (λ e. let both : Planting q function ≡ Nothing = sym is ∙ e in cc)
        (ap (called_at t.stage) is) function (answer_of r) refl calm
    aside-so (Patching q plants lifts clear) is w looks =
        first-so q w plants lifts clear is (first_function plants) (first_function lifts) refl refl
    aside-so _ is w looks = absurd w

    pub fed-closes : has_functions t.options ≡ true → ClosesSo (fed_functions t r)
    unfolding fed_functions
    fed-closes has =
        subst ClosesSo (sym (ap (λ b. cond b (with_aside_answered t r t.aside) (fed t r)) has))
        (aside-so t.aside refl at_aside looks_so)

  -- ---- before its first call

  first-pid : (o : Options) (p : Option ℕ) → ClosesSo (opening_or (idle o) (idle o) p)
  first-pid o None = record { stage = tt; looks = tt }
  first-pid o (Some pid) = record { stage = tt; looks = tt }

  first-program : (o : Options) (p : Option (List ℕ)) → ClosesSo (first_of_program o p)
  first-program o None = first-pid o (slice_get o.pids 0)
  first-program o (Some program) = record { stage = tt; looks = tt }

  pub first-closes : (o : Options) → ClosesSo (first_truss o)
  unfolding first_truss
  first-closes o = first-program o o.program
