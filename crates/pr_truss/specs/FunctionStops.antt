-- What truss(1) does at a stop of a process in which it has breakpoints (-u).
use Rattle.std.specs.Prelude.{◌&&◌, ℕ, true, false, Option, Some, None, option_and_then, slice_get, if◌then◌else◌}
use Rattle.pr_line.specs.declared.events.Event.{Event}
use Rattle.pr_model.specs.Replies.{bytes_in}
use Rattle.pr_model.specs.declared.calls.Reply.{Reply}
use Rattle.pr_num.specs.Control.{clear_fault, single_step}
use Rattle.pr_num.specs.Sets.{union_word}
use Rattle.pr_rec.specs.declared.lwps.LwpStatus.{LwpStatus}
use Rattle.pr_truss.specs.Asides.{marks_at, with_marks, with_patches, with_lifts, with_lifts_before_closing, has_fault_to_clear}
use Rattle.pr_truss.specs.Closings.{with_closing}
use Rattle.pr_truss.specs.FunctionEvents.{fresh_event, function_event, step_of}
use Rattle.pr_truss.specs.Marks.{no_functions, with_function, no_marks, with_step, standing, put_back}
use Rattle.pr_truss.specs.Records.{event_stops, is_on_event, status_lwp}
use Rattle.pr_truss.specs.Replies.{answer_of}
use Rattle.pr_truss.specs.Stops.{with_stop, with_stop_over, with_status_answered, with_text_answered, with_run_answered}
use Rattle.pr_truss.specs.Trusses.{TrussState, traced_at, with_report}
use Rattle.pr_truss.specs.declared.function_events.FunctionEvent.{FunctionEvent}
use Rattle.pr_truss.specs.declared.function_events.FunctionEvent.TheVariants.{Other, AtBreakpoint, Completed, TraceTrap, BeforeCopy, AfterCopy, Replaced}
use Rattle.pr_truss.specs.declared.marks.Stepped.{Stepped}
use Rattle.pr_truss.specs.declared.replies.Answer.{Answer}
use Rattle.pr_truss.specs.declared.replies.Answer.TheVariants.{Accepted, Interrupted, Gone, Refused}
use Rattle.pr_truss.specs.declared.reports.Report.TheVariants.{Called}

-- the call of a function is reported, once its first instruction has run
unfoldable pub with_call_shown : TrussState → ℕ → Stepped → TrussState
with_call_shown s place step = with_report s (Called (traced_at s place).pid step.lwp step.function step.arguments)

-- ---- in the loop

-- An lwp stands at a breakpoint. It is lifted, and the lwp is stepped over the instruction, alone.
unfoldable pub with_step_begun : TrussState → ℕ → LwpStatus → ℕ → TrussState
with_step_begun s place l function =
    let m = marks_at s place in
    let stepping = record m { stepped = Some (step_of l function); flags = union_word clear_fault single_step } in
    with_patches (with_stop_over (with_marks s place stepping) place) place (put_back m)
    (with_function no_functions function)

-- The instruction has run: the call is reported, and the breakpoint planted again.
unfoldable pub with_step_completed : TrussState → ℕ → Stepped → TrussState
with_step_completed s place step =
    let m = marks_at s place in
    let stepped = record m { stepped = None; flags = clear_fault } in
    with_patches (with_stop_over (with_call_shown (with_marks s place stepped) place step) place) place (put_back m)
    no_functions

-- Any other trace trap is run unshown.
unfoldable pub with_trap_over : TrussState → ℕ → TrussState
with_trap_over s place = with_stop_over (with_marks s place (record (marks_at s place) { flags = clear_fault })) place

-- At the entry of a call that copies or replaces the memory all breakpoints are lifted, and the lwp is run alone.
unfoldable pub with_copy_begun : TrussState → ℕ → LwpStatus → TrussState
with_copy_begun s place l =
    let m = marks_at s place in
    with_patches
    (with_stop (with_marks s place (record m { lifted = standing m; stepped = None; flags = single_step })) place l)
    place no_functions m.planted

-- At its exit they are planted again, where the process goes on in its memory.
unfoldable pub with_copy_ended : TrussState → ℕ → LwpStatus → TrussState
with_copy_ended s place l =
    let m = marks_at s place in
    with_patches (with_stop (with_marks s place (record m { lifted = no_functions; stepped = None })) place l) place
    (with_step m.stepped m.lifted) no_functions

-- Any other event ends the step that is under way: the breakpoint is planted again, and the event is looked at as
-- without functions.
unfoldable pub with_other_event : TrussState → ℕ → LwpStatus → TrussState
with_other_event s place l =
    let m = marks_at s place in
    with_patches (with_stop (with_marks s place (record m { stepped = None })) place l) place (put_back m) no_functions

-- The memory was replaced, or a child has it too: no breakpoint stands in the process any more.
unfoldable pub with_memory_replaced : TrussState → ℕ → LwpStatus → TrussState
with_memory_replaced s place l = with_stop (with_marks s place no_marks) place l

-- a row a kind of event
unfoldable pub with_function_event : TrussState → ℕ → LwpStatus → FunctionEvent → TrussState
with_function_event s place l (AtBreakpoint function) = with_step_begun s place l function
with_function_event s place l (Completed step) = with_step_completed s place step
with_function_event s place l TraceTrap = with_trap_over s place
with_function_event s place l BeforeCopy = with_copy_begun s place l
with_function_event s place l AfterCopy = with_copy_ended s place l
with_function_event s place l Replaced = with_memory_replaced s place l
with_function_event s place l Other = with_other_event s place l

-- ---- leaving

-- The event that was not read before is looked at. Then all breakpoints are lifted, and the fault is cleared if it is
-- truss's own.
unfoldable pub with_last_event : TrussState → ℕ → LwpStatus → FunctionEvent → TrussState
with_last_event s place l (AtBreakpoint function) = with_lifts (with_stop_over s place) place true
with_last_event s place l (Completed step) = with_lifts (with_stop_over (with_call_shown s place step) place) place true
with_last_event s place l TraceTrap = with_lifts (with_stop_over s place) place true
with_last_event s place l BeforeCopy = with_lifts_before_closing (with_stop s place l) place
with_last_event s place l AfterCopy = with_lifts_before_closing (with_stop s place l) place
with_last_event s place l Replaced = with_lifts_before_closing (with_memory_replaced s place l) place
with_last_event s place l Other = with_lifts_before_closing (with_stop s place l) place

-- A stop that is no event that truss has still to look at. Where it was looked at before and is a fault of truss's own,
-- that fault still stands.
unfoldable pub with_last_stop : TrussState → ℕ → LwpStatus → TrussState
with_last_stop s place l =
    with_lifts (with_stop s place l) place (is_on_event l && has_fault_to_clear (marks_at s place))

-- ---- the stop

abbrev pub with_fresh_event : TrussState → ℕ → LwpStatus → Option Event → TrussState
with_fresh_event s place l None = if s.leaving then with_last_stop s place l else with_stop s place l
with_fresh_event s place l (Some e) =
    if s.leaving then with_last_event s place l (function_event s.options (marks_at s place) l.id e)
    else with_function_event s place l (function_event s.options (marks_at s place) l.id e)

-- What truss does at a stop. A stop on request, and one that stood before truss came or was looked at already, change
-- nothing of the breakpoints: the process is run with no run flag, also while a step is under way.
unfoldable pub with_function_stop : TrussState → ℕ → LwpStatus → TrussState
with_function_stop s place l = with_fresh_event s place l (fresh_event (traced_at s place) l)

-- the same, of the lwp that was read, if one was
abbrev pub with_function_stop_read : TrussState → ℕ → Option LwpStatus → TrussState
with_function_stop_read s place None =
    if s.leaving then with_lifts (with_stop_over s place) place false else with_stop_over s place
with_function_stop_read s place (Some l) = with_function_stop s place l

-- ---- the replies

-- the reply to the read of a status
unfoldable pub with_function_status_answered : TrussState → ℕ → Reply → Answer → TrussState
with_function_status_answered s place r Accepted =
    with_function_stop_read s place (option_and_then status_lwp (bytes_in r))
with_function_status_answered s place r answer = with_status_answered s place r answer

-- The reply to the read of memory for an event. Where truss leaves, the breakpoints are lifted after it.
abbrev pub after_function_text : TrussState → TrussState → ℕ → Answer → TrussState
after_function_text s shown place Gone = shown
after_function_text s shown place _ = if s.leaving then with_lifts shown place false else shown

unfoldable pub with_function_text_answered : TrussState → ℕ → LwpStatus → ℕ → Reply → TrussState
with_function_text_answered s place l len r =
    after_function_text s (with_text_answered s place l len r) place (answer_of r)

-- The reply to PCRUN. Unless it was interrupted, the process is run with no run flag the next time, if no event says
-- otherwise.
unfoldable pub with_function_run_answered : TrussState → ℕ → Answer → TrussState
with_function_run_answered s place Interrupted = with_run_answered s place Interrupted
with_function_run_answered s place answer =
    with_run_answered (with_marks s place (record (marks_at s place) { flags = 0 })) place answer

-- The lwp that stands on an event, if one does, is looked at. Where the look was refused, the breakpoints are lifted
-- all the same.
unfoldable pub with_function_lwps_answered : TrussState → Reply → Answer → TrussState
with_function_lwps_answered s r Accepted = with_function_stop_read s 0 (slice_get (event_stops (bytes_in r)) 0)
with_function_lwps_answered s r (Refused errno) = with_lifts (with_closing s 0) 0 false
with_function_lwps_answered s r Interrupted = with_lifts (with_closing s 0) 0 false
with_function_lwps_answered s r Gone = with_closing s 0
