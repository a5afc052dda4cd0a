use Rattle.std.proofs.Common.{◌≡◌, ◌+◌, ℕ, Bool, true, false, cond, nat_lt, Option, Some, None, List, length, refl, subst, ◌∙◌}
use Rattle.std.specs.List.{slice_get}
use Rattle.std.specs.Option.{option_and_then}
use Rattle.pr_line.specs.Events.{event_of}
use Rattle.pr_line.specs.Selections.{is_selected}
use Rattle.pr_line.specs.declared.events.Event.{Event}
use Rattle.pr_line.specs.declared.options.Options.{Options}
use Rattle.pr_model.specs.Replies.{bytes_in}
use Rattle.pr_model.specs.declared.calls.Reply.{Reply}
use Rattle.pr_num.specs.declared.errnos.Errno.{Errno}
use Rattle.pr_num.specs.declared.errnos.Errno.TheVariants.{Noent}
use Rattle.pr_rec.specs.declared.lwps.LwpStatus.{LwpStatus}
use Rattle.pr_truss.specs.Asides.{lifts_at, with_aside, with_lifts, with_lifts_before_closing, with_patches}
use Rattle.pr_truss.specs.Closings.{left_or_finished, polls_or_finished, with_closing, with_going_on, with_interrupt, with_next_left, with_next_opening}
use Rattle.pr_truss.specs.Feeding.{fed, with_reply}
use Rattle.pr_truss.specs.FunctionEvents.{fresh_event}
use Rattle.pr_truss.specs.FunctionFeeding.{after_first, after_patch, fed_functions, is_to_plant, planted_if, with_aside_answered, with_asking_answered, with_code_answered, with_code_read, with_function_reply, with_function_step_answered, with_functions_begun, with_halt_answered, with_next_function, with_patch_answered, with_pending_told, with_plant_answered, with_planted, with_refused_opening, with_wait_answered, without_planted}
use Rattle.pr_truss.specs.FunctionStops.{after_function_text, with_call_shown, with_copy_begun, with_copy_ended, with_fresh_event, with_function_event, with_function_lwps_answered, with_function_run_answered, with_function_status_answered, with_function_stop, with_function_stop_read, with_function_text_answered, with_last_event, with_last_stop, with_memory_replaced, with_other_event, with_step_begun, with_step_completed, with_trap_over}
use Rattle.pr_truss.specs.Marks.{code_of, first_function, has_functions}
use Rattle.pr_truss.specs.Openings.{at_step, step_after, with_refused_step, with_step_done, with_stop_seen}
use Rattle.pr_truss.specs.Records.{status_lwp}
use Rattle.pr_truss.specs.Replies.{answer_of}
use Rattle.pr_truss.specs.Stops.{after_text, asked_range, followed_child, with_child_or, with_event, with_event_over, with_event_shown, with_old_stop_over, with_run_answered, with_status_answered, with_stop, with_stop_over, with_stop_read, with_text_answered, with_text_or_shown}
use Rattle.pr_truss.specs.Trusses.{TrussState, opening_or, traced_at}
use Rattle.pr_truss.specs.declared.asides.Aside.{Aside}
use Rattle.pr_truss.specs.declared.asides.Aside.TheVariants.{Nothing, Reading, Planting, Patching, AwaitingStop, Asking, AwaitingAgain}
use Rattle.pr_truss.specs.declared.function_events.FunctionEvent.{FunctionEvent}
use Rattle.pr_truss.specs.declared.function_events.FunctionEvent.TheVariants.{Other, AtBreakpoint, Completed, TraceTrap, BeforeCopy, AfterCopy, Replaced}
use Rattle.pr_truss.specs.declared.marks.Stepped.{Stepped}
use Rattle.pr_truss.specs.declared.processes.Traced.{Traced}
use Rattle.pr_truss.specs.declared.replies.Answer.{Answer}
use Rattle.pr_truss.specs.declared.replies.Answer.TheVariants.{Accepted, Interrupted, Gone, Refused}
use Rattle.pr_truss.specs.declared.stages.AfterClosing.TheVariants.{OpenNext, GoOn, RunParent}
use Rattle.pr_truss.specs.declared.stages.OpeningStep.{OpeningStep}
use Rattle.pr_truss.specs.declared.stages.OpeningStep.TheVariants.{TraceExits}
use Rattle.pr_truss.specs.declared.stages.Stage.{Stage}
use Rattle.pr_truss.specs.declared.stages.Stage.TheVariants.{Opening, ReadingStatus, ReadingText, Running, Closing, Unfollowing, ReadingLwps}
use Rattle.pr_truss_laws.proofs.Replies.OptionLemmas.{fed-options}

-- The options stay as they are, also where truss shows calls of functions.

either : (b : Bool) (u v : TrussState) (o : Options) → u.options ≡ o → v.options ≡ o → (cond b u v).options ≡ o
either true u v o p q = p
either false u v o p q = q

-- ---- what comes when nothing is to be done for one process

left-options : (s : TrussState) (t : Option Traced) → (left_or_finished s t).options ≡ s.options
left-options s None = refl
left-options s (Some t) = refl

next_left-options : (s : TrussState) → (with_next_left s).options ≡ s.options
unfolding with_next_left
next_left-options s = left-options s (slice_get s.traced 0)

polls-options : (s : TrussState) (t : Option Traced) → (polls_or_finished s t).options ≡ s.options
polls-options s None = refl
polls-options s (Some t) = refl

going_on-options : (s : TrussState) → (with_going_on s).options ≡ s.options
unfolding with_going_on
going_on-options s =
    either s.leaving _ _ s.options (next_left-options s) (polls-options s (slice_get s.traced 0))

opening_or-options : (s u : TrussState) (pid : Option ℕ) → u.options ≡ s.options
    → (opening_or s u pid).options ≡ s.options
opening_or-options s u None is = is
opening_or-options s u (Some pid) is = refl

next_opening-options : (s : TrussState) → (with_next_opening s).options ≡ s.options
unfolding with_next_opening
next_opening-options s =
    opening_or-options s (with_going_on s) (slice_get s.options.pids s.begun) (going_on-options s)

interrupt-options : (s : TrussState) → (with_interrupt s).options ≡ s.options
unfolding with_interrupt
interrupt-options s = next_left-options (record s { leaving = true })

seen-interrupt : (s : TrussState) (place : ℕ) → (with_interrupt (with_stop_seen s place)).options ≡ s.options
unfolding with_stop_seen
seen-interrupt s place = interrupt-options (with_stop_seen s place)

-- ---- stops

stop_over-options : (s : TrussState) (place : ℕ) → (with_stop_over s place).options ≡ s.options
unfolding with_stop_over
stop_over-options s place = either s.leaving _ _ s.options refl refl

child_or-options : (s : TrussState) (place : ℕ) (child : Option ℕ) → (with_child_or s place child).options ≡ s.options
child_or-options s place None = stop_over-options s place
child_or-options s place (Some child) = refl

event_over-options : (s : TrussState) (place : ℕ) (l : LwpStatus) → (with_event_over s place l).options ≡ s.options
unfolding with_event_over
event_over-options s place l = child_or-options s place (followed_child s.options l)

text_or_shown-options : (s : TrussState) (place : ℕ) (l : LwpStatus) (range : Option (ℕ × ℕ))
    → (with_text_or_shown s place l range).options ≡ s.options
unfolding with_event_shown
text_or_shown-options s place l None = event_over-options (with_event_shown s place l None) place l
text_or_shown-options s place l (Some range) = refl

event-options : (s : TrussState) (place : ℕ) (l : LwpStatus) (e : Option Event)
    → (with_event s place l e).options ≡ s.options
event-options s place l None = stop_over-options s place
event-options s place l (Some e) =
    either (is_selected s.options e) _ _ s.options
    (text_or_shown-options s place l (asked_range s.options e)) (event_over-options s place l)

old_over-options : (s : TrussState) (place : ℕ) → (with_old_stop_over s place).options ≡ s.options
unfolding with_old_stop_over
old_over-options s place = stop_over-options _ place

stop-options : (s : TrussState) (place : ℕ) (l : LwpStatus) → (with_stop s place l).options ≡ s.options
unfolding with_stop
stop-options s place l =
    either _ _ _ s.options (stop_over-options s place)
    (either (nat_lt 0 (traced_at s place).old) _ _ s.options (old_over-options s place)
    (either (traced_at s place).seen _ _ s.options (stop_over-options s place) (event-options s place l (event_of l))))

after_text-options : (s : TrussState) (place : ℕ) (l : LwpStatus) (a : Answer)
    → (after_text s place l a).options ≡ s.options
unfolding after_text
after_text-options s place l Accepted = event_over-options s place l
after_text-options s place l (Refused errno) = event_over-options s place l
after_text-options s place l Gone = refl
after_text-options s place l Interrupted =
    either s.leaving _ _ s.options (event_over-options s place l) (seen-interrupt s place)

text_answered-options : (s : TrussState) (place : ℕ) (l : LwpStatus) (len : ℕ) (r : Reply)
    → (with_text_answered s place l len r).options ≡ s.options
unfolding with_text_answered with_event_shown
text_answered-options s place l len r = after_text-options _ place l (answer_of r)

stop_read-options : (s : TrussState) (place : ℕ) (l : Option LwpStatus)
    → (with_stop_read s place l).options ≡ s.options
stop_read-options s place None = stop_over-options s place
stop_read-options s place (Some l) = stop-options s place l

status_answered-options : (s : TrussState) (place : ℕ) (r : Reply) (a : Answer)
    → (with_status_answered s place r a).options ≡ s.options
unfolding with_status_answered
status_answered-options s place r Accepted = stop_read-options s place (option_and_then status_lwp (bytes_in r))
status_answered-options s place r (Refused errno) = stop_over-options s place
status_answered-options s place r Gone = refl
status_answered-options s place r Interrupted = interrupt-options s

run_answered-options : (s : TrussState) (place : ℕ) (a : Answer) → (with_run_answered s place a).options ≡ s.options
unfolding with_run_answered
run_answered-options s place Accepted = going_on-options s
run_answered-options s place (Refused errno) = going_on-options s
run_answered-options s place Gone = refl
run_answered-options s place Interrupted = seen-interrupt s place

-- ---- stops with breakpoints

patches-options : (s : TrussState) (place : ℕ) (plants lifts : List Bool)
    → (with_patches s place plants lifts).options ≡ s.options
unfolding with_patches
patches-options s place plants lifts = refl

lifts-options : (s : TrussState) (place : ℕ) (clear : Bool) → (with_lifts s place clear).options ≡ s.options
unfolding with_lifts
lifts-options s place clear = refl

lifts_at-options : (s : TrussState) (place : ℕ) (stage : Stage) → (lifts_at s place stage).options ≡ s.options
lifts_at-options s place (Closing closed next) = lifts-options s place false
lifts_at-options s place _ = refl

before_closing-options : (s : TrussState) (place : ℕ) → (with_lifts_before_closing s place).options ≡ s.options
unfolding with_lifts_before_closing
before_closing-options s place = lifts_at-options s place s.stage

lifted-over : (s u : TrussState) (place : ℕ) (clear : Bool) → u.options ≡ s.options
    → (with_lifts (with_stop_over u place) place clear).options ≡ s.options
lifted-over s u place clear is =
    lifts-options (with_stop_over u place) place clear ∙ stop_over-options u place ∙ is

replaced-options : (s : TrussState) (place : ℕ) (l : LwpStatus) → (with_memory_replaced s place l).options ≡ s.options
unfolding with_memory_replaced
replaced-options s place l = stop-options _ place l

call_shown-options : (s : TrussState) (place : ℕ) (step : Stepped) → (with_call_shown s place step).options ≡ s.options
unfolding with_call_shown
call_shown-options s place step = refl

function_event-options : (s : TrussState) (place : ℕ) (l : LwpStatus) (e : FunctionEvent)
    → (with_function_event s place l e).options ≡ s.options
unfolding with_function_event with_step_begun with_step_completed with_trap_over with_copy_begun with_copy_ended
    with_other_event with_patches with_call_shown
function_event-options s place l (AtBreakpoint function) = stop_over-options _ place
function_event-options s place l (Completed step) = stop_over-options _ place
function_event-options s place l TraceTrap = stop_over-options _ place
function_event-options s place l BeforeCopy = stop-options _ place l
function_event-options s place l AfterCopy = stop-options _ place l
function_event-options s place l Replaced = replaced-options s place l
function_event-options s place l Other = stop-options _ place l

last_event-options : (s : TrussState) (place : ℕ) (l : LwpStatus) (e : FunctionEvent)
    → (with_last_event s place l e).options ≡ s.options
unfolding with_last_event
last_event-options s place l (AtBreakpoint function) = lifted-over s s place true refl
last_event-options s place l (Completed step) =
    lifted-over s (with_call_shown s place step) place true (call_shown-options s place step)
last_event-options s place l TraceTrap = lifted-over s s place true refl
last_event-options s place l BeforeCopy = before_closing-options (with_stop s place l) place ∙ stop-options s place l
last_event-options s place l AfterCopy = before_closing-options (with_stop s place l) place ∙ stop-options s place l
last_event-options s place l Replaced =
    before_closing-options (with_memory_replaced s place l) place ∙ replaced-options s place l
last_event-options s place l Other = before_closing-options (with_stop s place l) place ∙ stop-options s place l

last_stop-options : (s : TrussState) (place : ℕ) (l : LwpStatus) → (with_last_stop s place l).options ≡ s.options
unfolding with_last_stop
last_stop-options s place l = lifts-options (with_stop s place l) place _ ∙ stop-options s place l

fresh_event-options : (s : TrussState) (place : ℕ) (l : LwpStatus) (e : Option Event)
    → (with_fresh_event s place l e).options ≡ s.options
fresh_event-options s place l None =
    either s.leaving _ _ s.options (last_stop-options s place l) (stop-options s place l)
fresh_event-options s place l (Some e) =
    either s.leaving _ _ s.options (last_event-options s place l _) (function_event-options s place l _)

function_stop-options : (s : TrussState) (place : ℕ) (l : LwpStatus)
    → (with_function_stop s place l).options ≡ s.options
unfolding with_function_stop
function_stop-options s place l = fresh_event-options s place l (fresh_event (traced_at s place) l)

function_stop_read-options : (s : TrussState) (place : ℕ) (l : Option LwpStatus)
    → (with_function_stop_read s place l).options ≡ s.options
function_stop_read-options s place None =
    either s.leaving _ _ s.options (lifted-over s s place false refl) (stop_over-options s place)
function_stop_read-options s place (Some l) = function_stop-options s place l

function_status-options : (s : TrussState) (place : ℕ) (r : Reply) (a : Answer)
    → (with_function_status_answered s place r a).options ≡ s.options
unfolding with_function_status_answered
function_status-options s place r Accepted = function_stop_read-options s place _
function_status-options s place r (Refused errno) = status_answered-options s place r (Refused errno)
function_status-options s place r Gone = status_answered-options s place r Gone
function_status-options s place r Interrupted = status_answered-options s place r Interrupted

after_function_text-options : (s u : TrussState) (place : ℕ) (a : Answer)
    → (after_function_text s u place a).options ≡ u.options
after_function_text-options s u place Gone = refl
after_function_text-options s u place Accepted = either s.leaving _ _ u.options (lifts-options u place false) refl
after_function_text-options s u place (Refused errno) =
    either s.leaving _ _ u.options (lifts-options u place false) refl
after_function_text-options s u place Interrupted = either s.leaving _ _ u.options (lifts-options u place false) refl

function_text-options : (s : TrussState) (place : ℕ) (l : LwpStatus) (len : ℕ) (r : Reply)
    → (with_function_text_answered s place l len r).options ≡ s.options
unfolding with_function_text_answered
function_text-options s place l len r =
    after_function_text-options s (with_text_answered s place l len r) place (answer_of r)
    ∙ text_answered-options s place l len r

function_run-options : (s : TrussState) (place : ℕ) (a : Answer)
    → (with_function_run_answered s place a).options ≡ s.options
unfolding with_function_run_answered
function_run-options s place Interrupted = run_answered-options s place Interrupted
function_run-options s place Accepted = run_answered-options _ place Accepted
function_run-options s place (Refused errno) = run_answered-options _ place (Refused errno)
function_run-options s place Gone = run_answered-options _ place Gone

function_lwps-options : (s : TrussState) (r : Reply) (a : Answer)
    → (with_function_lwps_answered s r a).options ≡ s.options
unfolding with_function_lwps_answered
function_lwps-options s r Accepted = function_stop_read-options s 0 _
function_lwps-options s r (Refused errno) = lifts-options (with_closing s 0) 0 false
function_lwps-options s r Interrupted = lifts-options (with_closing s 0) 0 false
function_lwps-options s r Gone = refl

-- ---- opening

next_function-options : (s : TrussState) (place function : ℕ)
    → (with_next_function s place function).options ≡ s.options
unfolding with_next_function
next_function-options s place function = either (nat_lt function (length s.options.functions)) _ _ s.options refl refl

refused_step-options : (s : TrussState) (place : ℕ) (errno : Errno)
    → (with_refused_step s place errno).options ≡ s.options
unfolding with_refused_step
refused_step-options s place errno = refl

refused_opening-options : (s : TrussState) (place : ℕ) (errno : Errno)
    → (with_refused_opening s place errno).options ≡ s.options
unfolding with_refused_opening
refused_opening-options s place errno =
    lifts-options (with_refused_step s place errno) place false ∙ refused_step-options s place errno

at_step-options : (s : TrussState) (place : ℕ) (opening : Option OpeningStep)
    → (at_step s place opening).options ≡ s.options
at_step-options s place None = next_opening-options s
at_step-options s place (Some opening) = refl

step_done-options : (s : TrussState) (place : ℕ) (r : Reply) (opening : OpeningStep)
    → (with_step_done s place r opening).options ≡ s.options
unfolding with_step_done
step_done-options s place r opening = at_step-options _ place (step_after s.options r opening)

functions_begun-options : (s : TrussState) (place : ℕ) (opening : OpeningStep)
    → (with_functions_begun s place opening).options ≡ s.options
functions_begun-options s place TraceExits = next_function-options s place 0
functions_begun-options s place _ = refl

function_step-options : (s : TrussState) (place : ℕ) (opening : OpeningStep) (r : Reply) (a : Answer)
    → (with_function_step_answered s place opening r a).options ≡ s.options
unfolding with_function_step_answered
function_step-options s place opening r Accepted =
    functions_begun-options (with_step_done s place r opening) place opening ∙ step_done-options s place r opening
function_step-options s place opening r Interrupted = seen-interrupt s place
function_step-options s place opening r Gone = refused_step-options s place Noent
function_step-options s place opening r (Refused errno) = refused_opening-options s place errno

code_read-options : (s : TrussState) (place function : ℕ) (bytes : Option (List ℕ))
    → (with_code_read s place function bytes).options ≡ s.options
unfolding with_code_read
code_read-options s place function bytes =
    either (is_to_plant s.options function bytes) _ _ s.options refl
    (next_function-options s place (function + 1))

code_answered-options : (s : TrussState) (place function : ℕ) (r : Reply) (a : Answer)
    → (with_code_answered s place function r a).options ≡ s.options
unfolding with_code_answered
code_answered-options s place function r Accepted = code_read-options s place function (bytes_in r)
code_answered-options s place function r Interrupted = seen-interrupt s place
code_answered-options s place function r Gone = refused_step-options s place Noent
code_answered-options s place function r (Refused errno) = refused_opening-options s place errno

plant_answered-options : (s : TrussState) (place function : ℕ) (a : Answer)
    → (with_plant_answered s place function a).options ≡ s.options
unfolding with_plant_answered
plant_answered-options s place function Accepted =
    next_function-options (with_planted s place function) place (function + 1)
plant_answered-options s place function Interrupted = seen-interrupt s place
plant_answered-options s place function Gone = refused_step-options s place Noent
plant_answered-options s place function (Refused errno) = refused_opening-options s place errno

-- ---- patches

told-closing : (s : TrussState) (place : ℕ) → (with_closing (with_pending_told s) place).options ≡ s.options
unfolding with_pending_told
told-closing s place = refl

told-interrupt : (s : TrussState) (place : ℕ)
    → (with_interrupt (with_stop_seen (with_pending_told s) place)).options ≡ s.options
unfolding with_pending_told
told-interrupt s place = seen-interrupt (with_pending_told s) place

after_patch-options : (s : TrussState) (rest : Aside) (place : ℕ) (stage : Stage) (a : Answer)
    → (after_patch s rest place stage a).options ≡ s.options
unfolding after_patch
after_patch-options s rest place (Closing closed OpenNext) a = refl
after_patch-options s rest place (Closing closed GoOn) Gone = refl
after_patch-options s rest place (Closing closed GoOn) _ = refl
after_patch-options s rest place (Closing closed (RunParent parent)) Gone = refl
after_patch-options s rest place (Closing closed (RunParent parent)) _ = refl
after_patch-options s rest place _ Accepted = refl
after_patch-options s rest place _ (Refused errno) = refl
after_patch-options s rest place _ Gone = told-closing s place
after_patch-options s rest place _ Interrupted = told-interrupt s place

planted_if-options : (s : TrussState) (place function : ℕ) (a : Answer)
    → (planted_if s place function a).options ≡ s.options
planted_if-options s place function Accepted = refl
planted_if-options s place function _ = refl

after_first-options : (s : TrussState) (place : ℕ) (plants lifts : List Bool) (clear : Bool) (a : Answer)
    (plant lift : Option ℕ) → (after_first s place plants lifts clear a plant lift).options ≡ s.options
after_first-options s place plants lifts clear a (Some function) lift =
    after_patch-options (planted_if s place function a) _ place s.stage a ∙ planted_if-options s place function a
after_first-options s place plants lifts clear a None (Some function) =
    after_patch-options (without_planted s place function) _ place s.stage a
after_first-options s place plants lifts clear a None None = after_patch-options s Nothing place s.stage a

patch_answered-options : (s : TrussState) (place : ℕ) (plants lifts : List Bool) (clear : Bool) (a : Answer)
    → (with_patch_answered s place plants lifts clear a).options ≡ s.options
unfolding with_patch_answered
patch_answered-options s place plants lifts clear a =
    after_first-options s place plants lifts clear a (first_function plants) (first_function lifts)

-- ---- leaving

halt_answered-options : (s : TrussState) (r : Reply) (a : Answer) → (with_halt_answered s r a).options ≡ s.options
unfolding with_halt_answered
halt_answered-options s r Accepted = refl
halt_answered-options s r Interrupted = refl
halt_answered-options s r (Refused errno) = refl
halt_answered-options s r Gone = refl

wait_answered-options : (s : TrussState) (a : Answer) → (with_wait_answered s a).options ≡ s.options
unfolding with_wait_answered
wait_answered-options s Accepted = refl
wait_answered-options s Interrupted = refl
wait_answered-options s (Refused errno) = refl
wait_answered-options s Gone = refl

asking_answered-options : (s : TrussState) (r : Reply) (a : Answer) → (with_asking_answered s r a).options ≡ s.options
unfolding with_asking_answered
asking_answered-options s r Accepted = refl
asking_answered-options s r Interrupted = refl
asking_answered-options s r (Refused errno) = refl
asking_answered-options s r Gone = refl

-- ---- the reply

function_reply-options : (s : TrussState) (r : Reply) (stage : Stage) → s.stage ≡ stage
    → (with_function_reply s r stage).options ≡ s.options
unfolding with_function_reply fed
function_reply-options s r (Opening place step) at = function_step-options s place step r (answer_of r)
function_reply-options s r (ReadingStatus place) at = function_status-options s place r (answer_of r)
function_reply-options s r (ReadingText place l from len) at = function_text-options s place l len r
function_reply-options s r (Running place) at = function_run-options s place (answer_of r)
function_reply-options s r Unfollowing at = halt_answered-options s r (answer_of r)
function_reply-options s r ReadingLwps at = function_lwps-options s r (answer_of r)
function_reply-options s r stage at = subst (λ st. (with_reply s r st).options ≡ s.options) at (fed-options s r)

aside_answered-options : (s : TrussState) (r : Reply) (aside : Aside)
    → (with_aside_answered s r aside).options ≡ s.options
unfolding with_aside_answered
aside_answered-options s r Nothing = function_reply-options s r s.stage refl
aside_answered-options s r (Reading place function) =
    code_answered-options (with_aside s Nothing) place function r (answer_of r)
aside_answered-options s r (Planting place function) =
    plant_answered-options (with_aside s Nothing) place function (answer_of r)
aside_answered-options s r (Patching place plants lifts clear) =
    patch_answered-options (with_aside s Nothing) place plants lifts clear (answer_of r)
aside_answered-options s r (AwaitingStop until) = wait_answered-options (with_aside s Nothing) (answer_of r)
aside_answered-options s r Asking = asking_answered-options (with_aside s Nothing) r (answer_of r)
aside_answered-options s r (AwaitingAgain until) = wait_answered-options (with_aside s Nothing) (answer_of r)

pub fed_functions-options : (s : TrussState) (r : Reply) → (fed_functions s r).options ≡ s.options
unfolding fed_functions
fed_functions-options s r =
    either (has_functions s.options) _ _ s.options (aside_answered-options s r s.aside) (fed-options s r)
