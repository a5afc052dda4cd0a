use Rattle.std.proofs.Common.{◌≡◌, ◌≤◌, ◌+◌, ℕ, zero, suc, Bool, true, false, true≢false, cond, nat_lt, Option, Some, None, List, [], ◌∷◌, ◌++◌, length, append-nil, append_assoc, refl, sym, subst, ap, ◌∙◌, arith}
use Rattle.std.proofs.lemmas.List.Elements.{filter-append}
use Rattle.std.specs.List.{filter, slice_get, slice_index_or, slice_set}
use Rattle.std.specs.Option.{option_and_then}
use Rattle.pr_line.specs.Events.{event_of}
use Rattle.pr_line.specs.Selections.{is_selected}
use Rattle.pr_line.specs.declared.events.Event.{Event}
use Rattle.pr_line.specs.declared.options.Options.{Options}
use Rattle.pr_model.specs.Replies.{bytes_in}
use Rattle.pr_model.specs.declared.calls.Reply.{Reply}
use Rattle.pr_num.specs.declared.errnos.Errno.{Errno}
use Rattle.pr_num.specs.declared.errnos.Errno.TheVariants.{Noent}
use Rattle.pr_rec.specs.declared.lwps.LwpStatus.{LwpStatus}
use Rattle.pr_truss.specs.Asides.{lifts_at, with_aside, with_lifts, with_lifts_before_closing, with_patches}
use Rattle.pr_truss.specs.Closings.{left_or_finished, polls_or_finished, with_closing, with_going_on, with_interrupt, with_next_left, with_next_opening}
use Rattle.pr_truss.specs.Feeding.{fed, with_reply}
use Rattle.pr_truss.specs.FunctionEvents.{fresh_event}
use Rattle.pr_truss.specs.FunctionFeeding.{after_first, after_patch, fed_functions, is_to_plant, planted_if, with_aside_answered, with_asking_answered, with_code_answered, with_code_read, with_function_reply, with_function_step_answered, with_functions_begun, with_halt_answered, with_next_function, with_patch_answered, with_pending_told, with_plant_answered, with_planted, with_refused_opening, with_wait_answered, without_planted}
use Rattle.pr_truss.specs.FunctionStops.{after_function_text, with_call_shown, with_copy_begun, with_copy_ended, with_fresh_event, with_function_event, with_function_lwps_answered, with_function_run_answered, with_function_status_answered, with_function_stop, with_function_stop_read, with_function_text_answered, with_last_event, with_last_stop, with_memory_replaced, with_other_event, with_step_begun, with_step_completed, with_trap_over}
use Rattle.pr_truss.specs.Marks.{first_function, has_functions}
use Rattle.pr_truss.specs.Openings.{at_step, step_after, with_refused_step, with_step_done, with_stop_seen}
use Rattle.pr_truss.specs.Records.{status_lwp}
use Rattle.pr_truss.specs.Replies.{answer_of}
use Rattle.pr_truss.specs.Stops.{after_text, asked_range, followed_child, with_child_or, with_event, with_event_over, with_event_shown, with_old_stop_over, with_run_answered, with_status_answered, with_stop, with_stop_over, with_stop_read, with_text_answered, with_text_or_shown}
use Rattle.pr_truss.specs.Trusses.{TrussState, opening_or, traced_at}
use Rattle.pr_truss.specs.declared.asides.Aside.{Aside}
use Rattle.pr_truss.specs.declared.asides.Aside.TheVariants.{Nothing, Reading, Planting, Patching, AwaitingStop, Asking, AwaitingAgain}
use Rattle.pr_truss.specs.declared.function_events.FunctionEvent.{FunctionEvent}
use Rattle.pr_truss.specs.declared.function_events.FunctionEvent.TheVariants.{Other, AtBreakpoint, Completed, TraceTrap, BeforeCopy, AfterCopy, Replaced}
use Rattle.pr_truss.specs.declared.marks.Stepped.{Stepped}
use Rattle.pr_truss.specs.declared.processes.Traced.{Traced}
use Rattle.pr_truss.specs.declared.replies.Answer.{Answer}
use Rattle.pr_truss.specs.declared.replies.Answer.TheVariants.{Accepted, Interrupted, Gone, Refused}
use Rattle.pr_truss.specs.declared.stages.AfterClosing.{AfterClosing}
use Rattle.pr_truss.specs.declared.stages.AfterClosing.TheVariants.{OpenNext, GoOn, RunParent}
use Rattle.pr_truss.specs.declared.stages.OpeningStep.{OpeningStep}
use Rattle.pr_truss.specs.declared.stages.OpeningStep.TheVariants.{TraceExits}
use Rattle.pr_truss.specs.declared.stages.Stage.{Stage}
use Rattle.pr_truss.specs.declared.stages.Stage.TheVariants.{Opening, ReadingStatus, ReadingText, Running, Closing, Unfollowing, ReadingLwps}
use Rattle.pr_model.specs.declared.calls.Reply.TheVariants as reply
use Rattle.pr_num.specs.Control.{clear_fault}
use Rattle.pr_truss.specs.Asides.{marks_at, with_marks}
use Rattle.pr_truss.specs.FunctionEvents.{function_event}
use Rattle.pr_truss.specs.Records.{event_stops}
use Rattle.pr_truss.specs.Reports.{all_reports, pending_at}
use Rattle.pr_truss.specs.Stops.{text_of}
use Rattle.pr_truss.specs.Trusses.{first_of_program, first_truss, idle, nobody}
use Rattle.pr_truss.specs.declared.marks.Marks.{Marks}
use Rattle.pr_truss.specs.declared.reports.Report.{Report}
use Rattle.pr_truss.specs.declared.reports.Report.TheVariants.{CannotTrace, Called, Event as Shown}
use Rattle.pr_truss_laws.proofs.Replies.FedSteps.{fed-step}
use Rattle.pr_truss_laws.proofs.Replies.FunctionOptionLemmas.{fed_functions-options}
use Rattle.pr_truss_laws.proofs.Replies.ReplySteps as row
use Rattle.pr_truss_laws.proofs.Replies.ReplySteps.{Closes, Looks, ReplyStep, Returns, Settles, accepts, on-staged, over-staged}
use Rattle.pr_function_laws.specs.Calls.{after_replies, call_beside, call_of_event, call_of_fresh, call_of_lwp, call_read, call_told, calls_among, calls_told, is_call}

-- The calls of functions among the reports are those of which replies told.

abbrev calls : TrussState → List Report
calls s = calls_among s.reports

one-other : (reports : List Report) (report : Report) → is_call report ≡ false
    → calls_among (reports ++ report ∷ []) ≡ calls_among reports
unfolding calls_among
one-other reports report other =
    filter-append is_call reports (report ∷ [])
    ∙ ap (λ b. filter is_call reports ++ cond b (report ∷ []) []) other ∙ append-nil (filter is_call reports)

one-call : (reports : List Report) (pid lwp function : ℕ) (arguments : List ℕ)
    → calls_among (reports ++ Called pid lwp function arguments ∷ [])
    ≡ calls_among reports ++ Called pid lwp function arguments ∷ []
unfolding calls_among
one-call reports pid lwp function arguments =
    filter-append is_call reports (Called pid lwp function arguments ∷ [])

either : (b : Bool) (u v : TrussState) (cs : List Report) → calls u ≡ cs → calls v ≡ cs → calls (cond b u v) ≡ cs
either true u v cs p q = p
either false u v cs p q = q

-- ---- replies where nothing is said of functions

module _ (s : TrussState) (r : Reply) where
  settles-calls : (stage : Stage) (given : Bool) (u : TrussState) → Settles s r stage given u → calls u ≡ calls s
  settles-calls stage given u (row.refuses_start _ _) = one-other s.reports _ refl
  settles-calls stage given u (row.refuses_control _ _) = one-other s.reports _ refl
  settles-calls stage given u (row.interrupts_text _ _) = one-other s.reports _ refl
  settles-calls stage given u _ = refl

  looks-calls : (stage : Stage) (place : ℕ) (pid : Option ℕ) (u : TrussState) → Looks s r stage place pid u
      → calls u ≡ calls s
  looks-calls stage place pid u (row.shows _ _ _ _) = one-other s.reports _ refl
  looks-calls stage place pid u row.shows_text = one-other s.reports _ refl
  looks-calls stage place pid u _ = refl

  closes-calls : (stage : Stage) (place : ℕ) (next : AfterClosing) (u : TrussState) → Closes s r stage place next u
      → calls u ≡ calls s
  closes-calls stage place next u (row.text_ended _) = one-other s.reports _ refl
  closes-calls stage place next u (row.refuses_free _ _) = one-other s.reports _ refl
  closes-calls stage place next u (row.refuses_opening _ _) = one-other s.reports _ refl
  closes-calls stage place next u (row.refuses_child _ _) = one-other s.reports _ refl
  closes-calls stage place next u _ = refl

  step-calls : (stage : Stage) (v : TrussState) → ReplyStep s r stage v → calls v ≡ calls s
  step-calls stage v (row.settles w on) =
      let same = on-staged on in ap calls_among same.reports ∙ settles-calls stage _ _ w
  step-calls stage v (row.looks w over) =
      let same = over-staged over in ap calls_among same.reports ∙ looks-calls stage _ _ _ w
  step-calls stage v (row.closes w) = closes-calls stage _ _ _ w
  step-calls stage v (row.returns (row.refuses_child_control _ _)) = one-other s.reports _ refl
  step-calls stage v _ = refl

fed-calls : (s : TrussState) (r : Reply) → calls (fed s r) ≡ calls s
fed-calls s r = step-calls s r s.stage (fed s r) (fed-step s r)

-- ---- what comes when nothing is to be done for one process

left-calls : (s : TrussState) (t : Option Traced) → calls (left_or_finished s t) ≡ calls s
left-calls s None = refl
left-calls s (Some t) = refl

next_left-calls : (s : TrussState) → calls (with_next_left s) ≡ calls s
unfolding with_next_left
next_left-calls s = left-calls s (slice_get s.traced 0)

polls-calls : (s : TrussState) (t : Option Traced) → calls (polls_or_finished s t) ≡ calls s
polls-calls s None = refl
polls-calls s (Some t) = refl

going_on-calls : (s : TrussState) → calls (with_going_on s) ≡ calls s
unfolding with_going_on
going_on-calls s =
    either s.leaving _ _ (calls s) (next_left-calls s) (polls-calls s (slice_get s.traced 0))

opening_or-calls : (s u : TrussState) (pid : Option ℕ) → calls u ≡ calls s
    → calls (opening_or s u pid) ≡ calls s
opening_or-calls s u None is = is
opening_or-calls s u (Some pid) is = refl

next_opening-calls : (s : TrussState) → calls (with_next_opening s) ≡ calls s
unfolding with_next_opening
next_opening-calls s =
    opening_or-calls s (with_going_on s) (slice_get s.options.pids s.begun) (going_on-calls s)

interrupt-calls : (s : TrussState) → calls (with_interrupt s) ≡ calls s
unfolding with_interrupt
interrupt-calls s = next_left-calls (record s { leaving = true })

seen-interrupt : (s : TrussState) (place : ℕ) → calls (with_interrupt (with_stop_seen s place)) ≡ calls s
unfolding with_stop_seen
seen-interrupt s place = interrupt-calls (with_stop_seen s place)

-- ---- stops

stop_over-calls : (s : TrussState) (place : ℕ) → calls (with_stop_over s place) ≡ calls s
unfolding with_stop_over
stop_over-calls s place = either s.leaving _ _ (calls s) refl refl

child_or-calls : (s : TrussState) (place : ℕ) (child : Option ℕ) → calls (with_child_or s place child) ≡ calls s
child_or-calls s place None = stop_over-calls s place
child_or-calls s place (Some child) = refl

event_over-calls : (s : TrussState) (place : ℕ) (l : LwpStatus) → calls (with_event_over s place l) ≡ calls s
unfolding with_event_over
event_over-calls s place l = child_or-calls s place (followed_child s.options l)

text_or_shown-calls : (s : TrussState) (place : ℕ) (l : LwpStatus) (range : Option (ℕ × ℕ))
    → calls (with_text_or_shown s place l range) ≡ calls s
unfolding with_event_shown
text_or_shown-calls s place l None =
    event_over-calls (with_event_shown s place l None) place l
    ∙ one-other s.reports (Shown (traced_at s place).pid l None) refl
text_or_shown-calls s place l (Some range) = refl

event-calls : (s : TrussState) (place : ℕ) (l : LwpStatus) (e : Option Event)
    → calls (with_event s place l e) ≡ calls s
event-calls s place l None = stop_over-calls s place
event-calls s place l (Some e) =
    either (is_selected s.options e) _ _ (calls s)
    (text_or_shown-calls s place l (asked_range s.options e)) (event_over-calls s place l)

old_over-calls : (s : TrussState) (place : ℕ) → calls (with_old_stop_over s place) ≡ calls s
unfolding with_old_stop_over
old_over-calls s place = stop_over-calls _ place

stop-calls : (s : TrussState) (place : ℕ) (l : LwpStatus) → calls (with_stop s place l) ≡ calls s
unfolding with_stop
stop-calls s place l =
    either _ _ _ (calls s) (stop_over-calls s place)
    (either (nat_lt 0 (traced_at s place).old) _ _ (calls s) (old_over-calls s place)
    (either (traced_at s place).seen _ _ (calls s) (stop_over-calls s place) (event-calls s place l (event_of l))))

after_text-calls : (s : TrussState) (place : ℕ) (l : LwpStatus) (a : Answer)
    → calls (after_text s place l a) ≡ calls s
unfolding after_text
after_text-calls s place l Accepted = event_over-calls s place l
after_text-calls s place l (Refused errno) = event_over-calls s place l
after_text-calls s place l Gone = refl
after_text-calls s place l Interrupted =
    either s.leaving _ _ (calls s) (event_over-calls s place l) (seen-interrupt s place)

text_answered-calls : (s : TrussState) (place : ℕ) (l : LwpStatus) (len : ℕ) (r : Reply)
    → calls (with_text_answered s place l len r) ≡ calls s
unfolding with_text_answered with_event_shown
text_answered-calls s place l len r =
    after_text-calls _ place l (answer_of r)
    ∙ one-other s.reports (Shown (traced_at s place).pid l (text_of len (bytes_in r))) refl

stop_read-calls : (s : TrussState) (place : ℕ) (l : Option LwpStatus)
    → calls (with_stop_read s place l) ≡ calls s
stop_read-calls s place None = stop_over-calls s place
stop_read-calls s place (Some l) = stop-calls s place l

status_answered-calls : (s : TrussState) (place : ℕ) (r : Reply) (a : Answer)
    → calls (with_status_answered s place r a) ≡ calls s
unfolding with_status_answered
status_answered-calls s place r Accepted = stop_read-calls s place (option_and_then status_lwp (bytes_in r))
status_answered-calls s place r (Refused errno) = stop_over-calls s place
status_answered-calls s place r Gone = refl
status_answered-calls s place r Interrupted = interrupt-calls s

run_answered-calls : (s : TrussState) (place : ℕ) (a : Answer) → calls (with_run_answered s place a) ≡ calls s
unfolding with_run_answered
run_answered-calls s place Accepted = going_on-calls s
run_answered-calls s place (Refused errno) = going_on-calls s
run_answered-calls s place Gone = refl
run_answered-calls s place Interrupted = seen-interrupt s place

-- ---- stops with breakpoints

patches-calls : (s : TrussState) (place : ℕ) (plants lifts : List Bool)
    → calls (with_patches s place plants lifts) ≡ calls s
unfolding with_patches
patches-calls s place plants lifts = refl

lifts-calls : (s : TrussState) (place : ℕ) (clear : Bool) → calls (with_lifts s place clear) ≡ calls s
unfolding with_lifts
lifts-calls s place clear = refl

lifts_at-calls : (s : TrussState) (place : ℕ) (stage : Stage) → calls (lifts_at s place stage) ≡ calls s
lifts_at-calls s place (Closing closed next) = lifts-calls s place false
lifts_at-calls s place _ = refl

before_closing-calls : (s : TrussState) (place : ℕ) → calls (with_lifts_before_closing s place) ≡ calls s
unfolding with_lifts_before_closing
before_closing-calls s place = lifts_at-calls s place s.stage

lifted-over : (s u : TrussState) (place : ℕ) (clear : Bool) → calls u ≡ calls s
    → calls (with_lifts (with_stop_over u place) place clear) ≡ calls s
lifted-over s u place clear is =
    lifts-calls (with_stop_over u place) place clear ∙ stop_over-calls u place ∙ is

replaced-calls : (s : TrussState) (place : ℕ) (l : LwpStatus) → calls (with_memory_replaced s place l) ≡ calls s
unfolding with_memory_replaced
replaced-calls s place l = stop-calls _ place l

call_shown-calls : (s : TrussState) (place : ℕ) (step : Stepped)
    → calls (with_call_shown s place step) ≡ calls s ++ call_of_event (traced_at s place).pid (Completed step)
unfolding with_call_shown
call_shown-calls s place step = one-call s.reports (traced_at s place).pid step.lwp step.function step.arguments

-- nothing is told
none : {cs ds : List Report} → ds ≡ cs → ds ≡ cs ++ []
none {cs} is = is ∙ sym (append-nil cs)

-- a process has the same id, whatever its marks are
marks-pid : (s : TrussState) (place : ℕ) (m : Marks)
    → (traced_at (with_marks s place m) place).pid ≡ (traced_at s place).pid
marks-pid s place m = set-pid s.traced place
  where
    set-pid : (ts : List Traced) (i : ℕ)
        → (slice_index_or (slice_set ts i (record (slice_index_or ts i nobody) { marks = m })) i nobody).pid
        ≡ (slice_index_or ts i nobody).pid
    set-pid [] i = refl
    set-pid (t ∷ ts) zero = refl
    set-pid (t ∷ ts) (suc i) = set-pid ts i

function_event-calls : (s : TrussState) (place : ℕ) (l : LwpStatus) (e : FunctionEvent)
    → calls (with_function_event s place l e) ≡ calls s ++ call_of_event (traced_at s place).pid e
unfolding with_function_event with_step_begun with_step_completed with_trap_over with_copy_begun with_copy_ended
    with_other_event with_patches with_call_shown
function_event-calls s place l (AtBreakpoint function) = none (stop_over-calls _ place)
function_event-calls s place l (Completed step) =
    let m = marks_at s place in
    let u = with_marks s place (record m { stepped = None; flags = clear_fault }) in
    stop_over-calls (with_call_shown u place step) place ∙ call_shown-calls u place step
    ∙ ap (λ pid. calls s ++ call_of_event pid (Completed step))
    (marks-pid s place (record m { stepped = None; flags = clear_fault }))
function_event-calls s place l TraceTrap = none (stop_over-calls _ place)
function_event-calls s place l BeforeCopy = none (stop-calls _ place l)
function_event-calls s place l AfterCopy = none (stop-calls _ place l)
function_event-calls s place l Replaced = none (replaced-calls s place l)
function_event-calls s place l Other = none (stop-calls _ place l)

last_event-calls : (s : TrussState) (place : ℕ) (l : LwpStatus) (e : FunctionEvent)
    → calls (with_last_event s place l e) ≡ calls s ++ call_of_event (traced_at s place).pid e
unfolding with_last_event
last_event-calls s place l (AtBreakpoint function) = none (lifted-over s s place true refl)
last_event-calls s place l (Completed step) =
    lifts-calls (with_stop_over (with_call_shown s place step) place) place true
    ∙ stop_over-calls (with_call_shown s place step) place ∙ call_shown-calls s place step
last_event-calls s place l TraceTrap = none (lifted-over s s place true refl)
last_event-calls s place l BeforeCopy =
    none (before_closing-calls (with_stop s place l) place ∙ stop-calls s place l)
last_event-calls s place l AfterCopy =
    none (before_closing-calls (with_stop s place l) place ∙ stop-calls s place l)
last_event-calls s place l Replaced =
    none (before_closing-calls (with_memory_replaced s place l) place ∙ replaced-calls s place l)
last_event-calls s place l Other =
    none (before_closing-calls (with_stop s place l) place ∙ stop-calls s place l)

last_stop-calls : (s : TrussState) (place : ℕ) (l : LwpStatus) → calls (with_last_stop s place l) ≡ calls s
unfolding with_last_stop
last_stop-calls s place l = lifts-calls (with_stop s place l) place _ ∙ stop-calls s place l

fresh_event-calls : (s : TrussState) (place : ℕ) (l : LwpStatus) (e : Option Event)
    → calls (with_fresh_event s place l e) ≡ calls s ++ call_of_fresh s place l.id e
fresh_event-calls s place l None =
    none (either s.leaving _ _ (calls s) (last_stop-calls s place l) (stop-calls s place l))
fresh_event-calls s place l (Some e) =
    let what = function_event s.options (marks_at s place) l.id e in
    either s.leaving _ _ (calls s ++ call_of_event (traced_at s place).pid what) (last_event-calls s place l what)
    (function_event-calls s place l what)

function_stop-calls : (s : TrussState) (place : ℕ) (l : LwpStatus)
    → calls (with_function_stop s place l) ≡ calls s ++ call_of_lwp s place (Some l)
unfolding with_function_stop
function_stop-calls s place l = fresh_event-calls s place l (fresh_event (traced_at s place) l)

function_stop_read-calls : (s : TrussState) (place : ℕ) (l : Option LwpStatus)
    → calls (with_function_stop_read s place l) ≡ calls s ++ call_of_lwp s place l
function_stop_read-calls s place None =
    none (either s.leaving _ _ (calls s) (lifted-over s s place false refl) (stop_over-calls s place))
function_stop_read-calls s place (Some l) = function_stop-calls s place l

-- only bytes tell of a call
bytes-none : (r : Reply) → accepts (answer_of r) ≡ false → bytes_in r ≡ None
unfolding answer_of bytes_in
bytes-none (reply.Fail errno) refused = refl
bytes-none _ refused = absurd (true≢false refused)

status-silent : (s : TrussState) (place : ℕ) (r : Reply) {cs : List Report} → cs ≡ calls s
    → accepts (answer_of r) ≡ false → cs ≡ calls s ++ call_read s r (ReadingStatus place)
status-silent s place r same refused =
    none same
    ∙ ap (λ o. calls s ++ call_of_lwp s place (option_and_then status_lwp o)) (sym (bytes-none r refused))

function_status-calls : (s : TrussState) (place : ℕ) (r : Reply) (a : Answer) → answer_of r ≡ a
    → calls (with_function_status_answered s place r a) ≡ calls s ++ call_read s r (ReadingStatus place)
unfolding with_function_status_answered
function_status-calls s place r Accepted is =
    function_stop_read-calls s place (option_and_then status_lwp (bytes_in r))
function_status-calls s place r (Refused errno) is =
    status-silent s place r (status_answered-calls s place r (Refused errno)) (ap accepts is)
function_status-calls s place r Gone is =
    status-silent s place r (status_answered-calls s place r Gone) (ap accepts is)
function_status-calls s place r Interrupted is =
    status-silent s place r (status_answered-calls s place r Interrupted) (ap accepts is)

after_function_text-calls : (s u : TrussState) (place : ℕ) (a : Answer)
    → calls (after_function_text s u place a) ≡ calls u
after_function_text-calls s u place Gone = refl
after_function_text-calls s u place Accepted = either s.leaving _ _ (calls u) (lifts-calls u place false) refl
after_function_text-calls s u place (Refused errno) =
    either s.leaving _ _ (calls u) (lifts-calls u place false) refl
after_function_text-calls s u place Interrupted = either s.leaving _ _ (calls u) (lifts-calls u place false) refl

function_text-calls : (s : TrussState) (place : ℕ) (l : LwpStatus) (len : ℕ) (r : Reply)
    → calls (with_function_text_answered s place l len r) ≡ calls s
unfolding with_function_text_answered
function_text-calls s place l len r =
    after_function_text-calls s (with_text_answered s place l len r) place (answer_of r)
    ∙ text_answered-calls s place l len r

function_run-calls : (s : TrussState) (place : ℕ) (a : Answer)
    → calls (with_function_run_answered s place a) ≡ calls s
unfolding with_function_run_answered
function_run-calls s place Interrupted = run_answered-calls s place Interrupted
function_run-calls s place Accepted = run_answered-calls _ place Accepted
function_run-calls s place (Refused errno) = run_answered-calls _ place (Refused errno)
function_run-calls s place Gone = run_answered-calls _ place Gone

lwps-silent : (s : TrussState) (r : Reply) {cs : List Report} → cs ≡ calls s → accepts (answer_of r) ≡ false
    → cs ≡ calls s ++ call_read s r ReadingLwps
unfolding event_stops
lwps-silent s r same refused =
    none same ∙ ap (λ o. calls s ++ call_of_lwp s 0 (slice_get (event_stops o) 0)) (sym (bytes-none r refused))

function_lwps-calls : (s : TrussState) (r : Reply) (a : Answer) → answer_of r ≡ a
    → calls (with_function_lwps_answered s r a) ≡ calls s ++ call_read s r ReadingLwps
unfolding with_function_lwps_answered
function_lwps-calls s r Accepted is = function_stop_read-calls s 0 (slice_get (event_stops (bytes_in r)) 0)
function_lwps-calls s r (Refused errno) is =
    lwps-silent s r (lifts-calls (with_closing s 0) 0 false) (ap accepts is)
function_lwps-calls s r Interrupted is =
    lwps-silent s r (lifts-calls (with_closing s 0) 0 false) (ap accepts is)
function_lwps-calls s r Gone is = lwps-silent s r refl (ap accepts is)

-- ---- opening

next_function-calls : (s : TrussState) (place function : ℕ)
    → calls (with_next_function s place function) ≡ calls s
unfolding with_next_function
next_function-calls s place function = either (nat_lt function (length s.options.functions)) _ _ (calls s) refl refl

refused_step-calls : (s : TrussState) (place : ℕ) (errno : Errno)
    → calls (with_refused_step s place errno) ≡ calls s
unfolding with_refused_step
refused_step-calls s place errno = one-other s.reports (CannotTrace (traced_at s place).pid errno) refl

refused_opening-calls : (s : TrussState) (place : ℕ) (errno : Errno)
    → calls (with_refused_opening s place errno) ≡ calls s
unfolding with_refused_opening
refused_opening-calls s place errno =
    lifts-calls (with_refused_step s place errno) place false ∙ refused_step-calls s place errno

at_step-calls : (s : TrussState) (place : ℕ) (opening : Option OpeningStep)
    → calls (at_step s place opening) ≡ calls s
at_step-calls s place None = next_opening-calls s
at_step-calls s place (Some opening) = refl

step_done-calls : (s : TrussState) (place : ℕ) (r : Reply) (opening : OpeningStep)
    → calls (with_step_done s place r opening) ≡ calls s
unfolding with_step_done
step_done-calls s place r opening = at_step-calls _ place (step_after s.options r opening)

functions_begun-calls : (s : TrussState) (place : ℕ) (opening : OpeningStep)
    → calls (with_functions_begun s place opening) ≡ calls s
functions_begun-calls s place TraceExits = next_function-calls s place 0
functions_begun-calls s place _ = refl

function_step-calls : (s : TrussState) (place : ℕ) (opening : OpeningStep) (r : Reply) (a : Answer)
    → calls (with_function_step_answered s place opening r a) ≡ calls s
unfolding with_function_step_answered
function_step-calls s place opening r Accepted =
    functions_begun-calls (with_step_done s place r opening) place opening ∙ step_done-calls s place r opening
function_step-calls s place opening r Interrupted = seen-interrupt s place
function_step-calls s place opening r Gone = refused_step-calls s place Noent
function_step-calls s place opening r (Refused errno) = refused_opening-calls s place errno

code_read-calls : (s : TrussState) (place function : ℕ) (bytes : Option (List ℕ))
    → calls (with_code_read s place function bytes) ≡ calls s
unfolding with_code_read
code_read-calls s place function bytes =
    either (is_to_plant s.options function bytes) _ _ (calls s) refl
    (next_function-calls s place (function + 1))

code_answered-calls : (s : TrussState) (place function : ℕ) (r : Reply) (a : Answer)
    → calls (with_code_answered s place function r a) ≡ calls s
unfolding with_code_answered
code_answered-calls s place function r Accepted = code_read-calls s place function (bytes_in r)
code_answered-calls s place function r Interrupted = seen-interrupt s place
code_answered-calls s place function r Gone = refused_step-calls s place Noent
code_answered-calls s place function r (Refused errno) = refused_opening-calls s place errno

plant_answered-calls : (s : TrussState) (place function : ℕ) (a : Answer)
    → calls (with_plant_answered s place function a) ≡ calls s
unfolding with_plant_answered
plant_answered-calls s place function Accepted =
    next_function-calls (with_planted s place function) place (function + 1)
plant_answered-calls s place function Interrupted = seen-interrupt s place
plant_answered-calls s place function Gone = refused_step-calls s place Noent
plant_answered-calls s place function (Refused errno) = refused_opening-calls s place errno

-- ---- patches

-- an event whose memory was not read is no call
pending_told-calls : (s : TrussState) → calls (with_pending_told s) ≡ calls s
unfolding with_pending_told all_reports
pending_told-calls s = by s.stage
  where
    by : (stage : Stage) → calls_among (s.reports ++ pending_at s stage) ≡ calls s
    by (ReadingText place l at len) = one-other s.reports (Shown (traced_at s place).pid l None) refl
    by _ = ap calls_among (append-nil s.reports)

after_patch-calls : (s : TrussState) (rest : Aside) (place : ℕ) (stage : Stage) (a : Answer)
    → calls (after_patch s rest place stage a) ≡ calls s
unfolding after_patch
after_patch-calls s rest place (Closing closed OpenNext) a = refl
after_patch-calls s rest place (Closing closed GoOn) Gone = refl
after_patch-calls s rest place (Closing closed GoOn) _ = refl
after_patch-calls s rest place (Closing closed (RunParent parent)) Gone = refl
after_patch-calls s rest place (Closing closed (RunParent parent)) _ = refl
after_patch-calls s rest place _ Accepted = refl
after_patch-calls s rest place _ (Refused errno) = refl
after_patch-calls s rest place _ Gone = pending_told-calls s
after_patch-calls s rest place _ Interrupted = seen-interrupt (with_pending_told s) place ∙ pending_told-calls s

planted_if-calls : (s : TrussState) (place function : ℕ) (a : Answer)
    → calls (planted_if s place function a) ≡ calls s
planted_if-calls s place function Accepted = refl
planted_if-calls s place function _ = refl

after_first-calls : (s : TrussState) (place : ℕ) (plants lifts : List Bool) (clear : Bool) (a : Answer)
    (plant lift : Option ℕ) → calls (after_first s place plants lifts clear a plant lift) ≡ calls s
after_first-calls s place plants lifts clear a (Some function) lift =
    after_patch-calls (planted_if s place function a) _ place s.stage a ∙ planted_if-calls s place function a
after_first-calls s place plants lifts clear a None (Some function) =
    after_patch-calls (without_planted s place function) _ place s.stage a
after_first-calls s place plants lifts clear a None None = after_patch-calls s Nothing place s.stage a

patch_answered-calls : (s : TrussState) (place : ℕ) (plants lifts : List Bool) (clear : Bool) (a : Answer)
    → calls (with_patch_answered s place plants lifts clear a) ≡ calls s
unfolding with_patch_answered
patch_answered-calls s place plants lifts clear a =
    after_first-calls s place plants lifts clear a (first_function plants) (first_function lifts)

-- ---- leaving

halt_answered-calls : (s : TrussState) (r : Reply) (a : Answer) → calls (with_halt_answered s r a) ≡ calls s
unfolding with_halt_answered
halt_answered-calls s r Accepted = refl
halt_answered-calls s r Interrupted = refl
halt_answered-calls s r (Refused errno) = refl
halt_answered-calls s r Gone = refl

wait_answered-calls : (s : TrussState) (a : Answer) → calls (with_wait_answered s a) ≡ calls s
unfolding with_wait_answered
wait_answered-calls s Accepted = refl
wait_answered-calls s Interrupted = refl
wait_answered-calls s (Refused errno) = refl
wait_answered-calls s Gone = refl

asking_answered-calls : (s : TrussState) (r : Reply) (a : Answer) → calls (with_asking_answered s r a) ≡ calls s
unfolding with_asking_answered
asking_answered-calls s r Accepted = refl
asking_answered-calls s r Interrupted = refl
asking_answered-calls s r (Refused errno) = refl
asking_answered-calls s r Gone = refl

-- ---- the reply

function_reply-calls : (s : TrussState) (r : Reply) (stage : Stage) → s.stage ≡ stage
    → calls (with_function_reply s r stage) ≡ calls s ++ call_read s r stage
unfolding with_function_reply fed
function_reply-calls s r (Opening place step) at = none (function_step-calls s place step r (answer_of r))
function_reply-calls s r (ReadingStatus place) at = function_status-calls s place r (answer_of r) refl
function_reply-calls s r (ReadingText place l from len) at = none (function_text-calls s place l len r)
function_reply-calls s r (Running place) at = none (function_run-calls s place (answer_of r))
function_reply-calls s r Unfollowing at = none (halt_answered-calls s r (answer_of r))
function_reply-calls s r ReadingLwps at = function_lwps-calls s r (answer_of r) refl
function_reply-calls s r stage at =
    none (subst (λ st. calls (with_reply s r st) ≡ calls s) at (fed-calls s r))

aside_answered-calls : (s : TrussState) (r : Reply) (aside : Aside)
    → calls (with_aside_answered s r aside) ≡ calls s ++ call_beside s r aside
unfolding with_aside_answered
aside_answered-calls s r Nothing = function_reply-calls s r s.stage refl
aside_answered-calls s r (Reading place function) =
    none (code_answered-calls (with_aside s Nothing) place function r (answer_of r))
aside_answered-calls s r (Planting place function) =
    none (plant_answered-calls (with_aside s Nothing) place function (answer_of r))
aside_answered-calls s r (Patching place plants lifts clear) =
    none (patch_answered-calls (with_aside s Nothing) place plants lifts clear (answer_of r))
aside_answered-calls s r (AwaitingStop until) = none (wait_answered-calls (with_aside s Nothing) (answer_of r))
aside_answered-calls s r Asking = none (asking_answered-calls (with_aside s Nothing) r (answer_of r))
aside_answered-calls s r (AwaitingAgain until) = none (wait_answered-calls (with_aside s Nothing) (answer_of r))

pub fed_functions-calls : (s : TrussState) (r : Reply) → has_functions s.options ≡ true
    → calls_among (fed_functions s r).reports ≡ calls_among s.reports ++ call_told s r
unfolding fed_functions call_told
fed_functions-calls s r has =
    ap (λ b. calls (cond b (with_aside_answered s r s.aside) (fed s r))) has ∙ aside_answered-calls s r s.aside

-- ---- at most one

event-one : (pid : ℕ) (e : FunctionEvent) → length (call_of_event pid e) ≤ 1
event-one pid (Completed step) = omega arith
event-one pid _ = omega arith

fresh-one : (s : TrussState) (place lwp : ℕ) (e : Option Event) → length (call_of_fresh s place lwp e) ≤ 1
fresh-one s place lwp None = omega arith
fresh-one s place lwp (Some e) = event-one (traced_at s place).pid (function_event s.options (marks_at s place) lwp e)

lwp-one : (s : TrussState) (place : ℕ) (l : Option LwpStatus) → length (call_of_lwp s place l) ≤ 1
lwp-one s place None = omega arith
lwp-one s place (Some l) = fresh-one s place l.id (fresh_event (traced_at s place) l)

read-one : (s : TrussState) (r : Reply) (stage : Stage) → length (call_read s r stage) ≤ 1
read-one s r (ReadingStatus place) = lwp-one s place (option_and_then status_lwp (bytes_in r))
read-one s r ReadingLwps = lwp-one s 0 (slice_get (event_stops (bytes_in r)) 0)
read-one s r _ = omega arith

beside-one : (s : TrussState) (r : Reply) (aside : Aside) → length (call_beside s r aside) ≤ 1
beside-one s r Nothing = read-one s r s.stage
beside-one s r _ = omega arith

pub told-one : (s : TrussState) (r : Reply) → length (call_told s r) ≤ 1
unfolding call_told
told-one s r = beside-one s r s.aside

-- ---- all replies

replies-calls : (s : TrussState) (rs : List Reply) → has_functions s.options ≡ true
    → calls (after_replies s rs) ≡ calls s ++ calls_told s rs
replies-calls s [] has = sym (append-nil (calls s))
replies-calls s (r ∷ rs) has =
    let next = fed_functions s r in
    replies-calls next rs (ap has_functions (fed_functions-options s r) ∙ has)
    ∙ ap (λ cs. cs ++ calls_told next rs) (fed_functions-calls s r has)
    ∙ append_assoc (calls s) (call_told s r) (calls_told next rs)

-- truss has reported nothing at first, and has its options
first-opening : (o : Options) (pid : Option ℕ)
    → (calls (opening_or (idle o) (idle o) pid) ≡ []) × ((opening_or (idle o) (idle o) pid).options ≡ o)
unfolding calls_among
first-opening o None = (refl, refl)
first-opening o (Some pid) = (refl, refl)

first-program : (o : Options) (program : Option (List ℕ))
    → (calls (first_of_program o program) ≡ []) × ((first_of_program o program).options ≡ o)
unfolding calls_among
first-program o None = first-opening o (slice_get o.pids 0)
first-program o (Some program) = (refl, refl)

pub first-calls : (o : Options) (rs : List Reply) → has_functions o ≡ true
    → calls_among (after_replies (first_truss o) rs).reports ≡ calls_told (first_truss o) rs
unfolding first_truss
first-calls o rs has =
    let first = first-program o o.program in
    replies-calls (first_truss o) rs (ap has_functions first.1 ∙ has)
    ∙ ap (λ cs. cs ++ calls_told (first_truss o) rs) first.0

pub ruleset told = (fed_functions-calls, told-one, first-calls)
