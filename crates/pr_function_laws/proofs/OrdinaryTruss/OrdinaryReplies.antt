use Rattle.std.proofs.Common.{◌≡◌, ◌-◌, ◌+◌, ◌++◌, ℕ, zero, suc, Bool, true, false, cond, ltb, not, nat_lt, Option, Some, None, List, [], ◌∷◌, is_some, length, map, append-nil, refl, sym, ap, ◌∙◌}
use Rattle.std.proofs.lemmas.List.{length-map, map-append, map-set}
use Rattle.std.proofs.lemmas.List.Elements.{filter-append}
use Rattle.std.specs.List.{filter, position, position_or_len, remove, slice_get, slice_index_or, slice_set}
use Rattle.std.specs.Option.{option_and_then, option_map}
use Rattle.pr_line.specs.ArgumentTexts.{Came}
use Rattle.pr_line.specs.Events.{event_of}
use Rattle.pr_line.specs.Selections.{is_selected}
use Rattle.pr_line.specs.declared.events.Event.{Event}
use Rattle.pr_line.specs.declared.options.Options.{Options}
use Rattle.pr_model.specs.Replies.{bytes_in, handle_in}
use Rattle.pr_model.specs.declared.calls.Reply.{Reply}
use Rattle.pr_num.specs.declared.errnos.Errno.{Errno}
use Rattle.pr_num.specs.declared.errnos.Errno.TheVariants.{Noent}
use Rattle.pr_rec.specs.declared.lwps.LwpStatus.{LwpStatus}
use Rattle.pr_truss.specs.Asides.{with_marks}
use Rattle.pr_truss.specs.Children.{at_child_step, child_learnt, child_step_after, with_child_answered, with_child_control, with_child_control_answered, with_child_started, with_child_step_answered, with_child_step_done, with_freeing_answered, with_freeing_begun, with_refused_child, with_refused_child_step, with_refused_freeing}
use Rattle.pr_truss.specs.Closings.{after_closing, closed_or_removed, left_or_finished, polls_or_finished, with_closed, with_closing, with_going_on, with_interrupt, with_next_left, with_next_opening}
use Rattle.pr_truss.specs.Feeding.{fed, with_reply}
use Rattle.pr_truss.specs.Openings.{at_step, learnt, step_after, with_control, with_control_answered, with_refused_control, with_refused_start, with_refused_step, with_start_answered, with_step_answered, with_step_done, with_stop_seen}
use Rattle.pr_truss.specs.Processes.{newly_traced, without_last}
use Rattle.pr_truss.specs.Records.{event_stops, is_on_event, status_lwp}
use Rattle.pr_truss.specs.Replies.{answer_of, ready_in}
use Rattle.pr_truss.specs.Stops.{after_text, asked_range, followed_child, has_control, text_of, with_child_or, with_event, with_event_over, with_event_shown, with_lwps_answered, with_old_stop_over, with_poll_answered, with_polled, with_run_answered, with_status_answered, with_stop, with_stop_over, with_stop_read, with_text_answered, with_text_or_shown, with_unfollowed}
use Rattle.pr_truss.specs.Trusses.{TrussState, first_of_program, first_truss, idle, nobody, opening_or, traced_at, with_opened, with_report, with_stage, with_traced, without_traced}
use Rattle.pr_truss.specs.declared.marks.Marks.{Marks}
use Rattle.pr_truss.specs.declared.processes.Traced.{Traced}
use Rattle.pr_truss.specs.declared.replies.Answer.{Answer}
use Rattle.pr_truss.specs.declared.replies.Answer.TheVariants.{Accepted, Interrupted, Gone, Refused}
use Rattle.pr_truss.specs.declared.reports.Report.{Report}
use Rattle.pr_truss.specs.declared.reports.Report.TheVariants.{CannotStart, CannotTrace, Event as Shown}
use Rattle.pr_truss.specs.declared.stages.AfterClosing.{AfterClosing}
use Rattle.pr_truss.specs.declared.stages.AfterClosing.TheVariants.{OpenNext, GoOn, RunParent}
use Rattle.pr_truss.specs.declared.stages.ChildStep.{ChildStep}
use Rattle.pr_truss.specs.declared.stages.ChildStep.TheVariants as child
use Rattle.pr_truss.specs.declared.stages.FreeingStep.{FreeingStep}
use Rattle.pr_truss.specs.declared.stages.FreeingStep.TheVariants as freeing
use Rattle.pr_truss.specs.declared.stages.OpeningStep.{OpeningStep}
use Rattle.pr_truss.specs.declared.stages.OpeningStep.TheVariants as opening
use Rattle.pr_truss.specs.declared.stages.Stage.{Stage}
use Rattle.pr_truss.specs.declared.stages.Stage.TheVariants.{Spawning, OpeningControl, Opening, Polling, ReadingStatus, ReadingText, OpeningChildControl, OpeningChild, Running, Closing, Unfollowing, ReadingLwps, FreeingChild, Finished}
use Rattle.pr_function_laws.specs.Calls.{is_call}
use Rattle.pr_function_laws.specs.Ordinary.{is_ordinary, ordinary, ordinary_among, unmarked}

-- What a reply makes of truss does not depend on its breakpoints, where nothing is said of functions: truss without
-- them that was fed the reply is truss that was fed it, without them.

-- ---- processes without marks

at-unmarked : (ts : List Traced) (place : ℕ)
    → slice_index_or (map unmarked ts) place nobody ≡ unmarked (slice_index_or ts place nobody)
unfolding newly_traced
at-unmarked [] place = refl
at-unmarked (t ∷ ts) zero = refl
at-unmarked (t ∷ ts) (suc place) = at-unmarked ts place

marks-unmarked : (ts : List Traced) (place : ℕ) (m : Marks)
    → map unmarked (slice_set ts place (record (slice_index_or ts place nobody) { marks = m })) ≡ map unmarked ts
marks-unmarked [] place m = refl
marks-unmarked (t ∷ ts) zero m = refl
marks-unmarked (t ∷ ts) (suc place) m = ap (λ (us : List Traced). unmarked t ∷ us) (marks-unmarked ts place m)

remove-unmarked : (ts : List Traced) (place : ℕ) → map unmarked (remove ts place) ≡ remove (map unmarked ts) place
remove-unmarked [] zero = refl
remove-unmarked [] (suc place) = refl
remove-unmarked (t ∷ ts) zero = refl
remove-unmarked (t ∷ ts) (suc place) = ap (λ (us : List Traced). unmarked t ∷ us) (remove-unmarked ts place)

append-unmarked : (ts : List Traced) (pid control : ℕ)
    → map unmarked (ts ++ newly_traced pid control ∷ []) ≡ map unmarked ts ++ newly_traced pid control ∷ []
unfolding newly_traced
append-unmarked ts pid control = map-append unmarked ts (newly_traced pid control ∷ [])

pub controls-ordinary : (ts : List Traced)
    → map (λ (t : Traced). t.control) (map unmarked ts) ≡ map (λ (t : Traced). t.control) ts
controls-ordinary [] = refl
controls-ordinary (t ∷ ts) = ap (λ handles. t.control ∷ handles) (controls-ordinary ts)

-- a place that is found by what does not depend on marks
module _ (p : Traced → Bool) (same : (t : Traced) → p (unmarked t) ≡ p t) where
  place-unmarked : (ts : List Traced) → position_or_len p (map unmarked ts) ≡ position_or_len p ts
  place-unmarked [] = refl
  place-unmarked (t ∷ ts) =
      ap (λ b. cond (not b) (1 + position_or_len p (map unmarked ts)) 0) (same t)
      ∙ ap (λ n. cond (not (p t)) (1 + n) 0) (place-unmarked ts)

  pub position-unmarked : (ts : List Traced) → position p (map unmarked ts) ≡ position p ts
  position-unmarked ts =
      ap (λ n. cond (ltb n (length (map unmarked ts))) (Some n) None) (place-unmarked ts)
      ∙ ap (λ n. cond (ltb (position_or_len p ts) n) (Some (position_or_len p ts)) None) (length-map ts unmarked)

last-unmarked : (t : Traced) → without_last (unmarked t) ≡ option_map unmarked (without_last t)
unfolding without_last
last-unmarked t = by (is_some t.memory) (is_some t.lstatus) (is_some t.status)
  where
    by : (a b c : Bool)
        → cond a (Some (unmarked (record t { memory = None })))
        (cond b (Some (unmarked (record t { lstatus = None })))
        (cond c (Some (unmarked (record t { status = None }))) None))
        ≡ option_map unmarked
        (cond a (Some (record t { memory = None }))
        (cond b (Some (record t { lstatus = None })) (cond c (Some (record t { status = None })) None)))
    by true b c = refl
    by false true c = refl
    by false false true = refl
    by false false false = refl

learnt-unmarked : (t : Traced) (r : Reply) (now : OpeningStep) → unmarked (learnt t r now) ≡ learnt (unmarked t) r now
unfolding learnt
learnt-unmarked t r opening.OpenStatus = refl
learnt-unmarked t r _ = refl

child-unmarked : (t : Traced) (r : Reply) (now : ChildStep)
    → unmarked (child_learnt t r now) ≡ child_learnt (unmarked t) r now
unfolding child_learnt
child-unmarked t r child.SetRelease = refl
child-unmarked t r _ = refl

-- ---- parts of the state

pub at-ordinary : (s : TrussState) (place : ℕ) → traced_at (ordinary s) place ≡ unmarked (traced_at s place)
at-ordinary s place = at-unmarked s.traced place

pub choose : (b : Bool) (u v x y : TrussState) → ordinary u ≡ x → ordinary v ≡ y → ordinary (cond b u v) ≡ cond b x y
choose true u v x y p q = p
choose false u v x y p q = q

abbrev with_list : TrussState → List Traced → TrussState
with_list s ts = record s { traced = ts }

set : (s : TrussState) (place : ℕ) (t : Traced)
    → ordinary (with_traced s place t) ≡ with_traced (ordinary s) place (unmarked t)
set s place t = ap (with_list (ordinary s)) (map-set unmarked s.traced place t)

-- a process becomes another one, by what is known of it
set-by : (s : TrussState) (place : ℕ) (f : Traced → Traced) → ((t : Traced) → unmarked (f t) ≡ f (unmarked t))
    → ordinary (with_traced s place (f (traced_at s place)))
    ≡ with_traced (ordinary s) place (f (traced_at (ordinary s) place))
set-by s place f same =
    set s place (f (traced_at s place))
    ∙ ap (with_traced (ordinary s) place) (same (traced_at s place) ∙ ap f (sym (at-ordinary s place)))

pub marked : (s : TrussState) (place : ℕ) (m : Marks) → ordinary (with_marks s place m) ≡ ordinary s
marked s place m = ap (with_list (ordinary s)) (marks-unmarked s.traced place m)

dropped : (s : TrussState) (place : ℕ) → ordinary (without_traced s place) ≡ without_traced (ordinary s) place
dropped s place = ap (with_list (ordinary s)) (remove-unmarked s.traced place)

one-more : (reports : List Report) (report : Report) → is_call report ≡ false
    → ordinary_among (reports ++ report ∷ []) ≡ ordinary_among reports ++ report ∷ []
unfolding ordinary_among
one-more reports report other =
    filter-append is_ordinary reports (report ∷ [])
    ∙ ap (λ b. filter is_ordinary reports ++ cond (not b) (report ∷ []) []) other

abbrev with_reports : TrussState → List Report → TrussState
with_reports s reports = record s { reports = reports }

reported : (s : TrussState) (report : Report) → is_call report ≡ false
    → ordinary (with_report s report) ≡ with_report (ordinary s) report
reported s report other = ap (with_reports (ordinary s)) (one-more s.reports report other)

one-call : (reports : List Report) (report : Report) → is_call report ≡ true
    → ordinary_among (reports ++ report ∷ []) ≡ ordinary_among reports
unfolding ordinary_among
one-call reports report call =
    filter-append is_ordinary reports (report ∷ [])
    ∙ ap (λ b. filter is_ordinary reports ++ cond (not b) (report ∷ []) []) call
    ∙ append-nil (filter is_ordinary reports)

-- a call of a function is reported
pub called : (s : TrussState) (report : Report) → is_call report ≡ true → ordinary (with_report s report) ≡ ordinary s
called s report call = ap (with_reports (ordinary s)) (one-call s.reports report call)

-- a refusal of a process at a place is reported
reported-at : (s : TrussState) (place : ℕ) (errno : Errno)
    → ordinary (with_report s (CannotTrace (traced_at s place).pid errno))
    ≡ with_report (ordinary s) (CannotTrace (traced_at (ordinary s) place).pid errno)
reported-at s place errno =
    reported s (CannotTrace (traced_at s place).pid errno) refl
    ∙ ap (λ (t : Traced). with_report (ordinary s) (CannotTrace t.pid errno)) (sym (at-ordinary s place))

seen : (s : TrussState) (place : ℕ) → ordinary (with_stop_seen s place) ≡ with_stop_seen (ordinary s) place
unfolding with_stop_seen
seen s place = set-by s place (λ t. record t { seen = true }) (λ t. refl)

-- ---- what comes when nothing is to be done for one process

left : (s : TrussState) (ts : List Traced)
    → ordinary (left_or_finished s (slice_get ts 0)) ≡ left_or_finished (ordinary s) (slice_get (map unmarked ts) 0)
left s [] = refl
left s (t ∷ ts) = refl

polls : (s : TrussState) (ts : List Traced)
    → ordinary (polls_or_finished s (slice_get ts 0)) ≡ polls_or_finished (ordinary s) (slice_get (map unmarked ts) 0)
polls s [] = refl
polls s (t ∷ ts) = refl

next_left : (s : TrussState) → ordinary (with_next_left s) ≡ with_next_left (ordinary s)
unfolding with_next_left
next_left s = left s s.traced

pub going_on : (s : TrussState) → ordinary (with_going_on s) ≡ with_going_on (ordinary s)
unfolding with_going_on
going_on s = choose s.leaving _ _ _ _ (next_left s) (polls s s.traced)

next_opening : (s : TrussState) → ordinary (with_next_opening s) ≡ with_next_opening (ordinary s)
unfolding with_next_opening
next_opening s = by (slice_get s.options.pids s.begun)
  where
    by : (pid : Option ℕ)
        → ordinary (opening_or s (with_going_on s) pid) ≡ opening_or (ordinary s) (with_going_on (ordinary s)) pid
    by None = going_on s
    by (Some pid) = refl

interrupt : (s : TrussState) → ordinary (with_interrupt s) ≡ with_interrupt (ordinary s)
unfolding with_interrupt
interrupt s = next_left (record s { leaving = true })

pub seen-interrupt : (s : TrussState) (place : ℕ)
    → ordinary (with_interrupt (with_stop_seen s place)) ≡ with_interrupt (with_stop_seen (ordinary s) place)
seen-interrupt s place = interrupt (with_stop_seen s place) ∙ ap with_interrupt (seen s place)

-- ---- closing

after : (s : TrussState) (next : AfterClosing) → ordinary (after_closing s next) ≡ after_closing (ordinary s) next
unfolding after_closing
after s OpenNext = next_opening s
after s GoOn = going_on s
after s (RunParent parent) = refl

closed : (s : TrussState) (place : ℕ) (next : AfterClosing)
    → ordinary (with_closed s place next) ≡ with_closed (ordinary s) place next
unfolding with_closed
closed s place next =
    by (without_last (traced_at s place))
    ∙ ap (closed_or_removed (ordinary s) place next)
    (sym (ap without_last (at-ordinary s place) ∙ last-unmarked (traced_at s place)))
  where
    by : (t : Option Traced)
        → ordinary (closed_or_removed s place next t)
        ≡ closed_or_removed (ordinary s) place next (option_map unmarked t)
    by None = after (without_traced s place) next ∙ ap (λ u. after_closing u next) (dropped s place)
    by (Some t) = set s place t

-- ---- a stop

pub stop_over : (s : TrussState) (place : ℕ) → ordinary (with_stop_over s place) ≡ with_stop_over (ordinary s) place
unfolding with_stop_over
stop_over s place = choose s.leaving _ _ _ _ refl refl

child_or : (s : TrussState) (place : ℕ) (pid : Option ℕ)
    → ordinary (with_child_or s place pid) ≡ with_child_or (ordinary s) place pid
child_or s place None = stop_over s place
child_or s place (Some pid) = refl

event_over : (s : TrussState) (place : ℕ) (l : LwpStatus)
    → ordinary (with_event_over s place l) ≡ with_event_over (ordinary s) place l
unfolding with_event_over
event_over s place l = child_or s place (followed_child s.options l)

pub shown : (s : TrussState) (place : ℕ) (l : LwpStatus) (text : Came)
    → ordinary (with_event_shown s place l text) ≡ with_event_shown (ordinary s) place l text
unfolding with_event_shown
shown s place l text =
    reported s (Shown (traced_at s place).pid l text) refl
    ∙ ap (λ (t : Traced). with_report (ordinary s) (Shown t.pid l text)) (sym (at-ordinary s place))

text_or : (s : TrussState) (place : ℕ) (l : LwpStatus) (range : Option (ℕ × ℕ))
    → ordinary (with_text_or_shown s place l range) ≡ with_text_or_shown (ordinary s) place l range
text_or s place l None =
    event_over (with_event_shown s place l None) place l ∙ ap (λ u. with_event_over u place l) (shown s place l None)
text_or s place l (Some range) = refl

event : (s : TrussState) (place : ℕ) (l : LwpStatus) (e : Option Event)
    → ordinary (with_event s place l e) ≡ with_event (ordinary s) place l e
event s place l None = stop_over s place
event s place l (Some e) =
    choose (is_selected s.options e) _ _ _ _ (text_or s place l (asked_range s.options e)) (event_over s place l)

old_over : (s : TrussState) (place : ℕ)
    → ordinary (with_old_stop_over s place) ≡ with_old_stop_over (ordinary s) place
unfolding with_old_stop_over
old_over s place =
    stop_over _ place
    ∙ ap (λ u. with_stop_over u place) (set-by s place (λ t. record t { old = t.old - 1 }) (λ t. refl))

pub stop : (s : TrussState) (place : ℕ) (l : LwpStatus)
    → ordinary (with_stop s place l) ≡ with_stop (ordinary s) place l
unfolding with_stop
stop s place l =
    choose (not (is_on_event l)) _ _ _ _ (stop_over s place)
    (choose (nat_lt 0 (traced_at s place).old) _ _ _ _ (old_over s place)
    (choose (traced_at s place).seen _ _ _ _ (stop_over s place) (event s place l (event_of l))))
    ∙ ap (λ (t : Traced).
    cond (not (is_on_event l)) (with_stop_over (ordinary s) place)
    (cond (nat_lt 0 t.old) (with_old_stop_over (ordinary s) place)
    (cond t.seen (with_stop_over (ordinary s) place) (with_event (ordinary s) place l (event_of l)))))
    (sym (at-ordinary s place))

stop_read : (s : TrussState) (place : ℕ) (l : Option LwpStatus)
    → ordinary (with_stop_read s place l) ≡ with_stop_read (ordinary s) place l
stop_read s place None = stop_over s place
stop_read s place (Some l) = stop s place l

-- ---- a reply at each stage

refused_start : (s : TrussState) (program : List ℕ) (errno : Errno)
    → ordinary (with_refused_start s program errno) ≡ with_refused_start (ordinary s) program errno
unfolding with_refused_start
refused_start s program errno =
    going_on (with_report s (CannotStart program errno))
    ∙ ap with_going_on (reported s (CannotStart program errno) refl)

start : (s : TrussState) (program : List ℕ) (r : Reply) (a : Answer)
    → ordinary (with_start_answered s program r a) ≡ with_start_answered (ordinary s) program r a
unfolding with_start_answered
start s program r Accepted = refl
start s program r Interrupted = interrupt s
start s program r Gone = refused_start s program Noent
start s program r (Refused errno) = refused_start s program errno

opened : (s : TrussState) (pid handle : ℕ)
    → ordinary (with_control s pid handle) ≡ with_control (ordinary s) pid handle
unfolding with_control
opened s pid handle =
    ap (λ ts. with_stage (with_list (ordinary s) ts) (Opening (length s.traced) opening.OpenStatus))
    (append-unmarked s.traced pid handle)
    ∙ ap (λ n. with_stage (with_opened (ordinary s) (newly_traced pid handle)) (Opening n opening.OpenStatus))
    (sym (length-map s.traced unmarked))

refused_control : (s : TrussState) (pid : ℕ) (errno : Errno)
    → ordinary (with_refused_control s pid errno) ≡ with_refused_control (ordinary s) pid errno
unfolding with_refused_control
refused_control s pid errno =
    next_opening (with_report s (CannotTrace pid errno))
    ∙ ap with_next_opening (reported s (CannotTrace pid errno) refl)

control : (s : TrussState) (pid : ℕ) (r : Reply) (a : Answer)
    → ordinary (with_control_answered s pid r a) ≡ with_control_answered (ordinary s) pid r a
unfolding with_control_answered
control s pid r Accepted = opened s pid (handle_in r)
control s pid r Interrupted = interrupt s
control s pid r Gone = refused_control s pid Noent
control s pid r (Refused errno) = refused_control s pid errno

step-at : (s : TrussState) (place : ℕ) (next : Option OpeningStep)
    → ordinary (at_step s place next) ≡ at_step (ordinary s) place next
step-at s place None = next_opening s
step-at s place (Some next) = refl

pub step_done : (s : TrussState) (place : ℕ) (r : Reply) (now : OpeningStep)
    → ordinary (with_step_done s place r now) ≡ with_step_done (ordinary s) place r now
unfolding with_step_done
step_done s place r now =
    step-at (with_traced s place (learnt (traced_at s place) r now)) place (step_after s.options r now)
    ∙ ap (λ u. at_step u place (step_after s.options r now))
    (set-by s place (λ t. learnt t r now) (λ t. learnt-unmarked t r now))

pub refused_step : (s : TrussState) (place : ℕ) (errno : Errno)
    → ordinary (with_refused_step s place errno) ≡ with_refused_step (ordinary s) place errno
unfolding with_refused_step
refused_step s place errno = ap (λ u. with_stage u (Closing place OpenNext)) (reported-at s place errno)

step : (s : TrussState) (place : ℕ) (now : OpeningStep) (r : Reply) (a : Answer)
    → ordinary (with_step_answered s place now r a) ≡ with_step_answered (ordinary s) place now r a
unfolding with_step_answered
step s place now r Accepted = step_done s place r now
step s place now r Interrupted = seen-interrupt s place
step s place now r Gone = refused_step s place Noent
step s place now r (Refused errno) = refused_step s place errno

polled : (s : TrussState) (place : Option ℕ) → ordinary (with_polled s place) ≡ with_polled (ordinary s) place
polled s None = refl
polled s (Some place) = refl

named : (ts : List Traced) (ready : Option ℕ)
    → option_and_then (λ handle. position (has_control handle) (map unmarked ts)) ready
    ≡ option_and_then (λ handle. position (has_control handle) ts) ready
named ts None = refl
named ts (Some handle) = position-unmarked (has_control handle) (λ t. refl) ts

poll : (s : TrussState) (r : Reply) (a : Answer)
    → ordinary (with_poll_answered s r a) ≡ with_poll_answered (ordinary s) r a
unfolding with_poll_answered
poll s r Accepted =
    polled s (option_and_then (λ handle. position (has_control handle) s.traced) (ready_in r))
    ∙ ap (with_polled (ordinary s)) (sym (named s.traced (ready_in r)))
poll s r Interrupted = interrupt s
poll s r Gone = refl
poll s r (Refused errno) = refl

status : (s : TrussState) (place : ℕ) (r : Reply) (a : Answer)
    → ordinary (with_status_answered s place r a) ≡ with_status_answered (ordinary s) place r a
unfolding with_status_answered
status s place r Accepted = stop_read s place (option_and_then status_lwp (bytes_in r))
status s place r Interrupted = interrupt s
status s place r Gone = refl
status s place r (Refused errno) = stop_over s place

text-after : (s : TrussState) (place : ℕ) (l : LwpStatus) (a : Answer)
    → ordinary (after_text s place l a) ≡ after_text (ordinary s) place l a
unfolding after_text
text-after s place l Accepted = event_over s place l
text-after s place l Interrupted = choose s.leaving _ _ _ _ (event_over s place l) (seen-interrupt s place)
text-after s place l Gone = refl
text-after s place l (Refused errno) = event_over s place l

pub text : (s : TrussState) (place : ℕ) (l : LwpStatus) (len : ℕ) (r : Reply)
    → ordinary (with_text_answered s place l len r) ≡ with_text_answered (ordinary s) place l len r
unfolding with_text_answered
text s place l len r =
    text-after (with_event_shown s place l (text_of len (bytes_in r))) place l (answer_of r)
    ∙ ap (λ u. after_text u place l (answer_of r)) (shown s place l (text_of len (bytes_in r)))

pub run : (s : TrussState) (place : ℕ) (a : Answer)
    → ordinary (with_run_answered s place a) ≡ with_run_answered (ordinary s) place a
unfolding with_run_answered
run s place Accepted = going_on s
run s place Interrupted = seen-interrupt s place
run s place Gone = refl
run s place (Refused errno) = going_on s

unfollowed : (s : TrussState) (a : Answer) → ordinary (with_unfollowed s a) ≡ with_unfollowed (ordinary s) a
unfolding with_unfollowed
unfollowed s Accepted = refl
unfollowed s Interrupted = refl
unfollowed s Gone = refl
unfollowed s (Refused errno) = refl

lwps : (s : TrussState) (r : Reply) (a : Answer)
    → ordinary (with_lwps_answered s r a) ≡ with_lwps_answered (ordinary s) r a
unfolding with_lwps_answered
lwps s r Accepted = stop_read s 0 (slice_get (event_stops (bytes_in r)) 0)
lwps s r Interrupted = refl
lwps s r Gone = refl
lwps s r (Refused errno) = refl

-- ---- the children of forks

new_child : (s : TrussState) (parent pid handle : ℕ)
    → ordinary (with_child_control s parent pid handle) ≡ with_child_control (ordinary s) parent pid handle
unfolding with_child_control
new_child s parent pid handle =
    ap (λ ts. with_stage (with_list (ordinary s) ts) (OpeningChild parent (length s.traced) child.SetRelease))
    (append-unmarked s.traced pid handle)
    ∙ ap (λ n. with_stage (with_opened (ordinary s) (newly_traced pid handle)) (OpeningChild parent n child.SetRelease))
    (sym (length-map s.traced unmarked))

refused_child : (s : TrussState) (parent pid : ℕ) (errno : Errno)
    → ordinary (with_refused_child s parent pid errno) ≡ with_refused_child (ordinary s) parent pid errno
unfolding with_refused_child
refused_child s parent pid errno =
    ap (λ u. with_stage u (Running parent)) (reported s (CannotTrace pid errno) refl)

child_control : (s : TrussState) (parent pid : ℕ) (r : Reply) (a : Answer)
    → ordinary (with_child_control_answered s parent pid r a) ≡ with_child_control_answered (ordinary s) parent pid r a
unfolding with_child_control_answered
child_control s parent pid r Accepted = new_child s parent pid (handle_in r)
child_control s parent pid r Interrupted = seen-interrupt s parent
child_control s parent pid r Gone = refused_child s parent pid Noent
child_control s parent pid r (Refused errno) = refused_child s parent pid errno

child-at : (s : TrussState) (parent place : ℕ) (next : Option ChildStep)
    → ordinary (at_child_step s parent place next) ≡ at_child_step (ordinary s) parent place next
child-at s parent place None = refl
child-at s parent place (Some next) = refl

child_done : (s : TrussState) (parent place : ℕ) (r : Reply) (now : ChildStep)
    → ordinary (with_child_step_done s parent place r now) ≡ with_child_step_done (ordinary s) parent place r now
unfolding with_child_step_done
child_done s parent place r now =
    child-at (with_traced s place (child_learnt (traced_at s place) r now)) parent place (child_step_after now)
    ∙ ap (λ u. at_child_step u parent place (child_step_after now))
    (set-by s place (λ t. child_learnt t r now) (λ t. child-unmarked t r now))

refused_child_step : (s : TrussState) (parent place : ℕ) (errno : Errno)
    → ordinary (with_refused_child_step s parent place errno) ≡ with_refused_child_step (ordinary s) parent place errno
unfolding with_refused_child_step
refused_child_step s parent place errno =
    ap (λ u. with_stage u (Closing place (RunParent parent))) (reported-at s place errno)

child_step : (s : TrussState) (parent place : ℕ) (now : ChildStep) (r : Reply) (a : Answer)
    → ordinary (with_child_step_answered s parent place now r a)
    ≡ with_child_step_answered (ordinary s) parent place now r a
unfolding with_child_step_answered
child_step s parent place now r Accepted = child_done s parent place r now
child_step s parent place now r Interrupted = seen-interrupt s parent
child_step s parent place now r Gone = refused_child_step s parent place Noent
child_step s parent place now r (Refused errno) = refused_child_step s parent place errno

child_started : (s : TrussState) (parent place : ℕ) (a : Answer)
    → ordinary (with_child_started s parent place a) ≡ with_child_started (ordinary s) parent place a
unfolding with_child_started
child_started s parent place Accepted = refl
child_started s parent place Interrupted = refl
child_started s parent place Gone = refl
child_started s parent place (Refused errno) = refl

child_answered : (s : TrussState) (parent place : ℕ) (now : ChildStep) (r : Reply) (a : Answer)
    → ordinary (with_child_answered s parent place now r a) ≡ with_child_answered (ordinary s) parent place now r a
unfolding with_child_answered
child_answered s parent place child.Start r a = child_started s parent place a
child_answered s parent place child.SetRelease r a = child_step s parent place child.SetRelease r a
child_answered s parent place child.OpenStatus r a = child_step s parent place child.OpenStatus r a
child_answered s parent place child.OpenLstatus r a = child_step s parent place child.OpenLstatus r a
child_answered s parent place child.OpenMemory r a = child_step s parent place child.OpenMemory r a

refused_freeing : (s : TrussState) (pid : ℕ) (errno : Errno)
    → ordinary (with_refused_freeing s pid errno) ≡ with_refused_freeing (ordinary s) pid errno
unfolding with_refused_freeing
refused_freeing s pid errno = ap (λ u. with_closing u 0) (reported s (CannotTrace pid errno) refl)

freeing_begun : (s : TrussState) (pid : ℕ) (r : Reply) (a : Answer)
    → ordinary (with_freeing_begun s pid r a) ≡ with_freeing_begun (ordinary s) pid r a
unfolding with_freeing_begun
freeing_begun s pid r Accepted = refl
freeing_begun s pid r Interrupted = refl
freeing_begun s pid r Gone = refused_freeing s pid Noent
freeing_begun s pid r (Refused errno) = refused_freeing s pid errno

freed : (s : TrussState) (pid : ℕ) (now : FreeingStep) (r : Reply)
    → ordinary (with_freeing_answered s pid now r) ≡ with_freeing_answered (ordinary s) pid now r
unfolding with_freeing_answered
freed s pid freeing.OpenControl r = freeing_begun s pid r (answer_of r)
freed s pid (freeing.SetRelease handle) r = refl
freed s pid (freeing.Close handle) r = refl

-- ---- the reply

pub reply-ordinary : (s : TrussState) (r : Reply) (stage : Stage)
    → ordinary (with_reply s r stage) ≡ with_reply (ordinary s) r stage
unfolding with_reply
reply-ordinary s r (Spawning program) = start s program r (answer_of r)
reply-ordinary s r (OpeningControl pid) = control s pid r (answer_of r)
reply-ordinary s r (Opening place now) = step s place now r (answer_of r)
reply-ordinary s r Polling = poll s r (answer_of r)
reply-ordinary s r (ReadingStatus place) = status s place r (answer_of r)
reply-ordinary s r (ReadingText place l from len) = text s place l len r
reply-ordinary s r (OpeningChildControl parent pid) = child_control s parent pid r (answer_of r)
reply-ordinary s r (OpeningChild parent place now) = child_answered s parent place now r (answer_of r)
reply-ordinary s r (Running place) = run s place (answer_of r)
reply-ordinary s r (Closing place next) = closed s place next
reply-ordinary s r Unfollowing = unfollowed s (answer_of r)
reply-ordinary s r ReadingLwps = lwps s r (answer_of r)
reply-ordinary s r (FreeingChild pid now) = freed s pid now r
reply-ordinary s r Finished = refl

pub fed-ordinary : (s : TrussState) (r : Reply) → ordinary (fed s r) ≡ fed (ordinary s) r
unfolding fed
fed-ordinary s r = reply-ordinary s r s.stage

-- ---- before its first call

first-pid : (o : Options) (pid : Option ℕ)
    → ordinary (opening_or (idle o) (idle o) pid) ≡ opening_or (idle o) (idle o) pid
unfolding ordinary_among
first-pid o None = refl
first-pid o (Some pid) = refl

first-program : (o : Options) (program : Option (List ℕ))
    → ordinary (first_of_program o program) ≡ first_of_program o program
unfolding ordinary_among
first-program o None = first-pid o (slice_get o.pids 0)
first-program o (Some program) = refl

pub first-ordinary : (o : Options) → ordinary (first_truss o) ≡ first_truss o
unfolding first_truss
first-ordinary o = first-program o o.program
