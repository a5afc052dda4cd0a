-- What truss(1) does at a stop of a process that it traces.
use Rattle.std.specs.Prelude.{◌-◌, ℕ, Bool, not, Option, Some, None, List, length, take, position, nat_lt, ◌==◌, option_and_then, slice_get, if◌then◌else◌}
use Rattle.pr_num.specs.Limits.{asked_limit}
use Rattle.pr_line.specs.ArgumentTexts.{Came}
use Rattle.pr_line.specs.Events.{event_of}
use Rattle.pr_line.specs.Selections.{is_selected}
use Rattle.pr_line.specs.TextRanges.{text_range}
use Rattle.pr_line.specs.declared.events.Event.{Event}
use Rattle.pr_line.specs.declared.options.Options.{Options}
use Rattle.pr_model.specs.declared.calls.Reply.{Reply}
use Rattle.pr_rec.specs.declared.lwps.LwpStatus.{LwpStatus}
use Rattle.pr_truss.specs.Closings.{with_going_on, with_interrupt, with_closing}
use Rattle.pr_truss.specs.Openings.{with_stop_seen}
use Rattle.pr_truss.specs.Records.{status_lwp, event_stops, is_on_event, child_of}
use Rattle.pr_model.specs.Replies.{bytes_in}
use Rattle.pr_truss.specs.Replies.{answer_of, ready_in}
use Rattle.pr_truss.specs.Trusses.{TrussState, traced_at, with_stage, with_traced, with_report}
use Rattle.pr_truss.specs.declared.processes.Traced.{Traced}
use Rattle.pr_truss.specs.declared.replies.Answer.{Answer}
use Rattle.pr_truss.specs.declared.replies.Answer.TheVariants.{Accepted, Interrupted, Gone, Refused}
use Rattle.pr_truss.specs.declared.reports.Report.TheVariants.{Event as Shown}
use Rattle.pr_truss.specs.declared.stages.FreeingStep.TheVariants.{OpenControl}
use Rattle.pr_truss.specs.declared.stages.Stage.TheVariants.{ReadingStatus, ReadingText, OpeningChildControl, Running, ReadingLwps, FreeingChild}

-- ---- after the stop

-- Truss has done with a stop of a process: it runs the process, or closes its files where it leaves.
unfoldable pub with_stop_over : TrussState → ℕ → TrussState
with_stop_over s place = if s.leaving then with_closing s place else with_stage s (Running place)

-- The child of a fork is opened; where truss leaves, it is set free.
abbrev pub with_child_or : TrussState → ℕ → Option ℕ → TrussState
with_child_or s place None = with_stop_over s place
with_child_or s place (Some child) =
    with_stage s (if s.leaving then FreeingChild child OpenControl else OpeningChildControl place child)

-- the child to follow (-f) of a fork at whose exit an lwp stands
unfoldable pub followed_child : Options → LwpStatus → Option ℕ
followed_child o l = if o.follow then child_of l else None

-- an event was looked at: its child comes next, if there is one to follow
unfoldable pub with_event_over : TrussState → ℕ → LwpStatus → TrussState
with_event_over s place l = with_child_or s place (followed_child s.options l)

-- ---- the event

-- an event of an lwp is reported, with the text that was read for its line
unfoldable pub with_event_shown : TrussState → ℕ → LwpStatus → Came → TrussState
with_event_shown s place l text = with_report s (Shown (traced_at s place).pid l text)

abbrev pub with_text_or_shown : TrussState → ℕ → LwpStatus → Option (ℕ × ℕ) → TrussState
with_text_or_shown s place l None = with_event_over (with_event_shown s place l None) place l
with_text_or_shown s place l (Some range) = with_stage s (ReadingText place l range.0 range.1)

-- the memory that the line of an event asks for; with -c there are no lines
unfoldable pub asked_range : Options → Event → Option (ℕ × ℕ)
asked_range o e = if o.count then None else text_range e

-- A selected event is reported, once the memory was read that its line asks for.
abbrev pub with_event : TrussState → ℕ → LwpStatus → Option Event → TrussState
with_event s place l None = with_stop_over s place
with_event s place l (Some e) =
    if is_selected s.options e then with_text_or_shown s place l
    (asked_range s.options e) else with_event_over s place l

-- one old stop less of a process
unfoldable pub with_old_stop_over : TrussState → ℕ → TrussState
with_old_stop_over s place =
    with_stop_over (with_traced s place (record (traced_at s place) { old = (traced_at s place).old - 1 })) place

-- What truss does at a stop. A stop on request is no event. An old stop, and one that was looked at already, is not
-- reported, and its child is not opened.
unfoldable pub with_stop : TrussState → ℕ → LwpStatus → TrussState
with_stop s place l =
    if not (is_on_event l) then with_stop_over s place
    else (if nat_lt 0 (traced_at s place).old then with_old_stop_over s place
    else (if (traced_at s place).seen then with_stop_over s place
    else with_event s place l (event_of l)))

-- the same, of the lwp that was read; a record that is none of proc(4) counts as a stop on request
abbrev pub with_stop_read : TrussState → ℕ → Option LwpStatus → TrussState
with_stop_read s place None = with_stop_over s place
with_stop_read s place (Some l) = with_stop s place l

-- ---- the replies

-- The bytes that a read of memory gave, at most as many as a line asks for, and whether they are fewer than were asked
-- for.
abbrev pub text_of : ℕ → Option (List ℕ) → Came
text_of len None = None
text_of len (Some bytes) = Some (take asked_limit bytes, nat_lt (length bytes) len)

-- The reply to the read of memory for an event. The event is reported at once, whatever the reply.
unfoldable pub after_text : TrussState → ℕ → LwpStatus → Answer → TrussState
after_text s place l Accepted = with_event_over s place l
after_text s place l (Refused errno) = with_event_over s place l
after_text s place l Gone = with_closing s place
after_text s place l Interrupted =
    if s.leaving then with_event_over s place l else with_interrupt (with_stop_seen s place)

unfoldable pub with_text_answered : TrussState → ℕ → LwpStatus → ℕ → Reply → TrussState
with_text_answered s place l len r =
    after_text (with_event_shown s place l (text_of len (bytes_in r))) place l (answer_of r)

-- The reply to the read of a status. Where it was refused for another reason than an end or an interrupt, no event is
-- known.
unfoldable pub with_status_answered : TrussState → ℕ → Reply → Answer → TrussState
with_status_answered s place r Accepted = with_stop_read s place (option_and_then status_lwp (bytes_in r))
with_status_answered s place r (Refused errno) = with_stop_over s place
with_status_answered s place r Gone = with_closing s place
with_status_answered s place r Interrupted = with_interrupt s

-- whether a handle is that of the control file of a process
abbrev pub has_control : ℕ → Traced → Bool
has_control handle t = t.control == handle

abbrev pub with_polled : TrussState → Option ℕ → TrussState
with_polled s None = s
with_polled s (Some place) = with_stage s (ReadingStatus place)

-- The reply to a poll: the status of the process that it names is read. After a refusal truss polls again.
unfoldable pub with_poll_answered : TrussState → Reply → Answer → TrussState
with_poll_answered s r Accepted =
    with_polled s (option_and_then (λ handle. position (has_control handle) s.traced) (ready_in r))
with_poll_answered s r (Refused errno) = s
with_poll_answered s r Gone = s
with_poll_answered s r Interrupted = with_interrupt s

-- the reply to PCRUN; a refusal counts as done
unfoldable pub with_run_answered : TrussState → ℕ → Answer → TrussState
with_run_answered s place Accepted = with_going_on s
with_run_answered s place (Refused errno) = with_going_on s
with_run_answered s place Gone = with_closing s place
with_run_answered s place Interrupted = with_interrupt (with_stop_seen s place)

-- ---- leaving

-- While truss leaves a process, interrupts and refusals are passed over, but not that the process has ended.
unfoldable pub with_unfollowed : TrussState → Answer → TrussState
with_unfollowed s Accepted = with_stage s ReadingLwps
with_unfollowed s (Refused errno) = with_stage s ReadingLwps
with_unfollowed s Interrupted = with_stage s ReadingLwps
with_unfollowed s Gone = with_closing s 0

-- the lwp that stands on an event, if one does, is looked at as in a poll
unfoldable pub with_lwps_answered : TrussState → Reply → Answer → TrussState
with_lwps_answered s r Accepted = with_stop_read s 0 (slice_get (event_stops (bytes_in r)) 0)
with_lwps_answered s r (Refused errno) = with_closing s 0
with_lwps_answered s r Interrupted = with_closing s 0
with_lwps_answered s r Gone = with_closing s 0
