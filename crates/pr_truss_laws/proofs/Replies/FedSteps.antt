use Rattle.std.proofs.Common.{◌≡◌, ℕ, Bool, true, false, nat_lt, not, cond, Option, Some, None, List, refl, sym, subst, ap, ◌∙◌}
use Rattle.std.proofs.lemmas.Bool.{false≢true}
use Rattle.std.proofs.lemmas.Option.{none-some, same_Some}
use Rattle.std.specs.List.{position, slice_get}
use Rattle.std.specs.Option.{option_and_then}
use Rattle.pr_line.specs.Events.{event_of}
use Rattle.pr_line.specs.Selections.{is_selected}
use Rattle.pr_line.specs.declared.events.Event.{Event}
use Rattle.pr_model.specs.Replies.{bytes_in}
use Rattle.pr_model.specs.declared.calls.Reply.{Reply}
use Rattle.pr_num.specs.declared.errnos.Errno.TheVariants.{Noent}
use Rattle.pr_rec.specs.declared.lwps.LwpStatus.{LwpStatus}
use Rattle.pr_truss.specs.Children.{at_child_step, child_learnt, child_step_after, with_child_answered, with_child_control, with_child_control_answered, with_child_started, with_child_step_answered, with_child_step_done, with_freeing_answered, with_freeing_begun, with_refused_child, with_refused_child_step, with_refused_freeing}
use Rattle.pr_truss.specs.Closings.{after_closing, closed_or_removed, left_or_finished, polls_or_finished, with_closed, with_going_on, with_interrupt, with_next_left, with_next_opening}
use Rattle.pr_truss.specs.Feeding.{fed, with_reply}
use Rattle.pr_truss.specs.Openings.{at_step, learnt, step_after, with_control, with_control_answered, with_refused_control, with_refused_start, with_refused_step, with_start_answered, with_step_answered, with_step_done, with_stop_seen}
use Rattle.pr_truss.specs.Processes.{without_last}
use Rattle.pr_truss.specs.Records.{event_stops, is_on_event, status_lwp}
use Rattle.pr_truss.specs.Replies.{answer_of, ready_in}
use Rattle.pr_truss.specs.Stops.{after_text, asked_range, followed_child, has_control, text_of, with_child_or, with_event, with_event_over, with_event_shown, with_lwps_answered, with_old_stop_over, with_poll_answered, with_polled, with_run_answered, with_status_answered, with_stop, with_stop_over, with_stop_read, with_text_answered, with_text_or_shown, with_unfollowed}
use Rattle.pr_truss.specs.Trusses.{TrussState, opening_or, traced_at, with_stage, with_traced}
use Rattle.pr_truss.specs.declared.processes.Traced.{Traced}
use Rattle.pr_truss.specs.declared.replies.Answer.{Answer}
use Rattle.pr_truss.specs.declared.replies.Answer.TheVariants.{Accepted, Interrupted, Gone, Refused}
use Rattle.pr_truss.specs.declared.stages.AfterClosing.{AfterClosing}
use Rattle.pr_truss.specs.declared.stages.AfterClosing.TheVariants.{OpenNext, GoOn, RunParent}
use Rattle.pr_truss.specs.declared.stages.ChildStep.{ChildStep}
use Rattle.pr_truss.specs.declared.stages.ChildStep.TheVariants as child
use Rattle.pr_truss.specs.declared.stages.FreeingStep.{FreeingStep}
use Rattle.pr_truss.specs.declared.stages.FreeingStep.TheVariants as freeing
use Rattle.pr_truss.specs.declared.stages.OpeningStep.{OpeningStep}
use Rattle.pr_truss.specs.declared.stages.Stage.{Stage}
use Rattle.pr_truss.specs.declared.stages.Stage.TheVariants.{Spawning, OpeningControl, Opening, Polling, ReadingStatus, ReadingText, OpeningChildControl, OpeningChild, Running, Closing, Unfollowing, ReadingLwps, FreeingChild, Finished}
use Rattle.pr_truss_laws.proofs.Replies.AnswerLemmas.{gone-refuses, other-refuses}
use Rattle.pr_truss_laws.proofs.Replies.ReplySteps.{GoesOn, IsNew, Reads, ReplyStep, StopOver, leaving_now, old_less, seen_at, shown_at, shown_now, finishes, polls, unfollows, closes_first, opens_next, runs, leaves, opens_child, frees_child, new_given, interrupts_start, interrupts_control, interrupts_poll, interrupts_status, interrupts_opening, interrupts_text, interrupts_child_control, interrupts_child, interrupts_run, refuses_start, refuses_control, ends_opening, ran, closed_next, closed, reads_status, reads_none, reads_lwps, passes, passes_old, passes_event, shows, status_ended, text_ended, run_ended, left_ended, looked_last, freed_last, freed_none, refuses_free, refuses_opening, refuses_child, child_ended, opening_goes, child_goes, refuses_child_control, child_runs, child_closed, starts, polls_again, unfollowed, frees, has_finished, settles, looks, asks, closes, loses, opens, learns, returns, turns, is_named, shows_text, new_child, frees_on}

-- What truss is when it was fed a reply is what one of the steps of replies makes of it.

-- a choice between two states, each with what its test says
pub by_test : (P : TrussState → Type 0) (b : Bool) (u v : TrussState) → (b ≡ true → P u) → (b ≡ false → P v)
    → P (cond b u v)
by_test P true u v p q = p refl
by_test P false u v p q = q refl

left-on : (u : TrussState) (given : Bool) → u.leaving ≡ true → GoesOn u given (with_next_left u)
unfolding with_next_left
left-on u given on = by (slice_get u.traced 0) refl
  where
    attached : (t : Traced) → slice_get u.traced 0 ≡ Some t → (b : Bool) → t.attached ≡ b
        → GoesOn u given (with_stage u (cond b Unfollowing (Closing 0 GoOn)))
    attached t is true own = unfollows on is own
    attached t is false own = closes_first on is own

    by : (first : Option Traced) → slice_get u.traced 0 ≡ first → GoesOn u given (left_or_finished u first)
    by None is = finishes is
    by (Some t) is = attached t is t.attached refl

pub goes-on : (u : TrussState) (given : Bool) → GoesOn u given (with_going_on u)
unfolding with_going_on
goes-on u given = by_test (GoesOn u given) u.leaving _ _ (left-on u given) (by (slice_get u.traced 0) refl)
  where
    by : (first : Option Traced) → slice_get u.traced 0 ≡ first → u.leaving ≡ false
        → GoesOn u given (polls_or_finished u first)
    by None is off = finishes is
    by (Some t) is off = polls off is

pub opens-next : (u : TrussState) → GoesOn u true (with_next_opening u)
unfolding with_next_opening
opens-next u = by (slice_get u.options.pids u.begun) refl
  where
    by : (pid : Option ℕ) → slice_get u.options.pids u.begun ≡ pid → GoesOn u true (opening_or u (with_going_on u) pid)
    by None is = goes-on u true
    by (Some pid) is = opens_next is

pub interrupt-on : (u : TrussState) → GoesOn (leaving_now u) false (with_interrupt u)
unfolding with_interrupt
interrupt-on u = left-on (leaving_now u) false refl

pub seen-on : (u : TrussState) (place : ℕ)
    → GoesOn (leaving_now (seen_at u place)) false (with_interrupt (with_stop_seen u place))
unfolding with_stop_seen
seen-on u place = interrupt-on (seen_at u place)

pub stop-over : (u : TrussState) (place : ℕ) → StopOver u place None (with_stop_over u place)
unfolding with_stop_over
stop-over u place = by_test (StopOver u place None) u.leaving _ _ leaves runs

pub event-over : (u : TrussState) (place : ℕ) (l : LwpStatus)
    → StopOver u place (followed_child u.options l) (with_event_over u place l)
unfolding with_event_over
event-over u place l = by (followed_child u.options l)
  where
    leaving : (pid : ℕ) (b : Bool) → u.leaving ≡ b
        → StopOver u place (Some pid)
        (with_stage u (cond b (FreeingChild pid freeing.OpenControl) (OpeningChildControl place pid)))
    leaving pid true on = frees_child on
    leaving pid false off = opens_child off

    by : (pid : Option ℕ) → StopOver u place pid (with_child_or u place pid)
    by None = stop-over u place
    by (Some pid) = leaving pid u.leaving refl

module _ (s : TrussState) (r : Reply) where
  abbrev To : Stage → TrussState → Type 0
  To stage v = ReplyStep s r stage v

  here : (u : TrussState) (stage : Stage) → u.stage ≡ stage → u ≡ with_stage u stage
  here u stage at = ap (with_stage u) at

  -- ---- a stop

  module _ (stage : Stage) (place : ℕ) where
    -- nothing new stands there
    passes-on : (l : LwpStatus) → Reads s r stage place (Some l) → ((e : Event) → IsNew s r place l e → ⊥)
        → To stage (with_stop_over s place)
    passes-on l reads none =
        looks (passes (record { reads = reads; none = λ m e is new. none e (same m e is new) })) (stop-over s place)
      where
        same : (m : LwpStatus) (e : Event) → Some l ≡ Some m → IsNew s r place m e → IsNew s r place l e
        same m e is new = subst (λ x. IsNew s r place x e) (sym (same_Some l m is)) new

    event-step : (l : LwpStatus) → Reads s r stage place (Some l) → (o : Option Event) → event_of l ≡ o
        → ((e : Event) → o ≡ Some e → IsNew s r place l e) → To stage (with_event s place l o)
    unfolding with_event_shown
    event-step l reads None is new = passes-on l reads (λ e it. none-some e (sym is ∙ it.is))
    event-step l reads (Some e) is new =
        by_test (To stage) (is_selected s.options e) _ _ (by (asked_range s.options e) refl)
        (λ off. looks (passes_event reads (new e refl) off) (event-over s place l))
      where
        by : (range : Option (ℕ × ℕ)) → asked_range s.options e ≡ range → is_selected s.options e ≡ true
            → To stage (with_text_or_shown s place l range)
        by None none on = looks (shows reads (new e refl) on none) (event-over (shown_at s place l None) place l)
        by (Some range) some on = asks reads (new e refl) on some

    stop-step : (l : LwpStatus) → Reads s r stage place (Some l) → To stage (with_stop s place l)
    unfolding with_stop with_old_stop_over
    stop-step l reads = stands (is_on_event l) refl
      where
        stands : (b : Bool) → is_on_event l ≡ b
            → To stage
            (cond (not b) (with_stop_over s place)
            (cond (nat_lt 0 (traced_at s place).old) (with_old_stop_over s place)
            (cond (traced_at s place).seen (with_stop_over s place) (with_event s place l (event_of l)))))
        stands false off = passes-on l reads (λ e it. false≢true (sym off ∙ it.stands))
        stands true on = by_test (To stage) (nat_lt 0 (traced_at s place).old) _ _
            (λ old. looks (passes_old reads on old) (stop-over (old_less s place) place)) (λ none.
            by_test (To stage) (traced_at s place).seen _ _
            (λ is. passes-on l reads (λ e it. false≢true (sym it.unseen ∙ is))) (λ unseen.
            event-step l reads (event_of l) refl
            (λ e is. record { stands = on; none_old = none; unseen = unseen; is = is })))

    read-step : (o : Option LwpStatus) → Reads s r stage place o → To stage (with_stop_read s place o)
    read-step None reads =
        looks (passes (record { reads = reads; none = λ m e is. absurd (none-some m is) })) (stop-over s place)
    read-step (Some l) reads = stop-step l reads

  -- ---- a reply at each stage

  start-step : (program : List ℕ) (a : Answer) → answer_of r ≡ a
      → To (Spawning program) (with_start_answered s program r a)
  unfolding with_start_answered with_refused_start
  start-step program Accepted is = turns (starts is)
  start-step program Interrupted is = settles (interrupts_start is) (interrupt-on s)
  start-step program Gone is = settles (refuses_start Noent (gone-refuses r is)) (goes-on _ false)
  start-step program (Refused errno) is = settles (refuses_start errno (other-refuses r errno is)) (goes-on _ false)

  control-step : (pid : ℕ) (a : Answer) → answer_of r ≡ a → To (OpeningControl pid) (with_control_answered s pid r a)
  unfolding with_control_answered with_control with_refused_control
  control-step pid Accepted is = opens is new_given
  control-step pid Interrupted is = settles (interrupts_control is) (interrupt-on s)
  control-step pid Gone is = settles (refuses_control Noent (gone-refuses r is)) (opens-next _)
  control-step pid (Refused errno) is = settles (refuses_control errno (other-refuses r errno is)) (opens-next _)

  opening-step : (place : ℕ) (now : OpeningStep) (a : Answer) → answer_of r ≡ a
      → To (Opening place now) (with_step_answered s place now r a)
  unfolding with_step_answered with_step_done with_refused_step
  opening-step place now Accepted is = by (step_after s.options r now) refl
    where
      by : (next : Option OpeningStep) → step_after s.options r now ≡ next
          → To (Opening place now) (at_step (with_traced s place (learnt (traced_at s place) r now)) place next)
      by None none = settles (ends_opening is none) (opens-next _)
      by (Some next) some = learns is (opening_goes some)
  opening-step place now Interrupted is = settles (interrupts_opening is) (seen-on s place)
  opening-step place now Gone is = closes (refuses_opening Noent (gone-refuses r is))
  opening-step place now (Refused errno) is = closes (refuses_opening errno (other-refuses r errno is))

  again-step : s.stage ≡ Polling → To Polling s
  again-step at = subst (To Polling) (sym (here s Polling at)) (turns polls_again)

  poll-step : s.stage ≡ Polling → (a : Answer) → answer_of r ≡ a → To Polling (with_poll_answered s r a)
  unfolding with_poll_answered
  poll-step at Accepted is = by (option_and_then (λ handle. position (has_control handle) s.traced) (ready_in r)) refl
    where
      by : (place : Option ℕ) → option_and_then (λ handle. position (has_control handle) s.traced) (ready_in r) ≡ place
          → To Polling (with_polled s place)
      by None none = again-step at
      by (Some place) some = turns (is_named some)
  poll-step at Interrupted is = settles (interrupts_poll is) (interrupt-on s)
  poll-step at _ is = again-step at

  status-step : (place : ℕ) (a : Answer) → answer_of r ≡ a → To (ReadingStatus place) (with_status_answered s place r a)
  unfolding with_status_answered
  status-step place Accepted is =
      read-step (ReadingStatus place) place (option_and_then status_lwp (bytes_in r)) (reads_status is)
  status-step place Interrupted is = settles (interrupts_status is) (interrupt-on s)
  status-step place Gone is = closes (status_ended is)
  status-step place (Refused errno) is =
      looks (passes (record {
        reads = reads_none (λ accepted. let e : Refused errno ≡ Accepted = sym is ∙ accepted in cc);
        none = λ m e same. absurd (none-some m same);
      })) (stop-over s place)

  text-step : (place : ℕ) (l : LwpStatus) (from len : ℕ) (a : Answer) → answer_of r ≡ a
      → To (ReadingText place l from len) (after_text (with_event_shown s place l (text_of len (bytes_in r))) place l a)
  unfolding after_text with_event_shown
  text-step place l from len Gone is = closes (text_ended is)
  text-step place l from len Interrupted is = by_test (To (ReadingText place l from len)) s.leaving _ _
      (λ on. looks shows_text (event-over (shown_now s r place l len) place l))
      (λ off. settles (interrupts_text is off) (seen-on (shown_now s r place l len) place))
  text-step place l from len _ is = looks shows_text (event-over (shown_now s r place l len) place l)

  run-step : (place : ℕ) (a : Answer) → answer_of r ≡ a → To (Running place) (with_run_answered s place a)
  unfolding with_run_answered
  run-step place Interrupted is = settles (interrupts_run is) (seen-on s place)
  run-step place Gone is = closes (run_ended is)
  run-step place _ is = settles ran (goes-on s false)

  child-control-step : (parent pid : ℕ) (a : Answer) → answer_of r ≡ a
      → To (OpeningChildControl parent pid) (with_child_control_answered s parent pid r a)
  unfolding with_child_control_answered with_child_control with_refused_child
  child-control-step parent pid Accepted is = opens is new_child
  child-control-step parent pid Interrupted is = settles (interrupts_child_control is) (seen-on s parent)
  child-control-step parent pid Gone is = returns (refuses_child_control Noent (gone-refuses r is))
  child-control-step parent pid (Refused errno) is = returns (refuses_child_control errno (other-refuses r errno is))

  -- before the last step
  child-answered : (parent place : ℕ) (now next : ChildStep) → child_step_after now ≡ Some next → (a : Answer)
      → answer_of r ≡ a → To (OpeningChild parent place now) (with_child_step_answered s parent place now r a)
  unfolding with_child_step_answered with_child_step_done with_refused_child_step
  child-answered parent place now next after Accepted is =
      let v : Option ChildStep → TrussState =
      at_child_step (with_traced s place (child_learnt (traced_at s place) r now)) parent place in
      subst (λ o. To (OpeningChild parent place now) (v o)) (sym after) (learns is (child_goes after))
  child-answered parent place now next after Interrupted is = settles (interrupts_child is) (seen-on s parent)
  child-answered parent place now next after Gone is = closes (refuses_child Noent (gone-refuses r is))
  child-answered parent place now next after (Refused errno) is =
      closes (refuses_child errno (other-refuses r errno is))

  child-started : (parent place : ℕ) (a : Answer) → answer_of r ≡ a
      → To (OpeningChild parent place child.Start) (with_child_started s parent place a)
  unfolding with_child_started
  child-started parent place Gone is = closes (child_ended is)
  child-started parent place _ is = returns (child_runs (λ none. cc))

  child-step : (parent place : ℕ) (now : ChildStep)
      → To (OpeningChild parent place now) (with_child_answered s parent place now r (answer_of r))
  unfolding with_child_answered child_step_after
  child-step parent place child.SetRelease = child-answered parent place child.SetRelease child.OpenStatus refl _ refl
  child-step parent place child.OpenStatus = child-answered parent place child.OpenStatus child.OpenLstatus refl _ refl
  child-step parent place child.OpenLstatus = child-answered parent place child.OpenLstatus child.OpenMemory refl _ refl
  child-step parent place child.OpenMemory = child-answered parent place child.OpenMemory child.Start refl _ refl
  child-step parent place child.Start = child-started parent place _ refl

  unfollow-step : (a : Answer) → answer_of r ≡ a → To Unfollowing (with_unfollowed s a)
  unfolding with_unfollowed
  unfollow-step Gone is = closes (left_ended is)
  unfollow-step _ is = turns unfollowed

  lwps-step : (a : Answer) → answer_of r ≡ a → To ReadingLwps (with_lwps_answered s r a)
  unfolding with_lwps_answered
  lwps-step Accepted is = read-step ReadingLwps 0 (slice_get (event_stops (bytes_in r)) 0) (reads_lwps is)
  lwps-step (Refused errno) is =
      closes (looked_last (λ accepted. let e : Refused errno ≡ Accepted = sym is ∙ accepted in cc))
  lwps-step Interrupted is = closes (looked_last (λ accepted. let e : Interrupted ≡ Accepted = sym is ∙ accepted in cc))
  lwps-step Gone is = closes (looked_last (λ accepted. let e : Gone ≡ Accepted = sym is ∙ accepted in cc))

  free-step : (pid : ℕ) (a : Answer) → answer_of r ≡ a
      → To (FreeingChild pid freeing.OpenControl) (with_freeing_begun s pid r a)
  unfolding with_freeing_begun with_refused_freeing
  free-step pid Accepted is = turns (frees is)
  free-step pid Interrupted is = closes (freed_none is)
  free-step pid Gone is = closes (refuses_free Noent (gone-refuses r is))
  free-step pid (Refused errno) is = closes (refuses_free errno (other-refuses r errno is))

  freeing-step : (pid : ℕ) (now : FreeingStep) → To (FreeingChild pid now) (with_freeing_answered s pid now r)
  unfolding with_freeing_answered
  freeing-step pid freeing.OpenControl = free-step pid (answer_of r) refl
  freeing-step pid (freeing.SetRelease control) = turns frees_on
  freeing-step pid (freeing.Close control) = closes freed_last

  closing-step : (place : ℕ) (next : AfterClosing) → s.stage ≡ Closing place next → (left : Option Traced)
      → without_last (traced_at s place) ≡ left → To (Closing place next) (closed_or_removed s place next left)
  unfolding after_closing
  closing-step place next at (Some t) is =
      subst (To (Closing place next)) (sym (here (with_traced s place t) (Closing place next) at)) (loses is)
  closing-step place OpenNext at None is = settles (closed_next is) (opens-next _)
  closing-step place GoOn at None is = settles (closed is) (goes-on _ false)
  closing-step place (RunParent parent) at None is = returns (child_closed is)

  stage-step : (stage : Stage) → s.stage ≡ stage → To stage (with_reply s r stage)
  unfolding with_reply with_text_answered with_closed
  stage-step (Spawning program) at = start-step program (answer_of r) refl
  stage-step (OpeningControl pid) at = control-step pid (answer_of r) refl
  stage-step (Opening place now) at = opening-step place now (answer_of r) refl
  stage-step Polling at = poll-step at (answer_of r) refl
  stage-step (ReadingStatus place) at = status-step place (answer_of r) refl
  stage-step (ReadingText place l from len) at = text-step place l from len (answer_of r) refl
  stage-step (OpeningChildControl parent pid) at = child-control-step parent pid (answer_of r) refl
  stage-step (OpeningChild parent place now) at = child-step parent place now
  stage-step (Running place) at = run-step place (answer_of r) refl
  stage-step (Closing place next) at = closing-step place next at (without_last (traced_at s place)) refl
  stage-step Unfollowing at = unfollow-step (answer_of r) refl
  stage-step ReadingLwps at = lwps-step (answer_of r) refl
  stage-step (FreeingChild pid now) at = freeing-step pid now
  stage-step Finished at = subst (To Finished) (sym (here s Finished at)) (turns has_finished)

-- What truss is when it was fed a reply is what such a step makes of it.
pub fed-step : (s : TrussState) (r : Reply) → ReplyStep s r s.stage (fed s r)
unfolding fed
fed-step s r = stage-step s r s.stage refl
