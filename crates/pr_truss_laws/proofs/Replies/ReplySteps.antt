use Rattle.std.proofs.Common.{◌≡◌, ◌≢◌, ◌-◌, ◌+◌, ℕ, Bool, true, false, nat_lt, Option, Some, None, List, length, refl, ap, subst, ◌∙◌}
use Rattle.std.proofs.lemmas.Option.{none-some, same_Some}
use Rattle.std.specs.List.{position, slice_get}
use Rattle.std.specs.Option.{option_and_then}
use Rattle.pr_line.specs.Events.{event_of}
use Rattle.pr_line.specs.Selections.{is_selected}
use Rattle.pr_line.specs.declared.events.Event.{Event}
use Rattle.pr_model.specs.Replies.{bytes_in, handle_in}
use Rattle.pr_model.specs.declared.calls.Reply.{Reply}
use Rattle.pr_num.specs.declared.errnos.Errno.{Errno}
use Rattle.pr_num.specs.declared.errnos.Errno.TheVariants.{Intr, Noent}
use Rattle.pr_rec.specs.declared.lwps.LwpStatus.{LwpStatus}
use Rattle.pr_truss.specs.Children.{child_learnt, child_step_after}
use Rattle.pr_truss.specs.Openings.{learnt, pid_in, step_after}
use Rattle.pr_truss.specs.Processes.{newly_traced, without_last}
use Rattle.pr_truss.specs.Records.{event_stops, is_on_event, status_lwp}
use Rattle.pr_truss.specs.Replies.{answer_of, ready_in, refusal_of}
use Rattle.pr_truss.specs.Stops.{asked_range, followed_child, has_control, text_of}
use Rattle.pr_truss.specs.Trusses.{TrussState, traced_at, with_opened, with_report, with_stage, with_traced, without_traced}
use Rattle.pr_truss.specs.declared.processes.Traced.{Traced}
use Rattle.pr_truss.specs.declared.replies.Answer.{Answer}
use Rattle.pr_truss.specs.declared.replies.Answer.TheVariants.{Accepted, Interrupted, Gone}
use Rattle.pr_truss.specs.declared.reports.Report.TheVariants.{CannotStart, CannotTrace, Event as Shown}
use Rattle.pr_truss.specs.declared.stages.AfterClosing.{AfterClosing}
use Rattle.pr_truss.specs.declared.stages.AfterClosing.TheVariants.{OpenNext, GoOn, RunParent}
use Rattle.pr_truss.specs.declared.stages.ChildStep.{ChildStep}
use Rattle.pr_truss.specs.declared.stages.ChildStep.TheVariants as child
use Rattle.pr_truss.specs.declared.stages.FreeingStep.TheVariants as freeing
use Rattle.pr_truss.specs.declared.stages.OpeningStep.{OpeningStep}
use Rattle.pr_truss.specs.declared.stages.OpeningStep.TheVariants as opening
use Rattle.pr_truss.specs.declared.stages.Stage.{Stage}
use Rattle.pr_truss.specs.declared.stages.Stage.TheVariants.{Spawning, OpeningControl, Opening, Polling, ReadingStatus, ReadingText, OpeningChildControl, OpeningChild, Running, Closing, Unfollowing, ReadingLwps, FreeingChild, Finished}
use Rattle.pr_truss_laws.proofs.Replies.AnswerLemmas.{Refuses}
use Rattle.pr_truss_laws.proofs.Files.HeldLemmas.{by_last}

-- What a reply makes of truss, as data: nine kinds of step from one stage to the next. A law of replies goes over these
-- kinds, and where it asks how the step came about, over the rows of a kind.

-- ---- what comes next

-- Nothing is to be done for a process: truss polls, leaves its first process, or has finished. After an opening the
-- next process that it was given comes first.
pub data GoesOn (u : TrussState) : Bool → TrussState → Type 0 where
  finishes : {given : Bool} → slice_get u.traced 0 ≡ None → GoesOn u given (with_stage u Finished)
  polls : {given : Bool} {t : Traced} → u.leaving ≡ false → slice_get u.traced 0 ≡ Some t
      → GoesOn u given (with_stage u Polling)
  unfollows : {given : Bool} {t : Traced} → u.leaving ≡ true → slice_get u.traced 0 ≡ Some t → t.attached ≡ true
      → GoesOn u given (with_stage u Unfollowing)
  closes_first : {given : Bool} {t : Traced} → u.leaving ≡ true → slice_get u.traced 0 ≡ Some t → t.attached ≡ false
      → GoesOn u given (with_stage u (Closing 0 GoOn))
  opens_next : {pid : ℕ} → slice_get u.options.pids u.begun ≡ Some pid
      → GoesOn u true (record u { stage = OpeningControl pid; begun = u.begun + 1 })

-- A stop of the process at a place is over: the child of its fork comes first, if there is one to follow.
pub data StopOver (u : TrussState) (place : ℕ) : Option ℕ → TrussState → Type 0 where
  runs : u.leaving ≡ false → StopOver u place None (with_stage u (Running place))
  leaves : u.leaving ≡ true → StopOver u place None (with_stage u (Closing place GoOn))
  opens_child : {pid : ℕ} → u.leaving ≡ false
      → StopOver u place (Some pid) (with_stage u (OpeningChildControl place pid))
  frees_child : {pid : ℕ} → u.leaving ≡ true
      → StopOver u place (Some pid) (with_stage u (FreeingChild pid freeing.OpenControl))

-- Then truss is at another stage, and else as it was.
pub record IsStaged (u v : TrussState) : Type 0 where
  pub options : v.options ≡ u.options
  pub traced : v.traced ≡ u.traced
  pub leaving : v.leaving ≡ u.leaving
  pub reports : v.reports ≡ u.reports

pub on-staged : {u v : TrussState} {given : Bool} → GoesOn u given v → IsStaged u v
on-staged (polls _ _) = record { options = refl; traced = refl; leaving = refl; reports = refl }
on-staged _ = record { options = refl; traced = refl; leaving = refl; reports = refl }

pub over-staged : {u v : TrussState} {place : ℕ} {pid : Option ℕ} → StopOver u place pid v → IsStaged u v
over-staged (runs _) = record { options = refl; traced = refl; leaving = refl; reports = refl }
over-staged _ = record { options = refl; traced = refl; leaving = refl; reports = refl }

-- ---- what a reply changes

abbrev pub accepts : Answer → Bool
accepts Accepted = true
accepts _ = false

refusal-other : (errno : Errno) → accepts (refusal_of errno) ≡ false
refusal-other Intr = refl
refusal-other Noent = refl
refusal-other _ = refl

pub refused-other : (r : Reply) (errno : Errno) → Refuses r errno → accepts (answer_of r) ≡ false
unfolding answer_of
refused-other r errno refuses = ap (λ q. accepts (answer_of q)) refuses.is ∙ refusal-other errno

-- truss leaves its processes from now on
abbrev pub leaving_now : TrussState → TrussState
leaving_now u = record u { leaving = true }

-- the stop of the process at a place was looked at
abbrev pub seen_at : TrussState → ℕ → TrussState
seen_at u place = with_traced u place (record (traced_at u place) { seen = true })

-- one old stop less of the process at a place is to come
abbrev pub old_less : TrussState → ℕ → TrussState
old_less u place = with_traced u place (record (traced_at u place) { old = (traced_at u place).old - 1 })

-- an event of the process at a place is reported
abbrev pub shown_at : TrussState → ℕ → LwpStatus → Option (List ℕ × Bool) → TrussState
shown_at u place l text = with_report u (Shown (traced_at u place).pid l text)

-- a process is opened, which stands at this place
pub data Opens (place : ℕ) : Stage → ℕ → Stage → Type 0 where
  new_given : {pid : ℕ} → Opens place (OpeningControl pid) pid (Opening place opening.OpenStatus)
  new_child : {parent pid : ℕ}
      → Opens place (OpeningChildControl parent pid) pid (OpeningChild parent place child.SetRelease)

module _ (s : TrussState) (r : Reply) where
  abbrev pub shown_now : ℕ → LwpStatus → ℕ → TrussState
  shown_now place l len = shown_at s place l (text_of len (bytes_in r))

  -- ---- the rows of each kind

  -- nothing is to be done for a process any more
  pub data Settles : Stage → Bool → TrussState → Type 0 where
    interrupts_start : {program : List ℕ} → answer_of r ≡ Interrupted → Settles (Spawning program) false (leaving_now s)
    interrupts_control : {pid : ℕ} → answer_of r ≡ Interrupted → Settles (OpeningControl pid) false (leaving_now s)
    interrupts_poll : answer_of r ≡ Interrupted → Settles Polling false (leaving_now s)
    interrupts_status : {place : ℕ} → answer_of r ≡ Interrupted → Settles (ReadingStatus place) false (leaving_now s)
    interrupts_opening : {place : ℕ} {now : OpeningStep} → answer_of r ≡ Interrupted
        → Settles (Opening place now) false (leaving_now (seen_at s place))
    interrupts_text : {place : ℕ} {l : LwpStatus} {from len : ℕ} → answer_of r ≡ Interrupted → s.leaving ≡ false
        → Settles (ReadingText place l from len) false (leaving_now (seen_at (shown_now place l len) place))
    interrupts_child_control : {parent pid : ℕ} → answer_of r ≡ Interrupted
        → Settles (OpeningChildControl parent pid) false (leaving_now (seen_at s parent))
    interrupts_child : {parent place : ℕ} {now : ChildStep} → answer_of r ≡ Interrupted
        → Settles (OpeningChild parent place now) false (leaving_now (seen_at s parent))
    interrupts_run : {place : ℕ} → answer_of r ≡ Interrupted
        → Settles (Running place) false (leaving_now (seen_at s place))
    refuses_start : {program : List ℕ} (errno : Errno) → Refuses r errno
        → Settles (Spawning program) false (with_report s (CannotStart program errno))
    refuses_control : {pid : ℕ} (errno : Errno) → Refuses r errno
        → Settles (OpeningControl pid) true (with_report s (CannotTrace pid errno))
    ends_opening : {place : ℕ} {now : OpeningStep} → answer_of r ≡ Accepted → step_after s.options r now ≡ None
        → Settles (Opening place now) true (with_traced s place (learnt (traced_at s place) r now))
    ran : {place : ℕ} → Settles (Running place) false s
    closed_next : {place : ℕ} → without_last (traced_at s place) ≡ None
        → Settles (Closing place OpenNext) true (without_traced s place)
    closed : {place : ℕ} → without_last (traced_at s place) ≡ None
        → Settles (Closing place GoOn) false (without_traced s place)

  -- truss reads how the process at a place stands
  pub data Reads : Stage → ℕ → Option LwpStatus → Type 0 where
    reads_status : {place : ℕ} → answer_of r ≡ Accepted
        → Reads (ReadingStatus place) place (option_and_then status_lwp (bytes_in r))
    reads_none : {place : ℕ} → answer_of r ≢ Accepted → Reads (ReadingStatus place) place None
    reads_lwps : answer_of r ≡ Accepted → Reads ReadingLwps 0 (slice_get (event_stops (bytes_in r)) 0)

  -- a new event on which it stands
  pub record IsNew (place : ℕ) (l : LwpStatus) (e : Event) : Type 0 where
    pub stands : is_on_event l ≡ true
    pub none_old : nat_lt 0 (traced_at s place).old ≡ false
    pub unseen : (traced_at s place).seen ≡ false
    pub is : event_of l ≡ Some e

  -- what is read stands on no new event
  pub record Passes (stage : Stage) (place : ℕ) (l : Option LwpStatus) : Type 0 where
    pub reads : Reads stage place l
    pub none : (m : LwpStatus) (e : Event) → l ≡ Some m → IsNew place m e → ⊥

  -- a stop of the process at a place was looked at, with this child of its fork
  pub data Looks : Stage → ℕ → Option ℕ → TrussState → Type 0 where
    passes : {stage : Stage} {place : ℕ} {l : Option LwpStatus} → Passes stage place l → Looks stage place None s
    passes_old : {stage : Stage} {place : ℕ} {l : LwpStatus} → Reads stage place (Some l) → is_on_event l ≡ true
        → nat_lt 0 (traced_at s place).old ≡ true → Looks stage place None (old_less s place)
    passes_event : {stage : Stage} {place : ℕ} {l : LwpStatus} {e : Event} → Reads stage place (Some l)
        → IsNew place l e → is_selected s.options e ≡ false → Looks stage place (followed_child s.options l) s
    shows : {stage : Stage} {place : ℕ} {l : LwpStatus} {e : Event} → Reads stage place (Some l) → IsNew place l e
        → is_selected s.options e ≡ true → asked_range s.options e ≡ None
        → Looks stage place (followed_child s.options l) (shown_at s place l None)
    shows_text : {place : ℕ} {l : LwpStatus} {from len : ℕ}
        → Looks (ReadingText place l from len) place (followed_child s.options l) (shown_now place l len)

  -- the files of the process at a place are to be closed
  pub data Closes : Stage → ℕ → AfterClosing → TrussState → Type 0 where
    status_ended : {place : ℕ} → answer_of r ≡ Gone → Closes (ReadingStatus place) place GoOn s
    text_ended : {place : ℕ} {l : LwpStatus} {from len : ℕ} → answer_of r ≡ Gone
        → Closes (ReadingText place l from len) place GoOn (shown_now place l len)
    run_ended : {place : ℕ} → answer_of r ≡ Gone → Closes (Running place) place GoOn s
    left_ended : answer_of r ≡ Gone → Closes Unfollowing 0 GoOn s
    looked_last : answer_of r ≢ Accepted → Closes ReadingLwps 0 GoOn s
    freed_last : {pid control : ℕ} → Closes (FreeingChild pid (freeing.Close control)) 0 GoOn s
    freed_none : {pid : ℕ} → answer_of r ≡ Interrupted → Closes (FreeingChild pid freeing.OpenControl) 0 GoOn s
    refuses_free : {pid : ℕ} (errno : Errno) → Refuses r errno
        → Closes (FreeingChild pid freeing.OpenControl) 0 GoOn (with_report s (CannotTrace pid errno))
    refuses_opening : {place : ℕ} {now : OpeningStep} (errno : Errno) → Refuses r errno
        → Closes (Opening place now) place OpenNext (with_report s (CannotTrace (traced_at s place).pid errno))
    refuses_child : {parent place : ℕ} {now : ChildStep} (errno : Errno) → Refuses r errno
        → Closes (OpeningChild parent place now) place (RunParent parent)
        (with_report s (CannotTrace (traced_at s place).pid errno))
    child_ended : {parent place : ℕ} → answer_of r ≡ Gone
        → Closes (OpeningChild parent place child.Start) place (RunParent parent) s

  -- a step of an opening was done
  pub data Learns : Stage → ℕ → Traced → Stage → Type 0 where
    opening_goes : {place : ℕ} {now next : OpeningStep} → step_after s.options r now ≡ Some next
        → Learns (Opening place now) place (learnt (traced_at s place) r now) (Opening place next)
    child_goes : {parent place : ℕ} {now next : ChildStep} → child_step_after now ≡ Some next
        → Learns (OpeningChild parent place now) place (child_learnt (traced_at s place) r now)
        (OpeningChild parent place next)

  -- a parent whose child was opened, or was not, is run
  pub data Returns : Stage → ℕ → TrussState → Type 0 where
    refuses_child_control : {parent pid : ℕ} (errno : Errno) → Refuses r errno
        → Returns (OpeningChildControl parent pid) parent (with_report s (CannotTrace pid errno))
    child_runs : {parent place : ℕ} → answer_of r ≢ Gone → Returns (OpeningChild parent place child.Start) parent s
    child_closed : {parent place : ℕ} → without_last (traced_at s place) ≡ None
        → Returns (Closing place (RunParent parent)) parent (without_traced s place)

  -- another stage, and nothing else
  pub data Turns : Stage → Stage → Type 0 where
    starts : {program : List ℕ} → answer_of r ≡ Accepted → Turns (Spawning program) (OpeningControl (pid_in r))
    polls_again : Turns Polling Polling
    is_named : {place : ℕ}
        → option_and_then (λ handle. position (has_control handle) s.traced) (ready_in r) ≡ Some place
        → Turns Polling (ReadingStatus place)
    unfollowed : Turns Unfollowing ReadingLwps
    frees : {pid : ℕ} → answer_of r ≡ Accepted
        → Turns (FreeingChild pid freeing.OpenControl) (FreeingChild pid (freeing.SetRelease (handle_in r)))
    frees_on : {pid control : ℕ}
        → Turns (FreeingChild pid (freeing.SetRelease control)) (FreeingChild pid (freeing.Close control))
    has_finished : Turns Finished Finished

  -- ---- the kinds

  pub data ReplyStep : Stage → TrussState → Type 0 where
    settles : {stage : Stage} {given : Bool} {u v : TrussState} → Settles stage given u → GoesOn u given v
        → ReplyStep stage v
    looks : {stage : Stage} {place : ℕ} {pid : Option ℕ} {u v : TrussState} → Looks stage place pid u
        → StopOver u place pid v → ReplyStep stage v
    asks : {stage : Stage} {place : ℕ} {l : LwpStatus} {e : Event} {range : ℕ × ℕ} → Reads stage place (Some l)
        → IsNew place l e → is_selected s.options e ≡ true → asked_range s.options e ≡ Some range
        → ReplyStep stage (with_stage s (ReadingText place l range.0 range.1))
    closes : {stage : Stage} {place : ℕ} {next : AfterClosing} {u : TrussState} → Closes stage place next u
        → ReplyStep stage (with_stage u (Closing place next))
    loses : {place : ℕ} {next : AfterClosing} {t : Traced} → without_last (traced_at s place) ≡ Some t
        → ReplyStep (Closing place next) (with_stage (with_traced s place t) (Closing place next))
    opens : {stage next : Stage} {pid : ℕ} → answer_of r ≡ Accepted → Opens (length s.traced) stage pid next
        → ReplyStep stage (with_stage (with_opened s (newly_traced pid (handle_in r))) next)
    learns : {stage next : Stage} {place : ℕ} {t : Traced} → answer_of r ≡ Accepted → Learns stage place t next
        → ReplyStep stage (with_stage (with_traced s place t) next)
    returns : {stage : Stage} {parent : ℕ} {u : TrussState} → Returns stage parent u
        → ReplyStep stage (with_stage u (Running parent))
    turns : {stage next : Stage} → Turns stage next → ReplyStep stage (with_stage s next)

-- ---- a process that has lost a file

pub record IsSame (t u : Traced) : Type 0 where
  pub pid : u.pid ≡ t.pid
  pub attached : u.attached ≡ t.attached
  pub old : u.old ≡ t.old
  pub seen : u.seen ≡ t.seen

files-same : (t : Traced) (m l s : Option ℕ) → IsSame t (record t { memory = m; lstatus = l; status = s })
files-same t m l s = record { pid = refl; attached = refl; old = refl; seen = refl }

pub lost-same : (t u : Traced) → without_last t ≡ Some u → IsSame t u
unfolding without_last
lost-same t u = by_last (λ v. without_last v ≡ Some u → IsSame v u) t
    (λ h l s is. subst (IsSame _) (same_Some _ u is) (files-same _ None l s))
    (λ h s is. subst (IsSame _) (same_Some _ u is) (files-same _ None None s))
    (λ h is. subst (IsSame _) (same_Some _ u is) (files-same _ None None None))
    (λ is. absurd (none-some u is))
