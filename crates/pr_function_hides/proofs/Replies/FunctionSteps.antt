use Rattle.std.proofs.Common.{◌≡◌, ◌≢◌, ◌<◌, ◌+◌, ◌-◌, ◌++◌, ℕ, Bool, true, false, cond, nat_lt, not, Option, Some, None, List, [], ◌∷◌, length, position, refl, sym, subst, ap, ◌∙◌, arith}
use Rattle.std.proofs.lemmas.Bool.{eqb-true, false≢true}
use Rattle.std.proofs.lemmas.List.{length-append, length-set, set-get_or}
use Rattle.std.specs.List.{remove, slice_set}
use Rattle.std.specs.Option.{option_and_then}
use Rattle.pr_line.specs.Events.{event_of}
use Rattle.pr_line.specs.Selections.{is_selected}
use Rattle.pr_line.specs.declared.events.Event.{Event}
use Rattle.pr_line.specs.declared.options.Options.{Options}
use Rattle.pr_model.specs.Replies.{bytes_in, handle_in}
use Rattle.pr_model.specs.declared.calls.Reply.{Reply}
use Rattle.pr_num.proofs.TableLemmas.{position-within}
use Rattle.pr_num.specs.declared.errnos.Errno.{Errno}
use Rattle.pr_rec.specs.declared.lwps.LwpStatus.{LwpStatus}
use Rattle.pr_report_laws.proofs.Replies.OpeningParts.{learnt-pid}
use Rattle.pr_truss.specs.Asides.{marks_at, patching, with_aside, with_lifts, with_marks, with_patches}
use Rattle.pr_truss.specs.Closings.{after_closing, closed_or_removed, with_closed, with_closing, with_going_on, with_next_opening}
use Rattle.pr_truss.specs.Feeding.{fed, with_reply}
use Rattle.pr_truss.specs.FunctionEvents.{fresh_event, function_event}
use Rattle.pr_truss.specs.FunctionFeeding.{after_first, after_patch, fed_functions, is_to_plant, with_aside_answered, with_code_answered, with_code_read, with_function_reply, with_function_step_answered, with_functions_begun, with_next_function, with_patch_answered, with_pending_told, with_plant_answered, with_refused_opening}
use Rattle.pr_truss.specs.FunctionStops.{after_function_text, with_call_shown, with_copy_begun, with_copy_ended, with_fresh_event, with_function_event, with_function_run_answered, with_function_status_answered, with_function_stop, with_function_stop_read, with_function_text_answered, with_memory_replaced, with_other_event, with_step_begun, with_step_completed, with_trap_over}
use Rattle.pr_truss.specs.Marks.{first_function, has_functions, no_functions, put_back, with_function, with_step, without_function}
use Rattle.pr_truss.specs.Openings.{at_step, learnt, pid_in, step_after, with_control, with_control_answered, with_refused_control, with_refused_start, with_refused_step, with_start_answered, with_step_done}
use Rattle.pr_truss.specs.Processes.{newly_traced, without_last}
use Rattle.pr_truss.specs.Records.{child_of, is_on_event, status_lwp}
use Rattle.pr_truss.specs.Replies.{answer_of, ready_in}
use Rattle.pr_truss.specs.Reports.{all_reports}
use Rattle.pr_truss.specs.Stops.{after_text, asked_range, followed_child, has_control, text_of, with_child_or, with_event, with_event_over, with_event_shown, with_old_stop_over, with_poll_answered, with_polled, with_run_answered, with_status_answered, with_stop, with_stop_over, with_text_answered, with_text_or_shown}
use Rattle.pr_truss.specs.Trusses.{TrussState, nobody, traced_at, with_report, with_stage, with_traced, without_traced}
use Rattle.pr_truss.specs.declared.asides.Aside.{Aside}
use Rattle.pr_truss.specs.declared.asides.Aside.TheVariants.{Nothing, Reading, Planting, Patching}
use Rattle.pr_truss.specs.declared.function_events.FunctionEvent.{FunctionEvent}
use Rattle.pr_truss.specs.declared.function_events.FunctionEvent.TheVariants.{AfterCopy, AtBreakpoint, BeforeCopy, Completed, Other, Replaced, TraceTrap}
use Rattle.pr_truss.specs.declared.marks.Marks.{Marks}
use Rattle.pr_truss.specs.declared.processes.Traced.{Traced}
use Rattle.pr_truss.specs.declared.replies.Answer.{Answer}
use Rattle.pr_truss.specs.declared.replies.Answer.TheVariants.{Accepted, Gone, Interrupted, Refused}
use Rattle.pr_truss.specs.declared.reports.Report.{Report}
use Rattle.pr_truss.specs.declared.stages.AfterClosing.{AfterClosing}
use Rattle.pr_truss.specs.declared.stages.AfterClosing.TheVariants.{GoOn, OpenNext, RunParent}
use Rattle.pr_truss.specs.declared.stages.OpeningStep.{OpeningStep}
use Rattle.pr_truss.specs.declared.stages.OpeningStep.TheVariants as opening
use Rattle.pr_truss.specs.declared.stages.Stage.{Stage}
use Rattle.pr_truss.specs.declared.stages.Stage.TheVariants.{Spawning, OpeningControl, Opening, Polling, ReadingStatus, ReadingText, Running, Closing, Finished}
use Rattle.pr_truss_laws.proofs.Files.HeldLemmas.{at_place, set-at}
use Rattle.pr_truss_laws.proofs.Replies.FedSteps.{by_test, goes-on, opens-next}
use Rattle.pr_truss_laws.proofs.Replies.ReplySteps as row
use Rattle.pr_truss_laws.proofs.Replies.ReplySteps.{GoesOn, lost-same}
use Rattle.pr_function_laws.proofs.CallTurns.TurnReads.{fresh-new}
use Rattle.pr_function_laws.proofs.Marks.MarkWalk.{marks_then, planted_after}
use Rattle.pr_function_hides.proofs.Replies.OwnFiles.{IsBeside, IsWithin}

-- What a reply makes of a truss with functions that does not leave its processes, follows no children and was not
-- interrupted, as data: of its processes one is another then, one more is traced, one is closed, or all stay; and
-- something comes before its next call. A law of replies goes over these kinds.

-- ---- where truss is then

-- It traces these processes, this comes before its next call, and it is at a stage of one of them, or of none.
pub record Stands (o : Options) (us : List Traced) (b : Aside) (v : TrussState) : Type 0 where
  pub options : v.options ≡ o
  pub off : v.leaving ≡ false
  pub traced : v.traced ≡ us
  pub aside : v.aside ≡ b
  pub stage : IsWithin (length us) v.stage

-- with what it has, at another stage
abbrev pub Next : TrussState → TrussState → Type 0
Next u v = Stands u.options u.traced u.aside v

beside : {o : Options} {us : List Traced} {b : Aside} {v : TrussState} (c : Aside) → Stands o us b v
    → Stands o us c (with_aside v c)
beside c s = record { options = s.options; off = s.off; traced = s.traced; aside = refl; stage = s.stage }

module _ (u : TrussState) (off : u.leaving ≡ false) (follow : u.options.follow ≡ false) where
  staged : (stage : Stage) → IsWithin (length u.traced) stage → Next u (with_stage u stage)
  staged stage within = record { options = refl; off = off; traced = refl; aside = refl; stage = within }

  pub over : (q : ℕ) → q < length u.traced → Next u (with_stop_over u q)
  unfolding with_stop_over
  over q within =
      by_test (Next u) u.leaving _ _ (λ leaves. staged (Closing q GoOn) within) (λ stays. staged (Running q) within)

  event-over : (q : ℕ) (l : LwpStatus) → q < length u.traced → Next u (with_event_over u q l)
  unfolding with_event_over followed_child
  event-over q l within =
      subst (Next u) (sym (ap (λ f. with_child_or u q (cond f (child_of l) None)) follow)) (over q within)

  on : {given : Bool} {v : TrussState} → GoesOn u given v → Next u v
  on (row.finishes _) = staged Finished tt
  on (row.polls _ _) = staged Polling tt
  on (row.unfollows leaves _ _) = absurd (false≢true (sym off ∙ leaves))
  on (row.closes_first leaves _ _) = absurd (false≢true (sym off ∙ leaves))
  on (row.opens_next _) = record { options = refl; off = off; traced = refl; aside = refl; stage = tt }

  going : Next u (with_going_on u)
  going = on (goes-on u false)

  opening-next : Next u (with_next_opening u)
  opening-next = on (opens-next u)

-- a stop of a process stood before truss came, or is over or looked at
pub stop : (P : TrussState → Type 0) (u : TrussState) (off : u.leaving ≡ false) (follow : u.options.follow ≡ false)
    (q : ℕ) (l : LwpStatus) → q < length u.traced → ((v : TrussState) → Next u v → P v)
    → (nat_lt 0 (traced_at u q).old ≡ true → P (with_old_stop_over u q)) → P (with_stop u q l)
unfolding with_stop with_event_shown
stop P u off follow q l within all old =
    by_test P (not (is_on_event l)) _ _ (λ none. passed) (λ on.
    by_test P (nat_lt 0 (traced_at u q).old) _ _ old (λ none.
    by_test P (traced_at u q).seen _ _ (λ seen. passed) (λ unseen. event (event_of l))))
  where
    passed : P (with_stop_over u q)
    passed = all _ (over u off follow q within)

    shown : (range : Option (ℕ × ℕ)) → P (with_text_or_shown u q l range)
    shown None = all _ (event-over (with_event_shown u q l None) off follow q l within)
    shown (Some range) = all _ (staged u off follow (ReadingText q l range.0 range.1) within)

    event : (e : Option Event) → P (with_event u q l e)
    event None = passed
    event (Some e) =
        by_test P (is_selected u.options e) _ _ (λ on. shown (asked_range u.options e))
        (λ none. all _ (event-over u off follow q l within))

-- ---- the kinds

-- the process at a place with these marks, and with these breakpoints planted
abbrev pub marked : TrussState → ℕ → Marks → Traced
marked t q m = record (traced_at t q) { marks = m }

abbrev pub replanted : TrussState → ℕ → List Bool → Traced
replanted t q set = marked t q (record (marks_at t q) { planted = set })

-- it is traced still
abbrev pub IsThere : TrussState → List Traced → ℕ → Type 0
IsThere t us q = (q < length us) × ((at_place us q).pid ≡ (traced_at t q).pid)

-- all processes may stay as they are
abbrev pub Keeps : Aside → Stage → Type 0
Keeps Nothing (Running q) = ⊥
Keeps Nothing (Closing q next) = ⊥
Keeps (Planting q i) stage = ⊥
Keeps (Patching q plants lifts clear) stage = ⊥
Keeps aside stage = Unit {0}

module _ (t : TrussState) (r : Reply) where
  -- the status that the reply tells stands on a new event of this kind
  pub record Tells (q : ℕ) (l : LwpStatus) (e : Event) (kind : FunctionEvent) : Type 0 where
    pub accepted : answer_of r ≡ Accepted
    pub told : option_and_then status_lwp (bytes_in r) ≡ Some l
    pub fresh : fresh_event (traced_at t q) l ≡ Some e
    pub is : function_event t.options (marks_at t q) l.id e ≡ kind

  -- the process at a place is another one
  pub data Becomes : Aside → Stage → ℕ → Traced → Type 0 where
    learns : {q : ℕ} {step : OpeningStep} → answer_of r ≡ Accepted
        → Becomes Nothing (Opening q step) q (learnt (traced_at t q) r step)
    counts : {q : ℕ} → Becomes Nothing (ReadingStatus q) q (record (traced_at t q) { old = (traced_at t q).old - 1 })
    meets : {q : ℕ} {l : LwpStatus} {e : Event} {kind : FunctionEvent} → Tells q l e kind
        → Becomes Nothing (ReadingStatus q) q (marked t q (marks_then (marks_at t q) l kind))
    runs : {q : ℕ} → Becomes Nothing (Running q) q (marked t q (record (marks_at t q) { flags = 0 }))
    loses : {q : ℕ} {next : AfterClosing} {u : Traced} → without_last (traced_at t q) ≡ Some u
        → Becomes Nothing (Closing q next) q u
    plants_first : {q i : ℕ} {stage : Stage} {set : List Bool}
        → planted_after (marks_at t q).planted (answer_of r) (Some i) None ≡ set
        → Becomes (Planting q i) stage q (replanted t q set)
    patches_one : {q : ℕ} {plants lifts : List Bool} {clear : Bool} {stage : Stage} {set : List Bool}
        → planted_after (marks_at t q).planted (answer_of r) (first_function plants) (first_function lifts) ≡ set
        → Becomes (Patching q plants lifts clear) stage q (replanted t q set)

  -- its processes
  pub data Edits : Aside → Stage → List Traced → Type 0 where
    keeps : {aside : Aside} {stage : Stage} → Keeps aside stage → Edits aside stage t.traced
    becomes : {aside : Aside} {stage : Stage} {q : ℕ} {u : Traced} → q < length t.traced → Becomes aside stage q u
        → Edits aside stage (slice_set t.traced q u)
    opens : {pid : ℕ} → answer_of r ≡ Accepted
        → Edits Nothing (OpeningControl pid) (t.traced ++ newly_traced pid (handle_in r) ∷ [])
    removes : {q : ℕ} {next : AfterClosing} → q < length t.traced → without_last (traced_at t q) ≡ None
        → Edits Nothing (Closing q next) (remove t.traced q)

  -- the functions that are planted and lifted next in the process at a place
  pub data Patches : Aside → Stage → ℕ → List Bool → List Bool → Type 0 where
    breaks : {q i : ℕ} {l : LwpStatus} {e : Event} → Tells q l e (AtBreakpoint i)
        → Patches Nothing (ReadingStatus q) q (put_back (marks_at t q)) (with_function no_functions i)
    ends_step : {q : ℕ} → Patches Nothing (ReadingStatus q) q (put_back (marks_at t q)) no_functions
    begins_copy : {q : ℕ} → Patches Nothing (ReadingStatus q) q no_functions (marks_at t q).planted
    ends_copy : {q : ℕ}
        → Patches Nothing (ReadingStatus q) q (with_step (marks_at t q).stepped (marks_at t q).lifted) no_functions
    refuses : {q : ℕ} {step : OpeningStep} → Patches Nothing (Opening q step) q no_functions (marks_at t q).planted
    refuses_read : {q i : ℕ} {stage : Stage} → Patches (Reading q i) stage q no_functions (marks_at t q).planted
    refuses_write : {q i : ℕ} {stage : Stage} → Patches (Planting q i) stage q no_functions (marks_at t q).planted
    plants_on : {q : ℕ} {plants lifts : List Bool} {clear : Bool} {stage : Stage} (i : ℕ)
        → Patches (Patching q plants lifts clear) stage q (without_function plants i) lifts
    lifts_on : {q : ℕ} {plants lifts : List Bool} {clear : Bool} {stage : Stage} (i : ℕ)
        → Patches (Patching q plants lifts clear) stage q plants (without_function lifts i)

  -- what comes before its next call
  pub data Before : Aside → Stage → List Traced → Aside → Type 0 where
    nothing : {aside : Aside} {stage : Stage} {us : List Traced} → Before aside stage us Nothing
    reads : {aside : Aside} {stage : Stage} {us : List Traced} {q i : ℕ} → IsThere t us q
        → Before aside stage us (Reading q i)
    writes : {stage : Stage} {us : List Traced} {q i : ℕ} → IsThere t us q → answer_of r ≡ Accepted
        → is_to_plant t.options i (bytes_in r) ≡ true → Before (Reading q i) stage us (Planting q i)
    patches_next : {aside : Aside} {stage : Stage} {us : List Traced} {q : ℕ} {plants lifts : List Bool} (clear : Bool)
        → IsThere t us q → Patches aside stage q plants lifts → Before aside stage us (patching q plants lifts clear)

  pub data Makes (aside : Aside) (stage : Stage) : TrussState → Type 0 where
    makes : {us : List Traced} {b : Aside} {v : TrussState} → Edits aside stage us → Before aside stage us b
        → Stands t.options us b v → Makes aside stage v

  pub become-pid : (aside : Aside) (stage : Stage) (p : ℕ) (u : Traced) → Becomes aside stage p u
      → u.pid ≡ (traced_at t p).pid
  become-pid aside stage p u (learns {q = q} {step = step} _) = learnt-pid (traced_at t q) r step
  become-pid aside stage p u (loses {q = q} is) = let same = lost-same (traced_at t q) u is in same.pid
  become-pid aside stage p u _ = refl

-- ---- each reply makes one of them

module _ (t : TrussState) (r : Reply) (off : t.leaving ≡ false) (follow : t.options.follow ≡ false)
    (at_stage : IsWithin (length t.traced) t.stage) (at_aside : IsBeside (length t.traced) t.aside)
    (calm : answer_of r ≢ Interrupted) where
  here : {q : ℕ} → q < length t.traced → IsThere t t.traced q
  here within = (within, refl)

  set-within : (q : ℕ) (u : Traced) → q < length t.traced → q < length (slice_set t.traced q u)
  set-within q u within = omega (arith, within, length-set t.traced q u)

  set-there : (q : ℕ) (u : Traced) → q < length t.traced → u.pid ≡ (traced_at t q).pid
      → IsThere t (slice_set t.traced q u) q
  set-there q u within same =
      (set-within q u within, ap (λ (x : Traced). x.pid) (set-at t.traced q u within) ∙ same)

  -- truss does not leave
  stays : (P : TrussState → Type 0) (u v : TrussState) → P v → P (cond t.leaving u v)
  stays P u v it = by_test P t.leaving u v (λ leaves. absurd (false≢true (sym off ∙ leaves))) (λ none. it)

  -- the stage stays
  set-stage : (q : ℕ) (u : Traced) → IsWithin (length (slice_set t.traced q u)) t.stage
  set-stage q u = subst (λ n. IsWithin n t.stage) (sym (length-set t.traced q u)) at_stage

  -- the next function is looked at, or the opening goes on
  looks-on : {aside : Aside} {stage : Stage} {us : List Traced} {b : Aside} (v : TrussState) (q i : ℕ)
      → Edits t r aside stage us → IsThere t us q → Stands t.options us b v
      → Makes t r aside stage (with_next_function v q i)
  unfolding with_next_function
  looks-on {aside} {stage} v q i edits there s =
      by_test (Makes t r aside stage) (nat_lt i (length v.options.functions)) _ _
      (λ more. makes edits (reads there) (beside (Reading q i) s)) (λ none. makes edits nothing (beside Nothing s))

  -- an opening is refused, and what was planted is lifted
  refused : {aside : Aside} {stage : Stage} (b : Aside) (q : ℕ) (errno : Errno) → q < length t.traced
      → Edits t r aside stage t.traced → Patches t r aside stage q no_functions (marks_at t q).planted
      → Makes t r aside stage (with_refused_opening (with_aside t b) q errno)
  unfolding with_refused_opening with_refused_step with_lifts
  refused b q errno within edits lifts =
      makes edits (patches_next false (here within) lifts)
      (beside _ (staged (with_report (with_aside t b) _) off follow (Closing q OpenNext) within))

  module _ (idle : t.aside ≡ Nothing) where
    abbrev To : Stage → TrussState → Type 0
    To stage v = Makes t r Nothing stage v

    bare : {us : List Traced} {v : TrussState} → Stands t.options us t.aside v → Stands t.options us Nothing v
    bare {us} {v} s = subst (λ b. Stands t.options us b v) idle s

    keep : {stage : Stage} {v : TrussState} → Keeps Nothing stage → Next t v → To stage v
    keep fits s = makes (keeps fits) nothing (bare s)

    same : {stage : Stage} → Keeps Nothing stage → To stage t
    same fits = keep fits (record { options = refl; off = off; traced = refl; aside = refl; stage = at_stage })

    start-made : (program : List ℕ) (a : Answer) → answer_of r ≡ a
        → To (Spawning program) (with_start_answered t program r a)
    unfolding with_start_answered with_refused_start
    start-made program Accepted is = keep tt (staged t off follow (OpeningControl (pid_in r)) tt)
    start-made program Interrupted is = absurd (calm is)
    start-made program _ is = keep tt (going (with_report t _) off follow)

    control-made : (pid : ℕ) (a : Answer) → answer_of r ≡ a
        → To (OpeningControl pid) (with_control_answered t pid r a)
    unfolding with_control_answered with_refused_control with_control
    control-made pid Accepted is =
        let new : Traced = newly_traced pid (handle_in r) in
        makes (opens is) nothing (bare (record {
          options = refl;
          off = off;
          traced = refl;
          aside = refl;
          stage = omega (arith, length-append t.traced (new ∷ []));
        }))
    control-made pid Interrupted is = absurd (calm is)
    control-made pid _ is = keep tt (opening-next (with_report t _) off follow)

    step-made : (q : ℕ) → q < length t.traced → (step : OpeningStep) (a : Answer) → answer_of r ≡ a
        → To (Opening q step) (with_function_step_answered t q step r a)
    unfolding with_function_step_answered with_step_done with_refused_step
    step-made q within step Accepted is = begun step (at (step_after t.options r step))
      where
        u : TrussState
        u = with_traced t q (learnt (traced_at t q) r step)

        there : IsThere t u.traced q
        there = set-there q _ within (learnt-pid (traced_at t q) r step)

        at : (next : Option OpeningStep) → Next u (at_step u q next)
        at None = opening-next u off follow
        at (Some next) = staged u off follow (Opening q next) there.0

        begun : {v : TrussState} (s : OpeningStep) → Next u v → To (Opening q step) (with_functions_begun v q s)
        begun {v} opening.TraceExits n = looks-on v q 0 (becomes within (learns is)) there (bare n)
        begun _ n = makes (becomes within (learns is)) nothing (bare n)
    step-made q within step (Refused errno) is = refused t.aside q errno within (keeps tt) refuses
    step-made q within step Gone is = keep tt (staged (with_report t _) off follow (Closing q OpenNext) within)
    step-made q within step Interrupted is = absurd (calm is)

    poll-made : (a : Answer) → answer_of r ≡ a → To Polling (with_poll_answered t r a)
    unfolding with_poll_answered
    poll-made Accepted is = by (ready_in r)
      where
        at : (h : ℕ) (place : Option ℕ) → position (has_control h) t.traced ≡ place → To Polling (with_polled t place)
        at h None none = same tt
        at h (Some q) some =
            keep tt (staged t off follow (ReadingStatus q) (position-within (has_control h) t.traced q some))

        by : (handle : Option ℕ)
            → To Polling (with_polled t (option_and_then (λ h. position (has_control h) t.traced) handle))
        by None = same tt
        by (Some h) = at h (position (has_control h) t.traced) refl
    poll-made Interrupted is = absurd (calm is)
    poll-made _ is = same tt

    module _ (q : ℕ) (within : q < length t.traced) where
      abbrev with_these : Marks → TrussState
      with_these m = with_marks t q m

      these : (m : Marks) → IsThere t (with_these m).traced q
      these m = set-there q (marked t q m) within refl

      -- a new event
      module _ (l : LwpStatus) (e : Event) (new : (traced_at t q).old ≡ 0) where
        over-these : (m : Marks) → Next (with_these m) (with_stop_over (with_these m) q)
        over-these m = over (with_these m) off follow q (set-within q _ within)

        stop-these : (m : Marks) → Next (with_these m) (with_stop (with_these m) q l)
        stop-these m =
            stop (Next (with_these m)) (with_these m) off follow q l (set-within q _ within) (λ v n. n)
            (λ some. absurd (false≢true
            (ap (nat_lt 0) (sym (ap (λ (x : Traced). x.old) (set-at t.traced q (marked t q m) within) ∙ new)) ∙ some)))

        met : {kind : FunctionEvent} {v : TrussState} → Tells t r q l e kind
            → Next (with_these (marks_then (marks_at t q) l kind)) v → To (ReadingStatus q) v
        met tells n = makes (becomes within (meets tells)) nothing (bare n)

        patched : {kind : FunctionEvent} {v : TrussState} {plants lifts : List Bool} → Tells t r q l e kind
            → Patches t r Nothing (ReadingStatus q) q plants lifts
            → Next (with_these (marks_then (marks_at t q) l kind)) v
            → To (ReadingStatus q) (with_aside v (patching q plants lifts false))
        patched tells next n = makes (becomes within (meets tells)) (patches_next false (these _) next) (beside _ n)

        event-made : (kind : FunctionEvent) → Tells t r q l e kind
            → To (ReadingStatus q) (with_function_event t q l kind)
        unfolding with_function_event with_step_begun with_step_completed with_trap_over with_copy_begun
            with_copy_ended with_other_event with_memory_replaced with_call_shown with_patches
        event-made (AtBreakpoint i) tells = patched tells (breaks tells) (over-these _)
        event-made (Completed step) tells =
            patched tells ends_step (over (with_report (with_these _) _) off follow q (set-within q _ within))
        event-made TraceTrap tells = met tells (over-these _)
        event-made BeforeCopy tells = patched tells begins_copy (stop-these _)
        event-made AfterCopy tells = patched tells ends_copy (stop-these _)
        event-made Replaced tells = met tells (stop-these _)
        event-made Other tells = patched tells ends_step (stop-these _)

      fresh-made : (l : LwpStatus) → answer_of r ≡ Accepted → option_and_then status_lwp (bytes_in r) ≡ Some l
          → (e : Option Event) → fresh_event (traced_at t q) l ≡ e → To (ReadingStatus q) (with_fresh_event t q l e)
      unfolding with_old_stop_over
      fresh-made l accepted told None none =
          stays (To (ReadingStatus q)) _ _ (stop (To (ReadingStatus q)) t off follow q l within (λ v n. keep tt n)
          (λ some. makes (becomes within counts) nothing
          (bare (over (with_traced t q _) off follow q (set-within q _ within)))))
      fresh-made l accepted told (Some e) fresh =
          let new = fresh-new (traced_at t q) l e fresh in
          stays (To (ReadingStatus q)) _ _ (event-made l e (eqb-true (traced_at t q).old 0 new.new) _
          (record { accepted = accepted; told = told; fresh = fresh; is = refl }))

      read-made : answer_of r ≡ Accepted → (l : Option LwpStatus) → option_and_then status_lwp (bytes_in r) ≡ l
          → To (ReadingStatus q) (with_function_stop_read t q l)
      unfolding with_function_stop
      read-made accepted None told = stays (To (ReadingStatus q)) _ _ (keep tt (over t off follow q within))
      read-made accepted (Some l) told = fresh-made l accepted told (fresh_event (traced_at t q) l) refl

      status-made : (a : Answer) → answer_of r ≡ a → To (ReadingStatus q) (with_function_status_answered t q r a)
      unfolding with_function_status_answered with_status_answered
      status-made Accepted is = read-made is (option_and_then status_lwp (bytes_in r)) refl
      status-made (Refused errno) is = keep tt (over t off follow q within)
      status-made Gone is = keep tt (staged t off follow (Closing q GoOn) within)
      status-made Interrupted is = absurd (calm is)

      text-made : (l : LwpStatus) (from len : ℕ) (a : Answer) → answer_of r ≡ a
          → To (ReadingText q l from len)
          (after_function_text t (after_text (with_event_shown t q l (text_of len (bytes_in r))) q l a) q a)
      unfolding after_text with_event_shown
      text-made l from len Gone is = keep tt (staged (with_report t _) off follow (Closing q GoOn) within)
      text-made l from len Interrupted is = absurd (calm is)
      text-made l from len _ is =
          stays (To (ReadingText q l from len)) _ _ (keep tt (event-over (with_report t _) off follow q l within))

      ran : {v : TrussState} → Next (with_these (record (marks_at t q) { flags = 0 })) v → To (Running q) v
      ran n = makes (becomes within runs) nothing (bare n)

      run-made : (a : Answer) → answer_of r ≡ a → To (Running q) (with_function_run_answered t q a)
      unfolding with_function_run_answered with_run_answered
      run-made Gone is = ran (staged (with_these _) off follow (Closing q GoOn) (set-within q _ within))
      run-made Interrupted is = absurd (calm is)
      run-made _ is = ran (going (with_these _) off follow)

      closed-made : (next : AfterClosing) → IsWithin (length t.traced) (Closing q next) → (left : Option Traced)
          → without_last (traced_at t q) ≡ left → To (Closing q next) (closed_or_removed t q next left)
      unfolding after_closing
      closed-made next w (Some u) is = makes (becomes within (loses is)) nothing
          (bare (record { options = refl; off = off; traced = refl; aside = refl; stage = set-stage q u }))
      closed-made OpenNext w None is =
          makes (removes within is) nothing (bare (opening-next (without_traced t q) off follow))
      closed-made GoOn w None is = makes (removes within is) nothing (bare (going (without_traced t q) off follow))
      closed-made (RunParent parent) w None is = absurd w

    stage-made : (stage : Stage) → IsWithin (length t.traced) stage → To stage (with_function_reply t r stage)
    unfolding with_function_reply with_reply with_function_text_answered with_text_answered with_closed
    stage-made (Spawning program) w = start-made program (answer_of r) refl
    stage-made (OpeningControl pid) w = control-made pid (answer_of r) refl
    stage-made (Opening q step) w = step-made q w step (answer_of r) refl
    stage-made Polling w = poll-made (answer_of r) refl
    stage-made (ReadingStatus q) w = status-made q w (answer_of r) refl
    stage-made (ReadingText q l from len) w = text-made q w l from len (answer_of r) refl
    stage-made (Running q) w = run-made q w (answer_of r) refl
    stage-made (Closing q OpenNext) w = closed-made q w OpenNext w (without_last (traced_at t q)) refl
    stage-made (Closing q GoOn) w = closed-made q w GoOn w (without_last (traced_at t q)) refl
    stage-made Finished w = same tt
    stage-made _ w = absurd w

  -- ---- what comes before the call of a stage

  abbrev idle_now : TrussState
  idle_now = with_aside t Nothing

  idle_stands : Stands t.options t.traced Nothing idle_now
  idle_stands = record { options = refl; off = off; traced = refl; aside = refl; stage = at_stage }

  module _ (stage : Stage) (q : ℕ) (within : q < length t.traced) where
    abbrev with_set : List Bool → TrussState
    with_set set = with_marks idle_now q (record (marks_at t q) { planted = set })

    set-there-so : (set : List Bool) → IsThere t (with_set set).traced q
    set-there-so set = set-there q (replanted t q set) within refl

    set-stands : (set : List Bool) → Stands t.options (with_set set).traced Nothing (with_set set)
    set-stands set =
        record { options = refl; off = off; traced = refl; aside = refl; stage = set-stage q (replanted t q set) }

    -- the breakpoints stay as they are
    unset : {aside : Aside} → Becomes t r aside stage q (traced_at t q) → Edits t r aside stage t.traced
    unset {aside} it = subst (Edits t r aside stage) (set-get_or t.traced q nobody) (becomes within it)

    code-made : (i : ℕ) (a : Answer) → answer_of r ≡ a
        → Makes t r (Reading q i) stage (with_code_answered idle_now q i r a)
    unfolding with_code_answered with_code_read with_refused_step
    code-made i Accepted is = by_test (Makes t r (Reading q i) stage) (is_to_plant t.options i (bytes_in r)) _ _
        (λ found. makes (keeps tt) (writes (here within) is found) (beside (Planting q i) idle_stands))
        (λ none. looks-on idle_now q (i + 1) (keeps tt) (here within) idle_stands)
    code-made i (Refused errno) is = refused Nothing q errno within (keeps tt) refuses_read
    code-made i Gone is =
        makes (keeps tt) nothing (staged (with_report idle_now _) off follow (Closing q OpenNext) within)
    code-made i Interrupted is = absurd (calm is)

    plant-made : (i : ℕ) (a : Answer) → answer_of r ≡ a
        → Makes t r (Planting q i) stage (with_plant_answered idle_now q i a)
    unfolding with_plant_answered with_refused_step
    plant-made i a is = by a is (ap (λ b. planted_after (marks_at t q).planted b (Some i) None) is)
      where
        by : (a : Answer) → answer_of r ≡ a
            → planted_after (marks_at t q).planted (answer_of r) (Some i) None
            ≡ planted_after (marks_at t q).planted a (Some i) None
            → Makes t r (Planting q i) stage (with_plant_answered idle_now q i a)
        by Accepted is set =
            looks-on (with_set _) q (i + 1) (becomes within (plants_first set)) (set-there-so _) (set-stands _)
        by (Refused errno) is set = refused Nothing q errno within (unset (plants_first set)) refuses_write
        by Gone is set =
            makes (unset (plants_first set)) nothing
            (staged (with_report idle_now _) off follow (Closing q OpenNext) within)
        by Interrupted is set = absurd (calm is)

    -- what is left to do goes on
    after-made : {aside : Aside} {us : List Traced} (u : TrussState) (rest : Aside) (at : Stage) (a : Answer)
        → answer_of r ≡ a → q < length us → Edits t r aside stage us → Before t r aside stage us rest
        → Stands t.options us Nothing u → Makes t r aside stage (after_patch u rest q at a)
    unfolding after_patch with_pending_told
    after-made {aside} u rest at a is inside edits before s = by at a is
      where
        goes : Makes t r aside stage (with_aside u rest)
        goes = makes edits before (beside rest s)

        closes : (reports : List Report)
            → Makes t r aside stage (with_closing (record u { reports = reports }) q)
        closes reports = makes edits nothing
            (record { options = s.options; off = s.off; traced = s.traced; aside = s.aside; stage = inside })

        by : (at : Stage) (a : Answer) → answer_of r ≡ a → Makes t r aside stage (after_patch u rest q at a)
        by (Closing c OpenNext) a is = goes
        by (Closing c GoOn) Gone is = closes u.reports
        by (Closing c GoOn) a is = goes
        by (Closing c (RunParent parent)) Gone is = closes u.reports
        by (Closing c (RunParent parent)) a is = goes
        by at Gone is = closes (all_reports u)
        by at Interrupted is = absurd (calm is)
        by at _ is = goes

    module _ (plants lifts : List Bool) (clear : Bool) where
      abbrev now : Aside
      now = Patching q plants lifts clear

      -- the breakpoints that the reply leaves planted
      abbrev Leaves : List Bool → Type 0
      Leaves set =
          planted_after (marks_at t q).planted (answer_of r) (first_function plants) (first_function lifts) ≡ set

      set-made : (a : Answer) → answer_of r ≡ a → (set : List Bool) → Leaves set → (rest : Aside)
          → Before t r now stage (with_set set).traced rest
          → Makes t r now stage (after_patch (with_set set) rest q t.stage a)
      set-made a is set left rest before =
          after-made (with_set set) rest t.stage a is (set-within q (replanted t q set) within)
          (becomes within (patches_one left)) before (set-stands set)

      unset-made : (a : Answer) → answer_of r ≡ a → Leaves (marks_at t q).planted → (rest : Aside)
          → Before t r now stage t.traced rest → Makes t r now stage (after_patch idle_now rest q t.stage a)
      unset-made a is left rest before =
          after-made idle_now rest t.stage a is within (unset (patches_one left)) before idle_stands

      first-made : (a : Answer) → answer_of r ≡ a → (plant lift : Option ℕ)
          → Leaves (planted_after (marks_at t q).planted a plant lift)
          → Makes t r now stage (after_first idle_now q plants lifts clear a plant lift)
      first-made Interrupted is plant lift left = absurd (calm is)
      first-made Accepted is (Some i) lift left =
          set-made _ is _ left _ (patches_next clear (set-there-so _) (plants_on i))
      first-made _ is (Some i) lift left = unset-made _ is left _ (patches_next clear (here within) (plants_on i))
      first-made _ is None (Some i) left = set-made _ is _ left _ (patches_next clear (set-there-so _) (lifts_on i))
      first-made _ is None None left = unset-made _ is left _ nothing

      patch-made : Makes t r now stage (with_patch_answered idle_now q plants lifts clear (answer_of r))
      unfolding with_patch_answered
      patch-made = first-made (answer_of r) refl (first_function plants) (first_function lifts) refl

  aside-made : (aside : Aside) → t.aside ≡ aside → IsBeside (length t.traced) aside
      → Makes t r aside t.stage (with_aside_answered t r aside)
  unfolding with_aside_answered
  aside-made Nothing is w = stage-made is t.stage at_stage
  aside-made (Reading q i) is w = code-made t.stage q w i (answer_of r) refl
  aside-made (Planting q i) is w = plant-made t.stage q w i (answer_of r) refl
  aside-made (Patching q plants lifts clear) is w = patch-made t.stage q w plants lifts clear
  aside-made _ is w = absurd w

  pub fed-makes : has_functions t.options ≡ true → Makes t r t.aside t.stage (fed_functions t r)
  unfolding fed_functions
  fed-makes has =
      subst (Makes t r t.aside t.stage) (sym (ap (λ b. cond b (with_aside_answered t r t.aside) (fed t r)) has))
      (aside-made t.aside refl at_aside)
