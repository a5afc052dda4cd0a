use Rattle.std.proofs.Common.{◌≡◌, ◌≢◌, ◌<◌, ◌==◌, ◌-◌, ℕ, Bool, true, false, cond, is_some, nat_lt, not, Option, Some, None, length, refl, sym, subst, ap, ◌∙◌, inl, inr}
use Rattle.std.proofs.lemmas.Bool.{cases_eq, eqb-true, false≢true, ne_eqb}
use Rattle.std.specs.List.{slice_get, slice_set}
use Rattle.std.specs.Option.{option_and_then}
use Rattle.pr_function_laws.proofs.Stepping.BreakpointLemmas.{step-is}
use Rattle.pr_line.specs.Events.{event_of}
use Rattle.pr_line.specs.Selections.{is_selected}
use Rattle.pr_line.specs.declared.events.Event.{Event}
use Rattle.pr_model.specs.Replies.{bytes_in}
use Rattle.pr_model.specs.State.{TracedProcess, TracedSystem, live_process}
use Rattle.pr_model.specs.declared.calls.Reply.{Reply}
use Rattle.pr_rec.specs.declared.lwps.LwpStatus.{LwpStatus}
use Rattle.pr_report_laws.proofs.Invariant.StandLemmas.{Each, EachBut}
use Rattle.pr_truss.specs.Asides.{marks_at, with_lifts, with_marks, with_patches}
use Rattle.pr_truss.specs.Closings.{polls_or_finished, with_closing, with_going_on, with_next_left, with_next_opening}
use Rattle.pr_truss.specs.Feeding.{fed}
use Rattle.pr_truss.specs.FunctionEvents.{fresh_event, function_event}
use Rattle.pr_truss.specs.FunctionFeeding.{fed_functions, with_aside_answered, with_function_reply}
use Rattle.pr_truss.specs.FunctionStops.{with_call_shown, with_copy_begun, with_copy_ended, with_fresh_event, with_function_event, with_function_status_answered, with_function_stop, with_function_stop_read, with_last_event, with_last_stop, with_memory_replaced, with_other_event, with_step_begun, with_step_completed, with_trap_over}
use Rattle.pr_truss.specs.Marks.{has_functions}
use Rattle.pr_truss.specs.Records.{child_of, is_on_event, status_lwp}
use Rattle.pr_truss.specs.Replies.{answer_of}
use Rattle.pr_truss.specs.Stops.{asked_range, followed_child, with_child_or, with_event, with_event_over, with_event_shown, with_old_stop_over, with_stop, with_stop_over, with_text_or_shown}
use Rattle.pr_truss.specs.Trusses.{TrussState, opening_or, traced_at, with_stage, with_traced}
use Rattle.pr_truss.specs.declared.asides.Aside.{Aside}
use Rattle.pr_truss.specs.declared.asides.Aside.TheVariants.{Nothing}
use Rattle.pr_truss.specs.declared.function_events.FunctionEvent.{FunctionEvent}
use Rattle.pr_truss.specs.declared.function_events.FunctionEvent.TheVariants.{AfterCopy, AtBreakpoint, BeforeCopy, Completed, Other, Replaced, TraceTrap}
use Rattle.pr_truss.specs.declared.marks.Marks.{Marks}
use Rattle.pr_truss.specs.declared.processes.Traced.{Traced}
use Rattle.pr_truss.specs.declared.replies.Answer.TheVariants.{Accepted}
use Rattle.pr_truss.specs.declared.stages.AfterClosing.{AfterClosing}
use Rattle.pr_truss.specs.declared.stages.OpeningStep.{OpeningStep}
use Rattle.pr_truss.specs.declared.stages.Stage.{Stage}
use Rattle.pr_truss.specs.declared.stages.Stage.TheVariants.{Closing, Opening, ReadingStatus, ReadingText, Running}
use Rattle.pr_truss_laws.proofs.Files.HeldLemmas.{set-at}
use Rattle.pr_function_hides.proofs.Copying.CopyPlaces.{ClosesSo, CopiesSo, FitsSo, IsClean, IsRunFlags, OpensSo, RestsSo, RunsSo, StandingSo, both, clears, closes_so, is_about, no_flags, opens_so, rests_so, runs_so, steps}
use Rattle.pr_function_hides.proofs.Replies.PlantedWalk.{marks_then}
use Rattle.pr_function_hides.proofs.Replies.TreatedEvents.{own-place}
use Rattle.pr_function_hides.specs.Treating.{AsideTreats, Treats, all_done, is_run_soon, patches}

-- What a reply makes of truss, as far as the forks, vforks and execs of its processes go.

-- ---- what is said of a process by where truss has come

pub soon-about : (stage : Stage) (place : ℕ) → is_run_soon stage place ≡ true → is_about stage place ≡ true
soon-about (Running b) place is = is
soon-about (ReadingText b l from len) place is = is
soon-about _ place is = absurd (false≢true is)

module _ (t : TrussState) (place : ℕ) (p : TracedProcess) where
  pub rests-of : is_about t.stage place ≡ false → StandingSo t place p → RestsSo (traced_at t place) p
  rests-of other (rests_so rest w) = w
  rests-of other (opens_so step is w) =
      absurd (false≢true (sym other ∙ ap (λ x. is_about x place) is ∙ own-place place))
  rests-of other (closes_so next is w) =
      absurd (false≢true (sym other ∙ ap (λ x. is_about x place) is ∙ own-place place))
  rests-of other (runs_so soon w) = absurd (false≢true (sym other ∙ soon-about t.stage place soon))

  pub opens-of : (step : OpeningStep) → t.stage ≡ Opening place step → StandingSo t place p
      → OpensSo step (traced_at t place) p
  opens-of step at (rests_so rest w) =
      absurd (false≢true (sym rest ∙ ap (λ x. is_about x place) at ∙ own-place place))
  opens-of step at (opens_so other is w) = subst (λ x. OpensSo x (traced_at t place) p) (same (sym is ∙ at)) w
    where
      same : Opening place other ≡ Opening place step → other ≡ step
      same e = cc
  opens-of step at (closes_so next is w) = absurd (apart (sym is ∙ at))
    where
      apart : Closing place next ≡ Opening place step → ⊥
      apart e = cc
  opens-of step at (runs_so soon w) =
      absurd (false≢true (sym (ap (λ x. is_run_soon x place) at) ∙ soon))

  pub closes-of : (next : AfterClosing) → t.stage ≡ Closing place next → StandingSo t place p
      → ClosesSo t.aside (traced_at t place) p
  closes-of next at (rests_so rest w) =
      absurd (false≢true (sym rest ∙ ap (λ x. is_about x place) at ∙ own-place place))
  closes-of next at (opens_so step is w) = absurd (apart (sym is ∙ at))
    where
      apart : Opening place step ≡ Closing place next → ⊥
      apart e = cc
  closes-of next at (closes_so other is w) = w
  closes-of next at (runs_so soon w) =
      absurd (false≢true (sym (ap (λ x. is_run_soon x place) at) ∙ soon))

  pub runs-of : is_run_soon t.stage place ≡ true → StandingSo t place p → RunsSo t place p
  runs-of at (rests_so rest w) = absurd (false≢true (sym rest ∙ soon-about t.stage place at))
  runs-of at (opens_so step is w) =
      absurd (false≢true (sym (ap (λ x. is_run_soon x place) is) ∙ at))
  runs-of at (closes_so next is w) =
      absurd (false≢true (sym (ap (λ x. is_run_soon x place) is) ∙ at))
  runs-of at (runs_so soon w) = w

-- ---- how it is put together again

module _ (later : TracedSystem) where
  -- a process that truss neither opens nor closes nor runs soon
  pub record IsRestedSo (v : Traced) : Type 0 where
    pub clean : IsClean v
    pub stands : (p : TracedProcess) → live_process later v.pid ≡ Some p → RestsSo v p

  pub all-rest : (v : TrussState) → ((place : ℕ) → is_about v.stage place ≡ false) → FitsSo v.aside v.stage
      → Each IsRestedSo v.traced → CopiesSo v later
  all-rest v about fits all = record {
    clean = λ place within. let w = all place within in w.clean;
    fits = fits;
    each = λ place within p live.
        rests_so (about place) (let w = all place within in w.stands p live);
  }

  pub but-one : (v : TrussState) (q : ℕ) → ((place : ℕ) → place ≢ q → is_about v.stage place ≡ false)
      → FitsSo v.aside v.stage → EachBut IsRestedSo v.traced q → IsClean (traced_at v q)
      → ((p : TracedProcess) → live_process later (traced_at v q).pid ≡ Some p → StandingSo v q p)
      → CopiesSo v later
  but-one v q about fits others clean here = record {
    clean = λ place within. at (λ place. IsClean (traced_at v place)) place
        (λ other. let w = others place within other in w.clean) clean;
    fits = fits;
    each = λ place within. at
        (λ place. (p : TracedProcess) → live_process later (traced_at v place).pid ≡ Some p → StandingSo v place p)
        place
        (λ other p live. rests_so (about place other) (let w = others place within other in w.stands p live)) here;
  }
    where
      at : (P : ℕ → Type 0) (place : ℕ) → (place ≢ q → P place) → P q → P place
      at P place other here = elim (cases_eq place q) [
        | inl same ↦ subst P (sym same) here
        | inr apart ↦ other apart
      ]

-- ---- the stages that are about a process

pub about-other : (stage : Stage) (q : ℕ) → ((place : ℕ) → is_about stage place ≡ (q == place)) → (place : ℕ)
    → place ≢ q → is_about stage place ≡ false
about-other stage q is place other = is place ∙ ne_eqb q place (λ same. other (sym same))

-- nothing is opened, closed or run soon
pub record IsCalm (v : TrussState) : Type 0 where
  pub about : (place : ℕ) → is_about v.stage place ≡ false

module _ (u : TrussState) (off : u.leaving ≡ false) where
  polls-calm : (t : Option Traced) → IsCalm (polls_or_finished u t)
  polls-calm None = record { about = λ place. refl }
  polls-calm (Some t) = record { about = λ place. refl }

  polls-same : (t : Option Traced) → (polls_or_finished u t).traced ≡ u.traced
  polls-same None = refl
  polls-same (Some t) = refl

  polls-aside : (t : Option Traced) → (polls_or_finished u t).aside ≡ u.aside
  polls-aside None = refl
  polls-aside (Some t) = refl

  -- what comes when nothing is to be done for one process
  pub record IsNext (v : TrussState) : Type 0 where
    pub calm : IsCalm v
    pub same : v.traced ≡ u.traced
    pub aside : v.aside ≡ u.aside

  pub going-next : IsNext (with_going_on u)
  unfolding with_going_on
  going-next =
      subst IsNext
      (sym (ap (λ b. cond b (with_next_left u) (polls_or_finished u (slice_get u.traced 0))) off))
      (record {
        calm = polls-calm (slice_get u.traced 0);
        same = polls-same (slice_get u.traced 0);
        aside = polls-aside (slice_get u.traced 0);
      })

  opening-or-next : (pid : Option ℕ) → IsNext (opening_or u (with_going_on u) pid)
  opening-or-next None = going-next
  opening-or-next (Some pid) = record { calm = record { about = λ place. refl }; same = refl; aside = refl }

  pub opening-next : IsNext (with_next_opening u)
  unfolding with_next_opening
  opening-next = opening-or-next (slice_get u.options.pids u.begun)

-- ---- the processes after a stop was looked at

module _ (u : TrussState) (off : u.leaving ≡ false) (follow : u.options.follow ≡ false) (q : ℕ) where
  abbrev Same : TrussState → Type 0
  Same v = v.traced ≡ u.traced

  same-either : (b : Bool) (v w : TrussState) → Same v → Same w → Same (cond b v w)
  same-either true v w x y = x
  same-either false v w x y = y

  over-same : Same (with_stop_over u q)
  unfolding with_stop_over
  over-same = same-either u.leaving _ _ refl refl

  event-over-same : (l : LwpStatus) → Same (with_event_over u q l)
  unfolding with_event_over followed_child
  event-over-same l =
      subst Same (sym (ap (λ f. with_child_or u q (cond f (child_of l) None)) follow)) over-same

module _ (u : TrussState) (off : u.leaving ≡ false) (follow : u.options.follow ≡ false) (q : ℕ) (l : LwpStatus) where
  shown-same : (range : Option (ℕ × ℕ)) → Same u off follow q (with_text_or_shown u q l range)
  unfolding with_event_shown
  shown-same None = event-over-same (with_event_shown u q l None) off follow q l
  shown-same (Some range) = refl

  event-same : (e : Option Event) → Same u off follow q (with_event u q l e)
  event-same None = over-same u off follow q
  event-same (Some e) =
      same-either u off follow q (is_selected u.options e) _ _ (shown-same (asked_range u.options e))
      (event-over-same u off follow q l)

  stop-same : (traced_at u q).old ≡ 0 → Same u off follow q (with_stop u q l)
  unfolding with_stop
  stop-same none =
      same-either u off follow q _ _ _ (over-same u off follow q)
      (subst (λ b. Same u off follow q
      (cond b (with_old_stop_over u q)
      (cond (traced_at u q).seen (with_stop_over u q) (with_event u q l (event_of l)))))
      (sym (ap (λ n. nat_lt 0 n) none))
      (same-either u off follow q _ _ _ (over-same u off follow q) (event-same (event_of l))))

module _ (u : TrussState) (off : u.leaving ≡ false) (follow : u.options.follow ≡ false) (q : ℕ) (l : LwpStatus)
    (within : q < length u.traced) (none : (traced_at u q).old ≡ 0) where
  abbrev marked : Marks → Traced
  marked m = record (traced_at u q) { marks = m }

  marked-old : (m : Marks) → (traced_at (with_marks u q m) q).old ≡ 0
  marked-old m = ap (λ (x : Traced). x.old) (set-at u.traced q (marked m) within) ∙ none

  -- an event changes the marks of its process, and nothing of others
  pub event-set : (e : FunctionEvent)
      → (with_function_event u q l e).traced ≡ slice_set u.traced q (marked (marks_then (marks_at u q) l e))
  unfolding with_function_event with_step_begun with_step_completed with_trap_over with_copy_begun with_copy_ended
      with_other_event with_memory_replaced with_call_shown with_patches
  event-set (AtBreakpoint function) = over-same (with_marks u q _) off follow q
  event-set (Completed step) = over-same (with_call_shown (with_marks u q _) q step) off follow q
  event-set TraceTrap = over-same (with_marks u q _) off follow q
  event-set BeforeCopy = stop-same (with_marks u q _) off follow q l (marked-old _)
  event-set AfterCopy = stop-same (with_marks u q _) off follow q l (marked-old _)
  event-set Replaced = stop-same (with_marks u q _) off follow q l (marked-old _)
  event-set Other = stop-same (with_marks u q _) off follow q l (marked-old _)

-- the run flags that an event asks for
pub event-flags : (m : Marks) (l : LwpStatus) (e : FunctionEvent) → IsRunFlags m.flags
    → (let n : Marks = marks_then m l e in IsRunFlags n.flags)
event-flags m l (AtBreakpoint function) it = both step-is
event-flags m l (Completed step) it = clears refl
event-flags m l TraceTrap it = clears refl
event-flags m l BeforeCopy it = steps refl
event-flags m l AfterCopy it = it
event-flags m l Replaced it = no_flags refl
event-flags m l Other it = it

-- ---- the read of a status

module _ (t : TrussState) (r : Reply) (q : ℕ) (has : has_functions t.options ≡ true) (off : t.leaving ≡ false)
    (idle : t.aside ≡ Nothing) (reads : t.stage ≡ ReadingStatus q) (accepted : answer_of r ≡ Accepted)
    (l : LwpStatus) (told : option_and_then status_lwp (bytes_in r) ≡ Some l) where
  status-fed : fed_functions t r ≡ with_fresh_event t q l (fresh_event (traced_at t q) l)
  unfolding fed_functions with_aside_answered with_function_reply with_function_status_answered with_function_stop
  status-fed =
      ap (λ b. cond b (with_aside_answered t r t.aside) (fed t r)) has
      ∙ ap (with_aside_answered t r) idle
      ∙ ap (with_function_reply t r) reads
      ∙ ap (with_function_status_answered t q r) accepted
      ∙ ap (with_function_stop_read t q) told

  none-fed : fresh_event (traced_at t q) l ≡ None → fed_functions t r ≡ with_stop t q l
  none-fed none =
      status-fed ∙ ap (with_fresh_event t q l) none
      ∙ ap (λ b. cond b (with_last_stop t q l) (with_stop t q l)) off

  -- of a stop that stood before truss came
  pub old-fed : is_on_event l ≡ true → nat_lt 0 (traced_at t q).old ≡ true → ((traced_at t q).old == 0) ≡ false
      → fed_functions t r
      ≡ with_stage (with_traced t q (record (traced_at t q) { old = (traced_at t q).old - 1 })) (Running q)
  unfolding fresh_event with_stop with_old_stop_over with_stop_over
  old-fed on some other =
      none-fed (ap (λ b. cond b (cond (traced_at t q).seen None (event_of l)) None) other)
      ∙ ap (λ b. cond (not b) (with_stop_over t q) (cond (nat_lt 0 (traced_at t q).old) (with_old_stop_over t q)
      (cond (traced_at t q).seen (with_stop_over t q) (with_event t q l (event_of l))))) on
      ∙ ap (λ b. cond b (with_old_stop_over t q)
      (cond (traced_at t q).seen (with_stop_over t q) (with_event t q l (event_of l)))) some
      ∙ ap (λ b. cond b (with_closing (with_traced t q (record (traced_at t q) { old = (traced_at t q).old - 1 })) q)
      (with_stage (with_traced t q (record (traced_at t q) { old = (traced_at t q).old - 1 })) (Running q))) off

  -- of a stop that is no event
  pub still-fed : (traced_at t q).old ≡ 0 → (traced_at t q).seen ≡ false → event_of l ≡ None
      → fed_functions t r ≡ with_stage t (Running q)
  unfolding fresh_event with_stop with_stop_over is_on_event
  still-fed new unseen none =
      none-fed (ap (λ n. cond (n == 0) (cond (traced_at t q).seen None (event_of l)) None) new
      ∙ ap (λ b. cond b None (event_of l)) unseen ∙ none)
      ∙ ap (λ e. cond (not (is_some e)) (with_stop_over t q) (cond (nat_lt 0 (traced_at t q).old)
      (with_old_stop_over t q)
      (cond (traced_at t q).seen (with_stop_over t q) (with_event t q l (event_of l))))) none
      ∙ ap (λ b. cond b (with_closing t q) (with_stage t (Running q))) off

  -- of a stop that is an event
  pub event-fed : (e : Event) → fresh_event (traced_at t q) l ≡ Some e
      → fed_functions t r
      ≡ with_function_event t q l (function_event t.options (marks_at t q) l.id e)
  event-fed e fresh =
      status-fed ∙ ap (with_fresh_event t q l) fresh
      ∙ ap (λ b. cond b
      (with_last_event t q l (function_event t.options (marks_at t q) l.id e))
      (with_function_event t q l (function_event t.options (marks_at t q) l.id e))) off

-- ---- what is treated

-- before the call of a stage no more comes than is of the process that is treated
pub treats-fits : (m : Marks) (e : FunctionEvent) (q : ℕ) (t : TrussState) → Treats m e q t → FitsSo t.aside t.stage
treats-fits m e q t w = by t.stage t.aside w.stage w.aside
  where
    by : (stage : Stage) (aside : Aside) → is_run_soon stage q ≡ true → AsideTreats m e q (marks_at t q) aside
        → FitsSo aside stage
    by stage aside soon (all_done plants lifts p l will) = tt
    by (Running b) aside soon (patches plants lifts will) = sym (eqb-true b q soon)
    by (ReadingText b l from len) aside soon (patches plants lifts will) = sym (eqb-true b q soon)
    by _ aside soon (patches plants lifts will) = absurd (false≢true soon)

-- and the stage is about that process alone
pub treats-about : (stage : Stage) (q : ℕ) → is_run_soon stage q ≡ true → (place : ℕ) → place ≢ q
    → is_about stage place ≡ false
treats-about (Running b) q soon place other =
    ne_eqb b place (λ same. other (sym (sym (eqb-true b q soon) ∙ same)))
treats-about (ReadingText b l from len) q soon place other =
    ne_eqb b place (λ same. other (sym (sym (eqb-true b q soon) ∙ same)))
treats-about _ q soon place other = absurd (false≢true soon)

-- ---- a read without a record, and one of memory

module _ (u : TrussState) (off : u.leaving ≡ false) (follow : u.options.follow ≡ false) (q : ℕ) where
  pub over-runs : with_stop_over u q ≡ with_stage u (Running q)
  unfolding with_stop_over
  over-runs = ap (λ b. cond b (with_closing u q) (with_stage u (Running q))) off

  pub event-over-runs : (l : LwpStatus) → with_event_over u q l ≡ with_stage u (Running q)
  unfolding with_event_over followed_child
  event-over-runs l = ap (λ f. with_child_or u q (cond f (child_of l) None)) follow ∙ over-runs

module _ (t : TrussState) (r : Reply) (q : ℕ) (has : has_functions t.options ≡ true) (off : t.leaving ≡ false)
    (follow : t.options.follow ≡ false) (idle : t.aside ≡ Nothing) where
  pub idle-fed : fed_functions t r ≡ with_function_reply t r t.stage
  unfolding fed_functions with_aside_answered
  idle-fed =
      ap (λ b. cond b (with_aside_answered t r t.aside) (fed t r)) has ∙ ap (with_aside_answered t r) idle

  -- no record came, or a stop that is no event while old ones are left
  pub unread-fed : t.stage ≡ ReadingStatus q → answer_of r ≡ Accepted
      → option_and_then status_lwp (bytes_in r) ≡ None → fed_functions t r ≡ with_stage t (Running q)
  unfolding fed_functions with_aside_answered with_function_reply with_function_status_answered
  unread-fed reads accepted told =
      ap (λ b. cond b (with_aside_answered t r t.aside) (fed t r)) has
      ∙ ap (with_aside_answered t r) idle
      ∙ ap (with_function_reply t r) reads
      ∙ ap (with_function_status_answered t q r) accepted
      ∙ ap (with_function_stop_read t q) told
      ∙ ap (λ b. cond b (with_lifts (with_stop_over t q) q false) (with_stop_over t q)) off
      ∙ over-runs t off follow q

  pub off-fed : (l : LwpStatus) → t.stage ≡ ReadingStatus q → answer_of r ≡ Accepted
      → option_and_then status_lwp (bytes_in r) ≡ Some l → ((traced_at t q).old == 0) ≡ false
      → is_on_event l ≡ false → fed_functions t r ≡ with_stage t (Running q)
  unfolding fresh_event with_stop
  off-fed l reads accepted told other on =
      none-fed t r q has off idle reads accepted l told
      (ap (λ b. cond b (cond (traced_at t q).seen None (event_of l)) None) other)
      ∙ ap (λ b. cond (not b) (with_stop_over t q) (cond (nat_lt 0 (traced_at t q).old) (with_old_stop_over t q)
      (cond (traced_at t q).seen (with_stop_over t q) (with_event t q l (event_of l))))) on
      ∙ over-runs t off follow q
