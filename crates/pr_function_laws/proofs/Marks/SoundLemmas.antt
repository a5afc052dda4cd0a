use Rattle.std.proofs.Common.{◌≡◌, ◌==◌, ◌||◌, ◌<◌, ◌+◌, ℕ, Bool, true, false, cond, is_some, nat_lt, Option, Some, None, List, [], length, position, refl, sym, subst, ap, ◌∙◌, inl, inr}
use Rattle.std.proofs.lemmas.Bool.{false≢true, ltb-true}
use Rattle.std.proofs.lemmas.Option.{none-some, same_Some}
use Rattle.std.specs.List.{slice_get}
use Rattle.std.specs.Option.{option_and_then}
use Rattle.pr_line.specs.Events.{event_of}
use Rattle.pr_line.specs.Selections.{is_selected}
use Rattle.pr_line.specs.declared.events.Event.{Event}
use Rattle.pr_line.specs.declared.events.Event.TheVariants as event
use Rattle.pr_line.specs.declared.options.Options.{Options}
use Rattle.pr_model.specs.Replies.{bytes_in, handle_in, until_in}
use Rattle.pr_model.specs.declared.calls.Reply.{Reply}
use Rattle.pr_num.proofs.TableLemmas.{position-within}
use Rattle.pr_num.specs.Control.{clear_fault, single_step}
use Rattle.pr_num.specs.Sets.{union_word}
use Rattle.pr_num.specs.declared.errnos.Errno.{Errno}
use Rattle.pr_num.specs.declared.errnos.Errno.TheVariants.{Noent}
use Rattle.pr_num.specs.declared.faults.Flt.{Flt}
use Rattle.pr_num.specs.declared.faults.Flt.TheVariants.{Bpt, Trace}
use Rattle.pr_rec.specs.declared.lwps.LwpStatus.{LwpStatus}
use Rattle.pr_truss.specs.Asides.{lifts_at, marks_at, patching, with_aside, with_lifts, with_lifts_before_closing, with_marks, with_patches}
use Rattle.pr_truss.specs.Children.{child_learnt}
use Rattle.pr_truss.specs.Closings.{with_interrupt}
use Rattle.pr_truss.specs.Feeding.{fed, with_reply}
use Rattle.pr_truss.specs.FunctionEvents.{begins_at, breakpoint_event, copies_memory, fault_event, fresh_event, function_at, function_event, if_standing, keeps_memory, left_event, step_of, trap_event}
use Rattle.pr_truss.specs.FunctionFeeding.{after_first, after_patch, fed_functions, is_to_plant, planted_if, with_aside_answered, with_asking_answered, with_code_answered, with_code_read, with_function_reply, with_function_step_answered, with_functions_begun, with_halt_answered, with_next_function, with_patch_answered, with_pending_told, with_plant_answered, with_planted, with_refused_opening, with_wait_answered, without_planted}
use Rattle.pr_truss.specs.FunctionStops.{after_function_text, with_call_shown, with_copy_begun, with_copy_ended, with_fresh_event, with_function_event, with_function_lwps_answered, with_function_run_answered, with_function_status_answered, with_function_stop, with_function_stop_read, with_function_text_answered, with_last_event, with_last_stop, with_memory_replaced, with_other_event, with_step_begun, with_step_completed, with_trap_over}
use Rattle.pr_truss.specs.Marks.{first_function, has_function, has_functions, no_functions, no_marks, put_back, standing, without_function}
use Rattle.pr_truss.specs.Openings.{at_step, learnt, step_after, with_refused_step, with_step_done, with_stop_seen}
use Rattle.pr_truss.specs.Processes.{newly_traced, without_last}
use Rattle.pr_truss.specs.Records.{event_stops, status_lwp}
use Rattle.pr_truss.specs.Replies.{answer_of}
use Rattle.pr_truss.specs.Stops.{asked_range, with_event, with_event_over, with_event_shown, with_old_stop_over, with_run_answered, with_status_answered, with_stop, with_stop_over, with_text_answered, with_text_or_shown}
use Rattle.pr_truss.specs.Trusses.{TrussState, first_of_program, first_truss, idle, opening_or, traced_at, with_opened, with_report, with_stage, with_traced, without_traced}
use Rattle.pr_truss.specs.declared.asides.Aside.{Aside}
use Rattle.pr_truss.specs.declared.asides.Aside.TheVariants.{Nothing, Reading, Planting, Patching, AwaitingStop, Asking, AwaitingAgain}
use Rattle.pr_truss.specs.declared.function_events.FunctionEvent.{FunctionEvent}
use Rattle.pr_truss.specs.declared.function_events.FunctionEvent.TheVariants.{Other, AtBreakpoint, Completed, TraceTrap, BeforeCopy, AfterCopy, Replaced}
use Rattle.pr_truss.specs.declared.marks.Marks.{Marks}
use Rattle.pr_truss.specs.declared.marks.Stepped.{Stepped}
use Rattle.pr_truss.specs.declared.processes.Traced.{Traced}
use Rattle.pr_truss.specs.declared.replies.Answer.{Answer}
use Rattle.pr_truss.specs.declared.replies.Answer.TheVariants.{Accepted, Interrupted, Gone, Refused}
use Rattle.pr_truss.specs.declared.reports.Report.{Report}
use Rattle.pr_truss.specs.declared.stages.AfterClosing.{AfterClosing}
use Rattle.pr_truss.specs.declared.stages.AfterClosing.TheVariants.{OpenNext, GoOn, RunParent}
use Rattle.pr_truss.specs.declared.stages.ChildStep.{ChildStep}
use Rattle.pr_truss.specs.declared.stages.ChildStep.TheVariants as child
use Rattle.pr_truss.specs.declared.stages.OpeningStep.{OpeningStep}
use Rattle.pr_truss.specs.declared.stages.OpeningStep.TheVariants as opening
use Rattle.pr_truss.specs.declared.stages.Stage.{Stage}
use Rattle.pr_truss.specs.declared.stages.Stage.TheVariants.{Opening, Polling, ReadingStatus, ReadingText, Running, Closing, Unfollowing, ReadingLwps}
use Rattle.pr_truss_laws.proofs.Replies.FedSteps.{event-over, fed-step, interrupt-on, opens-next, seen-on, stop-over}
use Rattle.pr_truss_laws.proofs.Replies.ReplySteps as row
use Rattle.pr_truss_laws.proofs.Replies.ReplySteps.{Closes, GoesOn, Learns, Looks, ReplyStep, Returns, Settles, StopOver, Turns, leaving_now, old_less, seen_at}
use Rattle.pr_truss_laws.specs.Business.{TellsOf, in_lstatus, in_status}
use Rattle.pr_function_laws.proofs.Marks.MarkLemmas.{AreBelow, Everywhere, MarksAreBelow, StepIsBelow, every-append, every-remove, every-set, first-below, less-below, more-below, no-marks-below, none-below, step-below, stepping-flags}
use Rattle.pr_line.specs.Functions.{function_limit}

-- Wherever truss has come to, its marks and what it does beside its stage name functions of its options alone, and it
-- polls only as long as it does not leave its processes.

-- ---- what is so

abbrev pub is_polling : Stage → Bool
is_polling Polling = true
is_polling _ = false

abbrev pub AsideIsBelow : ℕ → Aside → Type 0
AsideIsBelow n Nothing = Unit {0}
AsideIsBelow n (Reading place function) = function < n
AsideIsBelow n (Planting place function) = function < n
AsideIsBelow n (Patching place plants lifts clear) = AreBelow n plants × AreBelow n lifts
AsideIsBelow n (AwaitingStop until) = Unit {0}
AsideIsBelow n Asking = Unit {0}
AsideIsBelow n (AwaitingAgain until) = Unit {0}

-- the place of each function is below their number, and something is so of each step that is under way
abbrev MarksOf : Options → (Stepped → Type 0) → Traced → Type 0
MarksOf o Q t = MarksAreBelow (length o.functions) Q t.marks

pub record Names (o : Options) (Q : Stepped → Type 0) (s : TrussState) : Type 0 where
  pub options : s.options ≡ o
  pub marks : Everywhere (MarksOf o Q) s.traced
  pub aside : AsideIsBelow (length o.functions) s.aside

pub record IsSound (o : Options) (Q : Stepped → Type 0) (s : TrussState) : Type 0 where
  pub names : Names o Q s
  pub polls : is_polling s.stage ≡ true → s.leaving ≡ false

-- what follows from what is so of each step is so too
pub sound-weaker : (o : Options) (Q R : Stepped → Type 0) (s : TrussState) → ((step : Stepped) → Q step → R step)
    → IsSound o Q s → IsSound o R s
sound-weaker o Q R s weaker w = record {
  names = let names = w.names in record {
    options = names.options;
    marks = λ place. let m = names.marks place in record {
      planted = m.planted;
      lifted = m.lifted;
      stepped = by (marks_at s place).stepped m.stepped;
      flags = m.flags;
    };
    aside = names.aside;
  };
  polls = w.polls;
}
  where
    by : (step : Option Stepped) → StepIsBelow (length o.functions) Q step → StepIsBelow (length o.functions) R step
    by None h = tt
    by (Some step) h = (h.0, weaker step h.1)

module _ (o : Options) (Q : Stepped → Type 0) where
  abbrev n : ℕ
  n = length o.functions

  -- ---- edits

  -- another stage, other reports, or that truss leaves
  like : (u v : TrussState) → v.options ≡ u.options → v.traced ≡ u.traced → v.aside ≡ u.aside → Names o Q u
      → Names o Q v
  like u v options traced aside w = record {
    options = options ∙ w.options;
    marks = subst (Everywhere (MarksOf o Q)) (sym traced) w.marks;
    aside = subst (AsideIsBelow n) (sym aside) w.aside;
  }

  staged : (u : TrussState) (stage : Stage) → Names o Q u → Names o Q (with_stage u stage)
  staged u stage w = like u (with_stage u stage) refl refl refl w

  reported : (u : TrussState) (report : Report) → Names o Q u → Names o Q (with_report u report)
  reported u report w = like u (with_report u report) refl refl refl w

  leaves : (u : TrussState) → Names o Q u → Names o Q (leaving_now u)
  leaves u w = like u (leaving_now u) refl refl refl w

  set : (u : TrussState) (place : ℕ) (t : Traced) → MarksOf o Q t → Names o Q u → Names o Q (with_traced u place t)
  set u place t here w = record {
    options = w.options;
    marks = every-set (MarksOf o Q) u.traced place t w.marks here;
    aside = w.aside;
  }

  seen : (u : TrussState) (place : ℕ) → Names o Q u → Names o Q (seen_at u place)
  seen u place w = set u place (record (traced_at u place) { seen = true }) (w.marks place) w

  old : (u : TrussState) (place : ℕ) → Names o Q u → Names o Q (old_less u place)
  old u place w = set u place (record (traced_at u place) { old = _ }) (w.marks place) w

  marked : (u : TrussState) (place : ℕ) (m : Marks) → MarksAreBelow n Q m → Names o Q u
      → Names o Q (with_marks u place m)
  marked u place m here w = set u place (record (traced_at u place) { marks = m }) here w

  removed : (u : TrussState) (place : ℕ) → Names o Q u → Names o Q (without_traced u place)
  removed u place w = record {
    options = w.options;
    marks = every-remove (MarksOf o Q) u.traced place w.marks;
    aside = w.aside;
  }

  beside : (u : TrussState) (a : Aside) → AsideIsBelow n a → Names o Q u → Names o Q (with_aside u a)
  beside u a here w = record { options = w.options; marks = w.marks; aside = here }

  -- ---- states at their stage

  at : (u : TrussState) (stage : Stage) → is_polling stage ≡ false → Names o Q u → IsSound o Q (with_stage u stage)
  at u stage other w = record {
    names = staged u stage w;
    polls = λ is. absurd (false≢true (sym other ∙ is));
  }

  sound-beside : (u : TrussState) (a : Aside) → AsideIsBelow n a → IsSound o Q u → IsSound o Q (with_aside u a)
  sound-beside u a here w = record { names = beside u a here w.names; polls = w.polls }

  on : {u v : TrussState} {given : Bool} → Names o Q u → GoesOn u given v → IsSound o Q v
  on {u} w (row.finishes _) = at u _ refl w
  on {u} w (row.polls off _) = record { names = staged u Polling w; polls = λ is. off }
  on {u} w (row.unfollows _ _ _) = at u _ refl w
  on {u} w (row.closes_first _ _ _) = at u _ refl w
  on {u} w (row.opens_next {pid = pid} _) = record {
    names = like u (record u { stage = _; begun = _ }) refl refl refl w;
    polls = λ is. absurd (false≢true is);
  }

  over : {u v : TrussState} {place : ℕ} {pid : Option ℕ} → Names o Q u → StopOver u place pid v → IsSound o Q v
  over {u} w (row.runs _) = at u _ refl w
  over {u} w (row.leaves _) = at u _ refl w
  over {u} w (row.opens_child _) = at u _ refl w
  over {u} w (row.frees_child _) = at u _ refl w

  interrupts : (u : TrussState) → Names o Q u → IsSound o Q (with_interrupt u)
  interrupts u w = on (leaves u w) (interrupt-on u)

  seen-interrupts : (u : TrussState) (place : ℕ) → Names o Q u → IsSound o Q (with_interrupt (with_stop_seen u place))
  seen-interrupts u place w = on (leaves (seen_at u place) (seen u place w)) (seen-on u place)

  either : (b : Bool) (u v : TrussState) → IsSound o Q u → IsSound o Q v → IsSound o Q (cond b u v)
  either true u v p q = p
  either false u v p q = q

  -- ---- replies where nothing is said of functions

  learnt-marks : (t : Traced) (r : Reply) (step : OpeningStep) → (learnt t r step).marks ≡ t.marks
  unfolding learnt
  learnt-marks t r opening.OpenStatus = refl
  learnt-marks t r _ = refl

  child-marks : (t : Traced) (r : Reply) (step : ChildStep) → (child_learnt t r step).marks ≡ t.marks
  unfolding child_learnt
  child-marks t r child.SetRelease = refl
  child-marks t r _ = refl

  lost-marks : (t u : Traced) → without_last t ≡ Some u → u.marks ≡ t.marks
  unfolding without_last
  lost-marks t u is = by t.memory t.lstatus t.status is
    where
      by : (memory lstatus status : Option ℕ)
          → cond (is_some memory) (Some (record t { memory = None }))
          (cond (is_some lstatus) (Some (record t { lstatus = None }))
          (cond (is_some status) (Some (record t { status = None })) None)) ≡ Some u → u.marks ≡ t.marks
      by (Some m) lstatus status found = ap (λ (x : Traced). x.marks) (sym (same_Some _ u found))
      by None (Some l) status found = ap (λ (x : Traced). x.marks) (sym (same_Some _ u found))
      by None None (Some f) found = ap (λ (x : Traced). x.marks) (sym (same_Some _ u found))
      by None None None found = absurd (none-some u found)

  new-marks : (pid control : ℕ) → MarksOf o Q (newly_traced pid control)
  unfolding newly_traced
  new-marks pid control = no-marks-below n Q

  module _ (s : TrussState) (r : Reply) (w : Names o Q s) where
    with-marks : (place : ℕ) (t : Traced) → t.marks ≡ (traced_at s place).marks → Names o Q (with_traced s place t)
    with-marks place t same =
        set s place t (subst (MarksAreBelow n Q) (sym same) (w.marks place)) w

    settles-names : (stage : Stage) (given : Bool) (u : TrussState) → Settles s r stage given u → Names o Q u
    settles-names stage given u (row.interrupts_start _) = leaves s w
    settles-names stage given u (row.interrupts_control _) = leaves s w
    settles-names stage given u (row.interrupts_poll _) = leaves s w
    settles-names stage given u (row.interrupts_status _) = leaves s w
    settles-names stage given u (row.interrupts_opening _) = leaves _ (seen s _ w)
    settles-names stage given u (row.interrupts_text _ _) = leaves _ (seen _ _ (reported s _ w))
    settles-names stage given u (row.interrupts_child_control _) = leaves _ (seen s _ w)
    settles-names stage given u (row.interrupts_child _) = leaves _ (seen s _ w)
    settles-names stage given u (row.interrupts_run _) = leaves _ (seen s _ w)
    settles-names stage given u (row.refuses_start _ _) = reported s _ w
    settles-names stage given u (row.refuses_control _ _) = reported s _ w
    settles-names stage given u (row.ends_opening {place = place} {now = now} _ _) =
        with-marks place (learnt (traced_at s place) r now) (learnt-marks (traced_at s place) r now)
    settles-names stage given u row.ran = w
    settles-names stage given u (row.closed_next _) = removed s _ w
    settles-names stage given u (row.closed _) = removed s _ w

    looks-names : (stage : Stage) (place : ℕ) (pid : Option ℕ) (u : TrussState) → Looks s r stage place pid u
        → Names o Q u
    looks-names stage place pid u (row.passes _) = w
    looks-names stage place pid u (row.passes_old _ _ _) = old s _ w
    looks-names stage place pid u (row.passes_event _ _ _) = w
    looks-names stage place pid u (row.shows _ _ _ _) = reported s _ w
    looks-names stage place pid u row.shows_text = reported s _ w

    closes-names : (stage : Stage) (place : ℕ) (next : AfterClosing) (u : TrussState) → Closes s r stage place next u
        → Names o Q u
    closes-names stage place next u (row.text_ended _) = reported s _ w
    closes-names stage place next u (row.refuses_free _ _) = reported s _ w
    closes-names stage place next u (row.refuses_opening _ _) = reported s _ w
    closes-names stage place next u (row.refuses_child _ _) = reported s _ w
    closes-names stage place next u _ = w

    returns-names : (stage : Stage) (parent : ℕ) (u : TrussState) → Returns s r stage parent u → Names o Q u
    returns-names stage parent u (row.refuses_child_control _ _) = reported s _ w
    returns-names stage parent u (row.child_runs _) = w
    returns-names stage parent u (row.child_closed _) = removed s _ w

    opened : (pid : ℕ) (next : Stage) → is_polling next ≡ false
        → IsSound o Q (with_stage (with_opened s (newly_traced pid (handle_in r))) next)
    opened pid next other = at (with_opened s (newly_traced pid (handle_in r))) next other (record {
      options = w.options;
      marks =
          every-append (MarksOf o Q) s.traced (newly_traced pid (handle_in r)) w.marks (new-marks pid (handle_in r));
      aside = w.aside;
    })

    learns-sound : (stage : Stage) (place : ℕ) (t : Traced) (next : Stage) → Learns s r stage place t next
        → IsSound o Q (with_stage (with_traced s place t) next)
    learns-sound stage place t next (row.opening_goes {now = now} _) =
        at _ _ refl (with-marks place t (learnt-marks (traced_at s place) r now))
    learns-sound stage place t next (row.child_goes {now = now} _) =
        at _ _ refl (with-marks place t (child-marks (traced_at s place) r now))

    turns-sound : (stage next : Stage) → (is_polling stage ≡ true → s.leaving ≡ false) → Turns s r stage next
        → IsSound o Q (with_stage s next)
    turns-sound stage next off row.polls_again = record { names = staged s _ w; polls = off }
    turns-sound stage next off (row.starts _) = at s _ refl w
    turns-sound stage next off (row.is_named _) = at s _ refl w
    turns-sound stage next off row.unfollowed = at s _ refl w
    turns-sound stage next off (row.frees _) = at s _ refl w
    turns-sound stage next off row.frees_on = at s _ refl w
    turns-sound stage next off row.has_finished = at s _ refl w

    step-sound : (stage : Stage) (v : TrussState) → (is_polling stage ≡ true → s.leaving ≡ false)
        → ReplyStep s r stage v → IsSound o Q v
    step-sound stage v off (row.settles {u = u} it goes) = on (settles-names stage _ u it) goes
    step-sound stage v off (row.looks {u = u} it ends) = over (looks-names stage _ _ u it) ends
    step-sound stage v off (row.asks _ _ _ _) = at s _ refl w
    step-sound stage v off (row.closes {u = u} it) = at u _ refl (closes-names stage _ _ u it)
    step-sound stage v off (row.loses {place = place} {t = t} is) =
        at _ _ refl (with-marks place t (lost-marks (traced_at s place) t is))
    step-sound stage v off (row.opens {pid = pid} _ row.new_given) = opened pid _ refl
    step-sound stage v off (row.opens {pid = pid} _ row.new_child) = opened pid _ refl
    step-sound stage v off (row.learns {place = place} {t = t} _ it) = learns-sound stage place t _ it
    step-sound stage v off (row.returns {u = u} it) = at u _ refl (returns-names stage _ u it)
    step-sound stage v off (row.turns it) = turns-sound stage _ off it

  fed-sound : (s : TrussState) (r : Reply) → IsSound o Q s → IsSound o Q (fed s r)
  fed-sound s r w = step-sound s r w.names s.stage (fed s r) w.polls (fed-step s r)

  -- the reply at a stage, which is another one of the same kind than without functions
  plain-sound : (s : TrussState) (r : Reply) (stage : Stage) → s.stage ≡ stage → IsSound o Q s
      → IsSound o Q (with_reply s r stage)
  unfolding fed
  plain-sound s r stage is w = subst (λ st. IsSound o Q (with_reply s r st)) is (fed-sound s r w)

  -- ---- stops

  over-sound : (u : TrussState) (place : ℕ) → Names o Q u → IsSound o Q (with_stop_over u place)
  over-sound u place w = over w (stop-over u place)

  event-over-sound : (u : TrussState) (place : ℕ) (l : LwpStatus) → Names o Q u
      → IsSound o Q (with_event_over u place l)
  event-over-sound u place l w = over w (event-over u place l)

  shown-sound : (u : TrussState) (place : ℕ) (l : LwpStatus) (range : Option (ℕ × ℕ)) → Names o Q u
      → IsSound o Q (with_text_or_shown u place l range)
  unfolding with_event_shown
  shown-sound u place l None w = event-over-sound (with_event_shown u place l None) place l (reported u _ w)
  shown-sound u place l (Some range) w = at u _ refl w

  event-sound : (u : TrussState) (place : ℕ) (l : LwpStatus) (e : Option Event) → Names o Q u
      → IsSound o Q (with_event u place l e)
  event-sound u place l None w = over-sound u place w
  event-sound u place l (Some e) w =
      either (is_selected u.options e) _ _ (shown-sound u place l (asked_range u.options e) w)
      (event-over-sound u place l w)

  old-sound : (u : TrussState) (place : ℕ) → Names o Q u → IsSound o Q (with_old_stop_over u place)
  unfolding with_old_stop_over
  old-sound u place w = over-sound _ place (old u place w)

  stop-sound : (u : TrussState) (place : ℕ) (l : LwpStatus) → Names o Q u → IsSound o Q (with_stop u place l)
  unfolding with_stop
  stop-sound u place l w =
      either _ _ _ (over-sound u place w)
      (either (nat_lt 0 (traced_at u place).old) _ _ (old-sound u place w)
      (either (traced_at u place).seen _ _ (over-sound u place w) (event-sound u place l (event_of l) w)))

  -- ---- patches

  patching-below : (place : ℕ) (plants lifts : List Bool) (clear : Bool) → AreBelow n plants → AreBelow n lifts
      → AsideIsBelow n (patching place plants lifts clear)
  unfolding patching
  patching-below place plants lifts clear p l =
      elim (is_some (first_function plants) || is_some (first_function lifts) || clear)
      as (λ b. AsideIsBelow n (cond b (Patching place plants lifts clear) Nothing)) [ true ↦ (p, l) | false ↦ tt ]

  patched : (u : TrussState) (place : ℕ) (plants lifts : List Bool) → AreBelow n plants → AreBelow n lifts
      → IsSound o Q u → IsSound o Q (with_patches u place plants lifts)
  unfolding with_patches
  patched u place plants lifts p l w = sound-beside u _ (patching-below place plants lifts false p l) w

  marks-here : (u : TrussState) (place : ℕ) → Names o Q u → MarksAreBelow n Q (marks_at u place)
  marks-here u place w = w.marks place

  lifted : (u : TrussState) (place : ℕ) (clear : Bool) → IsSound o Q u → IsSound o Q (with_lifts u place clear)
  unfolding with_lifts
  lifted u place clear w =
      let m = marks-here u place w.names in
      sound-beside u _ (patching-below place no_functions (marks_at u place).planted clear
      (none-below n function_limit) m.planted) w

  lifted-at : (u : TrussState) (place : ℕ) (stage : Stage) → IsSound o Q u → IsSound o Q (lifts_at u place stage)
  lifted-at u place (Closing closed next) w = lifted u place false w
  lifted-at u place _ w = w

  before-closing : (u : TrussState) (place : ℕ) → IsSound o Q u → IsSound o Q (with_lifts_before_closing u place)
  unfolding with_lifts_before_closing
  before-closing u place w = lifted-at u place u.stage w

  -- ---- stops with breakpoints

  -- the function of an event is one of the options
  abbrev pub EventIsBelow : FunctionEvent → Type 0
  EventIsBelow (AtBreakpoint function) = function < n
  EventIsBelow event = Unit {0}

  standing-below : (m : Marks) (place : Option ℕ) → ((i : ℕ) → place ≡ Some i → i < n)
      → EventIsBelow (breakpoint_event (option_and_then (if_standing m) place))
  standing-below m None within = tt
  standing-below m (Some i) within =
      elim (has_function (standing m) i) as (λ b. EventIsBelow (breakpoint_event (cond b (Some i) None)))
      [ true ↦ within i refl | false ↦ tt ]

  breakpoint-below : (m : Marks) (pc : ℕ) → EventIsBelow (breakpoint_event (function_at o m pc))
  unfolding function_at
  breakpoint-below m pc =
      standing-below m (position (begins_at pc) o.functions)
      (λ i is. position-within (begins_at pc) o.functions i is)

  trap-below : (step : Option Stepped) (id : ℕ) → EventIsBelow (trap_event step id)
  trap-below None id = tt
  trap-below (Some step) id =
      elim (step.lwp == id) as (λ b. EventIsBelow (cond b (Completed step) TraceTrap)) [ true ↦ tt | false ↦ tt ]

  fault-below : (m : Marks) (id : ℕ) (f : Flt) (pc : ℕ) → EventIsBelow (fault_event o m id f pc)
  fault-below m id Bpt pc = breakpoint-below m pc
  fault-below m id Trace pc = trap-below m.stepped id
  fault-below m id _ pc = tt

  choice-below : (b : Bool) (u v : FunctionEvent) → EventIsBelow u → EventIsBelow v → EventIsBelow (cond b u v)
  choice-below true u v p q = p
  choice-below false u v p q = q

  function-event-below : (m : Marks) (id : ℕ) (e : Event) → EventIsBelow (function_event o m id e)
  unfolding function_event
  function-event-below m id (event.Entered call arguments) = choice-below (copies_memory call) BeforeCopy Other tt tt
  function-event-below m id (event.Left call arguments result) =
      choice-below (copies_memory call) (left_event call result) Other
      (choice-below (keeps_memory call result) AfterCopy Replaced tt tt) tt
  function-event-below m id (event.Received signal disposition info) = tt
  function-event-below m id (event.Incurred fault pc) = fault-below m id fault pc

  standing-marks : (m : Marks) → MarksAreBelow n Q m → AreBelow n (standing m)
  unfolding standing
  standing-marks m w = step-below n Q m.stepped m.planted w.stepped w.planted

  back-marks : (m : Marks) → MarksAreBelow n Q m → AreBelow n (put_back m)
  unfolding put_back
  back-marks m w = step-below n Q m.stepped no_functions w.stepped (none-below n function_limit)

  function-event-sound : (u : TrussState) (place : ℕ) (l : LwpStatus) (e : FunctionEvent) → Names o Q u
      → EventIsBelow e → ((function : ℕ) → e ≡ AtBreakpoint function → Q (step_of l function))
      → IsSound o Q (with_function_event u place l e)
  unfolding with_function_event with_step_begun with_step_completed with_trap_over with_copy_begun with_copy_ended
      with_other_event with_memory_replaced with_call_shown step_of
  function-event-sound u place l (AtBreakpoint function) w below met =
      let m = marks-here u place w in
      patched _ place _ _ (back-marks (marks_at u place) m)
      (more-below n no_functions function below (none-below n function_limit))
      (over-sound _ place (marked u place (record (marks_at u place) {
        stepped = Some (step_of l function);
        flags = union_word clear_fault single_step;
      }) (record {
        planted = m.planted;
        lifted = m.lifted;
        stepped = (below, met function refl);
        flags = stepping-flags;
      }) w))
  function-event-sound u place l (Completed step) w below met =
      let m = marks-here u place w in
      patched _ place _ _ (back-marks (marks_at u place) m) (none-below n function_limit)
      (over-sound _ place
      (reported _ _ (marked u place (record (marks_at u place) { stepped = None; flags = clear_fault })
      (record { planted = m.planted; lifted = m.lifted; stepped = tt; flags = inr refl }) w)))
  function-event-sound u place l TraceTrap w below met =
      let m = marks-here u place w in
      over-sound _ place (marked u place (record (marks_at u place) { flags = clear_fault })
      (record { planted = m.planted; lifted = m.lifted; stepped = m.stepped; flags = inr refl }) w)
  function-event-sound u place l BeforeCopy w below met =
      let m = marks-here u place w in
      patched _ place _ _ (none-below n function_limit) m.planted
      (stop-sound _ place l (marked u place (record (marks_at u place) {
        lifted = standing (marks_at u place);
        stepped = None;
        flags = single_step;
      }) (record {
        planted = m.planted;
        lifted = standing-marks (marks_at u place) m;
        stepped = tt;
        flags = inr refl;
      }) w))
  function-event-sound u place l AfterCopy w below met =
      let m = marks-here u place w in
      patched _ place _ _ (step-below n Q (marks_at u place).stepped (marks_at u place).lifted m.stepped m.lifted)
      (none-below n function_limit)
      (stop-sound _ place l (marked u place (record (marks_at u place) { lifted = no_functions; stepped = None })
      (record { planted = m.planted; lifted = none-below n function_limit; stepped = tt; flags = m.flags }) w))
  function-event-sound u place l Replaced w below met =
      stop-sound _ place l (marked u place no_marks (no-marks-below n Q) w)
  function-event-sound u place l Other w below met =
      let m = marks-here u place w in
      patched _ place _ _ (back-marks (marks_at u place) m) (none-below n function_limit)
      (stop-sound _ place l (marked u place (record (marks_at u place) { stepped = None })
      (record { planted = m.planted; lifted = m.lifted; stepped = tt; flags = m.flags }) w))

  last-event-sound : (u : TrussState) (place : ℕ) (l : LwpStatus) (e : FunctionEvent) → Names o Q u
      → IsSound o Q (with_last_event u place l e)
  unfolding with_last_event with_memory_replaced with_call_shown
  last-event-sound u place l (AtBreakpoint function) w = lifted _ place true (over-sound u place w)
  last-event-sound u place l (Completed step) w = lifted _ place true (over-sound _ place (reported u _ w))
  last-event-sound u place l TraceTrap w = lifted _ place true (over-sound u place w)
  last-event-sound u place l BeforeCopy w = before-closing _ place (stop-sound u place l w)
  last-event-sound u place l AfterCopy w = before-closing _ place (stop-sound u place l w)
  last-event-sound u place l Replaced w =
      before-closing _ place (stop-sound _ place l (marked u place no_marks (no-marks-below n Q) w))
  last-event-sound u place l Other w = before-closing _ place (stop-sound u place l w)

  last-stop-sound : (u : TrussState) (place : ℕ) (l : LwpStatus) → Names o Q u → IsSound o Q (with_last_stop u place l)
  unfolding with_last_stop
  last-stop-sound u place l w = lifted _ place _ (stop-sound u place l w)

  pub event-of-options : (u : TrussState) (place : ℕ) (l : LwpStatus) (e : Event) → Names o Q u
      → EventIsBelow (function_event u.options (marks_at u place) l.id e)
  event-of-options u place l e w =
      subst (λ opts. EventIsBelow (function_event opts (marks_at u place) l.id e)) (sym w.options)
      (function-event-below (marks_at u place) l.id e)

  -- where the lwp stands at a breakpoint, the step over it is one of which this is so
  abbrev pub Meets : TrussState → ℕ → LwpStatus → Type 0
  Meets u place l =
      (e : Event) (function : ℕ) → fresh_event (traced_at u place) l ≡ Some e
      → function_event u.options (marks_at u place) l.id e ≡ AtBreakpoint function → Q (step_of l function)

  fresh-sound : (u : TrussState) (place : ℕ) (l : LwpStatus) (e : Option Event)
      → fresh_event (traced_at u place) l ≡ e → Meets u place l → Names o Q u
      → IsSound o Q (with_fresh_event u place l e)
  fresh-sound u place l None is meets w =
      either u.leaving _ _ (last-stop-sound u place l w) (stop-sound u place l w)
  fresh-sound u place l (Some e) is meets w =
      either u.leaving _ _ (last-event-sound u place l (function_event u.options (marks_at u place) l.id e) w)
      (function-event-sound u place l (function_event u.options (marks_at u place) l.id e) w
      (event-of-options u place l e w) (λ function at_breakpoint. meets e function is at_breakpoint))

  function-stop-sound : (u : TrussState) (place : ℕ) (l : Option LwpStatus)
      → ((st : LwpStatus) → l ≡ Some st → Meets u place st) → Names o Q u
      → IsSound o Q (with_function_stop_read u place l)
  unfolding with_function_stop
  function-stop-sound u place None meets w =
      either u.leaving _ _ (lifted _ place false (over-sound u place w)) (over-sound u place w)
  function-stop-sound u place (Some l) meets w =
      fresh-sound u place l (fresh_event (traced_at u place) l) refl (meets l refl) w

  -- ---- opening

  next-function-sound : (u : TrussState) (place function : ℕ) → IsSound o Q u
      → IsSound o Q (with_next_function u place function)
  unfolding with_next_function
  next-function-sound u place function w =
      by (nat_lt function (length u.options.functions)) refl
    where
      by : (b : Bool) → nat_lt function (length u.options.functions) ≡ b
          → IsSound o Q (cond b (with_aside u (Reading place function)) (with_aside u Nothing))
      by true is =
          sound-beside u (Reading place function)
          (subst (λ (opts : Options). function < length opts.functions) w.names.options
          (ltb-true function (length u.options.functions) is)) w
      by false is = sound-beside u Nothing tt w

  refused-step-sound : (u : TrussState) (place : ℕ) (errno : Errno) → Names o Q u
      → IsSound o Q (with_refused_step u place errno)
  unfolding with_refused_step
  refused-step-sound u place errno w = at _ _ refl (reported u _ w)

  refused-opening-sound : (u : TrussState) (place : ℕ) (errno : Errno) → Names o Q u
      → IsSound o Q (with_refused_opening u place errno)
  unfolding with_refused_opening
  refused-opening-sound u place errno w = lifted _ place false (refused-step-sound u place errno w)

  functions-begun-sound : (u : TrussState) (place : ℕ) (step : OpeningStep) → IsSound o Q u
      → IsSound o Q (with_functions_begun u place step)
  functions-begun-sound u place opening.TraceExits w = next-function-sound u place 0 w
  functions-begun-sound u place _ w = w

  at-step-sound : (u : TrussState) (place : ℕ) (step : Option OpeningStep) → Names o Q u
      → IsSound o Q (at_step u place step)
  at-step-sound u place None w = on w (opens-next u)
  at-step-sound u place (Some now) w = at u _ refl w

  function-step-sound : (u : TrussState) (place : ℕ) (step : OpeningStep) (r : Reply) (a : Answer) → Names o Q u
      → IsSound o Q (with_function_step_answered u place step r a)
  unfolding with_function_step_answered with_step_done
  function-step-sound u place now r Accepted w =
      functions-begun-sound _ place now
      (at-step-sound _ place (step_after u.options r now) (with-marks u r w place (learnt (traced_at u place) r now)
      (learnt-marks (traced_at u place) r now)))
  function-step-sound u place now r Interrupted w = seen-interrupts u place w
  function-step-sound u place now r Gone w = refused-step-sound u place Noent w
  function-step-sound u place now r (Refused errno) w = refused-opening-sound u place errno w

  code-read-sound : (u : TrussState) (place function : ℕ) (bytes : Option (List ℕ)) → function < n → IsSound o Q u
      → IsSound o Q (with_code_read u place function bytes)
  unfolding with_code_read
  code-read-sound u place function bytes below w =
      either (is_to_plant u.options function bytes) _ _ (sound-beside u _ below w)
      (next-function-sound u place (function + 1) w)

  code-answered-sound : (u : TrussState) (place function : ℕ) (r : Reply) (a : Answer) → function < n → IsSound o Q u
      → IsSound o Q (with_code_answered u place function r a)
  unfolding with_code_answered
  code-answered-sound u place function r Accepted below w = code-read-sound u place function (bytes_in r) below w
  code-answered-sound u place function r Interrupted below w = seen-interrupts u place w.names
  code-answered-sound u place function r Gone below w = refused-step-sound u place Noent w.names
  code-answered-sound u place function r (Refused errno) below w = refused-opening-sound u place errno w.names

  planted-names : (u : TrussState) (place function : ℕ) → function < n → Names o Q u
      → Names o Q (with_planted u place function)
  planted-names u place function below w =
      let m = marks-here u place w in
      marked u place (record (marks_at u place) { planted = _ }) (record {
        planted = more-below n (marks_at u place).planted function below m.planted;
        lifted = m.lifted;
        stepped = m.stepped;
        flags = m.flags;
      }) w

  unplanted-names : (u : TrussState) (place function : ℕ) → Names o Q u → Names o Q (without_planted u place function)
  unplanted-names u place function w =
      let m = marks-here u place w in
      marked u place (record (marks_at u place) { planted = _ }) (record {
        planted = less-below n (marks_at u place).planted function m.planted;
        lifted = m.lifted;
        stepped = m.stepped;
        flags = m.flags;
      }) w

  planted-sound : (u : TrussState) (place function : ℕ) → function < n → IsSound o Q u
      → IsSound o Q (with_planted u place function)
  planted-sound u place function below w = record {
    names = planted-names u place function below w.names;
    polls = w.polls;
  }

  unplanted-sound : (u : TrussState) (place function : ℕ) → IsSound o Q u
      → IsSound o Q (without_planted u place function)
  unplanted-sound u place function w = record { names = unplanted-names u place function w.names; polls = w.polls }

  plant-answered-sound : (u : TrussState) (place function : ℕ) (a : Answer) → function < n → IsSound o Q u
      → IsSound o Q (with_plant_answered u place function a)
  unfolding with_plant_answered
  plant-answered-sound u place function Accepted below w =
      next-function-sound _ place (function + 1) (planted-sound u place function below w)
  plant-answered-sound u place function Interrupted below w = seen-interrupts u place w.names
  plant-answered-sound u place function Gone below w = refused-step-sound u place Noent w.names
  plant-answered-sound u place function (Refused errno) below w = refused-opening-sound u place errno w.names

  -- ---- planting again and lifting

  pending-names : (u : TrussState) → Names o Q u → Names o Q (with_pending_told u)
  unfolding with_pending_told
  pending-names u w = like u (record u { reports = _ }) refl refl refl w

  after-patch-sound : (u : TrussState) (rest : Aside) (place : ℕ) (stage : Stage) (a : Answer) → AsideIsBelow n rest
      → IsSound o Q u → IsSound o Q (after_patch u rest place stage a)
  unfolding after_patch
  after-patch-sound u rest place (Closing closed OpenNext) a below w = sound-beside u rest below w
  after-patch-sound u rest place (Closing closed GoOn) Gone below w = at u _ refl w.names
  after-patch-sound u rest place (Closing closed GoOn) _ below w = sound-beside u rest below w
  after-patch-sound u rest place (Closing closed (RunParent parent)) Gone below w = at u _ refl w.names
  after-patch-sound u rest place (Closing closed (RunParent parent)) _ below w = sound-beside u rest below w
  after-patch-sound u rest place _ Accepted below w = sound-beside u rest below w
  after-patch-sound u rest place _ (Refused errno) below w = sound-beside u rest below w
  after-patch-sound u rest place _ Gone below w = at _ _ refl (pending-names u w.names)
  after-patch-sound u rest place _ Interrupted below w = seen-interrupts _ place (pending-names u w.names)

  planted-if-sound : (u : TrussState) (place function : ℕ) (a : Answer) → function < n → IsSound o Q u
      → IsSound o Q (planted_if u place function a)
  planted-if-sound u place function Accepted below w = planted-sound u place function below w
  planted-if-sound u place function _ below w = w

  after-first-sound : (u : TrussState) (place : ℕ) (plants lifts : List Bool) (clear : Bool) (a : Answer)
      (plant lift : Option ℕ) → AreBelow n plants → AreBelow n lifts → ((i : ℕ) → plant ≡ Some i → i < n)
      → IsSound o Q u → IsSound o Q (after_first u place plants lifts clear a plant lift)
  after-first-sound u place plants lifts clear a (Some function) lift p l within w =
      after-patch-sound (planted_if u place function a) _ place u.stage a
      (patching-below place (without_function plants function) lifts clear (less-below n plants function p) l)
      (planted-if-sound u place function a (within function refl) w)
  after-first-sound u place plants lifts clear a None (Some function) p l within w =
      after-patch-sound (without_planted u place function) _ place u.stage a
      (patching-below place plants (without_function lifts function) clear p (less-below n lifts function l))
      (unplanted-sound u place function w)
  after-first-sound u place plants lifts clear a None None p l within w =
      after-patch-sound u Nothing place u.stage a tt w

  patch-answered-sound : (u : TrussState) (place : ℕ) (plants lifts : List Bool) (clear : Bool) (a : Answer)
      → AreBelow n plants → AreBelow n lifts → IsSound o Q u
      → IsSound o Q (with_patch_answered u place plants lifts clear a)
  unfolding with_patch_answered
  patch-answered-sound u place plants lifts clear a p l w =
      after-first-sound u place plants lifts clear a (first_function plants) (first_function lifts) p l
      (λ i is. first-below n plants i p is) w

  -- ---- leaving

  halt-sound : (u : TrussState) (r : Reply) (a : Answer) → Names o Q u → IsSound o Q (with_halt_answered u r a)
  unfolding with_halt_answered
  halt-sound u r Accepted w = sound-beside _ (AwaitingStop (until_in r)) tt (at u ReadingLwps refl w)
  halt-sound u r Interrupted w = sound-beside _ Asking tt (at u ReadingLwps refl w)
  halt-sound u r (Refused errno) w = at u _ refl w
  halt-sound u r Gone w = at u _ refl w

  wait-sound : (u : TrussState) (a : Answer) → IsSound o Q u → IsSound o Q (with_wait_answered u a)
  unfolding with_wait_answered
  wait-sound u Accepted w = w
  wait-sound u Interrupted w = sound-beside u Asking tt w
  wait-sound u (Refused errno) w = w
  wait-sound u Gone w = at u _ refl w.names

  asking-sound : (u : TrussState) (r : Reply) (a : Answer) → IsSound o Q u → IsSound o Q (with_asking_answered u r a)
  unfolding with_asking_answered
  asking-sound u r Accepted w = sound-beside u (AwaitingAgain (until_in r)) tt w
  asking-sound u r Interrupted w = sound-beside u Asking tt w
  asking-sound u r (Refused errno) w = w
  asking-sound u r Gone w = at u _ refl w.names

  -- ---- the reply

  -- PCRUN is answered, of a process with these marks
  run-answered : (s : TrussState) (r : Reply) (place : ℕ) (a : Answer) → answer_of r ≡ a → s.stage ≡ Running place
      → IsSound o Q s → IsSound o Q (with_run_answered s place a)
  unfolding with_reply
  run-answered s r place a is at_stage w =
      subst (λ b. IsSound o Q (with_run_answered s place b)) is (plain-sound s r (Running place) at_stage w)

  module _ (s : TrussState) (r : Reply) (w : IsSound o Q s)
      (meets : (place : ℕ) (l : LwpStatus) → TellsOf r l → Meets s place l) where
    unflagged : (place : ℕ) (a : Answer) → answer_of r ≡ a → s.stage ≡ Running place
        → IsSound o Q (with_run_answered (with_marks s place (record (marks_at s place) { flags = 0 })) place a)
    unflagged place a is at_stage =
        let m = marks-here s place w.names in
        run-answered (with_marks s place (record (marks_at s place) { flags = 0 })) r place a is at_stage (record {
          names = marked s place (record (marks_at s place) { flags = 0 })
              (record { planted = m.planted; lifted = m.lifted; stepped = m.stepped; flags = inl refl }) w.names;
          polls = w.polls;
        })

    status-sound : (place : ℕ) (a : Answer) → answer_of r ≡ a → s.stage ≡ ReadingStatus place
        → IsSound o Q (with_function_status_answered s place r a)
    unfolding with_function_status_answered with_reply
    status-sound place Accepted is at_stage =
        function-stop-sound s place (option_and_then status_lwp (bytes_in r))
        (λ st told. meets place st (in_status told)) w.names
    status-sound place (Refused errno) is at_stage =
        subst (λ a. IsSound o Q (with_status_answered s place r a)) is
        (plain-sound s r (ReadingStatus place) at_stage w)
    status-sound place Gone is at_stage =
        subst (λ a. IsSound o Q (with_status_answered s place r a)) is
        (plain-sound s r (ReadingStatus place) at_stage w)
    status-sound place Interrupted is at_stage =
        subst (λ a. IsSound o Q (with_status_answered s place r a)) is
        (plain-sound s r (ReadingStatus place) at_stage w)

    text-sound : (place : ℕ) (l : LwpStatus) (from len : ℕ) (a : Answer) → s.stage ≡ ReadingText place l from len
        → IsSound o Q (after_function_text s (with_text_answered s place l len r) place a)
    unfolding with_reply
    text-sound place l from len Gone at_stage = plain-sound s r (ReadingText place l from len) at_stage w
    text-sound place l from len _ at_stage =
        let shown = plain-sound s r (ReadingText place l from len) at_stage w in
        either s.leaving _ _ (lifted _ place false shown) shown

    run-sound : (place : ℕ) (a : Answer) → answer_of r ≡ a → s.stage ≡ Running place
        → IsSound o Q (with_function_run_answered s place a)
    unfolding with_function_run_answered
    run-sound place Interrupted is at_stage = run-answered s r place Interrupted is at_stage w
    run-sound place Accepted is at_stage = unflagged place Accepted is at_stage
    run-sound place (Refused errno) is at_stage = unflagged place (Refused errno) is at_stage
    run-sound place Gone is at_stage = unflagged place Gone is at_stage

    lwps-sound : (a : Answer) → IsSound o Q (with_function_lwps_answered s r a)
    unfolding with_function_lwps_answered
    lwps-sound Accepted =
        function-stop-sound s 0 (slice_get (event_stops (bytes_in r)) 0) (λ st told. meets 0 st (in_lstatus told))
        w.names
    lwps-sound (Refused errno) = lifted _ 0 false (at s _ refl w.names)
    lwps-sound Interrupted = lifted _ 0 false (at s _ refl w.names)
    lwps-sound Gone = at s _ refl w.names

    function-reply-sound : (stage : Stage) → s.stage ≡ stage → IsSound o Q (with_function_reply s r stage)
    unfolding with_function_reply with_function_text_answered
    function-reply-sound (Opening place step) is = function-step-sound s place step r (answer_of r) w.names
    function-reply-sound (ReadingStatus place) is = status-sound place (answer_of r) refl is
    function-reply-sound (ReadingText place l from len) is = text-sound place l from len (answer_of r) is
    function-reply-sound (Running place) is = run-sound place (answer_of r) refl is
    function-reply-sound Unfollowing is = halt-sound s r (answer_of r) w.names
    function-reply-sound ReadingLwps is = lwps-sound (answer_of r)
    function-reply-sound stage is = plain-sound s r stage is w

    idle-beside : IsSound o Q (with_aside s Nothing)
    idle-beside = sound-beside s Nothing tt w

    aside-sound : (aside : Aside) → AsideIsBelow n aside → IsSound o Q (with_aside_answered s r aside)
    unfolding with_aside_answered
    aside-sound Nothing below = function-reply-sound s.stage refl
    aside-sound (Reading place function) below =
        code-answered-sound (with_aside s Nothing) place function r (answer_of r) below idle-beside
    aside-sound (Planting place function) below =
        plant-answered-sound (with_aside s Nothing) place function (answer_of r) below idle-beside
    aside-sound (Patching place plants lifts clear) below =
        patch-answered-sound (with_aside s Nothing) place plants lifts clear (answer_of r) below.0 below.1 idle-beside
    aside-sound (AwaitingStop until) below = wait-sound (with_aside s Nothing) (answer_of r) idle-beside
    aside-sound Asking below = asking-sound (with_aside s Nothing) r (answer_of r) idle-beside
    aside-sound (AwaitingAgain until) below = wait-sound (with_aside s Nothing) (answer_of r) idle-beside

    pub function-sound : IsSound o Q (fed_functions s r)
    unfolding fed_functions
    function-sound =
        either (has_functions s.options) _ _ (aside-sound s.aside w.names.aside) (fed-sound s r w)

  -- ---- the first state

  nothing-traced : Everywhere (MarksOf o Q) []
  unfolding newly_traced
  nothing-traced place = no-marks-below n Q

  idle-names : Names o Q (idle o)
  idle-names = record { options = refl; marks = nothing-traced; aside = tt }

  first-opening : (pid : Option ℕ) → IsSound o Q (opening_or (idle o) (idle o) pid)
  first-opening None = record { names = idle-names; polls = λ is. absurd (false≢true is) }
  first-opening (Some pid) = record {
    names = like (idle o) (record (idle o) { stage = _; begun = _ }) refl refl refl idle-names;
    polls = λ is. absurd (false≢true is);
  }

  first-program : (program : Option (List ℕ)) → IsSound o Q (first_of_program o program)
  first-program None = first-opening (slice_get o.pids 0)
  first-program (Some program) = at (idle o) _ refl idle-names

  pub first-sound : IsSound o Q (first_truss o)
  unfolding first_truss
  first-sound = first-program o.program
