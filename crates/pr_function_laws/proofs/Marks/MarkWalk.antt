use Rattle.std.proofs.Common.{◌≡◌, ◌||◌, ◌<◌, ◌+◌, ℕ, zero, suc, Bool, true, false, cond, is_some, nat_lt, Option, Some, None, List, [], ◌∷◌, ◌++◌, length, position, refl, sym, subst, ap, ◌∙◌, inl, inr, arith}
use Rattle.std.proofs.lemmas.Bool.{and_parts, cases_eq, cases_lt}
use Rattle.std.proofs.lemmas.List.{get_or_past, get_or_push, get_or-set_other, length-set}
use Rattle.std.proofs.lemmas.Option.{none-some, same_Some}
use Rattle.std.specs.List.{remove, slice_get, slice_set}
use Rattle.std.specs.Option.{option_and_then}
use Rattle.pr_line.specs.Events.{event_of}
use Rattle.pr_line.specs.Selections.{is_selected}
use Rattle.pr_line.specs.declared.events.Event.{Event}
use Rattle.pr_line.specs.declared.options.Options.{Options}
use Rattle.pr_model.specs.Replies.{bytes_in, handle_in, until_in}
use Rattle.pr_model.specs.declared.calls.Reply.{Reply}
use Rattle.pr_num.specs.Control.{clear_fault, single_step}
use Rattle.pr_num.specs.Sets.{union_word}
use Rattle.pr_num.specs.declared.errnos.Errno.{Errno}
use Rattle.pr_num.specs.declared.errnos.Errno.TheVariants.{Noent}
use Rattle.pr_rec.specs.declared.lwps.LwpStatus.{LwpStatus}
use Rattle.pr_report_laws.proofs.Invariant.StandLemmas.{Each, EachBut, each-append}
use Rattle.pr_truss.specs.Asides.{lifts_at, marks_at, patching, with_aside, with_lifts, with_lifts_before_closing, with_marks, with_patches}
use Rattle.pr_truss.specs.Children.{child_learnt}
use Rattle.pr_truss.specs.Closings.{with_interrupt}
use Rattle.pr_truss.specs.Feeding.{fed, with_reply}
use Rattle.pr_truss.specs.FunctionEvents.{begins_at, fresh_event, function_event, step_of}
use Rattle.pr_truss.specs.FunctionFeeding.{after_first, after_patch, fed_functions, is_code, is_first_there, is_to_plant, with_aside_answered, with_asking_answered, with_code_answered, with_code_read, with_function_reply, with_function_step_answered, with_functions_begun, with_halt_answered, with_next_function, with_patch_answered, with_pending_told, with_plant_answered, with_refused_opening, with_wait_answered}
use Rattle.pr_truss.specs.FunctionStops.{after_function_text, with_call_shown, with_copy_begun, with_copy_ended, with_fresh_event, with_function_event, with_function_lwps_answered, with_function_run_answered, with_function_status_answered, with_function_stop, with_function_stop_read, with_function_text_answered, with_last_event, with_last_stop, with_memory_replaced, with_other_event, with_step_begun, with_step_completed, with_trap_over}
use Rattle.pr_truss.specs.Marks.{address_of, code_of, first_function, has_function, has_functions, no_functions, no_marks, put_back, standing, with_function, with_step, without_function}
use Rattle.pr_truss.specs.Openings.{at_step, learnt, step_after, with_refused_step, with_step_done, with_stop_seen}
use Rattle.pr_truss.specs.Processes.{newly_traced, without_last}
use Rattle.pr_truss.specs.Records.{event_stops, status_lwp}
use Rattle.pr_truss.specs.Replies.{answer_of}
use Rattle.pr_truss.specs.Stops.{asked_range, with_event, with_event_over, with_event_shown, with_old_stop_over, with_run_answered, with_status_answered, with_stop, with_stop_over, with_text_answered, with_text_or_shown}
use Rattle.pr_truss.specs.Trusses.{TrussState, first_of_program, first_truss, idle, nobody, opening_or, traced_at, with_opened, with_report, with_stage, with_traced, without_traced}
use Rattle.pr_truss.specs.declared.asides.Aside.{Aside}
use Rattle.pr_truss.specs.declared.asides.Aside.TheVariants.{Nothing, Reading, Planting, Patching, AwaitingStop, Asking, AwaitingAgain}
use Rattle.pr_truss.specs.declared.function_events.FunctionEvent.{FunctionEvent}
use Rattle.pr_truss.specs.declared.function_events.FunctionEvent.TheVariants.{Other, AtBreakpoint, Completed, TraceTrap, BeforeCopy, AfterCopy, Replaced}
use Rattle.pr_truss.specs.declared.marks.Marks.{Marks}
use Rattle.pr_truss.specs.declared.marks.Stepped.{Stepped}
use Rattle.pr_truss.specs.declared.processes.Traced.{Traced}
use Rattle.pr_truss.specs.declared.replies.Answer.{Answer}
use Rattle.pr_truss.specs.declared.replies.Answer.TheVariants.{Accepted, Interrupted, Gone, Refused}
use Rattle.pr_truss.specs.declared.reports.Report.{Report}
use Rattle.pr_truss.specs.declared.stages.AfterClosing.{AfterClosing}
use Rattle.pr_truss.specs.declared.stages.AfterClosing.TheVariants.{OpenNext, GoOn, RunParent}
use Rattle.pr_truss.specs.declared.stages.ChildStep.{ChildStep}
use Rattle.pr_truss.specs.declared.stages.ChildStep.TheVariants as child
use Rattle.pr_truss.specs.declared.stages.OpeningStep.{OpeningStep}
use Rattle.pr_truss.specs.declared.stages.OpeningStep.TheVariants as opening
use Rattle.pr_truss.specs.declared.stages.Stage.{Stage}
use Rattle.pr_truss.specs.declared.stages.Stage.TheVariants.{OpeningControl, Opening, ReadingStatus, ReadingText, OpeningChildControl, Running, Closing, Unfollowing, ReadingLwps}
use Rattle.pr_truss_laws.proofs.Files.HeldLemmas.{at_place, set-at}
use Rattle.pr_truss_laws.proofs.Replies.FedSteps.{event-over, fed-step, opens-next, seen-on, stop-over}
use Rattle.pr_truss_laws.proofs.Replies.ReplySteps as row
use Rattle.pr_truss_laws.proofs.Replies.ReplySteps.{Closes, GoesOn, IsStaged, Learns, Looks, ReplyStep, Returns, Settles, StopOver, Turns, leaving_now, old_less, on-staged, over-staged, seen_at}
use Rattle.pr_function_laws.proofs.Marks.FunctionSets.{has-with, has-without, not-in-none}
use Rattle.pr_function_laws.proofs.Marks.MetLemmas.{event-breaks}
use Rattle.pr_function_laws.proofs.NextCalls.ToPlant.{first-of}

-- One walk over all replies of a truss with functions, also where it was interrupted and leaves its processes: what is
-- so of each process, by its id, its control file and its marks, stays so, but where a breakpoint is planted or lifted,
-- an event is read, or it is run.

-- ---- sets of functions

module _ (P : ℕ → Type 0) where
  -- it is so of each function of a set
  abbrev pub AllIn : List Bool → Type 0
  AllIn set = (i : ℕ) → has_function set i ≡ true → P i

  pub record MarksIn (m : Marks) : Type 0 where
    pub planted : AllIn m.planted
    pub lifted : AllIn m.lifted
    pub stepped : (step : Stepped) → m.stepped ≡ Some step → P step.function

  -- and of each one that truss is to plant or to lift
  abbrev pub AsideIn : Aside → Type 0
  AsideIn (Planting q function) = P function
  AsideIn (Patching q plants lifts clear) = AllIn plants × AllIn lifts
  AsideIn aside = Unit {0}

  none-in : AllIn no_functions
  none-in i is = absurd (not-in-none i is)

  pub more-in : (set : List Bool) (i : ℕ) → AllIn set → P i → AllIn (with_function set i)
  more-in set i all here j is = elim (has-with set i j is) [
    | inl same ↦ subst P (sym same) here
    | inr has ↦ all j has
  ]

  pub less-in : (set : List Bool) (i : ℕ) → AllIn set → AllIn (without_function set i)
  less-in set i all j is = let x = has-without set i j is in all j x.has

  step-in : (set : List Bool) (o : Option Stepped) → AllIn set
      → ((step : Stepped) → o ≡ Some step → P step.function) → AllIn (with_step o set)
  step-in set None all here = all
  step-in set (Some step) all here = more-in set step.function all (here step refl)

  back-in : (m : Marks) → MarksIn m → AllIn (put_back m)
  unfolding put_back
  back-in m w = step-in no_functions m.stepped none-in w.stepped

  standing-in : (m : Marks) → MarksIn m → AllIn (standing m)
  unfolding standing
  standing-in m w = step-in m.planted m.stepped w.planted w.stepped

  pub no-marks-in : MarksIn no_marks
  no-marks-in = record {
    planted = none-in;
    lifted = none-in;
    stepped = λ step is. absurd (none-some step is);
  }

-- the marks of a process with an event of an lwp, before anything is planted or lifted
abbrev pub marks_then : Marks → LwpStatus → FunctionEvent → Marks
marks_then m l (AtBreakpoint function) =
    record m { stepped = Some (step_of l function); flags = union_word clear_fault single_step }
marks_then m l (Completed step) = record m { stepped = None; flags = clear_fault }
marks_then m l TraceTrap = record m { flags = clear_fault }
marks_then m l BeforeCopy = record m { lifted = standing m; stepped = None; flags = single_step }
marks_then m l AfterCopy = record m { lifted = no_functions; stepped = None }
marks_then m l Replaced = no_marks
marks_then m l Other = record m { stepped = None }

-- it is so of the functions of the marks then, if it is so of the one at whose breakpoint an lwp stands
pub then-in : (P : ℕ → Type 0) (m : Marks) (l : LwpStatus) (e : FunctionEvent) → MarksIn P m
    → ((function : ℕ) → e ≡ AtBreakpoint function → P function) → MarksIn P (marks_then m l e)
unfolding step_of
then-in P m l (AtBreakpoint function) w met = record {
  planted = w.planted;
  lifted = w.lifted;
  stepped = λ step is.
      subst P (ap (λ (x : Stepped). x.function) (same_Some (step_of l function) step is)) (met function refl);
}
then-in P m l (Completed step) w met =
    record { planted = w.planted; lifted = w.lifted; stepped = λ other is. absurd (none-some other is) }
then-in P m l TraceTrap w met = record { planted = w.planted; lifted = w.lifted; stepped = w.stepped }
then-in P m l BeforeCopy w met = record {
  planted = w.planted;
  lifted = standing-in P m w;
  stepped = λ other is. absurd (none-some other is);
}
then-in P m l AfterCopy w met = record {
  planted = w.planted;
  lifted = none-in P;
  stepped = λ other is. absurd (none-some other is);
}
then-in P m l Replaced w met = no-marks-in P
then-in P m l Other w met =
    record { planted = w.planted; lifted = w.lifted; stepped = λ other is. absurd (none-some other is) }

-- the breakpoints that a reply leaves planted, where these functions are the next to be planted and lifted
abbrev pub planted_after : List Bool → Answer → Option ℕ → Option ℕ → List Bool
planted_after planted Accepted (Some function) lift = with_function planted function
planted_after planted _ (Some function) lift = planted
planted_after planted answer None (Some function) = without_function planted function
planted_after planted answer None None = planted

-- ---- lists of processes

-- one process becomes another, if it is there
pub each-put : (S : Traced → Type 0) (ts : List Traced) (q : ℕ) (t : Traced) → EachBut S ts q → (q < length ts → S t)
    → Each S (slice_set ts q t)
each-put S ts q t others here place within =
    let inside : place < length ts = omega (arith, within, length-set ts q t) in
    elim (cases_eq place q) [
      | inl same ↦
          let there : q < length ts = subst (λ n. n < length ts) same inside in
          subst (λ n. S (at_place (slice_set ts q t) n)) (sym same) (subst S (sym (set-at ts q t there)) (here there))
      | inr apart ↦ subst S (sym (get_or-set_other ts q place t nobody apart)) (others place inside apart)
    ]

-- one process less, if it is there
each-drop : (S : Traced → Type 0) (ts : List Traced) (q : ℕ) → Each S ts → Each S (remove ts q)
each-drop S [] zero all place within = all place within
each-drop S [] (suc q) all place within = all place within
each-drop S (u ∷ us) zero all place within = all (suc place) (omega (arith, within))
each-drop S (u ∷ us) (suc q) all zero within = all zero (omega arith)
each-drop S (u ∷ us) (suc q) all (suc place) within =
    each-drop S us q (λ j inside. all (suc j) (omega (arith, inside))) place (omega (arith, within))

-- ---- the walk

module _ (o : Options) (P : ℕ → Type 0)
    (found : (pc function : ℕ) → position (begins_at pc) o.functions ≡ Some function → P function)
    (S : Traced → Type 0)
    (alike : (u v : Traced) → v.pid ≡ u.pid → v.control ≡ u.control → v.marks ≡ u.marks → S u → S v)
    (sets : (u : Traced) → S u → MarksIn P u.marks) where
  pub record Holds (u : TrussState) : Type 0 where
    pub options : u.options ≡ o
    pub each : Each S u.traced
    pub aside : AsideIn P u.aside

  marks-here : (u : TrussState) (place : ℕ) → Each S u.traced → MarksIn P (marks_at u place)
  unfolding newly_traced
  marks-here u place each = elim (cases_lt place (length u.traced)) [
    | inl within ↦ sets (traced_at u place) (each place within)
    | inr past ↦
        subst (λ (t : Traced). MarksIn P t.marks) (sym (get_or_past u.traced place nobody past)) (no-marks-in P)
  ]

  -- ---- edits

  like : (u v : TrussState) → v.options ≡ u.options → v.traced ≡ u.traced → v.aside ≡ u.aside → Holds u → Holds v
  like u v options traced aside w = record {
    options = options ∙ w.options;
    each = subst (Each S) (sym traced) w.each;
    aside = subst (AsideIn P) (sym aside) w.aside;
  }

  staged : (u : TrussState) (stage : Stage) → Holds u → Holds (with_stage u stage)
  staged u stage w = like u (with_stage u stage) refl refl refl w

  reported : (u : TrussState) (report : Report) → Holds u → Holds (with_report u report)
  reported u report w = like u (with_report u report) refl refl refl w

  leaves : (u : TrussState) → Holds u → Holds (leaving_now u)
  leaves u w = like u (leaving_now u) refl refl refl w

  put : (u : TrussState) (place : ℕ) (t : Traced) → (place < length u.traced → S t) → Holds u
      → Holds (with_traced u place t)
  put u place t here w = record {
    options = w.options;
    each = each-put S u.traced place t (λ i within other. w.each i within) here;
    aside = w.aside;
  }

  -- the same id, control file and marks
  kept : (u : TrussState) (place : ℕ) (t : Traced) → t.pid ≡ (traced_at u place).pid
      → t.control ≡ (traced_at u place).control → t.marks ≡ marks_at u place → Holds u
      → Holds (with_traced u place t)
  kept u place t pid control marks w =
      put u place t (λ within. alike (traced_at u place) t pid control marks (w.each place within)) w

  seen : (u : TrussState) (place : ℕ) → Holds u → Holds (seen_at u place)
  seen u place w = kept u place (record (traced_at u place) { seen = true }) refl refl refl w

  old : (u : TrussState) (place : ℕ) → Holds u → Holds (old_less u place)
  old u place w = kept u place (record (traced_at u place) { old = _ }) refl refl refl w

  marked : (u : TrussState) (place : ℕ) (m : Marks)
      → (place < length u.traced → S (record (traced_at u place) { marks = m })) → Holds u
      → Holds (with_marks u place m)
  marked u place m here w = put u place (record (traced_at u place) { marks = m }) here w

  removed : (u : TrussState) (place : ℕ) → Holds u → Holds (without_traced u place)
  removed u place w =
      record { options = w.options; each = each-drop S u.traced place w.each; aside = w.aside }

  beside : (u : TrussState) (a : Aside) → AsideIn P a → Holds u → Holds (with_aside u a)
  beside u a here w = record { options = w.options; each = w.each; aside = here }

  on : {u v : TrussState} {given : Bool} → Holds u → GoesOn u given v → Holds v
  on {u} w (row.finishes _) = staged u _ w
  on {u} w (row.polls off _) = staged u _ w
  on {u} w (row.unfollows _ _ _) = staged u _ w
  on {u} w (row.closes_first _ _ _) = staged u _ w
  on {u} w (row.opens_next {pid = pid} _) = like u (record u { stage = _; begun = _ }) refl refl refl w

  over : {u v : TrussState} {place : ℕ} {pid : Option ℕ} → Holds u → StopOver u place pid v → Holds v
  over {u} w (row.runs _) = staged u _ w
  over {u} w (row.leaves _) = staged u _ w
  over {u} w (row.opens_child _) = staged u _ w
  over {u} w (row.frees_child _) = staged u _ w

  seen-interrupts : (u : TrussState) (place : ℕ) → Holds u → Holds (with_interrupt (with_stop_seen u place))
  seen-interrupts u place w = on (leaves (seen_at u place) (seen u place w)) (seen-on u place)

  either : (b : Bool) (u v : TrussState) → Holds u → Holds v → Holds (cond b u v)
  either true u v p q = p
  either false u v p q = q

  -- ---- replies where nothing is said of functions

  learnt-as : (u : TrussState) (place : ℕ) (r : Reply) (step : OpeningStep) → Holds u
      → Holds (with_traced u place (learnt (traced_at u place) r step))
  unfolding learnt
  learnt-as u place r opening.OpenStatus w = kept u place _ refl refl refl w
  learnt-as u place r _ w = kept u place _ refl refl refl w

  child-as : (u : TrussState) (place : ℕ) (r : Reply) (step : ChildStep) → Holds u
      → Holds (with_traced u place (child_learnt (traced_at u place) r step))
  unfolding child_learnt
  child-as u place r child.SetRelease w = kept u place _ refl refl refl w
  child-as u place r _ w = kept u place _ refl refl refl w

  lost-as : (u : TrussState) (place : ℕ) (t : Traced) → without_last (traced_at u place) ≡ Some t → Holds u
      → Holds (with_traced u place t)
  unfolding without_last
  lost-as u place t is w = by (traced_at u place).memory (traced_at u place).lstatus (traced_at u place).status is
    where
      v : Traced
      v = traced_at u place

      made : (x : Traced) → x.pid ≡ v.pid → x.control ≡ v.control → x.marks ≡ v.marks → Some x ≡ Some t
          → Holds (with_traced u place t)
      made x pid control marks same =
          subst (λ (y : Traced). Holds (with_traced u place y)) (same_Some x t same)
          (kept u place x pid control marks w)

      by : (memory lstatus status : Option ℕ)
          → cond (is_some memory) (Some (record v { memory = None }))
          (cond (is_some lstatus) (Some (record v { lstatus = None }))
          (cond (is_some status) (Some (record v { status = None })) None)) ≡ Some t → Holds (with_traced u place t)
      by (Some m) lstatus status same = made _ refl refl refl same
      by None (Some l) status same = made _ refl refl refl same
      by None None (Some f) same = made _ refl refl refl same
      by None None None same = absurd (none-some t same)

  -- what is to be so of a process that is opened now
  abbrev pub NewSo : Reply → Stage → Type 0
  NewSo r (OpeningControl pid) = answer_of r ≡ Accepted → S (newly_traced pid (handle_in r))
  NewSo r (OpeningChildControl parent pid) = answer_of r ≡ Accepted → S (newly_traced pid (handle_in r))
  NewSo r stage = Unit {0}

  module _ (s : TrussState) (r : Reply) (w : Holds s) where
    settles-holds : (stage : Stage) (given : Bool) (u : TrussState) → Settles s r stage given u → Holds u
    settles-holds stage given u (row.interrupts_start _) = leaves s w
    settles-holds stage given u (row.interrupts_control _) = leaves s w
    settles-holds stage given u (row.interrupts_poll _) = leaves s w
    settles-holds stage given u (row.interrupts_status _) = leaves s w
    settles-holds stage given u (row.interrupts_opening _) = leaves _ (seen s _ w)
    settles-holds stage given u (row.interrupts_text _ _) = leaves _ (seen _ _ (reported s _ w))
    settles-holds stage given u (row.interrupts_child_control _) = leaves _ (seen s _ w)
    settles-holds stage given u (row.interrupts_child _) = leaves _ (seen s _ w)
    settles-holds stage given u (row.interrupts_run _) = leaves _ (seen s _ w)
    settles-holds stage given u (row.refuses_start _ _) = reported s _ w
    settles-holds stage given u (row.refuses_control _ _) = reported s _ w
    settles-holds stage given u (row.ends_opening {place = place} {now = now} _ _) = learnt-as s place r now w
    settles-holds stage given u row.ran = w
    settles-holds stage given u (row.closed_next _) = removed s _ w
    settles-holds stage given u (row.closed _) = removed s _ w

    looks-holds : (stage : Stage) (place : ℕ) (pid : Option ℕ) (u : TrussState) → Looks s r stage place pid u
        → Holds u
    looks-holds stage place pid u (row.passes _) = w
    looks-holds stage place pid u (row.passes_old _ _ _) = old s _ w
    looks-holds stage place pid u (row.passes_event _ _ _) = w
    looks-holds stage place pid u (row.shows _ _ _ _) = reported s _ w
    looks-holds stage place pid u row.shows_text = reported s _ w

    closes-holds : (stage : Stage) (place : ℕ) (next : AfterClosing) (u : TrussState) → Closes s r stage place next u
        → Holds u
    closes-holds stage place next u (row.text_ended _) = reported s _ w
    closes-holds stage place next u (row.refuses_free _ _) = reported s _ w
    closes-holds stage place next u (row.refuses_opening _ _) = reported s _ w
    closes-holds stage place next u (row.refuses_child _ _) = reported s _ w
    closes-holds stage place next u _ = w

    returns-holds : (stage : Stage) (parent : ℕ) (u : TrussState) → Returns s r stage parent u → Holds u
    returns-holds stage parent u (row.refuses_child_control _ _) = reported s _ w
    returns-holds stage parent u (row.child_runs _) = w
    returns-holds stage parent u (row.child_closed _) = removed s _ w

    opened : (pid : ℕ) (next : Stage) → S (newly_traced pid (handle_in r))
        → Holds (with_stage (with_opened s (newly_traced pid (handle_in r))) next)
    opened pid next so =
        let t : Traced = newly_traced pid (handle_in r) in
        let last : at_place (s.traced ++ t ∷ []) (length s.traced) ≡ t =
        get_or_push s.traced t nobody (length s.traced) refl in
        record {
          options = w.options;
          each = each-append S s.traced t w.each (subst S (sym last) so);
          aside = w.aside;
        }

    learns-holds : (stage : Stage) (place : ℕ) (t : Traced) (next : Stage) → Learns s r stage place t next
        → Holds (with_stage (with_traced s place t) next)
    learns-holds stage place t next (row.opening_goes {now = now} _) = staged _ _ (learnt-as s place r now w)
    learns-holds stage place t next (row.child_goes {now = now} _) = staged _ _ (child-as s place r now w)

    step-holds : (stage : Stage) (v : TrussState) → NewSo r stage → ReplyStep s r stage v → Holds v
    step-holds stage v new (row.settles {u = u} it goes) = on (settles-holds stage _ u it) goes
    step-holds stage v new (row.looks {u = u} it ends) = over (looks-holds stage _ _ u it) ends
    step-holds stage v new (row.asks _ _ _ _) = staged s _ w
    step-holds stage v new (row.closes {u = u} it) = staged u _ (closes-holds stage _ _ u it)
    step-holds stage v new (row.loses {place = place} {t = t} is) = staged _ _ (lost-as s place t is w)
    step-holds stage v new (row.opens {pid = pid} accepted row.new_given) = opened pid _ (new accepted)
    step-holds stage v new (row.opens {pid = pid} accepted row.new_child) = opened pid _ (new accepted)
    step-holds stage v new (row.learns {place = place} {t = t} _ it) = learns-holds stage place t _ it
    step-holds stage v new (row.returns {u = u} it) = staged u _ (returns-holds stage _ u it)
    step-holds stage v new (row.turns it) = staged s _ w

  -- the reply at a stage, which is another one of the same kind than without functions
  plain-holds : (s : TrussState) (r : Reply) (stage : Stage) → s.stage ≡ stage → NewSo r stage → Holds s
      → Holds (with_reply s r stage)
  unfolding fed
  plain-holds s r stage is new w =
      subst (λ st. Holds (with_reply s r st)) is
      (step-holds s r w s.stage (fed s r) (subst (NewSo r) (sym is) new) (fed-step s r))

  -- ---- stops

  over-holds : (u : TrussState) (place : ℕ) → Holds u → Holds (with_stop_over u place)
  over-holds u place w = over w (stop-over u place)

  event-over-holds : (u : TrussState) (place : ℕ) (l : LwpStatus) → Holds u → Holds (with_event_over u place l)
  event-over-holds u place l w = over w (event-over u place l)

  shown-holds : (u : TrussState) (place : ℕ) (l : LwpStatus) (range : Option (ℕ × ℕ)) → Holds u
      → Holds (with_text_or_shown u place l range)
  unfolding with_event_shown
  shown-holds u place l None w = event-over-holds (with_event_shown u place l None) place l (reported u _ w)
  shown-holds u place l (Some range) w = staged u _ w

  event-holds : (u : TrussState) (place : ℕ) (l : LwpStatus) (e : Option Event) → Holds u
      → Holds (with_event u place l e)
  event-holds u place l None w = over-holds u place w
  event-holds u place l (Some e) w =
      either (is_selected u.options e) _ _ (shown-holds u place l (asked_range u.options e) w)
      (event-over-holds u place l w)

  old-holds : (u : TrussState) (place : ℕ) → Holds u → Holds (with_old_stop_over u place)
  unfolding with_old_stop_over
  old-holds u place w = over-holds _ place (old u place w)

  stop-holds : (u : TrussState) (place : ℕ) (l : LwpStatus) → Holds u → Holds (with_stop u place l)
  unfolding with_stop
  stop-holds u place l w =
      either _ _ _ (over-holds u place w)
      (either (nat_lt 0 (traced_at u place).old) _ _ (old-holds u place w)
      (either (traced_at u place).seen _ _ (over-holds u place w) (event-holds u place l (event_of l) w)))

  -- ---- patches

  patching-in : (place : ℕ) (plants lifts : List Bool) (clear : Bool) → AllIn P plants → AllIn P lifts
      → AsideIn P (patching place plants lifts clear)
  unfolding patching
  patching-in place plants lifts clear p l =
      elim (is_some (first_function plants) || is_some (first_function lifts) || clear)
      as (λ b. AsideIn P (cond b (Patching place plants lifts clear) Nothing)) [ true ↦ (p, l) | false ↦ tt ]

  patched : (u : TrussState) (place : ℕ) (plants lifts : List Bool) → AllIn P plants → AllIn P lifts → Holds u
      → Holds (with_patches u place plants lifts)
  unfolding with_patches
  patched u place plants lifts p l w = beside u _ (patching-in place plants lifts false p l) w

  lifted : (u : TrussState) (place : ℕ) (clear : Bool) → Holds u → Holds (with_lifts u place clear)
  unfolding with_lifts
  lifted u place clear w =
      let m = marks-here u place w.each in
      beside u _ (patching-in place no_functions (marks_at u place).planted clear (none-in P) m.planted) w

  lifted-at : (u : TrussState) (place : ℕ) (stage : Stage) → Holds u → Holds (lifts_at u place stage)
  lifted-at u place (Closing closed next) w = lifted u place false w
  lifted-at u place _ w = w

  before-closing : (u : TrussState) (place : ℕ) → Holds u → Holds (with_lifts_before_closing u place)
  unfolding with_lifts_before_closing
  before-closing u place w = lifted-at u place u.stage w

  -- ---- stops with breakpoints

  -- what is to be so of a process with the marks of an event
  abbrev pub ThenSo : TrussState → ℕ → LwpStatus → FunctionEvent → Type 0
  ThenSo u place l e =
      place < length u.traced → S (record (traced_at u place) { marks = marks_then (marks_at u place) l e })

  function-event-holds : (u : TrussState) (place : ℕ) (l : LwpStatus) (e : FunctionEvent) → Holds u
      → ((function : ℕ) → e ≡ AtBreakpoint function → P function) → ThenSo u place l e
      → Holds (with_function_event u place l e)
  unfolding with_function_event with_step_begun with_step_completed with_trap_over with_copy_begun with_copy_ended
      with_other_event with_memory_replaced with_call_shown
  function-event-holds u place l (AtBreakpoint function) w met so =
      let m = marks-here u place w.each in
      patched _ place _ _ (back-in P (marks_at u place) m)
      (more-in P no_functions function (none-in P) (met function refl))
      (over-holds _ place (marked u place _ so w))
  function-event-holds u place l (Completed step) w met so =
      let m = marks-here u place w.each in
      patched _ place _ _ (back-in P (marks_at u place) m) (none-in P)
      (over-holds _ place (reported _ _ (marked u place _ so w)))
  function-event-holds u place l TraceTrap w met so = over-holds _ place (marked u place _ so w)
  function-event-holds u place l BeforeCopy w met so =
      let m = marks-here u place w.each in
      patched _ place _ _ (none-in P) m.planted (stop-holds _ place l (marked u place _ so w))
  function-event-holds u place l AfterCopy w met so =
      let m = marks-here u place w.each in
      patched _ place _ _ (step-in P (marks_at u place).lifted (marks_at u place).stepped m.lifted m.stepped)
      (none-in P) (stop-holds _ place l (marked u place _ so w))
  function-event-holds u place l Replaced w met so = stop-holds _ place l (marked u place _ so w)
  function-event-holds u place l Other w met so =
      let m = marks-here u place w.each in
      patched _ place _ _ (back-in P (marks_at u place) m) (none-in P)
      (stop-holds _ place l (marked u place _ so w))

  last-event-holds : (u : TrussState) (place : ℕ) (l : LwpStatus) (e : FunctionEvent) → Holds u → ThenSo u place l e
      → Holds (with_last_event u place l e)
  unfolding with_last_event with_memory_replaced with_call_shown
  last-event-holds u place l (AtBreakpoint function) w so = lifted _ place true (over-holds u place w)
  last-event-holds u place l (Completed step) w so = lifted _ place true (over-holds _ place (reported u _ w))
  last-event-holds u place l TraceTrap w so = lifted _ place true (over-holds u place w)
  last-event-holds u place l BeforeCopy w so = before-closing _ place (stop-holds u place l w)
  last-event-holds u place l AfterCopy w so = before-closing _ place (stop-holds u place l w)
  last-event-holds u place l Replaced w so =
      before-closing _ place (stop-holds _ place l (marked u place no_marks so w))
  last-event-holds u place l Other w so = before-closing _ place (stop-holds u place l w)

  last-stop-holds : (u : TrussState) (place : ℕ) (l : LwpStatus) → Holds u → Holds (with_last_stop u place l)
  unfolding with_last_stop
  last-stop-holds u place l w = lifted _ place _ (stop-holds u place l w)

  -- the function at whose breakpoint an lwp stands
  met-in : (u : TrussState) (place id : ℕ) (e : Event) → u.options ≡ o → (function : ℕ)
      → function_event u.options (marks_at u place) id e ≡ AtBreakpoint function → P function
  met-in u place id e same function at =
      let b =
      event-breaks o (marks_at u place) id e function
      (ap (λ p. function_event p (marks_at u place) id e) (sym same) ∙ at) in
      found b.pc function b.found

  -- what a reply that tells of this lwp makes of the process
  abbrev pub ReadSo : TrussState → ℕ → LwpStatus → Type 0
  ReadSo u place l =
      (e : Event) → fresh_event (traced_at u place) l ≡ Some e
      → ThenSo u place l (function_event u.options (marks_at u place) l.id e)

  fresh-holds : (u : TrussState) (place : ℕ) (l : LwpStatus) (e : Option Event)
      → fresh_event (traced_at u place) l ≡ e → ReadSo u place l → Holds u → Holds (with_fresh_event u place l e)
  fresh-holds u place l None is so w = either u.leaving _ _ (last-stop-holds u place l w) (stop-holds u place l w)
  fresh-holds u place l (Some e) is so w =
      either u.leaving _ _
      (last-event-holds u place l (function_event u.options (marks_at u place) l.id e) w (so e is))
      (function-event-holds u place l (function_event u.options (marks_at u place) l.id e) w
      (met-in u place l.id e w.options) (so e is))

  function-stop-holds : (u : TrussState) (place : ℕ) (l : Option LwpStatus)
      → ((st : LwpStatus) → l ≡ Some st → ReadSo u place st) → Holds u → Holds (with_function_stop_read u place l)
  unfolding with_function_stop
  function-stop-holds u place None so w =
      either u.leaving _ _ (lifted _ place false (over-holds u place w)) (over-holds u place w)
  function-stop-holds u place (Some l) so w =
      fresh-holds u place l (fresh_event (traced_at u place) l) refl (so l refl) w

  -- ---- opening

  next-function-holds : (u : TrussState) (place function : ℕ) → Holds u → Holds (with_next_function u place function)
  unfolding with_next_function
  next-function-holds u place function w =
      either (nat_lt function (length u.options.functions)) _ _ (beside u (Reading place function) tt w)
      (beside u Nothing tt w)

  refused-step-holds : (u : TrussState) (place : ℕ) (errno : Errno) → Holds u → Holds (with_refused_step u place errno)
  unfolding with_refused_step
  refused-step-holds u place errno w = staged _ _ (reported u _ w)

  refused-opening-holds : (u : TrussState) (place : ℕ) (errno : Errno) → Holds u
      → Holds (with_refused_opening u place errno)
  unfolding with_refused_opening
  refused-opening-holds u place errno w = lifted _ place false (refused-step-holds u place errno w)

  functions-begun-holds : (u : TrussState) (place : ℕ) (step : OpeningStep) → Holds u
      → Holds (with_functions_begun u place step)
  functions-begun-holds u place opening.TraceExits w = next-function-holds u place 0 w
  functions-begun-holds u place _ w = w

  at-step-holds : (u : TrussState) (place : ℕ) (step : Option OpeningStep) → Holds u → Holds (at_step u place step)
  at-step-holds u place None w = on w (opens-next u)
  at-step-holds u place (Some now) w = staged u _ w

  function-step-holds : (u : TrussState) (place : ℕ) (step : OpeningStep) (r : Reply) (a : Answer) → Holds u
      → Holds (with_function_step_answered u place step r a)
  unfolding with_function_step_answered with_step_done
  function-step-holds u place now r Accepted w =
      functions-begun-holds _ place now
      (at-step-holds _ place (step_after u.options r now) (learnt-as u place r now w))
  function-step-holds u place now r Interrupted w = seen-interrupts u place w
  function-step-holds u place now r Gone w = refused-step-holds u place Noent w
  function-step-holds u place now r (Refused errno) w = refused-opening-holds u place errno w

  code-read-holds : (u : TrussState) (place function : ℕ) (bytes : Option (List ℕ)) → Holds u
      → Holds (with_code_read u place function bytes)
  unfolding with_code_read
  code-read-holds u place function bytes w = by (is_to_plant u.options function bytes) refl
    where
      by : (b : Bool) → is_to_plant u.options function bytes ≡ b
          → Holds (cond b (with_aside u (Planting place function)) (with_next_function u place (function + 1)))
      by true is =
          let both : is_to_plant o function bytes ≡ true =
          ap (λ p. is_to_plant p function bytes) (sym w.options) ∙ is in
          let parts = and_parts (is_code (code_of o function) bytes) (is_first_there o function) both in
          beside u (Planting place function) (found (address_of o function) function (first-of o function parts.1)) w
      by false is = next-function-holds u place (function + 1) w

  code-answered-holds : (u : TrussState) (place function : ℕ) (r : Reply) (a : Answer) → Holds u
      → Holds (with_code_answered u place function r a)
  unfolding with_code_answered
  code-answered-holds u place function r Accepted w = code-read-holds u place function (bytes_in r) w
  code-answered-holds u place function r Interrupted w = seen-interrupts u place w
  code-answered-holds u place function r Gone w = refused-step-holds u place Noent w
  code-answered-holds u place function r (Refused errno) w = refused-opening-holds u place errno w

  -- ---- planting and lifting

  pending-holds : (u : TrussState) → Holds u → Holds (with_pending_told u)
  unfolding with_pending_told
  pending-holds u w = like u (record u { reports = _ }) refl refl refl w

  after-patch-holds : (u : TrussState) (rest : Aside) (place : ℕ) (stage : Stage) (a : Answer) → AsideIn P rest
      → Holds u → Holds (after_patch u rest place stage a)
  unfolding after_patch
  after-patch-holds u rest place (Closing closed OpenNext) a below w = beside u rest below w
  after-patch-holds u rest place (Closing closed GoOn) Gone below w = staged u _ w
  after-patch-holds u rest place (Closing closed GoOn) _ below w = beside u rest below w
  after-patch-holds u rest place (Closing closed (RunParent parent)) Gone below w = staged u _ w
  after-patch-holds u rest place (Closing closed (RunParent parent)) _ below w = beside u rest below w
  after-patch-holds u rest place _ Accepted below w = beside u rest below w
  after-patch-holds u rest place _ (Refused errno) below w = beside u rest below w
  after-patch-holds u rest place _ Gone below w = staged _ _ (pending-holds u w)
  after-patch-holds u rest place _ Interrupted below w = seen-interrupts _ place (pending-holds u w)

  -- ---- leaving

  halt-holds : (u : TrussState) (r : Reply) (a : Answer) → Holds u → Holds (with_halt_answered u r a)
  unfolding with_halt_answered
  halt-holds u r Accepted w = beside _ (AwaitingStop (until_in r)) tt (staged u ReadingLwps w)
  halt-holds u r Interrupted w = beside _ Asking tt (staged u ReadingLwps w)
  halt-holds u r (Refused errno) w = staged u _ w
  halt-holds u r Gone w = staged u _ w

  wait-holds : (u : TrussState) (a : Answer) → Holds u → Holds (with_wait_answered u a)
  unfolding with_wait_answered
  wait-holds u Accepted w = w
  wait-holds u Interrupted w = beside u Asking tt w
  wait-holds u (Refused errno) w = w
  wait-holds u Gone w = staged u _ w

  asking-holds : (u : TrussState) (r : Reply) (a : Answer) → Holds u → Holds (with_asking_answered u r a)
  unfolding with_asking_answered
  asking-holds u r Accepted w = beside u (AwaitingAgain (until_in r)) tt w
  asking-holds u r Interrupted w = beside u Asking tt w
  asking-holds u r (Refused errno) w = w
  asking-holds u r Gone w = staged u _ w

  -- ---- the reply

  module _ (t : TrussState) (r : Reply) (its : t.options ≡ o) (fits : AsideIn P t.aside) where
    -- what the call has made so, before truss takes its reply
    abbrev pub StageSo : Stage → Type 0
    StageSo (OpeningControl pid) = answer_of r ≡ Accepted → S (newly_traced pid (handle_in r))
    StageSo (OpeningChildControl parent pid) = answer_of r ≡ Accepted → S (newly_traced pid (handle_in r))
    StageSo (ReadingStatus q) =
        (l : LwpStatus) → answer_of r ≡ Accepted → option_and_then status_lwp (bytes_in r) ≡ Some l → ReadSo t q l
    StageSo ReadingLwps =
        (l : LwpStatus) → answer_of r ≡ Accepted → slice_get (event_stops (bytes_in r)) 0 ≡ Some l → ReadSo t 0 l
    StageSo (Running q) =
        q < length t.traced → S (record (traced_at t q) { marks = record (marks_at t q) { flags = 0 } })
    StageSo stage = Unit {0}

    -- it is so of the process at a place, with these functions planted in it
    abbrev pub PlantedSo : ℕ → List Bool → Type 0
    PlantedSo q set =
        q < length t.traced → S (record (traced_at t q) { marks = record (marks_at t q) { planted = set } })

    -- with those that a reply of this kind leaves planted
    abbrev pub AfterSo : ℕ → Answer → Option ℕ → Option ℕ → Type 0
    AfterSo q a plant lift = PlantedSo q (planted_after (marks_at t q).planted a plant lift)

    abbrev pub BesideSo : Aside → Type 0
    BesideSo Nothing = Each S t.traced × StageSo t.stage
    BesideSo (Planting q function) = EachBut S t.traced q × AfterSo q (answer_of r) (Some function) None
    BesideSo (Patching q plants lifts clear) =
        EachBut S t.traced q × AfterSo q (answer_of r) (first_function plants) (first_function lifts)
    BesideSo aside = Each S t.traced

    module _ (all : Each S t.traced) where
      whole : Holds t
      whole = record { options = its; each = all; aside = fits }

      unflagged : (q : ℕ) → t.stage ≡ Running q → StageSo (Running q)
          → Holds (with_reply (with_marks t q (record (marks_at t q) { flags = 0 })) r (Running q))
      unflagged q at so =
          plain-holds (with_marks t q (record (marks_at t q) { flags = 0 })) r (Running q) at tt
          (marked t q (record (marks_at t q) { flags = 0 }) so whole)

      run-holds : (q : ℕ) (a : Answer) → answer_of r ≡ a → t.stage ≡ Running q → StageSo (Running q)
          → Holds (with_function_run_answered t q a)
      unfolding with_function_run_answered with_reply
      run-holds q Interrupted is at so =
          subst (λ a. Holds (with_run_answered t q a)) is (plain-holds t r (Running q) at tt whole)
      run-holds q Accepted is at so =
          subst (λ a. Holds (with_run_answered (with_marks t q (record (marks_at t q) { flags = 0 })) q a)) is
          (unflagged q at so)
      run-holds q (Refused errno) is at so =
          subst (λ a. Holds (with_run_answered (with_marks t q (record (marks_at t q) { flags = 0 })) q a)) is
          (unflagged q at so)
      run-holds q Gone is at so =
          subst (λ a. Holds (with_run_answered (with_marks t q (record (marks_at t q) { flags = 0 })) q a)) is
          (unflagged q at so)

      status-holds : (q : ℕ) (a : Answer) → answer_of r ≡ a → t.stage ≡ ReadingStatus q → StageSo (ReadingStatus q)
          → Holds (with_function_status_answered t q r a)
      unfolding with_function_status_answered with_reply
      status-holds q Accepted is at so =
          function-stop-holds t q (option_and_then status_lwp (bytes_in r)) (λ st told. so st is told) whole
      status-holds q (Refused errno) is at so =
          subst (λ a. Holds (with_status_answered t q r a)) is (plain-holds t r (ReadingStatus q) at tt whole)
      status-holds q Gone is at so =
          subst (λ a. Holds (with_status_answered t q r a)) is (plain-holds t r (ReadingStatus q) at tt whole)
      status-holds q Interrupted is at so =
          subst (λ a. Holds (with_status_answered t q r a)) is (plain-holds t r (ReadingStatus q) at tt whole)

      text-holds : (q : ℕ) (l : LwpStatus) (from len : ℕ) (a : Answer) → t.stage ≡ ReadingText q l from len
          → Holds (after_function_text t (with_text_answered t q l len r) q a)
      unfolding with_reply
      text-holds q l from len Gone at = plain-holds t r (ReadingText q l from len) at tt whole
      text-holds q l from len _ at =
          let shown = plain-holds t r (ReadingText q l from len) at tt whole in
          either t.leaving _ _ (lifted _ q false shown) shown

      lwps-holds : (a : Answer) → answer_of r ≡ a → StageSo ReadingLwps → Holds (with_function_lwps_answered t r a)
      unfolding with_function_lwps_answered
      lwps-holds Accepted is so =
          function-stop-holds t 0 (slice_get (event_stops (bytes_in r)) 0) (λ st told. so st is told) whole
      lwps-holds (Refused errno) is so = lifted _ 0 false (staged t _ whole)
      lwps-holds Interrupted is so = lifted _ 0 false (staged t _ whole)
      lwps-holds Gone is so = staged t _ whole

      stage-holds : (stage : Stage) → t.stage ≡ stage → StageSo stage → Holds (with_function_reply t r stage)
      unfolding with_function_reply with_function_text_answered
      stage-holds (Opening q step) at so = function-step-holds t q step r (answer_of r) whole
      stage-holds (ReadingStatus q) at so = status-holds q (answer_of r) refl at so
      stage-holds (ReadingText q l from len) at so = text-holds q l from len (answer_of r) at
      stage-holds (Running q) at so = run-holds q (answer_of r) refl at so
      stage-holds Unfollowing at so = halt-holds t r (answer_of r) whole
      stage-holds ReadingLwps at so = lwps-holds (answer_of r) refl so
      stage-holds (OpeningControl pid) at so = plain-holds t r (OpeningControl pid) at so whole
      stage-holds (OpeningChildControl parent pid) at so =
          plain-holds t r (OpeningChildControl parent pid) at so whole
      stage-holds stage at so = plain-holds t r stage at tt whole

      idle-holds : Holds (with_aside t Nothing)
      idle-holds = beside t Nothing tt whole

    -- ---- what comes before the call of a stage

    abbrev idle_now : TrussState
    idle_now = with_aside t Nothing

    -- other functions are planted in the process at a place
    abbrev with_set : ℕ → List Bool → TrussState
    with_set q set = with_marks idle_now q (record (marks_at t q) { planted = set })

    set-holds : (q : ℕ) (set : List Bool) → EachBut S t.traced q → PlantedSo q set → Holds (with_set q set)
    set-holds q set others here = record {
      options = its;
      each =
          each-put S t.traced q (record (traced_at t q) { marks = record (marks_at t q) { planted = set } }) others
          here;
      aside = tt;
    }

    -- where a reply of any kind leaves the same planted
    lift-so : (q i : ℕ) (a : Answer) → AfterSo q a None (Some i)
        → PlantedSo q (without_function (marks_at t q).planted i)
    lift-so q i Accepted it = it
    lift-so q i (Refused errno) it = it
    lift-so q i Gone it = it
    lift-so q i Interrupted it = it

    left-so : (q : ℕ) (a : Answer) → AfterSo q a None None → PlantedSo q (marks_at t q).planted
    left-so q Accepted it = it
    left-so q (Refused errno) it = it
    left-so q Gone it = it
    left-so q Interrupted it = it

    same-holds : (q : ℕ) → EachBut S t.traced q → (q < length t.traced → S (traced_at t q)) → Holds idle_now
    same-holds q others here = record {
      options = its;
      each = λ i within. elim (cases_eq i q) [
        | inl same ↦
            subst (λ n. S (at_place t.traced n)) (sym same) (here (subst (λ n. n < length t.traced) same within))
        | inr apart ↦ others i within apart
      ];
      aside = tt;
    }

    plant-holds : (q function : ℕ) (a : Answer) → EachBut S t.traced q → AfterSo q a (Some function) None
        → Holds (with_plant_answered idle_now q function a)
    unfolding with_plant_answered
    plant-holds q function Accepted others so =
        next-function-holds _ q (function + 1) (set-holds q (with_function (marks_at t q).planted function) others so)
    plant-holds q function Interrupted others so = seen-interrupts idle_now q (same-holds q others so)
    plant-holds q function Gone others so = refused-step-holds idle_now q Noent (same-holds q others so)
    plant-holds q function (Refused errno) others so = refused-opening-holds idle_now q errno (same-holds q others so)

    first-holds : (q : ℕ) (plants lifts : List Bool) (clear : Bool) (a : Answer) (plant lift : Option ℕ)
        → AllIn P plants → AllIn P lifts → EachBut S t.traced q → AfterSo q a plant lift
        → Holds (after_first idle_now q plants lifts clear a plant lift)
    first-holds q plants lifts clear Accepted (Some i) lift p l others so =
        after-patch-holds _ _ q t.stage Accepted
        (patching-in q (without_function plants i) lifts clear (less-in P plants i p) l)
        (set-holds q (with_function (marks_at t q).planted i) others so)
    first-holds q plants lifts clear (Refused errno) (Some i) lift p l others so =
        after-patch-holds _ _ q t.stage (Refused errno)
        (patching-in q (without_function plants i) lifts clear (less-in P plants i p) l) (same-holds q others so)
    first-holds q plants lifts clear Gone (Some i) lift p l others so =
        after-patch-holds _ _ q t.stage Gone
        (patching-in q (without_function plants i) lifts clear (less-in P plants i p) l) (same-holds q others so)
    first-holds q plants lifts clear Interrupted (Some i) lift p l others so =
        after-patch-holds _ _ q t.stage Interrupted
        (patching-in q (without_function plants i) lifts clear (less-in P plants i p) l) (same-holds q others so)
    first-holds q plants lifts clear a None (Some i) p l others so =
        after-patch-holds _ _ q t.stage a
        (patching-in q plants (without_function lifts i) clear p (less-in P lifts i l))
        (set-holds q (without_function (marks_at t q).planted i) others (lift-so q i a so))
    first-holds q plants lifts clear a None None p l others so =
        after-patch-holds _ _ q t.stage a tt (same-holds q others (left-so q a so))

    aside-holds : (aside : Aside) → AsideIn P aside → BesideSo aside → Holds (with_aside_answered t r aside)
    unfolding with_aside_answered with_patch_answered
    aside-holds Nothing inside so = stage-holds so.0 t.stage refl so.1
    aside-holds (Reading q function) inside so =
        code-answered-holds idle_now q function r (answer_of r) (idle-holds so)
    aside-holds (Planting q function) inside so = plant-holds q function (answer_of r) so.0 so.1
    aside-holds (Patching q plants lifts clear) inside so =
        first-holds q plants lifts clear (answer_of r) (first_function plants) (first_function lifts) inside.0 inside.1
        so.0 so.1
    aside-holds (AwaitingStop until) inside so = wait-holds idle_now (answer_of r) (idle-holds so)
    aside-holds Asking inside so = asking-holds idle_now r (answer_of r) (idle-holds so)
    aside-holds (AwaitingAgain until) inside so = wait-holds idle_now (answer_of r) (idle-holds so)

    pub fed-holds : has_functions t.options ≡ true → BesideSo t.aside → Holds (fed_functions t r)
    unfolding fed_functions
    fed-holds has so =
        subst Holds (sym (ap (λ b. cond b (with_aside_answered t r t.aside) (fed t r)) has))
        (aside-holds t.aside fits so)

  -- ---- the first state

  none-traced : Each S []
  none-traced place within = absurd (omega (arith, within))

  idle-first : Holds (idle o)
  idle-first = record { options = refl; each = none-traced; aside = tt }

  first-opening : (pid : Option ℕ) → Holds (opening_or (idle o) (idle o) pid)
  first-opening None = idle-first
  first-opening (Some pid) = like (idle o) (record (idle o) { stage = _; begun = _ }) refl refl refl idle-first

  first-program : (program : Option (List ℕ)) → Holds (first_of_program o program)
  first-program None = first-opening (slice_get o.pids 0)
  first-program (Some program) = staged (idle o) _ idle-first

  pub first-holds-so : Holds (first_truss o)
  unfolding first_truss
  first-holds-so = first-program o.program
