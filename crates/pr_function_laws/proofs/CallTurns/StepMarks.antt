use Rattle.std.proofs.Common.{◌≡◌, ◌≢◌, ◌<◌, ◌-◌, ℕ, Bool, true, false, cond, nat_lt, not, Option, Some, None, List, length, refl, sym, subst, ap, ◌∙◌, arith}
use Rattle.std.proofs.lemmas.Bool.{eq-eqb}
use Rattle.std.proofs.lemmas.List.{get_or-set_other, length-set}
use Rattle.std.proofs.lemmas.Option.{none-some, same_Some}
use Rattle.std.specs.List.{slice_set}
use Rattle.std.specs.Option.{option_and_then}
use Rattle.pr_line.specs.Events.{event_of}
use Rattle.pr_line.specs.Selections.{is_selected}
use Rattle.pr_line.specs.declared.events.Event.{Event}
use Rattle.pr_line.specs.declared.events.Event.TheVariants as event
use Rattle.pr_line.specs.declared.options.Options.{Options}
use Rattle.pr_model.specs.Replies.{bytes_in}
use Rattle.pr_model.specs.declared.calls.Reply.{Reply}
use Rattle.pr_model.specs.declared.calls.Reply.TheVariants as reply
use Rattle.pr_num.specs.declared.faults.Flt.{Flt}
use Rattle.pr_num.specs.declared.faults.Flt.TheVariants.{Bpt, Trace}
use Rattle.pr_rec.specs.declared.lwps.LwpStatus.{LwpStatus}
use Rattle.pr_truss.specs.Asides.{marks_at, with_marks, with_patches}
use Rattle.pr_truss.specs.Closings.{with_closing}
use Rattle.pr_truss.specs.Feeding.{fed}
use Rattle.pr_truss.specs.FunctionEvents.{breakpoint_event, copies_memory, fault_event, fresh_event, function_at, function_event, keeps_memory, left_event, step_of, trap_event}
use Rattle.pr_truss.specs.FunctionFeeding.{fed_functions, with_aside_answered, with_function_reply}
use Rattle.pr_truss.specs.FunctionStops.{with_call_shown, with_copy_begun, with_copy_ended, with_fresh_event, with_function_event, with_function_status_answered, with_function_stop, with_function_stop_read, with_last_event, with_last_stop, with_memory_replaced, with_other_event, with_step_begun, with_step_completed, with_trap_over}
use Rattle.pr_truss.specs.Asides.{with_lifts}
use Rattle.pr_truss.specs.Marks.{has_functions}
use Rattle.pr_truss.specs.Records.{is_on_event, status_lwp}
use Rattle.pr_truss.specs.Replies.{answer_of}
use Rattle.pr_truss.specs.Stops.{asked_range, followed_child, with_child_or, with_event, with_event_over, with_event_shown, with_old_stop_over, with_status_answered, with_stop, with_stop_over, with_text_or_shown}
use Rattle.pr_truss.specs.Trusses.{TrussState, nobody, traced_at, with_stage, with_traced}
use Rattle.pr_truss.specs.declared.asides.Aside.TheVariants.{Nothing}
use Rattle.pr_truss.specs.declared.function_events.FunctionEvent.{FunctionEvent}
use Rattle.pr_truss.specs.declared.function_events.FunctionEvent.TheVariants.{Other, AtBreakpoint, Completed, TraceTrap, BeforeCopy, AfterCopy, Replaced}
use Rattle.pr_truss.specs.declared.marks.Marks.{Marks}
use Rattle.pr_truss.specs.declared.marks.Stepped.{Stepped}
use Rattle.pr_truss.specs.declared.processes.Traced.{Traced}
use Rattle.pr_truss.specs.declared.replies.Answer.{Answer}
use Rattle.pr_truss.specs.declared.replies.Answer.TheVariants.{Accepted, Interrupted, Gone, Refused}
use Rattle.pr_truss.specs.declared.stages.Stage.TheVariants.{ReadingStatus, Running}
use Rattle.pr_truss_laws.proofs.Files.HeldLemmas.{at_place, set-at}
use Rattle.pr_truss_laws.specs.Exchanges.{Exchange}
use Rattle.pr_function_laws.specs.Lifted.{MeetsBreakpoint}

-- What a read of the status of a process makes of the step that is under way in it; all that truss knows of others is
-- as it was.

-- ---- a trace trap that ends no step

abbrev traps : FunctionEvent → Option ℕ
traps TraceTrap = Some 0
traps _ = None

choice-traps : (b : Bool) (u v : FunctionEvent) → traps u ≡ None → traps v ≡ None → traps (cond b u v) ≡ None
choice-traps true u v p q = p
choice-traps false u v p q = q

module _ (o : Options) (m : Marks) (id : ℕ) (step : Stepped) (under_way : m.stepped ≡ Some step) (own : step.lwp ≡ id)
  where
    breakpoint-traps : (function : Option ℕ) → traps (breakpoint_event function) ≡ None
    breakpoint-traps None = refl
    breakpoint-traps (Some function) = refl

    own-trap : (o : Option Stepped) → o ≡ Some step → traps (trap_event o id) ≡ None
    own-trap None is = absurd (none-some step is)
    own-trap (Some x) is =
        ap (λ b. traps (cond b (Completed x) TraceTrap))
        (eq-eqb x.lwp id (ap (λ (y : Stepped). y.lwp) (same_Some x step is) ∙ own))

    fault-traps : (f : Flt) (pc : ℕ) → traps (fault_event o m id f pc) ≡ None
    fault-traps Bpt pc = breakpoint-traps (function_at o m pc)
    fault-traps Trace pc = own-trap m.stepped under_way
    fault-traps _ pc = refl

    event-traps : (e : Event) → traps (function_event o m id e) ≡ None
    unfolding function_event
    event-traps (event.Entered call arguments) = choice-traps (copies_memory call) BeforeCopy Other refl refl
    event-traps (event.Left call arguments result) =
        choice-traps (copies_memory call) (left_event call result) Other
        (choice-traps (keeps_memory call result) AfterCopy Replaced refl refl) refl
    event-traps (event.Received signal disposition info) = refl
    event-traps (event.Incurred f pc) = fault-traps f pc

    -- the event of the lwp whose step is under way is no trace trap of another
    pub no-other-trap : (e : Event) → function_event o m id e ≡ TraceTrap → ⊥
    no-other-trap e is = none-some 0 (sym (event-traps e) ∙ ap traps is)

-- a refusal has no bytes
no-bytes : (r : Reply) → answer_of r ≢ Accepted → bytes_in r ≡ None
unfolding answer_of bytes_in
no-bytes (reply.Fail errno) refused = refl
no-bytes _ refused = absurd (refused refl)

-- ---- the record of a process

-- These are the same processes, but that in the one at this place another step may be under way.
pub record AreLike (ts : List Traced) (q : ℕ) (step : Option Stepped) (us : List Traced) : Type 0 where
  pub long : length us ≡ length ts
  pub others : (j : ℕ) → j ≢ q → at_place us j ≡ at_place ts j
  pub pid : (at_place us q).pid ≡ (at_place ts q).pid
  pub status : (at_place us q).status ≡ (at_place ts q).status
  pub stepped : (at_place us q).marks.stepped ≡ step

module _ (t : TrussState) (q : ℕ) (within : q < length t.traced) where
  abbrev Like : Option Stepped → TrussState → Type 0
  Like step u = AreLike t.traced q step u.traced

  like-self : AreLike t.traced q (marks_at t q).stepped t.traced
  like-self = record { long = refl; others = λ j other. refl; pid = refl; status = refl; stepped = refl }

  set-like : (us : List Traced) (step : Option Stepped) (v : Traced) → AreLike t.traced q step us
      → v.pid ≡ (at_place us q).pid → v.status ≡ (at_place us q).status
      → AreLike t.traced q v.marks.stepped (slice_set us q v)
  set-like us step v l pid status =
      let inside : q < length us = omega (arith, within, l.long) in
      let here : at_place (slice_set us q v) q ≡ v = set-at us q v inside in
      record {
        long = length-set us q v ∙ l.long;
        others = λ j other. get_or-set_other us q j v nobody other ∙ l.others j other;
        pid = ap (λ (x : Traced). x.pid) here ∙ pid ∙ l.pid;
        status = ap (λ (x : Traced). x.status) here ∙ status ∙ l.status;
        stepped = ap (λ (x : Traced). x.marks.stepped) here;
      }

  marked-like : (m : Marks) → Like m.stepped (with_marks t q m)
  marked-like m = set-like t.traced (marks_at t q).stepped (record (traced_at t q) { marks = m }) like-self refl refl

  choice-like : (step : Option Stepped) (b : Bool) (u v : TrussState) → Like step u → Like step v
      → Like step (cond b u v)
  choice-like step true u v p r = p
  choice-like step false u v p r = r

  -- ---- a stop

  module _ (step : Option Stepped) (u : TrussState) (like : Like step u) where
    over-like : Like step (with_stop_over u q)
    unfolding with_stop_over
    over-like = choice-like step u.leaving (with_closing u q) (with_stage u (Running q)) like like

    child-like : (child : Option ℕ) → Like step (with_child_or u q child)
    child-like None = over-like
    child-like (Some child) = like

    event-over-like : (l : LwpStatus) → Like step (with_event_over u q l)
    unfolding with_event_over
    event-over-like l = child-like (followed_child u.options l)

  module _ (step : Option Stepped) (u : TrussState) (like : Like step u) (l : LwpStatus) where
    shown-like : (range : Option (ℕ × ℕ)) → Like step (with_text_or_shown u q l range)
    unfolding with_event_shown
    shown-like None = event-over-like step (with_event_shown u q l None) like l
    shown-like (Some range) = like

    event-like : (e : Option Event) → Like step (with_event u q l e)
    event-like None = over-like step u like
    event-like (Some e) =
        choice-like step (is_selected u.options e) _ _ (shown-like (asked_range u.options e))
        (event-over-like step u like l)

    old-like : Like step (with_old_stop_over u q)
    unfolding with_old_stop_over
    old-like =
        let v : Traced = record (traced_at u q) { old = (traced_at u q).old - 1 } in
        let set = set-like u.traced step v like refl refl in
        over-like step (with_traced u q v) (record {
          long = set.long;
          others = set.others;
          pid = set.pid;
          status = set.status;
          stepped = set.stepped ∙ like.stepped;
        })

    stop-like : Like step (with_stop u q l)
    unfolding with_stop
    stop-like =
        choice-like step (not (is_on_event l)) _ _ (over-like step u like)
        (choice-like step (nat_lt 0 (traced_at u q).old) _ _ old-like
        (choice-like step (traced_at u q).seen _ _ (over-like step u like) (event-like (event_of l))))

  -- ---- the reply

  module _ (x : Exchange) (has : has_functions t.options ≡ true) (idle : t.aside ≡ Nothing)
      (reads : t.stage ≡ ReadingStatus q) (off : t.leaving ≡ false) (calm : answer_of x.reply ≢ Interrupted) where
    -- no new event of which the reply tells is another than a trace trap of an lwp of which no step is under way
    abbrev pub EndsNoStep : Type 0
    EndsNoStep =
        (l : LwpStatus) (e : Event) → option_and_then status_lwp (bytes_in x.reply) ≡ Some l
        → fresh_event (traced_at t q) l ≡ Some e → function_event t.options (marks_at t q) l.id e ≡ TraceTrap

    -- The step under way afterwards is the one that was, where no event ended it; or none; or one that is begun.
    pub data Leaves : Option Stepped → Type 0 where
      keeps : EndsNoStep → Leaves (marks_at t q).stepped
      clears : Leaves None
      begins : (m : MeetsBreakpoint t x q) → Leaves (Some (step_of m.l m.function))

    pub record IsRead (u : TrussState) : Type 0 where
      pub step : Option Stepped
      pub leaves : Leaves step
      pub like : Like step u

    read-kept : (u : TrussState) → EndsNoStep → Like (marks_at t q).stepped u → IsRead u
    read-kept u none like = record { step = (marks_at t q).stepped; leaves = keeps none; like = like }

    read-cleared : (u : TrussState) → Like None u → IsRead u
    read-cleared u like = record { step = None; leaves = clears; like = like }

    refused : answer_of x.reply ≢ Accepted → EndsNoStep
    refused not_accepted l e told fresh =
        absurd (none-some l
        (ap (λ (o : Option (List ℕ)). option_and_then status_lwp o) (sym (no-bytes x.reply not_accepted)) ∙ told))

    module _ (accepted : answer_of x.reply ≡ Accepted) (l : LwpStatus)
        (told : option_and_then status_lwp (bytes_in x.reply) ≡ Some l) where
      event-read : (e : Event) → fresh_event (traced_at t q) l ≡ Some e
          → (fe : FunctionEvent) → function_event t.options (marks_at t q) l.id e ≡ fe
          → IsRead (with_function_event t q l fe)
      unfolding with_function_event with_step_begun with_step_completed with_trap_over with_copy_begun with_copy_ended
          with_other_event with_memory_replaced with_call_shown with_patches
      event-read e fresh (AtBreakpoint function) is = record {
        step = Some (step_of l function);
        leaves = begins (record {
          reads = reads;
          idle = idle;
          stays = off;
          within = within;
          accepted = accepted;
          l = l;
          told = told;
          event = e;
          fresh = fresh;
          function = function;
          at_breakpoint = is;
        });
        like = over-like _ _ (marked-like _);
      }
      event-read e fresh (Completed step) is = read-cleared _ (over-like _ _ (marked-like _))
      event-read e fresh TraceTrap is =
          read-kept _
          (λ l2 e2 told2 fresh2.
          let same : l ≡ l2 = same_Some l l2 (sym told ∙ told2) in
          let one : e ≡ e2 = same_Some e e2 (sym fresh ∙ ap (fresh_event (traced_at t q)) same ∙ fresh2) in
          ap (λ (y : LwpStatus). function_event t.options (marks_at t q) y.id e2) (sym same)
          ∙ ap (function_event t.options (marks_at t q) l.id) (sym one) ∙ is)
          (over-like _ _ (marked-like _))
      event-read e fresh BeforeCopy is = read-cleared _ (stop-like _ _ (marked-like _) l)
      event-read e fresh AfterCopy is = read-cleared _ (stop-like _ _ (marked-like _) l)
      event-read e fresh Replaced is = read-cleared _ (stop-like _ _ (marked-like _) l)
      event-read e fresh Other is = read-cleared _ (stop-like _ _ (marked-like _) l)

      fresh-read : (o : Option Event) → fresh_event (traced_at t q) l ≡ o
          → IsRead (with_fresh_event t q l o)
      fresh-read None none =
          subst IsRead (sym (ap (λ b. cond b (with_last_stop t q l) (with_stop t q l)) off))
          (read-kept _
          (λ l2 e2 told2 fresh2.
          absurd (none-some e2
          (sym none ∙ ap (fresh_event (traced_at t q)) (same_Some l l2 (sym told ∙ told2)) ∙ fresh2)))
          (stop-like _ t like-self l))
      fresh-read (Some e) is =
          let what : FunctionEvent = function_event t.options (marks_at t q) l.id e in
          subst IsRead (sym (ap (λ b. cond b (with_last_event t q l what) (with_function_event t q l what)) off))
          (event-read e is what refl)

    stop-read : answer_of x.reply ≡ Accepted → (o : Option LwpStatus)
        → option_and_then status_lwp (bytes_in x.reply) ≡ o → IsRead (with_function_stop_read t q o)
    unfolding with_function_stop
    stop-read accepted None none =
        subst IsRead
        (sym (ap (λ b. cond b (with_lifts (with_stop_over t q) q false) (with_stop_over t q)) off))
        (read-kept _ (λ l e told fresh. absurd (none-some l (sym none ∙ told))) (over-like _ t like-self))
    stop-read accepted (Some l) told =
        fresh-read accepted l told (fresh_event (traced_at t q) l) refl

    answer-read : (a : Answer) → answer_of x.reply ≡ a
        → IsRead (with_function_status_answered t q x.reply a)
    unfolding with_function_status_answered with_status_answered
    answer-read Accepted is = stop-read is (option_and_then status_lwp (bytes_in x.reply)) refl
    answer-read (Refused errno) is =
        read-kept _ (refused (λ accepted. let e = sym is ∙ accepted in cc)) (over-like _ t like-self)
    answer-read Gone is =
        read-kept _ (refused (λ accepted. let e = sym is ∙ accepted in cc)) like-self
    answer-read Interrupted is = absurd (calm is)

    pub status-read : IsRead (fed_functions t x.reply)
    unfolding fed_functions with_aside_answered with_function_reply
    status-read =
        subst IsRead
        (sym (ap (λ b. cond b (with_aside_answered t x.reply t.aside) (fed t x.reply)) has
        ∙ ap (with_aside_answered t x.reply) idle
        ∙ ap (with_function_reply t x.reply) reads))
        (answer-read (answer_of x.reply) refl)
