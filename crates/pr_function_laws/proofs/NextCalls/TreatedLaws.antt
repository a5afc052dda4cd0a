use Rattle.std.proofs.Common.{option_and_then, ◌≡◌, ◌<◌, ◌++◌, ℕ, Bool, true, false, cond, Option, Some, None, List, [], ◌∷◌, length, map, refl, sym, subst, ap, ◌∙◌}
use Rattle.std.proofs.lemmas.Bool.{eqb-true}
use Rattle.std.proofs.lemmas.List.Elements.{All-tail}
use Rattle.std.proofs.lemmas.Option.{same_Some}
use Rattle.std.specs.List.{All, remove, slice_index_or}
use Rattle.pr_line.specs.declared.events.Event.{Event}
use Rattle.pr_line.specs.declared.options.Options.{Options}
use Rattle.pr_model.specs.Replies.{bytes_in}
use Rattle.pr_model.specs.declared.calls.Call.{Call}
use Rattle.pr_num.specs.Control.{clear_fault, single_step}
use Rattle.pr_num.specs.Sets.{union_word}
use Rattle.pr_rec.specs.declared.lwps.LwpStatus.{LwpStatus}
use Rattle.pr_report_laws.proofs.Watching.HistoryParts.{all-rest}
use Rattle.pr_truss.specs.Asides.{marks_at, with_lifts, with_marks, with_patches}
use Rattle.pr_truss.specs.FunctionCalls.{lift_call, plant_call}
use Rattle.pr_truss.specs.FunctionEvents.{fresh_event, function_event, step_of}
use Rattle.pr_truss.specs.FunctionFeeding.{fed_functions, with_function_reply}
use Rattle.pr_truss.specs.FunctionStops.{with_call_shown, with_copy_begun, with_copy_ended, with_fresh_event, with_function_event, with_function_status_answered, with_function_stop, with_function_stop_read, with_last_event, with_last_stop, with_memory_replaced, with_other_event, with_step_begun, with_step_completed, with_trap_over}
use Rattle.pr_truss.specs.Marks.{has_functions, no_functions, no_marks, put_back, standing, with_function, with_step}
use Rattle.pr_truss.specs.Records.{status_lwp}
use Rattle.pr_truss.specs.Replies.{answer_of}
use Rattle.pr_truss.specs.Stops.{with_stop, with_stop_over}
use Rattle.pr_truss.specs.Trusses.{TrussState, first_truss, nobody, traced_at}
use Rattle.pr_truss.specs.declared.asides.Aside.TheVariants.{Nothing}
use Rattle.pr_truss.specs.declared.function_events.FunctionEvent.{FunctionEvent}
use Rattle.pr_truss.specs.declared.function_events.FunctionEvent.TheVariants.{Other, AtBreakpoint, Completed, TraceTrap, BeforeCopy, AfterCopy, Replaced}
use Rattle.pr_truss.specs.declared.marks.Marks.{Marks}
use Rattle.pr_truss.specs.declared.marks.Stepped.{Stepped}
use Rattle.pr_truss.specs.declared.processes.Traced.{Traced}
use Rattle.pr_truss.specs.declared.replies.Answer.TheVariants.{Accepted}
use Rattle.pr_truss.specs.declared.stages.Stage.TheVariants.{ReadingStatus, Running}
use Rattle.pr_truss_laws.proofs.Replies.FunctionOptionLemmas.{fed_functions-options}
use Rattle.pr_truss_laws.proofs.Files.HeldLemmas.{set-at}
use Rattle.pr_truss_laws.proofs.OwnBusiness.KnownLemmas.{Knows, first-knows}
use Rattle.pr_truss_laws.proofs.Soon.LookLemmas.{same-files}
use Rattle.pr_truss_laws.specs.Exchanges.{Exchange}
use Rattle.pr_function_laws.proofs.NextCalls.ComingLemmas.{no-functions}
use Rattle.pr_function_laws.proofs.NextCalls.MarkedFlags.{no-flags-at-read}
use Rattle.pr_function_laws.proofs.Marks.MetLemmas.{fresh-stands}
use Rattle.pr_function_laws.proofs.OpenedProcesses.OpenedLaws.{calls-rest}
use Rattle.pr_function_laws.proofs.NextCalls.PatchCalls.{at-marked, fed-staged}
use Rattle.pr_function_laws.proofs.Marks.ReturnLemmas.{planted-first}
use Rattle.pr_function_laws.proofs.CallTurns.TurnReads.{fresh-new}
use Rattle.pr_function_laws.specs.Coming.{Anything, Come, ComeWhileItLives, close_calls, lift_calls, plant_calls}
use Rattle.pr_function_laws.specs.Returns.{ReadsStepEnd}
use Rattle.pr_function_laws.specs.Runs.{MakesFunctionCalls, functions_after}
use Rattle.pr_function_laws.specs.Soon.{IsCalm}
use Rattle.pr_function_laws.specs.Treated.{ReadsCopy, ReadsStatus, TreatsItsEvents, event_calls, lwp_calls, run_calls, stop_calls, text_calls}
use Rattle.pr_function_laws.proofs.CallTurns.CalledLaws.{functions-both}
use Rattle.pr_function_laws.proofs.NextCalls.EventCalls.{event-traced, Looked, Now, event-looked, looked-come, old-now, over-now, patched-come, run-comes, run_next, stale-stop, stop-is, text-comes, text_next}

-- What truss calls next where it has read the status of a process.

-- ---- what comes of an event

module _ (o : Options) (has : has_functions o ≡ true) (off : o.follow ≡ false) (place : ℕ) (s : TrussState)
    (options : s.options ≡ o) (stays : s.leaving ≡ false) (within : place < length s.traced) (idle : s.aside ≡ Nothing)
    (reads : s.stage ≡ ReadingStatus place) (plain : (traced_at s place).marks.flags ≡ 0) where
  abbrev t : Traced
  t = traced_at s place

  abbrev rest : List Traced
  rest = remove s.traced place

  abbrev Sees : ℕ → TrussState → Type 0
  Sees fl = Now o has off place rest t fl (ReadingStatus place)

  base : Sees t.marks.flags s
  base = record {
    at = record {
      options = options;
      leaving = stays;
      within = within;
      stage = reads;
      files = same-files t;
      flags = refl;
      others = refl;
    };
    idle = idle;
  }

  marked : (m : Marks) → Sees m.flags (with_marks s place m)
  marked m =
      let b = base in
      record {
        at = at-marked o has place false rest t t.marks.flags m.flags (ReadingStatus place) s m refl b.at;
        idle = idle;
      }

  called : (fl : ℕ) (u : TrussState) (step : Stepped) → Sees fl u → Sees fl (with_call_shown u place step)
  unfolding with_call_shown
  called fl u step w =
      let a = w.at in
      record {
        at = record {
          options = a.options;
          leaving = a.leaving;
          within = a.within;
          stage = a.stage;
          files = a.files;
          flags = a.flags;
          others = a.others;
        };
        idle = w.idle;
      }

  module _ (l : LwpStatus) (e : Event) (fresh : fresh_event t l ≡ Some e) (xs : List Exchange) (calm : All IsCalm xs)
    where
      stopped : (m : Marks)
          → Looked o has off place rest t m.flags (with_stop (with_marks s place m) place l) (text_calls o t e)
      stopped m =
          let new = fresh-new t l e fresh in
          let u : TrussState = with_marks s place m in
          let here : traced_at u place ≡ record t { marks = m } =
          set-at s.traced place (record t { marks = m }) within in
          subst (λ v. Looked o has off place rest t m.flags v (text_calls o t e))
          (sym (stop-is u place l e
          (ap (λ (v : Traced). v.old) here ∙ eqb-true t.old 0 new.new)
          (ap (λ (v : Traced). v.seen) here ∙ new.unseen) (fresh-stands t l e fresh)))
          (event-looked o has off place rest t m.flags (ReadingStatus place) u l e (marked m))

      abbrev Comes : List Call → Type 0
      Comes cs = ComeWhileItLives cs Anything (Come (close_calls t) Anything) xs

      none_planted : (tail : List Call) → Comes (plant_calls o t.control no_functions ++ tail) → Comes tail
      none_planted tail w =
          subst (λ (fs : List ℕ). Comes (map (plant_call o t.control) fs ++ tail)) no-functions w

      none_lifted : (front tail : List Call) → Comes (front ++ (lift_calls o t.control no_functions ++ tail))
          → Comes (front ++ tail)
      none_lifted front tail w =
          subst (λ (fs : List ℕ). Comes (front ++ (map (lift_call o t.control) fs ++ tail))) no-functions w

      -- the process is run behind the patches
      run-behind : (m : Marks) (plants lifts : List Bool) (u : TrussState) → Sees m.flags u
          → MakesFunctionCalls (with_patches (with_stop_over u place) place plants lifts) xs
          → Comes (plant_calls o t.control plants ++ (lift_calls o t.control lifts ++ run_calls t m.flags))
      run-behind m plants lifts u w made =
          patched-come o has off place rest t m.flags plants lifts xs calm (Running place) (run_calls t m.flags)
          (with_stop_over u place) refl (over-now o has off place rest t m.flags (ReadingStatus place) u w)
          (λ v ys now made_v calm_v. run-comes o has off place rest t m.flags v ys now made_v calm_v) made

      -- the event is looked at behind them
      look-behind : (m : Marks) (plants lifts : List Bool)
          → MakesFunctionCalls (with_patches (with_stop (with_marks s place m) place l) place plants lifts) xs
          → Comes
          (plant_calls o t.control plants
          ++ (lift_calls o t.control lifts ++ (text_calls o t e ++ run_calls t m.flags)))
      look-behind m plants lifts made =
          looked-come o has off place rest t m.flags plants lifts xs calm (with_stop (with_marks s place m) place l)
          (text_calls o t e) (stopped m) made

      looked-plain : (fl : ℕ) (u : TrussState) (text : List Call) → Looked o has off place rest t fl u text
          → MakesFunctionCalls u xs → Comes (text ++ run_calls t fl)
      looked-plain fl u text (run_next w) made = run-comes o has off place rest t fl u xs w made calm
      looked-plain fl u text (text_next l range w) made =
          text-comes o has off place rest t l range.0 range.1 fl u xs w made calm

      event-comes : (fe : FunctionEvent) → MakesFunctionCalls (with_function_event s place l fe) xs
          → Comes (event_calls o t e fe)
      unfolding with_function_event with_step_begun with_step_completed with_trap_over with_copy_begun with_copy_ended
          with_other_event with_memory_replaced
      event-comes (AtBreakpoint function) made =
          let m : Marks = record t.marks {
            stepped = Some (step_of l function);
            flags = union_word clear_fault single_step;
          } in
          run-behind m (put_back t.marks) (with_function no_functions function) (with_marks s place m) (marked m) made
      event-comes (Completed step) made =
          let m : Marks = record t.marks { stepped = None; flags = clear_fault } in
          none_lifted (plant_calls o t.control (put_back t.marks)) (run_calls t clear_fault)
          (run-behind m (put_back t.marks) no_functions (with_call_shown (with_marks s place m) place step)
          (called m.flags (with_marks s place m) step (marked m)) made)
      event-comes TraceTrap made =
          let m : Marks = record t.marks { flags = clear_fault } in
          run-comes o has off place rest t m.flags (with_stop_over (with_marks s place m) place) xs
          (over-now o has off place rest t m.flags (ReadingStatus place) (with_marks s place m) (marked m)) made calm
      event-comes BeforeCopy made =
          let m : Marks = record t.marks { lifted = standing t.marks; stepped = None; flags = single_step } in
          none_planted (lift_calls o t.control t.marks.planted ++ (text_calls o t e ++ run_calls t single_step))
          (look-behind m no_functions t.marks.planted made)
      event-comes AfterCopy made =
          let m : Marks = record t.marks { lifted = no_functions; stepped = None } in
          let front : List Call = plant_calls o t.control (with_step t.marks.stepped t.marks.lifted) in
          subst (λ n. Comes (front ++ (text_calls o t e ++ run_calls t n))) plain
          (none_lifted front (text_calls o t e ++ run_calls t t.marks.flags)
          (look-behind m (with_step t.marks.stepped t.marks.lifted) no_functions made))
      event-comes Replaced made =
          looked-plain 0 (with_stop (with_marks s place no_marks) place l) (text_calls o t e) (stopped no_marks) made
      event-comes Other made =
          let m : Marks = record t.marks { stepped = None } in
          let front : List Call = plant_calls o t.control (put_back t.marks) in
          subst (λ n. Comes (front ++ (text_calls o t e ++ run_calls t n))) plain
          (none_lifted front (text_calls o t e ++ run_calls t t.marks.flags)
          (look-behind m (put_back t.marks) no_functions made))

  -- ---- a status that was read

  module _ (xs : List Exchange) (calm : All IsCalm xs) where
    abbrev Next : List Call → Type 0
    Next cs = ComeWhileItLives cs Anything (Come (close_calls t) Anything) xs

    ran-so : (u : TrussState) → Now o has off place rest t t.marks.flags (Running place) u → MakesFunctionCalls u xs
        → Next (run_calls t 0)
    ran-so u w made =
        subst (λ n. Next (run_calls t n)) plain (run-comes o has off place rest t t.marks.flags u xs w made calm)

    over-so : Now o has off place rest t t.marks.flags (Running place) (with_stop_over s place)
    over-so = over-now o has off place rest t t.marks.flags (ReadingStatus place) s base

    stop-comes : (l : LwpStatus) (e : Option Event) → fresh_event t l ≡ e
        → MakesFunctionCalls (with_fresh_event s place l e) xs → Next (stop_calls o t l e)
    stop-comes l None stale made =
        ran-so (with_stop s place l)
        (stale-stop (Now o has off place rest t t.marks.flags (Running place)) s place l stale over-so
        (old-now o has off place rest t t.marks.flags (ReadingStatus place) s base))
        (subst (λ b. MakesFunctionCalls (cond b (with_last_stop s place l) (with_stop s place l)) xs) stays made)
    stop-comes l (Some e) fresh made =
        event-comes l e fresh xs calm (function_event o t.marks l.id e)
        (subst (λ (p : Options). MakesFunctionCalls
        (with_function_event s place l (function_event p t.marks l.id e)) xs)
        options
        (subst
        (λ b. MakesFunctionCalls
        (cond b (with_last_event s place l (function_event s.options t.marks l.id e))
        (with_function_event s place l (function_event s.options t.marks l.id e))) xs) stays made))

    read-comes : (l : Option LwpStatus) → MakesFunctionCalls (with_function_stop_read s place l) xs
        → Next (lwp_calls o t l)
    unfolding with_function_stop
    read-comes None made =
        ran-so (with_stop_over s place) over-so
        (subst (λ b. MakesFunctionCalls
        (cond b (with_lifts (with_stop_over s place) place false) (with_stop_over s place)) xs)
        stays made)
    read-comes (Some l) made = stop-comes l (fresh_event t l) refl made

  pub status-comes : (x : Exchange) (xs : List Exchange) → answer_of x.reply ≡ Accepted
      → MakesFunctionCalls (fed_functions s x.reply) xs → All IsCalm xs
      → ComeWhileItLives (lwp_calls o t (option_and_then status_lwp (bytes_in x.reply))) Anything
      (Come (close_calls t) Anything) xs
  unfolding with_function_reply with_function_status_answered
  status-comes x xs accepted made calm =
      read-comes xs calm (option_and_then status_lwp (bytes_in x.reply))
      (subst (λ (v : TrussState). MakesFunctionCalls v xs)
      (fed-staged o has s x.reply (ReadingStatus place) options idle reads
      ∙ ap (with_function_status_answered s place x.reply) accepted) made)

-- ---- all exchanges

pub after-options : (xs : List Exchange) (t : TrussState) → (functions_after t xs).options ≡ t.options
after-options [] t = refl
after-options (x ∷ xs) t = after-options xs (fed_functions t x.reply) ∙ fed_functions-options t x.reply

pub first-options : (o : Options) → (first_truss o).options ≡ o
first-options o = let knows : Knows o [] (first_truss o) = first-knows o in knows.options

-- truss at a place of its exchanges
pub options-at : (o : Options) (before : List Exchange) → (functions_after (first_truss o) before).options ≡ o
options-at o before = after-options before (first_truss o) ∙ first-options o

-- before a call that copies or replaces the memory all that stand wait
copy-waits : (o : Options) (has : has_functions o ≡ true) (off : o.follow ≡ false) (t : TrussState) (place : ℕ)
    (x : Exchange) → t.options ≡ o → ReadsCopy t place x
    → (marks_at (fed_functions t x.reply) place).lifted ≡ standing (marks_at t place)
unfolding with_function_reply with_function_status_answered with_function_stop with_function_event with_copy_begun
    with_patches
copy-waits o has off t place x options w =
    let r : ReadsStatus t place = w.status in
    let m : Marks = record (marks_at t place) {
      lifted = standing (marks_at t place);
      stepped = None;
      flags = single_step;
    } in
    let u : TrussState = with_marks t place m in
    let what : FunctionEvent = function_event t.options (marks_at t place) w.l.id w.event in
    let here : traced_at u place ≡ record (traced_at t place) { marks = m } =
    set-at t.traced place (record (traced_at t place) { marks = m }) r.within in
    let new = fresh-new (traced_at t place) w.l w.event w.fresh in
    let fed_so : fed_functions t x.reply ≡ with_function_event t place w.l BeforeCopy =
    fed-staged o has t x.reply (ReadingStatus place) options r.idle r.reads
    ∙ ap (with_function_status_answered t place x.reply) w.accepted
    ∙ ap (with_function_stop_read t place) w.told
    ∙ ap (with_fresh_event t place w.l) w.fresh
    ∙ ap (λ b. cond b (with_last_event t place w.l what) (with_function_event t place w.l what)) r.stays
    ∙ ap (with_function_event t place w.l) w.copies in
    let looked : (with_stop u place w.l).traced ≡ u.traced =
    ap (λ (v : TrussState). v.traced)
    (stop-is u place w.l w.event
    (ap (λ (v : Traced). v.old) here ∙ eqb-true (traced_at t place).old 0 new.new)
    (ap (λ (v : Traced). v.seen) here ∙ new.unseen) (fresh-stands (traced_at t place) w.l w.event w.fresh))
    ∙ event-traced u place w.l w.event (ap (λ (p : Options). p.follow) options ∙ off) r.stays in
    ap (λ (v : TrussState). (marks_at v place).lifted) fed_so
    ∙ ap (λ ts. (slice_index_or ts place nobody).marks.lifted) looked
    ∙ ap (λ (v : Traced). v.marks.lifted) here

pub treats-its-events : (o : Options) (xs : List Exchange) → has_functions o ≡ true → o.follow ≡ false
    → MakesFunctionCalls (first_truss o) xs → All IsCalm xs → TreatsItsEvents o xs
treats-its-events o xs has off makes calm = record {
  again = λ before after x place step is w.
      again (functions_after (first_truss o) before) x after place step (options-at o before) w
      (calls-rest (first_truss o) before (x ∷ after) (subst (MakesFunctionCalls (first_truss o)) is makes)).1;
  each = λ before after x place is w accepted.
      status-comes o has off place (functions_after (first_truss o) before) (options-at o before) w.stays w.within
      w.idle w.reads
      (no-flags-at-read o has off before (x ∷ after) place (subst (MakesFunctionCalls (first_truss o)) is makes)
      (subst (All IsCalm) is calm) w.stays w.reads) x after accepted
      (calls-rest (first_truss o) before (x ∷ after) (subst (MakesFunctionCalls (first_truss o)) is makes)).1
      (All-tail IsCalm x after (all-rest IsCalm before (x ∷ after) (subst (All IsCalm) is calm)));
  waits = λ before after x place is w.
      let t : TrussState = functions_after (first_truss o) before in
      ap (λ (u : TrussState). (marks_at u place).lifted) (functions-both (first_truss o) before (x ∷ []))
      ∙ copy-waits o has off t place x (options-at o before) w;
}
  where
    again : (t : TrussState) (x : Exchange) (after : List Exchange) (place : ℕ) (step : Stepped) → t.options ≡ o
        → ReadsStepEnd t x place step → MakesFunctionCalls (fed_functions t x.reply) after
        → Come (plant_call o (traced_at t place).control step.function ∷ []) Anything after
    again t x [] place step at w made = tt
    again t x (y ∷ ys) place step at w made = (
      same_Some y.call (plant_call o (traced_at t place).control step.function)
          (sym made.0
          ∙ planted-first t x place step (ap has_functions at ∙ has) w
          ∙ ap (λ p. Some (plant_call p (traced_at t place).control step.function)) at),
      tt,
    )

pub ruleset treats = (treats-its-events)
