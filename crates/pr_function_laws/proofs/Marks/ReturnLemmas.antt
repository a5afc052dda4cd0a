use Rattle.std.proofs.Common.{◌≡◌, ◌<◌, ◌||◌, ℕ, zero, suc, Bool, true, false, cond, is_some, Some, List, length, position, replicate, refl, sym, ap, ◌∙◌, arith}
use Rattle.std.proofs.lemmas.Bool.{lt-ltb}
use Rattle.std.proofs.lemmas.List.{length-replicate, length-set}
use Rattle.std.specs.List.{position_or_len, slice_set}
use Rattle.pr_line.specs.Functions.{function_limit}
use Rattle.pr_rec.specs.declared.lwps.LwpStatus.{LwpStatus}
use Rattle.pr_truss.specs.Asides.{marks_at, patching, with_aside, with_marks, with_patches}
use Rattle.pr_truss.specs.Closings.{with_closing}
use Rattle.pr_truss.specs.Feeding.{fed}
use Rattle.pr_truss.specs.FunctionCalls.{call_beside, next_function_call_of, patch_call, plant_call}
use Rattle.pr_truss.specs.FunctionEvents.{function_event}
use Rattle.pr_truss.specs.FunctionFeeding.{fed_functions, with_aside_answered, with_function_reply}
use Rattle.pr_truss.specs.FunctionStops.{with_call_shown, with_fresh_event, with_function_event, with_function_status_answered, with_function_stop, with_function_stop_read, with_last_event, with_other_event, with_step_begun, with_step_completed}
use Rattle.pr_truss.specs.Marks.{first_function, has_functions, is_in, no_functions, put_back, with_function, with_step}
use Rattle.pr_truss.specs.NextCalls.{next_call_of}
use Rattle.pr_truss.specs.Stops.{with_stop, with_stop_over}
use Rattle.pr_truss.specs.Trusses.{TrussState, traced_at, with_stage}
use Rattle.pr_truss.specs.declared.asides.Aside.TheVariants.{Nothing, Patching}
use Rattle.pr_truss.specs.declared.function_events.FunctionEvent.{FunctionEvent}
use Rattle.pr_truss.specs.declared.function_events.FunctionEvent.TheVariants.{AtBreakpoint, Completed, Other}
use Rattle.pr_truss.specs.declared.marks.Marks.{Marks}
use Rattle.pr_truss.specs.declared.marks.Stepped.{Stepped}
use Rattle.pr_truss.specs.declared.processes.Traced.{Traced}
use Rattle.pr_truss.specs.declared.stages.Stage.TheVariants.{Running}
use Rattle.pr_truss_laws.proofs.Replies.FunctionOptionLemmas.{fed_functions-options}
use Rattle.pr_truss_laws.proofs.Files.HeldLemmas.{set-at}
use Rattle.pr_truss_laws.proofs.Soon.LookLemmas.{Alike, stop-read}
use Rattle.pr_truss_laws.specs.Exchanges.{Exchange}
use Rattle.pr_function_laws.specs.Returns.{EndsStep, ReadsStepEnd}

-- The first call after a step has ended plants the breakpoint again.

-- ---- the set of one function

one-place : (n f : ℕ) → f < n → position_or_len is_in (slice_set (replicate n false) f true) ≡ f
one-place zero f within = absurd (omega (arith, within))
one-place (suc n) zero within = refl
one-place (suc n) (suc f) within = omega (arith, one-place n f (omega (arith, within)))

one-length : (n f : ℕ) → length (slice_set (replicate n false) f true) ≡ n
one-length n f = length-set (replicate n false) f true ∙ length-replicate n false

one-position : (n f : ℕ) → f < n → position is_in (slice_set (replicate n false) f true) ≡ Some f
one-position n f within = rw (one-place n f within, one-length n f, lt-ltb f n within) refl

pub one-first : (f : ℕ) → f < function_limit → first_function (with_function no_functions f) ≡ Some f
one-first f within = one-position function_limit f within

back-first : (m : Marks) (step : Stepped) → m.stepped ≡ Some step → step.function < function_limit
    → first_function (put_back m) ≡ Some step.function
unfolding put_back
back-first m step is within =
    ap (λ s. first_function (with_step s no_functions)) is ∙ one-first step.function within

-- ---- the next call

module _ (t : TrussState) (place : ℕ) (step : Stepped) (has : has_functions t.options ≡ true)
    (within : place < length t.traced) where
  -- a state with the same control file of the process
  abbrev Like : TrussState → Type 0
  Like u = (traced_at u place).control ≡ (traced_at t place).control

  abbrev Plants : TrussState → Type 0
  Plants u =
      u.options ≡ t.options
      → next_function_call_of u ≡ Some (plant_call t.options (traced_at t place).control step.function)

  patches-is : (plants lifts : List Bool) → first_function plants ≡ Some step.function
      → patching place plants lifts false ≡ Patching place plants lifts false
  unfolding patching
  patches-is plants lifts first =
      ap (λ o. cond (is_some o || is_some (first_function lifts) || false) (Patching place plants lifts false) Nothing)
      first

  patched-call : (u : TrussState) (plants lifts : List Bool) → first_function plants ≡ Some step.function → Like u
      → Plants (with_patches u place plants lifts)
  unfolding next_function_call_of with_patches call_beside
  patched-call u plants lifts first like options =
      let v : TrussState = with_aside u (patching place plants lifts false) in
      ap (λ b. cond b (call_beside v v.stage v.aside) (next_call_of v)) (ap has_functions options ∙ has)
      ∙ ap (call_beside v v.stage) (patches-is plants lifts first)
      ∙ ap (λ o. Some (patch_call u.options (traced_at u place).control o (first_function lifts))) first
      ∙ ap (λ opts. Some (plant_call opts (traced_at u place).control step.function)) options
      ∙ ap (λ c. Some (plant_call t.options c step.function)) like

  -- ---- the stop

  marked-like : (m : Marks) → Like (with_marks t place m)
  marked-like m =
      ap (λ (u : Traced). u.control) (set-at t.traced place (record (traced_at t place) { marks = m }) within)

  over-like : (u : TrussState) → Like u → Like (with_stop_over u place)
  unfolding with_stop_over
  over-like u like = elim u.leaving as (λ b. Like (cond b (with_closing u place) (with_stage u (Running place)))) [
    | true ↦ like
    | false ↦ like
  ]

  stop-like : (m : Marks) (l : LwpStatus) → Like (with_stop (with_marks t place m) place l)
  stop-like m l =
      let s = with_marks t place m in
      stop-read Like s place (λ u alike. over-like u (alike-like u alike)) (λ u child alike. alike-like u alike)
      (λ u st from len alike. alike-like u alike)
      (omega (arith, within, length-set t.traced place (record (traced_at t place) { marks = m }))) (Some l)
    where
      alike-like : (u : TrussState) → Alike (with_marks t place m) u → Like u
      alike-like u alike = let same = alike.files place in same.control ∙ marked-like m

  event-plants : (l : LwpStatus) (e : FunctionEvent) → (marks_at t place).stepped ≡ Some step
      → step.function < function_limit → EndsStep e → Plants (with_function_event t place l e)
  unfolding with_function_event with_step_begun with_step_completed with_other_event with_call_shown
  event-plants l (AtBreakpoint function) under_way small ends =
      patched-call _ (put_back (marks_at t place)) _ (back-first (marks_at t place) step under_way small)
      (over-like _ (marked-like _))
  event-plants l (Completed done) under_way small ends =
      patched-call _ (put_back (marks_at t place)) _ (back-first (marks_at t place) step under_way small)
      (over-like _ (marked-like _))
  event-plants l Other under_way small ends =
      patched-call _ (put_back (marks_at t place)) _ (back-first (marks_at t place) step under_way small)
      (stop-like _ l)
  event-plants l _ under_way small ends = absurd ends

  module _ (x : Exchange) (w : ReadsStepEnd t x place step) where
    abbrev what : FunctionEvent
    what = function_event t.options (marks_at t place) w.l.id w.event

    read-is : fed_functions t x.reply ≡ with_function_event t place w.l what
    unfolding fed_functions with_aside_answered with_function_reply with_function_status_answered with_function_stop
    read-is =
        ap (λ b. cond b (with_aside_answered t x.reply t.aside) (fed t x.reply)) has
        ∙ ap (with_aside_answered t x.reply) w.idle
        ∙ ap (with_function_reply t x.reply) w.reads
        ∙ ap (with_function_status_answered t place x.reply) w.accepted
        ∙ ap (with_function_stop_read t place) w.told
        ∙ ap (with_fresh_event t place w.l) w.fresh
        ∙ ap (λ b. cond b (with_last_event t place w.l what) (with_function_event t place w.l what)) w.stays

    read-plants : next_function_call_of (fed_functions t x.reply)
        ≡ Some (plant_call t.options (traced_at t place).control step.function)
    read-plants =
        ap next_function_call_of read-is
        ∙ event-plants w.l what w.under_way w.function w.ends
        (ap (λ (u : TrussState). u.options) (sym read-is) ∙ fed_functions-options t x.reply)

pub planted-first : (t : TrussState) (x : Exchange) (place : ℕ) (step : Stepped) → has_functions t.options ≡ true
    → ReadsStepEnd t x place step
    → next_function_call_of (fed_functions t x.reply)
    ≡ Some (plant_call t.options (traced_at t place).control step.function)
planted-first t x place step has w = read-plants t place step has w.within x w
