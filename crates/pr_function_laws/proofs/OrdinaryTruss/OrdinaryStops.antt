use Rattle.std.proofs.Common.{◌≡◌, ◌==◌, ◌||◌, ◌&&◌, ◌-◌, ℕ, Bool, true, false, cond, is_some, nat_lt, not, zero, suc, Option, Some, None, List, refl, sym, subst, ap, ◌∙◌, arith, lt-ltb}
use Rattle.std.proofs.lemmas.Bool.{eq-eqb, false≢true}
use Rattle.std.proofs.lemmas.Option.{none-some, same_Some}
use Rattle.pr_line.specs.Events.{event_of}
use Rattle.pr_line.specs.Selections.{is_selected}
use Rattle.pr_line.specs.declared.events.Event.{Event}
use Rattle.pr_line.specs.declared.events.Event.TheVariants as event
use Rattle.pr_line.specs.declared.options.Options.{Options}
use Rattle.pr_num.specs.Control.{clear_fault, single_step}
use Rattle.pr_num.specs.Sets.{union_word}
use Rattle.pr_num.specs.declared.faults.Flt.{Flt}
use Rattle.pr_num.specs.declared.faults.Flt.TheVariants.{Bpt, Trace}
use Rattle.pr_rec.specs.declared.lwps.LwpStatus.{LwpStatus}
use Rattle.pr_truss.specs.Asides.{has_fault_to_clear, lifts_at, marks_at, patching, with_aside, with_lifts, with_lifts_before_closing, with_marks, with_patches}
use Rattle.pr_truss.specs.Closings.{with_closing}
use Rattle.pr_truss.specs.FunctionEvents.{breakpoint_event, copies_memory, fault_event, fresh_event, function_at, function_event, keeps_memory, left_event, step_of, trap_event}
use Rattle.pr_truss.specs.FunctionStops.{with_call_shown, with_copy_begun, with_copy_ended, with_fresh_event, with_function_event, with_function_stop, with_last_event, with_last_stop, with_memory_replaced, with_other_event, with_step_begun, with_step_completed, with_trap_over}
use Rattle.pr_truss.specs.Marks.{first_function, no_functions, no_marks, put_back, standing, with_function, with_step, without_function}
use Rattle.pr_truss.specs.Records.{child_of, is_on_event}
use Rattle.pr_truss.specs.Stops.{asked_range, followed_child, with_child_or, with_event, with_event_over, with_event_shown, with_old_stop_over, with_stop, with_stop_over, with_text_or_shown}
use Rattle.pr_truss.specs.Trusses.{TrussState, traced_at, with_stage, with_traced}
use Rattle.pr_truss.specs.declared.asides.Aside.{Aside}
use Rattle.pr_truss.specs.declared.asides.Aside.TheVariants.{Nothing, Reading, Planting, Patching}
use Rattle.pr_truss.specs.declared.function_events.FunctionEvent.{FunctionEvent}
use Rattle.pr_truss.specs.declared.function_events.FunctionEvent.TheVariants.{Other, AtBreakpoint, Completed, TraceTrap, BeforeCopy, AfterCopy, Replaced}
use Rattle.pr_truss.specs.declared.marks.Marks.{Marks}
use Rattle.pr_truss.specs.declared.marks.Stepped.{Stepped}
use Rattle.pr_truss.specs.declared.processes.Traced.{Traced}
use Rattle.pr_truss.specs.declared.reports.Report.TheVariants.{Called}
use Rattle.pr_truss.specs.declared.stages.AfterClosing.TheVariants.{OpenNext, GoOn}
use Rattle.pr_truss.specs.declared.stages.OpeningStep.TheVariants as opening
use Rattle.pr_truss.specs.declared.stages.Stage.{Stage}
use Rattle.pr_truss.specs.declared.stages.Stage.TheVariants.{Opening, ReadingText, Running, Closing, ReadingLwps}
use Rattle.pr_truss_laws.proofs.Files.HeldLemmas.{Grown, grown-all, grown-one, grown-same}
use Rattle.pr_function_laws.proofs.OrdinaryTruss.OrdinaryReplies.{called, marked, stop, stop_over}
use Rattle.pr_function_laws.specs.Ordinary.{IsAtOwnFault, IsOwnFault, at_breakpoint, at_trap, ordinary}

-- What truss makes of a stop, without its breakpoints: it does as always, or passes the stop over where an lwp stands
-- at a fault of truss's own.

-- ---- what comes beside a stage

abbrev pub IsOpenedAt : ℕ → Stage → Type 0
IsOpenedAt place (Opening at opening.Start) = at ≡ place
IsOpenedAt place _ = ⊥

abbrev pub IsLookedAt : ℕ → Stage → Type 0
IsLookedAt place (Running at) = at ≡ place
IsLookedAt place (ReadingText at l from len) = at ≡ place
IsLookedAt place (Closing at OpenNext) = at ≡ place
IsLookedAt place (Closing at GoOn) = at ≡ place
IsLookedAt place _ = ⊥

-- Before a process is run, or its memory is read, no fault is cleared; before its files are closed nothing is planted,
-- and where its opening was refused no fault is cleared.
abbrev pub PatchFits : ℕ → List Bool → Bool → Stage → Type 0
PatchFits place plants clear (Running at) = (at ≡ place) × (clear ≡ false)
PatchFits place plants clear (ReadingText at l from len) = (at ≡ place) × (clear ≡ false)
PatchFits place plants clear (Closing at OpenNext) =
    (at ≡ place) × ((first_function plants ≡ None) × (clear ≡ false))
PatchFits place plants clear (Closing at GoOn) = (at ≡ place) × (first_function plants ≡ None)
PatchFits place plants clear _ = ⊥

-- something is left to do
abbrev pub IsToDo : List Bool → List Bool → Bool → Type 0
IsToDo plants lifts clear = (is_some (first_function plants) || is_some (first_function lifts) || clear) ≡ true

-- Functions are read and planted before the last call of an opening; breakpoints are patched before a process is run,
-- its memory is read, or its files are closed; and truss waits for a stop before it looks at the lwps that it leaves.
abbrev pub FitsAside : Aside → Stage → Type 0
FitsAside Nothing stage = Unit {0}
FitsAside (Reading place function) stage = IsOpenedAt place stage
FitsAside (Planting place function) stage = IsOpenedAt place stage
FitsAside (Patching place plants lifts clear) stage = PatchFits place plants clear stage × IsToDo plants lifts clear
FitsAside _ stage = stage ≡ ReadingLwps

pub patch-fits : (place : ℕ) (plants lifts : List Bool) (clear : Bool) (stage : Stage)
    → PatchFits place plants clear stage → FitsAside (patching place plants lifts clear) stage
unfolding patching
patch-fits place plants lifts clear stage fits =
    by (is_some (first_function plants) || is_some (first_function lifts) || clear) refl
  where
    by : (b : Bool) → (is_some (first_function plants) || is_some (first_function lifts) || clear) ≡ b
        → FitsAside (cond b (Patching place plants lifts clear) Nothing) stage
    by true todo = (fits, todo)
    by false none = tt

pub patch-looked : (place : ℕ) (plants : List Bool) (clear : Bool) (stage : Stage)
    → PatchFits place plants clear stage → IsLookedAt place stage
patch-looked place plants clear (Running at) fits = fits.0
patch-looked place plants clear (ReadingText at l from len) fits = fits.0
patch-looked place plants clear (Closing at OpenNext) fits = fits.0
patch-looked place plants clear (Closing at GoOn) fits = fits.0
patch-looked place plants clear _ fits = absurd fits

-- the first one is planted
pub next-fits : (place function : ℕ) (plants : List Bool) (clear : Bool) (stage : Stage)
    → PatchFits place plants clear stage → first_function plants ≡ Some function
    → PatchFits place (without_function plants function) clear stage
next-fits place function plants clear (Running at) fits first = fits
next-fits place function plants clear (ReadingText at l from len) fits first = fits
next-fits place function plants clear (Closing at OpenNext) fits first =
    absurd (none-some function (sym fits.1.0 ∙ first))
next-fits place function plants clear (Closing at GoOn) fits first =
    absurd (none-some function (sym fits.1 ∙ first))
next-fits place function plants clear _ fits first = absurd fits

pub nothing-first : first_function no_functions ≡ None
nothing-first = refl

-- nothing is planted, and no fault is cleared
pub lift-fits : (place : ℕ) (stage : Stage) → IsLookedAt place stage → PatchFits place no_functions false stage
lift-fits place (Running at) looked = (looked, refl)
lift-fits place (ReadingText at l from len) looked = (looked, refl)
lift-fits place (Closing at OpenNext) looked = (looked, (nothing-first, refl))
lift-fits place (Closing at GoOn) looked = (looked, nothing-first)
lift-fits place _ looked = absurd looked

pub none-fits : (v : TrussState) → v.aside ≡ Nothing → FitsAside v.aside v.stage
none-fits v none = subst (λ a. FitsAside a v.stage) (sym none) tt

-- nothing comes beside a stage where none of this fits
pub none-beside : (stage : Stage) (aside : Aside) → ((place : ℕ) → IsOpenedAt place stage → ⊥)
    → ((place : ℕ) (plants : List Bool) (clear : Bool) → PatchFits place plants clear stage → ⊥)
    → (stage ≡ ReadingLwps → ⊥) → FitsAside aside stage → aside ≡ Nothing
none-beside stage Nothing opened patched looks fits = refl
none-beside stage (Reading place function) opened patched looks fits = absurd (opened place fits)
none-beside stage (Planting place function) opened patched looks fits = absurd (opened place fits)
none-beside stage (Patching place plants lifts clear) opened patched looks fits =
    absurd (patched place plants clear fits.0)
none-beside stage _ opened patched looks fits = absurd (looks fits)

-- ---- a stop that was looked at

-- where truss goes from it: it runs the process, or closes its files where it leaves
abbrev pub GoesBy : Stage → Bool → Type 0
GoesBy (Running at) leaving = leaving ≡ false
GoesBy (ReadingText at l from len) leaving = Unit {0}
GoesBy (Closing at GoOn) leaving = leaving ≡ true
GoesBy _ leaving = ⊥

-- it changed nothing beside the stage
pub record IsOver (u : TrussState) (place : ℕ) (v : TrussState) : Type 0 where
  pub aside : v.aside ≡ u.aside
  pub looked : IsLookedAt place v.stage
  pub goes : GoesBy v.stage u.leaving
  pub grows : Grown u.reports v.reports

stage-loops : (place : ℕ) (plants : List Bool) (leaving : Bool) (stage : Stage) → leaving ≡ false
    → IsLookedAt place stage → GoesBy stage leaving → PatchFits place plants false stage
stage-loops place plants leaving (Running at) stays looked goes = (looked, refl)
stage-loops place plants leaving (ReadingText at l from len) stays looked goes = (looked, refl)
stage-loops place plants leaving (Closing at GoOn) stays looked goes = absurd (false≢true (sym stays ∙ goes))
stage-loops place plants leaving (Closing at OpenNext) stays looked goes = absurd goes
stage-loops place plants leaving _ stays looked goes = absurd looked

-- as long as truss stays, functions may be planted then
over-loops : (u : TrussState) (place : ℕ) (v : TrussState) (plants : List Bool) → IsOver u place v
    → u.leaving ≡ false → PatchFits place plants false v.stage
over-loops u place v plants over stays =
    stage-loops place plants u.leaving v.stage stays over.looked over.goes

pub over-over : (u : TrussState) (place : ℕ) → IsOver u place (with_stop_over u place)
unfolding with_stop_over
over-over u place = by u.leaving refl
  where
    by : (b : Bool) → u.leaving ≡ b → IsOver u place (cond b (with_closing u place) (with_stage u (Running place)))
    by true leaves = record { aside = refl; looked = refl; goes = leaves; grows = grown-same u.reports }
    by false stays = record { aside = refl; looked = refl; goes = stays; grows = grown-same u.reports }

pub event-over : (u : TrussState) (place : ℕ) (l : LwpStatus) → u.options.follow ≡ false
    → IsOver u place (with_event_over u place l)
unfolding with_event_over followed_child
event-over u place l off =
    subst (λ b. IsOver u place (with_child_or u place (cond b (child_of l) None))) (sym off) (over-over u place)

text_or-over : (u : TrussState) (place : ℕ) (l : LwpStatus) (range : Option (ℕ × ℕ)) → u.options.follow ≡ false
    → IsOver u place (with_text_or_shown u place l range)
unfolding with_event_shown
text_or-over u place l None off =
    let over = event-over (with_event_shown u place l None) place l off in
    record {
      aside = over.aside;
      looked = over.looked;
      goes = over.goes;
      grows = grown-all u.reports _ _ (grown-one u.reports _) over.grows;
    }
text_or-over u place l (Some range) off =
    record { aside = refl; looked = refl; goes = tt; grows = grown-same u.reports }

either-over : (u : TrussState) (place : ℕ) (b : Bool) (v w : TrussState) → IsOver u place v → IsOver u place w
    → IsOver u place (cond b v w)
either-over u place true v w p q = p
either-over u place false v w p q = q

event-looked : (u : TrussState) (place : ℕ) (l : LwpStatus) (e : Option Event) → u.options.follow ≡ false
    → IsOver u place (with_event u place l e)
event-looked u place l None off = over-over u place
event-looked u place l (Some e) off =
    either-over u place (is_selected u.options e) _ _ (text_or-over u place l (asked_range u.options e) off)
    (event-over u place l off)

old-over : (u : TrussState) (place : ℕ) → IsOver u place (with_old_stop_over u place)
unfolding with_old_stop_over
old-over u place =
    let v : TrussState = with_traced u place (record (traced_at u place) { old = (traced_at u place).old - 1 }) in
    let over = over-over v place in
    record { aside = over.aside; looked = over.looked; goes = over.goes; grows = over.grows }

pub stop-looked : (u : TrussState) (place : ℕ) (l : LwpStatus) → u.options.follow ≡ false
    → IsOver u place (with_stop u place l)
unfolding with_stop
stop-looked u place l off =
    either-over u place (not (is_on_event l)) _ _ (over-over u place)
    (either-over u place (nat_lt 0 (traced_at u place).old) _ _ (old-over u place)
    (either-over u place (traced_at u place).seen _ _ (over-over u place) (event-looked u place l (event_of l) off)))

-- ---- where truss leaves

-- it closes the files
abbrev ClosesAt : ℕ → Bool → TrussState → Type 0
ClosesAt place clear v = PatchFits place no_functions clear v.stage

over-closes : (u : TrussState) (place : ℕ) (clear : Bool) → u.leaving ≡ true
    → ClosesAt place clear (with_stop_over u place)
unfolding with_stop_over
over-closes u place clear leaves =
    subst (λ b. ClosesAt place clear (cond b (with_closing u place) (with_stage u (Running place)))) (sym leaves)
    (refl, nothing-first)

pub none-before : (n : ℕ) → nat_lt 0 n ≡ false → n ≡ 0
none-before zero none = refl
none-before (suc n) none = absurd (false≢true (sym none ∙ lt-ltb 0 (suc n) (omega arith)))

old-closes : (u : TrussState) (place : ℕ) (clear : Bool) → u.leaving ≡ true
    → ClosesAt place clear (with_old_stop_over u place)
unfolding with_old_stop_over
old-closes u place clear leaves =
    over-closes (with_traced u place (record (traced_at u place) { old = (traced_at u place).old - 1 })) place clear
    leaves

no-event : (t : Traced) (l : LwpStatus) → fresh_event t l ≡ None → t.old ≡ 0 → t.seen ≡ false → event_of l ≡ None
unfolding fresh_event
no-event t l none old unseen =
    sym (ap (λ b. cond b (cond t.seen None (event_of l)) None) (eq-eqb t.old 0 old)
    ∙ ap (λ b. cond b None (event_of l)) unseen)
    ∙ none

-- also at a stop of which truss makes nothing
stop-closes : (u : TrussState) (place : ℕ) (l : LwpStatus) (clear : Bool) → u.leaving ≡ true
    → fresh_event (traced_at u place) l ≡ None → ClosesAt place clear (with_stop u place l)
unfolding with_stop
stop-closes u place l clear leaves none =
    either (not (is_on_event l)) _ _ (over-closes u place clear leaves)
    (by (nat_lt 0 (traced_at u place).old) refl (traced_at u place).seen refl)
  where
    either : (b : Bool) (v w : TrussState) → ClosesAt place clear v → ClosesAt place clear w
        → ClosesAt place clear (cond b v w)
    either true v w p q = p
    either false v w p q = q

    by : (a : Bool) → nat_lt 0 (traced_at u place).old ≡ a → (b : Bool) → (traced_at u place).seen ≡ b
        → ClosesAt place clear
        (cond a (with_old_stop_over u place) (cond b (with_stop_over u place) (with_event u place l (event_of l))))
    by true older b seen = old-closes u place clear leaves
    by false old true seen = over-closes u place clear leaves
    by false old false unseen =
        subst (λ e. ClosesAt place clear (with_event u place l e))
        (sym (no-event (traced_at u place) l none (none-before (traced_at u place).old old) unseen))
        (over-closes u place clear leaves)

-- ---- faults of truss's own

-- whether an event is to the breakpoints a fault of truss's own
abbrev is_own : FunctionEvent → Bool
is_own (AtBreakpoint function) = true
is_own (Completed step) = true
is_own TraceTrap = true
is_own _ = false

choice-own : (b : Bool) (u v : FunctionEvent) → is_own u ≡ false → is_own v ≡ false → is_own (cond b u v) ≡ false
choice-own true u v p q = p
choice-own false u v p q = q

module _ (o : Options) (m : Marks) (id : ℕ) where
  no-own : (e : Event) (b : Bool) → b ≡ false → b ≡ true → IsOwnFault o m e
  no-own e b off on = absurd (false≢true (sym off ∙ on))

  breakpoint-own : (pc : ℕ) (found : Option ℕ) → function_at o m pc ≡ found → is_own (breakpoint_event found) ≡ true
      → IsOwnFault o m (event.Incurred Bpt pc)
  breakpoint-own pc None found is = absurd (false≢true is)
  breakpoint-own pc (Some function) found is = at_breakpoint found

  fault-own : (f : Flt) (pc : ℕ) → is_own (fault_event o m id f pc) ≡ true → IsOwnFault o m (event.Incurred f pc)
  fault-own Trace pc is = at_trap
  fault-own Bpt pc is = breakpoint-own pc (function_at o m pc) refl is
  fault-own _ pc is = absurd (false≢true is)

  own-is : (e : Event) → is_own (function_event o m id e) ≡ true → IsOwnFault o m e
  unfolding function_event
  own-is (event.Entered call arguments) is =
      no-own _ _ (choice-own (copies_memory call) BeforeCopy Other refl refl) is
  own-is (event.Left call arguments result) is =
      no-own _ _ (choice-own (copies_memory call) (left_event call result) Other
      (choice-own (keeps_memory call result) AfterCopy Replaced refl refl) refl) is
  own-is (event.Received signal disposition info) is = no-own _ false refl is
  own-is (event.Incurred f pc) is = fault-own f pc is

  trap-own : (step : Option Stepped) → is_own (trap_event step id) ≡ true
  trap-own None = refl
  trap-own (Some step) =
      elim (step.lwp == id) as (λ b. is_own (cond b (Completed step) TraceTrap) ≡ true) [ true ↦ refl | false ↦ refl ]

  is-own : {e : Event} → IsOwnFault o m e → is_own (function_event o m id e) ≡ true
  unfolding function_event
  is-own (at_breakpoint found) = ap (λ x. is_own (breakpoint_event x)) found
  is-own at_trap = trap-own m.stepped

-- ---- a stop

module _ (s : TrussState) (place : ℕ) (l : LwpStatus) (off : s.options.follow ≡ false) (none : s.aside ≡ Nothing)
  where
    -- it was looked at as always, or passed over
    pub data Passes (v : TrussState) : Type 0 where
      as_always : (IsAtOwnFault s place l → ⊥) → ordinary v ≡ with_stop (ordinary s) place l → Passes v
      own_fault : IsAtOwnFault s place l → ordinary v ≡ with_stop_over (ordinary s) place → Passes v

    pub record IsStopped (v : TrussState) : Type 0 where
      pub passes : Passes v
      pub fits : FitsAside v.aside v.stage
      pub grows : Grown s.reports v.reports

    over-marked : (m : Marks)
        → ordinary (with_stop_over (with_marks s place m) place) ≡ with_stop_over (ordinary s) place
    over-marked m = stop_over (with_marks s place m) place ∙ ap (λ u. with_stop_over u place) (marked s place m)

    stop-marked : (m : Marks) → ordinary (with_stop (with_marks s place m) place l) ≡ with_stop (ordinary s) place l
    stop-marked m = stop (with_marks s place m) place l ∙ ap (λ u. with_stop u place l) (marked s place m)

    over-called : (u : TrussState) (step : Stepped) → ordinary u ≡ ordinary s
        → ordinary (with_stop_over (with_call_shown u place step) place) ≡ with_stop_over (ordinary s) place
    unfolding with_call_shown
    over-called u step same =
        stop_over (with_call_shown u place step) place
        ∙ ap (λ w. with_stop_over w place)
        (called u (Called (traced_at u place).pid step.lwp step.function step.arguments) refl ∙ same)

    -- breakpoints are patched then
    patched : (plants lifts : List Bool) (u : TrussState) → Grown s.reports u.reports → Passes u
        → PatchFits place plants false u.stage → IsStopped (with_patches u place plants lifts)
    unfolding with_patches
    patched plants lifts u grows passes fits =
        record { passes = beside passes; fits = patch-fits place plants lifts false u.stage fits; grows = grows }
      where
        beside : Passes u → Passes (with_aside u (patching place plants lifts false))
        beside (as_always none_own is) = as_always none_own is
        beside (own_fault own is) = own_fault own is

    lifted : (clear : Bool) (u : TrussState) → Grown s.reports u.reports → Passes u
        → PatchFits place no_functions clear u.stage → IsStopped (with_lifts u place clear)
    unfolding with_lifts
    lifted clear u grows passes fits = record {
      passes = beside passes;
      grows = grows;
      fits = patch-fits place no_functions (marks_at u place).planted clear u.stage fits;
    }
      where
        beside : Passes u → Passes (with_aside u (patching place no_functions (marks_at u place).planted clear))
        beside (as_always none_own is) = as_always none_own is
        beside (own_fault own is) = own_fault own is

    plain-stopped : (u v : TrussState) → IsOver u place v → u.aside ≡ s.aside → Grown s.reports v.reports → Passes v
        → IsStopped v
    plain-stopped u v over aside grows passes =
        record { passes = passes; fits = none-fits v (over.aside ∙ aside ∙ none); grows = grows }

    -- lifted before the files are closed
    closing-lifted : (u : TrussState) → u.aside ≡ Nothing → IsLookedAt place u.stage → Grown s.reports u.reports
        → Passes u → IsStopped (with_lifts_before_closing u place)
    unfolding with_lifts_before_closing
    closing-lifted u free looked grows passes = by u.stage looked
      where
        by : (stage : Stage) → IsLookedAt place u.stage → IsStopped (lifts_at u place stage)
        by (Closing at next) same = lifted false u grows passes (lift-fits place u.stage same)
        by _ same = record { passes = passes; fits = none-fits u free; grows = grows }

    module _ (e : Event) (fresh : fresh_event (traced_at s place) l ≡ Some e) where
      own-here : (fe : FunctionEvent) → function_event s.options (marks_at s place) l.id e ≡ fe → is_own fe ≡ true
          → IsAtOwnFault s place l
      own-here fe at own = record {
        event = e;
        fresh = fresh;
        own = own-is s.options (marks_at s place) l.id e (ap is_own at ∙ own);
      }

      not-own : (fe : FunctionEvent) → function_event s.options (marks_at s place) l.id e ≡ fe → is_own fe ≡ false
          → IsAtOwnFault s place l → ⊥
      not-own fe at other own =
          let same : own.event ≡ e = same_Some own.event e (sym own.fresh ∙ fresh) in
          false≢true
          (sym other ∙ ap is_own (sym at)
          ∙ is-own s.options (marks_at s place) l.id
          (subst (IsOwnFault s.options (marks_at s place)) same own.own))

      -- in the loop
      loop : s.leaving ≡ false → (fe : FunctionEvent)
          → function_event s.options (marks_at s place) l.id e ≡ fe → IsStopped (with_function_event s place l fe)
      unfolding with_function_event with_step_begun with_step_completed with_trap_over with_copy_begun with_copy_ended
          with_other_event with_memory_replaced with_call_shown
      loop stays (AtBreakpoint function) at =
          let m = marks_at s place in
          let stepping : Marks = record m {
            stepped = Some (step_of l function);
            flags = union_word clear_fault single_step;
          } in
          let over = over-over (with_marks s place stepping) place in
          patched (put_back m) (with_function no_functions function)
          (with_stop_over (with_marks s place stepping) place) over.grows
          (own_fault (own-here (AtBreakpoint function) at refl) (over-marked stepping))
          (over-loops _ place _ (put_back m) over stays)
      loop stays (Completed step) at =
          let m = marks_at s place in
          let stepped : Marks = record m { stepped = None; flags = clear_fault } in
          let u : TrussState = with_call_shown (with_marks s place stepped) place step in
          let over = over-over u place in
          patched (put_back m) no_functions (with_stop_over u place)
          (grown-all s.reports _ _ (grown-one s.reports _) over.grows)
          (own_fault (own-here (Completed step) at refl)
          (over-called (with_marks s place stepped) step (marked s place stepped)))
          (over-loops _ place _ (put_back m) over stays)
      loop stays TraceTrap at =
          let m : Marks = record (marks_at s place) { flags = clear_fault } in
          let over = over-over (with_marks s place m) place in
          plain-stopped (with_marks s place m) _ over refl over.grows
          (own_fault (own-here TraceTrap at refl) (over-marked m))
      loop stays BeforeCopy at =
          let m = marks_at s place in
          let lifting : Marks = record m { lifted = standing m; stepped = None; flags = single_step } in
          let over = stop-looked (with_marks s place lifting) place l off in
          patched no_functions m.planted _ over.grows
          (as_always (not-own BeforeCopy at refl) (stop-marked lifting))
          (over-loops _ place _ no_functions over stays)
      loop stays AfterCopy at =
          let m = marks_at s place in
          let back : Marks = record m { lifted = no_functions; stepped = None } in
          let over = stop-looked (with_marks s place back) place l off in
          patched (with_step m.stepped m.lifted) no_functions _ over.grows
          (as_always (not-own AfterCopy at refl) (stop-marked back))
          (over-loops _ place _ (with_step m.stepped m.lifted) over stays)
      loop stays Replaced at =
          let over = stop-looked (with_marks s place no_marks) place l off in
          plain-stopped (with_marks s place no_marks) _ over refl over.grows
          (as_always (not-own Replaced at refl) (stop-marked no_marks))
      loop stays Other at =
          let m = marks_at s place in
          let over_step : Marks = record m { stepped = None } in
          let over = stop-looked (with_marks s place over_step) place l off in
          patched (put_back m) no_functions _ over.grows
          (as_always (not-own Other at refl) (stop-marked over_step))
          (over-loops _ place _ (put_back m) over stays)

      -- while truss leaves
      last-plain : (fe : FunctionEvent) → function_event s.options (marks_at s place) l.id e ≡ fe → is_own fe ≡ false
          → IsStopped (with_lifts_before_closing (with_stop s place l) place)
      last-plain fe at other =
          let over = stop-looked s place l off in
          closing-lifted _ (over.aside ∙ none) over.looked over.grows
          (as_always (not-own fe at other) (stop s place l))

      last : s.leaving ≡ true → (fe : FunctionEvent)
          → function_event s.options (marks_at s place) l.id e ≡ fe → IsStopped (with_last_event s place l fe)
      unfolding with_last_event with_memory_replaced with_call_shown
      last leaves (AtBreakpoint function) at =
          let over = over-over s place in
          lifted true _ over.grows (own_fault (own-here (AtBreakpoint function) at refl) (stop_over s place))
          (over-closes s place true leaves)
      last leaves (Completed step) at =
          let over = over-over (with_call_shown s place step) place in
          lifted true _ (grown-all s.reports _ _ (grown-one s.reports _) over.grows)
          (own_fault (own-here (Completed step) at refl) (over-called s step refl))
          (over-closes (with_call_shown s place step) place true leaves)
      last leaves TraceTrap at =
          let over = over-over s place in
          lifted true _ over.grows (own_fault (own-here TraceTrap at refl) (stop_over s place))
          (over-closes s place true leaves)
      last leaves Replaced at =
          let over = stop-looked (with_marks s place no_marks) place l off in
          closing-lifted _ (over.aside ∙ none) over.looked over.grows
          (as_always (not-own Replaced at refl) (stop-marked no_marks))
      last leaves BeforeCopy at = last-plain BeforeCopy at refl
      last leaves AfterCopy at = last-plain AfterCopy at refl
      last leaves Other at = last-plain Other at refl

    none-fresh : fresh_event (traced_at s place) l ≡ None → IsAtOwnFault s place l → ⊥
    none-fresh is own = none-some own.event (sym is ∙ own.fresh)

    fresh : (e : Option Event) → fresh_event (traced_at s place) l ≡ e → IsStopped (with_fresh_event s place l e)
    unfolding with_last_stop
    fresh None is = by s.leaving refl
      where
        by : (b : Bool) → s.leaving ≡ b → IsStopped (cond b (with_last_stop s place l) (with_stop s place l))
        by true leaves =
            let clear = is_on_event l && has_fault_to_clear (marks_at s place) in
            let over = stop-looked s place l off in
            lifted clear _ over.grows (as_always (none-fresh is) (stop s place l))
            (stop-closes s place l clear leaves is)
        by false stays =
            let over = stop-looked s place l off in
            plain-stopped s _ over refl over.grows (as_always (none-fresh is) (stop s place l))
    fresh (Some e) is = by (function_event s.options (marks_at s place) l.id e) refl s.leaving refl
      where
        by : (fe : FunctionEvent) → function_event s.options (marks_at s place) l.id e ≡ fe → (b : Bool)
            → s.leaving ≡ b → IsStopped (cond b (with_last_event s place l fe) (with_function_event s place l fe))
        by fe at true leaves = last e is leaves fe at
        by fe at false stays = loop e is stays fe at

    pub function-stop : IsStopped (with_function_stop s place l)
    unfolding with_function_stop
    function-stop = fresh (fresh_event (traced_at s place) l) refl
