use Rattle.std.proofs.Common.{◌≡◌, ◌≢◌, ◌⊎◌, ◌||◌, ℕ, zero, suc, Bool, true, false, cond, is_some, nat_lt, not, Option, Some, None, List, [], ◌∷◌, length, refl, sym, subst, ap, ◌∙◌, arith, inl}
use Rattle.std.proofs.lemmas.List.{get_or-set_other}
use Rattle.std.specs.List.{remove, slice_get, slice_set}
use Rattle.pr_line.specs.Events.{event_of}
use Rattle.pr_line.specs.Selections.{is_selected}
use Rattle.pr_line.specs.declared.events.Event.{Event}
use Rattle.pr_model.specs.declared.calls.Reply.{Reply}
use Rattle.pr_num.specs.declared.errnos.Errno.{Errno}
use Rattle.pr_rec.specs.declared.lwps.LwpStatus.{LwpStatus}
use Rattle.pr_truss.specs.Asides.{marks_at, patching, with_aside, with_lifts, with_patches}
use Rattle.pr_truss.specs.Closings.{left_or_finished, polls_or_finished, with_closing, with_going_on, with_interrupt, with_next_left, with_next_opening}
use Rattle.pr_truss.specs.FunctionEvents.{fresh_event}
use Rattle.pr_truss.specs.FunctionFeeding.{with_functions_begun, with_next_function, with_refused_opening}
use Rattle.pr_truss.specs.FunctionStops.{with_call_shown, with_copy_begun, with_copy_ended, with_fresh_event, with_function_event, with_function_stop, with_function_stop_read, with_memory_replaced, with_other_event, with_step_begun, with_step_completed, with_trap_over}
use Rattle.pr_truss.specs.Marks.{first_function, no_functions}
use Rattle.pr_truss.specs.Openings.{at_step, learnt, step_after, with_refused_step, with_step_done}
use Rattle.pr_truss.specs.Processes.{newly_traced}
use Rattle.pr_truss.specs.Records.{child_of, is_on_event}
use Rattle.pr_truss.specs.Stops.{asked_range, followed_child, with_child_or, with_event, with_event_over, with_event_shown, with_old_stop_over, with_stop, with_stop_over, with_text_or_shown}
use Rattle.pr_truss.specs.Trusses.{TrussState, nobody, opening_or, traced_at, with_report, with_stage, with_traced}
use Rattle.pr_truss.specs.declared.asides.Aside.{Aside}
use Rattle.pr_truss.specs.declared.asides.Aside.TheVariants.{Nothing, Reading, Planting, Patching}
use Rattle.pr_truss.specs.declared.function_events.FunctionEvent.{FunctionEvent}
use Rattle.pr_truss.specs.declared.function_events.FunctionEvent.TheVariants.{Other, AtBreakpoint, Completed, TraceTrap, BeforeCopy, AfterCopy, Replaced}
use Rattle.pr_truss.specs.declared.processes.Traced.{Traced}
use Rattle.pr_truss.specs.declared.reports.Report.{Report}
use Rattle.pr_truss.specs.declared.stages.AfterClosing.TheVariants.{OpenNext, GoOn}
use Rattle.pr_truss.specs.declared.stages.OpeningStep.{OpeningStep}
use Rattle.pr_truss.specs.declared.stages.OpeningStep.TheVariants as opening
use Rattle.pr_truss.specs.declared.stages.Stage.{Stage}
use Rattle.pr_truss.specs.declared.stages.Stage.TheVariants.{Spawning, OpeningControl, Opening, Polling, ReadingStatus, ReadingText, Running, Closing, Finished}
use Rattle.pr_truss_laws.proofs.Files.HeldLemmas.{at_place}
use Rattle.pr_function_laws.proofs.Marks.MarkLemmas.{Everywhere}

-- Processes that are run with no run flags, by what truss with functions does next.

-- ---- processes without run flags

abbrev pub Plain : Traced → Type 0
Plain t = t.marks.flags ≡ 0

abbrev pub AllPlain : List Traced → Type 0
AllPlain = Everywhere Plain

-- all but the one at this place
abbrev pub PlainBut : List Traced → ℕ → Type 0
PlainBut ts q = (j : ℕ) → j ≢ q → Plain (at_place ts j)

pub all-but : (ts : List Traced) (q : ℕ) → AllPlain ts → PlainBut ts q
all-but ts q all j other = all j

pub none-plain : AllPlain []
unfolding newly_traced
none-plain zero = refl
none-plain (suc j) = refl

pub but-tail : (u : Traced) (us : List Traced) (q : ℕ) → PlainBut (u ∷ us) (suc q) → PlainBut us q
but-tail u us q but j other = but (suc j) (λ is. other (omega (arith, is)))

pub but-set : (ts : List Traced) (q : ℕ) (t : Traced) → PlainBut ts q → PlainBut (slice_set ts q t) q
but-set ts q t but j other = subst Plain (sym (get_or-set_other ts q j t nobody other)) (but j other)

pub all-set : (ts : List Traced) (q : ℕ) (t : Traced) → PlainBut ts q → Plain t → AllPlain (slice_set ts q t)
all-set [] q t but has j = none-plain j
all-set (u ∷ us) zero t but has zero = has
all-set (u ∷ us) zero t but has (suc j) = but (suc j) (λ is. absurd (omega (arith, is)))
all-set (u ∷ us) (suc q) t but has zero = but 0 (λ is. absurd (omega (arith, is)))
all-set (u ∷ us) (suc q) t but has (suc j) = all-set us q t (but-tail u us q but) has j

pub all-remove : (ts : List Traced) (q : ℕ) → PlainBut ts q → AllPlain (remove ts q)
all-remove [] zero but j = none-plain j
all-remove [] (suc q) but j = none-plain j
all-remove (u ∷ us) zero but j = but (suc j) (λ is. absurd (omega (arith, is)))
all-remove (u ∷ us) (suc q) but zero = but 0 (λ is. absurd (omega (arith, is)))
all-remove (u ∷ us) (suc q) but (suc j) = all-remove us q (but-tail u us q but) j

-- the run flags of each process are the same
abbrev pub AreFlagsOf : List Traced → List Traced → Type 0
AreFlagsOf ts us = (j : ℕ) → (at_place us j).marks.flags ≡ (at_place ts j).marks.flags

pub same-set : (ts : List Traced) (q : ℕ) (t : Traced) → t.marks.flags ≡ (at_place ts q).marks.flags
    → AreFlagsOf ts (slice_set ts q t)
same-set [] q t same j = refl
same-set (u ∷ us) zero t same zero = same
same-set (u ∷ us) zero t same (suc j) = refl
same-set (u ∷ us) (suc q) t same zero = refl
same-set (u ∷ us) (suc q) t same (suc j) = same-set us q t same j

-- ---- by what truss does next

abbrev pub AtStage : List Traced → Stage → Type 0
AtStage ts (Spawning program) = AllPlain ts
AtStage ts (OpeningControl pid) = AllPlain ts
AtStage ts (Opening q step) = AllPlain ts
AtStage ts Polling = AllPlain ts
AtStage ts (ReadingStatus q) = AllPlain ts
AtStage ts (ReadingText q l from len) = PlainBut ts q
AtStage ts (Running q) = PlainBut ts q
AtStage ts (Closing q OpenNext) = PlainBut ts q
AtStage ts (Closing q GoOn) = PlainBut ts q
AtStage ts Finished = AllPlain ts
AtStage ts _ = ⊥

abbrev pub AtAside : List Traced → Aside → Type 0
AtAside ts Nothing = Unit {0}
AtAside ts (Reading q function) = PlainBut ts q
AtAside ts (Planting q function) = PlainBut ts q
AtAside ts (Patching q plants lifts clear) = PlainBut ts q
AtAside ts _ = ⊥

pub stage-same : (ts us : List Traced) (stage : Stage) → AreFlagsOf ts us → AtStage ts stage → AtStage us stage
stage-same ts us (Spawning program) same w = λ j. same j ∙ w j
stage-same ts us (OpeningControl pid) same w = λ j. same j ∙ w j
stage-same ts us (Opening q step) same w = λ j. same j ∙ w j
stage-same ts us Polling same w = λ j. same j ∙ w j
stage-same ts us (ReadingStatus q) same w = λ j. same j ∙ w j
stage-same ts us (ReadingText q l from len) same w = λ j other. same j ∙ w j other
stage-same ts us (Running q) same w = λ j other. same j ∙ w j other
stage-same ts us (Closing q OpenNext) same w = λ j other. same j ∙ w j other
stage-same ts us (Closing q GoOn) same w = λ j other. same j ∙ w j other
stage-same ts us Finished same w = λ j. same j ∙ w j
stage-same ts us _ same w = absurd w

pub record Unflagged (u : TrussState) : Type 0 where
  pub follow : u.options.follow ≡ false
  pub off : u.leaving ≡ false
  pub stage : AtStage u.traced u.stage
  pub beside : AtAside u.traced u.aside

-- so it is, or truss leaves its processes
abbrev pub LeavesOr : TrussState → Type 0
LeavesOr u = (u.leaving ≡ true) ⊎ Unflagged u

-- nothing comes before the next call
pub record Base (u : TrussState) : Type 0 where
  pub follow : u.options.follow ≡ false
  pub off : u.leaving ≡ false
  pub idle : u.aside ≡ Nothing

-- truss at the process at a place
pub record Here (q : ℕ) (u : TrussState) : Type 0 where
  pub base : Base u
  pub but : PlainBut u.traced q

pub record After (q : ℕ) (u : TrussState) : Type 0 where
  pub is : Unflagged u
  pub but : PlainBut u.traced q

pub to : (u : TrussState) (stage : Stage) → Base u → AtStage u.traced stage → Unflagged (with_stage u stage)
to u stage b is = record {
  follow = b.follow;
  off = b.off;
  stage = is;
  beside = subst (AtAside u.traced) (sym b.idle) tt;
}

pub at : (q : ℕ) (u : TrussState) (stage : Stage) → Here q u → AtStage u.traced stage → After q (with_stage u stage)
at q u stage h is = record { is = to u stage h.base is; but = h.but }

pub reported : (u : TrussState) (report : Report) → Base u → Base (with_report u report)
reported u report b = record { follow = b.follow; off = b.off; idle = b.idle }

pub told : (q : ℕ) (u : TrussState) (report : Report) → Here q u → Here q (with_report u report)
told q u report h = record { base = reported u report h.base; but = h.but }

pub set-base : (u : TrussState) (q : ℕ) (t : Traced) → Base u → Base (with_traced u q t)
set-base u q t b = record { follow = b.follow; off = b.off; idle = b.idle }

pub set-here : (q : ℕ) (u : TrussState) (t : Traced) → Here q u → Here q (with_traced u q t)
set-here q u t h = record { base = set-base u q t h.base; but = but-set u.traced q t h.but }

pub either : (q : ℕ) (b : Bool) (u v : TrussState) → After q u → After q v → After q (cond b u v)
either q true u v x y = x
either q false u v x y = y

pub stays : (q : ℕ) (s u v : TrussState) → s.leaving ≡ false → After q v → After q (cond s.leaving u v)
stays q s u v off it = subst (After q) (sym (ap (λ b. cond b u v) off)) it

pub off-at : (q : ℕ) (u : TrussState) → Here q u → u.leaving ≡ false
off-at q u h = let b = h.base in b.off

-- ---- an interrupt

pub left-leaves : (u : TrussState) (t : Option Traced) → u.leaving ≡ true → (left_or_finished u t).leaving ≡ true
left-leaves u None on = on
left-leaves u (Some t) on = on

pub interrupted : (u : TrussState) → LeavesOr (with_interrupt u)
unfolding with_interrupt with_next_left
interrupted u = inl (left-leaves (record u { leaving = true }) (slice_get u.traced 0) refl)

-- ---- stops

pub over : (q : ℕ) (u : TrussState) → Here q u → After q (with_stop_over u q)
unfolding with_stop_over
over q u h = stays q u _ _ (off-at q u h) (at q u (Running q) h h.but)

pub event-over : (q : ℕ) (u : TrussState) (l : LwpStatus) → Here q u → After q (with_event_over u q l)
unfolding with_event_over followed_child
event-over q u l h =
    subst (After q) (sym (ap (λ f. with_child_or u q (cond f (child_of l) None)) (let b = h.base in b.follow)))
    (over q u h)

pub shown : (q : ℕ) (u : TrussState) (l : LwpStatus) (range : Option (ℕ × ℕ)) → Here q u
    → After q (with_text_or_shown u q l range)
unfolding with_event_shown
shown q u l None h = event-over q (with_event_shown u q l None) l (told q u _ h)
shown q u l (Some range) h = at q u (ReadingText q l range.0 range.1) h h.but

pub event : (q : ℕ) (u : TrussState) (l : LwpStatus) (e : Option Event) → Here q u → After q (with_event u q l e)
event q u l None h = over q u h
event q u l (Some e) h =
    either q (is_selected u.options e) _ _ (shown q u l (asked_range u.options e) h) (event-over q u l h)

pub stop : (q : ℕ) (u : TrussState) (l : LwpStatus) → Here q u → After q (with_stop u q l)
unfolding with_stop with_old_stop_over
stop q u l h =
    either q (not (is_on_event l)) _ _ (over q u h)
    (either q (nat_lt 0 (traced_at u q).old) _ _ (over q _ (set-here q u _ h))
    (either q (traced_at u q).seen _ _ (over q u h) (event q u l (event_of l) h)))

-- ---- patches

pub beside : (q : ℕ) (u : TrussState) (a : Aside) → AtAside u.traced a → After q u → After q (with_aside u a)
beside q u a is w =
    let v : Unflagged u = w.is in
    record { is = record { follow = v.follow; off = v.off; stage = v.stage; beside = is }; but = w.but }

pub patching-at : (ts : List Traced) (q : ℕ) (plants lifts : List Bool) (clear : Bool) → PlainBut ts q
    → AtAside ts (patching q plants lifts clear)
unfolding patching
patching-at ts q plants lifts clear but =
    elim (is_some (first_function plants) || is_some (first_function lifts) || clear)
    as (λ b. AtAside ts (cond b (Patching q plants lifts clear) Nothing)) [ true ↦ but | false ↦ tt ]

pub patched : (q : ℕ) (u : TrussState) (plants lifts : List Bool) → After q u → After q (with_patches u q plants lifts)
unfolding with_patches
patched q u plants lifts w = beside q u _ (patching-at u.traced q plants lifts false w.but) w

pub lifted : (q : ℕ) (u : TrussState) (clear : Bool) → After q u → After q (with_lifts u q clear)
unfolding with_lifts
lifted q u clear w = beside q u _ (patching-at u.traced q no_functions (marks_at u q).planted clear w.but) w

-- ---- stops with breakpoints

pub function-event : (q : ℕ) (u : TrussState) (l : LwpStatus) (e : FunctionEvent) → Here q u
    → After q (with_function_event u q l e)
unfolding with_function_event with_step_begun with_step_completed with_trap_over with_copy_begun with_copy_ended
    with_other_event with_memory_replaced with_call_shown
function-event q u l (AtBreakpoint function) h = patched q _ _ _ (over q _ (set-here q u _ h))
function-event q u l (Completed step) h = patched q _ _ _ (over q _ (told q _ _ (set-here q u _ h)))
function-event q u l TraceTrap h = over q _ (set-here q u _ h)
function-event q u l BeforeCopy h = patched q _ _ _ (stop q _ l (set-here q u _ h))
function-event q u l AfterCopy h = patched q _ _ _ (stop q _ l (set-here q u _ h))
function-event q u l Replaced h = stop q _ l (set-here q u _ h)
function-event q u l Other h = patched q _ _ _ (stop q _ l (set-here q u _ h))

pub fresh : (q : ℕ) (u : TrussState) (l : LwpStatus) (e : Option Event) → Here q u → After q (with_fresh_event u q l e)
fresh q u l None h = stays q u _ _ (off-at q u h) (stop q u l h)
fresh q u l (Some e) h = stays q u _ _ (off-at q u h) (function-event q u l _ h)

pub read : (q : ℕ) (u : TrussState) (l : Option LwpStatus) → Here q u → After q (with_function_stop_read u q l)
unfolding with_function_stop
read q u None h = stays q u _ _ (off-at q u h) (over q u h)
read q u (Some l) h = fresh q u l (fresh_event (traced_at u q) l) h

pub closing : (q : ℕ) (u : TrussState) → Here q u → After q (with_closing u q)
closing q u h = at q u (Closing q GoOn) h h.but

-- ---- when nothing is to be done for a process

pub going : (u : TrussState) → Base u → AllPlain u.traced → Unflagged (with_going_on u)
unfolding with_going_on
going u b all =
    subst Unflagged (sym (ap (λ c. cond c (with_next_left u) (polls_or_finished u (slice_get u.traced 0))) b.off))
    (by (slice_get u.traced 0))
  where
    by : (t : Option Traced) → Unflagged (polls_or_finished u t)
    by None = to u Finished b all
    by (Some t) = to u Polling b all

pub opens-next : (u : TrussState) → Base u → AllPlain u.traced → Unflagged (with_next_opening u)
unfolding with_next_opening
opens-next u b all = by (slice_get u.options.pids u.begun)
  where
    by : (pid : Option ℕ) → Unflagged (opening_or u (with_going_on u) pid)
    by None = going u b all
    by (Some pid) = record {
      follow = b.follow;
      off = b.off;
      stage = all;
      beside = subst (AtAside u.traced) (sym b.idle) tt;
    }

-- ---- the opening of a process

pub next-function : (q function : ℕ) (u : TrussState) → Unflagged u → PlainBut u.traced q
    → Unflagged (with_next_function u q function)
unfolding with_next_function
next-function q function u w but =
    elim (nat_lt function (length u.options.functions))
    as (λ b. Unflagged (cond b (with_aside u (Reading q function)) (with_aside u Nothing))) [
      | true ↦ record { follow = w.follow; off = w.off; stage = w.stage; beside = but }
      | false ↦ record { follow = w.follow; off = w.off; stage = w.stage; beside = tt }
    ]

pub refused-step : (q : ℕ) (u : TrussState) (errno : Errno) → Here q u → After q (with_refused_step u q errno)
unfolding with_refused_step
refused-step q u errno h = at q _ (Closing q OpenNext) (told q u _ h) h.but

pub refused-opening : (q : ℕ) (u : TrussState) (errno : Errno) → Here q u → Unflagged (with_refused_opening u q errno)
unfolding with_refused_opening
refused-opening q u errno h = let w = lifted q _ false (refused-step q u errno h) in w.is

pub learnt-flags : (t : Traced) (r : Reply) (step : OpeningStep) → (learnt t r step).marks.flags ≡ t.marks.flags
unfolding learnt
learnt-flags t r opening.Stop = refl
learnt-flags t r _ = refl

pub learnt-plain : (u : TrussState) (q : ℕ) (r : Reply) (now : OpeningStep) → AllPlain u.traced
    → AllPlain (slice_set u.traced q (learnt (traced_at u q) r now))
learnt-plain u q r now all j =
    same-set u.traced q (learnt (traced_at u q) r now) (learnt-flags (traced_at u q) r now) j ∙ all j

pub step-done : (u : TrussState) (q : ℕ) (r : Reply) (now : OpeningStep) → Base u → AllPlain u.traced
    → Unflagged (with_step_done u q r now)
unfolding with_step_done
step-done u q r now b all = by (step_after u.options r now)
  where
    v : TrussState
    v = with_traced u q (learnt (traced_at u q) r now)

    by : (next : Option OpeningStep) → Unflagged (at_step v q next)
    by None = opens-next v (set-base u q _ b) (learnt-plain u q r now all)
    by (Some next) = to v (Opening q next) (set-base u q _ b) (learnt-plain u q r now all)

-- behind the traced sets the functions are looked at
pub begun : (u : TrussState) (q : ℕ) (r : Reply) (now : OpeningStep) → Base u → AllPlain u.traced
    → Unflagged (with_functions_begun (with_step_done u q r now) q now)
unfolding step_after with_step_done
begun u q r opening.TraceExits b all =
    next-function q 0 _ (step-done u q r opening.TraceExits b all)
    (all-but _ q (learnt-plain u q r opening.TraceExits all))
begun u q r now b all = step-done u q r now b all
