use Rattle.std.proofs.Common.{◌≡◌, ◌≢◌, ◌<◌, ◌||◌, ◌&&◌, ℕ, Bool, true, false, cond, is_some, Option, Some, None}
use Rattle.std.proofs.Common.{List, [], ◌∷◌, length, refl, sym, subst, ap, ◌∙◌}
use Rattle.std.proofs.lemmas.Bool.{and_parts, false≢true}
use Rattle.std.proofs.lemmas.List.{get_or-set_other, length-set, set-get_or}
use Rattle.std.proofs.lemmas.Option.{none-some, same_Some, slice_get_within}
use Rattle.std.specs.List.{remove, slice_get}
use Rattle.pr_line.specs.declared.events.Event.{Event}
use Rattle.pr_model.specs.Replies.{bytes_in}
use Rattle.pr_model.specs.declared.calls.Call.{Call}
use Rattle.pr_model.specs.declared.calls.Reply.{Reply}
use Rattle.pr_rec.specs.declared.lwps.LwpStatus.{LwpStatus}
use Rattle.pr_truss.specs.Asides.{has_fault_to_clear, lifts_at, marks_at, patching, with_aside, with_lifts}
use Rattle.pr_truss.specs.Asides.{with_lifts_before_closing, with_marks}
use Rattle.pr_truss.specs.Closings.{after_closing, closed_or_removed, left_or_finished, with_closed}
use Rattle.pr_truss.specs.Closings.{with_closing, with_interrupt, with_next_left}
use Rattle.pr_truss.specs.Feeding.{with_reply}
use Rattle.pr_truss.specs.FunctionCalls.{function_call_of, next_function_call_of}
use Rattle.pr_truss.specs.FunctionEvents.{fresh_event, function_event}
use Rattle.pr_truss.specs.FunctionFeeding.{after_first, after_patch, fed_functions, with_aside_answered}
use Rattle.pr_truss.specs.FunctionFeeding.{with_function_reply, with_patch_answered, without_planted}
use Rattle.pr_truss.specs.FunctionStops.{after_function_text, with_call_shown, with_fresh_event, with_function_event}
use Rattle.pr_truss.specs.FunctionStops.{with_function_lwps_answered, with_function_stop, with_function_stop_read}
use Rattle.pr_truss.specs.FunctionStops.{with_function_text_answered, with_last_event, with_last_stop}
use Rattle.pr_truss.specs.FunctionStops.{with_memory_replaced}
use Rattle.pr_truss.specs.Marks.{first_function, has_functions, no_functions, no_marks, without_function}
use Rattle.pr_truss.specs.NextCalls.{call_of}
use Rattle.pr_truss.specs.Openings.{with_stop_seen}
use Rattle.pr_truss.specs.Processes.{without_last}
use Rattle.pr_truss.specs.Records.{event_stops, is_on_event}
use Rattle.pr_truss.specs.Replies.{answer_of}
use Rattle.pr_truss.specs.Stops.{after_text, text_of, with_event_over, with_event_shown}
use Rattle.pr_truss.specs.Stops.{with_stop, with_stop_over, with_text_answered}
use Rattle.pr_truss.specs.Trusses.{TrussState, nobody, traced_at, with_stage, with_traced, without_traced}
use Rattle.pr_truss.specs.declared.asides.Aside.{Aside}
use Rattle.pr_truss.specs.declared.asides.Aside.TheVariants.{Nothing, Patching}
use Rattle.pr_truss.specs.declared.function_events.FunctionEvent.{FunctionEvent}
use Rattle.pr_truss.specs.declared.function_events.FunctionEvent.TheVariants.{AfterCopy, AtBreakpoint, BeforeCopy}
use Rattle.pr_truss.specs.declared.function_events.FunctionEvent.TheVariants.{Completed, Other, Replaced, TraceTrap}
use Rattle.pr_truss.specs.declared.processes.Traced.{Traced}
use Rattle.pr_truss.specs.declared.replies.Answer.{Answer}
use Rattle.pr_truss.specs.declared.replies.Answer.TheVariants.{Accepted, Gone, Interrupted, Refused}
use Rattle.pr_truss.specs.declared.stages.AfterClosing.TheVariants.{GoOn}
use Rattle.pr_truss.specs.declared.stages.OpeningStep.TheVariants as opening
use Rattle.pr_truss.specs.declared.stages.Stage.{Stage}
use Rattle.pr_truss.specs.declared.stages.Stage.TheVariants.{Closing, Finished, Opening}
use Rattle.pr_truss.specs.declared.stages.Stage.TheVariants.{ReadingLwps, ReadingText}
use Rattle.pr_truss.specs.declared.stages.Stage.TheVariants.{Unfollowing}
use Rattle.pr_truss_laws.proofs.Files.HeldLemmas.{at_place, set-at}
use Rattle.pr_truss_laws.proofs.Replies.ReplySteps.{lost-same}
use Rattle.pr_function_laws.proofs.Marks.KeptPlaces.{AtAside, AtStage, Position}
use Rattle.pr_function_laws.proofs.LeavingProcesses.LeavingLaws.{going-is, halt_aside, halt_stage, halted-fed, left-same, next_aside, next_stage}
use Rattle.pr_function_laws.proofs.LeavingProcesses.LeavingStages.{Alike, IsLeft, Looked, Over, TellsLast, alike-join}
use Rattle.pr_function_laws.proofs.LeavingProcesses.LeavingStages.{alike-same, asks, awaits, lifted_after, with_fewer}
use Rattle.pr_function_laws.proofs.LeavingProcesses.LeavingStages.{closes_files, closing-over, event-over, halts, has_ended, is_looked}
use Rattle.pr_function_laws.proofs.LeavingProcesses.LeavingStages.{lifts_all, looks, over, over-join, reads_text, set-field, stale-over}
use Rattle.pr_function_laws.proofs.LeavingProcesses.LeavingStages.{stop-looked, stop-over, text, waits_again, with_no_marks}
use Rattle.pr_function_laws.proofs.LeavingProcesses.LeavingWaits.{interrupted_at, waits-at, waits-fed}
use Rattle.pr_function_laws.proofs.OrdinaryTruss.OrdinaryStops.{nothing-first}
use Rattle.pr_function_laws.proofs.NextCalls.PatchCalls.{fed-beside, fed-staged, next-staged}
use Rattle.pr_function_laws.specs.Leaving.{AsksAgain, Directs, Ends, Goes as GoesTo, HaltNext, HaltStep, Looks}
use Rattle.pr_function_laws.specs.Leaving.{Waits, WaitsAgain, halt_next}
use Rattle.pr_function_laws.specs.Soon.{may_wait}
pub use Rattle.pr_function_laws.proofs.LeavingProcesses.LeavingWaits.{WaitsAt, awaits_opening, polls}

-- What a reply makes of truss that leaves its processes, as data: which of them it traces then, which one the first of
-- them is, and what comes next for that. A law of these replies goes over the list.

-- ---- where it stands

-- the same processes, each attached as before; and all but the first with as many old stops, and marked as before
pub record Shares (t v : TrussState) : Type 0 where
  pub many : length v.traced ≡ length t.traced
  pub pids : (i : ℕ) → (traced_at v i).pid ≡ (traced_at t i).pid
  pub attached : (i : ℕ) → (traced_at v i).attached ≡ (traced_at t i).attached
  pub olds : (i : ℕ) → i ≢ 0 → (traced_at v i).old ≡ (traced_at t i).old
  pub marks : (i : ℕ) → i ≢ 0 → marks_at v i ≡ marks_at t i

abbrev pub IsAt : TrussState → Stage → Aside → Type 0
IsAt t stage aside = (t.stage ≡ stage) × (t.aside ≡ aside)

abbrev pub IsAtStep : TrussState → HaltStep → Type 0
IsAtStep t step = IsAt t (halt_stage step) (halt_aside step)

abbrev pub IsAtNext : TrussState → HaltNext → Type 0
IsAtNext v next = IsAt v (next_stage next) (next_aside next)

-- a step of the stop is one of the places where truss may stand, and it has not looked at the process there
abbrev pub step_at : (t : TrussState) (step : HaltStep) → IsAtStep t step → 0 < length t.traced → IsLeft t
step_at t Directs at within = halts at.0 at.1 within
step_at t (Waits until) at within = awaits until at.0 at.1 within
step_at t AsksAgain at within = asks at.0 at.1 within
step_at t (WaitsAgain until) at within = waits_again until at.0 at.1 within

pub step-unlooked : (t : TrussState) (step : HaltStep) → IsAtStep t step → is_looked t.stage ≡ false
step-unlooked t Directs at = ap is_looked at.0
step-unlooked t (Waits until) at = ap is_looked at.0
step-unlooked t AsksAgain at = ap is_looked at.0
step-unlooked t (WaitsAgain until) at = ap is_looked at.0

-- It begins to leave the next process: it directs it to stop; or only closes it, where it was not attached; or none is
-- left.
pub data NextLeft (v : TrussState) : Type 0 where
  begins : IsAt v Unfollowing Nothing → 0 < length v.traced → (traced_at v 0).attached ≡ true → NextLeft v
  shuts : IsAt v (Closing 0 GoOn) Nothing → 0 < length v.traced → (traced_at v 0).attached ≡ false → NextLeft v
  none_left : IsAt v Finished Nothing → length v.traced ≡ 0 → NextLeft v

-- ---- what the look tells

-- events at which truss clears the fault
abbrev pub is_own_event : FunctionEvent → Bool
is_own_event (AtBreakpoint function) = true
is_own_event (Completed step) = true
is_own_event TraceTrap = true
is_own_event _ = false

-- the look tells of one of them
pub record TellsOwn (t : TrussState) (r : Reply) : Type 0 where
  pub accepted : answer_of r ≡ Accepted
  pub l : LwpStatus
  pub told : slice_get (event_stops (bytes_in r)) 0 ≡ Some l
  pub event : Event
  pub fresh : fresh_event (traced_at t 0) l ≡ Some event
  pub own : is_own_event (function_event t.options (marks_at t 0) l.id event) ≡ true

-- What it tells, what the first process is then, and whether its fault is to be cleared: one of these events; that the
-- memory was replaced; or neither, and then a fault is cleared only where one was left to be.
pub data Look (t : TrussState) (r : Reply) : Traced → Bool → Type 0 where
  tells_own : TellsOwn t r → Look t r (traced_at t 0) true
  tells_last : TellsLast t r → (TellsOwn t r → ⊥) → Look t r (with_no_marks (traced_at t 0)) false
  tells_neither : {clear : Bool} → (TellsOwn t r → ⊥) → (clear ≡ true → has_fault_to_clear (marks_at t 0) ≡ true)
      → Look t r (traced_at t 0) clear

-- ---- the list

-- The first process is this one then, and the others are as they were; truss has looked at it.
pub record FirstIs (t : TrussState) (x : Traced) (v : TrussState) : Type 0 where
  pub alike : Alike (with_traced t 0 x) v
  pub pid : x.pid ≡ (traced_at t 0).pid
  pub shares : Shares t v
  pub within : 0 < length v.traced
  pub looked_at : is_looked v.stage ≡ true

-- What comes next for it, and whether a fault is cleared with that: memory is read for a line; what is planted is
-- lifted, and the fault cleared if it is to be; or its files are closed, since nothing is planted, or it has ended.
pub data Then (r : Reply) (v : TrussState) : Bool → Type 0 where
  to_read : (l : LwpStatus) (from len : ℕ) → IsAt v (ReadingText 0 l from len) Nothing → Then r v false
  to_lift : (clear : Bool) → IsAt v (Closing 0 GoOn) (Patching 0 no_functions (marks_at v 0).planted clear)
      → Then r v clear
  to_close : IsAt v (Closing 0 GoOn) Nothing → first_function (marks_at v 0).planted ≡ None → Then r v false
  is_gone : {clear : Bool} → IsAt v (Closing 0 GoOn) Nothing → answer_of r ≡ Gone → Then r v clear

-- A step of the stop of the first process was answered; truss has looked at it just now; or had done so, and has read
-- memory for the line of an event, or lifted a breakpoint or cleared a fault, or closed a file; or the last of its
-- files was closed.
pub data Went (t : TrussState) (r : Reply) (v : TrussState) : IsLeft t → Type 0 where
  halted : (step : HaltStep) (at : IsAtStep t step) (within : 0 < length t.traced) → v.traced ≡ t.traced
      → IsAtNext v (halt_next step r (answer_of r)) → Went t r v (step_at t step at within)
  looked : (at : IsAt t ReadingLwps Nothing) (within : 0 < length t.traced) {x : Traced} {clear : Bool}
      → Look t r x clear → FirstIs t x v → Then r v clear → Went t r v (looks at.0 at.1 within)
  has_read : (l : LwpStatus) (from len : ℕ) (at : IsAt t (ReadingText 0 l from len) Nothing)
      (within : 0 < length t.traced) → FirstIs t (traced_at t 0) v → Then r v false
      → Went t r v (reads_text l from len at.0 at.1 within)
  patched : (clear : Bool) (at : IsAt t (Closing 0 GoOn) (Patching 0 no_functions (marks_at t 0).planted clear))
      (within : 0 < length t.traced) → FirstIs t (with_fewer (traced_at t 0)) v
      → Then r v (is_some (first_function (marks_at t 0).planted) && clear)
      → Went t r v (lifts_all clear at.0 at.1 within)
  loses : (u : Traced) (at : IsAt t (Closing 0 GoOn) Nothing) (within : 0 < length t.traced)
      → without_last (traced_at t 0) ≡ Some u → FirstIs t u v → IsAt v (Closing 0 GoOn) Nothing
      → Went t r v (closes_files at.0 at.1 within)
  ended : (at : IsAt t (Closing 0 GoOn) Nothing) (within : 0 < length t.traced)
      → without_last (traced_at t 0) ≡ None → v.traced ≡ remove t.traced 0 → NextLeft v
      → Went t r v (closes_files at.0 at.1 within)

-- so it was at this place, and it leaves on
pub record LeavesOn (t : TrussState) (r : Reply) (w : IsLeft t) (v : TrussState) : Type 0 where
  pub went : Went t r v w
  pub on : v.leaving ≡ true
  pub at : IsLeft v

-- with the first interrupt: it traces the same processes, with as many old stops
pub record BeginsToLeave (t v : TrussState) : Type 0 where
  pub waits : WaitsAt t
  pub shares : Shares t v
  pub old : (traced_at v 0).old ≡ (traced_at t 0).old
  pub marks : marks_at v 0 ≡ marks_at t 0
  pub next : NextLeft v
  pub on : v.leaving ≡ true
  pub at : IsLeft v

-- ---- where it comes to

pub next-at : (v : TrussState) → NextLeft v → IsLeft v
next-at v (begins at within on) = halts at.0 at.1 within
next-at v (shuts at within off) = closes_files at.0 at.1 within
next-at v (none_left at none) = has_ended at.0 at.1

then-at : (r : Reply) (v : TrussState) (clear : Bool) → 0 < length v.traced → Then r v clear
    → IsLeft v × (is_looked v.stage ≡ true)
then-at r v clear within (to_read l from len at) = (reads_text l from len at.0 at.1 within, ap is_looked at.0)
then-at r v clear within (to_lift cleared at) = (lifts_all cleared at.0 at.1 within, ap is_looked at.0)
then-at r v clear within (to_close at none) = (closes_files at.0 at.1 within, ap is_looked at.0)
then-at r v clear within (is_gone at gone) = (closes_files at.0 at.1 within, ap is_looked at.0)

halted-at : (v : TrussState) (next : HaltNext) → IsAtNext v next → 0 < length v.traced → IsLeft v
halted-at v (GoesTo step) at within = step_at v step at within
halted-at v Looks at within = looks at.0 at.1 within
halted-at v Ends at within = closes_files at.0 at.1 within

went-at : (t : TrussState) (r : Reply) (v : TrussState) (w : IsLeft t) → Went t r v w → IsLeft v
went-at t r v w (halted step at within same to) =
    halted-at v (halt_next step r (answer_of r)) to (subst (λ (ts : List Traced). 0 < length ts) (sym same) within)
went-at t r v w (looked at within look f next) = (then-at r v _ f.within next).0
went-at t r v w (has_read l from len at within f next) = (then-at r v _ f.within next).0
went-at t r v w (patched clear at within f next) = (then-at r v _ f.within next).0
went-at t r v w (loses u at within is f to) = closes_files to.0 to.1 f.within
went-at t r v w (ended at within none same to) = next-at v to

-- ---- the same processes

shares-of : (u v : TrussState) → Alike u v → Shares u v
shares-of u v a = record {
  many = a.many;
  pids = λ i. let f = a.files i in f.pid;
  attached = a.attached;
  olds = a.olds;
  marks = λ i other. a.marks i;
}

shares-join : (u v w : TrussState) → Shares u v → Shares v w → Shares u w
shares-join u v w a b = record {
  many = b.many ∙ a.many;
  pids = λ i. b.pids i ∙ a.pids i;
  attached = λ i. b.attached i ∙ a.attached i;
  olds = λ i other. b.olds i other ∙ a.olds i other;
  marks = λ i other. b.marks i other ∙ a.marks i other;
}

-- the first process becomes another record of it
shares-set : (u : TrussState) (x : Traced) → 0 < length u.traced → x.pid ≡ (traced_at u 0).pid
    → x.attached ≡ (traced_at u 0).attached → Shares u (with_traced u 0 x)
shares-set u x within pid attached = record {
  many = length-set u.traced 0 x;
  pids = set-field u 0 x (λ (y : Traced). y.pid) within pid;
  attached = set-field u 0 x (λ (y : Traced). y.attached) within attached;
  olds = λ i apart. ap (λ (y : Traced). y.old) (get_or-set_other u.traced 0 i x nobody apart);
  marks = λ i apart. ap (λ (y : Traced). y.marks) (get_or-set_other u.traced 0 i x nobody apart);
}

-- ---- the next process

pub next-is : (u : TrussState) → u.aside ≡ Nothing → NextLeft (with_next_left u)
unfolding with_next_left
next-is u idle = by (slice_get u.traced 0) refl
  where
    here : (ts : List Traced) (t : Traced) → slice_get ts 0 ≡ Some t → at_place ts 0 ≡ t
    here [] t is = absurd (none-some t is)
    here (x ∷ ts) t is = same_Some x t is

    of : (attached : Bool) → (traced_at u 0).attached ≡ attached → 0 < length u.traced
        → NextLeft (with_stage u (cond attached Unfollowing (Closing 0 GoOn)))
    of true on within = begins (refl, idle) within on
    of false off within = shuts (refl, idle) within off

    none : (ts : List Traced) → slice_get ts 0 ≡ None → length ts ≡ 0
    none [] is = refl
    none (x ∷ ts) is = absurd (none-some x (sym is))

    by : (t : Option Traced) → slice_get u.traced 0 ≡ t → NextLeft (left_or_finished u t)
    by None is = none_left (refl, idle) (none u.traced is)
    by (Some t) is =
        of t.attached (ap (λ (x : Traced). x.attached) (here u.traced t is)) (slice_get_within u.traced 0 t is)

-- ---- truss that has looked at the first process

-- the processes are as they were, and this comes next
abbrev Comes : Reply → TrussState → Bool → TrussState → Type 0
Comes r u clear v = Alike u v × Then r v clear

-- what is planted is lifted, and a fault cleared, as far as there is any of it
to-do : (r : Reply) (v : TrussState) → v.stage ≡ Closing 0 GoOn → (set : List Bool) → (marks_at v 0).planted ≡ set
    → (clear : Bool) → Then r (with_aside v (patching 0 no_functions set clear)) clear
unfolding patching
to-do r v at set same clear = by (first_function no_functions) (first_function set) refl clear
  where
    some : (clear : Bool) → Then r (with_aside v (Patching 0 no_functions set clear)) clear
    some clear = to_lift clear (at, ap (λ planted. Patching 0 no_functions planted clear) (sym same))

    by : (plant lift : Option ℕ) → first_function set ≡ lift → (clear : Bool)
        → Then r (with_aside v (cond (is_some plant || is_some lift || clear)
        (Patching 0 no_functions set clear) Nothing)) clear
    by (Some i) lift is clear = some clear
    by None (Some i) is clear = some clear
    by None None is true = some true
    by None None is false = to_close (at, refl) (ap first_function same ∙ is)

over-lifts : (r : Reply) (u v : TrussState) (clear : Bool) → Over u v → Comes r u clear (with_lifts v 0 clear)
unfolding with_lifts
over-lifts r u v clear o =
    (alike-join u v _ o.alike (alike-same v _ refl refl refl), to-do r v o.at (marks_at v 0).planted refl clear)

over-gone : (r : Reply) (u v : TrussState) → u.aside ≡ Nothing → answer_of r ≡ Gone → Over u v → Comes r u false v
over-gone r u v idle gone o = (o.alike, is_gone (o.at, o.beside ∙ idle) gone)

before-comes : (r : Reply) (u v : TrussState) → u.aside ≡ Nothing → Looked u v
    → Comes r u false (with_lifts_before_closing v 0)
unfolding with_lifts_before_closing
before-comes r u v idle (over o) =
    subst (λ stage. Comes r u false (lifts_at v 0 stage)) (sym o.at) (over-lifts r u v false o)
before-comes r u v idle (text l from len a at beside) =
    subst (λ stage. Comes r u false (lifts_at v 0 stage)) (sym at) (a, to_read l from len (at, beside ∙ idle))

-- ---- the reply

module _ (t : TrussState) (r : Reply) (on : t.leaving ≡ true) (follow : t.options.follow ≡ false)
    (has : has_functions t.options ≡ true) where
  abbrev To : IsLeft t → TrussState → Type 0
  To w v = Went t r v w × (v.leaving ≡ true)

  -- the first process is this one then
  module _ (within : 0 < length t.traced) (x : Traced) (pid : x.pid ≡ (traced_at t 0).pid)
      (attached : x.attached ≡ (traced_at t 0).attached) (v : TrussState) (a : Alike (with_traced t 0 x) v) where
    inside : 0 < length v.traced
    inside = subst (λ n. 0 < n) (sym (a.many ∙ length-set t.traced 0 x)) within

    first-is : is_looked v.stage ≡ true → FirstIs t x v
    first-is looked_at = record {
      alike = a;
      pid = pid;
      shares = shares-join t (with_traced t 0 x) v (shares-set t x within pid attached) (shares-of _ v a);
      within = inside;
      looked_at = looked_at;
    }

    first-comes : {clear : Bool} → Then r v clear → FirstIs t x v
    first-comes {clear} next = first-is (then-at r v clear inside next).1

  -- it stays as it is
  stays-here : {clear : Bool} (v : TrussState) → Comes r t clear v → Comes r (with_traced t 0 (traced_at t 0)) clear v
  stays-here {clear} v =
      subst (λ u. Comes r u clear v) (sym (ap (λ ts. record t { traced = ts }) (set-get_or t.traced 0 nobody)))

  -- ---- the stop

  halt-row : (step : HaltStep) (at : IsAtStep t step) (within : 0 < length t.traced)
      → To (step_at t step at within) (fed_functions t r)
  halt-row step at within =
      let is = halted-fed t.options has step t r refl at.0 at.1 in (
        halted step at within (ap (λ (u : TrussState). u.traced) is)
            (ap (λ (u : TrussState). u.stage) is, ap (λ (u : TrussState). u.aside) is),
        ap (λ (u : TrussState). u.leaving) is ∙ on,
      )

  -- ---- the last look

  module _ (at : IsAt t ReadingLwps Nothing) (within : 0 < length t.traced) where
    abbrev Looks_to : TrussState → Type 0
    Looks_to v = To (looks at.0 at.1 within) v

    look-to : (x : Traced) {clear : Bool} (v : TrussState) → x.pid ≡ (traced_at t 0).pid
        → x.attached ≡ (traced_at t 0).attached → Look t r x clear → Comes r (with_traced t 0 x) clear v → Looks_to v
    look-to x v pid attached look c =
        (looked at within look (first-comes within x pid attached v c.0 c.1) c.1, (let a = c.0 in a.leaving) ∙ on)

    here-to : {clear : Bool} (v : TrussState) → Look t r (traced_at t 0) clear → Comes r t clear v → Looks_to v
    here-to v look c = look-to (traced_at t 0) v refl refl look (stays-here v c)

    never : {A : Type 0} → false ≡ true → A
    never is = absurd (false≢true is)

    module _ (accepted : answer_of r ≡ Accepted) (l : LwpStatus)
        (told : slice_get (event_stops (bytes_in r)) 0 ≡ Some l) where
      module _ (e : Event) (fresh : fresh_event (traced_at t 0) l ≡ Some e) (kind : FunctionEvent)
          (is : function_event t.options (marks_at t 0) l.id e ≡ kind) where
        not-own : is_own_event kind ≡ false → TellsOwn t r → ⊥
        not-own none w =
            let same : l ≡ w.l = same_Some l w.l (sym told ∙ w.told) in
            let event : e ≡ w.event =
            same_Some e w.event (sym fresh ∙ ap (fresh_event (traced_at t 0)) same ∙ w.fresh) in
            false≢true
            (sym (ap is_own_event is ∙ none)
            ∙ ap (λ (x : LwpStatus). is_own_event (function_event t.options (marks_at t 0) x.id e)) same
            ∙ ap (λ y. is_own_event (function_event t.options (marks_at t 0) (let x = w.l in x.id) y)) event ∙ w.own)

        own-row : is_own_event kind ≡ true → (v : TrussState) → Over t v → Looks_to (with_lifts v 0 true)
        own-row some v o = here-to _ (tells_own (record {
          accepted = accepted;
          l = l;
          told = told;
          event = e;
          fresh = fresh;
          own = ap is_own_event is ∙ some;
        })) (over-lifts r t v true o)

        other-row : is_own_event kind ≡ false → Looks_to (with_lifts_before_closing (with_stop t 0 l) 0)
        other-row none =
            here-to _ (tells_neither (not-own none) never)
            (before-comes r t (with_stop t 0 l) at.1 (stop-looked t on follow l within))

        replaced-row : kind ≡ Replaced
            → Looks_to (with_lifts_before_closing (with_stop (with_marks t 0 no_marks) 0 l) 0)
        replaced-row replaced =
            let x : Traced = with_no_marks (traced_at t 0) in
            let u : TrussState = with_marks t 0 no_marks in
            let inside : 0 < length u.traced = subst (λ n. 0 < n) (sym (length-set t.traced 0 x)) within in
            look-to x _ refl refl
            (tells_last
            (record {
              reads = at.0;
              idle = at.1;
              accepted = accepted;
              l = l;
              told = told;
              event = e;
              fresh = fresh;
              replaced = is ∙ replaced;
            }) (not-own (ap is_own_event replaced)))
            (before-comes r u (with_stop u 0 l) at.1 (stop-looked u on follow l inside))

      event-row : (e : Event) → fresh_event (traced_at t 0) l ≡ Some e → (kind : FunctionEvent)
          → function_event t.options (marks_at t 0) l.id e ≡ kind → Looks_to (with_last_event t 0 l kind)
      unfolding with_last_event with_call_shown with_memory_replaced
      event-row e fresh (AtBreakpoint function) is =
          own-row e fresh _ is refl (with_stop_over t 0) (stop-over t on follow)
      event-row e fresh (Completed step) is =
          let u : TrussState = with_call_shown t 0 step in
          own-row e fresh _ is refl (with_stop_over u 0)
          (over-join t u _ (alike-same t u refl refl refl) refl (stop-over u on follow))
      event-row e fresh TraceTrap is = own-row e fresh _ is refl (with_stop_over t 0) (stop-over t on follow)
      event-row e fresh Replaced is = replaced-row e fresh _ is refl
      event-row e fresh BeforeCopy is = other-row e fresh _ is refl
      event-row e fresh AfterCopy is = other-row e fresh _ is refl
      event-row e fresh Other is = other-row e fresh _ is refl

      fresh-row : (e : Option Event) → fresh_event (traced_at t 0) l ≡ e → Looks_to (with_fresh_event t 0 l e)
      unfolding with_last_stop
      fresh-row None stale =
          subst Looks_to (sym (ap (λ b. cond b (with_last_stop t 0 l) (with_stop t 0 l)) on))
          (here-to _ (tells_neither none (λ clears. (and_parts (is_on_event l) _ clears).1))
          (over-lifts r t (with_stop t 0 l) (is_on_event l && has_fault_to_clear (marks_at t 0))
          (stale-over t on follow l within stale)))
        where
          none : TellsOwn t r → ⊥
          none w =
              none-some w.event
              (sym stale ∙ ap (fresh_event (traced_at t 0)) (same_Some l w.l (sym told ∙ w.told)) ∙ w.fresh)
      fresh-row (Some e) fresh =
          let kind : FunctionEvent = function_event t.options (marks_at t 0) l.id e in
          subst Looks_to (sym (ap (λ b. cond b (with_last_event t 0 l kind) (with_function_event t 0 l kind)) on))
          (event-row e fresh kind refl)

    read-row : answer_of r ≡ Accepted → (l : Option LwpStatus) → slice_get (event_stops (bytes_in r)) 0 ≡ l
        → Looks_to (with_function_stop_read t 0 l)
    unfolding with_function_stop
    read-row accepted None told =
        subst Looks_to (sym (ap (λ b. cond b (with_lifts (with_stop_over t 0) 0 false) (with_stop_over t 0)) on))
        (here-to _ (tells_neither (λ w. none-some w.l (sym told ∙ w.told)) never)
        (over-lifts r t (with_stop_over t 0) false (stop-over t on follow)))
    read-row accepted (Some l) told = fresh-row accepted l told (fresh_event (traced_at t 0) l) refl

    look-row : (a : Answer) → answer_of r ≡ a → Looks_to (with_function_lwps_answered t r a)
    unfolding with_function_lwps_answered
    look-row Accepted is = read-row is (slice_get (event_stops (bytes_in r)) 0) refl
    look-row (Refused errno) is =
        here-to _ (tells_neither (λ w. let both : Refused errno ≡ Accepted = sym is ∙ w.accepted in cc) never)
        (over-lifts r t (with_closing t 0) false (closing-over t on follow))
    look-row Interrupted is =
        here-to _ (tells_neither (λ w. let both : Interrupted ≡ Accepted = sym is ∙ w.accepted in cc) never)
        (over-lifts r t (with_closing t 0) false (closing-over t on follow))
    look-row Gone is =
        here-to _ (tells_neither (λ w. let both : Gone ≡ Accepted = sym is ∙ w.accepted in cc) never)
        (over-gone r t (with_closing t 0) at.1 is (closing-over t on follow))

  -- ---- memory was read for a line

  text-comes : (u : TrussState) (l : LwpStatus) → u.leaving ≡ true → u.options.follow ≡ false → u.aside ≡ Nothing
      → (a : Answer) → answer_of r ≡ a → Comes r u false (after_function_text t (after_text u 0 l a) 0 a)
  unfolding after_text
  text-comes u l on_u off idle = by
    where
      lifted : (v : TrussState) → Over u v → Comes r u false (cond t.leaving (with_lifts v 0 false) v)
      lifted v o =
          subst (λ c. Comes r u false (cond c (with_lifts v 0 false) v)) (sym on) (over-lifts r u v false o)

      by : (a : Answer) → answer_of r ≡ a → Comes r u false (after_function_text t (after_text u 0 l a) 0 a)
      by Gone is = over-gone r u _ idle is (closing-over u on_u off)
      by Accepted is = lifted _ (event-over u on_u off l)
      by (Refused errno) is = lifted _ (event-over u on_u off l)
      by Interrupted is =
          lifted _
          (subst (λ c. Over u (cond c (with_event_over u 0 l) (with_interrupt (with_stop_seen u 0)))) (sym on_u)
          (event-over u on_u off l))

  -- ---- a breakpoint is lifted, or a fault cleared

  -- what is left to do goes on, unless the process has ended
  after-comes : (u : TrussState) (rest : Aside) (clear : Bool) → u.aside ≡ Nothing → Then r (with_aside u rest) clear
      → (a : Answer) → answer_of r ≡ a → Comes r u clear (after_patch u rest 0 (Closing 0 GoOn) a)
  unfolding after_patch
  after-comes u rest clear idle next Gone is = (alike-same u _ refl refl refl, is_gone (refl, idle) is)
  after-comes u rest clear idle next _ is = (alike-same u _ refl refl refl, next)

  module _ (at : t.stage ≡ Closing 0 GoOn) (within : 0 < length t.traced) (clear : Bool) where
    abbrev set : List Bool
    set = (marks_at t 0).planted

    abbrev left_after : Option ℕ → Traced
    left_after lift = record (traced_at t 0) { marks = record (marks_at t 0) { planted = lifted_after set lift } }

    abbrev Patches_to : Option ℕ → TrussState → Type 0
    Patches_to lift v = Comes r (with_traced t 0 (left_after lift)) (is_some lift && clear) v

    lift-comes : (a : Answer) → answer_of r ≡ a → (lift : Option ℕ) → first_function set ≡ lift
        → Patches_to lift (after_first (with_aside t Nothing) 0 no_functions set clear a None lift)
    lift-comes a is (Some i) found =
        let u : TrussState = without_planted (with_aside t Nothing) 0 i in
        let rest : Aside = patching 0 no_functions (without_function set i) clear in
        let c =
        after-comes u rest clear refl
        (to-do r u at (without_function set i)
        (ap (λ (x : Traced). x.marks.planted) (set-at t.traced 0 (left_after (Some i)) within)) clear) a is in
        subst (λ stage. Patches_to (Some i) (after_patch u rest 0 stage a)) (sym at)
        (alike-join (with_traced t 0 (left_after (Some i))) u _ (alike-same _ u refl refl refl) c.0, c.1)
    lift-comes a is None found =
        let u : TrussState = with_aside t Nothing in
        let c = after-comes u Nothing false refl (to_close (at, refl) found) a is in
        subst (λ stage. Patches_to None (after_patch u Nothing 0 stage a)) (sym at)
        (stays-here _ (alike-join t u _ (alike-same t u refl refl refl) c.0, c.1))

    patch-comes : Patches_to (first_function set)
        (with_patch_answered (with_aside t Nothing) 0 no_functions set clear (answer_of r))
    unfolding with_patch_answered
    patch-comes =
        subst (λ plant. Patches_to (first_function set) (after_first (with_aside t Nothing) 0 no_functions set clear
        (answer_of r) plant (first_function set))) (sym nothing-first)
        (lift-comes (answer_of r) refl (first_function set) refl)

  -- ---- a file is closed

  closed-row : (at : IsAt t (Closing 0 GoOn) Nothing) (within : 0 < length t.traced) (v : Option Traced)
      → without_last (traced_at t 0) ≡ v → To (closes_files at.0 at.1 within) (closed_or_removed t 0 GoOn v)
  unfolding after_closing
  closed-row at within None is =
      let u : TrussState = without_traced t 0 in
      let same = left-same u in
      subst (To (closes_files at.0 at.1 within)) (sym (going-is u on))
      (ended at within is same.0 (next-is u at.1), same.1 ∙ on)
  closed-row at within (Some v) is =
      let same = lost-same (traced_at t 0) v is in (
        loses v at within is
            (first-is within v same.pid same.attached (with_traced t 0 v) (alike-same _ _ refl refl refl)
            (ap is_looked at.0)) at,
        on,
      )

  -- ---- a row a place

  beside-fed : (aside : Aside) → t.aside ≡ aside → fed_functions t r ≡ with_aside_answered t r aside
  beside-fed aside is = fed-beside t.options has t r refl ∙ ap (with_aside_answered t r) is

  staged-fed : (stage : Stage) → t.stage ≡ stage → t.aside ≡ Nothing
      → fed_functions t r ≡ with_function_reply t r stage
  staged-fed stage at idle = fed-staged t.options has t r stage refl idle at

  -- truss that has finished stays as it is
  pub finished-fed : IsAt t Finished Nothing → fed_functions t r ≡ t
  unfolding with_function_reply with_reply
  finished-fed at = staged-fed Finished at.0 at.1

  -- it has not finished
  abbrev pub GoesOn : IsLeft t → Type 0
  GoesOn (has_ended at idle) = ⊥
  GoesOn w = Unit {0}

  row-of : (w : IsLeft t) → GoesOn w → To w (fed_functions t r)
  unfolding with_aside_answered with_function_reply with_reply with_closed with_function_text_answered
      with_text_answered with_event_shown
  row-of (halts at idle within) goes = halt-row Directs (at, idle) within
  row-of (awaits until at beside within) goes = halt-row (Waits until) (at, beside) within
  row-of (asks at beside within) goes = halt-row AsksAgain (at, beside) within
  row-of (waits_again until at beside within) goes = halt-row (WaitsAgain until) (at, beside) within
  row-of (looks at idle within) goes =
      subst (To (looks at idle within)) (sym (staged-fed ReadingLwps at idle))
      (look-row (at, idle) within (answer_of r) refl)
  row-of (reads_text l from len at idle within) goes =
      let u : TrussState = with_event_shown t 0 l (text_of len (bytes_in r)) in
      let c = text-comes u l on follow idle (answer_of r) refl in
      let a = alike-join t u _ (alike-same t u refl refl refl) c.0 in
      let h = stays-here _ (a, c.1) in
      subst (To (reads_text l from len at idle within)) (sym (staged-fed (ReadingText 0 l from len) at idle)) (
        has_read l from len (at, idle) within (first-comes within (traced_at t 0) refl refl _ h.0 h.1) h.1,
        a.leaving ∙ on,
      )
  row-of (lifts_all clear at beside within) goes =
      let c = patch-comes at within clear in
      subst (To (lifts_all clear at beside within))
      (sym (beside-fed (Patching 0 no_functions (marks_at t 0).planted clear) beside)) (
        patched clear (at, beside) within (first-comes within (with_fewer (traced_at t 0)) refl refl _ c.0 c.1) c.1,
        (let a = c.0 in a.leaving) ∙ on,
      )
  row-of (closes_files at idle within) goes =
      subst (To (closes_files at idle within)) (sym (staged-fed (Closing 0 GoOn) at idle))
      (closed-row (at, idle) within (without_last (traced_at t 0)) refl)
  row-of (has_ended at idle) goes = absurd goes

  pub leaves : (w : IsLeft t) → GoesOn w → LeavesOn t r w (fed_functions t r)
  leaves w goes =
      let row = row-of w goes in
      record { went = row.0; on = row.1; at = went-at t r (fed_functions t r) w row.0 }

  -- where truss makes a call
  pub leaves-on : (w : IsLeft t) (c : Call) → next_function_call_of t ≡ Some c → LeavesOn t r w (fed_functions t r)
  unfolding function_call_of call_of
  leaves-on w c next = leaves w (goes w)
    where
      goes : (w : IsLeft t) → GoesOn w
      goes (has_ended at idle) = none-some c (sym (next-staged t.options has t Finished refl idle at) ∙ next)
      goes _ = tt

-- ---- the first interrupt

module _ (P : Position → Traced → Type 0) (t : TrussState) (r : Reply) (has : has_functions t.options ≡ true)
    (interrupted : answer_of r ≡ Interrupted) (c : Call) (waits : may_wait c ≡ true) where
  begun : WaitsAt t → (u : TrussState) → u.leaving ≡ true → u.aside ≡ Nothing → Shares t u
      → ((traced_at u 0).old ≡ (traced_at t 0).old) × (marks_at u 0 ≡ marks_at t 0)
      → fed_functions t r ≡ with_next_left u → BeginsToLeave t (fed_functions t r)
  begun waits_at u on idle shares first is =
      let n = next-is u idle in
      let same = left-same u in
      subst (BeginsToLeave t) (sym is)
      (record {
        waits = waits_at;
        shares = shares-join t u _ shares (same-shares u (with_next_left u) same.0);
        old = ap (λ (ts : List Traced). (at_place ts 0).old) same.0 ∙ first.0;
        marks = ap (λ (ts : List Traced). (at_place ts 0).marks) same.0 ∙ first.1;
        next = n;
        on = same.1 ∙ on;
        at = next-at (with_next_left u) n;
      })
    where
      same-shares : (u v : TrussState) → v.traced ≡ u.traced → Shares u v
      same-shares u v is = record {
        many = ap (λ (ts : List Traced). length ts) is;
        pids = λ i. ap (λ (ts : List Traced). (at_place ts i).pid) is;
        attached = λ i. ap (λ (ts : List Traced). (at_place ts i).attached) is;
        olds = λ i other. ap (λ (ts : List Traced). (at_place ts i).old) is;
        marks = λ i other. ap (λ (ts : List Traced). (at_place ts i).marks) is;
      }

  abbrev seen_there : ℕ → Traced
  seen_there q = record (traced_at t q) { seen = true }

  seen-shares : (q : ℕ) → q < length t.traced
      → Shares t (record (with_stop_seen t q) { leaving = true })
      × (((traced_at (record (with_stop_seen t q) { leaving = true }) 0).old ≡ (traced_at t 0).old)
      × (marks_at (record (with_stop_seen t q) { leaving = true }) 0 ≡ marks_at t 0))
  unfolding with_stop_seen
  seen-shares q within = (
    record {
      many = length-set t.traced q (seen_there q);
      pids = set-field t q (seen_there q) (λ (x : Traced). x.pid) within refl;
      attached = set-field t q (seen_there q) (λ (x : Traced). x.attached) within refl;
      olds = λ i other. set-field t q (seen_there q) (λ (x : Traced). x.old) within refl i;
      marks = λ i other. set-field t q (seen_there q) (λ (x : Traced). x.marks) within refl i;
    },
    (
      set-field t q (seen_there q) (λ (x : Traced). x.old) within refl 0,
      set-field t q (seen_there q) (λ (x : Traced). x.marks) within refl 0,
    ),
  )

  begins-at : AtStage P t.traced t.stage → t.aside ≡ Nothing → (w : WaitsAt t)
      → fed_functions t r ≡ with_next_left (interrupted_at t w) → BeginsToLeave t (fed_functions t r)
  unfolding interrupted_at with_stop_seen
  begins-at is idle (awaits_opening q until at) next =
      let here : AtStage P t.traced (Opening q (opening.AwaitStop until)) = subst (AtStage P t.traced) at is in
      let seen = seen-shares q here.0 in
      begun (awaits_opening q until at) (record (with_stop_seen t q) { leaving = true }) refl idle seen.0 seen.1 next
  begins-at is idle (polls at) next =
      begun (polls at) (record t { leaving = true }) refl idle
      (record {
        many = refl;
        pids = λ i. refl;
        attached = λ i. refl;
        olds = λ i other. refl;
        marks = λ i other. refl;
      }) (refl, refl) next

  pub begins-to-leave : AtStage P t.traced t.stage → AtAside P t.traced t.aside → next_function_call_of t ≡ Some c
      → BeginsToLeave t (fed_functions t r)
  begins-to-leave is beside next =
      let w = waits-at t.options has t refl P c waits is beside next in
      begins-at is w.0 w.1 (waits-fed t.options has t refl r interrupted w.0 w.1)
