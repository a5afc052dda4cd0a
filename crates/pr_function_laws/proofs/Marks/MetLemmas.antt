use Rattle.std.proofs.Common.{◌≡◌, ◌==◌, ◌++◌, ℕ, Bool, true, false, cond, Option, Some, None, List, [], ◌∷◌, position, inl, inr, arith, append-nil, refl, sym, subst, ap, ◌∙◌, append_assoc}
use Rattle.std.proofs.lemmas.Bool.{eqb-true}
use Rattle.std.proofs.lemmas.Option.{none-some, same_Some, slice_get_cases}
use Rattle.std.specs.List.{slice_get}
use Rattle.std.specs.Option.{option_and_then}
use Rattle.pr_line.specs.Events.{event_of}
use Rattle.pr_line.specs.declared.events.Event.{Event}
use Rattle.pr_line.specs.declared.events.Event.TheVariants as event
use Rattle.pr_line.specs.declared.functions.Function.{Function}
use Rattle.pr_line.specs.declared.options.Options.{Options}
use Rattle.pr_model.specs.Replies.{bytes_in}
use Rattle.pr_model.specs.declared.calls.Reply.{Reply}
use Rattle.pr_num.proofs.SearchLemmas.{find-passes}
use Rattle.pr_num.proofs.TableLemmas.{find-position, position-within}
use Rattle.pr_num.specs.declared.faults.Flt.{Flt}
use Rattle.pr_num.specs.declared.faults.Flt.TheVariants.{Bpt, Trace}
use Rattle.pr_rec.specs.declared.lwps.LwpStatus.{LwpStatus}
use Rattle.pr_truss.specs.Asides.{marks_at}
use Rattle.pr_truss.specs.FunctionEvents.{begins_at, breakpoint_event, copies_memory, fault_event, fresh_event, function_at, function_event, if_standing, keeps_memory, left_event, step_of, trap_event}
use Rattle.pr_truss.specs.FunctionFeeding.{fed_functions}
use Rattle.pr_truss.specs.Marks.{has_function, has_functions, standing}
use Rattle.pr_truss.specs.Records.{event_stops, status_lwp}
use Rattle.pr_truss.specs.Trusses.{TrussState, first_truss, traced_at}
use Rattle.pr_truss.specs.declared.asides.Aside.{Aside}
use Rattle.pr_truss.specs.declared.asides.Aside.TheVariants.{Nothing}
use Rattle.pr_truss.specs.declared.function_events.FunctionEvent.{FunctionEvent}
use Rattle.pr_truss.specs.declared.function_events.FunctionEvent.TheVariants.{Other, AtBreakpoint, Completed, TraceTrap, BeforeCopy, AfterCopy, Replaced}
use Rattle.pr_truss.specs.declared.marks.Marks.{Marks}
use Rattle.pr_truss.specs.declared.marks.Stepped.{Stepped}
use Rattle.pr_truss.specs.declared.processes.Traced.{Traced}
use Rattle.pr_truss.specs.declared.reports.Report.{Report}
use Rattle.pr_truss.specs.declared.reports.Report.TheVariants.{Called}
use Rattle.pr_truss.specs.declared.stages.Stage.{Stage}
use Rattle.pr_truss.specs.declared.stages.Stage.TheVariants.{ReadingStatus, ReadingLwps}
use Rattle.pr_truss_laws.specs.Business.{TellsOf, in_lstatus, in_status}
use Rattle.pr_function_laws.proofs.Marks.CallLemmas.{first-calls}
use Rattle.pr_function_laws.proofs.Marks.MarkLemmas.{MarksAreBelow, StepIsBelow}
use Rattle.pr_function_laws.proofs.Marks.SoundLemmas.{IsSound, first-sound, function-sound, sound-weaker}
use Rattle.pr_function_laws.specs.Calls.{after_replies, call_beside, call_of_event, call_of_fresh, call_of_lwp, call_read, call_told}
use Rattle.pr_function_laws.specs.Met.{IsTrapped, TellsItsCalls, WasMet}

-- Each step that is under way was begun where a reply told of the lwp at the breakpoint.

-- ---- what an event says

-- the event of an lwp that was read for the first time is the one on which it stands
pub fresh-stands : (t : Traced) (l : LwpStatus) (e : Event) → fresh_event t l ≡ Some e → event_of l ≡ Some e
unfolding fresh_event
fresh-stands t l e is = by (t.old == 0) t.seen is
  where
    by : (a b : Bool) → cond a (cond b None (event_of l)) None ≡ Some e → event_of l ≡ Some e
    by true true found = absurd (none-some e found)
    by true false found = found
    by false b found = absurd (none-some e found)

-- what an event is to the breakpoints, told apart
abbrev breaks : FunctionEvent → Option ℕ
breaks (AtBreakpoint function) = Some function
breaks _ = None

abbrev pub completes : FunctionEvent → Option Stepped
completes (Completed step) = Some step
completes _ = None

choice-breaks : (b : Bool) (u v : FunctionEvent) → breaks u ≡ None → breaks v ≡ None → breaks (cond b u v) ≡ None
choice-breaks true u v p q = p
choice-breaks false u v p q = q

choice-completes : (b : Bool) (u v : FunctionEvent) → completes u ≡ None → completes v ≡ None
    → completes (cond b u v) ≡ None
choice-completes true u v p q = p
choice-completes false u v p q = q

trap-breaks : (step : Option Stepped) (id : ℕ) → breaks (trap_event step id) ≡ None
trap-breaks None id = refl
trap-breaks (Some step) id = choice-breaks (step.lwp == id) (Completed step) TraceTrap refl refl

breakpoint-completes : (function : Option ℕ) → completes (breakpoint_event function) ≡ None
breakpoint-completes None = refl
breakpoint-completes (Some function) = refl

module _ (o : Options) (m : Marks) (id : ℕ) where
  -- a breakpoint
  standing-found : (place : Option ℕ) (function : ℕ)
      → breaks (breakpoint_event (option_and_then (if_standing m) place)) ≡ Some function → place ≡ Some function
  standing-found None function is = absurd (none-some function is)
  standing-found (Some i) function is = by (has_function (standing m) i) is
    where
      by : (b : Bool) → breaks (breakpoint_event (cond b (Some i) None)) ≡ Some function → Some i ≡ Some function
      by true found = found
      by false found = absurd (none-some function found)

  found-at : (pc function : ℕ) → breaks (breakpoint_event (function_at o m pc)) ≡ Some function
      → position (begins_at pc) o.functions ≡ Some function
  unfolding function_at
  found-at pc function is = standing-found (position (begins_at pc) o.functions) function is

  -- the event is FLTBPT at the address of the function
  pub record Breaks (e : Event) (function : ℕ) : Type 0 where
    pub pc : ℕ
    pub is : e ≡ event.Incurred Bpt pc
    pub found : position (begins_at pc) o.functions ≡ Some function

  fault-breaks : (f : Flt) (pc function : ℕ) → breaks (fault_event o m id f pc) ≡ Some function
      → Breaks (event.Incurred f pc) function
  fault-breaks Bpt pc function is = record { pc = pc; is = refl; found = found-at pc function is }
  fault-breaks Trace pc function is = absurd (none-some function (sym (trap-breaks m.stepped id) ∙ is))
  fault-breaks _ pc function is = absurd (none-some function is)

  pub event-breaks : (e : Event) (function : ℕ) → function_event o m id e ≡ AtBreakpoint function → Breaks e function
  unfolding function_event
  event-breaks (event.Entered call arguments) function is =
      absurd (none-some function (sym (choice-breaks (copies_memory call) BeforeCopy Other refl refl) ∙ ap breaks is))
  event-breaks (event.Left call arguments result) function is =
      absurd (none-some function
      (sym (choice-breaks (copies_memory call) (left_event call result) Other
      (choice-breaks (keeps_memory call result) AfterCopy Replaced refl refl) refl) ∙ ap breaks is))
  event-breaks (event.Received signal disposition info) function is = absurd (none-some function (ap breaks is))
  event-breaks (event.Incurred f pc) function is = fault-breaks f pc function (ap breaks is)

  -- the event is FLTTRACE of the lwp whose step is under way
  pub record Completes (e : Event) (step : Stepped) : Type 0 where
    pub pc : ℕ
    pub is : e ≡ event.Incurred Trace pc
    pub under_way : m.stepped ≡ Some step
    pub own : step.lwp ≡ id

  trap-completes : (o : Option Stepped) (step : Stepped) → completes (trap_event o id) ≡ Some step
      → (o ≡ Some step) × (step.lwp ≡ id)
  trap-completes None step is = absurd (none-some step is)
  trap-completes (Some began) step is = by (began.lwp == id) refl is
    where
      by : (b : Bool) → (began.lwp == id) ≡ b → completes (cond b (Completed began) TraceTrap) ≡ Some step
          → (Some began ≡ Some step) × (step.lwp ≡ id)
      by true own found =
          (found, ap (λ (x : Stepped). x.lwp) (sym (same_Some began step found)) ∙ eqb-true began.lwp id own)
      by false own found = absurd (none-some step found)

  fault-completes : (f : Flt) (pc : ℕ) (step : Stepped) → completes (fault_event o m id f pc) ≡ Some step
      → Completes (event.Incurred f pc) step
  fault-completes Bpt pc step is = absurd (none-some step (sym (breakpoint-completes (function_at o m pc)) ∙ is))
  fault-completes Trace pc step is =
      let it = trap-completes m.stepped step is in
      record { pc = pc; is = refl; under_way = it.0; own = it.1 }
  fault-completes _ pc step is = absurd (none-some step is)

  pub event-completes : (e : Event) (step : Stepped) → completes (function_event o m id e) ≡ Some step
      → Completes e step
  unfolding function_event
  event-completes (event.Entered call arguments) step is =
      absurd (none-some step (sym (choice-completes (copies_memory call) BeforeCopy Other refl refl) ∙ is))
  event-completes (event.Left call arguments result) step is =
      absurd (none-some step
      (sym (choice-completes (copies_memory call) (left_event call result) Other
      (choice-completes (keeps_memory call result) AfterCopy Replaced refl refl) refl) ∙ is))
  event-completes (event.Received signal disposition info) step is = absurd (none-some step is)
  event-completes (event.Incurred f pc) step is = fault-completes f pc step is

-- ---- each step was met

module _ (o : Options) where
  -- the step over a function was begun by one of these replies
  abbrev Met : List Reply → Stepped → Type 0
  Met rs step = WasMet o rs step.lwp step.function step.arguments

  later-met : (rs qs : List Reply) (step : Stepped) → Met rs step → Met (rs ++ qs) step
  later-met rs qs step w = record {
    before = w.before;
    reply = w.reply;
    after = w.after ++ qs;
    is = ap (λ xs. xs ++ qs) w.is ∙ append_assoc w.before (w.reply ∷ w.after) qs;
    l = w.l;
    tells = w.tells;
    own = w.own;
    at_breakpoint = w.at_breakpoint;
    holds = w.holds;
  }

  pub found-function : (pc function : ℕ) → position (begins_at pc) o.functions ≡ Some function
      → (f : Function) × ((slice_get o.functions function ≡ Some f) × (f.at ≡ pc))
  found-function pc function is = elim (slice_get_cases o.functions function).1 [
    | inl h ↦ (
      h.0,
      (
        h.2,
        eqb-true (let f : Function = h.0 in f.at) pc
            (find-passes (begins_at pc) o.functions h.0 (find-position (begins_at pc) o.functions function is
            ∙ h.2)),
      ),
    )
    | inr h ↦ absurd
        (omega (arith, h.0, position-within (begins_at pc) o.functions function is))
  ]

  now-met : (rs : List Reply) (r : Reply) (s : TrussState) → s.options ≡ o → (place : ℕ) (l : LwpStatus)
      → TellsOf r l → (e : Event) (function : ℕ) → fresh_event (traced_at s place) l ≡ Some e
      → function_event s.options (marks_at s place) l.id e ≡ AtBreakpoint function
      → Met (rs ++ r ∷ []) (step_of l function)
  unfolding step_of
  now-met rs r s options place l told e function fresh at =
      let b = event-breaks o (marks_at s place) l.id e function
      (ap (λ opts. function_event opts (marks_at s place) l.id e) (sym options) ∙ at) in
      let f = found-function b.pc function b.found in
      record {
        before = rs;
        reply = r;
        after = [];
        is = refl;
        l = l;
        tells = told;
        own = refl;
        at_breakpoint = record {
          f = f.0;
          named = f.1.0;
          stands = fresh-stands (traced_at s place) l e fresh ∙ ap (λ x. Some x) b.is
              ∙ ap (λ pc. Some (event.Incurred Bpt pc)) (sym f.1.1);
        };
        holds = refl;
      }

  reply-met : (rs : List Reply) (r : Reply) (s : TrussState) → IsSound o (Met rs) s
      → IsSound o (Met (rs ++ r ∷ [])) (fed_functions s r)
  reply-met rs r s w =
      let later = sound-weaker o (Met rs) (Met (rs ++ r ∷ [])) s (λ step met. later-met rs (r ∷ []) step met) w in
      let names = later.names in
      function-sound o (Met (rs ++ r ∷ [])) s r later (λ place l told e function fresh at.
      now-met rs r s names.options place l told e function fresh at)

  all-met : (qs rs : List Reply) (s : TrussState) → IsSound o (Met rs) s
      → IsSound o (Met (rs ++ qs)) (after_replies s qs)
  all-met [] rs s w = subst (λ xs. IsSound o (Met xs) s) (sym (append-nil rs)) w
  all-met (q ∷ qs) rs s w =
      subst (λ xs. IsSound o (Met xs) (after_replies (fed_functions s q) qs)) (append_assoc rs (q ∷ []) qs)
      (all-met qs (rs ++ q ∷ []) (fed_functions s q) (reply-met rs q s w))

  -- ---- the reply that tells a call

  record Tells (rs : List Reply) (r : Reply) (lwp function : ℕ) (arguments : List ℕ) : Type 0 where
    met : WasMet o rs lwp function arguments
    trapped : IsTrapped r lwp

  module _ (rs : List Reply) (r : Reply) (s : TrussState) (w : IsSound o (Met rs) s) (pid lwp function : ℕ)
      (arguments : List ℕ) where
    abbrev Tell : List Report → Type 0
    Tell told = told ≡ Called pid lwp function arguments ∷ [] → Tells rs r lwp function arguments

    nothing-told : Tell []
    nothing-told is = cc

    step-told : (place : ℕ) (l : LwpStatus) (e : Event) (step : Stepped) → TellsOf r l → event_of l ≡ Some e
        → Completes o (marks_at s place) l.id e step → (of : ℕ)
        → Tell (Called of step.lwp step.function step.arguments ∷ [])
    step-told place l e step told stands c of is =
        let names = w.names in
        let marks : MarksAreBelow _ (Met rs) (marks_at s place) = names.marks place in
        let met = subst (StepIsBelow _ (Met rs)) c.under_way marks.stepped in
        let lwp_same : step.lwp ≡ lwp = cc in
        let function_same : step.function ≡ function = cc in
        let arguments_same : step.arguments ≡ arguments = cc in
        record {
          met = subst (λ i. WasMet o rs i function arguments) lwp_same
              (subst (λ i. WasMet o rs step.lwp i arguments) function_same
              (subst (λ i. WasMet o rs step.lwp step.function i) arguments_same met.1));
          trapped = record {
            l = l;
            tells = told;
            own = sym c.own ∙ lwp_same;
            at_trap = record { pc = c.pc; stands = stands ∙ ap (λ x. Some x) c.is };
          };
        }

    event-told : (place : ℕ) (l : LwpStatus) (e : Event) → TellsOf r l → event_of l ≡ Some e → (of : ℕ)
        → (fe : FunctionEvent) → function_event o (marks_at s place) l.id e ≡ fe → Tell (call_of_event of fe)
    event-told place l e told stands of (Completed step) at =
        step-told place l e step told stands (event-completes o (marks_at s place) l.id e step (ap completes at)) of
    event-told place l e told stands of _ at = nothing-told

    fresh-told : (place : ℕ) (l : LwpStatus) → TellsOf r l → (e : Option Event) → fresh_event (traced_at s place) l ≡ e
        → Tell (call_of_fresh s place l.id e)
    fresh-told place l told None is = nothing-told
    fresh-told place l told (Some e) is =
        let names = w.names in
        subst (λ opts. Tell (call_of_event (traced_at s place).pid (function_event opts (marks_at s place) l.id e)))
        (sym names.options)
        (event-told place l e told (fresh-stands (traced_at s place) l e is) (traced_at s place).pid
        (function_event o (marks_at s place) l.id e) refl)

    lwp-told : (place : ℕ) (l : Option LwpStatus) → ((st : LwpStatus) → l ≡ Some st → TellsOf r st)
        → Tell (call_of_lwp s place l)
    lwp-told place None tells = nothing-told
    lwp-told place (Some l) tells = fresh-told place l (tells l refl) (fresh_event (traced_at s place) l) refl

    read-told : (stage : Stage) → Tell (call_read s r stage)
    read-told (ReadingStatus place) = lwp-told place (option_and_then status_lwp (bytes_in r)) (λ st is. in_status is)
    read-told ReadingLwps = lwp-told 0 (slice_get (event_stops (bytes_in r)) 0) (λ st is. in_lstatus is)
    read-told _ = nothing-told

    beside-told : (aside : Aside) → Tell (call_beside s r aside)
    beside-told Nothing = read-told s.stage
    beside-told _ = nothing-told

    all-told : Tell (call_told s r)
    unfolding call_told
    all-told = beside-told s.aside

  first-met : (rs : List Reply) → IsSound o (Met rs) (after_replies (first_truss o) rs)
  first-met rs = all-met rs [] (first_truss o) (first-sound o (Met []))

pub told-met : (o : Options) (rs : List Reply) (r : Reply) (pid lwp function : ℕ) (arguments : List ℕ)
    → call_told (after_replies (first_truss o) rs) r ≡ Called pid lwp function arguments ∷ []
    → WasMet o rs lwp function arguments
told-met o rs r pid lwp function arguments is =
    let it = all-told o rs r (after_replies (first_truss o) rs) (first-met o rs) pid lwp function arguments is in it.met

pub told-trapped : (o : Options) (rs : List Reply) (r : Reply) (pid lwp function : ℕ) (arguments : List ℕ)
    → call_told (after_replies (first_truss o) rs) r ≡ Called pid lwp function arguments ∷ [] → IsTrapped r lwp
told-trapped o rs r pid lwp function arguments is =
    let it = all-told o rs r (after_replies (first_truss o) rs) (first-met o rs) pid lwp function arguments is in
    it.trapped

pub tells-calls : (o : Options) (rs : List Reply) → has_functions o ≡ true → TellsItsCalls o rs
tells-calls o rs has = record {
  reported = first-calls o rs has;
  met = λ before after r pid lwp function arguments is told. (
    told-met o before r pid lwp function arguments told,
    told-trapped o before r pid lwp function arguments told,
  );
}

pub ruleset mets = (told-met, told-trapped, tells-calls)
