use Rattle.std.proofs.Common.{◌≡◌, ◌<◌, ◌++◌, ℕ, Bool, true, Option, Some, None, List, [], ◌∷◌, length, position, refl, sym, subst, ap, ◌∙◌}
use Rattle.std.proofs.lemmas.Option.{same_Some}
use Rattle.pr_line.specs.declared.events.Event.{Event}
use Rattle.pr_line.specs.declared.options.Options.{Options}
use Rattle.pr_model.specs.Replies.{handle_in}
use Rattle.pr_rec.specs.declared.lwps.LwpStatus.{LwpStatus}
use Rattle.pr_report_laws.proofs.Memory.WatchMemory.{accepted-granted}
use Rattle.pr_truss.specs.Asides.{marks_at}
use Rattle.pr_truss.specs.FunctionCalls.{function_call_of, next_function_call_of}
use Rattle.pr_truss.specs.FunctionEvents.{begins_at, fresh_event, function_event}
use Rattle.pr_truss.specs.FunctionFeeding.{fed_functions}
use Rattle.pr_truss.specs.Marks.{first_function, has_functions}
use Rattle.pr_truss.specs.NextCalls.{call_of, open_control}
use Rattle.pr_truss.specs.Processes.{newly_traced}
use Rattle.pr_truss.specs.Replies.{answer_of}
use Rattle.pr_truss.specs.Trusses.{TrussState, first_truss, traced_at}
use Rattle.pr_truss.specs.declared.asides.Aside.{Aside}
use Rattle.pr_truss.specs.declared.asides.Aside.TheVariants.{Nothing, Planting, Patching}
use Rattle.pr_truss.specs.declared.function_events.FunctionEvent.{FunctionEvent}
use Rattle.pr_truss.specs.declared.function_events.FunctionEvent.TheVariants.{Other, AtBreakpoint, Completed, TraceTrap, BeforeCopy, AfterCopy, Replaced}
use Rattle.pr_truss.specs.declared.marks.Marks.{Marks}
use Rattle.pr_truss.specs.declared.processes.Traced.{Traced}
use Rattle.pr_truss.specs.declared.replies.Answer.{Answer}
use Rattle.pr_truss.specs.declared.replies.Answer.TheVariants.{Accepted, Interrupted, Gone, Refused}
use Rattle.pr_truss.specs.declared.stages.Stage.{Stage}
use Rattle.pr_truss.specs.declared.stages.Stage.TheVariants.{OpeningControl, ReadingStatus, OpeningChildControl, Running, ReadingLwps}
use Rattle.pr_truss_laws.specs.Exchanges.{Exchange}
use Rattle.pr_function_laws.proofs.CallTurns.CalledLaws.{functions-both}
use Rattle.pr_function_laws.proofs.Marks.MarkWalk.{AfterSo, AsideIn, BesideSo, Holds, MarksIn, StageSo, fed-holds, marks_then}
use Rattle.pr_function_laws.proofs.NextCalls.PatchCalls.{next-staged}
use Rattle.pr_function_laws.proofs.NextCalls.TreatedLaws.{options-at}
use Rattle.pr_function_laws.proofs.OpenedProcesses.OpenedLaws.{calls-rest}
use Rattle.pr_function_laws.specs.Runs.{MakesFunctionCalls, functions_after}
use Rattle.pr_function_hides.specs.Waiting.{KeepsWhatWaits, LeavesCopiesAlone, ReadsLwpAt, is_of_copy, of_lwps, of_status}

-- What waits to be planted again in the process of a control file is the same after each reply, but where an event is
-- read that is before or behind a call that copies or replaces the memory.

-- of the functions nothing is asked
abbrev Any : ℕ → Type 0
Any i = Unit {0}

found-any : (o : Options) (pc function : ℕ) → position (begins_at pc) o.functions ≡ Some function → Any function
found-any o pc function is = tt

marks-any : (m : Marks) → MarksIn Any m
marks-any m = record { planted = λ i has. tt; lifted = λ i has. tt; stepped = λ step is. tt }

aside-any : (a : Aside) → AsideIn Any a
aside-any (Planting q function) = tt
aside-any (Patching q plants lifts clear) = (λ i has. tt, λ i has. tt)
aside-any _ = tt

-- an event of another kind leaves what waits
still : (m : Marks) (l : LwpStatus) (e : FunctionEvent) → (is_of_copy e ≡ true → ⊥)
    → (marks_then m l e).lifted ≡ m.lifted
still m l (AtBreakpoint function) none = refl
still m l (Completed step) none = refl
still m l TraceTrap none = refl
still m l BeforeCopy none = absurd (none refl)
still m l AfterCopy none = absurd (none refl)
still m l Replaced none = absurd (none refl)
still m l Other none = refl

module _ (o : Options) (has : has_functions o ≡ true) (control : ℕ) (set : List Bool) where
  -- in the process of this control file these wait
  abbrev Waits : Traced → Type 0
  Waits t = t.control ≡ control → t.marks.lifted ≡ set

  waits-alike : (u v : Traced) → v.pid ≡ u.pid → v.control ≡ u.control → v.marks ≡ u.marks → Waits u → Waits v
  waits-alike u v pid same marks w = λ at. ap (λ (m : Marks). m.lifted) marks ∙ w (sym same ∙ at)

  waits-sets : (u : Traced) → Waits u → MarksIn Any u.marks
  waits-sets u w = marks-any u.marks

  abbrev Kept : TrussState → Type 0
  Kept u = Holds o Any (found-any o) Waits waits-alike waits-sets u

  -- ---- a reply

  module _ (t : TrussState) (x : Exchange) (made : next_function_call_of t ≡ Some x.call)
      (quiet : LeavesCopiesAlone control t x) (kept : Kept t) where
    abbrev AtStage : Stage → Type 0
    AtStage stage =
        StageSo o Any (found-any o) Waits waits-alike waits-sets t x.reply kept.options kept.aside stage

    abbrev Beside : Aside → Type 0
    Beside aside =
        BesideSo o Any (found-any o) Waits waits-alike waits-sets t x.reply kept.options kept.aside aside

    opens-other : (pid : ℕ) (stage : Stage) → t.stage ≡ stage → t.aside ≡ Nothing
        → function_call_of t stage ≡ Some (open_control pid) → answer_of x.reply ≡ Accepted
        → Waits (newly_traced pid (handle_in x.reply))
    unfolding newly_traced
    opens-other pid stage at idle call accepted is =
        absurd
        (quiet.gives_none pid
        (same_Some x.call (open_control pid) (sym made ∙ next-staged o has t stage kept.options idle at ∙ call))
        (accepted-granted x accepted) is)

    reads-other : (q : ℕ) (l : LwpStatus) → t.aside ≡ Nothing → answer_of x.reply ≡ Accepted → ReadsLwpAt t x q l
        → (e : Event) → fresh_event (traced_at t q) l ≡ Some e → q < length t.traced
        → (traced_at t q).control ≡ control
        → (marks_then (marks_at t q) l (function_event t.options (marks_at t q) l.id e)).lifted ≡ set
    reads-other q l idle accepted reads e fresh within its =
        still (marks_at t q) l (function_event t.options (marks_at t q) l.id e)
        (λ of_copy. quiet.reads_none (record {
          place = q;
          its = its;
          within = within;
          idle = idle;
          accepted = accepted;
          l = l;
          reads = reads;
          event = e;
          fresh = fresh;
          of_copy = of_copy;
        }))
        ∙ kept.each q within its

    at-stage : (stage : Stage) → t.stage ≡ stage → t.aside ≡ Nothing → AtStage stage
    unfolding function_call_of call_of
    at-stage (OpeningControl pid) at idle = opens-other pid (OpeningControl pid) at idle refl
    at-stage (OpeningChildControl parent pid) at idle =
        opens-other pid (OpeningChildControl parent pid) at idle refl
    at-stage (ReadingStatus q) at idle = λ l accepted told. reads-other q l idle accepted (of_status at told)
    at-stage ReadingLwps at idle = λ l accepted told. reads-other 0 l idle accepted (of_lwps at refl told)
    at-stage (Running q) at idle = λ within. kept.each q within
    at-stage stage at idle = tt

    after-any : (q : ℕ) (a : Answer) (plant lift : Option ℕ)
        → AfterSo o Any (found-any o) Waits waits-alike waits-sets t x.reply kept.options kept.aside q a plant lift
    after-any q Accepted (Some i) lift = λ within. kept.each q within
    after-any q Interrupted (Some i) lift = λ within. kept.each q within
    after-any q Gone (Some i) lift = λ within. kept.each q within
    after-any q (Refused errno) (Some i) lift = λ within. kept.each q within
    after-any q a None (Some i) = λ within. kept.each q within
    after-any q a None None = λ within. kept.each q within

    beside-so : (aside : Aside) → t.aside ≡ aside → Beside aside
    beside-so Nothing at = (kept.each, at-stage t.stage refl at)
    beside-so (Planting q function) at =
        (λ i within apart. kept.each i within, after-any q (answer_of x.reply) (Some function) None)
    beside-so (Patching q plants lifts clear) at = (
      λ i within apart. kept.each i within,
      after-any q (answer_of x.reply) (first_function plants) (first_function lifts),
    )
    beside-so _ at = kept.each

    one-kept : Kept (fed_functions t x.reply)
    one-kept =
        fed-holds o Any (found-any o) Waits waits-alike waits-sets t x.reply kept.options kept.aside
        (ap has_functions kept.options ∙ has) (beside-so t.aside refl)

  -- ---- replies

  all-kept : (t : TrussState) (xs : List Exchange) → MakesFunctionCalls t xs
      → ((early late : List Exchange) (x : Exchange) → xs ≡ early ++ x ∷ late
      → LeavesCopiesAlone control (functions_after t early) x)
      → Kept t → Kept (functions_after t xs)
  all-kept t [] made quiet kept = kept
  all-kept t (x ∷ xs) made quiet kept =
      all-kept (fed_functions t x.reply) xs made.1
      (λ early late y is. quiet (x ∷ early) late y (ap (λ (ys : List Exchange). x ∷ ys) is))
      (one-kept t x made.0 (quiet [] xs x refl) kept)

front-made : (t : TrussState) (xs ys : List Exchange) → MakesFunctionCalls t (xs ++ ys) → MakesFunctionCalls t xs
front-made t [] ys made = tt
front-made t (x ∷ xs) ys made = (made.0, front-made (fed_functions t x.reply) xs ys made.1)

pub keeps-what-waits : (o : Options) (xs : List Exchange) → has_functions o ≡ true
    → MakesFunctionCalls (first_truss o) xs → KeepsWhatWaits o xs
keeps-what-waits o xs has makes = record {
  each = λ before between after place now is alone quiet within its.
      let t : TrussState = functions_after (first_truss o) before in
      let control : ℕ = (traced_at t place).control in
      let set : List Bool = (marks_at t place).lifted in
      let made : MakesFunctionCalls t between =
      front-made t between after
      (calls-rest (first_truss o) before (between ++ after) (subst (MakesFunctionCalls (first_truss o)) is makes)) in
      let kept : Kept o has control set (functions_after t between) =
      all-kept o has control set t between made
      (λ early late x parts.
      subst (λ u. LeavesCopiesAlone control u x) (functions-both (first_truss o) before early)
      (quiet early late x parts))
      (record {
        options = options-at o before;
        each = λ i there same. ap (λ n. (marks_at t n).lifted) (alone.alone i there same);
        aside = aside-any t.aside;
      }) in
      subst
      (λ u. (n : ℕ) → n < length u.traced → (traced_at u n).control ≡ control → (marks_at u n).lifted ≡ set)
      (sym (functions-both (first_truss o) before between)) kept.each now within its;
}

pub ruleset keeps_waiting = (keeps-what-waits)
