use Rattle.std.proofs.Common.{◌≡◌, ◌≢◌, ◌<◌, ◌||◌, ℕ, Bool, true, false, cond, is_some, Option, Some, None, List, length, refl, sym, subst, ap, ◌∙◌, arith, inl, inr}
use Rattle.std.proofs.lemmas.Bool.{cases_eq, false≢true}
use Rattle.std.proofs.lemmas.List.{get_or-set_other, length-set}
use Rattle.std.proofs.lemmas.List.Elements.{All-weaker}
use Rattle.std.proofs.lemmas.Option.{same_Some}
use Rattle.std.specs.List.{All, slice_set}
use Rattle.pr_line.specs.declared.options.Options.{Options}
use Rattle.pr_model.specs.declared.calls.Call.{Call}
use Rattle.pr_model.specs.declared.calls.Reply.{Reply}
use Rattle.pr_num.specs.Control.{clear_fault, single_step}
use Rattle.pr_num.specs.Sets.{union_word}
use Rattle.pr_num.specs.declared.messages.Message.TheVariants as message
use Rattle.pr_rec.specs.declared.lwps.LwpStatus.{LwpStatus}
use Rattle.pr_truss.specs.Asides.{marks_at, patching, with_aside, with_marks, with_patches}
use Rattle.pr_truss.specs.Closings.{with_closing, with_going_on}
use Rattle.pr_truss.specs.Feeding.{fed}
use Rattle.pr_truss.specs.FunctionCalls.{call_beside, function_call_of, next_function_call_of, patch_call, write_code_call}
use Rattle.pr_truss.specs.FunctionEvents.{function_event, step_of}
use Rattle.pr_truss.specs.FunctionFeeding.{after_first, after_patch, fed_functions, planted_if, with_aside_answered, with_function_reply, with_patch_answered, without_planted}
use Rattle.pr_truss.specs.FunctionStops.{with_fresh_event, with_function_event, with_function_run_answered, with_function_status_answered, with_function_stop, with_function_stop_read, with_last_event, with_step_begun}
use Rattle.pr_truss.specs.Marks.{breakpoint, code_of, first_function, has_functions, no_functions, put_back, with_function, without_function}
use Rattle.pr_truss.specs.Messages.{message_call}
use Rattle.pr_truss.specs.NextCalls.{next_call_of}
use Rattle.pr_truss.specs.Replies.{answer_of}
use Rattle.pr_truss.specs.Stops.{with_run_answered, with_stop_over}
use Rattle.pr_truss.specs.Trusses.{TrussState, nobody, traced_at, with_stage}
use Rattle.pr_truss.specs.declared.asides.Aside.{Aside}
use Rattle.pr_truss.specs.declared.asides.Aside.TheVariants.{Nothing, Patching}
use Rattle.pr_truss.specs.declared.marks.Marks.{Marks}
use Rattle.pr_truss.specs.declared.processes.Traced.{Traced}
use Rattle.pr_truss.specs.declared.replies.Answer.{Answer}
use Rattle.pr_truss.specs.declared.replies.Answer.TheVariants.{Accepted, Interrupted, Gone, Refused}
use Rattle.pr_truss.specs.declared.stages.Stage.TheVariants.{Running}
use Rattle.pr_truss_laws.proofs.Files.HeldLemmas.{at_place, set-at}
use Rattle.pr_truss_laws.specs.Exchanges.{Exchange}
use Rattle.pr_truss_laws.specs.Handles.{handles_of}
use Rattle.pr_function_laws.proofs.Stepping.AwayLemmas.{Away, IsKnownAs, Own, going-away}
use Rattle.pr_function_laws.specs.Lifted.{MeetsBreakpoint}

-- What truss does at a breakpoint: it lifts it, and steps the lwp over it.

abbrev pub step_flags : ℕ
step_flags = union_word clear_fault single_step

-- the marks of a process, and the process, once truss has met an lwp of it at the breakpoint of a function
abbrev pub stepping_at : TrussState → ℕ → LwpStatus → ℕ → Marks
stepping_at t place l function = record (marks_at t place) { stepped = Some (step_of l function); flags = step_flags }

abbrev pub met_at : TrussState → ℕ → LwpStatus → ℕ → Traced
met_at t place l function = record (traced_at t place) { marks = stepping_at t place l function }

abbrev IsBusy : List Bool → List Bool → Type 0
IsBusy plants lifts = (is_some (first_function plants) || is_some (first_function lifts)) ≡ true

module _ (Q : ℕ → Type 0) (c ns : ℕ) (met : Traced) (place : ℕ) where
  abbrev LooksAside : Aside → Type 0
  LooksAside Nothing = Unit {0}
  LooksAside (Patching q plants lifts clear) = (q ≡ place) × (IsBusy plants lifts × (clear ≡ false))
  LooksAside _ = ⊥

  -- Truss lifts a breakpoint of the process at this place, and will step an lwp of it. Each other process has files of
  -- which this is so.
  pub record Looks (t : TrussState) : Type 0 where
    pub follow : t.options.follow ≡ false
    pub off : t.leaving ≡ false
    pub within : place < length t.traced
    pub stage : t.stage ≡ Running place
    pub own : Own Q c ns met (traced_at t place)
    pub flags : (traced_at t place).marks.flags ≡ step_flags
    pub others : (q : ℕ) → q < length t.traced → q ≢ place → All Q (handles_of (traced_at t q))
    pub beside : LooksAside t.aside

  patching-looks : (plants lifts : List Bool) → LooksAside (patching place plants lifts false)
  unfolding patching
  patching-looks plants lifts = by (is_some (first_function plants)) (is_some (first_function lifts)) refl refl
    where
      by : (a b : Bool) → is_some (first_function plants) ≡ a → is_some (first_function lifts) ≡ b
          → LooksAside (cond (a || b || false) (Patching place plants lifts false) Nothing)
      by true b p l = (refl, (ap (λ x. x || is_some (first_function lifts)) p, refl))
      by false true p l = (refl, (ap (λ x. is_some (first_function plants) || x) l ∙ ap (λ x. x || true) p, refl))
      by false false p l = tt

  -- with other marks, and these flags
  marked-looks : (t : TrussState) (m : Marks) (a : Aside) → m.flags ≡ step_flags → t.options.follow ≡ false
      → t.leaving ≡ false → place < length t.traced → t.stage ≡ Running place
      → Own Q c ns met (record (traced_at t place) { marks = m })
      → ((q : ℕ) → q < length t.traced → q ≢ place → All Q (handles_of (traced_at t q))) → LooksAside a
      → Looks (with_aside (with_marks t place m) a)
  marked-looks t m a flags follow off within stage own others beside =
      let u : Traced = record (traced_at t place) { marks = m } in
      let here : at_place (slice_set t.traced place u) place ≡ u = set-at t.traced place u within in
      record {
        follow = follow;
        off = off;
        within = omega (arith, within, length-set t.traced place u);
        stage = stage;
        own = subst (Own Q c ns met) (sym here) own;
        flags = ap (λ (x : Traced). x.marks.flags) here ∙ flags;
        others = λ q inside apart.
            subst (λ (x : Traced). All Q (handles_of x)) (sym (get_or-set_other t.traced place q u nobody apart))
            (others q (omega (arith, inside, length-set t.traced place u)) apart);
        beside = beside;
      }

  -- ---- the breakpoint is met

  module _ (t : TrussState) (x : Exchange) (meets : MeetsBreakpoint t x place) (has : has_functions t.options ≡ true)
      (follow : t.options.follow ≡ false) (own : Own Q c ns met (met_at t place meets.l meets.function))
      (others : (q : ℕ) → q < length t.traced → q ≢ place → All Q (handles_of (traced_at t q))) where
    abbrev stepping : Marks
    stepping = stepping_at t place meets.l meets.function

    abbrev stopped : TrussState
    stopped = with_stage (with_marks t place stepping) (Running place)

    pub begun-is : with_step_begun t place meets.l meets.function
        ≡ with_aside stopped
        (patching place (put_back (marks_at t place)) (with_function no_functions meets.function) false)
    unfolding with_step_begun with_patches with_stop_over
    begun-is =
        ap (λ b. with_aside (cond b (with_closing (with_marks t place stepping) place) stopped)
        (patching place (put_back (marks_at t place)) (with_function no_functions meets.function) false)) meets.stays

    pub met-is : fed_functions t x.reply ≡ with_step_begun t place meets.l meets.function
    unfolding fed_functions with_aside_answered with_function_reply with_function_status_answered with_function_stop
        with_function_event
    met-is =
        ap (λ b. cond b (with_aside_answered t x.reply t.aside) (fed t x.reply)) has
        ∙ ap (with_aside_answered t x.reply) meets.idle
        ∙ ap (with_function_reply t x.reply) meets.reads
        ∙ ap (with_function_status_answered t place x.reply) meets.accepted
        ∙ ap (with_function_stop_read t place) meets.told
        ∙ ap (with_fresh_event t place meets.l) meets.fresh
        ∙ ap (λ b. cond b
        (with_last_event t place meets.l (function_event t.options (marks_at t place) meets.l.id meets.event))
        (with_function_event t place meets.l (function_event t.options (marks_at t place) meets.l.id meets.event)))
        meets.stays
        ∙ ap (with_function_event t place meets.l) meets.at_breakpoint

    pub met-looks : Looks (fed_functions t x.reply)
    met-looks =
        subst Looks (sym (met-is ∙ begun-is))
        (marked-looks (with_stage t (Running place)) stepping _ refl follow meets.stays meets.within refl own others
        (patching-looks (put_back (marks_at t place)) (with_function no_functions meets.function)))

  -- ---- its calls

  -- PCRUN with PRCFAULT and PRSTEP, or PCWRITE
  pub data LookCall (opts : Options) : Call → Type 0 where
    steps : LookCall opts (message_call c (message.Run step_flags))
    patches : (function : ℕ) (code : List ℕ) → LookCall opts (write_code_call opts c function code)

  module _ (t : TrussState) (l : Looks t) (has : has_functions t.options ≡ true) where
    -- the bytes of an instruction are written
    abbrev Patched : Call → Type 0
    Patched d = (function : ℕ) × ((code : List ℕ) × (d ≡ write_code_call t.options c function code))

    patch-looks : (plant lift : Option ℕ) → (is_some plant || is_some lift) ≡ true → (d : Call)
        → patch_call t.options c plant lift ≡ d → Patched d
    patch-looks (Some function) lift busy d is = (function, (breakpoint, sym is))
    patch-looks None (Some function) busy d is = (function, (code_of t.options function, sym is))
    patch-looks None None busy d is = absurd (false≢true busy)

    pub ran-looks : (d : Call) → function_call_of t t.stage ≡ Some d → d ≡ message_call c (message.Run step_flags)
    unfolding function_call_of
    ran-looks d is =
        let own : Own Q c ns met (traced_at t place) = l.own in
        sym (same_Some _ d (sym (ap (function_call_of t) l.stage) ∙ is))
        ∙ ap (λ m. message_call m (message.Run (traced_at t place).marks.flags)) own.control
        ∙ ap (λ f. message_call c (message.Run f)) l.flags

    aside-patches : (q : ℕ) (plants lifts : List Bool) (clear : Bool) → LooksAside (Patching q plants lifts clear)
        → (d : Call) → call_beside t t.stage (Patching q plants lifts clear) ≡ Some d → Patched d
    unfolding call_beside
    aside-patches q plants lifts clear beside d is =
        let own : Own Q c ns met (traced_at t place) = l.own in
        patch-looks (first_function plants) (first_function lifts) beside.1.0 d
        (ap (λ m. patch_call t.options m (first_function plants) (first_function lifts)) (sym own.control)
        ∙ ap (λ i. patch_call t.options (traced_at t i).control (first_function plants) (first_function lifts))
        (sym beside.0)
        ∙ same_Some _ d is)

    aside-looks : (aside : Aside) → LooksAside aside → (d : Call) → call_beside t t.stage aside ≡ Some d
        → LookCall t.options d
    unfolding call_beside
    aside-looks Nothing beside d is = subst (LookCall t.options) (sym (ran-looks d is)) steps
    aside-looks (Patching q plants lifts clear) beside d is =
        let it = aside-patches q plants lifts clear beside d is in
        subst (LookCall t.options) (sym it.1.1) (patches it.0 it.1.0)
    aside-looks _ beside d is = absurd beside

    pub call-looks : (d : Call) → next_function_call_of t ≡ Some d → LookCall t.options d
    unfolding next_function_call_of
    call-looks d is =
        aside-looks t.aside l.beside d
        (sym (ap (λ b. cond b (call_beside t t.stage t.aside) (next_call_of t)) has) ∙ is)

  -- ---- the replies

  -- After the reply truss looks at the process still, if it wrote an instruction; or it is away, if it stepped the lwp;
  -- or the process has ended.
  pub data AfterLook (opts : Options) (r : Reply) (d : Call) (u : TrussState) : Type 0 where
    goes_on : Looks u → (function : ℕ) (code : List ℕ) → d ≡ write_code_call opts c function code
        → AfterLook opts r d u
    is_away : Away Q c ns met u → d ≡ message_call c (message.Run step_flags) → AfterLook opts r d u
    has_ended : answer_of r ≡ Gone → AfterLook opts r d u

  module _ (t : TrussState) (l : Looks t) (has : has_functions t.options ≡ true) (r : Reply)
      (calm : answer_of r ≢ Interrupted) (d : Call) where
    abbrev After : TrussState → Type 0
    After u = AfterLook t.options r d u

    abbrev unflagged : TrussState
    unflagged = with_marks t place (record (marks_at t place) { flags = 0 })

    -- the process with other marks, but the same step under way
    marked-own : (m : Marks) → m.stepped ≡ (marks_at t place).stepped
        → Own Q c ns met (record (traced_at t place) { marks = m })
    marked-own m same =
        let own : Own Q c ns met (traced_at t place) = l.own in
        let k : IsKnownAs met (traced_at t place) = own.known in
        record {
          control = own.control;
          status = own.status;
          known = record { pid = k.pid; old = k.old; seen = k.seen; stepped = same ∙ k.stepped };
        }

    -- PCRUN
    ran-away : t.aside ≡ Nothing → Away Q c ns met (with_going_on unflagged)
    ran-away idle =
        let u : Traced = record (traced_at t place) { marks = record (marks_at t place) { flags = 0 } } in
        let here : at_place (slice_set t.traced place u) place ≡ u = set-at t.traced place u l.within in
        going-away Q c ns met unflagged l.follow l.off (λ q inside. elim (cases_eq q place) [
          | inl same ↦ inl
              (subst (λ i. Own Q c ns met (at_place (slice_set t.traced place u) i)) (sym same)
              (subst (Own Q c ns met) (sym here) (marked-own (record (marks_at t place) { flags = 0 }) refl)))
          | inr apart ↦ inr
              (subst (λ (x : Traced). All Q (handles_of x)) (sym (get_or-set_other t.traced place q u nobody apart))
              (l.others q (omega (arith, inside, length-set t.traced place u)) apart))
        ]) idle

    run-after : t.aside ≡ Nothing → d ≡ message_call c (message.Run step_flags) → (a : Answer) → answer_of r ≡ a
        → After (with_function_run_answered t place a)
    unfolding with_function_run_answered with_run_answered
    run-after idle ran Accepted is = is_away (ran-away idle) ran
    run-after idle ran (Refused errno) is = is_away (ran-away idle) ran
    run-after idle ran Gone is = has_ended is
    run-after idle ran Interrupted is = absurd (calm is)

    idle-after : t.aside ≡ Nothing → function_call_of t t.stage ≡ Some d → After (with_function_reply t r t.stage)
    unfolding with_function_reply
    idle-after idle is =
        subst After (sym (ap (with_function_reply t r) l.stage))
        (run-after idle (ran-looks t l has d is) (answer_of r) refl)

    -- a breakpoint is planted or lifted
    module _ (function : ℕ) (code : List ℕ) (is : d ≡ write_code_call t.options c function code) where
      abbrev idle_now : TrussState
      idle_now = with_aside t Nothing

      kept-on : (rest : Aside) → LooksAside rest → Looks (with_aside idle_now rest)
      kept-on rest beside = record {
        follow = l.follow;
        off = l.off;
        within = l.within;
        stage = l.stage;
        own = l.own;
        flags = l.flags;
        others = l.others;
        beside = beside;
      }

      marked-on : (m : Marks) → m.flags ≡ (marks_at t place).flags → m.stepped ≡ (marks_at t place).stepped
          → (rest : Aside) → LooksAside rest → Looks (with_aside (with_marks idle_now place m) rest)
      marked-on m same step rest beside =
          marked-looks idle_now m rest (same ∙ l.flags) l.follow l.off l.within l.stage (marked-own m step) l.others
          beside

      patch-after : (u : TrussState) (rest : Aside) (a : Answer) → answer_of r ≡ a → Looks (with_aside u rest)
          → After (after_patch u rest place (Running place) a)
      unfolding after_patch
      patch-after u rest Accepted it looks = goes_on looks function code is
      patch-after u rest (Refused errno) it looks = goes_on looks function code is
      patch-after u rest Gone it looks = has_ended it
      patch-after u rest Interrupted it looks = absurd (calm it)

      stage-after : (u : TrussState) (rest : Aside) → Looks (with_aside u rest)
          → After (after_patch u rest place t.stage (answer_of r))
      stage-after u rest looks =
          subst (λ st. After (after_patch u rest place st (answer_of r))) (sym l.stage)
          (patch-after u rest (answer_of r) refl looks)

      planted-after : (f : ℕ) (rest : Aside) (a : Answer) → LooksAside rest
          → Looks (with_aside (planted_if idle_now place f a) rest)
      planted-after f rest Accepted beside = marked-on _ refl refl rest beside
      planted-after f rest _ beside = kept-on rest beside

      first-after : (plants lifts : List Bool) (plant lift : Option ℕ)
          → After (after_first idle_now place plants lifts false (answer_of r) plant lift)
      first-after plants lifts (Some f) lift =
          stage-after (planted_if idle_now place f (answer_of r)) _
          (planted-after f _ (answer_of r) (patching-looks (without_function plants f) lifts))
      first-after plants lifts None (Some f) =
          stage-after (without_planted idle_now place f) _
          (marked-on _ refl refl _ (patching-looks plants (without_function lifts f)))
      first-after plants lifts None None = stage-after idle_now Nothing (kept-on Nothing tt)

      answered-after : (q : ℕ) (plants lifts : List Bool) (clear : Bool) → q ≡ place → clear ≡ false
          → After (with_patch_answered idle_now q plants lifts clear (answer_of r))
      unfolding with_patch_answered
      answered-after q plants lifts clear same none =
          subst (λ i. After (with_patch_answered idle_now i plants lifts clear (answer_of r))) (sym same)
          (subst (λ b. After (with_patch_answered idle_now place plants lifts b (answer_of r))) (sym none)
          (first-after plants lifts (first_function plants) (first_function lifts)))

    aside-after : (aside : Aside) → t.aside ≡ aside → LooksAside aside → call_beside t t.stage aside ≡ Some d
        → After (with_aside_answered t r aside)
    unfolding with_aside_answered call_beside
    aside-after Nothing idle beside is = idle-after idle is
    aside-after (Patching q plants lifts clear) at beside is =
        let it = aside-patches t l has q plants lifts clear beside d is in
        answered-after it.0 it.1.0 it.1.1 q plants lifts clear beside.0 beside.1.1
    aside-after _ at beside is = absurd beside

    pub reply-after : next_function_call_of t ≡ Some d → After (fed_functions t r)
    unfolding fed_functions next_function_call_of
    reply-after is =
        subst After (sym (ap (λ b. cond b (with_aside_answered t r t.aside) (fed t r)) has))
        (aside-after t.aside refl l.beside
        (sym (ap (λ b. cond b (call_beside t t.stage t.aside) (next_call_of t)) has) ∙ is))

-- what is so of handles may change meanwhile
pub looks-weaker : (Q R : ℕ → Type 0) (c ns : ℕ) (met : Traced) (place : ℕ) (t : TrussState)
    → ((m : ℕ) → Q m → R m) → Looks Q c ns met place t → Looks R c ns met place t
looks-weaker Q R c ns met place t weaker l = record {
  follow = l.follow;
  off = l.off;
  within = l.within;
  stage = l.stage;
  own = let own : Own Q c ns met (traced_at t place) = l.own in record {
    control = own.control;
    status = own.status;
    known = own.known;
  };
  flags = l.flags;
  others = λ q inside apart. All-weaker Q R weaker (handles_of (traced_at t q)) (l.others q inside apart);
  beside = aside t.aside l.beside;
}
  where
    aside : (a : Aside) → LooksAside Q c ns met place a → LooksAside R c ns met place a
    aside Nothing is = tt
    aside (Patching q plants lifts clear) is = is
    aside _ is = absurd is
