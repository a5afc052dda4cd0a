use Rattle.std.proofs.Common.{◌≡◌, ◌<◌, ◌++◌, ℕ, Bool, true, false, cond, Option, Some, None, List, [], ◌∷◌, length, refl, sym, subst, ap, ◌∙◌, arith}
use Rattle.std.proofs.lemmas.List.Elements.{All-cons, All-nil, All-tail}
use Rattle.std.proofs.lemmas.Option.{none-some, same_Some}
use Rattle.std.specs.List.{All, cons_option, remove, slice_get, slice_index_or}
use Rattle.pr_line.specs.declared.options.Options.{Options}
use Rattle.pr_model.specs.Legal.{IsLegal, after, state_after}
use Rattle.pr_model.specs.Replies.{until_in}
use Rattle.pr_model.specs.State.{TracedState}
use Rattle.pr_model.specs.declared.calls.Call.{Call}
use Rattle.pr_model.specs.declared.calls.Reply.{Reply}
use Rattle.pr_model.specs.declared.calls.Reply.TheVariants as reply
use Rattle.pr_model.specs.declared.events.Entry.{Entry}
use Rattle.pr_num.specs.declared.errnos.Errno.TheVariants.{Intr}
use Rattle.pr_report_laws.proofs.Files.WatchHistories.{cons-exchanges, exchanges-both, no-exchanges}
use Rattle.pr_report_laws.proofs.Watching.HistoryParts.{legal-rest}
use Rattle.pr_truss.specs.Asides.{with_aside}
use Rattle.pr_truss.specs.Closings.{left_or_finished, polls_or_finished, with_going_on, with_next_left}
use Rattle.pr_truss.specs.FunctionCalls.{call_beside, function_call_of, next_function_call_of}
use Rattle.pr_truss.specs.FunctionFeeding.{fed_functions, with_aside_answered, with_asking_answered, with_function_reply, with_halt_answered, with_wait_answered}
use Rattle.pr_truss.specs.Marks.{has_functions}
use Rattle.pr_truss.specs.NextCalls.{call_of}
use Rattle.pr_truss.specs.Openings.{with_stop_seen}
use Rattle.pr_truss.specs.Replies.{answer_of}
use Rattle.pr_truss.specs.Trusses.{TrussState, first_truss, nobody, with_stage}
use Rattle.pr_truss.specs.declared.asides.Aside.{Aside}
use Rattle.pr_truss.specs.declared.asides.Aside.TheVariants.{Nothing, AwaitingStop, Asking, AwaitingAgain}
use Rattle.pr_truss.specs.declared.processes.Traced.{Traced}
use Rattle.pr_truss.specs.declared.replies.Answer.{Answer}
use Rattle.pr_truss.specs.declared.replies.Answer.TheVariants.{Accepted, Interrupted, Gone, Refused}
use Rattle.pr_truss.specs.declared.stages.AfterClosing.TheVariants.{GoOn}
use Rattle.pr_truss.specs.declared.stages.Stage.{Stage}
use Rattle.pr_truss.specs.declared.stages.Stage.TheVariants.{Closing, Unfollowing, ReadingLwps, Finished}
use Rattle.pr_truss_laws.specs.Exchanges.{Exchange, exchange_of, exchanges}
use Rattle.pr_function_laws.proofs.CallTurns.CalledLaws.{functions-both}
use Rattle.pr_function_laws.proofs.LeavingProcesses.LeavingWaits.{WaitsAt, awaits_opening, interrupted_at, polls, waits-at, waits-fed}
use Rattle.pr_function_laws.proofs.NextCalls.LastLooks.{looks-last}
use Rattle.pr_function_laws.proofs.OpenedProcesses.OpenedCalls.{IsSo}
use Rattle.pr_function_laws.proofs.OpenedProcesses.OpenedLaws.{Goes, before-goes, calls-rest}
use Rattle.pr_function_laws.proofs.OrdinaryTruss.OrdinaryFiles.{entry-calm}
use Rattle.pr_function_laws.proofs.NextCalls.PatchCalls.{Shut, Shuts, closes-come, fed-beside, fed-staged, next-beside, next-staged}
use Rattle.pr_function_laws.specs.Coming.{Come, Later, close_calls}
use Rattle.pr_function_laws.specs.Leaving.{AsksAgain, Directs, Ends, Goes as GoesTo, HaltNext, HaltStep, Halts, LeavesAll, LeavesItsProcesses, LeavesOne, Looks, Waits, WaitsAgain, halt_call, halt_next}
use Rattle.pr_function_laws.specs.Opened.{IsFunctionRun, WasNotInterrupted, functions_at}
use Rattle.pr_function_laws.specs.Runs.{MakesFunctionCalls, functions_after}
use Rattle.pr_function_laws.specs.Soon.{IsCalm}

-- How truss leaves its processes.

-- ---- the stop

abbrev pub halt_stage : HaltStep → Stage
halt_stage Directs = Unfollowing
halt_stage _ = ReadingLwps

abbrev pub halt_aside : HaltStep → Aside
halt_aside Directs = Nothing
halt_aside (Waits until) = AwaitingStop until
halt_aside AsksAgain = Asking
halt_aside (WaitsAgain until) = AwaitingAgain until

-- truss that was replied so to a step of the stop
abbrev pub halt_answered : HaltStep → TrussState → Reply → Answer → TrussState
halt_answered Directs u r a = with_halt_answered u r a
halt_answered (Waits until) u r a = with_wait_answered (with_aside u Nothing) a
halt_answered AsksAgain u r a = with_asking_answered (with_aside u Nothing) r a
halt_answered (WaitsAgain until) u r a = with_wait_answered (with_aside u Nothing) a

-- where truss comes to then
abbrev pub next_stage : HaltNext → Stage
next_stage (GoesTo step) = halt_stage step
next_stage Looks = ReadingLwps
next_stage Ends = Closing 0 GoOn

abbrev pub next_aside : HaltNext → Aside
next_aside (GoesTo step) = halt_aside step
next_aside _ = Nothing

abbrev pub gone_to : TrussState → HaltNext → TrussState
gone_to u next = record u { stage = next_stage next; aside = next_aside next }

moved : (u : TrussState) (stage : Stage) → u.aside ≡ Nothing
    → with_stage u stage ≡ record u { stage = stage; aside = Nothing }
moved u stage idle = ap (λ aside. record u { stage = stage; aside = aside }) idle

stayed : (u : TrussState) (aside : Aside) → u.stage ≡ ReadingLwps
    → with_aside u aside ≡ record u { stage = ReadingLwps; aside = aside }
stayed u aside at = ap (λ stage. record u { stage = stage; aside = aside }) at

-- a row a step and an answer
halted-is : (step : HaltStep) (u : TrussState) (r : Reply) (a : Answer) → u.stage ≡ halt_stage step
    → u.aside ≡ halt_aside step → halt_answered step u r a ≡ gone_to u (halt_next step r a)
unfolding with_halt_answered with_wait_answered with_asking_answered
halted-is Directs u r Accepted at idle = refl
halted-is Directs u r Interrupted at idle = refl
halted-is Directs u r (Refused errno) at idle = moved u ReadingLwps idle
halted-is Directs u r Gone at idle = moved u (Closing 0 GoOn) idle
halted-is (Waits until) u r Accepted at beside = stayed u Nothing at
halted-is (Waits until) u r Interrupted at beside = stayed u Asking at
halted-is (Waits until) u r (Refused errno) at beside = stayed u Nothing at
halted-is (Waits until) u r Gone at beside = refl
halted-is AsksAgain u r Accepted at beside = stayed u (AwaitingAgain (until_in r)) at
halted-is AsksAgain u r Interrupted at beside = stayed u Asking at
halted-is AsksAgain u r (Refused errno) at beside = stayed u Nothing at
halted-is AsksAgain u r Gone at beside = refl
halted-is (WaitsAgain until) u r Accepted at beside = stayed u Nothing at
halted-is (WaitsAgain until) u r Interrupted at beside = stayed u Asking at
halted-is (WaitsAgain until) u r (Refused errno) at beside = stayed u Nothing at
halted-is (WaitsAgain until) u r Gone at beside = refl

pub halted-fed : (o : Options) → has_functions o ≡ true → (step : HaltStep) (u : TrussState) (r : Reply)
    → u.options ≡ o → u.stage ≡ halt_stage step → u.aside ≡ halt_aside step
    → fed_functions u r ≡ gone_to u (halt_next step r (answer_of r))
unfolding with_aside_answered with_function_reply
halted-fed o has step u r options at beside = fed step at beside ∙ halted-is step u r (answer_of r) at beside
  where
    fed : (step : HaltStep) → u.stage ≡ halt_stage step → u.aside ≡ halt_aside step
        → fed_functions u r ≡ halt_answered step u r (answer_of r)
    fed Directs at idle = fed-staged o has u r Unfollowing options idle at
    fed (Waits until) at beside = fed-beside o has u r options ∙ ap (with_aside_answered u r) beside
    fed AsksAgain at beside = fed-beside o has u r options ∙ ap (with_aside_answered u r) beside
    fed (WaitsAgain until) at beside = fed-beside o has u r options ∙ ap (with_aside_answered u r) beside

-- ---- the next process

pub going-is : (u : TrussState) → u.leaving ≡ true → with_going_on u ≡ with_next_left u
unfolding with_going_on
going-is u on = ap (λ b. cond b (with_next_left u) (polls_or_finished u (slice_get u.traced 0))) on

pub left-same : (u : TrussState) → ((with_next_left u).traced ≡ u.traced) × ((with_next_left u).leaving ≡ u.leaving)
unfolding with_next_left
left-same u = by (slice_get u.traced 0)
  where
    by : (t : Option Traced)
        → ((left_or_finished u t).traced ≡ u.traced) × ((left_or_finished u t).leaving ≡ u.leaving)
    by None = (refl, refl)
    by (Some t) = (refl, refl)

-- ---- the calls by which it leaves one

module _ (o : Options) (has : has_functions o ≡ true) (off : o.follow ≡ false) where
  -- truss leaves these processes, at this stage of the first one
  record On (ts : List Traced) (now : Stage) (aside : Aside) (u : TrussState) : Type 0 where
    options : u.options ≡ o
    leaves : u.leaving ≡ true
    stage : u.stage ≡ now
    beside : u.aside ≡ aside
    traced : u.traced ≡ ts

  module _ (t : Traced) (rest : List Traced) (Then : Later)
      (ends : (v : TrussState) (xs : List Exchange) → Shut o has 0 true rest v → MakesFunctionCalls (with_going_on v) xs
      → All IsCalm xs → Then xs) where
    abbrev With : Stage → Aside → TrussState → Type 0
    With = On (t ∷ rest)

    abbrev WithNext : HaltNext → TrussState → Type 0
    WithNext next = With (next_stage next) (next_aside next)

    goes-to : {old : Stage} {a : Aside} (next : HaltNext) (u : TrussState) → With old a u
        → WithNext next (gone_to u next)
    goes-to next u w = record {
      options = w.options;
      leaves = w.leaves;
      stage = refl;
      beside = refl;
      traced = w.traced;
    }

    called : (step : HaltStep) (u : TrussState) → With (halt_stage step) (halt_aside step) u
        → next_function_call_of u ≡ Some (halt_call t step)
    unfolding call_beside function_call_of
    called Directs u w =
        next-staged o has u Unfollowing w.options w.beside w.stage
        ∙ ap (λ ts. Some (halt_call (slice_index_or ts 0 nobody) Directs)) w.traced
    called (Waits until) u w =
        next-beside o has u w.options ∙ ap (call_beside u u.stage) w.beside
        ∙ ap (λ ts. Some (halt_call (slice_index_or ts 0 nobody) (Waits until))) w.traced
    called AsksAgain u w =
        next-beside o has u w.options ∙ ap (call_beside u u.stage) w.beside
        ∙ ap (λ ts. Some (halt_call (slice_index_or ts 0 nobody) AsksAgain)) w.traced
    called (WaitsAgain until) u w =
        next-beside o has u w.options ∙ ap (call_beside u u.stage) w.beside
        ∙ ap (λ ts. Some (halt_call (slice_index_or ts 0 nobody) (WaitsAgain until))) w.traced

    shuts : (u : TrussState) → With (Closing 0 GoOn) Nothing u → Shuts o has 0 true rest t u
    shuts u w = record {
      options = w.options;
      leaving = w.leaves;
      within = subst (λ (ts : List Traced). 0 < length ts) (sym w.traced) (omega arith);
      idle = w.beside;
      stage = w.stage;
      here = ap (λ ts. slice_index_or ts 0 nobody) w.traced;
      others = ap (λ ts. remove ts 0) w.traced;
    }

    closes-on : (u : TrussState) (xs : List Exchange) → With (Closing 0 GoOn) Nothing u → MakesFunctionCalls u xs
        → All IsCalm xs → Come (close_calls t) Then xs
    closes-on u xs w made calm = closes-come o has 0 true rest Then ends t u xs (shuts u w) made calm

    halts-on : (xs : List Exchange) (next : HaltNext) (u : TrussState) → WithNext next u → MakesFunctionCalls u xs
        → All IsCalm xs → Halts o t Then next xs
    halts-on [] (GoesTo step) u w made calm = tt
    halts-on (x ∷ xs) (GoesTo step) u w made calm = (
      same_Some x.call (halt_call t step) (sym made.0 ∙ called step u w),
      halts-on xs (halt_next step x.reply (answer_of x.reply)) (fed_functions u x.reply)
          (subst (WithNext (halt_next step x.reply (answer_of x.reply)))
          (sym (halted-fed o has step u x.reply w.options w.stage w.beside))
          (goes-to (halt_next step x.reply (answer_of x.reply)) u w)) made.1 (All-tail IsCalm x xs calm),
    )
    halts-on xs Looks u w made calm =
        looks-last o has off rest t Then ends u xs w.options w.leaves w.stage w.beside w.traced made calm
    halts-on xs Ends u w made calm = closes-on u xs w made calm

    -- a process that was attached is directed to stop first
    leave-one : (attached : Bool) (u : TrussState) (xs : List Exchange)
        → With (cond attached Unfollowing (Closing 0 GoOn)) Nothing u → MakesFunctionCalls u xs → All IsCalm xs
        → LeavesOne o t Then attached xs
    leave-one true u xs w made calm = halts-on xs (GoesTo Directs) u w made calm
    leave-one false u xs w made calm = closes-on u xs w made calm

  -- ---- one process after another

  finished-none : (u : TrussState) (c : Call) → u.options ≡ o → u.aside ≡ Nothing
      → next_function_call_of (with_stage u Finished) ≡ Some c → ⊥
  unfolding function_call_of call_of
  finished-none u c options free next =
      none-some c (sym (next-staged o has (with_stage u Finished) Finished options free refl) ∙ next)

  leave-all : (ts : List Traced) (u : TrussState) (xs : List Exchange) → u.options ≡ o → u.leaving ≡ true
      → u.aside ≡ Nothing → u.traced ≡ ts → MakesFunctionCalls (with_next_left u) xs → All IsCalm xs → LeavesAll o ts xs
  unfolding with_next_left
  leave-all [] u xs options leaves free traced made calm =
      by xs (subst (λ ts. MakesFunctionCalls (left_or_finished u (slice_get ts 0)) xs) traced made)
    where
      by : (ys : List Exchange) → MakesFunctionCalls (with_stage u Finished) ys → ys ≡ []
      by [] made_y = refl
      by (y ∷ ys) made_y = absurd (finished-none u y.call options free made_y.0)
  leave-all (t ∷ ts) u xs options leaves free traced made calm =
      let stage : Stage = cond t.attached Unfollowing (Closing 0 GoOn) in
      leave-one t ts (LeavesAll o ts)
      (λ v ys shut made_v calm_v.
      leave-all ts v ys shut.options shut.leaving shut.idle shut.traced
      (subst (λ (y : TrussState). MakesFunctionCalls y ys) (going-is v shut.leaving) made_v) calm_v)
      t.attached (with_stage u stage) xs
      (record { options = options; leaves = leaves; stage = refl; beside = free; traced = traced })
      (subst (λ (vs : List Traced). MakesFunctionCalls (left_or_finished u (slice_get vs 0)) xs) traced made) calm

-- ---- the interrupt

-- a wait was interrupted: truss begins to leave, as this one does
record Begins (t : TrussState) (r : Reply) : Type 0 where
  from : TrussState
  is : fed_functions t r ≡ with_next_left from
  options : from.options ≡ t.options
  leaves : from.leaving ≡ true
  free : from.aside ≡ Nothing

begins-at : (t : TrussState) (r : Reply) → t.aside ≡ Nothing → (w : WaitsAt t)
    → fed_functions t r ≡ with_next_left (interrupted_at t w) → Begins t r
unfolding interrupted_at with_stop_seen
begins-at t r free (awaits_opening q until at) is = record {
  from = record (with_stop_seen t q) { leaving = true };
  is = is;
  options = refl;
  leaves = refl;
  free = free;
}
begins-at t r free (polls at) is =
    record { from = record t { leaving = true }; is = is; options = refl; leaves = refl; free = free }

-- ---- in a history

-- only calls that wait are interrupted in a legal one
pub calm-exchanges : (h : List Entry) (n k : ℕ) (s : TracedState) → IsLegal n s h → All IsCalm (exchanges k h)
calm-exchanges [] n k s legal = subst (All IsCalm) (sym (no-exchanges k)) (All-nil IsCalm)
calm-exchanges (e ∷ h) n k s legal =
    subst (All IsCalm) (sym (cons-exchanges k e h))
    (by (exchange_of k e) (λ x own. entry-calm n k s e x legal.0 own) (calm-exchanges h n k (after s e) legal.1))
  where
    by : (x : Option Exchange) → ((y : Exchange) → x ≡ Some y → IsCalm y) → All IsCalm (exchanges k h)
        → All IsCalm (cons_option x (exchanges k h))
    by None calm rest = rest
    by (Some x) calm rest = All-cons IsCalm x (exchanges k h) (calm x refl) rest

module _ (n k : ℕ) (o : Options) (s : TracedState) (h : List Entry) (run : IsFunctionRun n k o s h) where
  module _ (before later : List Entry) (e : Entry) (x : Exchange) (is : h ≡ before ++ e ∷ later)
      (own : exchange_of k e ≡ Some x) (calm : All WasNotInterrupted (exchanges k before))
      (broken : x.reply ≡ reply.Fail Intr) where
    abbrev t : TrussState
    t = functions_at k o before

    here : Goes ⊥ k o t (state_after s before)
    here = before-goes n k o s h run before (e ∷ later) is calm ⊥ (λ none. absurd none) (λ none. absurd none)

    legal : IsLegal n (state_after s before) (e ∷ later)
    legal = legal-rest n s before (e ∷ later) (subst (IsLegal n s) is run.legal)

    made : MakesFunctionCalls t (x ∷ exchanges k later)
    made =
        subst (MakesFunctionCalls t)
        (cons-exchanges k e later ∙ ap (λ y. cons_option y (exchanges k later)) own)
        (calls-rest (first_truss o) (exchanges k before) (exchanges k (e ∷ later))
        (subst (MakesFunctionCalls (first_truss o)) (exchanges-both k before (e ∷ later))
        (subst (λ (es : List Entry). MakesFunctionCalls (first_truss o) (exchanges k es)) is run.makes)))

    begins : Begins t x.reply
    unfolding answer_of
    begins =
        let g = here in
        let kept = g.kept in
        let calm_x = entry-calm n k (state_after s before) e x legal.0 own in
        let w =
        waits-at o run.has t g.options (IsSo ⊥ k t.options (state_after s before)) x.call (calm_x.waits broken)
        kept.stage kept.beside made.0 in
        begins-at t x.reply w.0 w.1 (waits-fed o run.has t g.options x.reply (ap answer_of broken) w.0 w.1)

    then-is : functions_at k o (before ++ e ∷ []) ≡ fed_functions t x.reply
    then-is =
        ap (functions_after (first_truss o)) (exchanges-both k before (e ∷ []))
        ∙ functions-both (first_truss o) (exchanges k before) (exchanges k (e ∷ []))
        ∙ ap (functions_after t)
        (cons-exchanges k e [] ∙ ap (λ y. cons_option y (exchanges k [])) own ∙ ap (λ ys. x ∷ ys) (no-exchanges k))

    leaves-all : LeavesAll o (functions_at k o (before ++ e ∷ [])).traced (exchanges k later)
    leaves-all =
        let g = here in
        let b = begins in
        let traced : (functions_at k o (before ++ e ∷ [])).traced ≡ b.from.traced =
        ap (λ (v : TrussState). v.traced) (then-is ∙ b.is) ∙ (left-same b.from).0 in
        subst (λ ts. LeavesAll o ts (exchanges k later)) (sym traced)
        (leave-all o run.has run.follows_none b.from.traced b.from (exchanges k later) (b.options ∙ g.options) b.leaves
        b.free refl (subst (λ (v : TrussState). MakesFunctionCalls v (exchanges k later)) b.is made.1)
        (calm-exchanges later n k (after (state_after s before) e) legal.1))

  pub leaves-its-processes : LeavesItsProcesses k o h
  leaves-its-processes = record {
    each = λ before later e x is own calm broken. leaves-all before later e x is own calm broken;
  }

pub ruleset leaving = (leaves-its-processes)
