use Rattle.std.proofs.Common.{◌≡◌, ◌≢◌, ◌<◌, ◌++◌, ℕ, Bool, true, false, cond, Option, Some, None, List, [], ◌∷◌, length, append-nil, refl, sym, subst, ap, ◌∙◌, inl, inr}
use Rattle.std.proofs.lemmas.Bool.{cases_eq, eq-eqb, false≢true, ne_eqb}
use Rattle.std.proofs.lemmas.List.Elements.{All-cons, All-head, All-nil, All-tail}
use Rattle.std.proofs.lemmas.Option.{none-some, same_Some}
use Rattle.std.specs.List.{All, filter, slice_get}
use Rattle.pr_lawful.proofs.LawfulStates.HistoryLemmas.{history-state}
use Rattle.pr_lawful.proofs.Following.UseLemmas.{live-lawful}
use Rattle.pr_line.specs.Events.{event_of}
use Rattle.pr_line.specs.declared.events.Event.{Event}
use Rattle.pr_line.specs.declared.events.Event.TheVariants.{Incurred}
use Rattle.pr_line.specs.declared.options.Options.{Options}
use Rattle.pr_model.specs.Handles.{handle_of}
use Rattle.pr_model.specs.Lawful.{IsLawful}
use Rattle.pr_model.specs.Legal.{IsLegalEntry, after, state_after}
use Rattle.pr_model.specs.Records.{lstatus_of, statuses_of_lwps}
use Rattle.pr_model.specs.Registers.{pc_of}
use Rattle.pr_model.specs.Replies.{bytes_in}
use Rattle.pr_model.specs.State.{TracedLwp, TracedProcess, TracedState, live_process, lwp_of, process_of}
use Rattle.pr_model.specs.Statuses.{lwpstatus_of}
use Rattle.pr_model.specs.declared.calls.Call.{Call}
use Rattle.pr_model.specs.declared.calls.File.TheVariants.{Lstatus}
use Rattle.pr_model.specs.declared.calls.Mode.TheVariants.{Read}
use Rattle.pr_model.specs.declared.calls.Reply.{Reply}
use Rattle.pr_model.specs.declared.calls.Reply.TheVariants as reply
use Rattle.pr_model.specs.declared.events.Entry.{Entry}
use Rattle.pr_num.specs.ById.{IsRising}
use Rattle.pr_num.specs.Limits.{read_limit}
use Rattle.pr_num.specs.declared.faults.Flt.TheVariants.{Trace}
use Rattle.pr_reached.specs.ByteHistories.{IsEntryOfBytes}
use Rattle.pr_rec.specs.declared.lwps.LwpStatus.{LwpStatus}
use Rattle.pr_report_laws.proofs.Files.FileLaws.{HasFiles}
use Rattle.pr_report_laws.proofs.Files.FileUses.{standing as standing-at}
use Rattle.pr_report_laws.proofs.Invariant.StandLemmas.{IsAttached}
use Rattle.pr_report_laws.proofs.Machine.EventStopLemmas.{each-under, one-stop}
use Rattle.pr_report_laws.specs.AtBirth.{has_met, is_met_if}
use Rattle.pr_report_laws.specs.Positions.{HasEvent}
use Rattle.pr_report_laws.specs.Watching.{is_away}
use Rattle.pr_truss.specs.Asides.{marks_at}
use Rattle.pr_truss.specs.FunctionCalls.{function_call_of, next_function_call_of}
use Rattle.pr_truss.specs.FunctionEvents.{fresh_event, function_event, trap_event}
use Rattle.pr_truss.specs.FunctionFeeding.{fed_functions}
use Rattle.pr_truss.specs.Marks.{has_functions}
use Rattle.pr_truss.specs.NextCalls.{call_of, read_record}
use Rattle.pr_truss.specs.Records.{event_stops, is_on_event}
use Rattle.pr_truss.specs.Trusses.{TrussState, first_truss, traced_at}
use Rattle.pr_truss.specs.declared.asides.Aside.{Aside}
use Rattle.pr_truss.specs.declared.asides.Aside.TheVariants.{Asking, AwaitingAgain, AwaitingStop, Nothing}
use Rattle.pr_truss.specs.declared.function_events.FunctionEvent.{FunctionEvent}
use Rattle.pr_truss.specs.declared.function_events.FunctionEvent.TheVariants.{Completed, TraceTrap}
use Rattle.pr_truss.specs.declared.marks.Stepped.{Stepped}
use Rattle.pr_truss.specs.declared.processes.Traced.{Traced}
use Rattle.pr_truss.specs.declared.reports.Report.{Report}
use Rattle.pr_truss.specs.declared.reports.Report.TheVariants.{Called}
use Rattle.pr_truss.specs.declared.stages.AfterClosing.TheVariants.{GoOn}
use Rattle.pr_truss.specs.declared.stages.Stage.{Stage}
use Rattle.pr_truss.specs.declared.stages.Stage.TheVariants.{Closing, Finished, ReadingLwps, ReadingText, Unfollowing}
use Rattle.pr_truss_laws.proofs.Files.OpensLemmas.{held_by}
use Rattle.pr_truss_laws.specs.Exchanges.{Exchange, exchange_of}
use Rattle.pr_truss_laws.specs.Stills.{StandsOnEvent}
use Rattle.pr_function_laws.proofs.Stepping.BreakpointLemmas.{IsOwnEntry, own-entry}
use Rattle.pr_function_laws.proofs.LeavingProcesses.LeavingCourse.{entry-bytes, entry-legal, files-at, follow-there, has-there}
use Rattle.pr_function_laws.proofs.LeavingProcesses.LeavingCourse.{makes-there, state-next, truss-next}
use Rattle.pr_function_laws.proofs.LeavingProcesses.LeavingFacts.{Moved}
use Rattle.pr_function_laws.proofs.LeavingProcesses.LeavingHolds.{leaving-few}
use Rattle.pr_function_laws.proofs.LeavingProcesses.UnlookedProcesses.{Behind, Fate, ahead, behind, fate, is_killed, lives_on}
use Rattle.pr_function_laws.proofs.LeavingProcesses.LeftProcesses.{IsLeaving, its-apart, its-control, many}
use Rattle.pr_function_laws.proofs.Listing.AwaitedCalls as looks-of
use Rattle.pr_function_laws.proofs.Listing.LeavingListed as last-looks
use Rattle.pr_function_laws.proofs.LeavingProcesses.LeavingStages.{IsLeft, asks, awaits, closes_files, halts, has_ended}
use Rattle.pr_function_laws.proofs.LeavingProcesses.LeavingStages.{is_looked, lifts_all, looks, reads_text, waits_again}
use Rattle.pr_function_laws.proofs.LeavingProcesses.LeavingSteps.{IsAt}
use Rattle.pr_function_laws.proofs.Listing.ListedStates as states
use Rattle.pr_function_laws.proofs.Marks.MetLemmas.{completes, event-completes, fresh-stands}
use Rattle.pr_function_laws.proofs.OpenedProcesses.OpenedLemmas.{control-made}
use Rattle.pr_function_laws.proofs.OrdinaryTruss.OrdinaryReplies.{at-ordinary}
use Rattle.pr_function_laws.proofs.NextCalls.PatchCalls.{next-staged}
use Rattle.pr_function_laws.proofs.CallTurns.TurnReads.{fault-told, told-stop}
use Rattle.pr_function_laws.proofs.CallTurns.TurnWalks.{own-in}
use Rattle.pr_function_laws.specs.Calls.{call_beside, call_of_event, call_of_fresh, call_of_lwp, call_read, call_told}
use Rattle.pr_function_laws.specs.FunctionTurns.{call_of_turn, calls_of, function_turns}
use Rattle.pr_function_laws.specs.Lifted.{HasControl}
use Rattle.pr_function_laws.specs.OneEvent.{HasOneEventAtMost, met, unmet}
use Rattle.pr_function_laws.specs.ReachedRuns.{IsReachedFunctionRun}
use Rattle.pr_function_laws.specs.Opened.{functions_at}
use Rattle.pr_function_laws.specs.Ordinary.{ordinary, unmarked}
use Rattle.pr_function_laws.specs.Runs.{functions_on}
use Rattle.pr_function_hides.proofs.StepsUnderWay.CallLists.{one-shown, shown-fed}
use Rattle.pr_function_hides.proofs.Listed.CallStates.{IsUnder, Listed, Since, Stands, call_of_step, elsewhere-call, gone-next, idle, lost, lost-next, same-listed, since-on, trapped, turns-next}
use Rattle.pr_function_hides.proofs.StepsUnderWay.TrapStops.{AtTrap, Ready, moved-ready, moved-trap, ready-notrap}

-- What a call of truss makes of the calls of functions in a process that it has shown, while it leaves its processes:
-- its last look at the process tells of the call whose turn was unread.

-- ---- what a read tells

-- of another process
other-call : (t : TrussState) (pid place : ℕ) → (traced_at t place).pid ≢ pid → (l : Option LwpStatus)
    → calls_of pid (call_of_lwp t place l) ≡ []
unfolding calls_of
other-call t pid place differs None = refl
other-call t pid place differs (Some l) = by-fresh (fresh_event (traced_at t place) l)
  where
    by-event : (fe : FunctionEvent) → calls_of pid (call_of_event (traced_at t place).pid fe) ≡ []
    by-event (Completed step) =
        ap (λ b. cond {A = List Report} b (Called (traced_at t place).pid step.lwp step.function step.arguments ∷ [])
        []) (ne_eqb (traced_at t place).pid pid differs)
    by-event _ = refl

    by-fresh : (ev : Option Event) → calls_of pid (call_of_fresh t place l.id ev) ≡ []
    by-fresh None = refl
    by-fresh (Some ev) = by-event (function_event t.options (marks_at t place) l.id ev)

-- of the first of these that pass a test
first-kept : {A : Type 0} (Q : A → Type 0) (test : A → Bool) (xs : List A) → All Q xs → (x : A)
    → slice_get (filter test xs) 0 ≡ Some x → Q x
first-kept Q test [] all x is = absurd (none-some x is)
first-kept Q test (y ∷ ys) all x is = by (test y) (first-kept Q test ys (All-tail Q y ys all) x) is
  where
    by : (b : Bool) → (slice_get (filter test ys) 0 ≡ Some x → Q x)
        → slice_get (cond b (y ∷ filter test ys) (filter test ys)) 0 ≡ Some x → Q x
    by true rest first = subst Q (same_Some y x first) (All-head Q y ys all)
    by false rest first = rest first

-- the status of an lwp of a process
abbrev IsOf : TracedProcess → LwpStatus → Type 0
IsOf p l = (lwp : TracedLwp) × ((lwp_of p l.id ≡ Some lwp) × (l ≡ lwpstatus_of p l.id lwp))

all-of : (p : TracedProcess) (es : List (ℕ × TracedLwp))
    → All (λ (e : ℕ × TracedLwp). IsOf p (lwpstatus_of p e.0 e.1)) es → All (IsOf p) (statuses_of_lwps p es)
all-of p [] all = All-nil (IsOf p)
all-of p (e ∷ es) all =
    All-cons (IsOf p) (lwpstatus_of p e.0 e.1) (statuses_of_lwps p es)
    (All-head (λ (y : ℕ × TracedLwp). IsOf p (lwpstatus_of p y.0 y.1)) e es all)
    (all-of p es (All-tail (λ (y : ℕ × TracedLwp). IsOf p (lwpstatus_of p y.0 y.1)) e es all))

first-of : (p : TracedProcess) → IsRising p.lwps → (l : LwpStatus)
    → slice_get (filter is_on_event (lstatus_of p)) 0 ≡ Some l → IsOf p l
unfolding lstatus_of lwpstatus_of
first-of p rises l is =
    first-kept (IsOf p) is_on_event (statuses_of_lwps p p.lwps)
    (all-of p p.lwps
    (each-under (λ (e : ℕ × TracedLwp). IsOf p (lwpstatus_of p e.0 e.1)) 0 p.lwps rises
    (λ id lwp there. (lwp, (there, refl))))) l is

no-bytes : (r : Reply) → ((bs : List ℕ) → r ≡ reply.Bytes bs → ⊥) → event_stops (bytes_in r) ≡ []
unfolding bytes_in event_stops
no-bytes (reply.Bytes bs) none = absurd (none bs refl)
no-bytes _ none = refl

-- the trace trap of the lwp whose step is under way
trap-tells : (m : Option Stepped) (step : Stepped) (id : ℕ) → step.lwp ≡ id → m ≡ Some step
    → trap_event m id ≡ Completed step
trap-tells None step id own is = absurd (none-some step is)
trap-tells (Some x) step id own is =
    let same : x ≡ step = same_Some x step is in
    ap (λ b. cond b (Completed x) TraceTrap) (eq-eqb x.lwp id (ap (λ (y : Stepped). y.lwp) same ∙ own))
    ∙ ap (λ y. Completed y) same

-- an lwp that stands at the trace trap and whose step is under way tells of its call
lwp-tells : (t : TrussState) (place : ℕ) (p : TracedProcess) (step : Stepped) (lwp : TracedLwp)
    → event_of (lwpstatus_of p step.lwp lwp) ≡ Some (Incurred Trace (pc_of lwp.regs))
    → (marks_at t place).stepped ≡ Some step → (traced_at t place).old ≡ 0 → (traced_at t place).seen ≡ false
    → call_of_lwp t place (Some (lwpstatus_of p step.lwp lwp))
    ≡ Called (traced_at t place).pid step.lwp step.function step.arguments ∷ []
unfolding fresh_event function_event lwpstatus_of
lwp-tells t place p step lwp on under_way new unseen =
    let l : LwpStatus = lwpstatus_of p step.lwp lwp in
    let fresh : fresh_event (traced_at t place) l ≡ Some (Incurred Trace (pc_of lwp.regs)) =
    ap (λ b. cond b (cond (traced_at t place).seen None (event_of l)) None) (eq-eqb (traced_at t place).old 0 new)
    ∙ ap (λ b. cond b None (event_of l)) unseen ∙ on in
    ap (call_of_fresh t place step.lwp) fresh
    ∙ ap (call_of_event (traced_at t place).pid)
    (trap-tells (marks_at t place).stepped step step.lwp refl under_way)

module _ (n k : ℕ) (o : Options) (s : TracedState) (h : List Entry) (run : IsReachedFunctionRun n k o s h)
    (pid : ℕ) where
  abbrev T : List Entry → TrussState
  T front = functions_at k o front

  abbrev S : List Entry → TracedState
  S front = state_after s front

  module _ (f : List Entry) (e : Entry) (later : List Entry) (is : h ≡ f ++ e ∷ later)
      (g : IsLeaving (Unit {0}) k o (functions_at k o f) (state_after s f)) (x : Exchange)
      (own : exchange_of k e ≡ Some x) where
    abbrev next : List Entry
    next = f ++ e ∷ []

    abbrev t : TrussState
    t = T f

    abbrev now : TracedState
    now = S f

    legal : IsLegalEntry n now e
    legal = entry-legal (Unit {0}) n k o s h run.of (λ r. run.reached) (λ r. run.bytes) f e later is

    lawful : IsLawful now
    lawful = g.lawful

    later-lawful : IsLawful (after now e)
    later-lawful = history-state n now (e ∷ []) lawful (legal, tt)

    files : HasFiles k (ordinary t) now
    files = files-at (Unit {0}) n k o s h run.of (λ r. run.reached) (λ r. run.bytes) f (e ∷ later) is

    state-is : S next ≡ after now e
    state-is = state-next (Unit {0}) n k o s h run.of (λ r. run.reached) (λ r. run.bytes) f e later is

    it : IsOwnEntry k now e x
    it = own-entry n k now e x legal own

    sent : next_function_call_of t ≡ Some x.call
    sent = makes-there (Unit {0}) n k o s h run.of (λ r. run.reached) (λ r. run.bytes) f e later is x own

    has : has_functions t.options ≡ true
    has = has-there (Unit {0}) n k o s h run.of (λ r. run.reached) (λ r. run.bytes) f e later is

    follow : t.options.follow ≡ false
    follow = follow-there (Unit {0}) n k o s h run.of (λ r. run.reached) (λ r. run.bytes) f e later is

    bytes-here : Unit {0} → IsEntryOfBytes e
    bytes-here = entry-bytes (Unit {0}) n k o s h run.of (λ r. run.reached) (λ r. run.bytes) f e later is

    abbrev v : TrussState
    v = fed_functions t x.reply

    v-is : T next ≡ v
    v-is =
        truss-next (Unit {0}) n k o s h run.of (λ r. run.reached) (λ r. run.bytes) f e later is
        ∙ ap (functions_on t) own

    exchange-empty : call_of_turn t now pid e.actor e.act ≡ []
    exchange-empty = elsewhere-call t now pid e.actor e.act (λ i. own-in k pid i e.actor e.act x own)

    answered-is : (i : ℕ) (q : TracedProcess) → live_process (S next).system i ≡ Some q
        → live_process it.answer.state.system i ≡ Some q
    answered-is i q live =
        ap (λ (u : TracedState). live_process u.system i) (it.later ∙ sym state-is) ∙ live

    is-answered : (i : ℕ) (q : TracedProcess) → live_process it.answer.state.system i ≡ Some q
        → live_process (S next).system i ≡ Some q
    is-answered i q live =
        ap (λ (u : TracedState). live_process u.system i) (state-is ∙ sym it.later) ∙ live

    rises : (p : TracedProcess) → live_process now.system pid ≡ Some p → IsRising p.lwps
    rises p live = let l = lawful in let y = live-lawful now.system pid p l.system live in y.rising

    rises-next : (q : TracedProcess) → live_process (S next).system pid ≡ Some q → IsRising q.lwps
    rises-next q live =
        let l = later-lawful in
        let y =
        live-lawful (after now e).system pid q l.system
        (ap (λ (u : TracedState). live_process u.system pid) (sym state-is) ∙ live) in
        y.rising

    abbrev LooksAtIt : Type 0
    LooksAtIt = IsAt t ReadingLwps Nothing × ((traced_at t 0).pid ≡ pid)

    abbrev Are : List Report → Type 0
    Are lacking = function_turns k pid (first_truss o) s f ≡ calls_of pid t.reports ++ lacking

    -- ---- what is told

    abbrev told : List Report
    told = call_told t x.reply

    shown-next : calls_of pid (T next).reports ≡ calls_of pid t.reports ++ calls_of pid told
    shown-next = ap (λ (u : TrussState). calls_of pid u.reports) v-is ∙ shown-fed pid t x.reply has

    shown-still : calls_of pid told ≡ [] → calls_of pid (T next).reports ≡ calls_of pid t.reports
    shown-still empty =
        shown-next ∙ ap (λ cs. calls_of pid t.reports ++ cs) empty ∙ append-nil (calls_of pid t.reports)

    aside-told : (aside : Aside) → t.aside ≡ aside → told ≡ call_beside t x.reply aside
    unfolding call_told
    aside-told aside at = ap (call_beside t x.reply) at

    stage-told : (stage : Stage) → t.stage ≡ stage → t.aside ≡ Nothing → told ≡ call_read t x.reply stage
    stage-told stage at idle_aside = aside-told Nothing idle_aside ∙ ap (call_read t x.reply) at

    none-of : (cs : List Report) → cs ≡ [] → calls_of pid cs ≡ []
    unfolding calls_of
    none-of cs none = ap (calls_of pid) none

    untold : (LooksAtIt → ⊥) → calls_of pid told ≡ []
    untold not_it = by g.at
      where
        by : IsLeft t → calls_of pid told ≡ []
        by (halts at idle_aside within) = none-of told (stage-told Unfollowing at idle_aside)
        by (awaits until at at_aside within) = none-of told (aside-told (AwaitingStop until) at_aside)
        by (asks at at_aside within) = none-of told (aside-told Asking at_aside)
        by (waits_again until at at_aside within) = none-of told (aside-told (AwaitingAgain until) at_aside)
        by (looks at idle_aside within) =
            ap (calls_of pid) (stage-told ReadingLwps at idle_aside)
            ∙ other-call t pid 0 (λ same. not_it ((at, idle_aside), same)) _
        by (reads_text l from len at idle_aside within) =
            none-of told (stage-told (ReadingText 0 l from len) at idle_aside)
        by (lifts_all clears at at_aside within) = none-of told (aside-told _ at_aside)
        by (closes_files at idle_aside within) = none-of told (stage-told (Closing 0 GoOn) at idle_aside)
        by (has_ended at idle_aside) = none-of told (stage-told Finished at idle_aside)

    control : (place : ℕ) (step : Stepped) → IsUnder t pid place step → HasControl k pid (traced_at t place).control now
    control place step w =
        subst (λ i. HasControl k i (traced_at t place).control now) w.its (its-control k t now files place w.within)

    made : (place : ℕ) (step : Stepped) → IsUnder t pid place step → pid < now.system.made
    made place step w = control-made k pid (traced_at t place).control now lawful (control place step w)

    -- ---- where truss does not look at the process

    module _ (not_it : LooksAtIt → ⊥) where
      quiet-read : states.ReadsIts k o s pid f e → ⊥
      quiet-read (inl r) = not_it (looks-of.status-look n k o s h run pid f e later is g x own r)
      quiet-read (inr r) = not_it (looks-of.lwps-look n k o s h run pid f e later is g x own r)

      module _ (i : ℕ) (step : Stepped) (u_next : IsUnder (T next) pid i step) where
        u : IsUnder v pid i step
        u = subst (λ (y : TrussState). IsUnder y pid i step) v-is u_next

        was-there : Behind (Unit {0}) n k o t now g files e legal bytes-here x it sent has follow i
        was-there =
            let w = u in
            behind (Unit {0}) n k o t now g files e legal bytes-here x it sent has follow i w.within w.attached
            w.unlooked

        was-under : IsUnder t pid (let b = was-there in b.q) step
        was-under =
            let b = was-there in
            let w = u in
            record {
              within = b.within;
              its = sym b.pid ∙ w.its;
              attached = b.attached;
              unlooked = b.unlooked;
              under_way = ap (λ m. m.stepped) (sym b.marks) ∙ w.under_way;
            }

        was-live : (q : TracedProcess) → live_process (S next).system pid ≡ Some q
            → (p : TracedProcess) × ((live_process now.system pid ≡ Some p) × Moved p q)
        was-live q live =
            let b = was-there in
            let w = was-under in
            let m = b.was q (subst (λ j. live_process it.answer.state.system j ≡ Some q) (sym w.its)
            (answered-is pid q live)) in
            (m.0, (ap (live_process now.system) (sym w.its) ∙ m.1.0, m.1.1))

      idle-on : ((place : ℕ) (step : Stepped) → IsUnder t pid place step → (p : TracedProcess)
          → live_process now.system pid ≡ Some p → ((traced_at t place).old ≡ 0) × Ready o step p)
          → Stands k o s pid next []
      idle-on ready =
          idle (λ i step u_next q live_q.
          let m = was-live i step u_next q live_q in
          let b = was-there i step u_next in
          let r = ready b.q step (was-under i step u_next) m.0 m.1.0 in (
            ap (λ (y : TrussState). (traced_at y i).old) v-is ∙ b.old ∙ r.0,
            moved-ready o step m.0 q m.1.1 (rises m.0 m.1.0) (rises-next q live_q) r.1,
          ))

      module _ (place : ℕ) (step : Stepped) (w : IsUnder t pid place step) (new : (traced_at t place).old ≡ 0)
          (p : TracedProcess) (live : live_process now.system pid ≡ Some p) (a : AtTrap step.lwp p)
          (since : Since k o s pid f (call_of_step pid step)) where
        lives-next : (q : TracedProcess) → live_process it.answer.state.system (traced_at t place).pid ≡ Some q
            → Stands k o s pid next (call_of_step pid step ∷ [])
        lives-next q later_live =
            let b =
            ahead (Unit {0}) n k o t now g files e legal bytes-here x it sent has follow place w.within w.attached
            w.unlooked
            (λ at zero_place. not_it (at, ap (λ j. (traced_at t j).pid) (sym zero_place) ∙ w.its)) q later_live in
            let u_v : IsUnder v pid b.i step =
            record {
              within = b.within;
              its = b.pid ∙ w.its;
              attached = b.attached;
              unlooked = b.unlooked;
              under_way = ap (λ m. m.stepped) b.marks ∙ w.under_way;
            } in
            let u_next : IsUnder (T next) pid b.i step =
            subst (λ (y : TrussState). IsUnder y pid b.i step) (sym v-is) u_v in
            let live_q : live_process (S next).system pid ≡ Some q =
            is-answered pid q (subst (λ j. live_process it.answer.state.system j ≡ Some q) w.its later_live) in
            let was = was-live b.i step u_next q live_q in
            trapped b.i step u_next (ap (λ (y : TrussState). (traced_at y b.i).old) v-is ∙ b.old ∙ new) q live_q
            (moved-trap step.lwp was.0 q was.1.1
            (subst (AtTrap step.lwp) (same_Some p was.0 (sym live ∙ was.1.0)) a))
            (since-on k o s pid f e (call_of_step pid step) since quiet-read)

        trap-on : Stands k o s pid next (call_of_step pid step ∷ [])
        trap-on =
            by (fate (Unit {0}) n k o t now g files e legal bytes-here x it sent has follow place w.within w.unlooked p
            (ap (live_process now.system) w.its ∙ live))
          where
            answered-later : {A : Type 0} (f_of : TracedState → A) → f_of (after now e) ≡ f_of it.answer.state
            answered-later f_of = ap f_of (sym it.later)

            by : Fate (Unit {0}) n k o t now g files e legal bytes-here x it sent has follow place
                → Stands k o s pid next (call_of_step pid step ∷ [])
            by (lives_on q later_live) = lives-next q later_live
            by (is_killed z gone left status) =
                gone-next k o s pid n h run.of f e later is lawful legal (call_of_step pid step) since
                (made place step w) quiet-read p live
                (answered-later (λ (y : TracedState). live_process y.system pid)
                ∙ subst (λ j. live_process it.answer.state.system j ≡ None) w.its gone) z
                (answered-later (λ (y : TracedState). process_of y.system pid)
                ∙ subst (λ j. process_of it.answer.state.system j ≡ Some z) w.its left) status

      other-next : {lacking : List Report} → Stands k o s pid f lacking → Are lacking → Listed k o s pid next
      other-next stands are =
          same-listed k o s pid f e _ are exchange-empty (shown-still (untold not_it)) (by stands)
        where
          by : {lacking : List Report} → Stands k o s pid f lacking → Stands k o s pid next lacking
          by (idle ready) = idle-on ready
          by (trapped place step w new p live a since) = trap-on place step w new p live a since
          by (lost report w made_it gone was_killed) =
              lost-next k o s pid n h run.of f e later is lawful legal report w made_it gone was_killed

    -- ---- where it does

    module _ (at : IsAt t ReadingLwps Nothing) (its : (traced_at t 0).pid ≡ pid) where
      some : 0 < length t.traced
      some = by g.at
        where
          by : IsLeft t → 0 < length t.traced
          by (halts at2 idle_aside within) = within
          by (awaits until at2 at_aside within) = within
          by (asks at2 at_aside within) = within
          by (waits_again until at2 at_aside within) = within
          by (looks at2 idle_aside within) = within
          by (reads_text l from len at2 idle_aside within) = within
          by (lifts_all clears at2 at_aside within) = within
          by (closes_files at2 idle_aside within) = within
          by (has_ended at2 idle_aside) = let both : ReadingLwps ≡ Finished = sym at.0 ∙ at2 in cc

      on-it : IsAttached (unmarked (traced_at t 0))
      on-it =
          let stands = standing-at k (ordinary t) now ReadingLwps files at.0 in
          subst IsAttached (at-ordinary t 0) stands.at

      read-idle : Stands k o s pid next []
      read-idle =
          idle (λ i step u_next q live_q.
          absurd (last-looks.no-more n k o s h run pid f e later is g x own at its i u_next.within
          u_next.its
          u_next.unlooked))

      abbrev stops : List LwpStatus
      stops = event_stops (bytes_in x.reply)

      told-is : told ≡ call_of_lwp t 0 (slice_get stops 0)
      told-is = stage-told ReadingLwps at.0 at.1

      quiet-told : told ≡ [] → {lacking : List Report} → Are lacking → Stands k o s pid next lacking
          → Listed k o s pid next
      quiet-told none are stands =
          same-listed k o s pid f e _ are exchange-empty (shown-still (none-of told none)) stands

      reads : x.call ≡ read_record (traced_at t 0).lstatus
      unfolding function_call_of call_of
      reads = same_Some _ _ (sym sent ∙ next-staged t.options has t ReadingLwps refl at.1 at.0)

      -- it has ended
      gone-told : live_process now.system pid ≡ None → told ≡ []
      gone-told gone =
          told-is
          ∙ ap (λ (ls : List LwpStatus). call_of_lwp t 0 (slice_get ls 0)) (no-bytes x.reply (λ bs same.
          let a = on-it in
          let files_open = a.opened in
          let lwps = files_open.lstatus in
          let file =
          files.lstatus 0 lwps.number (many k t now files 0 some)
          (ap (λ (y : Traced). y.lstatus) (at-ordinary t 0) ∙ lwps.is) in
          states.over-gives k o s pid n h run.of f e later is lawful legal Lstatus refl gone
          (record {
            handle = lwps.number;
            from = 0;
            len = read_limit;
            bytes = bs;
            held = held_by k pid 0 Lstatus Read;
            is = own ∙ ap (λ (c : Call). Some (record { call = c; reply = x.reply })) (reads ∙ ap read_record lwps.is)
                ∙ ap (λ (r : Reply). Some (record { call = read_record (Some lwps.number); reply = r })) same;
            there = subst (λ i. handle_of now.opens k lwps.number ≡ Some (held_by k i 0 Lstatus Read))
                (ap (λ (y : Traced). y.pid) (at-ordinary t 0) ∙ its) file.is;
            of = refl;
            file = refl;
          })))

      module _ (p : TracedProcess) (live : live_process now.system pid ≡ Some p) where
        stops-are : stops ≡ filter is_on_event (lstatus_of p)
        stops-are = last-looks.stops-are n k o s h run pid f e later is g x own at its p live

        under-it : (step : Stepped) → (marks_at t 0).stepped ≡ Some step → IsUnder t pid 0 step
        under-it step way = record {
          within = some;
          its = its;
          attached = let a = on-it in a.attached;
          unlooked = λ looked_so. absurd (false≢true (sym (ap is_looked at.0) ∙ looked_so));
          under_way = way;
        }

        -- no lwp of a step stands at a trace trap
        ready-told : ((place : ℕ) (step : Stepped) → IsUnder t pid place step → (q : TracedProcess)
            → live_process now.system pid ≡ Some q → ((traced_at t place).old ≡ 0) × Ready o step q) → told ≡ []
        ready-told ready = told-is ∙ by (slice_get stops 0) refl
          where
            by-event : (l : LwpStatus) → slice_get stops 0 ≡ Some l → (ev : Event) → event_of l ≡ Some ev
                → (fe : FunctionEvent) → function_event t.options (marks_at t 0) l.id ev ≡ fe
                → call_of_event (traced_at t 0).pid fe ≡ []
            by-event l first ev on (Completed step) is_fe =
                let c = event-completes t.options (marks_at t 0) l.id ev step (ap completes is_fe) in
                let r = ready 0 step (under-it step c.under_way) p live in
                let lwp_of_it : IsOf p l =
                first-of p (rises p live) l
                (ap (λ (ls : List LwpStatus). slice_get ls 0) (sym stops-are) ∙ first) in
                absurd (ready-notrap o step p r.1 lwp_of_it.0 (ap (lwp_of p) c.own ∙ lwp_of_it.1.0)
                (told-stop p l.id lwp_of_it.0 Trace c.pc
                (ap event_of (sym lwp_of_it.1.1) ∙ on ∙ ap (λ y. Some y) c.is)))
            by-event l first ev on _ is_fe = refl

            by-fresh : (l : LwpStatus) → slice_get stops 0 ≡ Some l → (ev : Option Event)
                → fresh_event (traced_at t 0) l ≡ ev → call_of_fresh t 0 l.id ev ≡ []
            by-fresh l first None fresh = refl
            by-fresh l first (Some ev) fresh =
                by-event l first ev (fresh-stands (traced_at t 0) l ev fresh)
                (function_event t.options (marks_at t 0) l.id ev) refl

            by : (first : Option LwpStatus) → slice_get stops 0 ≡ first → call_of_lwp t 0 first ≡ []
            by None first = refl
            by (Some l) first = by-fresh l first (fresh_event (traced_at t 0) l) refl

        -- the lwp of a step does
        module _ (place : ℕ) (step : Stepped) (w : IsUnder t pid place step) (new : (traced_at t place).old ≡ 0)
            (a : AtTrap step.lwp p) where
          zero-is : place ≡ 0
          zero-is = elim (cases_eq place 0) [
            | inl one ↦ one
            | inr differs ↦ absurd (its-apart k t now files place 0 w.within some differs (w.its ∙ sym its))
          ]

          new-it : (traced_at t 0).old ≡ 0
          new-it = ap (λ i. (traced_at t i).old) (sym zero-is) ∙ new

          way-it : (marks_at t 0).stepped ≡ Some step
          way-it = ap (λ i. (marks_at t i).stepped) (sym zero-is) ∙ w.under_way

          few : HasOneEventAtMost p
          few =
              leaving-few (Unit {0}) k o t now g files 0 some (let y = on-it in y.attached) tt
              (ap (λ stage. is_away true stage 0) at.0) new-it p (ap (live_process now.system) its ∙ live)

          met-it : has_met a.lwp ≡ true
          met-it = ap is_met_if a.stop

          event-it : HasEvent p step.lwp (Incurred Trace (pc_of a.lwp.regs))
          event-it = by few
            where
              by : HasOneEventAtMost p → HasEvent p step.lwp (Incurred Trace (pc_of a.lwp.regs))
              by (unmet none) = absurd (false≢true (sym (none step.lwp a.lwp a.there) ∙ met-it))
              by (met i m) = elim (cases_eq step.lwp i) [
                | inl same ↦ record {
                  lwp = a.lwp;
                  there = a.there;
                  stands = subst StandsOnEvent
                      (same_Some m.lwp a.lwp (sym m.there ∙ ap (lwp_of p) (sym same) ∙ a.there)) m.stands;
                  tells = fault-told p step.lwp a.lwp Trace a.stop;
                  others = λ other lwp differs there. m.others other lwp (λ one. differs (one ∙ sym same)) there;
                }
                | inr differs ↦
                    let held = m.others step.lwp a.lwp differs a.there in
                    absurd (false≢true (sym held.met_nothing ∙ met-it))
              ]

          trap-told : told ≡ call_of_step pid step ∷ []
          trap-told =
              let ev = event-it in
              told-is
              ∙ ap (λ (ls : List LwpStatus). call_of_lwp t 0 (slice_get ls 0))
              (stops-are ∙ one-stop p (rises p live) step.lwp (Incurred Trace (pc_of a.lwp.regs)) ev)
              ∙ lwp-tells t 0 p step ev.lwp
              (ev.tells ∙ ap (λ (y : TracedLwp). Some (Incurred Trace (pc_of y.regs)))
              (same_Some a.lwp ev.lwp (sym a.there ∙ ev.there))) way-it new-it (let y = on-it in y.unseen)
              ∙ ap (λ i. Called i step.lwp step.function step.arguments ∷ []) its

          trap-look : Are (call_of_step pid step ∷ []) → Listed k o s pid next
          trap-look are = record {
            lacking = [];
            are = turns-next k o s pid f e
                ∙ ap (λ cs. function_turns k pid (first_truss o) s f ++ cs) exchange-empty
                ∙ append-nil (function_turns k pid (first_truss o) s f) ∙ are
                ∙ sym (append-nil (calls_of pid (T next).reports) ∙ shown-next
                ∙ ap (λ cs. calls_of pid t.reports ++ cs)
                (ap (calls_of pid) trap-told ∙ one-shown pid (call_of_step pid step) (eq-eqb pid pid refl)));
            stands = read-idle;
          }

        live-look : {lacking : List Report} → Stands k o s pid f lacking → Are lacking → Listed k o s pid next
        live-look (idle ready) are = quiet-told (ready-told ready) are read-idle
        live-look (trapped place step w new q live_q a since) are =
            trap-look place step w new (subst (AtTrap step.lwp) (same_Some q p (sym live_q ∙ live)) a) are
        live-look (lost report w made_it gone was_killed) are = absurd (none-some p (sym gone ∙ live))

      gone-look : live_process now.system pid ≡ None → {lacking : List Report} → Stands k o s pid f lacking
          → Are lacking → Listed k o s pid next
      gone-look gone (idle ready) are = quiet-told (gone-told gone) are read-idle
      gone-look gone (trapped place step w new p live a since) are = absurd (none-some p (sym gone ∙ live))
      gone-look gone (lost report w made_it over was_killed) are =
          quiet-told (gone-told gone) are
          (lost-next k o s pid n h run.of f e later is lawful legal report w made_it over was_killed)

      look-next : {lacking : List Report} → Stands k o s pid f lacking → Are lacking → Listed k o s pid next
      look-next stands are = by (live_process now.system pid) refl
        where
          by : (y : Option TracedProcess) → live_process now.system pid ≡ y → Listed k o s pid next
          by None gone = gone-look gone stands are
          by (Some p) live = live-look p live stands are

    pub exchange-listed : Listed k o s pid f → Listed k o s pid next
    exchange-listed it_was = by g.at
      where
        other-stage : (stage : Stage) → t.stage ≡ stage → stage ≢ ReadingLwps → Listed k o s pid next
        other-stage stage at other =
            other-next (λ looks_so. other (sym at ∙ (looks_so.0).0)) it_was.stands it_was.are

        other-aside : (aside : Aside) → t.aside ≡ aside → aside ≢ Nothing → Listed k o s pid next
        other-aside aside at other =
            other-next (λ looks_so. other (sym at ∙ (looks_so.0).1)) it_was.stands it_was.are

        by : IsLeft t → Listed k o s pid next
        by (halts at idle_aside within) =
            other-stage Unfollowing at (λ (same : Unfollowing ≡ ReadingLwps). cc)
        by (awaits until at at_aside within) =
            other-aside (AwaitingStop until) at_aside (λ (same : AwaitingStop until ≡ Nothing). cc)
        by (asks at at_aside within) = other-aside Asking at_aside (λ (same : Asking ≡ Nothing). cc)
        by (waits_again until at at_aside within) =
            other-aside (AwaitingAgain until) at_aside (λ (same : AwaitingAgain until ≡ Nothing). cc)
        by (looks at idle_aside within) = elim (cases_eq (traced_at t 0).pid pid) [
          | inl its ↦ look-next (at, idle_aside) its it_was.stands it_was.are
          | inr differs ↦ other-next (λ looks_so. differs looks_so.1) it_was.stands it_was.are
        ]
        by (reads_text l from len at idle_aside within) =
            other-stage (ReadingText 0 l from len) at (λ (same : ReadingText 0 l from len ≡ ReadingLwps). cc)
        by (lifts_all clears at at_aside within) =
            other-stage (Closing 0 GoOn) at (λ (same : Closing 0 GoOn ≡ ReadingLwps). cc)
        by (closes_files at idle_aside within) =
            other-stage (Closing 0 GoOn) at (λ (same : Closing 0 GoOn ≡ ReadingLwps). cc)
        by (has_ended at idle_aside) = other-stage Finished at (λ (same : Finished ≡ ReadingLwps). cc)
