use Rattle.std.proofs.Common.{◌≡◌, ◌≢◌, ◌<◌, ◌++◌, ◌⊎◌, ℕ, Bool, true, Option, Some, None, List, [], ◌∷◌, length, append-nil, append_assoc, refl, sym, subst, ap, ◌∙◌, inl, inr}
use Rattle.std.proofs.lemmas.Bool.{cases_eq, eq-eqb, eqb-true}
use Rattle.std.proofs.lemmas.List.Elements.{All-nil}
use Rattle.std.proofs.lemmas.Option.{none-some, same_Some}
use Rattle.std.specs.List.{All}
use Rattle.pr_line.specs.declared.options.Options.{Options}
use Rattle.pr_model.specs.Legal.{state_after}
use Rattle.pr_model.specs.State.{TracedState}
use Rattle.pr_model.specs.declared.calls.Reply.TheVariants as reply
use Rattle.pr_model.specs.declared.events.Entry.{Entry}
use Rattle.pr_num.specs.declared.errnos.Errno.TheVariants.{Intr}
use Rattle.pr_report_laws.proofs.Files.FileLaws.{HasFiles, only-position}
use Rattle.pr_report_laws.proofs.Files.WatchHistories.{no-exchanges}
use Rattle.pr_report_laws.proofs.Invariant.StandLemmas.{Each, each-remove}
use Rattle.pr_report_laws.specs.Watching.{is_of}
use Rattle.pr_truss.specs.FunctionFeeding.{fed_functions}
use Rattle.pr_truss.specs.Processes.{without_last}
use Rattle.pr_truss.specs.Trusses.{TrussState, nobody, traced_at}
use Rattle.pr_truss.specs.declared.asides.Aside.{Aside}
use Rattle.pr_truss.specs.declared.asides.Aside.TheVariants.{Nothing}
use Rattle.pr_truss.specs.declared.marks.Marks.{Marks}
use Rattle.pr_truss.specs.declared.marks.Stepped.{Stepped}
use Rattle.pr_truss.specs.declared.processes.Traced.{Traced}
use Rattle.pr_truss.specs.declared.reports.Report.{Report}
use Rattle.pr_truss.specs.declared.stages.OpeningStep.TheVariants as opening
use Rattle.pr_truss.specs.declared.stages.Stage.TheVariants.{Opening, Polling, Running}
use Rattle.pr_truss_laws.proofs.Soon.LookLemmas.{SameFiles}
use Rattle.pr_truss_laws.specs.Exchanges.{Exchange, exchange_of, exchanges}
use Rattle.pr_function_laws.proofs.LeavingProcesses.LeavingCourse.{begins-next, calm-next, entry-bytes, entry-legal, files-at, follow-there}
use Rattle.pr_function_laws.proofs.LeavingProcesses.LeavingCourse.{has-there, is-broken, leaving-next, makes-there, truss-next}
use Rattle.pr_function_laws.proofs.Listing.LeavingEvents as begins
use Rattle.pr_function_laws.proofs.Listing.LeavingEvents.{awaits-watched}
use Rattle.pr_function_laws.proofs.LeavingProcesses.LeftProcesses.{IsLeaving, its-apart, next-left-unlooked}
use Rattle.pr_function_laws.proofs.LeavingProcesses.LeavingKept.{behind-it}
use Rattle.pr_function_laws.proofs.LeavingProcesses.LeavingStages.{IsLeft}
use Rattle.pr_function_laws.proofs.LeavingProcesses.LeavingSteps.{BeginsToLeave, LeavesOn, Shares, WaitsAt, Went, awaits_opening, ended as closed_all}
use Rattle.pr_function_laws.proofs.LeavingProcesses.LeavingSteps.{halted, has_read, looked, loses, patched, polls}
use Rattle.pr_function_laws.proofs.Stepping.BreakpointLemmas.{own-entry}
use Rattle.pr_function_laws.proofs.Listing.ListedSteps as steps
use Rattle.pr_function_laws.proofs.OpenedProcesses.OpenedCalls.{IsSo}
use Rattle.pr_function_laws.proofs.OrdinaryTruss.OrdinaryReplies.{at-ordinary}
use Rattle.pr_function_laws.proofs.CallTurns.TurnWalks.{own-in}
use Rattle.pr_function_laws.specs.Calls.{call_beside, call_read, call_told}
use Rattle.pr_function_laws.specs.FunctionTurns.{calls_of}
use Rattle.pr_function_laws.specs.ReachedRuns.{IsReachedFunctionRun}
use Rattle.pr_function_laws.specs.Opened.{WasNotInterrupted, functions_at, is_opened}
use Rattle.pr_function_laws.specs.Ordinary.{ordinary}
use Rattle.pr_function_laws.specs.Runs.{functions_on}
use Rattle.pr_function_laws.specs.ToldTurns.{AreSteppable, HasStep}
use Rattle.pr_function_hides.proofs.StepsUnderWay.BegunCalls.{ready-there}
use Rattle.pr_function_hides.proofs.StepsUnderWay.CallLists.{shown-fed}
use Rattle.pr_function_hides.proofs.Listed.CallStates as calls
use Rattle.pr_function_hides.proofs.Listed.CallStates.{IsUnder, call_of_step, elsewhere-call, idle, lacking-at-last, lost, same-listed, trapped, turn-unread}
use Rattle.pr_function_hides.proofs.Listed.CallsLeaving.{exchange-listed}
use Rattle.pr_function_hides.proofs.Listed.LeavingTurns.{Bare, foreign-listed}
use Rattle.pr_function_hides.proofs.Replies.LeavingWalk.{after-all, fed-left}
use Rattle.pr_function_hides.proofs.Listed.ListedWalk as calm_calls
use Rattle.pr_function_hides.proofs.StepsUnderWay.OpeningMarks.{opening-unstepped}
use Rattle.pr_function_hides.proofs.StepsUnderWay.TrapTurns.{BreakpointsHold, step-call, turn_entry}
use Rattle.pr_function_hides.proofs.StepsUnderWay.UnreadTurns.{Unread, parted, still-under, trap-still}
use Rattle.pr_function_hides.specs.ListedCalls.{ListsItsTurns, MayLack, ended, none, unread}

-- The calls of functions in a process that truss has shown are the turns that are such calls, in each history, also
-- where it is interrupted and leaves its processes.

-- ---- the marks of a process that is closed

-- one file less of a process leaves its marks
less-marks : (t u : Traced) → without_last t ≡ Some u → (u.pid ≡ t.pid) × (u.marks ≡ t.marks)
unfolding without_last
less-marks t u is = by t.pid t.control t.status t.lstatus t.memory t.attached t.old t.seen t.marks is
  where
    by : (pid control : ℕ) (status lstatus memory : Option ℕ) (attached : Bool) (old : ℕ) (seen : Bool) (marks : Marks)
        → without_last (record {
          pid = pid;
          control = control;
          status = status;
          lstatus = lstatus;
          memory = memory;
          attached = attached;
          old = old;
          seen = seen;
          marks = marks;
        }) ≡ Some u → (u.pid ≡ pid) × (u.marks ≡ marks)
    by pid control status lstatus (Some m) attached old seen marks same =
        (ap (λ (x : Traced). x.pid) (sym (same_Some _ u same)), ap (λ (x : Traced). x.marks) (sym (same_Some _ u same)))
    by pid control status (Some m) None attached old seen marks same =
        (ap (λ (x : Traced). x.pid) (sym (same_Some _ u same)), ap (λ (x : Traced). x.marks) (sym (same_Some _ u same)))
    by pid control (Some m) None None attached old seen marks same =
        (ap (λ (x : Traced). x.pid) (sym (same_Some _ u same)), ap (λ (x : Traced). x.marks) (sym (same_Some _ u same)))
    by pid control None None None attached old seen marks same = absurd (none-some u same)

-- of a process no step is under way
abbrev NoStep : ℕ → Traced → Type 0
NoStep pid u = u.pid ≡ pid → u.marks.stepped ≡ None

module _ (n k : ℕ) (o : Options) (s : TracedState) (h : List Entry) (run : IsReachedFunctionRun n k o s h)
    (able : AreSteppable o) (facts : BreakpointsHold k o s h) (pid : ℕ) where
  abbrev T : List Entry → TrussState
  T front = functions_at k o front

  abbrev S : List Entry → TracedState
  S front = state_after s front

  abbrev Listed : List Entry → Type 0
  Listed = calls.Listed k o s pid

  -- ---- an entry while it leaves

  module _ (f : List Entry) (e : Entry) (later : List Entry) (is : h ≡ f ++ e ∷ later)
      (g : IsLeaving (Unit {0}) k o (functions_at k o f) (state_after s f)) where
    truss-is : T (f ++ e ∷ []) ≡ functions_on (T f) (exchange_of k e)
    truss-is = truss-next (Unit {0}) n k o s h run.of (λ r. run.reached) (λ r. run.bytes) f e later is

    files : HasFiles k (ordinary (T f)) (S f)
    files = files-at (Unit {0}) n k o s h run.of (λ r. run.reached) (λ r. run.bytes) f (e ∷ later) is

    step-alike : (u v : Traced) → SameFiles u v → v.attached ≡ u.attached → v.marks ≡ u.marks → NoStep pid u
        → NoStep pid v
    step-alike u v same on marks bare own = ap (λ (m : Marks). m.stepped) marks ∙ bare (sym same.pid ∙ own)

    step-lost : (v u : Traced) → without_last v ≡ Some u → NoStep pid v → NoStep pid u
    step-lost v u left bare own =
        let w = less-marks v u left in
        ap (λ (m : Marks). m.stepped) w.1 ∙ bare (sym w.0 ∙ own)

    bare-next : Bare pid (T f) → Bare pid (T (f ++ e ∷ []))
    bare-next bare = subst (Bare pid) (sym truss-is) (by (exchange_of k e) refl)
      where
        by-own : (x : Exchange) → exchange_of k e ≡ Some x → Bare pid (T f) → Bare pid (fed_functions (T f) x.reply)
        by-own x own (inl all) =
            let follow = follow-there (Unit {0}) n k o s h run.of (λ r. run.reached) (λ r. run.bytes) f e later is in
            let has = has-there (Unit {0}) n k o s h run.of (λ r. run.reached) (λ r. run.bytes) f e later is in
            let l =
            fed-left (NoStep pid) step-alike (λ u. Unit {0}) (λ u v same on old seen r. tt) (T f) x.reply g.on follow
            has (λ i j one two other. its-apart k (T f) (S f) files i j one two other) (λ q within still. tt) g.at
            (after-all (NoStep pid) step-alike (λ u. Unit {0}) (λ u v same on old seen r. tt) (T f) x.reply
            (λ v bare. bare) (λ v bare own. refl) step-lost all g.at) in
            inl l.each
        by-own x own (inr all) = inr (went (let l = leaves in l.went))
          where
            leaves : LeavesOn (T f) x.reply g.at (fed_functions (T f) x.reply)
            leaves =
                behind-it (Unit {0}) n k o (T f) (S f) g files e
                (entry-legal (Unit {0}) n k o s h run.of (λ r. run.reached) (λ r. run.bytes) f e later is)
                (entry-bytes (Unit {0}) n k o s h run.of (λ r. run.reached) (λ r. run.bytes) f e later is) x
                (own-entry n k (S f) e x
                (entry-legal (Unit {0}) n k o s h run.of (λ r. run.reached) (λ r. run.bytes) f e later is) own)
                (makes-there (Unit {0}) n k o s h run.of (λ r. run.reached) (λ r. run.bytes) f e later is x own)
                (has-there (Unit {0}) n k o s h run.of (λ r. run.reached) (λ r. run.bytes) f e later is)
                (follow-there (Unit {0}) n k o s h run.of (λ r. run.reached) (λ r. run.bytes) f e later is)

            shared : Shares (T f) (fed_functions (T f) x.reply)
                → Each (λ (u : Traced). u.pid ≡ pid → u.attached ≡ true) (fed_functions (T f) x.reply).traced
            shared shares i within own_i =
                shares.attached i ∙ all i (subst (λ m. i < m) shares.many within) (sym (shares.pids i) ∙ own_i)

            went : {w : IsLeft (T f)} → Went (T f) x.reply (fed_functions (T f) x.reply) w
                → Each (λ (u : Traced). u.pid ≡ pid → u.attached ≡ true) (fed_functions (T f) x.reply).traced
            went (halted step at some same to) =
                subst (Each (λ (u : Traced). u.pid ≡ pid → u.attached ≡ true)) (sym same) all
            went (looked at some look r _) = shared r.shares
            went (has_read l from len at some r _) = shared r.shares
            went (patched clears at some r _) = shared r.shares
            went (loses u at some is_lost r _) = shared r.shares
            went (closed_all at some last same to) =
                subst (Each (λ (u : Traced). u.pid ≡ pid → u.attached ≡ true)) (sym same)
                (each-remove (λ (u : Traced). u.pid ≡ pid → u.attached ≡ true) (T f).traced 0 some
                (λ q inside other. all q inside))

        by : (x : Option Exchange) → exchange_of k e ≡ x → Bare pid (functions_on (T f) x)
        by None foreign = bare
        by (Some x) own = by-own x own bare

    listed-next : Bare pid (T f) → Listed f → Listed (f ++ e ∷ [])
    listed-next bare so = by (exchange_of k e) refl
      where
        by : (x : Option Exchange) → exchange_of k e ≡ x → Listed (f ++ e ∷ [])
        by None foreign = foreign-listed n k o s h run facts pid f e later is g bare foreign so
        by (Some x) own = exchange-listed n k o s h run pid f e later is g x own so

  -- ---- the first interrupt

  facts-front : (f rest : List Entry) → h ≡ f ++ rest → BreakpointsHold k o s f
  facts-front f rest is = record {
    none_runs = λ front later i place id t p l function fn parts.
        facts.none_runs front (later ++ rest) i place id t p l function fn
        (is ∙ ap (λ es. es ++ rest) parts ∙ append_assoc front (turn_entry i id t ∷ later) rest);
  }

  module _ (f : List Entry) (e : Entry) (later : List Entry) (is : h ≡ f ++ e ∷ later)
      (calm : All WasNotInterrupted (exchanges k f)) (x : Exchange) (own : exchange_of k e ≡ Some x)
      (broken : x.reply ≡ reply.Fail Intr) where
    abbrev next : List Entry
    next = f ++ e ∷ []

    abbrev t : TrussState
    t = T f

    abbrev v : TrussState
    v = fed_functions t x.reply

    run-front : IsReachedFunctionRun n k o s f
    run-front = begins.run-front n k o s h run pid f e later is calm x own broken

    front-facts : BreakpointsHold k o s f
    front-facts = facts-front f (e ∷ later) is

    b : BeginsToLeave t v
    b = begins.b n k o s h run pid f e later is calm x own broken

    v-is : T next ≡ v
    v-is = begins.v-is n k o s h run pid f e later is calm x own broken

    -- it polls, or opens a process
    stands-still : (q : ℕ) → (functions_at k o f).stage ≢ Running q
    stands-still q at = by (let w = b in w.waits)
      where
        by : WaitsAt t → ⊥
        by (polls here) = let both : Polling ≡ Running q = sym here ∙ at in cc
        by (awaits_opening i until here) =
            let both : Opening i (opening.AwaitStop until) ≡ Running q = sym here ∙ at in cc

    -- where a step is under way
    was-step : (i : ℕ) (step : Stepped) → IsUnder (T next) pid i step
        → HasStep k o f i step × ((traced_at t i).pid ≡ pid)
    was-step i step u_next =
        let u : IsUnder v pid i step = subst (λ (y : TrussState). IsUnder y pid i step) v-is u_next in
        let begun = b in
        let shares = begun.shares in
        let there =
        begins.open-there n k o s h run pid f e later is calm x own broken begun.waits i
        (sym (shares.attached i) ∙ u.attached) in (
          record {
            calm = calm;
            within = subst (λ m. i < m) shares.many u.within;
            opened = there.0;
            under_way = ap (λ (m : Marks). m.stepped)
                (sym (begins.marks-same n k o s h run pid f e later is calm x own broken i))
                ∙ u.under_way;
          },
          sym (shares.pids i) ∙ u.its,
        )

    opened-attached : (i : ℕ) → i < length t.traced → is_opened t.stage i ≡ true → (traced_at t i).attached ≡ true
    opened-attached i within opened =
        let g = begins.goes n k o s h run pid f e later is calm x own broken in
        let a =
        steps.opened-attached n k o s f (e ∷ later) pid
        (begins.run-here n k o s h run pid f e later is calm x own broken)
        (IsSo (Unit {0}) k t.options (S f)) g.kept i within opened in
        ap (λ (y : Traced). y.attached) (sym (at-ordinary t i)) ∙ a.attached

    now-step : (i : ℕ) (step : Stepped) → HasStep k o f i step → (traced_at t i).pid ≡ pid
        → IsUnder (T next) pid i step
    now-step i step under its =
        let begun = b in
        let shares = begun.shares in
        let inside : i < length v.traced = subst (λ m. i < m) (sym shares.many) under.within in
        let on_v : (traced_at v i).attached ≡ true =
        shares.attached i ∙ opened-attached i under.within under.opened in
        subst (λ (y : TrussState). IsUnder y pid i step) (sym v-is)
        (record {
          within = inside;
          its = shares.pids i ∙ its;
          attached = on_v;
          unlooked = next-left-unlooked v begun.next i inside on_v;
          under_way = ap (λ (m : Marks). m.stepped)
              (begins.marks-same n k o s h run pid f e later is calm x own broken i)
              ∙ under.under_way;
        })

    old-next : (i : ℕ) → (traced_at t i).old ≡ 0 → (traced_at (T next) i).old ≡ 0
    old-next i new =
        ap (λ (y : TrussState). (traced_at y i).old) v-is
        ∙ begins.old-same n k o s h run pid f e later is calm x own broken i ∙ new

    abbrev WasUnread : Type 0
    WasUnread = Unread n k o s f run-front able front-facts calm pid f

    was-listed : calm_calls.Listed n k o s f run-front able front-facts calm pid f
    was-listed = calm_calls.listed n k o s f run-front able front-facts calm pid

    whole-front : f ≡ f ++ []
    whole-front = sym (append-nil f)

    since-turn : (a : WasUnread)
        → calm_calls.Unanswered n k o s f run-front able front-facts calm pid a.front
        (turn_entry pid a.id a.turned) a.mid → calls.Since k o s pid f (call_of_step pid a.step)
    since-turn a unanswered =
        let under = a.under in
        record {
          front = a.front;
          turn = turn_entry pid a.id a.turned;
          mid = a.mid;
          is = a.is;
          call =
              step-call n k o s f run-front able front-facts a.front (a.mid ++ []) pid a.id a.turned
              (parted n k o s f run-front able front-facts calm pid f [] whole-front a) under.calm a.place a.step
              a.under a.own a.trapped;
          unanswered = record { each = λ between rest d parts reads. unanswered.each between rest d parts reads };
        }

    begun-stands : {lacking : List Report}
        → calm_calls.Stands n k o s f run-front able front-facts calm pid f lacking
        → calls.Stands k o s pid next lacking
    unfolding calls.since-on
    begun-stands (calm_calls.clear never) =
        idle (λ i step u q live.
        let w = was-step i step u in
        let r =
        ready-there n k o s f run-front able front-facts calm pid i step w.0 w.1 q
        (begins.was-live n k o s h run pid f e later is calm x own broken q live) stands-still
        never in
        (old-next i r.0, r.1))
    begun-stands (calm_calls.pending a made p live unanswered) =
        let u =
        still-under n k o s f run-front able front-facts calm pid f [] whole-front a p live in
        trapped u.place a.step (now-step u.place a.step u.under u.own) (old-next u.place u.new) p
        (begins.lives-next n k o s h run pid f e later is calm x own broken p live)
        (trap-still n k o s f run-front able front-facts calm pid f [] whole-front a p live)
        (calls.since-on k o s pid f e (call_of_step pid a.step) (since-turn a unanswered)
        (begins.quiet n k o s h run pid f e later is calm x own broken))
    begun-stands (calm_calls.lost report w) =
        let g = begins.goes n k o s h run pid f e later is calm x own broken in
        calls.lost-next k o s pid n h run.of f e later is g.lawful
        (begins.legal n k o s h run pid f e later is calm x own broken) report
        (record {
          front = w.front;
          turn = w.turn;
          mid = w.mid;
          is = w.is;
          call = w.call;
          unanswered = record {
            each = λ between rest d parts reads. let y = w.unanswered in y.each between rest d parts reads;
          };
        })
        w.made w.over w.killed

    -- the answer tells no call
    untold : call_told t x.reply ≡ []
    unfolding call_told
    untold = by (let w = b in w.waits)
      where
        beside-none : (r : List Report) → r ≡ [] → call_read t x.reply t.stage ≡ r → (aside : Aside)
            → call_beside t x.reply aside ≡ []
        beside-none r empty at Nothing = at ∙ empty
        beside-none r empty at _ = refl

        by : WaitsAt t → call_beside t x.reply t.aside ≡ []
        by (polls here) = beside-none [] refl (ap (call_read t x.reply) here) t.aside
        by (awaits_opening i until here) = beside-none [] refl (ap (call_read t x.reply) here) t.aside

    shown-same : calls_of pid (T next).reports ≡ calls_of pid t.reports
    unfolding calls_of
    shown-same =
        ap (λ (y : TrussState). calls_of pid y.reports) v-is
        ∙ shown-fed pid t x.reply (begins.has n k o s h run pid f e later is calm x own broken)
        ∙ ap (λ cs. calls_of pid t.reports ++ calls_of pid cs) untold ∙ append-nil (calls_of pid t.reports)

    begun-listed : Listed next
    begun-listed =
        let w = was-listed in
        same-listed k o s pid f e w.lacking w.are
        (elsewhere-call t (S f) pid e.actor e.act (λ i. own-in k pid i e.actor e.act x own)) shown-same
        (begun-stands w.stands)

    begun-bare : Bare pid (T next)
    begun-bare = subst (Bare pid) (sym v-is) (by (let w = b in w.waits))
      where
        by : WaitsAt t → Bare pid v
        by (polls here) =
            let begun = b in
            let shares = begun.shares in
            inr (λ i within own_i.
            shares.attached i
            ∙ opened-attached i (subst (λ m. i < m) shares.many within) (ap (λ stage. is_opened stage i) here))
        by (awaits_opening q until here) =
            let begun = b in
            let shares = begun.shares in
            inl (λ i within own_i.
            ap (λ (m : Marks). m.stepped)
            (begins.marks-same n k o s h run pid f e later is calm x own broken i)
            ∙ opening-unstepped n k o s f (let w = run-front in w.of) calm f [] whole-front q (opening.AwaitStop until)
            here i (subst (λ m. i < m) shares.many within))

  -- ---- all entries

  abbrev Left : List Entry → Type 0
  Left f =
      IsLeaving (Unit {0}) k o (functions_at k o f) (state_after s f)
      × (calls.Listed k o s pid f × Bare pid (functions_at k o f))

  data Along (f : List Entry) : Type 0 where
    calm_yet : All WasNotInterrupted (exchanges k f) → Along f
    left_now : Left f → Along f

  entry-along : (f : List Entry) (e : Entry) (later : List Entry) → h ≡ f ++ e ∷ later → Along f
      → Along (f ++ e ∷ [])
  entry-along f e later is (calm_yet calm) = by (exchange_of k e) refl
    where
      by-broken : (x : Exchange) → exchange_of k e ≡ Some x → (x.reply ≡ reply.Fail Intr) ⊎ WasNotInterrupted x
          → Along (f ++ e ∷ [])
      by-broken x own (inr quiet_x) =
          calm_yet (calm-next (Unit {0}) n k o s h run.of (λ r. run.reached) (λ r. run.bytes) f e later is calm
          (λ y same. subst WasNotInterrupted (same_Some x y (sym own ∙ same)) quiet_x))
      by-broken x own (inl broken) =
          left_now (
            begins-next (Unit {0}) n k o s h run.of (λ r. run.reached) (λ r. run.bytes) f e later is calm x own broken,
            (begun-listed f e later is calm x own broken, begun-bare f e later is calm x own broken),
          )

      by : (x : Option Exchange) → exchange_of k e ≡ x → Along (f ++ e ∷ [])
      by None none_own =
          calm_yet (calm-next (Unit {0}) n k o s h run.of (λ r. run.reached) (λ r. run.bytes) f e later is calm
          (λ y same. absurd (none-some y (sym none_own ∙ same))))
      by (Some x) own = by-broken x own (is-broken x)
  entry-along f e later is (left_now w) =
      left_now (
        leaving-next (Unit {0}) n k o s h run.of (λ r. run.reached) (λ r. run.bytes) f e later is w.0,
        (listed-next f e later is w.0 w.1.1 w.1.0, bare-next f e later is w.0 w.1.1),
      )

  walk : (mid f later : List Entry) → h ≡ f ++ (mid ++ later) → Along f → Along (f ++ mid)
  walk [] f later is a = subst Along (sym (append-nil f)) a
  walk (e ∷ mid) f later is a =
      subst Along (append_assoc f (e ∷ []) mid)
      (walk mid (f ++ e ∷ []) later (is ∙ sym (append_assoc f (e ∷ []) (mid ++ later)))
      (entry-along f e (mid ++ later) is a))

  whole : h ≡ h ++ []
  whole = sym (append-nil h)

  pub lists-its-turns : ListsItsTurns k o s h pid
  unfolding turn-unread
  lists-its-turns =
      by (walk h [] [] whole
      (calm_yet (subst (All WasNotInterrupted) (sym (no-exchanges k)) (All-nil WasNotInterrupted))))
    where
      files-end : HasFiles k (ordinary (T h)) (S h)
      files-end = files-at (Unit {0}) n k o s h run.of (λ r. run.reached) (λ r. run.bytes) h [] whole

      by-stands : IsLeaving (Unit {0}) k o (T h) (S h) → {lacking : List Report} → calls.Stands k o s pid h lacking
          → MayLack k o s h pid lacking
      by-stands g (idle ready) = none
      by-stands g (trapped place step w new p live a since) =
          unread (call_of_step pid step) (turn-unread k o s pid h (call_of_step pid step) since)
          (record {
            place = place;
            traced =
                only-position (is_of pid) (T h).traced nobody place w.within
                (eq-eqb (traced_at (T h) place).pid pid w.its)
                (λ q inside passes. elim (cases_eq q place) [
                  | inl one_place ↦ one_place
                  | inr differs ↦ absurd
                      (its-apart k (T h) (S h) files-end q place inside w.within differs
                      (eqb-true (traced_at (T h) q).pid pid passes ∙ sym w.its))
                ]);
            step = step;
            under_way = w.under_way;
            is = refl;
          })
          (awaits-watched k (T h) (S h) files-end g.at g.on pid place
          (record { within = w.within; its = w.its; attached = w.attached; unlooked = w.unlooked; new = new })) p live
      by-stands g (lost report w made over killed) =
          ended report (turn-unread k o s pid h report w) over killed

      by : Along h → ListsItsTurns k o s h pid
      by (calm_yet calm) = calm_calls.lists-turns n k o s h run able facts calm pid
      by (left_now w) =
          let so = w.1.0 in
          let few : MayLack k o s h pid so.lacking = by-stands w.0 so.stands in
          record {
            lacking = so.lacking;
            are = so.are;
            few = few;
            at_last = λ finished some. lacking-at-last k o s pid n h run.of finished few some;
          }
