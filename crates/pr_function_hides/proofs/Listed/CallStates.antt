use Rattle.std.proofs.Common.{◌≡◌, ◌≢◌, ◌<◌, ◌&&◌, ◌++◌, ℕ, true, cond, None, List, [], ◌∷◌, length, position, append-nil, append_assoc, refl, sym, ap, ◌∙◌, inl, inr, Some}
use Rattle.std.proofs.lemmas.Bool.{cases_eq, false≢true, ne_eqb}
use Rattle.pr_line.specs.declared.options.Options.{Options}
use Rattle.pr_model.specs.Lawful.{IsLawful}
use Rattle.pr_model.specs.Legal.{IsLegalEntry, after, state_after}
use Rattle.pr_model.specs.State.{TracedProcess, TracedState, live_process, process_of}
use Rattle.pr_model.specs.declared.events.Act.{Act}
use Rattle.pr_model.specs.declared.events.Act.TheVariants as act
use Rattle.pr_model.specs.declared.events.Actor.{Actor}
use Rattle.pr_model.specs.declared.events.Actor.TheVariants.{Controller, Lwp, Clock}
use Rattle.pr_model.specs.declared.events.Entry.{Entry}
use Rattle.pr_num.specs.Signals.{signal_number}
use Rattle.pr_num.specs.declared.signals.Sig.TheVariants.{Kill}
use Rattle.pr_report_laws.proofs.SeenChildren.Splits.{state_after-both}
use Rattle.pr_report_laws.specs.Memories.{WasKilled}
use Rattle.pr_truss.specs.Asides.{marks_at}
use Rattle.pr_truss.specs.FunctionCalls.{next_function_call_of}
use Rattle.pr_truss.specs.Trusses.{TrussState, first_truss, traced_at}
use Rattle.pr_truss.specs.declared.marks.Stepped.{Stepped}
use Rattle.pr_truss.specs.declared.reports.Report.{Report}
use Rattle.pr_truss.specs.declared.reports.Report.TheVariants.{Called}
use Rattle.pr_truss_laws.proofs.Machine.OverLemmas.{stays-over}
use Rattle.pr_function_laws.proofs.Listing.FinishedLaws.{finished-unwatched}
use Rattle.pr_function_laws.proofs.LeavingProcesses.LeavingStages.{IsUnlooked}
use Rattle.pr_function_laws.proofs.Listing.ListedStates as states
use Rattle.pr_function_laws.specs.FunctionTurns.{call_in, call_of_turn, calls_of, function_turns, is_process, is_trap}
use Rattle.pr_function_laws.specs.Opened.{IsFunctionRun, functions_at}
use Rattle.pr_function_hides.proofs.StepsUnderWay.CallLists.{turns-push}
use Rattle.pr_function_hides.proofs.StepsUnderWay.TrapStops.{AtTrap, Ready}
use Rattle.pr_function_hides.specs.ListedCalls.{MayLack, TurnIsUnread, ended, none, unread}

-- How the calls of functions in a process that truss has shown stand to the turns that are such calls, in a history in
-- which truss leaves its processes.

-- the step over a function is under way in a process that truss has not looked at for the last time
pub record IsUnder (t : TrussState) (pid place : ℕ) (step : Stepped) : Type 0 where
  pub within : place < length t.traced
  pub its : (traced_at t place).pid ≡ pid
  pub attached : (traced_at t place).attached ≡ true
  pub unlooked : IsUnlooked t.stage place
  pub under_way : (marks_at t place).stepped ≡ Some step

-- the call that its turn is
abbrev pub call_of_step : ℕ → Stepped → Report
call_of_step pid step = Called pid step.lwp step.function step.arguments

-- an entry that is no turn of the process is no call in it
pub elsewhere-call : (t : TrussState) (s : TracedState) (pid : ℕ) (actor : Actor) (did : Act)
    → ((own : ℕ) → actor ≢ Lwp pid own) → call_of_turn t s pid actor did ≡ []
elsewhere-call t s pid (Lwp acting id) (act.Turn turned) elsewhere = elim (cases_eq acting pid) [
  | inl same ↦ absurd (elsewhere id (ap (λ i. Lwp i id) same))
  | inr other ↦
      ap (λ b. cond {A = List Report} (b && is_trap turned.did)
      (call_in t s pid id (position (is_process pid) t.traced)) []) (ne_eqb acting pid other)
]
elsewhere-call t s pid (Lwp acting id) (act.Call c r) elsewhere = refl
elsewhere-call t s pid (Lwp acting id) (act.Tick moment) elsewhere = refl
elsewhere-call t s pid (Controller j) did elsewhere = refl
elsewhere-call t s pid Clock did elsewhere = refl

module _ (k : ℕ) (o : Options) (s : TracedState) (pid : ℕ) where
  abbrev T : List Entry → TrussState
  T front = functions_at k o front

  abbrev S : List Entry → TracedState
  S front = state_after s front

  abbrev ReadsIts : List Entry → Entry → Type 0
  ReadsIts f e = states.ReadsIts k o s pid f e

  -- The call came in a turn, and truss has read nothing of the process since.
  pub record Since (f : List Entry) (report : Report) : Type 0 where
    pub front : List Entry
    pub turn : Entry
    pub mid : List Entry
    pub is : f ≡ front ++ turn ∷ mid
    pub call : call_of_turn (functions_at k o front) (state_after s front) pid turn.actor turn.act ≡ report ∷ []
    pub unanswered : states.Unanswered k o s pid front turn mid

  -- as users are told of it
  unfoldable pub turn-unread : (h : List Entry) (report : Report) → Since h report → TurnIsUnread k o s h pid report
  turn-unread h report w = record {
    before = w.front;
    turn = w.turn;
    later = w.mid;
    is = w.is;
    call = w.call;
    status = λ between rest e parts reads. let u = w.unanswered in u.each between rest e parts (inl reads);
    lwps = λ between rest e parts reads. let u = w.unanswered in u.each between rest e parts (inr reads);
  }

  -- once truss has finished none is unread
  pub lacking-at-last : (n : ℕ) (h : List Entry) → IsFunctionRun n k o s h
      → next_function_call_of (functions_at k o h) ≡ None → {lacking : List Report} → MayLack k o s h pid lacking
      → lacking ≢ [] → live_process (state_after s h).system pid ≡ None
  lacking-at-last n h run finished none some = absurd (some refl)
  lacking-at-last n h run finished (unread report w step watched p live) some =
      absurd (false≢true (sym (finished-unwatched n k o s h run finished pid) ∙ watched))
  lacking-at-last n h run finished (ended report w over killed) some = over

  -- Nothing is lacking; or the call of a step, whose lwp stands at the trace trap; or one that was lost.
  pub data Stands (f : List Entry) : List Report → Type 0 where
    idle : ((place : ℕ) (step : Stepped) → IsUnder (functions_at k o f) pid place step → (p : TracedProcess)
        → live_process (state_after s f).system pid ≡ Some p
        → ((traced_at (functions_at k o f) place).old ≡ 0) × Ready o step p) → Stands f []
    trapped : (place : ℕ) (step : Stepped) → IsUnder (functions_at k o f) pid place step
        → (traced_at (functions_at k o f) place).old ≡ 0 → (p : TracedProcess)
        → live_process (state_after s f).system pid ≡ Some p → AtTrap step.lwp p → Since f (call_of_step pid step)
        → Stands f (call_of_step pid step ∷ [])
    lost : (report : Report) (w : Since f report) → pid < (state_after s f).system.made
        → live_process (state_after s f).system pid ≡ None
        → WasKilled pid (state_after s (w.front ++ w.turn ∷ [])) w.mid → Stands f (report ∷ [])

  pub record Listed (f : List Entry) : Type 0 where
    pub lacking : List Report
    pub are : function_turns k pid (first_truss o) s f ≡ calls_of pid (functions_at k o f).reports ++ lacking
    pub stands : Stands f lacking

  -- ---- one entry more

  -- in which nothing is read of the process
  unfoldable pub since-on : (f : List Entry) (e : Entry) (report : Report) → Since f report → (ReadsIts f e → ⊥)
      → Since (f ++ e ∷ []) report
  since-on f e report w quiet = record {
    front = w.front;
    turn = w.turn;
    mid = w.mid ++ e ∷ [];
    is = ap (λ es. es ++ e ∷ []) w.is ∙ append_assoc w.front (w.turn ∷ w.mid) (e ∷ []);
    call = w.call;
    unanswered = record {
      each = λ between rest d parts reads.
          states.still-unread k o s pid f e w.front w.turn w.mid w.is w.unanswered quiet between rest d parts reads;
    };
  }

  pub turns-next : (f : List Entry) (e : Entry) → function_turns k pid (first_truss o) s (f ++ e ∷ [])
      ≡ function_turns k pid (first_truss o) s f
      ++ call_of_turn (functions_at k o f) (state_after s f) pid e.actor e.act
  turns-next f e = turns-push k pid f (first_truss o) s e

  -- it is no call, and none was shown
  pub same-listed : (f : List Entry) (e : Entry) (lacking : List Report)
      → function_turns k pid (first_truss o) s f ≡ calls_of pid (functions_at k o f).reports ++ lacking
      → call_of_turn (functions_at k o f) (state_after s f) pid e.actor e.act ≡ []
      → calls_of pid (functions_at k o (f ++ e ∷ [])).reports ≡ calls_of pid (functions_at k o f).reports
      → Stands (f ++ e ∷ []) lacking → Listed (f ++ e ∷ [])
  same-listed f e lacking are empty same stands = record {
    lacking = lacking;
    are = turns-next f e ∙ ap (λ cs. function_turns k pid (first_truss o) s f ++ cs) empty
        ∙ append-nil (function_turns k pid (first_truss o) s f) ∙ are ∙ ap (λ cs. cs ++ lacking) (sym same);
    stands = stands;
  }

  module _ (n : ℕ) (h : List Entry) (run : IsFunctionRun n k o s h) (f : List Entry) (e : Entry) (later : List Entry)
      (is : h ≡ f ++ e ∷ later) (lawful : IsLawful (state_after s f))
      (legal : IsLegalEntry n (state_after s f) e) where
    state-is : state_after s (f ++ e ∷ []) ≡ after (state_after s f) e
    state-is = state_after-both s f (e ∷ [])

    -- a lost call stays lost
    pub lost-next : (report : Report) (w : Since f report) → pid < (state_after s f).system.made
        → live_process (state_after s f).system pid ≡ None
        → WasKilled pid (state_after s (w.front ++ w.turn ∷ [])) w.mid → Stands (f ++ e ∷ []) (report ∷ [])
    unfolding since-on
    lost-next report w made gone was_killed =
        lost report
        (since-on f e report w (states.over-quiet k o s pid n h run f e later is lawful legal gone))
        (states.made-next k o s pid n h run f e later is lawful legal made)
        (ap (λ (u : TracedState). live_process u.system pid) state-is
        ∙ stays-over n (state_after s f) e pid lawful legal made gone)
        (states.killed-on k o s pid (state_after s (w.front ++ w.turn ∷ [])) w.mid e was_killed)

    -- the process is killed
    pub gone-next : (report : Report) (w : Since f report) → pid < (state_after s f).system.made
        → (ReadsIts f e → ⊥) → (p : TracedProcess) → live_process (state_after s f).system pid ≡ Some p
        → live_process (after (state_after s f) e).system pid ≡ None → (z : TracedProcess)
        → process_of (after (state_after s f) e).system pid ≡ Some z → z.ended ≡ Some (signal_number Kill)
        → Stands (f ++ e ∷ []) (report ∷ [])
    unfolding since-on
    gone-next report w made quiet p live gone z left status =
        lost report (since-on f e report w quiet)
        (states.made-next k o s pid n h run f e later is lawful legal made)
        (ap (λ (u : TracedState). live_process u.system pid) state-is ∙ gone)
        (states.killed-now k o s pid f e w.front w.turn w.mid w.is p live gone z left status)
