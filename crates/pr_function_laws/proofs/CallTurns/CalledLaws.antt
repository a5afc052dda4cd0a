use Rattle.std.proofs.Common.{◌≡◌, ◌<◌, ◌==◌, ◌++◌, ℕ, true, false, Option, Some, List, [], ◌∷◌, length, append_assoc, refl, sym, subst, ap, ◌∙◌}
use Rattle.std.proofs.lemmas.Bool.{eq-eqb, eqb-true}
use Rattle.std.proofs.lemmas.List.Elements.{All-append, All-cons, All-nil}
use Rattle.std.specs.List.{All, cons_option}
use Rattle.pr_lawful.proofs.LawfulTurns.EndLemmas.{found-live}
use Rattle.pr_line.specs.declared.options.Options.{Options}
use Rattle.pr_model.specs.Lawful.{IsLawful}
use Rattle.pr_model.specs.Legal.{IsLegal, after, state_after}
use Rattle.pr_model.specs.State.{TracedState, live_process}
use Rattle.pr_model.specs.declared.events.Entry.{Entry}
use Rattle.pr_reached.proofs.RecordsInRange.EntryRanges.{records-range}
use Rattle.pr_reached.proofs.Together.ReachedLemmas.{later-reached}
use Rattle.pr_reached.specs.ByteHistories.{HasBytes}
use Rattle.pr_reached.specs.Reached.{IsReached}
use Rattle.pr_lawful.proofs.LawfulStates.HistoryLemmas.{history-state}
use Rattle.pr_report_laws.proofs.Files.WatchHistories.{cons-exchanges, exchanges-both, exchanges-push}
use Rattle.pr_report_laws.proofs.SeenChildren.Splits.{state_after-both}
use Rattle.pr_report_laws.proofs.Watching.HistoryParts.{legal-front}
use Rattle.pr_rec.specs.declared.lwps.LwpStatus.{LwpStatus}
use Rattle.pr_truss.specs.Asides.{marks_at}
use Rattle.pr_truss.specs.FunctionEvents.{step_of}
use Rattle.pr_truss.specs.FunctionFeeding.{fed_functions}
use Rattle.pr_truss.specs.Marks.{address_of}
use Rattle.pr_truss.specs.NextCalls.{read_record}
use Rattle.pr_truss.specs.Replies.{answer_of}
use Rattle.pr_truss.specs.Trusses.{TrussState, first_truss, traced_at}
use Rattle.pr_truss.specs.declared.asides.Aside.TheVariants.{Nothing}
use Rattle.pr_truss.specs.declared.reports.Report.{Report}
use Rattle.pr_truss.specs.declared.reports.Report.TheVariants.{Called}
use Rattle.pr_truss.specs.declared.stages.Stage.{Stage}
use Rattle.pr_truss.specs.declared.stages.Stage.TheVariants.{ReadingStatus}
use Rattle.pr_truss_laws.specs.Exchanges.{Exchange, exchanges}
use Rattle.pr_function_laws.proofs.OpenedProcesses.OpenedLaws.{bytes-front, few-there, handle-is, holds-opened, reading-running, status-handle, stop-function, still-there, stop-lwp, stop-there}
use Rattle.pr_function_laws.proofs.CallTurns.TurnLemmas.{StandsWhereRead, reads-as-met, reads-none, tells-of-lwp, told-is-turn, turn-is-told, turns-once}
use Rattle.pr_function_laws.proofs.CallTurns.TurnReads.{fresh-new}
use Rattle.pr_function_laws.proofs.CallTurns.TurnWalks.{AreNoReads}
use Rattle.pr_function_laws.specs.Calls.{call_told}
use Rattle.pr_function_laws.specs.CalledTurns.{CallsAreTurns, HasItsTurn, ReadsTwice, call_met, told_at_second}
use Rattle.pr_function_laws.specs.Lifted.{ReadsOnlyLast}
use Rattle.pr_function_laws.specs.Met.{arguments_of}
use Rattle.pr_function_laws.specs.OneEvent.{HasOneEventAtMost, is_looked_at}
use Rattle.pr_function_laws.specs.ReachedRuns.{IsReachedFunctionRun}
use Rattle.pr_function_laws.specs.Opened.{WasNotInterrupted, functions_at, is_opened}
use Rattle.pr_function_laws.specs.Runs.{functions_after}
use Rattle.pr_function_laws.specs.Turns.{CompletesOnce, HasTrap, ReadsAgain, TellsItsTurn, TellsOfLwp, TurnsOnce, call_of_stop, told_again}

-- In each history of truss with functions its calls are turns.

pub functions-both : (t : TrussState) (xs ys : List Exchange)
    → functions_after t (xs ++ ys) ≡ functions_after (functions_after t xs) ys
functions-both t [] ys = refl
functions-both t (x ∷ xs) ys = functions-both (fed_functions t x.reply) xs ys

module _ (n k : ℕ) (o : Options) (s : TracedState) (h : List Entry) (run : IsReachedFunctionRun n k o s h)
    (before between later : List Entry) (e again : Entry) (place id : ℕ)
    (r : ReadsTwice k o s h before e between again later place id) where
  abbrev t : TrussState
  t = functions_at k o before

  abbrev now : TracedState
  now = state_after s before

  -- the history, parted before and behind the second read
  place-is : h ≡ before ++ e ∷ ((between ++ again ∷ []) ++ later)
  place-is =
      r.is ∙ ap (λ (es : List Entry). before ++ e ∷ es) (sym (append_assoc between (again ∷ []) later))

  front-is : h ≡ (before ++ e ∷ between) ++ again ∷ later
  front-is = r.is ∙ sym (append_assoc before (e ∷ between) (again ∷ later))

  reached-again : IsReached (state_after now (e ∷ between))
  reached-again =
      subst IsReached (state_after-both s before (e ∷ between))
      (later-reached n s (before ++ e ∷ between) run.reached
      (bytes-front (before ++ e ∷ between) (again ∷ later) (subst HasBytes front-is run.bytes))
      (legal-front n s (before ++ e ∷ between) (again ∷ later) (subst (IsLegal n s) front-is run.of.legal)))

  abbrev ns : ℕ
  ns = status-handle n k o s h run before (between ++ again ∷ []) later e place id place-is r.calm
      r.breakpoint

  again-is : ReadsAgain n k t place ns (traced_at t place).pid id now e between again
  again-is =
      let at = reached-again in
      let lawful =
      history-state n s (before ++ e ∷ between) run.of.lawful
      (legal-front n s (before ++ e ∷ between) (again ∷ later) (subst (IsLegal n s) front-is run.of.legal)) in
      let lawful_again = subst IsLawful (state_after-both s before (e ∷ between)) lawful in
      let records = records-range (state_after now (e ∷ between)).system lawful_again.system at.in_range in
      record {
        stop = stop-there n k o s h run before (between ++ again ∷ []) later e place id place-is r.calm
            r.breakpoint;
        y = r.y;
        own = r.own;
        reads = r.reads
            ∙ ap read_record
            (handle-is n k o s h run before (between ++ again ∷ []) later e place id place-is r.calm
            r.breakpoint);
        process = r.process;
        live = r.live;
        ranged =
            (records.processes (traced_at t place).pid r.process
            (found-live (state_after now (e ∷ between)).system (traced_at t place).pid r.process r.live).0).status;
      }

  told-same : told_at_second k o s h before e between again later place id r
      ≡ told_again n k t place ns (traced_at t place).pid id now e between again again-is
  unfolding again-is
  told-same =
      ap (λ (u : TrussState). call_told u r.y.reply)
      (ap (functions_after (first_truss o)) (exchanges-both k before (e ∷ between))
      ∙ functions-both (first_truss o) (exchanges k before) (exchanges k (e ∷ between)))

  its-turn : (report : Report) → told_at_second k o s h before e between again later place id r ≡ report ∷ []
      → TellsItsTurn n k t place ns (traced_at t place).pid id now e between again again-is report
  its-turn report is =
      told-is-turn n k t place ns (traced_at t place).pid id now e between again again-is report
      (sym told-same ∙ is)

  abbrev met_lwp : LwpStatus
  met_lwp = let b = r.breakpoint in let m = b.meets in m.l

  abbrev met_function : ℕ
  met_function = let b = r.breakpoint in let m = b.meets in m.function

  -- the stop is the one of which the first read told
  same-function : (let w = again-is in let it = w.stop in let m = it.meets in m.function) ≡ met_function
  unfolding again-is
  same-function =
      stop-function n k o s h run before (between ++ again ∷ []) later e place id place-is r.calm
      r.breakpoint

  same-lwp : (let w = again-is in let it = w.stop in let m = it.meets in m.l) ≡ met_lwp
  unfolding again-is
  same-lwp =
      stop-lwp n k o s h run before (between ++ again ∷ []) later e place id place-is r.calm r.breakpoint

  call-same : call_of_stop n k t place ns (traced_at t place).pid id now e between again again-is
      ≡ call_met k o s h before e between again later place id r
  call-same =
      ap (λ f. Called (traced_at t place).pid id f (arguments_of (let w = again-is in w.stop.meets.l))) same-function
      ∙ ap (λ l. Called (traced_at t place).pid id met_function (arguments_of l)) same-lwp

  pub call-there : (report : Report) → told_at_second k o s h before e between again later place id r ≡ report ∷ []
      → report ≡ call_met k o s h before e between again later place id r
  call-there report is = let it = its-turn report is in it.call ∙ call-same

  pub turn-there : (report : Report) → told_at_second k o s h before e between again later place id r ≡ report ∷ []
      → HasItsTurn k o s h before e between again later place id r
  turn-there report is =
      let it = its-turn report is in
      subst
      (λ (l : LwpStatus). CompletesOnce (traced_at t place).pid id (after now e) between
      (address_of t.options met_function) (arguments_of l)) same-lwp
      (subst
      (λ (f : ℕ). CompletesOnce (traced_at t place).pid id (after now e) between (address_of t.options f)
      (arguments_of (let w = again-is in w.stop.meets.l))) same-function it.turn)

  -- ---- the process at both reads

  -- no call was interrupted so far
  calm-read : WasNotInterrupted r.breakpoint.x
  unfolding answer_of
  calm-read = record {
    unbroken = λ broken.
        let b = r.breakpoint in
        let m = b.meets in
        let clash = sym m.accepted ∙ ap answer_of broken in cc;
  }

  quiet-calm : (xs : List Exchange) → AreNoReads ns xs → All WasNotInterrupted xs
  quiet-calm [] quiet = All-nil WasNotInterrupted
  quiet-calm (x ∷ xs) quiet =
      All-cons WasNotInterrupted x xs (record { unbroken = let own = quiet.0 in own.no_interrupt })
      (quiet-calm xs quiet.1)

  calm-between : All WasNotInterrupted (exchanges k between)
  calm-between =
      quiet-calm (exchanges k between)
      (reads-none ns (exchanges k between) r.y
      (subst (ReadsOnlyLast ns)
      (exchanges-push k between again
      ∙ ap (λ (x : Option Exchange). exchanges k between ++ cons_option x []) r.own)
      (let w = again-is in let it = w.stop in it.reads_last)))

  calm-both : All WasNotInterrupted (exchanges k (before ++ e ∷ between))
  calm-both =
      subst (All WasNotInterrupted) (sym (exchanges-both k before (e ∷ between)))
      (All-append WasNotInterrupted (exchanges k before) (exchanges k (e ∷ between)) r.calm
      (subst (All WasNotInterrupted)
      (ap (λ (x : Option Exchange). cons_option x (exchanges k between)) (sym (let b = r.breakpoint in b.own))
      ∙ sym (cons-exchanges k e between))
      (All-cons WasNotInterrupted r.breakpoint.x (exchanges k between) calm-read calm-between)))

  new-stop : (traced_at t place).old ≡ 0
  new-stop =
      let b = r.breakpoint in
      let m = b.meets in
      let new = fresh-new (traced_at t place) m.l m.event m.fresh in eqb-true (traced_at t place).old 0 new.new

  -- at the first
  first-few : HasOneEventAtMost (let w = again-is in let it = w.stop in it.process)
  first-few =
      let b = r.breakpoint in
      let m = b.meets in
      let w = again-is in
      let it = w.stop in
      few-there n k o s h run before (e ∷ (between ++ again ∷ later)) r.is r.calm place it.process it.live
      m.within (ap (λ (x : Stage). is_opened x place) m.reads)
      (λ runs. reading-running place place (sym m.reads ∙ runs)) new-stop

  -- and at the second
  later-is : functions_at k o (before ++ e ∷ between) ≡ functions_after t (exchanges k (e ∷ between))
  later-is =
      ap (functions_after (first_truss o)) (exchanges-both k before (e ∷ between))
      ∙ functions-both (first_truss o) (exchanges k before) (exchanges k (e ∷ between))

  stands-where : StandsWhereRead n k t place ns (traced_at t place).pid id now e between again again-is
  unfolding again-is
  stands-where at within reads own old =
      let u : TrussState = functions_at k o (before ++ e ∷ between) in
      let stage : u.stage ≡ ReadingStatus at = ap (λ (x : TrussState). x.stage) later-is ∙ reads in
      let inside : at < length u.traced = subst (λ (x : TrussState). at < length x.traced) (sym later-is) within in
      let opened : is_opened u.stage at ≡ true = ap (λ (x : Stage). is_opened x at) stage in
      let live : live_process (state_after s (before ++ e ∷ between)).system (traced_at u at).pid ≡ Some r.process =
      ap (λ (x : TrussState). live_process (state_after s (before ++ e ∷ between)).system (traced_at x at).pid)
      later-is
      ∙ ap (live_process (state_after s (before ++ e ∷ between)).system) own
      ∙ ap (λ (x : TracedState). live_process x.system (traced_at t place).pid)
      (state_after-both s before (e ∷ between))
      ∙ r.live in
      let holds = holds-opened n k o s h run.of in
      let owns =
      holds.each (before ++ e ∷ between) (again ∷ later) at front-is calm-both inside opened in
      record {
        frozen =
            still-there n k o s h run (before ++ e ∷ between) (again ∷ later) front-is calm-both at
            r.process live (ap (λ (x : Stage). is_looked_at x at) stage ∙ eq-eqb at at refl);
        few = few-there n k o s h run (before ++ e ∷ between) (again ∷ later) front-is calm-both at
            r.process live inside opened (λ runs. reading-running at at (sym stage ∙ runs))
            (ap (λ (x : TrussState). (traced_at x at).old) later-is ∙ old ∙ new-stop);
        no_agent = owns.no_agent r.process live;
      }

  pub once-there : TurnsOnce (traced_at t place).pid id between
  once-there =
      turns-once n k t place ns (traced_at t place).pid id now e between again again-is first-few stands-where

  -- ---- truss at the second

  -- It reads the status of the process at that place, where the step over the function is under way.
  pub record ReadsItsStep : Type 0 where
    pub at : ℕ
    pub reads : (functions_at k o (before ++ e ∷ between)).stage ≡ ReadingStatus at
    pub idle : (functions_at k o (before ++ e ∷ between)).aside ≡ Nothing
    pub pid : (traced_at (functions_at k o (before ++ e ∷ between)) at).pid ≡ (traced_at t place).pid
    pub new : ((traced_at (functions_at k o (before ++ e ∷ between)) at).old == 0) ≡ true
    pub unseen : (traced_at (functions_at k o (before ++ e ∷ between)) at).seen ≡ false
    pub under_way : (marks_at (functions_at k o (before ++ e ∷ between)) at).stepped
        ≡ Some (step_of met_lwp met_function)

  pub step-there : ReadsItsStep
  unfolding again-is
  step-there =
      let c =
      reads-as-met n k t place ns (traced_at t place).pid id now e between again again-is first-few stands-where in
      let y = c.known in
      let b = r.breakpoint in
      let m = b.meets in
      let new = fresh-new (traced_at t place) m.l m.event m.fresh in
      record {
        at = c.at;
        reads = ap (λ (x : TrussState). x.stage) later-is ∙ c.reads;
        idle = ap (λ (x : TrussState). x.aside) later-is ∙ c.idle;
        pid = ap (λ (x : TrussState). (traced_at x c.at).pid) later-is ∙ y.pid;
        new = ap (λ (x : TrussState). (traced_at x c.at).old == 0) later-is ∙ ap (λ i. i == 0) y.old ∙ new.new;
        unseen = ap (λ (x : TrussState). (traced_at x c.at).seen) later-is ∙ y.seen ∙ new.unseen;
        under_way = ap (λ (x : TrussState). (marks_at x c.at).stepped) later-is ∙ y.stepped
            ∙ ap (λ l. Some (step_of l (let w = again-is in let it = w.stop in let a = it.meets in a.function)))
            same-lwp
            ∙ ap (λ f. Some (step_of met_lwp f)) same-function;
      }

  pub tells-there : TellsOfLwp r.y.reply id
  unfolding again-is
  tells-there =
      tells-of-lwp n k t place ns (traced_at t place).pid id now e between again again-is first-few stands-where

  pub told-there : HasTrap (traced_at t place).pid id between
      → told_at_second k o s h before e between again later place id r
      ≡ call_met k o s h before e between again later place id r ∷ []
  unfolding again-is
  told-there trap =
      told-same
      ∙ turn-is-told n k t place ns (traced_at t place).pid id now e between again again-is trap tells-there
      ∙ ap (λ c. c ∷ []) call-same

pub calls-are-turns : (n k : ℕ) (o : Options) (s : TracedState) (h : List Entry) → IsReachedFunctionRun n k o s h
    → CallsAreTurns k o s h
calls-are-turns n k o s h run = record {
  once = λ before between later e again place id r.
      once-there n k o s h run before between later e again place id r;
  tells = λ before between later e again place id r.
      tells-there n k o s h run before between later e again place id r;
  call = λ before between later e again place id r report is.
      call-there n k o s h run before between later e again place id r report is;
  turn = λ before between later e again place id r report is.
      turn-there n k o s h run before between later e again place id r report is;
  told = λ before between later e again place id r trap.
      told-there n k o s h run before between later e again place id r trap;
}
