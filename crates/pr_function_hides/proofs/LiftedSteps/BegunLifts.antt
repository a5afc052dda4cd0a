use Rattle.std.proofs.Common.{◌≡◌, ◌<◌, ◌++◌, ◌⊎◌, ℕ, true, Option, Some, None, List, [], ◌∷◌, length, map, append_assoc, refl, sym, subst, ap, ◌∙◌, inl, inr}
use Rattle.std.proofs.lemmas.List.Elements.{All-weaker}
use Rattle.std.proofs.lemmas.Option.{none-some, same_Some}
use Rattle.std.specs.List.{All, cons_option}
use Rattle.std.specs.Option.{option_and_then}
use Rattle.pr_lawful.proofs.LawfulStates.HistoryLemmas.{history-state}
use Rattle.pr_line.specs.declared.options.Options.{Options}
use Rattle.pr_line.specs.Functions.{function_limit}
use Rattle.pr_model.specs.Calls.{answer_to}
use Rattle.pr_model.specs.Handles.{handle_of}
use Rattle.pr_model.specs.Lawful.{IsLawful}
use Rattle.pr_model.specs.Legal.{IsLegal, after, state_after}
use Rattle.pr_model.specs.Replies.{bytes_in}
use Rattle.pr_model.specs.State.{TracedProcess, TracedState, live_process}
use Rattle.pr_model.specs.declared.calls.Call.TheVariants as call
use Rattle.pr_model.specs.declared.calls.File.TheVariants.{Ctl}
use Rattle.pr_model.specs.declared.calls.Mode.TheVariants.{WriteExcl}
use Rattle.pr_model.specs.declared.calls.Reply.TheVariants as reply
use Rattle.pr_model.specs.declared.events.Entry.{Entry}
use Rattle.pr_num.specs.declared.errnos.Errno.TheVariants.{Noent}
use Rattle.pr_report_laws.proofs.Files.WatchHistories.{cons-exchanges, exchanges-both}
use Rattle.pr_report_laws.proofs.SeenChildren.Splits.{state_after-both}
use Rattle.pr_report_laws.proofs.Watching.ExchangeEntries.{HasEntryOf, entry-of}
use Rattle.pr_report_laws.proofs.Watching.HistoryParts.{all-front, legal-front, legal-rest}
use Rattle.pr_truss.specs.Asides.{marks_at}
use Rattle.pr_truss.specs.FunctionCalls.{function_call_of, lift_call, plant_call}
use Rattle.pr_truss.specs.FunctionEvents.{function_event}
use Rattle.pr_truss.specs.FunctionFeeding.{fed_functions}
use Rattle.pr_truss.specs.Marks.{has_functions, put_back}
use Rattle.pr_truss.specs.NextCalls.{call_of, read_record}
use Rattle.pr_truss.specs.Records.{status_lwp}
use Rattle.pr_truss.specs.Replies.{answer_of}
use Rattle.pr_truss.specs.Trusses.{TrussState, first_truss, traced_at}
use Rattle.pr_truss.specs.declared.marks.Stepped.{Stepped}
use Rattle.pr_truss.specs.declared.processes.Traced.{Traced}
use Rattle.pr_truss.specs.declared.stages.Stage.TheVariants.{ReadingStatus, Running}
use Rattle.pr_truss_laws.proofs.Machine.OverLemmas.{stays-made, stays-over}
use Rattle.pr_truss_laws.proofs.Replies.FunctionOptionLemmas.{fed_functions-options}
use Rattle.pr_truss_laws.specs.Exchanges.{Exchange, exchanges}
use Rattle.pr_truss_laws.specs.Handles.{handles_of}
use Rattle.pr_function_laws.proofs.CallTurns.BegunSteps.{WasBegun}
use Rattle.pr_function_laws.proofs.CallTurns.CalledLaws.{functions-both}
use Rattle.pr_function_laws.proofs.CallTurns.TurnStarts as starts
use Rattle.pr_function_laws.proofs.CallTurns.TurnWalks as walks
use Rattle.pr_function_laws.proofs.CallTurns.TurnWalks.{AreNoReads, Comes, Files}
use Rattle.pr_function_laws.proofs.Holding.GoneCalls.{ctl-gone}
use Rattle.pr_function_laws.proofs.LeavingProcesses.LeavingCourse.{makes-at}
use Rattle.pr_function_laws.proofs.LeavingProcesses.LeavingLaws.{calm-exchanges}
use Rattle.pr_function_laws.proofs.Marks.LiftLemmas.{met-looks, met_at}
use Rattle.pr_function_laws.proofs.NextCalls.PatchCalls.{next-staged}
use Rattle.pr_function_laws.proofs.NextCalls.TreatedLaws.{treats-its-events}
use Rattle.pr_function_laws.proofs.OpenedProcesses.OpenedLaws.{calls-front}
use Rattle.pr_function_laws.proofs.OpenedProcesses.OpenedLemmas.{control-made}
use Rattle.pr_function_laws.proofs.Stepping.AwayLemmas.{Own}
use Rattle.pr_function_laws.proofs.Stepping.BreakpointLemmas.{IsOwnEntry, own-entry}
use Rattle.pr_function_laws.specs.Coming.{Anything, Come, ComeWhileItLives, close_calls, functions_in}
use Rattle.pr_function_laws.specs.Lifted.{GoesElsewhere, HasControl, HoldsFiles, IsAtStopAtBreakpoint}
use Rattle.pr_function_laws.specs.ReachedRuns.{IsReachedFunctionRun}
use Rattle.pr_function_laws.specs.Opened.{WasNotInterrupted, functions_at}
use Rattle.pr_function_laws.specs.Runs.{MakesFunctionCalls, functions_after}
use Rattle.pr_function_laws.specs.ToldTurns.{AreSteppable}
use Rattle.pr_function_laws.specs.Treated.{TreatsItsEvents, event_calls, lwp_calls, stop_calls}
use Rattle.pr_function_hides.proofs.LiftedSteps.LiftCalls.{Came, IsOther, LooksAt, OpensNone, RunsNot, StepsOver, WasRun, came, not_yet, one-function, run_step, was_run, was_told}
use Rattle.pr_function_hides.proofs.StepsUnderWay.UnderWay.{its-few, lawful-here, ns, ns-is, options-then, stopped}

-- A step that was begun in a process that lives: truss lifted the breakpoint and ran the process with the next call; or
-- it has not run it yet.

-- ---- a process that has ended

pub over-on : (n pid : ℕ) (h : List Entry) (s : TracedState) → IsLawful s → pid < s.system.made → IsLegal n s h
    → live_process s.system pid ≡ None → live_process (state_after s h).system pid ≡ None
over-on n pid [] s lawful made legal none = none
over-on n pid (e ∷ h) s lawful made legal none =
    over-on n pid h (after s e) (history-state n s (e ∷ []) lawful (legal.0, tt))
    (stays-made n s e pid lawful legal.0 made) legal.1 (stays-over n s e pid lawful legal.0 made none)

pub made-on : (n pid : ℕ) (h : List Entry) (s : TracedState) → IsLawful s → pid < s.system.made → IsLegal n s h
    → pid < (state_after s h).system.made
made-on n pid [] s lawful made legal = made
made-on n pid (e ∷ h) s lawful made legal =
    made-on n pid h (after s e) (history-state n s (e ∷ []) lawful (legal.0, tt))
    (stays-made n s e pid lawful legal.0 made) legal.1

no-reads-front : (number : ℕ) (xs ys : List Exchange) → AreNoReads number (xs ++ ys) → AreNoReads number xs
no-reads-front number [] ys quiet = tt
no-reads-front number (x ∷ xs) ys quiet = (quiet.0, no-reads-front number xs ys quiet.1)

-- ---- the step

module _ (n k : ℕ) (o : Options) (s : TracedState) (h : List Entry) (run : IsReachedFunctionRun n k o s h)
    (able : AreSteppable o) (front later : List Entry)
    (is : h ≡ front ++ later) (calm : All WasNotInterrupted (exchanges k front)) (pid : ℕ) (status : Option ℕ)
    (step : Stepped) (b : WasBegun k o front pid status step) where
  abbrev T : List Entry → TrussState
  T es = functions_at k o es

  abbrev S : List Entry → TracedState
  S es = state_after s es

  -- truss and the state as it read the breakpoint, and the process that it looked at
  abbrev pub t0 : TrussState
  t0 = functions_at k o b.before

  abbrev then : TracedState
  then = state_after s b.before

  abbrev u0 : Traced
  u0 = traced_at t0 b.place

  abbrev pub control : ℕ
  control = (traced_at t0 b.place).control

  abbrev pub function : ℕ
  function = let m = b.meets in m.function

  abbrev pub met : Traced
  met = let m = b.meets in met_at t0 b.place m.l m.function

  pub number : ℕ
  number = ns n k o s h run able front later is calm pid status step b

  pub number-is : (traced_at t0 b.place).status ≡ Some number
  unfolding number
  number-is = ns-is n k o s h run able front later is calm pid status step b

  pub stop : IsAtStopAtBreakpoint n k t0 b.place number (traced_at t0 b.place).pid (let m = b.meets in m.l.id)
      (state_after s b.before) b.e b.between
  unfolding number
  stop = stopped n k o s h run able front later is calm pid status step b

  pub parted : h ≡ b.before ++ b.e ∷ (b.between ++ later)
  parted = is ∙ ap (λ es. es ++ later) b.is ∙ append_assoc b.before (b.e ∷ b.between) later

  pub begun-calm : All WasNotInterrupted (exchanges k b.before)
  begun-calm =
      all-front WasNotInterrupted (exchanges k b.before) (exchanges k (b.e ∷ b.between))
      (subst (All WasNotInterrupted) (ap (exchanges k) b.is ∙ exchanges-both k b.before (b.e ∷ b.between)) calm)

  -- ---- the calls behind the read

  abbrev pub begun : TrussState
  begun = let x = b.x in fed_functions t0 x.reply

  abbrev since : List Exchange
  since = exchanges k b.between

  has-then : has_functions t0.options ≡ true
  has-then = let x = stop in x.has

  looks-begun : LooksAt control number met b.place begun
  looks-begun =
      let w = stop in
      let files : HoldsFiles k (traced_at t0 b.place).pid t0 b.place number then = w.files in
      met-looks (IsOther control number met b.place) control number met b.place t0 b.x b.meets has-then w.follows_none
      (record {
        control = refl;
        status = number-is;
        known = record { pid = refl; old = refl; seen = refl; stepped = refl };
      })
      (λ q within apart.
      All-weaker (GoesElsewhere k (traced_at t0 b.place).pid then) (IsOther control number met b.place)
      (λ m goes same.
      goes (record { controller = k; pid = (traced_at t0 b.place).pid; lwp = 0; file = Ctl; mode = WriteExcl })
      (ap (handle_of then.opens k) same ∙ files.control) refl)
      (handles_of (traced_at t0 q)) (files.others q within apart))

  rest-is : exchanges k (b.e ∷ (b.between ++ later)) ≡ b.x ∷ exchanges k (b.between ++ later)
  rest-is =
      cons-exchanges k b.e (b.between ++ later)
      ∙ ap (λ y. cons_option y (exchanges k (b.between ++ later))) b.own

  makes-then : MakesFunctionCalls t0 (b.x ∷ exchanges k (b.between ++ later))
  makes-then =
      subst (MakesFunctionCalls t0) rest-is
      (makes-at (Unit {0}) n k o s h run.of (λ r. run.reached) (λ r. run.bytes) b.before (b.e ∷ (b.between ++ later))
      parted)

  pub makes-since : MakesFunctionCalls begun since
  makes-since =
      let m = makes-then in
      calls-front begun since (exchanges k later)
      (subst (MakesFunctionCalls begun) (exchanges-both k b.between later) m.1)

  -- it read the status of the process
  pub reads-call : (let x = b.x in x.call) ≡ read_record (traced_at t0 b.place).status
  unfolding function_call_of call_of
  reads-call =
      let m = b.meets in
      let made = makes-then in
      same_Some _ _ (sym made.0 ∙ next-staged t0.options has-then t0 (ReadingStatus b.place) refl m.idle m.reads)

  treats : TreatsItsEvents o (exchanges k h)
  treats =
      treats-its-events o (exchanges k h) run.of.has run.of.follows_none run.of.makes
      (calm-exchanges h n k s run.of.legal)

  few : function < function_limit
  few = its-few n k o s h run able front later is calm pid status step b

  -- the functions that are planted again first
  abbrev again : List ℕ
  again = functions_in (put_back (marks_at t0 b.place))

  calls-are : lwp_calls o u0 (option_and_then status_lwp (bytes_in (let x = b.x in x.reply)))
      ≡ map (plant_call o control) again ++ (lift_call o control function ∷ run_step control number met b.place ∷ [])
  calls-are =
      let m = b.meets in
      ap (lwp_calls o u0) m.told
      ∙ ap (stop_calls o u0 m.l) m.fresh
      ∙ ap (event_calls o u0 m.event)
      (ap (λ (p : Options). function_event p (marks_at t0 b.place) m.l.id m.event)
      (sym (options-then n k o s h run able front later is calm pid status step b))
      ∙ m.at_breakpoint)
      ∙ ap
      (λ fs. map (plant_call o control) again
      ++ (map (lift_call o control) fs ++ (run_step control number met b.place ∷ [])))
      (one-function function few)

  steps-over : StepsOver control number met b.place o function again (Come (close_calls u0) Anything)
      (since ++ exchanges k later)
  steps-over =
      let m = b.meets in
      let all = treats in
      subst
      (λ cs. ComeWhileItLives cs Anything (Come (close_calls u0) Anything) (since ++ exchanges k later)) calls-are
      (subst
      (λ xs. ComeWhileItLives (lwp_calls o u0 (option_and_then status_lwp (bytes_in (let x = b.x in x.reply)))) Anything
      (Come (close_calls u0) Anything) xs) (exchanges-both k b.between later)
      (all.each (exchanges k b.before) (exchanges k (b.between ++ later)) b.x b.place
      (ap (exchanges k) parted ∙ exchanges-both k b.before (b.e ∷ (b.between ++ later))
      ∙ ap (λ xs. exchanges k b.before ++ xs) rest-is)
      (record { reads = m.reads; idle = m.idle; stays = m.stays; within = m.within }) m.accepted))

  has-come : Came control number met b.place o function since begun
  has-come =
      came control number met b.place o function again since (exchanges k later) begun looks-begun
      (ap has_functions (fed_functions-options t0 (let x = b.x in x.reply)) ∙ has-then) makes-since
      (b.quiet number number-is) (Come (close_calls u0) Anything) steps-over

  -- ---- the process has not ended

  abbrev id : ℕ
  id = let m = b.meets in m.l.id

  abbrev pid0 : ℕ
  pid0 = (traced_at t0 b.place).pid

  abbrev ComesSo : List Entry → Type 0
  ComesSo es =
      Comes n k pid0 id control number (let w = stop in let m = w.meets in met_at t0 b.place m.l m.function) b.place
      (starts.stood n k t0 b.place number pid0 id then b.e b.between stop)
      (let w = stop in let x = w.x in fed_functions t0 x.reply) (after then b.e) es

  abbrev OpenOrOver : TracedState → Type 0
  OpenOrOver v = (HasControl k pid0 control v) ⊎ (live_process v.system pid0 ≡ None)

  -- its control file is open wherever truss has come to since, or it has ended
  open-or-over : (es more : List Entry) → b.between ≡ es ++ more → OpenOrOver (S (b.before ++ b.e ∷ es))
  open-or-over es more split =
      subst OpenOrOver (sym (state_after-both s b.before (b.e ∷ es)))
      (by (starts.came-front n k t0 b.place number pid0 id then b.e b.between stop es more split
      (no-reads-front number (exchanges k es) (exchanges k more)
      (subst (AreNoReads number) (ap (exchanges k) split ∙ exchanges-both k es more) (b.quiet number number-is)))))
    where
      by : ComesSo es → OpenOrOver (state_after (after then b.e) es)
      by (walks.no_turn none (walks.looks look files lives)) = inl files.control
      by (walks.no_turn none (walks.aways away files lives)) = inl files.control
      by (walks.one_turn earlier more_entries did point one facts a) = let files = a.files in inl files.control
      by (walks.ends gone) = inr gone

  -- where it was told that it has ended, it has
  module _ (x : Exchange) (xs ys : List Exchange) (sent : List ℕ) (split : since ≡ xs ++ x ∷ ys)
      (call_is : x.call ≡ call.Ctl control sent) (told : x.reply ≡ reply.Fail Noent) where
    place-of-it : HasEntryOf k b.between xs x ys
    place-of-it = entry-of k b.between xs x ys split

    abbrev es : List Entry
    es = let w = place-of-it in w.before

    abbrev e1 : Entry
    e1 = let w = place-of-it in w.entry

    abbrev es2 : List Entry
    es2 = let w = place-of-it in w.later

    abbrev front1 : List Entry
    front1 = b.before ++ b.e ∷ es

    front-is : front ≡ front1 ++ e1 ∷ es2
    front-is =
        let w = place-of-it in
        b.is ∙ ap (λ vs. b.before ++ b.e ∷ vs) w.is ∙ sym (append_assoc b.before (b.e ∷ es) (e1 ∷ es2))

    whole-is : h ≡ front1 ++ e1 ∷ (es2 ++ later)
    whole-is =
        is ∙ ap (λ vs. vs ++ later) front-is ∙ append_assoc front1 (e1 ∷ es2) later

    calm1 : All WasNotInterrupted (exchanges k front1)
    calm1 =
        all-front WasNotInterrupted (exchanges k front1) (exchanges k (e1 ∷ es2))
        (subst (All WasNotInterrupted) (ap (exchanges k) front-is ∙ exchanges-both k front1 (e1 ∷ es2)) calm)

    legal1 : IsLegal n (S front1) (e1 ∷ es2)
    legal1 =
        legal-front n (S front1) (e1 ∷ es2) later
        (legal-rest n s front1 ((e1 ∷ es2) ++ later) (subst (IsLegal n s) whole-is run.of.legal))

    lawful1 : IsLawful (S front1)
    lawful1 = lawful-here n k o s h run.of front1 (e1 ∷ (es2 ++ later)) whole-is calm1

    over-now : live_process (S front1).system pid0 ≡ None
    unfolding answer_of
    over-now =
        let w = place-of-it in
        by (open-or-over es (e1 ∷ es2) w.is)
      where
        by : OpenOrOver (S front1) → live_process (S front1).system pid0 ≡ None
        by (inr gone) = gone
        by (inl its) =
            let w = place-of-it in
            let legal = legal1 in
            let own : IsOwnEntry k (S front1) e1 x = own-entry n k (S front1) e1 x legal.0 w.own in
            ctl-gone (S front1) k control
            (record { controller = k; pid = pid0; lwp = 0; file = Ctl; mode = WriteExcl }) its refl own.answer sent
            (ap (answer_to (S front1) k) (sym call_is) ∙ own.is) (ap answer_of (own.replied ∙ told))

    pub told-over : live_process (S front).system pid0 ≡ None
    told-over =
        ap (λ (v : TracedState). live_process v.system pid0)
        (ap (state_after s) front-is ∙ state_after-both s front1 (e1 ∷ es2))
        ∙ over-on n pid0 (e1 ∷ es2) (S front1) lawful1 made1 legal1 over-now
      where
        made1 : pid0 < (S front1).system.made
        made1 =
            let w = stop in
            let files : HoldsFiles k pid0 t0 b.place number then = w.files in
            subst (λ (v : TracedState). pid0 < v.system.made) (sym (state_after-both s b.before (b.e ∷ es)))
            (made-on n pid0 (b.e ∷ es) then w.lawful (control-made k pid0 control then w.lawful files.control)
            (legal-front n then (b.e ∷ es) ((e1 ∷ es2) ++ later)
            (legal-rest n s b.before ((b.e ∷ es) ++ ((e1 ∷ es2) ++ later))
            (subst (IsLegal n s)
            (whole-is ∙ append_assoc b.before (b.e ∷ es) (e1 ∷ (es2 ++ later))) run.of.legal))))

  -- ---- where it has come to

  -- Truss has lifted the breakpoint, and run the process with the next call; or it looks at the process still.
  pub data HowFar : Type 0 where
    looks_yet : (T front).stage ≡ Running b.place → (traced_at (T front) b.place).pid ≡ pid
        → b.place < length (T front).traced
        → All (RunsNot control number met b.place) since → All OpensNone since → HowFar
    has_run : WasRun control number met b.place o function since begun → HowFar

  truss-is : T front ≡ functions_after begun since
  truss-is =
      ap (functions_at k o) b.is
      ∙ ap (functions_after (first_truss o)) (exchanges-both k b.before (b.e ∷ b.between))
      ∙ functions-both (first_truss o) (exchanges k b.before) (exchanges k (b.e ∷ b.between))
      ∙ ap (functions_after t0)
      (cons-exchanges k b.e b.between ∙ ap (λ x. cons_option x (exchanges k b.between)) b.own)

  pub how-far : (p : TracedProcess) → live_process (state_after s front).system pid ≡ Some p → HowFar
  how-far p live = by has-come
    where
      by : Came control number met b.place o function since begun → HowFar
      by (not_yet runs opens looks) =
          let own : Own (IsOther control number met b.place) control number met
          (traced_at (functions_after begun since) b.place) = looks.own in
          let known = own.known in
          looks_yet (ap (λ (v : TrussState). v.stage) truss-is ∙ looks.stage)
          (ap (λ (v : TrussState). (traced_at v b.place).pid) truss-is ∙ known.pid ∙ b.its_pid)
          (subst (λ (v : TrussState). b.place < length v.traced) (sym truss-is) looks.within) runs opens
      by (was_run w) = has_run w
      by (was_told xs x ys sent split call_is told) =
          absurd (none-some p
          (sym (told-over x xs ys sent split call_is told) ∙ ap (live_process (S front).system) b.its_pid ∙ live))

  -- its exchanges, from the read on
  pub exchanges-are : exchanges k front ≡ exchanges k b.before ++ b.x ∷ since
  exchanges-are =
      ap (exchanges k) b.is ∙ exchanges-both k b.before (b.e ∷ b.between)
      ∙ ap (λ xs. exchanges k b.before ++ xs)
      (cons-exchanges k b.e b.between ∙ ap (λ x. cons_option x (exchanges k b.between)) b.own)
