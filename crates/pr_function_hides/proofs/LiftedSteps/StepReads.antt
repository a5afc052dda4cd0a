use Rattle.std.proofs.Common.{◌≡◌, ◌<◌, ◌==◌, ◌++◌, ℕ, true, false, cond, Option, Some, None, List, [], ◌∷◌, append-nil, refl, sym, subst, ap, ◌∙◌}
use Rattle.std.proofs.lemmas.Option.{none-some, same_Some}
use Rattle.std.specs.List.{All, cons_option}
use Rattle.std.specs.Option.{option_and_then}
use Rattle.pr_lawful.proofs.Following.UseLemmas.{live-lawful}
use Rattle.pr_lawful.proofs.LawfulTurns.EndLemmas.{found-live}
use Rattle.pr_line.specs.Events.{event_of}
use Rattle.pr_line.specs.Functions.{function_limit}
use Rattle.pr_line.specs.declared.options.Options.{Options}
use Rattle.pr_model.specs.Calls.{answer_to}
use Rattle.pr_model.specs.Legal.{IsLegal, IsLegalEntry, after, state_after}
use Rattle.pr_model.specs.Points.{stop_at}
use Rattle.pr_model.specs.Replies.{bytes_in}
use Rattle.pr_model.specs.State.{TracedLwp, TracedProcess, TracedState, live_process, lwp_of}
use Rattle.pr_model.specs.Statuses.{lwpstatus_of, status_of, status_of_found}
use Rattle.pr_model.specs.Stops.{representative}
use Rattle.pr_model.specs.declared.calls.File.TheVariants.{Status}
use Rattle.pr_model.specs.declared.calls.Mode.TheVariants.{Read}
use Rattle.pr_model.specs.declared.calls.Reply.{Reply}
use Rattle.pr_model.specs.declared.calls.Reply.TheVariants as reply
use Rattle.pr_model.specs.declared.events.Entry.{Entry}
use Rattle.pr_model.specs.declared.stops.Point.{Point}
use Rattle.pr_reached.proofs.RecordsInRange.EntryRanges.{records-range}
use Rattle.pr_reached.proofs.Together.ReachedLemmas.{later-reached}
use Rattle.pr_reached.specs.ByteHistories.{HasBytes}
use Rattle.pr_rec.specs.declared.lwps.LwpStatus.{LwpStatus}
use Rattle.pr_report_laws.proofs.Files.WatchHistories.{exchanges-push}
use Rattle.pr_report_laws.proofs.Machine.RecordLaws.{status-read}
use Rattle.pr_report_laws.proofs.SeenChildren.Splits.{state_after-both}
use Rattle.pr_report_laws.proofs.Watching.HistoryParts.{legal-front}
use Rattle.pr_truss.specs.Asides.{marks_at}
use Rattle.pr_truss.specs.FunctionEvents.{fresh_event, function_event, step_of}
use Rattle.pr_truss.specs.FunctionFeeding.{fed_functions}
use Rattle.pr_truss.specs.NextCalls.{read_record}
use Rattle.pr_truss.specs.Records.{status_lwp}
use Rattle.pr_truss.specs.Replies.{answer_of}
use Rattle.pr_truss.specs.Trusses.{TrussState, traced_at}
use Rattle.pr_truss.specs.declared.marks.Stepped.{Stepped}
use Rattle.pr_truss.specs.declared.asides.Aside.TheVariants.{Nothing}
use Rattle.pr_truss.specs.declared.replies.Answer.TheVariants.{Accepted}
use Rattle.pr_truss.specs.declared.stages.Stage.TheVariants.{ReadingStatus}
use Rattle.pr_truss_laws.proofs.Files.OpensLemmas.{held_by}
use Rattle.pr_truss_laws.specs.Exchanges.{Exchange, exchange_of, exchanges}
use Rattle.pr_function_laws.proofs.CallTurns.BegunSteps.{WasBegun, only-last}
use Rattle.pr_function_laws.proofs.CallTurns.CalledLaws.{once-there, step-there, tells-there}
use Rattle.pr_function_laws.proofs.CallTurns.ToldLaws.{breaks, breaks-function, breaks-lwp}
use Rattle.pr_function_laws.proofs.CallTurns.TurnPoints.{IsOfStep}
use Rattle.pr_function_laws.proofs.CallTurns.TurnReads.{ShownLwp, shown-lwp}
use Rattle.pr_function_laws.proofs.CallTurns.TurnStarts as starts
use Rattle.pr_function_laws.proofs.CallTurns.TurnWalks as walks
use Rattle.pr_function_laws.proofs.CallTurns.TurnWalks.{Comes, Files}
use Rattle.pr_function_laws.proofs.Marks.LiftLemmas.{met_at}
use Rattle.pr_function_laws.proofs.Marks.KeptPlaces.{AtStage}
use Rattle.pr_function_laws.proofs.OpenedProcesses.OpenedCalls.{IsSo}
use Rattle.pr_function_laws.proofs.OpenedProcesses.OpenedLaws.{Goes, bytes-front}
use Rattle.pr_function_laws.proofs.Pending.FrontLemmas as fronts
use Rattle.pr_function_laws.proofs.Stepping.BreakpointLemmas.{IsOwnEntry, own-entry}
use Rattle.pr_function_laws.specs.CalledTurns.{ReadsTwice}
use Rattle.pr_function_laws.specs.Lifted.{HasStatus, IsAtStopAtBreakpoint, ReadsOnlyLast}
use Rattle.pr_function_laws.specs.ReachedRuns.{IsReachedFunctionRun}
use Rattle.pr_function_laws.specs.Opened.{WasNotInterrupted, functions_at}
use Rattle.pr_function_laws.specs.Returns.{EndsStep, ReadsStepEnd}
use Rattle.pr_function_laws.specs.ToldTurns.{AreSteppable}
use Rattle.pr_function_laws.specs.Turns.{IsNoTurnOf, TellsOfLwp, TurnsOnce}
use Rattle.pr_function_hides.proofs.LiftedSteps.BegunLifts.{begun-calm, number, number-is, parted, stop}
use Rattle.pr_function_hides.proofs.LiftedSteps.StepEnds.{met-ends}
use Rattle.pr_function_hides.proofs.StepsUnderWay.UnderWay.{its-few, its-function, its-lwp}

-- Where truss reads the status of a process in which a step is under way, it is told of an event by which the step
-- ends.

module _ (n k : ℕ) (o : Options) (s : TracedState) (h : List Entry) (run : IsReachedFunctionRun n k o s h)
    (able : AreSteppable o) (front : List Entry) (e : Entry)
    (later : List Entry) (is : h ≡ front ++ e ∷ later) (calm : All WasNotInterrupted (exchanges k front)) (pid : ℕ)
    (status : Option ℕ) (step : Stepped) (b : WasBegun k o front pid status step) (y : Exchange)
    (own : exchange_of k e ≡ Some y)
    (reads : y.call ≡ read_record (traced_at (functions_at k o b.before) b.place).status) (p : TracedProcess)
    (live : live_process (state_after s front).system pid ≡ Some p) where
  abbrev t0 : TrussState
  t0 = functions_at k o b.before

  abbrev then : TracedState
  then = state_after s b.before

  abbrev now : TracedState
  now = state_after s front

  abbrev pid0 : ℕ
  pid0 = (traced_at t0 b.place).pid

  abbrev id : ℕ
  id = let m = b.meets in m.l.id

  abbrev number0 : ℕ
  number0 = number n k o s h run able front (e ∷ later) is calm pid status step b

  number0-is : (traced_at t0 b.place).status ≡ Some number0
  number0-is = number-is n k o s h run able front (e ∷ later) is calm pid status step b

  abbrev Stop0 : Type 0
  Stop0 = IsAtStopAtBreakpoint n k t0 b.place number0 pid0 id then b.e b.between

  stop0 : Stop0
  stop0 = stop n k o s h run able front (e ∷ later) is calm pid status step b

  whole : h ≡ b.before ++ b.e ∷ (b.between ++ e ∷ later)
  whole = parted n k o s h run able front (e ∷ later) is calm pid status step b

  reads-last : (m : ℕ) → (traced_at t0 b.place).status ≡ Some m → ReadsOnlyLast m (exchanges k (b.between ++ e ∷ []))
  reads-last m there =
      subst (ReadsOnlyLast m)
      (sym (exchanges-push k b.between e ∙ ap (λ x. exchanges k b.between ++ cons_option x []) own))
      (only-last m (exchanges k b.between) y (b.quiet m there) (reads ∙ ap read_record there))

  state-is : now ≡ state_after then (b.e ∷ b.between)
  state-is = ap (state_after s) b.is ∙ state_after-both s b.before (b.e ∷ b.between)

  live0 : live_process (state_after then (b.e ∷ b.between)).system pid0 ≡ Some p
  live0 =
      ap (λ (v : TracedState). live_process v.system pid0) (sym state-is)
      ∙ ap (live_process now.system) b.its_pid ∙ live

  twice : ReadsTwice k o s h b.before b.e b.between e later b.place id
  twice = record {
    is = whole;
    calm = begun-calm n k o s h run able front (e ∷ later) is calm pid status step b;
    breakpoint =
        breaks n k o s h run able front e later is calm pid status step b (b.between ++ e ∷ [])
        reads-last;
    y = y;
    own = own;
    reads = reads;
    process = p;
    live = live0;
  }

  -- ---- the turn

  one-turn : TurnsOnce pid0 id b.between
  one-turn = once-there n k o s h run b.before b.between later b.e e b.place id twice

  -- The lwp stands on what it met.
  pub record Met : Type 0 where
    pub point : Point
    pub kind : IsOfStep point
    pub stands : (l : TracedLwp) → lwp_of p id ≡ Some l → l.control.stop ≡ Some (stop_at point)
    pub file : HasStatus k pid0 number0 now

  abbrev ComesSo : Type 0
  ComesSo =
      Comes n k pid0 id (traced_at t0 b.place).control number0
      (let w = stop0 in let m = w.meets in met_at t0 b.place m.l m.function) b.place
      (starts.stood n k t0 b.place number0 pid0 id then b.e b.between stop0)
      (let w = stop0 in let x = w.x in fed_functions t0 x.reply) (after then b.e) b.between

  met : Met
  met =
      by (starts.came-front n k t0 b.place number0 pid0 id then b.e b.between stop0 b.between []
      (sym (append-nil b.between)) (b.quiet number0 number0-is))
    where
      by : ComesSo → Met
      by (walks.no_turn none w) =
          let x = one-turn in
          let one = x.one in
          absurd (starts.among-none pid0 id x.turned x.before x.later (subst (All (IsNoTurnOf pid0 id)) one.is none))
      by (walks.one_turn before more did point one facts a) =
          let had = a.had p live0 in
          let files = a.files in
          record {
            point = point;
            kind = facts.kind;
            stands = had.own;
            file = subst (HasStatus k pid0 number0) (sym state-is) files.status;
          }
      by (walks.ends gone) = absurd (none-some p (sym gone ∙ live0))

  -- ---- what it is told

  goes : Goes ⊥ k o (functions_at k o front) now
  goes = fronts.here n k o s h run.of front e later is calm

  legal : IsLegalEntry n now e
  legal = fronts.legal n k o s h run.of front e later is calm

  live-now : live_process now.system pid0 ≡ Some p
  live-now = ap (live_process now.system) b.its_pid ∙ live

  sees : option_and_then status_lwp (bytes_in y.reply) ≡ Some (status_of_found p (representative p))
  unfolding status_of
  sees =
      let g = goes in
      let m = met in
      let reached_it =
      later-reached n s front run.reached (bytes-front front (e ∷ later) (subst HasBytes is run.bytes))
      (legal-front n s front (e ∷ later) (subst (IsLegal n s) is run.of.legal)) in
      let records = records-range now.system g.lawful.system reached_it.in_range in
      let ranged = (records.processes pid0 p (found-live now.system pid0 p live-now).0).status in
      let call : IsOwnEntry k now e y = own-entry n k now e y legal own in
      let told =
      status-read now k number0 (held_by k pid0 0 Status Read) m.file call.answer p live-now refl ranged
      (ap (answer_to now k) (sym (reads ∙ ap read_record number0-is)) ∙ call.is) in
      ap (λ (r : Reply). option_and_then status_lwp (bytes_in r)) (sym call.replied) ∙ told.lwp

  tells : TellsOfLwp y.reply id
  unfolding twice
  tells = tells-there n k o s h run b.before b.between later b.e e b.place id twice

  -- truss reads the status at this place
  pub place : ℕ
  place = let x = step-there n k o s h run b.before b.between later b.e e b.place id twice in x.at

  abbrev t : TrussState
  t = functions_at k o front

  pub record IsThere : Type 0 where
    pub stage : t.stage ≡ ReadingStatus place
    pub idle : t.aside ≡ Nothing
    pub its : (traced_at t place).pid ≡ pid
    pub new : ((traced_at t place).old == 0) ≡ true
    pub unseen : (traced_at t place).seen ≡ false
    pub under_way : (marks_at t place).stepped ≡ Some step

  pub there : IsThere
  unfolding twice place
  there =
      let x = step-there n k o s h run b.before b.between later b.e e b.place id twice in
      record {
        stage = ap (λ es. (functions_at k o es).stage) b.is ∙ x.reads;
        idle = ap (λ es. (functions_at k o es).aside) b.is ∙ x.idle;
        its = ap (λ es. (traced_at (functions_at k o es) x.at).pid) b.is ∙ x.pid ∙ b.its_pid;
        new = ap (λ es. (traced_at (functions_at k o es) x.at).old == 0) b.is ∙ x.new;
        unseen = ap (λ es. (traced_at (functions_at k o es) x.at).seen) b.is ∙ x.unseen;
        under_way = ap (λ es. (marks_at (functions_at k o es) x.at).stepped) b.is ∙ x.under_way
            ∙ ap
            (λ l. Some (step_of l (let w =
            breaks n k o s h run able front e later is calm pid status step b (b.between ++ e ∷ [])
            reads-last in let m = w.meets in m.function)))
            (breaks-lwp n k o s h run able front e later is calm pid status step b (b.between ++ e ∷ [])
            reads-last)
            ∙ ap (λ f. Some (step_of (let m = b.meets in m.l) f))
            (breaks-function n k o s h run able front e later is calm pid status step b
            (b.between ++ e ∷ []) reads-last)
            ∙ ap (λ (x : Stepped). Some x) (sym b.its_step);
      }

  was-read : (r : Reply) (l : LwpStatus) → option_and_then status_lwp (bytes_in r) ≡ Some l → answer_of r ≡ Accepted
  unfolding answer_of bytes_in
  was-read (reply.Bytes bs) l is_told = refl
  was-read _ l is_told = absurd (none-some l is_told)

  -- its event ends the step
  pub reads-end : ReadsStepEnd t y place step
  unfolding fresh_event
  reads-end =
      let x = there in
      let w = tells in
      let m = met in
      let g = goes in
      let kept = g.kept in
      let at = subst (AtStage (IsSo ⊥ k t.options now) t.traced) x.stage kept.stage in
      let lawful = g.lawful in
      let live_l = live-lawful now.system pid0 p lawful.system live-now in
      let shown : ShownLwp p w.l =
      shown-lwp p w.l w.event live_l.rising (same_Some _ w.l (sym sees ∙ w.told)) w.stands in
      let there_it : lwp_of p id ≡ Some shown.lwp = ap (lwp_of p) (sym w.its) ∙ shown.there in
      record {
        reads = x.stage;
        idle = x.idle;
        stays = kept.off;
        within = at.0;
        under_way = x.under_way;
        function = subst (λ i. i < function_limit)
            (its-function n k o s h run able front (e ∷ later) is calm pid status step b)
            (its-few n k o s h run able front (e ∷ later) is calm pid status step b);
        accepted = was-read y.reply w.l w.told;
        l = w.l;
        told = w.told;
        event = w.event;
        fresh = ap (λ c. cond c (cond (traced_at t place).seen None (event_of w.l)) None) x.new
            ∙ ap (λ c. cond c None (event_of w.l)) x.unseen ∙ w.stands;
        ends = subst (λ i. EndsStep (function_event t.options (marks_at t place) i w.event)) (sym w.its)
            (met-ends t.options (marks_at t place) id step x.under_way
            (sym (its-lwp n k o s h run able front (e ∷ later) is calm pid status step b)) p shown.lwp
            m.point m.kind (m.stands shown.lwp there_it) w.event
            (ap event_of (sym (shown.is ∙ ap (λ i. lwpstatus_of p i shown.lwp) w.its)) ∙ w.stands));
      }
