use Rattle.std.proofs.Common.{◌≡◌, ◌<◌, ◌++◌, ℕ, true, not, Option, Some, None, List, [], ◌∷◌, length, position, append-nil, append_assoc, refl, sym, subst, ap, ◌∙◌, arith, inl, inr}
use Rattle.std.proofs.lemmas.Bool.{eqb-true, ne_eqb}
use Rattle.std.proofs.lemmas.List.Elements.{All-head, All-tail}
use Rattle.std.proofs.lemmas.Option.{none-some, same_Some, slice_get_within}
use Rattle.std.specs.List.{All, cons_option, slice_get}
use Rattle.pr_lawful.proofs.LawfulTurns.EndLemmas.{found-live}
use Rattle.pr_lawful.proofs.Following.UseLemmas.{live-lawful}
use Rattle.pr_line.specs.Functions.{function_limit}
use Rattle.pr_line.specs.declared.functions.Function.{Function}
use Rattle.pr_line.specs.declared.options.Options.{Options}
use Rattle.pr_model.specs.Handles.{handle_of}
use Rattle.pr_model.specs.Lawful.{IsLawful}
use Rattle.pr_model.specs.Legal.{IsLegal, IsLegalEntry, after, state_after}
use Rattle.pr_model.specs.LwpTurns.{LwpTurn, turn_of}
use Rattle.pr_model.specs.Points.{after_meeting}
use Rattle.pr_model.specs.Registers.{pc_of}
use Rattle.pr_model.specs.Rows.{Row, row_for}
use Rattle.pr_model.specs.State.{TracedLwp, TracedProcess, TracedState, live_process, lwp_of, process_of}
use Rattle.pr_model.specs.declared.events.Act.TheVariants.{Turn}
use Rattle.pr_model.specs.declared.events.Actor.TheVariants.{Lwp}
use Rattle.pr_model.specs.declared.events.Entry.{Entry}
use Rattle.pr_model.specs.declared.events.Turned.{Turned}
use Rattle.pr_model.specs.declared.handles.Held.{Held}
use Rattle.pr_model.specs.declared.stops.Point.{Point}
use Rattle.pr_model.specs.declared.calls.Call.TheVariants as call
use Rattle.pr_model.specs.declared.calls.File.TheVariants.{Ctl}
use Rattle.pr_model.specs.declared.calls.Mode.TheVariants.{WriteExcl}
use Rattle.pr_model.specs.declared.lwps.Phase.TheVariants.{User}
use Rattle.pr_reached.proofs.FitStates.FitHistoryLemmas.{history-fits}
use Rattle.pr_rec.specs.declared.lwps.LwpStatus.{LwpStatus}
use Rattle.pr_report_laws.proofs.Files.WatchHistories.{cons-exchanges, exchanges-both}
use Rattle.pr_report_laws.proofs.Machine.StayingLwps.{keeps-meeting, live-by, row-leaves, settled-to}
use Rattle.pr_report_laws.proofs.Machine.TracedPoints.{fit-process}
use Rattle.pr_report_laws.proofs.SeenChildren.Splits as splits
use Rattle.pr_report_laws.proofs.SeenChildren.Splits.{Compares, compare, state_after-both}
use Rattle.pr_report_laws.proofs.Watching.HistoryParts.{all-front, legal-front}
use Rattle.pr_truss.specs.Asides.{marks_at}
use Rattle.pr_truss.specs.FunctionEvents.{begins_at, step_of}
use Rattle.pr_truss.specs.FunctionFeeding.{fed_functions}
use Rattle.pr_truss.specs.Marks.{address_in, address_of}
use Rattle.pr_truss.specs.NextCalls.{read_record}
use Rattle.pr_truss.specs.Trusses.{TrussState, first_truss, traced_at}
use Rattle.pr_truss.specs.declared.marks.Stepped.{Stepped}
use Rattle.pr_truss.specs.declared.processes.Traced.{Traced}
use Rattle.pr_truss.specs.declared.stages.AfterClosing.TheVariants.{GoOn}
use Rattle.pr_truss.specs.declared.stages.Stage.{Stage}
use Rattle.pr_truss.specs.declared.stages.Stage.TheVariants.{Polling, ReadingStatus, ReadingText, Running, Closing, Finished}
use Rattle.pr_truss_laws.proofs.Machine.ForeignLemmas.{exclusive-sole}
use Rattle.pr_truss_laws.proofs.Machine.FrameLemmas.{was-made}
use Rattle.pr_truss_laws.proofs.Machine.HaltLemmas.{HaltsOn, others-halt, outlasts-halts}
use Rattle.pr_truss_laws.proofs.Files.HeldLemmas.{at_place}
use Rattle.pr_truss_laws.proofs.Machine.OutlastLemmas.{own-call-elsewhere}
use Rattle.pr_truss_laws.proofs.Machine.StillLemmas.{frozen-turns}
use Rattle.pr_truss_laws.specs.Exchanges.{Exchange, exchange_of, exchanges}
use Rattle.pr_truss_laws.specs.Handles.{HasNoOtherWriter, handles_of}
use Rattle.pr_truss_laws.specs.Stills.{IsHalting}
use Rattle.pr_function_laws.proofs.Stepping.AwayLemmas.{Away, AwayStage, Ours, Own, away-acts}
use Rattle.pr_function_laws.proofs.CallTurns.BegunSteps.{WasBegun, each-found}
use Rattle.pr_function_laws.proofs.Stepping.BreakpointLemmas.{foreign-entry, own-entry}
use Rattle.pr_function_laws.proofs.CallTurns.CalledLaws.{functions-both}
use Rattle.pr_function_laws.proofs.Stepping.FaultLemmas.{fault-frozen}
use Rattle.pr_function_laws.proofs.Pending.FrontLemmas as fronts
use Rattle.pr_function_laws.proofs.Stepping.HaltingSteps.{turn-is}
use Rattle.pr_function_laws.proofs.Marks.KeptPlaces.{Apart}
use Rattle.pr_function_laws.proofs.Marks.LiftLemmas.{Looks, met_at}
use Rattle.pr_function_laws.proofs.Marks.MetLemmas.{event-breaks, found-function}
use Rattle.pr_function_laws.proofs.OpenedProcesses.OpenedCalls.{lowest}
use Rattle.pr_function_laws.proofs.OpenedProcesses.OpenedLaws.{Goes, before-goes, handle-is, status-handle, stop-function, stop-lwp, stop-there}
use Rattle.pr_function_laws.proofs.Stepping.StretchLemmas.{named-acts}
use Rattle.pr_function_laws.proofs.CallTurns.TurnPoints.{did_at, step-point}
use Rattle.pr_function_laws.proofs.CallTurns.TurnStarts as starts
use Rattle.pr_function_laws.proofs.CallTurns.TurnStarts.{among-none}
use Rattle.pr_function_laws.proofs.CallTurns.TurnReads.{fresh-new}
use Rattle.pr_function_laws.proofs.CallTurns.TurnStates.{Had, Steps, had-no-turn}
use Rattle.pr_function_laws.proofs.CallTurns.TurnWalks as walks
use Rattle.pr_function_laws.proofs.CallTurns.TurnWalks.{After, AreNoReads, Comes, Files, Turns}
use Rattle.pr_function_laws.specs.Lifted.{GoesElsewhere, HasControl, IsAtStopAtBreakpoint, ReadsOnlyLast}
use Rattle.pr_function_laws.specs.Met.{arguments_of}
use Rattle.pr_function_laws.specs.ReachedRuns.{IsReachedFunctionRun}
use Rattle.pr_function_laws.specs.Opened.{IsFunctionRun, ReadsBreakpoint, WasNotInterrupted, functions_at, is_opened}
use Rattle.pr_function_laws.specs.Runs.{functions_after}
use Rattle.pr_function_laws.specs.Steppable.{IsSteppable}
use Rattle.pr_function_laws.specs.ToldTurns.{AreSteppable, HasStep}
use Rattle.pr_function_laws.specs.Turns.{EndsInTrap, HasOneTurn, IsNoTurnOf, first_arguments}
use Rattle.pr_function_hides.proofs.StepsUnderWay.StatusReads.{open-few, reads-status}
use Rattle.pr_function_hides.proofs.StepsUnderWay.TrapStops.{AtTrap, IsStepOf, trap-point}
use Rattle.pr_function_laws.proofs.Listing.TracedPlaces.{traced-there}
pub use Rattle.pr_function_laws.proofs.Listing.ListedSteps.{place-of}

-- A step that was begun is under way as truss's marks say, as long as the process lives; and the lwp of it, in its own
-- turn, is as it was at the breakpoint.

-- ---- lists

-- the control file is one of the files of a process
more-of : (Q : ℕ → Type 0) (o : Option ℕ) (ms : List ℕ) → All Q (cons_option o ms) → All Q ms
more-of Q None ms all = all
more-of Q (Some m) ms all = All-tail Q m ms all

control-of : (Q : ℕ → Type 0) (u : Traced) → All Q (handles_of u) → Q u.control
control-of Q u all =
    All-head Q u.control []
    (more-of Q u.status (u.control ∷ []) (more-of Q u.lstatus _ (more-of Q u.memory _ all)))

-- ---- truss, wherever it has come to

module _ (n k : ℕ) (o : Options) (s : TracedState) (h : List Entry) (run : IsFunctionRun n k o s h)
    (front later : List Entry) (is : h ≡ front ++ later) (calm : All WasNotInterrupted (exchanges k front)) where
  abbrev t : TrussState
  t = functions_at k o front

  abbrev now : TracedState
  now = state_after s front

  pub goes-here : Goes ⊥ k o t now
  goes-here = before-goes n k o s h run front later is calm ⊥ (λ none. absurd none) (λ none. absurd none)

  pub apart-here : Apart t.traced
  apart-here = let g = goes-here in let w = g.kept in w.apart

  pub lawful-here : IsLawful now
  lawful-here = let g = goes-here in g.lawful

  pub options-here : t.options ≡ o
  options-here = let g = goes-here in g.options

  pub control-there : (q : ℕ) → q < length t.traced
      → HasControl k (traced_at t q).pid (traced_at t q).control now
  control-there q within =
      let g = goes-here in
      let w = g.kept in
      let low = lowest ⊥ k t.options now t.traced t.stage w.stage q within in
      let its = low.holds in its.its

-- ---- a step that was begun

module _ (n k : ℕ) (o : Options) (s : TracedState) (h : List Entry) (run : IsReachedFunctionRun n k o s h)
    (able : AreSteppable o) (front later : List Entry)
    (is : h ≡ front ++ later) (calm : All WasNotInterrupted (exchanges k front)) (pid : ℕ) (status : Option ℕ)
    (step : Stepped) (b : WasBegun k o front pid status step) where
  abbrev tr : TrussState
  tr = functions_at k o front

  abbrev current : TracedState
  current = state_after s front

  -- truss and the state as it read the breakpoint
  abbrev t0 : TrussState
  t0 = functions_at k o b.before

  abbrev then : TracedState
  then = state_after s b.before

  abbrev id : ℕ
  id = let m = b.meets in m.l.id

  abbrev pid0 : ℕ
  pid0 = (traced_at t0 b.place).pid

  parted : h ≡ b.before ++ b.e ∷ (b.between ++ later)
  parted = is ∙ ap (λ es. es ++ later) b.is ∙ append_assoc b.before (b.e ∷ b.between) later

  calm-before : All WasNotInterrupted (exchanges k b.before)
  calm-before =
      all-front WasNotInterrupted (exchanges k b.before) (exchanges k (b.e ∷ b.between))
      (subst (All WasNotInterrupted) (ap (exchanges k) b.is ∙ exchanges-both k b.before (b.e ∷ b.between)) calm)

  pub options-then : t0.options ≡ o
  options-then = options-here n k o s h run.of b.before (b.e ∷ (b.between ++ later)) parted calm-before

  abbrev its_function : ℕ
  its_function = let m = b.meets in m.function

  -- the function that begins there, by its place
  pub record Found : Type 0 where
    pub f : Function
    pub named : slice_get t0.options.functions its_function ≡ Some f
    pub first : position (begins_at f.at) t0.options.functions ≡ Some its_function

  pub found : Found
  found =
      let m = b.meets in
      let at = event-breaks t0.options (marks_at t0 b.place) m.l.id m.event m.function m.at_breakpoint in
      let it = found-function t0.options at.pc m.function at.found in
      record {
        f = it.0;
        named = it.1.0;
        first = ap (λ pc. position (begins_at pc) t0.options.functions) it.1.1 ∙ at.found;
      }

  pub broke : ReadsBreakpoint k t0 b.place id then b.e b.between
  broke = record {
    x = b.x;
    own = b.own;
    meets = b.meets;
    its = refl;
    f = let f = found in f.f;
    named = let f = found in f.named;
    few = let f = found in
        omega (
          arith,
          slice_get_within t0.options.functions its_function f.f f.named,
          able.few,
          ap (λ (opts : Options). length opts.functions) options-then,
        );
    steppable = let f = found in
        each-found IsSteppable o.functions its_function f.f able.each
        (ap (λ (opts : Options). slice_get opts.functions its_function) (sym options-then) ∙ f.named);
    reads_last = λ number there. quiet-last number (exchanges k b.between) (b.quiet number there);
  }
    where
      quiet-last : (number : ℕ) (xs : List Exchange) → AreNoReads number xs → ReadsOnlyLast number xs
      quiet-last number [] quiet = tt
      quiet-last number (x ∷ xs) quiet = inl (quiet.0, quiet-last number xs quiet.1)

  pub ns : ℕ
  ns = status-handle n k o s h run b.before b.between later b.e b.place id parted calm-before broke

  pub ns-is : (traced_at t0 b.place).status ≡ Some ns
  unfolding ns
  ns-is = handle-is n k o s h run b.before b.between later b.e b.place id parted calm-before broke

  pub stopped : IsAtStopAtBreakpoint n k t0 b.place ns pid0 id then b.e b.between
  unfolding ns
  stopped = stop-there n k o s h run b.before b.between later b.e b.place id parted calm-before broke

  -- ---- the way since then

  abbrev first_lwp : LwpStatus
  first_lwp = let x = stopped in let m = x.meets in m.l

  abbrev function : ℕ
  function = let x = stopped in let m = x.meets in m.function

  first-is : first_lwp ≡ (let m = b.meets in m.l)
  unfolding stopped ns broke
  first-is = stop-lwp n k o s h run b.before b.between later b.e b.place id parted calm-before broke

  function-is : function ≡ its_function
  unfolding stopped ns broke
  function-is =
      stop-function n k o s h run b.before b.between later b.e b.place id parted calm-before broke

  step-is : step_of first_lwp function ≡ step
  step-is =
      ap (λ l. step_of l function) first-is
      ∙ ap (λ f. step_of (let m = b.meets in m.l) f) function-is ∙ sym b.its_step

  abbrev c : ℕ
  c = (traced_at t0 b.place).control

  abbrev met : Traced
  met = met_at t0 b.place first_lwp function

  abbrev pub stood : TracedLwp
  stood = starts.stood n k t0 b.place ns pid0 id then b.e b.between stopped

  abbrev begun_truss : TrussState
  begun_truss = let x = stopped in let y = x.x in fed_functions t0 y.reply

  -- the state now, by way of that read
  abbrev last : TracedState
  last = state_after (after then b.e) b.between

  came : Comes n k pid0 id c ns met b.place stood begun_truss (after then b.e) b.between
  came =
      starts.came-front n k t0 b.place ns pid0 id then b.e b.between stopped b.between []
      (sym (append-nil b.between)) (b.quiet ns ns-is)

  truss-is : tr ≡ functions_after begun_truss (exchanges k b.between)
  truss-is =
      ap (functions_at k o) b.is
      ∙ ap (functions_after (first_truss o)) (exchanges-both k b.before (b.e ∷ b.between))
      ∙ functions-both (first_truss o) (exchanges k b.before) (exchanges k (b.e ∷ b.between))
      ∙ ap (functions_after t0)
      (cons-exchanges k b.e b.between
      ∙ ap (λ x. cons_option x (exchanges k b.between)) (let x = stopped in x.own))

  state-is : current ≡ last
  state-is = ap (state_after s) b.is ∙ state_after-both s b.before (b.e ∷ b.between)

  live-last : (p : TracedProcess) → live_process current.system pid ≡ Some p → live_process last.system pid0 ≡ Some p
  live-last p live =
      ap (live_process last.system) b.its_pid
      ∙ ap (λ (u : TracedState). live_process u.system pid) (sym state-is) ∙ live

  -- ---- what its marks say

  -- no stop was left that stood before truss came
  new-then : (traced_at t0 b.place).old ≡ 0
  new-then =
      let m = b.meets in
      let new = fresh-new (traced_at t0 b.place) m.l m.event m.fresh in
      eqb-true (traced_at t0 b.place).old 0 new.new

  -- Truss has the process at a place, with the status file that it had, and the step is under way in it.
  pub record IsUnder : Type 0 where
    pub place : ℕ
    pub own : (traced_at tr place).pid ≡ pid
    pub file : (traced_at tr place).status ≡ (traced_at t0 b.place).status
    pub new : (traced_at tr place).old ≡ 0
    pub under : HasStep k o front place step

  abbrev Q : ℕ → Type 0
  Q = GoesElsewhere k pid0 last

  at-own : (q : ℕ) → q < length tr.traced → Own Q c ns met (traced_at tr q) → is_opened tr.stage q ≡ true → IsUnder
  at-own q within own opened =
      let known = own.known in
      record {
        place = q;
        own = known.pid ∙ b.its_pid;
        file = own.status ∙ sym ns-is;
        new = known.old ∙ new-then;
        under = record {
          calm = calm;
          within = within;
          opened = opened;
          under_way = known.stepped ∙ ap (λ x. Some x) step-is;
        };
      }

  looking : Looks Q c ns met b.place tr → IsUnder
  looking look = at-own b.place look.within look.own (ap (λ (x : Stage). is_opened x b.place) look.stage)

  away : Away Q c ns met tr → HasControl k pid0 c last → IsUnder
  away it control =
      let there =
      traced-there n k o s h run.of front later is calm pid0 c (subst (HasControl k pid0 c) (sym state-is) control) in
      by there.0 there.1.0 there.1.1 (it.each there.0 there.1.0)
    where
      -- its files are no other process's
      not-apart : (q : ℕ) → q < length tr.traced → (traced_at tr q).pid ≡ pid0
          → All Q (handles_of (at_place tr.traced q)) → ⊥
      not-apart q within same apart =
          control-of Q (at_place tr.traced q) apart
          (record { controller = k; pid = (traced_at tr q).pid; lwp = 0; file = Ctl; mode = WriteExcl })
          (subst (HasControl k (traced_at tr q).pid (traced_at tr q).control) state-is
          (control-there n k o s h run.of front later is calm q within)) same

      opened : (q : ℕ) → q < length tr.traced → (traced_at tr q).pid ≡ pid0 → (stage : Stage)
          → AwayStage Q c ns met tr.traced stage → is_opened stage q ≡ true
      opened q within same Polling w = refl
      opened q within same (ReadingStatus i) w = refl
      opened q within same (ReadingText i l from len) w = refl
      opened q within same (Running i) w = refl
      opened q within same (Closing i GoOn) w =
          ap not (ne_eqb i q (λ one.
          not-apart q within same (subst (λ j. All Q (handles_of (at_place tr.traced j))) one w.1)))
      opened q within same Finished w = refl
      opened q within same _ w = absurd w

      by : (q : ℕ) → q < length tr.traced → (traced_at tr q).pid ≡ pid0 → Ours Q c ns met (at_place tr.traced q)
          → IsUnder
      by q within same (inl own) = at-own q within own (opened q within same tr.stage it.stage)
      by q within same (inr apart) = absurd (not-apart q within same apart)

  pub marks-say : (p : TracedProcess) → live_process current.system pid ≡ Some p → IsUnder
  marks-say p live = by came
    where
      by : Comes n k pid0 id c ns met b.place stood begun_truss (after then b.e) b.between → IsUnder
      by (walks.no_turn none (walks.looks look files lives)) =
          looking (subst (Looks Q c ns met b.place) (sym truss-is) look)
      by (walks.no_turn none (walks.aways it files lives)) =
          away (subst (Away Q c ns met) (sym truss-is) it) files.control
      by (walks.one_turn before more did point one facts a) =
          let files : Files n k pid0 id c ns met b.place stood last = a.files in
          away (subst (Away Q c ns met) (sym truss-is) a.away) files.control
      by (walks.ends gone) = absurd (none-some p (sym gone ∙ live-last p live))

  -- ---- its own turn

  module _ (turn : LwpTurn) (p : TracedProcess) (live : live_process current.system pid ≡ Some p)
      (took : turn_of current.system pid id ≡ Some turn) where
    took-last : turn_of last.system pid0 id ≡ Some turn
    took-last =
        ap (λ i. turn_of last.system i id) b.its_pid
        ∙ ap (λ (u : TracedState). turn_of u.system pid id) (sym state-is) ∙ took

    steps-there : Steps id stood p
    steps-there = by came
      where
        by : Comes n k pid0 id c ns met b.place stood begun_truss (after then b.e) b.between → Steps id stood p
        by (walks.no_turn none (walks.looks look files lives)) =
            let w = lives p (live-last p live) in
            let lawful = lawful-here n k o s h run.of front later is calm in
            let l = live-lawful current.system pid p lawful.system live in
            absurd (none-some turn
            (sym (frozen-turns last.system pid0 p (live-last p live) (fault-frozen p id w.stands l.rising) id)
            ∙ took-last))
        by (walks.no_turn none (walks.aways it files lives)) = lives p (live-last p live)
        by (walks.one_turn before more did point one facts a) =
            absurd (had-no-turn id stood point last.system pid0 p turn (live-last p live) took-last
            (a.had p (live-last p live)))
        by (walks.ends gone) = absurd (none-some p (sym gone ∙ live-last p live))

    -- the process lives on after it
    pub lives-on : (q : TracedProcess) × (live_process turn.system pid ≡ Some q)
    lives-on =
        let w = steps-there in
        let lawful = lawful-here n k o s h run.of front later is calm in
        let fits =
        fit-process current.system pid p
        (history-fits n s front run.of.lawful run.reached.fit
        (legal-front n s front later (subst (IsLegal n s) is run.of.legal)))
        live in
        let stepped = w.stepped in
        let point = step-point current.system pid p id w.lwp turn live w.stepped w.all w.no_call fits took in
        let x = row-leaves current.system pid p id w.lwp lawful.system live stepped.there point.goes_on in
        let kept = x.1.1 in
        let met_point : Option Point = (let row : Row = row_for current.system pid p id w.lwp in row.point) in
        let meeting = keeps-meeting id met_point x.0 in
        let was = found-live current.system pid p live in (
          after_meeting met_point id x.0,
          live-by turn.system pid (after_meeting met_point id x.0)
              (ap (λ (v : LwpTurn). process_of v.system pid)
              (turn-is current.system pid p id w.lwp turn live w.stepped w.all w.no_call fits took)
              ∙ settled-to current.system pid p id w.lwp lawful.system live stepped.there x.0 x.1.0)
              (meeting.ended ∙ kept.ended ∙ was.1),
        )

    -- It is in its program, at the address of the function, with the arguments of the step in r1 to r3.
    pub record StandsAtStart (l : TracedLwp) : Type 0 where
      pub in_program : l.phase ≡ User
      pub stands : pc_of l.regs ≡ (let f = found in f.f.at)
      pub holds : first_arguments l.regs ≡ step.arguments

    pub lwp-stands : (l : TracedLwp) → lwp_of p id ≡ Some l → StandsAtStart l
    unfolding step_of address_of
    lwp-stands l there =
        let w = steps-there in
        let stepped = w.stepped in
        let one : w.lwp ≡ l = same_Some w.lwp l (sym stepped.there ∙ there) in
        let regs : l.regs ≡ stood.regs = ap (λ (x : TracedLwp). x.regs) (sym one) ∙ w.holds in
        record {
          in_program = ap (λ (x : TracedLwp). x.phase) (sym one) ∙ stepped.in_program;
          stands = ap pc_of regs ∙ starts.stands-at n k t0 b.place ns pid0 id then b.e b.between stopped
              ∙ ap (address_of t0.options) function-is ∙ ap address_in (let f = found in f.named);
          holds = ap first_arguments (regs ∙ starts.lwp-regs n k t0 b.place ns pid0 id then b.e b.between stopped)
              ∙ ap arguments_of first-is ∙ ap (λ (x : Stepped). x.arguments) (sym b.its_step);
        }

  pub its-lwp : id ≡ step.lwp
  unfolding step_of
  its-lwp = ap (λ (x : Stepped). x.lwp) (sym b.its_step)

  pub its-function : its_function ≡ step.function
  unfolding step_of
  its-function = ap (λ (x : Stepped). x.function) (sym b.its_step)

  -- the function is one of those of which the marks can say that they are planted
  pub its-few : its_function < function_limit
  unfolding broke
  its-few = let w = broke in w.few

  -- the function and the arguments are those of the lwp that stood at the breakpoint
  pub is-step : IsStepOf o step stood
  unfolding step_of address_of
  is-step = record {
    found =
        ap (λ pc. position (begins_at pc) o.functions)
        (starts.stands-at n k t0 b.place ns pid0 id then b.e b.between stopped
        ∙ ap (address_of t0.options) function-is ∙ ap address_in (let f = found in f.named))
        ∙ ap (λ (opts : Options). position (begins_at (let f = found in f.f.at)) opts.functions) (sym options-then)
        ∙ (let f = found in f.first) ∙ ap (λ i. Some i) its-function;
    few = subst (λ i. i < function_limit) its-function its-few;
    holds = ap first_arguments (starts.lwp-regs n k t0 b.place ns pid0 id then b.e b.between stopped)
        ∙ ap arguments_of first-is ∙ ap (λ (x : Stepped). x.arguments) (sym b.its_step);
  }

  -- Truss looks at the process; or the lwp is stepped alone; or it had its turn.
  pub data How (p : TracedProcess) : Type 0 where
    looks_now : (place : ℕ) → (functions_at k o front).stage ≡ Running place → How p
    steps_on : Steps id stood p → How p
    had_turn : (before more : List Entry) (did : Turned) (point : Point)
        → HasOneTurn pid0 id before did more b.between
        → Turns pid0 id stood (state_after (after then b.e) before) did point → Had id stood point p → How p

  pub how : (p : TracedProcess) → live_process current.system pid ≡ Some p → How p
  how p live = by came
    where
      by : Comes n k pid0 id c ns met b.place stood begun_truss (after then b.e) b.between → How p
      by (walks.no_turn none (walks.looks look files lives)) =
          let l = subst (Looks Q c ns met b.place) (sym truss-is) look in looks_now b.place l.stage
      by (walks.no_turn none (walks.aways it files lives)) = steps_on (lives p (live-last p live))
      by (walks.one_turn before more did point one facts a) =
          had_turn before more did point one facts (a.had p (live-last p live))
      by (walks.ends gone) = absurd (none-some p (sym gone ∙ live-last p live))

  -- ---- behind its turn

  -- The lwp of the step has had its turn since then, and the process lives: the process halts, and goes on so through
  -- one entry more, or SIGKILL ends it there.
  module _ (us vs : List Entry) (did : Turned)
      (among : b.between ≡ us ++ record { actor = Lwp pid0 id; act = Turn did } ∷ vs) (p : TracedProcess)
      (live : live_process current.system pid ≡ Some p) where
    -- what the lwp has met, with truss away from the process
    record IsBehind : Type 0 where
      point : Point
      did_so : did.did ≡ did_at point
      left : After n k pid0 id c ns met b.place stood point tr last

    -- it had one turn alone
    same-turn : (before more : List Entry) (turned : Turned) → HasOneTurn pid0 id before turned more b.between
        → turned ≡ did
    same-turn before more turned one =
        by (compare before us (record { actor = Lwp pid0 id; act = Turn turned })
        (record { actor = Lwp pid0 id; act = Turn did }) more vs (sym one.is ∙ among))
      where
        by : Compares before (record { actor = Lwp pid0 id; act = Turn turned }) more us
            (record { actor = Lwp pid0 id; act = Turn did }) vs → turned ≡ did
        by (splits.same first second third) =
            let both : Turn turned ≡ Turn did = ap (λ (x : Entry). x.act) second in cc
        by (splits.ahead between first second) =
            absurd (among-none pid0 id did between vs (subst (All (IsNoTurnOf pid0 id)) second one.none_later))
        by (splits.behind between first second) =
            absurd (among-none pid0 id did us between (subst (All (IsNoTurnOf pid0 id)) first one.none_before))

    behind : IsBehind
    behind = by came
      where
        by : Comes n k pid0 id c ns met b.place stood begun_truss (after then b.e) b.between → IsBehind
        by (walks.no_turn none w) =
            absurd (among-none pid0 id did us vs (subst (All (IsNoTurnOf pid0 id)) among none))
        by (walks.one_turn before more turned point one facts a) = record {
          point = point;
          did_so = ap (λ (x : Turned). x.did) (sym (same-turn before more turned one)) ∙ facts.did;
          left = subst (λ u. After n k pid0 id c ns met b.place stood point u last) (sym truss-is) a;
        }
        by (walks.ends gone) = absurd (none-some p (sym gone ∙ live-last p live))

    halting : IsHalting p
    halting =
        let w = behind in
        let a = w.left in
        let had = a.had p (live-last p live) in had.halting

    -- where that turn ended with a trace trap it stands there
    pub trap-now : EndsInTrap did → AtTrap step.lwp p
    trap-now trap =
        let w = behind in
        let a = w.left in
        let had = a.had p (live-last p live) in
        subst (λ i. AtTrap i p) its-lwp
        (record {
          halting = had.halting;
          lwp = had.there.0;
          there = had.there.1;
          stop = had.own had.there.0 had.there.1 ∙ ap (λ y. Some y) (trap-point w.point (sym w.did_so ∙ trap));
        })

    lawful-last : IsLawful last
    lawful-last = subst IsLawful state-is (lawful-here n k o s h run.of front later is calm)

    control-last : HasControl k pid0 c last
    control-last =
        let w = behind in
        let a = w.left in
        let files : Files n k pid0 id c ns met b.place stood last = a.files in files.control

    sole : HasNoOtherWriter k pid0 last.opens
    sole =
        exclusive-sole last k c (record { controller = k; pid = pid0; lwp = 0; file = Ctl; mode = WriteExcl })
        lawful-last control-last refl

    made-last : pid0 < last.system.made
    made-last =
        let lawful = lawful-last in
        was-made pid0 last.system p lawful.system (found-live last.system pid0 p (live-last p live)).0

    module _ (e : Entry) (more : List Entry) (next_is : later ≡ e ∷ more) where
      whole : h ≡ front ++ e ∷ more
      whole = is ∙ ap (λ es. front ++ es) next_is

      its-legal : IsLegalEntry n last e
      its-legal =
          subst (λ (u : TracedState). IsLegalEntry n u e) state-is
          (fronts.legal n k o s h run.of front e more whole calm)

      by-others : exchange_of k e ≡ None → HaltsOn pid0 p (after last e).system
      by-others none =
          let f = foreign-entry n k last e its-legal none in
          others-halt n last k pid0 lawful-last sole p (live-last p live) halting e its-legal f.other

      by-truss : (x : Exchange) → exchange_of k e ≡ Some x → HaltsOn pid0 p (after last e).system
      by-truss x own =
          let w = behind in
          let a = w.left in
          let y = own-entry n k last e x its-legal own in
          subst (λ (u : TracedState). HaltsOn pid0 p u.system) y.later
          (outlasts-halts pid0 p y.answer.state.system halting
          (own-call-elsewhere last k pid0 x.call y.answer p lawful-last
          (λ m held named there.
          away-acts Q c ns met tr a.away m (fronts.has n k o s h run.of front e more whole calm) x.call
          (fronts.makes-next n k o s h run.of front e more whole calm x own)
          (named-acts n k pid0 id c last lawful-last sole made-last x.call m named) held there)
          y.is (live-last p live)))

      halts-on : HaltsOn pid p (after current e).system
      halts-on =
          subst (λ i. HaltsOn i p (after current e).system) b.its_pid
          (subst (λ (u : TracedState). HaltsOn pid0 p (after u e).system) (sym state-is) (by (exchange_of k e) refl))
        where
          by : (x : Option Exchange) → exchange_of k e ≡ x → HaltsOn pid0 p (after last e).system
          by None none = by-others none
          by (Some x) own = by-truss x own

      -- It halts so still, or SIGKILL ends it there; and where truss reads a file of it there, it reads its status.
      pub record GoesBehind : Type 0 where
        pub halts : HaltsOn pid p (after current e).system
        pub reads : (x : Exchange) → exchange_of k e ≡ Some x → (handle from len : ℕ) (file : Held)
            → x.call ≡ call.Read handle from len → handle_of current.opens k handle ≡ Some file → file.pid ≡ pid
            → x.call ≡ read_record (Some ns)

      pub goes-behind : GoesBehind
      goes-behind = record {
        halts = halts-on;
        reads = λ x own handle from len file reads there its.
            let w = behind in
            let a = w.left in
            let here : handle_of last.opens k handle ≡ Some file =
            ap (λ (u : TracedState). handle_of u.opens k handle) (sym state-is) ∙ there in
            reads
            ∙ reads-status Q c ns met tr a.away handle from len (open-few k handle last file lawful-last here)
            (λ goes. goes file here (its ∙ sym b.its_pid)) (fronts.has n k o s h run.of front e more whole calm)
            (fronts.makes-next n k o s h run.of front e more whole calm x own ∙ ap (λ d. Some d) reads);
      }
