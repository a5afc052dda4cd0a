use Rattle.std.proofs.Common.{◌≡◌, ◌==◌, ◌<◌, ◌++◌, ℕ, Bool, true, false, cond, not, Option, Some, None, Ok, List, [], ◌∷◌, length, refl, sym, subst, ap, ◌∙◌, inl, inr}
use Rattle.std.proofs.lemmas.Bool.{cases_Bool, eq-eqb, false≢true}
use Rattle.std.proofs.lemmas.Option.{none-some, same_Some}
use Rattle.std.specs.List.{All}
use Rattle.pr_hidden.specs.Hiders.{replaces}
use Rattle.pr_lawful.proofs.LawfulTurns.EndLemmas.{found-live}
use Rattle.pr_line.specs.declared.events.Event.{Event}
use Rattle.pr_line.specs.declared.events.Event.TheVariants.{Left}
use Rattle.pr_line.specs.declared.options.Options.{Options}
use Rattle.pr_model.proofs.TurnLemmas.{TakesTurn, turn-taken}
use Rattle.pr_model.specs.Events.{event_of, events_of, lwp_alone, lwp_in_state}
use Rattle.pr_model.specs.Lawful.{IsLawfulSystem}
use Rattle.pr_model.specs.Legal.{IsLegal, IsLegalEntry, after, after_turn, state_after}
use Rattle.pr_model.specs.LwpTurns.{LwpTurn, turn_of}
use Rattle.pr_model.specs.Points.{is_traced}
use Rattle.pr_model.specs.State.{TracedControl, TracedLwp, TracedProcess, TracedState, TracedSystem, live_process}
use Rattle.pr_model.specs.Statuses.{arguments_in}
use Rattle.pr_model.specs.declared.events.Act.TheVariants.{Turn}
use Rattle.pr_model.specs.declared.events.Actor.TheVariants.{Lwp}
use Rattle.pr_model.specs.declared.events.Did.{Did}
use Rattle.pr_model.specs.declared.events.Did.TheVariants.{Made, Woke}
use Rattle.pr_model.specs.declared.events.Entry.{Entry}
use Rattle.pr_model.specs.declared.events.Res.TheVariants.{Value}
use Rattle.pr_model.specs.declared.events.Turned.{Turned}
use Rattle.pr_num.specs.Sets.{has_number}
use Rattle.pr_num.specs.Syscalls.{is_fork_call, syscall_number}
use Rattle.pr_num.specs.declared.syscalls.Sysno.{Sysno}
use Rattle.pr_num.specs.declared.syscalls.Sysno.TheVariants.{Exec, Vfork}
use Rattle.pr_reached.proofs.Together.ReachedLemmas.{later-reached}
use Rattle.pr_reached.specs.ByteHistories.{HasBytes}
use Rattle.pr_reached.specs.Fits.{IsFitSystem}
use Rattle.pr_report_laws.proofs.Machine.OwnTurnLaws.{event-halts}
use Rattle.pr_report_laws.proofs.Machine.TracedPoints.{StopsAtPicked, listed, told_of, turn-picks}
use Rattle.pr_report_laws.proofs.Watching.HistoryParts.{legal-front}
use Rattle.pr_report_laws.specs.Positions.{HasEvent}
use Rattle.pr_report_laws.specs.Shown.{LwpEvent, picked}
use Rattle.pr_truss.specs.FunctionEvents.{copies_memory, function_event, keeps_memory}
use Rattle.pr_truss.specs.Messages.{traced_exits}
use Rattle.pr_truss.specs.Trusses.{TrussState, traced_at}
use Rattle.pr_truss.specs.declared.function_events.FunctionEvent.TheVariants.{Replaced}
use Rattle.pr_truss.specs.declared.marks.Marks.{Marks}
use Rattle.pr_truss.specs.declared.processes.Traced.{Traced}
use Rattle.pr_truss.specs.declared.stages.Stage.{Stage}
use Rattle.pr_truss.specs.declared.stages.Stage.TheVariants.{Running}
use Rattle.pr_truss_laws.proofs.Machine.FrameLemmas.{was-made}
use Rattle.pr_truss_laws.proofs.Machine.OverLemmas.{stays-made}
use Rattle.pr_truss_laws.proofs.Machine.StillLemmas.{frozen-turns}
use Rattle.pr_truss_laws.specs.Exchanges.{exchange_of, exchanges}
use Rattle.pr_truss_laws.specs.Stills.{IsFrozen, IsHalting}
use Rattle.pr_truss_laws.specs.Told.{told}
use Rattle.pr_function_laws.proofs.Stepping.BreakpointLemmas.{foreign-entry}
use Rattle.pr_function_laws.proofs.Pending.EventTurns.{LeavesEvent, turn-leaves}
use Rattle.pr_function_laws.proofs.Pending.FrontLemmas as fronts
use Rattle.pr_function_laws.proofs.OpenedProcesses.OpenedCalls.{IsSo}
use Rattle.pr_function_laws.proofs.OpenedProcesses.OpenedLaws.{Goes, bytes-front, few-there, foreign-sets, goes-holds, holds-opened, still-there}
use Rattle.pr_function_laws.proofs.OpenedProcesses.OpenedLemmas.{Holds, holds-goes}
use Rattle.pr_function_laws.proofs.Pending.PendingCalls.{IsPending}
use Rattle.pr_function_laws.proofs.Pending.PendingPlaces.{Pends}
use Rattle.pr_function_laws.proofs.Pending.PendingWalk.{On, Pending, first-pends, not-to-run}
use Rattle.pr_function_laws.proofs.OrdinaryTruss.OrdinaryFiles.{run-halfway}
use Rattle.pr_function_laws.proofs.OrdinaryTruss.OrdinaryStops.{FitsAside}
use Rattle.pr_function_laws.proofs.Marks.KeptPlaces.{Kept}
use Rattle.pr_function_laws.specs.OneEvent.{HasOneEventAtMost, is_looked_at}
use Rattle.pr_function_laws.specs.ReachedRuns.{IsReachedFunctionRun}
use Rattle.pr_function_laws.specs.Opened.{IsFunctionRun, TracesAll, WasNotInterrupted, functions_at, is_opened}
use Rattle.pr_function_laws.specs.Runs.{functions_on}
use Rattle.pr_function_hides.proofs.Replacing.CopyCounts.{replaces-copies}
use Rattle.pr_function_hides.proofs.Copying.CopyForeign.{soon-still}
use Rattle.pr_function_hides.proofs.Copying.CopyPlaces.{RestsSo, StandingSo, closes_so, opens_so, rests_new, rests_old, rests_so, runs_so}
use Rattle.pr_function_hides.proofs.StoppedCopies.CopySets.{copying-has}
use Rattle.pr_function_hides.proofs.Copying.CopyWalk as Copies
use Rattle.pr_function_hides.specs.CountedFunctions.{takes_memory}
use Rattle.pr_function_hides.specs.LiftedCopies.{OpensOutOfCopies}

-- An lwp whose vfork or exec was granted, in a process that truss has opened, stands at the exit of the call, which
-- says so; and truss does not look at the process then.

-- ---- the event

-- a vfork or an exec has ended, and gave a value
pub record TellsReplacement (event : Event) : Type 0 where
  pub call : Sysno
  pub arguments : List ℕ
  pub value : ℕ
  pub is : event ≡ Left call arguments (Ok value)
  pub its : replaces call ≡ true

module _ (o : Options) (m : Marks) (of : ℕ) where
  left-replaces : (call : Sysno) (arguments : List ℕ) (value : ℕ) → replaces call ≡ true
      → function_event o m of (Left call arguments (Ok value)) ≡ Replaced
  unfolding function_event copies_memory is_fork_call keeps_memory
  left-replaces Vfork arguments value is = refl
  left-replaces Exec arguments value is = refl
  left-replaces _ arguments value is = absurd (false≢true is)

  -- it says to truss that the memory was replaced
  pub tells-replaced : (event : Event) → TellsReplacement event → function_event o m of event ≡ Replaced
  tells-replaced event w = ap (function_event o m of) w.is ∙ left-replaces w.call w.arguments w.value w.its

-- ---- what is traced

-- the exit of a vfork or an exec
abbrev ends_replacement : Event → Bool
ends_replacement (Left call arguments result) = replaces call
ends_replacement event = false

-- a process that truss has opened stops there
exits-stop : (o : Options) (c : TracedControl) → TracesAll o c → StopsAtPicked c ends_replacement
unfolding is_traced
exits-stop o c all = record {
  entry = λ call args off. refl;
  exit = λ call args r off. elim (cases_Bool (replaces call)) [
    | inl is ↦ absurd
        (false≢true (sym off ∙ ap (λ w. has_number w (syscall_number call)) all.exits
        ∙ copying-has (traced_exits o) call (replaces-copies call is)))
    | inr none ↦ none
  ];
  signal = λ g d info not_kill off. refl;
  fault = λ f pc off. refl;
}

-- ---- what the machine logs

-- the event of such a turn
record Logs (p : TracedProcess) (l : TracedLwp) (new : Option TracedLwp) (id : ℕ) (did : Did) : Type 0 where
  event : Event
  tells : TellsReplacement event
  lists : listed id (told_of ends_replacement (event_of p l new did)) ≡ record { id = id; event = event } ∷ []

module _ (p : TracedProcess) (l : TracedLwp) (new : Option TracedLwp) (id : ℕ) where
  -- it is told as the exit of the call
  logs-left : (call : Sysno) (value : ℕ) → replaces call ≡ true → (did : Did)
      → told_of ends_replacement (event_of p l new did)
      ≡ cond (replaces call) (Some (Left call (arguments_in l.regs l.phase) (Ok value))) None → Logs p l new id did
  logs-left call value is did same = record {
    event = Left call (arguments_in l.regs l.phase) (Ok value);
    tells = record {
      call = call;
      arguments = arguments_in l.regs l.phase;
      value = value;
      is = refl;
      its = is;
    };
    lists =
        ap (listed id)
        (same ∙ ap (λ b. cond b (Some (Left call (arguments_in l.regs l.phase) (Ok value))) None) is);
  }

  logs-by : (did : Did) → takes_memory did ≡ true → Logs p l new id did
  unfolding event_of told
  logs-by (Made call (Value value)) takes = logs-left call value takes (Made call (Value value)) refl
  logs-by (Woke call (Value value)) takes = logs-left call value takes (Woke call (Value value)) refl
  logs-by _ takes = absurd (false≢true takes)

-- ---- the turn

module _ (n k : ℕ) (o : Options) (s : TracedState) (h : List Entry) (run : IsReachedFunctionRun n k o s h)
    (front back : List Entry) (place id : ℕ) (turned : Turned) (is : h
    ≡ front ++ record { actor = Lwp (traced_at (functions_at k o front) place).pid id; act = Turn turned } ∷ back)
    (calm : All WasNotInterrupted (exchanges k front)) (within : place < length (functions_at k o front).traced)
    (opened : is_opened (functions_at k o front).stage place ≡ true) (takes : takes_memory turned.did ≡ true)
    (new : (traced_at (functions_at k o front) place).old ≡ 0) where
  abbrev t : TrussState
  t = functions_at k o front

  abbrev was : Traced
  was = traced_at t place

  abbrev pid : ℕ
  pid = was.pid

  abbrev now : TracedState
  now = state_after s front

  abbrev e : Entry
  e = record { actor = Lwp pid id; act = Turn turned }

  here : Goes ⊥ k o t now
  here = fronts.here n k o s h run.of front e back is calm

  legal : IsLegalEntry n now e
  legal = fronts.legal n k o s h run.of front e back is calm

  abbrev Took : TracedSystem → Type 0
  Took u = turn_of now.system pid id ≡ Some (record { system = u; turned = turned })

  its-turn : (u : TracedSystem) × Took u
  unfolding IsLegalEntry
  its-turn = legal

  abbrev turn : LwpTurn
  turn = record { system = its-turn.0; turned = turned }

  it : TakesTurn now.system pid id turn
  it = turn-taken now.system pid id turn its-turn.1

  abbrev p : TracedProcess
  p = it.process

  no-turn : {A : Type 0} → IsFrozen p → A
  no-turn frozen =
      absurd (none-some turn (sym (frozen-turns now.system pid p it.live frozen id) ∙ its-turn.1))

  away : is_looked_at t.stage place ≡ false
  away = elim (cases_Bool (is_looked_at t.stage place)) [
    | inl looked ↦ no-turn (still-there n k o s h run front (e ∷ back) is calm place p it.live looked)
    | inr other ↦ other
  ]

  not-run : (let x : TrussState = t in x.stage ≡ Running place) → ⊥
  not-run runs =
      false≢true (sym away ∙ ap (λ (x : Stage). is_looked_at x place) runs ∙ eq-eqb place place refl)

  -- the lwp after the turn, if it is there
  abbrev lwp_later : Option TracedLwp
  lwp_later = lwp_alone (lwp_in_state (after now e) pid id)

  logs : Logs p it.lwp lwp_later id turned.did
  logs = logs-by p it.lwp lwp_later id turned.did takes

  abbrev its-event : LwpEvent
  its-event = let w = logs in record { id = id; event = w.event }

  pub event : Event
  event = let w = logs in w.event

  pub event-tells : TellsReplacement event
  unfolding event
  event-tells = let w = logs in w.tells

  came : picked ends_replacement pid (events_of now e) ≡ its-event ∷ []
  came =
      let w = logs in
      turn-picks ends_replacement now pid id p it.lwp it.live it.there turned ∙ w.lists

  left : LeavesEvent pid id ends_replacement its-event turn
  left =
      let g = here in
      let holds = holds-opened n k o s h run.of in
      let owns = holds.each front (e ∷ back) place is calm within opened in
      let all = owns.traces p it.live in
      let stops = all.stops in
      let at =
      later-reached n s front run.reached (bytes-front front (e ∷ back) (subst HasBytes is run.bytes))
      (legal-front n s front (e ∷ back) (subst (IsLegal n s) is run.of.legal)) in
      turn-leaves now pid id p turn g.lawful.system at.fit it.live its-turn.1 stops.directs ends_replacement
      (exits-stop o p.control all) its-event came
      (few-there n k o s h run front (e ∷ back) is calm place p it.live within opened not-run new)

  no-exchange : exchange_of k e ≡ None
  no-exchange = refl

  turned-now : (after now e).system ≡ turn.system
  unfolding after
  turned-now = ap (λ (x : Option LwpTurn). (after_turn now x).system) its-turn.1

  fits : FitsAside t.aside t.stage
  fits =
      let half = run-halfway n k o s front (e ∷ back) (subst (λ (es : List Entry). IsFunctionRun n k o s es) is run.of)
      in
      let f = half.follows in
      let fit = f.fit in fit.fits

  -- the lwp stands there then
  pub first-pending : Pending k o s was (On (record { id = id; event = event })) (front ++ e ∷ [])
  unfolding event
  first-pending =
      let g = here in
      let f = foreign-entry n k now e legal no-exchange in
      let files : Holds k t.options now None was.pid was.control was.status was.lstatus was.memory =
      goes-holds ⊥ k o t now g place within opened in
      let holds : Holds k o now None was.pid was.control was.status was.lstatus was.memory =
      subst (λ (y : Options). Holds k y now None was.pid was.control was.status was.lstatus was.memory) g.options
      files in
      let w = left in
      record {
        pends = subst (Kept (Pends was.pid was))
            (sym (fronts.pushed n k o s h run.of front e back is calm ∙ ap (functions_on t) no-exchange))
            (first-pends (IsSo ⊥ k t.options now) t g.kept place within new fits opened
            (not-to-run t.stage place away));
        is = subst (λ (u : TracedState). IsPending k o was (On its-event) u)
            (sym (fronts.next-state n k o s h run.of front e back is calm)) (record {
              holds = holds-goes k o now (after now e) None was.pid was.control was.status was.lstatus was.memory
                  (λ m held there own. f.handles m ∙ there)
                  (foreign-sets n k now g.lawful e.actor e.act legal f was.pid was.control holds.its) holds;
              has = λ q live.
                  subst (λ (x : TracedProcess). HasEvent x id its-event.event)
                  (same_Some w.process q
                  (sym w.live ∙ ap (λ (x : TracedSystem). live_process x was.pid) (sym turned-now) ∙ live)) w.has;
            });
      }

  -- its id was given out
  pub made-later : pid < (state_after s (front ++ e ∷ [])).system.made
  made-later =
      let g = here in
      let lawful = g.lawful in
      subst (λ (u : TracedState). pid < u.system.made) (sym (fronts.next-state n k o s h run.of front e back is calm))
      (stays-made n now e pid lawful legal
      (was-made pid now.system p lawful.system (found-live now.system pid p it.live).0))

  -- truss is where it was
  pub truss-later : functions_at k o (front ++ e ∷ []) ≡ t
  truss-later = fronts.pushed n k o s h run.of front e back is calm ∙ ap (functions_on t) no-exchange

-- ---- whatever truss does

-- A turn that takes the memory, in a process that stops at the exits of such calls and in which one lwp at most stands
-- on an event, leaves each lwp of the process standing, or such that it will stop before it does anything.
module _ (o : Options) (s : TracedState) (lawful : IsLawfulSystem s.system) (fit : IsFitSystem s.system) (pid id : ℕ)
    (turn : LwpTurn) (took : turn_of s.system pid id ≡ Some turn) (takes : takes_memory turn.turned.did ≡ true) where
  taking : TakesTurn s.system pid id turn
  taking = turn-taken s.system pid id turn took

  abbrev its_entry : Entry
  its_entry = record { actor = Lwp pid id; act = Turn turn.turned }

  abbrev lwp_behind : Option TracedLwp
  lwp_behind = lwp_alone (lwp_in_state (after s its_entry) pid id)

  its-logs : Logs taking.process taking.lwp lwp_behind id turn.turned.did
  its-logs = logs-by taking.process taking.lwp lwp_behind id turn.turned.did takes

  abbrev event_behind : LwpEvent
  event_behind = let w = its-logs in record { id = id; event = w.event }

  picked-so : picked ends_replacement pid (events_of s its_entry) ≡ event_behind ∷ []
  picked-so =
      let w = its-logs in
      turn-picks ends_replacement s pid id taking.process taking.lwp taking.live taking.there turn.turned ∙ w.lists

  pub taking-halts : (p q : TracedProcess) → live_process s.system pid ≡ Some p → TracesAll o p.control
      → HasOneEventAtMost p → live_process turn.system pid ≡ Some q → IsHalting q
  taking-halts p q live all few later =
      let stops = all.stops in
      let w =
      turn-leaves s pid id p turn lawful fit live took stops.directs ends_replacement (exits-stop o p.control all)
      event_behind picked-so few in
      subst IsHalting (same_Some w.process q (sym w.live ∙ later))
      (event-halts w.process id event_behind.event w.has)

-- ---- stops that stood before truss came

module _ (n k : ℕ) (o : Options) (s : TracedState) (h : List Entry) (run : IsReachedFunctionRun n k o s h)
    (opens : OpensOutOfCopies k o s h) (front back : List Entry) (place id : ℕ) (turned : Turned)
    (is : h
    ≡ front ++ record { actor = Lwp (traced_at (functions_at k o front) place).pid id; act = Turn turned } ∷ back)
    (calm : All WasNotInterrupted (exchanges k front)) (within : place < length (functions_at k o front).traced)
    (opened : is_opened (functions_at k o front).stage place ≡ true) where
  abbrev t_then : TrussState
  t_then = functions_at k o front

  abbrev was_then : Traced
  was_then = traced_at t_then place

  abbrev now_then : TracedState
  now_then = state_after s front

  abbrev e_then : Entry
  e_then = record { actor = Lwp was_then.pid id; act = Turn turned }

  took-then : (u : TracedSystem) × (turn_of now_then.system was_then.pid id
      ≡ Some (record { system = u; turned = turned }))
  unfolding IsLegalEntry
  took-then = fronts.legal n k o s h run.of front e_then back is calm

  turn-then : TakesTurn now_then.system was_then.pid id (record { system = took-then.0; turned = turned })
  turn-then =
      turn-taken now_then.system was_then.pid id (record { system = took-then.0; turned = turned }) took-then.1

  no-turn-then : {A : Type 0} → IsFrozen turn-then.process → A
  no-turn-then frozen =
      absurd (none-some (let x : LwpTurn = record { system = took-then.0; turned = turned } in x)
      (sym (frozen-turns now_then.system was_then.pid turn-then.process turn-then.live frozen id) ∙ took-then.1))

  -- no stop is left that stood before truss came
  pub none-old : was_then.old ≡ 0
  none-old =
      let st = Copies.stands-after n k o s h run opens front (e_then ∷ back) is calm in
      let c = st.copies in by (c.each place within turn-then.process turn-then.live)
    where
      not-opened : not (place == place) ≡ true → ⊥
      not-opened on = false≢true (sym (ap not (eq-eqb place place refl)) ∙ on)

      rests : RestsSo was_then turn-then.process → was_then.old ≡ 0
      rests (rests_new none stands) = none
      rests (rests_old flags some w) = no-turn-then w.frozen

      by : StandingSo t_then place turn-then.process → was_then.old ≡ 0
      by (rests_so other w) = rests w
      by (opens_so step at w) =
          absurd (not-opened (ap (λ (x : Stage). is_opened x place) (sym at) ∙ opened))
      by (closes_so next at w) =
          absurd (not-opened (ap (λ (x : Stage). is_opened x place) (sym at) ∙ opened))
      by (runs_so soon w) =
          no-turn-then
          (soon-still n k o t_then now_then
          (Copies.goes n k o s h run opens front back e_then is calm) place soon turn-then.process
          turn-then.live)
