use Rattle.std.proofs.Common.{◌≡◌, ◌<◌, ◌==◌, ◌++◌, ℕ, true, false, Option, Some, None, List, [], ◌∷◌, length, refl, sym, subst, ap, ◌∙◌, arith, inl, inr}
use Rattle.std.proofs.lemmas.Bool.{false≢true}
use Rattle.std.proofs.lemmas.Option.{none-some, same_Some, slice_get_within}
use Rattle.std.specs.List.{All, cons_option}
use Rattle.std.specs.Option.{option_and_then}
use Rattle.pr_lawful.proofs.ProcessParts.HandleLemmas.{handle-at}
use Rattle.pr_lawful.proofs.LawfulStates.HistoryLemmas.{history-state}
use Rattle.pr_lawful.proofs.Following.UseLemmas.{live-lawful}
use Rattle.pr_line.specs.Events.{event_of}
use Rattle.pr_line.specs.declared.events.Event.TheVariants as event
use Rattle.pr_model.specs.Calls.{answer_to}
use Rattle.pr_model.specs.Handles.{handle_of}
use Rattle.pr_model.specs.Lawful.{IsLawful}
use Rattle.pr_model.specs.Legal.{after, state_after}
use Rattle.pr_model.specs.Points.{stop_at}
use Rattle.pr_model.specs.Registers.{pc_of}
use Rattle.pr_model.specs.Replies.{bytes_in, no_handle}
use Rattle.pr_model.specs.State.{TracedLwp, TracedProcess, TracedState, has_agent, lwp_of}
use Rattle.pr_model.specs.Statuses.{lwpstatus_of, status_of, status_of_found}
use Rattle.pr_model.specs.Stops.{representative}
use Rattle.pr_model.specs.declared.calls.Call.{Call}
use Rattle.pr_model.specs.declared.calls.File.TheVariants.{Status}
use Rattle.pr_model.specs.declared.calls.Mode.TheVariants.{Read}
use Rattle.pr_model.specs.declared.events.Act.TheVariants.{Turn}
use Rattle.pr_model.specs.declared.events.Actor.TheVariants.{Lwp}
use Rattle.pr_model.specs.declared.events.Did.TheVariants.{Faulted}
use Rattle.pr_model.specs.declared.events.Entry.{Entry}
use Rattle.pr_model.specs.declared.events.Turned.{Turned}
use Rattle.pr_model.specs.declared.handles.Held.{Held}
use Rattle.pr_model.specs.declared.stops.Point.{Point}
use Rattle.pr_model.specs.declared.stops.Point.TheVariants.{Signal, Fault, Entry as AtEntry, Exit as AtExit}
use Rattle.pr_model.specs.declared.stops.Stop.TheVariants as stop
use Rattle.pr_num.specs.ById.{IsRising}
use Rattle.pr_num.specs.declared.faults.Flt.TheVariants.{Bpt, Trace}
use Rattle.pr_rec.specs.declared.lwps.LwpStatus.{LwpStatus}
use Rattle.pr_report_laws.proofs.Files.WatchHistories.{exchanges-push}
use Rattle.pr_report_laws.proofs.Machine.RecordLaws.{status-read}
use Rattle.pr_report_laws.proofs.SeenChildren.Splits.{Compares, ahead, behind, compare, same}
use Rattle.pr_report_laws.proofs.Watching.HistoryParts.{legal-rest}
use Rattle.pr_report_laws.specs.AtBirth.{is_met_if}
use Rattle.pr_truss.specs.Asides.{marks_at}
use Rattle.pr_truss.specs.FunctionCalls.{next_function_call_of}
use Rattle.pr_truss.specs.FunctionEvents.{step_of}
use Rattle.pr_truss.specs.FunctionFeeding.{fed_functions}
use Rattle.pr_truss.specs.Marks.{address_of, has_functions}
use Rattle.pr_truss.specs.NextCalls.{read_record}
use Rattle.pr_truss.specs.Records.{status_lwp}
use Rattle.pr_truss.specs.Trusses.{TrussState, traced_at}
use Rattle.pr_truss.specs.declared.asides.Aside.TheVariants.{Nothing}
use Rattle.pr_truss.specs.declared.marks.Stepped.{Stepped}
use Rattle.pr_truss.specs.declared.processes.Traced.{Traced}
use Rattle.pr_truss.specs.declared.reports.Report.{Report}
use Rattle.pr_truss.specs.declared.reports.Report.TheVariants.{Called}
use Rattle.pr_truss_laws.proofs.Replies.FunctionOptionLemmas.{fed_functions-options}
use Rattle.pr_truss_laws.proofs.Files.OpensLemmas.{held_by}
use Rattle.pr_truss.specs.declared.stages.Stage.TheVariants.{ReadingStatus}
use Rattle.pr_truss_laws.specs.Exchanges.{Exchange, exchanges}
use Rattle.pr_truss_laws.specs.Stills.{IsFrozen, stands_still}
use Rattle.pr_function_laws.proofs.Stepping.AwayLemmas.{Away, IsKnownAs, Own, ReadsOwn, reads-own}
use Rattle.pr_function_laws.proofs.Stepping.BreakpointLemmas.{makes, own-entry}
use Rattle.pr_function_laws.proofs.Marks.LiftLemmas.{LookCall, Looks, call-looks, met_at, patches, steps}
use Rattle.pr_function_laws.proofs.OpenedProcesses.OneEventLemmas.{met-leads, stands-alone}
use Rattle.pr_function_laws.proofs.OpenedProcesses.OneEventTurns.{point-met}
use Rattle.pr_function_laws.proofs.CallTurns.TurnPoints.{did_at}
use Rattle.pr_function_laws.proofs.CallTurns.TurnReads.{ShownLwp, ShowsCall, fault-told, fresh-new, shown-lwp, shows-call, step-told, tells-call, told-stop}
use Rattle.pr_function_laws.proofs.CallTurns.TurnStarts as starts
use Rattle.pr_function_laws.proofs.CallTurns.TurnStarts.{among-none}
use Rattle.pr_function_laws.proofs.CallTurns.TurnStates.{Steps}
use Rattle.pr_function_laws.proofs.CallTurns.TurnWalks as walks
use Rattle.pr_function_laws.proofs.CallTurns.TurnWalks.{After, AreNoReads, Comes, Files, Going, Turns, after-on}
use Rattle.pr_function_laws.specs.Calls.{call_told}
use Rattle.pr_function_laws.specs.Lifted.{GoesElsewhere, IsAtStopAtBreakpoint, ReadsOnlyLast}
use Rattle.pr_function_laws.specs.Met.{arguments_of}
use Rattle.pr_function_laws.specs.OneEvent.{HasOneEventAtMost}
use Rattle.pr_function_laws.specs.Runs.{MakesFunctionCalls, functions_after, functions_on}
use Rattle.pr_function_laws.specs.Stretches.{acts_by}
use Rattle.pr_function_laws.specs.Turns.{CompletesOnce, HasOneTurn, HasTrap, IsNoTurnOf, ReadsAgain, TellsItsTurn, TellsOfLwp, TurnsOnce, call_of_stop, first_arguments, told_again}

-- A call that is told at the read after a breakpoint is the one turn that the lwp had since, and the other way round.

-- ---- lists of exchanges

makes-last : (t : TrussState) (xs : List Exchange) (y : Exchange) → MakesFunctionCalls t (xs ++ y ∷ [])
    → next_function_call_of (functions_after t xs) ≡ Some y.call
makes-last t [] y makes_all = makes_all.0
makes-last t (x ∷ xs) y makes_all = makes-last (fed_functions t x.reply) xs y makes_all.1

pub reads-none : (status : ℕ) (xs : List Exchange) (y : Exchange) → ReadsOnlyLast status (xs ++ y ∷ [])
    → AreNoReads status xs
reads-none status [] y last = tt
reads-none status (x ∷ xs) y (inl quiet) = (quiet.0, reads-none status xs y quiet.1)
reads-none status (x ∷ xs) y (inr ends) = absurd (nothing xs ends.1)
  where
    nothing : (zs : List Exchange) → zs ++ y ∷ [] ≡ [] → ⊥
    nothing [] is = cc
    nothing (z ∷ zs) is = cc

has-after : (t : TrussState) (xs : List Exchange) → has_functions t.options ≡ true
    → has_functions (functions_after t xs).options ≡ true
has-after t [] has = has
has-after t (x ∷ xs) has =
    has-after (fed_functions t x.reply) xs (ap has_functions (fed_functions-options t x.reply) ∙ has)

-- ---- one turn among entries

act-same : (t u : Turned) → Turn t ≡ Turn u → t ≡ u
act-same t u is = cc

turned-same : (pid id : ℕ) (t u : Turned)
    → record { actor = Lwp pid id; act = Turn t } ≡ (let f : Entry = record { actor = Lwp pid id; act = Turn u } in f)
    → t ≡ u
turned-same pid id t u is = act-same t u (ap (λ (f : Entry). f.act) is)

only-turn : (pid id : ℕ) (before later us vs h : List Entry) (t u : Turned) → HasOneTurn pid id before t later h
    → h ≡ us ++ record { actor = Lwp pid id; act = Turn u } ∷ vs → t ≡ u
only-turn pid id before later us vs h t u one is =
    by (compare before us (record { actor = Lwp pid id; act = Turn t }) (record { actor = Lwp pid id; act = Turn u })
    later vs (sym one.is ∙ is))
  where
    by : Compares before (record { actor = Lwp pid id; act = Turn t }) later us
        (record { actor = Lwp pid id; act = Turn u }) vs → t ≡ u
    by (behind between first second) =
        absurd (among-none pid id u us between (subst (All (IsNoTurnOf pid id)) first one.none_before))
    by (same first turn second) = turned-same pid id t u turn
    by (ahead between first second) =
        absurd (among-none pid id u between vs (subst (All (IsNoTurnOf pid id)) second one.none_later))

-- ---- points

trap-did : (point : Point) → stop_at point ≡ stop.Faulted Trace → did_at point ≡ Faulted Trace
trap-did (Fault f) is = let same_fault : f ≡ Trace = cc in ap (λ x. Faulted x) same_fault
trap-did (Signal g) is = cc
trap-did (AtEntry call) is = cc
trap-did (AtExit call) is = cc

trap-stop : (point : Point) → did_at point ≡ Faulted Trace → stop_at point ≡ stop.Faulted Trace
trap-stop (Fault f) is = let same_fault : f ≡ Trace = cc in ap (λ x. stop.Faulted x) same_fault
trap-stop (Signal g) is = cc
trap-stop (AtEntry call) is = cc
trap-stop (AtExit call) is = cc

open-few : (k m : ℕ) (s : TracedState) (held : Held) → IsLawful s → handle_of s.opens k m ≡ Some held → m < no_handle
open-few k m s held lawful there =
    omega (arith, slice_get_within s.opens m (Some held) (handle-at s.opens k m held there), lawful.places)

-- ---- between the two reads

module _ (n k : ℕ) (t : TrussState) (place ns pid id : ℕ) (s : TracedState) (e : Entry) (between : List Entry)
    (again : Entry) (w : ReadsAgain n k t place ns pid id s e between again) where
  abbrev here : IsAtStopAtBreakpoint n k t place ns pid id s e (between ++ again ∷ [])
  here = w.stop

  abbrev c : ℕ
  c = (traced_at t place).control

  abbrev first_lwp : LwpStatus
  first_lwp = let m = here.meets in m.l

  abbrev function : ℕ
  function = let m = here.meets in m.function

  abbrev met : Traced
  met = met_at t place first_lwp function

  abbrev now : TracedState
  now = after s e

  abbrev begun : TrussState
  begun = let x = here.x in fed_functions t x.reply

  abbrev last_state : TracedState
  last_state = state_after now between

  abbrev met_later : TrussState
  met_later = functions_after begun (exchanges k between)

  -- ---- the first read

  abbrev lwp-then : ShownLwp here.process first_lwp
  lwp-then = starts.lwp-then n k t place ns pid id s e (between ++ again ∷ []) here

  -- the lwp as it stood at the breakpoint
  abbrev stood : TracedLwp
  stood = let x = lwp-then in x.lwp

  first-id : first_lwp.id ≡ id
  first-id = starts.first-id n k t place ns pid id s e (between ++ again ∷ []) here

  lwp-stop : stood.control.stop ≡ Some (stop.Faulted Bpt)
  lwp-stop = starts.lwp-stop n k t place ns pid id s e (between ++ again ∷ []) here

  lwp-regs : stood.regs ≡ first_lwp.regs
  lwp-regs = starts.lwp-regs n k t place ns pid id s e (between ++ again ∷ []) here

  stands-at : pc_of stood.regs ≡ address_of t.options function
  stands-at = starts.stands-at n k t place ns pid id s e (between ++ again ∷ []) here

  -- ---- on the way

  pushed : exchanges k (between ++ again ∷ []) ≡ exchanges k between ++ w.y ∷ []
  pushed =
      exchanges-push k between again
      ∙ ap (λ (o : Option Exchange). exchanges k between ++ cons_option o []) w.own

  makes-all : MakesFunctionCalls begun (exchanges k between ++ w.y ∷ [])
  makes-all =
      subst (MakesFunctionCalls begun) pushed (makes n k t place ns pid id s e (between ++ again ∷ []) here).1

  begun-has : has_functions begun.options ≡ true
  begun-has = let x = here.x in ap has_functions (fed_functions-options t x.reply) ∙ here.has

  going : Going n k pid id c ns met place stood begun now between
  going =
      starts.going-front n k t place ns pid id s e (between ++ again ∷ []) here between (again ∷ []) refl
      (reads-none ns (exchanges k between) w.y (subst (ReadsOnlyLast ns) pushed here.reads_last))

  came : Comes n k pid id c ns met place stood begun now between
  came =
      starts.came-front n k t place ns pid id s e (between ++ again ∷ []) here between (again ∷ []) refl
      (reads-none ns (exchanges k between) w.y (subst (ReadsOnlyLast ns) pushed here.reads_last))

  -- ---- the second read

  lawful-then : IsLawful last_state
  lawful-then =
      let g = going in history-state n now between g.lawful g.legal

  next-call : next_function_call_of met_later ≡ Some (read_record (Some ns))
  next-call = makes-last begun (exchanges k between) w.y makes-all ∙ ap (λ d. Some d) w.reads

  later-has : has_functions met_later.options ≡ true
  later-has = has-after begun (exchanges k between) begun-has

  -- truss does not look at the process any more
  look-acts : (d : Call) → LookCall (GoesElsewhere k pid last_state) c ns met place met_later.options d
      → acts_by d ≡ Some c
  look-acts d steps = refl
  look-acts d (patches f code) = refl

  not-looking : {A : Type 0} → Looks (GoesElsewhere k pid last_state) c ns met place met_later → A
  not-looking look =
      absurd (none-some c
      (look-acts (read_record (Some ns))
      (call-looks (GoesElsewhere k pid last_state) c ns met place met_later look later-has (read_record (Some ns))
      next-call)))

  -- what it is told
  told-then : (f : Files n k pid id c ns met place stood last_state) → option_and_then status_lwp (bytes_in w.y.reply)
      ≡ Some (status_of_found w.process (representative w.process))
  unfolding status_of
  told-then f =
      let legal = legal-rest n now between (again ∷ []) here.legal.1 in
      let own = own-entry n k last_state again w.y legal.0 w.own in
      let sees =
      status-read last_state k ns (held_by k pid 0 Status Read) f.status own.answer w.process w.live refl w.ranged
      (ap (answer_to last_state k) (sym w.reads) ∙ own.is) in
      ap (λ r. option_and_then status_lwp (bytes_in r)) (sym own.replied) ∙ sees.lwp

  rises-then : IsRising w.process.lwps
  rises-then =
      let lawful = lawful-then in
      let l = live-lawful last_state.system pid w.process lawful.system w.live in l.rising

  abbrev last_lwp : LwpStatus
  last_lwp = status_of_found w.process (representative w.process)

  module _ (it : Away (GoesElsewhere k pid last_state) c ns met met_later)
      (f : Files n k pid id c ns met place stood last_state) where
    reading : ReadsOwn (GoesElsewhere k pid last_state) c ns met met_later
    reading =
        reads-own (GoesElsewhere k pid last_state) c ns met met_later it
        (open-few k ns last_state (held_by k pid 0 Status Read) lawful-then f.status)
        (λ goes. goes (held_by k pid 0 Status Read) f.status refl) later-has next-call

    known : IsKnownAs met (traced_at met_later (let x = reading in x.place))
    known =
        let x = reading in
        let own : Own (GoesElsewhere k pid last_state) c ns met (traced_at met_later x.place) = x.own in own.known

    under-way : (marks_at met_later (let x = reading in x.place)).stepped ≡ Some (step_of first_lwp function)
    under-way = let x = known in x.stepped

    step-lwp : (step_of first_lwp function).lwp ≡ id
    unfolding step_of
    step-lwp = first-id

    -- a call that is told there
    module _ (rpt : Report) (is : call_told met_later w.y.reply ≡ rpt ∷ []) where
      shows : ShowsCall met_later w.y.reply (let x = reading in x.place) (let x = reading in x.idle)
          (let x = reading in x.reads) last_lwp (told-then f) rpt
      shows =
          let x = reading in
          shows-call met_later w.y.reply x.place x.idle x.reads last_lwp (told-then f) rpt is

      step-same : (let x = shows in x.step) ≡ step_of first_lwp function
      step-same = let x = shows in same_Some _ _ (sym x.under_way ∙ under-way)

      last-id : last_lwp.id ≡ id
      last-id =
          let x = shows in sym x.own ∙ ap (λ (y : Stepped). y.lwp) step-same ∙ step-lwp

      call-is : rpt ≡ call_of_stop n k t place ns pid id s e between again w
      unfolding step_of
      call-is =
          let x = shows in
          let y = known in
          x.is ∙ ap (λ (z : Stepped). Called (traced_at met_later (let r = reading in r.place)).pid z.lwp z.function
          z.arguments) step-same
          ∙ ap (λ number. Called number first_lwp.id function (arguments_of first_lwp)) y.pid
          ∙ ap (λ own. Called (traced_at t place).pid own function (arguments_of first_lwp)) first-id

      -- the lwp stands at the trace trap
      record Trapped : Type 0 where
        lwp : TracedLwp
        there : lwp_of w.process id ≡ Some lwp
        stop : lwp.control.stop ≡ Some (stop.Faulted Trace)

      trapped : Trapped
      trapped =
          let x = shows in
          let l = shown-lwp w.process last_lwp (event.Incurred Trace x.pc) rises-then refl x.stands in
          record {
            lwp = l.lwp;
            there = ap (lwp_of w.process) (sym last-id) ∙ l.there;
            stop = told-stop w.process last_lwp.id l.lwp Trace x.pc (ap event_of (sym l.is) ∙ x.stands);
          }

  -- ---- a call that is told is its turn

  -- one that has not had its turn stands at no trace trap
  not-trapped : {A : Type 0} → Steps id stood w.process → (l : TracedLwp) → lwp_of w.process id ≡ Some l
      → l.control.stop ≡ Some (stop.Faulted Trace) → A
  not-trapped x l there at =
      let stepped = x.stepped in
      let one : x.lwp ≡ l = same_Some x.lwp l (sym stepped.there ∙ there) in
      absurd (none-some _ (sym x.no_stop ∙ ap (λ (y : TracedLwp). y.control.stop) one ∙ at))

  regs-holds : (l : TracedLwp) → l.regs ≡ stood.regs → pc_of l.regs ≡ address_of t.options function
  regs-holds l is = ap pc_of is ∙ stands-at

  completes : (before later : List Entry) (did : Turned) (point : Point)
      → HasOneTurn pid id before did later between → Turns pid id stood (state_after now before) did point
      → did_at point ≡ Faulted Trace
      → CompletesOnce pid id now between (address_of t.options function) (arguments_of first_lwp)
  completes before later did point one facts trap =
      let x : Steps id stood facts.process = facts.steps in
      let stepped = x.stepped in
      record {
        before = before;
        turned = did;
        later = later;
        one = one;
        completes = record {
          process = facts.process;
          live = facts.live;
          lwp = x.lwp;
          there = stepped.there;
          in_program = stepped.in_program;
          stands = regs-holds x.lwp x.holds;
          holds = ap first_arguments (x.holds ∙ lwp-regs);
          ran = facts.ran (facts.did ∙ trap);
          trapped = facts.did ∙ trap;
        };
      }

  told-same : told_again n k t place ns pid id s e between again w ≡ call_told met_later w.y.reply
  told-same =
      ap (λ u. call_told u w.y.reply)
      (after-on n k pid id c ns met place stood t e between
      ∙ ap (λ o. functions_after (functions_on t o) (exchanges k between)) here.own)

  tells-turn : (rpt : Report) → call_told met_later w.y.reply ≡ rpt ∷ []
      → TellsItsTurn n k t place ns pid id s e between again w rpt
  tells-turn rpt is = by came
    where
      by : Comes n k pid id c ns met place stood begun now between
          → TellsItsTurn n k t place ns pid id s e between again w rpt
      by (walks.no_turn none (walks.looks look f lives)) = not-looking look
      by (walks.no_turn none (walks.aways it f lives)) =
          let l = trapped it f rpt is in not-trapped (lives w.process w.live) l.lwp l.there l.stop
      by (walks.one_turn before later did point one facts a) =
          let f : Files n k pid id c ns met place stood last_state = a.files in
          let l = trapped a.away f rpt is in
          let had = a.had w.process w.live in
          record {
            call = call-is a.away f rpt is;
            turn = completes before later did point one facts
                (trap-did point (same_Some _ _ (sym (had.own l.lwp l.there) ∙ l.stop)));
          }
      by (walks.ends gone) = absurd (none-some w.process (sym gone ∙ w.live))

  pub told-is-turn : (rpt : Report) → told_again n k t place ns pid id s e between again w ≡ rpt ∷ []
      → TellsItsTurn n k t place ns pid id s e between again w rpt
  told-is-turn rpt is = tells-turn rpt (sym told-same ∙ is)

  -- ---- its turn is told

  module _ (trap : HasTrap pid id between) (x : TellsOfLwp w.y.reply id) where
    last-is : Files n k pid id c ns met place stood last_state → last_lwp ≡ x.l
    last-is f = same_Some _ _ (sym (told-then f) ∙ x.told)

    tells : (it : Away (GoesElsewhere k pid last_state) c ns met met_later)
        → (f : Files n k pid id c ns met place stood last_state) → (pc : ℕ)
        → event_of last_lwp ≡ Some (event.Incurred Trace pc)
        → call_told met_later w.y.reply ≡ call_of_stop n k t place ns pid id s e between again w ∷ []
    unfolding step_of
    tells it f pc on =
        let r = reading it f in
        let y = known it f in
        let m = here.meets in
        let new = fresh-new (traced_at t place) first_lwp m.event m.fresh in
        tells-call met_later w.y.reply r.place r.idle r.reads last_lwp (told-then f) pc (step_of first_lwp function) on
        (under-way it f) (first-id ∙ sym (ap (λ (l : LwpStatus). l.id) (last-is f) ∙ x.its))
        (ap (λ o. o == 0) y.old ∙ new.new) (y.seen ∙ new.unseen)
        ∙ ap (λ number. Called number first_lwp.id function (arguments_of first_lwp) ∷ []) y.pid
        ∙ ap (λ own. Called (traced_at t place).pid own function (arguments_of first_lwp) ∷ []) first-id

    trap-told : (point : Point) → did_at point ≡ Faulted Trace
        → (a : After n k pid id c ns met place stood point met_later last_state)
        → call_told met_later w.y.reply ≡ call_of_stop n k t place ns pid id s e between again w ∷ []
    trap-told point did a =
        let f : Files n k pid id c ns met place stood last_state = a.files in
        let had = a.had w.process w.live in
        let same_lwp : last_lwp ≡ x.l = last-is f in
        let l = shown-lwp w.process last_lwp x.event rises-then refl (ap event_of same_lwp ∙ x.stands) in
        let own : last_lwp.id ≡ id = ap (λ (y : LwpStatus). y.id) same_lwp ∙ x.its in
        tells a.away f (pc_of l.lwp.regs)
        (ap event_of l.is
        ∙ fault-told w.process last_lwp.id l.lwp Trace
        (had.own l.lwp (ap (lwp_of w.process) (sym own) ∙ l.there) ∙ ap (λ y. Some y) (trap-stop point did)))

    pub turn-is-told : told_again n k t place ns pid id s e between again w
        ≡ call_of_stop n k t place ns pid id s e between again w ∷ []
    turn-is-told = told-same ∙ by came
      where
        by : Comes n k pid id c ns met place stood begun now between
            → call_told met_later w.y.reply ≡ call_of_stop n k t place ns pid id s e between again w ∷ []
        by (walks.no_turn none b) =
            absurd (among-none pid id trap.turned trap.before trap.later (subst (All (IsNoTurnOf pid id)) trap.is none))
        by (walks.one_turn before later did point one facts a) =
            let same_turn : did ≡ trap.turned =
            only-turn pid id before later trap.before trap.later between did trap.turned one trap.is in
            trap-told point (sym facts.did ∙ ap (λ (y : Turned). y.did) same_turn ∙ trap.trapped) a
        by (walks.ends gone) = absurd (none-some w.process (sym gone ∙ w.live))

  -- ---- its turn has come by the second read, and that read tells of it

  -- truss at the second read
  abbrev pub reads_later : TrussState
  reads_later = functions_after t (exchanges k (e ∷ between))

  -- So stands the process then: nothing of it moves, one lwp at most has met an event, and it has no agent.
  pub record StandsThen : Type 0 where
    pub frozen : IsFrozen w.process
    pub few : HasOneEventAtMost w.process
    pub no_agent : has_agent w.process ≡ false

  -- where truss reads the status of that process, of which it knows as many old stops as before
  abbrev pub StandsWhereRead : Type 0
  StandsWhereRead =
      (at : ℕ) → at < length reads_later.traced → reads_later.stage ≡ ReadingStatus at
      → (traced_at reads_later at).pid ≡ (traced_at t place).pid
      → (traced_at reads_later at).old ≡ (traced_at t place).old → StandsThen

  -- Truss reads the status of the process at that place, of which it knows what it knew once it had met the breakpoint.
  pub record ReadsAsMet : Type 0 where
    pub at : ℕ
    pub within : at < length reads_later.traced
    pub reads : reads_later.stage ≡ ReadingStatus at
    pub idle : reads_later.aside ≡ Nothing
    pub known : IsKnownAs met (traced_at reads_later at)

  module _ (first : HasOneEventAtMost here.process) (stands_where : StandsWhereRead) where
    there-first : lwp_of here.process id ≡ Some stood
    there-first = let x = lwp-then in ap (lwp_of here.process) (sym first-id) ∙ x.there

    awake-first : stood.suspended ≡ false
    awake-first =
        let m = stands-alone here.process first id stood there-first (ap is_met_if lwp-stop) in
        let one : m.lwp ≡ stood = same_Some m.lwp stood (sym m.there ∙ there-first) in
        ap (λ (x : TracedLwp). x.suspended) (sym one)
        ∙ m.awake Bpt (ap (λ (x : TracedLwp). x.control.stop) one ∙ lwp-stop)

    same-later : reads_later ≡ met_later
    same-later =
        after-on n k pid id c ns met place stood t e between
        ∙ ap (λ o. functions_after (functions_on t o) (exchanges k between)) here.own

    stands-then : Away (GoesElsewhere k pid last_state) c ns met met_later
        → Files n k pid id c ns met place stood last_state → StandsThen
    stands-then it f =
        let r = reading it f in
        let y = known it f in
        stands_where r.place
        (subst (λ (u : TrussState). r.place < length u.traced) (sym same-later) r.within)
        (ap (λ (u : TrussState). u.stage) same-later ∙ r.reads)
        (ap (λ (u : TrussState). (traced_at u r.place).pid) same-later ∙ y.pid)
        (ap (λ (u : TrussState). (traced_at u r.place).old) same-later ∙ y.old)

    not-still : (l : TracedLwp) → l.control.stop ≡ None → l.suspended ≡ false → stands_still l ≡ true → ⊥
    not-still l none awake still = false≢true (rw (none, awake) at still)

    -- what its turn leaves
    record Came : Type 0 where
      before : List Entry
      later : List Entry
      did : Turned
      point : Point
      one : HasOneTurn pid id before did later between
      facts : Turns pid id stood (state_after now before) did point
      left : After n k pid id c ns met place stood point met_later last_state

    came-once : Came
    came-once = by came
      where
        by : Comes n k pid id c ns met place stood begun now between → Came
        by (walks.no_turn none (walks.looks look f lives)) = not-looking look
        by (walks.no_turn none (walks.aways it f lives)) =
            let st = stands-then it f in
            let x : Steps id stood w.process = lives w.process w.live in
            let stepped = x.stepped in
            absurd (not-still x.lwp x.no_stop (x.suspended ∙ awake-first) (st.frozen.each id x.lwp stepped.there))
        by (walks.one_turn before later did point one facts a) =
            record { before = before; later = later; did = did; point = point; one = one; facts = facts; left = a }
        by (walks.ends gone) = absurd (none-some w.process (sym gone ∙ w.live))

    pub reads-as-met : ReadsAsMet
    reads-as-met =
        let c = came-once in
        let a = c.left in
        let r = reading a.away a.files in
        record {
          at = r.place;
          within = subst (λ (u : TrussState). r.place < length u.traced) (sym same-later) r.within;
          reads = ap (λ (u : TrussState). u.stage) same-later ∙ r.reads;
          idle = ap (λ (u : TrussState). u.aside) same-later ∙ r.idle;
          known = subst (λ (u : TrussState). IsKnownAs met (traced_at u r.place)) (sym same-later)
              (known a.away a.files);
        }

    pub turns-once : TurnsOnce pid id between
    turns-once = let c = came-once in record { before = c.before; turned = c.did; later = c.later; one = c.one }

    -- the lwp is the representative
    module _ (c : Came) where
      abbrev f : Files n k pid id (traced_at t place).control ns met place stood last_state
      f = let a = c.left in a.files

      own-lwp : (l : TracedLwp) × (lwp_of w.process id ≡ Some l)
      own-lwp = let a = c.left in let had = a.had w.process w.live in had.there

      own-stop : (let o = own-lwp in o.0.control.stop) ≡ Some (stop_at c.point)
      own-stop =
          let a = c.left in
          let had = a.had w.process w.live in
          let o = own-lwp in had.own o.0 o.1

      leads : representative w.process ≡ Some (id, let o = own-lwp in o.0)
      leads =
          let a = c.left in
          let st = stands-then a.away f in
          let o = own-lwp in
          let m =
          stands-alone w.process st.few id o.0 o.1 (ap is_met_if own-stop ∙ point-met c.point) in
          met-leads w.process rises-then st.no_agent st.frozen id m
          ∙ ap (λ (l : TracedLwp). Some (id, l)) (same_Some m.lwp o.0 (sym m.there ∙ o.1))

      last-of : last_lwp ≡ lwpstatus_of w.process id (let o = own-lwp in o.0)
      last-of = ap (status_of_found w.process) leads

      status-id : (p : TracedProcess) (own : ℕ) (l : TracedLwp) → (lwpstatus_of p own l).id ≡ own
      unfolding lwpstatus_of
      status-id p own l = refl

      tells-came : TellsOfLwp w.y.reply id
      tells-came =
          let o = own-lwp in
          let facts = c.facts in
          let told = step-told w.process id o.0 c.point facts.kind own-stop in
          record {
            l = last_lwp;
            told = told-then f;
            its = ap (λ (x : LwpStatus). x.id) last-of ∙ status-id w.process id o.0;
            event = told.0;
            stands = ap event_of last-of ∙ told.1.0;
            ends = told.1.1;
          }

    pub tells-of-lwp : TellsOfLwp w.y.reply id
    tells-of-lwp = tells-came came-once
