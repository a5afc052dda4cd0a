use Rattle.std.proofs.Common.{◌≡◌, ◌≢◌, ◌<◌, ◌++◌, ◌⊎◌, ℕ, Bool, true, false, Option, Some, None, List, [], ◌∷◌, length, position, append-nil, refl, sym, subst, ap, ◌∙◌, inl, inr}
use Rattle.std.proofs.lemmas.Bool.{cases_Bool, cases_eq, eq-eqb, eqb-true, false≢true}
use Rattle.std.proofs.lemmas.List.Quantifiers.{position-Some}
use Rattle.std.proofs.lemmas.Option.{none-some, same_Some}
use Rattle.pr_lawful.proofs.LawfulTurns.EndLemmas.{found-live}
use Rattle.pr_lawful.proofs.LawfulStates.HistoryLemmas.{history-state}
use Rattle.pr_lawful.proofs.Following.UseLemmas.{live-lawful}
use Rattle.pr_line.specs.declared.options.Options.{Options}
use Rattle.pr_model.proofs.TurnLemmas.{TakesTurn, turn-taken}
use Rattle.pr_model.specs.Lawful.{IsLawful}
use Rattle.pr_model.specs.Legal.{IsLegalEntry, after, after_turn, state_after}
use Rattle.pr_model.specs.LwpTurns.{LwpTurn, turn_of}
use Rattle.pr_model.specs.Points.{after_meeting}
use Rattle.pr_model.specs.Registers.{pc_of}
use Rattle.pr_model.specs.Rows.{Row, row_for}
use Rattle.pr_model.specs.State.{TracedLwp, TracedProcess, TracedState, TracedSystem, live_process, lwp_of, process_of}
use Rattle.pr_model.specs.declared.events.Act.{Act}
use Rattle.pr_model.specs.declared.events.Act.TheVariants as act
use Rattle.pr_model.specs.declared.events.Actor.{Actor}
use Rattle.pr_model.specs.declared.events.Actor.TheVariants.{Controller, Lwp, Clock}
use Rattle.pr_model.specs.declared.events.Did.{Did}
use Rattle.pr_model.specs.declared.events.Did.TheVariants.{Faulted, Stopped}
use Rattle.pr_model.specs.declared.events.Entry.{Entry}
use Rattle.pr_model.specs.declared.events.Turned.{Turned}
use Rattle.pr_model.specs.declared.stops.Point.{Point}
use Rattle.pr_num.specs.ById.{IsRising}
use Rattle.pr_num.specs.declared.faults.Flt.TheVariants.{Trace}
use Rattle.pr_reached.specs.Fits.{IsFitSystem}
use Rattle.pr_report_laws.proofs.Files.FileLaws.{HasFiles, only-position}
use Rattle.pr_report_laws.proofs.Invariant.StandLemmas.{Each}
use Rattle.pr_report_laws.proofs.Machine.StayingLwps.{keeps-meeting, live-by, row-leaves, settled-to}
use Rattle.pr_report_laws.proofs.Machine.TracedPoints.{fit-process}
use Rattle.pr_report_laws.specs.Watching.{is_away, is_of}
use Rattle.pr_truss.specs.Asides.{marks_at}
use Rattle.pr_truss.specs.Marks.{has_function, standing, with_step}
use Rattle.pr_truss.specs.Trusses.{TrussState, first_truss, nobody, traced_at}
use Rattle.pr_truss.specs.declared.marks.Stepped.{Stepped}
use Rattle.pr_truss.specs.declared.processes.Traced.{Traced}
use Rattle.pr_truss.specs.declared.reports.Report.{Report}
use Rattle.pr_truss_laws.proofs.Files.HeldLemmas.{at_place}
use Rattle.pr_truss_laws.proofs.Machine.HaltLemmas as halt
use Rattle.pr_truss_laws.proofs.Machine.HaltLemmas.{HaltsOn, others-halt}
use Rattle.pr_truss_laws.proofs.Machine.StillLemmas.{frozen-turns, halting-did, halting-leaves, halting-stays}
use Rattle.pr_truss_laws.specs.Exchanges.{exchange_of}
use Rattle.pr_truss_laws.specs.Handles.{HasNoOtherWriter}
use Rattle.pr_truss_laws.specs.Stills.{IsHalting, IsUndisturbed, with_lwp_stopped}
use Rattle.pr_function_laws.proofs.Stepping.BreakpointLemmas.{IsForeign, foreign-entry}
use Rattle.pr_function_laws.proofs.Stepping.HaltingSteps.{turn-is}
use Rattle.pr_function_laws.proofs.LeavingProcesses.LeavingCourse.{entry-legal, files-at, state-next, truss-next}
use Rattle.pr_function_laws.proofs.LeavingProcesses.LeavingHolds.{here-unlooked, leaving-still}
use Rattle.pr_function_laws.proofs.LeavingProcesses.LeftProcesses.{IsLeaving, its-apart, its-control}
use Rattle.pr_function_laws.proofs.Listing.ListedStates as states
use Rattle.pr_function_laws.proofs.Marks.MetLemmas.{found-function}
use Rattle.pr_function_laws.proofs.OpenedProcesses.OpenedLaws.{elsewhere-alone}
use Rattle.pr_function_laws.proofs.OpenedProcesses.OpenedLemmas.{control-made, control-sole}
use Rattle.pr_function_laws.proofs.Stepping.StepLemmas.{other-did, other-leaves}
use Rattle.pr_function_laws.proofs.CallTurns.TurnPoints.{did_at, step-point}
use Rattle.pr_function_laws.proofs.CallTurns.TurnStates.{Had, Lives, Steps, steps-beside}
use Rattle.pr_function_laws.proofs.CallTurns.TurnWalks as walks
use Rattle.pr_function_laws.proofs.CallTurns.TurnWalks.{Passes, others-pass}
use Rattle.pr_function_laws.specs.FunctionTurns.{call_of_turn, calls_of, function_turns, is_process, is_trap}
use Rattle.pr_function_laws.specs.Lifted.{HasControl}
use Rattle.pr_function_laws.specs.ReachedRuns.{IsReachedFunctionRun}
use Rattle.pr_function_laws.specs.Opened.{functions_at}
use Rattle.pr_function_laws.specs.Ordinary.{ordinary}
use Rattle.pr_function_laws.specs.Runs.{functions_on}
use Rattle.pr_function_laws.specs.Turns.{EndsInTrap}
use Rattle.pr_function_hides.proofs.Listed.CallStates.{IsUnder, Listed, Since, Stands, call_of_step, elsewhere-call, gone-next, idle, lost, lost-next, same-listed, since-on, trapped, turns-next}
use Rattle.pr_function_hides.proofs.StepsUnderWay.CallTurns.{MeetsFunction, no-trap, step-call, trap-is, what-call}
use Rattle.pr_function_hides.proofs.StepsUnderWay.TrapStops.{AtTrap, IsStepOf, NoTrap, Ready, alone-ready, alone-trap, point-trap, rests, runs, trap-point, turn-notrap, turn-trap}
use Rattle.pr_function_hides.proofs.StepsUnderWay.LongMarks.{planted-long}
use Rattle.pr_function_hides.proofs.StepsUnderWay.TrapTurns.{BreakpointsHold, turn_entry}

-- What an entry that is no call of truss makes of the calls of functions in a process, while truss leaves its
-- processes.

-- Of the processes of this id either no step is under way, or truss has attached each.
abbrev pub Bare : ℕ → TrussState → Type 0
Bare pid t =
    Each (λ (u : Traced). u.pid ≡ pid → u.marks.stepped ≡ None) t.traced
    ⊎ Each (λ (u : Traced). u.pid ≡ pid → u.attached ≡ true) t.traced

turned-same : {pid : ℕ} (a b : ℕ) (x y : Turned) → turn_entry pid a x ≡ turn_entry pid b y → x ≡ y
turned-same a b x y is = let both : act.Turn x ≡ act.Turn y = ap (λ (z : Entry). z.act) is in cc

stopped-no-trap : (d : Did) → d ≡ Stopped → d ≡ Faulted Trace → ⊥
stopped-no-trap d is trap = let both : Stopped ≡ Faulted Trace = sym is ∙ trap in cc

module _ (n k : ℕ) (o : Options) (s : TracedState) (h : List Entry) (run : IsReachedFunctionRun n k o s h)
    (facts : BreakpointsHold k o s h) (pid : ℕ) where
  abbrev T : List Entry → TrussState
  T front = functions_at k o front

  abbrev S : List Entry → TracedState
  S front = state_after s front

  module _ (f : List Entry) (e : Entry) (later : List Entry) (is : h ≡ f ++ e ∷ later)
      (g : IsLeaving (Unit {0}) k o (functions_at k o f) (state_after s f)) (bare : Bare pid (functions_at k o f))
      (foreign : exchange_of k e ≡ None) where
    abbrev next : List Entry
    next = f ++ e ∷ []

    abbrev t : TrussState
    t = T f

    abbrev now : TracedState
    now = S f

    abbrev Under : ℕ → Stepped → Type 0
    Under place step = IsUnder t pid place step

    legal : IsLegalEntry n now e
    legal = entry-legal (Unit {0}) n k o s h run.of (λ r. run.reached) (λ r. run.bytes) f e later is

    lawful : IsLawful now
    lawful = g.lawful

    later-lawful : IsLawful (after now e)
    later-lawful = history-state n now (e ∷ []) lawful (legal, tt)

    files : HasFiles k (ordinary t) now
    files = files-at (Unit {0}) n k o s h run.of (λ r. run.reached) (λ r. run.bytes) f (e ∷ later) is

    state-is : S next ≡ after now e
    state-is = state-next (Unit {0}) n k o s h run.of (λ r. run.reached) (λ r. run.bytes) f e later is

    same-truss : T next ≡ t
    same-truss =
        truss-next (Unit {0}) n k o s h run.of (λ r. run.reached) (λ r. run.bytes) f e later is
        ∙ ap (functions_on t) foreign

    fe : IsForeign k now e
    fe = foreign-entry n k now e legal foreign

    shown-same : calls_of pid (T next).reports ≡ calls_of pid t.reports
    shown-same = ap (λ (u : TrussState). calls_of pid u.reports) same-truss

    quiet : states.ReadsIts k o s pid f e → ⊥
    quiet = states.others-quiet k o s pid n h run.of f e later is lawful legal foreign

    live-next : (q : TracedProcess) → live_process (S next).system pid ≡ Some q
        → live_process (after now e).system pid ≡ Some q
    live-next q live = ap (λ (u : TracedState). live_process u.system pid) (sym state-is) ∙ live

    next-live : (q : TracedProcess) → live_process (after now e).system pid ≡ Some q
        → live_process (S next).system pid ≡ Some q
    next-live q live = ap (λ (u : TracedState). live_process u.system pid) state-is ∙ live

    rises : (p : TracedProcess) → live_process now.system pid ≡ Some p → IsRising p.lwps
    rises p live = let l = lawful in let it = live-lawful now.system pid p l.system live in it.rising

    rises-next : (q : TracedProcess) → live_process (after now e).system pid ≡ Some q → IsRising q.lwps
    rises-next q live =
        let l = later-lawful in let it = live-lawful (after now e).system pid q l.system live in it.rising

    before-under : (place : ℕ) (step : Stepped) → IsUnder (T next) pid place step → Under place step
    before-under place step w = subst (λ (u : TrussState). IsUnder u pid place step) same-truss w

    after-under : (place : ℕ) (step : Stepped) → Under place step → IsUnder (T next) pid place step
    after-under place step w = subst (λ (u : TrussState). IsUnder u pid place step) (sym same-truss) w

    old-next : (place : ℕ) → (traced_at t place).old ≡ 0 → (traced_at (T next) place).old ≡ 0
    old-next place new = ap (λ (u : TrussState). (traced_at u place).old) same-truss ∙ new

    control : (place : ℕ) (step : Stepped) → Under place step → HasControl k pid (traced_at t place).control now
    control place step w =
        subst (λ i. HasControl k i (traced_at t place).control now) w.its (its-control k t now files place w.within)

    made : (place : ℕ) (step : Stepped) → Under place step → pid < now.system.made
    made place step w = control-made k pid (traced_at t place).control now lawful (control place step w)

    sole : (place : ℕ) (step : Stepped) → Under place step → HasNoOtherWriter k pid now.opens
    sole place step w = control-sole k pid (traced_at t place).control now lawful (control place step w)

    abbrev Are : List Report → Type 0
    Are lacking = function_turns k pid (first_truss o) s f ≡ calls_of pid t.reports ++ lacking

    -- an lwp that stands at the trace trap stays there, or its process is killed
    trap-next : (place : ℕ) (step : Stepped) → Under place step → (traced_at t place).old ≡ 0 → (p : TracedProcess)
        → live_process now.system pid ≡ Some p → (a : AtTrap step.lwp p) → Since k o s pid f (call_of_step pid step)
        → ((q : TracedProcess) → live_process (after now e).system pid ≡ Some q → AtTrap step.lwp q)
        → Stands k o s pid next (call_of_step pid step ∷ [])
    trap-next place step w new p live a since goes =
        by (others-halt n now k pid lawful (sole place step w) p live a.halting e legal fe.other)
      where
        by : HaltsOn pid p (after now e).system → Stands k o s pid next (call_of_step pid step ∷ [])
        by (halt.goes_on q live_q halting memory) =
            trapped place step (after-under place step w) (old-next place new) q (next-live q live_q) (goes q live_q)
            (since-on k o s pid f e (call_of_step pid step) since quiet)
        by (halt.killed z gone left status) =
            gone-next k o s pid n h run.of f e later is lawful legal (call_of_step pid step) since (made place step w)
            quiet
            p live gone z left status

    -- ---- what is no turn of the process

    elsewhere-next : ((own : ℕ) → e.actor ≢ Lwp pid own) → {lacking : List Report} → Stands k o s pid f lacking
        → Are lacking → Listed k o s pid next
    elsewhere-next elsewhere stands are =
        same-listed k o s pid f e _ are (elsewhere-call t now pid e.actor e.act elsewhere) shown-same (by stands)
      where
        was : (place : ℕ) (step : Stepped) → Under place step → (q : TracedProcess)
            → live_process (after now e).system pid ≡ Some q
            → (p : TracedProcess) × ((live_process now.system pid ≡ Some p) × IsUndisturbed p q)
        was place step w q live_q =
            elsewhere-alone n k now lawful e legal fe pid (traced_at t place).control (control place step w) o t
            elsewhere
            q live_q

        by : {lacking : List Report} → Stands k o s pid f lacking → Stands k o s pid next lacking
        by (idle ready) =
            idle (λ place step u q live_q.
            let w = before-under place step u in
            let before = was place step w q (live-next q live_q) in
            let r = ready place step w before.0 before.1.0 in (
              old-next place r.0,
              alone-ready o step before.0 q before.1.1 (rises before.0 before.1.0) (rises-next q (live-next q live_q))
                  r.1,
            ))
        by (trapped place step w new p live a since) =
            trap-next place step w new p live a since (λ q live_q.
            let before = was place step w q live_q in
            let same : p ≡ before.0 = same_Some p before.0 (sym live ∙ before.1.0) in
            alone-trap step.lwp before.0 q before.1.1 (subst (AtTrap step.lwp) same a))
        by (lost report w made_it gone was_killed) =
            lost-next k o s pid n h run.of f e later is lawful legal report w made_it gone was_killed

    -- ---- a turn of the process

    module _ (own : ℕ) (turned : Turned) (turn : LwpTurn) (entry_is : e ≡ turn_entry pid own turned)
        (took : turn_of now.system pid own ≡ Some turn) (did : turn.turned ≡ turned)
        (after_is : (after now e).system ≡ turn.system) where
      x : TakesTurn now.system pid own turn
      x = turn-taken now.system pid own turn took

      abbrev p : TracedProcess
      p = let y = x in y.process

      abbrev l : TracedLwp
      l = let y = x in y.lwp

      p-live : live_process now.system pid ≡ Some p
      p-live = let y = x in y.live

      l-there : lwp_of p own ≡ Some l
      l-there = let y = x in y.there

      abbrev its_call : List Report
      its_call = call_of_turn t now pid e.actor e.act

      call-is : its_call ≡ call_of_turn t now pid (Lwp pid own) (act.Turn turned)
      call-is = ap (λ (y : Entry). call_of_turn t now pid y.actor y.act) entry_is

      no-call-of : (turned.did ≡ Faulted Trace → ⊥) → its_call ≡ []
      no-call-of not = call-is ∙ no-trap t now pid own turned p l p-live l-there not

      stopped-call : turn.turned ≡ record { did = Stopped; stop = false } → its_call ≡ []
      stopped-call stops =
          no-call-of (stopped-no-trap turned.did (ap (λ (y : Turned). y.did) (sym did ∙ stops)))

      place-at : (place : ℕ) (step : Stepped) → Under place step → position (is_of pid) t.traced ≡ Some place
      place-at place step w =
          only-position (is_of pid) t.traced nobody place w.within (eq-eqb (traced_at t place).pid pid w.its)
          (λ q inside passes. elim (cases_eq q place) [
            | inl one_place ↦ one_place
            | inr differs ↦ absurd
                (its-apart k t now files q place inside w.within differs
                (eqb-true (traced_at t q).pid pid passes ∙ sym w.its))
          ])

      -- the step over a function is under way in it, or the turn is no call
      data Where : Type 0 where
        under : (place : ℕ) (step : Stepped) → Under place step → position (is_process pid) t.traced ≡ Some place
            → Where
        free : its_call ≡ [] → ((place : ℕ) (step : Stepped) → Under place step → ⊥) → Where

      no-call : ((place : ℕ) → position (is_process pid) t.traced ≡ Some place
          → (marks_at t place).stepped ≡ None) → its_call ≡ []
      unfolding standing
      no-call none = by (what-call t now pid own turned p l p-live l-there)
        where
          by : (call_of_turn t now pid (Lwp pid own) (act.Turn turned) ≡ [])
              ⊎ MeetsFunction t now pid own turned p l p-live l-there → its_call ≡ []
          by (inl empty) = call-is ∙ empty
          by (inr m) =
              let f_of = found-function t.options (pc_of l.regs) m.function m.found in
              absurd (facts.none_runs f later pid m.place own turned p l m.function f_of.0
              (is ∙ ap (λ (y : Entry). f ++ y ∷ later) entry_is) m.within m.own m.trap p-live l-there m.in_program
              f_of.1.0 f_of.1.1
              (subst (λ st. has_function (with_step st (marks_at t m.place).planted) m.function ≡ true)
              (none m.place m.at) m.stands))

      free-with : ((place : ℕ) → position (is_process pid) t.traced ≡ Some place
          → (marks_at t place).stepped ≡ None) → Where
      free-with none =
          free (no-call none)
          (λ place step w. none-some step (sym (none place (place-at place step w)) ∙ w.under_way))

      module _ (place : ℕ) (at : position (is_process pid) t.traced ≡ Some place) (within : place < length t.traced)
          (its : (traced_at t place).pid ≡ pid) where
        by-away : (step : Stepped) → (marks_at t place).stepped ≡ Some step → (traced_at t place).attached ≡ true
            → (b : Bool) → is_away true t.stage place ≡ b → Where
        by-away step way attached true away =
            absurd (none-some turn
            (sym (frozen-turns now.system pid p p-live
            (leaving-still (Unit {0}) k o t now g files place within attached away p
            (ap (live_process now.system) its ∙ p-live)) own) ∙ took))
        by-away step way attached false here =
            under place step (record {
              within = within;
              its = its;
              attached = attached;
              unlooked = here-unlooked t place g.at here;
              under_way = way;
            }) at

        by-attached : (step : Stepped) → (marks_at t place).stepped ≡ Some step → (b : Bool)
            → (traced_at t place).attached ≡ b → Bare pid t → Where
        by-attached step way true attached known =
            by-away step way attached (is_away true t.stage place) refl
        by-attached step way false off (inl none) =
            absurd (none-some step (sym (none place within its) ∙ way))
        by-attached step way false off (inr all) = absurd (false≢true (sym off ∙ all place within its))

        by-stepped : (so : Option Stepped) → (marks_at t place).stepped ≡ so → Where
        by-stepped None none =
            free-with (λ i there.
            ap (λ j. (marks_at t j).stepped) (same_Some i place (sym there ∙ at)) ∙ none)
        by-stepped (Some step) way = by-attached step way (traced_at t place).attached refl bare

      where-is : Where
      where-is = by (position (is_process pid) t.traced) refl
        where
          by : (place : Option ℕ) → position (is_process pid) t.traced ≡ place → Where
          by None at = free-with (λ place there. absurd (none-some place (sym at ∙ there)))
          by (Some place) at =
              let found = position-Some (is_process pid) t.traced place nobody at in
              by-stepped place at found.0 (eqb-true (at_place t.traced place).pid pid found.1) (marks_at t
              place).stepped
              refl

      -- the process that it leaves
      later-live : (q : TracedProcess) → live_process (after now e).system pid ≡ Some q
          → live_process turn.system pid ≡ Some q
      later-live q live = ap (λ (y : TracedSystem). live_process y pid) (sym after_is) ∙ live

      module _ (place : ℕ) (step : Stepped) (w : Under place step) (at : position (is_process pid) t.traced ≡ Some
          place)
          (new : (traced_at t place).old ≡ 0) where
        -- no other step is under way in the process
        one-step : (i : ℕ) (other : Stepped) → Under i other → (place ≡ i) × (step ≡ other)
        one-step i other v =
            let same : place ≡ i = same_Some place i (sym at ∙ place-at i other v) in (
              same,
              same_Some step other (sym w.under_way ∙ ap (λ j. (marks_at t j).stepped) same ∙ v.under_way),
            )

        ready-next : ((q : TracedProcess) → live_process (after now e).system pid ≡ Some q → Ready o step q)
            → Stands k o s pid next []
        ready-next so =
            idle (λ i other u q live_q.
            let one = one-step i other (before-under i other u) in (
              old-next i (subst (λ j. (traced_at t j).old ≡ 0) one.0 new),
              subst (λ (y : Stepped). Ready o y q) one.1 (so q (live-next q live_q)),
            ))

        -- another lwp only stops
        stopped-next : {lacking : List Report} → Are lacking → turn.turned ≡ record { did = Stopped; stop = false }
            → Stands k o s pid next lacking → Listed k o s pid next
        stopped-next are stops stands = same-listed k o s pid f e _ are (stopped-call stops) shown-same stands

        leaves-so : live_process turn.system pid ≡ Some (with_lwp_stopped own p) → (q : TracedProcess)
            → live_process (after now e).system pid ≡ Some q → with_lwp_stopped own p ≡ q
        leaves-so left q live = same_Some (with_lwp_stopped own p) q (sym left ∙ later-live q live)

        halting-next : IsHalting p → NoTrap step.lwp p → Are [] → Listed k o s pid next
        halting-next halts none are =
            stopped-next are (halting-did now.system pid p p-live halts own turn took)
            (ready-next (λ q live.
            subst (Ready o step) (leaves-so (halting-leaves now.system pid p p-live halts own turn took) q live)
            (rests (halting-stays now.system pid p p-live halts own turn took) (turn-notrap step.lwp own p none))))

        module _ (stood : TracedLwp) (of : IsStepOf o step stood) (st : Steps step.lwp stood p) where
          beside-next : own ≢ step.lwp → Are [] → Listed k o s pid next
          beside-next differs are =
              let stepped = st.stepped in
              stopped-next are (other-did now.system pid p step.lwp st.lwp own turn p-live stepped differs took)
              (ready-next (λ q live.
              subst (Ready o step)
              (leaves-so (other-leaves now.system pid p step.lwp st.lwp own turn p-live stepped differs took) q live)
              (runs stood of (steps-beside step.lwp stood own p differs st))))

          module _ (same : own ≡ step.lwp) where
            took-own : turn_of now.system pid step.lwp ≡ Some turn
            took-own = subst (λ i. turn_of now.system pid i ≡ Some turn) same took

            fit : IsFitSystem now.system
            fit = let r = g.reached tt in r.fit

            made-now : pid < now.system.made
            made-now = made place step w

            sole-now : HasNoOtherWriter k pid now.opens
            sole-now = sole place step w

            lives : Lives pid (Steps step.lwp stood) now.system
            lives q live = subst (Steps step.lwp stood) (same_Some p q (sym p-live ∙ live)) st

            lives-on : (q : TracedProcess) × (live_process (after now e).system pid ≡ Some q)
            lives-on =
                let l_of = lawful in
                let fits = fit-process now.system pid p fit p-live in
                let stepped = st.stepped in
                let point =
                step-point now.system pid p step.lwp st.lwp turn p-live st.stepped st.all st.no_call fits took-own in
                let y = row-leaves now.system pid p step.lwp st.lwp l_of.system p-live stepped.there point.goes_on in
                let kept = y.1.1 in
                let met_point : Option Point =
                (let row : Row = row_for now.system pid p step.lwp st.lwp in row.point) in
                let meeting = keeps-meeting step.lwp met_point y.0 in
                let was = found-live now.system pid p p-live in (
                  after_meeting met_point step.lwp y.0,
                  ap (λ (z : TracedSystem). live_process z pid) after_is
                      ∙ live-by turn.system pid (after_meeting met_point step.lwp y.0)
                      (ap (λ (v : LwpTurn). process_of v.system pid)
                      (turn-is now.system pid p step.lwp st.lwp turn p-live st.stepped st.all st.no_call fits took-own)
                      ∙ settled-to now.system pid p step.lwp st.lwp l_of.system p-live stepped.there y.0 y.1.0)
                      (meeting.ended ∙ kept.ended ∙ was.1),
                )

            passes : Passes n k pid step.lwp stood now lawful made-now sole-now fit e legal fe.other
            passes = others-pass n k pid step.lwp stood now lawful made-now sole-now fit e legal fe.other lives

            stood-there : l ≡ st.lwp
            stood-there =
                let stepped = st.stepped in
                same_Some l st.lwp (sym (subst (λ i. lwp_of p i ≡ Some l) same l-there) ∙ stepped.there)

            trapped-call : EndsInTrap turned → its_call ≡ call_of_step pid step ∷ []
            trapped-call trap =
                let stepped = st.stepped in
                call-is
                ∙ step-call t now pid own turned p l p-live l-there place step stood
                (subst (λ (y : Options). IsStepOf y step stood) (sym g.options) of) at w.its w.under_way
                (planted-long n k o s h run f (e ∷ later) is place w.within)
                (ap (λ (y : TracedLwp). y.phase) stood-there ∙ stepped.in_program)
                (ap (λ (y : TracedLwp). y.regs) stood-there ∙ st.holds) same trap

            -- it stands at the trace trap
            trap-listed : EndsInTrap turned → Are [] → ((q : TracedProcess)
                → live_process (after now e).system pid ≡ Some q → AtTrap step.lwp q) → Listed k o s pid next
            trap-listed trap are at_trap = record {
              lacking = call_of_step pid step ∷ [];
              are = turns-next k o s pid f e
                  ∙ ap (λ cs. function_turns k pid (first_truss o) s f ++ cs) (trapped-call trap)
                  ∙ ap (λ cs. cs ++ call_of_step pid step ∷ [])
                  (are ∙ append-nil (calls_of pid t.reports) ∙ sym shown-same);
              stands = trapped place step (after-under place step w) (old-next place new) lives-on.0
                  (next-live lives-on.0 lives-on.1) (at_trap lives-on.0 lives-on.1)
                  (record {
                    front = f;
                    turn = e;
                    mid = [];
                    is = refl;
                    call = trapped-call trap;
                    unanswered = record {
                      each = λ between rest d parts reads. states.nothing-before between rest d
                          parts;
                    };
                  });
            }

            own-next : Are [] → Listed k o s pid next
            own-next are = by passes
              where
                had-next : (point : Point) → turned.did ≡ did_at point
                    → Lives pid (Had step.lwp stood point) (after now e).system → Listed k o s pid next
                had-next point is_did had = elim (cases_Bool (is_trap turned.did)) [
                  | inl it ↦
                      let trap : EndsInTrap turned = trap-is turned.did it in
                      trap-listed trap are (λ q live.
                      let h_of = had q live in
                      record {
                        halting = h_of.halting;
                        lwp = h_of.there.0;
                        there = h_of.there.1;
                        stop = h_of.own h_of.there.0 h_of.there.1
                            ∙ ap (λ y. Some y) (trap-point point (sym is_did ∙ trap));
                      })
                  | inr not ↦
                      same-listed k o s pid f e [] are
                      (no-call-of (λ trap. false≢true (sym not ∙ ap is_trap trap))) shown-same
                      (ready-next (λ q live.
                      let h_of = had q live in
                      rests h_of.halting (λ m there stops.
                      false≢true (sym not ∙ ap is_trap (is_did
                      ∙ point-trap point (same_Some _ _ (sym (h_of.own m there) ∙ stops)))))))
                ]

                by : Passes n k pid step.lwp stood now lawful made-now sole-now fit e legal fe.other
                    → Listed k o s pid next
                by (walks.stays so) =
                    let none = so.none in
                    absurd (none.other (ap (λ (y : Entry). y.actor) entry_is ∙ ap (λ i. Lwp pid i) same))
                by (walks.turns turned2 point is2 turn_facts had) =
                    had-next point
                    (ap (λ (y : Turned). y.did) (turned-same own step.lwp turned turned2 (sym entry_is ∙ is2))
                    ∙ turn_facts.did) had

        ready-turn : Ready o step p → Are [] → Listed k o s pid next
        ready-turn (rests halts none) are = halting-next halts none are
        ready-turn (runs stood of st) are = elim (cases_eq own step.lwp) [
          | inl same ↦ own-next stood of st same are
          | inr differs ↦ beside-next stood of st differs are
        ]

      turn-next : {lacking : List Report} → Stands k o s pid f lacking → Are lacking → Listed k o s pid next
      turn-next (idle ready) are = by where-is
        where
          by : Where → Listed k o s pid next
          by (under place step w at) =
              let r = ready place step w p p-live in ready-turn place step w at r.0 r.1 are
          by (free empty none) =
              same-listed k o s pid f e [] are empty shown-same
              (idle (λ place step u q live_q. absurd (none place step (before-under place step u))))
      turn-next (trapped place step w new q live_q a since) are =
          let same : q ≡ p = same_Some q p (sym live_q ∙ p-live) in
          let a_p : AtTrap step.lwp p = subst (AtTrap step.lwp) same a in
          stopped-next place step w (place-at place step w) new are
          (halting-did now.system pid p p-live a_p.halting own turn took)
          (trap-next place step w new p p-live a_p since (λ z live.
          subst (AtTrap step.lwp)
          (leaves-so place step w (place-at place step w) new
          (halting-leaves now.system pid p p-live a_p.halting own turn took) z live)
          (turn-trap step.lwp own now.system pid p turn p-live took a_p)))
      turn-next (lost report w made_it gone was_killed) are = absurd (none-some p (sym gone ∙ p-live))

    foreign-by : {lacking : List Report} → Stands k o s pid f lacking → Are lacking → (actor : Actor) (it : Act)
        → e ≡ record { actor = actor; act = it } → IsLegalEntry n now (record { actor = actor; act = it })
        → Listed k o s pid next
    unfolding IsLegalEntry after
    foreign-by st are (Controller j) (act.Call c r) same legal_here =
        elsewhere-next
        (λ own at. let it : Controller j ≡ Lwp pid own = ap (λ (y : Entry). y.actor) (sym same) ∙ at in cc) st are
    foreign-by st are (Lwp acting own) (act.Turn turned) same legal_here = elim (cases_eq acting pid) [
      | inl one_pid ↦
          let turn : LwpTurn = record { system = legal_here.0; turned = turned } in
          let took : turn_of now.system pid own ≡ Some turn =
          subst (λ i. turn_of now.system i own ≡ Some turn) one_pid legal_here.1 in
          turn-next own turned turn (same ∙ ap (λ i. record { actor = Lwp i own; act = act.Turn turned }) one_pid) took
          refl
          (ap (λ (y : Entry). (after now y).system) same
          ∙ ap (λ (y : Option LwpTurn). (after_turn now y).system) legal_here.1) st are
      | inr differs ↦ elsewhere-next (λ i at.
          differs (let it : Lwp acting own ≡ Lwp pid i = ap (λ (y : Entry). y.actor) (sym same) ∙ at in cc)) st are
    ]
    foreign-by st are Clock (act.Tick moment) same legal_here =
        elsewhere-next
        (λ own at. let it : Clock ≡ Lwp pid own = ap (λ (y : Entry). y.actor) (sym same) ∙ at in cc) st are
    foreign-by st are _ _ same legal_here = absurd legal_here

    pub foreign-listed : Listed k o s pid f → Listed k o s pid next
    foreign-listed it_was = foreign-by it_was.stands it_was.are e.actor e.act refl legal
