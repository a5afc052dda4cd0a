use Rattle.std.proofs.Common.{◌≡◌, ◌≢◌, ◌<◌, ◌++◌, ◌⊎◌, ℕ, Bool, true, false, cond, position, Option, Some, None, List}
use Rattle.std.proofs.Common.{[], ◌∷◌, length, refl, sym, subst, ap, ◌∙◌, inl, inr}
use Rattle.std.proofs.lemmas.Bool.{cases_eq, eq-eqb, false≢true}
use Rattle.std.proofs.lemmas.Option.{none-some, same_Some}
use Rattle.std.specs.List.{slice_get}
use Rattle.std.specs.Option.{option_and_then}
use Rattle.pr_function_hides.proofs.Files.CallFacts.{controllers-push}
use Rattle.pr_function_hides.proofs.GoingOn.CalmCalls as Calm
use Rattle.pr_function_hides.proofs.CodeThere.CodeWalk.{CodeAt}
use Rattle.pr_function_hides.proofs.Tidy.CopyFree.{run-options}
use Rattle.pr_function_hides.proofs.StandingFaults.CountedFaults.{directed-is, own-break, own-trace, turned-keeps, turned-now}
use Rattle.pr_function_hides.proofs.StandingFaults.FaultTurns.{turn-stops}
use Rattle.pr_function_hides.proofs.CodeThere.FetchedCode.{code-runs}
use Rattle.pr_function_hides.proofs.Replies.FunctionSets.{has-with}
use Rattle.pr_function_hides.proofs.MetFaults.MetCounts.{IsTakenKind, MetCount, StepClears, alone-clears, breaks, old-count, trap}
use Rattle.pr_function_hides.proofs.StandingFaults.OwnFaults.{CountLess, alone-old}
use Rattle.pr_function_hides.proofs.Replies.PlantedReplies.{So}
use Rattle.pr_function_hides.proofs.FaultStops.StoppedTurns.{soon-looked, stops-traced}
use Rattle.pr_function_hides.proofs.CodeThere.StepCode.{StepIn, StepsIn, foreign-steps}
use Rattle.pr_function_hides.proofs.StepMarks.StepLaw.{holder-hold}
use Rattle.pr_function_hides.proofs.Tidy.TidyEntries.{at-is, its-lawful, now-is}
use Rattle.pr_function_hides.proofs.Tidy.TidyKept.{Truss}
use Rattle.pr_function_hides.proofs.Tidy.TidyLaw.{kept-at}
use Rattle.pr_function_hides.proofs.StandingFaults.TurnFaults.{fault-free, turn-met}
use Rattle.pr_function_hides.specs.FunctionHiders.{ArePatchable, IsPatchable, patch_of}
use Rattle.pr_function_hides.specs.RunsOfTrusses.{IsRunOfTrusses}
use Rattle.pr_function_hides.specs.TidyWrites.{IsTrussAfter}
use Rattle.pr_function_hides.specs.Treating.{is_run_soon}
use Rattle.pr_function_laws.proofs.Marks.MetLemmas.{found-function}
use Rattle.pr_function_laws.proofs.OpenedProcesses.OpenedLaws.{Goes, goes-few, goes-opened, goes-still, turn-later}
use Rattle.pr_function_laws.specs.OneEvent.{HasOneEventAtMost}
use Rattle.pr_function_laws.specs.Opened.{is_opened}
use Rattle.pr_function_laws.specs.Steps.{StopsAtAll}
use Rattle.pr_hidden.specs.Covers.{Cover, Covers, Patch}
use Rattle.pr_hidden.specs.Hiders.{Hiders, covers_after, covers_at, has_hold, hides, is_own, patch_at}
use Rattle.pr_line.specs.declared.functions.Function.{Function}
use Rattle.pr_line.specs.declared.options.Options.{Options}
use Rattle.pr_model.proofs.TurnLemmas.{turn-taken}
use Rattle.pr_model.specs.Lawful.{IsLawful}
use Rattle.pr_model.specs.Legal.{state_after}
use Rattle.pr_model.specs.LwpTurns.{LwpTurn, turn_of}
use Rattle.pr_model.specs.Points.{is_traced}
use Rattle.pr_model.specs.Registers.{pc_of}
use Rattle.pr_model.specs.State.{TracedLwp, TracedProcess, TracedState, live_process, lwp_of}
use Rattle.pr_model.specs.declared.calls.File.TheVariants as file
use Rattle.pr_model.specs.declared.calls.Mode.TheVariants.{WriteExcl}
use Rattle.pr_model.specs.declared.events.Act.TheVariants as act
use Rattle.pr_model.specs.declared.events.Actor.TheVariants.{Clock, Lwp}
use Rattle.pr_model.specs.declared.events.Did.TheVariants.{Faulted}
use Rattle.pr_model.specs.declared.events.Entry.{Entry}
use Rattle.pr_model.specs.declared.events.Turned.{Turned}
use Rattle.pr_model.specs.declared.stops.Point.TheVariants.{Fault}
use Rattle.pr_num.proofs.SearchLemmas.{All-at}
use Rattle.pr_num.specs.declared.faults.Flt.{Flt}
use Rattle.pr_num.specs.declared.faults.Flt.TheVariants.{Bpt, Trace}
use Rattle.pr_probe_laws.proofs.Hiding.HiddenTurns.{did-is}
use Rattle.pr_truss.specs.Asides.{marks_at}
use Rattle.pr_truss.specs.FunctionEvents.{begins_at, function_at, if_standing}
use Rattle.pr_truss.specs.Marks.{has_function, standing, with_step}
use Rattle.pr_truss.specs.Trusses.{TrussState, traced_at}
use Rattle.pr_truss.specs.declared.marks.Marks.{Marks}
use Rattle.pr_truss.specs.declared.marks.Stepped.{Stepped}
use Rattle.pr_truss_laws.proofs.Machine.StillLemmas.{frozen-turns}
use Rattle.pr_truss_laws.specs.Exchanges.{exchange_of}
use Rattle.pr_truss_laws.specs.Stills.{IsFrozen}
use Rattle.pr_world.specs.ControllerStates.{ControllerState}
use Rattle.pr_world.specs.Protocol.{controllers_after, controllers_at}

-- Each lwp that stands on the stop of a fault which truss takes for its own counts as standing at one of those who
-- hide: turns and entries of others leave it so.

-- the function of a breakpoint
module _ (o : Options) (m : Marks) (pc function : ℕ) where
  pub at-function : function_at o m pc ≡ Some function
      → (position (begins_at pc) o.functions ≡ Some function) × (has_function (standing m) function ≡ true)
  unfolding function_at
  at-function is = by (position (begins_at pc) o.functions) refl is
    where
      by : (x : Option ℕ) → position (begins_at pc) o.functions ≡ x
          → option_and_then (if_standing m) x ≡ Some function
          → (position (begins_at pc) o.functions ≡ Some function) × (has_function (standing m) function ≡ true)
      by None at found = absurd (none-some function found)
      by (Some i) at found = of (has_function (standing m) i) refl found
        where
          of : (b : Bool) → has_function (standing m) i ≡ b → cond b (Some i) None ≡ Some function
              → (position (begins_at pc) o.functions ≡ Some function) × (has_function (standing m) function ≡ true)
          of true has it =
              let same : i ≡ function = same_Some i function it in
              (at ∙ it, ap (has_function (standing m)) (sym same) ∙ has)
          of false has it = absurd (none-some function it)

module _ {n : ℕ} {who : Hiders} {controllers : List ControllerState} {first : TracedState}
    {h : List Entry} (run : IsRunOfTrusses n who controllers first h) where
  abbrev here : List Entry → TracedState
  here front = state_after first front

  abbrev covers : List Entry → Covers
  covers front = covers_at who first front

  abbrev After : List Entry → ℕ → TrussState → Type 0
  After front k t = IsTrussAfter who controllers first h front k t

  -- ---- what is said

  -- of the process of an id, with these marks
  abbrev pub MetIn : List Entry → Options → Marks → ℕ → Type 0
  MetIn front o m pid =
      (p : TracedProcess) → live_process (here front).system pid ≡ Some p → MetCount (covers front pid) o m p

  -- with these run flags
  abbrev pub ClearIn : List Entry → ℕ → ℕ → Type 0
  ClearIn front flags pid =
      (p : TracedProcess) → live_process (here front).system pid ≡ Some p → StepClears flags (covers front pid) p

  -- So it is of each process that a truss has opened whole, once it counts no stop any more that stood before it came;
  -- and of one that it runs soon, the lwp that met an event counts so where the run flags clear a fault or step it. All
  -- that as long as truss does not leave its processes.
  pub record Counts (front : List Entry) : Type 0 where
    pub met : (k : ℕ) → hides who k ≡ true → (t : TrussState) → After front k t → t.leaving ≡ false → (q : ℕ)
        → q < length t.traced → is_opened t.stage q ≡ true → is_run_soon t.stage q ≡ false → (traced_at t q).old ≡ 0
        → MetIn front t.options (marks_at t q) (traced_at t q).pid
    pub soon : (k : ℕ) → hides who k ≡ true → (t : TrussState) → After front k t → t.leaving ≡ false → (q : ℕ)
        → q < length t.traced → is_run_soon t.stage q ≡ true → ClearIn front (marks_at t q).flags (traced_at t q).pid
    pub code : (k : ℕ) → hides who k ≡ true → (t : TrussState) → After front k t → t.leaving ≡ false
        → StepsIn run front t

  -- ---- an entry of others

  module _ (front : List Entry) (e : Entry) (back : List Entry) (place : h ≡ front ++ e ∷ back) (k : ℕ)
      (hider : hides who k ≡ true) where
    abbrev next_front : List Entry
    next_front = front ++ e ∷ []

    abbrev pub t : TrussState
    t = Calm.t run front e back place k hider

    module _ (none : exchange_of k e ≡ None) (q : ℕ) (within : q < length t.traced)
        (apart : (own : ℕ) → e.actor ≢ Lwp (traced_at t q).pid own)
        (more : CountLess (covers next_front (traced_at t q).pid) (covers front (traced_at t q).pid)) where
      abbrev pid : ℕ
      pid = (traced_at t q).pid

      pub framed-met : (o : Options) (m : Marks) → MetIn front o m pid → MetIn next_front o m pid
      framed-met o m met x later =
          let was = Calm.left-alone run front e back place k hider none q within apart x later in
          old-count (covers front pid) (covers next_front pid) o m was.0 x more (alone-old was.0 x was.1.1)
          (met was.0 was.1.0)

      pub framed-clear : (flags : ℕ) → ClearIn front flags pid → ClearIn next_front flags pid
      framed-clear flags clear x later =
          let was = Calm.left-alone run front e back place k hider none q within apart x later in
          alone-clears (covers front pid) (covers next_front pid) was.0 x more was.1.1 flags (clear was.0 was.1.0)

  -- ---- a turn

  module _ (front back : List Entry) (acting id : ℕ) (turned : Turned)
      (place : h ≡ front ++ record { actor = Lwp acting id; act = act.Turn turned } ∷ back) (k : ℕ)
      (hider : hides who k ≡ true) where
    abbrev e : Entry
    e = record { actor = Lwp acting id; act = act.Turn turned }

    abbrev later_front : List Entry
    later_front = front ++ e ∷ []

    abbrev s : TracedState
    s = here front

    abbrev tr : TrussState
    tr = t front e back place k hider

    abbrev truss : Truss who controllers first h front k
    truss = Calm.truss run front e back place k hider

    is-now : After front k tr
    is-now = let w = truss in w.is

    abbrev turn : LwpTurn
    turn = (Calm.its-turn run front back acting id turned place).0

    turn-is : turn_of s.system acting id ≡ Some turn
    turn-is = (Calm.its-turn run front back acting id turned place).1.0

    same-turned : turn.turned ≡ turned
    same-turned = (Calm.its-turn run front back acting id turned place).1.1

    lawful-now : IsLawful s
    lawful-now = its-lawful run front e back place (Calm.kept-here run front e back place k hider)

    later-system : (here later_front).system ≡ turn.system
    later-system =
        ap (λ (x : TracedState). x.system)
        (now-is run front e back place (Calm.kept-here run front e back place k hider))
        ∙ turn-later s acting id turned turn turn-is

    no-agent : (covers front acting).agent ≡ false
    no-agent = let w = Calm.kept-here run front e back place k hider in w.no_agent acting

    -- those that counted do so still, but for the one whose turn it was
    keeps : (pid m : ℕ) → (pid ≡ acting → m ≢ id) → (covers front pid).faulted m ≡ true
        → (covers later_front pid).faulted m ≡ true
    keeps pid m apart is =
        ap (λ (c : Cover). c.faulted m) (Calm.turned-is run front back acting id turned place pid)
        ∙ turned-keeps who (covers front) s acting id turned.did no-agent pid m apart is

    pub more-apart : (pid : ℕ) → pid ≢ acting → CountLess (covers later_front pid) (covers front pid)
    more-apart pid apart m is = keeps pid m (λ same. absurd (apart same)) is

    -- Of its own process, of which truss traces all faults, where at most one event is unread, and where the code of
    -- the function stands that is stepped.
    module _ (q : ℕ) (within : q < length tr.traced) (own : (traced_at tr q).pid ≡ acting) (p : TracedProcess)
        (live : live_process s.system acting ≡ Some p) (few : HasOneEventAtMost p) (stops : StopsAtAll p.control)
        (code : So (StepIn run front tr.options) (traced_at tr q))
        (met : MetIn front tr.options (marks_at tr q) acting) (x : TracedProcess)
        (later : live_process (here later_front).system acting ≡ Some x) where
      its-lwp : (l : TracedLwp) × (lwp_of p id ≡ Some l)
      its-lwp =
          let it = turn-taken s.system acting id turn turn-is in (
            it.lwp,
            subst (λ (y : TracedProcess). lwp_of y id ≡ Some it.lwp) (same_Some it.process p (sym it.live ∙ live))
                it.there,
          )

      live-there : live_process s.system (traced_at tr q).pid ≡ Some p
      live-there = ap (live_process s.system) own ∙ live

      later-there : live_process turn.system acting ≡ Some x
      later-there = ap (λ (y : _). live_process y acting) (sym later-system) ∙ later

      all-traced : (f : Flt) → is_traced p.control (Fault f) ≡ true
      all-traced f = stops-traced p.control stops f

      abbrev m : Marks
      m = marks_at tr q

      held : has_hold who s.opens acting ≡ true
      held =
          let f = Calm.files run front e back place k hider in
          holder-hold who run.are.no_probes s acting
          (record {
            k = k;
            hider = hider;
            number = (traced_at tr q).control;
            held = record {
              controller = k;
              pid = (traced_at tr q).pid;
              lwp = 0;
              file = file.Ctl;
              mode = WriteExcl;
            };
            there = f.control q within;
            of = own;
            control = refl;
          })

      -- what it incurred counts
      now-own : (f : Flt) → turn.turned.did ≡ Faulted f → is_own who (covers front) s acting id turned.did ≡ true
          → (covers later_front acting).faulted id ≡ true
      now-own f did its =
          let l = its-lwp.0 in
          let there = its-lwp.1 in
          let free = fault-free s.system acting p id turn lawful-now.system live turn-is x later-there f did l there in
          ap (λ (c : Cover). c.faulted id) (Calm.turned-is run front back acting id turned place acting)
          ∙ turned-now who (covers front) s acting id turned.did no-agent
          (directed-is who (covers front) s acting id turned.did p l live there ∙ free) its

      module _ (f : Flt) (did : turn.turned.did ≡ Faulted f) where
        did-here : turned.did ≡ Faulted f
        did-here = ap (λ (y : Turned). y.did) (sym same-turned) ∙ did

        trap-own : f ≡ Trace → (covers later_front acting).faulted id ≡ true
        trap-own is =
            now-own f did (own-trace who (covers front) s acting id turned.did (did-here ∙ ap Faulted is) held)

        -- at a function that is planted, or whose breakpoint is lifted for the step of an lwp
        module _ (is : f ≡ Bpt) (l : TracedLwp) (there : lwp_of p id ≡ Some l) (function : ℕ) (g : Function)
            (named : slice_get tr.options.functions function ≡ Some g) (at : g.at ≡ pc_of l.regs) where
          abbrev Own : Type 0
          Own = (covers later_front acting).faulted id ≡ true

          patch-own : (patch : Patch) → patch_at g.at (covers front acting).patches ≡ Some patch → Own
          patch-own patch found =
              now-own f did
              (own-break who (covers front) s acting id turned.did (did-here ∙ ap Faulted is) held p l live there patch
              (ap (λ a. patch_at a (covers front acting).patches) (sym at) ∙ found))

          planted-own : has_function m.planted function ≡ true → Own
          planted-own has =
              let w = truss in
              let stand = w.stand q within (p, live-there) in
              patch-own (patch_of g)
              (ap (λ i. patch_at g.at (covers front i).patches) (sym own) ∙ stand.each function g named has)

          code-own : CodeAt run front (traced_at tr q).pid (patch_of g) → Own
          code-own stands = by (patch_at g.at (covers front acting).patches) refl
            where
              patchable : IsPatchable g
              patchable =
                  let w = truss in
                  let i = w.it in
                  let names = w.sound.names in
                  let fits = subst ArePatchable (sym names.options) i.patchable in
                  All-at IsPatchable tr.options.functions function g named fits.each

              by : (o : Option Patch) → patch_at g.at (covers front acting).patches ≡ o → Own
              by (Some patch) found = patch-own patch found
              by None found =
                  absurd (code-runs g patchable s.system acting p id l
                  (stands.holds p live-there (ap (λ i. patch_at g.at (covers front i).patches) own ∙ found)) (sym at)
                  (sym (did-is s acting id turn turn-is p l live there) ∙ did ∙ ap Faulted is))

          standing-own : has_function (standing m) function ≡ true → Own
          unfolding standing
          standing-own has = by m.stepped refl has
            where
              by : (o : Option Stepped) → m.stepped ≡ o → has_function (with_step o m.planted) function ≡ true → Own
              by None under_way has_it = planted-own has_it
              by (Some step) under_way has_it = elim (has-with m.planted step.function function has_it) [
                | inl same ↦ code-own
                    (code step under_way g (ap (slice_get tr.options.functions) (sym same) ∙ named))
                | inr planted ↦ planted-own planted
              ]

        kind-own : (y : TracedLwp) → lwp_of x id ≡ Some y → IsTakenKind tr.options m y f
            → (covers later_front acting).faulted id ≡ true
        kind-own y there (trap is) = trap-own is
        kind-own y there (breaks function is at) =
            let st =
            turn-stops s.system acting p id turn lawful-now.system live turn-is x later-there f did (all-traced f) y
            there in
            let l = st.1.1 is in
            let found =
            at-function tr.options m (pc_of l.0.regs) function
            (ap (λ (rs : List ℕ). function_at tr.options m (pc_of rs)) (sym l.1.1) ∙ at) in
            let g = found-function tr.options (pc_of l.0.regs) function found.0 in
            standing-own is l.0 l.1.0 function g.0 g.1.0 g.1.1 found.1

      pub turned-count : MetCount (covers later_front acting) tr.options m x
      turned-count i y there f stops_at kind =
          by (turn-met s.system acting p id turn lawful-now.system live turn-is x later-there few i y f there stops_at)
        where
          by : ((i ≢ id) × (lwp_of p i ≡ Some y)) ⊎ ((i ≡ id) × (turn.turned.did ≡ Faulted f))
              → (covers later_front acting).faulted i ≡ true
          by (inl w) = keeps acting i (λ same. w.0) (met p live i y w.1 f stops_at kind)
          by (inr w) =
              subst (λ j. (covers later_front acting).faulted j ≡ true) (sym w.0)
              (kind-own f w.1 y (subst (λ j. lwp_of x j ≡ Some y) w.0 there) kind)

    -- a process of truss that it lives in then lived before
    pub took-turn : (x : TracedProcess) → live_process (here later_front).system acting ≡ Some x
        → (p : TracedProcess) × (live_process s.system acting ≡ Some p)
    took-turn x later = let it = turn-taken s.system acting id turn turn-is in (it.process, it.live)

    pub same-at : slice_get (controllers_at controllers later_front) k ≡ slice_get (controllers_at controllers front) k
    unfolding controllers_after
    same-at = ap (λ (cs : List ControllerState). slice_get cs k) (controllers-push controllers front e)

    -- ---- the trusses that go on

    lwp-same : {a b i j : ℕ} → Lwp a i ≡ Lwp b j → a ≡ b
    lwp-same is = cc

    module _ (counts : Counts front) (off : tr.leaving ≡ false) where
      goes : Goes (Unit {0}) k (run-options run k hider) tr s
      goes = Calm.goes run front e back place k hider off

      pub turn-counts : (q : ℕ) → q < length tr.traced → is_opened tr.stage q ≡ true
          → is_run_soon tr.stage q ≡ false → (traced_at tr q).old ≡ 0
          → MetIn later_front tr.options (marks_at tr q) (traced_at tr q).pid
      turn-counts q within opened quiet new = elim (cases_eq (traced_at tr q).pid acting) [
        | inl same ↦ subst (λ i. MetIn later_front tr.options (marks_at tr q) i) (sym same)
            (λ x later. own same x later)
        | inr apart ↦ framed-met front e back place k hider refl q within (λ i is. apart (sym (lwp-same is)))
            (more-apart (traced_at tr q).pid apart) tr.options (marks_at tr q) was
      ]
        where
          was : MetIn front tr.options (marks_at tr q) (traced_at tr q).pid
          was = counts.met k hider tr is-now off q within opened quiet new

          own : (traced_at tr q).pid ≡ acting → (x : TracedProcess)
              → live_process (here later_front).system acting ≡ Some x
              → MetCount (covers later_front acting) tr.options (marks_at tr q) x
          own same x later =
              let it = took-turn x later in
              let there : live_process s.system (traced_at tr q).pid ≡ Some it.0 =
              ap (live_process s.system) same ∙ it.1 in
              let few =
              goes-few (Unit {0}) k _ tr s goes q within tt opened
              (λ runs. false≢true (sym quiet ∙ ap (λ st. is_run_soon st q) runs ∙ eq-eqb q q refl))
              new it.0 there in
              let owns = goes-opened (Unit {0}) k _ tr s goes q within opened in
              let all = owns.traces it.0 there in
              turned-count q within same it.0 it.1 few all.stops
              (counts.code k hider tr is-now off q within)
              (subst (λ i. MetIn front tr.options (marks_at tr q) i) same was) x later

      pub turn-clears : (q : ℕ) → q < length tr.traced → is_run_soon tr.stage q ≡ true
          → ClearIn later_front (marks_at tr q).flags (traced_at tr q).pid
      turn-clears q within soon = elim (cases_eq (traced_at tr q).pid acting) [
        | inl same ↦ absurd (moves same)
        | inr apart ↦ framed-clear front e back place k hider refl q within (λ i is. apart (sym (lwp-same is)))
            (more-apart (traced_at tr q).pid apart) (marks_at tr q).flags
            (counts.soon k hider tr is-now off q within soon)
      ]
        where
          moves : (traced_at tr q).pid ≡ acting → ⊥
          moves same =
              let it = turn-taken s.system acting id turn turn-is in
              let frozen : IsFrozen it.process =
              goes-still (Unit {0}) k _ tr s goes tt q it.process (ap (live_process s.system) same ∙ it.live)
              (soon-looked tr.stage q soon) in
              none-some turn (sym (frozen-turns s.system acting it.process it.live frozen id) ∙ turn-is)

      pub turn-code : StepsIn run later_front tr
      turn-code =
          foreign-steps run front (Lwp acting id) (act.Turn turned) back place k hider same-at (λ is. cc) tr
          is-now off (counts.code k hider tr is-now off)

  -- ---- a tick

  -- as many count as before
  pub tick-more : (front back : List Entry) (moment : ℕ)
      → h ≡ front ++ record { actor = Clock; act = act.Tick moment } ∷ back → (pid : ℕ)
      → CountLess (covers (front ++ record { actor = Clock; act = act.Tick moment } ∷ []) pid) (covers front pid)
  unfolding covers_after
  tick-more front back moment place pid m is =
      let e : Entry = record { actor = Clock; act = act.Tick moment } in
      ap (λ (cs : Covers). (cs pid).faulted m)
      (at-is run front e back place (kept-at run front (e ∷ back) place)) ∙ is
