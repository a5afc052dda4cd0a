use Rattle.std.proofs.Common.{◌≡◌, ◌≢◌, ◌<◌, ◌++◌, ◌⊎◌, ℕ, true, false, Some, List, [], ◌∷◌, length, refl, sym, subst}
use Rattle.std.proofs.Common.{ap, ◌∙◌, inl, inr}
use Rattle.std.proofs.lemmas.Bool.{cases_eq, eq-eqb}
use Rattle.pr_api.specs.Entries.{call_entry}
use Rattle.pr_function_hides.proofs.GoingOn.CalmCalls as Calm
use Rattle.pr_function_hides.proofs.GoingOn.CalmSoon as Soon
use Rattle.pr_function_hides.proofs.FaultStops.GoingCalls.{Going}
use Rattle.pr_function_hides.proofs.StandingFaults.OwnEvents.{read-cleared}
use Rattle.pr_function_hides.proofs.StandingFaults.OwnFaults.{AreOld, HasNoOwn, OwnCleared, alone-old, clean-none, lwps-old}
use Rattle.pr_function_hides.proofs.StandingFaults.OwnFaults.{none-cleared, none-stand, old-cleared}
use Rattle.pr_function_hides.proofs.StandingFaults.FaultRuns.{run-leaves-none}
use Rattle.pr_function_hides.proofs.Replies.PlacesCome.{unseen-read}
use Rattle.pr_function_hides.proofs.FaultStops.StoppedCalls as Away
use Rattle.pr_function_hides.proofs.FaultStops.StoppedFaults.{Posted, RestsIn, SoonIn}
use Rattle.pr_function_hides.proofs.StandingFaults.SoonRuns.{flags_after}
use Rattle.pr_function_hides.proofs.Tidy.TidyCalls as Calls
use Rattle.pr_function_hides.proofs.Tidy.TidyEntries.{its-legal, now-is}
use Rattle.pr_function_hides.proofs.Tidy.TidyKept.{Kept}
use Rattle.pr_function_hides.specs.RunsOfTrusses.{IsRunOfTrusses}
use Rattle.pr_function_hides.specs.Treating.{is_run_soon}
use Rattle.pr_function_laws.proofs.OpenedProcesses.OpenedLaws.{goes-few, goes-opened, goes-runs, goes-still}
use Rattle.pr_function_laws.proofs.OpenedProcesses.StoodCalls.{KeepsLwps}
use Rattle.pr_function_laws.specs.OneEvent.{is_looked_at}
use Rattle.pr_function_laws.specs.Opened.{OwnsAndTraces, is_opened}
use Rattle.pr_hidden.specs.Covers.{Covers}
use Rattle.pr_hidden.specs.Hiders.{Hiders, covers_at, hides}
use Rattle.pr_lawful.proofs.Following.UseLemmas.{live-lawful}
use Rattle.pr_model.specs.Legal.{state_after}
use Rattle.pr_model.specs.State.{TracedProcess, TracedState, live_process}
use Rattle.pr_model.specs.declared.calls.Call.{Call}
use Rattle.pr_model.specs.declared.calls.Reply.{Reply}
use Rattle.pr_model.specs.declared.events.Entry.{Entry}
use Rattle.pr_truss.specs.Asides.{marks_at}
use Rattle.pr_truss.specs.Replies.{answer_of}
use Rattle.pr_truss.specs.Trusses.{TrussState, traced_at}
use Rattle.pr_truss.specs.declared.asides.Aside.TheVariants.{Nothing}
use Rattle.pr_truss.specs.declared.stages.Stage.TheVariants.{ReadingStatus, Running}
use Rattle.pr_truss_laws.proofs.Machine.OverLemmas.{stays-over}
use Rattle.pr_truss_laws.specs.Stills.{IsUndisturbed}
use Rattle.pr_world.specs.ControllerStates.{ControllerState}

-- What a call of truss does to the faults of a process that it acts on: PCRUN leaves no lwp at one of its own; and from
-- when the status was read until PCRUN the run flags clear it.

module _ {n : ℕ} {who : Hiders} {controllers : List ControllerState} {first : TracedState}
    {h : List Entry} (run : IsRunOfTrusses n who controllers first h) (front back : List Entry)
    (j : ℕ) (c : Call) (r : Reply) (place : h ≡ front ++ call_entry j c r ∷ back)
    (posted : Posted run front) (hider : hides who j ≡ true)
    (on : Going run front back j c r place hider) where
  abbrev here : List Entry → TracedState
  here front = state_after first front

  abbrev covers : List Entry → Covers
  covers front = covers_at who first front

  abbrev e : Entry
  e = call_entry j c r

  abbrev later_front : List Entry
  later_front = front ++ e ∷ []

  abbrev v : TracedState
  v = here front

  abbrev kept-now : Kept who controllers first h front
  kept-now = Away.kept-now run front back j c r place

  abbrev tr : TrussState
  tr = Calls.tr run front back j c r place kept-now hider

  module _ (i : ℕ) (inside : i < length tr.traced) where
    abbrev pid : ℕ
    pid = (traced_at tr i).pid

    abbrev RestsLater : Type 0
    RestsLater = RestsIn run later_front pid

    abbrev SoonLater : ℕ → Type 0
    SoonLater flags = SoonIn run later_front flags pid

    -- it is left alone
    pub rests-on : is_opened tr.stage i ≡ true → is_run_soon tr.stage i ≡ false → RestsLater
    rests-on opened quiet =
        Away.own-rests run front back j c r place hider i inside
        (Calm.resting-away run front back j c r place hider on.off i inside opened quiet)
        (posted.rests j hider tr on.is on.off i inside opened quiet)

    -- ---- it is run

    owns : is_opened tr.stage i ≡ true → OwnsAndTraces j (let it = run.are.trusses j hider in it.options) tr i v
    owns opened = goes-opened (Unit {0}) j _ tr v on.goes i inside opened

    pub run-none : tr.stage ≡ Running i → tr.aside ≡ Nothing → (x : TracedProcess)
        → live_process (here later_front).system pid ≡ Some x → HasNoOwn (covers later_front pid) x
    run-none runs idle x later =
        let own = Calls.own run front back j c r place kept-now hider in
        let f = on.holds in
        let w = on.facts in
        let its = owns (ap (λ st. is_opened st i) runs) in
        let legal = its-legal run front e back place kept-now in
        let same : own.answer.state ≡ here later_front =
        own.later ∙ sym (now-is run front e back place kept-now) in
        run-leaves-none n j tr.options v on.lawful c own.answer own.is
        (λ at made none.
        ap (λ (y : TracedState). live_process y.system at) own.later ∙ stays-over n v e at on.lawful legal made none)
        (traced_at tr i) (f.control i inside) (traced_at tr i).marks.flags
        (Soon.call-runs run front back j c r place hider on.off i inside runs idle)
        (w.flags i inside)
        (covers front pid) (covers later_front pid)
        (Away.less-now run front back j c r place pid) its.no_agent
        (λ p live.
        goes-still (Unit {0}) j _ tr v on.goes tt i p live (ap (λ st. is_looked_at st i) runs ∙ eq-eqb i i refl))
        (λ p live. goes-runs (Unit {0}) j _ tr v on.goes i inside tt runs p live)
        (posted.soon j hider tr on.is on.off i inside (ap (λ st. is_run_soon st i) runs ∙ eq-eqb i i refl)) x
        (ap (λ (y : TracedState). live_process y.system pid) same ∙ later)

    pub run-rests : tr.stage ≡ Running i → tr.aside ≡ Nothing → RestsLater
    run-rests runs idle x later = none-stand (covers later_front pid) x (run-none runs idle x later)

    -- ---- its status is read

    not-run : tr.stage ≡ ReadingStatus i → tr.stage ≢ Running i
    not-run reads runs = let both : ReadingStatus i ≡ Running i = sym reads ∙ runs in cc

    read-new : tr.stage ≡ ReadingStatus i → tr.aside ≡ Nothing → (traced_at tr i).old ≡ 0
        → SoonIn run front (flags_after tr i r (answer_of r)) pid
    read-new reads idle new p live =
        let w = on.facts in
        let opened : is_opened tr.stage i ≡ true = ap (λ st. is_opened st i) reads in
        let its = owns opened in
        let l = live-lawful v.system pid p on.lawful.system live in
        let here_truss = Calls.truss-now run front back j c r place kept-now hider in
        subst (λ m. OwnCleared m (covers front pid) p)
        (sym (Soon.read-flags run front back j c r place hider on.off i inside reads idle p live))
        (read-cleared tr i (covers front pid) p
        (here_truss.stand i inside (p, live)) new (unseen-read tr i w.unseen reads) l.rising (its.no_agent p live)
        (goes-still (Unit {0}) j _ tr v on.goes tt i p live (ap (λ st. is_looked_at st i) reads ∙ eq-eqb i i refl))
        (goes-few (Unit {0}) j _ tr v on.goes i inside tt opened (not-run reads) new p live)
        (posted.rests j hider tr on.is on.off i inside opened (ap (λ st. is_run_soon st i) reads) p live))

    -- while truss counts a stop that stood before it came none of its lwps counts so
    read-now : tr.stage ≡ ReadingStatus i → tr.aside ≡ Nothing
        → SoonIn run front (flags_after tr i r (answer_of r)) pid
    read-now reads idle = elim (cases_eq (traced_at tr i).old 0) [
      | inl new ↦ read-new reads idle new
      | inr old ↦ λ p live.
          none-cleared (flags_after tr i r (answer_of r)) (covers front pid) p
          (clean-none (covers front pid) p
          (posted.clean j hider tr on.is on.off i inside (ap (λ st. is_opened st i) reads) old p live))
    ]

    pub read-soon : tr.stage ≡ ReadingStatus i → tr.aside ≡ Nothing → SoonLater (flags_after tr i r (answer_of r))
    read-soon reads idle =
        Away.own-soon run front back j c r place hider i inside
        (Calm.resting-away run front back j c r place hider on.off i inside
        (ap (λ st. is_opened st i) reads) (ap (λ st. is_run_soon st i) reads)) (flags_after tr i r (answer_of r))
        (read-now reads idle)

    -- ---- it is run soon, and not yet

    pub soon-left : is_run_soon tr.stage i ≡ true → (tr.aside ≡ Nothing → tr.stage ≢ Running i)
        → SoonLater (marks_at tr i).flags
    soon-left soon away x later =
        let was = (Soon.left-so run front back j c r place hider on.off i inside soon away).0 x later in
        by was.0 was.1.0 was.1.1
      where
        by : (p : TracedProcess) → live_process v.system pid ≡ Some p → IsUndisturbed p x ⊎ KeepsLwps p x
            → OwnCleared (marks_at tr i).flags (covers later_front pid) x
        by p live left =
            old-cleared (covers front pid) (covers later_front pid) p x
            (Away.less-now run front back j c r place pid) (of left) (marks_at tr i).flags
            (posted.soon j hider tr on.is on.off i inside soon p live)
          where
            of : IsUndisturbed p x ⊎ KeepsLwps p x → AreOld p x
            of (inl alone) = alone-old p x alone
            of (inr keeps) = lwps-old p x keeps.lwps
