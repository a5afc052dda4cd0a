use Rattle.std.proofs.Common.{◌≡◌, ◌≢◌, ◌<◌, ◌++◌, ◌⊎◌, ℕ, true, false, Option, Some, None, List, [], ◌∷◌, length, refl}
use Rattle.std.proofs.Common.{sym, subst, ap, ◌∙◌, inl, inr}
use Rattle.std.proofs.lemmas.Bool.{cases_Bool, false≢true}
use Rattle.std.proofs.lemmas.Option.{none-some}
use Rattle.pr_api.specs.Entries.{call_entry}
use Rattle.pr_function_hides.proofs.GoingOn.CalmCalls as Calm
use Rattle.pr_function_hides.proofs.GoingOn.CalmSoon as Soon
use Rattle.pr_function_hides.proofs.GoingOn.CalmSoon.{runs-now, soon-same}
use Rattle.pr_function_hides.proofs.FaultStops.GoingCalls.{Going}
use Rattle.pr_function_hides.proofs.FaultStops.GoingOwn as Own
use Rattle.pr_function_hides.proofs.Replies.OldPlaces.{old-comes}
use Rattle.pr_function_hides.proofs.StandingFaults.OwnFaults.{less-clean, none-cleared}
use Rattle.pr_function_hides.proofs.Replies.PlacesCome.{Comes, IsReadOrSoon, IsUnseen, new, places-come, unseen-fed}
use Rattle.pr_function_hides.proofs.Replies.PlacesCome.{was}
use Rattle.pr_function_hides.proofs.FaultStops.StoppedCalls as Away
use Rattle.pr_function_hides.proofs.FaultStops.StoppedFaults.{CleanIn, Posted, RestsIn, SoonIn}
use Rattle.pr_function_hides.proofs.StandingFaults.SoonRuns.{RunsOrCloses, RunsSoon, flags_after, soon-read}
use Rattle.pr_function_hides.proofs.Tidy.TidyCalls as Calls
use Rattle.pr_function_hides.proofs.Tidy.TidyEntries.{its-legal, now-is}
use Rattle.pr_function_hides.proofs.Tidy.TidyKept.{Kept}
use Rattle.pr_function_hides.specs.RunsOfTrusses.{IsRunOfTrusses}
use Rattle.pr_function_hides.specs.Treating.{is_run_soon}
use Rattle.pr_function_laws.proofs.Marks.KeptPlaces.{Kept as KeptPlaces}
use Rattle.pr_function_laws.proofs.OpenedProcesses.OpenedLemmas.{control-made}
use Rattle.pr_function_laws.specs.Opened.{is_opened}
use Rattle.pr_hidden.specs.Covers.{Covers}
use Rattle.pr_hidden.specs.Hiders.{Hiders, covers_at, hides}
use Rattle.pr_model.specs.Legal.{state_after}
use Rattle.pr_model.specs.State.{TracedProcess, TracedState, live_process}
use Rattle.pr_model.specs.declared.calls.Call.{Call}
use Rattle.pr_model.specs.declared.calls.Reply.{Reply}
use Rattle.pr_model.specs.declared.events.Entry.{Entry}
use Rattle.pr_truss.specs.Asides.{marks_at}
use Rattle.pr_truss.specs.FunctionFeeding.{fed_functions}
use Rattle.pr_truss.specs.Replies.{answer_of}
use Rattle.pr_truss.specs.Trusses.{TrussState, traced_at}
use Rattle.pr_truss.specs.declared.asides.Aside.TheVariants.{Nothing}
use Rattle.pr_truss.specs.declared.replies.Answer.TheVariants.{Accepted}
use Rattle.pr_truss.specs.declared.stages.AfterClosing.TheVariants.{GoOn}
use Rattle.pr_truss.specs.declared.stages.Stage.TheVariants.{Closing, OpeningControl, ReadingStatus}
use Rattle.pr_truss.specs.declared.stages.Stage.TheVariants.{Running}
use Rattle.pr_truss_laws.proofs.Machine.OverLemmas.{stays-over}
use Rattle.pr_world.specs.ControllerStates.{ControllerState}

-- After a call of truss: each lwp of what it has opened that stands at a fault of its own stands on the stop of it; and
-- of a process that it runs soon the run flags clear it.

module _ {n : ℕ} {who : Hiders} {controllers : List ControllerState} {first : TracedState}
    {h : List Entry} (run : IsRunOfTrusses n who controllers first h) (front back : List Entry)
    (j : ℕ) (c : Call) (r : Reply) (place : h ≡ front ++ call_entry j c r ∷ back)
    (posted : Posted run front) (hider : hides who j ≡ true)
    (on : Going run front back j c r place hider) where
  abbrev here : List Entry → TracedState
  here front = state_after first front

  abbrev covers : List Entry → Covers
  covers front = covers_at who first front

  abbrev e : Entry
  e = call_entry j c r

  abbrev later_front : List Entry
  later_front = front ++ e ∷ []

  abbrev v : TracedState
  v = here front

  abbrev kept-now : Kept who controllers first h front
  kept-now = Away.kept-now run front back j c r place

  abbrev tr : TrussState
  tr = Calls.tr run front back j c r place kept-now hider

  abbrev pub u : TrussState
  u = fed_functions tr r

  unseen-later : KeptPlaces IsUnseen u
  unseen-later =
      let w = on.facts in unseen-fed tr r on.calm w.unseen (Calm.fresh run front back j c r place hider) on.has

  -- it does not leave its processes then
  pub stays-off : u.leaving ≡ false
  stays-off = let w = unseen-later in w.off

  abbrev comes : (q : ℕ) → is_run_soon u.stage q ≡ true → IsReadOrSoon tr (traced_at u q).pid
  comes = Calm.comes run front back j c r place hider on.off on.calm

  reads-not-soon : (i q : ℕ) → tr.stage ≡ ReadingStatus i → is_run_soon tr.stage q ≡ true → ⊥
  reads-not-soon i q is soon = false≢true (sym (ap (λ st. is_run_soon st q) is) ∙ soon)

  closes-not-soon : (i q : ℕ) → u.stage ≡ Closing i GoOn → is_run_soon u.stage q ≡ true → ⊥
  closes-not-soon i q is soon = false≢true (sym (ap (λ st. is_run_soon st q) is) ∙ soon)

  abbrev RestsThen : ℕ → Type 0
  RestsThen pid = RestsIn run later_front pid

  abbrev SoonThen : ℕ → ℕ → Type 0
  SoonThen flags pid = SoonIn run later_front flags pid

  abbrev pub GoesOn : ℕ → Type 0
  GoesOn i = RunsOrCloses r i (marks_at tr i).flags u

  pub goes-on : (i : ℕ) → i < length tr.traced → is_run_soon tr.stage i ≡ true
      → (tr.aside ≡ Nothing → tr.stage ≢ Running i) → GoesOn i
  goes-on i inside soon away =
      Soon.goes-soon run front back j c r place hider on.off i inside soon on.calm away

  -- ---- those that it runs soon then

  module _ (q : ℕ) (within : q < length u.traced) (soon : is_run_soon u.stage q ≡ true) where
    flags-at : (i m : ℕ) → RunsSoon i m u → m ≡ (marks_at u q).flags
    flags-at i m w = sym w.flags ∙ ap (λ p. (marks_at u p).flags) (soon-same u.stage i q w.stage soon)

    of-read : (i : ℕ) (inside : i < length tr.traced) → tr.stage ≡ ReadingStatus i → tr.aside ≡ Nothing
        → RunsOrCloses r i (flags_after tr i r (answer_of r)) u → SoonThen (marks_at u q).flags (traced_at tr i).pid
    of-read i inside reads idle (inl w) =
        subst (λ m. SoonThen m (traced_at tr i).pid) (flags-at i _ w)
        (Own.read-soon run front back j c r place posted hider on i
        inside reads idle)
    of-read i inside reads idle (inr x) = absurd (closes-not-soon i q x.0 soon)

    of-left : (i : ℕ) (inside : i < length tr.traced) → is_run_soon tr.stage i ≡ true
        → (tr.aside ≡ Nothing → tr.stage ≢ Running i) → GoesOn i → SoonThen (marks_at u q).flags (traced_at tr i).pid
    of-left i inside before away (inl w) =
        subst (λ m. SoonThen m (traced_at tr i).pid) (flags-at i _ w)
        (Own.soon-left run front back j c r place posted hider on i inside before away)
    of-left i inside before away (inr x) = absurd (closes-not-soon i q x.0 soon)

    of-soon : (i : ℕ) (inside : i < length tr.traced) → is_run_soon tr.stage i ≡ true
        → ((tr.stage ≡ Running i) × (tr.aside ≡ Nothing)) ⊎ (tr.aside ≡ Nothing → tr.stage ≢ Running i)
        → SoonThen (marks_at u q).flags (traced_at tr i).pid
    of-soon i inside before (inl runs) = λ x later.
        none-cleared (marks_at u q).flags (covers later_front (traced_at tr i).pid) x
        (Own.run-none run front back j c r place posted hider on i inside
        runs.0 runs.1 x later)
    of-soon i inside before (inr away) = of-left i inside before away (goes-on i inside before away)

    by-place : (i : ℕ) (inside : i < length tr.traced)
        → ((tr.stage ≡ ReadingStatus i) × (tr.aside ≡ Nothing)) ⊎ (is_run_soon tr.stage i ≡ true)
        → SoonThen (marks_at u q).flags (traced_at tr i).pid
    by-place i inside (inl reads) =
        let f = on.holds in
        of-read i inside reads.0 reads.1 (soon-read tr i f.follow f.off inside reads.1 r on.has reads.0 on.calm)
    by-place i inside (inr before) = of-soon i inside before (runs-now tr.aside tr.stage i before)

    pub soon-then : SoonThen (marks_at u q).flags (traced_at u q).pid
    soon-then =
        let w = comes q soon in
        subst (λ p. SoonThen (marks_at u q).flags p) w.own (by-place w.place w.within w.soon)

  -- ---- those of which it counts stops then that stood before it came

  abbrev CleanThen : ℕ → Type 0
  CleanThen pid = CleanIn run later_front pid

  -- a process of it that lives then lived before
  pub was-live : (i : ℕ) → i < length tr.traced → (x : TracedProcess)
      → live_process (here later_front).system (traced_at tr i).pid ≡ Some x
      → (p : TracedProcess) × (live_process v.system (traced_at tr i).pid ≡ Some p)
  was-live i inside x later = by (live_process v.system (traced_at tr i).pid) refl
    where
      by : (o : Option TracedProcess) → live_process v.system (traced_at tr i).pid ≡ o
          → (p : TracedProcess) × (live_process v.system (traced_at tr i).pid ≡ Some p)
      by (Some p) live = (p, live)
      by None over =
          let f = on.holds in
          let legal = its-legal run front e back place kept-now in
          absurd (none-some x
          (sym (stays-over n v e (traced_at tr i).pid on.lawful legal
          (control-made j (traced_at tr i).pid (traced_at tr i).control v on.lawful (f.control i inside)) over)
          ∙ ap (λ (y : TracedState). live_process y.system (traced_at tr i).pid)
          (sym (now-is run front e back place kept-now))
          ∙ later))

  pub clean-then : ((i : ℕ) → i < length tr.traced → is_opened tr.stage i ≡ false → CleanThen (traced_at tr i).pid)
      → (q : ℕ) → q < length u.traced → is_opened u.stage q ≡ true → (traced_at u q).old ≢ 0
      → CleanThen (traced_at u q).pid
  clean-then bare q within opened old =
      let w = old-comes IsUnseen tr r (let k = on.facts in k.unseen) on.calm
      (Calm.fresh run front back j c r place hider) on.has q within opened old in
      subst CleanThen w.own (by w.place w.within w.counts)
    where
      by : (i : ℕ) → i < length tr.traced → (is_opened tr.stage i ≡ true → (traced_at tr i).old ≢ 0)
          → CleanThen (traced_at tr i).pid
      by i inside counts = elim (cases_Bool (is_opened tr.stage i)) [
        | inl whole ↦ λ x later.
            (let was = was-live i inside x later in
            less-clean (covers front (traced_at tr i).pid) (covers later_front (traced_at tr i).pid)
            (Away.less-now run front back j c r place (traced_at tr i).pid)
            (posted.clean j hider tr on.is on.off i inside whole (counts whole) was.0 was.1))
        | inr shut ↦ bare i inside shut
      ]

  -- ---- the others that it on.has opened then

  module _
      (bare : (i : ℕ) → i < length tr.traced → is_opened tr.stage i ≡ false → RestsThen (traced_at tr i).pid)
      (begun : (pid : ℕ) → tr.stage ≡ OpeningControl pid → tr.aside ≡ Nothing → answer_of r ≡ Accepted
      → RestsThen pid)
      (q : ℕ) (within : q < length u.traced) (quiet : is_run_soon u.stage q ≡ false) where
    module _ (i : ℕ) (inside : i < length tr.traced) (own : (traced_at tr i).pid ≡ (traced_at u q).pid) where
      -- it does not run one of these soon
      never : is_run_soon tr.stage i ≡ true → RunsSoon i (marks_at tr i).flags u → ⊥
      never soon w = let it = comes i w.stage in by it.place it.own it.soon
        where
          by : (k : ℕ) → (traced_at tr k).pid ≡ (traced_at u i).pid
              → ((tr.stage ≡ ReadingStatus k) × (tr.aside ≡ Nothing)) ⊎ (is_run_soon tr.stage k ≡ true) → ⊥
          by k its (inl reads) = reads-not-soon k i reads.0 soon
          by k its (inr there) =
              let at : k ≡ i = soon-same tr.stage k i there soon in
              let same : i ≡ q =
              Calm.apart-later run front back j c r place hider i q w.within within
              (sym its ∙ ap (λ m. (traced_at tr m).pid) at ∙ own) in
              false≢true (sym quiet ∙ ap (λ m. is_run_soon u.stage m) (sym same) ∙ w.stage)

      of-goes : is_run_soon tr.stage i ≡ true → GoesOn i → RestsThen (traced_at tr i).pid
      of-goes soon (inl w) = absurd (never soon w)
      of-goes soon (inr x) = λ p later.
          absurd
          (Soon.gone-then run front back j c r place hider on.off i inside
          (Soon.called-soon run front back j c r place hider on.off i inside soon) x.1 p later)

      of-runs : is_run_soon tr.stage i ≡ true
          → ((tr.stage ≡ Running i) × (tr.aside ≡ Nothing)) ⊎ (tr.aside ≡ Nothing → tr.stage ≢ Running i)
          → RestsThen (traced_at tr i).pid
      of-runs soon (inl runs) =
          Own.run-rests run front back j c r place posted hider on i
          inside runs.0 runs.1
      of-runs soon (inr away) = of-goes soon (goes-on i inside soon away)

      was-rests : RestsThen (traced_at tr i).pid
      was-rests = elim (cases_Bool (is_opened tr.stage i)) [
        | inl opened ↦ elim (cases_Bool (is_run_soon tr.stage i)) [
          | inl soon ↦ of-runs soon (runs-now tr.aside tr.stage i soon)
          | inr calm_now ↦
              (Own.rests-on run front back j c r place posted hider on i
              inside opened calm_now)
        ]
        | inr shut ↦ bare i inside shut
      ]

    by-comes : Comes tr r (traced_at u q).pid → RestsThen (traced_at u q).pid
    by-comes (was i inside own) = subst (λ p. RestsThen p) own (was-rests i inside own)
    by-comes (new is idle accepted) = begun _ is idle accepted

    pub rests-then : RestsThen (traced_at u q).pid
    rests-then =
        let f = on.holds in by-comes (places-come tr r f.off f.follow f.stage f.beside on.calm on.has q within)
