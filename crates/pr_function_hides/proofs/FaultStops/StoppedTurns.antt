use Rattle.std.proofs.Common.{◌≡◌, ◌≢◌, ◌<◌, ◌++◌, ℕ, Bool, true, false, Some, List, [], ◌∷◌, length, refl, sym, subst}
use Rattle.std.proofs.Common.{ap, ◌∙◌, inl, inr}
use Rattle.std.proofs.lemmas.Bool.{cases_Bool, cases_eq, eq-eqb, false≢true}
use Rattle.std.proofs.lemmas.Option.{none-some, same_Some}
use Rattle.std.specs.List.{slice_get}
use Rattle.pr_function_hides.proofs.Files.CallFacts.{controllers-push}
use Rattle.pr_function_hides.proofs.GoingOn.CalmCalls.{its-turn, kept-here, t, truss, turned-is}
use Rattle.pr_function_hides.proofs.Clean.CleanCovers.{stopped-not-own}
use Rattle.pr_function_hides.proofs.StandingFaults.CountedFaults.{CountsNow, OwnFault, before, breaks, directed-is, now as counts_now}
use Rattle.pr_function_hides.proofs.StandingFaults.CountedFaults.{own-fault, patch-there, traces, turned-count}
use Rattle.pr_function_hides.proofs.StandingFaults.FaultTurns.{IsOldPhase, fresh, old, turn-directed, turn-free, turn-old, turn-other}
use Rattle.pr_function_hides.proofs.StandingFaults.FaultTurns.{turn-stops}
use Rattle.pr_function_hides.proofs.Tidy.CopyFree.{copies-on}
use Rattle.pr_function_hides.proofs.FaultStops.StoppedFaults.{CleanIn, LeftAs, Posted, RestsIn, SoonIn, framed-clean, framed-left}
use Rattle.pr_function_hides.proofs.FaultStops.StoppedFaults.{framed-rests, framed-soon, known-here}
use Rattle.pr_function_hides.proofs.Clean.HaltedOpenings.{HaltsIn}
use Rattle.pr_function_hides.proofs.StandingFaults.OwnFaults.{CountLess, IsOwnKind, OwnStand, OwnStops, StandsAtOwn, clean-none}
use Rattle.pr_function_hides.proofs.StandingFaults.OwnFaults.{none-stand, own-met, planted, trap}
use Rattle.pr_function_hides.proofs.GoingOn.OldStops.{waits-frozen}
use Rattle.pr_function_hides.proofs.StandingFaults.CountedPlaces.{turned-patches}
use Rattle.pr_function_hides.proofs.Tidy.TidyEntries.{its-lawful, now-is}
use Rattle.pr_function_hides.specs.RunsOfTrusses.{IsRunOfTrusses}
use Rattle.pr_function_hides.specs.TidyWrites.{IsTrussAfter}
use Rattle.pr_function_hides.specs.Treating.{is_run_soon}
use Rattle.pr_function_laws.proofs.Stepping.HaltingSteps.{every-fault}
use Rattle.pr_function_laws.proofs.OpenedProcesses.OneEventLemmas.{met-halting}
use Rattle.pr_function_laws.proofs.OpenedProcesses.OpenedLaws.{Goes, goes-few, goes-opened, goes-still, turn-later}
use Rattle.pr_function_laws.specs.OneEvent.{HasOneEventAtMost, is_looked_at, met, unmet}
use Rattle.pr_function_laws.specs.Opened.{is_opened}
use Rattle.pr_function_laws.specs.Steps.{StopsAtAll}
use Rattle.pr_hidden.specs.Covers.{Cover, Covers}
use Rattle.pr_hidden.specs.Hiders.{Hiders, covers_at, hides, is_directed, is_own, lwp_at, patch_at}
use Rattle.pr_model.proofs.TurnLemmas.{turn-taken}
use Rattle.pr_model.specs.Lawful.{IsLawful}
use Rattle.pr_model.specs.Legal.{state_after}
use Rattle.pr_model.specs.LwpTurns.{LwpTurn, turn_of}
use Rattle.pr_model.specs.Points.{is_traced}
use Rattle.pr_model.specs.Registers.{pc_of}
use Rattle.pr_model.specs.State.{TracedControl, TracedLwp, TracedProcess, TracedState, live_process, lwp_of}
use Rattle.pr_model.specs.declared.events.Act.TheVariants as act
use Rattle.pr_model.specs.declared.events.Actor.TheVariants.{Lwp}
use Rattle.pr_model.specs.declared.events.Did.{Did}
use Rattle.pr_model.specs.declared.events.Did.TheVariants.{Faulted}
use Rattle.pr_model.specs.declared.events.Entry.{Entry}
use Rattle.pr_model.specs.declared.events.Turned.{Turned}
use Rattle.pr_model.specs.declared.lwps.Phase.TheVariants.{Faulted as AtFault, User}
use Rattle.pr_model.specs.declared.stops.Point.TheVariants.{Fault}
use Rattle.pr_model.specs.declared.stops.Stop.TheVariants as stop
use Rattle.pr_num.specs.Faults.{fault_number}
use Rattle.pr_num.specs.Limits.{all_faults}
use Rattle.pr_num.specs.Sets.{has_number}
use Rattle.pr_num.specs.declared.faults.Flt.{Flt}
use Rattle.pr_num.specs.declared.faults.Flt.TheVariants.{Bpt, Trace}
use Rattle.pr_report_laws.proofs.Machine.TurnSettings.{turn-settings}
use Rattle.pr_truss.specs.Asides.{marks_at}
use Rattle.pr_truss.specs.Trusses.{TrussState, traced_at}
use Rattle.pr_truss.specs.declared.stages.Stage.{Stage}
use Rattle.pr_truss.specs.declared.stages.Stage.TheVariants.{ReadingText, Running}
use Rattle.pr_truss_laws.proofs.Machine.StillLemmas.{frozen-turns, halting-did, halting-leaves, halting-stays}
use Rattle.pr_truss_laws.specs.Stills.{IsFrozen, IsHalting}
use Rattle.pr_world.specs.ControllerStates.{ControllerState}
use Rattle.pr_world.specs.Protocol.{controllers_after, controllers_at}

-- A turn leaves each lwp that stands at a fault of one who hides on the stop of it, and whoever incurs one stops, since
-- truss traces all faults: of what it has opened, and also while it leaves that.

at-same : {f g : Flt} {a b : ℕ} → AtFault f a ≡ AtFault g b → f ≡ g
at-same is = cc

-- where all faults are traced, each one is
faults-traced : (c : TracedControl) → c.traced_faults ≡ all_faults → (f : Flt) → is_traced c (Fault f) ≡ true
unfolding is_traced
faults-traced c all f = ap (λ set. has_number set (fault_number f)) all ∙ every-fault f

-- in a process that stops so a fault is traced
pub stops-traced : (c : TracedControl) → StopsAtAll c → (f : Flt) → is_traced c (Fault f) ≡ true
stops-traced c all = faults-traced c all.faults

-- a process that is run soon is looked at
pub soon-looked : (stage : Stage) (q : ℕ) → is_run_soon stage q ≡ true → is_looked_at stage q ≡ true
soon-looked (Running at) q is = is
soon-looked (ReadingText at l from len) q is = is
soon-looked _ q is = absurd (false≢true is)

module _ {n : ℕ} {who : Hiders} {controllers : List ControllerState} {first : TracedState}
    {h : List Entry} (run : IsRunOfTrusses n who controllers first h) (front back : List Entry)
    (acting id : ℕ) (turned : Turned)
    (place : h ≡ front ++ record { actor = Lwp acting id; act = act.Turn turned } ∷ back) (posted : Posted run front)
    (k : ℕ) (hider : hides who k ≡ true) where
  abbrev here : List Entry → TracedState
  here front = state_after first front

  abbrev covers : List Entry → Covers
  covers front = covers_at who first front

  abbrev e : Entry
  e = record { actor = Lwp acting id; act = act.Turn turned }

  abbrev later_front : List Entry
  later_front = front ++ e ∷ []

  abbrev s : TracedState
  s = here front

  abbrev tr : TrussState
  tr = t run front e back place k hider

  is-now : IsTrussAfter who controllers first h front k tr
  is-now = let w = truss run front e back place k hider in w.is

  abbrev turn : LwpTurn
  turn = (its-turn run front back acting id turned place).0

  turn-is : turn_of s.system acting id ≡ Some turn
  turn-is = (its-turn run front back acting id turned place).1.0

  did-is : (did : Did) → turned.did ≡ did → turn.turned.did ≡ did
  did-is did is =
      ap (λ (x : Turned). x.did) (its-turn run front back acting id turned place).1.1 ∙ is

  lawful-now : IsLawful s
  lawful-now = its-lawful run front e back place (kept-here run front e back place k hider)

  later-system : (here later_front).system ≡ turn.system
  later-system =
      ap (λ (x : TracedState). x.system) (now-is run front e back place (kept-here run front e back place k hider))
      ∙ turn-later s acting id turned turn turn-is

  counts : (pid m : ℕ) → (covers later_front pid).faulted m ≡ true
      → CountsNow who (covers front) s acting id turned.did pid m
  counts pid m is =
      turned-count who (covers front) s acting id turned.did
      (let w = kept-here run front e back place k hider in w.no_agent acting) pid m
      (ap (λ (c : Cover). c.faulted m) (sym (turned-is run front back acting id turned place pid))
      ∙ is)

  -- of another process
  pub less-apart : (pid : ℕ) → pid ≢ acting → CountLess (covers front pid) (covers later_front pid)
  less-apart pid apart m is = by (counts pid m is)
    where
      by : CountsNow who (covers front) s acting id turned.did pid m → (covers front pid).faulted m ≡ true
      by (before it own) = it
      by (counts_now same own goes it) = absurd (apart same)

  -- ---- of its own process

  pub taken : (p : TracedProcess)
      × ((live_process s.system acting ≡ Some p) × ((l : TracedLwp) × (lwp_of p id ≡ Some l)))
  taken = let it = turn-taken s.system acting id turn turn-is in (it.process, (it.live, (it.lwp, it.there)))

  abbrev p : TracedProcess
  p = taken.0

  live : live_process s.system acting ≡ Some p
  live = taken.1.0

  module _ (x : TracedProcess) (later : live_process (here later_front).system acting ≡ Some x) where
    later-there : live_process turn.system acting ≡ Some x
    later-there = ap (λ (y : _). live_process y acting) (sym later-system) ∙ later

    -- each stood on its stop before, and all faults are traced
    module _ (stops : OwnStops (covers front acting) p) (all : (f : Flt) → is_traced p.control (Fault f) ≡ true)
      where
        abbrev Stops : (m : ℕ) → StandsAtOwn (covers later_front acting) x m → Type 0
        Stops m w = w.lwp.control.stop ≡ Some (stop.Faulted w.fault)

        -- one that stood there before
        was-stopped : (m : ℕ) (w : StandsAtOwn (covers later_front acting) x m)
            → (covers front acting).faulted m ≡ true → (l : TracedLwp) → lwp_of p m ≡ Some l
            → l.phase ≡ AtFault w.fault w.address → l.control.stop ≡ Some (stop.Faulted w.fault)
        was-stopped m w counted l there phase =
            stops m
            (record { lwp = l; there = there; own = counted; fault = w.fault; address = w.address; phase = phase })

        other-stops : (m : ℕ) (w : StandsAtOwn (covers later_front acting) x m)
            → (covers front acting).faulted m ≡ true → m ≢ id → Stops m w
        other-stops m w counted apart =
            by (turn-old s.system acting p id turn lawful-now.system live turn-is x later-there m w.lwp apart w.there)
          where
            by : IsOldPhase p m w.lwp → Stops m w
            by (fresh is) = let both : AtFault w.fault w.address ≡ User = sym w.phase ∙ is in cc
            by (old l there is at) = at ∙ was-stopped m w counted l there (sym is ∙ w.phase)

        -- the one whose turn it was stood on none: it was not directed to stop
        directed-not : {A : Type 0} → (w : StandsAtOwn (covers later_front acting) x id)
            → (covers front acting).faulted id ≡ true → is_directed (lwp_at s.system acting id) ≡ true → A
        directed-not w counted directs =
            let l : TracedLwp = taken.1.1.0 in
            let there : lwp_of p id ≡ Some l = taken.1.1.1 in
            let phase =
            turn-directed s.system acting p id turn lawful-now.system live turn-is x later-there l there
            (sym (directed-is who (covers front) s acting id turned.did p l live there) ∙ directs) w.lwp w.there in
            absurd (none-some (stop.Faulted w.fault)
            (sym (turn-free s.system acting p id turn lawful-now.system live turn-is x later-there l there)
            ∙ was-stopped id w counted l there (sym phase ∙ w.phase)))

        -- or it incurred such a fault
        fault-stops : (w : StandsAtOwn (covers later_front acting) x id) (f : Flt) → turn.turned.did ≡ Faulted f
            → Stops id w
        fault-stops w f is =
            let st =
            turn-stops s.system acting p id turn lawful-now.system live turn-is x later-there f is (all f) w.lwp
            w.there in
            st.0 ∙ ap (λ g. Some (stop.Faulted g)) (sym (at-same (sym w.phase ∙ st.1.0.1)))

        own-stops : (w : StandsAtOwn (covers later_front acting) x id)
            → OwnFault who (covers front) s acting id turned.did → Stops id w
        own-stops w (traces did) = fault-stops w Trace (did-is (Faulted Trace) did)
        own-stops w (breaks did at) = fault-stops w Bpt (did-is (Faulted Bpt) did)

        -- of one lwp, where it is the one whose turn it was, and where it is another one
        pub by-turn : (P : (m : ℕ) → StandsAtOwn (covers later_front acting) x m → Type 0)
            → ((m : ℕ) (w : StandsAtOwn (covers later_front acting) x m) → (covers front acting).faulted m ≡ true
            → m ≢ id → P m w)
            → ((w : StandsAtOwn (covers later_front acting) x id)
            → OwnFault who (covers front) s acting id turned.did → P id w)
            → (m : ℕ) (w : StandsAtOwn (covers later_front acting) x m) → P m w
        by-turn P others own m w = by (counts acting m w.own)
          where
            own-id : m ≡ id → (w : StandsAtOwn (covers later_front acting) x m)
                → ((v : StandsAtOwn (covers later_front acting) x id) → P id v) → P m w
            own-id same =
                subst (λ i. (w : StandsAtOwn (covers later_front acting) x i)
                → ((v : StandsAtOwn (covers later_front acting) x id) → P id v) → P i w) (sym same) (λ w all. all w)

            by : CountsNow who (covers front) s acting id turned.did acting m → P m w
            by (before counted directs) = elim (cases_eq m id) [
              | inl same ↦ own-id same w
                  (λ v. directed-not v (subst (λ i. (covers front acting).faulted i ≡ true) same counted)
                  (directs refl same))
              | inr apart ↦ others m w counted apart
            ]
            by (counts_now same its goes is) =
                own-id its w (λ v. own v (own-fault who (covers front) s acting id turned.did is))

        pub turned-stops : OwnStops (covers later_front acting) x
        turned-stops = by-turn Stops other-stops own-stops

  -- a process all faults of which are traced, in which one lwp at most met an event
  module _ (few : HasOneEventAtMost p) (all-traced : (f : Flt) → is_traced p.control (Fault f) ≡ true)
      (rests : RestsIn run front acting) (x : TracedProcess)
      (later : live_process (here later_front).system acting ≡ Some x) where
    was-stopped-there : OwnStops (covers front acting) p
    was-stopped-there m w = (rests p live m w).0

    same-patches : (covers later_front acting).patches ≡ (covers front acting).patches
    same-patches = turned-patches run front back acting id turned place acting

    kind-on : {l : TracedLwp} {f : Flt} → IsOwnKind (covers front acting) l f
        → IsOwnKind (covers later_front acting) l f
    kind-on (trap is) = trap is
    kind-on {l} (planted g is there) = planted g is (ap (patch_at (pc_of l.regs)) same-patches ∙ there)

    abbrev Kind : (m : ℕ) → StandsAtOwn (covers later_front acting) x m → Type 0
    Kind m w = IsOwnKind (covers later_front acting) w.lwp w.fault

    other-kind : (m : ℕ) (w : StandsAtOwn (covers later_front acting) x m) → (covers front acting).faulted m ≡ true
        → m ≢ id → Kind m w
    other-kind m w counted apart =
        by (turn-old s.system acting p id turn lawful-now.system live turn-is x (later-there x later) m w.lwp apart
        w.there)
      where
        was-there : (l : TracedLwp) → lwp_of p m ≡ Some l → l.phase ≡ AtFault w.fault w.address
            → (l.control.stop ≡ Some (stop.Faulted w.fault)) × IsOwnKind (covers front acting) l w.fault
        was-there l there phase =
            rests p live m
            (record { lwp = l; there = there; own = counted; fault = w.fault; address = w.address; phase = phase })

        of : (l : TracedLwp) → lwp_of p m ≡ Some l → l.phase ≡ AtFault w.fault w.address → HasOneEventAtMost p
            → Kind m w
        of l there phase (unmet none) =
            absurd (false≢true (sym (none m l there) ∙ own-met l w.fault (was-there l there phase).0))
        of l there phase (met one alone) =
            let same =
            turn-other s.system acting p id turn lawful-now.system live turn-is x (later-there x later)
            (met-halting p one alone) m w.lwp apart w.there in
            kind-on (was-there w.lwp same w.phase).1

        by : IsOldPhase p m w.lwp → Kind m w
        by (fresh is) = let both : AtFault w.fault w.address ≡ User = sym w.phase ∙ is in cc
        by (old l there is at) = of l there (sym is ∙ w.phase) few

    own-kind : (w : StandsAtOwn (covers later_front acting) x id)
        → OwnFault who (covers front) s acting id turned.did → Kind id w
    own-kind w (traces did) =
        let st =
        turn-stops s.system acting p id turn lawful-now.system live turn-is x (later-there x later) Trace
        (did-is (Faulted Trace) did) (all-traced Trace) w.lwp w.there in
        trap (at-same (sym w.phase ∙ st.1.0.1))
    own-kind w (breaks did at) =
        let st =
        turn-stops s.system acting p id turn lawful-now.system live turn-is x (later-there x later) Bpt
        (did-is (Faulted Bpt) did) (all-traced Bpt) w.lwp w.there in
        let l = st.1.1 refl in
        let g = patch-there who (covers front) s acting id turned.did p l.0 live l.1.0 at in
        planted g.patch (at-same (sym w.phase ∙ st.1.0.1))
        (ap (λ (rs : List ℕ). patch_at (pc_of rs) (covers later_front acting).patches) l.1.1
        ∙ ap (patch_at (pc_of l.0.regs)) same-patches ∙ g.there)

    pub stand-turned : OwnStand (covers later_front acting) x
    stand-turned m w = (
      turned-stops x later was-stopped-there all-traced m w,
      by-turn x later was-stopped-there all-traced Kind other-kind own-kind m w,
    )

  -- a truss that goes on, of a process that it has opened, and does not run soon
  module _ (off : tr.leaving ≡ false) (q : ℕ) (within : q < length tr.traced) (own : (traced_at tr q).pid ≡ acting)
      (opened : is_opened tr.stage q ≡ true) (quiet : is_run_soon tr.stage q ≡ false)
      (rests : RestsIn run front acting) (x : TracedProcess)
      (later : live_process (here later_front).system acting ≡ Some x) (new : (traced_at tr q).old ≡ 0) where
    live-there : live_process s.system (traced_at tr q).pid ≡ Some p
    live-there = ap (live_process s.system) own ∙ live

    goes : Goes (Unit {0}) k (let it = run.are.trusses k hider in it.options) tr s
    goes = let w = known-here run front e back place k hider off in w.goes

    few : HasOneEventAtMost p
    few =
        goes-few (Unit {0}) k _ tr s goes q within tt opened
        (λ runs. false≢true (sym quiet ∙ ap (λ st. is_run_soon st q) runs ∙ eq-eqb q q refl))
        new p live-there

    all-traced : (f : Flt) → is_traced p.control (Fault f) ≡ true
    all-traced f =
        let owns = goes-opened (Unit {0}) k _ tr s goes q within opened in
        let all = owns.traces p live-there in
        stops-traced p.control all.stops f

    turned-stand : OwnStand (covers later_front acting) x
    turned-stand = stand-turned few all-traced rests x later

  -- one that it leaves
  turned-left : (attached : Bool) → LeftAs run front attached acting → LeftAs run later_front attached acting
  turned-left true left = λ x later.
      let so = left p live in
      let settings =
      turn-settings s.system acting p id turn lawful-now.system live turn-is x (later-there x later) in (
        turned-stops x later so.0 (faults-traced p.control so.1),
        ap (λ (c : TracedControl). c.traced_faults) settings.control ∙ so.1,
      )
  turned-left false waits = (none-counts, halts)
    where
      halting : IsHalting p
      halting = waits.1 p live

      -- an lwp that stops as it is directed to incurs no fault
      not-own : is_own who (covers front) s acting id turned.did ≡ false
      not-own =
          stopped-not-own who (covers front) s acting id turned.did
          (ap (λ (y : Turned). y.did)
          (sym (its-turn run front back acting id turned place).1.1
          ∙ halting-did s.system acting p live halting id turn turn-is))

      none-counts : (m : ℕ) → (covers later_front acting).faulted m ≡ false
      none-counts m = elim (cases_Bool ((covers later_front acting).faulted m)) [
        | inl is ↦ absurd (by (counts acting m is))
        | inr off ↦ off
      ]
        where
          by : CountsNow who (covers front) s acting id turned.did acting m → ⊥
          by (before it own) = false≢true (sym (waits.0 m) ∙ it)
          by (counts_now same its goes is) = false≢true (sym not-own ∙ is)

      halts : HaltsIn (here later_front) acting
      halts x later =
          subst IsHalting
          (same_Some _ x
          (sym (halting-leaves s.system acting p live halting id turn turn-is) ∙ later-there x later))
          (halting-stays s.system acting p live halting id turn turn-is)

  -- ---- the trusses then

  same-at : slice_get (controllers_at controllers later_front) k ≡ slice_get (controllers_at controllers front) k
  unfolding controllers_after
  same-at = ap (λ (cs : List ControllerState). slice_get cs k) (controllers-push controllers front e)

  lwp-same : {a b i j : ℕ} → Lwp a i ≡ Lwp b j → a ≡ b
  lwp-same is = cc

  pub turn-left : (on : tr.leaving ≡ true) (q : ℕ) → q < length tr.traced
      → LeftAs run later_front (traced_at tr q).attached (traced_at tr q).pid
  turn-left on q within = elim (cases_eq (traced_at tr q).pid acting) [
    | inl same ↦ subst (λ i. LeftAs run later_front (traced_at tr q).attached i) (sym same)
        (turned-left (traced_at tr q).attached
        (subst (λ i. LeftAs run front (traced_at tr q).attached i) same was))
    | inr apart ↦ framed-left run front e back place k hider refl q within (λ i is. apart (sym (lwp-same is)))
        (less-apart (traced_at tr q).pid apart) (traced_at tr q).attached was
  ]
    where
      was : LeftAs run front (traced_at tr q).attached (traced_at tr q).pid
      was = posted.left k hider tr is-now on q within

  -- while truss counts a stop of it that stood before it came the process stands still
  pub turn-clean : (off : tr.leaving ≡ false) (q : ℕ) → q < length tr.traced → is_opened tr.stage q ≡ true
      → (traced_at tr q).old ≢ 0
      → CleanIn run later_front (traced_at tr q).pid
  turn-clean off q within opened some = elim (cases_eq (traced_at tr q).pid acting) [
    | inl same ↦ absurd (moves same)
    | inr apart ↦ framed-clean run front e back place k hider refl q within (λ i is. apart (sym (lwp-same is)))
        (less-apart (traced_at tr q).pid apart) (posted.clean k hider tr is-now off q within opened some)
  ]
    where
      moves : (traced_at tr q).pid ≡ acting → ⊥
      moves same =
          let it = turn-taken s.system acting id turn turn-is in
          let frozen : IsFrozen it.process =
          waits-frozen tr q it.process opened some
          (let c = copies-on run k hider front (e ∷ back) place tr is-now off in
          c.each q within it.process (ap (live_process s.system) same ∙ it.live)) in
          none-some turn (sym (frozen-turns s.system acting it.process it.live frozen id) ∙ turn-is)

  old-rests : (off : tr.leaving ≡ false) (q : ℕ) → q < length tr.traced → is_opened tr.stage q ≡ true
      → (traced_at tr q).old ≢ 0
      → RestsIn run later_front (traced_at tr q).pid
  old-rests off q within opened some x later =
      none-stand (covers later_front (traced_at tr q).pid) x
      (clean-none (covers later_front (traced_at tr q).pid) x (turn-clean off q within opened some x later))

  new-rests : (off : tr.leaving ≡ false) (q : ℕ) → q < length tr.traced → is_opened tr.stage q ≡ true
      → is_run_soon tr.stage q ≡ false
      → (traced_at tr q).old ≡ 0 → RestsIn run later_front (traced_at tr q).pid
  new-rests off q within opened quiet new = elim (cases_eq (traced_at tr q).pid acting) [
    | inl same ↦ subst (λ i. RestsIn run later_front i) (sym same)
        (λ x later.
        turned-stand off q within same opened quiet (subst (λ i. RestsIn run front i) same rests) x later new)
    | inr apart ↦ framed-rests run front e back place k hider refl q within (λ i is. apart (sym (lwp-same is)))
        (less-apart (traced_at tr q).pid apart)
        (turned-patches run front back acting id turned place (traced_at tr q).pid) rests
  ]
    where
      rests : RestsIn run front (traced_at tr q).pid
      rests = posted.rests k hider tr is-now off q within opened quiet

  pub turn-rests : (off : tr.leaving ≡ false) (q : ℕ) → q < length tr.traced → is_opened tr.stage q ≡ true
      → is_run_soon tr.stage q ≡ false
      → RestsIn run later_front (traced_at tr q).pid
  turn-rests off q within opened quiet = elim (cases_eq (traced_at tr q).old 0) [
    | inl new ↦ new-rests off q within opened quiet new
    | inr some ↦ old-rests off q within opened some
  ]

  pub turn-soon : (off : tr.leaving ≡ false) (q : ℕ) → q < length tr.traced → is_run_soon tr.stage q ≡ true
      → SoonIn run later_front (marks_at tr q).flags (traced_at tr q).pid
  turn-soon off q within soon = elim (cases_eq (traced_at tr q).pid acting) [
    | inl same ↦ absurd (moves same)
    | inr apart ↦ framed-soon run front e back place k hider refl q within (λ i is. apart (sym (lwp-same is)))
        (less-apart (traced_at tr q).pid apart) (marks_at tr q).flags (posted.soon k hider tr is-now off q within soon)
  ]
    where
      moves : (traced_at tr q).pid ≡ acting → ⊥
      moves same =
          let it = turn-taken s.system acting id turn turn-is in
          let w = known-here run front e back place k hider off in
          let frozen : IsFrozen it.process =
          goes-still (Unit {0}) k _ tr s w.goes tt q it.process (ap (live_process s.system) same ∙ it.live)
          (soon-looked tr.stage q soon) in
          none-some turn (sym (frozen-turns s.system acting it.process it.live frozen id) ∙ turn-is)
