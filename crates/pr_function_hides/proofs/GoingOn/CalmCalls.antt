use Rattle.std.proofs.Common.{◌≡◌, ◌≢◌, ◌<◌, ◌++◌, ℕ, true, false, cond, Some, None, List, [], ◌∷◌, length, refl, sym}
use Rattle.std.proofs.Common.{subst, ap, ◌∙◌, inl, inr}
use Rattle.std.proofs.lemmas.Bool.{cases_eq}
use Rattle.std.proofs.lemmas.List.{append_assoc}
use Rattle.std.proofs.lemmas.List.Elements.{All-head, All-tail}
use Rattle.std.proofs.lemmas.Option.{same_Some}
use Rattle.std.specs.List.{All}
use Rattle.pr_api.specs.Entries.{call_entry}
use Rattle.pr_function_hides.proofs.GoingOn.AwayCalls.{rests-away}
use Rattle.pr_function_hides.proofs.Files.CallFacts.{same-truss}
use Rattle.pr_function_hides.proofs.Tidy.CalledCovers.{IsAsPatched, call-still, close-apart, ctl-apart}
use Rattle.pr_function_hides.proofs.Replies.ClosingWalk.{called_at}
use Rattle.pr_function_hides.proofs.Tidy.CopyFree.{copies-on, function-run, goes-on-there, known-on, run-options, truss-is}
use Rattle.pr_function_hides.proofs.Copying.CopyPlaces.{CopiesSo}
use Rattle.pr_function_hides.proofs.Files.GoneTold.{told-gone}
use Rattle.pr_function_hides.proofs.Replies.OwnFiles.{GoesOn, HasItsFiles, HoldsItsFiles, both-hold}
use Rattle.pr_function_hides.proofs.Replies.PlacesCome.{IsReadOrSoon, soon-comes}
use Rattle.pr_function_hides.proofs.Tidy.TidyCalls as Calls
use Rattle.pr_function_hides.proofs.Tidy.TidyEntries.{at-is, its-lawful, its-legal, now-is}
use Rattle.pr_function_hides.proofs.Tidy.TidyKept.{Kept, Truss, has-files, stays-on}
use Rattle.pr_function_hides.proofs.Tidy.TidyLaw.{kept-at}
use Rattle.pr_function_hides.specs.RunsOfTrusses.{IsRunOfTrusses}
use Rattle.pr_function_hides.specs.TidyWrites.{IsTrussAfter}
use Rattle.pr_function_hides.specs.Treating.{is_run_soon}
use Rattle.pr_function_laws.proofs.Stepping.BreakpointLemmas.{foreign-entry}
use Rattle.pr_function_laws.proofs.LeavingProcesses.LeavingLaws.{calm-exchanges}
use Rattle.pr_function_laws.proofs.OpenedProcesses.OpenedCalls.{IsSo}
use Rattle.pr_function_laws.proofs.OpenedProcesses.OpenedLaws.{Goes, calls-front, elsewhere-alone}
use Rattle.pr_function_laws.proofs.OpenedProcesses.OpenedLemmas.{control-made, control-sole}
use Rattle.pr_function_laws.proofs.OrdinaryTruss.OrdinaryExchanges.{IsFit, first-fit, next-fit}
use Rattle.pr_function_laws.proofs.OrdinaryTruss.OrdinaryStops.{FitsAside}
use Rattle.pr_function_laws.proofs.Stepping.StretchLemmas as stretch
use Rattle.pr_function_laws.specs.Opened.{IsFunctionRun, is_opened}
use Rattle.pr_function_laws.specs.Runs.{MakesFunctionCalls, functions_after}
use Rattle.pr_function_laws.specs.Soon.{IsCalm}
use Rattle.pr_function_laws.specs.Stretches.{acts_by}
use Rattle.pr_hidden.specs.Covers.{Cover, Covers}
use Rattle.pr_hidden.specs.Hiders.{Hiders, covers_after, covers_at, covers_called, covers_turned, hides}
use Rattle.pr_line.specs.declared.options.Options.{Options}
use Rattle.pr_model.specs.Handles.{handle_of}
use Rattle.pr_model.specs.Lawful.{IsLawful}
use Rattle.pr_model.specs.Legal.{IsLegal, IsLegalEntry, state_after}
use Rattle.pr_model.specs.LwpTurns.{LwpTurn, turn_of}
use Rattle.pr_model.specs.State.{TracedProcess, TracedState, live_process}
use Rattle.pr_model.specs.declared.calls.Call.{Call}
use Rattle.pr_model.specs.declared.calls.Call.TheVariants as call
use Rattle.pr_model.specs.declared.calls.Reply.{Reply}
use Rattle.pr_model.specs.declared.events.Act.TheVariants as act
use Rattle.pr_model.specs.declared.events.Actor.TheVariants.{Lwp}
use Rattle.pr_model.specs.declared.events.Entry.{Entry}
use Rattle.pr_model.specs.declared.events.Turned.{Turned}
use Rattle.pr_model.specs.declared.handles.Held.{Held}
use Rattle.pr_report_laws.proofs.Files.WatchHistories.{exchanges-both}
use Rattle.pr_report_laws.proofs.Invariant.OtherSteps.{lives-later}
use Rattle.pr_report_laws.proofs.Invariant.StandLemmas.{Each}
use Rattle.pr_tool_laws.proofs.Records.WholeLemmas.{front-legal}
use Rattle.pr_truss.specs.FunctionCalls.{call_beside, function_call_of, next_function_call_of}
use Rattle.pr_truss.specs.FunctionFeeding.{fed_functions}
use Rattle.pr_truss.specs.Marks.{has_functions}
use Rattle.pr_truss.specs.NextCalls.{call_of, next_call_of, open_control}
use Rattle.pr_truss.specs.Replies.{answer_of}
use Rattle.pr_truss.specs.Trusses.{TrussState, first_truss, traced_at}
use Rattle.pr_truss.specs.declared.asides.Aside.TheVariants.{Nothing}
use Rattle.pr_truss.specs.declared.processes.Traced.{Traced}
use Rattle.pr_truss.specs.declared.replies.Answer.TheVariants.{Accepted, Gone, Interrupted}
use Rattle.pr_truss.specs.declared.stages.Stage.TheVariants.{OpeningControl}
use Rattle.pr_truss_laws.proofs.Machine.OutlastLemmas.{own-call-elsewhere}
use Rattle.pr_truss_laws.proofs.Machine.OverLemmas.{stays-over}
use Rattle.pr_truss_laws.specs.Exchanges.{Exchange, exchange_of, exchanges}
use Rattle.pr_truss_laws.specs.Stills.{IsUndisturbed}
use Rattle.pr_world.specs.ControllerStates.{ControllerState}

-- What is known of a truss that hides, where it comes to in a history, as long as it does not leave its processes: also
-- where others leave theirs.

-- ---- what comes before a call fits to that call

fit-from : (o : Options) (has : has_functions o ≡ true) (off : o.follow ≡ false) (xs : List Exchange) (t : TrussState)
    → IsFit o t → MakesFunctionCalls t xs → All IsCalm xs → IsFit o (functions_after t xs)
fit-from o has off [] t fit makes calm = fit
fit-from o has off (x ∷ xs) t fit makes calm =
    fit-from o has off xs (fed_functions t x.reply)
    (next-fit o has off t x fit makes.0 (All-head IsCalm x xs calm)) makes.1 (All-tail IsCalm x xs calm)

-- ---- where an entry comes

module _ {n : ℕ} {who : Hiders} {controllers : List ControllerState} {first : TracedState}
    {h : List Entry} (run : IsRunOfTrusses n who controllers first h) where
  abbrev here : List Entry → TracedState
  here front = state_after first front

  abbrev covers : List Entry → Covers
  covers front = covers_at who first front

  module _ (front : List Entry) (e : Entry) (back : List Entry) (place : h ≡ front ++ e ∷ back) (k : ℕ)
      (hider : hides who k ≡ true) where
    abbrev next_front : List Entry
    next_front = front ++ e ∷ []

    abbrev pub kept-here : Kept who controllers first h front
    kept-here = kept-at run front (e ∷ back) place

    abbrev pub truss : Truss who controllers first h front k
    truss = let w = kept-here in w.trusses k hider

    abbrev pub t : TrussState
    t = let w = truss in w.t

    pub files : HasItsFiles k t (here front)
    files = has-files truss

    pub fit-here : FitsAside t.aside t.stage
    fit-here =
        let o : Options = run-options run k hider in
        let it : IsFunctionRun n k o first h = function-run run.legal run.reached run.own_calls run.are k hider in
        let w = truss in
        let fits =
        fit-from o it.has it.follows_none (exchanges k front) (first_truss o) (first-fit o it.has it.follows_none)
        (calls-front (first_truss o) (exchanges k front) (exchanges k (e ∷ back))
        (subst (MakesFunctionCalls (first_truss o))
        (ap (exchanges k) place ∙ exchanges-both k front (e ∷ back)) it.makes))
        (calm-exchanges front n k first
        (front-legal n first front (e ∷ back) (subst (λ (es : List Entry). IsLegal n first es) place run.legal))) in
        subst (λ (u : TrussState). FitsAside u.aside u.stage)
        (sym (truss-is run.own_calls run.are k hider front (e ∷ back) place w.t w.is)) fits.fits

    -- as long as it goes on
    module _ (off : t.leaving ≡ false) where
      pub goes : Goes (Unit {0}) k (run-options run k hider) t (here front)
      goes = let w = truss in goes-on-there run k hider front (e ∷ back) place w.t w.is off

      pub copies : CopiesSo t (here front).system
      copies = let w = truss in copies-on run k hider front (e ∷ back) place w.t w.is off

      pub on : GoesOn t
      on = stays-on truss off

      pub holds : HoldsItsFiles k t (here front)
      holds = both-hold k t (here front) on files

    -- others leave a process of it alone
    module _ (none : exchange_of k e ≡ None) (q : ℕ) (within : q < length t.traced)
        (apart : (own : ℕ) → e.actor ≢ Lwp (traced_at t q).pid own) where
      pub left-alone : (x : TracedProcess) → live_process (here next_front).system (traced_at t q).pid ≡ Some x
          → (p : TracedProcess)
          × ((live_process (here front).system (traced_at t q).pid ≡ Some p) × IsUndisturbed p x)
      left-alone x later =
          let legal = its-legal run front e back place kept-here in
          let f = files in
          elsewhere-alone n k (here front) (its-lawful run front e back place kept-here) e legal
          (foreign-entry n k (here front) e legal none) (traced_at t q).pid (traced_at t q).control
          (f.control q within) t.options t apart x
          (ap (λ (s : TracedState). live_process s.system (traced_at t q).pid)
          (sym (now-is run front e back place kept-here)) ∙ later)

  -- ---- a turn

  module _ (front back : List Entry) (acting id : ℕ) (turned : Turned)
      (place : h ≡ front ++ record { actor = Lwp acting id; act = act.Turn turned } ∷ back) where
    abbrev turn-entry : Entry
    turn-entry = record { actor = Lwp acting id; act = act.Turn turned }

    -- the turn as the machine makes it
    pub its-turn : (x : LwpTurn) × ((turn_of (here front).system acting id ≡ Some x) × (x.turned ≡ turned))
    unfolding IsLegalEntry
    its-turn =
        let legal =
        its-legal run front turn-entry back place (kept-at run front (turn-entry ∷ back) place) in
        (record { system = legal.0; turned = turned }, (legal.1, refl))

    pub turned-is : (pid : ℕ) → covers (front ++ turn-entry ∷ []) pid
        ≡ covers_turned who (covers front) (here front) acting id turned.did pid
    unfolding covers_after
    turned-is pid =
        ap (λ (cs : Covers). cs pid)
        (at-is run front turn-entry back place (kept-at run front (turn-entry ∷ back) place))

  -- ---- a call

  module _ (front back : List Entry) (j : ℕ) (c : Call) (r : Reply) (place : h ≡ front ++ call_entry j c r ∷ back) where
    abbrev e : Entry
    e = call_entry j c r

    abbrev later_front : List Entry
    later_front = front ++ e ∷ []

    abbrev v : TracedState
    v = here front

    abbrev pub kept-now : Kept who controllers first h front
    kept-now = kept-at run front (e ∷ back) place

    pub called-cover : (pid : ℕ) → covers later_front pid ≡ covers_called who (covers front) v j c r pid
    called-cover pid = ap (λ (cs : Covers). cs pid) (Calls.called-is run front back j c r place kept-now)

    -- a call that acts by no handle of a process
    abbrev pub AwayFrom : ℕ → Type 0
    AwayFrom pid = (m : ℕ) (held : Held) → acts_by c ≡ Some m → handle_of v.opens j m ≡ Some held → held.pid ≢ pid

    pub away-patches : (pid : ℕ) → AwayFrom pid → (covers later_front pid).patches ≡ (covers front pid).patches
    away-patches pid away =
        ap (λ (d : Cover). d.patches) (called-cover pid) ∙ (let s = by c refl in s.patches)
      where
        by : (d : Call) → c ≡ d → IsAsPatched (covers front pid) (covers_called who (covers front) v j d r pid)
        by (call.Ctl number sent) is =
            ctl-apart who run.are.no_probes (covers front) v j pid number sent r
            (λ g there. away number g (ap acts_by is) there)
        by (call.Close number) is =
            close-apart who run.are.no_probes (covers front) v j pid number r
            (λ g there same. absurd (away number g (ap acts_by is) there same))
        by d is = call-still who run.are.no_probes (covers front) v j pid d r refl

    module _ (hider : hides who j ≡ true) where
      abbrev pub tr : TrussState
      tr = t front e back place j hider

      abbrev pub u : TrussState
      u = fed_functions tr r

      pub is-now : IsTrussAfter who controllers first h front j tr
      is-now = let w = truss front e back place j hider in w.is

      pub is-later : IsTrussAfter who controllers first h later_front j u
      is-later = Calls.own-after run front back j c r place kept-now hider

      pub has : has_functions tr.options ≡ true
      has = Calls.has run front back j c r place kept-now hider

      pub next : next_function_call_of tr ≡ Some c
      next = Calls.next run front back j c r place kept-now hider

      pub lawful : IsLawful v
      lawful = its-lawful run front e back place kept-now

      pub control-there : (q : ℕ) → q < length tr.traced → (traced_at tr q).pid < v.system.made
      control-there q within =
          let f = files front e back place j hider in
          control-made j (traced_at tr q).pid (traced_at tr q).control v lawful (f.control q within)

      -- the call is that of its stage
      pub call-now : tr.aside ≡ Nothing → function_call_of tr tr.stage ≡ Some c
      unfolding next_function_call_of call_beside
      call-now idle =
          sym (ap (λ b. cond b (call_beside tr tr.stage tr.aside) (next_call_of tr)) has
          ∙ ap (call_beside tr tr.stage) idle) ∙ next

      -- no process stands at two places then
      pub apart-later : (a b : ℕ) → a < length u.traced → b < length u.traced
          → (traced_at u a).pid ≡ (traced_at u b).pid → a ≡ b
      apart-later a b a_within b_within same = elim (cases_eq a b) [
        | inl is ↦ is
        | inr apart ↦ absurd (far a b a_within b_within apart same)
      ]
        where
          far : (a b : ℕ) → a < length u.traced → b < length u.traced → a ≢ b
              → (traced_at u a).pid ≢ (traced_at u b).pid
          far =
              let w =
              (let kept = kept-at run later_front back (place ∙ sym (append_assoc front (e ∷ []) back)) in
              kept.trusses j hider) in
              subst (λ (x : TrussState). (a b : ℕ) → a < length x.traced → b < length x.traced → a ≢ b
              → (traced_at x a).pid ≢ (traced_at x b).pid) (same-truss w.t u _ w.is is-later) w.apart

      pub fresh : (at : ℕ) → tr.stage ≡ OpeningControl at → tr.aside ≡ Nothing → answer_of r ≡ Accepted
          → Each (λ (w : Traced). w.pid ≢ at) tr.traced
      unfolding function_call_of call_of
      fresh at is idle accepted =
          Calls.new-apart run front back j c r place kept-now hider at
          (same_Some c (open_control at) (sym (call-now idle) ∙ ap (function_call_of tr) is)) accepted

      -- one on which it does not act
      module _ (i : ℕ) (inside : i < length tr.traced) (away : AwayFrom (traced_at tr i).pid) where
        abbrev pid : ℕ
        pid = (traced_at tr i).pid

        pub own-alone : (x : TracedProcess) → live_process (here later_front).system pid ≡ Some x
            → (p : TracedProcess) × ((live_process v.system pid ≡ Some p) × IsUndisturbed p x)
        own-alone x later =
            let own = Calls.own run front back j c r place kept-now hider in
            let f = files front e back place j hider in
            let legal = its-legal run front e back place kept-now in
            let control = (traced_at tr i).control in
            let made = control-there i inside in
            let sole = control-sole j pid control v lawful (f.control i inside) in
            let same : own.answer.state ≡ here later_front =
            own.later ∙ sym (now-is run front e back place kept-now) in
            lives-later tr.options pid tr v own.answer.state
            (λ p live.
            own-call-elsewhere v j pid c own.answer p lawful
            (λ m g named there. away m g (stretch.named-acts n j pid 0 control v lawful sole made c m named) there)
            own.is live)
            (λ none.
            ap (λ (y : TracedState). live_process y.system pid) own.later ∙ stays-over n v e pid lawful legal made none)
            x (ap (λ (y : TracedState). live_process y.system pid) same ∙ later)

      -- as long as it goes on
      module _ (off : tr.leaving ≡ false) where
        -- a process of which it is told that it is gone has ended
        pub told-over : (q : ℕ) → called_at tr.stage tr.aside ≡ Some q → answer_of r ≡ Gone
            → live_process v.system (traced_at tr q).pid ≡ None
        told-over q called told =
            let own = Calls.own run front back j c r place kept-now hider in
            let w = truss front e back place j hider in
            let f = on front e back place j hider off in
            told-gone j v c own.answer own.is tr w.files (known-on run j hider front (e ∷ back) place tr is-now off)
            f.stage f.beside (ap answer_of own.replied ∙ told) has next q called

        -- one that it has opened, and neither runs soon nor closes
        pub resting-away : (i : ℕ) → i < length tr.traced → is_opened tr.stage i ≡ true
            → is_run_soon tr.stage i ≡ false → AwayFrom (traced_at tr i).pid
        resting-away i inside opened quiet =
            let w = truss front e back place j hider in
            rests-away j v tr c (holds front e back place j hider off) w.files (fit-here front e back place j hider) i
            inside opened quiet has next

        -- a process that it runs soon then
        pub comes : answer_of r ≢ Interrupted → (q : ℕ) → is_run_soon u.stage q ≡ true
            → IsReadOrSoon tr (traced_at u q).pid
        comes calm q soon =
            let g = goes front e back place j hider off in
            soon-comes (IsSo (Unit {0}) j tr.options v) tr r g.kept (fit-here front e back place j hider) calm fresh has
            q soon
