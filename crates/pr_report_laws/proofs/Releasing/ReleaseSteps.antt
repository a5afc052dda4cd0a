use Rattle.std.proofs.Common.{◌≡◌, ◌≢◌, ◌==◌, ◌<◌, ℕ, Bool, true, false, cond, None, Some, Option, List, [], ◌∷◌, refl, sym, subst, ap, ◌∙◌, inl, inr}
use Rattle.std.proofs.lemmas.Bool.{cases_Bool, eqb-false, eqb-true}
use Rattle.std.proofs.lemmas.Option.{none-some, same_Some}
use Rattle.std.specs.List.{cons_option}
use Rattle.pr_laws.specs.LastCloses.{IsReleased}
use Rattle.pr_lawful.proofs.ProcessParts.HandleLemmas.{handle-at}
use Rattle.pr_line.specs.declared.options.Options.{Options}
use Rattle.pr_model.specs.Calls.{Answer, answer_to}
use Rattle.pr_model.specs.Handles.{handle_of, is_control}
use Rattle.pr_model.specs.Legal.{IsLegal, IsLegalEntry, after, after_call, after_turn, state_after}
use Rattle.pr_model.specs.LwpTurns.{LwpTurn, turn_of}
use Rattle.pr_model.specs.State.{TracedProcess, TracedState, live_process}
use Rattle.pr_model.specs.declared.calls.Call.{Call}
use Rattle.pr_model.specs.declared.calls.Call.TheVariants as call
use Rattle.pr_model.specs.declared.calls.Mode.TheVariants.{WriteExcl}
use Rattle.pr_model.specs.declared.calls.Reply.{Reply}
use Rattle.pr_model.specs.declared.events.Act.{Act}
use Rattle.pr_model.specs.declared.events.Act.TheVariants as act
use Rattle.pr_model.specs.declared.events.Actor.{Actor}
use Rattle.pr_model.specs.declared.events.Actor.TheVariants.{Controller, Lwp, Clock}
use Rattle.pr_model.specs.declared.events.Entry.{Entry}
use Rattle.pr_model.specs.declared.handles.Held.{Held}
use Rattle.pr_truss.specs.Trusses.{TrussState, first_truss}
use Rattle.pr_truss_laws.proofs.Files.OpensLemmas.{foreign-call}
use Rattle.pr_truss_laws.proofs.Files.ReleaseLemmas.{truss-closes}
use Rattle.pr_truss_laws.specs.Exchanges.{Exchange, Makes, exchange_in, exchange_of, exchanges}
use Rattle.pr_report_laws.proofs.UnopenedChildren.ClaimRuns.{call_entry}
use Rattle.pr_report_laws.proofs.Invariant.EntrySteps.{made-at}
use Rattle.pr_report_laws.proofs.Files.FileSteps.{MakesNext, makes-next, opens-turn}
use Rattle.pr_truss_laws.proofs.Machine.ForeignLemmas.{exclusive-sole}
use Rattle.pr_truss_laws.proofs.Machine.OutlastLemmas.{Outlasts, killed, lives, others-entry}
use Rattle.pr_truss_laws.proofs.Machine.OverLemmas.{stays-over}
use Rattle.pr_truss_laws.specs.Runs.{IsTrussRun}
use Rattle.pr_report_laws.proofs.Releasing.ReleaseCalls.{KeepsModes, call-modes}
use Rattle.pr_report_laws.proofs.Releasing.ReleaseModes.{HasSameFlags, alone-flags, flags-keep, settings-flags}
use Rattle.pr_report_laws.proofs.Machine.TurnSettings.{turn-settings}
use Rattle.pr_report_laws.proofs.Files.WatchHistories.{Reaches, entry-reaches, first-reaches}
use Rattle.pr_report_laws.specs.Releases.{HasModes, Modes, modes_after, modes_next, modes_set, released, spared}
use Rattle.pr_report_laws.specs.Watching.{fed_by_entry, with_exchange}

-- Along a history the modes of each process stay as truss has set them, as long as truss has its control file open.

-- what an exchange leaves of what truss has set, where one was made
abbrev pub modes_told : ℕ → TrussState → Modes → Option Exchange → Modes
modes_told pid t m None = m
modes_told pid t m (Some x) = modes_next pid t x.reply m t.stage

modes-first : (pid : ℕ) (t : TrussState) (m : Modes) (x : Option Exchange) (xs : List Exchange)
    → modes_after pid t m (cons_option x xs) ≡ modes_after pid (with_exchange t x) (modes_told pid t m x) xs
modes-first pid t m None xs = refl
modes-first pid t m (Some x) xs = refl

pub modes-later : (k pid : ℕ) (t : TrussState) (m : Modes) (e : Entry) (h : List Entry)
    → modes_after pid t m (exchanges k (e ∷ h)) ≡ modes_after pid (fed_by_entry k t e)
    (modes_told pid t m (exchange_of k e)) (exchanges k h)
unfolding exchanges
modes-later k pid t m e h = modes-first pid t m (exchange_of k e) (exchanges k h)

pub modes-none : (k pid : ℕ) (t : TrussState) (m : Modes) → modes_after pid t m (exchanges k []) ≡ m
unfolding exchanges
modes-none k pid t m = refl

-- ---- an entry that is no call of truss

module _ (n k pid : ℕ) (t : TrussState) (s : TracedState) (m : Modes) (r : Reaches k t s)
    (keeps : KeepsModes k pid m s) where
  opens-in : (actor : Actor) (it : Act) → IsLegalEntry n s (record { actor = actor; act = it }) → actor ≢ Controller k
      → (number : ℕ)
      → handle_of (after s (record { actor = actor; act = it })).opens k number ≡ handle_of s.opens k number
  unfolding IsLegalEntry after
  opens-in (Controller by) (act.Call c x) legal others number =
      let a : Answer = record { state = legal.1.0; reply = x } in
      ap (λ y. handle_of (after_call s y).opens k number) legal.1.1
      ∙ foreign-call s by k c a (λ same. others (ap (λ y. Controller y) same)) legal.1.1 number
  opens-in (Lwp p l) (act.Turn did) legal others number =
      ap (λ x. handle_of x k number) (opens-turn s (turn_of s.system p l))
  opens-in Clock (act.Tick moment) legal others number = refl
  opens-in (Controller by) (act.Turn did) legal others number = absurd legal
  opens-in (Controller by) (act.Tick moment) legal others number = absurd legal
  opens-in (Lwp p l) (act.Call c x) legal others number = absurd legal
  opens-in (Lwp p l) (act.Tick moment) legal others number = absurd legal
  opens-in Clock (act.Call c x) legal others number = absurd legal
  opens-in Clock (act.Turn did) legal others number = absurd legal

  module _ (e : Entry) (legal : IsLegalEntry n s e) (others : e.actor ≢ Controller k) (number : ℕ) (g : Held)
      (was : handle_of s.opens k number ≡ Some g) (mode : g.mode ≡ WriteExcl) (p q : TracedProcess)
      (live : live_process s.system g.pid ≡ Some p) where
    alone-stays : ((id : ℕ) → e.actor ≢ Lwp g.pid id) → live_process (after s e).system g.pid ≡ Some q
        → HasSameFlags p q
    alone-stays elsewhere now =
        let sole = exclusive-sole s k number g r.lawful was mode in
        by (others-entry n s k g.pid e p r.lawful sole legal elsewhere others live)
      where
        by : Outlasts g.pid p (after s e).system → HasSameFlags p q
        by (lives x later alone) = subst (HasSameFlags p) (same_Some x q (sym later ∙ now)) (alone-flags p x alone)
        by (killed z none found status) = absurd (none-some q (sym none ∙ now))

    stays-in : (actor : Actor) (it : Act) → e ≡ record { actor = actor; act = it }
        → IsLegalEntry n s (record { actor = actor; act = it })
        → live_process (after s (record { actor = actor; act = it })).system g.pid ≡ Some q → HasSameFlags p q
    unfolding IsLegalEntry after
    stays-in (Lwp other id) (act.Turn did) is itself now = elim (cases_Bool (other == g.pid)) [
      | inl mine ↦
          let same : other ≡ g.pid = eqb-true other g.pid mine in
          let d : LwpTurn = record { system = itself.0; turned = did } in
          let taken : turn_of s.system g.pid id ≡ Some d = ap (λ x. turn_of s.system x id) (sym same) ∙ itself.1 in
          let there : live_process d.system g.pid ≡ Some q =
          subst (λ x. live_process (after_turn s x).system g.pid ≡ Some q) itself.1 now in
          let lawful = r.lawful in
          settings-flags p q (turn-settings s.system g.pid p id d lawful.system live taken q there)
      | inr apart ↦ alone-stays
          (λ i same. eqb-false other g.pid apart (of-lwp other g.pid id i (sym (ap (λ (x : Entry). x.actor) is)
          ∙ same))) (subst (λ (x : Entry). live_process (after s x).system g.pid ≡ Some q) (sym is) now)
    ]
      where
        of-lwp : (x y i j : ℕ) → Lwp x i ≡ Lwp y j → x ≡ y
        of-lwp x y i j same = cc
    stays-in (Controller by) it is itself now =
        alone-stays (λ i same. no-lwp i (sym (ap (λ (x : Entry). x.actor) is)
        ∙ same)) (subst (λ (x : Entry). live_process (after s x).system g.pid ≡ Some q) (sym is) now)
      where
        no-lwp : (i : ℕ) → Controller by ≡ Lwp g.pid i → ⊥
        no-lwp i same = cc
    stays-in Clock it is itself now =
        alone-stays (λ i same. no-lwp i (sym (ap (λ (x : Entry). x.actor) is)
        ∙ same)) (subst (λ (x : Entry). live_process (after s x).system g.pid ≡ Some q) (sym is) now)
      where
        no-lwp : (i : ℕ) → Clock ≡ Lwp g.pid i → ⊥
        no-lwp i same = cc
    stays-in (Lwp other id) (act.Call c x) is itself now = absurd itself
    stays-in (Lwp other id) (act.Tick moment) is itself now = absurd itself

  others-modes : (e : Entry) → IsLegalEntry n s e → e.actor ≢ Controller k → KeepsModes k pid m (after s e)
  others-modes e legal others = record { modes = by }
    where
      by : (number : ℕ) (g : Held) (q : TracedProcess) → handle_of (after s e).opens k number ≡ Some g
          → is_control g.file ≡ true → g.pid ≡ pid → live_process (after s e).system pid ≡ Some q → HasModes m q
      by number g q there control of now =
          let owns = r.owns in
          let lawful = r.lawful in
          let was : handle_of s.opens k number ≡ Some g = sym (opens-in e.actor e.act legal others number) ∙ there in
          let made : g.pid < s.system.made =
          made-at s.opens number g (handle-at s.opens k number g was) lawful.handles in
          let its : live_process (after s e).system g.pid ≡ Some q = ap (live_process (after s e).system) of ∙ now in
          before was made its (live_process s.system g.pid) refl
        where
          before : handle_of s.opens k number ≡ Some g → g.pid < s.system.made
              → live_process (after s e).system g.pid ≡ Some q → (x : Option TracedProcess)
              → live_process s.system g.pid ≡ x → HasModes m q
          before was made its None none =
              absurd (none-some q (sym (stays-over n s e g.pid r.lawful legal made none) ∙ its))
          before was made its (Some p) live =
              let owns = r.owns in
              flags-keep m p q
              (stays-in e legal others number g was
              (owns.modes number g was control) p q live e.actor e.act refl legal its)
              (keeps.modes number g p was control of (ap (live_process s.system) (sym of) ∙ live))

  -- ---- a call of truss

  own-modes : (c : Call) (a : Answer) → IsLegalEntry n s (call_entry k c a) → answer_to s k c ≡ Some a
      → MakesNext t (Some (record { call = c; reply = a.reply }))
      → KeepsModes k pid (modes_next pid t a.reply m t.stage) (after s (call_entry k c a))
  unfolding after
  own-modes c a legal answer next =
      let own_after : after s (call_entry k c a) ≡ a.state = ap (after_call s) answer in
      subst (KeepsModes k pid (modes_next pid t a.reply m t.stage)) (sym own_after)
      (record {
        modes = λ number g q there control of now.
            call-modes n k pid t s c a m r.lawful legal own_after r.owns r.files next answer keeps number g q there
            control of now;
      })

  -- ---- any entry

  call-in : (by : ℕ) (c : Call) (x : Reply) (mine : Bool) → (by == k) ≡ mine
      → IsLegalEntry n s (record { actor = Controller by; act = act.Call c x })
      → MakesNext t (cond mine (Some (record { call = c; reply = x })) None)
      → KeepsModes k pid (modes_told pid t m (cond mine (Some (record { call = c; reply = x })) None))
      (after s (record { actor = Controller by; act = act.Call c x }))
  unfolding IsLegalEntry
  call-in by c x false is legal next =
      others-modes (record { actor = Controller by; act = act.Call c x }) legal
      (λ same. eqb-false by k is (of-controller by k same))
    where
      of-controller : (i j : ℕ) → Controller i ≡ Controller j → i ≡ j
      of-controller i j same = cc
  call-in by c x true is legal next =
      subst (λ b. IsLegalEntry n s (record { actor = Controller b; act = act.Call c x }) → answer_to s b c ≡ Some
      (record { state = legal.1.0; reply = x }) → KeepsModes k pid (modes_next pid t x m t.stage) (after s (record {
        actor = Controller b;
        act = act.Call c x;
      })))
      (sym (eqb-true by k is))
      (λ l answer. own-modes c (record { state = legal.1.0; reply = x }) l answer next) legal legal.1.1

  actor-modes : (actor : Actor) (it : Act) → IsLegalEntry n s (record { actor = actor; act = it })
      → MakesNext t (exchange_in k actor it)
      → KeepsModes k pid (modes_told pid t m (exchange_in k actor it)) (after s (record { actor = actor; act = it }))
  unfolding IsLegalEntry
  actor-modes (Controller by) (act.Call c x) legal next = call-in by c x (by == k) refl legal next
  actor-modes (Lwp p id) it legal next = others-modes (record { actor = Lwp p id; act = it }) legal (λ same. cc)
  actor-modes Clock it legal next = others-modes (record { actor = Clock; act = it }) legal (λ same. cc)
  actor-modes (Controller by) (act.Turn did) legal next = absurd legal
  actor-modes (Controller by) (act.Tick moment) legal next = absurd legal

  entry-modes : (e : Entry) → IsLegalEntry n s e → MakesNext t (exchange_of k e)
      → KeepsModes k pid (modes_told pid t m (exchange_of k e)) (after s e)
  entry-modes e legal next = actor-modes e.actor e.act legal next

-- ---- histories

history-modes : (h : List Entry) (n k pid : ℕ) (t : TrussState) (s : TracedState) (m : Modes) → Reaches k t s
    → KeepsModes k pid m s → IsLegal n s h → Makes t (exchanges k h)
    → KeepsModes k pid (modes_after pid t m (exchanges k h)) (state_after s h)
history-modes [] n k pid t s m r keeps legal makes =
    subst (λ x. KeepsModes k pid x s) (sym (modes-none k pid t m)) keeps
history-modes (e ∷ h) n k pid t s m r keeps legal makes =
    let first = makes-next k t e h makes in
    subst (λ x. KeepsModes k pid x (state_after (after s e) h)) (sym (modes-later k pid t m e h))
    (history-modes h n k pid (fed_by_entry k t e) (after s e) (modes_told pid t m (exchange_of k e))
    (entry-reaches n k t s e r legal.0 first.0)
    (entry-modes n k pid t s m r keeps e legal.0 first.0) legal.1 first.1)

module _ (n k : ℕ) (o : Options) (s : TracedState) (h : List Entry) (run : IsTrussRun n k o s h) where
  -- the modes of a process are as truss has set them
  pub truss-modes : (number : ℕ) (held : Held) (p : TracedProcess)
      → handle_of (state_after s h).opens k number ≡ Some held → is_control held.file ≡ true
      → live_process (state_after s h).system held.pid ≡ Some p → HasModes (modes_set k o held.pid h) p
  unfolding modes_set
  truss-modes number held p there control live =
      let keeps =
      history-modes h n k held.pid (first_truss o) s spared (first-reaches k o s run.lawful run.nothing_open)
      (record {
        modes = λ m g q at is of now. absurd (none-some g (sym (run.nothing_open.none m)
            ∙ at));
      }) run.legal run.makes in
      keeps.modes number held p there control refl live

  -- and so it is released when truss closes its control file
  pub truss-releases : (number : ℕ) (held : Held) (p : TracedProcess) (a : Answer)
      → handle_of (state_after s h).opens k number ≡ Some held → is_control held.file ≡ true
      → modes_set k o held.pid h ≡ released → live_process (state_after s h).system held.pid ≡ Some p
      → answer_to (state_after s h) k (call.Close number) ≡ Some a
      → (q : TracedProcess) × ((live_process a.state.system held.pid ≡ Some q) × IsReleased q)
  truss-releases number held p a there control set live close =
      let has : HasModes released p = subst (λ m. HasModes m p) set (truss-modes number held p there control live) in
      let closes = truss-closes n k o s h run in
      closes.released number held a p there control close live has.0 has.1
