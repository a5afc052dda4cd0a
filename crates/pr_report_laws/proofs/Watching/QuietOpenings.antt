use Rattle.std.proofs.Common.{◌≡◌, ◌≢◌, ◌⊎◌, ◌<◌, ◌≤◌, ◌+◌, ℕ, suc, cond, Option, Some, None, List, [], ◌∷◌, length, refl, sym, subst, ap, ◌∙◌, arith, inl, inr}
use Rattle.std.proofs.lemmas.Bool.{cases_eq}
use Rattle.std.proofs.lemmas.List.Elements.{All-append, All-cons, All-head, All-nil, All-tail}
use Rattle.std.proofs.lemmas.Option.{none-some}
use Rattle.std.specs.List.{All, cons_option}
use Rattle.pr_line.specs.declared.options.Options.{Options}
use Rattle.pr_model.proofs.TurnLemmas.{turn-taken}
use Rattle.pr_model.specs.Events.{Event, events_from, events_of, event_between, event_of, logged, lwp_alone, lwp_in_state}
use Rattle.pr_model.specs.Legal.{IsLegal, IsLegalEntry, after, state_after}
use Rattle.pr_model.specs.LwpTurns.{LwpTurn, turn_of}
use Rattle.pr_model.specs.State.{TracedLwp, TracedProcess, TracedState, live_process}
use Rattle.pr_model.specs.declared.events.Act.{Act}
use Rattle.pr_model.specs.declared.events.Act.TheVariants as act
use Rattle.pr_model.specs.declared.events.Actor.{Actor}
use Rattle.pr_model.specs.declared.events.Actor.TheVariants.{Controller, Lwp, Clock}
use Rattle.pr_model.specs.declared.events.Did.TheVariants.{Stopped}
use Rattle.pr_model.specs.declared.events.Entry.{Entry}
use Rattle.pr_model.specs.declared.events.Turned.{Turned}
use Rattle.pr_reached.proofs.StatesInRange.HistoryRanges.{history-range}
use Rattle.pr_reached.specs.ByteHistories.{HasBytes, IsEntryOfBytes}
use Rattle.pr_reached.specs.InRange.{IsInRange}
use Rattle.pr_truss.specs.Feeding.{fed}
use Rattle.pr_truss.specs.Trusses.{TrussState, traced_at}
use Rattle.pr_truss.specs.declared.stages.OpeningStep.{OpeningStep}
use Rattle.pr_truss.specs.declared.stages.OpeningStep.TheVariants as opening
use Rattle.pr_truss_laws.proofs.Machine.StillLemmas.{halting-did}
use Rattle.pr_truss_laws.specs.Exchanges.{Exchange, IsGranted, Makes, exchange_in, exchange_of, exchanges, truss_after}
use Rattle.pr_truss_laws.specs.Stills.{IsHalting}
use Rattle.pr_report_laws.proofs.Files.FileSteps.{MakesNext, makes-next}
use Rattle.pr_report_laws.proofs.Files.WatchHistories.{after-cons, cons-exchanges, no-exchanges, uninterrupted}
use Rattle.pr_report_laws.proofs.Invariant.HistoryLaw.{reads-back}
use Rattle.pr_report_laws.proofs.Invariant.HistorySteps.{Holds, IsBorn, entry-holds, tally_after}
use Rattle.pr_report_laws.proofs.Invariant.EntrySteps.{EndsByKill}
use Rattle.pr_report_laws.proofs.Invariant.OpeningRuns.{granted-first, granted-rest, steps_left}
use Rattle.pr_report_laws.proofs.Invariant.Standing.{Opened}
use Rattle.pr_report_laws.proofs.Invariant.Tallies.{Tally}
use Rattle.pr_report_laws.proofs.Watching.OpeningPlaces.{OpensWith, opens-on}
use Rattle.pr_report_laws.specs.Grips.{IsOfOther}
use Rattle.pr_report_laws.specs.Watching.{fed_by_entry, with_exchange}

-- A process that truss opens does nothing from the wait for its stop on: no event of it is logged.

-- ---- a turn of a process whose lwps can only stop

stopped-logs : (new : TracedState) (pid id : ℕ) (found : Option (TracedProcess × TracedLwp)) (l : Option TracedLwp)
    → logged new pid id (event_between found l Stopped) ≡ []
unfolding event_of
stopped-logs new pid id None l = refl
stopped-logs new pid id (Some found) l = refl

other-logs : (new : TracedState) (pid other id : ℕ) → other ≢ pid → (event : Option Event)
    → All (IsOfOther pid) (logged new other id event)
other-logs new pid other id differs None = All-nil (IsOfOther pid)
other-logs new pid other id differs (Some event) =
    All-cons (IsOfOther pid) _ [] (record { other = differs }) (All-nil (IsOfOther pid))

module _ (n : ℕ) (s : TracedState) (pid : ℕ)
    (halts : (p : TracedProcess) → live_process s.system pid ≡ Some p → IsHalting p) where
  own-turn : (id : ℕ) (d : LwpTurn) → turn_of s.system pid id ≡ Some d → d.turned.did ≡ Stopped
  own-turn id d turn =
      let it = turn-taken s.system pid id d turn in
      ap (λ (t : Turned). t.did) (halting-did s.system pid it.process it.live (halts it.process it.live) id d turn)

  turn-logs : (new : TracedState) (other id : ℕ) (turned : Turned) (found : Option (TracedProcess × TracedLwp))
      (l : Option TracedLwp) → (other ≡ pid → turned.did ≡ Stopped)
      → All (IsOfOther pid) (logged new other id (event_between found l turned.did))
  turn-logs new other id turned found l stops = elim (cases_eq other pid) [
    | inl same ↦ subst (All (IsOfOther pid)) (sym (ap (λ d. logged new other id (event_between found l d)) (stops same)
        ∙ stopped-logs new other id found l))
        (All-nil (IsOfOther pid))
    | inr differs ↦ other-logs new pid other id differs (event_between found l turned.did)
  ]

  quiet-in : (actor : Actor) (it : Act) → IsLegalEntry n s (record { actor = actor; act = it })
      → All (IsOfOther pid) (events_of s (record { actor = actor; act = it }))
  unfolding events_of IsLegalEntry
  quiet-in (Lwp other id) (act.Turn turned) legal =
      let new : TracedState = after s (record { actor = Lwp other id; act = act.Turn turned }) in
      turn-logs new other id turned (lwp_in_state s other id) (lwp_alone (lwp_in_state new other id))
      (λ same. own-turn id
      (record { system = legal.0; turned = turned }) (ap (λ m. turn_of s.system m id) (sym same) ∙ legal.1))
  quiet-in _ _ legal = All-nil (IsOfOther pid)

  pub quiet-entry : (e : Entry) → IsLegalEntry n s e → All (IsOfOther pid) (events_of s e)
  quiet-entry e legal = quiet-in e.actor e.act legal

-- a call logs nothing
call-logs : (k : ℕ) (s : TracedState) (actor : Actor) (it : Act) (x : Exchange) → exchange_in k actor it ≡ Some x
    → events_of s (record { actor = actor; act = it }) ≡ []
unfolding events_of
call-logs k s (Controller by) it x own = refl
call-logs k s (Lwp pid id) it x own = absurd (none-some x own)
call-logs k s Clock it x own = refl

pub own-logs : (k : ℕ) (s : TracedState) (e : Entry) (x : Exchange) → exchange_of k e ≡ Some x → events_of s e ≡ []
own-logs k s e x own = call-logs k s e.actor e.act x own

-- ---- along the opening

-- what holds before each entry of the opening, where so many calls are left
pub record Goes (k : ℕ) (o : Options) (pid place left : ℕ) (t : TrussState) (s : TracedState) : Type 1 where
  pub K : Type 0
  pub tally : Tally
  pub holds : Holds K k o pid t s tally
  pub opens : OpensWith t pid place left
  pub range : IsInRange s.system

module _ (n k : ℕ) (o : Options) (pid place : ℕ) where
  opening-born : (left : ℕ) (t : TrussState) (s : TracedState) (e : Entry) → OpensWith t pid place left
      → IsBorn k o pid t s e
  opening-born left t s e w = record {
    child = λ x handle parent p own stage reply live.
        absurd (let i = w.opening in let same = sym i.stage ∙ stage in cc);
  }

  module _ (left : ℕ) (t : TrussState) (s : TracedState) (e : Entry) (g : Goes k o pid place left t s)
      (legal : IsLegalEntry n s e) (bytes : IsEntryOfBytes e) where
    entry-range : IsInRange (after s e).system
    entry-range =
        let h : Holds g.K k o pid t s g.tally = g.holds in
        history-range n s (e ∷ []) h.lawful g.range (All-cons IsEntryOfBytes e [] bytes (All-nil IsEntryOfBytes))
        (legal, tt)

    -- an entry that is no call of truss
    other-goes : exchange_of k e ≡ None → Goes k o pid place left t (after s e)
    other-goes none =
        let h : Holds g.K k o pid t s g.tally = g.holds in
        let later =
        entry-holds g.K n k o pid t s g.tally h (uninterrupted k s) (reads-back pid s h.lawful g.range) e
        (opening-born left t s e g.opens) legal (subst (MakesNext t) (sym none) tt) in
        record {
          K = g.K ⊎ EndsByKill pid t s e;
          tally = tally_after k pid t s g.tally e;
          holds =
              subst (λ (u : TrussState). Holds (g.K ⊎ EndsByKill pid t s e) k o pid u (after s e)
              (tally_after k pid t s g.tally e)) (ap (with_exchange t) none) later;
          opens = g.opens;
          range = entry-range;
        }

  -- a call that is granted, and not the last one
  own-goes : (left : ℕ) (t : TrussState) (s : TracedState) (e : Entry) (x : Exchange)
      → Goes k o pid place (suc left) t s → IsLegalEntry n s e → IsEntryOfBytes e → exchange_of k e ≡ Some x
      → MakesNext t (exchange_of k e) → All IsGranted (x ∷ []) → 0 < left
      → Goes k o pid place left (fed t x.reply) (after s e)
  own-goes left t s e x g legal bytes own next granted some =
      let h : Holds g.K k o pid t s g.tally = g.holds in
      let later =
      entry-holds g.K n k o pid t s g.tally h (uninterrupted k s) (reads-back pid s h.lawful g.range) e
      (opening-born (suc left) t s e g.opens) legal next in
      record {
        K = g.K ⊎ EndsByKill pid t s e;
        tally = tally_after k pid t s g.tally e;
        holds = subst (λ (u : TrussState). Holds (g.K ⊎ EndsByKill pid t s e) k o pid u (after s e)
            (tally_after k pid t s g.tally e)) (ap (with_exchange t) own) later;
        opens = opens-on t pid place left x g.opens (granted-first x [] granted) some;
        range = entry-range (suc left) t s e g legal bytes;
      }

  -- ---- from the wait on its lwps only stop

  opened-halts : (step : OpeningStep) (p : TracedProcess) (old : ℕ)
      → steps_left o.follow step ≤ 6 + cond o.follow 2 1 → Opened o step p old → IsHalting p
  unfolding Opened
  opened-halts opening.OpenStatus p old few w = absurd (omega arith)
  opened-halts opening.OpenLstatus p old few w = absurd (omega arith)
  opened-halts opening.OpenMemory p old few w = absurd (omega arith)
  opened-halts opening.ClearModes p old few w = absurd (omega arith)
  opened-halts opening.SetRelease p old few w = absurd (omega arith)
  opened-halts opening.Stop p old few w = absurd (omega arith)
  opened-halts (opening.AwaitStop until) p old few w = w.1
  opened-halts opening.ReadLwps p old few w = w.halting
  opened-halts opening.TraceSignals p old few w = w.attached.halting
  opened-halts opening.TraceFaults p old few w = w.counted.attached.halting
  opened-halts opening.TraceEntries p old few w = w.before.counted.attached.halting
  opened-halts opening.TraceExits p old few w = w.before.before.counted.attached.halting
  opened-halts opening.Follow p old few w = w.before.before.before.counted.attached.halting
  opened-halts opening.Start p old few w = w.before.before.before.counted.attached.halting

  goes-halts : (left : ℕ) (t : TrussState) (s : TracedState) → Goes k o pid place left t s
      → left ≤ 6 + cond o.follow 2 1 → (p : TracedProcess) → live_process s.system pid ≡ Some p → IsHalting p
  goes-halts left t s g few p live =
      let h : Holds g.K k o pid t s g.tally = g.holds in
      let w : OpensWith t pid place left = g.opens in
      let i = w.opening in
      let prepares = h.prepares in
      opened-halts w.step p (traced_at t place).old
      (omega (arith, few, w.calls, ap (λ (q : Options). steps_left q.follow w.step) h.options))
      (prepares.opened place w.step p i.stage i.of live)

  -- ---- the entries of the opening

  pub goes-after : (h : List Entry) (t : TrussState) (s : TracedState) (left rest : ℕ) → Goes k o pid place left t s
      → left ≡ length (exchanges k h) + rest → 0 < rest → IsLegal n s h → Makes t (exchanges k h) → HasBytes h
      → All IsGranted (exchanges k h)
      → Goes k o pid place rest (truss_after t (exchanges k h)) (state_after s h)
  goes-after [] t s left rest g count some legal makes bytes granted =
      subst (λ xs. Goes k o pid place rest (truss_after t xs) s) (sym (no-exchanges k))
      (subst (λ m. Goes k o pid place m t s) (omega (arith, count, ap length (no-exchanges k))) g)
  goes-after (e ∷ h) t s left rest g count some legal makes bytes granted =
      let first = makes-next k t e h makes in
      subst (λ (u : TrussState). Goes k o pid place rest u (state_after (after s e) h)) (sym (ap (truss_after t)
      (cons-exchanges k e h) ∙ after-cons t (exchange_of k e) (exchanges k h)))
      (by (exchange_of k e) refl first.0 first.1 (count ∙ ap (λ xs. length xs + rest) (cons-exchanges k e h))
      (subst (All IsGranted) (cons-exchanges k e h) granted)
      (λ u more v m all c. goes-after h u (after s e) more rest v c some legal.1 m
      (All-tail IsEntryOfBytes e h bytes) all))
    where
      by : (x : Option Exchange) → exchange_of k e ≡ x → MakesNext t (exchange_of k e)
          → Makes (fed_by_entry k t e) (exchanges k h)
          → left ≡ length (cons_option x (exchanges k h)) + rest → All IsGranted (cons_option x (exchanges k h))
          → ((u : TrussState) (more : ℕ) → Goes k o pid place more u (after s e) → Makes u (exchanges k h)
          → All IsGranted (exchanges k h) → more ≡ length (exchanges k h) + rest
          → Goes k o pid place rest (truss_after u (exchanges k h)) (state_after (after s e) h))
          → Goes k o pid place rest (truss_after (with_exchange t x) (exchanges k h)) (state_after (after s e) h)
      by None none next makes counts all later =
          later t left (other-goes left t s e g legal.0 (All-head IsEntryOfBytes e h bytes) none)
          (subst (λ (u : TrussState). Makes u (exchanges k h)) (ap (with_exchange t) none) makes) all counts
      by (Some x) own next makes counts all later =
          let more : ℕ = length (exchanges k h) + rest in
          let now : Goes k o pid place (suc more) t s =
          subst (λ m. Goes k o pid place m t s) (omega (arith, counts)) g in
          later (fed t x.reply) more
          (own-goes more t s e x now legal.0 (All-head IsEntryOfBytes e h bytes) own next
          (All-cons IsGranted x [] (All-head IsGranted x (exchanges k h) all) (All-nil IsGranted))
          (omega (arith, some)))
          (subst (λ (u : TrussState). Makes u (exchanges k h)) (ap (with_exchange t) own) makes)
          (granted-rest x (exchanges k h) all) refl

  -- From the wait on no event of the process is logged.
  pub quiet-after : (h : List Entry) (t : TrussState) (s : TracedState) (left rest : ℕ) → Goes k o pid place left t s
      → left ≤ 6 + cond o.follow 2 1 → left ≡ length (exchanges k h) + rest → 0 < rest → IsLegal n s h
      → Makes t (exchanges k h) → HasBytes h → All IsGranted (exchanges k h) → All (IsOfOther pid) (events_from s h)
  quiet-after [] t s left rest g few count some legal makes bytes granted = All-nil (IsOfOther pid)
  quiet-after (e ∷ h) t s left rest g few count some legal makes bytes granted =
      let first = makes-next k t e h makes in
      let one = quiet-entry n s pid (λ p live. goes-halts left t s g few p live) e legal.0 in
      All-append (IsOfOther pid) (events_of s e) (events_from (after s e) h) one
      (by (exchange_of k e) refl first.0 first.1 (count ∙ ap (λ xs. length xs + rest) (cons-exchanges k e h))
      (subst (All IsGranted) (cons-exchanges k e h) granted)
      (λ u more v less m all c. quiet-after h u (after s e) more rest v less c some legal.1 m
      (All-tail IsEntryOfBytes e h bytes) all))
    where
      by : (x : Option Exchange) → exchange_of k e ≡ x → MakesNext t (exchange_of k e)
          → Makes (fed_by_entry k t e) (exchanges k h)
          → left ≡ length (cons_option x (exchanges k h)) + rest → All IsGranted (cons_option x (exchanges k h))
          → ((u : TrussState) (more : ℕ) → Goes k o pid place more u (after s e) → more ≤ 6 + cond o.follow 2 1
          → Makes u (exchanges k h) → All IsGranted (exchanges k h) → more ≡ length (exchanges k h) + rest
          → All (IsOfOther pid) (events_from (after s e) h))
          → All (IsOfOther pid) (events_from (after s e) h)
      by None none next makes counts all later =
          later t left (other-goes left t s e g legal.0 (All-head IsEntryOfBytes e h bytes) none) few
          (subst (λ (u : TrussState). Makes u (exchanges k h)) (ap (with_exchange t) none) makes) all counts
      by (Some x) own next makes counts all later =
          let more : ℕ = length (exchanges k h) + rest in
          let now : Goes k o pid place (suc more) t s =
          subst (λ m. Goes k o pid place m t s) (omega (arith, counts)) g in
          later (fed t x.reply) more
          (own-goes more t s e x now legal.0 (All-head IsEntryOfBytes e h bytes) own next
          (All-cons IsGranted x [] (All-head IsGranted x (exchanges k h) all) (All-nil IsGranted))
          (omega (arith, some)))
          (omega (arith, counts, few))
          (subst (λ (u : TrussState). Makes u (exchanges k h)) (ap (with_exchange t) own) makes)
          (granted-rest x (exchanges k h) all) refl
