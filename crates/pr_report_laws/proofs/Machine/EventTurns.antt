use Rattle.std.proofs.Common.{◌≡◌, ◌≢◌, ◌⊎◌, ℕ, true, Some, List, [], ◌∷◌, sym, subst, ◌∙◌, inl, inr}
use Rattle.std.proofs.lemmas.Bool.{cases_eq, false≢true}
use Rattle.std.proofs.lemmas.Option.{none-some}
use Rattle.pr_line.specs.declared.options.Options.{Options}
use Rattle.pr_model.proofs.TurnLemmas.{turn-taken}
use Rattle.pr_model.specs.Events.{events_of}
use Rattle.pr_model.specs.Legal.{IsLegalEntry, after}
use Rattle.pr_model.specs.LwpTurns.{LwpTurn, turn_of}
use Rattle.pr_model.specs.State.{TracedProcess, TracedState, TracedSystem, live_process}
use Rattle.pr_model.specs.declared.events.Act.{Act}
use Rattle.pr_model.specs.declared.events.Act.TheVariants as act
use Rattle.pr_model.specs.declared.events.Actor.{Actor}
use Rattle.pr_model.specs.declared.events.Actor.TheVariants.{Controller, Lwp, Clock}
use Rattle.pr_model.specs.declared.events.Entry.{Entry}
use Rattle.pr_truss.specs.Trusses.{TrussState, traced_at}
use Rattle.pr_truss_laws.proofs.Machine.StillLemmas.{frozen-turns}
use Rattle.pr_truss_laws.specs.Stills.{IsFrozen}
use Rattle.pr_report_laws.proofs.Invariant.EntrySteps.{Lost}
use Rattle.pr_report_laws.proofs.Invariant.Tallies.{Tally}
use Rattle.pr_report_laws.proofs.Machine.FrameLaws.{no-events}
use Rattle.pr_report_laws.proofs.Invariant.HistorySteps.{Holds}
use Rattle.pr_report_laws.proofs.Machine.OwnTurnLaws as own
use Rattle.pr_report_laws.proofs.Machine.OwnTurnLaws.{AfterTurn, event-picks, quiet-turn}
use Rattle.pr_report_laws.proofs.Machine.TurnEvents.{state-after}
use Rattle.pr_report_laws.proofs.Invariant.Standing as st
use Rattle.pr_report_laws.proofs.Invariant.Standing.{Position, Standing}
use Rattle.pr_report_laws.specs.Shown.{LwpEvent, picked}
use Rattle.pr_report_laws.specs.Watching.{watches}

-- A process lives right after the entry in which an event of it came that is picked while truss watches it.

module _ (C : Type 0) (n k : ℕ) (o : Options) (pid : ℕ) (t : TrussState) (s : TracedState) (tally : Tally)
    (g : Holds C k o pid t s tally) (on : watches t pid ≡ true) (event : LwpEvent) where
  -- something lives under the id
  abbrev Lives : TracedSystem → Type 0
  Lives u = (q : TracedProcess) × (live_process u pid ≡ Some q)

  no-event : {X : Type 0} (xs : List LwpEvent) → xs ≡ [] → xs ≡ event ∷ [] → X
  no-event xs none some = let both : [] ≡ event ∷ [] = sym none ∙ some in absurd (cc)

  module _ (id : ℕ) (d : LwpTurn) (turn : turn_of s.system pid id ≡ Some d) where
    abbrev turned_entry : Entry
    turned_entry = record { actor = Lwp pid id; act = act.Turn d.turned }

    after-quiet : (more : List LwpEvent) → more ≡ event ∷ [] → AfterTurn o tally.picks pid id d.system more
        → Lives d.system
    after-quiet more came (own.goes_on q later quiet traced nothing) = (q, later)
    after-quiet more came (own.halts q ev later stands traced one) = (q, later)
    after-quiet more came (own.over ended nothing) = no-event more nothing came

    frozen-no : {X : Type 0} (p : TracedProcess) → live_process s.system pid ≡ Some p → IsFrozen p → X
    frozen-no p live frozen = absurd (none-some d (sym (frozen-turns s.system pid p live frozen id) ∙ turn))

    turn-lives : picked tally.picks pid (events_of s turned_entry) ≡ event ∷ [] → Standing
        (Lost C pid s) o pid t s tally
        → Lives d.system
    turn-lives came (st.apart off a) = absurd (false≢true (sym off ∙ on))
    turn-lives came (st.over watched none a) =
        let it = turn-taken s.system pid id d turn in
        absurd (none-some it.process (sym none ∙ it.live))
    turn-lives came (st.lives place p at attached here live traced position) = by position
      where
        by : Position o t.stage place (traced_at t place).old p tally → Lives d.system
        by (st.stop_read read waits whole) = frozen-no p live waits.frozen
        by (st.old_stops m read counts waits whole) = frozen-no p live waits.frozen
        by (st.goes read named none quiet whole) =
            let lawful = g.lawful in
            after-quiet (picked tally.picks pid (events_of s turned_entry)) came
            (quiet-turn o tally.picks g.picks s pid id p d lawful.system g.fit live traced quiet turn)
        by (st.has_event own_id ev read none stands named whole) =
            no-event (picked tally.picks pid (events_of s turned_entry))
            (event-picks tally.picks s pid own_id id p ev d live stands turn) came

  lives-in : (actor : Actor) (it : Act) → IsLegalEntry n s (record { actor = actor; act = it })
      → picked tally.picks pid (events_of s (record { actor = actor; act = it })) ≡ event ∷ []
      → Lives (after s (record { actor = actor; act = it })).system
  unfolding IsLegalEntry
  lives-in (Lwp other id) (act.Turn turned) legal came = by (cases_eq other pid)
    where
      of-lwp : (x y i j : ℕ) → Lwp x i ≡ Lwp y j → x ≡ y
      of-lwp x y i j e = cc

      own-turn :
          (legal : (u : TracedSystem) × (turn_of s.system pid id ≡ Some (record { system = u; turned = turned })))
          → picked tally.picks pid (events_of s (record { actor = Lwp pid id; act = act.Turn turned })) ≡ event ∷ []
          → Lives (after s (record { actor = Lwp pid id; act = act.Turn turned })).system
      own-turn l came =
          let d : LwpTurn = record { system = l.0; turned = turned } in
          subst (λ (u : TracedState). Lives u.system) (sym (state-after s pid id d l.1))
          (turn-lives id d l.1 came g.standing)

      by : (other ≡ pid) ⊎ (other ≢ pid)
          → Lives (after s (record { actor = Lwp other id; act = act.Turn turned })).system
      by (inl same) =
          subst (λ m.
          ((u : TracedSystem) × (turn_of s.system m id ≡ Some (record { system = u; turned = turned })))
          → picked tally.picks pid (events_of s (record { actor = Lwp m id; act = act.Turn turned })) ≡ event ∷ []
          → Lives (after s (record { actor = Lwp m id; act = act.Turn turned })).system)
          (sym same) own-turn legal came
      by (inr apart) =
          no-event _
          (no-events tally.picks pid s (record { actor = Lwp other id; act = act.Turn turned })
          (λ i same. apart (of-lwp other pid id i same))) came
  lives-in (Controller by) it legal came =
      no-event _ (no-events tally.picks pid s (record { actor = Controller by; act = it }) (λ i same. cc)) came
  lives-in Clock it legal came = no-event _
      (no-events tally.picks pid s (record { actor = Clock; act = it }) (λ i same. cc)) came
  lives-in (Lwp other id) it legal came = absurd legal

  pub event-lives : (e : Entry) → IsLegalEntry n s e → picked tally.picks pid (events_of s e) ≡ event ∷ []
      → Lives (after s e).system
  event-lives e legal came = lives-in e.actor e.act legal came
