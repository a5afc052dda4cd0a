use Rattle.std.proofs.Common.{◌≡◌, ◌≢◌, ◌⊎◌, ◌∷◌, ◌++◌, ℕ, Bool, true, false, cond, List, [], Option, Some, None, refl, sym, subst, ap, ◌∙◌, inl, inr}
use Rattle.std.proofs.lemmas.Bool.{cases_eq}
use Rattle.pr_hidden.specs.Covers.{Cover, Covers, keeps_lwp}
use Rattle.pr_hidden.specs.Following.{MayEnd}
use Rattle.pr_hidden.specs.Hiders.{Hiders, cover_turned, covers_after, covers_at, exits, covers_turned}
use Rattle.pr_hidden.specs.Hiding.{with_own_agent}
use Rattle.pr_hidden.specs.Tidiness.{IsAgentMove, IsSparingTurn, IsTidyTurn}
use Rattle.pr_model.specs.Legal.{after, after_turn, state_after}
use Rattle.pr_model.specs.LwpTurns.{LwpTurn, turn_of}
use Rattle.pr_model.specs.Rows.{row_for}
use Rattle.pr_model.specs.State.{TracedState, TracedSystem, live_process, lwp_of}
use Rattle.pr_model.specs.declared.events.Act.TheVariants as act
use Rattle.pr_model.specs.declared.events.Actor.{Actor}
use Rattle.pr_model.specs.declared.events.Actor.TheVariants.{Lwp}
use Rattle.pr_model.specs.declared.events.Entry.{Entry}
use Rattle.pr_model.specs.declared.events.Turned.{Turned}
use Rattle.pr_num.specs.Agents.{agent_id}
use Rattle.pr_probe.specs.Probes.{ProbeState}
use Rattle.pr_world.specs.ControllerStates.{ControllerState}
use Rattle.pr_probe_laws.proofs.Hiding.HiddenCovers.{AreAlike, HaveNoFaults, agent-turned, alike-self, bare-turned, stopped-turned, turned-faults, turned-other, turned-own}
use Rattle.pr_probe_laws.proofs.Hiding.HiddenFacts.{legal-turn}
use Rattle.pr_probe_laws.proofs.Hiding.HiddenKept.{agent-goes}
use Rattle.pr_probe_laws.proofs.Hiding.HiddenStages.{Hides, hidden-is, kept-apart}
use Rattle.pr_probe_laws.proofs.Hiding.HiddenTurns.{agent-spares, agent-tidy, clear-spares, clear-tidy, stops-tidy}
use Rattle.pr_probe_laws.proofs.StepMarks.StepTurns.{turn-plain, turn-unstepped}
use Rattle.pr_probe_laws.specs.StepMarks.{IsUnstepped}
use Rattle.pr_probe_laws.specs.HiddenProbes.{IsAlive, is_hiding, is_signal_turn}
use Rattle.pr_probe_laws.proofs.Hiding.HiddenOnes.{IsUnseenRun, IsOne, IsBare, IsHiddenBy, Kept, hiding, way, its, fact, lives, ask, sole, held, bare-ends, may-end}
use Rattle.pr_probe_laws.proofs.Hiding.HiddenEntries.{legal_here, lawful, place_longer, at-longer, state-longer, one-before, stays-bare, moved-on, stays-one, not-gone, stays-hidden, Steps}

-- Each turn is tidy, and spares what is written over; and what is hidden after it is so.

module _ {n : ℕ} {who : Hiders} {controllers : List ControllerState} {first : TracedState} {h : List Entry}
    (run : IsUnseenRun n who controllers first h) where
  abbrev none : (k : ℕ) → who.functions k ≡ []
  none = run.of.left_alone.probes.no_functions

  abbrev at : List Entry → Covers
  at front = covers_at who first front

  module _ (front : List Entry) (acting id : ℕ) (turned : Turned) (back : List Entry)
      (place : h ≡ front ++ record { actor = Lwp acting id; act = act.Turn turned } ∷ back)
      (kept : Kept run front) where
    abbrev by_lwp : Actor
    by_lwp = Lwp acting id

    abbrev turn_entry : Entry
    turn_entry = record { actor = Lwp acting id; act = act.Turn turned }

    abbrev u : TracedState
    u = state_after first front

    abbrev made_of : Covers
    made_of = covers_turned who (at front) u acting id turned.did

    had_so : (next : TracedSystem) × (turn_of u.system acting id ≡ Some (record { system = next; turned = turned }))
    had_so = legal-turn n u acting id turned (legal_here run front by_lwp (act.Turn turned) back place kept)

    abbrev turn : LwpTurn
    turn = record { system = had_so.0; turned = turned }

    had : turn_of u.system acting id ≡ Some turn
    had = had_so.1

    -- the state after it
    turned-state : (after u turn_entry).system ≡ turn.system
    unfolding after
    turned-state = ap (λ (o : Option LwpTurn). (after_turn u o).system) had

    nobody-new : (pid : ℕ) → IsBare run pid front → (k : ℕ) (p : ProbeState)
        → IsOne run pid (front ++ turn_entry ∷ []) k p → is_hiding p.stage ≡ false
    nobody-new pid bare k p one =
        bare.nobody k p (one-before run front by_lwp (act.Turn turned) back place kept pid k p tt one)

    new-is : covers_after who (at front) u turn_entry ≡ made_of
    unfolding covers_after
    new-is = refl

    alike-new : (pid : ℕ) → AreAlike (at front pid) (made_of pid)
        → AreAlike (at front pid) (covers_after who (at front) u turn_entry pid)
    alike-new pid alike = subst (λ (c : Covers). AreAlike (at front pid) (c pid)) (sym new-is) alike

    -- of another process
    other-kept : (pid : ℕ) → pid ≢ acting
        → IsBare run pid (front ++ turn_entry ∷ []) ⊎ IsHiddenBy run pid (front ++ turn_entry ∷ [])
    other-kept pid apart = by (kept.covering pid)
      where
        alike : AreAlike (at front pid) (covers_after who (at front) u turn_entry pid)
        alike =
            alike-new pid
            (subst (AreAlike (at front pid)) (sym (turned-other who none (at front) u acting id turned.did pid apart))
            (alike-self (at front pid)))

        by : IsBare run pid front ⊎ IsHiddenBy run pid front
            → IsBare run pid (front ++ turn_entry ∷ []) ⊎ IsHiddenBy run pid (front ++ turn_entry ∷ [])
        by (inl bare) =
            inl (stays-bare run front by_lwp (act.Turn turned) back place kept pid bare alike (nobody-new pid bare))
        by (inr b) =
            inr (stays-hidden run front by_lwp (act.Turn turned) back place kept pid b tt alike
            (λ hidden same. apart (let both : Lwp acting id ≡ Lwp pid agent_id = same in cc)))

    -- what is so of its own process
    record Own : Type 0 where
      tidy : IsTidyTurn who (at front) u acting id turned.did
      spares : IsSparingTurn who (at front) u acting id turned.did
      covering : IsBare run acting (front ++ turn_entry ∷ []) ⊎ IsHiddenBy run acting (front ++ turn_entry ∷ [])

    -- whom the turn kills
    kills : (target : ℕ) → live_process turn.system target ≡ None → MayEnd (at front) u.system target
    kills target gone =
        may-end run front (turn_entry ∷ back) place kept target
        (λ b.
        not-gone run front by_lwp (act.Turn turned) back place kept target b tt
        (ap (λ (x : TracedSystem). live_process x target) turned-state ∙ gone))

    bare-own : IsBare run acting front → Own
    bare-own bare =
        let no_step = turn-plain u.system acting id turn had kept.unstepped in
        let ends = bare-ends run front (turn_entry ∷ back) place kept acting bare in
        let left = bare-turned who none (at front) u acting id turned.did bare.patches bare.agent in
        let own = turned-own who none (at front) u acting id turned.did in
        record {
          tidy =
              clear-tidy who (at front) kept.faults u acting id turn had bare.patches bare.agent ends no_step kills;
          spares =
              clear-spares who (at front) kept.faults u acting id turn had bare.patches bare.agent ends no_step kills;
          covering =
              inl (stays-bare run front by_lwp (act.Turn turned) back place kept acting bare
              (alike-new acting
              (record {
                patches = ap (λ (c : Cover). c.patches) own ∙ left.0 ∙ sym bare.patches;
                agent = ap (λ (c : Cover). c.agent) own ∙ left.1 ∙ sym bare.agent;
              })) (nobody-new acting bare));
        }

    hidden-own : IsHiddenBy run acting front → Own
    hidden-own b = by (keeps_lwp (at front acting) id) refl
      where
        l : IsAlive acting u
        l = lives run front (turn_entry ∷ back) place acting b

        own : made_of acting ≡ cover_turned who (at front) u acting id turned.did (at front acting)
        own = turned-own who none (at front) u acting id turned.did

        -- it is no hidden agent, and only stops
        stops-own : keeps_lwp (at front acting) id ≡ true → Own
        stops-own keeps =
            let all =
            stops-tidy who (at front) kept.faults u acting id turn had l.process l.lives
            (held run front (turn_entry ∷ back) place acting b) keeps in
            let same = stopped-turned who none (at front) u acting id turned.did keeps all.stops all.directed in
            record {
              tidy = all.tidy;
              spares = all.spares;
              covering =
                  inr (stays-hidden run front by_lwp (act.Turn turned) back place kept acting b tt
                  (alike-new acting
                  (subst (AreAlike (at front acting)) (sym (own ∙ same)) (alike-self (at front acting))))
                  (λ hidden is.
                  kept-apart (at front acting) hidden id keeps
                  (let both : Lwp acting id ≡ Lwp acting agent_id = is in cc)));
            }

        -- it is the hidden agent
        agent-own : keeps_lwp (at front acting) id ≡ false → Own
        agent-own hides_it = go (hidden-is (at front acting) id hides_it)
          where
            go : ((at front acting).agent ≡ true) × (id ≡ agent_id) → Own
            go is =
                let by_agent : turn_of u.system acting agent_id ≡ Some turn =
                subst (λ (i : ℕ). turn_of u.system acting i ≡ Some turn) is.1 had in
                let quiet : is_signal_turn turned.did ≡ false =
                (its run front (turn_entry ∷ back) place acting b).unsignalled front back turn_entry b.p place
                (way run front (turn_entry ∷ back) place acting b) turned
                (ap (λ (i : ℕ). record { actor = Lwp acting i; act = act.Turn turned }) is.1) in
                let one = stays-one run front by_lwp (act.Turn turned) back place kept acting b tt in
                let later : IsAlive acting (state_after first (front ++ turn_entry ∷ [])) =
                (its run front (turn_entry ∷ back) place acting b).lives (front ++ turn_entry ∷ []) back b.p
                (place_longer run front by_lwp (act.Turn turned) back place kept)
                (record { is = one.is; hides = hiding run front (turn_entry ∷ back) place acting b }) in
                let there : live_process turn.system acting ≡ Some later.process =
                ap (λ (x : TracedSystem). live_process x acting)
                (sym (ap (λ (x : TracedState). x.system)
                (state-longer run front by_lwp (act.Turn turned) back place kept) ∙ turned-state)) ∙ later.lives in
                let goes =
                agent-goes n b.k acting first front (lawful run front by_lwp (act.Turn turned) back place kept)
                (sole run front (turn_entry ∷ back) place acting b) b.p
                ((fact run front (turn_entry ∷ back) place acting b).reads b.one.accepted)
                (ask run front (turn_entry ∷ back) place acting b) l.process l.lives turn by_agent quiet later.process
                there (at front acting) is.0 b.hides in
                let turned_cover : made_of acting
                ≡ cond (exits turned.did) (with_own_agent false (at front acting)) (at front acting) =
                own ∙ agent-turned who none (at front) u acting id turned.did hides_it in
                record {
                  tidy =
                      agent-tidy who (at front) kept.faults u acting id turn had l.process l.lives
                      (held run front (turn_entry ∷ back) place acting b) hides_it
                      (λ lwp at_id.
                      subst (λ (i : ℕ).
                      IsAgentMove (at front acting).patches l.process turned.did
                      (row_for u.system acting l.process i lwp).transition) (sym is.1)
                      (goes.move lwp (subst (λ (i : ℕ). lwp_of l.process i ≡ Some lwp) is.1 at_id)));
                  spares =
                      agent-spares who (at front) kept.faults u acting id turn had l.process l.lives
                      (held run front (turn_entry ∷ back) place acting b) hides_it
                      (λ lwp at_id.
                      subst (λ (i : ℕ).
                      IsAgentMove (at front acting).patches l.process turned.did
                      (row_for u.system acting l.process i lwp).transition) (sym is.1)
                      (goes.move lwp (subst (λ (i : ℕ). lwp_of l.process i ≡ Some lwp) is.1 at_id)));
                  covering =
                      inr (moved-on run front by_lwp (act.Turn turned) back place kept acting b.k b.p one
                      (subst (λ (x : TracedSystem).
                      Hides acting (covers_after who (at front) u turn_entry acting) x b.p b.p.stage) (sym turned-state)
                      (subst (λ (c : Covers). Hides acting (c acting) turn.system b.p b.p.stage) (sym new-is)
                      (goes.hides (made_of acting)
                      (λ stays.
                      subst (AreAlike (at front acting))
                      (sym (turned_cover ∙ ap (λ (x : Bool).
                      cond x (with_own_agent false (at front acting)) (at front acting)) stays))
                      (alike-self (at front acting)))
                      (λ ends.
                      subst (AreAlike (with_own_agent false (at front acting)))
                      (sym (turned_cover ∙ ap (λ (x : Bool).
                      cond x (with_own_agent false (at front acting)) (at front acting)) ends))
                      (alike-self (with_own_agent false (at front acting))))))));
                }

        by : (keeps : Bool) → keeps_lwp (at front acting) id ≡ keeps → Own
        by true keeps = stops-own keeps
        by false hides_it = agent-own hides_it

    pub turn-steps : Steps run front turn_entry
    turn-steps =
        let own = of (kept.covering acting) in
        record {
          tidy = own.tidy;
          spares = own.spares;
          kept = record {
            covering = λ pid. each own pid (cases_eq pid acting);
            faults =
                subst HaveNoFaults (sym (at-longer run front by_lwp (act.Turn turned) back place kept ∙ new-is))
                (turned-faults who none (at front) kept.faults u acting id turned.did);
            unstepped =
                subst IsUnstepped
                (sym (ap (λ (x : TracedState). x.system)
                (state-longer run front by_lwp (act.Turn turned) back place kept) ∙ turned-state))
                (turn-unstepped u.system acting id turn had kept.unstepped);
          };
        }
      where
        of : IsBare run acting front ⊎ IsHiddenBy run acting front → Own
        of (inl bare) = bare-own bare
        of (inr b) = hidden-own b

        each : Own → (pid : ℕ) → (pid ≡ acting) ⊎ (pid ≢ acting)
            → IsBare run pid (front ++ turn_entry ∷ []) ⊎ IsHiddenBy run pid (front ++ turn_entry ∷ [])
        each own pid (inl same) =
            subst (λ (m : ℕ). IsBare run m (front ++ turn_entry ∷ []) ⊎ IsHiddenBy run m (front ++ turn_entry ∷ []))
            (sym same) own.covering
        each own pid (inr apart) = other-kept pid apart
