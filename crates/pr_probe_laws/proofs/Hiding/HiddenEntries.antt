use Rattle.std.proofs.Common.{◌≡◌, ◌≢◌, ◌⊎◌, ◌∷◌, ◌++◌, ℕ, true, false, List, [], None, slice_get, refl, sym, subst, ap, ◌∙◌, inl, inr}
use Rattle.std.proofs.lemmas.List.{append_assoc}
use Rattle.std.proofs.lemmas.Option.{none-some}
use Rattle.pr_hidden.specs.Covers.{Covers}
use Rattle.pr_hidden.specs.Hiders.{Hiders, covers_after, covers_at, no_covers}
use Rattle.pr_hidden.specs.Tidiness.{IsSparingEntry, IsTidyEntry}
use Rattle.pr_model.proofs.HistoryLemmas.{state_after-push}
use Rattle.pr_model.specs.Lawful.{IsLawful}
use Rattle.pr_model.specs.Legal.{IsLegal, IsLegalEntry, after, state_after}
use Rattle.pr_model.specs.State.{TracedState, live_process}
use Rattle.pr_model.specs.declared.events.Act.{Act}
use Rattle.pr_model.specs.declared.events.Act.TheVariants as act
use Rattle.pr_model.specs.declared.events.Actor.{Actor}
use Rattle.pr_model.specs.declared.events.Actor.TheVariants.{Lwp, Clock}
use Rattle.pr_model.specs.declared.events.Entry.{Entry}
use Rattle.pr_num.specs.Agents.{agent_id}
use Rattle.pr_probe.specs.Probes.{ProbeState}
use Rattle.pr_tool_laws.proofs.OwnFiles.StandingLemmas.{IsOther}
use Rattle.pr_world.specs.ControllerStates.{ControllerState}
use Rattle.pr_tool_laws.specs.OwnCalls.{AreOwnCalls, IsOwnCall}
use Rattle.pr_world.specs.Protocol.{controllers_after, controllers_at}
use Rattle.pr_probe_laws.proofs.Hiding.HiddenCovers.{AreAlike, HaveNoFaults, alike-self, covers-push}
use Rattle.pr_probe_laws.proofs.Hiding.HiddenFacts.{controllers-push, legal-there, others-leave, own-there}
use Rattle.pr_probe_laws.proofs.Hiding.HiddenKept.{hides-on}
use Rattle.pr_probe_laws.proofs.Hiding.HiddenStages.{Hides}
use Rattle.pr_probe_laws.specs.StepMarks.{IsUnstepped}
use Rattle.pr_probe_laws.specs.HiddenProbes.{IsAlive, is_hiding}
use Rattle.pr_probe_laws.proofs.Hiding.HiddenOnes.{IsUnseenRun, IsOne, IsBare, IsHiddenBy, Kept, here, hiding, its, fact, lives, ask, sole}

-- What is so one entry later, of a process of which nothing is hidden, and of one of which another hides something; so
-- of all of them at a tick of the clock.

module _ {n : ℕ} {who : Hiders} {controllers : List ControllerState} {first : TracedState} {h : List Entry}
    (run : IsUnseenRun n who controllers first h) where
  abbrev at : List Entry → Covers
  at front = covers_at who first front

  -- ---- an entry

  module _ (front : List Entry) (actor : Actor) (it : Act) (back : List Entry)
      (place : h ≡ front ++ record { actor = actor; act = it } ∷ back) (kept : Kept run front) where
    abbrev e : Entry
    e = record { actor = actor; act = it }

    abbrev rest : List Entry
    rest = e ∷ back

    abbrev longer : List Entry
    longer = front ++ e ∷ []

    abbrev t : TracedState
    t = state_after first front

    abbrev new : Covers
    new = covers_after who (at front) t e

    pub legal_here : IsLegalEntry n t e
    legal_here = legal-there n first front e back (subst (λ (es : List Entry). IsLegal n first es) place run.of.legal)

    pub own_here : IsOwnCall (controllers_at controllers front) e
    own_here = own-there controllers front e back (subst (AreOwnCalls controllers) place run.of.own_calls)

    pub lawful : IsLawful t
    lawful = (here run front rest place).lawful

    pub place_longer : h ≡ longer ++ back
    place_longer = place ∙ sym (append_assoc front (e ∷ []) back)

    pub at-longer : at longer ≡ new
    at-longer = covers-push who no_covers first front e

    pub state-longer : state_after first longer ≡ after t e
    state-longer = state_after-push first front e

    pub controllers-longer : controllers_at controllers longer
        ≡ controllers_after (controllers_at controllers front) e
    controllers-longer = controllers-push controllers front e

    -- an apfiles that makes no call is as it was
    same-after : (k : ℕ) → IsOther k actor it
        → slice_get (controllers_at controllers longer) k ≡ slice_get (controllers_at controllers front) k
    same-after k other =
        ap (λ (cs : List ControllerState). slice_get cs k) controllers-longer
        ∙ others-leave k (controllers_at controllers front) actor it other

    pub one-before : (pid k : ℕ) (p : ProbeState) → IsOther k actor it → IsOne run pid longer k p
        → IsOne run pid front k p
    one-before pid k p other one = record {
      hider = one.hider;
      starts = one.starts;
      is = sym (same-after k other) ∙ one.is;
      accepted = one.accepted;
    }

    -- ---- what is bare stays so where nothing is hidden

    pub stays-bare : (pid : ℕ) → IsBare run pid front → AreAlike (at front pid) (new pid)
        → ((k : ℕ) (p : ProbeState) → IsOne run pid longer k p → is_hiding p.stage ≡ false) → IsBare run pid longer
    stays-bare pid bare alike nobody = record {
      patches = ap (λ (c : Covers). (c pid).patches) at-longer ∙ alike.patches ∙ bare.patches;
      agent = ap (λ (c : Covers). (c pid).agent) at-longer ∙ alike.agent ∙ bare.agent;
      nobody = nobody;
    }

    -- ---- what is hidden stays so where another does something

    pub moved-on : (pid k : ℕ) (p : ProbeState) → IsOne run pid longer k p
        → Hides pid (new pid) (after t e).system p p.stage → IsHiddenBy run pid longer
    moved-on pid k p one hides = record {
      k = k;
      p = p;
      one = one;
      hides =
          subst (λ (x : TracedState). Hides pid (at longer pid) x.system p p.stage) (sym state-longer)
          (subst (λ (c : Covers). Hides pid (c pid) (after t e).system p p.stage) (sym at-longer) hides);
    }

    pub stays-one : (pid : ℕ) (b : IsHiddenBy run pid front) → IsOther b.k actor it → IsOne run pid longer b.k b.p
    stays-one pid b other = record {
      hider = b.one.hider;
      starts = b.one.starts;
      is = same-after b.k other ∙ b.one.is;
      accepted = b.one.accepted;
    }

    -- its process lives on
    lives-on : (pid : ℕ) (b : IsHiddenBy run pid front) → IsOther b.k actor it → IsAlive pid (after t e)
    lives-on pid b other =
        let one = stays-one pid b other in
        subst (IsAlive pid) state-longer
        ((its run front rest place pid b).lives longer back b.p place_longer
        (record { is = one.is; hides = hiding run front rest place pid b }))

    pub not-gone : (pid : ℕ) (b : IsHiddenBy run pid front) → IsOther b.k actor it
        → live_process (after t e).system pid ≡ None → ⊥
    not-gone pid b other gone =
        let l = lives-on pid b other in none-some l.process (sym gone ∙ l.lives)

    pub stays-hidden : (pid : ℕ) (b : IsHiddenBy run pid front) → IsOther b.k actor it
        → AreAlike (at front pid) (new pid) → ((at front pid).agent ≡ true → actor ≢ Lwp pid agent_id)
        → IsHiddenBy run pid longer
    stays-hidden pid b other alike no_agent =
        let l = lives run front rest place pid b in
        moved-on pid b.k b.p (stays-one pid b other)
        (hides-on n b.k pid first front lawful (sole run front rest place pid b) b.p
        ((fact run front rest place pid b).reads b.one.accepted) (ask run front rest place pid b) l.process l.lives
        actor it legal_here other (at front pid) (new pid) alike no_agent b.hides)

  -- what an entry has to be, and what is so after it
  pub record Steps (front : List Entry) (e : Entry) : Type 0 where
    pub tidy : IsTidyEntry who (at front) (state_after first front) e
    pub spares : IsSparingEntry who (at front) (state_after first front) e
    pub kept : Kept run (front ++ e ∷ [])

  -- ---- the clock

  module _ (front : List Entry) (m : ℕ) (back : List Entry)
      (place : h ≡ front ++ record { actor = Clock; act = act.Tick m } ∷ back) (kept : Kept run front) where
    abbrev tick_entry : Entry
    tick_entry = record { actor = Clock; act = act.Tick m }

    tick-same : covers_after who (at front) (state_after first front) tick_entry ≡ at front
    unfolding covers_after
    tick-same = refl

    ticked-unstepped : IsUnstepped (after (state_after first front) tick_entry).system
    unfolding after
    ticked-unstepped = record { processes = kept.unstepped.processes }

    tick-alike : (pid : ℕ)
        → AreAlike (at front pid) (covers_after who (at front) (state_after first front) tick_entry pid)
    tick-alike pid =
        subst (λ (c : Covers). AreAlike (at front pid) (c pid)) (sym tick-same) (alike-self (at front pid))

    pub tick-steps : Steps front tick_entry
    tick-steps = record {
      tidy = tt;
      spares = tt;
      kept = record {
        covering = λ pid. by pid (kept.covering pid);
        faults = subst HaveNoFaults (sym (at-longer front Clock (act.Tick m) back place kept ∙ tick-same)) kept.faults;
        unstepped =
            subst (λ (x : TracedState). IsUnstepped x.system)
            (sym (state-longer front Clock (act.Tick m) back place kept)) ticked-unstepped;
      };
    }
      where
        by : (pid : ℕ) → IsBare run pid front ⊎ IsHiddenBy run pid front
            → IsBare run pid (front ++ tick_entry ∷ []) ⊎ IsHiddenBy run pid (front ++ tick_entry ∷ [])
        by pid (inl bare) =
            inl (stays-bare front Clock (act.Tick m) back place kept pid bare (tick-alike pid)
            (λ k p one. bare.nobody k p (one-before front Clock (act.Tick m) back place kept pid k p tt one)))
        by pid (inr b) =
            inr (stays-hidden front Clock (act.Tick m) back place kept pid b tt (tick-alike pid) (λ hidden same. cc))
