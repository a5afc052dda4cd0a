use Rattle.std.proofs.Common.{◌≡◌, ◌≢◌, ◌⊎◌, ℕ, Bool, true, false, List, Some, is_ok, refl, sym, subst, ap, ◌∙◌, inl, inr}
use Rattle.std.proofs.lemmas.Bool.{false≢true}
use Rattle.std.proofs.lemmas.Option.{same_Some}
use Rattle.pr_hidden.proofs.Follows.OrderLemmas.{live-made}
use Rattle.pr_hidden.specs.Covers.{Cover, Patch}
use Rattle.pr_hidden.specs.Hiders.{exits}
use Rattle.pr_hidden.specs.Hiding.{with_own_agent}
use Rattle.pr_hidden.specs.Tidiness.{IsAgentMove}
use Rattle.pr_lawful.proofs.LawfulTurns.EndLemmas.{found-live}
use Rattle.pr_model.specs.Lawful.{IsLawful, IsLawfulProcess}
use Rattle.pr_model.specs.Legal.{IsLegalEntry, after, state_after}
use Rattle.pr_model.specs.LwpTurns.{LwpTurn, settled, turn_of}
use Rattle.pr_model.specs.Rows.{Row, row_for}
use Rattle.pr_model.specs.State.{TracedLwp, TracedProcess, TracedState, TracedSystem, live_process, lwp_of}
use Rattle.pr_model.specs.Stops.{has_event_stop}
use Rattle.pr_model.specs.declared.events.Act.{Act}
use Rattle.pr_model.specs.declared.events.Actor.{Actor}
use Rattle.pr_model.specs.declared.events.Actor.TheVariants.{Lwp}
use Rattle.pr_model.specs.declared.events.Did.{Did}
use Rattle.pr_model.specs.declared.events.Entry.{Entry}
use Rattle.pr_num.proofs.ByIdLaws.{All-under}
use Rattle.pr_num.specs.Agents.{agent_id}
use Rattle.pr_num.specs.Layout.{stack_base, text_base}
use Rattle.pr_num.specs.Spaces.{Space, bytes_for}
use Rattle.pr_probe.specs.AgentCode.{code_size, stack_size}
use Rattle.pr_probe.specs.Probes.{ProbeState}
use Rattle.pr_probe.specs.TracedSets.{agent_sets}
use Rattle.pr_probe.specs.declared.probe_stages.ProbeFile.TheVariants.{AgentControl, AgentStatus}
use Rattle.pr_probe.specs.declared.probe_stages.ProbeStage.{ProbeStage}
use Rattle.pr_probe.specs.declared.probe_stages.ProbeStage.TheVariants as stage
use Rattle.pr_tool_laws.proofs.Pstack.StackHalts.{HaltsWith, others-halt}
use Rattle.pr_tool_laws.proofs.OwnFiles.StandingLemmas.{IsOther}
use Rattle.pr_truss_laws.specs.Handles.{HasNoOtherWriter}
use Rattle.pr_truss_laws.specs.Stills.{IsHalting, KeepsMemory}
use Rattle.pr_probe_laws.proofs.Agents.AgentEntries.{others-left, pends_as}
use Rattle.pr_probe_laws.proofs.Agents.AgentMoves.{asking-moves}
use Rattle.pr_probe_laws.proofs.Agents.AgentTurns.{IsAgent, IsFetchable, IsPlanted, Position}
use Rattle.pr_probe_laws.proofs.Hiding.HiddenCovers.{AreAlike}
use Rattle.pr_probe_laws.proofs.Hiding.HiddenStages.{Asked, AsksNow, Hides, HidesAgent, HidesBoth, HidesOut, HidesStack, Made, StandsOut, asked-at, made-at, runs, saved_patches, stands}
use Rattle.pr_probe_laws.proofs.Hiding.HiddenTurns.{did-is, is-settled}
use Rattle.pr_probe_laws.proofs.Agents.AgentGone.{still-without}
use Rattle.pr_probe_laws.proofs.Agents.LeavingRows.{GoesOut, IsGone, Leaving, Turns, at_exit, in_exit, leaving-turn, out_of_call}
use Rattle.pr_probe_laws.proofs.Room.RoomStages.{Where}
use Rattle.pr_probe_laws.proofs.OneState.TextStages.{IsAsking, Making, Reads, Rests, Runs, WithAgent, agent-alike, in_program, on_its_way, stands-still}
use Rattle.pr_probe_laws.specs.HiddenProbes.{StandsSaved, is_signal_turn}

-- What others do leaves what an apfiles hides of its process, and what is so of that.

-- ---- nothing depends on the signals that pend

module _ (l k : TracedLwp) (same : k ≡ pends_as l k) where
  rests-same : Rests l → Rests k
  rests-same (in_program is) = in_program (ap (λ (x : TracedLwp). x.phase) same ∙ is)
  rests-same (on_its_way call args result is) =
      on_its_way call args result (ap (λ (x : TracedLwp). x.phase) same ∙ is)

  leaving-same : Leaving l → Leaving k
  leaving-same (out_of_call call args result is asked) =
      out_of_call call args result (ap (λ (x : TracedLwp). x.phase) same ∙ is)
      (ap (λ (x : TracedLwp). x.regs) same ∙ asked)
  leaving-same (at_exit is asked) =
      at_exit (ap (λ (x : TracedLwp). x.phase) same ∙ is) (ap (λ (x : TracedLwp). x.regs) same ∙ asked)
  leaving-same (in_exit is) = in_exit (ap (λ (x : TracedLwp). x.phase) same ∙ is)

module _ (n k pid : ℕ) (first : TracedState) (h : List Entry) (lawful : IsLawful (state_after first h))
    (sole : HasNoOtherWriter k pid (state_after first h).opens) (p : ProbeState)
    (reads : Reads k pid first h (state_after first h) p p.stage)
    (ask : (m : Making k pid first h) → IsAsking k pid first h m) (x : TracedProcess)
    (live : live_process (state_after first h).system pid ≡ Some x) where
  abbrev s : TracedState
  s = state_after first h

  -- ---- an entry of others that is no turn of the agent

  module _ (actor : Actor) (it : Act) (legal : IsLegalEntry n s (record { actor = actor; act = it }))
      (other : IsOther k actor it) where
    abbrev next : TracedState
    next = after s (record { actor = actor; act = it })

    gone-on : Where pid IsGone s.system → Where pid IsGone next.system
    gone-on gone q later =
        let here = gone x live in
        let halts : HaltsWith pid x s.system = record {
          each = λ y there.
              subst (λ (z : TracedProcess). IsHalting z × KeepsMemory x z) (same_Some x y (sym live ∙ there))
              (here.halts, record { own = λ own. (own, refl) });
        } in
        let made = live-made s.system pid x lawful.system live in
        let after_it = (others-halt n s k pid lawful sole made actor it x legal other halts).each q later in
        let memory = after_it.1.own here.own in
        record {
          none =
              still-without n s k pid lawful sole x live here.halts here.none actor it legal other q later;
          halts = after_it.0;
          own = memory.0;
          text = ap (λ (sp : Space). is_ok (bytes_for 0 sp text_base code_size)) memory.1 ∙ here.text;
          answer = ap (λ (sp : Space). is_ok (bytes_for 0 sp stack_base stack_size)) memory.1 ∙ here.answer;
        }

    module _ (no_agent : actor ≢ Lwp pid agent_id) where
      out-on : (P : TracedLwp → Type 0) → ((l j : TracedLwp) → j ≡ pends_as l j → P l → P j)
          → Where pid (StandsOut P) s.system → Where pid (StandsOut P) next.system
      out-on P alike so q later =
          let w = so x live in
          let left =
          others-left 0 IsPlanted n s k pid lawful sole x live w.ready w.agent w.there actor it legal other no_agent q
          later in
          record {
            ready = left.ready;
            agent = left.agent;
            there = left.there;
            is = agent-alike w.agent left.agent left.same w.is;
            stands = ap has_event_stop left.same ∙ w.stands;
            so = alike w.agent left.agent left.same w.so;
          }

      goes-on : Where pid GoesOut s.system → Where pid GoesOut next.system
      goes-on so q later =
          let w = so x live in
          let left =
          others-left 0 IsPlanted n s k pid lawful sole x live w.ready w.agent w.there actor it legal other no_agent q
          later in
          record {
            ready = left.ready;
            agent = left.agent;
            there = left.there;
            is = agent-alike w.agent left.agent left.same w.is;
            running = ap (λ (y : TracedLwp). y.control.stop) left.same ∙ w.running;
            at = leaving-same w.agent left.agent left.same w.at;
          }

      agent-on : Made k pid first h s p x → (c d : Cover) → AreAlike c d → HidesAgent pid c s.system p
          → HidesAgent pid d next.system p
      agent-on m c d alike so = record {
        none = alike.patches ∙ so.none;
        agent_is = alike.agent ∙ so.agent_is;
        stands = λ q later.
            let left =
            others-left agent_sets.exits IsFetchable n s k pid lawful sole x live m.ready m.agent m.there actor it legal
            other no_agent q later in
            subst (StandsSaved p) (sym left.space) (so.stands x live);
      }

    both-on : (agent : Bool) (c d : Cover) → AreAlike c d → HidesBoth agent c p → HidesBoth agent d p
    both-on agent c d alike so = record {
      patches = alike.patches ∙ so.patches;
      agent_is = alike.agent ∙ so.agent_is;
      code = so.code;
      stack = so.stack;
    }

    stack-on : (c d : Cover) → AreAlike c d → HidesStack c p → HidesStack d p
    stack-on c d alike so = record {
      patches = alike.patches ∙ so.patches;
      agent_is = alike.agent ∙ so.agent_is;
      stack = so.stack;
    }

    -- where the agent is hidden the entry is none of its turns
    pub hides-on : (c d : Cover) → AreAlike c d → (c.agent ≡ true → actor ≢ Lwp pid agent_id)
        → Hides pid c s.system p p.stage → Hides pid d next.system p p.stage
    unfolding Hides
    hides-on c d alike no_agent so = by p.stage reads so
      where
        out : HidesOut pid c s.system p → HidesOut pid d next.system p
        out (inl goes) = inl (both-on true c d alike goes.0, goes-on (no_agent goes.0.agent_is) goes.1)
        out (inr gone) = inr (both-on false c d alike gone.0, gone-on gone.1)

        by : (g : ProbeStage) → Reads k pid first h s p g → Hides pid c s.system p g → Hides pid d next.system p g
        by (stage.Open AgentControl) known hides =
            agent-on (no_agent hides.agent_is) (made-at k pid first h s p ask
            (stage.Open AgentControl) tt known x live) c d
            alike hides
        by (stage.Open AgentStatus) known hides =
            agent-on (no_agent hides.agent_is) (made-at k pid first h s p ask
            (stage.Open AgentStatus) tt known x live) c d
            alike hides
        by stage.PlantCode known hides =
            agent-on (no_agent hides.agent_is) (made-at k pid first h s p ask stage.PlantCode tt known x live) c d alike
            hides
        by (stage.Asking d_asked step) known hides = both-on true c d alike hides
        by stage.UntraceExits known hides = both-on true c d alike hides
        by stage.SetExit known hides =
            (both-on true c d alike hides.0, out-on (no_agent hides.0.agent_is) Rests rests-same hides.1)
        by stage.RunExit known hides =
            (both-on true c d alike hides.0, out-on (no_agent hides.0.agent_is) Leaving leaving-same hides.1)
        by stage.AwaitExit known hides = out hides
        by stage.WriteCode known hides = (both-on false c d alike hides.0, gone-on hides.1)
        by stage.WriteStack known hides = (stack-on c d alike hides.0, gone-on hides.1)
        by _ known hides = absurd hides

  -- ---- a turn of the agent

  its-process : IsLawfulProcess (pid, x)
  its-process =
      All-under IsLawfulProcess pid x s.system.processes lawful.system.processes (found-live s.system pid x live).0

  module _ (t : LwpTurn) (turn : turn_of s.system pid agent_id ≡ Some t) (quiet : is_signal_turn t.turned.did ≡ false)
      (q : TracedProcess) (later : live_process t.system pid ≡ Some q) where
    -- what it does is hidden, and what is hidden then
    pub record Goes (c : Cover) (u : TracedSystem) : Type 0 where
      pub move : (l : TracedLwp) → lwp_of x agent_id ≡ Some l
          → IsAgentMove c.patches x t.turned.did (row_for s.system pid x agent_id l).transition
      pub hides : (d : Cover)
          → (exits t.turned.did ≡ false → AreAlike c d)
          → (exits t.turned.did ≡ true → AreAlike (with_own_agent false c) d) → Hides pid d u p p.stage

    never : (c : Cover) (u : TracedSystem) (l : TracedLwp) → lwp_of x agent_id ≡ Some l → has_event_stop l ≡ true
        → Goes c u
    never c u l there stops = absurd (stands-still s.system pid x l live there stops t turn)

    -- an agent that asks: it goes on to its answer
    asks-goes : (c : Cover) → HidesBoth true c p → Asked k pid first h s p x → (d : ℕ) → WithAgent IsPlanted (Runs d) x
        → (l : TracedLwp) → lwp_of x agent_id ≡ Some l
        → (exits t.turned.did ≡ false)
        × IsAgentMove c.patches x t.turned.did (row_for s.system pid x agent_id l).transition
    asks-goes c it asked d w l there =
        let same : w.agent ≡ l = same_Some w.agent l (sym w.there ∙ there) in
        let did : t.turned.did ≡ (row_for s.system pid x agent_id l).did =
        did-is s pid agent_id t turn x l live there in
        let moves =
        asking-moves d s.system pid x l w.ready (subst IsAgent same w.is) (subst (Position d) same w.so.at)
        its-process.uncaught (record { at = text_base; bytes = p.code }) p.stack it.stack
        (ap is_signal_turn (sym did) ∙ quiet) in (
          ap exits did ∙ moves.0,
          subst (λ (ps : List Patch).
              IsAgentMove ps x t.turned.did (row_for s.system pid x agent_id l).transition) (sym it.patches)
              (subst (λ (e : Did).
              IsAgentMove (saved_patches p) x e (row_for s.system pid x agent_id l).transition) (sym did) moves.1),
        )

    asked-goes : (c : Cover) (u : TracedSystem) → HidesBoth true c p → Asked k pid first h s p x
        → ((d : Cover) → HidesBoth true d p → Hides pid d u p p.stage) → Goes c u
    asked-goes c u it asked at = by asked.now
      where
        by : AsksNow x → Goes c u
        by (stands l there stops) = never c u l there stops
        by (runs d w) =
            let all = asks-goes c it asked d w in
            record {
              move = λ l there. (all l there).1;
              hides = λ e stays ends. at e (both-so e (stays (all w.agent w.there).0));
            }
          where
            both-so : (e : Cover) → AreAlike c e → HidesBoth true e p
            both-so e alike = record {
              patches = alike.patches ∙ it.patches;
              agent_is = alike.agent ∙ it.agent_is;
              code = it.code;
              stack = it.stack;
            }

    -- one on its way out: it goes on, or is gone
    out-goes : (c : Cover) → HidesBoth true c p → GoesOut x
        → ((d : Cover) → HidesOut pid d t.system p → Hides pid d t.system p p.stage) → Goes c t.system
    out-goes c it w at =
        record {
          move = λ l there.
              subst (λ (k : TracedLwp).
              IsAgentMove c.patches x t.turned.did (row_for s.system pid x agent_id k).transition)
              (same_Some w.agent l (sym w.there ∙ there))
              (subst (λ (e : Did).
              IsAgentMove c.patches x e (row_for s.system pid x agent_id w.agent).transition) (sym did) turned.move);
          hides = λ d stays ends. at d (by d stays ends turned.left);
        }
      where
        row : Row
        row = row_for s.system pid x agent_id w.agent

        did : t.turned.did ≡ row.did
        did = did-is s pid agent_id t turn x w.agent live w.there

        lives : live_process (settled s.system pid x agent_id w.agent row).system pid ≡ Some q
        lives =
            ap (λ (v : LwpTurn). live_process v.system pid)
            (sym (is-settled s pid agent_id t turn x w.agent live w.there)) ∙ later

        turned : Turns s.system pid x w.agent live its-process.rising w.there w.ready w.is w.at w.running
            its-process.uncaught c.patches row q
        turned =
            leaving-turn s.system pid x w.agent live its-process.rising w.there w.ready w.is w.at w.running
            its-process.uncaught c.patches q (ap is_signal_turn (sym did) ∙ quiet) lives

        by : (d : Cover) → (exits t.turned.did ≡ false → AreAlike c d)
            → (exits t.turned.did ≡ true → AreAlike (with_own_agent false c) d)
            → ((exits row.did ≡ false) × GoesOut q) ⊎ ((exits row.did ≡ true) × IsGone q)
            → HidesOut pid d t.system p
        by d stays ends (inl goes) =
            let alike = stays (ap exits did ∙ goes.0) in
            inl (
              record {
                patches = alike.patches ∙ it.patches;
                agent_is = alike.agent ∙ it.agent_is;
                code = it.code;
                stack = it.stack;
              },
              λ y there. subst GoesOut (same_Some q y (sym later ∙ there)) goes.1,
            )
        by d stays ends (inr gone) =
            let alike = ends (ap exits did ∙ gone.0) in
            inr (
              record {
                patches = alike.patches ∙ it.patches;
                agent_is = alike.agent;
                code = it.code;
                stack = it.stack;
              },
              λ y there. subst IsGone (same_Some q y (sym later ∙ there)) gone.1,
            )

    -- whatever the stage, where the agent is hidden
    pub agent-goes : (c : Cover) → c.agent ≡ true → Hides pid c s.system p p.stage → Goes c t.system
    unfolding Hides
    agent-goes c hidden so = by p.stage reads so (λ d it. it)
      where
        awake : (agent : Bool) → HidesBoth agent c p → agent ≡ false → ⊥
        awake agent it is = false≢true (sym is ∙ sym it.agent_is ∙ hidden)

        by : (g : ProbeStage) → Reads k pid first h s p g → Hides pid c s.system p g
            → ((d : Cover) → Hides pid d t.system p g → Hides pid d t.system p p.stage) → Goes c t.system
        by (stage.Open AgentControl) known hides at =
            let m = made-at k pid first h s p ask (stage.Open AgentControl) tt known x live in
            never c t.system m.agent m.there m.stands
        by (stage.Open AgentStatus) known hides at =
            let m = made-at k pid first h s p ask (stage.Open AgentStatus) tt known x live in
            never c t.system m.agent m.there m.stands
        by stage.PlantCode known hides at =
            let m = made-at k pid first h s p ask stage.PlantCode tt known x live in
            never c t.system m.agent m.there m.stands
        by (stage.Asking d step) known hides at =
            asked-goes c t.system hides (asked-at k pid first h s p ask (stage.Asking d step) tt known x live) at
        by stage.UntraceExits known hides at =
            asked-goes c t.system hides (asked-at k pid first h s p ask stage.UntraceExits tt known x live) at
        by stage.SetExit known hides at =
            let w = hides.1 x live in never c t.system w.agent w.there w.stands
        by stage.RunExit known hides at =
            let w = hides.1 x live in never c t.system w.agent w.there w.stands
        by stage.AwaitExit known (inl goes) at = out-goes c goes.0 (goes.1 x live) at
        by stage.AwaitExit known (inr gone) at = absurd (awake false gone.0 refl)
        by stage.WriteCode known hides at = absurd (awake false hides.0 refl)
        by stage.WriteStack known hides at = absurd (false≢true (sym hides.0.agent_is ∙ hidden))
        by _ known hides at = absurd hides
