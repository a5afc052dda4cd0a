use Rattle.std.proofs.Common.{◌≡◌, ◌≢◌, ℕ, true, false, [], Option, Some, None, refl, sym, subst, ap, ◌∙◌}
use Rattle.std.proofs.lemmas.Bool.{false≢true}
use Rattle.std.proofs.lemmas.Option.{none-some, same_Some}
use Rattle.pr_hidden.specs.Covers.{Covers, keeps_lwp}
use Rattle.pr_hidden.specs.Following.{MayEnd, SparesPatches}
use Rattle.pr_hidden.specs.Hiders.{Hiders, is_directed, lwp_at, lwp_in}
use Rattle.pr_hidden.specs.Tidiness.{AreTidyChanges, IsAgentMove, IsSparingTurn, IsTidyMove, IsTidyTurn}
use Rattle.pr_model.proofs.TurnLemmas.{turn-taken}
use Rattle.pr_model.specs.LwpTurns.{LwpTurn, is_held_back, settled, turn_of}
use Rattle.pr_model.specs.Rows.{Row, requested_row, row_for}
use Rattle.pr_model.specs.State.{TracedLwp, TracedProcess, TracedState, live_process, lwp_of}
use Rattle.pr_model.specs.Stops.{has_event_stop}
use Rattle.pr_model.specs.Transitions.{requested}
use Rattle.pr_model.specs.declared.events.Did.{Did}
use Rattle.pr_model.specs.declared.events.Did.TheVariants.{Faulted, Stopped}
use Rattle.pr_num.specs.declared.faults.Flt.TheVariants.{Trace}
use Rattle.pr_truss_laws.proofs.Machine.StillLemmas.{row-directed}
use Rattle.pr_truss_laws.specs.Stills.{stands_still}
use Rattle.pr_probe_laws.proofs.Agents.DeathLemmas.{killed-none}
use Rattle.pr_probe_laws.proofs.Agents.AgentEntries.{false-if, must-be, or-second}
use Rattle.pr_probe_laws.proofs.Hiding.HiddenCovers.{HaveNoFaults}
use Rattle.pr_probe_laws.proofs.Hiding.HiddenStages.{IsHeld}
use Rattle.pr_probe_laws.proofs.Hiding.TidyTurns.{none-spared, row-tidy}

-- Which turns are tidy, and spare what is written over: those of a process of which nothing is hidden; and of one in
-- which all stop but the agent, the stops.

module _ (s : TracedState) (pid id : ℕ) (t : LwpTurn) (turn : turn_of s.system pid id ≡ Some t) where
  abbrev did : Did
  did = t.turned.did

  -- the turn, with the process and the lwp as they are
  module _ (p : TracedProcess) (l : TracedLwp) (live : live_process s.system pid ≡ Some p)
      (there : lwp_of p id ≡ Some l) where
    abbrev row : Row
    row = row_for s.system pid p id l

    pub is-settled : t ≡ settled s.system pid p id l row
    is-settled =
        let it = turn-taken s.system pid id t turn in
        let same : it.process ≡ p = same_Some it.process p (sym it.live ∙ live) in
        let its : it.lwp ≡ l =
        same_Some it.lwp l (sym it.there ∙ ap (λ (y : TracedProcess). lwp_of y id) same ∙ there) in
        it.is
        ∙ ap (λ (y : TracedProcess). settled s.system pid y id it.lwp (row_for s.system pid y id it.lwp)) same
        ∙ ap (λ (k : TracedLwp). settled s.system pid p id k (row_for s.system pid p id k)) its

    pub did-is : did ≡ row.did
    unfolding settled
    did-is = ap (λ (x : LwpTurn). x.turned.did) is-settled

    -- it is not held back
    goes-free : stands_still l ≡ false
    unfolding is_held_back
    goes-free =
        let it = turn-taken s.system pid id t turn in
        let same : it.process ≡ p = same_Some it.process p (sym it.live ∙ live) in
        let its : it.lwp ≡ l =
        same_Some it.lwp l (sym it.there ∙ ap (λ (y : TracedProcess). lwp_of y id) same ∙ there) in
        ap stands_still (sym its)
        ∙ false-if (stands_still it.lwp)
        (λ is. false≢true (sym it.free ∙ or-second (has_event_stop it.lwp) it.lwp.suspended _ is))

module _ (who : Hiders) (covers : Covers) (clean : HaveNoFaults covers) (s : TracedState) (pid id : ℕ) (t : LwpTurn)
    (turn : turn_of s.system pid id ≡ Some t) where
  abbrev did_so : Did
  did_so = t.turned.did

  -- ---- nothing is hidden of its process

  module _ (bare : (covers pid).patches ≡ []) (no_agent : (covers pid).agent ≡ false)
      (may_end : MayEnd covers s.system pid) (unstepped : did_so ≢ Faulted Trace)
      (kills : (target : ℕ) → live_process t.system target ≡ None → MayEnd covers s.system target) where
    clear-move : (p : TracedProcess) (l : TracedLwp) → live_process s.system pid ≡ Some p → lwp_of p id ≡ Some l
        → IsTidyMove who covers s pid p id l did_so
    clear-move p l live there =
        let back = may_end.returnable p live in
        record {
          beside_agent = λ is. absurd (false≢true (sym no_agent ∙ is));
          never_posted = λ is. absurd (false≢true (sym (clean pid id) ∙ is));
          own_steps = λ is. absurd (unstepped is);
          changes =
              row-tidy covers s.system pid p id l back (λ woken call args since copying does. bare)
              (λ target killed.
              kills target
              (ap (λ (x : LwpTurn). live_process x.system target) (is-settled s pid id t turn p l live there)
              ∙ killed-none s.system pid p id l (row_for s.system pid p id l) target killed));
          returns = λ how is. back;
        }

    pub clear-tidy : IsTidyTurn who covers s pid id did_so
    clear-tidy = record {
      others = λ p l live there kept. clear-move p l live there;
      agents = λ p l live there hidden. absurd (false≢true (sym hidden ∙ keeps));
    }
      where
        keeps : keeps_lwp (covers pid) id ≡ true
        keeps = rw no_agent refl

    pub clear-spares : IsSparingTurn who covers s pid id did_so
    clear-spares = record {
      spares = λ p l live there kept not_directed not_own.
          subst (λ ps. SparesPatches ps p l) (sym bare) (none-spared p l);
    }

  -- ---- all but the agent stop

  pub record Stops : Type 0 where
    pub tidy : IsTidyTurn who covers s pid id did_so
    pub spares : IsSparingTurn who covers s pid id did_so
    pub stops : did_so ≡ Stopped
    pub directed : is_directed (lwp_at s.system pid id) ≡ true

  module _ (q : TracedProcess) (lives : live_process s.system pid ≡ Some q) (held : IsHeld (covers pid) q) where
    goes-directed : (l : TracedLwp) → lwp_of q id ≡ Some l → keeps_lwp (covers pid) id ≡ true
        → l.control.directed ≡ true
    goes-directed l there kept =
        must-be (stands_still l) l.control.directed (held.others id l kept there)
        (goes-free s pid id t turn q l lives there)

    only-stops : (l : TracedLwp) → lwp_of q id ≡ Some l → keeps_lwp (covers pid) id ≡ true
        → row_for s.system pid q id l ≡ requested_row
    only-stops l there kept = row-directed s.system pid q id l (goes-directed l there kept)

    its-lwp : (l : TracedLwp) × (lwp_of q id ≡ Some l)
    its-lwp =
        let it = turn-taken s.system pid id t turn in
        let same : it.process ≡ q = same_Some it.process q (sym it.live ∙ lives) in
        (it.lwp, ap (λ (y : TracedProcess). lwp_of y id) (sym same) ∙ it.there)

    module _ (kept : keeps_lwp (covers pid) id ≡ true) where
      stops-now : did_so ≡ Stopped
      unfolding requested_row
      stops-now =
          did-is s pid id t turn q its-lwp.0 lives its-lwp.1
          ∙ ap (λ (r : Row). r.did) (only-stops its-lwp.0 its-lwp.1 kept)

      stop-move : (l : TracedLwp) → lwp_of q id ≡ Some l → IsTidyMove who covers s pid q id l did_so
      unfolding requested_row requested
      stop-move l there =
          let row = only-stops l there kept in
          record {
            beside_agent = λ is. goes-directed l there kept;
            never_posted = λ is. absurd (false≢true (sym (clean pid id) ∙ is));
            own_steps = λ is. absurd (let both : Stopped ≡ Faulted Trace = sym stops-now ∙ is in cc);
            changes =
                subst (λ (r : Row). AreTidyChanges covers pid q id l r.transition.changes s.system) (sym row) tt;
            returns = λ how is.
                absurd (none-some how (sym (ap (λ (r : Row). r.transition.ending) row) ∙ is));
          }

      pub stops-tidy : Stops
      stops-tidy = record {
        tidy = record {
          others = λ p l live there kept_too.
              let same : p ≡ q = same_Some p q (sym live ∙ lives) in
              subst (λ (x : TracedProcess). IsTidyMove who covers s pid x id l did_so) (sym same)
              (stop-move l (ap (λ (x : TracedProcess). lwp_of x id) (sym same) ∙ there));
          agents = λ p l live there hidden. absurd (false≢true (sym hidden ∙ kept));
        };
        spares = record {
          spares = λ p l live there kept_too not_directed not_own.
              let same : p ≡ q = same_Some p q (sym live ∙ lives) in
              absurd (false≢true (sym not_directed
              ∙ goes-directed l (ap (λ (x : TracedProcess). lwp_of x id) (sym same) ∙ there) kept));
        };
        stops = stops-now;
        directed =
            ap (λ (o : Option TracedProcess). is_directed (lwp_in o id)) lives
            ∙ ap is_directed its-lwp.1 ∙ goes-directed its-lwp.0 its-lwp.1 kept;
      }

    -- ---- the agent

    module _ (hidden : keeps_lwp (covers pid) id ≡ false)
        (move : (l : TracedLwp) → lwp_of q id ≡ Some l
        → IsAgentMove (covers pid).patches q did_so (row_for s.system pid q id l).transition) where
      pub agent-tidy : IsTidyTurn who covers s pid id did_so
      agent-tidy = record {
        others = λ p l live there kept. absurd (false≢true (sym hidden ∙ kept));
        agents = λ p l live there hidden_too.
            let same : p ≡ q = same_Some p q (sym live ∙ lives) in
            subst (λ (x : TracedProcess).
            IsAgentMove (covers pid).patches x did_so (row_for s.system pid x id l).transition) (sym same)
            (move l (ap (λ (x : TracedProcess). lwp_of x id) (sym same) ∙ there));
      }

      pub agent-spares : IsSparingTurn who covers s pid id did_so
      agent-spares = record {
        spares = λ p l live there kept not_directed not_own. absurd (false≢true (sym hidden ∙ kept));
      }
