use Rattle.std.proofs.Common.{◌≡◌, ◌⊎◌, ◌∷◌, ◌++◌, ℕ, true, false, List, [], Option, Some, is_some, slice_get, refl, sym, subst, ap, ◌∙◌, inl, inr}
use Rattle.std.proofs.lemmas.Bool.{false≢true}
use Rattle.std.proofs.lemmas.List.{append_assoc, append-nil}
use Rattle.pr_api.specs.Entries.{call_entry}
use Rattle.pr_erasure.specs.Untouched.{IsUntouched}
use Rattle.pr_hidden.proofs.Follows.HistoryFollows.{hidden-later}
use Rattle.pr_hidden.specs.HiddenSteps.{IsHidden}
use Rattle.pr_hidden.specs.Covers.{Covers}
use Rattle.pr_hidden.specs.Hiders.{Hiders, covers_after, covers_at, no_covers}
use Rattle.pr_hidden.specs.Tidiness.{HoldsFrom, IsPassiveBut, IsSparing, IsSparingEntry, IsTidy, IsTidyEntry}
use Rattle.pr_model.proofs.HistoryLemmas.{state_after-push}
use Rattle.pr_model.specs.Legal.{IsLegalEntry, state_after}
use Rattle.pr_model.specs.State.{TracedLwp, TracedProcess, TracedState, has_agent, live_process}
use Rattle.pr_model.specs.declared.calls.Call as calls
use Rattle.pr_model.specs.declared.calls.Reply.{Reply}
use Rattle.pr_model.specs.declared.calls.Reply.TheVariants as reply
use Rattle.pr_model.specs.declared.events.Act.{Act}
use Rattle.pr_model.specs.declared.events.Act.TheVariants as act
use Rattle.pr_model.specs.declared.events.Actor.{Actor}
use Rattle.pr_model.specs.declared.events.Actor.TheVariants.{Controller, Lwp, Clock}
use Rattle.pr_model.specs.declared.events.Entry.{Entry}
use Rattle.pr_num.specs.declared.errnos.Errno.{Errno}
use Rattle.pr_num.specs.declared.messages.Message.TheVariants as message
use Rattle.pr_probe.specs.ProbeStages.{is_passed_over}
use Rattle.pr_probe.specs.Probes.{ProbeState, call_of, first_probe, next_call_of, refusal_in}
use Rattle.pr_probe.specs.declared.probe_stages.ProbeStage.TheVariants as stage
use Rattle.pr_reached.specs.Reached.{IsReached}
use Rattle.pr_world.specs.ControllerStates.{ControllerState, Probe}
use Rattle.pr_tool_laws.specs.OwnCalls.{AreOwnCalls}
use Rattle.pr_world.specs.Protocol.{controllers_at}
use Rattle.pr_num.specs.Layout.{stack_base}
use Rattle.pr_probe.specs.AgentCode.{stack_size}
use Rattle.pr_probe_laws.proofs.Agents.AgentGone.{writes-stack-at}
use Rattle.pr_probe_laws.proofs.Hiding.HiddenCovers.{covers-push}
use Rattle.pr_probe_laws.proofs.Hiding.HiddenPassive.{others-enough}
use Rattle.pr_probe_laws.proofs.PuttingBack.ProbeCalls.{not-refusing}
use Rattle.pr_probe_laws.proofs.Ending.ReasonStages.{passed-poll}
use Rattle.pr_probe_laws.specs.Reasons.{IsInterruptedPoll}
use Rattle.pr_probe_laws.proofs.Hiding.HiddenFacts.{Facts, facts, next-is, own-there, probe-at}
use Rattle.pr_probe_laws.proofs.Hiding.HiddenStages.{Hides}
use Rattle.pr_probe_laws.proofs.StepMarks.MarkCalls.{untouched-unstepped}
use Rattle.pr_probe_laws.specs.StepMarks.{IsUnstepped}
use Rattle.pr_probe_laws.specs.HiddenProbes.{IsHidingAfter, IsRunOfProbes, is_hiding}
use Rattle.pr_tool_laws.specs.Leaving.{SendsTo}
use Rattle.pr_probe_laws.proofs.Hiding.HiddenWork.{hiding-goes, still-accepted}
use Rattle.pr_probe_laws.proofs.Hiding.HiddenOnes.{IsUnseenRun, IsOne, IsBare, IsHiddenBy, Kept, alone-hides}
use Rattle.pr_probe_laws.proofs.Hiding.HiddenEntries.{legal_here, Steps, tick-steps}
use Rattle.pr_probe_laws.proofs.Hiding.HiddenTurnSteps.{turn-steps}
use Rattle.pr_probe_laws.proofs.Hiding.HiddenOwnCalls.{next, right}
use Rattle.pr_probe_laws.proofs.Hiding.HiddenCallSteps.{call-steps}

-- Each apfiles is tidy.

module _ {n : ℕ} {who : Hiders} {controllers : List ControllerState} {first : TracedState} {h : List Entry}
    (run : IsUnseenRun n who controllers first h) where
  abbrev at : List Entry → Covers
  at front = covers_at who first front

  steps : (front : List Entry) (actor : Actor) (it : Act) (back : List Entry)
      → h ≡ front ++ record { actor = actor; act = it } ∷ back → Kept run front
      → Steps run front (record { actor = actor; act = it })
  unfolding IsLegalEntry
  steps front (Controller j) (act.Call c r) back place kept = call-steps run front j c r back place kept
  steps front (Lwp acting id) (act.Turn turned) back place kept = turn-steps run front acting id turned back place kept
  steps front Clock (act.Tick m) back place kept = tick-steps run front m back place kept
  steps front actor it back place kept = absurd (legal_here run front actor it back place kept)

  walk-tidy : (front rest : List Entry) → h ≡ front ++ rest → Kept run front
      → HoldsFrom (IsTidyEntry who) who (at front) (state_after first front) rest
  walk-tidy front [] place kept = tt
  walk-tidy front (e ∷ rest) place kept =
      let step = steps front e.actor e.act rest place kept in (
        step.tidy,
        subst (λ (s : TracedState). HoldsFrom (IsTidyEntry who) who (covers_after who (at front)
            (state_after first front) e) s rest)
            (state_after-push first front e)
            (subst (λ (c : Covers). HoldsFrom (IsTidyEntry who) who c (state_after first (front ++ e ∷ [])) rest)
            (covers-push who no_covers first front e)
            (walk-tidy (front ++ e ∷ []) rest (place ∙ sym (append_assoc front (e ∷ []) rest)) step.kept)),
      )

  walk-spares : (front rest : List Entry) → h ≡ front ++ rest → Kept run front
      → HoldsFrom (IsSparingEntry who) who (at front) (state_after first front) rest
  walk-spares front [] place kept = tt
  walk-spares front (e ∷ rest) place kept =
      let step = steps front e.actor e.act rest place kept in (
        step.spares,
        subst (λ (s : TracedState). HoldsFrom (IsSparingEntry who) who (covers_after who (at front)
            (state_after first front) e) s rest)
            (state_after-push first front e)
            (subst (λ (c : Covers). HoldsFrom (IsSparingEntry who) who c (state_after first (front ++ e ∷ [])) rest)
            (covers-push who no_covers first front e)
            (walk-spares (front ++ e ∷ []) rest (place ∙ sym (append_assoc front (e ∷ []) rest)) step.kept)),
      )

  begins : (pid k : ℕ) (p : ProbeState) → IsOne run pid [] k p → is_hiding p.stage ≡ false
  unfolding is_hiding first_probe
  begins pid k p one =
      let both : Some (Probe p) ≡ Some (Probe (first_probe pid)) = sym one.is ∙ one.starts in
      let is : p ≡ first_probe pid = cc in
      ap (λ (x : ProbeState). is_hiding x.stage) is

  at_first : Kept run []
  at_first = record {
    covering = λ pid. inl (record { patches = refl; agent = refl; nobody = λ k p one. begins pid k p one });
    faults = λ pid id. refl;
    unstepped = run.first_unstepped;
  }

  -- ---- a call of one that hides something: it is refused nothing, and its agent is gone before all is written back

  kept-after : (front more back : List Entry) → h ≡ front ++ (more ++ back) → Kept run front → Kept run (front ++ more)
  kept-after front [] back place kept = subst (Kept run) (sym (append-nil front)) kept
  kept-after front (e ∷ more) back place kept =
      let step = steps front e.actor e.act (more ++ back) place kept in
      subst (Kept run) (append_assoc front (e ∷ []) more)
      (kept-after (front ++ e ∷ []) more back (place ∙ sym (append_assoc front (e ∷ []) (more ++ back))) step.kept)

  module _ (k pid : ℕ) (hider : who.probes k ≡ true) (starts : slice_get controllers k ≡ Some (Probe (first_probe pid)))
      (front : List Entry) (c : calls.Call) (r : Reply) (back : List Entry)
      (place : h ≡ front ++ call_entry k c r ∷ back) (p : ProbeState)
      (its_way : IsHidingAfter k pid controllers first front p) where
    abbrev its_rest : List Entry
    its_rest = call_entry k c r ∷ back

    kept_here : Kept run front
    kept_here = kept-after [] front its_rest place at_first

    its_fact : Facts n who controllers first h run.reached run.of k pid starts front p
    its_fact =
        facts n who controllers first h run.reached run.of k pid starts front its_rest place p its_way.is

    its_one : IsOne run pid front k p
    its_one = record {
      hider = hider;
      starts = starts;
      is = its_way.is;
      accepted = still-accepted p its_fact.order its_way.hides;
    }

    its_hides : Hides pid (at front pid) (state_after first front).system p p.stage
    its_hides = by (kept_here.covering pid)
      where
        by : IsBare run pid front ⊎ IsHiddenBy run pid front
            → Hides pid (at front pid) (state_after first front).system p p.stage
        by (inl bare) = absurd (false≢true (sym (bare.nobody k p its_one) ∙ its_way.hides))
        by (inr b) =
            let same : k ≡ b.k = alone-hides run front its_rest place pid b k p its_one its_way.hides in
            let its_is : slice_get (controllers_at controllers front) k ≡ Some (Probe b.p) =
            subst (λ (i : ℕ). slice_get (controllers_at controllers front) i ≡ Some (Probe b.p)) (sym same)
            b.one.is in
            let both : Some (Probe b.p) ≡ Some (Probe p) = sym its_is ∙ its_way.is in
            let its_state : b.p ≡ p = cc in
            subst (λ (u : ProbeState). Hides pid (at front pid) (state_after first front).system u u.stage) its_state
            b.hides

    its_next : call_of p p.stage ≡ Some c
    unfolding next_call_of
    its_next = next run front k c r back place kept_here pid p its_one its_hides

    interrupted : (e : Errno) → r ≡ reply.Fail e → IsInterruptedPoll c e
    unfolding refusal_in
    interrupted e is =
        let accepts = right run front k c r back place kept_here pid p its_one its_hides in
        passed-poll p p.stage e c (hiding-goes p.stage its_way.hides)
        (not-refusing e (is_passed_over p.stage e) (ap (refusal_in p.stage) (sym is) ∙ accepts)) its_next

    agent-gone : p.stage ≡ stage.WriteStack → (q : TracedProcess)
        → live_process (state_after first front).system pid ≡ Some q → has_agent q ≡ false
    unfolding Hides
    agent-gone stage_is q live =
        let hides : Hides pid (at front pid) (state_after first front).system p stage.WriteStack =
        subst (Hides pid (at front pid) (state_after first front).system p) stage_is its_hides in
        ap (λ (o : Option TracedLwp). is_some o) (hides.1 q live).none

  apfiles-tidy : IsTidy who first h
  apfiles-tidy = walk-tidy [] h refl at_first

  apfiles-spares : IsSparing who first h
  apfiles-spares = walk-spares [] h refl at_first

-- Where all who hide nothing make passive calls alone, and each apfiles is left alone, each is tidy, and programs leave
-- alone what it wrote over.
module _ (n : ℕ) (who : Hiders) (controllers : List ControllerState) (s : TracedState) (h : List Entry)
    (reached : IsReached s) (run : IsRunOfProbes n who controllers s h) where
  passive_but : IsPassiveBut who h
  passive_but =
      others-enough n who controllers s h run.legal run.own_calls run.left_alone.probes run.left_alone.passive

  its-run : IsUnstepped s.system → IsUnseenRun n who controllers s h
  its-run unstepped = record {
    reached = reached;
    first_unstepped = unstepped;
    of = run;
    passive = passive_but;
  }

  pub alone-tidy : IsUnstepped s.system → IsTidy who s h
  alone-tidy unstepped =
      apfiles-tidy (its-run unstepped)

  pub alone-spares : IsUnstepped s.system → IsSparing who s h
  alone-spares unstepped =
      apfiles-spares (its-run unstepped)

  -- who hides something is refused nothing, but that a wait for its agent may be interrupted
  pub alone-accepted : IsUnstepped s.system → (k pid : ℕ) → who.probes k ≡ true
      → slice_get controllers k ≡ Some (Probe (first_probe pid)) → (front back : List Entry) (c : calls.Call)
      (e : Errno) (p : ProbeState) → h ≡ front ++ call_entry k c (reply.Fail e) ∷ back
      → IsHidingAfter k pid controllers s front p → IsInterruptedPoll c e
  alone-accepted unstepped k pid hider starts front back c e p place hides =
      interrupted (its-run unstepped) k pid
      hider starts front c (reply.Fail e) back place p hides e refl

  -- where it writes back what its agent was answered, that agent is gone
  pub alone-gone : IsUnstepped s.system → (k pid : ℕ) → who.probes k ≡ true
      → slice_get controllers k ≡ Some (Probe (first_probe pid)) → (front back : List Entry) (c : calls.Call)
      (r : Reply) (tail : List ℕ) → h ≡ front ++ call_entry k c r ∷ back
      → SendsTo k pid (message.Write stack_base stack_size) tail (state_after s front) c → (q : TracedProcess)
      → live_process (state_after s front).system pid ≡ Some q → has_agent q ≡ false
  unfolding next_call_of is_hiding
  alone-gone unstepped k pid hider starts front back c r tail place sent q live =
      let now = probe-at k controllers front (first_probe pid, starts) in
      let p : ProbeState = now.0 in
      let its_own =
      own-there controllers front (call_entry k c r) back (subst (AreOwnCalls controllers) place run.own_calls) in
      let made = next-is k (controllers_at controllers front) p c r now.1 its_own in
      let at_write : p.stage ≡ stage.WriteStack =
      writes-stack-at k pid (state_after s front) c tail sent p p.stage made in
      agent-gone (its-run unstepped) k pid hider
      starts front c r back place p (record { is = now.1; hides = ap is_hiding at_write }) at_write q live

  -- so programs see nothing of it
  pub alone-hidden : IsUntouched s.system → IsHidden who s h
  alone-hidden untouched =
      hidden-later n who s h reached.lawful untouched run.legal passive_but
      (alone-spares (untouched-unstepped s.system untouched)) (alone-tidy (untouched-unstepped s.system untouched))
