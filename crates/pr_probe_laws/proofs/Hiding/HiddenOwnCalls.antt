use Rattle.std.proofs.Common.{◌≡◌, ◌≢◌, ◌⊎◌, ◌∷◌, ◌++◌, ℕ, Bool, true, false, not, List, [], Option, Some, None, slice_get, refl, sym, subst, ap, ◌∙◌, inl, inr, arith}
use Rattle.std.proofs.lemmas.Bool.{cases_Bool, cases_eq, false≢true}
use Rattle.std.proofs.lemmas.List.{append_assoc}
use Rattle.std.proofs.lemmas.Option.{none-some, same_Some}
use Rattle.pr_api.specs.Entries.{call_entry}
use Rattle.pr_hidden.specs.Covers.{Covers}
use Rattle.pr_hidden.specs.Hiders.{Hiders, covers_after, covers_at, covers_called}
use Rattle.pr_model.specs.Calls.{Answer, answer_to}
use Rattle.pr_model.specs.Legal.{after, state_after}
use Rattle.pr_model.specs.Replies.{number_of}
use Rattle.pr_model.specs.State.{TracedProcess, TracedState, live_process}
use Rattle.pr_model.specs.declared.calls.Call as calls
use Rattle.pr_model.specs.declared.calls.Call.TheVariants as call
use Rattle.pr_model.specs.declared.calls.Reply.{Reply}
use Rattle.pr_model.specs.declared.events.Act.TheVariants as act
use Rattle.pr_model.specs.declared.events.Actor.TheVariants.{Controller}
use Rattle.pr_model.specs.declared.events.Entry.{Entry}
use Rattle.pr_num.specs.Messages.{spelling}
use Rattle.pr_num.specs.declared.errnos.Errno.{Errno}
use Rattle.pr_num.specs.declared.messages.Message.TheVariants as message
use Rattle.pr_probe.proofs.FedLemmas.{fed-back, refusal-counts}
use Rattle.pr_probe.specs.ProbeStages.{file_of, is_passed_over, place_of, stage_after}
use Rattle.pr_probe.specs.Probes.{ProbeState, accepted, advanced, answered, at_stage, call_of, fed, first_probe, next_call_of, refusal_in, with_next}
use Rattle.pr_probe.specs.declared.probe_stages.ProbeFile.TheVariants.{Control, AgentControl}
use Rattle.pr_probe.specs.declared.probe_stages.ProbeStage.{ProbeStage}
use Rattle.pr_probe.specs.declared.probe_stages.ProbeStage.TheVariants as stage
use Rattle.pr_world.specs.ControllerStates.{ControllerState, Probe}
use Rattle.pr_world.specs.Protocol.{controllers_at}
use Rattle.pr_probe_laws.proofs.Granted.AcceptedCalls.{takes}
use Rattle.pr_probe_laws.proofs.Hiding.HiddenCalls.{IsBareAfter, makes, step-hides}
use Rattle.pr_probe_laws.proofs.Hiding.HiddenCovers.{AreAlike, alike-self}
use Rattle.pr_probe_laws.proofs.Agents.AgentTurns.{asks}
use Rattle.pr_probe_laws.proofs.Hiding.HiddenPlain.{ComesToHide, IsInOrder, comes-to-hide, is_special, order-fed}
use Rattle.pr_probe_laws.proofs.Sets.SetCalls.{control-stands, sent-by, taken}
use Rattle.pr_probe_laws.proofs.Hiding.HiddenMessages.{agent-used}
use Rattle.pr_probe_laws.proofs.OneState.TextMessages.{agent-read}
use Rattle.pr_probe_laws.proofs.Hiding.HiddenFacts.{Facts, next-is, own-feeds, reached-at}
use Rattle.pr_probe_laws.proofs.Hiding.HiddenStages.{Hides}
use Rattle.pr_probe_laws.proofs.Files.FilePlaces.{held_of}
use Rattle.pr_probe_laws.proofs.Sets.SetStages.{AllBack, IsFair, Knows, Works, began-still, fair-front}
use Rattle.pr_probe_laws.proofs.OneState.TextStages.{Comes, Reads, TracesWith}
use Rattle.pr_probe_laws.specs.ShownDescriptors.{WasUnlent}
use Rattle.pr_probe_laws.specs.HiddenProbes.{IsAsSeen, MakesAgent, StandsSaved, is_hiding}
use Rattle.pr_tool_laws.specs.Leaving.{SendsTo}
use Rattle.pr_probe_laws.proofs.Hiding.HiddenWork.{hides-hiding, still-accepted, refused-plain, special-hides}
use Rattle.pr_probe_laws.proofs.Hiding.HiddenOnes.{IsUnseenRun, IsOne, IsBare, IsHiddenBy, Kept, way, its, fact, lives, ask, alone-hides}
use Rattle.pr_probe_laws.proofs.Hiding.HiddenEntries.{own_here, lawful, place_longer, at-longer, controllers-longer, one-before, moved-on, stays-hidden}
use Rattle.pr_probe_laws.proofs.Hiding.HiddenCallers as Calls

-- What a call of an apfiles leaves hidden of its own process: where nothing was hidden its agent may be made; and where
-- it hid something it is refused nothing. So of each process, whoever made the call.

first-pid : (a b : ℕ) → first_probe a ≡ first_probe b → a ≡ b
unfolding first_probe
first-pid a b same = ap (λ (p : ProbeState). p.pid) same

module _ {n : ℕ} {who : Hiders} {controllers : List ControllerState} {first : TracedState} {h : List Entry}
    (run : IsUnseenRun n who controllers first h)
    (front : List Entry) (j : ℕ) (c : calls.Call) (r : Reply) (back : List Entry)
    (place : h ≡ front ++ call_entry j c r ∷ back) (kept : Kept run front) where
  abbrev none : (k : ℕ) → who.functions k ≡ []
  none = run.of.left_alone.probes.no_functions

  abbrev at : List Entry → Covers
  at front = covers_at who first front

  abbrev v : TracedState
  v = state_after first front

  abbrev called_entry : Entry
  called_entry = call_entry j c r

  abbrev a : Answer
  a = Calls.a run front j c r back place kept

  given : answer_to v j c ≡ Some a
  given = Calls.given run front j c r back place kept

  abbrev called : Covers
  called = covers_called who (at front) v j c r

  called-new : covers_after who (at front) v called_entry ≡ called
  called-new = Calls.called-new run front j c r back place kept

  called-state : after v called_entry ≡ a.state
  called-state = Calls.called-state run front j c r back place kept

  abbrev IsCaller : ℕ → ProbeState → Type 0
  IsCaller = Calls.IsCaller run front j c r back place kept

  abbrev Later : ℕ → Type 0
  Later = Calls.Later run front j c r back place kept

  -- what it has saved stands there when its agent is made
  saved-there : (pid : ℕ) (p : ProbeState) → IsCaller pid p → p.refusal ≡ None → p.stage ≡ stage.MakeAgent
      → (u : ProbeState) → fed p r ≡ u → is_hiding u.stage ≡ true
      → MakesAgent j pid controllers first front called_entry → (q : TracedProcess)
      → live_process v.system pid ≡ Some q → StandsSaved p q.space
  unfolding Reads
  saved-there pid p it accepted is u fed_is hides makes_it q live =
      by ((run.of.left_alone.alone j pid it.hider it.starts).as_seen front back called_entry p place makes_it it.is q
      live)
    where
      known : Comes j pid first front v p 4 (TracesWith j pid first front p AllBack)
      known = subst (λ (g : ProbeStage). Reads j pid first front v p g) is (it.fact.reads accepted)

      place_on : h ≡ (front ++ called_entry ∷ []) ++ back
      place_on = place_longer run front (Controller j) (act.Call c r) back place kept

      fair : IsFair j pid first front known.began
      fair =
          fair-front j pid first front called_entry known.began
          (record {
            sole =
                (run.of.left_alone.alone j pid it.hider it.starts).sole (front ++ called_entry ∷ []) back u place_on
                (record { is = it.later ∙ ap (λ (x : ProbeState). Some (Probe x)) fed_is; hides = hides })
                (began-still j pid first front called_entry known.began).before
                (began-still j pid first front called_entry known.began).later
                (began-still j pid first front called_entry known.began).opened
                (began-still j pid first front called_entry known.began).place;
            ranged = λ f rest split.
                (reached-at n who controllers first h run.reached run.of f (rest ++ back)
                (place_on ∙ ap (λ (es : List Entry). es ++ back) split ∙ append_assoc f rest back)).in_range;
          })

      by : WasUnlent j pid first front ⊎ IsAsSeen p q → StandsSaved p q.space
      by (inl unlent) = ((known.so fair).1 unlent q live).saved
      by (inr seen) = seen.saved

  -- its agent is made
  making : (pid : ℕ) (p : ProbeState) → IsCaller pid p → IsBare run pid front → p.refusal ≡ None
      → p.stage ≡ stage.MakeAgent → refusal_in stage.MakeAgent r ≡ None
      → IsHiddenBy run pid (front ++ called_entry ∷ [])
  unfolding fed accepted advanced with_next stage_after next_call_of call_of Knows Hides is_passed_over place_of
      file_of is_hiding
  making pid p it bare accepted_so is granted =
      let at_make : call_of p stage.MakeAgent ≡ Some c =
      ap (call_of p) (sym is) ∙ it.next in
      let known : Works j pid first front v p 4 =
      subst (λ (g : ProbeStage). Knows j pid first front v p g) is (it.fact.knows accepted_so) in
      let file = known.holds.each Control (omega arith) in
      let sends : SendsTo j pid (message.Agent (asks 0)) [] v c = record {
        handle = file.number;
        held = held_of j pid Control;
        sends =
            sym (same_Some _ c at_make)
            ∙ ap (λ (o : Option ℕ). call.Ctl (number_of o) (spelling (message.Agent (asks 0)) [])) file.at;
        there = file.stands;
        of = refl;
        file = refl;
      } in
      let accepts = taken j pid first front c a
      (lawful run front (Controller j) (act.Call c r) back place kept) given stage.MakeAgent (λ e. refl) granted in
      let its_lawful = lawful run front (Controller j) (act.Call c r) back place kept in
      let got =
      agent-used v j _ pid a
      (control-stands j pid first front c a its_lawful given p 4 (omega arith) known.holds) accepts
      (spelling (message.Agent (asks 0)) []) (asks 0) agent-read
      (sent-by j pid first front c a its_lawful given p 4 (omega arith) known.holds
      (spelling (message.Agent (asks 0)) []) at_make) in
      let u : ProbeState = at_stage p (stage.Open AgentControl) in
      let fed_is : fed p r ≡ u =
      ap (answered p r) (ap (λ (g : ProbeStage). refusal_in g r) is ∙ granted)
      ∙ ap (λ (g : ProbeStage). accepted p r g) is
      ∙ ap (λ (g : ProbeStage). with_next p (stage_after g)) is in
      let hides : Hides pid (called pid) a.state.system u u.stage =
      makes who none j it.hider pid first front c a (lawful run front (Controller j) (act.Call c r) back place kept)
      given (at front) p u refl refl known.holds at_make
      accepts bare.patches
      (λ q live.
      saved-there pid p it accepted_so is u fed_is refl
      (record {
        call = c;
        used = got.0;
        is = ap (λ (x : Reply). call_entry j c x) got.1;
        sends = sends;
      }) q live) in
      moved-on run front (Controller j) (act.Call c r) back place kept pid j u
      (record {
        hider = it.hider;
        starts = it.starts;
        is = it.later ∙ ap (λ (x : ProbeState). Some (Probe x)) fed_is;
        accepted = accepted_so;
      })
      (subst (λ (x : TracedState). Hides pid (covers_after who (at front) v called_entry pid) x.system u u.stage)
      (sym called-state)
      (subst (λ (x : Covers). Hides pid (x pid) a.state.system u u.stage) (sym called-new) hides))

  own-bare : (pid : ℕ) (p : ProbeState) → IsCaller pid p → IsBare run pid front → Later pid
  unfolding covers_called is_special
  own-bare pid p it bare = by p.refusal refl (is_special p.stage) refl
    where
      one : p.refusal ≡ None → IsOne run pid front j p
      one accepted = record { hider = it.hider; starts = it.starts; is = it.is; accepted = accepted }

      -- it comes to hide something only where its agent is granted
      comes : p.refusal ≡ None → (fed p r).refusal ≡ None → is_hiding (fed p r).stage ≡ true → ComesToHide p.stage r
      comes accepted later hides = comes-to-hide p r (bare.nobody j p (one accepted)) later hides

      denied : (e : Errno) → p.stage ≡ stage.MakeAgent → refusal_in stage.MakeAgent r ≡ Some e → p.refusal ≡ None
          → Later pid
      denied e is refuses accepted =
          inl (Calls.bare-later run front j c r back place kept pid bare
          (Calls.bare-alike run front j c r back place kept pid bare
          (λ number sent call_is.
          subst (λ (q : Reply).
          AreAlike (at front pid) (covers_called who (at front) v j (call.Ctl number sent) q pid))
          (sym (refusal-counts stage.MakeAgent r e refuses).reply) (alike-self (at front pid))))
          (Calls.nobody-by run front j c r back place kept pid p it bare
          (λ later hides. none-some e (sym (comes accepted later hides).granted ∙ refuses))))

      makes-it : p.refusal ≡ None → p.stage ≡ stage.MakeAgent → (o : Option Errno)
          → refusal_in stage.MakeAgent r ≡ o → Later pid
      makes-it accepted is None granted = inr (making pid p it bare accepted is granted)
      makes-it accepted is (Some e) refuses = denied e is refuses accepted

      special : p.refusal ≡ None → (p.stage ≡ stage.MakeAgent) ⊎ (is_hiding p.stage ≡ true) → Later pid
      special accepted (inl is) = makes-it accepted is (refusal_in stage.MakeAgent r) refl
      special accepted (inr hides) = absurd (false≢true (sym (bare.nobody j p (one accepted)) ∙ hides))

      by : (o : Option Errno) → p.refusal ≡ o → (b : Bool) → is_special p.stage ≡ b → Later pid
      by (Some e) refused b is =
          inl (Calls.bare-later run front j c r back place kept pid bare
          (Calls.plain-alike run front j c r back place kept pid pid p it
          (refused-plain p it.fact.order e refused) bare)
          (Calls.nobody-by run front j c r back place kept pid p it bare
          (λ later hides. none-some e (sym (fed-back p r later) ∙ refused))))
      by None accepted false plain =
          inl (Calls.bare-later run front j c r back place kept pid bare
          (Calls.plain-alike run front j c r back place kept pid pid p it plain bare)
          (Calls.nobody-by run front j c r back place kept pid p it bare
          (λ later hides.
          false≢true (sym plain ∙ ap is_special (comes accepted later hides).makes ∙ make-special))))
        where
          make-special : is_special stage.MakeAgent ≡ true
          make-special = refl
      by None accepted true is = special accepted (special-hides p.stage is)

  next-bare : (pid : ℕ) → IsBare run pid front → Later pid
  next-bare pid bare = by (who.probes j) refl
    where
      other-bare : (mine : ℕ) (p : ProbeState) → IsCaller mine p → pid ≢ mine → Later pid
      other-bare mine p it apart =
          inl (Calls.bare-later run front j c r back place kept pid bare
          (Calls.caller-alike run front j c r back place kept pid mine p it apart bare)
          (λ k q one. of k q one (cases_eq j k)))
        where
          of : (k : ℕ) (q : ProbeState) → IsOne run pid (front ++ called_entry ∷ []) k q → (j ≡ k) ⊎ (j ≢ k)
              → is_hiding q.stage ≡ false
          of k q one (inr differs) = Calls.not-caller run front j c r back place kept pid bare k q differs one
          of k q one (inl same) =
              let starts : slice_get controllers j ≡ Some (Probe (first_probe pid)) =
              subst (λ (i : ℕ). slice_get controllers i ≡ Some (Probe (first_probe pid))) (sym same) one.starts in
              let both : Some (Probe (first_probe pid)) ≡ Some (Probe (first_probe mine)) = sym starts ∙ it.starts in
              let probes : first_probe pid ≡ first_probe mine = cc in
              absurd (apart (first-pid pid mine probes))

      calls-so : (pid_p : (mine : ℕ) × ((p : ProbeState) × IsCaller mine p)) → Later pid
      calls-so it = of (cases_eq pid it.0)
        where
          of : (pid ≡ it.0) ⊎ (pid ≢ it.0) → Later pid
          of (inl same) =
              own-bare pid it.1.0 (subst (λ (m : ℕ). IsCaller m it.1.0) (sym same) it.1.1) bare
          of (inr apart) = other-bare it.0 it.1.0 it.1.1 apart

      by : (b : Bool) → who.probes j ≡ b → Later pid
      by false other = inl (Calls.others-bare run front j c r back place kept pid bare other)
      by true hider = calls-so (Calls.caller run front j c r back place kept hider)

  -- ---- a call of the one that hides something

  module _ (pid : ℕ) (p : ProbeState) (one : IsOne run pid front j p)
      (hides_it : Hides pid (at front pid) v.system p p.stage) where
    abbrev mine : IsHiddenBy run pid front
    mine = record { k = j; p = p; one = one; hides = hides_it }

    pub next : next_call_of p ≡ Some c
    next =
        next-is j (controllers_at controllers front) p c r one.is
        (own_here run front (Controller j) (act.Call c r) back place kept)

    known : Facts n who controllers first h run.reached run.of j pid one.starts front p
    known = fact run front (called_entry ∷ back) place pid mine

    -- it is refused nothing
    pub right : refusal_in p.stage r ≡ None
    unfolding next_call_of
    right =
        let l = lives run front (called_entry ∷ back) place pid mine in
        takes j pid first front c a (lawful run front (Controller j) (act.Call c r) back place kept) given (at front)
        (ask run front (called_entry ∷ back) place pid mine) l.process l.lives
        ((its run front (called_entry ∷ back) place pid mine).handles front back c r p place
        (way run front (called_entry ∷ back) place pid mine)) p p.stage (known.knows one.accepted)
        (known.reads one.accepted) hides_it next

    now-fed : fed p r ≡ accepted p r p.stage
    unfolding fed
    now-fed = ap (answered p r) right

    later-one : slice_get (controllers_at controllers (front ++ called_entry ∷ [])) j ≡ Some (Probe (fed p r))
    later-one =
        ap (λ (cs : List ControllerState). slice_get cs j)
        (controllers-longer run front (Controller j) (act.Call c r) back place kept)
        ∙ own-feeds j (controllers_at controllers front) p c r one.is

    step : Hides pid (called pid) a.state.system (accepted p r p.stage) (accepted p r p.stage).stage
        ⊎ IsBareAfter who none j one.hider pid first front c a
        (lawful run front (Controller j) (act.Call c r) back place kept) given (at front) (accepted p r p.stage)
    unfolding next_call_of
    step =
        let l = lives run front (called_entry ∷ back) place pid mine in
        step-hides who none j one.hider pid first front c a
        (lawful run front (Controller j) (act.Call c r) back place kept) given (at front)
        (ask run front (called_entry ∷ back) place pid mine) l.process l.lives p p.stage (known.knows one.accepted)
        (known.reads one.accepted) hides_it next right

    own-later : Later pid
    own-later = by step
      where
        by : Hides pid (called pid) a.state.system (accepted p r p.stage) (accepted p r p.stage).stage
            ⊎ IsBareAfter who none j one.hider pid first front c a
            (lawful run front (Controller j) (act.Call c r) back place kept) given (at front) (accepted p r p.stage)
            → Later pid
        by (inl hides) =
            let u : ProbeState = accepted p r p.stage in
            let on = hides-hiding pid (called pid) a.state.system u u.stage hides in
            let order : IsInOrder u = subst IsInOrder now-fed (order-fed p r known.order) in
            inr (moved-on run front (Controller j) (act.Call c r) back place kept pid j u
            (record {
              hider = one.hider;
              starts = one.starts;
              is = later-one ∙ ap (λ (x : ProbeState). Some (Probe x)) now-fed;
              accepted = still-accepted u order on;
            })
            (subst (λ (x : TracedState).
            Hides pid (covers_after who (at front) v called_entry pid) x.system u u.stage)
            (sym called-state)
            (subst (λ (x : Covers). Hides pid (x pid) a.state.system u u.stage) (sym called-new) hides)))
        by (inr bare) =
            inl (record {
              patches =
                  ap (λ (x : Covers). (x pid).patches)
                  (at-longer run front (Controller j) (act.Call c r) back place kept ∙ called-new) ∙ bare.patches;
              agent =
                  ap (λ (x : Covers). (x pid).agent)
                  (at-longer run front (Controller j) (act.Call c r) back place kept ∙ called-new) ∙ bare.agent;
              nobody = λ k q other. of k q other (cases_eq j k);
            })
          where
            of : (k : ℕ) (q : ProbeState) → IsOne run pid (front ++ called_entry ∷ []) k q → (j ≡ k) ⊎ (j ≢ k)
                → is_hiding q.stage ≡ false
            of k q other (inl same) =
                let is : slice_get (controllers_at controllers (front ++ called_entry ∷ [])) j ≡ Some (Probe q) =
                subst (λ (i : ℕ).
                slice_get (controllers_at controllers (front ++ called_entry ∷ [])) i ≡ Some (Probe q)) (sym same)
                other.is in
                let both : Some (Probe q) ≡ Some (Probe (fed p r)) = sym is ∙ later-one in
                let its_state : q ≡ fed p r = cc in
                ap (λ (x : ProbeState). is_hiding x.stage) (its_state ∙ now-fed) ∙ bare.past
            of k q other (inr apart) =
                let before = one-before run front (Controller j) (act.Call c r) back place kept pid k q apart other in
                elim (cases_Bool (is_hiding q.stage)) [
                  | inl hides ↦
                      absurd (apart (sym (alone-hides run front (called_entry ∷ back) place pid mine k q before hides)))
                  | inr not ↦ not
                ]

  next-hidden : (pid : ℕ) → IsHiddenBy run pid front → Later pid
  next-hidden pid b = by (cases_eq j b.k)
    where
      by : (j ≡ b.k) ⊎ (j ≢ b.k) → Later pid
      by (inl same) =
          own-later pid b.p (subst (λ (k : ℕ). IsOne run pid front k b.p) (sym same) b.one) b.hides
      by (inr apart) =
          inr (stays-hidden run front (Controller j) (act.Call c r) back place kept pid b apart
          (Calls.new-alike run front j c r back place kept pid
          (Calls.apart-alike run front j c r back place kept pid b apart)) (λ hidden same. cc))

  pub next-covering : (pid : ℕ) → Later pid
  next-covering pid = by (kept.covering pid)
    where
      by : IsBare run pid front ⊎ IsHiddenBy run pid front → Later pid
      by (inl bare) = next-bare pid bare
      by (inr b) = next-hidden pid b
