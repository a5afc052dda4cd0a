use Rattle.std.proofs.Common.{◌≡◌, ◌≢◌, ◌==◌, ◌⊎◌, ◌∷◌, ◌++◌, ◌&&◌, ◌||◌, ℕ, Bool, true, false, List, [], Option, Some, None, Ok, All, slice_get, refl, sym, subst, ap, ◌∙◌, inl, inr}
use Rattle.std.proofs.lemmas.Bool.{and_parts, cases_eq, eqb-true, false≢true}
use Rattle.std.proofs.lemmas.List.Elements.{All-cons, All-nil}
use Rattle.std.proofs.lemmas.Option.{same_Some}
use Rattle.std.specs.Bool.{IsTrue}
use Rattle.pr_api.specs.Entries.{call_entry}
use Rattle.pr_hidden.specs.Covers.{Cover, Covers}
use Rattle.pr_hidden.specs.Hiders.{Hiders, covers_after, covers_at, covers_called, hides, is_ctl}
use Rattle.pr_hidden.specs.Tidiness.{IsClear, IsClearLwp, IsTidyCall, IsTidyClose, IsTidyMessage, MayKill, is_hider_act, is_hider_message}
use Rattle.pr_lawful.proofs.LawfulTurns.EndLemmas.{found-live}
use Rattle.pr_model.specs.Calls.{Answer, answer_to, kill_answer}
use Rattle.pr_model.specs.ControlMessages.{aim_of, tail_of, target_of}
use Rattle.pr_model.specs.Handles.{handle_of, is_control}
use Rattle.pr_model.specs.Legal.{after, state_after}
use Rattle.pr_model.specs.Passive.{is_passive_act, is_passive_message}
use Rattle.pr_model.specs.Readers.{life_of}
use Rattle.pr_model.specs.Machines.{traced}
use Rattle.pr_model.specs.SignalCalls.{Sending, sending, sends, with_sent}
use Rattle.pr_model.specs.Signals.{generated, is_kill}
use Rattle.pr_model.specs.State.{TracedLwp, TracedProcess, TracedState, live_process}
use Rattle.pr_model.specs.declared.calls.Call as calls
use Rattle.pr_model.specs.declared.calls.Call.TheVariants as call
use Rattle.pr_model.specs.declared.calls.Reply.{Reply}
use Rattle.pr_model.specs.declared.calls.Reply.TheVariants as reply
use Rattle.pr_model.specs.declared.events.Act.TheVariants as act
use Rattle.pr_model.specs.declared.events.Actor.TheVariants.{Controller}
use Rattle.pr_model.specs.declared.events.Entry.{Entry}
use Rattle.pr_model.specs.declared.handles.Held.{Held}
use Rattle.pr_num.proofs.ByIdLaws.{All-under}
use Rattle.pr_num.specs.Control.{stop_again}
use Rattle.pr_num.specs.Infos.{killed_by}
use Rattle.pr_num.specs.Messages.{first_message}
use Rattle.pr_num.specs.Spaces.{IsSpace}
use Rattle.pr_num.specs.declared.errnos.Errno.{Errno}
use Rattle.pr_num.specs.declared.signals.Sig.{Sig}
use Rattle.pr_num.specs.declared.messages.Message.{Message}
use Rattle.pr_num.specs.declared.messages.Message.TheVariants as message
use Rattle.pr_probe.specs.Probes.{ProbeState, asking_call, call_of, next_call_of}
use Rattle.pr_probe.specs.declared.probe_stages.AskingStep.TheVariants.{SetRegisters, Run as RunAgent, Await, ReadAgent, ReadKind}
use Rattle.pr_probe.specs.declared.probe_stages.ProbeStage.{ProbeStage}
use Rattle.pr_probe.specs.declared.probe_stages.ProbeStage.TheVariants as stage
use Rattle.pr_reached.specs.InRange.{IsProcessInRange}
use Rattle.pr_world.specs.ControllerStates.{ControllerState, Probe}
use Rattle.pr_world.specs.Protocol.{controllers_at}
use Rattle.pr_probe_laws.proofs.Hiding.HiddenCalls.{special-tidy}
use Rattle.pr_probe_laws.proofs.Hiding.HiddenCovers.{HaveNoFaults, called-faults, is_plain, plain-tidy, tidy-called}
use Rattle.pr_probe_laws.proofs.Agents.DeathLemmas.{dead-none, generated-dead}
use Rattle.pr_probe_laws.proofs.Hiding.HiddenPassive.{All-there}
use Rattle.pr_probe_laws.proofs.Hiding.HiddenPlain.{is_special}
use Rattle.pr_probe_laws.proofs.Hiding.HiddenStages.{Hides, small-at}
use Rattle.pr_probe_laws.proofs.StepMarks.MarkCalls.{called-unstepped}
use Rattle.pr_probe_laws.specs.StepMarks.{IsUnstepped}
use Rattle.pr_probe_laws.specs.HiddenProbes.{is_hiding}
use Rattle.pr_probe_laws.proofs.Hiding.HiddenWork.{hides-hiding, refused-plain, special-hides, ctl-control}
use Rattle.pr_probe_laws.proofs.Hiding.HiddenOnes.{IsUnseenRun, IsOne, IsBare, IsHiddenBy, Kept, here, lives, ask, alone-hides, others-apart, may-end}
use Rattle.pr_probe_laws.proofs.Hiding.HiddenEntries.{lawful, at-longer, state-longer, not-gone, Steps}
use Rattle.pr_probe_laws.proofs.Hiding.HiddenOwnCalls.{next-covering}
use Rattle.pr_probe_laws.proofs.Hiding.HiddenCallers as Calls

-- Each call is tidy, and what is hidden after it is so.

-- a process that a controller kills does not live then
kill-gone : (s : TracedState) (j pid number : ℕ) (a : Answer) (g : Sig)
    → answer_to s j (call.Kill pid number) ≡ Some a → sending pid number (life_of s.system pid) ≡ sends g
    → is_kill g ≡ true → live_process a.state.system pid ≡ None
unfolding answer_to kill_answer with_sent
kill-gone s j pid number a g given sending_is deadly =
    ap (λ (x : Answer). live_process x.state.system pid) (sym (same_Some _ a given))
    ∙ ap (λ (x : Sending). live_process (with_sent traced pid (killed_by 0) x s.system) pid) sending_is
    ∙ dead-none pid (generated traced pid None g (killed_by 0) s.system)
    (generated-dead pid None g (killed_by 0) s.system deadly)

-- which calls come while something is hidden
is_hiding_call : calls.Call → Bool
is_hiding_call (call.Open pid id file mode) = true
is_hiding_call (call.Ctl number bytes) = true
is_hiding_call (call.Read number offset size) = true
is_hiding_call (call.Poll numbers) = true
is_hiding_call _ = false

hiding-calls : (p : ProbeState) (g : ProbeStage) (c : calls.Call) → is_hiding g ≡ true → call_of p g ≡ Some c
    → is_hiding_call c ≡ true
unfolding is_hiding call_of asking_call is_hiding_call
hiding-calls p (stage.Open f) c hides is = sym (ap is_hiding_call (same_Some _ c is))
hiding-calls p stage.PlantCode c hides is = sym (ap is_hiding_call (same_Some _ c is))
hiding-calls p (stage.Asking d SetRegisters) c hides is = sym (ap is_hiding_call (same_Some _ c is))
hiding-calls p (stage.Asking d RunAgent) c hides is = sym (ap is_hiding_call (same_Some _ c is))
hiding-calls p (stage.Asking d Await) c hides is = sym (ap is_hiding_call (same_Some _ c is))
hiding-calls p (stage.Asking d ReadAgent) c hides is = sym (ap is_hiding_call (same_Some _ c is))
hiding-calls p (stage.Asking d ReadKind) c hides is = sym (ap is_hiding_call (same_Some _ c is))
hiding-calls p stage.UntraceExits c hides is = sym (ap is_hiding_call (same_Some _ c is))
hiding-calls p stage.SetExit c hides is = sym (ap is_hiding_call (same_Some _ c is))
hiding-calls p stage.RunExit c hides is = sym (ap is_hiding_call (same_Some _ c is))
hiding-calls p stage.AwaitExit c hides is = sym (ap is_hiding_call (same_Some _ c is))
hiding-calls p stage.WriteCode c hides is = sym (ap is_hiding_call (same_Some _ c is))
hiding-calls p stage.WriteStack c hides is = sym (ap is_hiding_call (same_Some _ c is))
hiding-calls p _ c hides is = absurd (false≢true hides)

-- no close, and nobody is killed
no-close : (p : ProbeState) (g : ProbeStage) (number : ℕ) → is_hiding g ≡ true
    → call_of p g ≡ Some (call.Close number) → ⊥
unfolding is_hiding_call
no-close p g number hides is = false≢true (hiding-calls p g (call.Close number) hides is)

no-kill : (p : ProbeState) (g : ProbeStage) (pid number : ℕ) → is_hiding g ≡ true
    → call_of p g ≡ Some (call.Kill pid number) → ⊥
unfolding is_hiding_call
no-kill p g pid number hides is = false≢true (hiding-calls p g (call.Kill pid number) hides is)

-- a message that is passive is plain
passive-plain : (m : Message) → is_passive_message m ≡ true → is_plain m ≡ true
unfolding is_passive_message
passive-plain (message.Write at size) is = absurd (false≢true is)
passive-plain (message.Agent regs) is = absurd (false≢true is)
passive-plain (message.Sreg regs) is = absurd (false≢true is)
passive-plain message.Cfault is = absurd (false≢true is)
passive-plain (message.Run flags) is = by (flags == 0) refl (flags == stop_again) refl
  where
    steps : (n : ℕ) → flags ≡ n → is_plain (message.Run n) ≡ true → is_plain (message.Run flags) ≡ true
    steps n same plain = ap (λ (x : ℕ). is_plain (message.Run x)) same ∙ plain

    by : (b : Bool) → (flags == 0) ≡ b → (d : Bool) → (flags == stop_again) ≡ d → is_plain (message.Run flags) ≡ true
    by true zero d other = steps 0 (eqb-true flags 0 zero) refl
    by false none true again = steps stop_again (eqb-true flags stop_again again) refl
    by false none false other = absurd (false≢true (sym (rw (none, other) refl) ∙ is))
passive-plain _ is = refl

all-clear : (c : Cover) → ((id : ℕ) → c.faulted id ≡ false) → (ls : List (ℕ × TracedLwp)) → All (IsClearLwp c) ls
all-clear c clean [] = All-nil (IsClearLwp c)
all-clear c clean (e ∷ ls) = All-cons (IsClearLwp c) e ls (λ f address at. clean e.0) (all-clear c clean ls)

module _ {n : ℕ} {who : Hiders} {controllers : List ControllerState} {first : TracedState} {h : List Entry}
    (run : IsUnseenRun n who controllers first h)
    (front : List Entry) (j : ℕ) (c : calls.Call) (r : Reply) (back : List Entry)
    (place : h ≡ front ++ call_entry j c r ∷ back) (kept : Kept run front) where
  abbrev none : (k : ℕ) → who.functions k ≡ []
  none = run.of.left_alone.probes.no_functions

  abbrev at : List Entry → Covers
  at front = covers_at who first front

  abbrev v : TracedState
  v = state_after first front

  abbrev called_entry : Entry
  called_entry = call_entry j c r

  abbrev a : Answer
  a = Calls.a run front j c r back place kept

  given : answer_to v j c ≡ Some a
  given = Calls.given run front j c r back place kept

  abbrev called : Covers
  called = covers_called who (at front) v j c r

  called-new : covers_after who (at front) v called_entry ≡ called
  called-new = Calls.called-new run front j c r back place kept

  called-state : after v called_entry ≡ a.state
  called-state = Calls.called-state run front j c r back place kept

  abbrev IsCaller : ℕ → ProbeState → Type 0
  IsCaller = Calls.IsCaller run front j c r back place kept

  -- the call is passive, or that of one that hides
  allowed : IsTrue (is_passive_act (act.Call c r) || is_hider_act who (Controller j) (act.Call c r))
  allowed =
      All-there (λ (x : Entry). IsTrue (is_passive_act x.act || is_hider_act who x.actor x.act)) front called_entry back
      (subst (λ (es : List Entry).
      All (λ (x : Entry). IsTrue (is_passive_act x.act || is_hider_act who x.actor x.act)) es) place run.passive)

  -- ---- the call is tidy

  its-spaces : (pid : ℕ) (q : TracedProcess) → live_process v.system pid ≡ Some q → IsSpace q.space
  its-spaces pid q live =
      let ranged =
      All-under (λ (d : ℕ × TracedProcess). IsProcessInRange d.1) pid q v.system.processes
      (here run front (called_entry ∷ back) place).in_range.processes (found-live v.system pid q live).0 in
      ranged.space.is_space

  module _ (number : ℕ) (sent : List ℕ) (call_is : c ≡ call.Ctl number sent) (used : ℕ)
      (used_is : r ≡ reply.Used used)
      (held : Held) (q : TracedProcess) (m : Message) (len : ℕ) (there : handle_of v.opens j number ≡ Some held)
      (target : target_of v.system held ≡ Some q) (read : first_message sent ≡ Ok (m, len)) where
    abbrev IsTidySentMessage : Type 0
    IsTidySentMessage =
        IsTidyMessage who j (at front) v.system held.pid q (aim_of held) m (tail_of m sent)

    by-plain : is_plain m ≡ true → IsTidySentMessage
    by-plain plain = plain-tidy who none j (at front) v.system held.pid q m (tail_of m sent) plain (aim_of held)

    -- who is no apfiles sends passive messages alone
    other-plain : who.probes j ≡ false → is_plain m ≡ true
    other-plain other =
        let here_is : IsTrue (is_passive_message m || is_hider_message who j m) =
        rw (call_is, used_is, read) at allowed in
        passive-plain m (only (is_passive_message m) (is_hider_message who j m) hides_none here_is)
      where
        hides_none : is_hider_message who j m ≡ false
        hides_none = rw (none j, other) refl

        only : (b d : Bool) → d ≡ false → IsTrue (b || d) → b ≡ true
        only true d is it = refl
        only false true is it = absurd (false≢true (sym is))
        only false false is it = absurd (false≢true it)

    special-so : (mine : ℕ) (p : ProbeState) → IsCaller mine p → p.refusal ≡ None → is_special p.stage ≡ true
        → (p.stage ≡ stage.MakeAgent) ⊎ Hides mine (at front mine) v.system p p.stage
    special-so mine p it accepted special = by (special-hides p.stage special) (kept.covering mine)
      where
        one : IsOne run mine front j p
        one = record { hider = it.hider; starts = it.starts; is = it.is; accepted = accepted }

        by : (p.stage ≡ stage.MakeAgent) ⊎ (is_hiding p.stage ≡ true)
            → IsBare run mine front ⊎ IsHiddenBy run mine front
            → (p.stage ≡ stage.MakeAgent) ⊎ Hides mine (at front mine) v.system p p.stage
        by (inl make) covering = inl make
        by (inr hides) (inl bare) = absurd (false≢true (sym (bare.nobody j p one) ∙ hides))
        by (inr hides) (inr b) =
            let same : j ≡ b.k = alone-hides run front (called_entry ∷ back) place mine b j p one hides in
            let its_is : slice_get (controllers_at controllers front) j ≡ Some (Probe b.p) =
            subst (λ (i : ℕ). slice_get (controllers_at controllers front) i ≡ Some (Probe b.p))
            (sym same) b.one.is in
            let both : Some (Probe b.p) ≡ Some (Probe p) = sym its_is ∙ it.is in
            let its_state : b.p ≡ p = cc in
            inr (subst (λ (u : ProbeState). Hides mine (at front mine) v.system u u.stage) its_state b.hides)

    caller-tidy : (mine : ℕ) (p : ProbeState) → IsCaller mine p → IsTidySentMessage
    unfolding next_call_of
    caller-tidy mine p it = by p.refusal refl (is_special p.stage) refl
      where
        by : (o : Option Errno) → p.refusal ≡ o → (b : Bool) → is_special p.stage ≡ b → IsTidySentMessage
        by (Some e) refused b is =
            by-plain
            (Calls.caller-plain run front j c r back place kept mine p it
            (refused-plain p it.fact.order e refused) number sent call_is m len read)
        by None accepted false plain =
            by-plain
            (Calls.caller-plain run front j c r back place kept mine p it plain number sent call_is m len read)
        by None accepted true special = of (special-so mine p it accepted special)
          where
            of : (p.stage ≡ stage.MakeAgent) ⊎ Hides mine (at front mine) v.system p p.stage → IsTidySentMessage
            of (inl make) =
                special-tidy who none j it.hider mine first front c a
                (lawful run front (Controller j) (act.Call c r) back place kept) given (at front) (its-spaces mine)
                number sent held q m len there target read p p.stage special (it.fact.knows accepted)
                (λ d is. absurd (let both : stage.MakeAgent ≡ stage.Asking d SetRegisters = sym make ∙ is in cc))
                (inl make) (it.next ∙ ap (λ (d : calls.Call). Some d) call_is)
            of (inr hides) =
                let b : IsHiddenBy run mine front = record {
                  k = j;
                  p = p;
                  one = record { hider = it.hider; starts = it.starts; is = it.is; accepted = accepted };
                  hides = hides;
                } in
                let l = lives run front (called_entry ∷ back) place mine b in
                special-tidy who none j it.hider mine first front c a
                (lawful run front (Controller j) (act.Call c r) back place kept) given (at front)
                (its-spaces mine) number sent held q m len there target read p p.stage special
                (it.fact.knows accepted)
                (small-at j mine first front v p (ask run front (called_entry ∷ back) place mine b) p.stage
                (it.fact.reads accepted) l.process l.lives) (inr hides)
                (it.next ∙ ap (λ (d : calls.Call). Some d) call_is)

    message-tidy : IsTidySentMessage
    message-tidy = by (who.probes j) refl
      where
        by : (b : Bool) → who.probes j ≡ b → IsTidySentMessage
        by false other = by-plain (other-plain other)
        by true hider = let it = Calls.caller run front j c r back place kept hider in caller-tidy it.0 it.1.0 it.1.1

  call-tidy : IsTidyCall who (at front) v j c r
  call-tidy = by c refl r refl
    where
      -- whom a controller kills
      ends-so : (pid number : ℕ) → c ≡ call.Kill pid number → MayKill (at front) v.system pid number
      ends-so pid number is g sending_is deadly =
          may-end run front (called_entry ∷ back) place kept pid (λ b. of b (cases_eq j b.k))
        where
          gone : live_process a.state.system pid ≡ None
          gone = kill-gone v j pid number a g (ap (answer_to v j) (sym is) ∙ given) sending_is deadly

          of : (b : IsHiddenBy run pid front) → (j ≡ b.k) ⊎ (j ≢ b.k) → ⊥
          of b (inr apart) =
              not-gone run front (Controller j) (act.Call c r) back place kept pid b apart
              (ap (λ (x : TracedState). live_process x.system pid) called-state ∙ gone)
          of b (inl same) =
              let one = subst (λ (k : ℕ). IsOne run pid front k b.p) (sym same) b.one in
              no-kill b.p b.p.stage pid number
              (hides-hiding pid (at front pid) v.system b.p b.p.stage b.hides)
              (Calls.next-of run front j c r back place kept pid b.p one ∙ ap (λ (d : calls.Call). Some d) is)

      shut-so : (number : ℕ) → c ≡ call.Close number → (o : Option Held) → handle_of v.opens j number ≡ o
          → IsTidyClose who j (at front) v.system o
      shut-so number is None there = tt
      shut-so number is (Some held) there = λ finishes q live. of finishes q (kept.covering held.pid)
        where
          of : (hides who j && is_ctl held.file) ≡ true → (q : TracedProcess)
              → IsBare run held.pid front ⊎ IsHiddenBy run held.pid front → IsClear (at front held.pid) q
          of finishes q (inl bare) = record {
            no_patches = bare.patches;
            no_agent = bare.agent;
            lwps = all-clear (at front held.pid) (kept.faults held.pid) q.lwps;
          }
          of finishes q (inr b) = absurd (never (cases_eq j b.k))
            where
              control : is_control held.file ≡ true
              control = ctl-control held.file (and_parts (hides who j) (is_ctl held.file) finishes).1

              closes-none : j ≡ b.k → ⊥
              closes-none same =
                  let one = subst (λ (k : ℕ). IsOne run held.pid front k b.p) (sym same) b.one in
                  no-close b.p b.p.stage number
                  (hides-hiding held.pid (at front held.pid) v.system b.p b.p.stage b.hides)
                  (Calls.next-of run front j c r back place kept held.pid b.p one ∙ ap (λ (d : calls.Call). Some d) is)

              never : (j ≡ b.k) ⊎ (j ≢ b.k) → ⊥
              never (inr apart) =
                  others-apart run front (called_entry ∷ back) place held.pid b j number held apart there control refl
              never (inl same) = closes-none same

      by : (d : calls.Call) → c ≡ d → (q : Reply) → r ≡ q → IsTidyCall who (at front) v j d q
      by (call.Ctl number sent) is (reply.Used used) used_is =
          tidy-called who none (at front) v.system j sent (handle_of v.opens j number)
          (λ held q m len there target read.
          message-tidy number sent is used used_is held q m len there target read)
      by (call.Close number) is reply.Done done = shut-so number is (handle_of v.opens j number) refl
      by (call.Kill pid number) is reply.Done done = ends-so pid number is
      by _ is _ got = tt

  pub call-steps : Steps run front called_entry
  call-steps = record {
    tidy = call-tidy;
    spares = tt;
    kept = record {
      covering = next-covering run front j c r back place kept;
      faults =
          subst HaveNoFaults (sym (at-longer run front (Controller j) (act.Call c r) back place kept ∙ called-new))
          (called-faults who none (at front) kept.faults v j c r);
      unstepped =
          subst (λ (x : TracedState). IsUnstepped x.system)
          (sym (state-longer run front (Controller j) (act.Call c r) back place kept ∙ called-state))
          (called-unstepped who none v j c a given allowed kept.unstepped);
    };
  }
