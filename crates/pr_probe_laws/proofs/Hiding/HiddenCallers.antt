use Rattle.std.proofs.Common.{◌≡◌, ◌≢◌, ◌⊎◌, ◌∷◌, ◌++◌, ◌&&◌, ℕ, Bool, true, false, not, cond, List, [], Option, Some, None, Ok, slice_get, refl, sym, subst, ap, ◌∙◌, inl, inr}
use Rattle.std.proofs.lemmas.Bool.{and_parts, cases_Bool, cases_eq, false≢true}
use Rattle.std.proofs.lemmas.Option.{same_Some}
use Rattle.pr_api.specs.Entries.{call_entry}
use Rattle.pr_hidden.proofs.NothingHidden.CoverLemmas.{cover-other, cover-own}
use Rattle.pr_hidden.specs.Covers.{Covers, with_cover}
use Rattle.pr_hidden.specs.Hiders.{Hiders, covers_after, covers_at, covers_called, covers_closed, finished, hides, is_ctl}
use Rattle.pr_model.specs.Calls.{Answer, answer_to, controlled}
use Rattle.pr_model.specs.ControlMessages.{control_answer, control_handle, held_answer}
use Rattle.pr_model.specs.Handles.{handle_of, is_control}
use Rattle.pr_model.specs.Legal.{after, after_call, state_after}
use Rattle.pr_model.specs.State.{TracedState}
use Rattle.pr_model.specs.declared.calls.Call as calls
use Rattle.pr_model.specs.declared.calls.Call.TheVariants as call
use Rattle.pr_model.specs.declared.calls.Reply.{Reply}
use Rattle.pr_model.specs.declared.calls.Reply.TheVariants as reply
use Rattle.pr_model.specs.declared.events.Act.TheVariants as act
use Rattle.pr_model.specs.declared.events.Actor.TheVariants.{Controller}
use Rattle.pr_model.specs.declared.events.Entry.{Entry}
use Rattle.pr_model.specs.declared.handles.Held.{Held}
use Rattle.pr_num.specs.Messages.{first_message}
use Rattle.pr_num.specs.declared.errnos.Errno.{Errno}
use Rattle.pr_num.specs.declared.messages.Message.{Message}
use Rattle.pr_probe.specs.Probes.{ProbeState, call_of, fed, first_probe, next_call_of}
use Rattle.pr_world.specs.ControllerStates.{ControllerState, Probe}
use Rattle.pr_world.specs.Protocol.{controllers_at}
use Rattle.pr_probe_laws.proofs.Hiding.HiddenCalls.{special-names}
use Rattle.pr_probe_laws.proofs.Hiding.HiddenCovers.{AreAlike, alike-self, ctl-apart, ctl-other, ctl-plain, is_plain}
use Rattle.pr_probe_laws.proofs.Hiding.HiddenPlain.{is_special, plain-of}
use Rattle.pr_probe_laws.proofs.Hiding.HiddenFacts.{Facts, facts, legal-call, next-is, own-feeds, probe-at}
use Rattle.pr_probe_laws.specs.HiddenProbes.{is_hiding}
use Rattle.pr_probe_laws.proofs.Hiding.HiddenWork.{refused-plain, ctl-control}
use Rattle.pr_probe_laws.proofs.Hiding.HiddenOnes.{IsUnseenRun, IsOne, IsBare, IsHiddenBy, Kept, others-apart}
use Rattle.pr_probe_laws.proofs.Hiding.HiddenEntries.{legal_here, own_here, lawful, controllers-longer, one-before, stays-bare}

-- Who makes a call, and what the call leaves hidden of processes of which it hides nothing.

-- a message that was taken went to a control file
used-control : (s : TracedState) (j number : ℕ) (bytes : List ℕ) (a : Answer)
    → answer_to s j (call.Ctl number bytes) ≡ Some a → (used : ℕ) → a.reply ≡ reply.Used used → (held : Held)
    → handle_of s.opens j number ≡ Some held → is_control held.file ≡ true
unfolding answer_to control_answer
used-control s j number bytes a given used is held there =
    by (is_control held.file) refl
    (sym (same_Some _ a given)
    ∙ ap (λ (o : Option Held). controlled s (held_answer s.system (control_handle o) bytes)) there)
  where
    by : (b : Bool) → is_control held.file ≡ b
        → a ≡ controlled s (held_answer s.system (control_handle (Some held)) bytes) → is_control held.file ≡ true
    by true control it = control
    by false none it =
        absurd (let refused = sym is ∙ ap (λ (x : Answer). x.reply) (rw none at it) in cc)

module _ {n : ℕ} {who : Hiders} {controllers : List ControllerState} {first : TracedState} {h : List Entry}
    (run : IsUnseenRun n who controllers first h) where
  abbrev none : (k : ℕ) → who.functions k ≡ []
  none = run.of.left_alone.probes.no_functions

  abbrev at : List Entry → Covers
  at front = covers_at who first front

  module _ (front : List Entry) (j : ℕ) (c : calls.Call) (r : Reply) (back : List Entry)
      (place : h ≡ front ++ call_entry j c r ∷ back) (kept : Kept run front) where
    abbrev v : TracedState
    v = state_after first front

    abbrev called_entry : Entry
    called_entry = call_entry j c r

    pub given_so : (next : TracedState) × (answer_to v j c ≡ Some (record { state = next; reply = r }))
    given_so = legal-call n v j c r (legal_here run front (Controller j) (act.Call c r) back place kept)

    abbrev pub a : Answer
    a = record { state = given_so.0; reply = r }

    pub given : answer_to v j c ≡ Some a
    given = given_so.1

    abbrev pub called : Covers
    called = covers_called who (at front) v j c r

    pub called-new : covers_after who (at front) v called_entry ≡ called
    unfolding covers_after
    called-new = refl

    pub called-state : after v called_entry ≡ a.state
    unfolding after
    called-state = ap (after_call v) given

    -- an apfiles that makes the call
    pub record IsCaller (pid : ℕ) (p : ProbeState) : Type 0 where
      pub hider : who.probes j ≡ true
      pub starts : slice_get controllers j ≡ Some (Probe (first_probe pid))
      pub is : slice_get (controllers_at controllers front) j ≡ Some (Probe p)
      pub next : next_call_of p ≡ Some c
      pub fact : Facts n who controllers first h run.reached run.of j pid starts front p
      pub later : slice_get (controllers_at controllers (front ++ called_entry ∷ [])) j ≡ Some (Probe (fed p r))

    pub caller : who.probes j ≡ true → (pid : ℕ) × ((p : ProbeState) × IsCaller pid p)
    caller hider =
        let starts = run.of.left_alone.probes.probes j hider in
        let now = probe-at j controllers front (first_probe starts.pid, starts.at) in (
          starts.pid,
          (
            now.0,
            record {
              hider = hider;
              starts = starts.at;
              is = now.1;
              next =
                  next-is j (controllers_at controllers front) now.0 c r now.1
                  (own_here run front (Controller j) (act.Call c r) back place kept);
              fact =
                  facts n who controllers first h run.reached run.of j starts.pid
                  starts.at front (called_entry ∷ back) place now.0 now.1;
              later =
                  ap (λ (cs : List ControllerState). slice_get cs j)
                  (controllers-longer run front (Controller j) (act.Call c r) back place kept)
                  ∙ own-feeds j (controllers_at controllers front) now.0 c r now.1;
            },
          ),
        )

    pub next-of : (pid : ℕ) (p : ProbeState) → IsOne run pid front j p → call_of p p.stage ≡ Some c
    unfolding next_call_of
    next-of pid p one =
        next-is j (controllers_at controllers front) p c r one.is
        (own_here run front (Controller j) (act.Call c r) back place kept)

    -- the message of a caller that was refused, or is at a plain stage
    pub caller-plain : (pid : ℕ) (p : ProbeState) → IsCaller pid p → is_special p.stage ≡ false → (number : ℕ)
        (sent : List ℕ) → c ≡ call.Ctl number sent → (m : Message) (len : ℕ) → first_message sent ≡ Ok (m, len)
        → is_plain m ≡ true
    unfolding next_call_of
    caller-plain pid p it plain number sent is m len read =
        plain-of number sent m len read p p.stage plain (it.next ∙ ap (λ (d : calls.Call). Some d) is)

    -- ---- the control files of a process of which another hides something

    -- where nothing of a process is hidden by the caller it has no such handle, or nothing changes
    pub apart-alike : (pid : ℕ) (b : IsHiddenBy run pid front) → j ≢ b.k → AreAlike (at front pid) (called pid)
    unfolding covers_called
    apart-alike pid b apart = by c given
      where
        by : (d : calls.Call) → answer_to v j d ≡ Some a
            → AreAlike (at front pid) (covers_called who (at front) v j d r pid)
        by (call.Ctl number sent) answers =
            ctl-apart who none (at front) v j pid number sent r
            (λ used is held there.
            others-apart run front (called_entry ∷ back) place pid b j number held apart there
            (used-control v j number sent a answers used is held there))
        by (call.Close number) answers = closes r
          where
            shut : (o : Option Held) → handle_of v.opens j number ≡ o
                → AreAlike (at front pid) (covers_closed who j o (at front) pid)
            shut None there = alike-self (at front pid)
            shut (Some held) there = of (hides who j && is_ctl held.file) refl
              where
                of : (b : Bool) → (hides who j && is_ctl held.file) ≡ b
                    → AreAlike (at front pid)
                    (cond b (with_cover held.pid (finished (at front held.pid)) (at front)) (at front) pid)
                of false not = alike-self (at front pid)
                of true is =
                    let control = ctl-control held.file (and_parts (hides who j) (is_ctl held.file) is).1 in
                    let differs =
                    others-apart run front (called_entry ∷ back) place pid b j number held apart there control in
                    subst (AreAlike (at front pid))
                    (sym (cover-other held.pid (finished (at front held.pid)) (at front) pid
                    (λ same. differs (sym same))))
                    (alike-self (at front pid))

            closes : (reply_is : Reply) → AreAlike (at front pid)
                (covers_called who (at front) v j (call.Close number) reply_is pid)
            closes reply.Done = shut (handle_of v.opens j number) refl
            closes _ = alike-self (at front pid)
        by _ answers = alike-self (at front pid)

    -- ---- a process of which nothing is hidden

    closes-bare : (pid : ℕ) → IsBare run pid front → (number : ℕ)
        → AreAlike (at front pid) (covers_called who (at front) v j (call.Close number) r pid)
    unfolding covers_called
    closes-bare pid bare number = by r
      where
        finish : (o : Option Held) → AreAlike (at front pid) (covers_closed who j o (at front) pid)
        finish None = alike-self (at front pid)
        finish (Some held) = of (hides who j && is_ctl held.file) (cases_eq pid held.pid)
          where
            of : (b : Bool) → (pid ≡ held.pid) ⊎ (pid ≢ held.pid)
                → AreAlike (at front pid)
                (cond b (with_cover held.pid (finished (at front held.pid)) (at front)) (at front) pid)
            of false same = alike-self (at front pid)
            of true (inl same) =
                subst (λ (m : ℕ). AreAlike (at front pid) (with_cover m (finished (at front m)) (at front) pid)) same
                (subst (AreAlike (at front pid)) (sym (cover-own pid (finished (at front pid)) (at front)))
                (record { patches = sym bare.patches; agent = refl }))
            of true (inr apart) =
                subst (AreAlike (at front pid))
                (sym (cover-other held.pid (finished (at front held.pid)) (at front) pid apart))
                (alike-self (at front pid))

        by : (q : Reply) → AreAlike (at front pid) (covers_called who (at front) v j (call.Close number) q pid)
        by reply.Done = finish (handle_of v.opens j number)
        by _ = alike-self (at front pid)

    pub bare-alike : (pid : ℕ) → IsBare run pid front
        → ((number : ℕ) (sent : List ℕ) → c ≡ call.Ctl number sent
        → AreAlike (at front pid) (covers_called who (at front) v j (call.Ctl number sent) r pid))
        → AreAlike (at front pid) (called pid)
    unfolding covers_called
    bare-alike pid bare ctl = by c refl
      where
        by : (d : calls.Call) → c ≡ d → AreAlike (at front pid) (covers_called who (at front) v j d r pid)
        by (call.Ctl number sent) is = ctl number sent is
        by (call.Close number) is = closes-bare pid bare number
        by _ is = alike-self (at front pid)

    pub new-alike : (pid : ℕ) → AreAlike (at front pid) (called pid)
        → AreAlike (at front pid) (covers_after who (at front) v called_entry pid)
    new-alike pid alike = subst (λ (x : Covers). AreAlike (at front pid) (x pid)) (sym called-new) alike

    abbrev pub Later : ℕ → Type 0
    Later pid = IsBare run pid (front ++ called_entry ∷ []) ⊎ IsHiddenBy run pid (front ++ called_entry ∷ [])

    pub bare-later : (pid : ℕ) → IsBare run pid front → AreAlike (at front pid) (called pid)
        → ((k : ℕ) (p : ProbeState) → IsOne run pid (front ++ called_entry ∷ []) k p → is_hiding p.stage ≡ false)
        → IsBare run pid (front ++ called_entry ∷ [])
    bare-later pid bare alike nobody =
        stays-bare run front (Controller j) (act.Call c r) back place kept pid bare (new-alike pid alike) nobody

    -- an apfiles that did not make the call
    pub not-caller : (pid : ℕ) → IsBare run pid front → (k : ℕ) (p : ProbeState) → j ≢ k
        → IsOne run pid (front ++ called_entry ∷ []) k p → is_hiding p.stage ≡ false
    not-caller pid bare k p apart one =
        bare.nobody k p (one-before run front (Controller j) (act.Call c r) back place kept pid k p apart one)

    -- where the caller is no apfiles
    pub others-bare : (pid : ℕ) → IsBare run pid front → who.probes j ≡ false
        → IsBare run pid (front ++ called_entry ∷ [])
    others-bare pid bare other =
        bare-later pid bare
        (bare-alike pid bare (λ number sent is. ctl-other who none (at front) v j pid number sent r other))
        (λ k p one. not-caller pid bare k p
        (λ same. false≢true (sym other ∙ ap who.probes same ∙ one.hider)) one)

    -- ---- a caller that sends a plain message, or one to its own process

    pub plain-alike : (pid mine : ℕ) (p : ProbeState) → IsCaller mine p → is_special p.stage ≡ false
        → IsBare run pid front → AreAlike (at front pid) (called pid)
    plain-alike pid mine p it plain bare =
        bare-alike pid bare
        (λ number sent is.
        ctl-plain who none (at front) v j pid number sent r (caller-plain mine p it plain number sent is))

    pub caller-alike : (pid mine : ℕ) (p : ProbeState) → IsCaller mine p → pid ≢ mine → IsBare run pid front
        → AreAlike (at front pid) (called pid)
    unfolding next_call_of
    caller-alike pid mine p it apart bare = by p.refusal refl (is_special p.stage) refl
      where
        by : (o : Option Errno) → p.refusal ≡ o → (b : Bool) → is_special p.stage ≡ b
            → AreAlike (at front pid) (called pid)
        by (Some e) refused b special =
            plain-alike pid mine p it (refused-plain p it.fact.order e refused) bare
        by None accepted false plain = plain-alike pid mine p it plain bare
        by None accepted true special =
            bare-alike pid bare
            (λ number sent is.
            let named =
            special-names who none j it.hider mine first front c a
            (lawful run front (Controller j) (act.Call c r) back place kept) given (at front) p p.stage special
            (it.fact.knows accepted) number sent (it.next ∙ ap (λ (d : calls.Call). Some d) is) in
            ctl-apart who none (at front) v j pid number sent r
            (λ used is_used held there same.
            apart (sym same ∙ ap (λ (x : Held). x.pid) (same_Some held named.held (sym there ∙ named.there))
            ∙ named.its)))

    -- the caller is as it was fed
    caller-now : (pid : ℕ) (p q : ProbeState) → IsCaller pid p → IsOne run pid (front ++ called_entry ∷ []) j q
        → q ≡ fed p r
    caller-now pid p q it one =
        let both : Some (Probe q) ≡ Some (Probe (fed p r)) = sym one.is ∙ it.later in cc

    pub nobody-by : (pid : ℕ) (p : ProbeState) → IsCaller pid p → IsBare run pid front
        → ((fed p r).refusal ≡ None → is_hiding (fed p r).stage ≡ true → ⊥) → (k : ℕ) (q : ProbeState)
        → IsOne run pid (front ++ called_entry ∷ []) k q → is_hiding q.stage ≡ false
    nobody-by pid p it bare never k q one = by (cases_eq j k)
      where
        by : (j ≡ k) ⊎ (j ≢ k) → is_hiding q.stage ≡ false
        by (inr apart) = not-caller pid bare k q apart one
        by (inl same) =
            let mine : IsOne run pid (front ++ called_entry ∷ []) j q =
            subst (λ (i : ℕ). IsOne run pid (front ++ called_entry ∷ []) i q) (sym same) one in
            let now : q ≡ fed p r = caller-now pid p q it mine in
            elim (cases_Bool (is_hiding q.stage)) [
              | inl hides ↦
                  absurd (never (ap (λ (u : ProbeState). u.refusal) (sym now) ∙ one.accepted)
                  (ap (λ (u : ProbeState). is_hiding u.stage) (sym now) ∙ hides))
              | inr not ↦ not
            ]
