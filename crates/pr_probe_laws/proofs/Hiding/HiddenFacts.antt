use Rattle.std.proofs.Common.{◌≡◌, ◌≢◌, ◌⊎◌, ◌∷◌, ◌++◌, ℕ, List, [], Some, None, slice_get, refl, sym, subst, ap, ◌∙◌, inl, inr}
use Rattle.std.proofs.lemmas.Bool.{cases_eq}
use Rattle.std.proofs.lemmas.List.{append_assoc}
use Rattle.std.specs.Option.{option_and_then}
use Rattle.std.proofs.lemmas.Option.{slice_get_within}
use Rattle.pr_api.specs.Entries.{call_entry}
use Rattle.pr_hidden.specs.Hiders.{Hiders}
use Rattle.pr_model.specs.Legal.{IsLegal, IsLegalEntry, after, state_after}
use Rattle.pr_model.specs.LwpTurns.{turn_of}
use Rattle.pr_model.specs.State.{TracedState, TracedSystem}
use Rattle.pr_model.specs.declared.calls.Call.{Call}
use Rattle.pr_model.specs.declared.calls.Reply.{Reply}
use Rattle.pr_model.specs.declared.events.Act.{Act}
use Rattle.pr_model.specs.declared.events.Act.TheVariants as act
use Rattle.pr_model.specs.declared.events.Actor.{Actor}
use Rattle.pr_model.specs.declared.events.Actor.TheVariants.{Controller, Lwp}
use Rattle.pr_model.specs.declared.events.Entry.{Entry}
use Rattle.pr_model.specs.declared.events.Turned.{Turned}
use Rattle.pr_probe.specs.Probes.{ProbeState, fed, first_probe, next_call_of}
use Rattle.pr_reached.proofs.Together.ReachedLemmas.{later-reached}
use Rattle.pr_reached.specs.ByteHistories.{HasBytes}
use Rattle.pr_reached.specs.Reached.{IsReached}
use Rattle.pr_tool_laws.proofs.Stages.ProtocolLemmas.{KeptByCalls, KeptByOthers, fed-other, fed-own, own-keeps}
use Rattle.pr_tool_laws.proofs.OwnFiles.StandingLemmas.{IsOther}
use Rattle.pr_tool_laws.proofs.Records.WholeLemmas.{front-bytes, front-legal}
use Rattle.pr_world.specs.ControllerStates.{ControllerState, Probe}
use Rattle.pr_world.specs.Controllers.{after_reply, call_by, next_call, with_fed}
use Rattle.pr_tool_laws.specs.OwnCalls.{AreOwnCalls, IsOwnCall}
use Rattle.pr_tool_laws.specs.Runs.{IsRunOf}
use Rattle.pr_world.specs.Protocol.{controllers_after, controllers_at}
use Rattle.pr_model.specs.Calls.{answer_to}
use Rattle.pr_probe_laws.proofs.Hiding.HiddenPlain.{IsInOrder, first-order, order-fed}
use Rattle.pr_probe_laws.proofs.Sets.SetLaw as sets
use Rattle.pr_probe_laws.proofs.Sets.SetLaw.{IsProbeKnown, calls-known, others-known}
use Rattle.pr_probe_laws.proofs.Sets.SetStages.{Knows}
use Rattle.pr_probe_laws.proofs.OneState.TextLaw as text
use Rattle.pr_probe_laws.proofs.OneState.TextLaw.{IsProbeReading, calls-read, others-read}
use Rattle.pr_probe_laws.proofs.OneState.TextStages.{IsAsking, Making, Reads, asking, whole-place}
use Rattle.pr_probe_laws.specs.ShownDescriptors.{HasRoom, WasUnlent}
use Rattle.pr_probe_laws.specs.HiddenProbes.{IsAsSeen, IsLeftAlone, IsHidingAfter, IsRunOfProbes}

-- What is known of an apfiles after each front of a history.

-- ---- the controllers after an entry

pub controllers-push : (controllers : List ControllerState) (h : List Entry) (e : Entry)
    → controllers_at controllers (h ++ e ∷ []) ≡ controllers_after (controllers_at controllers h) e
controllers-push controllers [] e = refl
controllers-push controllers (x ∷ xs) e = controllers-push (controllers_after controllers x) xs e

-- an apfiles stays one
module _ (k : ℕ) where
  abbrev HasProbe : List ControllerState → Type 0
  HasProbe controllers = (p : ProbeState) × (slice_get controllers k ≡ Some (Probe p))

  probe-after : (controllers : List ControllerState) (actor : Actor) (it : Act) → HasProbe controllers
      → HasProbe (controllers_after controllers (record { actor = actor; act = it }))
  unfolding controllers_after after_reply
  probe-after controllers (Controller j) (act.Call c r) has = by (cases_eq j k)
    where
      by : (j ≡ k) ⊎ (j ≢ k) → HasProbe (with_fed j r controllers)
      by (inl same) =
          subst (λ (i : ℕ). HasProbe (with_fed i r controllers)) (sym same)
          (fed has.0 r, fed-own controllers k r (Probe has.0) has.1)
      by (inr apart) = (has.0, fed-other controllers j k r apart ∙ has.1)
  probe-after controllers _ _ has = has

  pub probe-at : (controllers : List ControllerState) (h : List Entry) → HasProbe controllers
      → HasProbe (controllers_at controllers h)
  probe-at controllers [] has = has
  probe-at controllers (e ∷ h) has =
      probe-at (controllers_after controllers e) h (probe-after controllers e.actor e.act has)

  -- what others do leaves it
  pub others-leave : (controllers : List ControllerState) (actor : Actor) (it : Act) → IsOther k actor it
      → slice_get (controllers_after controllers (record { actor = actor; act = it })) k ≡ slice_get controllers k
  unfolding controllers_after
  others-leave controllers (Controller j) (act.Call c r) other = fed-other controllers j k r other
  others-leave controllers _ _ other = refl

  -- its own call feeds it the reply
  pub own-feeds : (controllers : List ControllerState) (p : ProbeState) (c : Call) (r : Reply)
      → slice_get controllers k ≡ Some (Probe p)
      → slice_get (controllers_after controllers (call_entry k c r)) k ≡ Some (Probe (fed p r))
  unfolding controllers_after after_reply
  own-feeds controllers p c r is = fed-own controllers k r (Probe p) is

  -- and is the one that comes next
  pub next-is : (controllers : List ControllerState) (p : ProbeState) (c : Call) (r : Reply)
      → slice_get controllers k ≡ Some (Probe p) → IsOwnCall controllers (call_entry k c r)
      → next_call_of p ≡ Some c
  unfolding IsOwnCall call_by next_call
  next-is controllers p c r is own =
      sym (ap (option_and_then next_call) is) ∙ own (slice_get_within controllers k (Probe p) is)

-- ---- fronts

pub own-front : (controllers : List ControllerState) (front back : List Entry)
    → AreOwnCalls controllers (front ++ back) → AreOwnCalls controllers front
own-front controllers [] back own = tt
own-front controllers (e ∷ front) back own = (own.0, own-front (controllers_after controllers e) front back own.1)

pub own-there : (controllers : List ControllerState) (front : List Entry) (e : Entry) (back : List Entry)
    → AreOwnCalls controllers (front ++ e ∷ back) → IsOwnCall (controllers_at controllers front) e
own-there controllers [] e back own = own.0
own-there controllers (x ∷ front) e back own = own-there (controllers_after controllers x) front e back own.1

pub legal-there : (n : ℕ) (s : TracedState) (front : List Entry) (e : Entry) (back : List Entry)
    → IsLegal n s (front ++ e ∷ back) → IsLegalEntry n (state_after s front) e
legal-there n s [] e back legal = legal.0
legal-there n s (x ∷ front) e back legal = legal-there n (after s x) front e back legal.1

-- a turn, and a call, as the machine makes them
pub legal-turn : (n : ℕ) (s : TracedState) (acting id : ℕ) (turned : Turned)
    → IsLegalEntry n s (record { actor = Lwp acting id; act = act.Turn turned })
    → (next : TracedSystem) × (turn_of s.system acting id ≡ Some (record { system = next; turned = turned }))
unfolding IsLegalEntry
legal-turn n s acting id turned legal = (legal.0, legal.1)

pub legal-call : (n : ℕ) (s : TracedState) (j : ℕ) (c : Call) (r : Reply) → IsLegalEntry n s (call_entry j c r)
    → (next : TracedState) × (answer_to s j c ≡ Some (record { state = next; reply = r }))
unfolding IsLegalEntry
legal-call n s j c r legal = (legal.1.0, legal.1.1)

-- ---- the facts

module _ (n : ℕ) (who : Hiders) (controllers : List ControllerState) (first : TracedState) (h : List Entry)
    (reached : IsReached first) (run : IsRunOfProbes n who controllers first h) where
  pub reached-at : (front back : List Entry) → h ≡ front ++ back → IsReached (state_after first front)
  reached-at front back place =
      later-reached n first front reached (front-bytes front back (subst HasBytes place run.bytes))
      (front-legal n first front back (subst (λ (es : List Entry). IsLegal n first es) place run.legal))

  module _ (k pid : ℕ) (starts : slice_get controllers k ≡ Some (Probe (first_probe pid))) where
    -- what is known of it
    pub record Facts (front : List Entry) (p : ProbeState) : Type 0 where
      pub knows : p.refusal ≡ None → Knows k pid first front (state_after first front) p p.stage
      pub reads : p.refusal ≡ None → Reads k pid first front (state_after first front) p p.stage
      pub order : IsInOrder p

    InOrder : List Entry → ControllerState → Type 0
    InOrder front (Probe p) = IsInOrder p
    InOrder front _ = ⊥

    others-order : KeptByOthers n k first InOrder
    unfolding InOrder
    others-order front (Probe p) actor it legal other kept = kept
    others-order front _ actor it legal other kept = absurd kept

    calls-order : KeptByCalls n k first InOrder
    unfolding InOrder next_call after_reply
    calls-order front (Probe p) c a next given kept = order-fed p a.reply kept
    calls-order front _ c a next given kept = absurd kept

    pub facts : (front back : List Entry) → h ≡ front ++ back → (p : ProbeState)
        → slice_get (controllers_at controllers front) k ≡ Some (Probe p) → Facts front p
    unfolding IsProbeKnown IsProbeReading InOrder
    facts front back place p is =
        let own_run : IsRunOf n k (Probe (first_probe pid)) controllers first front = record {
          begins = starts;
          legal = front-legal n first front back (subst (λ (es : List Entry). IsLegal n first es) place run.legal);
          own_calls = own-front controllers front back (subst (AreOwnCalls controllers) place run.own_calls);
        } in
        let known =
        own-keeps n k first (IsProbeKnown n k pid first) (others-known n k pid first) (calls-known n k pid first)
        controllers front (Probe (first_probe pid)) (Probe p) own_run is
        (reached.lawful, λ none. sets.at_first n k pid first) in
        let read =
        own-keeps n k first (IsProbeReading n k pid first) (others-read n k pid first) (calls-read n k pid first)
        controllers front (Probe (first_probe pid)) (Probe p) own_run is
        (reached.lawful, λ none. text.at_first n k pid first) in
        let order =
        own-keeps n k first InOrder others-order calls-order controllers front (Probe (first_probe pid)) (Probe p)
        own_run is (first-order pid) in
        record { knows = known.1; reads = read.1; order = order }

    -- on which conditions its agent asks
    pub asks-at : IsLeftAlone k pid controllers first h → (front back : List Entry) → h ≡ front ++ back
        → (p : ProbeState) → IsHidingAfter k pid controllers first front p → (m : Making k pid first front)
        → IsAsking k pid first front m
    asks-at alone front back place p way m = record {
      sole =
          alone.sole front back p place way m.began.before (m.began.later ++ asking k pid first front m) m.began.opened
          (whole-place k pid first front m);
      room = by (probe-at k controllers m.front (first_probe pid, starts));
      ranged = λ f b split.
          let there = reached-at f (b ++ back)
          (place ∙ ap (λ (es : List Entry). es ++ back) split ∙ append_assoc f b back) in
          record { range = there.in_range; fit = there.fit };
    }
      where
        making-place : h ≡ m.front ++ call_entry k m.make m.made ∷ (m.asked ++ back)
        making-place =
            place ∙ ap (λ (es : List Entry). es ++ back) m.place
            ∙ append_assoc m.front (call_entry k m.make m.made ∷ m.asked) back

        by : (q : ProbeState) × (slice_get (controllers_at controllers m.front) k ≡ Some (Probe q))
            → WasUnlent k pid first m.front ⊎ HasRoom m.process
        by was = of (alone.as_seen m.front (m.asked ++ back) (call_entry k m.make m.made) was.0 making-place
            (record {
              call = m.make;
              used = m.granted.0;
              is = ap (λ (r : Reply). call_entry k m.make r) m.granted.1;
              sends = m.makes;
            }) was.1 m.process m.lives)
          where
            of : WasUnlent k pid first m.front ⊎ IsAsSeen was.0 m.process
                → WasUnlent k pid first m.front ⊎ HasRoom m.process
            of (inl unlent) = inl unlent
            of (inr seen) = inr seen.room
