use Rattle.std.proofs.Common.{◌≡◌, ◌≢◌, ◌<◌, length, ℕ, Option, Some, None, IfSome, List, [], ◌∷◌, ◌++◌, slice_get}
use Rattle.std.proofs.Common.{refl, sym, ap, ◌∙◌, subst, inl, inr, ◌⊎◌}
use Rattle.std.specs.Option.{option_and_then}
use Rattle.std.proofs.lemmas.Bool.{cases_eq}
use Rattle.std.proofs.lemmas.List.{append_assoc, append-nil}
use Rattle.std.proofs.lemmas.Option.{slice_get_within}
use Rattle.pr_api.specs.Entries.{call_entry}
use Rattle.pr_file_laws.proofs.PlaceLemmas.{slice_get-set_other, slice_get-set_same}
use Rattle.pr_model.proofs.HistoryLemmas.{state_after-push}
use Rattle.pr_model.specs.Calls.{Answer, answer_to}
use Rattle.pr_model.specs.Legal.{IsLegal, IsLegalEntry, after, state_after}
use Rattle.pr_model.specs.State.{TracedState}
use Rattle.pr_model.specs.declared.calls.Call.{Call}
use Rattle.pr_model.specs.declared.calls.Reply.{Reply}
use Rattle.pr_model.specs.declared.events.Act.{Act}
use Rattle.pr_model.specs.declared.events.Act.TheVariants as act
use Rattle.pr_model.specs.declared.events.Actor.{Actor}
use Rattle.pr_model.specs.declared.events.Actor.TheVariants.{Controller, Lwp, Clock}
use Rattle.pr_model.specs.declared.events.Entry.{Entry}
use Rattle.pr_world.specs.Controllers.{after_reply, call_by, feed_at, next_call, with_fed}
use Rattle.pr_world.specs.ControllerStates.{ControllerState}
use Rattle.pr_world.specs.Protocol.{Follows, FollowsAt, controllers_after, controllers_at}
use Rattle.pr_tool_laws.specs.OwnCalls.{AreOwnCalls, IsOwnCall}
use Rattle.pr_tool_laws.specs.Runs.{IsRunOf}
use Rattle.pr_tool_laws.proofs.OwnFiles.StandingLemmas.{IsOther}

-- What a controller keeps in a legal history in which it makes its own calls: by these, and by what others do.

-- ---- where all follow the protocol, each makes its own calls

follows-its : (controllers : List ControllerState) (s : TracedState) (actor : Actor) (it : Act)
    → FollowsAt controllers s (record { actor = actor; act = it })
    → IsOwnCall controllers (record { actor = actor; act = it })
unfolding FollowsAt IsOwnCall
follows-its controllers s (Controller k) (act.Call c r) follows = λ within. follows
follows-its controllers s (Controller k) (act.Turn t) follows = tt
follows-its controllers s (Controller k) (act.Tick m) follows = tt
follows-its controllers s (Lwp pid id) it follows = tt
follows-its controllers s Clock it follows = tt

pub follows-own : (controllers : List ControllerState) (s : TracedState) (h : List Entry) → Follows controllers s h
    → AreOwnCalls controllers h
follows-own controllers s [] follows = tt
follows-own controllers s (e ∷ h) follows = (
  follows-its controllers s e.actor e.act follows.0,
  follows-own (controllers_after controllers e) (after s e) h follows.1,
)

-- ---- the controllers after a call

pub fed-own : (controllers : List ControllerState) (k : ℕ) (r : Reply) (core : ControllerState)
    → slice_get controllers k ≡ Some core → slice_get (with_fed k r controllers) k ≡ Some (after_reply core r)
unfolding with_fed
fed-own controllers k r core found = rw found (slice_get-set_same controllers k core (after_reply core r) found)

pub fed-other : (controllers : List ControllerState) (j k : ℕ) (r : Reply) → j ≢ k
    → slice_get (with_fed j r controllers) k ≡ slice_get controllers k
unfolding with_fed
fed-other controllers j k r other = of (slice_get controllers j)
  where
    of : (o : Option ControllerState) → slice_get (feed_at j r controllers o) k ≡ slice_get controllers k
    of None = refl
    of (Some c) = slice_get-set_other controllers j k (after_reply c r) (λ e. other (sym e))

pub fed-none : (controllers : List ControllerState) (k : ℕ) (r : Reply) → slice_get controllers k ≡ None
    → with_fed k r controllers ≡ controllers
unfolding with_fed
fed-none controllers k r none = ap (feed_at k r controllers) none

-- ---- what is kept

module _ (n k : ℕ) (first : TracedState) (P : List Entry → ControllerState → Type 0) where
  -- what others do keeps it
  abbrev pub KeptByOthers : Type 0
  KeptByOthers =
      (h : List Entry) (c : ControllerState) (actor : Actor) (it : Act)
      → IsLegalEntry n (state_after first h) (record { actor = actor; act = it }) → IsOther k actor it → P h c
      → P (h ++ (record { actor = actor; act = it }) ∷ []) c

  -- its own calls keep it
  abbrev pub KeptByCalls : Type 0
  KeptByCalls =
      (h : List Entry) (c : ControllerState) (call : Call) (a : Answer) → next_call c ≡ Some call
      → answer_to (state_after first h) k call ≡ Some a → P h c
      → P (h ++ call_entry k call a.reply ∷ []) (after_reply c a.reply)

  module _ (by_others : KeptByOthers) (by_calls : KeptByCalls) where
    own-entry : (h : List Entry) (controllers : List ControllerState) (c : Call) (r : Reply)
        → IsLegalEntry n (state_after first h) (call_entry k c r)
        → (k < length controllers → call_by controllers k ≡ Some c)
        → (o : Option ControllerState) → slice_get controllers k ≡ o → IfSome o (P h)
        → IfSome (slice_get (with_fed k r controllers) k) (P (h ++ call_entry k c r ∷ []))
    unfolding IsLegalEntry call_by
    own-entry h controllers c r legal own None found p =
        subst (λ o. IfSome o (P (h ++ call_entry k c r ∷ [])))
        (sym (ap (λ (cs : List ControllerState). slice_get cs k) (fed-none controllers k r found) ∙ found)) tt
    own-entry h controllers c r legal own (Some core) found p =
        let calls = own (slice_get_within controllers k core found) in
        let next : next_call core ≡ Some c = ap (option_and_then next_call) (sym found) ∙ calls in
        let kept = by_calls h core c (record { state = legal.1.0; reply = r }) next legal.1.1 p in
        subst (λ o. IfSome o (P (h ++ call_entry k c r ∷ []))) (sym (fed-own controllers k r core found)) kept

    others-entry : (h : List Entry) (actor : Actor) (it : Act)
        → IsLegalEntry n (state_after first h) (record { actor = actor; act = it }) → IsOther k actor it
        → (o : Option ControllerState) → IfSome o (P h) → IfSome o (P (h ++ (record { actor = actor; act = it }) ∷ []))
    others-entry h actor it legal other None p = tt
    others-entry h actor it legal other (Some core) p = by_others h core actor it legal other p

    entry-keeps : (h : List Entry) (controllers : List ControllerState) (actor : Actor) (it : Act)
        → IsLegalEntry n (state_after first h) (record { actor = actor; act = it })
        → IsOwnCall controllers (record { actor = actor; act = it }) → IfSome (slice_get controllers k) (P h)
        → IfSome (slice_get (controllers_after controllers (record { actor = actor; act = it })) k)
        (P (h ++ (record { actor = actor; act = it }) ∷ []))
    unfolding controllers_after IsOwnCall
    entry-keeps h controllers (Controller j) (act.Call c r) legal own p = of (cases_eq j k)
      where
        of : (j ≡ k) ⊎ (j ≢ k) → IfSome (slice_get (with_fed j r controllers) k) (P (h ++ call_entry j c r ∷ []))
        of (inl same) =
            let Q : ℕ → Type 0 =
            λ i. IsLegalEntry n (state_after first h) (call_entry i c r)
            → (i < length controllers → call_by controllers i ≡ Some c)
            → IfSome (slice_get (with_fed i r controllers) k) (P (h ++ call_entry i c r ∷ [])) in
            subst Q (sym same)
            (λ here calls. own-entry h controllers c r here calls (slice_get controllers k) refl p) legal own
        of (inr other) =
            subst (λ o. IfSome o (P (h ++ call_entry j c r ∷ []))) (sym (fed-other controllers j k r other))
            (others-entry h (Controller j) (act.Call c r) legal other (slice_get controllers k) p)
    entry-keeps h controllers (Controller j) (act.Turn t) legal own p =
        others-entry h (Controller j) (act.Turn t) legal tt (slice_get controllers k) p
    entry-keeps h controllers (Controller j) (act.Tick m) legal own p =
        others-entry h (Controller j) (act.Tick m) legal tt (slice_get controllers k) p
    entry-keeps h controllers (Lwp pid id) it legal own p =
        others-entry h (Lwp pid id) it legal tt (slice_get controllers k) p
    entry-keeps h controllers Clock it legal own p = others-entry h Clock it legal tt (slice_get controllers k) p

    history-keeps : (h rest : List Entry) (controllers : List ControllerState) → IsLegal n (state_after first h) rest
        → AreOwnCalls controllers rest → IfSome (slice_get controllers k) (P h)
        → IfSome (slice_get (controllers_at controllers rest) k) (P (h ++ rest))
    history-keeps h [] controllers legal own p =
        subst (λ g. IfSome (slice_get controllers k) (P g)) (sym (append-nil h)) p
    history-keeps h (e ∷ rest) controllers legal own p =
        let kept = entry-keeps h controllers e.actor e.act legal.0 own.0 p in
        let state : after (state_after first h) e ≡ state_after first (h ++ e ∷ []) =
        sym (state_after-push first h e) in
        let whole : (h ++ e ∷ []) ++ rest ≡ h ++ e ∷ rest = append_assoc h (e ∷ []) rest in
        let controllers' : List ControllerState = controllers_after controllers e in
        let all =
        history-keeps (h ++ e ∷ []) rest controllers' (subst (λ s. IsLegal n s rest) state legal.1) own.1 kept in
        subst (λ g. IfSome (slice_get (controllers_at controllers' rest) k) (P g)) whole all

    -- it is so of the controller at the end, if it was so at first
    pub own-keeps : (controllers : List ControllerState) (h : List Entry) (core last : ControllerState)
        → IsRunOf n k core controllers first h → slice_get (controllers_at controllers h) k ≡ Some last
        → P [] core → P h last
    own-keeps controllers h core last run ends p =
        let begins : IfSome (slice_get controllers k) (P []) = subst (λ o. IfSome o (P [])) (sym run.begins) p in
        subst (λ o. IfSome o (P h)) ends (history-keeps [] h controllers run.legal run.own_calls begins)
