-- What a kernel's step says of an entry.
use Rattle.std.proofs.Common.{◌≡◌, ◌≢◌, ◌==◌, ◌<◌, ◌≤◌, ◌+◌, ℕ, Bool, true, false, Option, Some, None, IfSome, is_some, [], ◌∷◌, ◌++◌, refl, sym, ◌∙◌, ap, subst, arith, rules}
use Rattle.std.proofs.lemmas.Bool.{eqb-true}
use Rattle.std.proofs.lemmas.Option.{same_Some}
use Rattle.pr_num.specs.Limits.{clock_limit}
use Rattle.pr_api.specs.Entries.{call_entry, last_reply_of, tick_entry, turn_entry}
use Rattle.pr_api.specs.Steps.{IsAnswer, IsCalled, IsTicked, IsTurned, IsTurnOf}
use Rattle.pr_api.specs.Views.{IsLawful, KernelView, kernel_of}
use Rattle.pr_model.specs.Calls.{Answer, answer_to}
use Rattle.pr_model.specs.Legal.{IsLegalEntry, after, after_call, after_turn, ticked}
use Rattle.pr_model.specs.LwpTurns.{LwpTurn, can_move, turn_of}
use Rattle.pr_model.specs.State.{TracedState, with_system}
use Rattle.pr_model.specs.declared.calls.Call.{Call}
use Rattle.pr_model.specs.declared.calls.Reply.{Reply}
use Rattle.pr_model.specs.declared.events.Act.{Act}
use Rattle.pr_model.specs.declared.events.Act.TheVariants.{Call as Called, Turn, Tick}
use Rattle.pr_model.specs.declared.events.Actor.{Actor}
use Rattle.pr_model.specs.declared.events.Actor.TheVariants.{Controller, Lwp, Clock}
use Rattle.pr_model.specs.declared.events.Turned.{Turned}
use Rattle.pr_world.proofs.MoveLemmas.{last-reply}
use Rattle.pr_world.proofs.ToldLemmas.{turns-move}
use Rattle.pr_judge.specs.Judgements.{IsIllegalEntry, IsPlayed, Plays, fits}

-- what holds of a machine that may be told
if_found : {X : Type 0} (o : Option X) (P : X → Type 0) → ((x : X) → o ≡ Some x → P x) → IfSome o P
if_found None P f = tt
if_found (Some x) P f = f x refl

-- the same where something is known of it
pub told-more : {X : Type 0} (o : Option X) (A P : X → Type 0) → IfSome o A → ((x : X) → o ≡ Some x → A x → P x)
    → IfSome o P
told-more None A P a f = tt
told-more (Some x) A P a f = f x refl a

some≢none : {X : Type 0} (o : Option X) (x : X) → o ≡ Some x → is_some o ≡ false → ⊥
some≢none None x e h = cc
some≢none (Some y) x e h = cc

-- ---- what is seen of a kernel that tells its machine

module _ (k : KernelView) (s : TracedState) (is : k ≡ kernel_of s k.history k.places) where
  ready-is : (by : ℕ) (c : Call) → k.is_ready by c ≡ is_some (answer_to s by c)
  unfolding kernel_of
  ready-is by c = ap (λ (x : KernelView). x.is_ready by c) is

  turn-is : (pid id : ℕ) → k.can_turn pid id ≡ can_move s.system pid id
  unfolding kernel_of
  turn-is pid id = ap (λ (x : KernelView). x.can_turn pid id) is

  clock-is : k.clock ≡ s.system.clock
  unfolding kernel_of
  clock-is = ap (λ (x : KernelView). x.clock) is

-- ---- steps that were not made

module _ (n : ℕ) (old new : KernelView) where
  pub no-controller : (by : ℕ) (c : Call) (r : Reply) → n ≤ by → Plays n (call_entry by c r) old new false
  unfolding IsLegalEntry
  no-controller by c r h =
      if_found old.machine (λ s. IsIllegalEntry n s (call_entry by c r)) (λ s is legal. omega (arith, h, legal.0))

  pub not-ready : IsLawful old → (by : ℕ) (c : Call) (r : Reply) → old.is_ready by c ≡ false
      → Plays n (call_entry by c r) old new false
  unfolding IsLegalEntry
  not-ready lawful by c r h = if_found old.machine (λ s. IsIllegalEntry n s (call_entry by c r)) (λ s is legal.
      some≢none (answer_to s by c) (record { state = legal.1.0; reply = r }) legal.1.1
      (sym (ready-is old s (lawful.told s is) by c) ∙ h))

  pub not-movable : IsLawful old → (pid id : ℕ) (t : Turned) → old.can_turn pid id ≡ false
      → Plays n (turn_entry pid id t) old new false
  unfolding IsLegalEntry
  not-movable lawful pid id t h = if_found old.machine (λ s. IsIllegalEntry n s (turn_entry pid id t)) (λ s is legal.
      some≢none (turn_of s.system pid id) (record { system = legal.0; turned = t }) legal.1
      (turns-move s.system pid id ∙ sym (turn-is old s (lawful.told s is) pid id) ∙ h))

  pub clock-ended : IsLawful old → (m : ℕ) → clock_limit ≤ old.clock → Plays n (tick_entry m) old new false
  unfolding IsLegalEntry
  clock-ended lawful m h = if_found old.machine (λ s. IsIllegalEntry n s (tick_entry m)) (λ s is legal.
      omega (arith, h, legal.0, clock-is old s (lawful.told s is)))

-- an entry whose actor does no such thing is not legal
misfit : (n : ℕ) (s : TracedState) (actor : Actor) (it : Act) → fits actor it ≡ false
    → IsIllegalEntry n s (record { actor = actor; act = it })
unfolding fits IsLegalEntry
misfit n s (Controller k) (Called c r) h = cc
misfit n s (Lwp p l) (Turn t) h = cc
misfit n s Clock (Tick m) h = cc
misfit n s _ _ h = λ legal. legal

pub unfitting : (n : ℕ) (o : Option TracedState) (actor : Actor) (it : Act) → fits actor it ≡ false
    → IfSome o (λ s. IsIllegalEntry n s (record { actor = actor; act = it }))
unfitting n o actor it h =
    if_found o (λ s. IsIllegalEntry n s (record { actor = actor; act = it })) (λ s is. misfit n s actor it h)

pub ruleset unfit = (unfitting)

-- ---- steps that were made

module _ (n : ℕ) (old new : KernelView) (by : ℕ) (c : Call) (r : Reply) (called : IsCalled by c old new) where
  reply-is : last_reply_of new.history ≡ Some called.reply
  reply-is = ap last_reply_of called.history ∙ last-reply old.history by c called.reply

  as-said : by < n → called.reply ≡ r → IsPlayed n (call_entry by c r) old new
  unfolding IsLegalEntry after
  as-said within same = record {
    history = called.history ∙ ap (λ (x : Reply). old.history ++ call_entry by c x ∷ []) same;
    places = called.places;
    machine = told-more old.machine (IsAnswer by c called.reply new.machine) _ called.machine (λ s is a.
        let answers : answer_to s by c ≡ Some (record { state = a.0; reply = r }) =
        a.1 ∙ ap (λ (x : Reply). let y : Answer = record { state = a.0; reply = x } in Some y) same in
        ((within, (a.0, answers)), a.2 ∙ ap Some (sym (ap (after_call s) answers))));
  }

  otherwise : called.reply ≢ r → IfSome old.machine (λ s. IsIllegalEntry n s (call_entry by c r))
  unfolding IsLegalEntry
  otherwise differ = told-more old.machine (IsAnswer by c called.reply new.machine) _ called.machine (λ s is a legal.
      differ (ap (λ (x : Answer). x.reply) (same_Some _ _ (sym a.1 ∙ legal.1.1))))

  pub called-so : by < n → (legal : Bool) → (legal ≡ true → last_reply_of new.history ≡ Some r)
      → (legal ≡ false → last_reply_of new.history ≢ Some r) → Plays n (call_entry by c r) old new legal
  called-so within true same differ = as-said within (same_Some _ _ (sym reply-is ∙ same refl))
  called-so within false same differ = otherwise (λ e. differ refl (reply-is ∙ ap Some e))

module _ (n : ℕ) (old new : KernelView) (pid id : ℕ) (did t : Turned) (turned : IsTurned pid id did old new) where
  done-so : did ≡ t → IsPlayed n (turn_entry pid id t) old new
  unfolding IsLegalEntry after
  done-so same = record {
    history = turned.history ∙ ap (λ (x : Turned). old.history ++ turn_entry pid id x ∷ []) same;
    places = turned.places;
    machine = told-more old.machine (IsTurnOf pid id did new.machine) _ turned.machine (λ s is a.
        let turns : turn_of s.system pid id ≡ Some (record { system = a.0; turned = t }) =
        a.1 ∙ ap (λ (x : Turned). let y : LwpTurn = record { system = a.0; turned = x } in Some y) same in
        ((a.0, turns), a.2 ∙ ap Some (sym (ap (after_turn s) turns))));
  }

  done-otherwise : did ≢ t → IfSome old.machine (λ s. IsIllegalEntry n s (turn_entry pid id t))
  unfolding IsLegalEntry
  done-otherwise differ = told-more old.machine (IsTurnOf pid id did new.machine) _ turned.machine (λ s is a legal.
      differ (ap (λ (x : LwpTurn). x.turned) (same_Some _ _ (sym a.1 ∙ legal.1))))

  pub turned-so : (legal : Bool) → (legal ≡ true → did ≡ t) → (legal ≡ false → did ≢ t)
      → Plays n (turn_entry pid id t) old new legal
  turned-so true same differ = done-so (same refl)
  turned-so false same differ = done-otherwise (differ refl)

module _ (n : ℕ) (old new : KernelView) (lawful : IsLawful old) (below : old.clock < clock_limit) (m : ℕ)
    (it : IsTicked old new) where
  came-to : new.clock ≡ m → IsPlayed n (tick_entry m) old new
  unfolding IsLegalEntry after
  came-to same = record {
    history = it.history ∙ ap (λ (x : ℕ). old.history ++ tick_entry x ∷ []) (sym it.clock ∙ same);
    places = it.places;
    machine = told-more old.machine (λ s. new.machine ≡ Some (with_system ticked s)) _ it.machine (λ s is a.
        let here = clock-is old s (lawful.told s is) in
        ((subst (λ (x : ℕ). x < clock_limit) here below, sym same ∙ it.clock ∙ ap (λ (x : ℕ). x + 1) here), a));
  }

  pub ticked-so : Plays n (tick_entry m) old new (new.clock == m)
  unfolding IsLegalEntry
  ticked-so = of (new.clock == m) refl
    where
      of : (b : Bool) → (new.clock == m) ≡ b → Plays n (tick_entry m) old new b
      of true e = came-to (eqb-true _ _ e)
      of false e = if_found old.machine (λ s. IsIllegalEntry n s (tick_entry m)) (λ s is legal.
          let here = clock-is old s (lawful.told s is) in
          let same : new.clock ≡ m = it.clock ∙ ap (λ (x : ℕ). x + 1) here ∙ sym legal.1 in
          search rules)
