-- What a machine's own step says of an entry that it is made to play.
use Rattle.std.proofs.Common.{◌≡◌, ◌==◌, ◌&&◌, ◌<◌, ◌≤◌, ◌+◌, ℕ, Bool, true, false, Option, Some, None, is_some, nat_lt, refl, sym, ◌∙◌, ap, arith}
use Rattle.std.proofs.lemmas.Bool.Decides.{nat_tests}
use Rattle.pr_api.specs.Entries.{call_entry, tick_entry, turn_entry}
use Rattle.pr_model.specs.Calls.{Answer, answer_to}
use Rattle.pr_model.specs.Legal.{after, after_call, after_turn, ticked}
use Rattle.pr_model.specs.LwpTurns.{LwpTurn, can_move, turn_of}
use Rattle.pr_model.specs.State.{TracedState, TracedSystem, with_system}
use Rattle.pr_model.specs.declared.calls.Call.{Call}
use Rattle.pr_model.specs.declared.calls.Reply.{Reply}
use Rattle.pr_model.specs.declared.events.Act.{Act}
use Rattle.pr_model.specs.declared.events.Act.TheVariants.{Call as Called, Turn, Tick}
use Rattle.pr_model.specs.declared.events.Actor.{Actor}
use Rattle.pr_model.specs.declared.events.Actor.TheVariants.{Controller, Lwp, Clock}
use Rattle.pr_model.specs.declared.events.Entry.{Entry}
use Rattle.pr_model.specs.declared.events.Turned.{Turned}
use Rattle.pr_num.specs.Limits.{clock_limit}
use Rattle.pr_world.proofs.ToldLemmas.{turns-move}
use Rattle.pr_judge.specs.Judgements.{answers_so, fits, is_legal_entry, turns_so}
use Rattle.pr_judge.specs.Players.{HasTried}
use Rattle.pr_judge.specs.Replies.{same_reply}
use Rattle.pr_judge.specs.Turns.{same_turn}

below : (a b : ℕ) → a < b → nat_lt a b ≡ true
below a b h = grind (arith, nat_tests)

not-below : (a b : ℕ) → b ≤ a → nat_lt a b ≡ false
not-below a b h = grind (arith, nat_tests)

-- ---- an actor that did no such thing

unfit-call : (actor : Actor) (it : Act) (k : ℕ) → actor ≡ Controller k
    → ((c : Call) → (r : Reply) → it ≡ Called c r → ⊥) → fits actor it ≡ false
unfolding fits
unfit-call (Controller j) (Called c r) k is other = absurd (other c r refl)
unfit-call (Controller j) (Turn t) k is other = refl
unfit-call (Controller j) (Tick m) k is other = refl
unfit-call (Lwp p l) it k is other = cc
unfit-call Clock it k is other = cc

unfit-turn : (actor : Actor) (it : Act) (p l : ℕ) → actor ≡ Lwp p l → ((t : Turned) → it ≡ Turn t → ⊥)
    → fits actor it ≡ false
unfolding fits
unfit-turn (Lwp q k) (Called c r) p l is other = refl
unfit-turn (Lwp q k) (Turn t) p l is other = absurd (other t refl)
unfit-turn (Lwp q k) (Tick m) p l is other = refl
unfit-turn (Controller k) it p l is other = cc
unfit-turn Clock it p l is other = cc

unfit-tick : (actor : Actor) (it : Act) → actor ≡ Clock → ((m : ℕ) → it ≡ Tick m → ⊥) → fits actor it ≡ false
unfolding fits
unfit-tick Clock (Called c r) is other = refl
unfit-tick Clock (Turn t) is other = refl
unfit-tick Clock (Tick m) is other = absurd (other m refl)
unfit-tick (Controller k) it is other = cc
unfit-tick (Lwp p l) it is other = cc

-- ---- steps that were not made: the entry is not legal

module _ (n : ℕ) (s new : TracedState) where
  -- an entry whose actor does no such thing
  tried-misfit : (actor : Actor) (it : Act) → fits actor it ≡ false
      → HasTried n (record { actor = actor; act = it }) s new false
  unfolding fits is_legal_entry
  tried-misfit (Controller k) (Called c r) h = cc
  tried-misfit (Lwp p l) (Turn t) h = cc
  tried-misfit Clock (Tick m) h = cc
  tried-misfit _ _ h = record { is = refl; state = λ e. cc }

  pub tried-no-call : (e : Entry) (k : ℕ) → e.actor ≡ Controller k
      → ((c : Call) → (r : Reply) → e.act ≡ Called c r → ⊥) → HasTried n e s new false
  tried-no-call e k is other = tried-misfit e.actor e.act (unfit-call e.actor e.act k is other)

  pub tried-no-turn : (e : Entry) (p l : ℕ) → e.actor ≡ Lwp p l → ((t : Turned) → e.act ≡ Turn t → ⊥)
      → HasTried n e s new false
  tried-no-turn e p l is other = tried-misfit e.actor e.act (unfit-turn e.actor e.act p l is other)

  pub tried-no-tick : (e : Entry) → e.actor ≡ Clock → ((m : ℕ) → e.act ≡ Tick m → ⊥) → HasTried n e s new false
  tried-no-tick e is other = tried-misfit e.actor e.act (unfit-tick e.actor e.act is other)

  -- a controller that there is not
  pub tried-stranger : (by : ℕ) (c : Call) (r : Reply) → n ≤ by → HasTried n (call_entry by c r) s new false
  unfolding is_legal_entry
  tried-stranger by c r h = record {
    is = sym (ap (λ (b : Bool). b && answers_so (answer_to s by c) r) (not-below by n h));
    state = λ e. cc;
  }

  unanswered : (o : Option Answer) (r : Reply) → is_some o ≡ false → answers_so o r ≡ false
  unanswered None r h = refl
  unanswered (Some a) r h = cc

  nothing-and : (b c : Bool) → c ≡ false → false ≡ (b && c)
  nothing-and true c h = sym h
  nothing-and false c h = refl

  -- a call that is not ready
  pub tried-unready : (by : ℕ) (c : Call) (r : Reply) → is_some (answer_to s by c) ≡ false
      → HasTried n (call_entry by c r) s new false
  unfolding is_legal_entry
  tried-unready by c r h = record {
    is = nothing-and (nat_lt by n) (answers_so (answer_to s by c) r) (unanswered (answer_to s by c) r h);
    state = λ e. cc;
  }

  turned-not : (o : Option LwpTurn) (t : Turned) → is_some o ≡ false → false ≡ turns_so o t
  turned-not None t h = refl
  turned-not (Some a) t h = cc

  -- an lwp that cannot have a turn
  pub tried-still : (pid id : ℕ) (t : Turned) → can_move s.system pid id ≡ false
      → HasTried n (turn_entry pid id t) s new false
  unfolding is_legal_entry
  tried-still pid id t h = record {
    is = turned-not (turn_of s.system pid id) t (turns-move s.system pid id ∙ h);
    state = λ e. cc;
  }

  -- a tick behind the clock's last moment
  pub tried-late : (m : ℕ) → clock_limit ≤ s.system.clock → HasTried n (tick_entry m) s new false
  unfolding is_legal_entry
  tried-late m h = record {
    is = sym (ap (λ (b : Bool). b && (m == s.system.clock + 1)) (not-below s.system.clock clock_limit h));
    state = λ e. cc;
  }

-- ---- steps that were made: the entry is legal where it says what they gave

module _ (n : ℕ) (s : TracedState) where
  pub tried-call : (by : ℕ) (c : Call) (r given : Reply) (new : TracedState) → by < n
      → answer_to s by c ≡ Some (record { state = new; reply = given })
      → HasTried n (call_entry by c r) s new (same_reply given r)
  unfolding is_legal_entry after
  tried-call by c r given new within made = record {
    is =
        sym (ap (λ (b : Bool). b && answers_so (answer_to s by c) r) (below by n within)
        ∙ ap (λ (o : Option Answer). answers_so o r) made);
    state = λ e. sym (ap (after_call s) made);
  }

  pub tried-turn : (pid id : ℕ) (t made : Turned) (system : TracedSystem)
      → turn_of s.system pid id ≡ Some (record { system = system; turned = made })
      → HasTried n (turn_entry pid id t) s (record s { system = system }) (same_turn made t)
  unfolding is_legal_entry after
  tried-turn pid id t made system is = record {
    is = sym (ap (λ (o : Option LwpTurn). turns_so o t) is);
    state = λ e. sym (ap (after_turn s) is);
  }

  pub tried-tick : (m : ℕ) → s.system.clock < clock_limit
      → HasTried n (tick_entry m) s (with_system ticked s) (m == s.system.clock + 1)
  unfolding is_legal_entry after
  tried-tick m early = record {
    is = sym (ap (λ (b : Bool). b && (m == s.system.clock + 1)) (below s.system.clock clock_limit early));
    state = λ e. refl;
  }
