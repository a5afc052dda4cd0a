use Rattle.std.proofs.Common.{◌≡◌, ◌<◌, ◌+◌, ℕ, true, Option, Some, None, is_some, List}
use Rattle.std.proofs.Common.{length, map, slice_get, slice_set, refl, sym, ap, subst, ◌∙◌, arith}
use Rattle.std.specs.Option.{ForSome, option_map}
use Rattle.std.proofs.lemmas.List.{map-set}
use Rattle.std.proofs.lemmas.Option.{same_Some, slice_get_past}
use Rattle.std.specs.List.{slice_index_or}
use Rattle.pr_api.specs.Entries.{call_entry, last_reply_of, tick_entry, turn_entry}
use Rattle.pr_api.specs.Views.{kernel_of}
use Rattle.pr_kern.specs.Kernels.{Kernel, TurnedKernel, after_answer, after_call, after_lwp_turn, after_tick}
use Rattle.pr_kern.specs.Kernels.{after_turn, with_entry}
use Rattle.pr_model.specs.Calls.{Answer, answer_to}
use Rattle.pr_model.specs.Legal.{IsLegalEntry, after, after_call as state_after_call, after_turn as state_after_turn}
use Rattle.pr_model.specs.LwpTurns.{LwpTurn, can_move as lwp_can_move, turn_of}
use Rattle.pr_model.specs.State.{TracedState}
use Rattle.pr_model.specs.declared.calls.Call.{Call}
use Rattle.pr_model.specs.declared.calls.Reply.{Reply}
use Rattle.pr_model.specs.declared.events.Actor.{Actor}
use Rattle.pr_model.specs.declared.events.Actor.TheVariants.{Controller as ByNumber, Lwp, Clock}
use Rattle.pr_num.specs.Limits.{clock_limit}
use Rattle.pr_world.proofs.MoveLemmas.{acts-early, fed-set, last-reply, with_call}
use Rattle.pr_world.specs.ControllerStates.{ControllerState, state_of}
use Rattle.pr_world.specs.Controllers.{after_reply, call_by, feed_at, with_fed}
use Rattle.pr_world.specs.Protocol.{controllers_after}
use Rattle.pr_world.specs.declared.controllers.Controller.{Controller}
use Rattle.pr_tool_laws.specs.OwnCalls.{IsOwnCall}
use Rattle.pr_drive.specs.Going.{Called, Moved, SeatsState, after_entry, can_move, outside_of}
use Rattle.pr_drive.specs.Going.{world_of}
use Rattle.pr_drive.proofs.SeatLemmas.{controller-can, lwp-can, seat-at}

-- A step of the kernel makes a move.

abbrev seats : Kernel → List ControllerState → SeatsState
seats k cs = record { kernel = k; controllers = cs }

-- ---- lwps

lwp-entry : (s : SeatsState) (pid id : ℕ) (t : LwpTurn) → turn_of s.kernel.state.system pid id ≡ Some t
    → seats (after_lwp_turn pid id s.kernel t).kernel s.controllers ≡ after_entry (turn_entry pid id t.turned) s
unfolding after controllers_after
lwp-entry s pid id t made =
    ap (λ (x : TracedState). seats (with_entry x (turn_entry pid id t.turned) s.kernel) s.controllers)
    (sym (ap (state_after_turn s.kernel.state) made))

lwp-legal : (n pid id : ℕ) (s : TracedState) (t : LwpTurn) → turn_of s.system pid id ≡ Some t
    → IsLegalEntry n s (turn_entry pid id t.turned)
unfolding IsLegalEntry
lwp-legal n pid id s t made = (t.system, made)

lwp-own : (cs : List ControllerState) (pid id : ℕ) (t : LwpTurn) → IsOwnCall cs (turn_entry pid id t.turned)
unfolding IsOwnCall
lwp-own cs pid id t = tt

pub lwp-moved : (until : ℕ) (s : SeatsState) (pid id : ℕ) (new : TurnedKernel) → can_move 0 s (Lwp pid id) ≡ true
    → length s.kernel.history < s.kernel.places → after_turn pid id s.kernel ≡ Some new
    → Moved until (Lwp pid id) s (seats new.kernel s.controllers)
unfolding after_turn
lwp-moved until s pid id new can place made = of (turn_of s.kernel.state.system pid id) refl made
  where
    of : (o : Option LwpTurn) → turn_of s.kernel.state.system pid id ≡ o
        → option_map (after_lwp_turn pid id s.kernel) o ≡ Some new
        → Moved until (Lwp pid id) s (seats new.kernel s.controllers)
    of None none e = absurd (cc)
    of (Some t) some e = record {
      entry = turn_entry pid id t.turned;
      its = refl;
      move = record {
        can = sym (lwp-can until s pid id) ∙ lwp-can 0 s pid id ∙ can;
        place = place;
        legal = lwp-legal (length s.controllers) pid id s.kernel.state t some;
        own = lwp-own s.controllers pid id t;
      };
      is = ap (λ (k : TurnedKernel). seats k.kernel s.controllers) (sym (same_Some _ new e))
          ∙ lwp-entry s pid id t some;
    }

-- ---- the clock

pub clock-early : (until : ℕ) (s : SeatsState) → can_move until s Clock ≡ true
    → s.kernel.state.system.clock < clock_limit
unfolding can_move world_of kernel_of
clock-early until s can = acts-early (world_of until s) can

pub clock-moved : (until : ℕ) (s : SeatsState) → length s.kernel.history < s.kernel.places
    → can_move until s Clock ≡ true → Moved until Clock s (seats (after_tick s.kernel) s.controllers)
unfolding after_tick after controllers_after IsLegalEntry IsOwnCall
clock-moved until s place can = record {
  entry = tick_entry (s.kernel.state.system.clock + 1);
  its = refl;
  move = record { can = can; place = place; legal = (clock-early until s can, refl); own = tt };
  is = refl;
}

-- ---- calls

call-entry : (s : SeatsState) (k : ℕ) (c : Call) (a : Answer) → answer_to s.kernel.state k c ≡ Some a
    → seats (after_answer k c s.kernel a) (with_fed k a.reply s.controllers) ≡ after_entry (call_entry k c a.reply) s
unfolding after controllers_after
call-entry s k c a made =
    ap (λ (x : TracedState). seats (with_entry x (call_entry k c a.reply) s.kernel) (with_fed k a.reply s.controllers))
    (sym (ap (state_after_call s.kernel.state) made))

-- a call that the kernel made, with the machine's answer
pub record IsAnswered (k : ℕ) (c : Call) (old new : Kernel) : Type 0 where
  pub answer : Answer
  pub answered : answer_to old.state k c ≡ Some answer
  pub is : new ≡ after_answer k c old answer

pub kernel-answered : (k : ℕ) (c : Call) (old new : Kernel) → after_call k c old ≡ Some new → IsAnswered k c old new
unfolding after_call
kernel-answered k c old new made = of (answer_to old.state k c) refl made
  where
    of : (o : Option Answer) → answer_to old.state k c ≡ o → option_map (after_answer k c old) o ≡ Some new
        → IsAnswered k c old new
    of None none e = absurd (cc)
    of (Some a) some e = record { answer = a; answered = some; is = sym (same_Some _ new e) }

-- the last reply is that of the answer
pub answered-reply : (k : ℕ) (c : Call) (old new : Kernel) (a : IsAnswered k c old new)
    → last_reply_of new.history ≡ Some a.answer.reply
answered-reply k c old new a = ap (λ (x : Kernel). last_reply_of x.history) a.is
    ∙ last-reply old.history k c a.answer.reply

call-legal : (n k : ℕ) (c : Call) (s : TracedState) (a : Answer) → k < n → answer_to s k c ≡ Some a
    → IsLegalEntry n s (call_entry k c a.reply)
unfolding IsLegalEntry
call-legal n k c s a within made = (within, (a.state, made))

call-own : (cs : List ControllerState) (k : ℕ) (c : Call) (r : Reply) → call_by cs k ≡ Some c
    → IsOwnCall cs (call_entry k c r)
unfolding IsOwnCall
call-own cs k c r next = λ within. next

some-of : {X : Type 0} (o : Option X) (x : X) → o ≡ Some x → is_some o ≡ true
some-of o x e = ap is_some e

-- a controller made its next call, and was fed the last reply
pub controller-moved : (until : ℕ) (s : SeatsState) (k : ℕ) (c : Call) (new : Kernel) (items : List Controller)
    (x y : Controller) → s.controllers ≡ map state_of items → k < length items → x ≡ slice_index_or items k x
    → call_by s.controllers k ≡ Some c → length s.kernel.history < s.kernel.places → after_call k c s.kernel ≡ Some new
    → ForSome (last_reply_of new.history) (λ reply. state_of y ≡ after_reply (state_of x) reply)
    → Moved until (ByNumber k) s (seats new (map state_of (slice_set items k y)))
controller-moved until s k c new items x y view within at next place made fed =
    let a = kernel-answered k c s.kernel new made in
    let got = fed a.answer.reply (answered-reply k c s.kernel new a) in
    let here : slice_get s.controllers k ≡ Some (state_of x) = ap (λ (cs : List ControllerState). slice_get cs k) view
    ∙ seat-at items k x within at in
    let set : map state_of (slice_set items k y) ≡ slice_set s.controllers k (state_of y) =
    map-set state_of items k y ∙ ap (λ (cs : List ControllerState). slice_set cs k (state_of y)) (sym view) in
    let feeds = set ∙ fed-set s.controllers k a.answer.reply (state_of x) (state_of y) here got in
    record {
      entry = call_entry k c a.answer.reply;
      its = refl;
      move = record {
        can = sym (controller-can until s k c (sym next)) ∙ some-of (answer_to s.kernel.state k c) a.answer a.answered;
        place = place;
        legal = call-legal (length s.controllers) k c s.kernel.state a.answer (with_call s.controllers k c next)
            a.answered;
        own = call-own s.controllers k c a.answer.reply next;
      };
      is = ap (λ (x : Kernel). seats x (map state_of (slice_set items k y))) a.is
          ∙ ap (λ (cs : List ControllerState). seats (after_answer k c s.kernel a.answer) cs) feeds
          ∙ call-entry s k c a.answer a.answered;
    }

-- the outside is none of the controllers, and gets the reply alone
pub outside-fed : (cs : List ControllerState) (r : Reply) → with_fed (length cs) r cs ≡ cs
unfolding with_fed
outside-fed cs r = ap (feed_at (length cs) r cs) (slice_get_past cs (length cs) (omega arith))

pub outside-called : (s : SeatsState) (c : Call) (new : Kernel) → length s.kernel.history < s.kernel.places
    → after_call (outside_of s) c s.kernel ≡ Some new → Called c s (seats new s.controllers)
outside-called s c new place made =
    let a = kernel-answered (outside_of s) c s.kernel new made in
    record {
      answer = a.answer;
      answered = a.answered;
      place = place;
      is = ap (λ (x : Kernel). seats x s.controllers) a.is
          ∙ ap (λ (cs : List ControllerState). seats (after_answer (outside_of s) c s.kernel a.answer) cs)
          (sym (outside-fed s.controllers a.answer.reply))
          ∙ call-entry s (outside_of s) c a.answer a.answered;
    }

-- ---- the same from inside a seat, whose fields these are

module _ (s : SeatsState) (kern : Kernel) (cs : List ControllerState) (is : seats kern cs ≡ s) where
  pub placed : length s.kernel.history < s.kernel.places → length kern.history < kern.places
  placed place = let P : SeatsState → Type 0 = λ x. length x.kernel.history < x.kernel.places in subst P (sym is) place

  can-inside : (until : ℕ) (actor : Actor) → can_move until s actor ≡ true → can_move until (seats kern cs) actor ≡ true
  can-inside until actor can = ap (λ (x : SeatsState). can_move until x actor) is ∙ can

  pub lwp-can_turn : (pid id : ℕ) → can_move 0 s (Lwp pid id) ≡ true → lwp_can_move kern.state.system pid id ≡ true
  lwp-can_turn pid id can = lwp-can 0 (seats kern cs) pid id ∙ can-inside 0 (Lwp pid id) can

  pub lwp-turned : (pid id : ℕ) (new : TurnedKernel) → can_move 0 s (Lwp pid id) ≡ true
      → length s.kernel.history < s.kernel.places → after_turn pid id kern ≡ Some new → (until : ℕ)
      → Moved until (Lwp pid id) s (seats new.kernel cs)
  lwp-turned pid id new can place made until =
      let P : SeatsState → Type 0 = λ x. Moved until (Lwp pid id) x (seats new.kernel cs) in
      subst P is (lwp-moved until (seats kern cs) pid id new (can-inside 0 (Lwp pid id) can) (placed place) made)

  pub clock-below : (until : ℕ) → can_move until s Clock ≡ true → kern.state.system.clock < clock_limit
  clock-below until can = clock-early until (seats kern cs) (can-inside until Clock can)

  pub clock-ticked : (new : Kernel) → length s.kernel.history < s.kernel.places → new ≡ after_tick kern → (until : ℕ)
      → can_move until s Clock ≡ true → Moved until Clock s (seats new cs)
  clock-ticked new place made until can =
      let P : SeatsState → Type 0 = λ x. Moved until Clock x (seats (after_tick kern) cs) in
      let Q : Kernel → Type 0 = λ x. Moved until Clock s (seats x cs) in
      subst Q (sym made) (subst P is (clock-moved until (seats kern cs) (placed place) (can-inside until Clock can)))

  next-inside : (k : ℕ) (c : Call) → call_by s.controllers k ≡ Some c → call_by cs k ≡ Some c
  next-inside k c next = ap (λ (x : SeatsState). call_by x.controllers k) is ∙ next

  pub among : (k : ℕ) (c : Call) → call_by s.controllers k ≡ Some c → k < length cs
  among k c next = with_call cs k c (next-inside k c next)

  pub called-back : (k : ℕ) (c : Call) (new : Kernel) (items : List Controller) (x y : Controller)
      → cs ≡ map state_of items → k < length items → x ≡ slice_index_or items k x
      → call_by s.controllers k ≡ Some c → length s.kernel.history < s.kernel.places → after_call k c kern ≡ Some new
      → ForSome (last_reply_of new.history) (λ reply. state_of y ≡ after_reply (state_of x) reply)
      → (until : ℕ) → Moved until (ByNumber k) s (seats new (map state_of (slice_set items k y)))
  called-back k c new items x y view within at next place made fed until =
      let P : SeatsState → Type 0 = λ z. Moved until (ByNumber k) z (seats new (map state_of (slice_set items k y))) in
      subst P is
      (controller-moved until (seats kern cs) k c new items x y view within at (next-inside k c next) (placed place)
      made fed)

  pub from-outside : (c : Call) (new : Kernel) (n : ℕ) → n ≡ outside_of s → length s.kernel.history < s.kernel.places
      → after_call n c kern ≡ Some new → Called c s (seats new cs)
  from-outside c new n number place made =
      let P : SeatsState → Type 0 = λ x. Called c x (seats new cs) in
      let same : n ≡ length cs = number ∙ ap outside_of (sym is) in
      subst P is
      (outside-called (seats kern cs) c new (placed place) (ap (λ (m : ℕ). after_call m c kern) (sym same) ∙ made))
