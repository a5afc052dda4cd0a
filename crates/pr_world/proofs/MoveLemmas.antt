use Rattle.std.proofs.Common.{◌≡◌, ◌<◌, ◌+◌, ◌-◌, ◌&&◌, ℕ, Bool, true, false, Option, Some, None, IfSome, IsSome, List, [], ◌∷◌, ◌++◌, length, slice_get, slice_set, nat_lt, refl, sym, ◌∙◌, ap, subst, arith, rules, length-append}
use Rattle.std.proofs.lemmas.Option.{same_Some, slice_get_within}
use borrow.Author.Tests.{ltb-true}
use Rattle.std.specs.Borrow.{Bor}
use Rattle.std.specs.Option.{option_and_then, option_copied}
use Rattle.pr_num.specs.Limits.{clock_limit}
use Rattle.pr_api.specs.Entries.{call_entry, last_reply_of, reply_of, tick_entry, turn_entry}
use Rattle.pr_api.specs.Steps.{IsAnswer, IsCalled, IsTicked, IsTurned, IsTurnOf}
use Rattle.pr_api.specs.Views.{IsLawful, KernelView, kernel_of}
use Rattle.pr_model.specs.Legal.{IsLegalEntry, after, after_call, after_turn, ticked}
use Rattle.pr_model.specs.State.{TracedState, with_system}
use Rattle.pr_model.specs.declared.calls.Call.{Call}
use Rattle.pr_model.specs.declared.calls.Reply.{Reply}
use Rattle.pr_model.specs.declared.events.Act.TheVariants.{Call as Called, Turn, Tick}
use Rattle.pr_model.specs.declared.events.Actor.TheVariants.{Controller, Lwp, Clock}
use Rattle.pr_model.specs.declared.events.Entry.{Entry}
use Rattle.pr_model.specs.declared.events.Turned.{Turned}
use Rattle.pr_world.specs.Controllers.{after_reply, call_by, feed_at, is_clock_awaited, next_call, with_fed}
use Rattle.pr_world.specs.Moves.{Does, IsMachines, IsShaped, Leads, Moves}
use Rattle.pr_world.specs.Protocol.{controllers_after}
use Rattle.pr_world.specs.Worlds.{WorldOf, WorldState, can_act, is_answered, seen}
use Rattle.pr_world.specs.Answered.{Answered}
use Rattle.pr_world.specs.ControllerStates.{ControllerState}

-- A step of the kernel makes a move of the world.

-- what follows of a machine that is told
told : {X : Type 0} (o : Option X) (A B : X → Type 0) → ((x : X) → o ≡ Some x → A x → B x) → IfSome o A → IfSome o B
told None A B f a = tt
told (Some x) A B f a = f x refl a

-- ---- the last reply

at-end : (h : List Entry) (e : Entry) → slice_get (h ++ e ∷ []) (length h) ≡ Some e
at-end [] e = refl
at-end (x ∷ h) e = at-end h e

-- the last entry of a list one longer
last-pushed : (h : List Entry) (e : Entry) → slice_get (h ++ e ∷ []) (length (h ++ e ∷ []) - 1) ≡ Some e
last-pushed h e = let there : length (h ++ e ∷ []) - 1 ≡ length h = omega (arith, length-append h (e ∷ [])) in
    ap (slice_get (h ++ e ∷ [])) there ∙ at-end h e

pub last-reply : (h : List Entry) (k : ℕ) (c : Call) (r : Reply) → last_reply_of (h ++ call_entry k c r ∷ []) ≡ Some r
unfolding last_reply_of
last-reply h k c r = ap (option_and_then reply_of) (last-pushed h (call_entry k c r))

copied-some : {X : Type 0} (o : Option (Bor X)) (x : X) → option_copied o ≡ Some x → IsSome o
copied-some None x e = cc
copied-some (Some b) x e = search rules

module _ (k : ℕ) (c : Call) (old new : KernelView) (called : IsCalled k c old new) where
  called-reply : last_reply_of new.history ≡ Some called.reply
  called-reply = ap last_reply_of called.history ∙ last-reply old.history k c called.reply

  -- after a call there is a reply
  pub replied : (o : Option (Bor Reply)) → option_copied o ≡ last_reply_of new.history → IsSome o
  replied o is = copied-some o called.reply (is ∙ called-reply)

-- ---- who has a next call is one of the controllers

has_call : (controllers : List ControllerState) (k : ℕ) (o : Option ControllerState) (c : Call)
    → slice_get controllers k ≡ o → option_and_then next_call o ≡ Some c → k < length controllers
has_call controllers k None c found is = cc
has_call controllers k (Some s) c found is = slice_get_within controllers k s found

pub with_call : (controllers : List ControllerState) (k : ℕ) (c : Call) → call_by controllers k ≡ Some c
    → k < length controllers
unfolding call_by
with_call controllers k c is = has_call controllers k (slice_get controllers k) c refl is

-- the call of a controller that can move, and that it is ready
pub record HasCall (w : WorldState) (k : ℕ) : Type 0 where
  pub call : Call
  pub next : call_by w.controllers k ≡ Some call
  pub ready : w.kernel.is_ready k call ≡ true

pub acts-call : (w : WorldState) (k : ℕ) → can_act w (Controller k) ≡ true → HasCall w k
unfolding can_act
acts-call w k h = of (call_by w.controllers k) refl h
  where
    of : (o : Option Call) → call_by w.controllers k ≡ o → is_answered w.kernel k o ≡ true → HasCall w k
    of None is h = cc
    of (Some c) is h = record { call = c; next = is; ready = h }

-- a controller that is fed
pub fed-set : (controllers : List ControllerState) (k : ℕ) (r : Reply) (c new : ControllerState)
    → slice_get controllers k ≡ Some c → new ≡ after_reply c r → slice_set controllers k new ≡ with_fed k r controllers
unfolding with_fed
fed-set controllers k r c new at is = ap (slice_set controllers k) is ∙ ap (feed_at k r controllers) (sym at)

-- ---- one lemma a kind of move

answer-machines : (n k : ℕ) (c : Call) (r : Reply) (now : Option TracedState) (s : TracedState) → k < n
    → IsAnswer k c r now s → IsMachines n (call_entry k c r) now s
unfolding IsLegalEntry after
answer-machines n k c r now s within made = record {
  legal = (within, (made.0, made.1));
  state = made.2 ∙ ap Some (sym (ap (after_call s) made.1));
}

pub controller-leads : (w v : WorldState) (k : ℕ) (c : Call) (r : Reply) → can_act w (Controller k) ≡ true
    → call_by w.controllers k ≡ Some c → v.kernel.history ≡ w.kernel.history ++ call_entry k c r ∷ []
    → v.kernel.places ≡ w.kernel.places
    → IfSome w.kernel.machine (IsAnswer k c r v.kernel.machine) → v.controllers ≡ with_fed k r w.controllers
    → v.schedule ≡ w.schedule → v.last ≡ w.last → IsLawful v.kernel → Leads w (Controller k) v
unfolding Does controllers_after
controller-leads w v k c r acts next history places machine fed schedule last lawful = record {
  act = Called c r;
  acts = acts;
  does = next;
  history = history;
  places = places;
  controllers = fed;
  schedule = schedule;
  last = last;
  machine =
      told w.kernel.machine _ _
      (λ s is made.
      answer-machines (length w.controllers) k c r v.kernel.machine s (with_call w.controllers k c next) made) machine;
  lawful = lawful;
}

pub controller-moves : (w v : WorldState) (k : ℕ) (c : Call) (r : Reply) → can_act w (Controller k) ≡ true
    → call_by w.controllers k ≡ Some c → IsCalled k c w.kernel v.kernel → last_reply_of v.kernel.history ≡ Some r
    → v.controllers ≡ with_fed k r w.controllers
    → v.schedule ≡ w.schedule → v.last ≡ w.last → IsLawful v.kernel → Moves w (Controller k) v
unfolding controller-leads IsShaped
controller-moves w v k c r acts next called reply fed schedule last lawful =
    let same : called.reply ≡ r = same_Some called.reply r (sym (called-reply k c w.kernel v.kernel called) ∙ reply) in
    let feeds : v.controllers ≡ with_fed k called.reply w.controllers =
    fed ∙ ap (λ (x : Reply). with_fed k x w.controllers) (sym same) in
    record {
      leads =
          controller-leads w v k c called.reply acts next called.history called.places called.machine feeds schedule
          last
          lawful;
      shaped = called.shaped;
    }

turn-machines : (n pid id : ℕ) (t : Turned) (now : Option TracedState) (s : TracedState) → IsTurnOf pid id t now s
    → IsMachines n (turn_entry pid id t) now s
unfolding IsLegalEntry after
turn-machines n pid id t now s made = record {
  legal = (made.0, made.1);
  state = made.2 ∙ ap Some (sym (ap (after_turn s) made.1));
}

pub lwp-leads : (w v : WorldState) (pid id : ℕ) (t : Turned) → can_act w (Lwp pid id) ≡ true
    → IsTurned pid id t w.kernel v.kernel → v.controllers ≡ w.controllers → v.schedule ≡ w.schedule → v.last ≡ w.last
    → IsLawful v.kernel → Leads w (Lwp pid id) v
unfolding Does controllers_after
lwp-leads w v pid id t acts turned controllers schedule last lawful = record {
  act = Turn t;
  acts = acts;
  does = tt;
  history = turned.history;
  places = turned.places;
  controllers = controllers;
  schedule = schedule;
  last = last;
  machine =
      told w.kernel.machine _ _
      (λ s is made. turn-machines (length w.controllers) pid id t v.kernel.machine s made) turned.machine;
  lawful = lawful;
}

pub lwp-moves : (w v : WorldState) (pid id : ℕ) (t : Turned) → can_act w (Lwp pid id) ≡ true
    → IsTurned pid id t w.kernel v.kernel → v.controllers ≡ w.controllers → v.schedule ≡ w.schedule → v.last ≡ w.last
    → IsLawful v.kernel → Moves w (Lwp pid id) v
unfolding lwp-leads IsShaped
lwp-moves w v pid id t acts turned controllers schedule last lawful =
    record { leads = lwp-leads w v pid id t acts turned controllers schedule last lawful; shaped = tt }

-- the clock is awaited below its last moment alone
pub awaited-early : (clock : ℕ) (sleeper : Bool) (controllers : List ControllerState)
    → is_clock_awaited clock sleeper controllers ≡ true → clock < clock_limit
unfolding is_clock_awaited
awaited-early clock sleeper controllers is = ltb-true clock clock_limit (and_left (nat_lt clock clock_limit) _ is)
  where
    and_left : (a b : Bool) → (a && b) ≡ true → a ≡ true
    and_left true b h = refl
    and_left false b h = cc

pub acts-early : (w : WorldState) → can_act w Clock ≡ true → w.kernel.clock < clock_limit
unfolding can_act
acts-early w h = awaited-early w.kernel.clock w.kernel.has_sleeper w.controllers h

-- the clock of a kernel that tells its machine is the machine's
pub told-clock : (k : KernelView) (s : TracedState) → IsLawful k → k.machine ≡ Some s → k.clock ≡ s.system.clock
unfolding kernel_of
told-clock k s lawful is = ap (λ (x : KernelView). x.clock) (lawful.told s is)

tick-machines : (n clock : ℕ) (now : Option TracedState) (s : TracedState) → clock ≡ s.system.clock
    → clock < clock_limit → now ≡ Some (with_system ticked s) → IsMachines n (tick_entry (clock + 1)) now s
unfolding IsLegalEntry after
tick-machines n clock now s same early made = record {
  legal = (subst (λ (m : ℕ). m < clock_limit) same early, ap (λ m. m + 1) same);
  state = made;
}

pub clock-leads : (w v : WorldState) → can_act w Clock ≡ true → IsTicked w.kernel v.kernel
    → v.controllers ≡ w.controllers → v.schedule ≡ w.schedule → v.last ≡ w.last → IsLawful w.kernel → IsLawful v.kernel
    → Leads w Clock v
unfolding Does controllers_after
clock-leads w v acts made controllers schedule last before lawful = record {
  act = Tick (w.kernel.clock + 1);
  acts = acts;
  does = (refl, made.clock);
  history = made.history;
  places = made.places;
  controllers = controllers;
  schedule = schedule;
  last = last;
  machine =
      told w.kernel.machine _ _
      (λ s is now.
      tick-machines (length w.controllers) w.kernel.clock v.kernel.machine s (told-clock w.kernel s before is)
      (acts-early w acts) now) made.machine;
  lawful = lawful;
}

pub clock-moves : (w v : WorldState) → can_act w Clock ≡ true → IsTicked w.kernel v.kernel
    → v.controllers ≡ w.controllers → v.schedule ≡ w.schedule → v.last ≡ w.last → IsLawful w.kernel → IsLawful v.kernel
    → Moves w Clock v
unfolding clock-leads IsShaped
clock-moves w v acts made controllers schedule last before lawful =
    record { leads = clock-leads w v acts made controllers schedule last before lawful; shaped = tt }

-- ---- the world of any kernel, whose fields are these

module _ {K : Type 0} (view : K → KernelView) (lawful : (k : K) → IsLawful (view k)) (w inside : WorldOf K)
    (is : inside ≡ w) where
  pub lwp-moved : (kern : K) (pid id : ℕ) (t : Turned) → can_act (seen view w) (Lwp pid id) ≡ true
      → IsTurned pid id t (view inside.kernel) (view kern)
      → Moves (seen view w) (Lwp pid id) (seen view (record inside { kernel = kern }))
  lwp-moved kern pid id t acts turned =
      let here : can_act (seen view inside) (Lwp pid id) ≡ true =
      ap (λ (x : WorldOf K). can_act (seen view x) (Lwp pid id)) is ∙ acts in
      subst (λ (x : WorldOf K). Moves (seen view x) (Lwp pid id) (seen view (record inside { kernel = kern }))) is
      (lwp-moves (seen view inside) (seen view (record inside { kernel = kern })) pid id t here turned refl refl refl
      (lawful kern))

  pub clock-early : can_act (seen view w) Clock ≡ true → (view inside.kernel).clock < clock_limit
  clock-early acts = acts-early (seen view inside) (ap (λ (x : WorldOf K). can_act (seen view x) Clock) is ∙ acts)

  pub clock-moved : (kern : K) → can_act (seen view w) Clock ≡ true → IsTicked (view inside.kernel) (view kern)
      → Moves (seen view w) Clock (seen view (record inside { kernel = kern }))
  clock-moved kern acts made =
      let here : can_act (seen view inside) Clock ≡ true =
      ap (λ (x : WorldOf K). can_act (seen view x) Clock) is ∙ acts in
      subst (λ (x : WorldOf K). Moves (seen view x) Clock (seen view (record inside { kernel = kern }))) is
      (clock-moves (seen view inside) (seen view (record inside { kernel = kern })) here made refl refl refl
      (lawful inside.kernel) (lawful kern))

  module _ (k : ℕ) (acts : can_act (seen view w) (Controller k) ≡ true) where
    here : can_act (seen view inside) (Controller k) ≡ true
    here = ap (λ (x : WorldOf K). can_act (seen view x) (Controller k)) is ∙ acts

    module _ (c : Call) (next : call_by w.controllers k ≡ Some c) where
      next_here : call_by inside.controllers k ≡ Some c
      next_here = ap (λ (x : WorldOf K). call_by x.controllers k) is ∙ next

      controller-moved : (kern : K) (r : Reply) (fed : List ControllerState)
          → IsCalled k c (view inside.kernel) (view kern) → last_reply_of (view kern).history ≡ Some r
          → fed ≡ with_fed k r inside.controllers
          → Moves (seen view w) (Controller k) (seen view (record inside { kernel = kern; controllers = fed }))
      controller-moved kern r fed called reply feeds =
          subst (λ (x : WorldOf K).
          Moves (seen view x) (Controller k) (seen view (record inside { kernel = kern; controllers = fed }))) is
          (controller-moves (seen view inside)
          (seen view (record inside { kernel = kern; controllers = fed })) k c r here next_here called reply feeds
          refl refl (lawful kern))

    -- who can move is one of the controllers
    pub acts-within : k < length inside.controllers
    acts-within = let h = acts-call (seen view inside) k here in with_call inside.controllers k h.call h.next

    module _ (x : ControllerState) (at : slice_get inside.controllers k ≡ Some x) where
      call-here : call_by inside.controllers k ≡ next_call x
      unfolding call_by
      call-here = ap (option_and_then next_call) at

      -- its call is answered
      pub acts-answered : is_answered (view inside.kernel) k (next_call x) ≡ true
      unfolding can_act
      acts-answered = ap (is_answered (view inside.kernel) k) (sym call-here) ∙ here

      -- and when it was, the controller has moved
      pub answered-moved : (kern : K) (new : ControllerState) (controllers : List ControllerState)
          → controllers ≡ slice_set inside.controllers k new → Answered k (view inside.kernel) (view kern) x new
          → Moves (seen view w) (Controller k) (seen view (record inside { kernel = kern; controllers = controllers }))
      answered-moved kern new controllers set a =
          let next : call_by w.controllers k ≡ Some a.call =
          ap (λ (y : WorldOf K). call_by y.controllers k) (sym is) ∙ call-here ∙ a.next in
          controller-moved a.call next kern a.reply controllers a.called a.replied
          (set ∙ fed-set inside.controllers k a.reply x new at a.fed)
