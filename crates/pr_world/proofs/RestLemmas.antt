use Rattle.std.proofs.Common.{◌≡◌, ◌<◌, ◌≤◌, ◌+◌, ◌-◌, ◌&&◌, ◌⊎◌, inl, inr, ℕ, zero, suc, Bool, true, false, Option, Some, None, is_some, List, [], ◌∷◌, length, cond, find, nat_lt, refl, sym, ◌∙◌, ap, arith}
use Rattle.std.proofs.lemmas.Bool.{and_parts}
use Rattle.std.proofs.lemmas.Option.{same_Some}
use Rattle.std.specs.List.{range_with_len, slice_index_or}
use Rattle.std.specs.Option.{option_map, option_or}
use Rattle.pr_num.proofs.SearchLemmas.{find-passes}
use Rattle.pr_api.specs.Views.{IsLawful, KernelView, is_after, next_of, turns_after}
use Rattle.pr_model.specs.declared.events.Actor.{Actor}
use Rattle.pr_model.specs.declared.events.Actor.TheVariants.{Controller, Lwp, Clock}
use Rattle.pr_world.specs.declared.ends.End.{End}
use Rattle.pr_world.specs.declared.ends.End.TheVariants.{Quiet, Spent, Stuck}
use Rattle.pr_world.specs.Worlds.{Pick, WorldState, actor_of, as_lwp, can_act, clock_if_awaited, controller_acts, first_controller, first_lwp, first_scheduled, from_controller, from_lwp, in_rounds, WorldOf, all_finished, end_of, end_with, ended_as, goes_on, quiet_end, seen, next_actor, next_in_round, next_in_rounds, next_pick}
use Rattle.pr_world.proofs.MoveLemmas.{acts-call, with_call}
use Rattle.pr_num.proofs.BoolLemmas.{not_both}

-- ---- who is next, can move

pub either : (a b : Option Actor) (x : Actor) (P : Actor → Type 0) → option_or a b ≡ Some x → (a ≡ Some x → P x)
    → (b ≡ Some x → P x) → P x
either (Some y) b x P e left right = left e
either None b x P e left right = right e

pub mapped-back : {X Y : Type 0} (f : X → Y) (o : Option X) (y : Y) → option_map f o ≡ Some y
    → (x : X) × ((o ≡ Some x) × (y ≡ f x))
mapped-back f None y e = cc
mapped-back f (Some x) y e = (x, (refl, sym (same_Some (f x) y e)))

Acts : WorldState → Actor → Type 0
Acts w a = can_act w a ≡ true

controller-next : (w : WorldState) (from : ℕ) (a : Actor) → first_controller w from ≡ Some a → can_act w a ≡ true
unfolding first_controller controller_acts
controller-next w from a e =
    let numbers = range_with_len from (length w.controllers - from) in
    let found = mapped-back Controller (find (controller_acts w) numbers) a e in
    ap (can_act w) found.1.1 ∙ find-passes (controller_acts w) numbers found.0 found.1.0

lwp-next : (w : WorldState) (after : Option (ℕ × ℕ)) (a : Actor) → first_lwp w after ≡ Some a → can_act w a ≡ true
unfolding first_lwp next_of turns_after can_act
lwp-next w after a e =
    let found = mapped-back as_lwp (find (turns_after w.kernel after) w.kernel.lwps) a e in
    ap (can_act w) found.1.1
    ∙ (and_parts _ _ (find-passes (turns_after w.kernel after) w.kernel.lwps found.0 found.1.0)).1

clock-next : (w : WorldState) (b : Bool) (a : Actor) → can_act w Clock ≡ b → cond b (Some Clock) None ≡ Some a
    → can_act w a ≡ true
clock-next w true a is e = ap (can_act w) (sym (same_Some Clock a e)) ∙ is
clock-next w false a is e = cc

pub from_lwp-next : (w : WorldState) (after : Option (ℕ × ℕ)) (a : Actor) → from_lwp w after ≡ Some a
    → can_act w a ≡ true
unfolding from_lwp clock_if_awaited
from_lwp-next w after a e =
    either (first_lwp w after) _ a (λ x. can_act w x ≡ true) e (lwp-next w after a)
    (clock-next w (can_act w Clock) a refl)

from_controller-next : (w : WorldState) (k : ℕ) (a : Actor) → from_controller w k ≡ Some a → can_act w a ≡ true
unfolding from_controller
from_controller-next w k a e =
    either (first_controller w k) (from_lwp w None) a (λ x. can_act w x ≡ true) e (controller-next w k a)
    (from_lwp-next w None a)

round-next : (w : WorldState) (last : Option Actor) (a : Actor) → next_in_round w last ≡ Some a → can_act w a ≡ true
unfolding next_in_round
round-next w None a e = cc
round-next w (Some (Controller k)) a e = from_controller-next w (k + 1) a e
round-next w (Some (Lwp pid id)) a e = from_lwp-next w (Some (pid, id)) a e
round-next w (Some Clock) a e = cc

-- who is next in the rounds can move
rounds-next : (w : WorldState) (a : Actor) → next_in_rounds w ≡ Some a → can_act w a ≡ true
unfolding next_in_rounds
rounds-next w a e =
    either (next_in_round w w.last) (from_controller w 0) a (λ x. can_act w x ≡ true) e (round-next w w.last a)
    (from_controller-next w 0 a)

-- who is next in the schedule can
scheduled-next : (w : WorldState) (actors : List Actor) (p : Pick) → first_scheduled w actors ≡ Some p
    → can_act w p.actor ≡ true
unfolding first_scheduled
scheduled-next w [] p e = cc
scheduled-next w (a ∷ rest) p e = of (can_act w a) refl e (scheduled-next w rest p)
  where
    of : (b : Bool) → can_act w a ≡ b
        → cond b (Some (let q : Pick = record { actor = a; schedule = rest; last = w.last } in q))
        (first_scheduled w rest) ≡ Some p → (first_scheduled w rest ≡ Some p → can_act w p.actor ≡ true)
        → can_act w p.actor ≡ true
    of true acts here later = ap (λ (q : Pick). can_act w q.actor) (sym (same_Some _ p here)) ∙ acts
    of false rests here later = later here

either_pick : (a b : Option Pick) (p : Pick) (P : Pick → Type 0) → option_or a b ≡ Some p → (a ≡ Some p → P p)
    → (b ≡ Some p → P p) → P p
either_pick (Some q) b p P e left right = left e
either_pick None b p P e left right = right e

-- Who is picked can move.
pub pick-acts : (w : WorldState) (p : Pick) → next_pick w ≡ Some p → can_act w p.actor ≡ true
unfolding next_pick
pick-acts w p e =
    either_pick (first_scheduled w w.schedule) (option_map in_rounds (next_in_rounds w)) p
    (λ q. can_act w q.actor ≡ true) e (scheduled-next w w.schedule p) of
  where
    of : option_map in_rounds (next_in_rounds w) ≡ Some p → can_act w p.actor ≡ true
    of e =
        let found = mapped-back in_rounds (next_in_rounds w) p e in
        ap (λ (q : Pick). can_act w q.actor) found.1.1 ∙ rounds-next w found.0 found.1.0

pub next-acts : (w : WorldState) (a : Actor) → next_actor w ≡ Some a → can_act w a ≡ true
unfolding next_actor
next-acts w a e =
    let found = mapped-back actor_of (next_pick w) a e in
    ap (can_act w) found.1.1 ∙ pick-acts w found.0 found.1.0

-- Where no actor is next, none can move: the actors were all looked at.

-- neither of two
neither : (a b : Option Actor) → option_or a b ≡ None → (a ≡ None) × (b ≡ None)
neither None b e = (refl, e)
neither (Some x) b e = cc

not_mapped : {X Y : Type 0} (f : X → Y) (o : Option X) → option_map f o ≡ None → o ≡ None
not_mapped f None e = refl
not_mapped f (Some x) e = cc

-- What a search that found nothing has passed fails its test: the first, and those after it.
none-first : {X : Type 0} (q : X → Bool) (x : X) (xs : List X) → find q (x ∷ xs) ≡ None
    → (q x ≡ false) × (find q xs ≡ None)
none-first q x xs e = by (q x) refl e
  where
    by : (b : Bool) → q x ≡ b → cond b (Some x) (find q xs) ≡ None → (q x ≡ false) × (find q xs ≡ None)
    by true passes here = cc
    by false fails here = (fails, here)

nat_cases : (a b : ℕ) → a ≤ b → (a ≡ b) ⊎ (a + 1 ≤ b)
nat_cases a b h = grind arith

-- A number of a range fails a test that no number of it passes.
none-in_range : (q : ℕ → Bool) (from n k : ℕ) → find q (range_with_len from n) ≡ None → from ≤ k → k < from + n
    → q k ≡ false
none-in_range q from zero k e low high = absurd (omega arith)
none-in_range q from (suc n) k e low high =
    let here = none-first q from (range_with_len (from + 1) n) e in
    by (nat_cases from k low) here.0 (λ above. none-in_range q (from + 1) n k here.1 above (omega arith))
  where
    by : (from ≡ k) ⊎ (from + 1 ≤ k) → q from ≡ false → ((from + 1 ≤ k) → q k ≡ false) → q k ≡ false
    by (inl same) first later = ap q (sym same) ∙ first
    by (inr above) first later = later above

-- ---- lwps

-- what no lwp of a list passes, none of it passes
none-at : (q : ℕ × ℕ → Bool) (xs : List (ℕ × ℕ)) (k : ℕ) (x : ℕ × ℕ) → find q xs ≡ None → k < length xs
    → slice_index_or xs k x ≡ x → q x ≡ false
none-at q [] k x e h at = absurd (omega arith)
none-at q (y ∷ ys) zero x e h at = ap q (sym at) ∙ (none-first q y ys e).0
none-at q (y ∷ ys) (suc k) x e h at = none-at q ys k x (none-first q y ys e).1 (omega arith) at

-- nobody passes over an lwp that can have a turn
no_turn : (w : WorldState) (pid id : ℕ) → IsLawful w.kernel → first_lwp w None ≡ None → w.kernel.can_turn pid id ≡ true
    → ⊥
unfolding first_lwp next_of turns_after is_after
no_turn w pid id lawful e turns =
    let there = lawful.live pid id turns in
    let q = turns_after w.kernel None in
    let none = not_mapped as_lwp (find q w.kernel.lwps) e in
    let it : ℕ × ℕ = (pid, id) in
    not_both (w.kernel.can_turn pid id) turns (none-at q w.kernel.lwps there.0 it none there.1 there.2)

-- ---- everybody

false_or_true : (b : Bool) → (b ≡ true → ⊥) → b ≡ false
false_or_true true h = absurd (h refl)
false_or_true false h = refl

controller-rests : (w : WorldState) (k : ℕ) → first_controller w 0 ≡ None → can_act w (Controller k) ≡ true → ⊥
unfolding first_controller controller_acts
controller-rests w k e h =
    let none = not_mapped Controller (find (controller_acts w) (range_with_len 0 (length w.controllers - 0))) e in
    let call = acts-call w k h in
    let inside : k < length w.controllers = with_call w.controllers k call.call call.next in
    not_both (controller_acts w k) h
    (none-in_range (controller_acts w) 0 (length w.controllers - 0) k none (omega arith) (omega arith))

clock-rests : (w : WorldState) → clock_if_awaited w ≡ None → can_act w Clock ≡ true → ⊥
unfolding clock_if_awaited
clock-rests w e h = let some = ap (λ (b : Bool). cond b (Some Clock) None) h in
    let no : Some Clock ≡ None = sym some ∙ e in cc

-- where none is next in a new round, no actor can move
round-rests : (w : WorldState) (actor : Actor) → IsLawful w.kernel → from_controller w 0 ≡ None
    → can_act w actor ≡ false
unfolding from_controller from_lwp can_act
round-rests w actor lawful e =
    let parts = neither (first_controller w 0) (from_lwp w None) e in
    let others = neither (first_lwp w None) (clock_if_awaited w) parts.1 in
    false_or_true (can_act w actor) (of actor parts.0 others.0 others.1)
  where
    of : (actor : Actor) → first_controller w 0 ≡ None → first_lwp w None ≡ None → clock_if_awaited w ≡ None
        → can_act w actor ≡ true → ⊥
    of (Controller k) c l t h = controller-rests w k c h
    of (Lwp pid id) c l t h = no_turn w pid id lawful l h
    of Clock c l t h = clock-rests w t h

pub rounds-rest : (w : WorldState) (actor : Actor) → IsLawful w.kernel → next_in_rounds w ≡ None
    → can_act w actor ≡ false
unfolding next_in_rounds
rounds-rest w actor lawful e = round-rests w actor lawful (neither (next_in_round w w.last) (from_controller w 0) e).1

-- a schedule in which no actor can move has nobody who is next
scheduled-rests : (w : WorldState) (actors : List Actor) → ((a : Actor) → can_act w a ≡ false)
    → first_scheduled w actors ≡ None
unfolding first_scheduled
scheduled-rests w [] rests = refl
scheduled-rests w (a ∷ rest) rests =
    ap (λ (b : Bool).
    cond b (Some (let q : Pick = record { actor = a; schedule = rest; last = w.last } in q)) (first_scheduled w rest))
    (rests a) ∙ scheduled-rests w rest rests

neither_pick : (a b : Option Pick) → option_or a b ≡ None → (a ≡ None) × (b ≡ None)
neither_pick None b e = (refl, e)
neither_pick (Some x) b e = cc

-- Where none is next, no actor can move.
pub all-rest : (w : WorldState) (actor : Actor) → IsLawful w.kernel → next_actor w ≡ None → can_act w actor ≡ false
unfolding next_actor next_pick
all-rest w actor lawful e =
    let parts =
    neither_pick (first_scheduled w w.schedule) (option_map in_rounds (next_in_rounds w))
    (not_mapped actor_of (next_pick w) e) in
    rounds-rest w actor lawful (not_mapped in_rounds (next_in_rounds w) parts.1)

-- Somebody is next where somebody is next in the rounds.
module _ (w : WorldState) (lawful : IsLawful w.kernel) where
  pub next-none : next_in_rounds w ≡ None → next_actor w ≡ None
  unfolding next_actor next_pick
  next-none e =
      ap (λ (o : Option Pick). option_map actor_of (option_or o (option_map in_rounds (next_in_rounds w))))
      (scheduled-rests w w.schedule (λ a. rounds-rest w a lawful e))
      ∙ ap (λ (o : Option Actor). option_map actor_of (option_map in_rounds o)) e

  pub next-some : (a : Actor) → next_in_rounds w ≡ Some a → is_some (next_actor w) ≡ true
  unfolding next_actor next_pick
  next-some a e = of (first_scheduled w w.schedule)
    where
      of : (o : Option Pick)
          → is_some (option_map actor_of (option_or o (option_map in_rounds (next_in_rounds w)))) ≡ true
      of (Some p) = refl
      of None = ap (λ (o : Option Actor). is_some (option_map actor_of (option_map in_rounds o))) e

-- ---- ends

module _ {K : Type 0} (view : K → KernelView) (lawful : (k : K) → IsLawful (view k)) (w : WorldOf K)
    (next : Option Actor) (is : next ≡ next_in_rounds (seen view w)) where
  somebody : is_some next ≡ true → is_some (next_actor (seen view w)) ≡ true
  somebody h = of next is h
    where
      of : (o : Option Actor) → o ≡ next_in_rounds (seen view w) → is_some o ≡ true
          → is_some (next_actor (seen view w)) ≡ true
      of None e h = cc
      of (Some a) e h = next-some (seen view w) (lawful w.kernel) a (sym e)

  nobody : is_some next ≡ false → next_actor (seen view w) ≡ None
  nobody h = of next is h
    where
      of : (o : Option Actor) → o ≡ next_in_rounds (seen view w) → is_some o ≡ false → next_actor (seen view w) ≡ None
      of None e h = next-none (seen view w) (lawful w.kernel) (sym e)
      of (Some a) e h = cc

  pub ended-some : is_some next ≡ true → (end : Option End)
      → end ≡ cond (nat_lt (length (view w.kernel).history) (view w.kernel).places) None (Some Spent)
      → end ≡ ended_as (seen view w)
  unfolding ended_as goes_on end_of
  ended-some h end e =
      e ∙ of (nat_lt (length (view w.kernel).history) (view w.kernel).places) (next_actor (seen view w)) (somebody h)
    where
      of : (b : Bool) (o : Option Actor) → is_some o ≡ true
          → cond b None (Some Spent) ≡ cond (b && is_some o) None (Some (end_with (seen view w) o))
      of b None h = cc
      of true (Some a) h = refl
      of false (Some a) h = refl

  stuck : is_some next ≡ false → Some (end_with (seen view w) None) ≡ ended_as (seen view w)
  unfolding ended_as goes_on end_of
  stuck h = of (nat_lt (length (view w.kernel).history) (view w.kernel).places) (next_actor (seen view w)) (nobody h)
    where
      of : (b : Bool) (o : Option Actor) → o ≡ None
          → Some (end_with (seen view w) None) ≡ cond (b && is_some o) None (Some (end_with (seen view w) o))
      of true None h = refl
      of false None h = refl
      of b (Some a) h = cc

  pub ended-quiet : is_some next ≡ false → (all : Bool) → all ≡ all_finished (seen view w) → all ≡ true
      → Some Quiet ≡ ended_as (seen view w)
  ended-quiet h all e yes_all = ap (λ (b : Bool). Some (quiet_end b)) (sym (sym e ∙ yes_all)) ∙ stuck h

  pub ended-stuck : is_some next ≡ false → (all : Bool) → all ≡ all_finished (seen view w) → all ≡ false
      → Some Stuck ≡ ended_as (seen view w)
  ended-stuck h all e not_all = ap (λ (b : Bool). Some (quiet_end b)) (sym (sym e ∙ not_all)) ∙ stuck h
