use Rattle.std.proofs.Common.{◌≡◌, ◌<◌, ◌≤◌, ◌+◌, ◌-◌, ◌&&◌, inl, inr, ℕ, zero, suc, Bool, true, false, Option, Some, None, is_some, IsSome, Result, Ok, Err, OnErr, OnOk, length, nat_lt, cond, refl, sym, ◌∙◌, ap, subst, arith}
use borrow.Author.Tests.{ltb-true}
use Rattle.std.specs.Option.{option_map}
use Rattle.pr_api.specs.Views.{KernelView}
use Rattle.pr_model.specs.declared.events.Actor.{Actor}
use Rattle.pr_world.proofs.RestLemmas.{pick-acts}
use Rattle.pr_world.proofs.RunLemmas.{can_act-picked, run-function, run-longer, run-places, stuck-stays}
use Rattle.pr_world.specs.Moves.{Moves}
use Rattle.pr_world.specs.Runs.{RunsFor, Steps, StoppedIn, TellsMachine, after_moves}
use Rattle.pr_world.specs.Worlds.{Pick, WorldOf, WorldState, actor_of, can_act, end_of, ended_as, goes_on, next_actor, next_pick, picked, seen, with_pick}
use Rattle.pr_world.specs.declared.ends.End.{End}
use Rattle.pr_run.specs.OneRuns.{Advanced, IsStopped, StandsAs, end_of_run}

-- The loop of a run.

pub run-start : (w : WorldState) (n m : ℕ) → n ≡ m → RunsFor (n - m) w w
unfolding RunsFor
run-start w n m e = let none : n - m ≡ zero = omega arith in subst (λ (k : ℕ). RunsFor k w w) (sym none) refl

pub run-on : (first u v : WorldState) (i e : ℕ) → e ≤ i → RunsFor (i - e) first u → Steps u v
    → RunsFor (i + 1 - e) first v
unfolding RunsFor
run-on first u v i e h run step =
    let next : i + 1 - e ≡ suc (i - e) = omega arith in
    subst (λ (k : ℕ). RunsFor k first v) (sym next) (u, run, step)

nobody : (w : WorldState) → next_pick w ≡ None → next_actor w ≡ None
unfolding next_actor
nobody w e = ap (option_map actor_of) e

-- where no actor can move, a world does not go on
pub stuck-ends : (w : WorldState) → next_pick w ≡ None → goes_on w ≡ false
unfolding goes_on
stuck-ends w e =
    ap (λ o. nat_lt (length w.kernel.history) w.kernel.places && is_some o) (nobody w e)
    ∙ of (nat_lt (length w.kernel.history) w.kernel.places)
  where
    of : (b : Bool) → (b && false) ≡ false
    of true = refl
    of false = refl

-- ---- one step

pub whatever : {T E : Type 0} (r : Result T E) (P : Type 0) → P → OnErr r P
whatever (Ok x) P p = tt
whatever (Err e) P p = p

pub whenever : {T E : Type 0} (r : Result T E) (P : Type 0) → P → OnOk r P
whenever (Ok x) P p = p
whenever (Err e) P p = tt

-- the world in which this actor was picked
pub record Picked {K : Type 0} (view : K → KernelView) (w u : WorldOf K) (a : Actor) : Type 0 where
  pub pick : Pick
  pub found : next_pick (seen view w) ≡ Some pick
  pub actor : pick.actor ≡ a
  pub world : seen view u ≡ with_pick pick (seen view w)

-- Kernel and controllers of a world are those of another.
pub record HasThose (w v : WorldState) : Type 0 where
  pub kernel : v.kernel ≡ w.kernel
  pub controllers : v.controllers ≡ w.controllers

picked-those : (w v : WorldState) (o : Option Pick) → v ≡ picked o w → HasThose w v
unfolding with_pick
picked-those w v None e =
    record { kernel = ap (λ (x : WorldState). x.kernel) e; controllers = ap (λ (x : WorldState). x.controllers) e }
picked-those w v (Some p) e =
    record { kernel = ap (λ (x : WorldState). x.kernel) e; controllers = ap (λ (x : WorldState). x.controllers) e }

stands-those : (w v : WorldState) → StandsAs w v → HasThose w v
stands-those w v (inl same) = picked-those w v None same
stands-those w v (inr is) = picked-those w v (next_pick w) is

module _ {K : Type 0} (view : K → KernelView) (w u : WorldOf K)
    (place : seen view u ≡ picked (next_pick (seen view w)) (seen view w)) where
  -- it stands, with the actor picked
  pub stands : StandsAs (seen view w) (seen view u)
  stands = inr place

  pub has-place : length (view w.kernel).history < (view w.kernel).places
      → length (view u.kernel).history < (view u.kernel).places
  has-place h =
      subst (λ (k : KernelView). length k.history < k.places)
      (sym (stands-those (seen view w) (seen view u) stands).kernel) h

  pub picked-some : (next : Option Actor) → next ≡ next_actor (seen view w) → (a : Actor) → next ≡ Some a
      → Picked view w u a
  unfolding next_actor with_pick
  picked-some next is a e = of (next_pick (seen view w)) refl (sym is ∙ e)
    where
      of : (o : Option Pick) → next_pick (seen view w) ≡ o → option_map actor_of o ≡ Some a → Picked view w u a
      of None f h = cc
      of (Some p) f h = record {
        pick = p;
        found = f;
        actor = cc;
        world = place ∙ ap (λ (o : Option Pick). picked o (seen view w)) f;
      }

  pub picked-none : (next : Option Actor) → next ≡ next_actor (seen view w) → next ≡ None
      → (seen view u ≡ seen view w) × (next_pick (seen view w) ≡ None)
  unfolding next_actor
  picked-none next is e = of (next_pick (seen view w)) refl (sym is ∙ e)
    where
      of : (o : Option Pick) → next_pick (seen view w) ≡ o → option_map actor_of o ≡ None
          → (seen view u ≡ seen view w) × (next_pick (seen view w) ≡ None)
      of None f h = (place ∙ ap (λ (o : Option Pick). picked o (seen view w)) f, f)
      of (Some p) f h = cc

module _ {K : Type 0} (view : K → KernelView) (w u : WorldOf K) (a : Actor) (p : Picked view w u a) where
  pub picked-acts : can_act (seen view u) a ≡ true
  picked-acts =
      ap (λ (x : WorldState). can_act x a) p.world ∙ can_act-picked (seen view w) p.pick a
      ∙ ap (can_act (seen view w)) (sym p.actor) ∙ pick-acts (seen view w) p.pick p.found

  pub step-made : (v : WorldState) → Moves (seen view u) a v → Steps (seen view w) v
  step-made v m =
      let here : Moves (with_pick p.pick (seen view w)) a v = subst (λ (x : WorldState). Moves x a v) p.world m in
      record {
        pick = p.pick;
        next = p.found;
        moves =
            subst (λ (x : Actor). Moves (with_pick p.pick (seen view w)) x v) (sym p.actor) here;
      }

-- ---- what was made of a step

pub moved-on : (b : Bool) (w v : WorldState) → b ≡ true → Advanced b w v → Steps w v
moved-on true w v e h = h
moved-on false w v e h = cc

pub stood : (b : Bool) (w v : WorldState) → b ≡ false → Advanced b w v → (v ≡ w) × (next_pick w ≡ None)
stood true w v e h = cc
stood false w v e h = h

pub ended-is : (w : WorldState) (o : Option End) → o ≡ ended_as w → goes_on w ≡ false → IsSome o
unfolding ended_as
ended-is w o e h =
    let is : o ≡ Some (end_of w) = e ∙ ap (λ (b : Bool). cond b None (Some (end_of w))) h in
    subst IsSome (sym is) refl

-- ---- the end of a run

pub full-ends : (w : WorldState) → w.kernel.places ≤ length w.kernel.history → goes_on w ≡ false
unfolding goes_on
full-ends w h =
    ap (λ (b : Bool). b && is_some (next_actor w)) (of (nat_lt (length w.kernel.history) w.kernel.places) refl)
  where
    of : (b : Bool) → nat_lt (length w.kernel.history) w.kernel.places ≡ b
        → nat_lt (length w.kernel.history) w.kernel.places ≡ false
    of true e = absurd (omega (arith, ltb-true _ _ e))
    of false e = e

module _ (first w : WorldState) (i e p : ℕ) (begin : e ≡ length first.kernel.history) (full : p ≡ first.kernel.places)
    (from : e ≤ i) (run : RunsFor (i - length first.kernel.history) first w) where
  pub counted : length w.kernel.history ≡ i
  counted = let more = run-longer (i - length first.kernel.history) first w run in omega (arith, more)

  pub has-places : i < p → length w.kernel.history < w.kernel.places
  has-places h = let n = counted in let stay = run-places (i - length first.kernel.history) first w run in
      omega (arith, n, stay)

  pub is-full : p ≤ i → goes_on w ≡ false
  is-full h = let n = counted in let stay = run-places (i - length first.kernel.history) first w run in
      full-ends w (omega (arith, n, stay))

  pub stuck-is : i ≤ p → next_pick w ≡ None → TellsMachine first → w ≡ end_of_run first
  stuck-is h stuck t =
      let n = i - length first.kernel.history in
      let all = first.kernel.places - length first.kernel.history in
      let is = run-function n first w t run in
      is ∙ sym (stuck-stays first n (all - n) all (omega arith) (ap next_pick (sym is) ∙ stuck))

  pub full-is : i ≡ p → TellsMachine first → w ≡ end_of_run first
  full-is h t =
      let same : i - length first.kernel.history ≡ first.kernel.places - length first.kernel.history = omega arith in
      run-function (i - length first.kernel.history) first w t run ∙ ap (λ (n : ℕ). after_moves n first) same

  pub stopped : (v : WorldState) → i ≤ p → StandsAs w v → IsStopped first v
  stopped v h stands =
      let those = stands-those w v stands in
      let steps : StoppedIn first v = record {
        made = i - length first.kernel.history;
        within = omega arith;
        world = w;
        runs = run;
        kernel = those.kernel;
        controllers = those.controllers;
      } in
      record { steps = steps; stands = stands }
