-- A kernel makes the step of an entry that is legal.
use Rattle.std.proofs.Common.{◌≡◌, ◌+◌, ℕ, Bool, true, false, [], ◌∷◌, length, refl, ◌∙◌, ap, length-append}
use Rattle.std.proofs.lemmas.Option.{same_Some}
use Rattle.pr_api.specs.Views.{kernel_of}
use Rattle.pr_kern.specs.Kernels.{Kernel}
use Rattle.pr_model.specs.Legal.{IsLegalEntry, after}
use Rattle.pr_model.specs.declared.events.Entry.{Entry}
use Rattle.pr_judge.specs.Judgements.{Plays}

module _ (n : ℕ) (e : Entry) (old new : Kernel) (played : Bool) where
  pub plays-legal : IsLegalEntry n old.state e
      → Plays n e (kernel_of old.state old.history old.places) (kernel_of new.state new.history new.places) played
      → played ≡ true
  unfolding kernel_of
  plays-legal legal plays = by played plays
    where
      by : (b : Bool)
          → Plays n e (kernel_of old.state old.history old.places) (kernel_of new.state new.history new.places) b
          → b ≡ true
      by true plays = refl
      by false plays = absurd (plays legal)

module _ (n : ℕ) (e : Entry) (old new : Kernel) where
  pub played-state : Plays n e (kernel_of old.state old.history old.places)
      (kernel_of new.state new.history new.places) true
      → new.state ≡ after old.state e
  unfolding kernel_of
  played-state plays = same_Some _ _ plays.machine.1

  pub played-history : Plays n e (kernel_of old.state old.history old.places)
      (kernel_of new.state new.history new.places) true
      → length new.history ≡ length old.history + 1
  unfolding kernel_of
  played-history plays = ap length plays.history ∙ length-append old.history (e ∷ [])

  pub played-places : Plays n e (kernel_of old.state old.history old.places)
      (kernel_of new.state new.history new.places) true
      → new.places ≡ old.places
  unfolding kernel_of
  played-places plays = plays.places

pub ruleset plays = (plays-legal, played-state, played-history, played-places)
