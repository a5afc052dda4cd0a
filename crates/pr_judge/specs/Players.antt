use Rattle.std.specs.Prelude.{◌≡◌, ◌<◌, ◌^◌, ℕ, Bool, true}
use Rattle.pr_judge.specs.Judgements.{is_legal_entry}
use Rattle.pr_kern.specs.Soundness.{IsSound}
use Rattle.pr_model.specs.Lawful.{IsLawful}
use Rattle.pr_model.specs.Legal.{after}
use Rattle.pr_model.specs.State.{TracedState}
use Rattle.pr_model.specs.declared.events.Entry.{Entry}

-- A machine that is made to play entries one after another, and keeps none of them.

-- the state that it is in, and how many steps it has made at most
pub record Played : Type 0 where
  pub state : TracedState
  pub steps : ℕ

-- The state is lawful, its system is as sound as after so many steps, and there are few of them.
pub record IsSoundState (steps : ℕ) (s : TracedState) : Type 0 where
  pub sound : IsSound steps s.system
  pub lawful : IsLawful s
  pub fits : steps < 2 ^ 32

-- The machine was made to play an entry: it says whether that is legal in the state that it finds, and where it is
-- comes to the state after it.
pub record HasTried (controllers : ℕ) (e : Entry) (old new : TracedState) (legal : Bool) : Type 0 where
  pub is : legal ≡ is_legal_entry controllers old e
  pub state : legal ≡ true → new ≡ after old e
