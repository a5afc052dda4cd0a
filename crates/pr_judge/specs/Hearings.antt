use Rattle.std.specs.Prelude.{◌≡◌, ℕ, List, Option, None, length}
use Rattle.pr_judge.specs.Judgements.{Judges}
use Rattle.pr_model.specs.Legal.{state_after}
use Rattle.pr_model.specs.State.{TracedState}
use Rattle.pr_model.specs.declared.events.Entry.{Entry}

-- A history that is judged while it is heard, entry by entry.

-- what a judge keeps: how many controllers there are, the state that its machine is in, how many entries it has heard,
-- and the place of the first that was not legal
pub record Hearing : Type 0 where
  pub controllers : ℕ
  pub state : TracedState
  pub heard : ℕ
  pub first : Option ℕ

-- It has heard these entries, from a state on, and no others: what it says of them is their judgement; and while all
-- are legal its machine is in the state after them.
pub record HasHeard (s : TracedState) (entries : List Entry) (judge : Hearing) : Type 0 where
  pub heard : judge.heard ≡ length entries
  pub judges : Judges judge.controllers s entries judge.first
  pub state : judge.first ≡ None → judge.state ≡ state_after s entries
