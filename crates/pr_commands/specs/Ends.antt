use Rattle.std.specs.Prelude.{◌≡◌, ◌⊎◌, ℕ, true, false, length}
use Rattle.pr_model.specs.declared.events.Actor.{Actor}
use Rattle.pr_world.specs.Worlds.{WorldState, all_finished, can_act}
use Rattle.pr_commands.specs.declared.outcomes.Status.{Status}
use Rattle.pr_commands.specs.declared.outcomes.Status.TheVariants.{Done, Spent, Stuck}

-- The cause of each status of a run that was made, in the world that the run led to. No two of them hold of one world.

-- done: no actor can move, and every controller has finished
pub record IsOver (w : WorldState) : Type 0 where
  pub rest : (actor : Actor) → can_act w actor ≡ false
  pub finished : all_finished w ≡ true

-- spent: an actor can move, and the history has as many entries as the scenario has turns
pub record IsFull (turns : ℕ) (w : WorldState) : Type 0 where
  pub mover : Actor
  pub can_move : can_act w mover ≡ true
  pub full : length w.kernel.history ≡ turns

-- stuck: no actor can move, and a controller has not finished
pub record IsStuck (w : WorldState) : Type 0 where
  pub rest : (actor : Actor) → can_act w actor ≡ false
  pub unfinished : all_finished w ≡ false

abbrev pub EndsAs : ℕ → WorldState → Status → Type 0
EndsAs turns w status =
    ((status ≡ Done) × IsOver w) ⊎ (((status ≡ Spent) × IsFull turns w) ⊎ ((status ≡ Stuck) × IsStuck w))
