use Rattle.std.specs.Prelude.{◌≡◌, ◌-◌, ◌⊎◌, ℕ, Bool, true, false, None, length}
use Rattle.pr_world.specs.Runs.{RunsFor, Steps, StoppedIn, after_moves}
use Rattle.pr_world.specs.Worlds.{WorldState, next_pick, picked}

-- A run on one thread: at each step the actor that is picked moves.

-- A step was made, or no actor can move and the world is as it was.
abbrev pub Advanced : Bool → WorldState → WorldState → Type 0
Advanced true w v = Steps w v
Advanced false w v = (v ≡ w) × (next_pick w ≡ None)

-- A world stands as another: it is that one, or that one with the actor picked that comes next.
abbrev pub StandsAs : WorldState → WorldState → Type 0
StandsAs w v = (v ≡ w) ⊎ (v ≡ picked (next_pick w) w)

-- One world led to another by a run of some steps.
pub record LedTo (first last : WorldState) : Type 0 where
  pub steps : ℕ
  pub runs : RunsFor steps first last

-- A run was stopped where memory ran out: after its steps one more actor may have been picked, and no further one.
pub record IsStopped (first last : WorldState) : Type 0 where
  pub steps : StoppedIn first last
  pub stands : StandsAs steps.world last

-- the world at the end of a run, where its machine is told: as many moves were made as there are places left, or until
-- no actor could move
abbrev pub end_of_run : WorldState → WorldState
end_of_run first = after_moves (first.kernel.places - length first.kernel.history) first
