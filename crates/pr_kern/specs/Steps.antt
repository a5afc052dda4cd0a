use Rattle.std.specs.Prelude.{◌≡◌, ℕ, [], ◌∷◌, ◌++◌}
use Rattle.pr_model.specs.Legal.{IsLegalEntry, after}
use Rattle.pr_model.specs.declared.events.Entry.{Entry}
use Rattle.pr_kern.specs.Kernels.{Kernel}

-- A step from one kernel to another adds one entry behind the others. It is legal in the state that it finds, where
-- there are so many controllers, and the state becomes the one after it. The places stay.
pub record Adds (controllers : ℕ) (old new : Kernel) : Type 0 where
  pub entry : Entry
  pub history : new.history ≡ old.history ++ entry ∷ []
  pub legal : IsLegalEntry controllers old.state entry
  pub state : new.state ≡ after old.state entry
  pub places : new.places ≡ old.places
