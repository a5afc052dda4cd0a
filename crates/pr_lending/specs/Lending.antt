use Rattle.std.specs.Prelude.{◌≡◌, ◌<◌, ℕ, [], Some, IsSome}
use Rattle.pr_model.specs.Readers.{borrower_at, lender_at, space_at}
use Rattle.pr_model.specs.State.{TracedSystem, live_process}

-- Lent memory (vfork(2)), in every state that the machine reaches.

-- Who lends to whom is one relation: a process has lent its memory to another one exactly where it is the lender of
-- that one. Both are live, and the borrower is younger, so that no chain comes back. Who has lent its memory has none.
pub record AreLending (s : TracedSystem) : Type 0 where
  pub lent : (a b : ℕ) → borrower_at s a ≡ Some b → lender_at s b ≡ Some a
  pub borrowed : (a b : ℕ) → lender_at s b ≡ Some a → borrower_at s a ≡ Some b
  pub younger : (a b : ℕ) → borrower_at s a ≡ Some b → a < b
  pub lives : (a b : ℕ) → borrower_at s a ≡ Some b → IsSome (live_process s a) × IsSome (live_process s b)
  pub bare : (a b : ℕ) → borrower_at s a ≡ Some b → space_at s a ≡ []
