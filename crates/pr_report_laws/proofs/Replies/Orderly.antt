use Rattle.std.proofs.Common.{◌≡◌, ◌<◌, ℕ, true, false, Some, length}
use Rattle.pr_truss.specs.Trusses.{TrussState, traced_at}
use Rattle.pr_truss_laws.proofs.Files.HeldLemmas.{Fits}
use Rattle.pr_report_laws.specs.Watching.{place_of}

-- How truss keeps its processes in order.

-- no process stands twice; a process that is attached was not seen
pub record IsOrderly (t : TrussState) : Type 0 where
  pub one : (place : ℕ) → place < length t.traced → place_of t (traced_at t place).pid ≡ Some place
  pub unseen : (place : ℕ) → place < length t.traced → (traced_at t place).attached ≡ true
      → (traced_at t place).seen ≡ false
  pub fits : Fits t.traced t.stage
