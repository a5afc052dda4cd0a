use Rattle.std.specs.Prelude.{◌≡◌, ℕ, Some, None}
use Rattle.pr_model.specs.Readers.{space_seen}
use Rattle.pr_model.specs.State.{TracedProcess, TracedSystem, process_of}

-- Loans of memory, as they stand in a system (vfork(2)).

-- a process has lent its memory to another one
pub record HasLentTo (s : TracedSystem) (a : ℕ) (p : TracedProcess) (b : ℕ) (q : TracedProcess) : Type 0 where
  pub lender : process_of s a ≡ Some p
  pub lends : p.borrower ≡ Some b
  pub borrower : process_of s b ≡ Some q

-- a process shows the memory of one that has it to itself
pub record ShowsSpaceOf (s : TracedSystem) (p : TracedProcess) (b : ℕ) (q : TracedProcess) : Type 0 where
  pub stands : process_of s b ≡ Some q
  pub owns : q.borrower ≡ None
  pub shown : space_seen s p ≡ q.space
