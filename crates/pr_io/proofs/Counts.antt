use Rattle.std.proofs.Common.{ℕ, ◌+◌, ◌≤◌, inl, inr, arith}
use Rattle.std.proofs.lemmas.Bool.Decides.{nat_tests}
use Rattle.pr_io.specs.Faults.{raised, Rose}

-- a count with one more in it rose
pub Rose-raised : (count : ℕ) → Rose count (raised count)
unfolding raised
Rose-raised count = record { cases = grind (arith, nat_tests) }

pub raised-above : (count : ℕ) → count ≤ raised count
unfolding raised
raised-above count = grind (arith, nat_tests)

pub raised-below : (count : ℕ) → raised count ≤ count + 1
unfolding raised
raised-below count = grind (arith, nat_tests)

-- what rose is not below what it was
pub Rose-above : (old new : ℕ) → Rose old new → old ≤ new
Rose-above old new h = elim h.cases [ inl p ↦ omega arith | inr p ↦ omega arith ]

-- what did not fall, and then rose, rose
pub Rose-after : (old mid new : ℕ) → old ≤ mid → Rose mid new → Rose old new
Rose-after old mid new p h = record {
  cases = elim h.cases [ inl q ↦ inl (omega arith) | inr q ↦ grind arith ];
}

-- what rose, and then did not fall, rose
pub Rose-before : (old mid new : ℕ) → Rose old mid → mid ≤ new → Rose old new
Rose-before old mid new h p = record {
  cases = elim h.cases [ inl q ↦ inl (omega arith) | inr q ↦ grind arith ];
}

pub ruleset counts = (Rose-raised, raised-above, raised-below, Rose-above, Rose-after, Rose-before)
