use Rattle.std.proofs.Common.{◌≡◌, ℕ, suc, ◌+◌, ◌-◌, ◌^◌, ◌%◌, ◌<◌, arith}

-- Laws of numbers in the forms that the steps of a walk ask for.

pub one_more : (n : ℕ) → 1 + n ≡ suc n
one_more n = omega arith

-- at a place below a length one more is left than behind it
pub one_left : (n i : ℕ) → i < n → n - i ≡ suc (n - (i + 1))
one_left n i more = omega arith

-- ---- addresses, which wrap at 2 ^ 64

pub unwrapped : (a : ℕ) → a < 2 ^ 64 → a % 2 ^ 64 ≡ a
unwrapped a h = omega arith

-- a step past an address, and further steps
pub wrapped-step : (a j : ℕ) → ((a + 1) % 2 ^ 64 + j) % 2 ^ 64 ≡ (a + suc j) % 2 ^ 64
wrapped-step a j = omega arith
