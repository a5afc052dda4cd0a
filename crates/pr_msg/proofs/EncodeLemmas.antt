use Rattle.std.proofs.Common.{◌≡◌, ◌≤◌, ℕ, take, replicate}
use Rattle.std.proofs.lemmas.List.{take-replicate}

-- so many of seven zeros
pub zeros_of : (n : ℕ) → n ≤ 7 → take {A = ℕ} n (replicate 7 0) ≡ replicate n 0
zeros_of n fits = take-replicate n 7 0 fits

pub ruleset zeros = (zeros_of)
