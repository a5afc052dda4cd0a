use Rattle.std.specs.Prelude.{◌≡◌, ℕ, ◌+◌, ◌-◌, ◌^◌, ◌<◌, ◌⊎◌, ◌==◌, if◌then◌else◌}

-- The last value of a count. A count that stands there stays.
abbrev pub last_count : ℕ
last_count = 2 ^ 64 - 1

-- a count with one more in it
unfoldable pub raised : ℕ → ℕ
raised count = if count == last_count then last_count else count + 1

-- A count rose: it is above what it was, or it stood at its last value and stands there still.
pub record Rose (old new : ℕ) : Type 0 where
  pub cases : (old < new) ⊎ ((old ≡ last_count) × (new ≡ last_count))
