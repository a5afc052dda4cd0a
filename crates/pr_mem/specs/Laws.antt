-- What shows that the definitions of writing and of gaps say what they mean.
use Rattle.std.specs.Prelude.{◌≡◌, ◌+◌, ◌%◌, ◌^◌, ◌<◌, ◌≤◌, ℕ, true, false, List, length, Result, Ok, Err}
use Rattle.pr_num.specs.Layout.{gap_base, stack_base, page_size}
use Rattle.pr_num.specs.Spaces.{Space, byte_for, bytes_for}
use Rattle.pr_num.specs.declared.mappings.BadByte.{BadByte}
use Rattle.pr_parts.specs.Accesses.{byte_after_write, checked}
use Rattle.pr_parts.specs.AddressSpaces.{is_free, with_bytes, written_byte}

-- After a write a byte that was written over is the one that was written, any other is as before, and what could not be
-- accessed still cannot.
abbrev pub WritesEachByte : Space → Type 0
WritesEachByte space =
    (at : ℕ) (bytes : List ℕ) (need address : ℕ)
    → byte_for need (with_bytes at bytes space) address
    ≡ byte_after_write at bytes address (byte_for need space address)

-- what was written where it can be read is read back
abbrev pub IsReadBack : Space → Type 0
IsReadBack space =
    (at : ℕ) (bytes : List ℕ) (need : ℕ) → at + length bytes < 2 ^ 64
    → checked (bytes_for need space at (length bytes)) ≡ Ok tt
    → bytes_for need (with_bytes at bytes space) at (length bytes) ≡ Ok bytes

-- an address is a multiple of 4,096 in the region of mmap(2), from which a range of this size ends in it
pub record IsGapPlace (size at : ℕ) : Type 0 where
  pub aligned : at % page_size ≡ 0
  pub low : gap_base ≤ at
  pub high : at + size < stack_base

-- an address is the least such from which on such a range is free
pub record IsLeastGap (size : ℕ) (space : Space) (at : ℕ) : Type 0 where
  pub place : IsGapPlace size at
  pub free : is_free at size space ≡ true
  pub least : (other : ℕ) → IsGapPlace size other → is_free other size space ≡ true → at ≤ other

-- there is none
abbrev pub HasNoGap : ℕ → Space → Type 0
HasNoGap size space = (other : ℕ) → IsGapPlace size other → is_free other size space ≡ false
