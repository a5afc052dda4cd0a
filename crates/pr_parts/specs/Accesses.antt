-- What an access to bytes of memory gets: whether it can be made, and what it gets after a write.
use Rattle.std.specs.Prelude.{ℕ, List, Result, Ok, Err}
use Rattle.pr_num.specs.declared.mappings.BadByte.{BadByte}
use Rattle.pr_parts.specs.AddressSpaces.{written_byte}

-- whether an access can be made, or the first byte at which it fails
abbrev pub checked : {X : Type 0} → Result X BadByte → Result (Unit {0}) BadByte
checked (Ok bytes) = Ok tt
checked (Err byte) = Err byte

-- what an access to a byte gets after bytes were written from an address on, and what it got before
abbrev pub byte_after_write : ℕ → List ℕ → ℕ → Result ℕ BadByte → Result ℕ BadByte
byte_after_write at bytes address (Ok old) = Ok (written_byte at bytes address old)
byte_after_write at bytes address (Err bad) = Err bad
