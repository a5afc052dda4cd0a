use Rattle.std.specs.Prelude.{◌≡◌, ◌==◌, ◌&&◌, ◌+◌, ◌-◌, ◌*◌, ◌%◌, ◌^◌, ◌≤◌, ℕ, zero, suc, Bool, true, false, not, nat_le, nat_lt, slice_index, length, List, [], ◌∷◌, Option, Some, None, Result, Ok, Err, if◌then◌else◌}
use Rattle.pr_num.specs.Control.{prot_exec}
use Rattle.pr_num.specs.Instructions.{instruction_in}
use Rattle.pr_num.specs.Layout.{heap_base}
use Rattle.pr_num.specs.Limits.{path_limit}
use Rattle.pr_num.specs.Programs.{rounded}
use Rattle.pr_num.specs.Spaces.{Space, bytes_for}
use Rattle.pr_num.specs.declared.instructions.Instruction.{Instruction}
use Rattle.pr_num.specs.declared.mappings.BadByte.{BadByte}
use Rattle.pr_num.specs.declared.syscalls.Sysno.{Sysno}
use Rattle.pr_num.specs.declared.syscalls.Sysno.TheVariants.{Read, Write, Open, Wait, Exec, Pipe, Brk, Mmap, Fstat}
use Rattle.pr_parts.specs.AddressSpaces.{gap_in}
use Rattle.pr_model.specs.FileCallRows.{word_size}
use Rattle.pr_model.specs.InstructionEffects.{Decoded, faults_itself, enters_call, leaves, loads, stores, decoded}
use Rattle.pr_model.specs.Registers.{pc_of}
use Rattle.pr_hidden.specs.Covers.{Patch}

-- Which memory an instruction and a system call touch, and whether they spare the places where a controller has
-- written.

-- whether a patch has the byte at an address
abbrev pub has_byte : ℕ → Patch → Bool
has_byte address p = nat_le p.at address && nat_lt address (p.at + length p.bytes)

-- whether none has
abbrev pub is_spared : List Patch → ℕ → Bool
is_spared [] address = true
is_spared (p ∷ ps) address = not (has_byte address p) && is_spared ps address

-- whether an access to so many bytes from an address on spares them all; addresses wrap as they do in accesses
abbrev pub are_spared : List Patch → ℕ → ℕ → Bool
are_spared ps address zero = true
are_spared ps address (suc n) = is_spared ps address && are_spared ps ((address + 1) % 2 ^ 64) n

-- patches have no byte past the last address
abbrev pub AreWithin : List Patch → Type 0
AreWithin [] = Unit {0}
AreWithin (p ∷ ps) = (p.at + length p.bytes ≤ 2 ^ 64) × AreWithin ps

-- whether two patches, and one and several others, have no byte in common
abbrev pub is_apart : Patch → Patch → Bool
is_apart p q = if nat_le (p.at + length p.bytes) q.at then true else nat_le (q.at + length q.bytes) p.at

abbrev pub is_apart_from : Patch → List Patch → Bool
is_apart_from p [] = true
is_apart_from p (q ∷ qs) = is_apart p q && is_apart_from p qs

-- ---- instructions

abbrev pub spares_data : List Patch → Decoded → Bool
spares_data ps (faults_itself f) = true
spares_data ps (enters_call call) = true
spares_data ps (leaves regs) = true
spares_data ps (loads load at size) = are_spared ps at size
spares_data ps (stores stack regs store) = are_spared ps store.at (length store.bytes)

abbrev pub spares_decoded : List Patch → List ℕ → Option Instruction → Bool
spares_decoded ps regs None = true
spares_decoded ps regs (Some i) = spares_data ps (decoded i regs)

abbrev pub spares_fetched : List Patch → List ℕ → Result (List ℕ) BadByte → Bool
spares_fetched ps regs (Err bad) = true
spares_fetched ps regs (Ok bytes) = spares_decoded ps regs (instruction_in bytes)

-- the instruction at pc: its own bytes, and those that it reads or writes
unfoldable pub spares_instruction : List Patch → Space → List ℕ → Bool
spares_instruction ps space regs =
    are_spared ps (pc_of regs) 16 && spares_fetched ps regs (bytes_for prot_exec space (pc_of regs) 16)

-- ---- system calls

-- a mapping that is made anew
abbrev pub spares_gap : List Patch → ℕ → Option ℕ → Bool
spares_gap ps size None = true
spares_gap ps size (Some at) = are_spared ps at size

-- The memory that a call asks for, whether it is granted or not: a buffer, a path, words that it stores, the heap, and
-- a mapping that it makes. The other calls touch none.
unfoldable pub spares_call : List Patch → Space → Sysno → List ℕ → Bool
spares_call ps space Read args = are_spared ps (slice_index args 1) (slice_index args 2)
spares_call ps space Write args = are_spared ps (slice_index args 1) (slice_index args 2)
spares_call ps space Open args = are_spared ps (slice_index args 0) path_limit
spares_call ps space Wait args = are_spared ps (slice_index args 0) word_size
spares_call ps space Exec args = are_spared ps (slice_index args 0) path_limit
spares_call ps space Pipe args = are_spared ps (slice_index args 0) (2 * word_size)
spares_call ps space Fstat args = are_spared ps (slice_index args 1) (3 * word_size)
spares_call ps space Brk args = are_spared ps heap_base (rounded (slice_index args 0 - heap_base))
spares_call ps space Mmap args =
    spares_gap ps (rounded (slice_index args 0)) (gap_in (rounded (slice_index args 0)) space)
spares_call ps space _ args = true
