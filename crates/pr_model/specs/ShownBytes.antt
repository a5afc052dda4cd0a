-- Which bytes of memory the line of a call shows (truss(1)).
use Rattle.std.specs.Prelude.{◌==◌, ◌+◌, ℕ, Option, Some, None, List, [], ◌∷◌, min, nat_le, slice_index, if◌then◌else◌}
use Rattle.pr_num.specs.Limits.{transfer_limit, asked_limit}
use Rattle.pr_num.specs.Syscalls.{syscall_args}
use Rattle.pr_num.specs.declared.syscalls.ArgKind.{ArgKind}
use Rattle.pr_num.specs.declared.syscalls.ArgKind.TheVariants.{Dec, Hex, Text, Buf}
use Rattle.pr_num.specs.declared.syscalls.Sysno.{Sysno}
use Rattle.pr_num.specs.declared.syscalls.Sysno.TheVariants.{Read, Write}

-- a number of bytes that one call can move
abbrev pub transferable : ℕ → Option ℕ
transferable size = if nat_le size transfer_limit then Some size else None

-- How many bytes of its buffer a call shows that gave a value, or none where it failed; a row a call that has a buffer:
-- as many as were read into it; as many as were to be written from it. None: the buffer is shown as an address, since
-- read failed, or more were to be written than one call can write.
unfoldable pub buffer_size : Sysno → List ℕ → Option ℕ → Option ℕ
buffer_size Read arguments value = value
buffer_size Write arguments value = transferable (slice_index arguments 2)
buffer_size _ arguments value = None

-- the memory of a buffer at an address that is asked for, none for a buffer without bytes
abbrev pub buffer_range : ℕ → Option ℕ → Option (ℕ × ℕ)
buffer_range address None = None
buffer_range address (Some size) = if size == 0 then None else Some (address, min size asked_limit)

-- The memory that the first text or buffer among arguments asks for, from an argument on; a buffer shows so many bytes.
-- No call has two.
unfoldable pub range_from : List ℕ → Option ℕ → List ArgKind → ℕ → Option (ℕ × ℕ)
range_from arguments size [] place = None
range_from arguments size (Dec ∷ kinds) place = range_from arguments size kinds (place + 1)
range_from arguments size (Hex ∷ kinds) place = range_from arguments size kinds (place + 1)
range_from arguments size (Text ∷ kinds) place = Some (slice_index arguments place, asked_limit)
range_from arguments size (Buf ∷ kinds) place = buffer_range (slice_index arguments place) size

-- the address of the memory that the line of a call asks for that gave a value, or none, and how many bytes
abbrev pub shown_range : Sysno → List ℕ → Option ℕ → Option (ℕ × ℕ)
shown_range call arguments value = range_from arguments (buffer_size call arguments value) (syscall_args call) 0
