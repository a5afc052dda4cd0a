use Rattle.std.specs.Prelude.{◌==◌, ◌&&◌, ◌+◌, ◌-◌, ◌%◌, ◌^◌, ◌<◌, ◌≤◌, ℕ, zero, suc, Bool, true, false, List, [], ◌∷◌, ◌++◌, length, replicate, slice_index, find, sum_by, All, AllPairs, Option, Some, None, Result, Ok, Err, nat_lt, nat_le, if◌then◌else◌}
use Rattle.pr_num.specs.Control.{has_flags, prot_read, prot_write, prot_exec}
use Rattle.pr_num.specs.Layout.{data_base, page_size, stack_base, stack_end, text_base}
pub use Rattle.pr_num.specs.Limits.{mapping_limit}
use Rattle.pr_num.specs.Programs.{Program, text_of, whole_pages}
use Rattle.pr_num.specs.declared.mappings.BadByte.{BadByte}
use Rattle.pr_num.specs.declared.mappings.BadByte.TheVariants.{Hole, NotAllowed}
use Rattle.pr_num.specs.declared.mappings.Mapping.{Mapping}
use Rattle.pr_num.specs.declared.mappings.MappingKind.{MappingKind}
use Rattle.pr_num.specs.declared.mappings.MappingKind.TheVariants.{Text, Data, Heap, Stack, Mapped}

-- An address space is its mappings, by rising address and apart from each other.
abbrev pub Space : Type 0
Space = List Mapping

-- two mappings stand in the order of their addresses, apart from each other
abbrev pub IsBefore : Mapping → Mapping → Type 0
IsBefore m n = m.at + length m.bytes ≤ n.at

-- how many bytes are mapped
abbrev pub mapped_size : Space → ℕ
mapped_size space = sum_by (λ m. length m.bytes) space

-- what every address space keeps: its mappings stand by rising address and apart, none is empty or reaches past the
-- last address, and together they have at most 1 MiB
pub record IsSpace (space : Space) : Type 0 where
  pub apart : AllPairs IsBefore space
  pub not_empty : All (λ (m : Mapping). 0 < length m.bytes) space
  pub within : All (λ (m : Mapping). m.at + length m.bytes < 2 ^ 64) space
  pub limit : mapped_size space ≤ mapping_limit

-- the number of a kind of mapping, of this project's own
unfoldable pub kind_number : MappingKind → ℕ
kind_number Text = 1
kind_number Data = 2
kind_number Heap = 3
kind_number Stack = 4
kind_number Mapped = 5

-- the kind of mapping of a number, where it is one
abbrev pub kind_of_number : ℕ → Option MappingKind
kind_of_number n =
    if n == 1 then Some Text
    else (if n == 2 then Some Data
    else (if n == 3 then Some Heap
    else (if n == 4 then Some Stack
    else (if n == 5 then Some Mapped else None))))

-- whether a mapping has the byte at an address
abbrev pub covers : ℕ → Mapping → Bool
covers address m = nat_le m.at address && nat_lt address (m.at + length m.bytes)

-- the byte at an address, for an access that needs these protections
abbrev pub byte_for : ℕ → Space → ℕ → Result ℕ BadByte
byte_for needed space address = of (find (covers address) space)
  where
    of : Option Mapping → Result ℕ BadByte
    of None = Err (Hole address)
    of (Some m) =
        if has_flags m.prot needed then Ok (slice_index m.bytes (address - m.at)) else Err (NotAllowed address)

-- a byte and those behind it, or what is at fault first
abbrev pub one_more : Result ℕ BadByte → Result (List ℕ) BadByte → Result (List ℕ) BadByte
one_more (Err bad) _ = Err bad
one_more (Ok byte) (Err bad) = Err bad
one_more (Ok byte) (Ok bytes) = Ok (byte ∷ bytes)

-- so many bytes from an address on, which wraps at 2^64, or the first of them at which the access fails
unfoldable pub bytes_for : ℕ → Space → ℕ → ℕ → Result (List ℕ) BadByte
bytes_for needed space address zero = Ok []
bytes_for needed space address (suc n) =
    one_more (byte_for needed space address) (bytes_for needed space ((address + 1) % 2 ^ 64) n)

-- whether a mapping is the heap
abbrev pub is_heap : MappingKind → Bool
is_heap Heap = true
is_heap _ = false

-- how many mapped bytes belong to the heap
abbrev pub heap_size : Space → ℕ
heap_size space = sum_by (λ m. if is_heap m.kind then length m.bytes else 0) space

-- a mapping of these bytes, unless there is none
abbrev pub unless_empty : ℕ → ℕ → MappingKind → List ℕ → Space
unless_empty address prot kind [] = []
unless_empty address prot kind (b ∷ bytes) =
    record { at = address; prot = prot; kind = kind; bytes = whole_pages (b ∷ bytes) } ∷ []

-- readable and executable; readable and writable
abbrev pub read_execute : ℕ
read_execute = prot_read + prot_exec

abbrev pub read_write : ℕ
read_write = prot_read + prot_write

-- The mappings with which a program of this text and these data begins: its text, readable and executable, its data and
-- a stack of one page, both readable and writable, each of whole pages.
unfoldable pub first_mappings : List ℕ → List ℕ → Space
first_mappings text bytes =
    unless_empty text_base read_execute Text text ++ unless_empty data_base read_write Data bytes
    ++ record { at = stack_base; prot = read_write; kind = Stack; bytes = replicate page_size 0 } ∷ []

-- the space in which a program begins
unfoldable pub first_space : Program → Space
first_space p = first_mappings (text_of p) p.bytes

-- the registers r0 to r7, sp, fp and pc with which a program begins: it begins at the first instruction, with an empty
-- stack
abbrev pub first_registers : List ℕ
first_registers = 0 ∷ 0 ∷ 0 ∷ 0 ∷ 0 ∷ 0 ∷ 0 ∷ 0 ∷ stack_end ∷ 0 ∷ text_base ∷ []
