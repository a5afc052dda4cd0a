use Rattle.std.specs.Prelude.{◌≡◌, ℕ, zero, suc, ◌+◌, ◌-◌, ◌*◌, ◌/◌, ◌%◌, ◌==◌, ◌&&◌, List, [], ◌∷◌, length, take, drop, map, Result, Ok, Err, nat_lt, nat_le, if◌then◌else◌}
use Rattle.pr_codec.specs.Words.{word_at}
use Rattle.pr_num.specs.Records.{Range, an_id, psinfo_ranges, lwpstatus_ranges, sigact_ranges, map_entry_ranges, fd_entry_ranges}
use Rattle.pr_rec.specs.Reading.{record_read}
use Rattle.pr_rec.specs.declared.faults.RecFault.{RecFault}
use Rattle.pr_rec.specs.declared.faults.RecFault.TheVariants as rec
use Rattle.pr_text.specs.Steps.{◌>>=◌}
use Rattle.pr_core.specs.CoreBytes.{core_version, psinfo_kind, lstatus_kind, sigact_kind, map_kind, fds_kind, memory_kind}
use Rattle.pr_core.specs.CoreRanges.{mapping_size}
use Rattle.pr_core.specs.Cores.{CoreWords}
use Rattle.pr_core.specs.declared.faults.CoreFault.{CoreFault}
use Rattle.pr_core.specs.declared.faults.CoreFault.TheVariants.{Short, Bad, NoMemory}

-- Reading a core from its front on. The first word that is cut, or cannot stand where it stands, is the fault.

-- what was read, and the place behind it
pub record Read (T : Type 0) : Type 0 where
  pub found : T
  pub next : ℕ

-- ---- words

-- the word at a place
unfoldable pub word_read : List ℕ → ℕ → Result ℕ CoreFault
word_read bytes at = if nat_lt (length bytes) (at + 8) then Err (Short at) else Ok (word_at bytes at)

-- a word of a place, where it may stand there
abbrev pub in_range : Range → ℕ → ℕ → Result ℕ CoreFault
in_range fits at word = if fits word then Ok word else Err (Bad at)

-- the word at a place, where it may stand there
unfoldable pub word_in : Range → List ℕ → ℕ → Result ℕ CoreFault
word_in fits bytes at = word_read bytes at >>= in_range fits at

-- this word and no other
abbrev pub exactly : ℕ → Range
exactly expected word = word == expected

-- ---- sections

-- how many bytes the section of a kind has that begins at a place; its bytes begin 16 bytes further on
unfoldable pub section_size : ℕ → Range → List ℕ → ℕ → Result ℕ CoreFault
section_size kind sizes bytes at = do
  _ ← word_in (exactly kind) bytes at
  size ← word_in sizes bytes (at + 8)
  if nat_lt (length bytes) (at + 16 + size) then Err (Short (at + 16)) else Ok size

-- how many bytes a record has
abbrev pub size_of : List Range → ℕ
size_of ranges = 8 * length ranges

-- the fault of a record that begins at a place
abbrev pub fault_at : ℕ → RecFault → CoreFault
fault_at at rec.Short = Short at
fault_at at (rec.BadField field) = Bad (at + field)

abbrev pub placed : ℕ → Result (List ℕ) RecFault → Result (List ℕ) CoreFault
placed at (Ok words) = Ok words
placed at (Err fault) = Err (fault_at at fault)

-- the words of the record at a place
unfoldable pub record_at : List Range → List ℕ → ℕ → Result (List ℕ) CoreFault
record_at ranges bytes at = placed at (record_read ranges (drop at bytes))

-- the words of so many records one after the other from a place on
unfoldable pub records_at : List Range → ℕ → List ℕ → ℕ → Result (List (List ℕ)) CoreFault
records_at ranges zero bytes at = Ok []
records_at ranges (suc n) bytes at = do
  words ← record_at ranges bytes at
  others ← records_at ranges n bytes (at + size_of ranges)
  Ok (words ∷ others)

-- a section that is one record
unfoldable pub one_record : ℕ → List Range → List ℕ → ℕ → Result (Read (List ℕ)) CoreFault
one_record kind ranges bytes at = do
  size ← section_size kind (exactly (size_of ranges)) bytes at
  words ← record_at ranges bytes (at + 16)
  Ok (record { found = words; next = at + 16 + size })

-- whether so many bytes are whole records
abbrev pub are_whole : List Range → Range
are_whole ranges size = size % size_of ranges == 0

-- a section of any number of records one after the other
unfoldable pub any_records : ℕ → List Range → List ℕ → ℕ → Result (Read (List (List ℕ))) CoreFault
any_records kind ranges bytes at = do
  size ← section_size kind (are_whole ranges) bytes at
  entries ← records_at ranges (size / size_of ranges) bytes (at + 16)
  Ok (record { found = entries; next = at + 16 + size })

-- whether so many bytes are a word and whole records
abbrev pub are_counted : List Range → Range
are_counted ranges size = nat_le 8 size && are_whole ranges (size - 8)

-- a section of records after their number
unfoldable pub counted_records : ℕ → List Range → List ℕ → ℕ → Result (Read (List (List ℕ))) CoreFault
counted_records kind ranges bytes at = do
  size ← section_size kind (are_counted ranges) bytes at
  count ← word_in (exactly ((size - 8) / size_of ranges)) bytes (at + 16)
  entries ← records_at ranges count bytes (at + 24)
  Ok (record { found = entries; next = at + 16 + size })

-- the memory of mappings of these sizes, a section each
unfoldable pub pieces : List ℕ → List ℕ → ℕ → Result (Read (List (List ℕ))) CoreFault
pieces [] bytes at = Ok (record { found = []; next = at })
pieces (size ∷ sizes) bytes at = do
  _ ← section_size memory_kind (exactly size) bytes at
  others ← pieces sizes bytes (at + 16 + size)
  Ok (record { found = take size (drop (at + 16) bytes) ∷ others.found; next = others.next })

-- ---- the whole

-- nothing stands from a place on
abbrev pub ended : List ℕ → ℕ → Result (Unit {0}) CoreFault
ended bytes at = if at == length bytes then Ok tt else Err (Bad at)

-- the words of a core, or the first fault
unfoldable pub core_read : List ℕ → Result CoreWords CoreFault
core_read bytes = do
  _ ← word_in (exactly core_version) bytes 0
  pid ← word_in an_id bytes 8
  psinfo ← one_record psinfo_kind psinfo_ranges bytes 16
  lwps ← counted_records lstatus_kind lwpstatus_ranges bytes psinfo.next
  sigact ← one_record sigact_kind sigact_ranges bytes lwps.next
  maps ← any_records map_kind map_entry_ranges bytes sigact.next
  fds ← any_records fds_kind fd_entry_ranges bytes maps.next
  memory ← pieces (map mapping_size maps.found) bytes fds.next
  _ ← ended bytes memory.next
  Ok (record {
    pid = pid;
    psinfo = psinfo.found;
    lwps = lwps.found;
    sigact = sigact.found;
    maps = maps.found;
    fds = fds.found;
    memory = memory.found;
  })

-- That this is the fault of a reading, or memory ran out.
abbrev pub IsFaultOf : {T : Type 0} → Result T CoreFault → CoreFault → Type 0
IsFaultOf read NoMemory = Unit {0}
IsFaultOf read (Short at) = read ≡ Err (Short at)
IsFaultOf read (Bad at) = read ≡ Err (Bad at)

-- the field that a fault of a record names
abbrev pub IfField : RecFault → (ℕ → Type 0) → Type 0
IfField rec.Short P = Unit {0}
IfField (rec.BadField field) P = P field
