-- Sets of signals, of faults and of system calls by name. A set that has more than half of its table is told by what it
-- lacks.
use Rattle.std.specs.Prelude.{ℕ, ◌==◌, ◌*◌, Bool, true, false, not, Option, Some, None, List, [], ◌++◌, codes, length, count_by, nat_lt, if◌then◌else◌}
use Rattle.std.specs.List.{flat_map}
use Rattle.pr_num.specs.Sets.{has_number, has_entry, set_of_word}
use Rattle.pr_text.specs.Numerals.{hex_text}

-- whether an entry is picked: of those that a set has, or of those that it lacks
abbrev pub is_picked : Bool → Bool → Bool
is_picked lacks has = if lacks then not has else has

-- an entry by name, where it is picked
unfoldable pub entry_text : {T : Type 0} → (T → ℕ) → (T → List ℕ) → Bool → ℕ → T → List ℕ
entry_text number name lacks set entry =
    if is_picked lacks (has_number set (number entry)) then codes " " ++ name entry else []

-- the entries that a set has, or those that it lacks
unfoldable pub entries_text : {T : Type 0} → (T → ℕ) → (T → List ℕ) → List T → Bool → ℕ → List ℕ
entries_text number name table lacks set = flat_map (entry_text number name lacks set) table

-- a set of which this many entries are in it
unfoldable pub counted_text : {T : Type 0} → (T → ℕ) → (T → List ℕ) → List T → ℕ → ℕ → List ℕ
counted_text number name table set count =
    if count == 0 then codes " none"
    else (if count == length table then codes " all"
    else (if nat_lt (length table) (2 * count) then codes " all but" ++ entries_text number name table true set
    else entries_text number name table false set))

unfoldable pub set_text : {T : Type 0} → (T → ℕ) → (T → List ℕ) → List T → ℕ → List ℕ
set_text number name table set = counted_text number name table set (count_by (has_entry number set) table)

-- the set of a word; the word in hex where it is that of no set
abbrev pub set_or_hex : {T : Type 0} → (T → ℕ) → (T → List ℕ) → List T → ℕ → Option ℕ → List ℕ
set_or_hex number name table word None = codes " " ++ hex_text word
set_or_hex number name table word (Some set) = set_text number name table set

unfoldable pub set_word_text : {T : Type 0} → ℕ → (T → ℕ) → (T → List ℕ) → List T → ℕ → List ℕ
set_word_text entries number name table word = set_or_hex number name table word (set_of_word entries word)
