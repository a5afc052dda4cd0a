-- What was read of a file: a record field by field, or bytes.
use Rattle.std.specs.Prelude.{ℕ, zero, suc, ◌==◌, ◌+◌, ◌-◌, ◌*◌, ◌/◌, ◌%◌, ◌&&◌, ◌||◌, not, Bool, true, false, List, [], ◌++◌, Option, codes, drop, length, if◌then◌else◌}
use Rattle.pr_num.specs.Messages.{nth_word}
use Rattle.pr_hist.specs.Fields.{field_kind, field_name, starts_record}
use Rattle.pr_hist.specs.Listings.{Listing}
use Rattle.pr_hist.specs.Texts.{bytes_text}
use Rattle.pr_hist.specs.Values.{is_shown, value_text}
use Rattle.pr_hist.specs.declared.fields.Kind.{Kind}
use Rattle.pr_hist.specs.declared.fields.Layout.{Layout}
use Rattle.pr_hist.specs.declared.fields.Layout.TheVariants.{Raw}

-- a field by name, where its word says something, or all fields are told
unfoldable pub field_text : Bool → Option Listing → List ℕ → Kind → ℕ → ℕ → List ℕ → List ℕ
field_text full source name kind before w bytes =
    if is_shown full kind w then codes " " ++ (name ++ (value_text source kind before w bytes ++ codes ";")) else []

-- the line on which a record stands
unfoldable pub line_start : Bool → List ℕ
line_start first = if first then codes "\n   " else []

-- the word before the one at a place
unfoldable pub word_before : List ℕ → ℕ → ℕ
word_before bytes i = if i == 0 then 0 else nth_word bytes (i - 1)

-- the word at a place of what was read, which begins with the word `from` of its file
unfoldable pub word_text : Bool → Option Listing → Layout → ℕ → List ℕ → ℕ → List ℕ
word_text full source layout from bytes i =
    line_start (i == 0 || starts_record layout (from + i))
    ++ field_text full source (field_name layout (from + i)) (field_kind layout (from + i))
    (word_before bytes i) (nth_word bytes i) (drop (8 * i) bytes)

-- the words at the places below one
unfoldable pub words_text : Bool → Option Listing → Layout → ℕ → List ℕ → ℕ → List ℕ
words_text full source layout from bytes zero = []
words_text full source layout from bytes (suc i) =
    words_text full source layout from bytes i ++ word_text full source layout from bytes i

-- bytes on a line of their own
unfoldable pub raw_text : List ℕ → List ℕ
raw_text bytes = if length bytes == 0 then [] else codes "\n    " ++ bytes_text bytes

-- whether what was read is told field by field: whole words of a record
abbrev pub is_raw : Layout → Bool
is_raw Raw = true
is_raw _ = false

unfoldable pub has_fields : Layout → ℕ → List ℕ → Bool
has_fields layout at bytes = not (is_raw layout) && (at % 8 == 0 && length bytes % 8 == 0)

-- what was read of a file from a byte on, of a process that runs this program
unfoldable pub record_text : Bool → Option Listing → Layout → ℕ → List ℕ → List ℕ
record_text full source layout at bytes =
    if has_fields layout at bytes then words_text full source layout (at / 8) bytes (length bytes / 8)
    else raw_text bytes
