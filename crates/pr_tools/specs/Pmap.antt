-- The text of pmap(1): the mappings of a process.
use Rattle.std.specs.Prelude.{ℕ, ◌/◌, ◌≤◌, ◌<◌, ◌^◌, ◌⊎◌, List, [], ◌∷◌, ◌++◌, length, IfSome, Option, Some, None, slice_index, drop, sum_by, codes, decimal, if◌then◌else◌}
use Rattle.std.specs.List.{flat_map}
use Rattle.pr_num.specs.Control.{has_flags, prot_read, prot_write, prot_exec}
use Rattle.pr_num.specs.Limits.{read_limit}
use Rattle.pr_num.specs.Records.{map_entry_ranges}
use Rattle.pr_num.specs.Spaces.{kind_of_number}
use Rattle.pr_num.specs.declared.mappings.MappingKind.{MappingKind}
use Rattle.pr_num.specs.declared.mappings.MappingKind.TheVariants.{Text, Data, Heap, Stack, Mapped}
use Rattle.pr_text.specs.Numerals.{hex8_text}
use Rattle.pr_tools.specs.Entries.{entries_in}
use Rattle.pr_tools.specs.Texts.{header, name_of_words, line_end}

-- the letter of an access that a protection allows, else a dash
unfoldable pub access_letter : ℕ → ℕ → List ℕ → List ℕ
access_letter prot access letter = if has_flags prot access then letter else codes "-"

-- a protection by the letters of reading, writing and executing
unfoldable pub prot_text : ℕ → List ℕ
prot_text prot =
    access_letter prot prot_read (codes "r") ++ access_letter prot prot_write (codes "w")
    ++ access_letter prot prot_exec (codes "x")

-- what a mapping is for
unfoldable pub kind_name : MappingKind → List ℕ
kind_name Text = codes "text"
kind_name Data = codes "data"
kind_name Heap = codes "heap"
kind_name Stack = codes "stack"
kind_name Mapped = codes "mapped"

abbrev pub kind_text : Option MappingKind → List ℕ
kind_text None = []
kind_text (Some kind) = kind_name kind

-- a name with a blank before it, where there is one
unfoldable pub named : List ℕ → List ℕ
named [] = []
named (b ∷ bs) = codes " " ++ b ∷ bs

-- a size in units of 1,024 bytes
abbrev pub units : List ℕ → ℕ
units words = slice_index words 1 / 1024

-- where a mapping lies, and its size
unfoldable pub place_text : List ℕ → List ℕ
place_text words = codes " " ++ hex8_text (slice_index words 0) ++ codes " " ++ decimal (units words) ++ codes "K "

-- the line of a mapping
unfoldable pub mapping_line : List ℕ → List ℕ
mapping_line words =
    place_text words ++ prot_text (slice_index words 2) ++ codes " " ++ kind_text (kind_of_number (slice_index words 3))
    ++ named (name_of_words (drop 4 words)) ++ line_end

-- the last line
unfoldable pub total_line : ℕ → List ℕ
total_line total = codes " total " ++ decimal total ++ codes "K" ++ line_end

-- the lines of the mappings, where they are not malformed
abbrev pub mapping_lines : Option (List (List ℕ)) → List ℕ
mapping_lines None = []
mapping_lines (Some mappings) = flat_map mapping_line mappings ++ total_line (sum_by units mappings)

-- These are few mappings, or small ones: the sum of their sizes is a word.
abbrev pub HasTotal : List ℕ → Type 0
HasTotal bytes =
    (length bytes ≤ read_limit) ⊎ IfSome (entries_in map_entry_ranges bytes) (λ ms. sum_by units ms < 2 ^ 64)

-- the text of a process, of its mappings
unfoldable pub pmap_text : ℕ → List ℕ → List ℕ
pmap_text pid bytes = header pid ++ mapping_lines (entries_in map_entry_ranges bytes)
