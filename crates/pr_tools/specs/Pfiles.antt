-- The text of pfiles(1): the open descriptors of a process.
use Rattle.std.specs.Prelude.{ℕ, false, List, [], ◌++◌, Option, Some, None, slice_index, drop, codes, decimal, ◌==◌, if◌then◌else◌}
use Rattle.std.specs.List.{flat_map}
use Rattle.pr_num.specs.Records.{fd_entry_ranges}
use Rattle.pr_text.specs.Quotes.{quoted_text}
use Rattle.pr_tools.specs.Entries.{entries_in}
use Rattle.pr_tools.specs.Texts.{header, name_of_words, line_end}

-- a file that is open: its name, for what it is open, and where the next read or write begins
unfoldable pub file_text : List ℕ → List ℕ
file_text words =
    codes "file " ++ quoted_text (name_of_words (drop 4 words)) false ++ codes " mode " ++ decimal (slice_index words 2)
    ++ codes " offset " ++ decimal (slice_index words 3)

-- what a descriptor stands for
unfoldable pub target_text : List ℕ → List ℕ
target_text words =
    if slice_index words 1 == 1 then file_text words
    else (if slice_index words 1 == 2 then codes "pipe read" else codes "pipe write")

-- the line of a descriptor
unfoldable pub descriptor_line : List ℕ → List ℕ
descriptor_line words = codes " " ++ decimal (slice_index words 0) ++ codes ": " ++ target_text words ++ line_end

-- the lines of the descriptors, where they are not malformed
abbrev pub descriptor_lines : Option (List (List ℕ)) → List ℕ
descriptor_lines None = []
descriptor_lines (Some descriptors) = flat_map descriptor_line descriptors

-- the text of a process, of its descriptors
unfoldable pub pfiles_text : ℕ → List ℕ → List ℕ
pfiles_text pid bytes = header pid ++ descriptor_lines (entries_in fd_entry_ranges bytes)
