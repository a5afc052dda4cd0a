-- The text of ptree(1): the processes as a tree.
use Rattle.std.specs.Prelude.{ℕ, zero, suc, ◌+◌, ◌*◌, ◌==◌, ◌&&◌, Bool, true, List, [], ◌∷◌, ◌++◌, Option, Some, None, slice_index, drop, length, min, replicate, codes, decimal, nat_lt, if◌then◌else◌}
use Rattle.std.specs.List.{flat_map}
use Rattle.pr_num.specs.Records.{list_entry_ranges}
use Rattle.pr_text.specs.Bytes.{blank}
use Rattle.pr_tools.specs.Entries.{entries_in}
use Rattle.pr_tools.specs.Texts.{name_of_words, line_end}

-- Processes stand by rising id, and process 0 is not among them.
unfoldable pub ids_rise : ℕ → List (List ℕ) → Bool
ids_rise least [] = true
ids_rise least (p ∷ ps) = nat_lt least (slice_index p 0) && ids_rise (slice_index p 0) ps

-- the greatest depth that is shown
abbrev pub deepest : ℕ
deepest = 32

-- the line of a process, with two blanks for each level of its depth
unfoldable pub process_line : ℕ → List ℕ → List ℕ
process_line depth words =
    replicate (2 * depth) blank ++ decimal (slice_index words 0) ++ codes " " ++ name_of_words (drop 2 words)
    ++ line_end

-- a process that is a child of this one, and the lines of its own children, by its id; nothing of any other process
unfoldable pub branch_lines : ℕ → ℕ → (ℕ → List ℕ) → List ℕ → List ℕ
branch_lines depth parent children p =
    if slice_index p 1 == parent then process_line depth p ++ children (slice_index p 0) else []

-- the depth one level down, as far as it is shown
abbrev pub deeper : ℕ → ℕ
deeper depth = min (depth + 1) deepest

-- The lines of the children of a process, each with those of its own children after it, so many levels deep.
unfoldable pub lines_below : ℕ → ℕ → List (List ℕ) → ℕ → List ℕ
lines_below zero depth processes parent = []
lines_below (suc levels) depth processes parent =
    flat_map (branch_lines depth parent (lines_below levels (deeper depth) processes)) processes

-- The lines of all processes by rising id: those without a parent stand at the top. No tree has more levels than there
-- are processes.
unfoldable pub tree_text : List (List ℕ) → List ℕ
tree_text processes = if ids_rise 0 processes then lines_below (length processes) 0 processes 0 else []

-- the same, where they are not malformed
abbrev pub tree_lines : Option (List (List ℕ)) → List ℕ
tree_lines None = []
tree_lines (Some processes) = tree_text processes

-- the text of a list of processes
unfoldable pub ptree_text : List ℕ → List ℕ
ptree_text bytes = tree_lines (entries_in list_entry_ranges bytes)
