-- The lines of entries, a block at a time.
use Rattle.std.specs.Prelude.{◌≡◌, ℕ, ◌+◌, ◌<◌, ◌≤◌, ◌⊎◌, List, ◌++◌, length, take}
use Rattle.pr_model.specs.declared.events.Entry.{Entry}
use Rattle.pr_plain.specs.HistoryText.{entries_text}

-- The bytes of a block. Lines are gathered up to it, since a write(2) for each entry was slow.
abbrev pub block_size : ℕ
block_size = 65536

-- The lines of the entries from one place up to another, of which there is one at least: enough for a block, or all
-- that are left; and no more, since the lines of fewer entries are too short for a block.
pub record IsNextBlock (history : List Entry) (from to : ℕ) (block : List ℕ) : Type 0 where
  pub goes_on : from < to
  pub within : to ≤ length history
  pub lines : entries_text 0 (take to history) ≡ entries_text 0 (take from history) ++ block
  pub full : (to ≡ length history) ⊎ (block_size ≤ length block)
  pub least : (n : ℕ) → from ≤ n → n < to
      → length (entries_text 0 (take n history)) < length (entries_text 0 (take from history)) + block_size
