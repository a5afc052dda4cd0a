use Rattle.std.proofs.Common.{◌≡◌, ℕ, ◌+◌, ◌<◌, ◌≤◌, ◌++◌, length, take}
use Rattle.pr_plain.specs.HistoryText.{entries_text}
use Rattle.pr_output.specs.Blocks.{block_size}
use Rattle.pr_output.proofs.lines.fill_block.Given as goal

-- the lines from the place on so far, which are no block yet, nor were before
abbrev pub invariant-loop-at : goal.invariant-loop-at
invariant-loop-at l = record {
  lines : entries_text 0 (take l.at l.history.entries)
      ≡ entries_text 0 (take l.from l.history.entries) ++ l.block.items;
  end : l.at-end ≡ length l.history.entries;
  short : length l.block.items < block_size;
  least : (n : ℕ) → l.from ≤ n → n < l.at
      → length (entries_text 0 (take n l.history.entries))
      < length (entries_text 0 (take l.from l.history.entries)) + block_size;
}
