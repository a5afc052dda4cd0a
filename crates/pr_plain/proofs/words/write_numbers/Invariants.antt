use Rattle.std.proofs.Common.{◌≡◌, ◌++◌, decimal, map, take}
use Rattle.pr_plain.specs.Buffers.{StartsWith}
use Rattle.pr_text.specs.SpacedWords.{spaced}
use Rattle.pr_plain.proofs.words.write_numbers.Given as goal

abbrev pub invariant-loop-n : goal.invariant-loop-n
invariant-loop-n l = record {
  numbers : l.out.items ≡ l.initial.out.items ++ spaced (map decimal (take l.n-index l.numbers));
  kept : StartsWith l.out.items l.initial.out.items;
}
