use Rattle.std.proofs.Common.{◌≡◌, ◌++◌, length}
use Rattle.pr_plain.specs.Buffers.{StartsWith}
use Rattle.pr_text.specs.HexWords.{digits_of_bytes}
use Rattle.pr_plain.proofs.words.write_bytes.Given as goal

-- what was written so far, and the digits of the rest, are what is to be written
abbrev pub invariant-loop-rest : goal.invariant-loop-rest
invariant-loop-rest l = record {
  digits : l.out.items ++ digits_of_bytes l.rest ≡ l.fn.out.items ++ digits_of_bytes l.bytes;
  kept : StartsWith l.out.items l.fn.out.items;
}

abbrev pub decreases-loop-rest : goal.decreases-loop-rest
decreases-loop-rest l = length l.rest
