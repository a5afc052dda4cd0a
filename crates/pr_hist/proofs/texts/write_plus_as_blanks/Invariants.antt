use Rattle.std.proofs.Common.{◌≡◌, ◌++◌, take}
use Rattle.std.specs.List.{flat_map}
use Rattle.pr_hist.specs.Texts.{plus_as_blank}
use Rattle.pr_hist.proofs.texts.write_plus_as_blanks.Given as goal

-- the bytes so far
abbrev pub invariant-loop-byte : goal.invariant-loop-byte
invariant-loop-byte l = l.text ≡ l.fn.text ++ flat_map plus_as_blank (take l.byte-index l.bytes)
