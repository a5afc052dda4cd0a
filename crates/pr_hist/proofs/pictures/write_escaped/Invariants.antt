use Rattle.std.proofs.Common.{◌≡◌, ◌++◌, take}
use Rattle.std.specs.List.{flat_map}
use Rattle.pr_hist.specs.Pictures.{escaped_byte}
use Rattle.pr_hist.proofs.pictures.write_escaped.Given as goal

-- the bytes so far
abbrev pub invariant-loop-byte : goal.invariant-loop-byte
invariant-loop-byte l = l.text ≡ l.fn.text ++ flat_map escaped_byte (take l.byte-index l.bytes)
