use Rattle.std.proofs.Common.{◌≡◌, ◌++◌, take}
use Rattle.pr_text.specs.HexWords.{digits_of_bytes}
use Rattle.pr_hist.proofs.texts.write_hex_bytes.Given as goal

-- the digits of the bytes so far
abbrev pub invariant-loop-byte : goal.invariant-loop-byte
invariant-loop-byte l = l.text ≡ l.fn.text ++ digits_of_bytes (take l.byte-index l.bytes)
