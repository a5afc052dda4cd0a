-- Numbers as text.
use Rattle.std.specs.Prelude.{ℕ, ◌-◌, false, List, ◌++◌, length, replicate, codes}
use Rattle.std.specs.Fmt.{digits}
use Rattle.pr_text.specs.Bytes.{digit_zero}

-- a number in hex: 0x and its digits in lower case, without leading zeros
abbrev pub hex_text : ℕ → List ℕ
hex_text n = codes "0x" ++ digits 16 false n

-- the same with zeros before its digits where they are fewer than eight
abbrev pub hex8_text : ℕ → List ℕ
hex8_text n = codes "0x" ++ replicate (8 - length (digits 16 false n)) digit_zero ++ digits 16 false n
