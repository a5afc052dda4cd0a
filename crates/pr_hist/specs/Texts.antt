-- Numbers and bytes in words.
use Rattle.std.specs.Prelude.{ℕ, ◌==◌, ◌-◌, List, [], ◌∷◌, ◌++◌, codes, decimal, length, take, nat_lt, false, if◌then◌else◌}
use Rattle.std.specs.Char.{is_ascii_whitespace}
use Rattle.std.specs.List.{before_first, flat_map, suffix_len}
use Rattle.pr_num.specs.Limits.{shown_limit}
use Rattle.pr_num.specs.Padding.{is_zero}
use Rattle.pr_text.specs.HexWords.{digits_of_bytes}
use Rattle.pr_text.specs.Numerals.{hex_text}
use Rattle.pr_text.specs.Quotes.{quoted_text}

-- a number that may be an address: in hex from 65,536 on
unfoldable pub number_text : ℕ → List ℕ
number_text n = if nat_lt n 65536 then decimal n else hex_text n

-- a moment of the clock, or a time
unfoldable pub time_text : ℕ → List ℕ
time_text n = decimal n ++ codes " ms"

-- how many bytes there are
unfoldable pub size_text : ℕ → List ℕ
size_text n = decimal n ++ (if n == 1 then codes " byte" else codes " bytes")

-- bytes in hex, at most as many as a quoted text shows
unfoldable pub digits_text : List ℕ → List ℕ
digits_text bytes =
    digits_of_bytes (take shown_limit bytes) ++ (if nat_lt shown_limit (length bytes) then codes ".." else [])

-- a word behind a blank; + parts it as a blank does
unfoldable pub plus_as_blank : ℕ → List ℕ
plus_as_blank b = if b == 43 then 32 ∷ [] else b ∷ []

unfoldable pub spaced_text : List ℕ → List ℕ
spaced_text word = codes " " ++ flat_map plus_as_blank word

-- a text without the blanks at its end
unfoldable pub trimmed : List ℕ → List ℕ
trimmed t = take (length t - suffix_len is_ascii_whitespace t) t

-- a name in its 32 bytes: those up to the first zero
unfoldable pub name_in : List ℕ → List ℕ
name_in bytes = before_first is_zero (take 32 bytes)

-- bytes in hex and as text
unfoldable pub bytes_text : List ℕ → List ℕ
bytes_text bytes = digits_text bytes ++ (codes " " ++ quoted_text bytes false)
