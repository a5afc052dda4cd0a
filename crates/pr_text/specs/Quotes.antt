-- Text in quotes, as truss(1) shows the strings and buffers of a call.
use Rattle.std.specs.Prelude.{ℕ, ◌≤◌, ◌/◌, ◌%◌, ◌==◌, ◌||◌, ◌&&◌, Bool, false, List, [], ◌∷◌, ◌++◌, length, take, codes, nat_le, nat_lt, if◌then◌else◌}
use Rattle.std.specs.List.{flat_map}
use Rattle.std.specs.Fmt.{digit_glyph}
use Rattle.pr_num.specs.Limits.{shown_limit}
use Rattle.pr_text.specs.Bytes.{blank, quote, backslash, letter_x, tilde}

-- A byte between quotes: a quote or a backslash has a backslash before it, another byte from the blank to the tilde
-- stands as it is, and any other is \x and its two hex digits.
unfoldable pub quoted_byte : ℕ → List ℕ
quoted_byte b =
    if b == quote || b == backslash then backslash ∷ b ∷ []
    else (if nat_le blank b
    && nat_le b tilde then b ∷ [] else backslash ∷ letter_x ∷ digit_glyph false (b / 16)
    ∷ digit_glyph false (b % 16) ∷ [])

-- whether .. stands after the quotes: the bytes are more than are shown, or are known to go on
abbrev pub has_dots : List ℕ → Bool → Bool
has_dots bytes more = more || nat_lt shown_limit (length bytes)

-- bytes in quotes, at most the first `shown_limit`
unfoldable pub quoted_text : List ℕ → Bool → List ℕ
quoted_text bytes more =
    quote ∷ flat_map quoted_byte (take shown_limit bytes) ++ quote ∷ (if has_dots bytes more then codes ".." else [])

-- a byte that ASCII prints, from the blank to the tilde
abbrev pub IsPrinted : ℕ → Type 0
IsPrinted b = (blank ≤ b) × (b ≤ tilde)
