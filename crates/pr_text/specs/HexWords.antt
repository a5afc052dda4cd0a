-- Bytes as hex digits, and back.
use Rattle.std.specs.Prelude.{ℕ, ◌+◌, ◌-◌, ◌*◌, ◌/◌, ◌%◌, ◌&&◌, nat_le, false, Option, Some, None, List, [], ◌∷◌, if◌then◌else◌}
use Rattle.std.specs.Fmt.{digit_glyph}
use Rattle.std.specs.List.{flat_map}

-- a byte is two digits, that of its high four bits first; letters are of lower case
unfoldable pub byte_digits : ℕ → List ℕ
byte_digits b = digit_glyph false (b / 16) ∷ digit_glyph false (b % 16) ∷ []

-- bytes in hex: two digits for each
abbrev pub digits_of_bytes : List ℕ → List ℕ
digits_of_bytes bytes = flat_map byte_digits bytes

-- the value of a digit, none where the byte is none of 0 to 9 and a to f
unfoldable pub digit_value : ℕ → Option ℕ
digit_value c =
    if nat_le 48 c && nat_le c 57 then Some (c - 48)
    else (if nat_le 97 c && nat_le c 102 then Some (c - 87)
    else None)

-- the byte of two digits
abbrev pub byte_of : Option ℕ → Option ℕ → Option ℕ
byte_of (Some high) (Some low) = Some (16 * high + low)
byte_of _ _ = None

abbrev pub with_byte : Option ℕ → Option (List ℕ) → Option (List ℕ)
with_byte (Some b) (Some bs) = Some (b ∷ bs)
with_byte _ _ = None

-- the bytes whose hex digits these are, none where they are those of no bytes
unfoldable pub bytes_of_digits : List ℕ → Option (List ℕ)
bytes_of_digits [] = Some []
bytes_of_digits (c ∷ []) = None
bytes_of_digits (c ∷ d ∷ rest) = with_byte (byte_of (digit_value c) (digit_value d)) (bytes_of_digits rest)
