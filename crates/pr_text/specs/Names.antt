-- Names as they stand in a line.
use Rattle.std.specs.Prelude.{◌==◌, ◌&&◌, ◌||◌, ℕ, Bool, Option, Some, None, List, length, slice_index, nat_le, if◌then◌else◌}
use Rattle.std.specs.List.{list_all}
use Rattle.pr_num.specs.Limits.{name_limit}

abbrev pub is_letter : ℕ → Bool
is_letter b = (nat_le 97 b && nat_le b 122) || (nat_le 65 b && nat_le b 90)

abbrev pub is_digit : ℕ → Bool
is_digit b = nat_le 48 b && nat_le b 57

-- a letter, a digit, or one of _ . -
unfoldable pub is_name_byte : ℕ → Bool
is_name_byte b = is_letter b || is_digit b || b == 95 || b == 46 || b == 45

-- 1 to 31 letters, digits, _, . and -, the first a letter
unfoldable pub is_name : List ℕ → Bool
is_name bytes = is_letter (slice_index bytes 0) && nat_le (length bytes) name_limit && list_all is_name_byte bytes

-- the name that a word is, if it is one
abbrev pub name_of : List ℕ → Option (List ℕ)
name_of word = if is_name word then Some word else None
