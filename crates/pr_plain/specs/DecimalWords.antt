-- Numbers in decimal without leading zeros, read from their words. What writes them is `decimal`.
use Rattle.std.specs.Prelude.{ℕ, ◌==◌, Bool, false, Option, None, List, [], ◌∷◌, if◌then◌else◌}
use Rattle.pr_text.specs.NumberWords as number_words

-- whether a word begins as a number in hex does, with an x behind its first byte
abbrev pub begins_hex : List ℕ → Bool
begins_hex [] = false
begins_hex (b ∷ []) = false
begins_hex (b ∷ x ∷ bs) = x == 120

-- the number below 2^64 that a word is, none where it is none
unfoldable pub decimal_of : List ℕ → Option ℕ
decimal_of w = if begins_hex w then None else number_words.number_of w

-- the number below 2^32 that a word is: an id, a handle or the number of a controller
unfoldable pub decimal_id_of : List ℕ → Option ℕ
decimal_id_of w = if begins_hex w then None else number_words.id_of w
