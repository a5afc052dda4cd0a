-- Texts in quotes, as the lines of programs and scenarios have them.
use Rattle.std.specs.Prelude.{◌==◌, ◌&&◌, ◌+◌, ◌-◌, ◌*◌, ℕ, Option, Some, None, List, [], ◌∷◌, ◌++◌, length, take, drop, slice_index, nat_le, option_map, option_and_then, codes, if◌then◌else◌}
use Rattle.std.specs.List.{flat_map}
use Rattle.pr_text.specs.NumberWords.{digit_of}

-- a byte before others, if there are others
abbrev pub before : ℕ → Option (List ℕ) → Option (List ℕ)
before b others = option_map (λ bytes. b ∷ bytes) others

-- The bytes that stand between quotes. A backslash begins an escape: \n is a newline, \\ a backslash, \" a quote, and
-- \x with two hex digits the byte of that number. Another escape, and a quote without a backslash, stand for nothing.
unfoldable mutual
  pub bytes_between : List ℕ → Option (List ℕ)
  bytes_between [] = Some []
  bytes_between (b ∷ bs) =
      if b == 92 then escaped_bytes bs
      else (if b == 34 then None else before b (bytes_between bs))

  -- after a backslash
  pub escaped_bytes : List ℕ → Option (List ℕ)
  escaped_bytes [] = None
  escaped_bytes (b ∷ bs) =
      if b == 110 then before 10 (bytes_between bs)
      else (if b == 92 then before 92 (bytes_between bs)
      else (if b == 34 then before 34 (bytes_between bs)
      else (if b == 120 then hex_bytes bs
      else None)))

  -- after \x
  pub hex_bytes : List ℕ → Option (List ℕ)
  hex_bytes [] = None
  hex_bytes (h ∷ []) = None
  hex_bytes (h ∷ l ∷ bs) =
      option_and_then (λ high. option_and_then (λ low. before (high * 16 + low) (bytes_between bs)) (digit_of l))
      (digit_of h)

-- The bytes of a text in quotes. The last byte of the word is the quote that closes it, and belongs to no escape.
unfoldable pub quoted_bytes : List ℕ → Option (List ℕ)
quoted_bytes word =
    if nat_le 2 (length word) && (slice_index word 0 == 34) && (slice_index word (length word - 1) == 34)
    then bytes_between (take (length word - 2) (drop 1 word))
    else None

-- The same a byte at a time: the first byte that is spelled, and what stands after its spelling.
unfoldable pub hex_byte : List ℕ → Option (ℕ × List ℕ)
hex_byte [] = None
hex_byte (h ∷ []) = None
hex_byte (h ∷ l ∷ bs) =
    option_and_then (λ high. option_map (λ low. (high * 16 + low, bs)) (digit_of l)) (digit_of h)

unfoldable pub escaped_byte : List ℕ → Option (ℕ × List ℕ)
escaped_byte [] = None
escaped_byte (b ∷ bs) =
    if b == 110 then Some (10, bs)
    else (if b == 92 then Some (92, bs)
    else (if b == 34 then Some (34, bs)
    else (if b == 120 then hex_byte bs
    else None)))

unfoldable pub first_byte : List ℕ → Option (ℕ × List ℕ)
first_byte [] = None
first_byte (b ∷ bs) = if b == 92 then escaped_byte bs else (if b == 34 then None else Some (b, bs))

-- bytes before others, if there are others
abbrev pub in_front : List ℕ → Option (List ℕ) → Option (List ℕ)
in_front front others = option_map (λ bytes. front ++ bytes) others

-- ---- how a text is spelled

-- A byte between quotes: a newline, a quote and a backslash as \x and two hex digits, any other byte as it is.
unfoldable pub escaped : ℕ → List ℕ
escaped b =
    if b == 10 then codes "\\x0a"
    else (if b == 34 then codes "\\x22"
    else (if b == 92 then codes "\\x5c"
    else b ∷ []))

-- a text in quotes
abbrev pub quoted : List ℕ → List ℕ
quoted bytes = 34 ∷ flat_map escaped bytes ++ 34 ∷ []
