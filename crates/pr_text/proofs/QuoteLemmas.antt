use Rattle.std.proofs.Common.{◌≡◌, ℕ, ◌+◌, ◌<◌, ◌≤◌, List, ◌++◌, length, take, drop, get_or, ap, sym, ◌∙◌, arith}
use Rattle.std.specs.List.{flat_map}
use Rattle.std.proofs.lemmas.List.{drop_more, length-append, take-append-drop}
use Rattle.std.proofs.lemmas.List.Concat.{flat_map-append}
use Rattle.pr_text.specs.Quotes.{quoted_byte}

-- the bytes up to a place and the one there are no longer in quotes than all of them
pub quoted_front : (bytes : List ℕ) (i : ℕ) → i < length bytes
    → length (flat_map quoted_byte (take i bytes)) + length (quoted_byte (get_or bytes i 0))
    ≤ length (flat_map quoted_byte bytes)
quoted_front bytes i inside =
    let parts : flat_map quoted_byte bytes
    ≡ flat_map quoted_byte (take i bytes)
    ++ (quoted_byte (get_or bytes i 0) ++ flat_map quoted_byte (drop (i + 1) bytes)) =
    ap (flat_map quoted_byte) (sym (take-append-drop i bytes))
    ∙ flat_map-append quoted_byte (take i bytes) (drop i bytes)
    ∙ ap (λ rest. flat_map quoted_byte (take i bytes) ++ flat_map quoted_byte rest) (drop_more bytes i 0 inside) in
    omega (arith, ap length parts, length-append {A = ℕ})
