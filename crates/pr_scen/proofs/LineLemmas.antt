-- Lines as their bytes.
use Rattle.std.proofs.Common.{◌≡◌, ℕ, ◌<◌, List, [], Bor, map, take, length, get_or, arith, sym, ap, ◌∙◌}
use Rattle.std.proofs.lemmas.List.{get_or-map, length-map, take-map}

abbrev pub bytes_of : Bor (List ℕ) → List ℕ
bytes_of line = line.now

abbrev pub no_line : Bor (List ℕ)
no_line = record { ref_ptr = (0, 0); now = [] }

pub line_at : (lines : List (Bor (List ℕ))) (i : ℕ) → i < length lines
    → (get_or lines i no_line).now ≡ get_or (map bytes_of lines) i []
line_at lines i inside = sym (get_or-map bytes_of lines i no_line [] inside)

pub in_lines : (lines : List (Bor (List ℕ))) (i : ℕ) → i < length lines → i < length (map bytes_of lines)
in_lines lines i inside = omega (arith, length-map lines bytes_of)

pub body_taken : (lines : List (Bor (List ℕ))) (j k : ℕ) → j ≡ k
    → map bytes_of (take j lines) ≡ take k (map bytes_of lines)
body_taken lines j k e = ap (λ i. map bytes_of (take i lines)) e ∙ sym (take-map bytes_of k lines)
