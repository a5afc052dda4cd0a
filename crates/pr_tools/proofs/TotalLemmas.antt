-- The sum of the sizes of mappings is a word.
use Rattle.std.proofs.Common.{◌≡◌, ◌<◌, ◌≤◌, ◌^◌, ◌*◌, ◌+◌, ◌/◌, ◌⊎◌, inl, inr, ℕ, List, length, map, take, get_or, sym, ap, ◌∙◌, arith, sum_by}
use Rattle.std.proofs.lemmas.List.{get_or-map, length-map, take-map}
use Rattle.std.proofs.lemmas.List.Sums.{sum_by_more_le}
use Rattle.pr_rec.specs.RecordWords.{map_entry_words_of}
use Rattle.pr_rec.specs.declared.mappings.MapEntry.{MapEntry}
use Rattle.pr_tools.specs.Pmap.{units}

-- the sum so far and the next size, where there are few mappings or small ones
pub total-fits : (mappings : List MapEntry) (i total : ℕ) (m : MapEntry)
    → (length mappings ≤ 1024) ⊎ (sum_by units (map map_entry_words_of mappings) < 2 ^ 64) → i < length mappings
    → m ≡ get_or mappings i m → m.size < 2 ^ 64 → total ≤ i * 18014398509481984
    → total ≡ sum_by units (map map_entry_words_of (take i mappings)) → total + m.size / 1024 < 2 ^ 64
total-fits mappings i total m (inl few) inside item size below sum = omega arith
total-fits mappings i total m (inr small) inside item size below sum =
    let words : List (List ℕ) = map map_entry_words_of mappings in
    let many : i < length words = let all = length-map mappings map_entry_words_of in omega arith in
    let most = sum_by_more_le units words i (map_entry_words_of m) many in
    let front : sum_by units (take i words) ≡ total =
    ap (sum_by units) (take-map map_entry_words_of i mappings) ∙ sym sum in
    let next : units (get_or words i (map_entry_words_of m)) ≡ m.size / 1024 =
    ap units (get_or-map map_entry_words_of mappings i m (map_entry_words_of m) inside
    ∙ ap map_entry_words_of (sym item)) in
    omega (arith, most, front, next, small)
