-- Records one after the other, read one by one.
use Rattle.std.proofs.Common.{◌≡◌, ◌<◌, ◌-◌, ◌*◌, ℕ, zero, suc, List, [], ◌∷◌, ◌++◌, length, drop, Option, None, Some, refl, ap, ◌∙◌, sym, arith, append_assoc}
use Rattle.std.proofs.lemmas.List.{append-nil}
use Rattle.std.specs.Option.{option_map}
use Rattle.std.specs.Result.{result_ok}
use Rattle.pr_num.specs.Records.{Range}
use Rattle.pr_rec.specs.Reading.{record_read}
use Rattle.pr_tools.specs.Entries.{entries_from, with_entry}

-- entries before those that are left to read
abbrev pub before : List (List ℕ) → Option (List (List ℕ)) → Option (List (List ℕ))
before xs others = option_map (λ rest. xs ++ rest) others

pub before-none : (o : Option (List (List ℕ))) → o ≡ before [] o
before-none None = refl
before-none (Some xs) = refl

-- the first record and those after it
pub entries_from-step : (ranges : List Range) (n : ℕ) (bytes : List ℕ) → 0 < n
    → entries_from ranges n bytes
    ≡ with_entry (result_ok (record_read ranges bytes)) (entries_from ranges (n - 1) (drop (8 * length ranges) bytes))
unfolding entries_from
entries_from-step ranges zero bytes some = absurd (omega arith)
entries_from-step ranges (suc n) bytes some =
    let less : n ≡ suc n - 1 = omega arith in
    ap (λ (k : ℕ).
    with_entry (result_ok (record_read ranges bytes)) (entries_from ranges k (drop (8 * length ranges) bytes))) less

-- one more was read
pub before-more : (xs : List (List ℕ)) (words : List ℕ) (o : Option (List (List ℕ)))
    → before xs (with_entry (Some words) o) ≡ before (xs ++ words ∷ []) o
before-more xs words None = refl
before-more xs words (Some rest) = ap Some (sym (append_assoc xs (words ∷ []) rest))

-- one that is malformed
pub entries-fail : (ranges : List Range) (n : ℕ) (bytes : List ℕ) (xs : List (List ℕ)) → 0 < n
    → None ≡ result_ok (record_read ranges bytes) → before xs (entries_from ranges n bytes) ≡ None
entries-fail ranges n bytes xs some bad =
    ap (before xs)
    (entries_from-step ranges n bytes some
    ∙ ap (λ o. with_entry o (entries_from ranges (n - 1) (drop (8 * length ranges) bytes))) (sym bad))

-- one that is read
pub entries-on : (ranges : List Range) (n : ℕ) (bytes rest : List ℕ) (xs ys : List (List ℕ)) (words : List ℕ) (size : ℕ)
    → 0 < n → Some words ≡ result_ok (record_read ranges bytes) → size ≡ 8 * length ranges → rest ≡ drop size bytes
    → ys ≡ xs ++ words ∷ [] → before xs (entries_from ranges n bytes) ≡ before ys (entries_from ranges (n - 1) rest)
entries-on ranges n bytes rest xs ys words size some good sized dropped grown =
    let others : List ℕ = drop (8 * length ranges) bytes in
    let same : others ≡ rest = sym (dropped ∙ ap (λ (k : ℕ). drop k bytes) sized) in
    ap (before xs)
    (entries_from-step ranges n bytes some ∙ ap (λ o. with_entry o (entries_from ranges (n - 1) others)) (sym good))
    ∙ before-more xs words (entries_from ranges (n - 1) others)
    ∙ ap (λ zs. before zs (entries_from ranges (n - 1) others)) (sym grown)
    ∙ ap (λ bs. before ys (entries_from ranges (n - 1) bs)) same

-- none is left
pub before-last : (ranges : List Range) (xs : List (List ℕ)) (bytes : List ℕ)
    → before xs (entries_from ranges 0 bytes) ≡ Some xs
unfolding entries_from
before-last ranges xs bytes = ap Some (append-nil xs)
