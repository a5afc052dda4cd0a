-- Entries of one length stand one after the other in the bytes of a record that is a list.
use Rattle.std.proofs.Common.{◌≡◌, ◌+◌, ◌*◌, ℕ, zero, suc, List, [], ◌∷◌, ◌++◌, length, drop, map, slice_get, Some, sym, ap, ◌∙◌, arith}
use Rattle.std.proofs.lemmas.List.{drop_at, drop-drop, length-append}
use Rattle.std.proofs.lemmas.Option.{same_Some}
use Rattle.pr_num.specs.Records.{entries_words}
use Rattle.pr_num.specs.Words.{words_bytes}
use Rattle.pr_codec.proofs.WordLemmas.{length-words_bytes}
use Rattle.pr_rec.proofs.ReadLemmas.{words_bytes-append}

module _ {T : Type 0} (f : T → List ℕ) (n : ℕ) (size : (x : T) → length (f x) ≡ n) where
  bytes_of : List T → List ℕ
  bytes_of xs = words_bytes (entries_words (map f xs))

  first_apart : (x : T) (xs : List T) → bytes_of (x ∷ xs) ≡ words_bytes (f x) ++ bytes_of xs
  unfolding bytes_of
  first_apart x xs = words_bytes-append (f x) (entries_words (map f xs))

  length-first : (x : T) → length (words_bytes (f x)) ≡ 8 * n
  length-first x = length-words_bytes (f x) ∙ ap (λ (k : ℕ). 8 * k) (size x)

  -- what follows an entry in the bytes of the list
  pub record StandsAt (xs : List T) (i : ℕ) (x : T) : Type 0 where
    pub more : List ℕ
    pub place : drop (8 * n * i) (words_bytes (entries_words (map f xs))) ≡ words_bytes (f x) ++ more

  pub stands_at : (xs : List T) (i : ℕ) (x : T) → slice_get xs i ≡ Some x → StandsAt xs i x
  unfolding bytes_of
  stands_at [] i x e = absurd cc
  stands_at (y ∷ ys) zero x e =
      let same : y ≡ x = same_Some y x e in
      let none : 8 * n * 0 ≡ 0 = omega arith in
      let start : drop (8 * n * 0) (bytes_of (y ∷ ys)) ≡ bytes_of (y ∷ ys) =
      ap (λ (k : ℕ). drop k (bytes_of (y ∷ ys))) none in
      let entry : words_bytes (f y) ≡ words_bytes (f x) = ap (λ (z : T). words_bytes (f z)) same in
      record { more = bytes_of ys; place = start ∙ first_apart y ys ∙ ap (λ (zs : List ℕ). zs ++ bytes_of ys) entry }
  stands_at (y ∷ ys) (suc i) x e =
      let rest = stands_at ys i x e in
      let further : 8 * n * suc i ≡ 8 * n + 8 * n * i = omega arith in
      let along : drop (8 * n * suc i) (bytes_of (y ∷ ys)) ≡ drop (8 * n * i) (bytes_of ys) =
      ap (λ (k : ℕ). drop k (bytes_of (y ∷ ys))) further ∙ sym (drop-drop (8 * n * i) (8 * n) (bytes_of (y ∷ ys)))
      ∙ ap (drop (8 * n * i))
      (ap (drop (8 * n)) (first_apart y ys) ∙ drop_at (words_bytes (f y)) (bytes_of ys) (8 * n) (length-first y)) in
      record { more = rest.more; place = along ∙ rest.place }

  pub length-entries : (xs : List T) → length (words_bytes (entries_words (map f xs))) ≡ 8 * n * length xs
  length-entries [] = omega arith
  length-entries (x ∷ xs) =
      ap length (words_bytes-append (f x) (entries_words (map f xs)))
      ∙ length-append (words_bytes (f x)) (words_bytes (entries_words (map f xs)))
      ∙ omega (arith, length-first x, length-entries xs)
