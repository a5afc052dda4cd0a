-- What is put into a row of slots, and taken out of it.
use Rattle.std.proofs.Common.{◌≡◌, ℕ, suc, add-one, ◌+◌, ◌-◌, ◌<◌, ◌≤◌, List, [], ◌∷◌, ◌++◌, length, take, drop, set, refl, ◌∙◌, ap, arith}
use Rattle.std.specs.List.{insert, remove}
use Rattle.std.proofs.lemmas.List.{take-set-le, drop-set-add, take_more_set, drop_at, take_at, append_assoc, length-append, length-take-le, length-drop, length-set, take-take, drop-take, drop-drop}
use Rattle.std.proofs.lemmas.Slice.{take-put_mid}
use borrow.Rule.Slice.PartMut.{put_mid}

-- a part of a list that ends with x, turned by one
turned : {X : Type 0} (run front : List X) (j : ℕ) (x : X) → length front ≡ j → run ≡ front ++ x ∷ []
    → drop j run ++ take j run ≡ x ∷ front
turned run front j x size e = rw (e, drop_at front (x ∷ []) j size, take_at front (x ∷ []) j size) refl

-- the last of j slots and one goes before the others, behind the first i
moved_up : {X : Type 0} (xs : List X) (i j : ℕ) (x : X) → i + j < length xs
    → take (i + j + 1)
    (put_mid i (j + 1) (set xs (i + j) x)
    (drop j (take (j + 1) (drop i (set xs (i + j) x))) ++ take j (take (j + 1) (drop i (set xs (i + j) x)))))
    ≡ insert (take (i + j) xs) i x
moved_up xs i j x within =
    let some : j < length (drop i xs) = omega (arith, length-drop i xs) in
    let front : length (take j (drop i xs)) ≡ j = length-take-le j (drop i xs) (omega arith) in
    let run : take (j + 1) (drop i (set xs (i + j) x)) ≡ take j (drop i xs) ++ x ∷ [] =
    ap (take (j + 1)) (drop-set-add i xs j x) ∙ take_more_set (drop i xs) j x some in
    let moved = turned (take (j + 1) (drop i (set xs (i + j) x))) (take j (drop i xs)) j x front run in
    let size : i ≤ length (set xs (i + j) x) = omega (arith, length-set xs (i + j) x) in
    let end : i + j + 1 ≡ i + length (x ∷ take j (drop i xs)) = omega arith in
    rw (
      moved,
      take-put_mid i (j + 1) (set xs (i + j) x) (x ∷ take j (drop i xs)) (i + j + 1) end size,
      take-set-le i xs (i + j) x (omega arith),
      take-take i (i + j) xs (omega arith),
      drop-take i j xs,
    ) refl

-- the same, as it is written
pub insert-moved : {X : Type 0} (xs : List X) (n i k : ℕ) (x : X) (run part : List X) → n < length xs → i ≤ n
    → k ≡ n + 1 - i → run ≡ take k (drop i (set xs n x)) → part ≡ drop (length run - 1) run ++ take (length run - 1) run
    → take (n + 1) (put_mid i k (set xs n x) part) ≡ insert (take n xs) i x
insert-moved xs n i k x run part within place size at e =
    go n k (length run - 1) (n - i) (omega arith) (omega arith)
    (omega (
      arith,
      ap length at,
      length-take-le k (drop i (set xs n x)) (omega (arith, length-drop i (set xs n x), length-set xs n x)),
    )) within
    at e
  where
    go : (n k h j : ℕ) → n ≡ i + j → k ≡ j + 1 → h ≡ j → n < length xs → run ≡ take k (drop i (set xs n x))
        → part ≡ drop h run ++ take h run → take (n + 1) (put_mid i k (set xs n x) part) ≡ insert (take n xs) i x
    go n k h j e1 e2 e3 within at e = rw (e, at, e1, e2, e3) (moved_up xs i j x (omega arith))

-- what is taken out of the first n slots, where those behind it move down
moved_down : {X : Type 0} (xs : List X) (i j : ℕ) (part : List X) → i + (1 + j) ≤ length xs
    → part ≡ drop 1 (take (1 + j) (drop i xs)) ++ take 1 (take (1 + j) (drop i xs))
    → take (i + j) (put_mid i (1 + j) xs part) ≡ remove (take (i + (1 + j)) xs) i
moved_down {X = X} xs i j part within e =
    let behind : drop 1 (take (1 + j) (drop i xs)) ≡ take j (drop (i + 1) xs) =
    drop-take 1 j (drop i xs) ∙ ap (take j) (drop-drop 1 i xs) in
    let size : length (take i xs ++ take j (drop (i + 1) xs)) ≡ i + j =
    length-append (take i xs) (take j (drop (i + 1) xs))
    ∙ both (length-take-le i xs (omega arith))
    (length-take-le j (drop (i + 1) xs) (omega (arith, length-drop (i + 1) xs))) in
    let first =
    take_at (take i xs ++ take j (drop (i + 1) xs)) (take 1 (take (1 + j) (drop i xs)) ++ drop (1 + j) (drop i xs))
    (i + j) size in
    let same : i + (1 + j) ≡ i + 1 + j = omega arith in
    let rest : drop (suc i) (take (i + (1 + j)) xs) ≡ take j (drop (i + 1) xs) =
    rw (same, ← (add-one i), drop-take (i + 1) j xs) refl in
    rw (e, behind, rest, take-take i (i + (1 + j)) xs (omega arith))
    (ap (take (i + j)) (regroup (take i xs) (take j (drop (i + 1) xs)) _ _) ∙ first)
  where
    both : {a b c d : ℕ} → a ≡ b → c ≡ d → a + c ≡ b + d
    both p q = cc

    regroup : (a b c d : List X) → a ++ ((b ++ c) ++ d) ≡ (a ++ b) ++ (c ++ d)
    regroup a b c d = simp append_assoc

pub remove-moved : {X : Type 0} (xs : List X) (n i k : ℕ) (run part : List X) → n ≤ length xs → i < n → k ≡ n - i
    → run ≡ take k (drop i xs) → part ≡ drop 1 run ++ take 1 run
    → take (n - 1) (put_mid i k xs part) ≡ remove (take n xs) i
remove-moved xs n i k run part within place size at e =
    go n (n - 1) k (n - i - 1) (omega arith) (omega arith) (omega arith) within at e
  where
    go : (n m k j : ℕ) → n ≡ i + (1 + j) → m ≡ i + j → k ≡ 1 + j → n ≤ length xs → run ≡ take k (drop i xs)
        → part ≡ drop 1 run ++ take 1 run → take m (put_mid i k xs part) ≡ remove (take n xs) i
    go n m k j e1 e2 e3 within at e =
        let parts : part ≡ drop 1 (take (1 + j) (drop i xs)) ++ take 1 (take (1 + j) (drop i xs)) = rw (← e3, ← at) e in
        rw (e1, e2, e3) (moved_down xs i j part (omega arith) parts)

pub ruleset moves = (insert-moved, remove-moved)
