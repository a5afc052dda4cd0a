-- Bytes in pages.
use Rattle.std.proofs.Common.{◌≡◌, ℕ, zero, suc, ◌+◌, ◌-◌, ◌*◌, ◌/◌, ◌%◌, ◌^◌, ◌<◌, ◌≤◌, List, [], ◌∷◌, ◌++◌, length, take, drop, map, replicate, get_or, refl, sym, ◌∙◌, ap, arith, min, inl, inr, ltb, append_assoc, subst}
use Rattle.std.specs.Prelude.{OnOk, OnErr, Result, Ok, Err}
use Rattle.std.specs.List.{concat}
use Rattle.std.proofs.lemmas.Bool.{cases_Bool, ltb-true, ltb-false}
use Rattle.std.proofs.lemmas.List.{append-nil, drop-append-le, drop-map, drop_all, get_or-map, map-append, take-map, drop_at, drop-take, length-append, length-drop, length-map, length-replicate, length-take-le, replicate-append-replicate, take-append-drop, take-append-le, take-replicate, take-take, take_all, take_at, take_min, drop-drop}
use borrow.Rule.Slice.PartMut.{mid_of, put_mid}
use Rattle.pr_num.specs.Layout.{page_size}
use Rattle.pr_num.specs.Limits.{mapping_limit}
use Rattle.pr_num.specs.Programs.{rounded, whole_pages}
use Rattle.pr_parts.specs.AddressSpaces.{written_byte, written_bytes}
use Rattle.pr_parts.proofs.AccessLemmas.{length-written_bytes, written_bytes-append, written_bytes-inside, written_bytes-outside}
use Rattle.pr_mem.specs.Pages.{AreOf, AreWhole, bytes_of, written_pages}

-- ---- writing

-- pages behind what is written stay
pub written_pages-behind : (at : ℕ) (bytes : List ℕ) (first : ℕ) (pages : List (List ℕ)) → at + length bytes ≤ first
    → written_pages at bytes first pages ≡ pages
written_pages-behind at bytes first [] behind = refl
written_pages-behind at bytes first (page ∷ pages) behind =
    rw (
      written_bytes-outside at bytes first page (λ k h p q. omega arith),
      written_pages-behind at bytes (first + page_size) pages (omega arith),
    ) refl

-- the address of the next page, which may lie behind the last address, where nothing is written
pub written_pages-next : (at : ℕ) (bytes : List ℕ) (first next : ℕ) (pages : List (List ℕ)) → at + length bytes < 2 ^ 64
    → next ≡ min (first + page_size) (2 ^ 64 - 1)
    → written_pages at bytes next pages ≡ written_pages at bytes (first + page_size) pages
written_pages-next at bytes first next pages end e =
    elim (cases_Bool (ltb (first + page_size) (2 ^ 64))) [
      | inl t ↦
          (let near = ltb-true _ _ t in let same : next ≡ first + page_size = omega arith in
          ap (λ n. written_pages at bytes n pages) same)
      | inr f ↦
          (let far = ltb-false _ _ f in
          written_pages-behind at bytes next pages (omega arith)
          ∙ sym (written_pages-behind at bytes (first + page_size) pages (omega arith)))
    ]

-- pages before what is written stay
pub written_pages-skipped : (at : ℕ) (bytes : List ℕ) (first : ℕ) (pages : List (List ℕ)) (k : ℕ) → AreWhole pages
    → k ≤ length pages → k * page_size ≤ at - first
    → written_pages at bytes first pages ≡ take k pages ++ written_pages at bytes (first + k * page_size) (drop k pages)
written_pages-skipped at bytes first pages zero whole within low =
    let start : first ≡ first + 0 * page_size = omega arith in
    ap (λ n. written_pages at bytes n pages) start
written_pages-skipped at bytes first [] (suc k) whole within low = absurd (omega arith)
written_pages-skipped at bytes first (page ∷ pages) (suc k) whole within low =
    let stays = written_bytes-outside at bytes first page (λ j h p q. omega (arith, whole.0)) in
    let rest = written_pages-skipped at bytes (first + page_size) pages k whole.1 (omega arith) (omega arith) in
    let there : first + page_size + k * page_size ≡ first + suc k * page_size = omega arith in
    rw (stays, rest, there) refl

pub length-written_pages : (at : ℕ) (bytes : List ℕ) (first : ℕ) (pages : List (List ℕ))
    → length (written_pages at bytes first pages) ≡ length pages
length-written_pages at bytes first [] = refl
length-written_pages at bytes first (page ∷ pages) = ap suc (length-written_pages at bytes (first + page_size) pages)

-- pages stay whole
pub AreWhole-written : (at : ℕ) (bytes : List ℕ) (first : ℕ) (pages : List (List ℕ)) → AreWhole pages
    → AreWhole (written_pages at bytes first pages)
AreWhole-written at bytes first [] whole = tt
AreWhole-written at bytes first (page ∷ pages) whole =
    (length-written_bytes at bytes first page ∙ whole.0, AreWhole-written at bytes (first + page_size) pages whole.1)

concat-written : (at : ℕ) (bytes : List ℕ) (first : ℕ) (pages : List (List ℕ)) → AreWhole pages
    → concat (written_pages at bytes first pages) ≡ written_bytes at bytes first (concat pages)
concat-written at bytes first [] whole = refl
concat-written at bytes first (page ∷ pages) whole =
    let next = ap (λ n. first + n) whole.0 in
    rw (
      concat-written at bytes (first + page_size) pages whole.1,
      written_bytes-append at bytes first page (concat pages),
      next,
    ) refl

take-written : (n at : ℕ) (bytes : List ℕ) (a : ℕ) (xs : List ℕ)
    → take n (written_bytes at bytes a xs) ≡ written_bytes at bytes a (take n xs)
take-written zero at bytes a xs = refl
take-written (suc n) at bytes a [] = refl
take-written (suc n) at bytes a (x ∷ xs) =
    ap (λ ys. written_byte at bytes a x ∷ ys) (take-written n at bytes (a + 1) xs)

pub bytes_of-written : (size at : ℕ) (bytes : List ℕ) (first : ℕ) (pages now : List (List ℕ)) → AreWhole pages
    → now ≡ written_pages at bytes first pages → bytes_of size now ≡ written_bytes at bytes first (bytes_of size pages)
bytes_of-written size at bytes first pages now whole e =
    ap (bytes_of size) e ∙ ap (take size) (concat-written at bytes first pages whole)
    ∙ take-written size at bytes first (concat pages)

pub AreOf-written : (size at : ℕ) (bytes : List ℕ) (first : ℕ) (pages now : List (List ℕ)) → AreOf size pages
    → now ≡ written_pages at bytes first pages → AreOf size now
AreOf-written size at bytes first pages now are e =
    rw e (record {
      whole = AreWhole-written at bytes first pages are.whole;
      count = ap (λ n. n * page_size) (length-written_pages at bytes first pages) ∙ are.count;
      limit = are.limit;
    })

-- ---- how many bytes pages have

concat-append : (xs ys : List (List ℕ)) → concat (xs ++ ys) ≡ concat xs ++ concat ys
concat-append [] ys = refl
concat-append (x ∷ xs) ys = ap (λ zs. x ++ zs) (concat-append xs ys) ∙ sym (append_assoc x (concat xs) (concat ys))

length-concat : (pages : List (List ℕ)) → AreWhole pages → length (concat pages) ≡ length pages * page_size
length-concat [] whole = refl
length-concat (page ∷ pages) whole =
    omega (arith, length-append page (concat pages), whole.0, length-concat pages whole.1)

AreWhole-append : (xs ys : List (List ℕ)) → AreWhole xs → AreWhole ys → AreWhole (xs ++ ys)
AreWhole-append [] ys a b = b
AreWhole-append (x ∷ xs) ys a b = (a.0, AreWhole-append xs ys a.1 b)

AreWhole-take : (k : ℕ) (pages : List (List ℕ)) → AreWhole pages → AreWhole (take k pages)
AreWhole-take zero pages whole = tt
AreWhole-take (suc k) [] whole = tt
AreWhole-take (suc k) (page ∷ pages) whole = (whole.0, AreWhole-take k pages whole.1)

AreWhole-zeros : (n : ℕ) → AreWhole (replicate n (replicate page_size 0))
AreWhole-zeros zero = tt
AreWhole-zeros (suc n) = (length-replicate {A = ℕ} page_size 0, AreWhole-zeros n)

concat-zeros : (n : ℕ) → concat (replicate n (replicate page_size 0)) ≡ replicate (n * page_size) 0
concat-zeros zero = refl
concat-zeros (suc n) =
    let size : page_size + n * page_size ≡ suc n * page_size = omega arith in
    ap (λ zs. replicate page_size 0 ++ zs) (concat-zeros n) ∙ replicate-append-replicate page_size (n * page_size) 0
    ∙ ap (λ k. replicate k 0) size

-- so many bytes have enough pages, and no page too many
reached : (size count : ℕ) → count * page_size ≡ rounded size
    → (size ≤ count * page_size) × (count * page_size < size + page_size)
reached size count e = (omega arith, omega arith)

pub length-bytes_of : (size : ℕ) (pages : List (List ℕ)) → AreOf size pages → length (bytes_of size pages) ≡ size
length-bytes_of size pages are =
    length-take-le size (concat pages)
    (omega (arith, length-concat pages are.whole, (reached size (length pages) are.count).0))

-- ---- zeros

pub bytes_of-zeros : (size count : ℕ) (pages : List (List ℕ)) → count * page_size ≡ rounded size
    → pages ≡ replicate count (replicate page_size 0) → bytes_of size pages ≡ replicate size 0
bytes_of-zeros size count pages e is =
    ap (bytes_of size) is ∙ ap (take size) (concat-zeros count)
    ∙ take-replicate size (count * page_size) 0 (reached size count e).0

pub AreOf-zeros : (size count : ℕ) (pages : List (List ℕ)) → size ≤ mapping_limit → count * page_size ≡ rounded size
    → pages ≡ replicate count (replicate page_size 0) → AreOf size pages
AreOf-zeros size count pages limit e is =
    rw is (record {
      whole = AreWhole-zeros count;
      count = ap (λ n. n * page_size) (length-replicate {A = List ℕ} count (replicate page_size 0)) ∙ e;
      limit = limit;
    })

-- what stands in pages of zeros after these bytes were written to their front
pub whole_pages-written : (at : ℕ) (bytes : List ℕ)
    → written_bytes at bytes at (replicate (rounded (length bytes)) 0) ≡ whole_pages bytes
whole_pages-written at bytes =
    let n = length bytes in
    let rest = rounded (length bytes) - length bytes in
    let all : length bytes + (rounded (length bytes) - length bytes) ≡ rounded (length bytes) = omega arith in
    let size : length (replicate {A = ℕ} n 0) ≡ length bytes = length-replicate {A = ℕ} n 0 in
    let none : at - at ≡ 0 = omega arith in
    let front : written_bytes at bytes at (replicate n 0) ≡ bytes =
    written_bytes-inside at bytes at (replicate n 0) (omega arith) (omega arith)
    ∙ ap (λ k. take (length (replicate {A = ℕ} n 0)) (drop k bytes)) none
    ∙ take_all (length (replicate {A = ℕ} n 0)) bytes (omega arith) in
    let back : written_bytes at bytes (at + length (replicate {A = ℕ} n 0)) (replicate rest 0) ≡ replicate rest 0 =
    written_bytes-outside at bytes (at + length (replicate {A = ℕ} n 0)) (replicate rest 0)
    (λ k h p q. omega arith) in
    ap (written_bytes at bytes at) (sym (replicate-append-replicate {A = ℕ} n rest 0 ∙ ap (λ k. replicate k 0) all))
    ∙ written_bytes-append at bytes at (replicate n 0) (replicate rest 0) ∙ pieces front back
  where
    pieces : {a b c d : List ℕ} → a ≡ b → c ≡ d → a ++ c ≡ b ++ d
    pieces p q = cc

-- ---- cut off

pub bytes_of-cut : (size old count : ℕ) (pages now : List (List ℕ)) → AreOf old pages → size ≤ old
    → count * page_size ≡ rounded size → now ≡ take count pages
    → bytes_of size now ≡ take size (bytes_of old pages) ++ replicate (size - length (bytes_of old pages)) 0
bytes_of-cut size old count pages now are less e is =
    let enough = reached size count e in
    let all = reached old (length pages) are.count in
    let within : count ≤ length pages = omega arith in
    let parts = take-append-drop count pages in
    let front = length-concat (take count pages) (AreWhole-take count pages are.whole) in
    let size_of : length (take count pages) ≡ count = length-take-le count pages within in
    let none : size - length (bytes_of old pages) ≡ 0 = omega (arith, length-bytes_of old pages are) in
    let whole = ap concat (sym parts) ∙ concat-append (take count pages) (drop count pages) in
    let cut = take-append-le size (concat (take count pages)) (concat (drop count pages)) (omega arith) in
    ap (bytes_of size) is ∙ sym cut ∙ sym (ap (take size) whole) ∙ sym (take-take size old (concat pages) less)
    ∙ sym (append-nil (take size (bytes_of old pages)))
    ∙ ap (λ n. take size (bytes_of old pages) ++ replicate n 0) (sym none)

pub AreOf-cut : (size old count : ℕ) (pages now : List (List ℕ)) → AreOf old pages → size ≤ old
    → count * page_size ≡ rounded size → now ≡ take count pages → AreOf size now
AreOf-cut size old count pages now are less e is =
    let enough = reached size count e in
    let all = reached old (length pages) are.count in
    let size_of : length (take count pages) ≡ count = length-take-le count pages (omega arith) in
    rw is (record {
      whole = AreWhole-take count pages are.whole;
      count = ap (λ n. n * page_size) size_of ∙ e;
      limit = omega (arith, are.limit);
    })

-- ---- grown

-- zeros are written over all bytes from a place on
cleared : (at : ℕ) (xs : List ℕ) → at ≤ length xs
    → written_bytes at (replicate (length xs - at) 0) 0 xs ≡ take at xs ++ replicate (length xs - at) 0
cleared at xs within =
    let zeros : List ℕ = replicate (length xs - at) 0 in
    let size : length zeros ≡ length xs - at = length-replicate (length xs - at) 0 in
    let front : length (take at xs) ≡ at = length-take-le at xs within in
    let back : length (drop at xs) ≡ length xs - at = length-drop at xs in
    let low = written_bytes-outside at zeros 0 (take at xs) (λ k h p q. omega arith) in
    let high = written_bytes-inside at zeros at (drop at xs) (omega arith) (omega arith) in
    let none : at - at ≡ 0 = omega arith in
    let start : 0 + length (take at xs) ≡ at = omega arith in
    let all : take (length (drop at xs)) (drop (at - at) zeros) ≡ zeros =
    rw none (take_all (length (drop at xs)) zeros (omega arith)) in
    sym (ap (written_bytes at zeros 0) (take-append-drop at xs))
    ∙ written_bytes-append at zeros 0 (take at xs) (drop at xs)
    ∙ pieces low (ap (λ a. written_bytes at zeros a (drop at xs)) start ∙ high ∙ all)
  where
    pieces : {a b c d : List ℕ} → a ≡ b → c ≡ d → a ++ c ≡ b ++ d
    pieces p q = cc

-- what is written behind the bytes changes none of them
pub bytes_of-cleared : (old : ℕ) (zeros : List ℕ) (pages now : List (List ℕ)) → AreOf old pages
    → now ≡ written_pages old zeros 0 pages → bytes_of old now ≡ bytes_of old pages
bytes_of-cleared old zeros pages now are e =
    let size = length-bytes_of old pages are in
    bytes_of-written old old zeros 0 pages now are.whole e
    ∙ written_bytes-outside old zeros 0 (bytes_of old pages) (λ k h p q. omega arith)

-- pages whose last is cleared from a place on, and pages of zeros behind them
pub record AreGrown (old count : ℕ) (pages now : List (List ℕ)) : Type 0 where
  pub clear : List (List ℕ)
  pub is_clear : clear ≡ written_pages old (replicate (length pages * page_size - old) 0) 0 pages
  pub grown : now ≡ clear ++ replicate (count - length pages) (replicate page_size 0)

pub are_grown : {X : Type 0} (f : X → List ℕ) (old count : ℕ) (xs clear now : List X)
    → map f clear ≡ written_pages old (replicate (length xs * page_size - old) 0) 0 (map f xs)
    → map f now ≡ map f clear ++ replicate (count - length clear) (replicate page_size 0)
    → AreGrown old count (map f xs) (map f now)
are_grown f old count xs clear now e1 e2 =
    let zeros : List ℕ = replicate (length xs * page_size - old) 0 in
    let page : List ℕ = replicate page_size 0 in
    let len : length xs ≡ length (map f xs) = sym (length-map xs f) in
    let kept : length clear ≡ length (map f xs) =
    sym (length-map clear f) ∙ ap length e1 ∙ length-written_pages old zeros 0 (map f xs) in
    record {
      clear = map f clear;
      is_clear = e1 ∙ ap (λ n. written_pages old (replicate (n * page_size - old) 0) 0 (map f xs)) len;
      grown = e2 ∙ ap (λ n. map f clear ++ replicate (count - n) page) kept;
    }

-- there is room for them
pub room-grown : {X : Type 0} (f : X → List ℕ) (size old count : ℕ) (zeros : List ℕ) (xs clear : List X)
    → AreOf old (map f xs) → old ≤ size → count * page_size ≡ rounded size
    → map f clear ≡ written_pages old zeros 0 (map f xs) → length clear ≤ count
room-grown f size old count zeros xs clear are more e e1 =
    let enough = reached size count e in
    let all = reached old (length (map f xs)) are.count in
    let kept : length clear ≡ length (map f xs) =
    sym (length-map clear f) ∙ ap length e1 ∙ length-written_pages old zeros 0 (map f xs) in
    omega arith

pub bytes_of-grown : (size old count : ℕ) (pages now : List (List ℕ)) → AreOf old pages → old ≤ size
    → count * page_size ≡ rounded size → AreGrown old count pages now
    → bytes_of size now ≡ take size (bytes_of old pages) ++ replicate (size - length (bytes_of old pages)) 0
bytes_of-grown size old count pages now are more e grown =
    let enough = reached size count e in
    let all = reached old (length pages) are.count in
    let flat = concat pages in
    let more_pages = count - length pages in
    let len : length flat ≡ length pages * page_size = length-concat pages are.whole in
    let len_old : length (bytes_of old pages) ≡ old = length-bytes_of old pages are in
    let clear : concat grown.clear ≡ take old flat ++ replicate (length flat - old) 0 =
    ap concat grown.is_clear ∙ concat-written old (replicate (length pages * page_size - old) 0) 0 pages are.whole
    ∙ ap (λ n. written_bytes old (replicate (n - old) 0) 0 flat) (sym len) ∙ cleared old flat (omega arith) in
    let size_of : length flat - old + more_pages * page_size ≡ count * page_size - old =
    omega (arith, len, enough, all) in
    let zeros : replicate {A = ℕ} (length flat - old) 0 ++ replicate (more_pages * page_size) 0
    ≡ replicate (count * page_size - old) 0 =
    replicate-append-replicate (length flat - old) (more_pages * page_size) 0 ∙ ap (λ n. replicate n 0) size_of in
    let now_flat : concat now ≡ take old flat ++ replicate (count * page_size - old) 0 =
    ap concat grown.grown ∙ concat-append grown.clear (replicate more_pages (replicate page_size 0))
    ∙ joined clear (concat-zeros more_pages)
    ∙ append_assoc (take old flat) (replicate (length flat - old) 0) (replicate (more_pages * page_size) 0)
    ∙ ap (λ zs. take old flat ++ zs) zeros in
    let taken = take_front size (take old flat) (replicate (count * page_size - old) 0) (omega arith) in
    let rest : take (size - length (take old flat)) (replicate (count * page_size - old) 0)
    ≡ replicate (size - length (take old flat)) 0 =
    take-replicate (size - length (take old flat)) (count * page_size - old) 0 (omega arith) in
    ap (take size) now_flat ∙ taken ∙ ap (λ zs. take old flat ++ zs) rest
    ∙ ap (λ xs. xs ++ replicate (size - length (take old flat)) 0)
    (sym (take_all size (take old flat) (omega arith)))
  where
    joined : {a b c d : List ℕ} → a ≡ b → c ≡ d → a ++ c ≡ b ++ d
    joined p q = cc

    take_front : (n : ℕ) (xs ys : List ℕ) → length xs ≤ n → take n (xs ++ ys) ≡ xs ++ take (n - length xs) ys
    take_front n [] ys within = let all : n ≡ n - 0 = omega arith in ap (λ k. take k ys) all
    take_front zero (x ∷ xs) ys within = absurd (omega arith)
    take_front (suc n) (x ∷ xs) ys within =
        let rest : n - length xs ≡ suc n - suc (length xs) = omega arith in
        ap (λ zs. x ∷ zs) (take_front n xs ys (omega arith) ∙ ap (λ k. xs ++ take k ys) rest)

pub AreOf-grown : (size old count : ℕ) (pages now : List (List ℕ)) → AreOf old pages → old ≤ size → size ≤ mapping_limit
    → count * page_size ≡ rounded size → AreGrown old count pages now → AreOf size now
AreOf-grown size old count pages now are more limit e grown =
    let zeros : List ℕ = replicate (length pages * page_size - old) 0 in
    let page : List ℕ = replicate page_size 0 in
    let enough = reached size count e in
    let all = reached old (length pages) are.count in
    let kept : length grown.clear ≡ length pages = ap length grown.is_clear ∙ length-written_pages old zeros 0 pages in
    let new : length (replicate (count - length pages) page) ≡ count - length pages =
    length-replicate (count - length pages) page in
    let sum = length-append grown.clear (replicate (count - length pages) page) in
    let size_now : length now ≡ length (grown.clear ++ replicate (count - length pages) page) = ap length grown.grown in
    let within : length pages ≤ count = omega arith in
    let total : length now ≡ count = omega arith in
    let whole : AreWhole grown.clear =
    subst AreWhole (sym grown.is_clear) (AreWhole-written old zeros 0 pages are.whole) in
    record {
      whole = subst AreWhole (sym grown.grown)
          (AreWhole-append grown.clear _ whole (AreWhole-zeros (count - length pages)));
      count = ap (λ n. n * page_size) total ∙ e;
      limit = limit;
    }

-- ---- the bytes of one page

-- from a place in a page on, to its end
run_from : (pages : List (List ℕ)) (k r : ℕ) (d : List ℕ) → AreWhole pages → k < length pages → r < page_size
    → drop r (get_or pages k d) ≡ take (page_size - r) (drop (k * page_size + r) (concat pages))
run_from [] k r d whole within in_page = absurd (omega arith)
run_from (page ∷ pages) zero r d whole within in_page =
    let size = whole.0 in
    let here = drop-append-le r page (concat pages) (omega arith) in
    let start : 0 * page_size + r ≡ r = omega arith in
    sym (ap (λ n. take (page_size - r) (drop n (page ++ concat pages))) start ∙ ap (take (page_size - r)) here
    ∙ take_at (drop r page) (concat pages) (page_size - r) (omega (arith, length-drop r page)))
run_from (page ∷ pages) (suc k) r d whole within in_page =
    let there : suc k * page_size + r ≡ page_size + (k * page_size + r) = omega arith in
    run_from pages k r d whole.1 (omega arith) in_page
    ∙ ap (take (page_size - r))
    (sym (ap (λ n. drop n (page ++ concat pages)) there
    ∙ past page_size (k * page_size + r) page (concat pages) whole.0))
  where
    past : (n m : ℕ) (xs ys : List ℕ) → length xs ≡ n → drop (n + m) (xs ++ ys) ≡ drop m ys
    past n m xs ys e = sym (drop-drop m n (xs ++ ys)) ∙ ap (drop m) (drop_at xs ys n e)

whole_at : (pages : List (List ℕ)) (k : ℕ) (d : List ℕ) → AreWhole pages → k < length pages
    → length (get_or pages k d) ≡ page_size
whole_at [] k d whole within = absurd (omega arith)
whole_at (page ∷ pages) zero d whole within = whole.0
whole_at (page ∷ pages) (suc k) d whole within = whole_at pages k d whole.1 (omega arith)

pub run-page : {X : Type 0} (f : X → List ℕ) (xs : List X) (from : ℕ) (x : X) (page : List ℕ) → AreWhole (map f xs)
    → from < length xs * page_size → x ≡ get_or xs (from / page_size) x → page ≡ f x
    → mid_of (from % page_size) (page_size - from % page_size) page
    ≡ take (page_size - from % page_size) (drop from (concat (map f xs)))
run-page f xs from x page whole within is value =
    let k = from / page_size in
    let r = from % page_size in
    let len = length-map xs f in
    let near : from / page_size < length xs = omega arith in
    let here : page ≡ get_or (map f xs) (from / page_size) page =
    value ∙ ap f is ∙ sym (get_or-map f xs (from / page_size) x page near) in
    let size : length page ≡ page_size =
    ap length here ∙ whole_at (map f xs) (from / page_size) page whole (omega arith) in
    let place : from / page_size * page_size + from % page_size ≡ from = omega arith in
    take_all (page_size - r) (drop r page) (omega (arith, length-drop (from % page_size) page))
    ∙ ap (drop r) here
    ∙ run_from (map f xs) k r page whole (omega arith) (omega arith)
    ∙ ap (λ n. take (page_size - r) (drop n (concat (map f xs)))) place

-- as far as the bytes go
pub run-cut : (size from most : ℕ) (flat : List ℕ) → size ≤ length flat → from ≤ size
    → take (min (length (take most (drop from flat))) (size - from)) (take most (drop from flat))
    ≡ take most (drop from (take size flat))
run-cut size from most flat within low =
    let rest = drop from flat in
    let front = take most rest in
    let n : min (length front) (size - from) ≡ min (size - from) (length front) = omega arith in
    let whole : from + (size - from) ≡ size = omega arith in
    ap (λ k. take k front) n ∙ take_min (size - from) front ∙ take_swap (size - from) most rest
    ∙ ap (take most) (sym (drop-take from (size - from) flat) ∙ ap (λ k. drop from (take k flat)) whole)
  where
    take_swap : (a b : ℕ) (xs : List ℕ) → take a (take b xs) ≡ take b (take a xs)
    take_swap zero zero xs = refl
    take_swap zero (suc b) xs = refl
    take_swap (suc a) zero xs = refl
    take_swap (suc a) (suc b) [] = refl
    take_swap (suc a) (suc b) (x ∷ xs) = ap (λ ys. x ∷ ys) (take_swap a b xs)

-- ---- pages before what is written are passed over

put_rest : {X : Type 0} (f : X → List ℕ) (xs ys : List X) (a k : ℕ) → length xs ≤ a + k
    → map f (put_mid a k xs ys) ≡ take a (map f xs) ++ map f ys
put_rest f xs ys a k all =
    let none : drop k (drop a xs) ≡ [] = drop_all k (drop a xs) (omega (arith, length-drop a xs)) in
    map-append f (take a xs) (ys ++ drop k (drop a xs))
    ∙ pieces (sym (take-map f a xs)) (ap (λ zs. map f (ys ++ zs)) none ∙ ap (map f) (append-nil ys))
  where
    pieces : {a b c d : List (List ℕ)} → a ≡ b → c ≡ d → a ++ c ≡ b ++ d
    pieces p q = cc

mid_rest : {X : Type 0} (f : X → List ℕ) (xs : List X) (a k : ℕ) → length xs ≤ a + k
    → map f (mid_of a k xs) ≡ drop a (map f xs)
mid_rest f xs a k all = ap (map f) (take_all k (drop a xs) (omega (arith, length-drop a xs))) ∙ sym (drop-map f a xs)

pub passed-written : {X : Type 0} (f : X → List ℕ) (xs ys : List X) (at : ℕ) (bytes : List ℕ) (first a k : ℕ)
    → AreWhole (map f xs) → a ≤ length xs → length xs ≤ a + k → a * page_size ≤ at - first
    → map f ys ≡ written_pages at bytes (first + a * page_size) (map f (mid_of a k xs))
    → map f (put_mid a k xs ys) ≡ written_pages at bytes first (map f xs)
passed-written f xs ys at bytes first a k whole within all low e =
    let len = length-map xs f in
    put_rest f xs ys a k all
    ∙ ap (λ zs. take a (map f xs) ++ zs)
    (e ∙ ap (written_pages at bytes (first + a * page_size)) (mid_rest f xs a k all))
    ∙ sym (written_pages-skipped at bytes first (map f xs) a whole (omega arith) low)

pub passed-kept : {X : Type 0} (f : X → List ℕ) (xs ys : List X) (a k : ℕ) → length xs ≤ a + k
    → map f ys ≡ map f (mid_of a k xs) → map f (put_mid a k xs ys) ≡ map f xs
passed-kept f xs ys a k all e =
    put_rest f xs ys a k all ∙ ap (λ zs. take a (map f xs) ++ zs) (e ∙ mid_rest f xs a k all)
    ∙ take-append-drop a (map f xs)

-- zeros up to the end of the last page
pub tail_zeros : (n m from : ℕ) → n ≡ m → m * page_size < from + page_size
    → take (n * page_size - from) (replicate {A = ℕ} page_size 0) ≡ replicate (m * page_size - from) 0
tail_zeros n m from e last =
    take-replicate {X = ℕ} (n * page_size - from) page_size 0 (omega arith)
    ∙ ap (λ k. replicate {A = ℕ} (k * page_size - from) 0) e

-- ---- what holds of an answer in either case

pub either : {T E P : Type 0} (r : Result T E) → OnOk r P → OnErr r P → P
either (Ok x) ok err = ok
either (Err e) ok err = err

pub on_err : {T E P : Type 0} (r : Result T E) → P → OnErr r P
on_err (Ok x) p = tt
on_err (Err e) p = p

pub ruleset page_writes = (written_pages-behind, written_pages-next)
