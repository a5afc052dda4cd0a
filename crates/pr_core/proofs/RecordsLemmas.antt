-- Records that are read one after the other.
use Rattle.std.proofs.Common.{◌≡◌, ◌+◌, ◌-◌, ◌*◌, ◌<◌, ◌≤◌, ℕ, zero, suc, List, [], ◌∷◌, ◌++◌, map, Result, Ok, Err, refl, sym, ap, ◌∙◌, arith, append_assoc}
use Rattle.std.proofs.lemmas.List.{append-nil, map-append}
use Rattle.pr_num.specs.Records.{Range}
use Rattle.pr_text.specs.Steps.{◌>>=◌}
use Rattle.pr_core.specs.CoreReading.{record_at, records_at, size_of}
use Rattle.pr_core.specs.declared.faults.CoreFault.{CoreFault}

-- what is read, after records that were read before it
abbrev pub after : List (List ℕ) → Result (List (List ℕ)) CoreFault → Result (List (List ℕ)) CoreFault
after done rest = rest >>= λ others. Ok (done ++ others)

after-none : (rest : Result (List (List ℕ)) CoreFault) → rest ≡ after [] rest
after-none (Ok others) = refl
after-none (Err fault) = refl

after-one : (done : List (List ℕ)) (words : List ℕ) (rest : Result (List (List ℕ)) CoreFault)
    → after done (rest >>= λ others. Ok (words ∷ others)) ≡ after (done ++ words ∷ []) rest
after-one done words (Ok others) = ap Ok (sym (append_assoc done (words ∷ []) others))
after-one done words (Err fault) = refl

-- one more record was read
after-next : (ranges : List Range) (bytes words : List ℕ) (done : List (List ℕ)) (left more here : ℕ) → left ≡ suc more
    → record_at ranges bytes here ≡ Ok words
    → after done (records_at ranges left bytes here)
    ≡ after (done ++ words ∷ []) (records_at ranges more bytes (here + size_of ranges))
unfolding records_at
after-next ranges bytes words done left more here count read =
    ap (λ (n : ℕ). after done (records_at ranges n bytes here)) count
    ∙ ap (λ first. after done (first >>= λ w. records_at ranges more bytes (here + size_of ranges) >>= λ others. Ok
    (w ∷ others))) read
    ∙ after-one done words (records_at ranges more bytes (here + size_of ranges))

-- a record could not be read
after-fault : (ranges : List Range) (bytes : List ℕ) (done : List (List ℕ)) (left here : ℕ) (fault : CoreFault)
    → 0 < left → record_at ranges bytes here ≡ Err fault → after done (records_at ranges left bytes here) ≡ Err fault
unfolding records_at
after-fault ranges bytes done zero here fault some read = absurd (omega arith)
after-fault ranges bytes done (suc more) here fault some read =
    ap (λ first. after done (first >>= λ w. records_at ranges more bytes (here + size_of ranges) >>= λ others. Ok
    (w ∷ others))) read

-- all were read
after-all : (ranges : List Range) (bytes : List ℕ) (done : List (List ℕ)) (left here : ℕ) → left ≡ 0
    → after done (records_at ranges left bytes here) ≡ Ok done
unfolding records_at
after-all ranges bytes done left here none =
    ap (λ (n : ℕ). after done (records_at ranges n bytes here)) none ∙ ap Ok (append-nil done)

-- ---- reading so many records from a place on

module _ {T : Type 0} (words_of : T → List ℕ) (ranges : List Range) (bytes : List ℕ) (count at : ℕ) where
  -- where the record of a number begins
  abbrev pub place_of : ℕ → ℕ
  place_of n = at + size_of ranges * n

  -- these were read, and the others are left
  pub record AreRead (n : ℕ) (done : List T) : Type 0 where
    pub read : records_at ranges count bytes at
        ≡ after (map words_of done) (records_at ranges (count - n) bytes (place_of n))

  pub none_read : AreRead 0 []
  none_read =
      let start : at ≡ place_of 0 = omega arith in
      let all : count ≡ count - 0 = omega arith in
      record {
        read = after-none (records_at ranges count bytes at)
            ∙ ap (λ (at : ℕ). after [] (records_at ranges count bytes at)) start
            ∙ ap (λ (n : ℕ). after [] (records_at ranges n bytes (place_of 0))) all;
      }

  pub one_read : (n here : ℕ) (done : List T) (x : T) → AreRead n done → n < count → here ≡ place_of n
      → record_at ranges bytes here ≡ Ok (words_of x) → AreRead (n + 1) (done ++ x ∷ [])
  one_read n here done x so_far inside is found =
      let left : count - n ≡ suc (count - (n + 1)) = omega arith in
      let next : place_of n + size_of ranges ≡ place_of (n + 1) = omega arith in
      let there : record_at ranges bytes (place_of n) ≡ Ok (words_of x) =
      ap (record_at ranges bytes) (sym is) ∙ found in
      let rest : ℕ → Result (List (List ℕ)) CoreFault = records_at ranges (count - (n + 1)) bytes in
      record {
        read = so_far.read
            ∙ after-next ranges bytes (words_of x) (map words_of done) (count - n) (count - (n + 1)) (place_of n) left
            there
            ∙ ap (λ (k : ℕ). after (map words_of done ++ words_of x ∷ []) (rest k)) next
            ∙ ap (λ (words : List (List ℕ)). after words (rest (place_of (n + 1))))
            (sym (map-append words_of done (x ∷ [])));
      }

  pub none_found : (n here : ℕ) (done : List T) (fault : CoreFault) → AreRead n done → n < count → here ≡ place_of n
      → record_at ranges bytes here ≡ Err fault → records_at ranges count bytes at ≡ Err fault
  none_found n here done fault so_far inside is found =
      let there : record_at ranges bytes (place_of n) ≡ Err fault = ap (record_at ranges bytes) (sym is) ∙ found in
      so_far.read ∙ after-fault ranges bytes (map words_of done) (count - n) (place_of n) fault (omega arith) there

  pub all_read : (n : ℕ) (done : List T) → AreRead n done → count ≤ n
      → records_at ranges count bytes at ≡ Ok (map words_of done)
  all_read n done so_far ended =
      so_far.read ∙ after-all ranges bytes (map words_of done) (count - n) (place_of n) (omega arith)
