-- Sections of records, read where they stand.
use Rattle.std.proofs.Common.{◌≡◌, ◌+◌, ◌-◌, ◌*◌, ◌/◌, ◌%◌, ◌<◌, ◌≤◌, ◌^◌, ℕ, true, List, [], ◌∷◌, length, All, Ok, sym, ap, subst, ◌∙◌, arith, leb, length-append}
use Rattle.std.proofs.lemmas.Bool.{eqb-true, eq-eqb, and_parts, leb-true, le-leb}
use Rattle.std.proofs.lemmas.List.Elements.{All-head, All-tail}
use Rattle.std.proofs.Math.Nat.{mul-mod_right, mul-div_cancel_left, mul-le-mul_right}
use Rattle.pr_num.specs.Records.{Range, entries_words, counted_words}
use Rattle.pr_num.specs.Words.{IsByte, word_bytes, words_bytes}
use Rattle.pr_codec.proofs.WordLemmas.{length-word_bytes}
use Rattle.pr_rec.proofs.ReadLemmas.{words_bytes-append}
use Rattle.pr_rec.proofs.RecordLemmas.{TakeWords}
use Rattle.pr_core.proofs.ExtentLemmas.{whole-parts}
use Rattle.pr_core.proofs.RecordStandLemmas.{record-size, record_at-stands, stands-record_at, records_at-stands, stands-records_at}
use Rattle.pr_core.proofs.StandLemmas.{StandsAt, first_of, second_of, both_of}
use Rattle.pr_core.proofs.StepLemmas.{gave}
use Rattle.pr_core.proofs.WordLemmas.{word_in-stands, stands-word_in, length-section, section-parts, section_size-stands, stands-section_size}
use Rattle.pr_core.specs.CoreBytes.{section}
use Rattle.pr_core.specs.CoreRanges.{IsRecord}
use Rattle.pr_core.specs.CoreReading.{Read, size_of, exactly, are_whole, are_counted, one_record, any_records, counted_records}

-- how many bytes records have
pub entries-size : (ranges : List Range) (entries : List (List ℕ)) → All (IsRecord ranges) entries
    → length (words_bytes (entries_words entries)) ≡ size_of ranges * length entries
entries-size ranges [] are = omega arith
entries-size ranges (words ∷ others) are =
    ap length (words_bytes-append words (entries_words others))
    ∙ length-append (words_bytes words) (words_bytes (entries_words others))
    ∙ omega (
      arith,
      record-size ranges words (All-head (IsRecord ranges) words others are),
      entries-size ranges others
          (All-tail (IsRecord ranges) words others are),
    )

module _ (ranges : List Range) (take_words : TakeWords ranges) (kind : ℕ) (kind_fits : kind < 2 ^ 64)
    (bytes : List ℕ) where
  -- a section stands there, and the next place is behind it
  pub record Holds (at : ℕ) (part : List ℕ) (next : ℕ) : Type 0 where
    pub stands : StandsAt bytes at (section kind part)
    pub next_is : next ≡ at + length (section kind part)

  behind-part : (at : ℕ) (part : List ℕ) → at + 16 + length part ≡ at + length (section kind part)
  behind-part at part = omega (arith, length-section kind part)

  -- ---- one record

  pub one_record-stands : (at : ℕ) (words : List ℕ) → IsRecord ranges words → length (words_bytes words) < 2 ^ 64
      → StandsAt bytes at (section kind (words_bytes words))
      → one_record kind ranges bytes at
      ≡ Ok (record { found = words; next = at + length (section kind (words_bytes words)) })
  unfolding one_record
  one_record-stands at words is few stands =
      let part : List ℕ = words_bytes words in
      let sized = section_size-stands kind (exactly (size_of ranges)) part bytes at stands kind_fits few
      (eq-eqb (length part) (size_of ranges) (record-size ranges words is)) in
      let first = record_at-stands ranges take_words bytes (at + 16) words is
      (section-parts kind part bytes at stands).part_there in
      rw (sized, first) (ap (λ (next : ℕ). Ok (record { found = words; next = next })) (behind-part at part))

  pub record HoldsOne (at : ℕ) (read : Read (List ℕ)) : Type 0 where
    pub is : IsRecord ranges read.found
    pub holds : Holds at (words_bytes read.found) read.next

  pub stands-one_record : (at : ℕ) (read : Read (List ℕ)) → All IsByte bytes → one_record kind ranges bytes at ≡ Ok read
      → HoldsOne at read
  unfolding one_record
  stands-one_record at read small given =
      let one = gave _ _ read given in
      let two = gave _ _ read one.rest_is in
      let sized = stands-section_size kind (exactly (size_of ranges)) bytes at one.first one.step_is in
      let first = stands-record_at ranges take_words bytes (at + 16) two.first small (omega (arith, sized.inside))
      two.step_is in
      let known : one.first ≡ size_of ranges = eqb-true one.first (size_of ranges) sized.may in
      let size : length (words_bytes two.first) ≡ one.first = record-size ranges two.first first.is ∙ sym known in
      let same : record { found = two.first; next = at + 16 + one.first } ≡ read = cc in
      subst (HoldsOne at) same (record {
        is = first.is;
        holds = record {
          stands = sized.stands (words_bytes two.first) small size first.stands;
          next_is = ap (λ (n : ℕ). at + 16 + n) (sym size) ∙ behind-part at (words_bytes two.first);
        };
      })

  -- ---- records one after the other

  module _ (some : 0 < length ranges) where
    whole-size : (n : ℕ) → are_whole ranges (size_of ranges * n) ≡ true
    whole-size n = eq-eqb (size_of ranges * n % size_of ranges) 0 (mul-mod_right (size_of ranges) n)

    whole-count : (n : ℕ) → size_of ranges * n / size_of ranges ≡ n
    whole-count n = mul-div_cancel_left n (omega arith)

    pub any_records-stand : (at : ℕ) (entries : List (List ℕ)) → All (IsRecord ranges) entries
        → length (words_bytes (entries_words entries)) < 2 ^ 64
        → StandsAt bytes at (section kind (words_bytes (entries_words entries)))
        → any_records kind ranges bytes at
        ≡ Ok (record {
          found = entries;
          next = at + length
              (section kind (words_bytes (entries_words entries)));
        })
    unfolding any_records
    any_records-stand at entries are few stands =
        let part : List ℕ = words_bytes (entries_words entries) in
        let size : length part ≡ size_of ranges * length entries = entries-size ranges entries are in
        let sized = section_size-stands kind (are_whole ranges) part bytes at stands kind_fits few
        (ap (are_whole ranges) size ∙ whole-size (length entries)) in
        let count : length part / size_of ranges ≡ length entries =
        ap (λ (n : ℕ). n / size_of ranges) size ∙ whole-count (length entries) in
        let all = records_at-stands ranges take_words bytes entries (at + 16) are
        (section-parts kind part bytes at stands).part_there in
        rw (sized, count, all) (ap (λ (next : ℕ). Ok (record { found = entries; next = next })) (behind-part at part))

    pub record HoldsMany (at : ℕ) (read : Read (List (List ℕ))) : Type 0 where
      pub are : All (IsRecord ranges) read.found
      pub holds : Holds at (words_bytes (entries_words read.found)) read.next

    pub stand-any_records : (at : ℕ) (read : Read (List (List ℕ))) → All IsByte bytes
        → any_records kind ranges bytes at ≡ Ok read → HoldsMany at read
    unfolding any_records
    stand-any_records at read small given =
        let one = gave _ _ read given in
        let two = gave _ _ read one.rest_is in
        let sized = stands-section_size kind (are_whole ranges) bytes at one.first one.step_is in
        let parts = whole-parts ranges one.first sized.may in
        let all = stands-records_at ranges take_words bytes (one.first / size_of ranges) (at + 16) two.first small
        (omega (arith, sized.inside, parts)) two.step_is in
        let size : length (words_bytes (entries_words two.first)) ≡ one.first =
        entries-size ranges two.first all.are ∙ ap (λ (n : ℕ). size_of ranges * n) all.count ∙ parts in
        let same : record { found = two.first; next = at + 16 + one.first } ≡ read = cc in
        subst (HoldsMany at) same (record {
          are = all.are;
          holds = record {
            stands = sized.stands (words_bytes (entries_words two.first)) small size all.stand;
            next_is = ap (λ (n : ℕ). at + 16 + n) (sym size) ∙ behind-part at (words_bytes (entries_words two.first));
          };
        })

    -- ---- records after their number

    counted-size : (entries : List (List ℕ)) → All (IsRecord ranges) entries
        → length (words_bytes (counted_words entries)) ≡ 8 + size_of ranges * length entries
    counted-size entries are =
        length-append (word_bytes (length entries)) (words_bytes (entries_words entries))
        ∙ omega (arith, length-word_bytes (length entries), entries-size ranges entries are)

    counted-may : (n : ℕ) → are_counted ranges (8 + n) ≡ are_whole ranges n
    counted-may n =
        let more : 8 + n - 8 ≡ n = omega arith in
        rw (le-leb 8 (8 + n) (omega arith)) (ap (are_whole ranges) more)

    pub counted_records-stand : (at : ℕ) (entries : List (List ℕ)) → All (IsRecord ranges) entries
        → length (words_bytes (counted_words entries)) < 2 ^ 64
        → StandsAt bytes at (section kind (words_bytes (counted_words entries)))
        → counted_records kind ranges bytes at
        ≡ Ok (record {
          found = entries;
          next = at + length
              (section kind (words_bytes (counted_words entries)));
        })
    unfolding counted_records
    counted_records-stand at entries are few stands =
        let part : List ℕ = words_bytes (counted_words entries) in
        let size : length part ≡ 8 + size_of ranges * length entries = counted-size entries are in
        let sized = section_size-stands kind (are_counted ranges) part bytes at stands kind_fits few
        (ap (are_counted ranges) size ∙ counted-may (size_of ranges * length entries)
        ∙ whole-size (length entries)) in
        let rest : length part - 8 ≡ size_of ranges * length entries = omega (arith, size) in
        let count : (length part - 8) / size_of ranges ≡ length entries =
        ap (λ (n : ℕ). n / size_of ranges) rest ∙ whole-count (length entries) in
        let there = (section-parts kind part bytes at stands).part_there in
        let least : 1 * length entries ≤ length ranges * length entries = mul-le-mul_right (length entries) some in
        let fits : length entries < 2 ^ 64 = omega (arith, few, size) in
        let number = word_in-stands (exactly ((length part - 8) / size_of ranges)) bytes (at + 16) (length entries)
        (first_of bytes (word_bytes (length entries)) (words_bytes (entries_words entries)) (at + 16) there) fits
        (eq-eqb (length entries) ((length part - 8) / size_of ranges) (sym count)) in
        let begin : at + 16 + length (word_bytes (length entries)) ≡ at + 24 =
        omega (arith, length-word_bytes (length entries)) in
        let entries_there =
        subst (λ (n : ℕ). StandsAt bytes n (words_bytes (entries_words entries))) begin
        (second_of bytes (word_bytes (length entries)) (words_bytes (entries_words entries)) (at + 16) there) in
        let all = records_at-stands ranges take_words bytes entries (at + 24) are entries_there in
        rw (sized, number, all) (ap (λ (next : ℕ). Ok (record { found = entries; next = next })) (behind-part at part))

    pub record HoldsCounted (at : ℕ) (read : Read (List (List ℕ))) : Type 0 where
      pub are : All (IsRecord ranges) read.found
      pub holds : Holds at (words_bytes (counted_words read.found)) read.next

    pub stand-counted_records : (at : ℕ) (read : Read (List (List ℕ))) → All IsByte bytes
        → counted_records kind ranges bytes at ≡ Ok read → HoldsCounted at read
    unfolding counted_records
    stand-counted_records at read small given =
        let one = gave _ _ read given in
        let two = gave _ _ read one.rest_is in
        let three = gave _ _ read two.rest_is in
        let size : ℕ = one.first in
        let sized = stands-section_size kind (are_counted ranges) bytes at size one.step_is in
        let may = and_parts (leb 8 size) (are_whole ranges (size - 8)) sized.may in
        let word : 8 ≤ size = leb-true 8 size may.0 in
        let parts = whole-parts ranges (size - 8) may.1 in
        let number = stands-word_in (exactly ((size - 8) / size_of ranges)) bytes (at + 16) two.first two.step_is in
        let count : two.first ≡ (size - 8) / size_of ranges =
        eqb-true two.first ((size - 8) / size_of ranges) number.may in
        let amount : size_of ranges * two.first ≡ size - 8 = ap (λ (n : ℕ). size_of ranges * n) count ∙ parts in
        let all = stands-records_at ranges take_words bytes two.first (at + 24) three.first small
        (omega (arith, sized.inside, amount, word)) three.step_is in
        let whole : length (words_bytes (counted_words three.first)) ≡ size =
        counted-size three.first all.are ∙ ap (λ (n : ℕ). 8 + size_of ranges * n) all.count
        ∙ omega (arith, amount, word) in
        let begin : at + 24 ≡ at + 16 + length (word_bytes (length three.first)) =
        omega (arith, length-word_bytes (length three.first)) in
        let first = subst (λ (n : ℕ). StandsAt bytes (at + 16) (word_bytes n)) (sym all.count) (number.stands small) in
        let rest = subst (λ (n : ℕ). StandsAt bytes n (words_bytes (entries_words three.first))) begin all.stand in
        let there = both_of bytes (word_bytes (length three.first)) (words_bytes (entries_words three.first)) (at + 16)
        first rest in
        let same : record { found = three.first; next = at + 16 + size } ≡ read = cc in
        subst (HoldsCounted at) same (record {
          are = all.are;
          holds = record {
            stands = sized.stands (words_bytes (counted_words three.first)) small whole there;
            next_is =
                ap (λ (n : ℕ). at + 16 + n) (sym whole) ∙ behind-part at (words_bytes (counted_words three.first));
          };
        })
