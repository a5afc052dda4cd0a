-- Records, read where they stand.
use Rattle.std.proofs.Common.{◌≡◌, ◌+◌, ◌*◌, ◌≤◌, ℕ, zero, suc, List, [], ◌∷◌, ◌++◌, length, drop, All, None, Result, Ok, Err, refl, sym, ap, subst, ◌∙◌, arith, length-drop}
use Rattle.std.proofs.lemmas.List.Elements.{All-nil, All-cons, All-head, All-tail, All-drop}
use Rattle.pr_num.specs.Records.{Range, entries_words}
use Rattle.pr_num.specs.Words.{IsByte, IsWord, words_bytes}
use Rattle.pr_codec.proofs.WordLemmas.{length-words_bytes}
use Rattle.pr_rec.proofs.ReadLemmas.{front_words-words_bytes, record_read-whole, words_bytes-append}
use Rattle.pr_rec.proofs.RecordLemmas.{TakeWords, AreWords-ranged, ranged-first_out, read-begins}
use Rattle.pr_rec.specs.Fields.{front_words}
use Rattle.pr_rec.specs.Reading.{record_read}
use Rattle.pr_rec.specs.declared.faults.RecFault.{RecFault}
use Rattle.pr_core.proofs.StandLemmas.{StandsAt, stands_taken, first_of, second_of, both_of}
use Rattle.pr_core.proofs.StepLemmas.{gave}
use Rattle.pr_core.specs.CoreRanges.{IsRecord}
use Rattle.pr_core.specs.CoreReading.{record_at, records_at, placed, size_of}

-- as many bytes as a record has
pub record-size : (ranges : List Range) (words : List ℕ) → IsRecord ranges words
    → length (words_bytes words) ≡ size_of ranges
record-size ranges words is = length-words_bytes words ∙ ap (λ (n : ℕ). 8 * n) is.count

placed-ok : (at : ℕ) (r : Result (List ℕ) RecFault) (words : List ℕ) → placed at r ≡ Ok words → r ≡ Ok words
placed-ok at (Ok found) words is = cc
placed-ok at (Err fault) words is = absurd cc

module _ (ranges : List Range) (take_words : TakeWords ranges) (bytes : List ℕ) where
  -- ---- one record

  -- a record that stands there
  pub record_at-stands : (at : ℕ) (words : List ℕ) → IsRecord ranges words → StandsAt bytes at (words_bytes words)
      → record_at ranges bytes at ≡ Ok words
  unfolding record_at
  record_at-stands at words is stands =
      let ranged = ranged-first_out ranges words 0 is.count is.ranged in
      let fit : All IsWord words = AreWords-ranged ranges words take_words ranged is.count in
      let enough : 8 * length ranges ≤ length (drop at bytes) =
      omega (arith, length-drop at bytes, stands.within, record-size ranges words is) in
      let front : words ≡ front_words (length ranges) (drop at bytes) =
      sym (front_words-words_bytes words (drop (at + length (words_bytes words)) bytes) fit)
      ∙ ap (front_words (length words)) (sym stands.parts) ∙ ap (λ (n : ℕ). front_words n (drop at bytes)) is.count in
      ap (placed at) (record_read-whole ranges (drop at bytes) words None enough front (sym is.ranged))

  -- what was read is a record that stands there
  pub record StandsRecord (at : ℕ) (words : List ℕ) : Type 0 where
    pub is : IsRecord ranges words
    pub stands : StandsAt bytes at (words_bytes words)

  pub stands-record_at : (at : ℕ) (words : List ℕ) → All IsByte bytes → at ≤ length bytes
      → record_at ranges bytes at ≡ Ok words → StandsRecord at words
  unfolding record_at
  stands-record_at at words small inside read =
      let found = placed-ok at (record_read ranges (drop at bytes)) words read in
      let begins = read-begins ranges take_words (drop at bytes) words (All-drop IsByte at bytes small) found in
      record {
        is = record { count = begins.encoded.count; ranged = begins.encoded.ranged };
        stands = subst (StandsAt bytes at) begins.encoded.encoded
            (stands_taken bytes at (8 * length ranges) (omega (arith, length-drop at bytes, begins.enough)));
      }

  -- ---- records one after the other

  first-and-others : (words : List ℕ) (others : List (List ℕ))
      → words_bytes (entries_words (words ∷ others)) ≡ words_bytes words ++ words_bytes (entries_words others)
  first-and-others words others = words_bytes-append words (entries_words others)

  pub records_at-stands : (entries : List (List ℕ)) (at : ℕ) → All (IsRecord ranges) entries
      → StandsAt bytes at (words_bytes (entries_words entries))
      → records_at ranges (length entries) bytes at ≡ Ok entries
  unfolding records_at
  records_at-stands [] at are stands = refl
  records_at-stands (words ∷ others) at are stands =
      let apart = subst (StandsAt bytes at) (first-and-others words others) stands in
      let is = All-head (IsRecord ranges) words others are in
      let first = record_at-stands at words is (first_of bytes (words_bytes words) (words_bytes (entries_words others))
      at apart) in
      let next : at + length (words_bytes words) ≡ at + size_of ranges =
      ap (λ (n : ℕ). at + n) (record-size ranges words is) in
      let there = subst (λ (n : ℕ). StandsAt bytes n (words_bytes (entries_words others))) next
      (second_of bytes (words_bytes words) (words_bytes (entries_words others)) at apart) in
      let rest = records_at-stands others (at + size_of ranges) (All-tail (IsRecord ranges) words others are) there in
      rw (first, rest)

  pub record StandRecords (at n : ℕ) (entries : List (List ℕ)) : Type 0 where
    pub are : All (IsRecord ranges) entries
    pub stand : StandsAt bytes at (words_bytes (entries_words entries))
    pub count : length entries ≡ n

  pub stands-records_at : (n at : ℕ) (entries : List (List ℕ)) → All IsByte bytes
      → at + size_of ranges * n ≤ length bytes → records_at ranges n bytes at ≡ Ok entries → StandRecords at n entries
  unfolding records_at
  stands-records_at zero at entries small inside read =
      let none : [] ≡ entries = cc in
      subst (StandRecords at zero) none (record {
        are = All-nil (IsRecord ranges);
        stand = stands_taken bytes at 0
            (omega arith);
        count = refl;
      })
  stands-records_at (suc n) at entries small inside read =
      let here : at ≤ length bytes = omega arith in
      let beyond : at + size_of ranges + size_of ranges * n ≤ length bytes = omega arith in
      let one = gave _ _ entries read in
      let two = gave _ _ entries one.rest_is in
      let first = stands-record_at at one.first small here one.step_is in
      let rest = stands-records_at n (at + size_of ranges) two.first small beyond two.step_is in
      let same : one.first ∷ two.first ≡ entries = cc in
      let next : at + size_of ranges ≡ at + length (words_bytes one.first) =
      ap (λ (n : ℕ). at + n) (sym (record-size ranges one.first first.is)) in
      let there = subst (λ (n : ℕ). StandsAt bytes n (words_bytes (entries_words two.first))) next rest.stand in
      subst (StandRecords at (suc n)) same (record {
        are = All-cons (IsRecord ranges) one.first two.first first.is rest.are;
        stand = subst (StandsAt bytes at) (sym (first-and-others one.first two.first))
            (both_of bytes (words_bytes one.first) (words_bytes (entries_words two.first)) at first.stands there);
        count = ap suc rest.count;
      })
