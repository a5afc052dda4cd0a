-- Fields of records are found back from their words, and records whose words are in their ranges are read.
use Rattle.std.proofs.Common.{◌≡◌, ◌≤◌, ◌<◌, ◌*◌, ℕ, Option, None, Some, Ok, List, length, drop, get_or, true, refl, ap, ◌∙◌, sym, subst, All, arith}
use Rattle.std.proofs.lemmas.Bool.{lt-ltb}
use Rattle.std.proofs.lemmas.List.{take_all}
use Rattle.std.proofs.lemmas.List.Elements.{All-drop}
use Rattle.pr_num.specs.Tables.{entry_at}
use Rattle.pr_num.specs.Words.{IsByte, words_bytes}
use Rattle.pr_num.specs.Records.{Range, a_file_kind, fd_entry_ranges, list_entry_ranges}
use Rattle.pr_num.specs.StopReasons.{stop_reasons, reason_number}
use Rattle.pr_num.specs.declared.stop_reasons.StopReason.{StopReason}
use Rattle.pr_num.proofs.EntryLemmas.{reason_of_number-number}
use Rattle.pr_rec.specs.Fields.{front_words, number_or_zero}
use Rattle.pr_rec.specs.Reading.{record_read}
use Rattle.pr_rec.proofs.ReadLemmas.{record_read-whole}
use Rattle.pr_rec.proofs.RecordLemmas.{AreRanged, first_out-ranged, front_words-ranged, words_bytes-front_words}

-- why an lwp is stopped, from the number of the reason
pub reason_back : (why : Option StopReason) → entry_at stop_reasons (number_or_zero reason_number why) ≡ why
unfolding entry_at
reason_back None = refl
reason_back (Some reason) = reason_of_number-number reason

-- the 32 bytes of a name, from their words
pub name_back : (name : List ℕ) → length name ≡ 32 → All IsByte name → words_bytes (front_words 4 name) ≡ name
name_back name whole small = words_bytes-front_words 4 name small (omega arith) ∙ take_all 32 name (omega arith)

-- words at the front that are in their ranges are what is read
front-read : (ranges : List Range) (bytes words : List ℕ) → 8 * length ranges ≤ length bytes
    → words ≡ front_words (length ranges) bytes → AreRanged ranges (front_words (length ranges) bytes)
    → record_read ranges bytes ≡ Ok words
front-read ranges bytes words enough whole ranged =
    let P : List ℕ → Type 0 = AreRanged ranges in
    record_read-whole ranges bytes words None enough whole
    (sym (first_out-ranged ranges words 0 (subst P (sym whole) ranged)))

-- a kind of descriptor
kind-ranged : (w : ℕ) → 1 ≤ w → w ≤ 3 → a_file_kind w ≡ true
kind-ranged w low high = grind arith

-- a word of a list that is another
same-word : (words others : List ℕ) (k : ℕ) → words ≡ others → get_or words k 0 ≡ get_or others k 0
same-word words others k same = ap (λ ws. get_or ws k 0) same

-- a descriptor
pub fd_entry-read : (bytes words : List ℕ) → All IsByte bytes → 64 ≤ length bytes → words ≡ front_words 8 bytes
    → get_or words 0 0 < 64 → 1 ≤ get_or words 1 0 → get_or words 1 0 ≤ 3 → get_or words 2 0 < 3
    → record_read fd_entry_ranges bytes ≡ Ok words
fd_entry-read bytes words small enough whole number low high access =
    let front : List ℕ = front_words 8 bytes in
    let zeroth : get_or words 0 0 ≡ get_or front 0 0 = same-word words front 0 whole in
    let first : get_or words 1 0 ≡ get_or front 1 0 = same-word words front 1 whole in
    let second : get_or words 2 0 ≡ get_or front 2 0 = same-word words front 2 whole in
    let others : List ℕ = drop 8 (drop 8 (drop 8 bytes)) in
    let bytes' : All IsByte others = All-drop IsByte 8 _ (All-drop IsByte 8 _ (All-drop IsByte 8 bytes small)) in
    front-read fd_entry_ranges bytes words enough whole (
      lt-ltb (get_or front 0 0) 64 (omega (arith, zeroth, number)),
      (
        kind-ranged (get_or front 1 0) (omega (arith, first, low)) (omega (arith, first, high)),
        (lt-ltb (get_or front 2 0) 3 (omega (arith, second, access)), front_words-ranged 5 others bytes'),
      ),
    )

-- a process of a list
pub list_entry-read : (bytes words : List ℕ) → All IsByte bytes → 48 ≤ length bytes → words ≡ front_words 6 bytes
    → get_or words 0 0 < 4294967296 → get_or words 1 0 < 4294967296 → record_read list_entry_ranges bytes ≡ Ok words
list_entry-read bytes words small enough whole id parent =
    let front : List ℕ = front_words 6 bytes in
    let zeroth : get_or words 0 0 ≡ get_or front 0 0 = same-word words front 0 whole in
    let first : get_or words 1 0 ≡ get_or front 1 0 = same-word words front 1 whole in
    let others : List ℕ = drop 8 (drop 8 bytes) in
    let bytes' : All IsByte others = All-drop IsByte 8 _ (All-drop IsByte 8 bytes small) in
    front-read list_entry_ranges bytes words enough whole (
      lt-ltb _ _ (omega (arith, zeroth, id)),
      (lt-ltb _ _ (omega (arith, first, parent)), front_words-ranged 4 others bytes'),
    )
