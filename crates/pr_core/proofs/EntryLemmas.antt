-- What the records of a core are read as.
use Rattle.std.proofs.Common.{◌≡◌, ◌*◌, ◌<◌, ◌≤◌, ℕ, zero, suc, List, replicate, take, drop, subst, length, All, None, Ok, Err, sym, ap, ◌∙◌, arith, lt-ltb, true, leb}
use Rattle.std.proofs.lemmas.Bool.{ltb-true, leb-true, and_parts}
use Rattle.std.proofs.lemmas.List.Elements.{All-nil, All-cons, All-take, All-drop}
use Rattle.pr_num.specs.Limits.{signal_count}
use Rattle.pr_num.specs.Words.{IsByte, IsWord}
use Rattle.pr_num.specs.Records.{fd_entry_ranges, a_file_kind, EncodesRecord, Range, first_out_of_range, lwpstatus_ranges, sigact_ranges, any_word}
use Rattle.pr_codec.proofs.WordLemmas.{word_of-below}
use Rattle.pr_rec.proofs.LwpStatusLemmas.{lwpstatus_take, lwpstatus-typed}
use Rattle.pr_rec.proofs.ReadLemmas.{record_read-whole}
use Rattle.pr_rec.proofs.RecordLemmas.{TakeWords, any-word, below-word, AreRanged, AreRanged-at, AreWords-ranged, first_out-ranged, ranged-first_out, front_words-ranged}
use Rattle.pr_rec.specs.Fields.{front_words}
use Rattle.pr_rec.specs.InRange.{HasArraySizes, IsLwpStatus}
use Rattle.pr_rec.specs.Reading.{BeginsWith, record_read}
use Rattle.pr_rec.specs.RecordWords.{lwpstatus_words_of}
use Rattle.pr_rec.specs.declared.faults.RecFault.TheVariants.{Short}
use Rattle.pr_rec.specs.declared.lwps.LwpStatus.{LwpStatus}
use Rattle.pr_core.specs.CoreRanges.{IsSigact}

-- too few bytes for a record
pub short-read : (ranges : List Range) (bytes : List ℕ) → length bytes < 8 * length ranges
    → record_read ranges bytes ≡ Err Short
unfolding record_read
short-read ranges bytes few = rw (lt-ltb (length bytes) (8 * length ranges) few)

-- dispositions are read where there are enough bytes
pub sigact-read : (bytes words : List ℕ) → All IsByte bytes → 8 * signal_count ≤ length bytes
    → words ≡ front_words signal_count bytes → record_read sigact_ranges bytes ≡ Ok words
sigact-read bytes words small enough front =
    let ranged : AreRanged sigact_ranges (front_words signal_count bytes) =
    front_words-ranged signal_count bytes small in
    let none : first_out_of_range sigact_ranges words ≡ None =
    ap (first_out_of_range sigact_ranges) front
    ∙ first_out-ranged sigact_ranges (front_words signal_count bytes) 0 ranged in
    record_read-whole sigact_ranges bytes words None enough front (sym none)

-- the status of an lwp with which bytes begin is in its ranges
pub lwpstatus-whole : (l : LwpStatus) → HasArraySizes l → AreRanged lwpstatus_ranges (lwpstatus_words_of l)
    → IsLwpStatus l
lwpstatus-whole l sizes ranged =
    let words : List ℕ = lwpstatus_words_of l in
    let size : length words ≡ length lwpstatus_ranges = omega arith in
    lwpstatus-typed l sizes (ltb-true _ _ (AreRanged-at lwpstatus_ranges words 0 ranged))
    (ltb-true _ _ (AreRanged-at lwpstatus_ranges words 1 ranged))
    (ltb-true _ _ (AreRanged-at lwpstatus_ranges words 3 ranged))
    (ltb-true _ _ (AreRanged-at lwpstatus_ranges words 16 ranged))
    (ltb-true _ _ (AreRanged-at lwpstatus_ranges words 17 ranged))
    (AreWords-ranged lwpstatus_ranges words lwpstatus_take ranged size)
    (record {
      code = ltb-true _ _ (AreRanged-at lwpstatus_ranges words 30 ranged);
      pid = ltb-true _ _ (AreRanged-at lwpstatus_ranges words 31 ranged);
    })

pub lwpstatus-begins : (bytes : List ℕ) (l : LwpStatus) → HasArraySizes l
    → BeginsWith lwpstatus_ranges bytes (lwpstatus_words_of l) → IsLwpStatus l
lwpstatus-begins bytes l sizes begins =
    lwpstatus-whole l sizes (ranged-first_out lwpstatus_ranges (lwpstatus_words_of l) 0 begins.encoded.count
    begins.encoded.ranged)

-- the first words of bytes are words
front_words-words : (n : ℕ) (bytes : List ℕ) → All IsByte bytes → All IsWord (front_words n bytes)
front_words-words zero bytes small = All-nil IsWord
front_words-words (suc n) bytes small =
    All-cons IsWord _ _ (word_of-below (take 8 bytes) (All-take IsByte 8 bytes small))
    (front_words-words n (drop 8 bytes) (All-drop IsByte 8 bytes small))

pub sigact-ranged : (bytes words : List ℕ) → All IsByte bytes → length words ≡ signal_count
    → words ≡ front_words signal_count bytes → IsSigact words
sigact-ranged bytes words small count front =
    record { count = count; words = subst (All IsWord) (sym front) (front_words-words signal_count bytes small) }

-- dispositions are words, and as many as there are signals
any_words-take : (n : ℕ) → TakeWords (replicate n any_word)
any_words-take zero = tt
any_words-take (suc n) = (any-word, any_words-take n)

pub sigact_take : TakeWords sigact_ranges
sigact_take = any_words-take signal_count

pub sigact-encoded : (bytes words : List ℕ) → EncodesRecord sigact_ranges bytes words → IsSigact words
sigact-encoded bytes words encodes =
    let ranged : AreRanged sigact_ranges words = ranged-first_out sigact_ranges words 0 encodes.count encodes.ranged in
    record { count = encodes.count; words = AreWords-ranged sigact_ranges words sigact_take ranged encodes.count }

kind-word : (w : ℕ) → a_file_kind w ≡ true → IsWord w
kind-word w may = omega (arith, leb-true w 3 (and_parts (leb 1 w) (leb w 3) may).1)

-- the words of a descriptor's record are words
pub fd_entry_take : TakeWords fd_entry_ranges
fd_entry_take = (
  below-word _ (omega arith),
  (
    kind-word,
    (below-word _ (omega arith), (any-word, (any-word, (any-word, (any-word, (any-word, tt)))))),
  ),
)
