use Rattle.std.proofs.Common.{◌≡◌, ◌*◌, ℕ, All, List, [], ◌∷◌, drop, length, map, take, Result, Ok, Err, IfOk, ◌∙◌, ap, refl, sym, subst, arith}
use Rattle.std.proofs.lemmas.List.{append-nil, drop_at, take_at}
use Rattle.std.proofs.lemmas.List.Elements.{All-cons, All-head, All-nil, All-tail}
use Rattle.pr_num.specs.Records.{Range, EncodesRecord, entries_words, fd_entry_ranges, list_entry_ranges, lwpstatus_ranges, map_entry_ranges, psinfo_ranges, status_ranges, usage_ranges, watch_entry_ranges}
use Rattle.pr_num.specs.Words.{word_bytes, words_bytes}
use Rattle.pr_codec.proofs.WordLemmas.{length-word_bytes, length-words_bytes}
use Rattle.pr_rec.proofs.EntryLemmas.{length-entries, stands_at}
use Rattle.pr_rec.proofs.ListEntryLemmas.{fd_entry-ranged, list_entry-ranged, watch_entry-ranged}
use Rattle.pr_rec.proofs.LwpStatusLemmas.{lwpstatus-ranged}
use Rattle.pr_rec.proofs.MapEntryLemmas.{map_entry-ranged}
use Rattle.pr_rec.proofs.RecordLemmas.{AreRanged, ranged-begins}
use Rattle.pr_rec.proofs.StatusLemmas.{status-ranged}
use Rattle.pr_rec.specs.InRange.{IsFdEntry, IsInfo, IsListEntry, IsLwpStatus, IsMapEntry, IsStatus, IsWatchEntry}
use Rattle.pr_rec.specs.Reading.{BeginsWith}
use Rattle.pr_rec.specs.RecordBytes.{fds_bytes, list_bytes, lstatus_bytes, lwpstatus_bytes, map_bytes, status_bytes, watch_bytes}
use Rattle.pr_rec.specs.RecordWords.{fd_entry_words_of, list_entry_words_of, lwpstatus_words_of, map_entry_words_of, psinfo_words_of, status_words_of, usage_words_of, watch_entry_words_of}
use Rattle.pr_rec.specs.declared.entries.FdEntry.{FdEntry}
use Rattle.pr_rec.specs.declared.entries.ListEntry.{ListEntry}
use Rattle.pr_rec.specs.declared.entries.WatchEntry.{WatchEntry}
use Rattle.pr_rec.specs.declared.lwps.LwpStatus.{LwpStatus}
use Rattle.pr_rec.specs.declared.mappings.MapEntry.{MapEntry}
use Rattle.pr_rec.specs.declared.processes.Psinfo.{Psinfo}
use Rattle.pr_rec.specs.declared.statuses.Status.{Status}
use Rattle.pr_rec.specs.declared.usages.Usage.{Usage}
use Rattle.pr_view.specs.Entries.{HasEntries}
use Rattle.pr_num.proofs.SearchLemmas.{All-at}

-- The bytes of each record decode to it.

-- ---- one record

-- The bytes of a status that is this one decode to it, where its fields are in their ranges.
pub status-begins : (bytes : List ℕ) (x y : Status) → bytes ≡ status_bytes x → x ≡ y → (IsInfo x.lwp.info → IsStatus x)
    → IsInfo y.lwp.info → BeginsWith status_ranges bytes (status_words_of y)
unfolding status_bytes
status-begins bytes x y are same ranged info =
    let P : Status → Type 0 = λ (s : Status). IsInfo s.lwp.info in
    let Q : Status → Type 0 = λ (s : Status). BeginsWith status_ranges bytes (status_words_of s) in
    let begins =
    ranged-begins status_ranges (status_words_of x) bytes
    [] refl (status-ranged x (ranged (subst P (sym same) info)))
    (are ∙ sym (append-nil (words_bytes (status_words_of x)))) in
    subst Q same begins

pub lwpstatus-begins : (bytes : List ℕ) (x y : LwpStatus) → bytes ≡ lwpstatus_bytes x → x ≡ y
    → (IsInfo x.info → IsLwpStatus x) → IsInfo y.info → BeginsWith lwpstatus_ranges bytes (lwpstatus_words_of y)
unfolding lwpstatus_bytes
lwpstatus-begins bytes x y are same ranged info =
    let P : LwpStatus → Type 0 = λ (l : LwpStatus). IsInfo l.info in
    let Q : LwpStatus → Type 0 = λ (l : LwpStatus). BeginsWith lwpstatus_ranges bytes (lwpstatus_words_of l) in
    let begins =
    ranged-begins lwpstatus_ranges (lwpstatus_words_of x) bytes
    [] refl (lwpstatus-ranged x (ranged (subst P (sym same) info)))
    (are ∙ sym (append-nil (words_bytes (lwpstatus_words_of x)))) in
    subst Q same begins

-- what encodes a record begins with it
encoded-begins : (ranges : List Range) (bytes words : List ℕ) → EncodesRecord ranges bytes words
    → BeginsWith ranges bytes words
encoded-begins ranges bytes words e =
    let size : length bytes ≡ 8 * length ranges =
    ap length e.encoded ∙ length-words_bytes words ∙ ap (λ (n : ℕ). 8 * n) e.count in
    let whole : take (8 * length ranges) bytes ≡ bytes =
    ap (take (8 * length ranges)) (sym (append-nil bytes)) ∙ take_at bytes [] (8 * length ranges) size in
    let Q : List ℕ → Type 0 = λ (bs : List ℕ). EncodesRecord ranges bs words in
    record { enough = omega (arith, size); encoded = subst Q (sym whole) e }

pub psinfo-begins : (bytes : List ℕ) (x y : Psinfo) → EncodesRecord psinfo_ranges bytes (psinfo_words_of x) → x ≡ y
    → BeginsWith psinfo_ranges bytes (psinfo_words_of y)
psinfo-begins bytes x y encoded same =
    let Q : Psinfo → Type 0 = λ (p : Psinfo). BeginsWith psinfo_ranges bytes (psinfo_words_of p) in
    subst Q same (encoded-begins psinfo_ranges bytes (psinfo_words_of x) encoded)

pub usage-begins : (bytes : List ℕ) (x y : Usage) → EncodesRecord usage_ranges bytes (usage_words_of x) → x ≡ y
    → BeginsWith usage_ranges bytes (usage_words_of y)
usage-begins bytes x y encoded same =
    let Q : Usage → Type 0 = λ (u : Usage). BeginsWith usage_ranges bytes (usage_words_of u) in
    subst Q same (encoded-begins usage_ranges bytes (usage_words_of x) encoded)

-- ---- records that are lists

-- what follows of a result's value from two facts of it
pub both_ok : {A E : Type 0} {P Q S : A → Type 0} (r : Result A E) → ((x : A) → P x → Q x → S x) → IfOk r P → IfOk r Q
    → IfOk r S
both_ok (Ok x) follows p q = follows x p q
both_ok (Err e) follows p q = tt

module _ {T : Type 0} (f : T → List ℕ) (ranges : List Range) (size : (x : T) → length (f x) ≡ length ranges)
    (IsIn : T → Type 0) (ranged : (x : T) → IsIn x → AreRanged ranges (f x)) where
  has_entries : (bytes : List ℕ) (xs : List T) → bytes ≡ words_bytes (entries_words (map f xs)) → All IsIn xs
      → HasEntries ranges f xs bytes
  has_entries bytes xs are all = record {
    size = ap length are ∙ length-entries f (length ranges) size xs;
    each = λ i x there.
        let stands = stands_at f (length ranges) size xs i x there in
        ranged-begins ranges (f x) (drop (8 * length ranges * i) bytes) stands.more (size x)
        (ranged x (All-at IsIn xs i x there all)) (ap (drop (8 * length ranges * i)) are ∙ stands.place);
  }

  -- the same of entries that were read and written
  has_those : (bytes : List ℕ) (xs ys : List T) → bytes ≡ words_bytes (entries_words (map f xs)) → All IsIn xs → xs ≡ ys
      → HasEntries ranges f ys bytes
  has_those bytes xs ys are all same =
      let Q : List T → Type 0 = λ (zs : List T). HasEntries ranges f zs bytes in
      subst Q same (has_entries bytes xs are all)

pub map-entries : (bytes : List ℕ) (xs ys : List MapEntry) → bytes ≡ map_bytes xs → All IsMapEntry xs → xs ≡ ys
    → HasEntries map_entry_ranges map_entry_words_of ys bytes
unfolding map_bytes
map-entries bytes xs ys are =
    has_those map_entry_words_of map_entry_ranges (λ _. refl) IsMapEntry map_entry-ranged bytes xs ys are

pub watch-entries : (bytes : List ℕ) (xs ys : List WatchEntry) → bytes ≡ watch_bytes xs → All IsWatchEntry xs → xs ≡ ys
    → HasEntries watch_entry_ranges watch_entry_words_of ys bytes
unfolding watch_bytes
watch-entries bytes xs ys are =
    has_those watch_entry_words_of watch_entry_ranges (λ _. refl) IsWatchEntry watch_entry-ranged bytes xs ys are

pub fds-entries : (bytes : List ℕ) (xs ys : List FdEntry) → bytes ≡ fds_bytes xs → All IsFdEntry xs → xs ≡ ys
    → HasEntries fd_entry_ranges fd_entry_words_of ys bytes
unfolding fds_bytes
fds-entries bytes xs ys are =
    has_those fd_entry_words_of fd_entry_ranges (λ _. refl) IsFdEntry fd_entry-ranged bytes xs ys are

pub list-entries : (bytes : List ℕ) (xs ys : List ListEntry) → bytes ≡ list_bytes xs → All IsListEntry xs → xs ≡ ys
    → HasEntries list_entry_ranges list_entry_words_of ys bytes
unfolding list_bytes
list-entries bytes xs ys are =
    has_those list_entry_words_of list_entry_ranges (λ _. refl) IsListEntry list_entry-ranged bytes xs ys are

-- ---- the statuses of all lwps, which stand after their number

ranged-each : (xs : List LwpStatus) → All (λ (l : LwpStatus). IsInfo l.info → IsLwpStatus l) xs
    → All (λ (l : LwpStatus). IsInfo l.info) xs → All IsLwpStatus xs
ranged-each [] ranged infos = All-nil IsLwpStatus
ranged-each (l ∷ xs) ranged infos =
    let P : LwpStatus → Type 0 = λ (x : LwpStatus). IsInfo x.info → IsLwpStatus x in
    let Q : LwpStatus → Type 0 = λ (x : LwpStatus). IsInfo x.info in
    All-cons IsLwpStatus l xs (All-head P l xs ranged (All-head Q l xs infos))
    (ranged-each xs (All-tail P l xs ranged) (All-tail Q l xs infos))

pub lstatus-entries : (bytes : List ℕ) (xs ys : List LwpStatus) → bytes ≡ lstatus_bytes xs
    → All (λ (l : LwpStatus). IsInfo l.info → IsLwpStatus l) xs → xs ≡ ys → All (λ (l : LwpStatus). IsInfo l.info) ys
    → HasEntries lwpstatus_ranges lwpstatus_words_of ys (drop 8 bytes)
unfolding lstatus_bytes
lstatus-entries bytes xs ys are ranged same infos =
    let Q : List LwpStatus → Type 0 = λ (zs : List LwpStatus). All (λ (l : LwpStatus). IsInfo l.info) zs in
    let number = word_bytes (length (map lwpstatus_words_of xs)) in
    let after : drop 8 bytes ≡ words_bytes (entries_words (map lwpstatus_words_of xs)) =
    ap (drop 8) are
    ∙ drop_at number (words_bytes (entries_words (map lwpstatus_words_of xs))) 8
    (length-word_bytes (length (map lwpstatus_words_of xs))) in
    has_those lwpstatus_words_of lwpstatus_ranges (λ _. refl) IsLwpStatus lwpstatus-ranged (drop 8 bytes) xs ys after
    (ranged-each xs ranged (subst Q (sym same) infos)) same
