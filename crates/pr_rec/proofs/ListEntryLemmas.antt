-- The entries of the records that are lists alone.
use Rattle.std.proofs.Common.{◌≡◌, ◌^◌, ◌<◌, ℕ, true, List, All, refl, arith}
use Rattle.std.proofs.lemmas.Bool.{lt-ltb}
use Rattle.std.proofs.lemmas.List.Elements.{All-get_or}
use Rattle.pr_num.specs.Limits.{descriptor_limit}
use Rattle.pr_num.specs.Words.{IsWord}
use Rattle.pr_num.specs.Records.{a_file_kind, an_access, watch_entry_ranges, fd_entry_ranges, list_entry_ranges}
use Rattle.pr_num.specs.declared.files.Access.{Access}
use Rattle.pr_num.specs.declared.files.Access.TheVariants.{Read}
use Rattle.pr_rec.proofs.RecordLemmas.{AreRanged, word-any, front_words-ranged}
use Rattle.pr_rec.specs.InRange.{IsNameField, IsWatchEntry, IsFdEntry, IsListEntry}
use Rattle.pr_rec.specs.RecordWords.{watch_entry_words_of, fd_entry_words_of, list_entry_words_of}
use Rattle.pr_rec.specs.declared.entries.FdEntry.{FdEntry}
use Rattle.pr_num.specs.declared.files.FdKind.{FdKind}
use Rattle.pr_num.specs.declared.files.FdKind.TheVariants.{File}
use Rattle.pr_rec.specs.declared.entries.ListEntry.{ListEntry}
use Rattle.pr_rec.specs.declared.entries.WatchEntry.{WatchEntry}
use Rattle.pr_num.specs.Files.{fd_kind_number, access_number}

-- fields in their ranges are words in theirs
pub watch_entry-ranged : (w : WatchEntry) → IsWatchEntry w → AreRanged watch_entry_ranges (watch_entry_words_of w)
watch_entry-ranged w h = (word-any _ h.at, (word-any _ h.size, (lt-ltb _ _ h.flags, tt)))

kind-field : (k : FdKind) → a_file_kind (fd_kind_number k) ≡ true
kind-field File = refl
kind-field _ = refl

access-field : (a : Access) → an_access (access_number a) ≡ true
access-field Read = refl
access-field _ = refl

pub fd_entry-ranged : (d : FdEntry) → IsFdEntry d → AreRanged fd_entry_ranges (fd_entry_words_of d)
fd_entry-ranged d h = (
  lt-ltb _ _ h.descriptor,
  (kind-field d.kind, (access-field d.access, (word-any _ h.offset, front_words-ranged 4 d.name h.name.bytes))),
)

pub list_entry-ranged : (p : ListEntry) → IsListEntry p → AreRanged list_entry_ranges (list_entry_words_of p)
list_entry-ranged p h = (lt-ltb _ _ h.id, (lt-ltb _ _ h.parent, front_words-ranged 4 p.program h.program.bytes))

-- what the types of their fields and their words tell of them
pub watch_entry-typed : (w : WatchEntry) → w.flags < 16 → All IsWord (watch_entry_words_of w) → IsWatchEntry w
watch_entry-typed w flags fit =
    let words : List ℕ = watch_entry_words_of w in
    record {
      at = All-get_or IsWord words 0 0 (omega arith) fit;
      size = All-get_or IsWord words 1 0 (omega arith) fit;
      flags = flags;
    }

pub fd_entry-typed : (d : FdEntry) → d.descriptor < descriptor_limit → IsNameField d.name
    → All IsWord (fd_entry_words_of d) → IsFdEntry d
fd_entry-typed d descriptor name fit =
    record {
      descriptor = descriptor;
      offset = All-get_or IsWord (fd_entry_words_of d) 3 0 (omega arith) fit;
      name =
          name;
    }

pub list_entry-typed : (p : ListEntry) → p.id < 2 ^ 32 → p.parent < 2 ^ 32 → IsNameField p.program → IsListEntry p
list_entry-typed p id parent program = record { id = id; parent = parent; program = program }
