use Rattle.std.proofs.Common.{◌≡◌, ◌⊎◌, ◌*◌, ◌/◌, ◌%◌, ◌^◌, ◌<◌, ◌≤◌, ◌==◌, ◌||◌, ◌++◌, ℕ, Bool, true, false, List, [], length, take, nat_lt, Option, Some, None, Ok, is_some, refl, sym, ap, ◌∙◌, inl, inr, arith}
use Rattle.std.proofs.lemmas.Bool.{cases_lt, eq-eqb, false≢true}
use Rattle.std.proofs.lemmas.List.{append-nil, take_all}
use Rattle.std.proofs.lemmas.Nat.Bits.{and_pow}
use Rattle.pr_codec.proofs.WordLemmas.{length-words_bytes}
use Rattle.pr_core.specs.GcoreStages.{file_of_part}
use Rattle.pr_core.specs.Gcores.{lends}
use Rattle.pr_core.specs.declared.gcore_stages.GcorePart.{GcorePart}
use Rattle.pr_core.specs.declared.gcore_stages.GcorePart.TheVariants as part
use Rattle.pr_lawful.proofs.LawfulTurns.EndLemmas.{found-live}
use Rattle.pr_model.specs.Readers.{has_lent, space_seen}
use Rattle.pr_model.specs.Reads.{file_read, file_reply, mapped_from, of_process, part_read, read_process, unless_none}
use Rattle.pr_model.specs.Records.{fds_of, lstatus_of, map_of, psinfo_of}
use Rattle.pr_model.specs.State.{TracedProcess, TracedSystem, live_process}
use Rattle.pr_model.specs.Statuses.{process_flags, status_of}
use Rattle.pr_model.specs.declared.calls.File.TheVariants as file
use Rattle.pr_model.specs.declared.calls.Reply.TheVariants as reply
use Rattle.pr_num.specs.Control.{has_flags, vforkp_flag}
use Rattle.pr_num.specs.Limits.{read_limit}
use Rattle.pr_num.specs.Records.{status_ranges}
use Rattle.pr_num.specs.Sets.{common_word}
use Rattle.pr_num.specs.Words.{words_bytes}
use Rattle.pr_num.specs.declared.errnos.Errno.TheVariants.{Inval, Noent}
use Rattle.pr_rec.proofs.EntryLemmas.{length-entries}
use Rattle.pr_rec.proofs.StatusLemmas.{status-ranged, status_take}
use Rattle.pr_rec.specs.Fields.{process_flags_of}
use Rattle.pr_rec.specs.InRange.{IsStatus}
use Rattle.pr_rec.specs.Reading.{record_read}
use Rattle.pr_rec.specs.RecordBytes.{fds_bytes, lstatus_bytes, map_bytes, psinfo_bytes, sigact_bytes, status_bytes}
use Rattle.pr_rec.specs.RecordWords.{fd_entry_words_of, psinfo_words_of, status_words_of}
use Rattle.pr_rec.specs.declared.statuses.Status.{Status}
use Rattle.pr_tool_laws.proofs.Records.EntryLemmas.{record-back}
use Rattle.pr_tool_laws.proofs.Records.ReadBackLemmas.{lwps-length}
use Rattle.pr_tool_laws.specs.OneState.{AreDescriptorsRead, AreDispositionsRead, AreLwpsRead}

-- What the reads of gcore give: the status, the records of a core, and the memory.

-- the bytes of the record that is a part of a core
abbrev pub bytes_of_part : GcorePart → ℕ → TracedSystem → TracedProcess → List ℕ
bytes_of_part part.Psinfo pid s p = psinfo_bytes (psinfo_of s pid p)
bytes_of_part part.Lstatus pid s p = lstatus_bytes (lstatus_of p)
bytes_of_part part.Sigact pid s p = sigact_bytes p.dispositions
bytes_of_part part.Map pid s p = map_bytes (map_of s p)
bytes_of_part part.Fds pid s p = fds_bytes (fds_of s.files p)

module _ (s : TracedSystem) (pid : ℕ) where
  pub part-there : (p : TracedProcess) → live_process s pid ≡ Some p → (which : GcorePart)
      → file_read s pid 0 0 read_limit (file_of_part which)
      ≡ reply.Bytes (part_read (bytes_of_part which pid s p) 0 read_limit)
  unfolding file_read read_process file_reply file_of_part
  part-there p live part.Psinfo =
      ap (of_process s pid 0 0 read_limit file.Psinfo) (found-live s pid p live).0
  part-there p live part.Lstatus = ap (of_process s pid 0 0 read_limit file.Lstatus) live
  part-there p live part.Sigact = ap (of_process s pid 0 0 read_limit file.Sigact) live
  part-there p live part.Map = ap (of_process s pid 0 0 read_limit file.Map) live
  part-there p live part.Fds = ap (of_process s pid 0 0 read_limit file.Fds) live

  pub fds-gone : live_process s pid ≡ None → file_read s pid 0 0 read_limit file.Fds ≡ reply.Fail Noent
  unfolding file_read read_process
  fds-gone none = ap (of_process s pid 0 0 read_limit file.Fds) none

  pub status-gone : live_process s pid ≡ None → file_read s pid 0 0 read_limit file.Status ≡ reply.Fail Noent
  unfolding file_read read_process
  status-gone none = ap (of_process s pid 0 0 read_limit file.Status) none

  pub status-there : (p : TracedProcess) → live_process s pid ≡ Some p
      → file_read s pid 0 0 read_limit file.Status
      ≡ reply.Bytes (part_read (status_bytes (status_of s pid p)) 0 read_limit)
  unfolding file_read read_process file_reply
  status-there p live = ap (of_process s pid 0 0 read_limit file.Status) live

-- ---- memory

pub memory-misfit : (s : TracedSystem) (pid from len : ℕ) → ((len == 0) || nat_lt read_limit len) ≡ true
    → file_read s pid 0 from len file.Mem ≡ reply.Fail Inval
unfolding file_read
memory-misfit s pid from len misfit = rw misfit refl

-- what is read is no more than one read gives
module _ (s : TracedSystem) (pid from len : ℕ) (fits : ((len == 0) || nat_lt read_limit len) ≡ false) where
  pub memory-gone : live_process s pid ≡ None → file_read s pid 0 from len file.Mem ≡ reply.Fail Noent
  unfolding file_read read_process
  memory-gone none = rw fits (ap (of_process s pid 0 from len file.Mem) none)

  pub memory-there : (p : TracedProcess) → live_process s pid ≡ Some p
      → file_read s pid 0 from len file.Mem ≡ unless_none (mapped_from (space_seen s p) from len)
  unfolding file_read read_process file_reply
  memory-there p live = rw fits (ap (of_process s pid 0 from len file.Mem) live)

-- ---- one read has all of it

-- a record that is no longer than a read
pub all-read : (bytes : List ℕ) → length bytes ≤ read_limit → part_read bytes 0 read_limit ≡ bytes
unfolding part_read
all-read bytes fits = take_all read_limit bytes fits

pub all-taken : (bytes : List ℕ) → length bytes ≤ read_limit → take read_limit (part_read bytes 0 read_limit) ≡ bytes
all-taken bytes fits = ap (take read_limit) (all-read bytes fits) ∙ take_all read_limit bytes fits

pub psinfo-few : (pid : ℕ) (s : TracedSystem) (p : TracedProcess)
    → length (bytes_of_part part.Psinfo pid s p) ≤ read_limit
unfolding psinfo_bytes
psinfo-few pid s p = let size = length-words_bytes (psinfo_words_of (psinfo_of s pid p)) in omega (arith, size)

pub lstatus-few : (pid : ℕ) (s : TracedSystem) (p : TracedProcess) → AreLwpsRead p
    → length (bytes_of_part part.Lstatus pid s p) ≤ read_limit
lstatus-few pid s p are =
    let size = lwps-length pid (lstatus_of p) are.few are.fields in omega (arith, size, are.few)

pub sigact-few : (pid : ℕ) (s : TracedSystem) (p : TracedProcess) → AreDispositionsRead p
    → length (bytes_of_part part.Sigact pid s p) ≤ read_limit
unfolding sigact_bytes
sigact-few pid s p are = let size = length-words_bytes p.dispositions in omega (arith, size, are.whole)

pub fds-few : (pid : ℕ) (s : TracedSystem) (p : TracedProcess) → AreDescriptorsRead s p
    → length (bytes_of_part part.Fds pid s p) ≤ read_limit
unfolding fds_bytes
fds-few pid s p are =
    let size = length-entries fd_entry_words_of 8 (λ _. refl) (fds_of s.files p) in omega (arith, size, are.few)

-- ---- memory that is lent, by the status

-- a set of flags below 64 that has not 32 is below 32
low-flags : (word : ℕ) → word < 64 → has_flags word vforkp_flag ≡ false → word < 32
unfolding has_flags common_word
low-flags word small none = by (cases_lt word 32)
  where
    by : (word < 32) ⊎ (32 ≤ word) → word < 32
    by (inl below) = below
    by (inr high) =
        let bit : word / 2 ^ 5 % 2 ≡ 1 = omega arith in
        let has : common_word word vforkp_flag ≡ 32 = and_pow word 5 ∙ ap (λ (b : ℕ). b * 32) bit in
        absurd (false≢true (sym none ∙ eq-eqb _ _ has))

lent-high : (modes : ℕ) (system lent : Bool) → process_flags_of modes system lent < 32 → lent ≡ false
lent-high modes system false small = refl
lent-high modes true true small = absurd (omega (arith, small))
lent-high modes false true small = absurd (omega (arith, small))

no-borrower : (o : Option ℕ) → is_some o ≡ false → o ≡ None
no-borrower None none = refl
no-borrower (Some b) none = cc

flags-lent : (pid : ℕ) (p : TracedProcess) → process_flags pid p < 32 → p.borrower ≡ None
unfolding process_flags
flags-lent pid p small = no-borrower p.borrower (lent-high p.control.modes (pid == 0) (has_lent p) small)

-- what the status shows of that is a flag
pub lent-flags : (s : TracedSystem) (pid : ℕ) (p : TracedProcess) → IsStatus (status_of s pid p)
    → lends (record_read status_ranges (part_read (status_bytes (status_of s pid p)) 0 read_limit))
    ≡ has_flags (process_flags pid p) vforkp_flag
unfolding lends status_bytes status_of
lent-flags s pid p status =
    let st : Status = status_of s pid p in
    let size = length-words_bytes (status_words_of st) in
    let whole : part_read (status_bytes st) 0 read_limit ≡ words_bytes (status_words_of st) ++ [] =
    all-read (status_bytes st) (omega (arith, size)) ∙ sym (append-nil (words_bytes (status_words_of st))) in
    let back : record_read status_ranges (words_bytes (status_words_of st) ++ []) ≡ Ok (status_words_of st) =
    record-back status_words_of status_ranges (λ _. refl) status_take IsStatus status-ranged st [] status in
    ap lends (ap (record_read status_ranges) whole ∙ back)

pub lends-not : (s : TracedSystem) (pid : ℕ) (p : TracedProcess) → IsStatus (status_of s pid p)
    → lends (record_read status_ranges (part_read (status_bytes (status_of s pid p)) 0 read_limit)) ≡ false
    → p.borrower ≡ None
unfolding status_of
lends-not s pid p status none =
    flags-lent pid p
    (low-flags (process_flags pid p) status.flags (sym (lent-flags s pid p status) ∙ none))
