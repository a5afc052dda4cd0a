use Rattle.std.proofs.Common.{◌≡◌, ◌+◌, ◌-◌, ◌*◌, ◌/◌, ◌%◌, ◌^◌, ◌<◌, ◌≤◌, ◌==◌, ◌∷◌, ◌++◌, ℕ, true, cond, leb, List, [], length, drop, map, nat_le, sum_by, All, Some, Ok, refl, sym, ap, ◌∙◌, arith}
use Rattle.std.specs.List.{flat_map}
use Rattle.std.proofs.lemmas.Bool.{and_parts, eq-eqb, le-leb, leb-true}
use Rattle.std.proofs.lemmas.List.{append-nil, length-map}
use Rattle.std.proofs.lemmas.List.Folds.{fold-map}
use Rattle.std.proofs.lemmas.Nat.{div-mul-add}
use Rattle.std.proofs.Math.Nat.{add-zero, mul-mod_right, mul_comm}
use Rattle.pr_codec.proofs.WordLemmas.{length-words_bytes}
use Rattle.pr_codec.specs.Words.{word_at}
use Rattle.pr_num.specs.Limits.{lwp_limit, signal_count}
use Rattle.pr_num.specs.Records.{Range, a_file_kind, entries_words, fd_entry_ranges, list_entry_ranges, lwpstatus_ranges, map_entry_ranges, psinfo_ranges}
use Rattle.pr_num.specs.Signals.{signals}
use Rattle.pr_num.specs.Words.{IsWord, words_bytes}
use Rattle.pr_rec.proofs.EntryLemmas.{length-entries}
use Rattle.pr_rec.proofs.ListEntryLemmas.{fd_entry-ranged, list_entry-ranged}
use Rattle.pr_rec.proofs.LwpStatusLemmas.{lwpstatus-ranged, lwpstatus_take}
use Rattle.pr_rec.proofs.MapEntryLemmas.{map_entry-ranged, map_entry_take}
use Rattle.pr_rec.proofs.PsinfoLemmas.{psinfo-ranged, psinfo_take}
use Rattle.pr_rec.proofs.ReadLemmas.{front_words-words_bytes}
use Rattle.pr_rec.proofs.RecordLemmas.{AreRanged, TakeWords, any-word, below-word}
use Rattle.pr_rec.specs.Fields.{front_words}
use Rattle.pr_rec.specs.InRange.{IsFdEntry, IsListEntry, IsLwpStatus, IsMapEntry, IsPsinfo}
use Rattle.pr_rec.specs.Reading.{record_read}
use Rattle.pr_rec.specs.RecordBytes.{fds_bytes, list_bytes, lstatus_bytes, map_bytes, psinfo_bytes, sigact_bytes}
use Rattle.pr_rec.specs.RecordWords.{fd_entry_words_of, list_entry_words_of, lwpstatus_words_of, map_entry_words_of, psinfo_words_of}
use Rattle.pr_rec.specs.declared.entries.FdEntry.{FdEntry}
use Rattle.pr_rec.specs.declared.entries.ListEntry.{ListEntry}
use Rattle.pr_rec.specs.declared.lwps.LwpStatus.{LwpStatus}
use Rattle.pr_rec.specs.declared.mappings.MapEntry.{MapEntry}
use Rattle.pr_rec.specs.declared.processes.Psinfo.{Psinfo}
use Rattle.pr_tools.specs.Entries.{counts_lwps, entries_in, lwp_places, lwps_in}
use Rattle.pr_tools.specs.Pfiles as files
use Rattle.pr_tools.specs.Pflags as flags
use Rattle.pr_tools.specs.Pmap as maps
use Rattle.pr_tools.specs.Psig as sigs
use Rattle.pr_tools.specs.Ptree as trees
use Rattle.pr_tools.specs.Pwait as waits
use Rattle.pr_tools.specs.Texts.{header}
use Rattle.pr_tool_laws.proofs.Records.EntryLemmas.{behind-number, entries-back, lines-alike, number-back, record-back}
use Rattle.pr_tool_laws.proofs.Records.LineLemmas.{below-shown, descriptor-shown, lwp-shown, mapping-shown}
use Rattle.pr_tool_laws.specs.TextsOfRecords.{descriptor_line, descriptors_text, dispositions_text, end_text, lwp_line, lwps_text, mapping_line, mappings_text, tree_text, units}

-- The text that a tool makes of the bytes of a record is that of the fields.

-- ---- pflags

module _ (pid : ℕ) (lwps : List LwpStatus) (few : length lwps ≤ lwp_limit) (fields : All IsLwpStatus lwps) where
  abbrev bytes : List ℕ
  bytes = lstatus_bytes lwps

  abbrev words : List (List ℕ)
  words = map lwpstatus_words_of lwps

  pub lwps-length : length bytes ≡ 8 + 264 * length lwps
  unfolding lstatus_bytes
  lwps-length =
      let all : length (words_bytes (entries_words words)) ≡ 8 * 33 * length lwps =
      length-entries lwpstatus_words_of 33 (λ _. refl) lwps in
      let front = length-words_bytes (length words ∷ entries_words words) in
      let rest = length-words_bytes (entries_words words) in
      omega arith

  lwps-number : word_at bytes 0 ≡ length lwps
  unfolding lstatus_bytes
  lwps-number =
      let same : length words ≡ length lwps = length-map lwps lwpstatus_words_of in
      let small : length words < 2 ^ 64 = omega arith in
      number-back (length words) (entries_words words) small ∙ same

  pub lwps-places : lwp_places bytes ≡ length lwps
  lwps-places = let size = lwps-length in omega arith

  pub lwps-counted : counts_lwps bytes ≡ true
  unfolding counts_lwps
  lwps-counted =
      let size = lwps-length in
      let long : nat_le 8 (length bytes) ≡ true = le-leb 8 (length bytes) (omega arith) in
      let whole : ((length bytes - 8) % 264 == 0) ≡ true = eq-eqb _ _ (omega arith) in
      let number : (word_at bytes 0 == lwp_places bytes) ≡ true = eq-eqb _ _ (lwps-number ∙ sym lwps-places) in
      rw (long, whole, number) refl

  pub lwps-back : lwps_in bytes ≡ Some words
  unfolding lwps_in lstatus_bytes
  lwps-back =
      let behind : drop 8 bytes ≡ words_bytes (entries_words words) =
      behind-number (length words) (entries_words words) in
      let back =
      entries-back lwpstatus_words_of lwpstatus_ranges
      (λ _. refl) lwpstatus_take IsLwpStatus lwpstatus-ranged lwps fields in
      rw (lwps-counted, lwps-places, behind) back

  pub pflags-shown : flags.pflags_text pid bytes ≡ lwps_text pid lwps
  unfolding flags.pflags_text lwps_text
  pflags-shown =
      ap (λ o. header pid ++ flags.lwp_lines o) lwps-back
      ∙ ap (λ lines. header pid ++ lines)
      (lines-alike lwpstatus_words_of flags.lwp_line lwp_line IsLwpStatus lwp-shown lwps fields)

-- ---- psig

pub psig-shown : (pid : ℕ) (dispositions : List ℕ) → length dispositions ≡ signal_count → All IsWord dispositions
    → sigs.psig_text pid (sigact_bytes dispositions) ≡ dispositions_text pid dispositions
unfolding sigs.psig_text sigact_bytes dispositions_text
psig-shown pid dispositions whole fit =
    let size : length (words_bytes dispositions) ≡ 312 = length-words_bytes dispositions ∙ omega arith in
    let back : front_words 39 (words_bytes dispositions) ≡ dispositions =
    ap (front_words 39) (sym (append-nil (words_bytes dispositions)))
    ∙ ap (λ (n : ℕ). front_words n (words_bytes dispositions ++ [])) (sym whole)
    ∙ front_words-words_bytes dispositions [] fit in
    ap (λ whole. header pid ++ cond whole (sigs.signal_lines signals (front_words 39 (words_bytes dispositions))) [])
    (eq-eqb _ _ size)
    ∙ ap (λ words. header pid ++ sigs.signal_lines signals words) back

-- ---- records that are lists of entries

module _ {T : Type 0} (f : T → List ℕ) (ranges : List Range) (some : 0 < 8 * length ranges)
    (size : (x : T) → length (f x) ≡ length ranges) (take_words : TakeWords ranges) (P : T → Type 0)
    (ranged : (x : T) → P x → AreRanged ranges (f x)) where
  all-back : (xs : List T) → All P xs → entries_in ranges (words_bytes (entries_words (map f xs))) ≡ Some (map f xs)
  unfolding entries_in
  all-back xs all =
      let many = length-entries f (length ranges) size xs in
      let whole : (length (words_bytes (entries_words (map f xs))) % (8 * length ranges) == 0) ≡ true =
      eq-eqb _ _ (ap (λ (n : ℕ). n % (8 * length ranges)) many ∙ mul-mod_right (8 * length ranges) (length xs)) in
      let places : length (words_bytes (entries_words (map f xs))) / (8 * length ranges) ≡ length xs =
      ap (λ (n : ℕ). n / (8 * length ranges)) (many ∙ mul_comm (8 * length ranges) (length xs)
      ∙ sym (add-zero (length xs * (8 * length ranges)))) ∙ div-mul-add (length xs) (8 * length ranges) 0 some in
      rw (whole, places) (entries-back f ranges size take_words P ranged xs all)

-- ---- pmap

module _ (pid : ℕ) (mappings : List MapEntry) (fields : All IsMapEntry mappings) where
  mappings-back : entries_in map_entry_ranges (map_bytes mappings) ≡ Some (map map_entry_words_of mappings)
  unfolding map_bytes
  mappings-back =
      all-back map_entry_words_of map_entry_ranges (omega arith)
      (λ _. refl) map_entry_take IsMapEntry map_entry-ranged mappings fields

  pub pmap-shown : maps.pmap_text pid (map_bytes mappings) ≡ mappings_text pid mappings
  unfolding maps.pmap_text mappings_text
  pmap-shown =
      let words = map map_entry_words_of mappings in
      let lines : flat_map maps.mapping_line words ≡ flat_map mapping_line mappings =
      lines-alike map_entry_words_of maps.mapping_line mapping_line IsMapEntry mapping-shown mappings fields in
      let total : sum_by maps.units words ≡ sum_by units mappings =
      fold-map (λ a ws. a + maps.units ws) map_entry_words_of 0 mappings in
      ap (λ o. header pid ++ maps.mapping_lines o) mappings-back
      ∙ ap (λ front. header pid ++ (front ++ maps.total_line (sum_by maps.units words))) lines
      ∙ ap (λ (n : ℕ). header pid ++ (flat_map mapping_line mappings ++ maps.total_line n)) total

-- ---- pfiles

kind-below : (w : ℕ) → a_file_kind w ≡ true → w ≤ 3
kind-below w ok = leb-true w 3 (and_parts (leb 1 w) (leb w 3) ok).1

fd_entry_take : TakeWords fd_entry_ranges
fd_entry_take = (
  below-word _ (omega arith),
  (
    (λ w ok. let low = kind-below w ok in omega arith),
    (below-word _ (omega arith), (any-word, (any-word, (any-word, (any-word, (any-word, tt)))))),
  ),
)

module _ (pid : ℕ) (descriptors : List FdEntry) (fields : All IsFdEntry descriptors) where
  descriptors-back : entries_in fd_entry_ranges (fds_bytes descriptors) ≡ Some (map fd_entry_words_of descriptors)
  unfolding fds_bytes
  descriptors-back =
      all-back fd_entry_words_of fd_entry_ranges (omega arith)
      (λ _. refl) fd_entry_take IsFdEntry fd_entry-ranged descriptors fields

  pub pfiles-shown : files.pfiles_text pid (fds_bytes descriptors) ≡ descriptors_text pid descriptors
  unfolding files.pfiles_text descriptors_text
  pfiles-shown =
      ap (λ o. header pid ++ files.descriptor_lines o) descriptors-back
      ∙ ap (λ lines. header pid ++ lines)
      (lines-alike fd_entry_words_of files.descriptor_line descriptor_line IsFdEntry descriptor-shown descriptors
      fields)

-- ---- ptree

list_entry_take : TakeWords list_entry_ranges
list_entry_take =
    (below-word _ (omega arith), (below-word _ (omega arith), (any-word, (any-word, (any-word, (any-word, tt))))))

module _ (processes : List ListEntry) (fields : All IsListEntry processes)
    (rising : trees.ids_rise 0 (map list_entry_words_of processes) ≡ true) where
  processes-back : entries_in list_entry_ranges (list_bytes processes) ≡ Some (map list_entry_words_of processes)
  unfolding list_bytes
  processes-back =
      all-back list_entry_words_of list_entry_ranges (omega arith)
      (λ _. refl) list_entry_take IsListEntry list_entry-ranged processes fields

  pub ptree-shown : trees.ptree_text (list_bytes processes) ≡ tree_text processes
  unfolding trees.ptree_text trees.tree_text tree_text
  ptree-shown =
      let words = map list_entry_words_of processes in
      ap trees.tree_lines processes-back
      ∙ rw (rising, length-map processes list_entry_words_of) (below-shown (length processes) 0 processes 0 fields)

-- ---- pwait

pub pwait-shown : (pid : ℕ) (p : Psinfo) → IsPsinfo p → p.id ≡ pid → waits.pwait_text pid (psinfo_bytes p) ≡ end_text p
unfolding waits.pwait_text psinfo_bytes end_text
pwait-shown pid p is same =
    let back : record_read psinfo_ranges (words_bytes (psinfo_words_of p) ++ []) ≡ Ok (psinfo_words_of p) =
    record-back psinfo_words_of psinfo_ranges (λ _. refl) psinfo_take IsPsinfo psinfo-ranged p [] is in
    ap (λ bytes. waits.end_line_in pid (record_read psinfo_ranges bytes))
    (sym (append-nil (words_bytes (psinfo_words_of p)))) ∙ ap (waits.end_line_in pid) back
    ∙ ap (λ (n : ℕ). waits.end_line n p.wait_status) (sym same)
