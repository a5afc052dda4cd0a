use Rattle.std.proofs.Common.{◌≡◌, ◌+◌, ◌*◌, ◌/◌, ◌<◌, ◌≤◌, ◌&&◌, ◌||◌, ◌∷◌, ℕ, zero, suc, Bool, true, false, List, [], Some, None, Result, Ok, is_ok, drop, length, map, nat_le, nat_lt, refl, sym, subst, ap, ◌∙◌, inl, inr, arith}
use Rattle.std.proofs.lemmas.Bool.{and_parts, cases_Bool, false≢true, leb-true, lt-ltb}
use Rattle.std.proofs.lemmas.List.{drop_at, length-map}
use Rattle.std.proofs.lemmas.List.Elements.{All-head, All-tail}
use Rattle.std.specs.List.{All, AllPairs, find}
use Rattle.pr_codec.proofs.WordLemmas.{length-words_bytes}
use Rattle.pr_core_laws.proofs.OneState.ReadLemmas.{all-read}
use Rattle.pr_model.specs.Readers.{space_seen}
use Rattle.pr_model.specs.Records.{map_entry_of, map_of}
use Rattle.pr_model.specs.Reads.{part_read}
use Rattle.pr_model.specs.State.{TracedProcess, TracedSystem}
use Rattle.pr_model.specs.Statuses.{status_of}
use Rattle.pr_num.proofs.SearchLemmas.{All-find}
use Rattle.pr_num.specs.Control.{has_flags}
use Rattle.pr_num.specs.Limits.{read_limit}
use Rattle.pr_num.specs.Records.{entries_words, map_entry_ranges, status_ranges}
use Rattle.pr_num.specs.Spaces.{IsBefore, IsSpace, Space, bytes_for, covers}
use Rattle.pr_num.specs.Words.{words_bytes}
use Rattle.pr_num.specs.declared.mappings.Area.{Area}
use Rattle.pr_num.specs.declared.mappings.Mapping.{Mapping}
use Rattle.pr_parts.proofs.AccessLemmas.{bytes_for-run, covers-end, covers-from, found-limit, found-low}
use Rattle.pr_parts.proofs.ByAddressLemmas.{AllPairs-head, AllPairs-tail}
use Rattle.pr_probe.specs.Regions.{allows, allows_in, map_allows, mapping_record, some_allows}
use Rattle.pr_probe.specs.TracedSets.{is_watched_in}
use Rattle.pr_probe.specs.declared.regions.Region.{Region}
use Rattle.pr_reached.specs.Mapped.{most_mappings}
use Rattle.pr_rec.proofs.EntryLemmas.{length-entries}
use Rattle.pr_rec.proofs.MapEntryLemmas.{map_entry-ranged, map_entry_take}
use Rattle.pr_rec.proofs.ReadLemmas.{words_bytes-append}
use Rattle.pr_rec.specs.InRange.{IsMapEntry, IsStatus}
use Rattle.pr_rec.specs.Reading.{record_read}
use Rattle.pr_rec.specs.RecordBytes.{map_bytes, status_bytes}
use Rattle.pr_rec.specs.RecordWords.{map_entry_words_of}
use Rattle.pr_rec.specs.declared.faults.RecFault.{RecFault}
use Rattle.pr_tool_laws.proofs.Records.EntryLemmas.{record-back}
use Rattle.pr_tool_laws.proofs.Pstack.StackReads.{own-seen}
use Rattle.pr_probe_laws.proofs.Sets.StatusSets.{status-back}

-- What apfiles finds of the room for its agent is so: what it reads of the mappings and of the watched areas.

-- ---- the mappings

-- a mapping has all bytes of a region, and allows the access
record IsFound (r : Region) (ms : Space) : Type 0 where
  m : Mapping
  at : find (covers r.at) ms ≡ Some m
  ends : r.at + r.size ≤ m.at + length m.bytes
  may : has_flags m.prot r.access ≡ true

module _ (program : List ℕ) where
  abbrev words : Mapping → List ℕ
  words m = map_entry_words_of (map_entry_of program m)

  abbrev read_of : Space → List ℕ
  read_of ms = words_bytes (entries_words (map map_entry_words_of (map (map_entry_of program) ms)))

  first-read : (m : Mapping) (ms : Space) → IsMapEntry (map_entry_of program m)
      → record_read map_entry_ranges (read_of (m ∷ ms)) ≡ Ok (words m)
  first-read m ms is =
      ap (record_read map_entry_ranges)
      (words_bytes-append (words m) (entries_words (map map_entry_words_of (map (map_entry_of program) ms))))
      ∙ record-back map_entry_words_of map_entry_ranges (λ _. refl) map_entry_take IsMapEntry map_entry-ranged
      (map_entry_of program m) (read_of ms) is

  rest-read : (m : Mapping) (ms : Space) → drop mapping_record (read_of (m ∷ ms)) ≡ read_of ms
  rest-read m ms =
      ap (drop mapping_record)
      (words_bytes-append (words m) (entries_words (map map_entry_words_of (map (map_entry_of program) ms))))
      ∙ drop_at (words_bytes (words m)) (read_of ms) mapping_record (length-words_bytes (words m))

  here : (r : Region) (m : Mapping) (ms : Space) → 0 < r.size → allows (words m) r ≡ true → IsFound r (m ∷ ms)
  unfolding allows map_entry_of
  here r m ms some is =
      let parts = and_parts (nat_le m.at r.at && nat_le (r.at + r.size) (m.at + length m.bytes))
      (has_flags m.prot r.access) is in
      let ends = and_parts (nat_le m.at r.at) (nat_le (r.at + r.size) (m.at + length m.bytes)) parts.0 in
      let low : m.at ≤ r.at = leb-true m.at r.at ends.0 in
      let high : r.at + r.size ≤ m.at + length m.bytes = leb-true (r.at + r.size) (m.at + length m.bytes) ends.1 in
      record {
        m = m;
        at = rw (covers-from r.at m low (omega (arith, high, some))) refl;
        ends = high;
        may = parts.1;
      }

  later : (r : Region) (m : Mapping) (ms : Space) → AllPairs IsBefore (m ∷ ms) → IsFound r ms → IsFound r (m ∷ ms)
  later r m ms apart f = record { m = f.m; at = rw far f.at; ends = f.ends; may = f.may }
    where
      far : covers r.at m ≡ false
      far =
          let before = All-find (IsBefore m) (covers r.at) ms f.m (AllPairs-head IsBefore m ms apart) f.at in
          let low = found-low r.at ms f.m f.at in
          elim (cases_Bool (covers r.at m)) [
            | inl t ↦ let high = covers-end r.at m t in absurd (omega arith)
            | inr not ↦ not
          ]

  found : (r : Region) (n : ℕ) (ms : Space) → 0 < r.size → AllPairs IsBefore ms
      → All IsMapEntry (map (map_entry_of program) ms) → n ≤ length ms → some_allows r n (read_of ms) ≡ true
      → IsFound r ms
  unfolding some_allows allows_in
  found r zero ms some apart all few is = absurd (false≢true is)
  found r (suc n) [] some apart all few is = absurd (omega (arith, few))
  found r (suc n) (m ∷ ms) some apart all few is =
      by
      (λ it.
      found r n ms some (AllPairs-tail IsBefore m ms apart)
      (All-tail IsMapEntry (map_entry_of program m) (map (map_entry_of program) ms) all) (omega (arith, few)) it)
      (allows (words m) r) refl
      (subst (λ (bytes : List ℕ). (allows (words m) r || some_allows r n bytes) ≡ true) (rest-read m ms)
      (subst (λ (x : Result (List ℕ) RecFault).
      (allows_in r x || some_allows r n (drop mapping_record (read_of (m ∷ ms)))) ≡ true)
      (first-read m ms (All-head IsMapEntry (map_entry_of program m) (map (map_entry_of program) ms) all)) is))
    where
      by : (some_allows r n (read_of ms) ≡ true → IsFound r ms) → (b : Bool) → allows (words m) r ≡ b
          → (b || some_allows r n (read_of ms)) ≡ true → IsFound r (m ∷ ms)
      by rest true allowed it = here r m ms some allowed
      by rest false denied it = later r m ms apart (rest it)

-- Where a process has its memory to itself, what the read of its mappings allows can be done.
pub map-mapped : (s : TracedSystem) (q : TracedProcess) (r : Region) → 0 < r.size → q.borrower ≡ None
    → IsSpace q.space → All IsMapEntry (map_of s q) → length q.space ≤ most_mappings
    → map_allows r (part_read (map_bytes (map_of s q)) 0 read_limit) ≡ true
    → is_ok (bytes_for r.access q.space r.at r.size) ≡ true
unfolding map_of map_bytes map_allows
map-mapped s q r some own is_space all few allowed = by (own-seen s q own) all allowed
  where
    by : space_seen s q ≡ q.space → All IsMapEntry (map (map_entry_of q.program) (space_seen s q))
        → some_allows r
        (length (part_read (read_of q.program (space_seen s q)) 0 read_limit) / mapping_record)
        (part_read (read_of q.program (space_seen s q)) 0 read_limit) ≡ true
        → is_ok (bytes_for r.access q.space r.at r.size) ≡ true
    by same entries is =
        let size : length (read_of q.program q.space) ≡ 64 * length q.space =
        length-entries map_entry_words_of 8 (λ _. refl) (map (map_entry_of q.program) q.space)
        ∙ ap (λ (n : ℕ). 64 * n) (length-map q.space (map_entry_of q.program)) in
        let whole : part_read (read_of q.program q.space) 0 read_limit ≡ read_of q.program q.space =
        all-read (read_of q.program q.space) (omega (arith, size, few)) in
        let number : length (read_of q.program q.space) / mapping_record ≡ length q.space = omega (arith, size) in
        let found_in =
        found q.program r (length q.space) q.space some is_space.apart
        (subst (λ (sp : Space). All IsMapEntry (map (map_entry_of q.program) sp)) same entries) (omega arith)
        (subst (λ (n : ℕ). some_allows r n (read_of q.program q.space) ≡ true) number
        (subst (λ (bs : List ℕ). some_allows r (length bs / mapping_record) bs ≡ true) whole
        (subst (λ (sp : Space).
        some_allows r (length (part_read (read_of q.program sp) 0 read_limit) / mapping_record)
        (part_read (read_of q.program sp) 0 read_limit) ≡ true) same is))) in
        ap is_ok
        (bytes_for-run r.access q.space found_in.m r.at r.size is_space.apart (λ _. found_in.at) found_in.may
        (found-low r.at q.space found_in.m found_in.at) found_in.ends
        (found-limit r.at q.space found_in.m is_space found_in.at))

-- ---- the watched areas

no-areas : (areas : List Area) → nat_lt 0 (length areas) ≡ false → areas ≡ []
no-areas [] is = refl
no-areas (a ∷ areas) is = absurd (false≢true (sym is ∙ lt-ltb 0 (length (a ∷ areas)) (omega arith)))

pub watched-none : (s : TracedSystem) (pid : ℕ) (q : TracedProcess) → IsStatus (status_of s pid q)
    → is_watched_in (record_read status_ranges (part_read (status_bytes (status_of s pid q)) 0 read_limit)) ≡ false
    → q.control.areas ≡ []
unfolding is_watched_in status_of
watched-none s pid q status is =
    no-areas q.control.areas (sym (ap is_watched_in (status-back s pid q status)) ∙ is)
