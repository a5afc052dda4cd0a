-- A core that is cut off is short.
use Rattle.std.proofs.Common.{◌≡◌, ◌==◌, ◌+◌, ◌-◌, ◌*◌, ◌/◌, ◌<◌, ◌≤◌, ◌⊎◌, inl, inr, ℕ, zero, suc, Bool, true, false, cond, List, [], ◌∷◌, length, take, drop, map, Result, Ok, Err, refl, sym, ap, subst, ◌∙◌, arith, ltb, ltb-false, ltb-true, le-ltb, lt-ltb, length-drop, length-take}
use Rattle.std.proofs.lemmas.Bool.{ne_eqb}
use Rattle.std.proofs.lemmas.List.{take-take, drop-take}
use Rattle.pr_num.specs.Records.{Range, first_out_of_range, an_id, psinfo_ranges, lwpstatus_ranges, sigact_ranges, map_entry_ranges, fd_entry_ranges}
use Rattle.pr_num.specs.Words.{word_of}
use Rattle.pr_rec.proofs.ReadLemmas.{front_words-take, record_read-whole}
use Rattle.pr_rec.specs.Fields.{front_words}
use Rattle.pr_text.specs.Steps.{◌>>=◌}
use Rattle.pr_core.proofs.ExtentLemmas.{IsWordWithin, IsSectionWithin, EndsBy, one-within, many-within, counted-within, exactly-within}
use Rattle.pr_core.proofs.WordLemmas.{word_read-inside, stands-word_in}
use Rattle.pr_core.specs.CoreBytes.{core_version, psinfo_kind, lstatus_kind, sigact_kind, map_kind, fds_kind, memory_kind}
use Rattle.pr_core.specs.CoreRanges.{mapping_size}
use Rattle.pr_core.specs.CoreReading.{word_read, word_in, in_range, exactly, section_size, size_of, placed, record_at, records_at, one_record, are_whole, any_records, are_counted, counted_records, pieces, ended, core_read}
use Rattle.pr_core.specs.Cores.{CoreWords}
use Rattle.pr_core.specs.declared.faults.CoreFault.{CoreFault}
use Rattle.pr_core.specs.declared.faults.CoreFault.TheVariants.{Short}

module _ (bytes : List ℕ) (n : ℕ) (fewer : n ≤ length bytes) where
  front : List ℕ
  front = take n bytes

  length-front : length front ≡ n
  unfolding front
  length-front = omega (arith, length-take n bytes)

  -- a reading of the front that meets the cut
  pub record MeetsCut {T : Type 0} (read : Result T CoreFault) : Type 0 where
    pub at : ℕ
    pub inside : at ≤ n
    pub is_short : read ≡ Err (Short at)

  -- Where all gives something, the front gives the same, of which something holds, or meets the cut.
  abbrev Follows : {T : Type 0} → (T → Type 0) → Result T CoreFault → Result T CoreFault → Type 0
  Follows P (Ok x) cut = ((cut ≡ Ok x) × P x) ⊎ MeetsCut cut
  Follows P (Err fault) cut = Unit {0}

  meets : {T : Type 0} (P : T → Type 0) (all cut : Result T CoreFault) → MeetsCut cut → Follows P all cut
  meets P (Ok x) cut met = inr met
  meets P (Err fault) cut met = tt

  same : {T : Type 0} (P : T → Type 0) (all cut : Result T CoreFault) → cut ≡ all → ((x : T) → all ≡ Ok x → P x)
      → Follows P all cut
  same P (Ok x) cut is holds = inl (is, holds x refl)
  same P (Err fault) cut is holds = tt

  -- of two steps
  steps : {A B : Type 0} (P : A → Type 0) (Q : B → Type 0) (all cut : Result A CoreFault)
      (rest others : A → Result B CoreFault) → Follows P all cut → ((x : A) → P x → Follows Q (rest x) (others x))
      → Follows Q (all >>= rest) (cut >>= others)
  steps P Q (Err fault) cut rest others first on = tt
  steps P Q (Ok x) cut rest others (inl here) on =
      subst (Follows Q (rest x)) (sym (ap (λ r. r >>= others) here.0)) (on x here.1)
  steps P Q (Ok x) cut rest others (inr met) on =
      meets Q (rest x) (cut >>= others) (record {
        at = met.at;
        inside = met.inside;
        is_short = ap (λ r. r >>= others)
            met.is_short;
      })

  -- what stands before the cut
  before : (at k : ℕ) → at + k ≤ n → take k (drop at front) ≡ take k (drop at bytes)
  unfolding front
  before at k inside =
      let parts : n ≡ at + (n - at) = omega arith in
      ap (λ (m : ℕ). take k (drop at (take m bytes))) parts ∙ ap (take k) (drop-take at (n - at) bytes)
      ∙ take-take k (n - at) (drop at bytes) (omega arith)

  -- ---- words and sections

  word-short : (at : ℕ) → n < at + 8 → word_read front at ≡ Err (Short at)
  unfolding word_read
  word-short at few = rw (lt-ltb (length front) (at + 8) (omega (arith, length-front, few)))

  word-same : (at : ℕ) → at + 8 ≤ n → word_read front at ≡ word_read bytes at
  word-same at inside =
      word_read-inside front at (omega (arith, length-front))
      ∙ ap (λ (word : List ℕ). Ok (word_of word)) (before at 8 inside)
      ∙ sym (word_read-inside bytes at (omega arith))

  word-follows : (fits : Range) (at : ℕ) → at ≤ n
      → Follows (IsWordWithin n fits at) (word_in fits bytes at) (word_in fits front at)
  unfolding word_in
  word-follows fits at begins = by (ltb n (at + 8)) refl
    where
      by : (b : Bool) → ltb n (at + 8) ≡ b
          → Follows (IsWordWithin n fits at) (word_in fits bytes at) (word_in fits front at)
      by true few =
          meets (IsWordWithin n fits at) (word_in fits bytes at) (word_in fits front at)
          (record {
            at = at;
            inside = begins;
            is_short = ap (λ r. r >>= in_range fits at)
                (word-short at (ltb-true _ _ few));
          })
      by false few =
          let inside : at + 8 ≤ n = ltb-false _ _ few in
          same (IsWordWithin n fits at) (word_in fits bytes at) (word_in fits front at)
          (ap (λ r. r >>= in_range fits at) (word-same at inside))
          (λ w read. record { inside = inside; may = (stands-word_in fits bytes at w read).may })

  section-follows : (kind : ℕ) (sizes : Range) (at : ℕ) → at ≤ n
      → Follows (IsSectionWithin n sizes at) (section_size kind sizes bytes at) (section_size kind sizes front at)
  unfolding section_size
  section-follows kind sizes at begins =
      steps (IsWordWithin n (exactly kind) at) (IsSectionWithin n sizes at) _ _ _ _
      (word-follows (exactly kind) at begins)
      (λ k first. steps (IsWordWithin n sizes (at + 8)) (IsSectionWithin n sizes at) _ _ _ _
      (word-follows sizes (at + 8) first.inside)
      (λ size second. by size second (ltb (length front) (at + 16 + size)) refl))
    where
      by : (size : ℕ) → IsWordWithin n sizes (at + 8) size → (b : Bool) → ltb (length front) (at + 16 + size) ≡ b
          → Follows (IsSectionWithin n sizes at) (cond (ltb (length bytes) (at + 16 + size)) (Err (Short (at + 16)))
          (Ok size)) (cond b (Err (Short (at + 16))) (Ok size))
      by size second true few =
          meets (IsSectionWithin n sizes at) _ (Err (Short (at + 16)))
          (record { at = at + 16; inside = omega (arith, second.inside); is_short = refl })
      by size second false few =
          let inside : at + 16 + size ≤ n = omega (arith, ltb-false _ _ few, length-front) in
          let room : ltb (length bytes) (at + 16 + size) ≡ false =
          le-ltb (length bytes) (at + 16 + size) (omega arith) in
          rw room (inl (refl, record { inside = inside; may = second.may }))

  -- ---- records

  abbrev Any : {T : Type 0} → T → Type 0
  Any x = Unit {0}

  any-same : {T : Type 0} (all cut : Result T CoreFault) → cut ≡ all → Follows Any all cut
  any-same all cut is = same Any all cut is (λ x read. tt)

  record-same : (ranges : List Range) (at : ℕ) → at + size_of ranges ≤ n
      → record_at ranges front at ≡ record_at ranges bytes at
  unfolding record_at
  record-same ranges at inside =
      let words : List ℕ = front_words (length ranges) (drop at bytes) in
      let enough : 8 * length ranges ≤ length (drop at bytes) = omega (arith, length-drop at bytes) in
      let there : 8 * length ranges ≤ length (drop at front) = omega (arith, length-drop at front, length-front) in
      let these : words ≡ front_words (length ranges) (drop at front) =
      sym (front_words-take (length ranges) (8 * length ranges) (drop at bytes) (omega arith))
      ∙ ap (front_words (length ranges)) (sym (before at (8 * length ranges) inside))
      ∙ front_words-take (length ranges) (8 * length ranges) (drop at front) (omega arith) in
      ap (placed at) (record_read-whole ranges (drop at front) words (first_out_of_range ranges words) there these refl
      ∙ sym (record_read-whole ranges (drop at bytes) words (first_out_of_range ranges words) enough refl refl))

  records-same : (ranges : List Range) (k at : ℕ) → at + size_of ranges * k ≤ n
      → records_at ranges k front at ≡ records_at ranges k bytes at
  unfolding records_at
  records-same ranges zero at inside = refl
  records-same ranges (suc k) at inside =
      let first : record_at ranges front at ≡ record_at ranges bytes at = record-same ranges at (omega arith) in
      let rest : records_at ranges k front (at + size_of ranges) ≡ records_at ranges k bytes (at + size_of ranges) =
      records-same ranges k (at + size_of ranges) (omega arith) in
      rw (first, rest) refl

  one-follows : (kind : ℕ) (ranges : List Range) (at : ℕ) → at ≤ n
      → Follows (EndsBy n) (one_record kind ranges bytes at) (one_record kind ranges front at)
  unfolding one_record
  one-follows kind ranges at begins =
      steps (IsSectionWithin n (exactly (size_of ranges)) at) (EndsBy n) _ _ _ _
      (section-follows kind (exactly (size_of ranges)) at begins)
      (λ size there. steps Any (EndsBy n) _ _ _ _
      (any-same _ _ (record-same ranges (at + 16) (one-within n ranges at size there)))
      (λ words _. inl (refl, there.inside)))

  many-follows : (kind : ℕ) (ranges : List Range) (at : ℕ) → at ≤ n
      → Follows (EndsBy n) (any_records kind ranges bytes at) (any_records kind ranges front at)
  unfolding any_records
  many-follows kind ranges at begins =
      steps (IsSectionWithin n (are_whole ranges) at) (EndsBy n) _ _ _ _
      (section-follows kind (are_whole ranges) at begins)
      (λ size there. steps Any (EndsBy n) _ _ _ _
      (any-same _ _ (records-same ranges (size / size_of ranges) (at + 16) (many-within n ranges at size there)))
      (λ entries _. inl (refl, there.inside)))

  counted-follows : (kind : ℕ) (ranges : List Range) (at : ℕ) → at ≤ n
      → Follows (EndsBy n) (counted_records kind ranges bytes at) (counted_records kind ranges front at)
  unfolding counted_records
  counted-follows kind ranges at begins =
      steps (IsSectionWithin n (are_counted ranges) at) (EndsBy n) _ _ _ _
      (section-follows kind (are_counted ranges) at begins)
      (λ size there. steps (IsWordWithin n (exactly ((size - 8) / size_of ranges)) (at + 16)) (EndsBy n) _ _ _ _
      (word-follows (exactly ((size - 8) / size_of ranges)) (at + 16) (begin size there))
      (λ count number. steps Any (EndsBy n) _ _ _ _
      (any-same _ _ (records-same ranges count (at + 24) (counted-within n ranges at size count there number)))
      (λ entries _. inl (refl, there.inside))))
    where
      begin : (size : ℕ) → IsSectionWithin n (are_counted ranges) at size → at + 16 ≤ n
      begin size there = omega (arith, there.inside)

  -- ---- memory

  pieces-follow : (sizes : List ℕ) (at : ℕ) → at ≤ n
      → Follows (EndsBy n) (pieces sizes bytes at) (pieces sizes front at)
  unfolding pieces
  pieces-follow [] at begins = inl (refl, begins)
  pieces-follow (size ∷ sizes) at begins =
      steps (IsSectionWithin n (exactly size) at) (EndsBy n) _ _ _ _
      (section-follows memory_kind (exactly size) at begins)
      (λ k there. steps (EndsBy n) (EndsBy n) _ _ _ _
      (pieces-follow sizes (at + 16 + size) (exactly-within n size at k there))
      (λ others inside. inl (
        ap (λ (piece : List ℕ). Ok (record { found = piece ∷ others.found; next = others.next }))
            (before (at + 16) size (exactly-within n size at k there)),
        inside,
      )))

  -- ---- the whole

  -- nothing holds of a front that is read like all: it would end where all ends
  abbrev Never : {T : Type 0} → T → Type 0
  Never x = ⊥

  module _ (shorter : n < length bytes) where
    end-follows : (at : ℕ) → at ≤ n → Follows Never (ended bytes at) (ended front at)
    end-follows at inside =
        let apart : (at == length bytes) ≡ false = ne_eqb at (length bytes) (omega arith) in
        rw apart tt

    core-follows : Follows Never (core_read bytes) (core_read front)
    unfolding core_read
    core-follows =
        steps (IsWordWithin n (exactly core_version) 0) Never _ _ _ _
        (word-follows (exactly core_version) 0 (omega arith))
        (λ version at_version. steps (IsWordWithin n an_id 8) Never _ _ _ _ (word-follows an_id 8 at_version.inside)
        (λ pid at_pid. steps (EndsBy n) Never _ _ _ _ (one-follows psinfo_kind psinfo_ranges 16 at_pid.inside)
        (λ psinfo at_psinfo. steps (EndsBy n) Never _ _ _ _
        (counted-follows lstatus_kind lwpstatus_ranges psinfo.next at_psinfo)
        (λ lwps at_lwps. steps (EndsBy n) Never _ _ _ _ (one-follows sigact_kind sigact_ranges lwps.next at_lwps)
        (λ sigact at_sigact. steps (EndsBy n) Never _ _ _ _
        (many-follows map_kind map_entry_ranges sigact.next at_sigact)
        (λ maps at_maps. steps (EndsBy n) Never _ _ _ _ (many-follows fds_kind fd_entry_ranges maps.next at_maps)
        (λ fds at_fds. steps (EndsBy n) Never _ _ _ _ (pieces-follow (map mapping_size maps.found) fds.next at_fds)
        (λ memory at_memory. steps Never Never _ _ _ _ (end-follows memory.next at_memory)
        (λ end never. absurd never)))))))))

    -- all gives a core, and so the front meets the cut
    pub cut-short : (c : CoreWords) → core_read bytes ≡ Ok c → MeetsCut (core_read (take n bytes))
    unfolding front
    cut-short c whole =
        by (subst (λ (r : Result CoreWords CoreFault). Follows Never r (core_read front)) whole core-follows)
      where
        by : Follows Never (Ok c) (core_read front) → MeetsCut (core_read front)
        by (inl here) = absurd here.1
        by (inr met) = met
