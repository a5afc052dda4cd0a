-- Every fault of a reading stands in the bytes.
use Rattle.std.proofs.Common.{◌≡◌, ◌==◌, ◌+◌, ◌-◌, ◌*◌, ◌/◌, ◌<◌, ◌≤◌, ℕ, zero, suc, Bool, true, false, cond, List, [], ◌∷◌, length, drop, map, Result, Ok, Err, refl, subst, arith, ltb, ltb-false, length-drop}
use Rattle.std.proofs.lemmas.Bool.{eqb-false}
use Rattle.pr_num.specs.Records.{Range, an_id, psinfo_ranges, lwpstatus_ranges, sigact_ranges, map_entry_ranges, fd_entry_ranges}
use Rattle.pr_codec.specs.Words.{word_at}
use Rattle.pr_rec.specs.Reading.{record_read}
use Rattle.pr_rec.specs.declared.faults.RecFault.{RecFault}
use Rattle.pr_rec.specs.declared.faults.RecFault.TheVariants as rec
use Rattle.pr_text.specs.Steps.{◌>>=◌}
use Rattle.pr_core.proofs.ExtentLemmas.{IsWordWithin, IsSectionWithin, EndsBy, many-within, counted-within, exactly-within}
use Rattle.pr_core.proofs.FaultLemmas.{field-inside}
use Rattle.pr_core.specs.CoreBytes.{core_version, psinfo_kind, lstatus_kind, sigact_kind, map_kind, fds_kind, memory_kind}
use Rattle.pr_core.specs.CoreRanges.{mapping_size}
use Rattle.pr_core.specs.Cores.{CoreWords}
use Rattle.pr_core.specs.CoreReading.{word_read, word_in, in_range, exactly, section_size, size_of, placed, record_at, records_at, one_record, are_whole, any_records, are_counted, counted_records, pieces, ended, core_read}
use Rattle.pr_core.specs.declared.faults.CoreFault.{CoreFault}
use Rattle.pr_core.specs.declared.faults.CoreFault.TheVariants.{Short, Bad, NoMemory}

-- a fault that stands in bytes: what is cut may begin where they end
abbrev pub IsPlaced : List ℕ → CoreFault → Type 0
IsPlaced bytes (Short at) = at ≤ length bytes
IsPlaced bytes (Bad at) = at < length bytes
IsPlaced bytes NoMemory = ⊥

module _ (bytes : List ℕ) where
  -- a reading that gives what is so, or a fault that stands in the bytes
  abbrev pub Safely : {T : Type 0} → (T → Type 0) → Result T CoreFault → Type 0
  Safely P (Ok x) = P x
  Safely P (Err fault) = IsPlaced bytes fault

  -- of two steps
  then : {A B : Type 0} (P : A → Type 0) (Q : B → Type 0) (step : Result A CoreFault) (rest : A → Result B CoreFault)
      → Safely P step → ((x : A) → P x → Safely Q (rest x)) → Safely Q (step >>= rest)
  then P Q (Ok x) rest safe on = on x safe
  then P Q (Err fault) rest safe on = safe

  word-safe : (fits : Range) (at : ℕ) → at ≤ length bytes
      → Safely (IsWordWithin (length bytes) fits at) (word_in fits bytes at)
  unfolding word_in word_read
  word-safe fits at begins = by_length (ltb (length bytes) (at + 8)) refl
    where
      by_fit : at + 8 ≤ length bytes → (b : Bool) → fits (word_at bytes at) ≡ b
          → Safely (IsWordWithin (length bytes) fits at) (cond b (Ok (word_at bytes at)) (Err (Bad at)))
      by_fit inside true may = record { inside = inside; may = may }
      by_fit inside false may = omega arith

      by_length : (b : Bool) → ltb (length bytes) (at + 8) ≡ b
          → Safely (IsWordWithin (length bytes) fits at)
          (cond b (Err (Short at)) (Ok (word_at bytes at)) >>= in_range fits at)
      by_length true few = begins
      by_length false few = by_fit (ltb-false _ _ few) (fits (word_at bytes at)) refl

  section-safe : (kind : ℕ) (sizes : Range) (at : ℕ) → at ≤ length bytes
      → Safely (IsSectionWithin (length bytes) sizes at) (section_size kind sizes bytes at)
  unfolding section_size
  section-safe kind sizes at begins =
      then (IsWordWithin (length bytes) (exactly kind) at) (IsSectionWithin (length bytes) sizes at) _ _
      (word-safe (exactly kind) at begins)
      (λ k first. then (IsWordWithin (length bytes) sizes (at + 8)) (IsSectionWithin (length bytes) sizes at) _ _
      (word-safe sizes (at + 8) first.inside)
      (λ size second. by size second (ltb (length bytes) (at + 16 + size)) refl))
    where
      by : (size : ℕ) → IsWordWithin (length bytes) sizes (at + 8) size → (b : Bool)
          → ltb (length bytes) (at + 16 + size) ≡ b
          → Safely (IsSectionWithin (length bytes) sizes at) (cond b (Err (Short (at + 16))) (Ok size))
      by size second true few = omega (arith, second.inside)
      by size second false few = record { inside = ltb-false _ _ few; may = second.may }

  -- any record
  abbrev Any : {T : Type 0} → T → Type 0
  Any x = Unit {0}

  record-safe : (ranges : List Range) (at : ℕ) → at ≤ length bytes → Safely Any (record_at ranges bytes at)
  unfolding record_at
  record-safe ranges at begins = by (record_read ranges (drop at bytes)) refl
    where
      by : (r : Result (List ℕ) RecFault) → record_read ranges (drop at bytes) ≡ r → Safely Any (placed at r)
      by (Ok words) is = tt
      by (Err rec.Short) is = begins
      by (Err (rec.BadField field)) is =
          omega (arith, field-inside ranges (drop at bytes) (rec.BadField field) is, length-drop at bytes)

  records-safe : (ranges : List Range) (n at : ℕ) → at + size_of ranges * n ≤ length bytes
      → Safely Any (records_at ranges n bytes at)
  unfolding records_at
  records-safe ranges zero at inside = tt
  records-safe ranges (suc n) at inside =
      then Any Any _ _ (record-safe ranges at (omega arith))
      (λ words _. then Any Any _ _ (records-safe ranges n (at + size_of ranges) (omega arith)) (λ others _. tt))

  one-safe : (kind : ℕ) (ranges : List Range) (at : ℕ) → at ≤ length bytes
      → Safely (EndsBy (length bytes)) (one_record kind ranges bytes at)
  unfolding one_record
  one-safe kind ranges at begins =
      then (IsSectionWithin (length bytes) (exactly (size_of ranges)) at) (EndsBy (length bytes)) _ _
      (section-safe kind (exactly (size_of ranges)) at begins)
      (λ size there. then Any (EndsBy (length bytes)) _ _ (record-safe ranges (at + 16) (omega (arith, there.inside)))
      (λ words _. there.inside))

  many-safe : (kind : ℕ) (ranges : List Range) (at : ℕ) → at ≤ length bytes
      → Safely (EndsBy (length bytes)) (any_records kind ranges bytes at)
  unfolding any_records
  many-safe kind ranges at begins =
      then (IsSectionWithin (length bytes) (are_whole ranges) at) (EndsBy (length bytes)) _ _
      (section-safe kind (are_whole ranges) at begins)
      (λ size there. then Any (EndsBy (length bytes)) _ _
      (records-safe ranges (size / size_of ranges) (at + 16) (many-within (length bytes) ranges at size there))
      (λ entries _. there.inside))

  counted-safe : (kind : ℕ) (ranges : List Range) (at : ℕ) → at ≤ length bytes
      → Safely (EndsBy (length bytes)) (counted_records kind ranges bytes at)
  unfolding counted_records
  counted-safe kind ranges at begins =
      then (IsSectionWithin (length bytes) (are_counted ranges) at) (EndsBy (length bytes)) _ _
      (section-safe kind (are_counted ranges) at begins)
      (λ size there. then (IsWordWithin (length bytes) (exactly ((size - 8) / size_of ranges)) (at + 16))
      (EndsBy (length bytes)) _ _ (word-safe (exactly ((size - 8) / size_of ranges)) (at + 16)
      (omega (arith, there.inside)))
      (λ count number. then Any (EndsBy (length bytes)) _ _
      (records-safe ranges count (at + 24) (counted-within (length bytes) ranges at size count there number))
      (λ entries _. there.inside)))

  pieces-safe : (sizes : List ℕ) (at : ℕ) → at ≤ length bytes → Safely (EndsBy (length bytes)) (pieces sizes bytes at)
  unfolding pieces
  pieces-safe [] at begins = begins
  pieces-safe (size ∷ sizes) at begins =
      then (IsSectionWithin (length bytes) (exactly size) at) (EndsBy (length bytes)) _ _
      (section-safe memory_kind (exactly size) at begins)
      (λ n there. then (EndsBy (length bytes)) (EndsBy (length bytes)) _ _
      (pieces-safe sizes (at + 16 + size) (exactly-within (length bytes) size at n there))
      (λ others inside. inside))

  ended-safe : (at : ℕ) → at ≤ length bytes → Safely Any (ended bytes at)
  ended-safe at inside = by tt (at == length bytes) refl
    where
      by : (end : Unit {0}) (b : Bool) → (at == length bytes) ≡ b → Safely Any (cond b (Ok end) (Err (Bad at)))
      by end true same = tt
      by end false other = omega (arith, eqb-false at (length bytes) other)

  core-safe : Safely Any (core_read bytes)
  unfolding core_read
  core-safe =
      then (IsWordWithin (length bytes) (exactly core_version) 0) Any _ _
      (word-safe (exactly core_version) 0 (omega arith))
      (λ version at_version. then (IsWordWithin (length bytes) an_id 8) Any _ _
      (word-safe an_id 8 (omega (arith, at_version.inside)))
      (λ pid at_pid. then (EndsBy (length bytes)) Any _ _
      (one-safe psinfo_kind psinfo_ranges 16 (omega (arith, at_pid.inside)))
      (λ psinfo at_psinfo. then (EndsBy (length bytes)) Any _ _
      (counted-safe lstatus_kind lwpstatus_ranges psinfo.next at_psinfo)
      (λ lwps at_lwps. then (EndsBy (length bytes)) Any _ _ (one-safe sigact_kind sigact_ranges lwps.next at_lwps)
      (λ sigact at_sigact. then (EndsBy (length bytes)) Any _ _
      (many-safe map_kind map_entry_ranges sigact.next at_sigact)
      (λ maps at_maps. then (EndsBy (length bytes)) Any _ _ (many-safe fds_kind fd_entry_ranges maps.next at_maps)
      (λ fds at_fds. then (EndsBy (length bytes)) Any _ _ (pieces-safe (map mapping_size maps.found) fds.next at_fds)
      (λ memory at_memory. then Any Any _ _ (ended-safe memory.next at_memory) (λ end _. tt)))))))))

pub core-fault-placed : (bytes : List ℕ) (fault : CoreFault) → core_read bytes ≡ Err fault → IsPlaced bytes fault
core-fault-placed bytes fault is = subst (Safely bytes (λ (c : CoreWords). Unit {0})) is (core-safe bytes)
