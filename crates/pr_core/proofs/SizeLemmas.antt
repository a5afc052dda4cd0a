-- The mappings of a core are no larger than the core.
use Rattle.std.proofs.Common.{◌≡◌, ◌+◌, ◌/◌, ◌<◌, ◌≤◌, ◌^◌, ℕ, List, [], ◌∷◌, ◌++◌, length, map, sum_by, All, Some, IfSome, refl, sym, subst, arith, inr, length-append}
use Rattle.std.specs.List.{flat_map}
use Rattle.std.proofs.lemmas.List.Sums.{sum_by-cons}
use Rattle.pr_num.specs.Records.{map_entry_ranges}
use Rattle.pr_num.specs.Words.{word_bytes}
use Rattle.pr_rec.proofs.MapEntryLemmas.{map_entry-ranged, map_entry_take}
use Rattle.pr_rec.specs.InRange.{IsMapEntry}
use Rattle.pr_rec.specs.RecordBytes.{map_bytes}
use Rattle.pr_rec.specs.RecordWords.{map_entry_words_of}
use Rattle.pr_rec.specs.declared.mappings.MapEntry.{MapEntry}
use Rattle.pr_tools.proofs.ReadBackLemmas.{all-back}
use Rattle.pr_tools.specs.Entries.{entries_in}
use Rattle.pr_tools.specs.Pmap.{HasTotal, units}
use Rattle.pr_core.specs.CoreBytes.{core_bytes, encoded, section, memory_kind}
use Rattle.pr_core.specs.CoreRanges.{IsCore}
use Rattle.pr_core.specs.Cores.{CoreState, CoreWords, core_words}

-- what stands last is no longer than the whole
behind : (n : ℕ) (xs ys : List ℕ) → n ≤ length ys → n ≤ length (xs ++ ys)
behind n xs ys within = omega (arith, length-append xs ys, within)

-- the sizes of mappings, in units, come to no more than their sections
units-few : (maps : List MapEntry) (memory : List (List ℕ)) → map length memory ≡ map (λ (m : MapEntry). m.size) maps
    → sum_by units (map map_entry_words_of maps) ≤ length (flat_map (section memory_kind) memory)
unfolding section
units-few [] [] same = omega arith
units-few [] (bytes ∷ memory) same = absurd cc
units-few (m ∷ maps) [] same = absurd cc
units-few (m ∷ maps) (bytes ∷ memory) same =
    let first : length bytes ≡ m.size = cc in
    let others : map length memory ≡ map (λ (n : MapEntry). n.size) maps = cc in
    let rest = units-few maps memory others in
    let part : length bytes ≤ length (section memory_kind bytes) =
    behind (length bytes) (word_bytes memory_kind ++ word_bytes (length bytes)) bytes (omega arith) in
    let whole : length (flat_map (section memory_kind) (bytes ∷ memory))
    ≡ length (section memory_kind bytes) + length (flat_map (section memory_kind) memory) =
    length-append (section memory_kind bytes) (flat_map (section memory_kind) memory) in
    let total : sum_by units (map map_entry_words_of (m ∷ maps))
    ≡ units (map_entry_words_of m) + sum_by units (map map_entry_words_of maps) =
    sum_by-cons units (map_entry_words_of m) (map map_entry_words_of maps) in
    let unit : units (map_entry_words_of m) ≡ m.size / 1024 = refl in
    omega (arith, first, rest, part, whole, total, unit)

memory-within : (c : CoreWords) → length (flat_map (section memory_kind) c.memory) ≤ length (encoded c)
unfolding encoded
memory-within c =
    let memory = flat_map (section memory_kind) c.memory in
    behind (length memory) _ memory (omega arith)

maps-back : (maps : List MapEntry) → All IsMapEntry maps
    → entries_in map_entry_ranges (map_bytes maps) ≡ Some (map map_entry_words_of maps)
unfolding map_bytes
maps-back maps fields =
    all-back map_entry_words_of map_entry_ranges (omega arith) (λ _. refl) map_entry_take IsMapEntry map_entry-ranged
    maps fields

-- The sum of the sizes of a core's mappings is a word.
pub maps-total : (c : CoreState) → IsCore c → length (core_bytes c) < 2 ^ 64 → HasTotal (map_bytes c.maps)
maps-total c is fits =
    let few = units-few c.maps c.memory is.encodable.pieces in
    let within = memory-within (core_words c) in
    let small : sum_by units (map map_entry_words_of c.maps) < 2 ^ 64 = omega (arith, few, within, fits) in
    inr (subst (λ o. IfSome o (λ ms. sum_by units ms < 2 ^ 64)) (sym (maps-back c.maps is.maps)) small)
