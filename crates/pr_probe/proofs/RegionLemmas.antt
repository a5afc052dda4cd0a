-- The mappings of a process one by one.
use Rattle.std.proofs.Common.{◌≡◌, ◌<◌, ◌≤◌, ◌-◌, ◌/◌, ◌||◌, ◌∙◌, ℕ, suc, true, false, List, length, drop, ap, arith, length-drop}
use Rattle.pr_num.specs.Records.{map_entry_ranges}
use Rattle.pr_rec.specs.Reading.{record_read}
use Rattle.pr_probe.specs.Regions.{allows_in, mapping_record, some_allows, map_allows}
use Rattle.pr_probe.specs.declared.regions.Region.{Region}

-- the first mapping, and those after it
map_allows-step : (r : Region) (bytes : List ℕ) → mapping_record ≤ length bytes
    → map_allows r bytes
    ≡ (allows_in r (record_read map_entry_ranges bytes) || map_allows r (drop mapping_record bytes))
unfolding map_allows some_allows
map_allows-step r bytes some =
    let places : length bytes / mapping_record ≡ suc (length (drop mapping_record bytes) / mapping_record) =
    omega (arith, length-drop mapping_record bytes) in
    ap (λ (k : ℕ). some_allows r k bytes) places

-- one that allows the access, and one that does not
pub map_allows-here : (r : Region) (bytes : List ℕ) → mapping_record ≤ length bytes
    → allows_in r (record_read map_entry_ranges bytes) ≡ true → map_allows r bytes ≡ true
map_allows-here r bytes some is =
    map_allows-step r bytes some ∙ ap (λ b. b || map_allows r (drop mapping_record bytes)) is

pub map_allows-on : (r : Region) (bytes : List ℕ) → mapping_record ≤ length bytes
    → allows_in r (record_read map_entry_ranges bytes) ≡ false
    → map_allows r bytes ≡ map_allows r (drop mapping_record bytes)
map_allows-on r bytes some not =
    map_allows-step r bytes some ∙ ap (λ b. b || map_allows r (drop mapping_record bytes)) not

pub map_allows-none : (r : Region) (bytes : List ℕ) → length bytes < mapping_record → map_allows r bytes ≡ false
unfolding map_allows some_allows
map_allows-none r bytes few =
    let places : length bytes / mapping_record ≡ 0 = omega arith in
    ap (λ (k : ℕ). some_allows r k bytes) places

pub ruleset mappings = (map_allows-here, map_allows-on, map_allows-none)
