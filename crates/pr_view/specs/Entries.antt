use Rattle.std.specs.Prelude.{◌≡◌, ◌*◌, ℕ, List, Some, drop, length, slice_get}
use Rattle.pr_num.specs.Records.{Range}
use Rattle.pr_rec.specs.Reading.{BeginsWith}

-- A record that is a list decodes to its entries: it has the bytes of so many, and at the place of each entry bytes
-- that decode to it.
pub record HasEntries {T : Type 0} (ranges : List Range) (words : T → List ℕ) (entries : List T)
    (bytes : List ℕ) : Type 0 where
  pub size : length bytes ≡ 8 * length ranges * length entries
  pub each : (i : ℕ) (x : T) → slice_get entries i ≡ Some x
      → BeginsWith ranges (drop (8 * length ranges * i) bytes) (words x)
