-- Records one after the other, read.
use Rattle.std.specs.Prelude.{ℕ, zero, suc, ◌-◌, ◌*◌, ◌/◌, ◌%◌, ◌==◌, ◌&&◌, Bool, List, [], ◌∷◌, drop, length, option_map, Option, Some, None, nat_le, if◌then◌else◌}
use Rattle.std.specs.Result.{result_ok}
use Rattle.pr_codec.specs.Words.{word_at}
use Rattle.pr_num.specs.Records.{Range, lwpstatus_ranges, lwpstatus_size}
use Rattle.pr_rec.specs.Reading.{record_read}

-- one record before those after it; none where it is malformed
abbrev pub with_entry : Option (List ℕ) → Option (List (List ℕ)) → Option (List (List ℕ))
with_entry None others = None
with_entry (Some words) others = option_map (λ rest. words ∷ rest) others

-- the words of the first so many records in bytes; none where one of them is malformed
unfoldable pub entries_from : List Range → ℕ → List ℕ → Option (List (List ℕ))
entries_from ranges zero bytes = Some []
entries_from ranges (suc n) bytes =
    with_entry (result_ok (record_read ranges bytes)) (entries_from ranges n (drop (8 * length ranges) bytes))

-- how many bytes a record has
abbrev pub size_of : List Range → ℕ
size_of ranges = 8 * length ranges

-- the words of each record in bytes that are records; none where the bytes are no whole records, or one is malformed
unfoldable pub entries_in : List Range → List ℕ → Option (List (List ℕ))
entries_in ranges bytes =
    if length bytes % size_of ranges == 0 then entries_from ranges (length bytes / size_of ranges) bytes else None

-- how many lwps have room in the status of all lwps, after their number
abbrev pub lwp_places : List ℕ → ℕ
lwp_places bytes = (length bytes - 8) / lwpstatus_size

-- whether the status of all lwps has as many as it says (proc(4), "lstatus")
unfoldable pub counts_lwps : List ℕ → Bool
counts_lwps bytes =
    nat_le 8 (length bytes) && ((length bytes - 8) % lwpstatus_size == 0) && (word_at bytes 0 == lwp_places bytes)

-- the words of the status of each lwp; none where that is malformed
unfoldable pub lwps_in : List ℕ → Option (List (List ℕ))
lwps_in bytes = if counts_lwps bytes then entries_from lwpstatus_ranges (lwp_places bytes) (drop 8 bytes) else None
