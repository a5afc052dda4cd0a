use Rattle.std.proofs.Common.{◌≡◌, drop, map}
use Rattle.pr_rec.specs.Columns.{range_of}
use Rattle.pr_num.specs.Records.{first_out_from}
use Rattle.pr_rec.proofs.columns.first_out_of_range.Given as goal

abbrev pub invariant-loop-place : goal.invariant-loop-place
invariant-loop-place l =
    first_out_from 0 (map range_of l.columns) l.words
    ≡ first_out_from l.place (drop l.place (map range_of l.columns)) (drop l.place l.words)
