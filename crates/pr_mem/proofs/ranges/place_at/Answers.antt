use Rattle.std.proofs.Common.{rules}
use Rattle.std.proofs.lemmas.List.Sorted.{IsPartitionPoint-from_clause}
use Rattle.pr_mem.specs.Places.{ends_before}
use Rattle.pr_mem.proofs.PlaceLemmas.{IsPlace-searched, are_partitioned}
use Rattle.pr_mem.proofs.ranges.place_at.Goals as goal

pub returns : goal.returns
returns c =
    let space = c.args.mappings.now in
    let address = c.args.address in
    let point =
    IsPartitionPoint-from_clause (ends_before address) space _ c.partition_point.ensures.partitioned
    (are_partitioned space address c.requires) (λ a r f k. search rules) in
    IsPlace-searched space address c.partition_point.result c.partition_point.ensures.bound point
