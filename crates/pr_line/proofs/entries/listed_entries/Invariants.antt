use Rattle.std.proofs.Common.{◌≡◌, map, drop}
use Rattle.pr_line.specs.Entries.{number_named, number_numbered, with_entries, entry_of}
use Rattle.pr_line.proofs.entries.listed_entries.Given as goal

abbrev pub invariant-loop-part : goal.invariant-loop-part
invariant-loop-part g l =
    let table = g.T.Numbered in
    let named = number_named table.number_of table.of_name in
    let entry = entry_of named (number_numbered table.number_of table.of_number) in
    with_entries entry l.set (map (λ part. part.now) (drop l.part-index l.parts))
    ≡ with_entries entry 0 (map (λ part. part.now) l.parts)
