use Rattle.std.proofs.Common.{◌≡◌, map, drop}
use Rattle.pr_line.specs.Entries.{number_named, with_entries}
use Rattle.pr_line.proofs.entries.named_entries.Given as goal

abbrev pub invariant-loop-name : goal.invariant-loop-name
invariant-loop-name g l =
    let entry = number_named g.T.Numbered.number_of g.T.Numbered.of_name in
    with_entries entry l.set (map (λ name. name.now) (drop l.name-index l.names))
    ≡ with_entries entry 0 (map (λ name. name.now) l.names)
