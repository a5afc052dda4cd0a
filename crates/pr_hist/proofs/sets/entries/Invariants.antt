use Rattle.std.proofs.Common.{◌≡◌, ◌++◌, take}
use Rattle.std.specs.List.{flat_map}
use Rattle.pr_hist.specs.Sets.{entry_text}
use Rattle.pr_hist.proofs.sets.entries.Given as goal

-- the entries so far
abbrev pub invariant-loop-one : goal.invariant-loop-one
invariant-loop-one g l =
    let told = entry_text g.T.Numbered.number_of g.T.Named.name l.lacks l.set in
    l.text ≡ l.fn.text ++ flat_map told (take l.one-index g.T.Numbered.table)
