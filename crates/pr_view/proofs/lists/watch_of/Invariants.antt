use Rattle.std.proofs.Common.{◌≡◌, map, take}
use Rattle.pr_model.specs.Records.{watch_entry_of}
use Rattle.pr_view.proofs.lists.watch_of.Given as goal

-- the areas so far
abbrev pub invariant-loop-area : goal.invariant-loop-area
invariant-loop-area l = l.entries.items ≡ map watch_entry_of (take l.area-index l.process.control.areas)
