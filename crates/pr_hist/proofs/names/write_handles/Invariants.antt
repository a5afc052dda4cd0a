use Rattle.std.proofs.Common.{◌≡◌, ◌++◌, take}
use Rattle.std.specs.List.{flat_map}
use Rattle.pr_hist.specs.Names.{listed_text}
use Rattle.pr_hist.proofs.names.write_handles.Given as goal

-- the handles so far
abbrev pub invariant-loop-handle : goal.invariant-loop-handle
invariant-loop-handle l = l.text ≡ l.fn.text ++ flat_map (listed_text l.names) (take l.handle-index l.handles)
