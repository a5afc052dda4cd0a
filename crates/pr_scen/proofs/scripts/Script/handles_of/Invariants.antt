use Rattle.std.proofs.Common.{◌≡◌, map, take}
use Rattle.pr_scen.specs.Bindings.{handle_of}
use Rattle.pr_scen.proofs.scripts.Script.handles_of.Given as goal

abbrev pub invariant-loop-name : goal.invariant-loop-name
invariant-loop-name l =
    l.handles.items ≡ map (handle_of l.self.bindings) (take l.name-index l.names)
