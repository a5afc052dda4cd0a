use Rattle.std.proofs.Common.{◌≡◌, map, drop}
use Rattle.pr_scen.specs.MessageLists.{with_modes}
use Rattle.pr_scen.proofs.message_lists.named_modes.Given as goal

abbrev pub invariant-loop-name : goal.invariant-loop-name
invariant-loop-name l =
    with_modes l.modes (map (λ name. name.now) (drop l.name-index l.names))
    ≡ with_modes 0 (map (λ name. name.now) l.names)
