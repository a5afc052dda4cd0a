use Rattle.std.proofs.Common.{◌≡◌, ◌≤◌, None, drop}
use Rattle.std.specs.Option.{option_map, IfSome}
use Rattle.pr_asm.specs.Symbols.{nearest}
use Rattle.pr_asm.proofs.symbols.nearest.Given as goal

abbrev pub invariant-loop-label : goal.invariant-loop-label
invariant-loop-label l =
    (nearest l.pc (option_map (λ b. (b.0.now, b.1)) l.best) (drop l.label-index l.labels) ≡ nearest l.pc None l.labels)
    × IfSome l.best (λ b. b.1 ≤ l.pc)
