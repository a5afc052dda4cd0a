use Rattle.std.proofs.Common.{◌≡◌, [], drop}
use Rattle.pr_scen.specs.Bindings.{all_opened}
use Rattle.pr_scen.proofs.bindings.opened.Given as goal

abbrev pub invariant-loop-line : goal.invariant-loop-line
invariant-loop-line l =
    all_opened l.names (drop l.line-index l.lines) ≡ all_opened [] l.lines
