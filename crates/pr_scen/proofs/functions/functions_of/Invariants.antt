use Rattle.std.proofs.Common.{◌≡◌, [], drop}
use Rattle.pr_scen.specs.Functions.{with_functions}
use Rattle.pr_scen.proofs.functions.functions_of.Given as goal

abbrev pub invariant-loop-name : goal.invariant-loop-name
invariant-loop-name l =
    with_functions l.program l.functions (drop l.name-index l.names) ≡ with_functions l.program [] l.names
