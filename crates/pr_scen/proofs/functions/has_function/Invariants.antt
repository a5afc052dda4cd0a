use Rattle.std.proofs.Common.{◌≡◌, drop}
use Rattle.std.specs.List.{list_any}
use Rattle.pr_scen.specs.Functions.{is_called}
use Rattle.pr_scen.proofs.functions.has_function.Given as goal

abbrev pub invariant-loop-function : goal.invariant-loop-function
invariant-loop-function l =
    list_any (is_called l.name) (drop l.function-index l.functions) ≡ list_any (is_called l.name) l.functions
