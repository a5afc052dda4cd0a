use Rattle.std.proofs.Common.{◌≡◌, false, take}
use Rattle.std.specs.List.{list_any}
use Rattle.pr_model.specs.Handles.{is_exclusive_writer}
use Rattle.pr_open.proofs.opens.any_exclusive_writer.Given as goal

abbrev pub invariant-loop-number : goal.invariant-loop-number
invariant-loop-number l = list_any (is_exclusive_writer l.fn.pid) (take l.number l.fn.held) ≡ false
