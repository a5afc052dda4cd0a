use Rattle.std.proofs.Common.{◌≡◌, ◌-◌, ◌^◌, ◌++◌}
use Rattle.pr_model.specs.Records.{list_entries}
use Rattle.pr_slots.specs.Walks.{rest_from}
use Rattle.pr_view.proofs.lists.list_of.Given as goal

-- the processes so far, and those to come
abbrev pub invariant-loop-pid : goal.invariant-loop-pid
invariant-loop-pid l =
    l.entries.items ++ list_entries (rest_from l.low l.sys.processes) ≡ list_entries l.sys.processes

abbrev pub decreases-loop-pid : goal.decreases-loop-pid
decreases-loop-pid l = 2 ^ 32 - l.low
