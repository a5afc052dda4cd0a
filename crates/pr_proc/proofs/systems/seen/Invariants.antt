use Rattle.std.proofs.Common.{◌≡◌, ◌-◌}
use Rattle.pr_model.specs.Readers.{space_seen, space_shown}
use Rattle.pr_proc.proofs.systems.seen.Given as goal

-- what the process shows is what this one does
abbrev pub invariant-loop : goal.invariant-loop
invariant-loop l =
    space_shown l.sys (l.sys.made - l.counter) l.shown.borrower l.shown.space ≡ space_seen l.sys l.process
