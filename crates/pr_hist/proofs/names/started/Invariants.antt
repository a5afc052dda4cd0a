use Rattle.std.proofs.Common.{◌≡◌, ◌+◌, [], drop}
use Rattle.pr_hist.specs.News.{started}
use Rattle.pr_hist.proofs.names.started.Given as goal

-- what was started so far, and what is left, are all
abbrev pub invariant-loop-i : goal.invariant-loop-i
invariant-loop-i l = started (l.i + 1) l.running (drop l.i l.spawns) ≡ started 1 [] l.spawns
