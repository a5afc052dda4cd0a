use Rattle.std.proofs.Common.{◌≡◌, ◌++◌}
use Rattle.pr_drive.specs.Exchanges.{polls_of}
use Rattle.pr_drive.proofs.HandleLemmas.{polls_from}
use Rattle.pr_drive.proofs.seats.Seats.polls.Given as goal

-- what is still to come stands behind what came
abbrev pub invariant-loop-handle : goal.invariant-loop-handle
invariant-loop-handle l = l.polls.items ++ polls_from l.self l.handle ≡ polls_of l.self
