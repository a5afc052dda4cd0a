use Rattle.std.proofs.Common.{take}
use Rattle.pr_judge.specs.Judgements.{HasPlayed}
use Rattle.pr_judge.proofs.judging.legal.Given as goal

-- the entries before the place were played
abbrev pub invariant-loop-place : goal.invariant-loop-place
invariant-loop-place g l =
    HasPlayed l.controllers (take l.place l.history.entries) (g.Q.Kernel.view l.fn.kernel) (g.Q.Kernel.view l.kernel)
