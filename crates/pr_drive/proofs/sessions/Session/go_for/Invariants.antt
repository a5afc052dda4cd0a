use Rattle.pr_drive.proofs.StepLemmas.{GoneSoFar}
use Rattle.pr_drive.proofs.sessions.Session.go_for.Given as goal

-- so many moves so far
abbrev pub invariant-loop-at : goal.invariant-loop-at
invariant-loop-at l = GoneSoFar l._at l.fn.self l.self-inside.rounds
