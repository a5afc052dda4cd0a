use Rattle.std.proofs.Common.{◌≤◌, length}
use Rattle.pr_drive.proofs.SessionLemmas.{UnreadySoFar}
use Rattle.pr_drive.proofs.sessions.Session.go_until_ready.Given as goal

-- others have moved so far, an entry each time, while no file was ready
abbrev pub invariant-loop-at : goal.invariant-loop-at
invariant-loop-at l = record {
  gone : UnreadySoFar l.fn.self l.self-inside.rounds;
  far : l._at ≤ length l.self-inside.rounds.seats.kernel.history;
}
