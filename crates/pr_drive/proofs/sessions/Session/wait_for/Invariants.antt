use Rattle.std.proofs.Common.{◌≤◌, length}
use Rattle.pr_drive.proofs.SessionLemmas.{WaitedSoFar}
use Rattle.pr_drive.proofs.sessions.Session.wait_for.Given as goal

-- rounds went by so far, an entry at least in each
abbrev pub invariant-loop-at : goal.invariant-loop-at
invariant-loop-at l = record {
  waited : WaitedSoFar l.call l.fn.self l.self-inside.rounds;
  far : l._at ≤ length l.self-inside.rounds.seats.kernel.history;
}
