use Rattle.std.proofs.Common.{◌≤◌, length}
use Rattle.pr_drive.proofs.SessionLemmas.{MadeSoFar}
use Rattle.pr_drive.proofs.sessions.Session.answer_messages.Given as goal

-- these calls were made so far, an entry at least each time
abbrev pub invariant-loop-at : goal.invariant-loop-at
invariant-loop-at l = record {
  made : MadeSoFar l.fn.script l.script l.fn.self l.self l.fn.out.items l.out.items;
  far : l._at ≤ length l.self.seats.kernel.history;
}
