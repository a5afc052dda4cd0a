use Rattle.std.proofs.Common.{◌≡◌, ◌<◌, ◌≤◌, true, false, length}
use Rattle.pr_drive.proofs.StepLemmas.{SteppedSoFar}
use Rattle.pr_drive.proofs.rounds.Rounds.finish_round.Given as goal

-- others have moved so far, an entry each time, or nobody has
abbrev pub invariant-loop-at : goal.invariant-loop-at
invariant-loop-at l = record {
  steps : SteppedSoFar l.until l.fn.self l.self;
  more : l.moved ≡ true → length l.fn.self.seats.kernel.history < length l.self.seats.kernel.history;
  same : l.moved ≡ false → l.self ≡ l.fn.self;
  far : l._at ≤ length l.self.seats.kernel.history;
}
