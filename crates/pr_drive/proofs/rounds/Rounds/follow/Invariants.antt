use Rattle.std.proofs.Common.{◌≡◌}
use Rattle.pr_drive.proofs.StepLemmas.{LeadsOn}
use Rattle.pr_drive.proofs.rounds.Rounds.follow.Given as goal

-- what the actors that are left do comes behind what those so far did
abbrev pub invariant-loop-actor : goal.invariant-loop-actor
invariant-loop-actor l = record {
  far : LeadsOn l.schedule l.actor-index l.fn.self.seats l.self-inside.seats;
  place : l.self-inside.place ≡ l.fn.self.place;
}
