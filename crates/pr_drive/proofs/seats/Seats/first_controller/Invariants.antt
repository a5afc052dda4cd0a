use Rattle.std.proofs.Common.{◌≡◌, ℕ}
use Rattle.pr_drive.proofs.SeatLemmas.{left_from}
use Rattle.pr_drive.proofs.seats.Seats.first_controller.Given as goal

-- the controllers so far cannot move, so that the search goes on from here
abbrev pub invariant-loop-number : goal.invariant-loop-number
invariant-loop-number l = (until : ℕ) → left_from until l.self l.number ≡ left_from until l.self l.from
