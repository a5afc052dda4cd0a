use Rattle.std.proofs.Common.{◌-◌, ◌≡◌, ◌≤◌, ◌<◌, ◌*◌, ℕ, false}
use Rattle.pr_pids.specs.Members.{has_pid}
use Rattle.pr_pids.proofs.process_sets.next_from_word.Given as goal

-- no id in the words so far
abbrev pub invariant-loop-at : goal.invariant-loop-at
invariant-loop-at l =
    (l.from ≤ l.at) × ((other : ℕ) → l.from * 64 ≤ other → other < l.at * 64 → has_pid l.words other ≡ false)

abbrev pub decreases-loop-at : goal.decreases-loop-at
decreases-loop-at l = 64 - l.at
