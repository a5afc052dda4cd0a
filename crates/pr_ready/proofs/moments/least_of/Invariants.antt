use Rattle.std.proofs.Common.{◌<◌, ◌≤◌, ℕ}
use Rattle.std.specs.Prelude.{slice_index}
use Rattle.pr_ready.proofs.moments.least_of.Given as goal

-- none of the blocks so far has an earlier moment
abbrev pub invariant-loop-block : goal.invariant-loop-block
invariant-loop-block l = (other : ℕ) → other < l.block → l.least ≤ slice_index l.blocks other
