use Rattle.std.proofs.Common.{◌≡◌, take}
use Rattle.std.specs.List.{fold}
use Rattle.pr_ready.specs.Moments.{last_moment, lesser_moment}
use Rattle.pr_ready.proofs.moments.next_moment.Given as goal

-- the least moment of the lwps so far
abbrev pub invariant-loop-entry : goal.invariant-loop-entry
invariant-loop-entry l = l.least ≡ fold (lesser_moment l.clock) last_moment (take l.entry-index l.lwps)
