use Rattle.std.proofs.Common.{length}
use Rattle.pr_proc.proofs.forks.+frames_again.Given as goal

-- each call takes a frame off
abbrev pub decreases-frames_again : goal.decreases-frames_again
decreases-frames_again l = length l.frames.now
