use Rattle.std.proofs.Common.{length}
use Rattle.pr_tools.proofs.handles.+places_to_last.Given as goal

abbrev pub decreases-places_to_last : goal.decreases-places_to_last
decreases-places_to_last l = length l.handles.now
