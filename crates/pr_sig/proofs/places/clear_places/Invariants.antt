use Rattle.std.proofs.Common.{◌≡◌, ◌++◌, take, drop}
use Rattle.pr_parts.specs.PendingSignals.{without_infos}
use Rattle.pr_sig.proofs.places.clear_places.Given as goal

abbrev pub invariant-loop-place : goal.invariant-loop-place
invariant-loop-place l =
    l.standard ≡ without_infos l.signals 1 (take l.place l.fn.standard) ++ drop l.place l.fn.standard
