use Rattle.std.proofs.Common.{◌≡◌, take}
use Rattle.pr_model.specs.UntracedSteps.{nothing_yet, remembered_all, untraced_steps}
use Rattle.pr_strip.specs.Pasts.{past_of}
use Rattle.pr_strip.proofs.strips.strip.Given as goal

abbrev pub invariant-loop-i : goal.invariant-loop-i
invariant-loop-i l =
    (l.steps.items ≡ untraced_steps (take l.i l.history.entries))
    × (past_of l.past ≡ remembered_all nothing_yet (take l.i l.history.entries))
