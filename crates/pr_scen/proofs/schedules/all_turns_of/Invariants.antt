use Rattle.std.proofs.Common.{◌≡◌, [], length}
use Rattle.pr_scen.specs.Schedules.{with_turns_of}
use Rattle.pr_scen.proofs.schedules.all_turns_of.Given as goal

abbrev pub invariant-loop-word : goal.invariant-loop-word
invariant-loop-word l =
    with_turns_of l.turns l.words ≡ with_turns_of [] l.fn.words

abbrev pub decreases-loop-word : goal.decreases-loop-word
decreases-loop-word l = length l.words
