use Rattle.std.proofs.Common.{◌≡◌, [], length}
use Rattle.pr_scen.specs.ScriptLines.{with_names}
use Rattle.pr_scen.proofs.script_blocks.names_of.Given as goal

abbrev pub invariant-loop-word : goal.invariant-loop-word
invariant-loop-word l =
    with_names l.names l.words ≡ with_names [] l.fn.words

abbrev pub decreases-loop-word : goal.decreases-loop-word
decreases-loop-word l = length l.words
