use Rattle.std.proofs.Common.{◌≡◌, ◌++◌, length}
use Rattle.pr_scen.proofs.items.words_of.Given as goal

abbrev pub invariant-loop-word : goal.invariant-loop-word
invariant-loop-word l =
    l.texts.items ++ l.words ≡ l.fn.words

abbrev pub decreases-loop-word : goal.decreases-loop-word
decreases-loop-word l = length l.words
