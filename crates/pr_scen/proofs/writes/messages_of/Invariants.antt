use Rattle.std.proofs.Common.{◌≡◌, length}
use Rattle.pr_scen.specs.Messages.{words_written, nothing_written}
use Rattle.pr_scen.proofs.writes.messages_of.Given as goal

abbrev pub invariant-loop-word : goal.invariant-loop-word
invariant-loop-word l =
    words_written l.writing l.words ≡ words_written nothing_written l.fn.words

abbrev pub decreases-loop-word : goal.decreases-loop-word
decreases-loop-word l = length l.words
