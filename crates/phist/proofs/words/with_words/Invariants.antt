use Rattle.std.proofs.Common.{◌≡◌, map, drop, string_bytes}
use Rattle.phist.specs.Words.{with_words}
use Rattle.phist.proofs.words.with_words.Given as goal

-- what the words that are left make of what was asked so far is what all words make
abbrev pub invariant-loop-word : goal.invariant-loop-word
invariant-loop-word l =
    with_words l.asking (map string_bytes (drop l.word-index l.words))
    ≡ with_words l.fn.asking (map string_bytes l.words)
