use Rattle.std.proofs.Common.{◌≡◌, map, take, string_bytes}
use Rattle.std.specs.List.{flat_map}
use Rattle.pr_hist.specs.Texts.{spaced_text}
use Rattle.phist.proofs.words.joined.Given as goal

-- the words so far
abbrev pub invariant-loop-word : goal.invariant-loop-word
invariant-loop-word l = l.line ≡ flat_map spaced_text (map string_bytes (take l.word-index l.words))
