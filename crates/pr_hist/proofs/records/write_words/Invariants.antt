use Rattle.std.proofs.Common.{◌≡◌, ◌++◌}
use Rattle.std.specs.Option.{option_copied}
use Rattle.pr_hist.specs.Records.{words_text}
use Rattle.pr_hist.proofs.records.write_words.Given as goal

-- the words so far
abbrev pub invariant-loop-i : goal.invariant-loop-i
invariant-loop-i l = l.text ≡ l.fn.text ++ words_text l.full (option_copied l.source) l.layout l.from l.bytes l.i
