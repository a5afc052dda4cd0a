use Rattle.std.proofs.Common.{◌≡◌, drop}
use Rattle.pr_text.specs.NumberWords.{number_from}
use Rattle.pr_text.proofs.number_words.number_from.Given as goal

abbrev pub invariant-loop-b : goal.invariant-loop-b
invariant-loop-b l = number_from l.base l.value (drop l.b-index l.digits) ≡ number_from l.base 0 l.digits
