use Rattle.pr_core.proofs.CoreLemmas.{encodes-read, core-read, same-core, same-words}
use Rattle.pr_core.proofs.CoreStandLemmas.{stand-core_read}
use Rattle.pr_core.proofs.laws.a_core_has_one_spelling.Goals as goal

pub returns-clause-words : goal.returns-clause-words
returns-clause-words c bytes words small few = (stand-core_read bytes words small, encodes-read bytes words few)

pub returns-clause-read : goal.returns-clause-read
returns-clause-read c core is few = core-read core is few

pub returns-clause-same : goal.returns-clause-same
returns-clause-same c a b is js few same = same-core a b is js (same-words a b is js few same)
