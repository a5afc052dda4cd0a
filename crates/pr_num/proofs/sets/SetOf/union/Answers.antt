use Rattle.std.proofs.lemmas.Nat.{or_lt}
use Rattle.pr_num.proofs.sets.SetOf.union.Goals as goal

pub of_word-requires : goal.of_word-requires
of_word-requires g c = or_lt g.T.Numbered.COUNT _ _ c.self.invariant c.other.invariant
