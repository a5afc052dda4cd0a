use Rattle.std.proofs.Common.{◌-◌, arith}
use Rattle.std.proofs.lemmas.Nat.{pow_below}
use Rattle.pr_num.proofs.sets.SetOf.one.Goals as goal

pub of_word-requires : goal.of_word-requires
of_word-requires g c =
    let range = c.number.ensures.range in
    rw c.bit_of.ensures (pow_below (c.number.result - 1) g.T.Numbered.COUNT (omega (arith, range.0, range.1)))
