use Rattle.std.proofs.Common.{arith}
use Rattle.std.proofs.lemmas.Nat.{and_le_l}
use Rattle.pr_num.proofs.flags.KnownFlags.minus.Goals as goal

pub new-requires : goal.new-requires
new-requires g c =
    rw (c.difference.ensures g.met.B.FlagBits.is_exact) (omega (arith, and_le_l, c.bits.ensures.range))
