use Rattle.std.proofs.lemmas.Nat.{or_lt}
use Rattle.pr_num.proofs.flags.KnownFlags.union.Goals as goal

pub new-requires : goal.new-requires
new-requires g c =
    rw (c.union.ensures g.met.B.FlagBits.is_exact)
    (or_lt g.B.FlagBits.width _ _ c.bits.ensures.range c.bits-2.ensures.range)
