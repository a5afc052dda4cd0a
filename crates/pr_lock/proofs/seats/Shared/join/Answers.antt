use Rattle.std.proofs.Common.{arith}
use Rattle.pr_lock.proofs.Keeps.{joins}
use Rattle.pr_lock.proofs.seats.Shared.join.Goals as goal

pub join_seat-requires : goal.join_seat-requires
join_seat-requires g c =
    let here = c.requires.lock.at in
    let there = c.requires.other.at in (
      here.table,
      there.table,
      c.requires.other.no_slot,
      omega (arith, here.words),
      joins g.V.Logged.entries g.V.Logged.over g.V.Logged.comes _ _ _ _ _ here.some c.requires.lock.holds_none
          c.requires.other.holds_none there.begun,
    )
