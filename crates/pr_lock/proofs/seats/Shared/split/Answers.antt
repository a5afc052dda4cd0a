use Rattle.std.proofs.Common.{arith}
use Rattle.pr_lock.proofs.Keeps.{splits}
use Rattle.pr_lock.proofs.seats.Shared.split.Goals as goal

pub split_seat-requires : goal.split_seat-requires
split_seat-requires g c =
    let here = c.requires.lock.at in (
      here.table,
      omega (arith, here.words),
      splits g.V.Logged.entries g.V.Logged.over g.V.Logged.comes _ _ _ c.requires.shares,
    )
