use Rattle.std.proofs.Common.{rules, arith}
use Rattle.pr_lock.proofs.Keeps.{leaves}
use Rattle.pr_lock.specs.Seats.{entered_of}
use Rattle.pr_lock.proofs.seats.Shared.leave.Goals as goal

pub swap-requires : goal.swap-requires
swap-requires g c =
    let here = c.requires.lock.at in (
      search rules,
      omega (arith, here.words),
      leaves g.V.Logged.entries g.V.Logged.over g.V.Logged.comes _ _ _ _ c.args.seat.now.seat.me
          (entered_of c.args.seat.now) c.args.value c.exchange.ensures.3 c.requires.lock.holds here.some
          c.requires.grown c.requires.stays c.requires.source,
    )
