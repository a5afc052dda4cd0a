use Rattle.std.proofs.Common.{◌∙◌, ap, subst, sym, ◌<◌, Some, IsSomeAnd, rules, arith}
use Rattle.pr_lock.proofs.Keeps.{tries, Took, took, took-slot}
use Rattle.pr_lock.proofs.seats.Shared.enter.Goals as goal

pub swap-requires : goal.swap-requires
swap-requires g c =
    let here = c.requires.at in
    let same = c.loop.invariant in (
      search rules,
      omega (arith, here.words),
      tries g.V.Logged.entries g.V.Logged.over g.V.Logged.comes _ _ _ _
          (ap (λ m. m.0.entered) same.me ∙ c.requires.holds_none) (subst (λ m. 0 < m.0.shares) (sym same.me) here.some),
    )

pub exchange-requires : goal.exchange-requires
exchange-requires g c =
    let taken = c.swap.ensures.2.free c.if-swap-eq0.true in
    (search rules, (Some taken.value, took-slot g.V.Logged.entries g.V.Logged.over g.V.Logged.comes _ _ taken))

pub unreachable-requires : goal.unreachable-requires
unreachable-requires g c =
    let taken = c.swap.ensures.2.free c.if-swap-eq0.true in
    subst (λ o.
    IsSomeAnd o (Took g.V.Logged.entries g.V.Logged.over g.V.Logged.comes c.loop.seat.seat.me c.swap.new.seat.me.0))
    c.in_default.is
    (took g.V.Logged.entries g.V.Logged.over g.V.Logged.comes _ _ taken c.exchange.result c.exchange.ensures.2)
