use Rattle.std.proofs.Common.{subst, IsSomeAnd}
use Rattle.pr_lock.proofs.Keeps.{Ends, ends}
use Rattle.pr_lock.proofs.seats.Shared.close.Goals as goal

pub unreachable-requires : goal.unreachable-requires
unreachable-requires g c =
    subst (λ o.
    IsSomeAnd o
    (Ends g.V.Logged.entries g.V.Logged.over g.V.Logged.comes c.args.self.table.shared.key c.args.seat.seat.me.0))
    c.in_default.is
    (ends g.V.Logged.entries g.V.Logged.over g.V.Logged.comes _ _ _ _ _ _ c.requires.lock.holds_none c.requires.all
    c.requires.lock.at.some c.close_with-closed.ensures.values.2 c.take-last.ensures.value)

-- what the seat finds at the end
ended : (g : _) (c : goal.In-Some g)
    → Ends g.V.Logged.entries g.V.Logged.over g.V.Logged.comes c.args.self.table.shared.key c.args.seat.seat.me.0
    c.in-Some.value
ended g c =
    subst (λ o.
    IsSomeAnd o
    (Ends g.V.Logged.entries g.V.Logged.over g.V.Logged.comes c.args.self.table.shared.key c.args.seat.seat.me.0))
    c.in-Some.is
    (ends g.V.Logged.entries g.V.Logged.over g.V.Logged.comes _ _ _ _ _ _ c.requires.lock.holds_none c.requires.all
    c.requires.lock.at.some c.close_with-closed.ensures.values.2 c.take-last.ensures.value)

pub returns-clause-seen : goal.returns-clause-seen
returns-clause-seen g c = (ended g c).seen

pub returns-clause-all : goal.returns-clause-all
returns-clause-all g c = (ended g c).all

pub returns-clause-stays : goal.returns-clause-stays
returns-clause-stays g c = (ended g c).stays

pub returns-clause-source : goal.returns-clause-source
returns-clause-source g c = (ended g c).source
