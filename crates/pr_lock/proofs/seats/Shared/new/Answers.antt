use Rattle.std.proofs.Common.{[], sym, ap, ◌∙◌, arith}
use Rattle.pr_lock.specs.Rule.{newcomer}
use Rattle.pr_lock.proofs.Keeps.{opens, begins}
use Rattle.pr_lock.proofs.seats.Shared.new.Goals as goal

pub new-requires : goal.new-requires
new-requires g c =
    opens g.V.Logged.entries g.V.Logged.over g.V.Logged.comes _ c.args.value _ c.in_ok-slots.ensures c.of.ensures
    c.requires.empty c.requires.source

pub swap-requires : goal.swap-requires
swap-requires g c =
    let table = c.in-Ok.ensures.ok in (
      table.2,
      omega (arith, table.0),
      begins g.V.Logged.entries g.V.Logged.over g.V.Logged.comes _ _ _ _
          (table.4 ∙ ap (λ made. (newcomer made, [])) (sym table.5)),
    )
