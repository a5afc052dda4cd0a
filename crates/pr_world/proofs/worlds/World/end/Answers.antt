use Rattle.std.proofs.Common.{sym, ◌∙◌}
use Rattle.pr_world.proofs.RestLemmas.{ended-quiet, ended-some, ended-stuck}
use Rattle.pr_world.proofs.worlds.World.end.Goals as goal

pub returns-then-is_some : goal.returns-then-is_some
returns-then-is_some g c =
    ended-some g.Q.Kernel.view g.met.Q.Kernel.lawful c.args.self.now c.next_in_rounds.result c.next_in_rounds.ensures
    (sym c.is_some.ensures ∙ c.if-is_some.true) c.spent_places.result c.spent_places.ensures

pub returns-then-all_finished : goal.returns-then-all_finished
returns-then-all_finished g c =
    ended-quiet g.Q.Kernel.view g.met.Q.Kernel.lawful c.args.self.now c.next_in_rounds.result c.next_in_rounds.ensures
    (sym c.is_some.ensures ∙ c.if-is_some.false) c.all_finished.result c.all_finished.ensures c.if-all_finished.true

pub returns-else-all_finished : goal.returns-else-all_finished
returns-else-all_finished g c =
    ended-stuck g.Q.Kernel.view g.met.Q.Kernel.lawful c.args.self.now c.next_in_rounds.result c.next_in_rounds.ensures
    (sym c.is_some.ensures ∙ c.if-is_some.false) c.all_finished.result c.all_finished.ensures c.if-all_finished.false
