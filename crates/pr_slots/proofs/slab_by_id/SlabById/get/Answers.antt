use Rattle.std.proofs.Common.{sym, ◌∙◌}
use Rattle.pr_slots.proofs.PairLemmas.{under_seen}
use Rattle.pr_slots.proofs.slab_by_id.SlabById.get.Goals as goal

pub returns : goal.returns
returns g c =
    c.get.ensures ∙ sym (under_seen c.self.inside.slots c.args.self.now c.self.view_is c.args.id)
