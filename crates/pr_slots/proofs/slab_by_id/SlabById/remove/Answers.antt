use Rattle.std.proofs.Common.{◌≡◌, Some, None, is_some, get_or, sym, ap, ◌∙◌}
use Rattle.slab.specs.Slab.{entries_from}
use Rattle.pr_slots.proofs.PairLemmas.{under_seen, removed_seen}
use Rattle.pr_slots.proofs.slab_by_id.SlabById.remove.Goals as goal

pub remove-requires : goal.remove-requires
remove-requires g c =
    ap is_some (sym (under_seen c.self.inside.slots c.args.self.now c.self.view_is c.args.id)) ∙ c.requires

pub returns-clause-value : goal.returns-clause-value
returns-clause-value g c =
    under_seen c.self.inside.slots c.args.self.now c.self.view_is c.args.id ∙ c.remove.ensures.value

pub returns-clause-rest : goal.returns-clause-rest
returns-clause-rest g c =
    ap (entries_from 0) c.remove.ensures.rest
    ∙ removed_seen c.self.inside.slots c.args.self.now c.self.view_is c.args.id c.remove.result c.remove.ensures.value
