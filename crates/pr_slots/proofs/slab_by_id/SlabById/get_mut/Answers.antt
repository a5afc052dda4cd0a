use Rattle.std.proofs.Common.{is_some, refl, sym, ap, ◌∙◌}
use Rattle.pr_slots.proofs.PairLemmas.{under_seen, changed_seen}
use Rattle.pr_slots.proofs.slab_by_id.SlabById.get_mut.Goals as goal

pub get_mut-requires : goal.get_mut-requires
get_mut-requires g c =
    ap is_some (sym (under_seen c.self.inside.slots c.args.self.now c.self.view_is c.args.id)) ∙ c.requires

pub returns : goal.returns
returns g c = (
  (
    refl,
    changed_seen c.self.inside.slots c.args.self.now c.self.view_is c.args.id c.get_mut.result.now
        c.get_mut.ensures.value,
  ),
  record {
    writes_back = tt;
    value = under_seen c.self.inside.slots c.args.self.now c.self.view_is c.args.id ∙ c.get_mut.ensures.value;
  },
)
