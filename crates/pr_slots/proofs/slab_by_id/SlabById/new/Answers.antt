use Rattle.std.proofs.Common.{ap}
use Rattle.slab.specs.Slab.{entries_from}
use Rattle.pr_slots.proofs.slab_by_id.SlabById.new.Goals as goal

pub returns : goal.returns
returns g c = ap (entries_from 0) c.in_ok-slots.ensures
