use Rattle.std.proofs.Common.{ap, arith, length, map}
use Rattle.std.specs.Arc.{arc_value}
use Rattle.pr_mem.proofs.PageLemmas.{length-bytes_of}
use Rattle.pr_mem.proofs.pages.Pages.resize.Goals as goal

pub cut-requires : goal.cut-requires
cut-requires c =
    omega (
      arith,
      ap length c.self.view_is,
      length-bytes_of c.self.inside.size (map arc_value c.self.inside.pages.items) c.self.invariant,
    )
