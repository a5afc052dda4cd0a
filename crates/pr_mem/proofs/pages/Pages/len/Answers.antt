use Rattle.std.proofs.Common.{◌∙◌, ap, length, map, sym}
use Rattle.std.specs.Arc.{arc_value}
use Rattle.pr_mem.proofs.PageLemmas.{length-bytes_of}
use Rattle.pr_mem.proofs.pages.Pages.len.Goals as goal

pub returns-clause-value : goal.returns-clause-value
returns-clause-value c =
    sym (length-bytes_of c.self.inside.size (map arc_value c.self.inside.pages.items) c.self.invariant)
    ∙ ap length c.self.view_is
