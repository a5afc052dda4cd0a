use Rattle.std.proofs.Common.{map}
use Rattle.std.specs.Arc.{arc_value}
use Rattle.pr_mem.proofs.PageLemmas.{bytes_of-zeros}
use Rattle.pr_mem.proofs.pages.Pages.zeros.Goals as goal

pub returns : goal.returns
returns c =
    bytes_of-zeros c.args.size c.page_count.result
    (map arc_value c.in_ok-pages.pages.items) c.page_count.ensures c.in_ok-pages.ensures
