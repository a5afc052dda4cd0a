use Rattle.std.specs.Arc.{arc_value}
use Rattle.pr_mem.proofs.PageLemmas.{run-page}
use Rattle.pr_mem.proofs.pages.run_in.Goals as goal

pub returns : goal.returns
returns c =
    run-page arc_value c.args.pages.now c.args.from c.index-pages-from.result c.deref-page.result.now c.requires.whole
    c.requires.within c.index-pages-from.is c.deref-page.ensures
