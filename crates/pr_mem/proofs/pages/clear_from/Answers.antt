use Rattle.std.proofs.Common.{◌∙◌, List, ℕ, ap, length, map}
use Rattle.std.specs.Arc.{arc_value}
use Rattle.std.proofs.lemmas.Result.{on_ok_weaker}
use Rattle.pr_mem.specs.Pages.{written_pages}
use Rattle.pr_mem.proofs.PageLemmas.{tail_zeros}
use Rattle.pr_mem.proofs.pages.clear_from.Goals as goal

pub returns-clause-ok : goal.returns-clause-ok
returns-clause-ok c =
    let items = c.args.pages.now.items in
    on_ok_weaker c.write_from.result
    (λ e. e ∙ ap (λ (zs : List ℕ). written_pages c.args.from zs 0 (map arc_value items))
    (tail_zeros c.len.result (length items) c.args.from (c.len.ensures ∙ c.args.pages.now.ok.0) c.requires.last))
    c.write_from.ensures.ok
