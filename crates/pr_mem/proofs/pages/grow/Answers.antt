use Rattle.std.proofs.Common.{◌∙◌, ◌-◌, ◌++◌, ℕ, List, ap, map, replicate}
use Rattle.std.specs.Arc.{arc_value}
use Rattle.std.proofs.lemmas.List.{map-append}
use Rattle.pr_num.specs.Layout.{page_size}
use Rattle.pr_mem.proofs.pages.grow.Goals as goal

pub returns-clause-ok : goal.returns-clause-ok
returns-clause-ok c =
    let items = c.args.pages.now.items in
    ap (map arc_value) c.in_ok-append.ensures.items ∙ map-append arc_value items c.in_ok-zeros.zeros.items
    ∙ ap (λ (zs : List (List ℕ)). map arc_value items ++ zs)
    (c.in_ok-zeros.ensures
    ∙ ap (λ n. replicate (c.args.count - n) (replicate {A = ℕ} page_size 0))
    (c.len.ensures ∙ c.args.pages.now.ok.0))
