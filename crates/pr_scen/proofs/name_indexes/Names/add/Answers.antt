use Rattle.std.proofs.Common.{◌∙◌, sym, ap, length}
use Rattle.pr_scen.specs.Names.{place_of}
use Rattle.pr_scen.proofs.NameLemmas.{index-push}
use Rattle.pr_scen.proofs.name_indexes.Names.add.Goals as goal

pub invariant_of-self-2 : goal.invariant_of-self-2
invariant_of-self-2 c =
    rw (c.in-Ok.ensures.items, c.in_ok-reserve.ensures.items)
    (index-push c.self.inside.items.items c.self.inside.places c.insert.new.self c.args.name c.len-place.result
    c.self.invariant (ap (λ xs. place_of xs c.args.name) c.self.view_is ∙ c.requires)
    (c.len-place.ensures ∙ ap length (sym c.self.view_is)) c.in_ok-insert.ensures.updates)
