use Rattle.std.proofs.Common.{◌≤◌, ◌∙◌, ◌-◌, ◌++◌, ℕ, List, ap, arith, length, map, replicate, sym, take}
use Rattle.std.specs.Arc.{arc_value}
use Rattle.std.proofs.lemmas.List.{take-map}
use Rattle.pr_mem.proofs.PageLemmas.{AreOf-cut, bytes_of-cut, length-bytes_of}
use Rattle.pr_mem.proofs.pages.Pages.cut.Goals as goal

pub invariant_of-self : goal.invariant_of-self
invariant_of-self c =
    let items = c.self.inside.pages.items in
    let size = length-bytes_of c.self.inside.size (map arc_value items) c.self.invariant in
    let less : c.args.size ≤ c.self.inside.size = omega (arith, c.requires, ap length c.self.view_is, size) in
    AreOf-cut c.args.size c.self.inside.size c.page_count.result
    (map arc_value items) _ c.self.invariant less c.page_count.ensures
    (ap (map arc_value) c.truncate.ensures.items ∙ sym (take-map arc_value c.page_count.result items))

pub returns : goal.returns
returns c =
    let items = c.self.inside.pages.items in
    let size = length-bytes_of c.self.inside.size (map arc_value items) c.self.invariant in
    let less : c.args.size ≤ c.self.inside.size = omega (arith, c.requires, ap length c.self.view_is, size) in
    bytes_of-cut c.args.size c.self.inside.size c.page_count.result
    (map arc_value items) _ c.self.invariant less c.page_count.ensures
    (ap (map arc_value) c.truncate.ensures.items ∙ sym (take-map arc_value c.page_count.result items))
    ∙ ap (λ (old : List ℕ). take c.args.size old ++ replicate (c.args.size - length old) 0) c.self.view_is
