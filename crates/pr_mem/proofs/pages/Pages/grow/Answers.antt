use Rattle.std.proofs.Common.{◌≤◌, ◌*◌, ◌∙◌, ◌-◌, ◌++◌, ℕ, List, ap, arith, length, map, replicate, take}
use Rattle.std.specs.Arc.{arc_value}
use Rattle.pr_num.specs.Layout.{page_size}
use Rattle.pr_mem.proofs.PageLemmas.{AreOf-grown, AreOf-written, are_grown, bytes_of-cleared, bytes_of-grown, length-bytes_of, on_err, room-grown}
use Rattle.pr_mem.proofs.pages.Pages.grow.Goals as goal

pub grow-requires : goal.grow-requires
grow-requires c =
    let old = c.self.inside.size in
    let items = c.self.inside.pages.items in
    let more : old ≤ c.args.size =
    omega (
      arith,
      c.requires.more,
      ap length c.self.view_is,
      length-bytes_of old (map arc_value items) c.self.invariant,
    ) in
    room-grown arc_value c.args.size old c.page_count.result
    (replicate (length items * page_size - old) 0) items c.clear_from.new.pages.items c.self.invariant more
    c.page_count.ensures c.in_ok-clear_from.ensures.ok

pub invariant_of-self-in_err-grow : goal.invariant_of-self-in_err-grow
invariant_of-self-in_err-grow c =
    let old = c.self.inside.size in
    let items = c.self.inside.pages.items in
    AreOf-written old old (replicate (length items * page_size - old) 0) 0 (map arc_value items) _ c.self.invariant
    (c.in_err-grow.ensures.err ∙ c.in_ok-clear_from.ensures.ok)

pub returns-in_err-grow-clause-err : goal.returns-in_err-grow-clause-err
returns-in_err-grow-clause-err c =
    let old = c.self.inside.size in
    let items = c.self.inside.pages.items in
    on_err c.from_residual-in_err-grow.result
    (bytes_of-cleared old (replicate (length items * page_size - old) 0) (map arc_value items) _ c.self.invariant
    (c.in_err-grow.ensures.err ∙ c.in_ok-clear_from.ensures.ok) ∙ c.self.view_is)

pub invariant_of-self-2 : goal.invariant_of-self-2
invariant_of-self-2 c =
    let old = c.self.inside.size in
    let items = c.self.inside.pages.items in
    let more : old ≤ c.args.size =
    omega (
      arith,
      c.requires.more,
      ap length c.self.view_is,
      length-bytes_of old (map arc_value items) c.self.invariant,
    ) in
    AreOf-grown c.args.size old c.page_count.result (map arc_value items)
    (map arc_value c.grow.new.pages.items) c.self.invariant more c.requires.limit c.page_count.ensures
    (are_grown arc_value old c.page_count.result items c.clear_from.new.pages.items c.grow.new.pages.items
    c.in_ok-clear_from.ensures.ok c.in_ok-grow.ensures.ok)

pub returns-clause-ok : goal.returns-clause-ok
returns-clause-ok c =
    let old = c.self.inside.size in
    let items = c.self.inside.pages.items in
    let more : old ≤ c.args.size =
    omega (
      arith,
      c.requires.more,
      ap length c.self.view_is,
      length-bytes_of old (map arc_value items) c.self.invariant,
    ) in
    bytes_of-grown c.args.size old c.page_count.result (map arc_value items)
    (map arc_value c.grow.new.pages.items) c.self.invariant more c.page_count.ensures
    (are_grown arc_value old c.page_count.result items c.clear_from.new.pages.items c.grow.new.pages.items
    c.in_ok-clear_from.ensures.ok c.in_ok-grow.ensures.ok)
    ∙ ap (λ (xs : List ℕ). take c.args.size xs ++ replicate (c.args.size - length xs) 0) c.self.view_is
