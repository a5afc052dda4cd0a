use Rattle.std.proofs.Common.{◌≡◌, ◌∙◌, ◌-◌, ◌%◌, ap, arith, drop, length, min, refl, sym, take}
use Rattle.std.proofs.lemmas.List.{length-drop, length-take, take-take}
use Rattle.pr_num.specs.Layout.{page_size}
use Rattle.pr_mem.proofs.RunLemmas.{IsRun-within}
use Rattle.pr_mem.proofs.accesses.run_at.Goals as goal

pub returns-clause-ok : goal.returns-clause-ok
returns-clause-ok c =
    let m = c.in-Some.mapping.now in
    let from = c.args.at - m.at in
    let rest = drop from m.bytes in
    let most = page_size - from % page_size in
    let size : length c.run-run.result.now ≡ min most (length rest) =
    ap length c.run-run.ensures ∙ length-take most rest in
    let back : length rest ≡ length m.bytes - from = length-drop from m.bytes in
    let low = c.in-Some.ensures.low in
    let high = c.in-Some.ensures.high in
    IsRun-within c.args.need c.args.mappings.now m c.args.at c.args.most c.min.result from _ c.requires.space
    (sym c.in-Some.ensures.value) (sym c.allows.ensures ∙ c.if-not-allows.false) refl
    (omega (arith, size, back, low, high)) (omega arith) (omega (arith, size, back))
    (ap (take c.min.result) c.run-run.ensures ∙ take-take c.min.result most rest (omega (arith, size)))
