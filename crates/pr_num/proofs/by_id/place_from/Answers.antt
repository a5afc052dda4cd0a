use Rattle.std.proofs.Common.{◌<◌, ◌≡◌, ◌+◌, ◌-◌, ◌/◌, Some, length, refl, arith}
use Rattle.std.specs.List.{slice_get}
use Rattle.std.proofs.lemmas.Option.{slice_get_read}
use Rattle.pr_num.proofs.ByIdLemmas.{place_from-above, place_from-at_most}
use Rattle.pr_num.proofs.by_id.place_from.Goals as goal

pub loop-at_least-preserved-then-entry-low : goal.loop-at_least-preserved-then-entry-low
loop-at_least-preserved-then-entry-low g c =
    let es = c.args.items.now in
    let middle = c.loop-at_least.at_least + (c.loop-at_least.at_most - c.loop-at_least.at_least) / 2 in
    let inside : middle < length es = omega arith in
    let here : slice_get es middle ≡ Some c.index-items-middle.result =
    slice_get_read es _ _ _ refl inside c.index-items-middle.is in
    let above = place_from-above 0 c.args.low es middle _ c.requires here c.if-entry-low.true in
    (omega arith, c.loop-at_least.invariant.1, c.loop-at_least.invariant.2)

pub loop-at_least-preserved : goal.loop-at_least-preserved
loop-at_least-preserved g c =
    let es = c.args.items.now in
    let middle = c.loop-at_least.at_least + (c.loop-at_least.at_most - c.loop-at_least.at_least) / 2 in
    let inside : middle < length es = omega arith in
    let here : slice_get es middle ≡ Some c.index-items-middle.result =
    slice_get_read es _ _ _ refl inside c.index-items-middle.is in
    (c.loop-at_least.invariant.0, place_from-at_most c.args.low es middle _ here c.if-entry-low.false, omega arith)
