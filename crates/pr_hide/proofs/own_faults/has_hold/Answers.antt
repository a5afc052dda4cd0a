use Rattle.std.proofs.Common.{◌<◌, length, refl, ap, ◌∙◌, arith}
use Rattle.pr_open.proofs.PlaceLemmas.{found, passed, none_found}
use Rattle.pr_hidden.specs.Hiders.{has_hold, is_hold}
use Rattle.pr_hide.specs.Hidings.{hiders_of}
use Rattle.pr_hide.proofs.own_faults.has_hold.Goals as goal

pub loop-number-init : goal.loop-number-init
loop-number-init c = refl

pub loop-number-preserved : goal.loop-number-preserved
loop-number-preserved c =
    let inside : c.loop-number.number < length c.args.opens.now = omega (arith, c.places-number-end.ensures) in
    passed (is_hold (hiders_of c.args.who.now) c.args.pid) c.args.opens.now c.loop-number.number inside
    c.loop-number.invariant
    (c.if-is_hold.ensures ∙ ap (is_hold (hiders_of c.args.who.now) c.args.pid) c.at.ensures)

pub returns-then-is_hold : goal.returns-then-is_hold
unfolding has_hold
returns-then-is_hold c =
    let inside : c.loop-number.number < length c.args.opens.now = omega (arith, c.places-number-end.ensures) in
    found (is_hold (hiders_of c.args.who.now) c.args.pid) c.args.opens.now c.loop-number.number inside
    c.loop-number.invariant
    (c.if-is_hold.ensures ∙ ap (is_hold (hiders_of c.args.who.now) c.args.pid) c.at.ensures)

pub returns : goal.returns
unfolding has_hold
returns c =
    none_found (is_hold (hiders_of c.args.who.now) c.args.pid) c.args.opens.now c.loop-number.number
    (omega (arith, c.places-number-end.ensures)) c.loop-number.invariant
