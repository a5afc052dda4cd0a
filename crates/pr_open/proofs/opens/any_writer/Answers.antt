use Rattle.std.proofs.Common.{◌<◌, length, refl, ap, ◌∙◌, arith}
use Rattle.pr_model.specs.Handles.{is_writer}
use Rattle.pr_open.proofs.PlaceLemmas.{found, passed, none_found}
use Rattle.pr_open.proofs.opens.any_writer.Goals as goal

pub loop-number-init : goal.loop-number-init
loop-number-init c = refl

pub loop-number-preserved : goal.loop-number-preserved
loop-number-preserved c =
    let inside : c.loop-number.number < length c.args.held.now = omega arith in
    passed (is_writer c.args.pid) c.args.held.now c.loop-number.number inside c.loop-number.invariant
    (c.if-is_writer.ensures ∙ ap (is_writer c.args.pid) (c.copied.ensures ∙ c.get.ensures))

pub returns-then-is_writer : goal.returns-then-is_writer
returns-then-is_writer c =
    let inside : c.loop-number.number < length c.args.held.now = omega arith in
    found (is_writer c.args.pid) c.args.held.now c.loop-number.number inside c.loop-number.invariant
    (c.if-is_writer.ensures ∙ ap (is_writer c.args.pid) (c.copied.ensures ∙ c.get.ensures))

pub returns : goal.returns
returns c =
    none_found (is_writer c.args.pid) c.args.held.now c.loop-number.number (omega arith) c.loop-number.invariant
