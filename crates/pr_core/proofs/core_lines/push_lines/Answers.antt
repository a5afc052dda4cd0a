use Rattle.std.proofs.Common.{◌++◌, sym, ap, ◌∙◌, arith}
use Rattle.std.proofs.lemmas.Bool.{eqb-false, eqb-true}
use Rattle.std.proofs.lemmas.List.{append-nil}
use Rattle.pr_core.proofs.HexLineLemmas.{line-written, no-lines, some-bytes}
use Rattle.pr_core.proofs.core_lines.push_lines.Goals as goal

pub loop-rest-preserved : goal.loop-rest-preserved
loop-rest-preserved c =
    let some = some-bytes c.loop-rest.rest.now (eqb-false _ 0 (sym c.loop-rest-test.ensures)) in
    line-written c.loop-rest.text c.text.new.self c.end_line.new.text _ c.loop-rest.rest.now c.split_at.result.0.now
    c.split_at.result.1.now c.min.result some (omega (arith, c.min.ensures))
    c.split_at.ensures.front c.split_at.ensures.back c.put_digits.ensures
    c.in_ok-text.ensures c.in_ok-end_line.ensures ∙ c.loop-rest.invariant

pub returns : goal.returns
returns c =
    sym (ap (λ xs. c.loop-rest.text ++ xs)
    (no-lines c.loop-rest.rest.now (eqb-true _ 0 (sym c.loop-rest-test.ensures)))
    ∙ append-nil c.loop-rest.text) ∙ c.loop-rest.invariant
