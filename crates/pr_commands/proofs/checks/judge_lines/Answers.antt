use Rattle.std.proofs.Common.{◌≡◌, ◌<◌, ◌+◌, ◌∙◌, ℕ, ap, arith}
use Rattle.std.proofs.lemmas.Result.{err_from_is_err_and}
use Rattle.pr_plain.proofs.EntryLoop.{next_of-on}
use Rattle.pr_commands.proofs.FindingLemmas.{judged-all, judged-more, judged-wrong}
use Rattle.pr_commands.proofs.checks.judge_lines.Goals as goal

pub returns-in_err-entry : goal.returns-in_err-entry
returns-in_err-entry c =
    let p = err_from_is_err_and c.from_residual-in_err-entry.result c.from_residual-in_err-entry.ensures.1 in
    let was = c.loop-number.invariant in
    let fewer : c.loop-number.lines.read < c.loop-number.lines.count =
    omega (arith, was.read, was.count, c.loop-number-test.true, c.count-number-end.ensures) in
    rw (p.1, p.2)
    (judged-wrong c.args.scenario c.args.lines c.loop-number.lines c.loop-number.judge was.judged
    c.in_err-entry.field-0.0 fewer c.in_err-entry.ensures.read)

pub hear-requires : goal.hear-requires
hear-requires c =
    let on = next_of-on c.loop-number.lines c.next.new.self c.in_ok-entry.entry c.in_ok-entry.ensures.read in
    omega (arith, on.1, c.in_ok-entry.ensures.few, c.loop-number.invariant.read, c.loop-number.invariant.heard)

pub loop-number-preserved : goal.loop-number-preserved
loop-number-preserved c =
    let on = next_of-on c.loop-number.lines c.next.new.self c.in_ok-entry.entry c.in_ok-entry.ensures.read in
    let was = c.loop-number.invariant in
    let fewer : c.loop-number.lines.read < c.loop-number.lines.count =
    omega (arith, was.read, was.count, c.loop-number-test.true, c.count-number-end.ensures) in
    record {
      judged =
          judged-more c.args.scenario c.args.lines c.loop-number.lines c.loop-number.judge was.judged c.next.new.self
          c.in_ok-entry.entry c.hear.new.self fewer c.in_ok-entry.ensures.read c.in_ok-hear.ensures.heard
          c.in_ok-hear.ensures.controllers;
      read = on.1 ∙ ap (λ (n : ℕ). n + 1) was.read;
      count = on.0 ∙ was.count;
      heard = c.in_ok-hear.ensures.count ∙ ap (λ (n : ℕ). n + 1) was.heard;
    }

pub returns : goal.returns
returns c =
    let was = c.loop-number.invariant in
    let all : c.loop-number.lines.read ≡ c.loop-number.lines.count =
    omega
    (arith, was.read, was.count, c.loop-number-test.false, c.loop-number.auto.number-end, c.count-number-end.ensures) in
    rw (c.heard.ensures, c.first.ensures)
    (judged-all c.args.scenario c.args.lines c.loop-number.lines c.loop-number.judge was.judged all)
