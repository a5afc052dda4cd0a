use Rattle.std.proofs.Common.{◌∙◌, ◌++◌, ◌∷◌, [], List, ℕ, ap, arith, sym}
use Rattle.pr_text.specs.TextLines.{newline}
use Rattle.pr_drive.specs.Served.{is_mark}
use Rattle.pr_drive.proofs.EndLemmas.{on-err}
use Rattle.pr_drive.proofs.InputLemmas.{input, takes-asked}
use Rattle.pr_drive.proofs.ReadLemmas.{cut-asking, took-mark, took-more, took-much, took-never}
use Rattle.pr_drive.proofs.readings.read_above.Goals as goal

pub returns-then-is_mark-clause-above : goal.returns-then-is_mark-clause-above
returns-then-is_mark-clause-above g c =
    took-mark c.loop-number.text.items c.next.new.line.items c.loop-number.number _ _ _ c.in_ok-next.field-0
    c.if-not-branch.false c.loop-number.invariant.far
    (record { takes = c.in_ok-next.ensures.takes; read = c.in_ok-next.ensures.read })
    (ap is_mark (sym c.as_slice.ensures.value) ∙ sym c.is_mark.ensures ∙ c.if-is_mark.true)

pub returns-then-is_mark-clause-no_fault : goal.returns-then-is_mark-clause-no_fault
returns-then-is_mark-clause-no_fault g c = λ differs. c.in_ok-next.ensures.no_fault (λ e. cc)
    ∙ c.loop-number.invariant.faults

pub returns-then-saturating_add-ge-SCENARIO_LIMIT-clause-above :
    goal.returns-then-saturating_add-ge-SCENARIO_LIMIT-clause-above
returns-then-saturating_add-ge-SCENARIO_LIMIT-clause-above g c =
    took-much c.loop-number.text.items c.next.new.line.items c.loop-number.number _ _ _ c.in_ok-next.field-0
    c.if-not-branch.false c.loop-number.invariant.far
    (record { takes = c.in_ok-next.ensures.takes; read = c.in_ok-next.ensures.read })
    (ap is_mark (sym c.as_slice.ensures.value) ∙ sym c.is_mark.ensures ∙ c.if-is_mark.false)
    (omega (
      arith,
      c.saturating_add.ensures,
      c.len.ensures,
      c.len-in-loop-number.ensures,
      c.if-saturating_add-ge-SCENARIO_LIMIT.true,
    ))

pub loop-number-preserved : goal.loop-number-preserved
loop-number-preserved g c = record {
  far =
      took-more c.loop-number.text.items c.append_line.new.text.items c.next.new.line.items c.loop-number.number _ _ _
      c.in_ok-next.field-0 c.if-not-branch.false
      c.loop-number.invariant.far (record { takes = c.in_ok-next.ensures.takes; read = c.in_ok-next.ensures.read })
      (ap is_mark (sym c.as_slice.ensures.value) ∙ sym c.is_mark.ensures ∙ c.if-is_mark.false)
      (omega (
        arith,
        c.saturating_add.ensures,
        c.len.ensures,
        c.len-in-loop-number.ensures,
        c.if-saturating_add-ge-SCENARIO_LIMIT.false,
      ))
      (c.in_ok-append_line.ensures
      ∙ ap (λ (l : List ℕ). c.loop-number.text.items ++ (l ++ newline ∷ [])) c.deref.ensures.value);
  faults = c.in_ok-next.ensures.no_fault (λ e. cc) ∙ c.loop-number.invariant.faults;
}

pub returns-clause-above : goal.returns-clause-above
returns-clause-above g c =
    took-never c.loop-number.text.items c.loop-number.number _ _ _ (omega (arith, c.loop-number-test.false))
    c.loop-number.invariant.far

pub returns-in_err-next-clause-cut : goal.returns-in_err-next-clause-cut
returns-in_err-next-clause-cut g c =
    on-err _ _
    (cut-asking c.loop-number.text.items c.loop-number.number _ _ (g.S.Source.left c.next.new.source)
    c.loop-number.invariant.far (record { read = c.in_err-next.ensures.read }))

pub returns-in_err-append_line-clause-cut : goal.returns-in_err-append_line-clause-cut
returns-in_err-append_line-clause-cut g c =
    let now = input c.loop-number.lines.held (g.S.Source.left c.loop-number.source) in
    let new = input c.next.new.self.held (g.S.Source.left c.next.new.source) in
    on-err _ _
    (cut-asking c.loop-number.text.items c.loop-number.number _ now new.left c.loop-number.invariant.far
    (takes-asked c.in_ok-next.field-0 c.next.new.line.items now new
    (record { takes = c.in_ok-next.ensures.takes; read = c.in_ok-next.ensures.read })))
