use Rattle.std.proofs.Common.{◌+◌, ◌∙◌, ap, map, length, arith}
use Rattle.std.proofs.lemmas.List.{length-map, length-drop}
use Rattle.std.proofs.lemmas.Result.{err_from_is_err_and}
use Rattle.pr_scen.specs.Parts.{parts_from}
use Rattle.pr_scen.specs.ProgramTexts.{program_draft_in, program_parts_added}
use Rattle.pr_scen.proofs.LineLemmas.{bytes_of}
use Rattle.pr_scen.proofs.ProgramTextLemmas.{next_program_part, no_program_part, refused_line, stopping_program_part}
use Rattle.pr_scen.proofs.program_texts.read_parts.Goals as goal

pub loop-first-init : goal.loop-first-init
unfolding program_draft_in
loop-first-init c =
    (ap (λ d. program_parts_added d (parts_from 1 (map bytes_of c.args.lines.now))) c.new-draft.ensures, omega arith)

pub returns-in_err-admitted_at : goal.returns-in_err-admitted_at
returns-in_err-admitted_at c =
    let p = err_from_is_err_and c.from_residual.result c.from_residual.ensures.1 in
    rw (p.1, p.2)
    (refused_line _ c.loop-first.draft c.loop-first.number c.in-Some.first.now c.loop-first.rest.now
    c.in-Some.below.now _ c.in-Some.ensures.cases.0 c.in_err-admitted_at.ensures c.loop-first.invariant.0)

pub returns-in_err-taken : goal.returns-in_err-taken
returns-in_err-taken c =
    let p = err_from_is_err_and c.from_residual-in_err-taken.result c.from_residual-in_err-taken.ensures.1 in
    rw (p.1, p.2)
    (stopping_program_part _ c.loop-first.draft c.loop-first.number c.in-Some.first.now c.loop-first.rest.now
    c.in-Some.below.now _ c.in-Some.ensures.cases.0 c.in_ok-admitted_at.ensures c.in_err-taken.ensures
    c.loop-first.invariant.0)

pub loop-first-preserved : goal.loop-first-preserved
loop-first-preserved c =
    let k = c.in_ok-taken.taken in
    let rest = c.loop-first.rest.now in
    let below = c.in-Some.below.now in
    let takes = c.in_ok-taken.ensures in
    let inside = takes.inside in (
      ap (λ xs. program_parts_added c.take_part.new.self (parts_from (c.loop-first.number + k) (map bytes_of xs)))
          c.lines_from-rest.ensures
          ∙ next_program_part c.loop-first.draft c.take_part.new.self c.loop-first.number k c.in-Some.first.now rest
          below _ c.in-Some.ensures.cases.0 c.in_ok-admitted_at.ensures takes c.loop-first.invariant.0,
      omega (
        arith,
        ap length c.lines_from-rest.ensures,
        length-drop k rest,
        c.in-Some.ensures.cases.1,
        length-map below bytes_of,
        c.loop-first.invariant.1,
      ),
    )

pub returns : goal.returns
returns c =
    no_program_part c.loop-first.draft c.loop-first.number c.loop-first.rest.now _ c.in_default.ensures.cases
    c.loop-first.invariant.0
