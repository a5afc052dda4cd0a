use Rattle.std.proofs.Common.{◌+◌, ◌∙◌, ap, map, length, arith}
use Rattle.std.proofs.lemmas.List.{length-map, length-drop}
use Rattle.std.proofs.lemmas.Result.{err_from_is_err_and}
use Rattle.pr_scen.specs.Blocks.{parts_added}
use Rattle.pr_scen.specs.Parts.{parts_from}
use Rattle.pr_scen.specs.Reading.{draft_in}
use Rattle.pr_scen.proofs.LineLemmas.{bytes_of}
use Rattle.pr_scen.proofs.PartLemmas.{next_part, no_part, stopping_part}
use Rattle.pr_scen.proofs.reading.read_parts.Goals as goal

pub loop-first-init : goal.loop-first-init
unfolding draft_in
loop-first-init c =
    (ap (λ d. parts_added d (parts_from 1 (map bytes_of c.args.lines.now))) c.new-draft.ensures, omega arith)

pub loop-first-preserved : goal.loop-first-preserved
loop-first-preserved c =
    let k = c.in_ok-taken.taken in
    let rest = c.loop-first.rest.now in
    let below = c.in-Some.below.now in
    let takes = c.in_ok-taken.ensures in
    let inside = takes.inside in (
      ap (λ xs. parts_added c.take_part.new.self (parts_from (c.loop-first.number + k) (map bytes_of xs)))
          c.lines_from-rest.ensures
          ∙ next_part c.loop-first.draft c.take_part.new.self c.loop-first.number k c.in-Some.first.now rest below _
          c.in-Some.ensures.cases.0 takes c.loop-first.invariant.0,
      omega (
        arith,
        ap length c.lines_from-rest.ensures,
        length-drop k rest,
        c.in-Some.ensures.cases.1,
        length-map below bytes_of,
        c.loop-first.invariant.1,
      ),
    )

pub returns : goal.returns
returns c =
    no_part c.loop-first.draft c.loop-first.number c.loop-first.rest.now _ c.in_default.ensures.cases
    c.loop-first.invariant.0

pub returns-in_err-taken : goal.returns-in_err-taken
returns-in_err-taken c =
    let p = err_from_is_err_and c.from_residual.result c.from_residual.ensures.1 in
    rw (p.1, p.2)
    (stopping_part _ c.loop-first.draft c.loop-first.number c.in-Some.first.now c.loop-first.rest.now
    c.in-Some.below.now _ c.in-Some.ensures.cases.0 c.in_err-taken.ensures c.loop-first.invariant.0)
