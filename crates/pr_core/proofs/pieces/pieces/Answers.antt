use Rattle.std.proofs.Common.{◌≡◌, ◌+◌, ◌-◌, ℕ, List, take, drop, Ok, ap, sym, subst, ◌∙◌, arith}
use Rattle.std.proofs.lemmas.Bool.{eqb-true}
use Rattle.std.proofs.lemmas.Result.{err_from_is_err_and}
use Rattle.pr_core.proofs.FaultLemmas.{is_fault}
use Rattle.pr_core.proofs.PieceLemmas.{AreTaken, one_taken, none_there, all_taken}
use Rattle.pr_core.proofs.pieces.pieces.Goals as goal

pub returns-in_err-size-clause-err : goal.returns-in_err-size-clause-err
returns-in_err-size-clause-err c =
    let p = err_from_is_err_and c.from_residual.result c.from_residual.ensures.1 in
    let refused = none_there c.args.maps.now c.args.bytes.now c.args.begin c.loop-mapping.mapping-index
    c.loop-mapping.at c.loop-mapping.memory c.mapping-item.result _
    c.loop-mapping.invariant (omega arith) (sym c.mapping-item.is) (sym c.in_err-size.ensures.value) in
    rw (p.1, p.2) (is_fault _ _ refused)

pub loop-mapping-preserved : goal.loop-mapping-preserved
loop-mapping-preserved c =
    let at : ℕ = c.loop-mapping.at in
    let size : ℕ = c.in_ok-size.size in
    let bytes : List ℕ = c.args.bytes.now in
    let count : at + 16 + size - (at + 16) ≡ size = omega arith in
    let taken : c.in_ok-copied.field-0 ≡ take size (drop (at + 16) bytes) =
    c.in_ok-copied.ensures ∙ ap (λ (n : ℕ). take n (drop (at + 16) bytes)) count in
    subst (AreTaken c.args.maps.now bytes c.args.begin (c.loop-mapping.mapping-index + 1) (at + 16 + size))
    (sym c.in_ok-push.ensures.ok)
    (one_taken c.args.maps.now bytes c.args.begin c.loop-mapping.mapping-index at size c.loop-mapping.memory
    c.in_ok-copied.field-0 c.mapping-item.result
    c.loop-mapping.invariant (omega arith) (sym c.mapping-item.is) (sym c.in_ok-size.ensures.value)
    (eqb-true _ _ c.in_ok-size.ensures.fits) taken)

pub returns-clause-ok : goal.returns-clause-ok
returns-clause-ok c =
    all_taken c.args.maps.now c.args.bytes.now c.args.begin c.loop-mapping.mapping-index c.loop-mapping.at
    c.loop-mapping.memory c.loop-mapping.invariant (omega arith)
    ∙ ap (λ (found : List (List ℕ)). Ok (record { found = found; next = c.loop-mapping.at })) (sym c.into_vec.ensures)
