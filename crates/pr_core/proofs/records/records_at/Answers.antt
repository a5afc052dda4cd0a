use Rattle.std.proofs.Common.{◌≡◌, ◌+◌, ◌*◌, ℕ, length, map, Ok, All, ap, sym, subst, ◌∙◌, arith}
use Rattle.std.proofs.lemmas.List.Elements.{All-nil, All-push}
use Rattle.std.proofs.lemmas.Result.{err_from_is_err_and}
use Rattle.pr_core.proofs.FaultLemmas.{is_fault}
use Rattle.pr_core.proofs.RecordsLemmas.{AreRead, none_read, one_read, none_found, all_read}
use Rattle.pr_core.proofs.records.records_at.Goals as goal

pub loop-place-init : goal.loop-place-init
loop-place-init g c = record {
  read = subst (AreRead g.R.Entry.words g.R.Entry.ranges c.args.bytes.now c.args.count c.args.at 0)
      (sym c.new-records.ensures) (none_read g.R.Entry.words g.R.Entry.ranges c.args.bytes.now c.args.count c.args.at);
  ranged = subst (All g.R.Entry.is_ranged) (sym c.new-records.ensures) (All-nil g.R.Entry.is_ranged);
}

pub returns-in_err-record_at-clause-err : goal.returns-in_err-record_at-clause-err
returns-in_err-record_at-clause-err g c =
    let p = err_from_is_err_and c.from_residual.result c.from_residual.ensures.1 in
    let here : c.args.at + c.size.result * c.loop-place.place
    ≡ c.args.at + 8 * length g.R.Entry.ranges * c.loop-place.place =
    ap (λ (size : ℕ). c.args.at + size * c.loop-place.place) c.size.ensures.value in
    rw (p.1, p.2) (is_fault _ _ (none_found g.R.Entry.words g.R.Entry.ranges c.args.bytes.now c.args.count c.args.at
    c.loop-place.place _ c.loop-place.records _ c.loop-place.invariant.read (omega arith) here
    c.in_err-record_at.ensures.err))

pub loop-place-preserved : goal.loop-place-preserved
loop-place-preserved g c =
    let pushed = c.in_ok-push.ensures.ok in
    let here : c.args.at + c.size.result * c.loop-place.place
    ≡ c.args.at + 8 * length g.R.Entry.ranges * c.loop-place.place =
    ap (λ (size : ℕ). c.args.at + size * c.loop-place.place) c.size.ensures.value in
    record {
      read = subst (AreRead g.R.Entry.words g.R.Entry.ranges c.args.bytes.now c.args.count c.args.at
          (c.loop-place.place + 1)) (sym pushed)
          (one_read g.R.Entry.words g.R.Entry.ranges c.args.bytes.now c.args.count c.args.at c.loop-place.place _
          c.loop-place.records c.in_ok-record_at.field-0 c.loop-place.invariant.read (omega arith) here
          c.in_ok-record_at.ensures.ok);
      ranged = subst (All g.R.Entry.is_ranged) (sym pushed)
          (All-push g.R.Entry.is_ranged _ _ c.loop-place.invariant.ranged c.in_ok-record_at.ensures.ranged);
    }

pub returns-clause-ok : goal.returns-clause-ok
returns-clause-ok g c =
    all_read g.R.Entry.words g.R.Entry.ranges c.args.bytes.now c.args.count c.args.at c.loop-place.place
    c.loop-place.records c.loop-place.invariant.read (omega arith)
    ∙ ap (λ records. Ok (map g.R.Entry.words records)) (sym c.into_vec.ensures)

pub returns-clause-ranged : goal.returns-clause-ranged
returns-clause-ranged g c = subst (All g.R.Entry.is_ranged) (sym c.into_vec.ensures) c.loop-place.invariant.ranged
