use Rattle.std.proofs.Common.{length, refl, sym, arith}
use Rattle.std.proofs.lemmas.Result.{err_from_is_err_and}
use Rattle.pr_mem.proofs.PlaceLemmas.{IsUnderWay-start}
use Rattle.pr_mem.proofs.RunLemmas.{IsFilled-start, IsFilled-more, IsFilled-checked, IsChecked-fails}
use Rattle.pr_mem.proofs.accesses.fill.Goals as goal

pub loop-done-init : goal.loop-done-init
loop-done-init c = record {
  bytes = IsFilled-start c.args.need c.args.mappings.now c.args.at c.args.out.now (omega arith);
  next = IsUnderWay-start c.args.mappings.now c.args.at (length c.args.out.now) c.args.first c.requires.place;
}

pub run_at-requires-clause-place : goal.run_at-requires-clause-place
run_at-requires-clause-place c = c.loop-done.invariant.next.place (omega arith)

pub returns-in_err-run-clause-answer : goal.returns-in_err-run-clause-answer
returns-in_err-run-clause-answer c =
    let p = err_from_is_err_and c.from_residual.result c.from_residual.ensures.1 in
    let kept =
    IsFilled-checked c.args.need c.args.mappings.now c.args.at c.loop-done.out c.loop-done.done
    c.loop-done.invariant.bytes in
    rw (p.1, p.2, ← c.loop-done.auto.out)
    (sym (IsChecked-fails c.args.need c.args.mappings.now c.args.at
    (length c.loop-done.out) c.loop-done.done c.in_err-run.field-0.0 kept c.loop-done-test.true
    c.in_err-run.ensures.err))

pub loop-done-preserved : goal.loop-done-preserved
loop-done-preserved c = record {
  bytes = IsFilled-more c.args.need c.args.mappings.now c.args.at c.loop-done.out c.loop-done.done _
      c.in_ok-run.run'.now c.copy_from_slice.new.self _ c.loop-done.invariant.bytes refl c.in_ok-run.ensures.ok
      (omega arith) c.copy_from_slice.ensures.after;
  next = record { place = λ near. c.next_place-place.ensures (omega arith) };
}
