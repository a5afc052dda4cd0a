use Rattle.std.proofs.Common.{refl, sym, arith}
use Rattle.std.proofs.lemmas.Result.{err_from_is_err_and}
use Rattle.pr_mem.proofs.PlaceLemmas.{IsUnderWay-start}
use Rattle.pr_mem.proofs.RunLemmas.{IsChecked-start, IsChecked-more, IsChecked-fails}
use Rattle.pr_mem.proofs.accesses.check.Goals as goal

pub loop-done-init : goal.loop-done-init
loop-done-init c = record {
  bytes = IsChecked-start c.args.need c.args.mappings.now c.args.at c.args.len (omega arith);
  next = IsUnderWay-start c.args.mappings.now c.args.at c.args.len c.args.first c.requires.place;
}

pub run_at-requires-clause-place : goal.run_at-requires-clause-place
run_at-requires-clause-place c = c.loop-done.invariant.next.place c.loop-done-test.true

pub returns-in_err-run-clause-answer : goal.returns-in_err-run-clause-answer
returns-in_err-run-clause-answer c =
    let p = err_from_is_err_and c.from_residual.result c.from_residual.ensures.1 in
    rw (p.1, p.2)
    (sym (IsChecked-fails c.args.need c.args.mappings.now c.args.at c.args.len c.loop-done.done
    c.in_err-run.field-0.0 c.loop-done.invariant.bytes c.loop-done-test.true c.in_err-run.ensures.err))

pub loop-done-preserved : goal.loop-done-preserved
loop-done-preserved c = record {
  bytes = IsChecked-more c.args.need c.args.mappings.now c.args.at c.args.len c.loop-done.done _ c.in_ok-run.run'.now
      c.loop-done.invariant.bytes refl c.in_ok-run.ensures.ok;
  next = record { place = λ near. c.next_place-place.ensures (omega arith) };
}
