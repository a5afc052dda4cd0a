use Rattle.std.proofs.Common.{◌∙◌, refl, sym, arith}
use Rattle.std.proofs.lemmas.Result.{err_from_is_err_and}
use Rattle.pr_num.proofs.TableLemmas.{position-within}
use Rattle.pr_parts.proofs.ByAddressLemmas.{place-none, place-some}
use Rattle.pr_mem.proofs.PlaceLemmas.{IsUnderWay-start}
use Rattle.pr_mem.proofs.TextLemmas.{IsOpen-start, IsOpen-more, IsOpen-found, IsOpen-fails, IsOpen-end}
use Rattle.pr_mem.proofs.texts.length_at.Goals as goal
use Rattle.pr_num.specs.Padding.{is_zero}

pub loop-done-init : goal.loop-done-init
loop-done-init c = record {
  text = IsOpen-start c.args.mappings.now c.args.at c.args.most (omega arith);
  next = IsUnderWay-start c.args.mappings.now c.args.at c.args.most c.args.first c.requires.place;
}

pub run_at-requires-clause-place : goal.run_at-requires-clause-place
run_at-requires-clause-place c = c.loop-done.invariant.next.place c.loop-done-test.true

pub returns-in_err-run : goal.returns-in_err-run
returns-in_err-run c =
    let p = err_from_is_err_and c.from_residual.result c.from_residual.ensures.1 in
    rw (p.1, p.2)
    (sym (IsOpen-fails c.args.mappings.now c.args.at c.args.most c.loop-done.done c.in_err-run.field-0.0
    c.loop-done.invariant.text c.loop-done-test.true c.in_err-run.ensures.err))

pub returns-in-Some : goal.returns-in-Some
returns-in-Some c =
    let run = c.in_ok-run.run'.now in
    let at = sym c.zero_in.ensures ∙ c.in-Some.is in
    sym (IsOpen-found c.args.mappings.now c.args.at c.args.most c.loop-done.done _ run c.in-Some.end
    c.loop-done.invariant.text refl c.in_ok-run.ensures.ok (place-some is_zero run c.in-Some.end at)
    (position-within is_zero run c.in-Some.end at))

pub loop-done-preserved : goal.loop-done-preserved
loop-done-preserved c =
    let run = c.in_ok-run.run'.now in
    record {
      text = IsOpen-more c.args.mappings.now c.args.at c.args.most c.loop-done.done _ run c.loop-done.invariant.text
          refl c.in_ok-run.ensures.ok (sym (place-none is_zero run (sym c.zero_in.ensures ∙ c.in_default.is)));
      next = record { place = λ near. c.next_place-place.ensures (omega arith) };
    }

pub returns : goal.returns
returns c =
    sym (IsOpen-end c.args.mappings.now c.args.at c.args.most c.loop-done.done c.loop-done.invariant.text (omega arith))
