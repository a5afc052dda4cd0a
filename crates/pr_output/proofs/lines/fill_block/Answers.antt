use Rattle.std.proofs.Common.{rules, ◌≡◌, Some, inr, arith}
use Rattle.std.specs.List.{slice_get}
use Rattle.pr_output.proofs.Entries.{found-value, block-more, least-more}
use Rattle.pr_output.proofs.lines.fill_block.Goals as goal

pub returns-then-len-ge-BLOCK : goal.returns-then-len-ge-BLOCK
returns-then-len-ge-BLOCK c =
    let here : slice_get c.args.history.now.entries c.loop-at.at ≡ Some c.unwrap-entry.result.now =
    found-value c.get.result c.args.history.now.entries c.loop-at.at c.unwrap-entry.result
    (search rules) c.get.ensures in
    record {
      goes_on = omega (arith, c.loop-at.auto.at);
      within = omega (arith, c.loop-at-test.true, c.loop-at.invariant.end);
      lines = block-more _ _ _ _ _ _ here c.loop-at.invariant.lines c.in_ok-write_entry.ensures.written;
      full = inr (omega arith);
      least = least-more _ _ _ _ _ c.loop-at.invariant.lines c.loop-at.invariant.short c.loop-at.invariant.least;
    }

pub loop-at-preserved : goal.loop-at-preserved
loop-at-preserved c =
    let here : slice_get c.args.history.now.entries c.loop-at.at ≡ Some c.unwrap-entry.result.now =
    found-value c.get.result c.args.history.now.entries c.loop-at.at c.unwrap-entry.result
    (search rules) c.get.ensures in
    record {
      lines = block-more _ _ _ _ _ _ here c.loop-at.invariant.lines c.in_ok-write_entry.ensures.written;
      end = c.loop-at.invariant.end;
      short = omega arith;
      least = least-more _ _ _ _ _ c.loop-at.invariant.lines c.loop-at.invariant.short c.loop-at.invariant.least;
    }
