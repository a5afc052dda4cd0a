use Rattle.std.proofs.Common.{◌≡◌, ◌≤◌, Some, length, arith, rules}
use Rattle.std.specs.List.{slice_get}
use Rattle.pr_hist.proofs.BlockLemmas.{entry_found}
use Rattle.pr_hist.proofs.LaneLemmas.{rows_from-next, rows_from-done}
use Rattle.pr_hist.proofs.drawings.rows_of.Goals as goal

pub loop-at-preserved : goal.loop-at-preserved
loop-at-preserved c =
    let h = c.args.history.now.entries in
    let at = c.loop-at.at in
    let entry = c.unwrap-entry.result in
    let here : slice_get h at ≡ Some entry.now = entry_found c.get.result h at entry (search rules) c.get.ensures in
    record {
      told = rows_from-next c.args.selection at c.loop-at.row _ c.loop-at.names c.note.new.names h entry.now _
          here (search rules) (search rules) c.loop-at.invariant.told;
      few = omega (arith, c.loop-at.invariant.few, c.row_after-row.ensures.range);
    }

pub returns : goal.returns
returns c =
    let past : length c.args.history.now.entries ≤ c.loop-at.at =
    omega (arith, c.len-at-end.ensures, c.loop-at-test.false) in
    rows_from-done c.args.selection c.loop-at.at c.loop-at.row c.loop-at.names
    c.args.history.now.entries _ past c.loop-at.invariant.told
