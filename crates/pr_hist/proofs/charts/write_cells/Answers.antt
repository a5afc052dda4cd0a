use Rattle.std.proofs.Common.{◌≤◌, length, arith, rules}
use Rattle.pr_hist.proofs.CellLemmas.{cells-next, cells-done}
use Rattle.pr_hist.proofs.charts.write_cells.Goals as goal

pub loop-at-preserved : goal.loop-at-preserved
loop-at-preserved c =
    cells-next c.args.sheet c.args.names.now c.args.entry.now c.args.label.now c.loop-at.passed _ c.loop-at.at
    c.args.lanes.now c.loop-at.text c.write_first_cell.new.text _
    (omega (arith, c.loop-at-test.true)) (search rules) (search rules) c.loop-at.invariant

pub returns : goal.returns
returns c =
    let past : length c.args.lanes.now ≤ c.loop-at.at = omega (arith, c.loop-at-test.false) in
    cells-done c.args.sheet c.args.names.now c.args.entry.now c.args.label.now c.loop-at.passed c.loop-at.at
    c.args.lanes.now c.loop-at.text _ past c.loop-at.invariant
