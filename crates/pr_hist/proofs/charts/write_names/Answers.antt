use Rattle.std.proofs.Common.{◌≤◌, length, arith, rules}
use Rattle.pr_hist.proofs.CellLemmas.{name_cells-next, name_cells-done}
use Rattle.pr_hist.proofs.charts.write_names.Goals as goal

pub loop-at-preserved : goal.loop-at-preserved
loop-at-preserved c =
    name_cells-next c.args.sheet c.loop-at.at c.args.lanes.now c.loop-at.text c.write_first_name.new.text _
    (omega (arith, c.loop-at-test.true)) (search rules) c.loop-at.invariant

pub returns : goal.returns
returns c =
    let past : length c.args.lanes.now ≤ c.loop-at.at = omega (arith, c.loop-at-test.false) in
    name_cells-done c.args.sheet c.loop-at.at c.args.lanes.now c.loop-at.text _ past c.loop-at.invariant
