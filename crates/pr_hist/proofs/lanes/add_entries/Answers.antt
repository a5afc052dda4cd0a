use Rattle.std.proofs.Common.{◌≡◌, ◌≤◌, Some, length, arith, rules}
use Rattle.std.specs.List.{slice_get}
use Rattle.pr_hist.proofs.BlockLemmas.{entry_found}
use Rattle.pr_hist.proofs.LaneLemmas.{with_entries-next, with_entries-done}
use Rattle.pr_hist.proofs.lanes.add_entries.Goals as goal

pub loop-at-preserved : goal.loop-at-preserved
loop-at-preserved c =
    let h = c.args.history.now.entries in
    let at = c.loop-at.at in
    let entry = c.unwrap-entry.result in
    let here : slice_get h at ≡ Some entry.now = entry_found c.get.result h at entry (search rules) c.get.ensures in
    with_entries-next c.args.of c.args.who at c.loop-at.lanes.items c.add_entry.new.lanes.items h entry.now _
    here (search rules) c.loop-at.invariant

pub returns : goal.returns
returns c =
    let past : length c.args.history.now.entries ≤ c.loop-at.at =
    omega (arith, c.len-at-end.ensures, c.loop-at-test.false) in
    with_entries-done c.args.of c.args.who c.loop-at.at c.loop-at.lanes.items c.args.history.now.entries _
    past c.loop-at.invariant
