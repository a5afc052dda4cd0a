use Rattle.std.proofs.Common.{◌≡◌, ◌≤◌, Some, length, arith, rules}
use Rattle.std.specs.List.{slice_get}
use Rattle.pr_hist.proofs.BlockLemmas.{entry_found, blocks-next, blocks-done}
use Rattle.pr_hist.proofs.histories.write_history.Goals as goal

pub loop-at-preserved : goal.loop-at-preserved
loop-at-preserved c =
    let h = c.args.history.now.entries in
    let at = c.loop-at.at in
    let entry = c.unwrap-entry.result in
    let here : slice_get h at ≡ Some entry.now = entry_found c.get.result h at entry (search rules) c.get.ensures in
    blocks-next at c.loop-at.names c.note.new.names h entry.now c.loop-at.text c.words_of.new.text _
    here (search rules) (search rules) c.loop-at.invariant

pub returns : goal.returns
returns c =
    let past : length c.args.history.now.entries ≤ c.loop-at.at =
    omega (arith, c.len-at-end.ensures, c.loop-at-test.false) in
    blocks-done c.loop-at.at c.loop-at.names c.args.history.now.entries c.loop-at.text _ past c.loop-at.invariant
