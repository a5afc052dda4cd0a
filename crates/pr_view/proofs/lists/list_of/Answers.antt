use Rattle.std.proofs.Common.{rules}
use Rattle.pr_view.proofs.ListLemmas.{entries-start, entries-on}
use Rattle.pr_view.proofs.lists.list_of.Goals as goal

pub loop-pid-init : goal.loop-pid-init
loop-pid-init c =
    entries-start c.args.sys.now.processes c.new-entries.result.items (search (rules, c.new-entries.ensures))

pub loop-pid-preserved : goal.loop-pid-preserved
loop-pid-preserved c =
    entries-on _ _ _ _ _ _ _ c.in-Some.ensures.rest c.in_ok-add_process.ensures c.loop-pid.invariant
