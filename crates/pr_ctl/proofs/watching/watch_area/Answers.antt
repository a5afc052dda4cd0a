use Rattle.std.proofs.Common.{sym}
use Rattle.pr_ctl.proofs.WatchLemmas.{watch-lent}
use Rattle.pr_ctl.proofs.watching.watch_area.Goals as goal

pub returns-in-Ok : goal.returns-in-Ok
returns-in-Ok c x found =
    watch-lent c.args.sys.now c.args.pid x _ _ c.args.at c.args.size c.args.flags c.args.length found
    c.get_mut.ensures.value c.requires.some c.requires.columns c.in-Ok.ensures.ok (sym c.in-Ok.ensures.answer)
