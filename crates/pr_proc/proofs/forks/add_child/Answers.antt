use Rattle.pr_proc.proofs.ForkLemmas.{child-given, next-beside, next-some}
use Rattle.pr_proc.proofs.forks.add_child.Goals as goal

-- the child stands under its id
pub give_fds_to-requires : goal.give_fds_to-requires
give_fds_to-requires c =
    rw c.share_fds-fds.ensures.processes (next-some c.args.sys.now _ c.args.child c.in_ok-add_process.ensures.ok)

-- and has its descriptors
pub returns-clause-ok : goal.returns-clause-ok
returns-clause-ok c = λ p live.
    let stands =
    next-beside c.args.sys.now _ c.args.pid p c.args.child c.requires.free live c.in_ok-add_process.ensures.ok in
    child-given c.args.sys.now _ _ _ p c.args.child _ c.in_ok-add_process.ensures.ok
    (c.share_fds-fds.ensures.system p stands) (c.share_fds-fds.ensures.fds p stands) c.give_fds_to.ensures
