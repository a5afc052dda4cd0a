use Rattle.pr_proc.proofs.ForkLemmas.{memory-lent, still-stands}
use Rattle.pr_proc.proofs.forks.lend_memory.Goals as goal

pub get_mut-requires-2 : goal.get_mut-requires-2
get_mut-requires-2 c = still-stands c.args.pid c.args.child _ c.args.sys.now.processes c.requires.borrower

pub returns : goal.returns
returns c = λ p at.
    memory-lent c.args.sys.now c.args.pid c.args.child c.get_mut.result.now _ _ _ p _ c.get_mut.ensures.value
    c.lend_space-space.ensures.process c.lend_space-space.ensures.space c.get_mut-2.ensures.value c.borrow.ensures at
