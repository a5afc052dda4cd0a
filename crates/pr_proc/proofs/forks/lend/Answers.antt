use Rattle.std.proofs.Common.{refl}
use Rattle.pr_model.specs.Lives.{by_vfork}
use Rattle.pr_model.specs.Statuses.{arguments_in}
use Rattle.pr_proc.proofs.ForkLemmas.{both-stand, child-lent}
use Rattle.pr_proc.proofs.forks.lend.Goals as goal

pub lend_memory-requires-clause-lender : goal.lend_memory-requires-clause-lender
lend_memory-requires-clause-lender c =
    let added = c.in_ok-add_child.ensures.ok in
    (both-stand c.args.sys.now _ _ c.args.pid _ c.requires.free c.in_ok-child.ensures.same added c.requires.live).0

pub lend_memory-requires-clause-borrower : goal.lend_memory-requires-clause-borrower
lend_memory-requires-clause-borrower c =
    let added = c.in_ok-add_child.ensures.ok in
    (both-stand c.args.sys.now _ _ c.args.pid _ c.requires.free c.in_ok-child.ensures.same added c.requires.live).1

-- the child is the one that was made, with its parent's memory and descriptors
pub returns-clause-ok : goal.returns-clause-ok
returns-clause-ok c = λ p live l own.
    let args = arguments_in l.regs l.phase in
    let made = c.in_ok-child.ensures.child by_vfork refl p live l own in
    child-lent c.args.sys.now _ _ _ c.args.pid args p _ l c.requires.free c.in_ok-child.ensures.same
    c.in_ok-add_child.ensures.ok c.lend_memory.ensures live made
