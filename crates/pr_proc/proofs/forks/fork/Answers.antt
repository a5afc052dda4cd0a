use Rattle.std.proofs.Common.{refl, ap, sym, ◌∙◌}
use Rattle.std.specs.Option.{option_copied}
use Rattle.pr_model.specs.Lives.{by_fork}
use Rattle.pr_model.specs.Statuses.{arguments_in}
use Rattle.pr_proc.proofs.ForkLemmas.{child-forked}
use Rattle.pr_proc.proofs.forks.fork.Goals as goal

-- the child is the one that was made, with a copy of its parent's memory and with its parent's descriptors
pub returns-clause-ok : goal.returns-clause-ok
returns-clause-ok c = λ p live l own.
    let args = arguments_in l.regs l.phase in
    let taken = sym c.live-2.ensures ∙ ap option_copied c.unwrap-2.ensures in
    let made = c.in_ok-child.ensures.child by_fork refl p live l own in
    child-forked c.args.sys.now _ _ c.args.pid args p c.unwrap-2.result.now _ l _ c.in_ok-child.ensures.same taken
    c.in_ok-child-2.ensures c.in_ok-add_child.ensures.ok live made
