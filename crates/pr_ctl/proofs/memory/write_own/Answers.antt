use Rattle.std.proofs.Common.{sym, ◌∙◌}
use Rattle.pr_ctl.proofs.MemoryLemmas.{write-lent}
use Rattle.pr_ctl.proofs.memory.write_own.Goals as goal

pub returns-then-done-clause-ok : goal.returns-then-done-clause-ok
returns-then-done-clause-ok c x found =
    write-lent c.args.sys.now c.args.pid x _ _ c.args.at c.args.bytes.now c.args.used found c.get_mut.ensures.value
    (c.in_ok-done.ensures.written c.if-done.true) (sym c.in_ok-done.ensures.value ∙ c.if-done.true)
