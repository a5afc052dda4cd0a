use Rattle.std.proofs.Common.{◌∙◌}
use Rattle.pr_call.proofs.MemoryLemmas.{space-done, space-outcome}
use Rattle.pr_call.proofs.memory.unmap.Goals as goal

pub returns-clause-system : goal.returns-clause-system
returns-clause-system c p found id l =
    space-done c.args.sys.now c.args.pid _ p _ _ _ id l c.get_mut.ensures.value found
    (c.munmap-answer.ensures.effect c.args.sys.now p) c.munmap-answer.ensures.err

pub returns-clause-outcome : goal.returns-clause-outcome
returns-clause-outcome c p found =
    c.done.ensures c.munmap-answer.new.space
    ∙ space-outcome c.args.sys.now c.args.pid _ p _ _ _ c.get_mut.ensures.value found
    (c.munmap-answer.ensures.effect c.args.sys.now p)
