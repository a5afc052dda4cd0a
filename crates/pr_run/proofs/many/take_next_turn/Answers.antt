use Rattle.pr_run.proofs.ManyLemmas.{still-on_duty}
use Rattle.pr_run.specs.ManyRuns.{first_world}
use Rattle.pr_run.proofs.many.take_next_turn.Goals as goal

pub returns-in-Ok-Moved : goal.returns-in-Ok-Moved
returns-in-Ok-Moved g c =
    still-on_duty
    (first_world g.Q.Kernel.view c.args.lock.now) c.args.worker.processors c.args.lock.now c.args.worker.number _
    c.take_turn.ensures.seat c.take_turn.ensures.last c.requires.goes_on

pub returns-in-Ok-Idle : goal.returns-in-Ok-Idle
returns-in-Ok-Idle g c =
    still-on_duty
    (first_world g.Q.Kernel.view c.args.lock.now) c.args.worker.processors c.args.lock.now c.args.worker.number _
    c.take_turn.ensures.seat c.take_turn.ensures.last c.requires.goes_on
