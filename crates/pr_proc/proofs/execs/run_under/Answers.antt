use Rattle.pr_proc.proofs.ExecLemmas.{run-changed}
use Rattle.pr_proc.proofs.execs.run_under.Goals as goal

-- the process that stands is the one that is changed
pub returns-clause-processes : goal.returns-clause-processes
returns-clause-processes c = λ p found l own.
    run-changed c.args.pid c.args.id _ p _ l c.args.program.now c.args.processes.now c.get_mut.ensures.value found own
    c.run.ensures.process
