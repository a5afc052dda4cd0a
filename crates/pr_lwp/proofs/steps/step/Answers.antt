use Rattle.std.proofs.Common.{◌∙◌}
use Rattle.pr_lwp.proofs.StepLemmas.{none-stepped, some-stepped}
use Rattle.pr_lwp.proofs.steps.step.Goals as goal

pub returns-in-None-clause-lwp : goal.returns-in-None-clause-lwp
returns-in-None-clause-lwp g c =
    c.use_step.ensures
    ∙ none-stepped c.execute.new.regs c.args.lwp.now c.in_ok-execute.field-0 _ c.in_ok-execute.ensures.outcome
    c.in-None.is

pub returns-in-Some-clause-lwp : goal.returns-in-Some-clause-lwp
returns-in-Some-clause-lwp g c =
    c.finish.ensures
    ∙ some-stepped c.execute.new.regs c.args.lwp.now c.in_ok-execute.field-0 _ c.in_ok-execute.ensures.outcome
    c.in-Some.outcome c.in-Some.is c.in_ok-execute.ensures.regs
