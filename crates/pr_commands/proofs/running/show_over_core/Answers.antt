use Rattle.pr_commands.specs.Answers.{MayShowCore}
use Rattle.pr_commands.specs.CoreInputs.{core_limit}
use Rattle.pr_commands.specs.Histories.{no_run}
use Rattle.pr_commands.proofs.ReadingLemmas.{reads-one}
use Rattle.pr_commands.proofs.running.show_over_core.Goals as goal

pub returns-in-Ok : goal.returns-in-Ok
returns-in-Ok g c =
    reads-one core_limit (MayShowCore c.args.kind) no_run _ _ _ _ c.in-Ok.input c.in-Ok.ensures.took
    (c.in-Ok.ensures.no_fault (λ is. cc)) c.show_core.ensures
