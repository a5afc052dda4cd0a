use Rattle.pr_num.specs.Limits.{scenario_limit}
use Rattle.pr_commands.specs.Answers.{MayAnswer}
use Rattle.pr_commands.specs.Histories.{by_threads}
use Rattle.pr_commands.proofs.ReadingLemmas.{reads-one}
use Rattle.pr_commands.proofs.running.run_on_threads.Goals as goal

pub returns-in-Ok : goal.returns-in-Ok
returns-in-Ok g c =
    reads-one scenario_limit (MayAnswer c.args.showing) by_threads _ _ _ _ c.in-Ok.input c.in-Ok.ensures.took
    (c.in-Ok.ensures.no_fault (λ is. cc)) c.share.ensures
