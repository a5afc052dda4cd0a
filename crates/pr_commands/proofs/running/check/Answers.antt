use Rattle.std.proofs.Common.{refl}
use Rattle.pr_num.specs.Limits.{checked_limit}
use Rattle.pr_commands.specs.Answers.{check_of}
use Rattle.pr_commands.specs.Histories.{no_run}
use Rattle.pr_commands.specs.Rows.{IsThe}
use Rattle.pr_commands.proofs.ReadingLemmas.{reads-answered}
use Rattle.pr_commands.proofs.running.check.Goals as goal

pub returns-in-Ok : goal.returns-in-Ok
returns-in-Ok g c =
    reads-answered checked_limit (IsThe check_of) no_run _ _ _ _ c.in-Ok.input
    (check_of c.in-Ok.input) c.in-Ok.ensures.took (c.in-Ok.ensures.no_fault (λ is. cc)) refl c.judge_input.ensures
