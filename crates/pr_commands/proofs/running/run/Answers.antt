use Rattle.std.proofs.Common.{refl}
use Rattle.pr_num.specs.Limits.{scenario_limit}
use Rattle.pr_commands.specs.Answers.{answer_to, run_text_of}
use Rattle.pr_commands.specs.Histories.{in_rounds}
use Rattle.pr_commands.specs.Rows.{IsThe}
use Rattle.pr_commands.proofs.ReadingLemmas.{reads-answered}
use Rattle.pr_commands.proofs.running.run.Goals as goal

pub returns-in-Ok : goal.returns-in-Ok
returns-in-Ok g c =
    reads-answered scenario_limit (IsThe (answer_to (run_text_of c.args.showing))) in_rounds _ _ _ _ c.in-Ok.input
    (answer_to (run_text_of c.args.showing) c.in-Ok.input) c.in-Ok.ensures.took
    (c.in-Ok.ensures.no_fault (λ is. cc)) refl c.respond.ensures
