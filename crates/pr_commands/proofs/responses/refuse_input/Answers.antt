use Rattle.std.proofs.Common.{◌∙◌}
use Rattle.pr_commands.specs.Answers.{refused_at}
use Rattle.pr_commands.proofs.GivingLemmas.{gives, whole-refused}
use Rattle.pr_commands.proofs.responses.refuse_input.Goals as goal

pub returns : goal.returns
unfolding refused_at
returns g c =
    gives c.write_refusal-written.result
    (refused_at c.args.line c.args.kind.now) c.without_history.result.status
    c.without_history.result.history.entries _ _ _ _
    whole-refused c.without_history.ensures.history
    (c.without_history.ensures.status ∙ c.status_after.ensures.after) c.write_refusal-written.ensures
