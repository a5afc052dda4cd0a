use Rattle.std.proofs.Common.{◌∙◌}
use Rattle.pr_commands.proofs.GivingLemmas.{gives, whole-usage}
use Rattle.pr_commands.specs.Answers.{explained}
use Rattle.pr_commands.proofs.answers.explain.Goals as goal

pub returns-clause-responds : goal.returns-clause-responds
unfolding explained
returns-clause-responds g c =
    gives c.write_pieces-written.result explained c.without_history.result.status
    c.without_history.result.history.entries _ _ _ _
    whole-usage c.without_history.ensures.history
    (c.without_history.ensures.status ∙ c.status_after.ensures.after) c.write_pieces-written.ensures.put
