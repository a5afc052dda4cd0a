use Rattle.std.proofs.Common.{rules, ◌≡◌, ◌∙◌}
use Rattle.pr_plain.specs.Generated.{generated_text}
use Rattle.pr_commands.proofs.GivingLemmas.{gives, puts-same, whole-done}
use Rattle.pr_commands.specs.Answers.{generated}
use Rattle.pr_commands.specs.Giving.{text_of}
use Rattle.pr_commands.proofs.answers.generate.Goals as goal

pub returns-clause-responds : goal.returns-clause-responds
unfolding generated
returns-clause-responds g c =
    let text : text_of c.generated_pieces-pieces.result ≡ generated_text c.args.children =
    c.generated_pieces-pieces.ensures c.args.children (search rules) in
    gives c.write_pieces-written.result
    (generated c.args.children) c.without_history.result.status c.without_history.result.history.entries _ _ _ _
    whole-done c.without_history.ensures.history (c.without_history.ensures.status ∙ c.status_after.ensures.after)
    (puts-same _ _ _ _ _ _ _ text c.write_pieces-written.ensures.put)
