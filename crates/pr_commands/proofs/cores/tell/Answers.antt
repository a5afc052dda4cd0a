use Rattle.std.proofs.Common.{◌∙◌}
use Rattle.std.proofs.lemmas.List.{append-nil}
use Rattle.pr_commands.proofs.GivingLemmas.{gives, puts-same, whole-done}
use Rattle.pr_commands.specs.Answers.{text_written}
use Rattle.pr_commands.proofs.cores.tell.Goals as goal

pub returns : goal.returns
returns g c =
    gives c.write_pieces-written.result
    (text_written c.args.text.now) c.without_history.result.status c.without_history.result.history.entries _ _ _ _
    whole-done c.without_history.ensures.history (c.without_history.ensures.status ∙ c.status_after.ensures.after)
    (puts-same _ _ _ _ _ _ _ (append-nil c.args.text.now) c.write_pieces-written.ensures.put)
