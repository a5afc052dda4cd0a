use Rattle.std.proofs.Common.{rules, ◌≡◌, ◌∙◌, decimal}
use Rattle.pr_commands.proofs.GivingLemmas.{gives, puts-same}
use Rattle.pr_commands.proofs.PieceLemmas.{numbered}
use Rattle.pr_commands.specs.Answers.{said}
use Rattle.pr_commands.proofs.judgements.say.Goals as goal

pub returns : goal.returns
returns g c =
    let digits : c.as_bytes.result.now ≡ decimal c.args.number = search rules in
    let text = numbered c.args.before c.as_bytes.result c.args.behind c.args.number digits in
    gives c.write_pieces-written.result
    (said c.args.status c.args.before.now c.args.number c.args.behind.now) c.without_history.result.status
    c.without_history.result.history.entries _ _ _ _
    c.requires c.without_history.ensures.history (c.without_history.ensures.status ∙ c.status_after.ensures.after)
    (puts-same _ _ _ _ _ _ _ text c.write_pieces-written.ensures.put)
