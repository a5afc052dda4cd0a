use Rattle.std.proofs.Common.{sym, ap, ◌∙◌}
use Rattle.pr_model.specs.Messages.{Controlled, message_answer, unkill_answer, unkill_by}
use Rattle.pr_model.specs.declared.calls.Reply.TheVariants.{Used}
use Rattle.pr_ctl.proofs.SignalLemmas.{unkill-by_id}
use Rattle.pr_ctl.specs.Aims.{aim_at}
use Rattle.pr_ctl.proofs.signals.unkill.Goals as goal

pub returns : goal.returns
unfolding message_answer unkill_answer
returns c tail x found =
    ap (λ s. (let r : Controlled = record { system = s; reply = Used c.args.length } in r))
    (c.unkill_by_id.ensures c.args.sys.now x)
    ∙ unkill-by_id c.args.sys.now c.args.pid x c.args.lwp c.args.length c.in-Some.signal
    ∙ ap (unkill_by c.args.sys.now c.args.pid x (aim_at c.args.lwp) c.args.length)
    (sym c.in-Some.is ∙ c.from_number.ensures)
