use Rattle.std.proofs.Common.{ap, ◌∙◌}
use Rattle.pr_model.specs.Messages.{Controlled}
use Rattle.pr_model.specs.State.{TracedSystem}
use Rattle.pr_model.specs.declared.calls.Reply.TheVariants.{Fail, Used}
use Rattle.pr_ctl.specs.Agents.{agent_refusal}
use Rattle.pr_ctl.proofs.AgentLemmas.{agent-made, agent-refused}
use Rattle.pr_ctl.proofs.agents.agent.Goals as goal

pub returns-in-Ok-clause-ok : goal.returns-in-Ok-clause-ok
returns-in-Ok-clause-ok c lwp tail p found =
    ap (λ (m : TracedSystem). let a : Controlled = record { system = m; reply = Used c.args.length } in a)
    c.in-Ok.ensures.ok
    ∙ agent-made c.args.sys.now c.args.pid p lwp c.args.regs tail c.args.length (c.in-Ok.ensures.refused p found)

-- a refusal leaves the system
pub returns-in_ok-error-in-Err-clause-ok : goal.returns-in_ok-error-in-Err-clause-ok
returns-in_ok-error-in-Err-clause-ok c lwp tail p found =
    ap (λ (m : TracedSystem). let a : Controlled = record { system = m; reply = Fail c.in_ok-error-in-Err.error } in a)
    c.in-Err.ensures.err
    ∙ agent-refused c.args.sys.now c.args.pid p lwp c.args.regs tail c.args.length c.in_ok-error-in-Err.error
    (c.in_ok-error-in-Err.ensures.ok (agent_refusal p) (c.in-Err.ensures.refused p found))
