use Rattle.std.proofs.Common.{◌≡◌, true, ap, rules, ◌∙◌}
use Rattle.std.specs.Option.{ForSome}
use Rattle.std.proofs.lemmas.Bool.{eq-eqb, ne_eqb}
use Rattle.pr_num.specs.Agents.{agent_id}
use Rattle.pr_model.specs.Lives.{by_fork, with_child}
use Rattle.pr_model.specs.Machines.{traced}
use Rattle.pr_model.specs.ProcessCalls.{fork_effect}
use Rattle.pr_model.specs.State.{live_process}
use Rattle.pr_call.proofs.FilingLemmas.{on_err}
use Rattle.pr_call.proofs.ForkLemmas.{born-barred, born-child, born-refused, granted-where, told-barred, told-child, told-refused}
use Rattle.pr_call.proofs.RequestLemmas.{asked-arguments}
use Rattle.pr_call.specs.Effects.{is_granted}
use Rattle.pr_proc.specs.Refusals.{fork_refusal}
use Rattle.pr_call.proofs.processes.fork_by.Goals as goal

-- the agent does not fork
pub returns-then-id-eq-AGENT-clause-system : goal.returns-then-id-eq-AGENT-clause-system
returns-then-id-eq-AGENT-clause-system c = λ p found l stands.
    let r = c.args.request.now in
    born-barred by_fork c.args.sys.now r.pid p r.lwp l r.args (eq-eqb r.lwp agent_id c.if-id-eq-AGENT.true)

pub returns-then-id-eq-AGENT-clause-outcome : goal.returns-then-id-eq-AGENT-clause-outcome
returns-then-id-eq-AGENT-clause-outcome c = λ p found.
    let r = c.args.request.now in
    told-barred by_fork c.args.sys.now p r.lwp r.args (eq-eqb r.lwp agent_id c.if-id-eq-AGENT.true)

-- the child keeps the arguments of the call
pub returns-in-Ok-clause-system : goal.returns-in-Ok-clause-system
returns-in-Ok-clause-system c = λ p found l stands.
    let s = c.args.sys.now in
    let r = c.args.request.now in
    c.in-Ok.ensures.ok p found l stands
    ∙ ap (λ args. with_child traced by_fork r.pid p l args s)
    (asked-arguments s r.pid r.lwp r p l c.requires.asked found stands)
    ∙ born-child by_fork s r.pid p r.lwp l r.args c.requires.lawful found (ne_eqb r.lwp agent_id c.if-id-eq-AGENT.false)
    (c.in-Ok.ensures.refused p found)

pub returns-in-Ok-clause-outcome : goal.returns-in-Ok-clause-outcome
returns-in-Ok-clause-outcome c = λ p found.
    let r = c.args.request.now in
    told-child by_fork c.args.sys.now p r.lwp r.args _ (ne_eqb r.lwp agent_id c.if-id-eq-AGENT.false)
    (c.in-Ok.ensures.refused p found) (c.from.ensures ∙ c.in-Ok.ensures.child)

-- no child is made
pub returns-in_ok-error-in-Err-clause-system : goal.returns-in_ok-error-in-Err-clause-system
returns-in_ok-error-in-Err-clause-system c = λ p found l stands.
    let r = c.args.request.now in
    c.in-Err.ensures.err
    ∙ born-refused by_fork c.args.sys.now r.pid p r.lwp l r.args c.in_ok-error-in-Err.error
    (ne_eqb r.lwp agent_id c.if-id-eq-AGENT.false)
    (c.in_ok-error-in-Err.ensures.ok (fork_refusal c.args.sys.now p) (c.in-Err.ensures.refused p found))

pub returns-in_ok-error-in-Err-clause-outcome : goal.returns-in_ok-error-in-Err-clause-outcome
returns-in_ok-error-in-Err-clause-outcome c = λ p found.
    let r = c.args.request.now in
    told-refused by_fork c.args.sys.now p r.lwp r.args c.in_ok-error-in-Err.error
    (ne_eqb r.lwp agent_id c.if-id-eq-AGENT.false)
    (c.in_ok-error-in-Err.ensures.ok (fork_refusal c.args.sys.now p) (c.in-Err.ensures.refused p found))

-- memory ran out
pub returns-in_err-error-in-Err-clause-memory : goal.returns-in_err-error-in-Err-clause-memory
returns-in_err-error-in-Err-clause-memory c =
    let s = c.args.sys.now in
    let r = c.args.request.now in
    let told : ForSome (live_process s r.pid) (λ p. is_granted (fork_effect s p r.lwp r.args) ≡ true) = λ p found.
    granted-where by_fork s p r.lwp r.args (ne_eqb r.lwp agent_id c.if-id-eq-AGENT.false)
    (c.in-Err.ensures.memory (search rules) p found)
    in
    on_err _ told
