use Rattle.std.proofs.Common.{◌≡◌, true, sym, ap, rules, ◌∙◌}
use Rattle.std.specs.Option.{ForSome}
use Rattle.pr_model.specs.Lives.{by_vfork, with_child}
use Rattle.pr_model.specs.Machines.{traced}
use Rattle.pr_model.specs.ProcessCalls.{vfork_effect}
use Rattle.pr_model.specs.State.{live_process}
use Rattle.pr_call.proofs.FilingLemmas.{on_err}
use Rattle.pr_call.proofs.ForkLemmas.{born-barred, born-child, born-refused, granted-where, told-barred, told-child, told-refused}
use Rattle.pr_call.proofs.RequestLemmas.{asked-arguments}
use Rattle.pr_call.specs.Effects.{is_granted}
use Rattle.pr_proc.specs.Refusals.{lend_refusal}
use Rattle.pr_call.proofs.processes.vfork_by.Goals as goal

-- the agent does not lend, nor an lwp beside another one
pub returns-then-cannot_lend-clause-system : goal.returns-then-cannot_lend-clause-system
returns-then-cannot_lend-clause-system c = λ p found l stands.
    let r = c.args.request.now in
    born-barred by_vfork c.args.sys.now r.pid p r.lwp l r.args
    (sym (c.cannot_lend.ensures p found) ∙ c.if-cannot_lend.true)

pub returns-then-cannot_lend-clause-outcome : goal.returns-then-cannot_lend-clause-outcome
returns-then-cannot_lend-clause-outcome c = λ p found.
    let r = c.args.request.now in
    told-barred by_vfork c.args.sys.now p r.lwp r.args (sym (c.cannot_lend.ensures p found) ∙ c.if-cannot_lend.true)

-- the child keeps the arguments of the call
pub returns-in-Ok-clause-system : goal.returns-in-Ok-clause-system
returns-in-Ok-clause-system c = λ p found l stands.
    let s = c.args.sys.now in
    let r = c.args.request.now in
    c.in-Ok.ensures.ok p found l stands
    ∙ ap (λ args. with_child traced by_vfork r.pid p l args s)
    (asked-arguments s r.pid r.lwp r p l c.requires.asked found stands)
    ∙ born-child by_vfork s r.pid p r.lwp l r.args c.requires.lawful found
    (sym (c.cannot_lend.ensures p found) ∙ c.if-cannot_lend.false)
    c.in-Ok.ensures.refused

pub returns-in-Ok-clause-outcome : goal.returns-in-Ok-clause-outcome
returns-in-Ok-clause-outcome c = λ p found.
    let r = c.args.request.now in
    told-child by_vfork c.args.sys.now p r.lwp r.args _ (sym (c.cannot_lend.ensures p found) ∙ c.if-cannot_lend.false)
    c.in-Ok.ensures.refused (c.from.ensures ∙ c.in-Ok.ensures.child)

-- no child is made
pub returns-in_ok-error-in-Err-clause-system : goal.returns-in_ok-error-in-Err-clause-system
returns-in_ok-error-in-Err-clause-system c = λ p found l stands.
    let r = c.args.request.now in
    c.in-Err.ensures.err
    ∙ born-refused by_vfork c.args.sys.now r.pid p r.lwp l r.args c.in_ok-error-in-Err.error
    (sym (c.cannot_lend.ensures p found) ∙ c.if-cannot_lend.false)
    (c.in_ok-error-in-Err.ensures.ok (lend_refusal c.args.sys.now) c.in-Err.ensures.refused)

pub returns-in_ok-error-in-Err-clause-outcome : goal.returns-in_ok-error-in-Err-clause-outcome
returns-in_ok-error-in-Err-clause-outcome c = λ p found.
    let r = c.args.request.now in
    told-refused by_vfork c.args.sys.now p r.lwp r.args c.in_ok-error-in-Err.error
    (sym (c.cannot_lend.ensures p found) ∙ c.if-cannot_lend.false)
    (c.in_ok-error-in-Err.ensures.ok (lend_refusal c.args.sys.now) c.in-Err.ensures.refused)

-- memory ran out
pub returns-in_err-error-in-Err-clause-memory : goal.returns-in_err-error-in-Err-clause-memory
returns-in_err-error-in-Err-clause-memory c =
    let s = c.args.sys.now in
    let r = c.args.request.now in
    let told : ForSome (live_process s r.pid) (λ p. is_granted (vfork_effect s p r.lwp r.args) ≡ true) = λ p found.
    granted-where by_vfork s p r.lwp r.args (sym (c.cannot_lend.ensures p found) ∙ c.if-cannot_lend.false)
    (c.in-Err.ensures.memory (search rules))
    in
    on_err _ told
