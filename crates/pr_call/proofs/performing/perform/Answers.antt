use Rattle.std.proofs.Common.{◌≡◌, true, sym, ◌∙◌}
use Rattle.std.specs.Option.{ForSome}
use Rattle.pr_model.specs.State.{live_process, lwp_of}
use Rattle.pr_call.specs.Effects.{effect_of, takes_memory}
use Rattle.pr_call.specs.Requests.{request_of}
use Rattle.pr_call.proofs.FilingLemmas.{on_err}
use Rattle.pr_call.proofs.RequestLemmas.{asked-live, asked-lwp, asked-memory, asked-outcome, asked-own, asked-system}
use Rattle.pr_call.proofs.performing.perform.Goals as goal

pub perform_request-requires-clause-live : goal.perform_request-requires-clause-live
perform_request-requires-clause-live c =
    asked-live c.args.sys.now c.args.pid c.args.lwp c.unwrap-request.result
    (sym c.request_of.ensures ∙ c.unwrap-request.ensures)

pub perform_request-requires-clause-lwp : goal.perform_request-requires-clause-lwp
perform_request-requires-clause-lwp c =
    asked-lwp c.args.sys.now c.args.pid c.args.lwp c.unwrap-request.result
    (sym c.request_of.ensures ∙ c.unwrap-request.ensures)

pub perform_request-requires-clause-asked : goal.perform_request-requires-clause-asked
perform_request-requires-clause-asked c =
    asked-own c.args.sys.now c.args.pid c.args.lwp c.unwrap-request.result
    (sym c.request_of.ensures ∙ c.unwrap-request.ensures)

pub returns-clause-system : goal.returns-clause-system
returns-clause-system c r made =
    asked-system c.args.sys.now c.perform_request.new.sys c.args.pid c.args.lwp c.unwrap-request.result r
    (sym c.request_of.ensures ∙ c.unwrap-request.ensures) made c.in_ok-outcome.ensures.system

pub returns-clause-outcome : goal.returns-clause-outcome
returns-clause-outcome c r made =
    asked-outcome c.args.sys.now c.perform_request.new.sys c.args.pid c.args.lwp c.unwrap-request.result r
    (sym c.request_of.ensures ∙ c.unwrap-request.ensures) made c.in_ok-outcome.outcome c.in_ok-outcome.ensures.outcome

pub returns-in_err-outcome-clause-memory : goal.returns-in_err-outcome-clause-memory
returns-in_err-outcome-clause-memory c =
    let told : ForSome (request_of c.args.sys.now c.args.pid c.args.lwp)
    (λ r. ForSome (live_process c.args.sys.now c.args.pid)
    (λ p. ForSome (lwp_of p c.args.lwp) (λ l. takes_memory r.call (effect_of c.args.sys.now p l r) ≡ true))) =
    λ r made.
    asked-memory c.args.sys.now c.perform_request.new.sys c.args.pid c.args.lwp c.unwrap-request.result r
    (sym c.request_of.ensures ∙ c.unwrap-request.ensures) made c.in_err-outcome.ensures.memory in
    on_err _ told
