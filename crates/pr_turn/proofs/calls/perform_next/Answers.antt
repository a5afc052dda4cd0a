use Rattle.std.proofs.Common.{◌≡◌, Some}
use Rattle.pr_call.proofs.FilingLemmas.{on_err}
use Rattle.pr_call.specs.Requests.{request_of}
use Rattle.pr_turn.proofs.CallTurnLemmas.{next-asked, next-asks, performed-makes}
use Rattle.pr_turn.proofs.TakingLemmas.{call-takes}
use Rattle.pr_turn.proofs.calls.perform_next.Goals as goal

-- the call that is performed is the one that the lwp makes
pub perform-requires-clause-call : goal.perform-requires-clause-call
perform-requires-clause-call c = next-asked c.args.sys.now c.args.woken c.args.request.now c.requires.next

pub returns-clause-ok : goal.returns-clause-ok
returns-clause-ok c =
    performed-makes c.args.sys.now c.perform.new.sys c.move_under.new.sys c.args.woken c.args.request.now
    c.in_ok-outcome.outcome c.traces_exit-traced.result c.made_after.result c.stops_after.result c.requires.next
    (λ p found l stands.
    c.in_ok-outcome.ensures.system c.args.request.now
    (next-asks c.args.sys.now c.args.woken c.args.request.now c.requires.next) p found l stands)
    (λ p found l stands.
    c.in_ok-outcome.ensures.outcome c.args.request.now
    (next-asks c.args.sys.now c.args.woken c.args.request.now c.requires.next) p found l stands)
    (λ p found. c.traces_exit-traced.ensures p found)
    c.move_under.ensures
    c.made_after.ensures
    c.stops_after.ensures

-- memory runs out as the effect of the call says
pub returns-in_err-outcome-clause-memory : goal.returns-in_err-outcome-clause-memory
returns-in_err-outcome-clause-memory c =
    let request = c.args.request.now in
    let asks : request_of c.args.sys.now request.pid request.lwp ≡ Some request =
    next-asks c.args.sys.now c.args.woken request c.requires.next in
    on_err _
    (call-takes c.args.sys.now c.args.woken request c.requires.next
    (λ p found l stands. c.in_err-outcome.ensures.memory request asks p found l stands))
