use Rattle.std.proofs.Common.{◌≡◌, true, rules}
use Rattle.std.specs.Option.{ForSome}
use Rattle.pr_model.specs.State.{live_process}
use Rattle.pr_call.specs.Effects.{is_granted}
use Rattle.pr_model.specs.ProcessCalls.{exec_effect}
use Rattle.pr_proc.specs.Refusals.{exec_refusal}
use Rattle.pr_call.proofs.FilingLemmas.{on_err}
use Rattle.pr_call.proofs.ProgramLemmas.{run-granted, run-system, run-outcome, refuse-system, refuse-outcome}
use Rattle.pr_call.proofs.processes.exec_by.Goals as goal

pub returns-in-Ok-exec-clause-system : goal.returns-in-Ok-exec-clause-system
returns-in-Ok-exec-clause-system c p found l stands =
    run-system c.args.sys.now c.exec.new.sys c.args.pid p c.args.id l
    (exec_effect c.args.sys.now p c.args.id c.args.at) c.in-Ok.place c.in-Ok.ensures.within
    (c.in-Ok.ensures.effect p found) (λ g at. c.in-Ok-exec.ensures.ok p found l stands g at)
    (λ g at. c.in-Ok-exec.ensures.refused p found g at)

pub returns-in-Ok-exec-clause-outcome : goal.returns-in-Ok-exec-clause-outcome
returns-in-Ok-exec-clause-outcome c p found =
    run-outcome c.args.sys.now p c.args.id (exec_effect c.args.sys.now p c.args.id c.args.at)
    c.in-Ok.place c.in-Ok.ensures.within (c.in-Ok.ensures.effect p found)
    (λ g at. c.in-Ok-exec.ensures.refused p found g at)

pub returns-in_ok-error-in-Err-exec-clause-system : goal.returns-in_ok-error-in-Err-exec-clause-system
returns-in_ok-error-in-Err-exec-clause-system c p found l stands =
    refuse-system c.args.sys.now c.exec.new.sys c.args.pid p c.args.id l
    (exec_effect c.args.sys.now p c.args.id c.args.at)
    c.in-Ok.place c.in_ok-error-in-Err-exec.error c.in-Ok.ensures.within (c.in-Ok.ensures.effect p found)
    c.in-Err-exec.ensures.err
    (λ g at. c.in_ok-error-in-Err-exec.ensures.ok (exec_refusal c.args.sys.now p c.args.id g)
    (c.in-Err-exec.ensures.refused p found g at))

pub returns-in_ok-error-in-Err-exec-clause-outcome : goal.returns-in_ok-error-in-Err-exec-clause-outcome
returns-in_ok-error-in-Err-exec-clause-outcome c p found =
    refuse-outcome c.args.sys.now p c.args.id (exec_effect c.args.sys.now p c.args.id c.args.at)
    c.in-Ok.place c.in_ok-error-in-Err-exec.error c.in-Ok.ensures.within (c.in-Ok.ensures.effect p found)
    (λ g at. c.in_ok-error-in-Err-exec.ensures.ok (exec_refusal c.args.sys.now p c.args.id g)
    (c.in-Err-exec.ensures.refused p found g at))

pub returns-in_err-error-in-Err-exec-clause-memory : goal.returns-in_err-error-in-Err-exec-clause-memory
returns-in_err-error-in-Err-exec-clause-memory c =
    let s = c.args.sys.now in
    let told : ForSome (live_process s c.args.pid) (λ p. is_granted (exec_effect s p c.args.id c.args.at) ≡ true) =
    λ p found. run-granted s p c.args.id (exec_effect s p c.args.id c.args.at) c.in-Ok.place c.in-Ok.ensures.within
    (c.in-Ok.ensures.effect p found) (c.in-Err-exec.ensures.memory (search rules) p found)
    in
    on_err _ told
