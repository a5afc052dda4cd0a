use Rattle.std.proofs.Common.{◌≡◌, refl, sym, subst, Result, Err}
use Rattle.pr_scen.specs.Refusals.{ScenFault}
use Rattle.pr_input.specs.Kinds.{kind_name}
use Rattle.pr_scen.specs.Scenarios.{Scenario}
use Rattle.pr_commands.specs.Answers.{MayAnswer, MayAnswerRead, ShowsEnd, refused_at}
use Rattle.pr_commands.specs.Giving.{Responds}
use Rattle.pr_commands.specs.Inputs.{scenario_of_input}
use Rattle.pr_commands.proofs.SharedLemmas.{one-answer, one-else, threads-left}
use Rattle.pr_commands.proofs.sharing.share.Goals as goal

pub returns-in-Ok : goal.returns-in-Ok
returns-in-Ok g c =
    let read = c.in-Ok.ensures.read in
    one-else (ShowsEnd c.args.showing c.in-Ok.scenario) (MayAnswer c.args.showing c.args.input) _ _ _ _ _ _ _ _
    (λ a may. subst (λ (s : Result Scenario ScenFault). MayAnswerRead c.args.showing s a) (sym read) may)
    (λ stopped. threads-left _ _ _ _ _ read stopped) c.share_scenario.ensures

pub returns-in-Err-Fault : goal.returns-in-Err-Fault
returns-in-Err-Fault g c =
    let read : scenario_of_input c.args.input ≡ Err c.in-Err-Fault.fault =
    rw c.in-Err-Fault.field-0-is at c.in-Err-Fault.ensures.read in
    let answer = refused_at c.in-Err-Fault.fault.line (kind_name c.in-Err-Fault.fault.kind) in
    let may : MayAnswer c.args.showing c.args.input answer =
    subst (λ (s : Result Scenario ScenFault). MayAnswerRead c.args.showing s answer) (sym read) refl in
    let refused : Responds answer ⊥ c.refuse_at.result.status c.refuse_at.result.history.entries
    (g.K.Sink.written c.args.sink.now) (g.K.Sink.written c.refuse_at.new.sink) (g.K.Sink.faults c.args.sink.now)
    (g.K.Sink.faults c.refuse_at.new.sink) = rw c.in-Err-Fault.field-0-is at c.refuse_at.ensures in
    one-answer (MayAnswer c.args.showing c.args.input) answer _ _ _ _ _ _ _ may refused
