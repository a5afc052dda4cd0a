use Rattle.std.proofs.Common.{◌≡◌, sym, ap, Err}
use Rattle.pr_input.specs.Kinds.{kind_name}
use Rattle.pr_output.specs.Output.{run_text}
use Rattle.pr_run_laws.specs.ScenarioRuns.{run_of}
use Rattle.pr_commands.specs.Answers.{answer_of, answer_to, ran, refused_at, run_text_of}
use Rattle.pr_commands.specs.Giving.{Responds}
use Rattle.pr_commands.specs.Inputs.{scenario_of_input}
use Rattle.pr_commands.proofs.EarlyLemmas.{stopped-early}
use Rattle.pr_commands.proofs.GivingLemmas.{gives-else}
use Rattle.pr_commands.proofs.responses.respond.Goals as goal

pub returns-in-Ok : goal.returns-in-Ok
unfolding answer_of answer_to
returns-in-Ok g c =
    let read = c.in-Ok.ensures.read in
    gives-else (ran (run_text c.args.showing) (run_of c.in-Ok.scenario))
    (answer_to (run_text_of c.args.showing) c.args.input) _ _ _ _ _ _ _ _
    (sym (ap (answer_of (run_text_of c.args.showing)) read))
    (λ stopped. stopped-early _ _ _ _ _ read stopped) c.run_scenario.ensures

pub returns-in-Err-Fault : goal.returns-in-Err-Fault
unfolding answer_of answer_to
returns-in-Err-Fault g c =
    let read : scenario_of_input c.args.input ≡ Err c.in-Err-Fault.fault =
    rw c.in-Err-Fault.field-0-is at c.in-Err-Fault.ensures.read in
    let refused : Responds
    (refused_at c.in-Err-Fault.fault.line (kind_name c.in-Err-Fault.fault.kind)) ⊥ c.refuse_at.result.status
    c.refuse_at.result.history.entries (g.K.Sink.written c.args.sink.now) (g.K.Sink.written c.refuse_at.new.sink)
    (g.K.Sink.faults c.args.sink.now) (g.K.Sink.faults c.refuse_at.new.sink) =
    rw c.in-Err-Fault.field-0-is at c.refuse_at.ensures in
    gives-else (refused_at c.in-Err-Fault.fault.line (kind_name c.in-Err-Fault.fault.kind))
    (answer_to (run_text_of c.args.showing) c.args.input) ⊥ _ _ _ _ _ _ _
    (sym (ap (answer_of (run_text_of c.args.showing)) read)) (λ never. absurd never) refused
