use Rattle.std.proofs.Common.{◌∙◌, ap}
use Rattle.pr_kern.specs.Starts.{stored}
use Rattle.pr_scen.specs.Scenarios.{Scenario}
use Rattle.own_tracer.proofs.RunLemmas.{first-holds, first-stands}
use Rattle.own_tracer.proofs.ScenarioLemmas.{history-is}
use Rattle.own_tracer.proofs.telling.history_of.Goals as goal

pub run-requires-clause-stands : goal.run-requires-clause-stands
run-requires-clause-stands c =
    let s = c.args.scenario in
    let k = c.in_ok-kern.kern in
    let made = c.in_ok-kern.ensures in
    first-stands k.state k.history k.places
    (first-holds s.programs (stored s.files) s.spawns k.state made.state made.lawful)

pub returns : goal.returns
returns c =
    let made = c.in_ok-kern.ensures in
    let places = made.places ∙ ap (λ (s : Scenario). s.turns) c.scenario.view_is in
    history-is c.args.scenario c.in_ok-kern.kern c.run.new.kern c.into_history.result.entries c.new.result
    c.new.ensures made.state made.history places c.in_ok-run.ensures c.into_history.ensures
