use Rattle.std.proofs.Common.{rules, inl, ap, is_ok, refl, subst, sym}
use Rattle.pr_run_laws.specs.ScenarioRuns.{run_of}
use Rattle.pr_scen.specs.Scenarios.{Scenario}
use Rattle.pr_commands.proofs.GivingLemmas.{gives-nothing}
use Rattle.pr_commands.proofs.SeenLemmas.{ran-alike, run-of-it, same-again}
use Rattle.pr_commands.specs.Answers.{plain_shown}
use Rattle.pr_commands.specs.Hidings.{IsOf}
use Rattle.pr_commands.proofs.stripping.strip_hiding.Goals as goal

pub scenario_again-requires-clause-read : goal.scenario_again-requires-clause-read
scenario_again-requires-clause-read g c = ap is_ok c.requires.read

pub run_scenario-requires-clause-fits : goal.run_scenario-requires-clause-fits
run_scenario-requires-clause-fits g c =
    let same = same-again _ _ _ c.requires.read c.in-Ok.ensures in
    subst (λ (s : Scenario). IsOf s (run_of c.args.scenario).kernel.history) same (run-of-it _ c.requires.limits)

pub returns-in-Ok : goal.returns-in-Ok
returns-in-Ok g c =
    let same = same-again _ _ _ c.requires.read c.in-Ok.ensures in
    ran-alike (plain_shown c.in-Ok.again) (plain_shown c.args.scenario) (run_of c.args.scenario) _ _ _ _ _ _ _
    (ap plain_shown (sym same)) c.run_scenario.ensures

pub returns-in-Err : goal.returns-in-Err
returns-in-Err g c =
    gives-nothing _ _ _ _ _ _ c.out_of_memory.ensures.status (record { unwritten = refl; so_far = inl (search rules) })
