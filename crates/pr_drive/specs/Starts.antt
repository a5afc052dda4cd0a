use Rattle.std.specs.Prelude.{[]}
use Rattle.pr_run_laws.specs.ScenarioRuns.{controllers_of, first_state_of}
use Rattle.pr_scen.specs.Scenarios.{Scenario}
use Rattle.pr_drive.specs.Going.{SeatsState}

-- the kernel and the controllers of a scenario before the first move
unfoldable pub first_seats : Scenario → SeatsState
first_seats s = record {
  kernel = record { state = first_state_of s; history = []; places = s.turns };
  controllers = controllers_of s;
}
