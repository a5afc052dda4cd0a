-- Those who hide are unseen in each history that is kept.
use Rattle.std.proofs.Common.{List, length}
use Rattle.pr_hidden.proofs.Follows.HistoryFollows.{hidden-first}
use Rattle.pr_model.specs.declared.events.Entry.{Entry}
use Rattle.pr_run_laws.specs.ScenarioRanges.{IsScenarioInRange}
use Rattle.pr_run_laws.specs.ScenarioRuns.{IsKept, controllers_of, files_of}
use Rattle.pr_scen.specs.Scenarios.{Scenario}
use Rattle.pr_commands.specs.Hidings.{AreUnseen, hiders_in}

pub kept-unseen : (s : Scenario) (h : List Entry) → IsScenarioInRange s → IsKept s h → AreUnseen s h
kept-unseen s h range kept = record {
  unseen = hidden-first (length (controllers_of s)) (hiders_in s) s.programs (files_of s) s.spawns h range.start
      kept.legal;
}
