use Rattle.std.proofs.Common.{◌+◌, ℕ, List, length, refl}
use Rattle.std.specs.List.{All}
use Rattle.pr_erasure.proofs.SeenHistories.HistoryLemmas.{transparent-first}
use Rattle.pr_model.specs.Legal.{IsLegal}
use Rattle.pr_model.specs.declared.events.Entry.{Entry}
use Rattle.pr_reached.proofs.Together.ReachedLemmas.{first-reached}
use Rattle.pr_reached.specs.ByteHistories.{HasBytes}
use Rattle.pr_run_laws.proofs.BytesWritten.ByteLemmas.{IsOtherOfBytes, own-bytes}
use Rattle.pr_run_laws.proofs.KeptRuns.KeptLemmas.{functions-kept, gcores-kept, hidden-kept, probes-kept, tools-kept}
use Rattle.pr_run_laws.proofs.KeptRuns.KeptLemmas.{trusses-kept, writes-kept}
use Rattle.pr_run_laws.proofs.PassiveControllers.OwnPassive.{own-passive}
use Rattle.pr_run_laws.specs.ScenarioRanges.{IsScenarioInRange}
use Rattle.pr_run_laws.specs.ScenarioRuns.{controllers_of, files_of, first_state_of}
use Rattle.pr_scen.specs.Scenarios.{Scenario}
use Rattle.pr_tool_laws.proofs.ProgramLemmas.{first-same}
use Rattle.pr_tool_laws.specs.OwnCalls.{AreOwnCalls}
use Rattle.pr_drive.specs.Beside.{IsKeptBeside}

-- What is kept beside the outside: the controllers of the scenario make their own calls, and all write bytes.

pub kept-beside : (s : Scenario) (h : List Entry) → IsScenarioInRange s
    → IsLegal (length (controllers_of s) + 1) (first_state_of s) h → AreOwnCalls (controllers_of s) h
    → All (IsOtherOfBytes (length (controllers_of s))) h → IsKeptBeside s h
kept-beside s h range legal own others =
    let n : ℕ = length (controllers_of s) + 1 in
    let bytes : HasBytes h =
    own-bytes (controllers_of s) (length (controllers_of s)) n (first_state_of s) h refl
    (first-reached s.programs (files_of s) s.spawns range.start range.range) range.bytes legal own others in
    record {
      transparent = λ passive.
          transparent-first n s.programs (files_of s) s.spawns h legal
          (own-passive (controllers_of s) n (first_state_of s) h legal own passive);
      trusses = trusses-kept s n h range bytes legal own;
      functions = functions-kept s n h range bytes legal own;
      tools = tools-kept s n h range bytes legal own;
      cores = gcores-kept s n h range bytes legal own;
      probes = probes-kept s n h range bytes legal own;
      hides = hidden-kept s n h range bytes legal own;
      writes = writes-kept s n h range bytes legal own;
      programs = first-same n s.programs (files_of s) s.spawns h range.start legal;
    }
