use Rattle.std.specs.Prelude.{ℕ, List, Option, Some, None, Result, Err, length, nat_le, if◌then◌else◌}
use Rattle.pr_scen.specs.Reading.{scenario_of}
use Rattle.pr_scen.specs.Scenarios.{Scenario}
use Rattle.pr_scen.specs.Refusals.{ScenFault}
use Rattle.pr_scen.specs.declared.refusals.ScenKind.TheVariants.{TooLong}

-- What was read of a source, and its scenario.

-- what is read of a source that has these bytes left
abbrev pub taken_of : ℕ → List ℕ → Option (List ℕ)
taken_of limit left = if nat_le (length left) limit then Some left else None

-- An input that had more bytes than it may have is refused as a whole, for which line 0 stands.
abbrev pub too_long : ScenFault
too_long = record { line = 0; kind = TooLong }

-- the scenario of an input, or the first line that is refused; no input: it had more bytes than it may have
unfoldable pub scenario_of_input : Option (List ℕ) → Result Scenario ScenFault
scenario_of_input None = Err too_long
scenario_of_input (Some input) = scenario_of input
