-- The scenario that a text spells, and the first line that is refused.
use Rattle.std.specs.Prelude.{ℕ, List, Result, Ok}
use Rattle.pr_text.specs.Steps.{◌>>=◌}
use Rattle.pr_text.specs.TextLines.{lines_of}
use Rattle.pr_scen.specs.Blocks.{parts_added}
use Rattle.pr_scen.specs.Drafts.{nothing, made}
use Rattle.pr_scen.specs.Parts.{parts_of}
use Rattle.pr_scen.specs.Scenarios.{Scenario}
use Rattle.pr_scen.specs.declared.drafts.Draft.{Draft}
use Rattle.pr_scen.specs.Refusals.{ScenFault}

-- what the parts of lines make
unfoldable pub draft_in : List (List ℕ) → Result Draft ScenFault
draft_in lines = parts_added nothing (parts_of lines)

-- the scenario of what was read
abbrev pub finished : Draft → Result Scenario ScenFault
finished d = Ok (made d)

-- the scenario that lines spell, or the first line that is refused; lines count from 1
unfoldable pub scenario_in : List (List ℕ) → Result Scenario ScenFault
scenario_in lines = draft_in lines >>= finished

-- the scenario that a text spells, or its first line that is refused
abbrev pub scenario_of : List ℕ → Result Scenario ScenFault
scenario_of text = scenario_in (lines_of text)
