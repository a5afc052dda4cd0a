use Rattle.std.specs.Prelude.{ℕ, List, Result, Ok, Err, length}
use Rattle.pr_model.specs.declared.events.Entry.{Entry}
use Rattle.pr_scen.specs.Scenarios.{Scenario}
use Rattle.pr_commands.specs.Answers.{first_illegal_of}
use Rattle.pr_commands.specs.declared.checks.Finding.{Finding}
use Rattle.pr_commands.specs.declared.wrongs.Wrong.{Wrong}

-- What is found of a history that is judged while it is read.

-- how many entries it has, and which is the first that is not legal from the first state of a scenario, with its
-- controllers
unfoldable pub found : Scenario → List Entry → Finding
found s history = record { entries = length history; first = first_illegal_of s history }

-- the same of a history that was read, or the first line that is wrong
unfoldable pub found_in : Scenario → Result (List Entry) ℕ → Result Finding ℕ
found_in s (Ok history) = Ok (found s history)
found_in s (Err line) = Err line

-- the same of the scenario and the history of an input, or the first line that is refused
unfoldable pub finding_of : Result (Scenario × List Entry) Wrong → Result Finding Wrong
finding_of (Ok read) = Ok (found read.0 read.1)
finding_of (Err w) = Err w
