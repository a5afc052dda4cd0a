use Rattle.std.specs.Prelude.{◌≡◌, ◌≤◌, ◌⊎◌, ℕ, List, [], Option, Ok, length}
use Rattle.pr_ends.specs.Inputs.{Took}
use Rattle.pr_model.specs.declared.events.Entry.{Entry}
use Rattle.pr_num.specs.Limits.{scenario_limit}
use Rattle.pr_run_laws.specs.Prefixes.{IsPrefix}
use Rattle.pr_run_laws.specs.ScenarioRuns.{IsKept, first_world, history_after, run_of}
use Rattle.pr_scen.specs.Scenarios.{Scenario}
use Rattle.pr_world.specs.Runs.{CameFrom, TellsMachine}
use Rattle.pr_world.specs.Worlds.{WorldState}
use Rattle.pr_commands.specs.Hidings.{AreUnseen}
use Rattle.pr_commands.specs.Inputs.{scenario_of_input}

-- The histories that a call may leave.

-- how a piece of work makes a run: it makes none; on one thread, where the actors move in rounds; or by threads, which
-- make the moves in any order
pub data Making : Type 0 where
  no_run : Making
  in_rounds : Making
  by_threads : Making

-- A history that the run of an input has on its way: that after so many moves, which is a prefix of the history of the
-- run.
pub record IsAfterMoves (input : Option (List ℕ)) (history : List Entry) : Type 0 where
  pub scenario : Scenario
  pub read : scenario_of_input input ≡ Ok scenario
  pub moves : ℕ
  pub within : moves ≤ scenario.turns
  pub is : history ≡ history_after moves scenario
  pub prefix : IsPrefix history (run_of scenario).kernel.history

-- The history of a world to which the first world of a scenario was led, in whatever order its actors moved. Its kernel
-- is that of a machine: so which lwp can move, which call is ready and what the clock says is what the machine's state
-- after this history says. It has no more entries than the scenario has turns.
pub record IsLedTo (s : Scenario) (history : List Entry) : Type 0 where
  pub world : WorldState
  pub came : CameFrom (first_world s) world
  pub told : TellsMachine world
  pub is : history ≡ world.kernel.history
  pub within : length history ≤ s.turns

-- A history that threads made of an input.
pub record IsMadeByThreads (input : Option (List ℕ)) (history : List Entry) : Type 0 where
  pub scenario : Scenario
  pub read : scenario_of_input input ≡ Ok scenario
  pub led : IsLedTo scenario history

-- What is left where memory ran out before the text was begun: of a run in rounds, a history that it has on its way; of
-- one by threads, a history that they made; where no run is made, none.
abbrev pub IsLeft : Making → Option (List ℕ) → List Entry → Type 0
IsLeft no_run input history = history ≡ []
IsLeft in_rounds input history = (history ≡ []) ⊎ IsAfterMoves input history
IsLeft by_threads input history = (history ≡ []) ⊎ IsMadeByThreads input history

-- Memory ran out before the text was begun: nothing was written.
pub record RanOutEarly (making : Making) (input : Option (List ℕ)) (history : List Entry)
    (old new : Option (List ℕ)) : Type 0 where
  pub unwritten : new ≡ old
  pub left : IsLeft making input history

-- What the history of a call is where there is one: that of the run of the scenario that was read, after so many moves.
-- It is kept: it is legal and follows the protocol, where it is passive, tracing is transparent in it, each truss has
-- shown the selected events, what each tool shows stands so in one state, what gcore prints is the core of one, and
-- apfiles puts back what it writes over. And those who hide are unseen in it, on their conditions.
pub record IsHistoryOfRun (left_old left_new : Option (List ℕ)) (history : List Entry) : Type 0 where
  pub input : Option (List ℕ)
  pub took : Took scenario_limit left_old left_new input
  pub run : IsAfterMoves input history
  pub kept : IsKept run.scenario history
  pub hiders : AreUnseen run.scenario history

-- The same of a run by threads, which made the history.
pub record IsHistoryOfThreads (left_old left_new : Option (List ℕ)) (history : List Entry) : Type 0 where
  pub input : Option (List ℕ)
  pub took : Took scenario_limit left_old left_new input
  pub made : IsMadeByThreads input history
  pub kept : IsKept made.scenario history
  pub hiders : AreUnseen made.scenario history

abbrev pub HistoryIsKept : Making → Option (List ℕ) → Option (List ℕ) → List Entry → Type 0
HistoryIsKept no_run left_old left_new history = history ≡ []
HistoryIsKept in_rounds left_old left_new history = (history ≡ []) ⊎ IsHistoryOfRun left_old left_new history
HistoryIsKept by_threads left_old left_new history = (history ≡ []) ⊎ IsHistoryOfThreads left_old left_new history
