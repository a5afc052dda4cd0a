use Rattle.std.specs.Prelude.{◌≡◌, Bool, true, false, List, Result, Ok, Err, All, length}
use Rattle.pr_asks.specs.Asks.{ask_of}
use Rattle.pr_asks.specs.declared.asks.Ask.{Ask}
use Rattle.pr_asks.specs.declared.asks.Ask.TheVariants as ask
use Rattle.pr_asks.specs.declared.asks.AskKind.{AskKind}
use Rattle.pr_model.specs.declared.events.Entry.{Entry}
use Rattle.pr_run_laws.specs.ScenarioRuns.{history_after}
use Rattle.pr_scen.specs.Scenarios.{Scenario}
use Rattle.pr_drive.specs.Sessions.{Exchange}

-- A session in which the outside makes no call has the history of a run on one thread.

-- whether a line only lets others move in their rounds: it asks for that, or for nothing
abbrev pub lets_others : Result Ask AskKind → Bool
lets_others (Err kind) = true
lets_others (Ok (ask.Moves times)) = true
lets_others (Ok ask.Run) = true
lets_others (Ok ask.End) = true
lets_others (Ok (ask.Call c)) = false
lets_others (Ok (ask.Messages script)) = false
lets_others (Ok (ask.Move actor)) = false

-- each of these lines did
abbrev pub OnlyLetOthers : List Exchange → Type 0
OnlyLetOthers xs = All (λ x. lets_others (ask_of x.line) ≡ true) xs

-- these entries are those of so many first moves of the run
unfoldable pub IsPartOfRun : Scenario → List Entry → Type 0
IsPartOfRun s h = h ≡ history_after (length h) s
