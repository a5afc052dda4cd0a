use Rattle.std.specs.Prelude.{◌≡◌, ◌≢◌, ℕ, Bool, List, ◌∷◌, ◌++◌, Some}
use Rattle.pr_api.specs.Entries.{call_entry, turn_entry}
use Rattle.pr_model.specs.declared.calls.Call.TheVariants.{Spawn}
use Rattle.pr_model.specs.declared.calls.Reply.TheVariants.{Pid}
use Rattle.pr_model.specs.declared.events.Actor.TheVariants.{Lwp}
use Rattle.pr_model.specs.declared.events.Entry.{Entry}
use Rattle.pr_model.specs.declared.events.Turned.{Turned}
use Rattle.pr_report_laws.specs.Births.{child_made}

-- What is said of the child of a fork before truss watches it, and of the process that a controller made of a program.

-- In an entry no lwp of a process has a turn.
pub record IsNoTurnOf (pid : ℕ) (e : Entry) : Type 0 where
  pub none : (id : ℕ) → e.actor ≢ Lwp pid id

-- In a history an lwp made a process by fork.
pub record WasForked (pid : ℕ) (h : List Entry) : Type 0 where
  pub before : List Entry
  pub parent : ℕ
  pub id : ℕ
  pub turned : Turned
  pub later : List Entry
  pub is : h ≡ before ++ turn_entry parent id turned ∷ later
  pub made : child_made turned.did ≡ Some pid

-- In a history a controller made this process of a program.
pub record WasSpawned (by pid : ℕ) (h : List Entry) : Type 0 where
  pub before : List Entry
  pub program : List ℕ
  pub held : Bool
  pub later : List Entry
  pub is : h ≡ before ++ call_entry by (Spawn program held) (Pid pid) ∷ later
