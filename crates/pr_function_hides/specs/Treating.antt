-- What truss does at an event of a process, until it runs it.
use Rattle.std.specs.Prelude.{◌≡◌, ◌<◌, ◌==◌, ◌⊎◌, ℕ, Bool, true, false, List, None, length}
use Rattle.pr_truss.specs.Asides.{marks_at}
use Rattle.pr_truss.specs.Marks.{first_function, has_function}
use Rattle.pr_truss.specs.Trusses.{TrussState}
use Rattle.pr_truss.specs.declared.asides.Aside.{Aside}
use Rattle.pr_truss.specs.declared.asides.Aside.TheVariants.{Nothing, Patching}
use Rattle.pr_truss.specs.declared.function_events.FunctionEvent.{FunctionEvent}
use Rattle.pr_truss.specs.declared.marks.Marks.{Marks}
use Rattle.pr_truss.specs.declared.stages.Stage.{Stage}
use Rattle.pr_truss.specs.declared.stages.Stage.TheVariants.{ReadingText, Running}
use Rattle.pr_function_hides.specs.Copying.{IsTreated}

-- The marks of a process once these breakpoints are planted, as far as that is granted, and those are lifted.
pub record IsDone (plants lifts : List Bool) (m n : Marks) : Type 0 where
  pub planted : (function : ℕ) → has_function n.planted function ≡ true
      → ((has_function m.planted function ≡ true) ⊎ (has_function plants function ≡ true))
      × (has_function lifts function ≡ false)
  pub lifted : n.lifted ≡ m.lifted
  pub stepped : n.stepped ≡ m.stepped

-- Truss, which had these marks at an event, will have done what it does at it once it has planted and lifted these.
pub record WillBeTreated (m : Marks) (e : FunctionEvent) (plants lifts : List Bool) (now : Marks) : Type 0 where
  pub each : (n : Marks) → IsDone plants lifts now n → IsTreated m e n

-- what comes before the call of its stage is no more than that
pub data AsideTreats (m : Marks) (e : FunctionEvent) (place : ℕ) (now : Marks) : Aside → Type 0 where
  all_done : (plants lifts : List Bool) → first_function plants ≡ None → first_function lifts ≡ None
      → WillBeTreated m e plants lifts now → AsideTreats m e place now Nothing
  patches : (plants lifts : List Bool) → WillBeTreated m e plants lifts now
      → AsideTreats m e place now (Patching place plants lifts false)

-- the process at a place is run next, or memory of it is read for an event
abbrev pub is_run_soon : Stage → ℕ → Bool
is_run_soon (Running at) place = at == place
is_run_soon (ReadingText at l from len) place = at == place
is_run_soon stage place = false

-- Truss treats an event of the process at a place, for which it had these marks, and runs it then.
pub record Treats (m : Marks) (e : FunctionEvent) (place : ℕ) (t : TrussState) : Type 0 where
  pub follows_none : t.options.follow ≡ false
  pub stays : t.leaving ≡ false
  pub within : place < length t.traced
  pub stage : is_run_soon t.stage place ≡ true
  pub aside : AsideTreats m e place (marks_at t place) t.aside
