-- When truss with calls of functions says that it cannot trace a process.
use Rattle.std.specs.Prelude.{◌≡◌, ◌⊎◌, ◌++◌, ℕ, false, All, List, [], ◌∷◌, Some}
use Rattle.pr_line.specs.declared.options.Options.{Options}
use Rattle.pr_model.specs.State.{TracedState}
use Rattle.pr_model.specs.declared.events.Entry.{Entry}
use Rattle.pr_report_laws.specs.HeldRefusals.{opens_file_of, refusals_of}
use Rattle.pr_report_laws.specs.OwnOpens.{IsGoingOn}
use Rattle.pr_truss_laws.specs.Exchanges.{Exchange, exchange_of, exchanges}
use Rattle.pr_function_laws.specs.Holds.{HasHoldWithFunctions}
use Rattle.pr_function_laws.specs.Opened.{functions_at}

-- It says so of a process only while it is to open what it was given: it has not polled before, and no wait of it was
-- interrupted. So it says so neither in its loop, nor while it leaves its processes.
pub record TellsRefusalsAtFirst (k : ℕ) (o : Options) (h : List Entry) : Type 0 where
  pub each : (before later : List Entry) (e : Entry) (x : Exchange) (pid : ℕ) → h ≡ before ++ e ∷ later
      → exchange_of k e ≡ Some x
      → (refusals_of pid (functions_at k o (before ++ e ∷ [])).reports
      ≡ refusals_of pid (functions_at k o before).reports)
      ⊎ All IsGoingOn (exchanges k before)

-- While it has hold of a process, and in the entry by which it gets hold of it, it says so of that process nowhere but
-- where it is refused an open of it, as where the words name it twice.
pub record TellsNoRefusalOfHeld (k : ℕ) (o : Options) (first : TracedState) (h : List Entry) : Type 0 where
  pub each : (before later : List Entry) (e : Entry) (x : Exchange) (pid : ℕ) → h ≡ before ++ e ∷ later
      → exchange_of k e ≡ Some x
      → HasHoldWithFunctions k o pid first before ⊎ HasHoldWithFunctions k o pid first (before ++ e ∷ [])
      → opens_file_of pid x.call ≡ false
      → refusals_of pid (functions_at k o (before ++ e ∷ [])).reports
      ≡ refusals_of pid (functions_at k o before).reports
