-- What truss with calls of functions does where it is told that a process has ended.
use Rattle.std.specs.Prelude.{◌≡◌, ◌++◌, ℕ, List, ◌∷◌, Some}
use Rattle.pr_line.specs.declared.options.Options.{Options}
use Rattle.pr_model.specs.Legal.{state_after}
use Rattle.pr_model.specs.State.{TracedState}
use Rattle.pr_model.specs.declared.calls.Reply.{Reply}
use Rattle.pr_model.specs.declared.events.Entry.{Entry}
use Rattle.pr_report_laws.specs.Attachments.{WasInterrupted}
use Rattle.pr_report_laws.specs.Holds.{IsToldOfEnd}
use Rattle.pr_report_laws.specs.OwnFiles.{CloseAllOf}
use Rattle.pr_truss.specs.FunctionCalls.{lift_call}
use Rattle.pr_truss_laws.specs.Exchanges.{exchange_of, exchanges}
use Rattle.pr_function_laws.specs.Holds.{HasHoldWithFunctions}

-- In this entry truss, which was not interrupted before, lifts a breakpoint of a process of which it has no hold. Of
-- such a lift this says nothing: where the opening was refused, truss goes on with its lifts.
pub record LiftsUnheld (k : ℕ) (o : Options) (pid : ℕ) (first : TracedState) (before : List Entry) (e : Entry) : Type 0
  where
    pub control : ℕ
    pub function : ℕ
    pub reply : Reply
    pub is : exchange_of k e ≡ Some (record { call = lift_call o control function; reply = reply })
    pub unheld : HasHoldWithFunctions k o pid first before → ⊥
    pub unbroken : WasInterrupted k before → ⊥

-- Where truss is told that a process has ended, by whatever call to a handle of the process, it closes each file of it
-- that it has open, before it calls anything else; but for such a lift.
pub record ClosesAllThatEndedOf (k : ℕ) (o : Options) (first : TracedState) (h : List Entry) : Type 0 where
  pub each : (before later : List Entry) (e : Entry) (pid : ℕ) → h ≡ before ++ e ∷ later
      → IsToldOfEnd k pid (state_after first before) e → (LiftsUnheld k o pid first before e → ⊥)
      → CloseAllOf k pid (state_after first before) (exchanges k later)
