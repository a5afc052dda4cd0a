use Rattle.std.proofs.Common.{ℕ, List, ◌∷◌}
use Rattle.pr_api.specs.Entries.{call_entry}
use Rattle.pr_function_hides.proofs.GoingOn.CalmCalls as Calm
use Rattle.pr_function_hides.proofs.MetFaults.ClearingCalls.{sends-unclear}
use Rattle.pr_function_hides.proofs.Tidy.CopyFree.{off-on, unbroken-calm}
use Rattle.pr_function_hides.specs.ClearedFaults.{ClearByRunning}
use Rattle.pr_function_hides.specs.RunsOfTrusses.{IsRunOfTrusses}
use Rattle.pr_hidden.specs.Hiders.{Hiders}
use Rattle.pr_model.specs.State.{TracedState}
use Rattle.pr_model.specs.declared.calls.Call.TheVariants as call
use Rattle.pr_model.specs.declared.events.Entry.{Entry}
use Rattle.pr_num.specs.declared.messages.Message.TheVariants as message
use Rattle.pr_world.specs.ControllerStates.{ControllerState}

-- Truss clears faults with PCRUN alone, as long as it is not interrupted.

module _ (n : ℕ) (who : Hiders) (controllers : List ControllerState) (first : TracedState) (h : List Entry)
    (run : IsRunOfTrusses n who controllers first h) where
  pub clears-running : ClearByRunning who h
  clears-running = record {
    none = λ front back k handle sent r len place hider unbroken reads.
        sends-unclear run front back k (call.Ctl handle sent) r place hider
        (off-on run k hider front (call_entry k (call.Ctl handle sent) r ∷ back) place
        (Calm.tr run front back k (call.Ctl handle sent) r place hider)
        (Calm.is-now run front back k (call.Ctl handle sent) r place hider) (unbroken-calm k front unbroken))
        message.Cfault len reads;
  }

pub ruleset clears = (clears-running)
