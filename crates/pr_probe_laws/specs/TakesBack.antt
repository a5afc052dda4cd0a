use Rattle.std.specs.Prelude.{◌≡◌, ◌⊎◌, ℕ, true, false, List, [], ◌∷◌, ◌++◌}
use Rattle.pr_api.specs.Entries.{call_entry}
use Rattle.pr_api.specs.Shapes.{is_failure}
use Rattle.pr_model.specs.Legal.{state_after}
use Rattle.pr_model.specs.State.{TracedState}
use Rattle.pr_model.specs.declared.calls.Call.{Call}
use Rattle.pr_model.specs.declared.calls.Reply.{Reply}
use Rattle.pr_model.specs.declared.events.Entry.{Entry}
use Rattle.pr_num.specs.declared.messages.Message.TheVariants as message
use Rattle.pr_tool_laws.specs.Leaving.{SendsTo}
use Rattle.pr_tool_laws.specs.Requests.{asks_still}
use Rattle.pr_tool_laws.specs.Stacks.{HasLooked}
use Rattle.pr_truss_laws.specs.Exchanges.{exchanges}

-- Whether an apfiles that has made no agent has taken back its request to stop.

-- A controller has made no agent in the process: each PCAGENT of its was refused.
pub record MakesNoAgent (k pid : ℕ) (first : TracedState) (h : List Entry) : Type 0 where
  pub each : (front back : List Entry) (c : Call) (r : Reply) (regs : List ℕ)
      → h ≡ front ++ call_entry k c r ∷ back → SendsTo k pid (message.Agent regs) [] (state_after first front) c
      → is_failure r ≡ true

-- Where it has made none it has not asked for a stop, or has sent PCRUN since; or every lwp stood when it came.
abbrev pub TakesBack : ℕ → ℕ → TracedState → List Entry → Type 0
TakesBack k pid first h =
    MakesNoAgent k pid first h
    → (asks_still false (exchanges k h) ≡ false) ⊎ HasLooked k pid true first h
