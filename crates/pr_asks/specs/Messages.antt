use Rattle.std.specs.Prelude.{◌++◌, ℕ, List, Option, Some, Result, Ok, Err, codes, slice_get, length, ◌-◌}
use Rattle.pr_model.specs.declared.calls.Reply.TheVariants.{Handle}
use Rattle.pr_scen.specs.Reading.{scenario_of}
use Rattle.pr_scen.specs.Scenarios.{Scenario}
use Rattle.pr_scen.specs.Scripts.{ScriptState, fed}
use Rattle.pr_scen.specs.declared.plans.Plan.{Plan}
use Rattle.pr_scen.specs.declared.plans.Plan.TheVariants as plan
use Rattle.pr_scen.specs.Refusals.{ScenFault}
use Rattle.pr_asks.specs.declared.asks.AskKind.{AskKind}
use Rattle.pr_asks.specs.declared.asks.AskKind.TheVariants.{NoCall, Message}

-- Messages by words. There is one language of them, that of scripts: words are the messages that the line `write` of a
-- script has, which opens one file and writes these to it. The script is then fed the handle, as the reply to its open,
-- so that what it does next is that write: a call for each message.

abbrev pub scenario_text : List ℕ → List ℕ
scenario_text messages = codes "script\nopen h 1 ctl w\nwrite h " ++ (messages ++ codes "\nend\n")

-- the script of a plan
abbrev pub script_in : Option Plan → Result ScriptState AskKind
script_in (Some (plan.Script s)) = Ok s
script_in _ = Err NoCall

-- the script whose open gave this handle
abbrev pub opened : ℕ → Result ScriptState AskKind → Result ScriptState AskKind
opened handle (Ok s) = Ok (fed s (Handle handle))
opened handle (Err kind) = Err kind

abbrev pub script_of : Scenario → Result ScriptState AskKind
script_of s = script_in (slice_get s.controllers (length s.controllers - 1))

abbrev pub messages_in : ℕ → Result Scenario ScenFault → Result ScriptState AskKind
messages_in handle (Ok s) = opened handle (script_of s)
messages_in handle (Err fault) = Err (Message fault.kind)

-- the script that writes these messages to the file of a handle
unfoldable pub messages_of : ℕ → List ℕ → Result ScriptState AskKind
messages_of handle messages = messages_in handle (scenario_of (scenario_text messages))
