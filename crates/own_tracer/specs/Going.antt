use Rattle.std.specs.Prelude.{◌≡◌, ◌++◌, ℕ, Bool, true, false, not, List, [], ◌∷◌, Result, Ok, Err, Some}
use Rattle.pr_api.specs.Views.{KernelView, kernel_of}
use Rattle.pr_model.specs.Legal.{IsLegal, state_after}
use Rattle.pr_model.specs.State.{TracedState}
use Rattle.pr_model.specs.declared.calls.Call.{Call}
use Rattle.pr_model.specs.declared.calls.Call.TheVariants as call
use Rattle.pr_model.specs.declared.events.Act.{Act}
use Rattle.pr_model.specs.declared.events.Act.TheVariants as act
use Rattle.pr_model.specs.declared.events.Entry.{Entry}
use Rattle.pr_num.specs.Messages.{first_message}
use Rattle.pr_num.specs.declared.messages.Message.{Message}
use Rattle.pr_num.specs.declared.messages.Message.TheVariants as message
use Rattle.pr_num.specs.declared.messages.MsgFault.{MsgFault}

-- What the injector and the programs make of a kernel that tells its machine.

-- ---- where a kernel stands

-- A kernel tells its machine, which is in this state.
pub record TellsState (k : KernelView) : Type 0 where
  pub state : TracedState
  pub told : k ≡ kernel_of state k.history k.places

-- The same, and something holds of that state.
pub record Stands (R : TracedState → Type 0) (k : KernelView) : Type 0 where
  pub is : TellsState k
  pub holds : R is.state

-- ---- calls that change no memory

-- the messages that change memory, or make an lwp that may
abbrev pub changes_memory : Message → Bool
changes_memory (message.Write at len) = true
changes_memory (message.Agent regs) = true
changes_memory _ = false

abbrev pub read_changes : Result (Message × ℕ) MsgFault → Bool
read_changes (Ok read) = changes_memory read.0
read_changes (Err fault) = false

-- Calls of a controller that change no memory, make no process and send no signal. Of a write of messages the first one
-- is done.
unfoldable pub only_controls : Call → Bool
only_controls (call.Ctl handle bytes) = not (read_changes (first_message bytes))
only_controls (call.Spawn program held) = false
only_controls (call.Kill pid sig) = false
only_controls (call.Interrupt controller) = false
only_controls _ = true

abbrev pub leaves_memory : Act → Bool
leaves_memory (act.Call c r) = only_controls c
leaves_memory _ = true

-- whether each entry of a controller does so
abbrev pub AllLeaveMemory : List Entry → Type 0
AllLeaveMemory [] = Unit {0}
AllLeaveMemory (e ∷ es) = (leaves_memory e.act ≡ true) × AllLeaveMemory es

-- ---- going on

-- A kernel went on by some entries: they are legal where there is one controller, and lead from the machine's state to
-- its new one, of which something holds. No entry of a controller changes memory.
pub record Goes (R : TracedState → Type 0) (old new : KernelView) : Type 0 where
  pub entries : List Entry
  pub history : new.history ≡ old.history ++ entries
  pub places : new.places ≡ old.places
  pub legal : (s : TracedState) → old.machine ≡ Some s → IsLegal 1 s entries
  pub leads : (s : TracedState) → old.machine ≡ Some s → new.machine ≡ Some (state_after s entries)
  pub memory : AllLeaveMemory entries
  pub stands : Stands R new
