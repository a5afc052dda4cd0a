pub use Rattle.pr_api.specs.Entries.{call_entry, turn_entry, tick_entry, reply_of, last_reply_of}
pub use Rattle.pr_api.specs.Sleepers.{sleeps_on, is_sleeper, has_sleeper, some_sleeper}
use Rattle.std.specs.Prelude.{◌+◌, ℕ, Bool, true, false, List, [], ◌∷◌, ◌++◌, Option, option_map}
use Rattle.pr_num.specs.Messages.{first_message}
use Rattle.pr_ctl.specs.Memory.{begins_in_place}
use Rattle.pr_model.specs.Calls.{Answer, answer_to}
use Rattle.pr_model.specs.Legal.{ticked}
use Rattle.pr_model.specs.LwpTurns.{LwpTurn, turn_of}
use Rattle.pr_model.specs.State.{TracedState, with_system}
use Rattle.pr_model.specs.declared.calls.Call.{Call}
use Rattle.pr_model.specs.declared.calls.Call.TheVariants.{Open, Close, Ctl, CtlWait, Read, Poll, Interrupt, Spawn, Kill, Until, List as ListProcesses}
use Rattle.pr_model.specs.declared.events.Entry.{Entry}
use Rattle.pr_model.specs.declared.events.Turned.{Turned}

-- The kernel with its history: what it keeps, and what each step makes of it.

-- The state that the machine is in, the steps that were made, and how many steps there are places for in all.
pub record Kernel : Type 0 where
  pub state : TracedState
  pub history : List Entry
  pub places : ℕ

-- a kernel in this state, with its history one entry longer
abbrev pub with_entry : TracedState → Entry → Kernel → Kernel
with_entry s e k = record k { state = s; history = k.history ++ e ∷ [] }

-- the kernel after an answer to a call
abbrev pub after_answer : ℕ → Call → Kernel → Answer → Kernel
after_answer by call k a = with_entry a.state (call_entry by call a.reply) k

-- The kernel after a call: the answer that the machine gives, and its entry. None: the call is not ready.
unfoldable pub after_call : ℕ → Call → Kernel → Option Kernel
after_call by call k = option_map (after_answer by call k) (answer_to k.state by call)

-- a kernel, and what the turn that led to it did
pub record TurnedKernel : Type 0 where
  pub kernel : Kernel
  pub turned : Turned

abbrev pub after_lwp_turn : ℕ → ℕ → Kernel → LwpTurn → TurnedKernel
after_lwp_turn pid id k t = record {
  kernel = with_entry (record k.state { system = t.system }) (turn_entry pid id t.turned) k;
  turned = t.turned;
}

-- The kernel after a turn of an lwp: what the machine makes of it, and its entry. None: the lwp cannot have a turn.
unfoldable pub after_turn : ℕ → ℕ → Kernel → Option TurnedKernel
after_turn pid id k = option_map (after_lwp_turn pid id k) (turn_of k.state.system pid id)

-- the kernel a millisecond later
unfoldable pub after_tick : Kernel → Kernel
after_tick k = with_entry (with_system ticked k.state) (tick_entry (k.state.system.clock + 1)) k

-- calls that take no memory: all but reads, lists, processes that are made, and the control messages that answer bytes,
-- write bytes or make an lwp
abbrev pub takes_no_memory : Call → Bool
takes_no_memory (Open pid id file mode) = true
takes_no_memory (Close handle) = true
takes_no_memory (Ctl handle bytes) = begins_in_place (first_message bytes)
takes_no_memory (CtlWait handle until bytes) = true
takes_no_memory (Read handle from len) = false
takes_no_memory (Poll handles) = true
takes_no_memory (Interrupt controller) = true
takes_no_memory (Spawn program held) = false
takes_no_memory (Kill pid sig) = true
takes_no_memory (Until moment) = true
takes_no_memory ListProcesses = false
