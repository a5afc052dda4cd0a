use Rattle.std.specs.Prelude.{◌≡◌, ◌<◌, ℕ, List, [], ◌∷◌, ◌++◌, length}
use Rattle.pr_api.specs.Entries.{call_entry}
use Rattle.pr_model.specs.Legal.{state_after}
use Rattle.pr_model.specs.State.{TracedState}
use Rattle.pr_model.specs.declared.calls.Call.{Call}
use Rattle.pr_model.specs.declared.calls.Call.TheVariants as call
use Rattle.pr_model.specs.declared.calls.File.{File}
use Rattle.pr_model.specs.declared.calls.File.TheVariants as file
use Rattle.pr_model.specs.declared.calls.Mode.{Mode}
use Rattle.pr_model.specs.declared.calls.Mode.TheVariants as mode
use Rattle.pr_model.specs.declared.calls.Reply.{Reply}
use Rattle.pr_model.specs.declared.events.Entry.{Entry}
use Rattle.pr_num.specs.Agents.{agent_id}
use Rattle.pr_num.specs.Layout.{stack_base, text_base}
use Rattle.pr_num.specs.Limits.{descriptor_limit, read_limit}
use Rattle.pr_num.specs.Messages.{spelling}
use Rattle.pr_num.specs.declared.messages.Message.{Message}
use Rattle.pr_num.specs.declared.messages.Message.TheVariants as message
use Rattle.pr_probe.specs.AgentCode.{agent_registers, code_size, exit_pc, stack_size}
use Rattle.pr_probe.specs.Probes.{kind_size}
use Rattle.pr_tool_laws.specs.FileHandles.{HasHandleOf}
use Rattle.pr_tools.specs.Calls.{stop_bytes}

-- Which calls apfiles makes, a row each.

-- the files that it opens: of which lwp each is, 0 for the process, and for what it is opened
pub data IsItsFile : ℕ → File → Mode → Type 0 where
  control : IsItsFile 0 file.Ctl mode.Write
  status : IsItsFile 0 file.Status mode.Read
  lstatus : IsItsFile 0 file.Lstatus mode.Read
  mappings : IsItsFile 0 file.Map mode.Read
  agent_control : IsItsFile agent_id file.Lwpctl mode.Write
  agent_status : IsItsFile agent_id file.Lwpstatus mode.Read

-- A message to the process, with the bytes after its operands: it stops that, reads and writes the two places that its
-- agent uses, sets what is traced, makes the agent, and runs the process.
pub data IsToProcess : Message → List ℕ → Type 0 where
  stops : IsToProcess message.Stop []
  reads_code : IsToProcess (message.Read text_base code_size) []
  reads_stack : IsToProcess (message.Read stack_base stack_size) []
  reads_kind : IsToProcess (message.Read stack_base kind_size) []
  traces_signals : {word : ℕ} → IsToProcess (message.Strace word) []
  traces_faults : {word : ℕ} → IsToProcess (message.Sfault word) []
  traces_entries : {word : ℕ} → IsToProcess (message.Sentry word) []
  traces_exits : {word : ℕ} → IsToProcess (message.Sexit word) []
  makes_agent : IsToProcess (message.Agent (agent_registers 0 text_base)) []
  writes_code : {bytes : List ℕ} → length bytes ≡ code_size
      → IsToProcess (message.Write text_base (length bytes)) bytes
  writes_stack : {bytes : List ℕ} → length bytes ≡ stack_size
      → IsToProcess (message.Write stack_base (length bytes)) bytes
  runs : IsToProcess (message.Run 0) []

-- A message to the agent: it is to ask for a descriptor or to end, and is run.
pub data IsToAgent : Message → Type 0 where
  asks : {descriptor : ℕ} → descriptor < descriptor_limit
      → IsToAgent (message.Sreg (agent_registers descriptor text_base))
  exits : IsToAgent (message.Sreg (agent_registers 0 exit_pc))
  runs_agent : IsToAgent (message.Run 0)

-- A call of apfiles in a state: it opens a file of its process, or goes to one that it has open.
pub data IsProbeCall (k pid : ℕ) (s : TracedState) : Call → Type 0 where
  opens : {id : ℕ} {name : File} {way : Mode} → IsItsFile id name way
      → IsProbeCall k pid s (call.Open pid id name way)
  sends : {handle : ℕ} {m : Message} {tail : List ℕ} → HasHandleOf k pid 0 file.Ctl handle s → IsToProcess m tail
      → IsProbeCall k pid s (call.Ctl handle (spelling m tail))
  instructs : {handle : ℕ} {m : Message} → HasHandleOf k pid agent_id file.Lwpctl handle s → IsToAgent m
      → IsProbeCall k pid s (call.Ctl handle (spelling m []))
  waits : {handle until : ℕ} → HasHandleOf k pid 0 file.Ctl handle s
      → IsProbeCall k pid s (call.CtlWait handle until stop_bytes)
  polls : {handle : ℕ} → HasHandleOf k pid agent_id file.Lwpctl handle s
      → IsProbeCall k pid s (call.Poll (handle ∷ []))
  reads : {handle id : ℕ} {name : File} → IsItsFile id name mode.Read → HasHandleOf k pid id name handle s
      → IsProbeCall k pid s (call.Read handle 0 read_limit)
  closes : {handle id : ℕ} {name : File} {way : Mode} → IsItsFile id name way → HasHandleOf k pid id name handle s
      → IsProbeCall k pid s (call.Close handle)

-- each call of a controller in a history is one of these, in the state that it finds
pub record MakesProbeCalls (k pid : ℕ) (first : TracedState) (h : List Entry) : Type 0 where
  pub each : (front back : List Entry) (c : Call) (r : Reply) → h ≡ front ++ call_entry k c r ∷ back
      → IsProbeCall k pid (state_after first front) c
