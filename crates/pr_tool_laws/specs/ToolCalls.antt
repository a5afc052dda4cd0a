use Rattle.std.specs.Prelude.{◌⊎◌, ◌≡◌, ℕ, List, [], ◌∷◌}
use Rattle.pr_api.specs.Entries.{call_entry}
use Rattle.pr_model.specs.Legal.{after}
use Rattle.pr_model.specs.State.{TracedState}
use Rattle.pr_model.specs.declared.calls.Call.{Call}
use Rattle.pr_model.specs.declared.calls.Call.TheVariants as call
use Rattle.pr_model.specs.declared.calls.File.{File}
use Rattle.pr_model.specs.declared.calls.File.TheVariants as file
use Rattle.pr_model.specs.declared.calls.Mode.{Mode}
use Rattle.pr_model.specs.declared.calls.Mode.TheVariants as mode
use Rattle.pr_model.specs.declared.calls.Reply.{Reply}
use Rattle.pr_model.specs.declared.events.Entry.{Entry}
use Rattle.pr_model.specs.declared.tools.ToolKind.{ToolKind}
use Rattle.pr_model.specs.declared.tools.ToolKind.TheVariants.{Pflags, Psig, Pstack, Pmap, Pfiles, Pstop, Prun, Pwait, Ptree}
use Rattle.pr_num.specs.Limits.{read_limit}
use Rattle.pr_tools.specs.Calls.{direct_bytes, run_bytes, short_read, stop_bytes}
use Rattle.pr_tool_laws.specs.FileHandles.{HasHandleOf}
use Rattle.pr_tool_laws.specs.Leaving.{IsClose}

-- Which calls a tool makes, a row each.

-- ---- its files

-- the record that a tool reads; pstop, prun and ptree have none
pub data IsItsRecord : ToolKind → File → Type 0 where
  of_pflags : IsItsRecord Pflags file.Lstatus
  of_psig : IsItsRecord Psig file.Sigact
  of_pstack : IsItsRecord Pstack file.Lstatus
  of_pmap : IsItsRecord Pmap file.Map
  of_pfiles : IsItsRecord Pfiles file.Fds
  of_pwait : IsItsRecord Pwait file.Psinfo

-- which tools open the control file, and how; pstack lets nobody else control the process meanwhile
pub data IsItsControl : ToolKind → Mode → Type 0 where
  by_pstack : IsItsControl Pstack mode.WriteExcl
  by_pstop : IsItsControl Pstop mode.Write
  by_prun : IsItsControl Prun mode.Write

-- ---- its calls

-- A call of a tool in a state that is no close. It opens a file of its process, or goes to one that it has open: it
-- reads the record from its beginning, or sends its message. pwait waits until the process has ended; pstack waits for
-- the process to stop, however long that takes, and reads its memory in short pieces. ptree lists the processes.
pub data IsToolCall (k pid : ℕ) (s : TracedState) : ToolKind → Call → Type 0 where
  opens_record : {kind : ToolKind} {name : File} → IsItsRecord kind name
      → IsToolCall k pid s kind (call.Open pid 0 name mode.Read)
  opens_control : {kind : ToolKind} {way : Mode} → IsItsControl kind way
      → IsToolCall k pid s kind (call.Open pid 0 file.Ctl way)
  opens_memory : IsToolCall k pid s Pstack (call.Open pid 0 file.Mem mode.Read)
  reads_record : {kind : ToolKind} {name : File} {handle : ℕ} → IsItsRecord kind name
      → HasHandleOf k pid 0 name handle s → IsToolCall k pid s kind (call.Read handle 0 read_limit)
  reads_memory : {handle from : ℕ} → HasHandleOf k pid 0 file.Mem handle s
      → IsToolCall k pid s Pstack (call.Read handle from short_read)
  awaits_end : {handle : ℕ} → HasHandleOf k pid 0 file.Psinfo handle s
      → IsToolCall k pid s Pwait (call.Poll (handle ∷ []))
  directs : {handle : ℕ} → HasHandleOf k pid 0 file.Ctl handle s
      → IsToolCall k pid s Pstop (call.Ctl handle direct_bytes)
  runs : {handle : ℕ} → HasHandleOf k pid 0 file.Ctl handle s → IsToolCall k pid s Prun (call.Ctl handle run_bytes)
  stops : {handle : ℕ} → HasHandleOf k pid 0 file.Ctl handle s
      → IsToolCall k pid s Pstack (call.Ctl handle stop_bytes)
  awaits_stop : {handle : ℕ} → HasHandleOf k pid 0 file.Ctl handle s
      → IsToolCall k pid s Pstack (call.CtlWait handle 0 stop_bytes)
  runs_again : {handle : ℕ} → HasHandleOf k pid 0 file.Ctl handle s
      → IsToolCall k pid s Pstack (call.Ctl handle run_bytes)
  lists : IsToolCall k pid s Ptree call.List

-- each call of a controller in a history is one of these, in the state that it finds, or a close
abbrev pub MakesToolCalls : ToolKind → ℕ → ℕ → TracedState → List Entry → Type 0
MakesToolCalls kind k pid s [] = Unit {0}
MakesToolCalls kind k pid s (e ∷ es) =
    ((c : Call) (r : Reply) → e ≡ call_entry k c r → IsToolCall k pid s kind c ⊎ IsClose c)
    × MakesToolCalls kind k pid (after s e) es
