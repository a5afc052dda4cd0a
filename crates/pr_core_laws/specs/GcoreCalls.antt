use Rattle.std.specs.Prelude.{◌≡◌, ◌⊎◌, ◌≤◌, ℕ, List, [], ◌∷◌}
use Rattle.pr_api.specs.Entries.{call_entry}
use Rattle.pr_core.specs.Gcores.{piece_limit}
use Rattle.pr_model.specs.Legal.{after}
use Rattle.pr_model.specs.State.{TracedState}
use Rattle.pr_model.specs.declared.calls.Call.{Call}
use Rattle.pr_model.specs.declared.calls.Call.TheVariants as call
use Rattle.pr_model.specs.declared.calls.File.{File}
use Rattle.pr_model.specs.declared.calls.File.TheVariants as file
use Rattle.pr_model.specs.declared.calls.Mode.{Mode}
use Rattle.pr_model.specs.declared.calls.Mode.TheVariants as mode
use Rattle.pr_model.specs.declared.calls.Reply.{Reply}
use Rattle.pr_model.specs.declared.events.Entry.{Entry}
use Rattle.pr_num.specs.Limits.{read_limit}
use Rattle.pr_tool_laws.specs.FileHandles.{HasHandleOf}
use Rattle.pr_tool_laws.specs.Leaving.{IsClose}
use Rattle.pr_tools.specs.Calls.{run_bytes, stop_bytes}

-- Which calls gcore makes, a row each.

-- the files that it opens, and for what
pub data IsItsFile : File → Mode → Type 0 where
  control : IsItsFile file.Ctl mode.WriteExcl
  status : IsItsFile file.Status mode.Read
  psinfo : IsItsFile file.Psinfo mode.Read
  lstatus : IsItsFile file.Lstatus mode.Read
  sigact : IsItsFile file.Sigact mode.Read
  mappings : IsItsFile file.Map mode.Read
  descriptors : IsItsFile file.Fds mode.Read
  memory : IsItsFile file.Mem mode.Read

-- A call of gcore in a state that is no close: it opens a file of its process, stops that, waits for it and runs it, or
-- reads a file of it that it has open, the memory in pieces.
pub data IsGcoreCall (k pid : ℕ) (s : TracedState) : Call → Type 0 where
  opens : {name : File} {way : Mode} → IsItsFile name way → IsGcoreCall k pid s (call.Open pid 0 name way)
  stops : {handle : ℕ} → HasHandleOf k pid 0 file.Ctl handle s → IsGcoreCall k pid s (call.Ctl handle stop_bytes)
  waits : {handle until : ℕ} → HasHandleOf k pid 0 file.Ctl handle s
      → IsGcoreCall k pid s (call.CtlWait handle until stop_bytes)
  runs : {handle : ℕ} → HasHandleOf k pid 0 file.Ctl handle s → IsGcoreCall k pid s (call.Ctl handle run_bytes)
  reads : {handle : ℕ} {name : File} → IsItsFile name mode.Read → HasHandleOf k pid 0 name handle s
      → IsGcoreCall k pid s (call.Read handle 0 read_limit)
  reads_memory : {handle from len : ℕ} → HasHandleOf k pid 0 file.Mem handle s → len ≤ piece_limit
      → IsGcoreCall k pid s (call.Read handle from len)

-- each call of a controller in a history is one of these, in the state that it finds, or a close
abbrev pub MakesGcoreCalls : ℕ → ℕ → TracedState → List Entry → Type 0
MakesGcoreCalls k pid s [] = Unit {0}
MakesGcoreCalls k pid s (e ∷ es) =
    ((c : Call) (r : Reply) → e ≡ call_entry k c r → IsGcoreCall k pid s c ⊎ IsClose c)
    × MakesGcoreCalls k pid (after s e) es
