use Rattle.std.specs.Prelude.{◌≡◌, ℕ, List, [], Option, Some, None, option_map, take}
use Rattle.pr_model.specs.Handles.{handle_of}
use Rattle.pr_model.specs.Reads.{file_read}
use Rattle.pr_model.specs.Records.{list_of}
use Rattle.pr_model.specs.Replies.{bytes_in}
use Rattle.pr_model.specs.State.{TracedState, TracedSystem}
use Rattle.pr_model.specs.declared.calls.Call.{Call}
use Rattle.pr_model.specs.declared.calls.Call.TheVariants.{Read, List as ListProcesses}
use Rattle.pr_model.specs.declared.calls.File.{File}
use Rattle.pr_model.specs.declared.calls.File.TheVariants as file
use Rattle.pr_model.specs.declared.handles.Held.{Held}
use Rattle.pr_model.specs.declared.tools.ToolKind.{ToolKind}
use Rattle.pr_model.specs.declared.tools.ToolKind.TheVariants.{Pflags, Psig, Pstack, Pmap, Pfiles, Pstop, Prun, Pwait, Ptree}
use Rattle.pr_num.specs.Limits.{read_limit}
use Rattle.pr_rec.specs.RecordBytes.{list_bytes}
use Rattle.pr_tools.specs.RecordTexts.{text_of_record}
use Rattle.pr_tools.specs.Steps.{file_of, record_room}

-- By which call a tool reads, what it reads in one state, and the text that it makes of that.

-- ---- the call

-- A controller reads this file of the process from its beginning, by a handle that it has of it.
pub record ReadsFile (k pid : ℕ) (name : File) (s : TracedState) (c : Call) : Type 0 where
  pub handle : ℕ
  pub held : Held
  pub is_read : c ≡ Read handle 0 read_limit
  pub there : handle_of s.opens k handle ≡ Some held
  pub of : held.pid ≡ pid
  pub file : held.file ≡ name

-- The call by which a tool reads what it shows, a row a tool. pstop and prun read nothing: any call will do. pstack
-- goes on to read the memory of the process.
unfoldable pub IsToolRead : ToolKind → ℕ → ℕ → TracedState → Call → Type 0
IsToolRead Pflags k pid s c = ReadsFile k pid file.Lstatus s c
IsToolRead Psig k pid s c = ReadsFile k pid file.Sigact s c
IsToolRead Pstack k pid s c = ReadsFile k pid file.Lstatus s c
IsToolRead Pmap k pid s c = ReadsFile k pid file.Map s c
IsToolRead Pfiles k pid s c = ReadsFile k pid file.Fds s c
IsToolRead Pstop k pid s c = Unit {0}
IsToolRead Prun k pid s c = Unit {0}
IsToolRead Pwait k pid s c = ReadsFile k pid file.Psinfo s c
IsToolRead Ptree k pid s c = c ≡ ListProcesses

-- ---- what it reads

-- the bytes that one read of a tool's file gives it; none where that is refused
abbrev pub record_in : ToolKind → ℕ → TracedSystem → Option (List ℕ)
record_in kind pid s = option_map (take (record_room kind)) (bytes_in (file_read s pid 0 0 read_limit (file_of kind)))

-- What a tool reads in a state, a row a tool. pstop and prun read nothing, and pstack reads more than once.
unfoldable pub bytes_shown : ToolKind → ℕ → TracedSystem → Option (List ℕ)
bytes_shown Pflags pid s = record_in Pflags pid s
bytes_shown Psig pid s = record_in Psig pid s
bytes_shown Pstack pid s = None
bytes_shown Pmap pid s = record_in Pmap pid s
bytes_shown Pfiles pid s = record_in Pfiles pid s
bytes_shown Pstop pid s = Some []
bytes_shown Prun pid s = Some []
bytes_shown Pwait pid s = record_in Pwait pid s
bytes_shown Ptree pid s = Some (take (record_room Ptree) (list_bytes (list_of s)))

-- ---- the text

-- the text of a tool that reads in this state
unfoldable pub text_read : ToolKind → ℕ → TracedSystem → Option (List ℕ)
text_read kind pid s = option_map (text_of_record kind pid) (bytes_shown kind pid s)
