use Rattle.std.specs.Prelude.{◌==◌, ◌+◌, ℕ, List, [], ◌∷◌, Option, Some, None, is_some, length, map, unwrap_or, if◌then◌else◌}
use Rattle.pr_num.specs.Files.{FileTable, Descriptors, fd_kind_of}
use Rattle.pr_num.specs.Records.{name_field}
use Rattle.pr_num.specs.declared.files.OpenFile.{OpenFile}
use Rattle.pr_num.specs.declared.files.Target.{Target}
use Rattle.pr_num.specs.declared.files.Target.TheVariants as target
use Rattle.pr_num.specs.declared.mappings.Area.{Area}
use Rattle.pr_num.specs.declared.mappings.Mapping.{Mapping}
use Rattle.pr_num.specs.declared.mappings.MappingKind.{MappingKind}
use Rattle.pr_num.specs.declared.mappings.MappingKind.TheVariants.{Text, Data, Heap, Stack, Mapped}
use Rattle.pr_parts.specs.FileCalls.{name_of}
use Rattle.pr_parts.specs.FileTables.{at_place}
use Rattle.pr_rec.specs.declared.entries.FdEntry.{FdEntry}
use Rattle.pr_rec.specs.declared.entries.ListEntry.{ListEntry}
use Rattle.pr_rec.specs.declared.entries.WatchEntry.{WatchEntry}
use Rattle.pr_rec.specs.declared.lwps.LwpStatus.{LwpStatus}
use Rattle.pr_rec.specs.declared.mappings.MapEntry.{MapEntry}
use Rattle.pr_rec.specs.declared.processes.Psinfo.{Psinfo}
use Rattle.pr_rec.specs.declared.usages.Usage.{Usage}
use Rattle.pr_model.specs.Readers.{size_seen, space_seen}
use Rattle.pr_model.specs.State.{TracedSystem, TracedProcess, TracedLwp}
use Rattle.pr_model.specs.Statuses.{lwpstatus_of}

-- The other records of the process file system (proc(4)), filled from the state, a line a field.

-- "lstatus": the status of each lwp, by rising id
abbrev pub statuses_of_lwps : TracedProcess → List (ℕ × TracedLwp) → List LwpStatus
statuses_of_lwps p [] = []
statuses_of_lwps p (e ∷ es) = lwpstatus_of p e.0 e.1 ∷ statuses_of_lwps p es

unfoldable pub lstatus_of : TracedProcess → List LwpStatus
lstatus_of p = statuses_of_lwps p p.lwps

-- "psinfo": what ps(1) shows of a process, also of a zombie
unfoldable pub psinfo_of : TracedSystem → ℕ → TracedProcess → Psinfo
psinfo_of s pid p = record {
  id = pid;
  parent = p.parent;
  lwps = length p.lwps;
  zombie = is_some p.ended;
  wait_status = unwrap_or p.ended 0;
  mapped = size_seen s p;
  made_at = p.made_at;
  job_stop = p.job_stop;
  program = name_field p.program;
}

-- "usage": what a process has used, also a zombie
unfoldable pub usage_of : ℕ → TracedProcess → Usage
usage_of pid p = record {
  id = pid;
  calls = p.control.usage.calls;
  signals = p.control.usage.signals;
  faults = p.control.usage.faults;
  instructions = p.control.usage.instructions;
}

-- "map": a mapping of text or data has the program's name
abbrev pub mapping_name : List ℕ → MappingKind → List ℕ
mapping_name program Text = program
mapping_name program Data = program
mapping_name program Heap = []
mapping_name program Stack = []
mapping_name program Mapped = []

unfoldable pub map_entry_of : List ℕ → Mapping → MapEntry
map_entry_of program m = record {
  at = m.at;
  size = length m.bytes;
  prot = m.prot;
  kind = m.kind;
  name = name_field (mapping_name program m.kind);
}

unfoldable pub map_of : TracedSystem → TracedProcess → List MapEntry
map_of s p = map (map_entry_of p.program) (space_seen s p)

-- "watch"
unfoldable pub watch_entry_of : Area → WatchEntry
watch_entry_of a = record { at = a.at; size = a.size; flags = a.flags }

unfoldable pub watch_of : TracedProcess → List WatchEntry
watch_of p = map watch_entry_of p.control.areas

-- "fds": each open descriptor, by its number
unfoldable pub fd_entry_of : FileTable → ℕ → OpenFile → FdEntry
fd_entry_of files fd o = record {
  descriptor = fd;
  kind = fd_kind_of o.target;
  access = o.access;
  offset = o.offset;
  name = name_field (unwrap_or (name_of files o.target) []);
}

abbrev pub fd_entry_before : FileTable → ℕ → Option OpenFile → List FdEntry → List FdEntry
fd_entry_before files fd None others = others
fd_entry_before files fd (Some o) others = fd_entry_of files fd o ∷ others

abbrev pub fd_entries_from : FileTable → ℕ → Descriptors → List FdEntry
fd_entries_from files fd [] = []
fd_entries_from files fd (None ∷ fds) = fd_entries_from files (fd + 1) fds
fd_entries_from files fd (Some place ∷ fds) =
    fd_entry_before files fd (at_place files.opens place) (fd_entries_from files (fd + 1) fds)

unfoldable pub fds_of : FileTable → TracedProcess → List FdEntry
fds_of files p = fd_entries_from files 0 p.fds

-- the list of processes: those that were not reaped, by rising id, but for process 0
unfoldable pub list_entry_of : ℕ → TracedProcess → ListEntry
list_entry_of pid p = record { id = pid; parent = p.parent; program = name_field p.program }

abbrev pub list_entries : List (ℕ × TracedProcess) → List ListEntry
list_entries [] = []
list_entries (e ∷ es) = if e.0 == 0 then list_entries es else list_entry_of e.0 e.1 ∷ list_entries es

unfoldable pub list_of : TracedSystem → List ListEntry
list_of s = list_entries s.processes
