use Rattle.std.specs.Prelude.{ℕ, List, map}
use Rattle.pr_num.specs.Records.{entries_words, counted_words}
use Rattle.pr_num.specs.Words.{words_bytes}
use Rattle.pr_rec.specs.RecordWords.{lwpstatus_words_of, status_words_of, psinfo_words_of, usage_words_of, map_entry_words_of, watch_entry_words_of, fd_entry_words_of, list_entry_words_of}
use Rattle.pr_rec.specs.declared.entries.FdEntry.{FdEntry}
use Rattle.pr_rec.specs.declared.entries.ListEntry.{ListEntry}
use Rattle.pr_rec.specs.declared.entries.WatchEntry.{WatchEntry}
use Rattle.pr_rec.specs.declared.lwps.LwpStatus.{LwpStatus}
use Rattle.pr_rec.specs.declared.mappings.MapEntry.{MapEntry}
use Rattle.pr_rec.specs.declared.processes.Psinfo.{Psinfo}
use Rattle.pr_rec.specs.declared.statuses.Status.{Status}
use Rattle.pr_rec.specs.declared.usages.Usage.{Usage}

-- The bytes of each record (proc(4)), one definition a file of the process file system.

-- "status": a process and its representative lwp
unfoldable pub status_bytes : Status → List ℕ
status_bytes s = words_bytes (status_words_of s)

-- "lwpstatus": an lwp
unfoldable pub lwpstatus_bytes : LwpStatus → List ℕ
lwpstatus_bytes l = words_bytes (lwpstatus_words_of l)

-- "lstatus": how many lwps a process has, and the status of each
unfoldable pub lstatus_bytes : List LwpStatus → List ℕ
lstatus_bytes lwps = words_bytes (counted_words (map lwpstatus_words_of lwps))

-- "psinfo": what ps(1) shows of a process
unfoldable pub psinfo_bytes : Psinfo → List ℕ
psinfo_bytes p = words_bytes (psinfo_words_of p)

-- "map": the mappings of a process
unfoldable pub map_bytes : List MapEntry → List ℕ
map_bytes mappings = words_bytes (entries_words (map map_entry_words_of mappings))

-- "usage": what a process has used
unfoldable pub usage_bytes : Usage → List ℕ
usage_bytes u = words_bytes (usage_words_of u)

-- "sigact": what a process does at each of the signals 1 to 39, a word a signal
unfoldable pub sigact_bytes : List ℕ → List ℕ
sigact_bytes dispositions = words_bytes dispositions

-- "watch": the watched areas of a process
unfoldable pub watch_bytes : List WatchEntry → List ℕ
watch_bytes areas = words_bytes (entries_words (map watch_entry_words_of areas))

-- "fds": the open descriptors of a process
unfoldable pub fds_bytes : List FdEntry → List ℕ
fds_bytes descriptors = words_bytes (entries_words (map fd_entry_words_of descriptors))

-- the list of processes
unfoldable pub list_bytes : List ListEntry → List ℕ
list_bytes processes = words_bytes (entries_words (map list_entry_words_of processes))
