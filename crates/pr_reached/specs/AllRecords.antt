use Rattle.std.specs.Prelude.{◌≡◌, ℕ, Some, length}
use Rattle.std.specs.List.{All}
use Rattle.pr_num.specs.Limits.{signal_count}
use Rattle.pr_num.specs.Words.{IsWord}
use Rattle.pr_rec.specs.InRange.{IsFdEntry, IsListEntry, IsLwpStatus, IsMapEntry, IsPsinfo, IsStatus, IsWatchEntry}
use Rattle.pr_model.specs.Records.{fds_of, list_of, lstatus_of, map_of, psinfo_of, watch_of}
use Rattle.pr_model.specs.State.{TracedLwp, TracedProcess, TracedSystem, lwp_of, process_of}
use Rattle.pr_model.specs.Statuses.{lwpstatus_of, status_of}

-- The records of the process file system, but for "usage", with their fields in their ranges.

-- those of a process, live or a zombie: "status", "lstatus", "lwpstatus" of each lwp, "psinfo", "map", "sigact",
-- "watch" and "fds"
pub record HasRecordsInRange (s : TracedSystem) (pid : ℕ) (p : TracedProcess) : Type 0 where
  pub status : IsStatus (status_of s pid p)
  pub lstatus : All IsLwpStatus (lstatus_of p)
  pub lwpstatus : (id : ℕ) (l : TracedLwp) → lwp_of p id ≡ Some l → IsLwpStatus (lwpstatus_of p id l)
  pub psinfo : IsPsinfo (psinfo_of s pid p)
  pub mappings : All IsMapEntry (map_of s p)
  pub dispositions : All IsWord p.dispositions
  pub signals : length p.dispositions ≡ signal_count
  pub areas : All IsWatchEntry (watch_of p)
  pub descriptors : All IsFdEntry (fds_of s.files p)

-- those of each process, and the list of processes
pub record AreRecordsInRange (s : TracedSystem) : Type 0 where
  pub processes : (pid : ℕ) (p : TracedProcess) → process_of s pid ≡ Some p → HasRecordsInRange s pid p
  pub listed : All IsListEntry (list_of s)
