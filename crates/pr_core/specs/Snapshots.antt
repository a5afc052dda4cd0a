-- The core of a process in a state of the machine: what gcore(1) is to write of it.
use Rattle.std.specs.Prelude.{ℕ, map}
use Rattle.pr_model.specs.Readers.{space_seen}
use Rattle.pr_model.specs.Records.{fds_of, lstatus_of, map_of, psinfo_of}
use Rattle.pr_model.specs.State.{TracedProcess, TracedSystem}
use Rattle.pr_num.specs.declared.mappings.Mapping.{Mapping}
use Rattle.pr_rec.specs.RecordWords.{fd_entry_words_of}
use Rattle.pr_core.specs.Cores.{CoreState}

-- its records as its files show them, and the bytes of each mapping that it shows
unfoldable pub snapshot : ℕ → TracedSystem → TracedProcess → CoreState
snapshot pid s p = record {
  pid = pid;
  psinfo = psinfo_of s pid p;
  lwps = lstatus_of p;
  sigact = p.dispositions;
  maps = map_of s p;
  fds = map fd_entry_words_of (fds_of s.files p);
  memory = map (λ (m : Mapping). m.bytes) (space_seen s p);
}
