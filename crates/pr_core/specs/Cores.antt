use Rattle.std.specs.Prelude.{ℕ, List, map}
use Rattle.pr_rec.specs.RecordWords.{lwpstatus_words_of, psinfo_words_of, map_entry_words_of}
use Rattle.pr_rec.specs.declared.lwps.LwpStatus.{LwpStatus}
use Rattle.pr_rec.specs.declared.mappings.MapEntry.{MapEntry}
use Rattle.pr_rec.specs.declared.processes.Psinfo.{Psinfo}

-- A core: what a process is at one moment, with its memory (core(5), gcore(1)).

-- A core as contracts see it: the process's id, what ps(1) shows of it, its lwps, its dispositions of the signals 1 to
-- 39, its mappings, its descriptors, each by the 8 words of its record, and the bytes of each mapping.
pub record CoreState : Type 0 where
  pub pid : ℕ
  pub psinfo : Psinfo
  pub lwps : List LwpStatus
  pub sigact : List ℕ
  pub maps : List MapEntry
  pub fds : List (List ℕ)
  pub memory : List (List ℕ)

-- A core with its records by their words.
pub record CoreWords : Type 0 where
  pub pid : ℕ
  pub psinfo : List ℕ
  pub lwps : List (List ℕ)
  pub sigact : List ℕ
  pub maps : List (List ℕ)
  pub fds : List (List ℕ)
  pub memory : List (List ℕ)

-- the words of a core's records
abbrev pub core_words : CoreState → CoreWords
core_words c = record {
  pid = c.pid;
  psinfo = psinfo_words_of c.psinfo;
  lwps = map lwpstatus_words_of c.lwps;
  sigact = c.sigact;
  maps = map map_entry_words_of c.maps;
  fds = c.fds;
  memory = c.memory;
}
