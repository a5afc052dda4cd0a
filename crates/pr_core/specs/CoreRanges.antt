use Rattle.std.specs.Prelude.{◌≡◌, ◌<◌, ◌^◌, ℕ, List, length, map, slice_index, None}
use Rattle.std.specs.List.{All}
use Rattle.pr_num.specs.Limits.{signal_count}
use Rattle.pr_num.specs.Records.{Range, first_out_of_range, psinfo_ranges, lwpstatus_ranges, sigact_ranges, map_entry_ranges, fd_entry_ranges}
use Rattle.pr_num.specs.Words.{IsWord}
use Rattle.pr_rec.specs.InRange.{IsInfo, IsLwpStatus, IsMapEntry, IsPsinfo}
use Rattle.pr_rec.specs.declared.lwps.LwpStatus.{LwpStatus}
use Rattle.pr_rec.specs.declared.mappings.MapEntry.{MapEntry}
use Rattle.pr_core.specs.CoreBytes.{encoded}
use Rattle.pr_core.specs.Cores.{CoreState, CoreWords}

-- Cores whose fields are in their ranges, and whose memory fits their mappings.

-- words that are those of a record: as many as it has, each in its range
pub record IsRecord (ranges : List Range) (words : List ℕ) : Type 0 where
  pub count : length words ≡ length ranges
  pub ranged : first_out_of_range ranges words ≡ None

-- how many bytes a mapping has, by the words of its record
abbrev pub mapping_size : List ℕ → ℕ
mapping_size words = slice_index words 1

-- The wire format of cores: these bytes encode a core of these words. Each record is in its ranges, and there is a
-- piece of memory for each mapping, which has the mapping's size.
pub record EncodesCore (bytes : List ℕ) (c : CoreWords) : Type 0 where
  pub pid : c.pid < 2 ^ 32
  pub psinfo : IsRecord psinfo_ranges c.psinfo
  pub lwps : All (IsRecord lwpstatus_ranges) c.lwps
  pub sigact : IsRecord sigact_ranges c.sigact
  pub maps : All (IsRecord map_entry_ranges) c.maps
  pub fds : All (IsRecord fd_entry_ranges) c.fds
  pub pieces : map length c.memory ≡ map mapping_size c.maps
  pub spelled : bytes ≡ encoded c

-- the dispositions of all signals
pub record IsSigact (dispositions : List ℕ) : Type 0 where
  pub count : length dispositions ≡ signal_count
  pub words : All IsWord dispositions

-- What the types of a core's fields leave open: the process's id, the information of lwps' signals, the descriptors,
-- and whether the memory is that of the mappings.
pub record IsEncodable (c : CoreState) : Type 0 where
  pub pid : c.pid < 2 ^ 32
  pub infos : All (λ (l : LwpStatus). IsInfo l.info) c.lwps
  pub fds : All (IsRecord fd_entry_ranges) c.fds
  pub pieces : map length c.memory ≡ map (λ (m : MapEntry). m.size) c.maps

-- a core whose fields are all in their ranges
pub record IsCore (c : CoreState) : Type 0 where
  pub encodable : IsEncodable c
  pub psinfo : IsPsinfo c.psinfo
  pub lwps : All IsLwpStatus c.lwps
  pub sigact : IsSigact c.sigact
  pub maps : All IsMapEntry c.maps
