use Rattle.std.specs.Prelude.{◌+◌, ◌≡◌, ◌<◌, ◌^◌, ℕ, slice_index, IsTrue, List, length}
use Rattle.std.specs.List.{All}
use Rattle.pr_num.specs.Limits.{signal_count, syscall_count, fault_count, descriptor_limit}
use Rattle.pr_num.specs.Records.{an_errno, lwpstatus_word_count}
use Rattle.pr_num.specs.Words.{IsByte, IsWord}
use Rattle.pr_num.specs.declared.infos.Info.{Info}
use Rattle.pr_rec.specs.declared.entries.FdEntry.{FdEntry}
use Rattle.pr_rec.specs.declared.entries.ListEntry.{ListEntry}
use Rattle.pr_rec.specs.declared.entries.WatchEntry.{WatchEntry}
use Rattle.pr_rec.specs.declared.lwps.LwpStatus.{LwpStatus}
use Rattle.pr_rec.specs.declared.mappings.MapEntry.{MapEntry}
use Rattle.pr_rec.specs.declared.processes.Psinfo.{Psinfo}
use Rattle.pr_rec.specs.declared.statuses.Status.{Status}
use Rattle.pr_rec.specs.declared.usages.Usage.{Usage}

-- Values whose fields are in their ranges. A value that the program holds is, by its types, save for a signal's
-- information, whose fields take any word.

-- a field that is a name: 32 bytes
pub record IsNameField (name : List ℕ) : Type 0 where
  pub whole : length name ≡ 32
  pub bytes : All IsByte name

-- information that a record can hold: one of the five codes, or 0 for none, and a process's id
pub record IsInfo (i : Info) : Type 0 where
  pub code : i.code < 6
  pub pid : i.pid < 2 ^ 32

-- 6 arguments, and the registers r0 to r7, sp, fp and pc
pub record HasArraySizes (l : LwpStatus) : Type 0 where
  pub arguments : length l.arguments ≡ 6
  pub regs : length l.regs ≡ 11

pub record IsLwpStatus (l : LwpStatus) : Type 0 where
  pub flags : l.flags < 2 ^ 6
  pub id : l.id < 2 ^ 32
  pub what : l.what < signal_count + 1
  pub fault_address : IsWord l.fault_address
  pub arguments : All IsWord l.arguments
  pub result : IsWord l.result
  pub held : l.held < 2 ^ signal_count
  pub pending : l.pending < 2 ^ signal_count
  pub regs : All IsWord l.regs
  pub info : IsInfo l.info
  pub info_value : IsWord l.info.value
  pub sizes : HasArraySizes l

pub record IsStatus (s : Status) : Type 0 where
  pub flags : s.flags < 2 ^ 6
  pub id : s.id < 2 ^ 32
  pub parent : s.parent < 2 ^ 32
  pub lwps : IsWord s.lwps
  pub pending : s.pending < 2 ^ signal_count
  pub traced_signals : s.traced_signals < 2 ^ signal_count
  pub traced_faults : s.traced_faults < 2 ^ fault_count
  pub traced_entries : s.traced_entries < 2 ^ syscall_count
  pub traced_exits : s.traced_exits < 2 ^ syscall_count
  pub heap_base : IsWord s.heap_base
  pub heap_size : IsWord s.heap_size
  pub agent : s.agent < 2 ^ 32
  pub areas : IsWord s.areas
  pub lwp : IsLwpStatus s.lwp

pub record IsPsinfo (p : Psinfo) : Type 0 where
  pub id : p.id < 2 ^ 32
  pub parent : p.parent < 2 ^ 32
  pub lwps : IsWord p.lwps
  pub wait_status : IsWord p.wait_status
  pub mapped : IsWord p.mapped
  pub made_at : IsWord p.made_at
  pub program : IsNameField p.program

pub record IsUsage (u : Usage) : Type 0 where
  pub id : u.id < 2 ^ 32
  pub calls : IsWord u.calls
  pub signals : IsWord u.signals
  pub faults : IsWord u.faults
  pub instructions : IsWord u.instructions

pub record IsMapEntry (m : MapEntry) : Type 0 where
  pub at : IsWord m.at
  pub size : IsWord m.size
  pub prot : m.prot < 8
  pub name : IsNameField m.name

pub record IsWatchEntry (w : WatchEntry) : Type 0 where
  pub at : IsWord w.at
  pub size : IsWord w.size
  pub flags : w.flags < 16

pub record IsFdEntry (d : FdEntry) : Type 0 where
  pub descriptor : d.descriptor < descriptor_limit
  pub offset : IsWord d.offset
  pub name : IsNameField d.name

pub record IsListEntry (p : ListEntry) : Type 0 where
  pub id : p.id < 2 ^ 32
  pub parent : p.parent < 2 ^ 32
  pub program : IsNameField p.program

-- 33 words of which those that stand for something are in its range
pub record HasLwpStatusFields (words : List ℕ) : Type 0 where
  pub size : length words ≡ lwpstatus_word_count
  pub flags : slice_index words 0 < 2 ^ 6
  pub id : slice_index words 1 < 2 ^ 32
  pub why : slice_index words 2 < 8
  pub what : slice_index words 3 < signal_count + 1
  pub signal : slice_index words 4 < signal_count + 1
  pub fault : slice_index words 5 < fault_count + 1
  pub call : slice_index words 7 < syscall_count + 1
  pub errno : IsTrue (an_errno (slice_index words 15))
  pub held : slice_index words 16 < 2 ^ signal_count
  pub pending : slice_index words 17 < 2 ^ signal_count
  pub disposition : slice_index words 29 < 3
