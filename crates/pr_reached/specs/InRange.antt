use Rattle.std.specs.Prelude.{◌≡◌, ◌≤◌, ◌<◌, ◌^◌, ℕ, List, Option, Some, None, length}
use Rattle.std.specs.List.{All}
use Rattle.pr_num.specs.Files.{FileTable}
use Rattle.pr_num.specs.Layout.{page_size}
use Rattle.pr_num.specs.Limits.{area_limit, clock_limit, fault_count, name_limit, register_count}
use Rattle.pr_num.specs.Limits.{signal_count, syscall_count}
use Rattle.pr_num.specs.Programs.{Program}
use Rattle.pr_num.specs.Spaces.{IsSpace, Space}
use Rattle.pr_num.specs.Words.{IsByte, IsWord}
use Rattle.pr_num.specs.declared.files.StoredFile.{StoredFile}
use Rattle.pr_num.specs.declared.infos.Info.{Info}
use Rattle.pr_num.specs.declared.mappings.Area.{Area}
use Rattle.pr_num.specs.declared.mappings.Mapping.{Mapping}
use Rattle.pr_parts.specs.PendingSignals.{Pending}
use Rattle.pr_parts.specs.declared.signals.Queued.{Queued}
use Rattle.pr_model.specs.Lawful.{IsLawfulProgram}
use Rattle.pr_model.specs.State.{TracedControl, TracedLwp, TracedProcess, TracedSystem}
use Rattle.pr_model.specs.declared.events.Res.{Res}
use Rattle.pr_model.specs.declared.events.Res.TheVariants.{Value, Error, Ended}
use Rattle.pr_model.specs.declared.frames.Frame.{Frame}
use Rattle.pr_model.specs.declared.lwps.Current.{Current}
use Rattle.pr_model.specs.declared.lwps.Phase.{Phase}
use Rattle.pr_model.specs.declared.lwps.Phase.TheVariants.{User, Entered, Asleep, Exiting, Faulted}
use Rattle.pr_reached.specs.Mapped.{most_mappings}

-- The ranges of the numbers of a system, beside what makes it lawful. Registers and addresses are words, bytes are
-- below 256, a set has no number outside its table, and the mappings of a process are an address space, have a page at
-- least and are few. What processes have used is left out: it grows with every turn.

-- a name of a program or a file
pub record IsShortName (name : List ℕ) : Type 0 where
  pub short : length name ≤ name_limit
  pub bytes : All IsByte name

-- ---- lwps

-- r0 to r7, sp, fp and pc
pub record AreRegisters (regs : List ℕ) : Type 0 where
  pub words : All IsWord regs
  pub count : length regs ≡ register_count

-- the arguments of a system call
pub record AreArguments (args : List ℕ) : Type 0 where
  pub words : All IsWord args
  pub count : length args ≡ 6

-- a set of signals
abbrev pub IsSignalSet : ℕ → Type 0
IsSignalSet set = set < 2 ^ signal_count

-- the value that came with a signal; its code and its process id are limited in every lawful system
abbrev pub HasWord : Info → Type 0
HasWord info = IsWord info.value

abbrev pub HasWordIf : Option Info → Type 0
HasWordIf None = Unit {0}
HasWordIf (Some info) = HasWord info

abbrev pub HasWordQueued : Queued → Type 0
HasWordQueued q = HasWord q.info

pub record HaveWords (p : Pending) : Type 0 where
  pub standard : All HasWordIf p.standard
  pub queued : All HasWordQueued p.queued

abbrev pub HasWordCurrent : Option Current → Type 0
HasWordCurrent None = Unit {0}
HasWordCurrent (Some c) = HasWord c.info

-- what a call gave
abbrev pub IsResult : Res → Type 0
IsResult (Value v) = IsWord v
IsResult (Error e) = Unit {0}
IsResult Ended = Unit {0}

abbrev pub IsPhaseInRange : Phase → Type 0
IsPhaseInRange User = Unit {0}
IsPhaseInRange (Entered call) = Unit {0}
IsPhaseInRange (Asleep call args since) = AreArguments args
IsPhaseInRange (Exiting call args result) = AreArguments args × IsResult result
IsPhaseInRange (Faulted f address) = IsWord address

pub record IsFrameInRange (frame : Frame) : Type 0 where
  pub regs : AreRegisters frame.regs
  pub held : IsSignalSet frame.held

pub record IsLwpInRange (l : TracedLwp) : Type 0 where
  pub regs : AreRegisters l.regs
  pub held : IsSignalSet l.held
  pub frames : All IsFrameInRange l.frames
  pub pending : HaveWords l.pending
  pub current : HasWordCurrent l.current
  pub phase : IsPhaseInRange l.phase

-- ---- processes

pub record IsMappingInRange (m : Mapping) : Type 0 where
  pub at : IsWord m.at
  pub prot : m.prot < 8
  pub bytes : All IsByte m.bytes
  pub page : page_size ≤ length m.bytes

-- What a process has mapped: an address space, whose mappings stand by rising address and apart, none past the last
-- address.
pub record IsSpaceInRange (space : Space) : Type 0 where
  pub is_space : IsSpace space
  pub mappings : All IsMappingInRange space
  pub few : length space ≤ most_mappings

pub record IsAreaInRange (a : Area) : Type 0 where
  pub at : IsWord a.at
  pub size : IsWord a.size
  pub flags : a.flags < 16

pub record IsControlInRange (c : TracedControl) : Type 0 where
  pub signals : IsSignalSet c.traced_signals
  pub faults : c.traced_faults < 2 ^ fault_count
  pub entries : c.traced_entries < 2 ^ syscall_count
  pub exits : c.traced_exits < 2 ^ syscall_count
  pub modes : c.modes < 2 ^ 4
  pub areas : All IsAreaInRange c.areas
  pub few_areas : length c.areas ≤ area_limit

-- what a process does with each signal
pub record AreDispositions (dispositions : List ℕ) : Type 0 where
  pub words : All IsWord dispositions
  pub count : length dispositions ≡ signal_count

-- the wait status of a zombie
abbrev pub IsWordIf : Option ℕ → Type 0
IsWordIf None = Unit {0}
IsWordIf (Some n) = IsWord n

pub record IsProcessInRange (p : TracedProcess) : Type 0 where
  pub program : IsShortName p.program
  pub made_at : IsWord p.made_at
  pub ended : IsWordIf p.ended
  pub space : IsSpaceInRange p.space
  pub dispositions : AreDispositions p.dispositions
  pub pending : HaveWords p.pending
  pub lwps : All (λ (e : ℕ × TracedLwp). IsLwpInRange e.1) p.lwps
  pub control : IsControlInRange p.control

-- ---- programs and files

-- a program within its limits, whose text and data leave the stack its place
pub record IsProgramInRange (program : Program) : Type 0 where
  pub name : IsShortName program.name
  pub bytes : All IsByte program.bytes
  pub within : IsLawfulProgram program

pub record IsFileInRange (f : StoredFile) : Type 0 where
  pub name : IsShortName f.name
  pub bytes : All IsByte f.bytes

-- the bytes that stand in a pipe, if there is one
abbrev pub IsPipeInRange : Option (List ℕ) → Type 0
IsPipeInRange None = Unit {0}
IsPipeInRange (Some bytes) = All IsByte bytes

pub record AreFilesInRange (t : FileTable) : Type 0 where
  pub files : All IsFileInRange t.files
  pub pipes : All IsPipeInRange t.pipes

-- ---- the system

pub record IsInRange (s : TracedSystem) : Type 0 where
  pub programs : All IsProgramInRange s.programs
  pub clock : s.clock ≤ clock_limit
  pub files : AreFilesInRange s.files
  pub processes : All (λ (e : ℕ × TracedProcess). IsProcessInRange e.1) s.processes

-- what a first state is made of: programs and files in range
pub record IsStartInRange (programs : List Program) (files : List StoredFile) : Type 0 where
  pub of_programs : All IsProgramInRange programs
  pub of_files : All IsFileInRange files
