use Rattle.std.specs.Prelude.{◌≡◌, ◌≤◌, ◌<◌, ◌+◌, ◌⊎◌, ℕ, true, false, List, [], ◌∷◌, Option, Some, None, IsSome, length, count_by}
use Rattle.std.specs.List.{All}
use Rattle.pr_num.specs.Agents.{agent_id}
use Rattle.pr_num.specs.ById.{IsRising}
use Rattle.pr_num.specs.Control.{has_flags, rlc_mode, klc_mode}
use Rattle.pr_num.specs.Files.{no_descriptors}
use Rattle.pr_num.specs.Limits.{all_mappings_limit, code_limit, data_limit, descriptor_limit, frame_limit, handle_limit, last_lwp, lwp_limit, mapping_limit, process_limit, queue_limit}
use Rattle.pr_num.specs.Programs.{Program}
use Rattle.pr_num.specs.Sets.{has_number}
use Rattle.pr_num.specs.Signals.{holdable_word, signal_number}
use Rattle.pr_num.specs.Spaces.{mapped_size}
use Rattle.pr_num.specs.declared.infos.Info.{Info}
use Rattle.pr_num.specs.declared.signals.Sig.TheVariants.{Kill, Stop}
use Rattle.pr_parts.specs.AddressSpaces.{LeavesHeapPlace}
use Rattle.pr_parts.specs.FileTables.{IsFileTable, PipesHaveEnds, count_at, users_at}
use Rattle.pr_parts.specs.PendingSignals.{Pending}
use Rattle.pr_parts.specs.declared.signals.Queued.{Queued}
use Rattle.pr_rec.specs.InRange.{IsInfo}
use Rattle.pr_model.specs.FirstState.{system_process}
use Rattle.pr_model.specs.Handles.{fits_file, has_exclusive_writer, has_writer, is_writer}
use Rattle.pr_model.specs.Readers.{total_size}
use Rattle.pr_model.specs.Signals.{disposition_of}
use Rattle.pr_model.specs.State.{Places, TracedControl, TracedLwp, TracedProcess, TracedState, TracedSystem, live_process, process_of}
use Rattle.pr_model.specs.declared.frames.Frame.{Frame}
use Rattle.pr_model.specs.declared.handles.Held.{Held}
use Rattle.pr_model.specs.declared.lwps.Current.{Current}

-- What is so of every state that the machine reaches, beside what the types of its parts keep by themselves: of its
-- system, which turns of lwps need and keep, and of the open handles beside it.

-- ---- what comes with signals

-- information, if there is some, that a record can hold
abbrev pub IsInfoIf : Option Info → Type 0
IsInfoIf None = Unit {0}
IsInfoIf (Some info) = IsInfo info

-- a signal that queues came with such information
abbrev pub IsLawfulQueued : Queued → Type 0
IsLawfulQueued q = IsInfo q.info

-- at most 32 signals are queued, and each pending signal came with such information; so did a current one
pub record IsLawfulPending (p : Pending) : Type 0 where
  pub few_queued : length p.queued ≤ queue_limit
  pub standard : All IsInfoIf p.standard
  pub queued : All IsLawfulQueued p.queued

abbrev pub IsLawfulCurrent : Option Current → Type 0
IsLawfulCurrent None = Unit {0}
IsLawfulCurrent (Some c) = IsInfo c.info

-- ---- lwps

-- a set of signals that an lwp can hold: it has neither SIGKILL nor SIGSTOP
pub record IsHoldable (held : ℕ) : Type 0 where
  pub same : holdable_word held ≡ held

-- what a handler comes back to holds such a set
abbrev pub IsLawfulFrame : Frame → Type 0
IsLawfulFrame frame = IsHoldable frame.held

-- An lwp's id is one that was given out, or the agent's; it never holds SIGKILL or SIGSTOP, also after its handlers, of
-- which at most 32 run; and records can hold what came with its signals.
pub record IsLawfulLwp (next : ℕ) (e : ℕ × TracedLwp) : Type 0 where
  pub id : (e.0 < next) ⊎ (e.0 ≡ agent_id)
  pub held : IsHoldable e.1.held
  pub frames : All IsLawfulFrame e.1.frames
  pub few_frames : length e.1.frames ≤ frame_limit
  pub pending : IsLawfulPending e.1.pending
  pub current : IsLawfulCurrent e.1.current

-- ---- processes

-- a live process other than the system process has an lwp
pub record HasLwps (pid : ℕ) (p : TracedProcess) : Type 0 where
  pub some : 0 < pid → p.ended ≡ None → 0 < length p.lwps

-- a zombie has no lwp, no memory and no descriptor, and has lent nothing
pub record IsEmptyZombie (p : TracedProcess) : Type 0 where
  pub no_lwps : (status : ℕ) → p.ended ≡ Some status → p.lwps ≡ []
  pub no_memory : (status : ℕ) → p.ended ≡ Some status → p.space ≡ []
  pub no_loan : (status : ℕ) → p.ended ≡ Some status → p.borrower ≡ None
  pub no_files : (status : ℕ) → p.ended ≡ Some status → p.fds ≡ no_descriptors

-- SIGKILL and SIGSTOP have their default action
pub record AreUncaught (dispositions : List ℕ) : Type 0 where
  pub kill : disposition_of dispositions Kill ≡ 0
  pub stop : disposition_of dispositions Stop ≡ 0

-- A process's lwps stand under rising ids, at most 64 of them, it has places for 64 descriptors, SIGKILL is not traced,
-- neither SIGKILL nor SIGSTOP is caught, records can hold what came with its signals, at most 1 MiB is mapped, and
-- nothing but the heap where the heap can be.
pub record IsLawfulProcess (e : ℕ × TracedProcess) : Type 0 where
  pub has_lwps : HasLwps e.0 e.1
  pub empty_zombie : IsEmptyZombie e.1
  pub rising : IsRising e.1.lwps
  pub lwps : All (IsLawfulLwp e.1.next_lwp) e.1.lwps
  pub next_lwp : e.1.next_lwp ≤ last_lwp + 1
  pub few_lwps : length e.1.lwps ≤ lwp_limit
  pub descriptors : length e.1.fds ≡ descriptor_limit
  pub traced : has_number e.1.control.traced_signals (signal_number Kill) ≡ false
  pub uncaught : AreUncaught e.1.dispositions
  pub pending : IsLawfulPending e.1.pending
  pub heap_place : All LeavesHeapPlace e.1.space
  pub small_space : mapped_size e.1.space ≤ mapping_limit

-- a process's id is one that was given out
pub record IsNumberedBelow (made : ℕ) (e : ℕ × TracedProcess) : Type 0 where
  pub id : e.0 < made

-- a process's parent is live, or is process 0
pub record HasParent (s : TracedSystem) (e : ℕ × TracedProcess) : Type 0 where
  pub parent : (e.1.parent ≡ 0) ⊎ IsSome (live_process s e.1.parent)

-- ---- files

-- how many descriptors of all processes stand for the open file at a place
abbrev pub all_users : ℕ → List (ℕ × TracedProcess) → ℕ
all_users place [] = 0
all_users place (e ∷ es) = count_at e.1.fds place + all_users place es

-- the files are in order, and each open file counts the descriptors that stand for it
pub record AreLawfulFiles (s : TracedSystem) : Type 0 where
  pub table : IsFileTable s.files
  pub pipes : PipesHaveEnds s.files
  pub users : (place : ℕ) → users_at s.files place ≡ all_users place s.processes

-- ---- the system

-- a program is within its limits
pub record IsLawfulProgram (program : Program) : Type 0 where
  pub code : length program.code ≤ code_limit
  pub bytes : length program.bytes ≤ data_limit

-- Processes stand under rising ids that were given out, at most 4,096 of them; the system process is as it was at
-- first; all live processes together map no more than they can; and programs are within their limits.
pub record IsLawfulSystem (s : TracedSystem) : Type 0 where
  pub rising : IsRising s.processes
  pub numbered : All (IsNumberedBelow s.made) s.processes
  pub processes : All IsLawfulProcess s.processes
  pub parents : All (HasParent s) s.processes
  pub first : process_of s 0 ≡ Some system_process
  pub made : s.made ≤ process_limit
  pub mapped : total_size s ≤ all_mappings_limit
  pub files : AreLawfulFiles s
  pub programs : All IsLawfulProgram s.programs

-- ---- handles

-- a handle's file and its mode go together: who has a control file open has it open for writing
abbrev pub IsFitting : Option Held → Type 0
IsFitting None = Unit {0}
IsFitting (Some h) = fits_file h.file h.mode h.lwp ≡ true

-- a handle names a process that was made
abbrev pub IsOfMade : ℕ → Option Held → Type 0
IsOfMade made None = Unit {0}
IsOfMade made (Some h) = h.pid < made

-- a process with an exclusive handle has no other handle for writing
pub record AreExclusive (opens : Places) : Type 0 where
  pub alone : (pid : ℕ) → has_exclusive_writer pid opens ≡ true → count_by (is_writer pid) opens ≡ 1

-- an lwp of which nothing is asked
pub record IsReleasedLwp (e : ℕ × TracedLwp) : Type 0 where
  pub no_stop : e.1.control.stop ≡ None
  pub not_directed : e.1.control.directed ≡ false
  pub no_step : e.1.control.step ≡ false

-- nothing is traced and nothing watched
pub record IsUntraced (c : TracedControl) : Type 0 where
  pub signals : c.traced_signals ≡ 0
  pub faults : c.traced_faults ≡ 0
  pub entries : c.traced_entries ≡ 0
  pub exits : c.traced_exits ≡ 0
  pub areas : c.areas ≡ []

-- A live process without a handle for writing does not have PR_KLC; and under PR_RLC nothing is traced in it, nothing
-- watched, and no lwp of it stands on an event, is directed or is marked to step.
pub record IsReleased (opens : Places) (e : ℕ × TracedProcess) : Type 0 where
  pub no_kill : e.1.ended ≡ None → has_writer e.0 opens ≡ false → has_flags e.1.control.modes klc_mode ≡ false
  pub untraced : e.1.ended ≡ None → has_writer e.0 opens ≡ false → has_flags e.1.control.modes rlc_mode ≡ true
      → IsUntraced e.1.control
  pub runs : e.1.ended ≡ None → has_writer e.0 opens ≡ false → has_flags e.1.control.modes rlc_mode ≡ true
      → All IsReleasedLwp e.1.lwps

-- ---- the state

-- its system is lawful, there are 1,024 places for handles, and what is open is as it can be
pub record IsLawful (s : TracedState) : Type 0 where
  pub system : IsLawfulSystem s.system
  pub places : length s.opens ≡ handle_limit
  pub fitting : All IsFitting s.opens
  pub handles : All (IsOfMade s.system.made) s.opens
  pub exclusive : AreExclusive s.opens
  pub released : All (IsReleased s.opens) s.system.processes
