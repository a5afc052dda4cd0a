use Rattle.std.proofs.Common.{◌≡◌, ◌≢◌, ℕ, ◌+◌, ◌<◌, ◌≤◌, Bool, true, false, Some, None, List, [], ◌∷◌, length}
use Rattle.std.specs.List.{All}
use Rattle.pr_num.specs.Files.{FileTable, Descriptors}
use Rattle.pr_num.specs.Limits.{all_mappings_limit, descriptor_limit, frame_limit, last_lwp, lwp_limit, mapping_limit, process_limit}
use Rattle.pr_num.specs.Programs.{Program}
use Rattle.pr_num.specs.Spaces.{Space, first_space, mapped_size}
use Rattle.pr_parts.specs.FileTables.{CountsUsers, IsFileTable, PipesHaveEnds}
use Rattle.pr_parts.specs.AddressSpaces.{LeavesHeapPlace}
use Rattle.pr_rec.specs.InRange.{IsInfo}
use Rattle.pr_model.specs.Changes.{Change, files_are, space_is, signals, signals_itself, takes_shared, job_stops, disposition_is, held_is, resumes, forks, reaps, becomes, makes_lwp, suspends, changed}
use Rattle.pr_model.specs.Lawful.{IsHoldable, IsLawfulFrame}
use Rattle.pr_model.specs.Lives.{Birth, by_fork, by_vfork}
use Rattle.pr_model.specs.Machines.{traced}
use Rattle.pr_model.specs.Moves.{Move, stays, stops, takes, catches}
use Rattle.pr_model.specs.ProcessCalls.{given_up}
use Rattle.pr_model.specs.Readers.{size_of, total_size}
use Rattle.pr_model.specs.SignalCalls.{can_be_caught}
use Rattle.pr_model.specs.State.{TracedLwp, TracedProcess, TracedSystem, lwp_of, process_of}
use Rattle.pr_model.specs.declared.frames.Frame.{Frame}
use Rattle.pr_model.specs.Transitions.{Transition}
use Rattle.pr_lawful.proofs.ProcessParts.SignalLemmas.{MayReach}

-- What turns keep to, so that they leave the system lawful: each change in the system that it finds, and each move.

-- ---- changes

-- other files and descriptors: the files are in order, and count the descriptors that the process then has
pub record SuitsFiles (s : TracedSystem) (pid : ℕ) (files : FileTable) (fds : Descriptors) : Type 0 where
  pub process : TracedProcess
  pub found : process_of s pid ≡ Some process
  pub live : process.ended ≡ None
  pub table : IsFileTable files
  pub pipes : PipesHaveEnds files
  pub counted : CountsUsers s.files process.fds files fds
  pub places : length fds ≡ descriptor_limit

-- another address space: it is within the limit of one, and there is room for it among those of all processes
pub record SuitsSpace (s : TracedSystem) (pid : ℕ) (space : Space) : Type 0 where
  pub process : TracedProcess
  pub found : process_of s pid ≡ Some process
  pub live : process.ended ≡ None
  pub mapped : total_size s + mapped_size space ≤ all_mappings_limit + size_of process
  pub heap_place : All LeavesHeapPlace space
  pub small : mapped_size space ≤ mapping_limit

-- how many bytes more are mapped once a process has a child: a loan is no more than what was there
abbrev pub more_mapped : Birth → TracedProcess → ℕ
more_mapped by_fork p = size_of p
more_mapped by_vfork p = 0

-- A child: there is room for it and for its memory, and the process in the system is as it was when the turn began.
pub record SuitsChild (birth : Birth) (s : TracedSystem) (pid : ℕ) (p : TracedProcess) (l : TracedLwp) : Type 0 where
  pub found : process_of s pid ≡ Some p
  pub live : p.ended ≡ None
  pub room : s.made < process_limit
  pub mapped : total_size s + more_mapped birth p ≤ all_mappings_limit
  pub held : IsHoldable l.held
  pub frames : All IsLawfulFrame l.frames
  pub few_frames : length l.frames ≤ frame_limit

-- what is reaped is a zombie
pub record SuitsReaped (s : TracedSystem) (child : ℕ) : Type 0 where
  pub zombie : TracedProcess
  pub status : ℕ
  pub found : process_of s child ≡ Some zombie
  pub over : zombie.ended ≡ Some status

-- Another program: it begins within the limit of a space, there is room for its memory, where a loan that goes back is
-- not given up, the lwp that goes on is one of the process, and the process in the system is as it was when the turn
-- began.
pub record SuitsProgram (s : TracedSystem) (pid : ℕ) (p : TracedProcess) (id : ℕ) (l : TracedLwp)
    (program : Program) : Type 0 where
  pub found : process_of s pid ≡ Some p
  pub live : p.ended ≡ None
  pub mapped : total_size s + mapped_size (first_space program) ≤ all_mappings_limit + given_up s p id
  pub heap_place : All LeavesHeapPlace (first_space program)
  pub small : mapped_size (first_space program) ≤ mapping_limit
  pub there : lwp_of p id ≡ Some l

-- an lwp more: it gets the next id, and there is room for it
pub record SuitsLwp (s : TracedSystem) (pid new held : ℕ) : Type 0 where
  pub process : TracedProcess
  pub found : process_of s pid ≡ Some process
  pub live : process.ended ≡ None
  pub next : new ≡ process.next_lwp
  pub last : process.next_lwp ≤ last_lwp
  pub few : length process.lwps < lwp_limit
  pub holdable : IsHoldable held

-- another held set and other frames: a set that can be held, and no more frames than there may be, which come back to
-- such sets
pub record SuitsFrames (held : ℕ) (frames : List Frame) : Type 0 where
  pub holdable : IsHoldable held
  pub backs : All IsLawfulFrame frames
  pub few : length frames ≤ frame_limit

module _ (pid : ℕ) (p : TracedProcess) (id : ℕ) (l : TracedLwp) where
  -- A change in the turn of the lwp of an id suits a system.
  abbrev pub SuitsChange : TracedSystem → Change → Type 0
  SuitsChange s (files_are files fds) = SuitsFiles s pid files fds
  SuitsChange s (space_is space) = SuitsSpace s pid space
  SuitsChange s (signals target g info) = (target ≢ 0) × MayReach s target None g info
  SuitsChange s (signals_itself g info) = MayReach s pid (Some id) g info
  SuitsChange s (takes_shared g) = Unit {0}
  SuitsChange s (job_stops g) = Unit {0}
  SuitsChange s (disposition_is g disposition) = can_be_caught g ≡ true
  SuitsChange s (held_is held) = IsHoldable held
  SuitsChange s (resumes frame frames) = SuitsFrames frame.held frames
  SuitsChange s (forks birth args) = SuitsChild birth s pid p l
  SuitsChange s (reaps child) = SuitsReaped s child
  SuitsChange s (becomes program) = SuitsProgram s pid p id l program
  SuitsChange s (makes_lwp new regs held) = SuitsLwp s pid new held
  SuitsChange s (suspends other suspended) = Unit {0}

  -- changes one after another, each in the system that it finds
  abbrev pub SuitChanges : TracedSystem → List Change → Type 0
  SuitChanges s [] = Unit {0}
  SuitChanges s (c ∷ cs) = SuitsChange s c × SuitChanges (changed traced pid p id l c s) cs

-- ---- moves

abbrev pub SuitsMove : Move → Type 0
SuitsMove (catches frames regs held) = SuitsFrames held frames
SuitsMove (takes c own) = IsInfo c.info
SuitsMove _ = Unit {0}

-- whether a move is a stop as directed
abbrev pub is_stop : Move → Bool
is_stop stops = true
is_stop _ = false

-- ---- transitions

-- The changes suit, and so does the move; what ends its lwp or its process does nothing else; and an lwp that stops was
-- directed to, and does nothing else.
pub record SuitsTransition (s : TracedSystem) (pid : ℕ) (p : TracedProcess) (id : ℕ) (l : TracedLwp)
    (t : Transition) : Type 0 where
  pub changes : SuitChanges pid p id l s t.changes
  pub move : SuitsMove t.move
  pub alone : (how : _) → t.ending ≡ Some how → (t.changes ≡ []) × (t.move ≡ stays)
  pub stop : is_stop t.move ≡ true → (l.control.directed ≡ true) × (t.changes ≡ [])
