use Rattle.std.specs.Prelude.{ℕ, Bool, List, Option, Some, None, is_none, is_some, replicate, if◌then◌else◌, option_and_then}
use Rattle.pr_num.specs.Agents.{agent_id}
use Rattle.pr_num.specs.Files.{FileTable, Descriptors}
use Rattle.pr_num.specs.Programs.{Program}
use Rattle.pr_num.specs.Spaces.{Space}
use Rattle.pr_num.specs.declared.mappings.Area.{Area}
use Rattle.pr_num.specs.ById.{under, change_under}
use Rattle.pr_num.specs.Limits.{handle_limit}
use Rattle.pr_parts.specs.PendingSignals.{Pending}
use Rattle.pr_model.specs.declared.handles.Held.{Held}
use Rattle.pr_model.specs.declared.lwps.LwpControl.{LwpControl}
use Rattle.pr_model.specs.declared.lwps.LwpOf as lwp
use Rattle.pr_model.specs.declared.lwps.Phase.{Phase}
use Rattle.pr_model.specs.declared.processes.Control as control
use Rattle.pr_model.specs.declared.processes.ProcessOf as process
use Rattle.pr_model.specs.declared.states.State as state
use Rattle.pr_model.specs.declared.states.System as system

-- The states of the machine. Processes stand in a system under their ids, and lwps in a process under theirs.
--
-- What is said here is said of two machines: the traced one, and the untraced one, which has no controllers. They
-- differ in three types: C is what controllers set on a process, H where an lwp is between its program and the kernel,
-- and K what controllers set on an lwp. A rule that both machines have is stated once, over any C, H and K.

-- an lwp
abbrev pub LwpOf : Type 0 → Type 0 → Type 0
LwpOf H K = lwp.LwpOf Pending H K

-- a process, live or a zombie
abbrev pub ProcessOf : Type 0 → Type 0 → Type 0 → Type 0
ProcessOf C H K = process.ProcessOf Space Descriptors Pending (List (ℕ × LwpOf H K)) C

-- The programs that processes can run; the clock, in milliseconds; how many processes were ever made, process 0 among
-- them, so that the next one gets this id; the files; and the processes.
abbrev pub SystemOf : Type 0 → Type 0 → Type 0 → Type 0
SystemOf C H K = system.System (List Program) FileTable (List (ℕ × ProcessOf C H K))

module _ {C H K : Type 0} where
  -- the process of an id, live or a zombie
  abbrev pub process_of : SystemOf C H K → ℕ → Option (ProcessOf C H K)
  process_of s pid = under pid s.processes

  -- itself, if it is live
  abbrev pub if_live : ProcessOf C H K → Option (ProcessOf C H K)
  if_live p = if is_none p.ended then Some p else None

  -- the live process of an id
  unfoldable pub live_process : SystemOf C H K → ℕ → Option (ProcessOf C H K)
  live_process s pid = option_and_then if_live (process_of s pid)

  -- the process of an id changed
  unfoldable pub with_process : ℕ → (ProcessOf C H K → ProcessOf C H K) → SystemOf C H K → SystemOf C H K
  with_process pid change s = record s { processes = change_under pid change s.processes }

  -- that of an id, if there is one
  abbrev pub with_process_if : Option ℕ → (ProcessOf C H K → ProcessOf C H K) → SystemOf C H K → SystemOf C H K
  with_process_if None change s = s
  with_process_if (Some pid) change s = with_process pid change s

  -- an lwp of a process
  abbrev pub lwp_of : ProcessOf C H K → ℕ → Option (LwpOf H K)
  lwp_of p id = under id p.lwps

  -- whether a process has an agent
  abbrev pub has_agent : ProcessOf C H K → Bool
  has_agent p = is_some (lwp_of p agent_id)

  -- the lwp of an id changed, in its process and in the system
  unfoldable pub with_lwp : ℕ → (LwpOf H K → LwpOf H K) → ProcessOf C H K → ProcessOf C H K
  with_lwp id change p = record p { lwps = change_under id change p.lwps }

  unfoldable pub with_lwp_of : ℕ → ℕ → (LwpOf H K → LwpOf H K) → SystemOf C H K → SystemOf C H K
  with_lwp_of pid id change s = with_process pid (with_lwp id change) s

-- ---- the traced machine

-- what controllers set on a process, where watched areas are their list
abbrev pub TracedControl : Type 0
TracedControl = control.Control (List Area)

abbrev pub TracedLwp : Type 0
TracedLwp = LwpOf Phase LwpControl

abbrev pub TracedProcess : Type 0
TracedProcess = ProcessOf TracedControl Phase LwpControl

abbrev pub TracedSystem : Type 0
TracedSystem = SystemOf TracedControl Phase LwpControl

-- the places for open handles of the process file system, by number
abbrev pub Places : Type 0
Places = List (Option Held)

-- The system; the open handles; and the controllers that were interrupted and have not seen it yet: controller k is
-- bit k.
abbrev pub TracedState : Type 0
TracedState = state.State TracedSystem Places

-- the state with its system changed
abbrev pub with_system : (TracedSystem → TracedSystem) → TracedState → TracedState
with_system change s = record s { system = change s.system }

-- no handle is open
unfoldable pub nothing_open : Places
nothing_open = replicate handle_limit None
