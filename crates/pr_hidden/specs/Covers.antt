use Rattle.std.specs.Prelude.{◌==◌, ◌&&◌, ℕ, Bool, true, false, not, List, [], ◌∷◌, if◌then◌else◌}
use Rattle.pr_num.specs.Agents.{agent_id}
use Rattle.pr_num.specs.Spaces.{Space}
use Rattle.pr_parts.specs.AddressSpaces.{with_bytes}
use Rattle.pr_model.specs.Erasure.{erased_system}
use Rattle.pr_model.specs.Machines.{UntracedSystem, step_taken}
use Rattle.pr_model.specs.State.{TracedLwp, TracedProcess, TracedSystem}
use Rattle.pr_model.specs.declared.lwps.Phase.{Phase}
use Rattle.pr_model.specs.declared.lwps.Phase.TheVariants.{User, Faulted}

-- What a controller hides from the programs that run: a debugger writes breakpoints into their text and steps over
-- them, and an agent runs system calls in a process for it.

-- the bytes that programs have at an address, where a controller has written others
pub record Patch : Type 0 where
  pub at : ℕ
  pub bytes : List ℕ

-- What of one process is hidden: the places where a controller has written; the lwps that stand at a fault that it
-- brought about; and whether the agent is its own.
pub record Cover : Type 0 where
  pub patches : List Patch
  pub faulted : ℕ → Bool
  pub agent : Bool

-- nothing is hidden
abbrev pub no_cover : Cover
no_cover = record { patches = []; faulted = λ id. false; agent = false }

-- what is hidden of every process, by its id
abbrev pub Covers : Type 0
Covers = ℕ → Cover

-- the same with another cover of one process
abbrev pub with_cover : ℕ → Cover → Covers → Covers
with_cover pid c covers other = if other == pid then c else covers other

-- ---- without what is hidden

-- a space as programs have it: with their own bytes where others were written
abbrev pub patched : List Patch → Space → Space
patched [] space = space
patched (p ∷ ps) space = with_bytes p.at p.bytes (patched ps space)

-- a fault that a controller brought about is none
abbrev pub phase_beneath : Bool → Phase → Phase
phase_beneath true (Faulted f address) = User
phase_beneath true phase = phase
phase_beneath false phase = phase

-- an lwp without such a fault, and without a step mark
unfoldable pub uncovered_lwp : Bool → TracedLwp → TracedLwp
uncovered_lwp faulted l = record l { phase = phase_beneath faulted l.phase; control = step_taken l.control }

-- of things under ids those that are kept, each as it is seen under its id
abbrev pub seen_under : {X Y : Type 0} → (ℕ → Bool) → (ℕ → X → Y) → List (ℕ × X) → List (ℕ × Y)
seen_under keeps view [] = []
seen_under keeps view (e ∷ es) =
    if keeps e.0 then (e.0, view e.0 e.1) ∷ seen_under keeps view es else seen_under keeps view es

-- an agent that is the controller's is left out
abbrev pub keeps_lwp : Cover → ℕ → Bool
keeps_lwp c id = not (c.agent && (id == agent_id))

abbrev pub lwp_beneath : Cover → ℕ → TracedLwp → TracedLwp
lwp_beneath c id l = uncovered_lwp (c.faulted id) l

unfoldable pub uncovered_process : Cover → TracedProcess → TracedProcess
uncovered_process c p =
    record p { space = patched c.patches p.space; lwps = seen_under (keeps_lwp c) (lwp_beneath c) p.lwps }

abbrev pub process_beneath : Covers → ℕ → TracedProcess → TracedProcess
process_beneath covers pid p = uncovered_process (covers pid) p

abbrev pub all_kept : ℕ → Bool
all_kept id = true

-- The traced system without what is hidden of each process. What controllers set otherwise stands in it as it was.
unfoldable pub uncovered : Covers → TracedSystem → TracedSystem
uncovered covers s = record s { processes = seen_under all_kept (process_beneath covers) s.processes }

-- what programs see of a system of which so much is hidden
abbrev pub seen : Covers → TracedSystem → UntracedSystem
seen covers s = erased_system (uncovered covers s)
