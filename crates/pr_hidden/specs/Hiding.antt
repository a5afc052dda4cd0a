use Rattle.std.specs.Prelude.{◌≡◌, ◌==◌, ◌≤◌, ◌<◌, ◌+◌, ℕ, Bool, true, false, List, [], ◌∷◌, length, Option, Some, None, if◌then◌else◌}
use Rattle.pr_num.specs.Agents.{agent_id}
use Rattle.pr_num.specs.ById.{IsRising}
use Rattle.pr_num.specs.Spaces.{Space}
use Rattle.pr_num.specs.declared.syscalls.Sysno.{Sysno}
use Rattle.pr_parts.specs.AddressSpaces.{with_bytes}
use Rattle.pr_model.specs.Changes.{Change, space_is}
use Rattle.pr_model.specs.Signals.{own_takeable, shared_takeable}
use Rattle.pr_model.specs.State.{TracedLwp, TracedProcess, TracedSystem, live_process, lwp_of}
use Rattle.pr_model.specs.declared.events.Res.{Res}
use Rattle.pr_model.specs.declared.lwps.Phase.TheVariants.{Exiting}
use Rattle.pr_hidden.specs.Covers.{Patch, Cover, patched}
use Rattle.pr_hidden.specs.Sparing.{is_spared}

-- What controllers do that is hidden, and what the cover of the process is afterwards.

-- a cover with an lwp at a fault of the controller's, or at none
abbrev pub with_fault : ℕ → Bool → Cover → Cover
with_fault id at c = record c { faulted = λ other. if other == id then at else c.faulted other }

-- with other patches
abbrev pub with_patches : List Patch → Cover → Cover
with_patches ps c = record c { patches = ps }

-- with an agent that is the controller's, or with none
abbrev pub with_own_agent : Bool → Cover → Cover
with_own_agent own c = record c { agent = own }

-- An lwp stands in a live process, where processes and lwps stand under rising ids, as in every state that is reached.
pub record Stands (s : TracedSystem) (pid : ℕ) (p : TracedProcess) (id : ℕ) (l : TracedLwp) : Type 0 where
  pub live : live_process s pid ≡ Some p
  pub there : lwp_of p id ≡ Some l
  pub processes : IsRising s.processes
  pub lwps : IsRising p.lwps

-- An lwp whose call is not aborted, and that is no agent, in a process of which nothing is watched.
pub record IsUnhampered (p : TracedProcess) (id : ℕ) (l : TracedLwp) : Type 0 where
  pub no_agent : (id == agent_id) ≡ false
  pub no_abort : l.control.abort ≡ false
  pub unwatched : p.control.areas ≡ []

-- whether the turn of an lwp is its way out of a call: it is not directed to stop, and has no signal to act on or to
-- take first
pub record GoesBack (p : TracedProcess) (l : TracedLwp) (call : Sysno) : Type 0 where
  pub not_directed : l.control.directed ≡ false
  pub args : List ℕ
  pub result : Res
  pub on_its_way : l.phase ≡ Exiting call args result
  pub no_current : l.current ≡ None
  pub none_own : own_takeable l ≡ None
  pub none_shared : shared_takeable p l ≡ None

-- a space instead of another is seen alike, with these patches instead of those
pub record IsSeenAlike (ps : List Patch) (space : Space) (old_ps : List Patch) (old : Space) : Type 0 where
  pub same : patched ps space ≡ patched old_ps old

-- each of so many bytes from an address on is patched
abbrev pub AreCovered : List Patch → ℕ → ℕ → Type 0
AreCovered ps at n = (address : ℕ) → at ≤ address → address < at + n → is_spared ps address ≡ false

-- What a turn of a hidden agent may change: nothing but its own memory, and there bytes that are patched.
pub data ChangesOwn (ps : List Patch) (space : Space) : List Change → Type 0 where
  nothing : ChangesOwn ps space []
  stores : (at : ℕ) (bytes : List ℕ) → AreCovered ps at (length bytes)
      → ChangesOwn ps space (space_is (with_bytes at bytes space) ∷ [])
