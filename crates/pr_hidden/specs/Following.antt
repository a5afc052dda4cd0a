use Rattle.std.specs.Prelude.{◌≡◌, ◌≢◌, ◌==◌, ℕ, Bool, true, false, List, [], ◌∷◌, Option, Some, None, map}
use Rattle.pr_num.specs.declared.faults.Flt.TheVariants.{Trace}
use Rattle.pr_num.specs.declared.syscalls.Sysno.{Sysno}
use Rattle.pr_model.specs.Changes.{Change, files_are, space_is, signals, signals_itself, takes_shared, job_stops, disposition_is, held_is, resumes, forks, reaps, becomes, makes_lwp, suspends, Ending, ends_process, ends_lwp, Effect, does, sleeps, ends, changed}
use Rattle.pr_model.specs.Machines.{traced}
use Rattle.pr_model.specs.Registers.{arguments}
use Rattle.pr_model.specs.Rows.{Row, row_for}
use Rattle.pr_model.specs.Signals.{is_kill, own_takeable, shared_takeable}
use Rattle.pr_model.specs.State.{TracedLwp, TracedProcess, TracedSystem, live_process}
use Rattle.pr_model.specs.Transitions.{Transition}
use Rattle.pr_model.specs.declared.events.Did.TheVariants.{Faulted}
use Rattle.pr_model.specs.declared.lwps.Phase.{Phase}
use Rattle.pr_model.specs.declared.lwps.Phase.TheVariants.{User, Entered, Asleep}
use Rattle.pr_hidden.specs.Covers.{Patch, Cover, Covers, no_cover, keeps_lwp, patched}
use Rattle.pr_hidden.specs.Sparing.{AreWithin, spares_call, spares_instruction}

-- What changes, calls and turns are without what is hidden: the same, but that the space which they leave is as
-- programs have it; and what they ask for that.

abbrev pub patched_change : List Patch → Change → Change
patched_change ps (space_is space) = space_is (patched ps space)
patched_change ps c = c

abbrev pub patched_changes : List Patch → List Change → List Change
patched_changes ps cs = map (patched_change ps) cs

abbrev pub patched_effect : List Patch → Effect → Effect
patched_effect ps (does result changes) = does result (patched_changes ps changes)
patched_effect ps sleeps = sleeps
patched_effect ps (ends how) = ends how

abbrev pub patched_transition : List Patch → Transition → Transition
patched_transition ps t = record t { changes = patched_changes ps t.changes }

abbrev pub patched_row : List Patch → Row → Row
patched_row ps row = record row { transition = patched_transition ps row.transition }

-- ---- what a change asks

-- A process that gives its memory back to its lender hands over what is hidden there: of both it is the same.
pub record IsReturnable (covers : Covers) (pid : ℕ) (p : TracedProcess) : Type 0 where
  pub alike : (lender : ℕ) → p.lender ≡ Some lender → (covers lender).patches ≡ (covers pid).patches

-- the process of an id, if it is live, can be ended so
pub record MayEnd (covers : Covers) (s : TracedSystem) (pid : ℕ) : Type 0 where
  pub returnable : (p : TracedProcess) → live_process s pid ≡ Some p → IsReturnable covers pid p

-- A child is made of a process without patches, and nothing is hidden of it.
pub record MayMakeChild (covers : Covers) (pid child : ℕ) : Type 0 where
  pub unpatched : (covers pid).patches ≡ []
  pub fresh : covers child ≡ no_cover

-- another program is run by an lwp that is no hidden agent, in a process without patches
pub record MayRunProgram (covers : Covers) (pid : ℕ) (p : TracedProcess) (id : ℕ) : Type 0 where
  pub unpatched : (covers pid).patches ≡ []
  pub kept : keeps_lwp (covers pid) id ≡ true
  pub returnable : IsReturnable covers pid p

-- an lwp is made where no agent is hidden, which would count
pub record MayMakeLwp (c : Cover) : Type 0 where
  pub no_agent : c.agent ≡ false

abbrev pub Allows : Covers → TracedSystem → ℕ → TracedProcess → ℕ → Change → Type 0
Allows covers s pid p id (files_are files fds) = Unit {0}
Allows covers s pid p id (space_is space) = Unit {0}
Allows covers s pid p id (signals target g info) = is_kill g ≡ true → MayEnd covers s target
Allows covers s pid p id (signals_itself g info) = Unit {0}
Allows covers s pid p id (takes_shared g) = Unit {0}
Allows covers s pid p id (job_stops g) = Unit {0}
Allows covers s pid p id (disposition_is g disposition) = Unit {0}
Allows covers s pid p id (held_is held) = Unit {0}
Allows covers s pid p id (resumes frame frames) = Unit {0}
Allows covers s pid p id (forks birth args) = MayMakeChild covers pid s.made
Allows covers s pid p id (reaps child) = Unit {0}
Allows covers s pid p id (becomes program) = MayRunProgram covers pid p id
Allows covers s pid p id (makes_lwp new regs held) = MayMakeLwp (covers pid)
Allows covers s pid p id (suspends other suspended) = Unit {0}

-- changes one after another
abbrev pub AllowsAll : Covers → ℕ → TracedProcess → ℕ → TracedLwp → List Change → TracedSystem → Type 0
AllowsAll covers pid p id l [] s = Unit {0}
AllowsAll covers pid p id l (c ∷ cs) s =
    Allows covers s pid p id c × AllowsAll covers pid p id l cs (changed traced pid p id l c s)

-- an lwp or its process ends where no agent is hidden, and what it borrowed is returned
pub record MayLeave (covers : Covers) (pid : ℕ) (p : TracedProcess) : Type 0 where
  pub no_agent : (covers pid).agent ≡ false
  pub returnable : IsReturnable covers pid p

pub record AllowsTransition (covers : Covers) (pid : ℕ) (p : TracedProcess) (id : ℕ) (l : TracedLwp) (t : Transition)
    (s : TracedSystem) : Type 0 where
  pub changes : AllowsAll covers pid p id l t.changes s
  pub leaves : (how : Ending) → t.ending ≡ Some how → MayLeave covers pid p

-- ---- what a turn asks

-- whether the turn of an lwp is that of an instruction: it is not directed to stop, and has no signal to act on or to
-- take first
pub record RunsInstruction (p : TracedProcess) (l : TracedLwp) : Type 0 where
  pub not_directed : l.control.directed ≡ false
  pub in_program : l.phase ≡ User
  pub no_current : l.current ≡ None
  pub none_own : own_takeable l ≡ None
  pub none_shared : shared_takeable p l ≡ None

-- Neither the instruction that an lwp runs nor the call that it makes, or sleeps in, touches a patch.
pub record SparesPatches (ps : List Patch) (p : TracedProcess) (l : TracedLwp) : Type 0 where
  pub instruction : RunsInstruction p l → spares_instruction ps p.space l.regs ≡ true
  pub called : (call : Sysno) → l.phase ≡ Entered call → spares_call ps p.space call (arguments l.regs) ≡ true
  pub asleep : (call : Sysno) (args : List ℕ) (since : ℕ) → l.phase ≡ Asleep call args since
      → spares_call ps p.space call args ≡ true

-- The turn of an lwp, in a process of which no agent is hidden, is nothing of a controller's: the lwp stands at no
-- fault that is hidden and incurs no FLTTRACE, touches no patch, and may change what it changes.
pub record IsOpenTurn (covers : Covers) (s : TracedSystem) (pid : ℕ) (p : TracedProcess) (id : ℕ)
    (l : TracedLwp) : Type 0 where
  pub no_agent : (covers pid).agent ≡ false
  pub no_fault : (covers pid).faulted id ≡ false
  pub not_stepped : (row_for s pid p id l).did ≢ Faulted Trace
  pub within : AreWithin (covers pid).patches
  pub spares : SparesPatches (covers pid).patches p l
  pub allows : AllowsTransition covers pid p id l (row_for s pid p id l).transition s
