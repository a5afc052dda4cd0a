use Rattle.std.specs.Prelude.{◌≡◌, ◌==◌, ℕ, false, Some, List, [], ◌∷◌}
use Rattle.pr_num.specs.Agents.{agent_id}
use Rattle.pr_num.specs.declared.infos.Info.{Info}
use Rattle.pr_parts.specs.PendingSignals.{Pending}
use Rattle.pr_model.specs.Changes.{Change, signals, signals_itself, makes_lwp}
use Rattle.pr_model.specs.Erasure.{erased_pending}
use Rattle.pr_model.specs.Moves.{Move, stays, stops, posts, returns, runs, enters, incurs, traps, leaves, sleeps, takes, drops, catches}
use Rattle.pr_model.specs.State.{TracedLwp, TracedProcess, TracedSystem, process_of, lwp_of}
use Rattle.pr_model.specs.Transitions.{Transition}
use Rattle.pr_model.specs.declared.lwps.Phase.{Phase}
use Rattle.pr_model.specs.declared.lwps.Phase.TheVariants.{User, Faulted}

-- Which transitions an lwp can make, by its phase.

-- whether what comes with a signal is not of a fault
pub record IsSent (info : Info) : Type 0 where
  pub no_fault : (info.code == 4) ≡ false

-- whether what comes with the signals that a change sends is not of a fault, and the lwp that it makes is no agent
abbrev pub IsProper : Change → Type 0
IsProper (signals target g info) = IsSent info
IsProper (signals_itself g info) = IsSent info
IsProper (makes_lwp new regs held) = (new == agent_id) ≡ false
IsProper _ = Unit {0}

abbrev pub AreProper : List Change → Type 0
AreProper [] = Unit {0}
AreProper (c ∷ cs) = IsProper c × AreProper cs

-- an lwp that is not between a fault and its posting: what is pending for it is what programs see
abbrev pub HasNoFault : Phase → Type 0
HasNoFault phase = (p : Pending) → erased_pending phase p ≡ p

-- The phases in which an lwp can make a move.
abbrev pub Fits : Move → Phase → Type 0
Fits stays phase = Unit {0}
Fits stops phase = Unit {0}
Fits (posts f address) phase = phase ≡ Faulted f address
Fits returns phase = HasNoFault phase
Fits (runs regs) phase = Unit {0}
Fits (enters call regs) phase = HasNoFault phase
Fits (incurs f address) phase = phase ≡ User
Fits (traps f address regs) phase = HasNoFault phase
Fits (leaves call args result) phase = HasNoFault phase
Fits (sleeps call args since) phase = HasNoFault phase
Fits (takes c own) phase = HasNoFault phase
Fits drops phase = Unit {0}
Fits (catches frames regs held) phase = HasNoFault phase

-- a transition whose move fits the phase of its lwp, and that sends no signal as a fault's
pub record Suits (t : Transition) (phase : Phase) : Type 0 where
  pub fits : Fits t.move phase
  pub sent : AreProper t.changes

-- the lwp of an id stands in the process of an id
pub record IsThere (s : TracedSystem) (pid : ℕ) (p : TracedProcess) (id : ℕ) (l : TracedLwp) : Type 0 where
  pub found : process_of s pid ≡ Some p
  pub there : lwp_of p id ≡ Some l
