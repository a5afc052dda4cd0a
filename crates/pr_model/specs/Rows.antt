use Rattle.std.specs.Prelude.{ℕ, Bool, true, false, List, Option, Some, None, length, nat_lt, if◌then◌else◌}
use Rattle.pr_num.specs.declared.errnos.Errno.TheVariants.{Intr}
use Rattle.pr_num.specs.declared.faults.Flt.{Flt}
use Rattle.pr_num.specs.declared.faults.Flt.TheVariants.{Trace, Watch}
use Rattle.pr_num.specs.declared.signals.Sig.{Sig}
use Rattle.pr_num.specs.declared.syscalls.Sysno.{Sysno}
use Rattle.pr_num.specs.Limits.{frame_limit}
use Rattle.pr_parts.specs.declared.actions.Action.{Action}
use Rattle.pr_parts.specs.declared.actions.Action.TheVariants as act
use Rattle.pr_model.specs.CallEffects.{call_effect}
use Rattle.pr_model.specs.Changes.{Effect, does, sleeps, ends}
use Rattle.pr_model.specs.InstructionEffects.{InstructionEffect, runs, calls, faults, runs_into_watch, Store, instruction_effect}
use Rattle.pr_model.specs.Registers.{arguments, pc_of}
use Rattle.pr_model.specs.Signals.{own_takeable, shared_takeable, action_for}
use Rattle.pr_model.specs.State.{TracedSystem, TracedProcess, TracedLwp}
use Rattle.pr_model.specs.Transitions.{Transition, requested, posted, interrupted, performed, own_taken, shared_taken, handled, dropped, job_stopped, died, returned, ran, entered, incurred, trapped}
use Rattle.pr_model.specs.declared.events.Did.{Did}
use Rattle.pr_model.specs.declared.events.Did.TheVariants.{Stopped, Ran, Entered, Made, Slept, Woke, Returned, Faulted, Posted, Took, Acted}
use Rattle.pr_model.specs.declared.events.How.{How}
use Rattle.pr_model.specs.declared.events.How.TheVariants.{Caught, Ignored, JobStop, Died}
use Rattle.pr_model.specs.declared.events.Res.{Res}
use Rattle.pr_model.specs.declared.events.Res.TheVariants.{Error, Ended}
use Rattle.pr_model.specs.declared.lwps.Current.{Current}
use Rattle.pr_model.specs.declared.lwps.Phase.{Phase}
use Rattle.pr_model.specs.declared.lwps.Phase.TheVariants as phase
use Rattle.pr_model.specs.declared.stops.Point.{Point}
use Rattle.pr_model.specs.declared.stops.Point.TheVariants.{Signal, Fault, Entry, Exit}

-- The rows of the turn table: what one turn of an lwp of the traced machine does, a row a definition. The first that
-- fits is taken.

-- What a turn did; the point that it met, if one; whether it began an instruction; and its transition.
pub record Row : Type 0 where
  pub did : Did
  pub point : Option Point
  pub begun : Bool
  pub transition : Transition

-- a row that meets nothing; one that meets a point; and one of an instruction that meets a point, or none
abbrev pub quiet_row : Did → Transition → Row
quiet_row did t = record { did = did; point = None; begun = false; transition = t }

abbrev pub point_row : Did → Point → Transition → Row
point_row did point t = record { did = did; point = Some point; begun = false; transition = t }

abbrev pub instruction_row : Did → Option Point → Transition → Row
instruction_row did point t = record { did = did; point = point; begun = true; transition = t }

-- ---- an lwp that was directed to stop, and one that incurred a fault, whose signal is posted

unfoldable pub requested_row : Row
requested_row = quiet_row Stopped requested

unfoldable pub posted_row : Flt → ℕ → Row
posted_row f address = quiet_row (Posted f) (posted f address)

-- ---- an lwp in a system call: at one, or asleep in one

-- what it did with a result: a call is made from its entry, and one that slept wakes
abbrev pub finished : Bool → Sysno → Res → Did
finished false call result = Made call result
finished true call result = Woke call result

-- the call ends with EINTR
unfoldable pub interrupted_row : Bool → Sysno → List ℕ → Row
interrupted_row woken call args = point_row (finished woken call (Error Intr)) (Exit call) (interrupted call args)

-- the call does what it does; one that ends its lwp or its process meets nothing
unfoldable pub performed_row : Bool → Sysno → List ℕ → ℕ → Effect → Row
performed_row woken call args since (does result changes) =
    point_row (finished woken call result) (Exit call) (performed call args since (does result changes))
performed_row woken call args since sleeps = quiet_row (Slept call) (performed call args since sleeps)
performed_row woken call args since (ends how) =
    quiet_row (finished woken call Ended) (performed call args since (ends how))

-- ---- a signal that is taken, from those of the lwp alone, and from those of its process

unfoldable pub own_taken_row : TracedLwp → Sig → Row
own_taken_row l s = point_row (Took s) (Signal s) (own_taken l s)

unfoldable pub shared_taken_row : TracedProcess → Sig → Row
shared_taken_row p s = point_row (Took s) (Signal s) (shared_taken p s)

-- ---- the current signal, which is acted on

-- a handler runs, or the process ends where its frame has no room
abbrev pub handled_how : TracedLwp → How
handled_how l = if nat_lt (length l.frames) frame_limit then Caught else Died

unfoldable pub handler_row : TracedLwp → Current → ℕ → Row
handler_row l c handler = quiet_row (Acted c.signal (handled_how l)) (handled l c handler)

-- A caught signal first ends the system call in which the lwp is with EINTR, and stays the current one.
unfoldable pub caught_row : TracedLwp → Current → ℕ → Phase → Row
caught_row l c handler (phase.Entered call) = interrupted_row false call (arguments l.regs)
caught_row l c handler (phase.Asleep call args since) = interrupted_row true call args
caught_row l c handler _ = handler_row l c handler

-- A signal that is ignored is dropped; one that stops stops the process by job control; one that kills ends it.
unfoldable pub acted_row : TracedProcess → TracedLwp → Current → Row
acted_row p l c = by (action_for p.dispositions c.signal)
  where
    by : Action → Row
    by act.Ignore = quiet_row (Acted c.signal Ignored) dropped
    by act.Stop = quiet_row (Acted c.signal JobStop) (job_stopped c.signal)
    by act.Die = quiet_row (Acted c.signal Died) (died c.signal)
    by (act.Catch handler) = caught_row l c handler l.phase

-- ---- an lwp on its way out of a call, and one in its program

-- After an instruction, and on the way out of a call, a step mark is used up: FLTTRACE is incurred, and the turn is
-- that fault's.
unfoldable pub returned_row : TracedProcess → TracedLwp → Sysno → Row
returned_row p l call =
    if l.control.step then point_row (Faulted Trace) (Fault Trace) (trapped Trace (pc_of l.regs) p.space l.regs None)
    else quiet_row (Returned call) returned

unfoldable pub ran_row : TracedProcess → TracedLwp → List ℕ → Option Store → Row
ran_row p l regs store =
    if l.control.step then instruction_row (Faulted Trace) (Some (Fault Trace))
    (trapped Trace (pc_of regs) p.space regs store)
    else instruction_row Ran None (ran p.space regs store)

unfoldable pub entered_row : Sysno → List ℕ → Row
entered_row call regs = instruction_row (Entered call) (Some (Entry call)) (entered call regs)

unfoldable pub incurred_row : Flt → ℕ → Row
incurred_row f address = instruction_row (Faulted f) (Some (Fault f)) (incurred f address)

-- a watched area that traps after the access prevails over a step mark, which it uses up too
unfoldable pub watched_row : ℕ → TracedProcess → List ℕ → Option Store → Row
watched_row address p regs store =
    instruction_row (Faulted Watch) (Some (Fault Watch)) (trapped Watch address p.space regs store)

unfoldable pub executed_row : TracedProcess → TracedLwp → InstructionEffect → Row
executed_row p l (runs regs store) = ran_row p l regs store
executed_row p l (calls call regs) = entered_row call regs
executed_row p l (faults f address) = incurred_row f address
executed_row p l (runs_into_watch address regs store) = watched_row address p regs store

-- ---- the table

module _ (s : TracedSystem) (pid : ℕ) (p : TracedProcess) (id : ℕ) (l : TracedLwp) where
  -- an lwp in a system call; one whose call was aborted gets EINTR
  unfoldable pub call_row : Bool → Sysno → List ℕ → ℕ → Row
  call_row woken call args since =
      if l.control.abort then interrupted_row woken call args
      else performed_row woken call args since (call_effect s pid p id l since call args)

  -- the rows by phase, where no directive, no current signal and no signal to take comes first
  unfoldable pub row_in : Phase → Row
  row_in phase.User = executed_row p l (instruction_effect p.space p.control.areas l.regs)
  row_in (phase.Entered call) = call_row false call (arguments l.regs) s.clock
  row_in (phase.Asleep call args since) = call_row true call args since
  row_in (phase.Exiting call args result) = returned_row p l call
  row_in (phase.Faulted f address) = posted_row f address

  -- a signal is taken if there is one, from those of the lwp first
  abbrev pub taken_or : Option Sig → Option Sig → Row → Row
  taken_or (Some g) shared otherwise = own_taken_row l g
  taken_or None (Some g) otherwise = shared_taken_row p g
  taken_or None None otherwise = otherwise

  -- an lwp at a call that it has not made takes no signal
  unfoldable pub signal_row_or : Phase → Row → Row
  signal_row_or phase.User otherwise = taken_or (own_takeable l) (shared_takeable p l) otherwise
  signal_row_or (phase.Entered call) otherwise = otherwise
  signal_row_or (phase.Asleep call args since) otherwise = taken_or (own_takeable l) (shared_takeable p l) otherwise
  signal_row_or (phase.Exiting call args result) otherwise = taken_or (own_takeable l) (shared_takeable p l) otherwise
  signal_row_or (phase.Faulted f address) otherwise = otherwise

  -- a current signal is acted on
  abbrev pub current_row_or : Option Current → Row → Row
  current_row_or (Some c) otherwise = acted_row p l c
  current_row_or None otherwise = otherwise

  -- a fault's signal is posted before anything else
  abbrev pub posted_row_or : Phase → Row → Row
  posted_row_or (phase.Faulted f address) otherwise = posted_row f address
  posted_row_or _ otherwise = otherwise

  -- The first row that fits: a directed lwp stops; a fault's signal is posted; a current signal is acted on; a signal
  -- is taken; and then the phase decides.
  unfoldable pub row_for : Row
  row_for =
      if l.control.directed then requested_row
      else posted_row_or l.phase (current_row_or l.current (signal_row_or l.phase (row_in l.phase)))
