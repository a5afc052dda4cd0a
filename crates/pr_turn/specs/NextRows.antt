use Rattle.std.specs.Prelude.{◌&&◌, ℕ, Bool, false, true, [], Option, Some, None, not, is_some, length, nat_lt, if◌then◌else◌}
use Rattle.pr_num.specs.declared.faults.Flt.{Flt}
use Rattle.pr_num.specs.declared.faults.Flt.TheVariants.{Trace, Watch}
use Rattle.pr_num.specs.Limits.{frame_limit}
use Rattle.pr_parts.specs.PendingSignals.{pending_set}
use Rattle.pr_parts.specs.SignalRules.{takeable_signal}
use Rattle.pr_model.specs.CallEffects.{call_effect}
use Rattle.pr_model.specs.Changes.{ends_process}
use Rattle.pr_model.specs.InstructionEffects.{InstructionEffect, runs, calls, faults, runs_into_watch, instruction_effect}
use Rattle.pr_model.specs.Moves.{Move, stops, posts, returns, leaves, enters, incurs, traps, stays, takes, drops, catches}
use Rattle.pr_model.specs.Moves as move
use Rattle.pr_model.specs.Registers.{pc_of}
use Rattle.pr_model.specs.Rows.{Row, finished, requested_row, posted_row, returned_row, executed_row, own_taken_row, shared_taken_row, performed_row, point_row, quiet_row}
use Rattle.pr_model.specs.Signals.{current_of, handler_held, handler_registers, with_frame}
use Rattle.pr_model.specs.State.{TracedProcess, TracedLwp, TracedSystem}
use Rattle.pr_model.specs.Transitions.{changing, dropped, ending, job_stopped, moving}
use Rattle.pr_model.specs.declared.events.Did.TheVariants.{Acted}
use Rattle.pr_model.specs.declared.events.How.TheVariants as how
use Rattle.pr_model.specs.declared.lwps.Current.{Current}
use Rattle.pr_model.specs.declared.lwps.Phase.{Phase}
use Rattle.pr_model.specs.declared.lwps.Phase.TheVariants as phase
use Rattle.pr_model.specs.declared.stops.Point.TheVariants.{Exit}
use Rattle.pr_turn.specs.declared.next.Next.{Next}
use Rattle.pr_turn.specs.declared.next.NextTurn.{NextTurn}
use Rattle.pr_turn.specs.declared.next.NextTurn.TheVariants.{Row as ThisRow, Performs}
use Rattle.pr_turn.specs.declared.next.Next.TheVariants.{Requested, Posted, Gave, Ends, Returned, Executed, TookOwn, TookShared, Dropped, JobStopped, Caught}

-- What the crate's own type of rows says, in the words of the turn table.

-- a handler runs
abbrev pub caught_move : TracedLwp → Current → ℕ → Move
caught_move l c handler =
    catches (with_frame l.regs l.held l.frames) (handler_registers c handler l.regs) (handler_held c l.held)

module _ (p : TracedProcess) (l : TracedLwp) where
  -- the instruction at pc
  abbrev pub effect_at : InstructionEffect
  effect_at = instruction_effect p.space p.control.areas l.regs

  -- the row that is meant
  unfoldable pub row_of : Next → Row
  row_of Requested = requested_row
  row_of (Posted f address) = posted_row f address
  row_of (Gave woken call args result) =
      point_row (finished woken call result) (Exit call) (changing [] (leaves call args result))
  row_of (Ends did status) = quiet_row did (ending (ends_process status))
  row_of (Returned call) = returned_row p l call
  row_of Executed = executed_row p l effect_at
  row_of (TookOwn g) = own_taken_row l g
  row_of (TookShared g) = shared_taken_row p g
  row_of (Dropped g) = quiet_row (Acted g how.Ignored) dropped
  row_of (JobStopped g) = quiet_row (Acted g how.JobStop) (job_stopped g)
  row_of (Caught c handler) = quiet_row (Acted c.signal how.Caught) (moving (caught_move l c handler))

  -- this row, or another one where there is none
  abbrev pub row_or : Option Next → Row → Row
  row_or (Some next) otherwise = row_of next
  row_or None otherwise = otherwise

-- whether an lwp is in its program
abbrev pub is_in_program : Phase → Bool
is_in_program phase.User = true
is_in_program _ = false

-- Whether an lwp has nothing to do but to run an instruction of its program, where these signals pend for its process:
-- it is not directed to stop, and has no signal to act on or to take.
unfoldable pub runs_on : ℕ → TracedLwp → Bool
runs_on shared l =
    is_in_program l.phase
    && (not l.control.directed
    && (not (is_some l.current) && not (is_some (takeable_signal (pending_set l.pending) shared l.held))))

-- the row of the next turn of an lwp
abbrev pub row_of_turn : TracedSystem → ℕ → TracedProcess → ℕ → TracedLwp → NextTurn → Row
row_of_turn s pid p id l (ThisRow next) = row_of p l next
row_of_turn s pid p id l (Performs woken call args since) =
    performed_row woken call args since (call_effect s pid p id l since call args)

-- whether a row may be made: the frame of a handler that runs has room
abbrev pub fits : TracedLwp → Next → Bool
fits l (Caught c handler) = nat_lt (length l.frames) frame_limit
fits l _ = true

-- the same of a turn: any call may be performed
abbrev pub turn_fits : TracedLwp → NextTurn → Bool
turn_fits l (ThisRow next) = fits l next
turn_fits l (Performs woken call args since) = true

-- the fault that an lwp incurred and whose signal is not posted yet
abbrev pub unposted_fault : Phase → Option (Flt × ℕ)
unposted_fault (phase.Faulted f address) = Some (f, address)
unposted_fault _ = None

-- the move of an lwp by an instruction
unfoldable pub executed_move : TracedLwp → InstructionEffect → Move
executed_move l (runs regs store) = if l.control.step then traps Trace (pc_of regs) regs else move.runs regs
executed_move l (calls call regs) = enters call regs
executed_move l (faults f address) = incurs f address
executed_move l (runs_into_watch address regs store) = traps Watch address regs

-- the move of an lwp by another row
unfoldable pub move_of : TracedLwp → Next → Move
move_of l Requested = stops
move_of l (Posted f address) = posts f address
move_of l (Gave woken call args result) = leaves call args result
move_of l (Returned call) = if l.control.step then traps Trace (pc_of l.regs) l.regs else returns
move_of l (TookOwn g) = takes (current_of g l.pending) true
move_of l (Dropped g) = drops
move_of l (Caught c handler) = caught_move l c handler
move_of l _ = stays

-- whether a row moves its lwp and changes nothing else
abbrev pub is_own_row : Next → Bool
is_own_row (Ends did status) = false
is_own_row Executed = false
is_own_row (TookShared g) = false
is_own_row (JobStopped g) = false
is_own_row _ = true
