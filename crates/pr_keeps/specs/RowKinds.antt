use Rattle.std.specs.Prelude.{◌≡◌, ◌⊎◌, ℕ, Bool, true, false, List, Some, None}
use Rattle.pr_num.specs.declared.faults.Flt.{Flt}
use Rattle.pr_num.specs.declared.signals.Sig.{Sig}
use Rattle.pr_num.specs.declared.syscalls.Sysno.{Sysno}
use Rattle.pr_parts.specs.declared.actions.Action.TheVariants as act
use Rattle.pr_model.specs.CallEffects.{call_effect}
use Rattle.pr_model.specs.InstructionEffects.{instruction_effect}
use Rattle.pr_model.specs.Registers.{arguments}
use Rattle.pr_model.specs.Rows.{Row, quiet_row, requested_row, posted_row, returned_row, executed_row, own_taken_row, shared_taken_row, handler_row, interrupted_row, performed_row}
use Rattle.pr_model.specs.Signals.{action_for, own_takeable, shared_takeable}
use Rattle.pr_model.specs.State.{TracedLwp, TracedProcess, TracedSystem}
use Rattle.pr_model.specs.Transitions.{dropped, job_stopped, died}
use Rattle.pr_model.specs.UntracedMachine.{is_caught}
use Rattle.pr_model.specs.declared.events.Did.TheVariants.{Acted}
use Rattle.pr_model.specs.declared.events.How.TheVariants.{Ignored, JobStop, Died}
use Rattle.pr_model.specs.declared.events.Res.{Res}
use Rattle.pr_model.specs.declared.lwps.Current.{Current}
use Rattle.pr_model.specs.declared.lwps.Phase.TheVariants.{User, Entered, Asleep, Exiting, Faulted}

-- The rows that a turn of an lwp can be, as a closed list, each with what is so of the lwp then. What is so of each of
-- them is so of every turn.

-- an lwp is at a call that it has not made, or asleep in one: with these arguments, since this moment
pub data IsInCall (s : TracedSystem) (l : TracedLwp) : Bool → Sysno → List ℕ → ℕ → Type 0 where
  at_it : {call : Sysno} → l.phase ≡ Entered call → IsInCall s l false call (arguments l.regs) s.clock
  asleep_in_it : {call : Sysno} {args : List ℕ} {since : ℕ} → l.phase ≡ Asleep call args since
      → IsInCall s l true call args since

pub data RowKind (s : TracedSystem) (pid : ℕ) (p : TracedProcess) (id : ℕ) (l : TracedLwp) : Row → Type 0 where
  -- it stops as directed; the signal of its fault is posted
  stops : l.control.directed ≡ true → RowKind s pid p id l requested_row
  posts : {f : Flt} {address : ℕ} → l.phase ≡ Faulted f address → RowKind s pid p id l (posted_row f address)
  -- its current signal is acted on
  ignores : {c : Current} → l.current ≡ Some c → action_for p.dispositions c.signal ≡ act.Ignore
      → RowKind s pid p id l (quiet_row (Acted c.signal Ignored) dropped)
  stops_job : {c : Current} → l.current ≡ Some c → action_for p.dispositions c.signal ≡ act.Stop
      → RowKind s pid p id l (quiet_row (Acted c.signal JobStop) (job_stopped c.signal))
  dies : {c : Current} → l.current ≡ Some c → action_for p.dispositions c.signal ≡ act.Die
      → RowKind s pid p id l (quiet_row (Acted c.signal Died) (died c.signal))
  catches : {c : Current} {handler : ℕ} → l.current ≡ Some c → action_for p.dispositions c.signal ≡ act.Catch handler
      → RowKind s pid p id l (handler_row l c handler)
  -- a signal is taken
  takes_own : {g : Sig} → l.current ≡ None → own_takeable l ≡ Some g → RowKind s pid p id l (own_taken_row l g)
  takes_shared : {g : Sig} → l.current ≡ None → own_takeable l ≡ None → shared_takeable p l ≡ Some g
      → RowKind s pid p id l (shared_taken_row p g)
  -- its call ends with EINTR, since it was aborted or a signal is caught; its call does what it does; it leaves its
  -- call
  interrupts : {woken : Bool} {call : Sysno} {args : List ℕ} {since : ℕ} → IsInCall s l woken call args since
      → (l.control.abort ≡ true) ⊎ (is_caught p.dispositions l.current ≡ true) → RowKind s pid p id l
      (interrupted_row woken call args)
  performs : {woken : Bool} {call : Sysno} {args : List ℕ} {since : ℕ} → IsInCall s l woken call args since
      → l.control.abort ≡ false → l.current ≡ None → RowKind s pid p id l
      (performed_row woken call args since (call_effect s pid p id l since call args))
  returns : {call : Sysno} {args : List ℕ} {result : Res} → l.phase ≡ Exiting call args result → l.current ≡ None
      → RowKind s pid p id l (returned_row p l call)
  -- it carries out an instruction
  executes : l.phase ≡ User → l.current ≡ None
      → RowKind s pid p id l (executed_row p l (instruction_effect p.space p.control.areas l.regs))
