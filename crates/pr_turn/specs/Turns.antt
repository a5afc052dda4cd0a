use Rattle.std.specs.Prelude.{◌≡◌, ℕ, Bool, true, false, Some}
use Rattle.pr_model.specs.LwpTurns.{may_turn, with_counted}
use Rattle.pr_model.specs.Machines.{traced}
use Rattle.pr_model.specs.Points.{after_meeting, meets}
use Rattle.pr_model.specs.Rows.{row_for}
use Rattle.pr_model.specs.State.{TracedSystem, TracedProcess, TracedLwp, live_process, lwp_of, with_process}
use Rattle.pr_model.specs.Transitions.{after_transition}
use Rattle.pr_model.specs.declared.events.Did.{Did}
use Rattle.pr_model.specs.declared.events.Did.TheVariants.{Ran, Entered, Faulted}
use Rattle.pr_model.specs.declared.events.Turned.{Turned}
use Rattle.pr_turn.specs.CallTurns.{Asks}
use Rattle.pr_turn.specs.Making.{of_row}
use Rattle.pr_turn.specs.NextRows.{row_of_turn, turn_fits}
use Rattle.pr_turn.specs.declared.making.Made.{Made}
use Rattle.pr_turn.specs.declared.next.NextTurn.{NextTurn}

-- What the parts of a turn know of each other.

-- this is the next turn of an lwp, which may have one
pub record IsNext (s : TracedSystem) (pid id : ℕ) (next : NextTurn) : Type 0 where
  pub process : TracedProcess
  pub lwp : TracedLwp
  pub found : live_process s pid ≡ Some process
  pub stands : lwp_of process id ≡ Some lwp
  pub may : may_turn s pid process id lwp ≡ true
  pub fits : turn_fits lwp next ≡ true
  pub asks : Asks s.clock pid id lwp next
  pub row : row_of_turn s pid process id lwp next ≡ row_for s pid process id lwp

-- A system is as the transition of the next turn of an lwp leaves another one; this is what the turn did, and whether
-- the process traces what it met.
pub record TurnMakes (s new : TracedSystem) (pid id : ℕ) (did : Made) (stop : Bool) : Type 0 where
  pub process : TracedProcess
  pub lwp : TracedLwp
  pub found : live_process s pid ≡ Some process
  pub stands : lwp_of process id ≡ Some lwp
  pub may : may_turn s pid process id lwp ≡ true
  pub system : new ≡ after_transition traced pid process id lwp (row_for s pid process id lwp).transition s
  pub what : did ≡ of_row (row_for s pid process id lwp)
  pub traces : stop ≡ meets process.control (row_for s pid process id lwp).point

-- A system is as the next turn of an lwp leaves another one: as its row makes it, what it did is counted, and the lwp
-- stops at what it met; and this is told of the turn.
pub record IsTurned (s new : TracedSystem) (pid id : ℕ) (turned : Turned) : Type 0 where
  pub did : Made
  pub stop : Bool
  pub after : TracedSystem
  pub makes : TurnMakes s after pid id did stop
  pub settled : new
      ≡ with_process pid (after_meeting did.point id) (with_process pid (with_counted did.did did.begun) after)
  pub told : turned ≡ record { did = did.did; stop = stop }

-- whether an instruction can have done this: it ran, or came to a system call or to a fault
abbrev pub is_of_instruction : Did → Bool
is_of_instruction Ran = true
is_of_instruction (Entered call) = true
is_of_instruction (Faulted f) = true
is_of_instruction _ = false
