use Rattle.std.specs.Prelude.{◌≡◌, ℕ, true, Some}
use Rattle.pr_model.specs.LwpTurns.{can_move, settled, turn_of}
use Rattle.pr_model.specs.Machines.{stopped_as_directed}
use Rattle.pr_model.specs.Rows.{requested_row}
use Rattle.pr_model.specs.State.{TracedLwp, TracedProcess, TracedSystem, live_process, lwp_of}

-- The stop that an lwp makes as it was directed to (proc(4), "PCSTOP").

-- An lwp can move, and its turn is the stop that it was directed to make. After that its process lives, and the lwp
-- stands on a requested stop, is not directed to stop any more, and is as it was otherwise.
pub record MakesItsStop (s : TracedSystem) (pid : ℕ) (p : TracedProcess) (id : ℕ) (l : TracedLwp) : Type 0 where
  pub can : can_move s pid id ≡ true
  pub turn : turn_of s pid id ≡ Some (settled s pid p id l requested_row)
  pub process : TracedProcess
  pub lives : live_process (settled s pid p id l requested_row).system pid ≡ Some process
  pub stands : lwp_of process id ≡ Some (record l { control = stopped_as_directed l.control })
