use Rattle.std.specs.Prelude.{◌==◌, ◌||◌, ◌&&◌, ◌+◌, ℕ, Bool, true, false, not, List, Option, Some, None, is_some, if◌then◌else◌}
use Rattle.pr_num.specs.Agents.{agent_id}
use Rattle.pr_num.specs.declared.syscalls.Sysno.{Sysno}
use Rattle.pr_num.specs.declared.syscalls.Sysno.TheVariants.{Read, Write, Wait, Pause, Sleep}
use Rattle.pr_model.specs.CallEffects.{call_effect}
use Rattle.pr_model.specs.Changes.{is_over}
use Rattle.pr_model.specs.Machines.{traced}
use Rattle.pr_model.specs.Points.{meets, after_meeting}
use Rattle.pr_model.specs.Readers.{has_lent}
use Rattle.pr_model.specs.Rows.{Row, row_for}
use Rattle.pr_model.specs.Signals.{has_takeable}
use Rattle.pr_model.specs.State.{TracedSystem, TracedProcess, TracedLwp, live_process, lwp_of, with_process}
use Rattle.pr_model.specs.Stops.{has_event_stop}
use Rattle.pr_model.specs.Transitions.{after_transition}
use Rattle.pr_model.specs.declared.events.Did.{Did}
use Rattle.pr_model.specs.declared.events.Did.TheVariants.{Made, Woke, Took, Faulted}
use Rattle.pr_model.specs.declared.events.Turned.{Turned}
use Rattle.pr_model.specs.declared.lwps.Phase.{Phase}
use Rattle.pr_model.specs.declared.lwps.Phase.TheVariants.{User, Entered, Asleep, Exiting, Faulted as AtFault}
use Rattle.pr_model.specs.declared.processes.Usage.{Usage}

-- The turn of an lwp: whether it may have one, and what it makes of the whole system.

-- ---- who may have a turn

-- Whether an lwp of an id is held back: it stands on an event of interest, or is suspended, or its process is stopped
-- by job control, which does not hold the agent, or has lent its memory, which lets it move only to stop as directed.
unfoldable pub is_held_back : TracedProcess → ℕ → TracedLwp → Bool
is_held_back p id l =
    has_event_stop l
    || (l.suspended || ((is_some p.job_stop && not (id == agent_id)) || (has_lent p && not l.control.directed)))

module _ (s : TracedSystem) (pid : ℕ) (p : TracedProcess) (id : ℕ) (l : TracedLwp) where
  -- Whether a call in which an lwp sleeps since some moment is ready: it would not sleep any more. Only these calls may
  -- sleep.
  unfoldable pub is_ready : ℕ → Sysno → List ℕ → Bool
  is_ready since Read args = is_over (call_effect s pid p id l since Read args)
  is_ready since Write args = is_over (call_effect s pid p id l since Write args)
  is_ready since Wait args = is_over (call_effect s pid p id l since Wait args)
  is_ready since Pause args = false
  is_ready since Sleep args = is_over (call_effect s pid p id l since Sleep args)
  is_ready since call args = true

  -- An lwp that is asleep goes on where it is directed to stop, has a signal to act on or to take, or where its call
  -- was aborted or is ready.
  unfoldable pub may_wake : ℕ → Sysno → List ℕ → Bool
  may_wake since call args =
      l.control.directed || (is_some l.current || (has_takeable p l || (l.control.abort || is_ready since call args)))

  abbrev pub may_go_on : Phase → Bool
  may_go_on User = true
  may_go_on (Entered call) = true
  may_go_on (Asleep call args since) = may_wake since call args
  may_go_on (Exiting call args result) = true
  may_go_on (AtFault f address) = true

  unfoldable pub may_turn : Bool
  may_turn = not (is_held_back p id l) && may_go_on l.phase

-- whether the lwp of an id, in the live process of an id, may have a turn
abbrev pub may_turn_in : TracedSystem → ℕ → ℕ → TracedProcess → Option TracedLwp → Bool
may_turn_in s pid id p None = false
may_turn_in s pid id p (Some l) = may_turn s pid p id l

abbrev pub may_turn_of : TracedSystem → ℕ → ℕ → Option TracedProcess → Bool
may_turn_of s pid id None = false
may_turn_of s pid id (Some p) = may_turn_in s pid id p (lwp_of p id)

unfoldable pub can_move : TracedSystem → ℕ → ℕ → Bool
can_move s pid id = may_turn_of s pid id (live_process s pid)

-- ---- what a turn does

-- what a turn adds to the counts of calls ended, signals taken, faults incurred and instructions begun
abbrev pub calls_in : Did → ℕ
calls_in (Made call result) = 1
calls_in (Woke call result) = 1
calls_in _ = 0

abbrev pub signals_in : Did → ℕ
signals_in (Took s) = 1
signals_in _ = 0

abbrev pub faults_in : Did → ℕ
faults_in (Faulted f) = 1
faults_in _ = 0

abbrev pub instructions_in : Bool → ℕ
instructions_in true = 1
instructions_in false = 0

-- usage after a turn (proc(4), "usage")
unfoldable pub counted : Did → Bool → Usage → Usage
counted did begun u = record {
  calls = u.calls + calls_in did;
  signals = u.signals + signals_in did;
  faults = u.faults + faults_in did;
  instructions = u.instructions + instructions_in begun;
}

unfoldable pub with_counted : Did → Bool → TracedProcess → TracedProcess
with_counted did begun p = record p { control = record p.control { usage = counted did begun p.control.usage } }

-- a system, and what the turn that led to it did
pub record LwpTurn : Type 0 where
  pub system : TracedSystem
  pub turned : Turned

-- What a row makes of the system, in this order: its transition, the counts, and the stop at the point that it met. So
-- an lwp that the turn made is directed by that stop too.
unfoldable pub settled : TracedSystem → ℕ → TracedProcess → ℕ → TracedLwp → Row → LwpTurn
settled s pid p id l row = record {
  system =
      with_process pid (after_meeting row.point id)
      (with_process pid (with_counted row.did row.begun)
      (after_transition traced pid p id l row.transition s));
  turned = record { did = row.did; stop = meets p.control row.point };
}

-- One turn of the lwp of an id in the live process of an id. None: it may not have one.
abbrev pub turn_in : TracedSystem → ℕ → TracedProcess → ℕ → TracedLwp → Option LwpTurn
turn_in s pid p id l = if may_turn s pid p id l then Some (settled s pid p id l (row_for s pid p id l)) else None

abbrev pub turn_of_lwp : TracedSystem → ℕ → ℕ → TracedProcess → Option TracedLwp → Option LwpTurn
turn_of_lwp s pid id p None = None
turn_of_lwp s pid id p (Some l) = turn_in s pid p id l

abbrev pub turn_of_process : TracedSystem → ℕ → ℕ → Option TracedProcess → Option LwpTurn
turn_of_process s pid id None = None
turn_of_process s pid id (Some p) = turn_of_lwp s pid id p (lwp_of p id)

unfoldable pub turn_of : TracedSystem → ℕ → ℕ → Option LwpTurn
turn_of s pid id = turn_of_process s pid id (live_process s pid)
