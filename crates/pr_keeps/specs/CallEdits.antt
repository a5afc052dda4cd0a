use Rattle.std.specs.Prelude.{◌≡◌, ◌≢◌, ◌<◌, ◌+◌, ℕ, Bool, true, false, List, Some, None, Ok, is_none}
use Rattle.std.specs.List.{position}
use Rattle.pr_num.specs.Control.{has_flags, rlc_mode, klc_mode}
use Rattle.pr_num.specs.Infos.{killed_by}
use Rattle.pr_num.specs.Limits.{controller_limit}
use Rattle.pr_num.specs.Messages.{first_message}
use Rattle.pr_num.specs.Programs.{Program}
use Rattle.pr_num.specs.Sets.{with_number}
use Rattle.pr_num.specs.Signals.{signal_number}
use Rattle.pr_num.specs.declared.messages.Message.{Message}
use Rattle.pr_num.specs.declared.signals.Sig.{Sig}
use Rattle.pr_num.specs.declared.signals.Sig.TheVariants as sig
use Rattle.pr_model.specs.Calls.{with_interrupt_seen}
use Rattle.pr_model.specs.ControlMessages.{tail_of, target_of}
use Rattle.pr_model.specs.Handles.{handle_of, is_control, open_refusal, released, with_closed, with_opened}
use Rattle.pr_model.specs.Lives.{with_spawned, with_this_ended}
use Rattle.pr_model.specs.Machines.{traced}
use Rattle.pr_model.specs.ProcessCalls.{program_named}
use Rattle.pr_model.specs.Readers.{life_of}
use Rattle.pr_model.specs.SignalCalls.{sending, sends as sends_it}
use Rattle.pr_model.specs.Signals.{generated}
use Rattle.pr_model.specs.Spawning.{spawn_refusal}
use Rattle.pr_model.specs.State.{TracedProcess, TracedState, TracedSystem, live_process, with_process}
use Rattle.pr_model.specs.declared.calls.Call.{Call}
use Rattle.pr_model.specs.declared.calls.Call.TheVariants.{Open, Close, Ctl, Interrupt, Spawn, Kill}
use Rattle.pr_model.specs.declared.calls.File.{File}
use Rattle.pr_model.specs.declared.calls.Mode.{Mode}
use Rattle.pr_model.specs.declared.handles.Held.{Held}
use Rattle.pr_keeps.specs.MessageEdits.{MessageEdit}

-- What the calls of controllers make of the state: a closed list. What each of these edits keeps, every call keeps.

-- ---- the last close for writing

-- What the close of a handle makes of the system: nothing; its process ends as by SIGKILL; or it is released.
pub data CloseEdit (s : TracedSystem) (pid : ℕ) : TracedSystem → Type 0 where
  nothing : CloseEdit s pid s
  kills : (p : TracedProcess) → live_process s pid ≡ Some p → has_flags p.control.modes klc_mode ≡ true
      → CloseEdit s pid (with_this_ended traced pid p (signal_number sig.Kill) s)
  releases : (p : TracedProcess) → live_process s pid ≡ Some p → has_flags p.control.modes klc_mode ≡ false
      → has_flags p.control.modes rlc_mode ≡ true → CloseEdit s pid (with_process pid released s)

-- ---- a control message that is taken

-- A controller writes bytes that begin with a message, by a handle of a control file of a live process which is not the
-- system process.
pub record IsMessageTo (s : TracedState) (by handle : ℕ) (bytes : List ℕ) (held : Held) (p : TracedProcess)
    (m : Message) : Type 0 where
  pub handle_is : handle_of s.opens by handle ≡ Some held
  pub controls : is_control held.file ≡ true
  pub target : target_of s.system held ≡ Some p
  pub live : live_process s.system held.pid ≡ Some p
  pub user : held.pid ≢ 0
  pub length : ℕ
  pub read : first_message bytes ≡ Ok (m, length)

-- ---- the calls

-- what a call of a controller makes of the state
pub data CallEdit (s : TracedState) (by : ℕ) : Call → TracedState → Type 0 where
  -- it answers, and nothing changes
  looks : {c : Call} → CallEdit s by c s
  opens : {pid id place : ℕ} {file : File} {mode : Mode} → position is_none s.opens ≡ Some place
      → open_refusal s pid id file mode ≡ None
      → CallEdit s by (Open pid id file mode)
      (with_opened (record { controller = by; pid = pid; lwp = id; file = file; mode = mode }) place s)
  closes : {handle : ℕ} {held : Held} → handle_of s.opens by handle ≡ Some held
      → CallEdit s by (Close handle) (with_closed held handle s)
  controls : {handle : ℕ} {bytes : List ℕ} {held : Held} {p : TracedProcess} {m : Message} {t : TracedSystem}
      → IsMessageTo s by handle bytes held p m
      → MessageEdit s.system held.pid p m (tail_of m bytes) t → CallEdit s by (Ctl handle bytes)
      (record s { system = t })
  -- a wait shows that the controller was interrupted
  sees_interrupt : {c : Call} → CallEdit s by c (with_interrupt_seen by s)
  interrupts : {other : ℕ} → other < controller_limit
      → CallEdit s by (Interrupt other) (record s { interrupted = with_number s.interrupted (other + 1) })
  spawns : {name : List ℕ} {held : Bool} {program : Program} → program_named s.system.programs name ≡ Some program
      → spawn_refusal s.system program ≡ None
      → CallEdit s by (Spawn name held) (record s { system = with_spawned traced program held s.system })
  sends : {pid number : ℕ} {g : Sig} → sending pid number (life_of s.system pid) ≡ sends_it g
      → CallEdit s by (Kill pid number) (record s { system = generated traced pid None g (killed_by 0) s.system })
