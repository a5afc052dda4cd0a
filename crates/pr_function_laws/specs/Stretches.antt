-- A stretch of a history in which at most one lwp of a process moves: from its stop at a breakpoint, over its step, to
-- its next stop and on, as long as the one controller that has the process open for writing lets no other lwp go.
use Rattle.std.specs.Prelude.{◌≡◌, ◌≢◌, ◌+◌, ◌++◌, ℕ, Bool, true, false, List, ◌∷◌, Option, Some, None, IfOk}
use Rattle.pr_model.specs.Handles.{handle_of}
use Rattle.pr_model.specs.Legal.{state_after}
use Rattle.pr_model.specs.State.{TracedLwp, TracedProcess, TracedState, has_agent, live_process}
use Rattle.pr_model.specs.Stops.{has_event_stop, is_stopped, representative}
use Rattle.pr_model.specs.declared.calls.Call.{Call}
use Rattle.pr_model.specs.declared.calls.Call.TheVariants as call
use Rattle.pr_model.specs.declared.calls.File.TheVariants.{Ctl}
use Rattle.pr_model.specs.declared.calls.Mode.TheVariants.{WriteExcl}
use Rattle.pr_model.specs.declared.events.Act.TheVariants.{Turn}
use Rattle.pr_model.specs.declared.events.Actor.TheVariants.{Lwp}
use Rattle.pr_model.specs.declared.events.Did.TheVariants.{Stopped}
use Rattle.pr_model.specs.declared.events.Entry.{Entry}
use Rattle.pr_model.specs.declared.events.Turned.{Turned}
use Rattle.pr_model.specs.declared.handles.Held.{Held}
use Rattle.pr_model.specs.declared.lwps.Phase.TheVariants.{Faulted as AtFault}
use Rattle.pr_num.specs.Control.{clear_fault, single_step}
use Rattle.pr_num.specs.Messages.{first_message}
use Rattle.pr_num.specs.declared.faults.Flt.{Flt}
use Rattle.pr_num.specs.declared.messages.Message.{Message}
use Rattle.pr_num.specs.declared.messages.Message.TheVariants as message
use Rattle.pr_truss_laws.specs.Exchanges.{Exchange, exchange_of}
use Rattle.pr_function_laws.specs.Steps.{RunsNoCall}

-- ---- how the process stands

-- A process that is stopped on an event, and has no agent: then each lwp of it stands still.
pub record IsAtStop (p : TracedProcess) : Type 0 where
  pub no_agent : has_agent p ≡ false
  pub stopped : is_stopped p ≡ true

-- The lwp of this id is its representative, stands at a fault that stopped it, and has no signal to act on first. The
-- process has lent its memory to nobody, and the next instruction of that lwp is no system call.
pub record IsReadyToStep (p : TracedProcess) (id : ℕ) : Type 0 where
  pub no_agent : has_agent p ≡ false
  pub lwp : TracedLwp
  pub leads : representative p ≡ Some (id, lwp)
  pub stands : has_event_stop lwp ≡ true
  pub fault : Flt
  pub address : ℕ
  pub at_fault : lwp.phase ≡ AtFault fault address
  pub no_current : lwp.current ≡ None
  pub not_lent : p.borrower ≡ None
  pub no_call : RunsNoCall p lwp

-- ---- what the controller does

-- the handle by which a call acts on a process
abbrev pub acts_by : Call → Option ℕ
acts_by (call.Ctl handle bytes) = Some handle
acts_by (call.Close handle) = Some handle
acts_by _ = None

-- bytes begin with no other message than this one, and with no other than PCWRITE
abbrev pub BeginWith : Message → List ℕ → Type 0
BeginWith m bytes = IfOk (first_message bytes) (λ first. first.0 ≡ m)

abbrev pub is_write : Message → Bool
is_write (message.Write at size) = true
is_write _ = false

abbrev pub BeginWithWrite : List ℕ → Type 0
BeginWithWrite bytes = IfOk (first_message bytes) (λ first. is_write first.0 ≡ true)

-- this handle is that of the control file of the process
pub record IsControlOf (k pid number : ℕ) (s : TracedState) : Type 0 where
  pub held : Held
  pub there : handle_of s.opens k number ≡ Some held
  pub file : held.file ≡ Ctl
  pub of : held.pid ≡ pid

-- What a call of the controller does to the process in a state: nothing; or it writes memory while the process is
-- stopped on an event; or it steps that one lwp, by PCRUN with PRCFAULT and PRSTEP; or the process has ended.
pub data MovesOneAlone (k pid id : ℕ) (s : TracedState) (c : Call) : Type 0 where
  elsewhere : ((number : ℕ) (held : Held) → acts_by c ≡ Some number → handle_of s.opens k number ≡ Some held
      → held.pid ≢ pid) → MovesOneAlone k pid id s c
  writes : (number : ℕ) (bytes : List ℕ) → c ≡ call.Ctl number bytes → IsControlOf k pid number s
      → BeginWithWrite bytes → ((p : TracedProcess) → live_process s.system pid ≡ Some p → IsAtStop p)
      → MovesOneAlone k pid id s c
  steps : (number : ℕ) (bytes : List ℕ) → c ≡ call.Ctl number bytes → IsControlOf k pid number s
      → BeginWith (message.Run (clear_fault + single_step)) bytes
      → ((p : TracedProcess) → live_process s.system pid ≡ Some p → IsReadyToStep p id) → MovesOneAlone k pid id s c
  over : live_process s.system pid ≡ None → MovesOneAlone k pid id s c

-- In these entries the controller has the control file of the process open with this handle, for itself alone, as long
-- as the process lives, and each of its calls does no more to the process.
pub record IsStretch (k pid id number : ℕ) (s : TracedState) (h : List Entry) : Type 0 where
  pub stays_open : (before later : List Entry) (p : TracedProcess) → h ≡ before ++ later
      → live_process (state_after s before).system pid ≡ Some p
      → (held : Held) × ((handle_of (state_after s before).opens k number ≡ Some held) × ((held.mode ≡ WriteExcl)
      × (held.pid ≡ pid)))
  pub each : (before later : List Entry) (e : Entry) (x : Exchange) → h ≡ before ++ e ∷ later
      → exchange_of k e ≡ Some x → MovesOneAlone k pid id (state_after s before) x.call

-- ---- the other lwps

-- Each turn of another lwp of the process is only the stop to which it was directed.
pub record OthersOnlyStop (pid id : ℕ) (h : List Entry) : Type 0 where
  pub each : (before later : List Entry) (other : ℕ) (t : Turned)
      → h ≡ before ++ record { actor = Lwp pid other; act = Turn t } ∷ later → other ≢ id
      → t ≡ record { did = Stopped; stop = false }
