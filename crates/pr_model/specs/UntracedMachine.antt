use Rattle.std.specs.Prelude.{◌≡◌, ◌+◌, ℕ, Bool, true, false, List, [], ◌∷◌, Option, Some, None}
use Rattle.pr_num.specs.declared.errnos.Errno.TheVariants.{Intr}
use Rattle.pr_num.specs.declared.faults.Flt.{Flt}
use Rattle.pr_num.specs.declared.signals.Sig.{Sig}
use Rattle.pr_num.specs.declared.syscalls.Sysno.{Sysno}
use Rattle.pr_num.specs.Programs.{Program}
use Rattle.pr_parts.specs.declared.actions.Action.{Action}
use Rattle.pr_parts.specs.declared.actions.Action.TheVariants as act
use Rattle.pr_model.specs.CallEffects.{call_effect}
use Rattle.pr_model.specs.Changes.{Effect, does, sleeps, ends, is_over}
use Rattle.pr_model.specs.InstructionEffects.{Store, runs, calls, faults, instruction_effect}
use Rattle.pr_model.specs.Lives.{with_spawned}
use Rattle.pr_model.specs.Machines.{in_program, at_call, sleeping, Place, UntracedLwp, UntracedProcess, UntracedSystem, untraced}
use Rattle.pr_model.specs.ProcessCalls.{program_named}
use Rattle.pr_model.specs.Readers.{life_of}
use Rattle.pr_model.specs.Registers.{arguments}
use Rattle.pr_model.specs.SignalCalls.{Sending, sends_nothing, sends, sending, with_sent}
use Rattle.pr_num.specs.Infos.{killed_by}
use Rattle.pr_model.specs.Signals.{action_for, has_takeable, own_takeable, shared_takeable}
use Rattle.pr_model.specs.Spawning.{spawn_refusal}
use Rattle.pr_model.specs.State.{live_process, lwp_of}
use Rattle.pr_model.specs.Transitions.{Transition, after_transition, ran, entered, incurred, performed, interrupted, own_taken, shared_taken, dropped, job_stopped, died, handled}
use Rattle.pr_model.specs.declared.events.Res.{Res}
use Rattle.pr_model.specs.declared.events.Res.TheVariants.{Error, Ended}
use Rattle.pr_model.specs.declared.lwps.Current.{Current}
use Rattle.pr_model.specs.declared.steps.Step.{Step}
use Rattle.pr_model.specs.declared.steps.Step.TheVariants.{Exec, Call, Sleep, Finish, Fault, Take, Act, Spawn, Kill, Tick}

-- The untraced machine: the system as it runs with no controller. It may choose which lwp goes on; what a step of that
-- lwp does is determined. A system call is one step.

-- Whether an lwp can make a step at all: its process is live, is not stopped by job control and has not lent its
-- memory, and it is not suspended.
pub record MayStep (u : UntracedSystem) (pid id : ℕ) (p : UntracedProcess) (l : UntracedLwp) : Type 0 where
  pub live : live_process u pid ≡ Some p
  pub there : lwp_of p id ≡ Some l
  pub not_stopped : p.job_stop ≡ None
  pub own_memory : p.borrower ≡ None
  pub not_suspended : l.suspended ≡ false

-- a step of the lwp of an id, which makes this transition
pub record MakesStep (u : UntracedSystem) (pid id : ℕ) (p : UntracedProcess) (l : UntracedLwp) (t : Transition)
    (new : UntracedSystem) : Type 0 where
  pub may_step : MayStep u pid id p l
  pub state : new ≡ after_transition untraced pid p id l t u

-- whether an lwp has no signal to act on or to take
pub record IsUnsignalled (p : UntracedProcess) (l : UntracedLwp) : Type 0 where
  pub no_current : l.current ≡ None
  pub none_to_take : has_takeable p l ≡ false

-- whether an lwp is in its program, with no signal to act on or to take first
pub record RunsProgram (p : UntracedProcess) (l : UntracedLwp) : Type 0 where
  pub in_its_program : l.phase ≡ in_program
  pub unsignalled : IsUnsignalled p l

-- whether a signal is caught, if there is one
abbrev pub is_caught_by : Action → Bool
is_caught_by act.Ignore = false
is_caught_by act.Stop = false
is_caught_by act.Die = false
is_caught_by (act.Catch handler) = true

abbrev pub is_caught : List ℕ → Option Current → Bool
is_caught dispositions None = false
is_caught dispositions (Some c) = is_caught_by (action_for dispositions c.signal)

-- ---- instructions

-- an instruction ran
pub record Executes (u : UntracedSystem) (pid id : ℕ) (new : UntracedSystem) : Type 0 where
  pub process : UntracedProcess
  pub lwp : UntracedLwp
  pub runs_program : RunsProgram process lwp
  pub regs : List ℕ
  pub store : Option Store
  pub effect : instruction_effect process.space [] lwp.regs ≡ runs regs store
  pub makes : MakesStep u pid id process lwp (ran process.space regs store) new

-- an instruction incurred a fault, whose signal becomes pending for the lwp
pub record Incurs (u : UntracedSystem) (pid id : ℕ) (f : Flt) (new : UntracedSystem) : Type 0 where
  pub process : UntracedProcess
  pub lwp : UntracedLwp
  pub runs_program : RunsProgram process lwp
  pub address : ℕ
  pub effect : instruction_effect process.space [] lwp.regs ≡ faults f address
  pub makes : MakesStep u pid id process lwp (incurred f address) new

-- Call entry, a silent move: an lwp comes to a system call.
pub record ComesToCall (u : UntracedSystem) (new : UntracedSystem) : Type 0 where
  pub pid : ℕ
  pub id : ℕ
  pub process : UntracedProcess
  pub lwp : UntracedLwp
  pub runs_program : RunsProgram process lwp
  pub call : Sysno
  pub regs : List ℕ
  pub effect : instruction_effect process.space [] lwp.regs ≡ calls call regs
  pub makes : MakesStep u pid id process lwp (entered call regs) new

-- ---- system calls

-- what a call gives
abbrev pub result_of_effect : Effect → Res
result_of_effect (does result changes) = result
result_of_effect sleeps = Ended
result_of_effect (ends how) = Ended

-- the call is performed, and does not sleep
pub record Performs (u : UntracedSystem) (pid id : ℕ) (process : UntracedProcess) (lwp : UntracedLwp) (call : Sysno)
    (args : List ℕ) (since : ℕ) (result : Res) (new : UntracedSystem) : Type 0 where
  pub effect : Effect
  pub does_it : call_effect u pid process id lwp since call args ≡ effect
  pub over : is_over effect ≡ true
  pub gives : result ≡ result_of_effect effect
  pub makes : MakesStep u pid id process lwp (performed call args since effect) new

-- a call was made
pub record MakesCall (u : UntracedSystem) (pid id : ℕ) (call : Sysno) (result : Res)
    (new : UntracedSystem) : Type 0 where
  pub process : UntracedProcess
  pub lwp : UntracedLwp
  pub at : lwp.phase ≡ at_call call
  pub not_caught : is_caught process.dispositions lwp.current ≡ false
  pub performs : Performs u pid id process lwp call (arguments lwp.regs) u.clock result new

-- a call puts its lwp to sleep
pub record FallsAsleep (u : UntracedSystem) (pid id : ℕ) (call : Sysno) (new : UntracedSystem) : Type 0 where
  pub process : UntracedProcess
  pub lwp : UntracedLwp
  pub at : lwp.phase ≡ at_call call
  pub does_it : call_effect u pid process id lwp u.clock call (arguments lwp.regs) ≡ sleeps
  pub makes : MakesStep u pid id process lwp (performed call (arguments lwp.regs) u.clock sleeps) new

-- a call in which an lwp slept is ready, and performed anew
pub record Wakes (u : UntracedSystem) (pid id : ℕ) (call : Sysno) (result : Res) (new : UntracedSystem) : Type 0 where
  pub process : UntracedProcess
  pub lwp : UntracedLwp
  pub args : List ℕ
  pub since : ℕ
  pub at : lwp.phase ≡ sleeping call args since
  pub unsignalled : IsUnsignalled process lwp
  pub performs : Performs u pid id process lwp call args since result new

-- an lwp is at a system call, or asleep in it, with these arguments
pub data IsIn (l : UntracedLwp) (call : Sysno) : List ℕ → Bool → Type 0 where
  at_it : l.phase ≡ at_call call → IsIn l call (arguments l.regs) false
  asleep_in_it : {args : List ℕ} {since : ℕ} → l.phase ≡ sleeping call args since → IsIn l call args true

-- a call ends with EINTR, since the current signal is caught, and the signal stays
pub record IsInterrupted (u : UntracedSystem) (pid id : ℕ) (call : Sysno) (asleep : Bool)
    (new : UntracedSystem) : Type 0 where
  pub process : UntracedProcess
  pub lwp : UntracedLwp
  pub args : List ℕ
  pub in_call : IsIn lwp call args asleep
  pub caught : is_caught process.dispositions lwp.current ≡ true
  pub makes : MakesStep u pid id process lwp (interrupted call args) new

-- ---- signals

-- An lwp takes a signal in its program, and where it sleeps, if it has none to act on.
abbrev pub takes_in : Place → Bool
takes_in in_program = true
takes_in (at_call call) = false
takes_in (sleeping call args since) = true

pub record MayTake (l : UntracedLwp) : Type 0 where
  pub place : takes_in l.phase ≡ true
  pub no_current : l.current ≡ None

-- a signal becomes the current one, from those that pend for the lwp alone, or else from those of its process
pub record TakesOwn (u : UntracedSystem) (pid id : ℕ) (s : Sig) (new : UntracedSystem) : Type 0 where
  pub process : UntracedProcess
  pub lwp : UntracedLwp
  pub may_take : MayTake lwp
  pub its_own : own_takeable lwp ≡ Some s
  pub makes : MakesStep u pid id process lwp (own_taken lwp s) new

pub record TakesShared (u : UntracedSystem) (pid id : ℕ) (s : Sig) (new : UntracedSystem) : Type 0 where
  pub process : UntracedProcess
  pub lwp : UntracedLwp
  pub may_take : MayTake lwp
  pub none_own : own_takeable lwp ≡ None
  pub shared : shared_takeable process lwp ≡ Some s
  pub makes : MakesStep u pid id process lwp (shared_taken process s) new

-- what is done with the current signal: a handler runs only in a program
pub data Acting (p : UntracedProcess) (l : UntracedLwp) (c : Current) : Transition → Type 0 where
  ignores : action_for p.dispositions c.signal ≡ act.Ignore → Acting p l c dropped
  stops : action_for p.dispositions c.signal ≡ act.Stop → Acting p l c (job_stopped c.signal)
  kills : action_for p.dispositions c.signal ≡ act.Die → Acting p l c (died c.signal)
  handles : {handler : ℕ} → action_for p.dispositions c.signal ≡ act.Catch handler → l.phase ≡ in_program
      → Acting p l c (handled l c handler)

pub record ActsOn (u : UntracedSystem) (pid id : ℕ) (s : Sig) (new : UntracedSystem) : Type 0 where
  pub process : UntracedProcess
  pub lwp : UntracedLwp
  pub current : Current
  pub its_current : lwp.current ≡ Some current
  pub of_signal : current.signal ≡ s
  pub transition : Transition
  pub acting : Acting process lwp current transition
  pub makes : MakesStep u pid id process lwp transition new

-- ---- from outside

-- a process of a program is made
pub record Spawns (u : UntracedSystem) (name : List ℕ) (new : UntracedSystem) : Type 0 where
  pub program : Program
  pub named : program_named u.programs name ≡ Some program
  pub not_refused : spawn_refusal u program ≡ None
  pub state : new ≡ with_spawned untraced program false u

-- a signal of a number is sent to a process, or nothing is
pub data IsGranted : Sending → Type 0 where
  nothing : IsGranted sends_nothing
  it : {s : Sig} → IsGranted (sends s)

pub record Sends (u : UntracedSystem) (pid number : ℕ) (new : UntracedSystem) : Type 0 where
  pub granted : IsGranted (sending pid number (life_of u pid))
  pub state : new ≡ with_sent untraced pid (killed_by 0) (sending pid number (life_of u pid)) u

-- ---- steps and runs

-- From a state the machine may make this step and go on to another, a row a kind of step.
pub data UntracedStep : UntracedSystem → Step → UntracedSystem → Type 0 where
  executes : {u new : UntracedSystem} {pid id : ℕ} → Executes u pid id new → UntracedStep u (Exec pid id) new
  incurs : {u new : UntracedSystem} {pid id : ℕ} {f : Flt} → Incurs u pid id f new → UntracedStep u (Fault pid id f) new
  makes_call : {u new : UntracedSystem} {pid id : ℕ} {call : Sysno} {result : Res} → MakesCall u pid id call result new
      → UntracedStep u (Call pid id call result) new
  interrupts_call : {u new : UntracedSystem} {pid id : ℕ} {call : Sysno} → IsInterrupted u pid id call false new
      → UntracedStep u (Call pid id call (Error Intr)) new
  falls_asleep : {u new : UntracedSystem} {pid id : ℕ} {call : Sysno} → FallsAsleep u pid id call new
      → UntracedStep u (Sleep pid id call) new
  wakes : {u new : UntracedSystem} {pid id : ℕ} {call : Sysno} {result : Res} → Wakes u pid id call result new
      → UntracedStep u (Finish pid id call result) new
  interrupts_sleep : {u new : UntracedSystem} {pid id : ℕ} {call : Sysno} → IsInterrupted u pid id call true new
      → UntracedStep u (Finish pid id call (Error Intr)) new
  takes_own : {u new : UntracedSystem} {pid id : ℕ} {s : Sig} → TakesOwn u pid id s new
      → UntracedStep u (Take pid id s) new
  takes_shared : {u new : UntracedSystem} {pid id : ℕ} {s : Sig} → TakesShared u pid id s new
      → UntracedStep u (Take pid id s) new
  acts_on : {u new : UntracedSystem} {pid id : ℕ} {s : Sig} → ActsOn u pid id s new → UntracedStep u (Act pid id s) new
  spawns : {u new : UntracedSystem} {name : List ℕ} → Spawns u name new → UntracedStep u (Spawn name) new
  sends_signal : {u new : UntracedSystem} {pid number : ℕ} → Sends u pid number new
      → UntracedStep u (Kill pid number) new
  ticks : {u : UntracedSystem} → UntracedStep u Tick (record u { clock = u.clock + 1 })

-- From a state, these steps lead to another, with any number of call entries before each of them and after the last.
pub data UntracedRun : UntracedSystem → List Step → UntracedSystem → Type 0 where
  ends_here : {u : UntracedSystem} → UntracedRun u [] u
  by_call_entry : {u mid new : UntracedSystem} {steps : List Step} → ComesToCall u mid → UntracedRun mid steps new
      → UntracedRun u steps new
  step_by : {u mid new : UntracedSystem} {step : Step} {steps : List Step} → UntracedStep u step mid
      → UntracedRun mid steps new → UntracedRun u (step ∷ steps) new

-- what of a step stands in a trace: the call that was made or that is over, the fault incurred, the signal taken
abbrev pub traced_step : Step → List Step
traced_step (Call pid id call result) = Call pid id call result ∷ []
traced_step (Finish pid id call result) = Call pid id call result ∷ []
traced_step (Fault pid id f) = Fault pid id f ∷ []
traced_step (Take pid id s) = Take pid id s ∷ []
traced_step _ = []
