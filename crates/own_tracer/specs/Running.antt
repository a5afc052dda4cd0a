use Rattle.std.specs.Prelude.{◌≡◌, ◌⊎◌, ◌+◌, ◌<◌, ◌≤◌, ◌++◌, ℕ, Bool, true, false, Option, None, List, [], length}
use Rattle.pr_api.specs.Views.{KernelView, kernel_of}
use Rattle.pr_kern.specs.Starts.{stored}
use Rattle.pr_model.specs.FirstState.{first_state}
use Rattle.pr_model.specs.Legal.{IsLegal, state_after}
use Rattle.pr_model.specs.State.{TracedState}
use Rattle.pr_model.specs.declared.events.Entry.{Entry}
use Rattle.pr_scen.specs.Scenarios.{Scenario}
use Rattle.own_tracer.specs.Attaching.{GetsHold, IsRefused}
use Rattle.own_tracer.specs.Faults.{every_nth}
use Rattle.own_tracer.specs.Going.{AllLeaveMemory, Goes}
use Rattle.own_tracer.specs.Rounds.{Moment, RoundsFor, RunsAlone, RunsBeside}
use Rattle.own_tracer.specs.Stances.{Holds, HoldsNothing, LeftIf}
use Rattle.own_tracer.specs.declared.attaching.Grip.{Grip}
use Rattle.own_tracer.specs.declared.faults.Faults.{Faults}

-- The whole run.

-- Before a step: so many rounds were made, the process is held, and there is room to leave it.
pub record InHand (g : Grip) (rounds : ℕ) (faults left : Faults) (old new : Moment) : Type 0 where
  pub goes : Goes (Holds g) old.kernel new.kernel
  pub room : length new.kernel.history + 3 ≤ new.kernel.places
  pub made : RoundsFor rounds g faults left old new

-- Why the injector did not get hold of a process: there were too few places to come and to leave, and nothing was done;
-- or it did nothing but to open the process, which was refused. Nobody else moved meanwhile.
pub record GotNoHold (pid : ℕ) (old new : Moment) : Type 0 where
  pub why : ((old.kernel.places < length old.kernel.history + 5) × (new.kernel ≡ old.kernel))
      ⊎ IsRefused pid old.kernel.history new.kernel.history
  pub last : new.last ≡ old.last

-- The injector got hold of a process, and injected faults into it beside the programs until there was no more to do;
-- then it left.
pub record InjectsBeside (pid : ℕ) (faults : Faults) (old new : Moment) : Type 0 where
  pub grip : Grip
  pub held : KernelView
  pub gets : GetsHold pid grip old.kernel.history held.history
  pub goes : Goes (Holds grip) old.kernel held
  pub runs : RunsBeside grip faults (record { kernel = held; last = old.last }) new

-- The injector got hold of a process and has left it, or got no hold; and then the programs went on alone. No lwp has
-- moved before.
pub record IsInjected (pid : ℕ) (faults : Faults) (old new : KernelView) : Type 0 where
  pub middle : Moment
  pub attached : Bool
  pub out : attached ≡ false → GotNoHold pid (record { kernel = old; last = None }) middle
  pub beside : attached ≡ true → InjectsBeside pid faults (record { kernel = old; last = None }) middle
  pub before : Goes (LeftIf attached pid) old middle.kernel
  pub after : Goes HoldsNothing middle.kernel new
  pub last : Option (ℕ × ℕ)
  pub alone : RunsAlone middle (record { kernel = new; last = last })

-- A history from this state, with so many places: it is legal, changes no memory but by turns, and at its end the
-- injector has nothing open. It has two parts: after the first one the injector has left the process,
-- unless it got no hold of it. It is that of a run in which these faults were injected.
pub record IsInjectedRun (pid places : ℕ) (faults : Faults) (first : TracedState) (h : List Entry) : Type 0 where
  pub beside : List Entry
  pub alone : List Entry
  pub parts : h ≡ beside ++ alone
  pub legal : IsLegal 1 first h
  pub memory : AllLeaveMemory h
  pub attached : Bool
  pub left : LeftIf attached pid (state_after first beside)
  pub nothing : HoldsNothing (state_after first h)
  pub end : KernelView
  pub history : h ≡ end.history
  pub run : IsInjected pid faults (kernel_of first [] places) end
  pub attached_is : attached ≡ run.attached
  pub beside_is : beside ≡ run.middle.kernel.history

-- the state before the first step of a scenario's programs
abbrev pub first_of : Scenario → TracedState
first_of s = first_state s.programs (stored s.files) s.spawns

-- every second write fails, until two have failed
abbrev pub injected_faults : Faults
injected_faults = every_nth 2 2

abbrev pub IsHistoryOf : Scenario → List Entry → Type 0
IsHistoryOf s h = IsInjectedRun 1 s.turns injected_faults (first_of s) h
