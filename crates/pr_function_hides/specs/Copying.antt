-- Lwps at a call that copies or replaces the memory of their process: a fork(2), a vfork(2) or an exec(2).
use Rattle.std.specs.Prelude.{◌≡◌, ◌≢◌, ◌⊎◌, ℕ, Bool, true, false, List, Option, Some, None}
use Rattle.pr_function_laws.specs.Opened.{TracesAll}
use Rattle.pr_line.specs.declared.options.Options.{Options}
use Rattle.pr_model.specs.Points.{is_traced}
use Rattle.pr_model.specs.State.{TracedControl, TracedLwp, TracedProcess, TracedState, live_process, lwp_of}
use Rattle.pr_model.specs.declared.events.Did.{Did}
use Rattle.pr_model.specs.declared.events.Did.TheVariants.{Made, Woke}
use Rattle.pr_model.specs.declared.events.Res.TheVariants.{Value}
use Rattle.pr_model.specs.declared.lwps.Phase.{Phase}
use Rattle.pr_model.specs.declared.lwps.Phase.TheVariants.{Entered, Asleep}
use Rattle.pr_model.specs.declared.stops.Point.TheVariants.{Entry}
use Rattle.pr_model.specs.declared.stops.Stop.{Stop}
use Rattle.pr_model.specs.declared.stops.Stop.TheVariants.{SysEntry, SysExit}
use Rattle.pr_num.specs.declared.syscalls.Sysno.{Sysno}
use Rattle.pr_truss.specs.FunctionEvents.{copies_memory}
use Rattle.pr_truss.specs.Marks.{has_function, put_back, standing, with_step}
use Rattle.pr_truss.specs.declared.function_events.FunctionEvent.{FunctionEvent}
use Rattle.pr_truss.specs.declared.function_events.FunctionEvent.TheVariants.{AfterCopy, AtBreakpoint, BeforeCopy, Completed, Other, Replaced, TraceTrap}
use Rattle.pr_truss.specs.declared.marks.Marks.{Marks}
use Rattle.pr_truss.specs.declared.marks.Stepped.{Stepped}

-- ---- an lwp

-- A turn makes a call that copies or replaces the memory, a fork(2), a vfork(2) or an exec(2), and it is granted.
abbrev pub makes_copy : Did → Bool
makes_copy (Made call (Value value)) = copies_memory call
makes_copy (Woke call (Value value)) = copies_memory call
makes_copy did = false

-- it is at such a call, which it has not made yet
abbrev pub is_at_copy : Phase → Bool
is_at_copy (Entered call) = copies_memory call
is_at_copy phase = false

-- it is at one, or asleep in one
abbrev pub is_in_copy : Phase → Bool
is_in_copy (Entered call) = copies_memory call
is_in_copy (Asleep call args since) = copies_memory call
is_in_copy phase = false

-- it stands at the entry of the one that it is at
pub record IsAtEntry (l : TracedLwp) : Type 0 where
  pub call : Sysno
  pub copies : copies_memory call ≡ true
  pub phase : l.phase ≡ Entered call
  pub stop : l.control.stop ≡ Some (SysEntry call)

-- it stands at the exit of one
abbrev pub leaves_copy : Option Stop → Bool
leaves_copy (Some (SysExit call)) = copies_memory call
leaves_copy stop = false

-- No such call of it goes on: where it is at one it stands at its entry, so that it does not make it until it is run;
-- and it stands at the exit of none.
pub record HasNoCopyGoing (l : TracedLwp) : Type 0 where
  pub waits : is_in_copy l.phase ≡ true → IsAtEntry l
  pub left_none : leaves_copy l.control.stop ≡ false

-- ---- a process

-- an lwp of this id is another one than that one, if there is one
abbrev pub IsNot : Option ℕ → ℕ → Type 0
IsNot None id = Unit {0}
IsNot (Some one) id = id ≢ one

-- so it is of each lwp of a process, or of each but one
pub record HaveNoCopyGoing (but : Option ℕ) (p : TracedProcess) : Type 0 where
  pub each : (id : ℕ) (l : TracedLwp) → IsNot but id → lwp_of p id ≡ Some l → HasNoCopyGoing l

-- so it is of the process of this id, if it lives
pub record NoCopyGoesIn (pid : ℕ) (but : Option ℕ) (s : TracedState) : Type 0 where
  pub live : (p : TracedProcess) → live_process s.system pid ≡ Some p → HaveNoCopyGoing but p

-- no lwp of a process is at such a call
pub record AreOutOfCopies (p : TracedProcess) : Type 0 where
  pub each : (id : ℕ) (l : TracedLwp) → lwp_of p id ≡ Some l → is_at_copy l.phase ≡ false

-- truss traces it, if it lives
pub record IsTracedIn (o : Options) (pid : ℕ) (s : TracedState) : Type 0 where
  pub live : (p : TracedProcess) → live_process s.system pid ≡ Some p → TracesAll o p.control

-- its lwps stop at the entry of each such call
pub record StopsAtCopies (c : TracedControl) : Type 0 where
  pub traced : (call : Sysno) → copies_memory call ≡ true → is_traced c (Entry call) ≡ true

-- ---- what truss has planted meanwhile

-- no function is in a set
abbrev pub IsEmpty : List Bool → Type 0
IsEmpty set = (function : ℕ) → has_function set function ≡ false

-- no breakpoint is planted, and no step over one is under way
pub record IsLifted (m : Marks) : Type 0 where
  pub none_planted : IsEmpty m.planted
  pub no_step : m.stepped ≡ None

-- How the forks, vforks and execs of a process stand with what truss has planted in it: none goes on; or all is lifted,
-- and that of one lwp at most does; or all is lifted, and nothing will be planted again.
pub data CopiesStand (m : Marks) (p : TracedProcess) : Type 0 where
  none_goes : HaveNoCopyGoing None p → CopiesStand m p
  one_goes : (id : ℕ) → IsLifted m → HaveNoCopyGoing (Some id) p → CopiesStand m p
  bare : IsLifted m → IsEmpty m.lifted → CopiesStand m p

-- so it is of the process of this id, if it lives
pub record StandIn (m : Marks) (pid : ℕ) (s : TracedState) : Type 0 where
  pub live : (p : TracedProcess) → live_process s.system pid ≡ Some p → CopiesStand m p

-- ---- what it does at an event

-- nothing is planted later that was not
abbrev pub PlantsNone : Marks → Marks → Type 0
PlantsNone m n =
    (function : ℕ) → has_function n.planted function ≡ true → has_function m.planted function ≡ true

-- each function that is planted later was planted, or is in this set
abbrev pub ArePlantedOf : List Bool → Marks → Marks → Type 0
ArePlantedOf set m n =
    (function : ℕ) → has_function n.planted function ≡ true
    → (has_function m.planted function ≡ true) ⊎ (has_function set function ≡ true)

-- an event that says that such a call was made, or was refused
abbrev pub ends_copy : FunctionEvent → Bool
ends_copy AfterCopy = true
ends_copy Replaced = true
ends_copy e = false

-- The marks of a process once truss has done what it does at an event of an lwp, and is about to run it: before a call
-- that copies or replaces the memory all is lifted; after it no more is planted again than was lifted; where the memory
-- was replaced nothing is planted or waits for it; and at any other event, but those that belong to a breakpoint, no
-- more than the one of the step that was under way.
abbrev pub IsTreated : Marks → FunctionEvent → Marks → Type 0
IsTreated m (AtBreakpoint function) n = Unit {0}
IsTreated m (Completed step) n = Unit {0}
IsTreated m TraceTrap n = PlantsNone m n × ((n.lifted ≡ m.lifted) × (n.stepped ≡ m.stepped))
IsTreated m BeforeCopy n = IsLifted n × (n.lifted ≡ standing m)
IsTreated m AfterCopy n = ArePlantedOf (with_step m.stepped m.lifted) m n × (IsEmpty n.lifted × (n.stepped ≡ None))
IsTreated m Replaced n = IsLifted n × IsEmpty n.lifted
IsTreated m Other n = ArePlantedOf (put_back m) m n × ((n.lifted ≡ m.lifted) × (n.stepped ≡ None))

-- ---- what a read tells

-- What an event, for which truss had these marks, says of the lwp that met it: where no copy of it goes on, it is at
-- one only if the event comes before a copy, and the event tells of none that was made or refused; where such an end is
-- told, it is at none; and where all is lifted the event belongs to no breakpoint.
pub record Tells (m : Marks) (e : FunctionEvent) (l : TracedLwp) : Type 0 where
  pub other : HasNoCopyGoing l → e ≢ BeforeCopy → is_in_copy l.phase ≡ false
  pub never : HasNoCopyGoing l → ends_copy e ≡ false
  pub ended : ends_copy e ≡ true → is_in_copy l.phase ≡ false
  pub no_breakpoint : IsLifted m → (function : ℕ) → e ≢ AtBreakpoint function
  pub no_completion : IsLifted m → (step : Stepped) → e ≢ Completed step
