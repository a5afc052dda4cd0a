-- Which breakpoints truss with calls of functions has planted in a process, told by its calls and their replies: those
-- of which it was granted the PCWRITE that plants them, and which it has not lifted since. Of a process of which it was
-- told that an exec replaced its memory, or that a vfork gave it to a child, they tell no more.
use Rattle.std.specs.Prelude.{◌≡◌, ◌≢◌, ◌⊎◌, ◌++◌, ℕ, Bool, true, false, not, All, List, ◌∷◌, Some, position, slice_get, if◌then◌else◌}
use Rattle.pr_line.specs.Events.{event_of}
use Rattle.pr_line.specs.declared.events.Event.{Event}
use Rattle.pr_line.specs.declared.events.Event.TheVariants.{Entered, Left, Received, Incurred}
use Rattle.pr_line.specs.declared.functions.Function.{Function}
use Rattle.pr_line.specs.declared.options.Options.{Options}
use Rattle.pr_model.specs.Legal.{state_after}
use Rattle.pr_model.specs.Replies.{handle_in}
use Rattle.pr_model.specs.State.{TracedState}
use Rattle.pr_model.specs.declared.calls.File.TheVariants as file
use Rattle.pr_model.specs.declared.events.Entry.{Entry}
use Rattle.pr_rec.specs.declared.lwps.LwpStatus.{LwpStatus}
use Rattle.pr_report_laws.specs.Attachments.{ReadsFile, WasInterrupted}
use Rattle.pr_truss.specs.Asides.{marks_at}
use Rattle.pr_truss.specs.FunctionCalls.{lift_call, plant_call}
use Rattle.pr_truss.specs.FunctionEvents.{copies_memory, keeps_memory}
use Rattle.pr_truss.specs.Marks.{breakpoint, has_function}
use Rattle.pr_truss.specs.NextCalls.{open_control}
use Rattle.pr_truss.specs.Records.{event_stops, status_lwp}
use Rattle.pr_truss_laws.specs.Exchanges.{Exchange, IsGranted, exchanges}
use Rattle.pr_truss_laws.specs.Given.{reply_at}
use Rattle.pr_function_laws.specs.FunctionTurns.{is_process}
use Rattle.pr_function_laws.specs.Holds.{HasHoldWithFunctions}
use Rattle.pr_function_laws.specs.Opened.{functions_at}
use Rattle.pr_function_laws.specs.Planted.{IsFirstThere}

-- ---- the functions

-- A function does not begin with the instruction of a breakpoint, so that what truss plants there is not what it lifts.
-- None does that the words of truss name in a scenario.
pub record IsNoBreakpoint (f : Function) : Type 0 where
  pub other : f.code ≢ breakpoint

-- A function of the options by its place in their list; of those at its address it is the first, the only one of them
-- that is ever planted.
pub record IsFirstNamed (o : Options) (function : ℕ) : Type 0 where
  pub f : Function
  pub named : slice_get o.functions function ≡ Some f
  pub first : IsFirstThere o function f

-- ---- the exchanges with a process

-- this call opens no control file of the process, or was refused
pub record OpensNot (pid : ℕ) (x : Exchange) : Type 0 where
  pub opens_not : x.call ≡ open_control pid → IsGranted x → ⊥

-- The exchanges of truss from the last open of the control file of the process that was granted; and the handle that it
-- gave.
pub record IsSinceOpened (k pid : ℕ) (h : List Entry) (control : ℕ) (xs : List Exchange) : Type 0 where
  pub earlier : List Exchange
  pub first : Exchange
  pub since : List Exchange
  pub is : exchanges k h ≡ earlier ++ xs
  pub begins : xs ≡ first ∷ since
  pub opens : first.call ≡ open_control pid
  pub granted : IsGranted first
  pub handle : control ≡ handle_in first.reply
  pub last : All (OpensNot pid) since

-- ---- its breakpoints

-- this call writes no code of the function back, to the file of this handle
pub record LiftsNot (o : Options) (control function : ℕ) (x : Exchange) : Type 0 where
  pub lifts_not : x.call ≢ lift_call o control function

-- this call writes neither a breakpoint nor the code of the function there
pub record LeavesCodeAlone (o : Options) (control function : ℕ) (x : Exchange) : Type 0 where
  pub plants_not : x.call ≢ plant_call o control function
  pub lifts_not : x.call ≢ lift_call o control function

-- The breakpoint of a function was planted by PCWRITE to the file of this handle, which was granted, and the code of
-- the function was not written back since. A lift counts also where it was refused.
pub record WasPlanted (o : Options) (control function : ℕ) (xs : List Exchange) : Type 0 where
  pub before : List Exchange
  pub x : Exchange
  pub after : List Exchange
  pub is : xs ≡ before ++ x ∷ after
  pub plants : x.call ≡ plant_call o control function
  pub granted : IsGranted x
  pub stays : All (LiftsNot o control function) after

-- ---- the memory is another, or a child has it too

-- an lwp is at the exit of a vfork or an exec that was granted
abbrev pub is_replacement : Event → Bool
is_replacement (Entered call arguments) = false
is_replacement (Left call arguments result) = if copies_memory call then not (keeps_memory call result) else false
is_replacement (Received signal disposition info) = false
is_replacement (Incurred fault pc) = false

-- In this entry truss reads the status of the process, or, once it was interrupted, the statuses of its lwps; and it is
-- told of this lwp: the one that the status shows, or the first of the lwps that stands on an event.
pub data ReadsLwp (k pid : ℕ) (s : TracedState) (before : List Entry) (e : Entry) (l : LwpStatus) : Type 0 where
  of_status : (w : ReadsFile k pid file.Status (state_after s before) e) → status_lwp w.bytes ≡ Some l
      → ReadsLwp k pid s before e l
  of_lwps : WasInterrupted k before → (w : ReadsFile k pid file.Lstatus (state_after s before) e)
      → slice_get (event_stops (Some w.bytes)) 0 ≡ Some l → ReadsLwp k pid s before e l

-- In this entry it is told of one that is at such an exit.
pub record IsToldReplaced (k pid : ℕ) (s : TracedState) (before : List Entry) (e : Entry) : Type 0 where
  pub l : LwpStatus
  pub reads : ReadsLwp k pid s before e l
  pub event : Event
  pub stands : event_of l ≡ Some event
  pub replaced : is_replacement event ≡ true

-- Somewhere in a history, from the last open of its control file on, it was told so.
pub record WasToldReplaced (k pid : ℕ) (first : TracedState) (h : List Entry) : Type 0 where
  pub before : List Entry
  pub e : Entry
  pub later : List Entry
  pub is : h ≡ before ++ e ∷ later
  pub told : IsToldReplaced k pid first before e
  pub last : All (OpensNot pid) (exchanges k later)

-- ---- in a hold

-- Where truss has hold of a process: the handle of its control file, and the exchanges from the first one of the
-- opening on.
abbrev pub control_in : {k : ℕ} {o : Options} {pid : ℕ} {s : TracedState} {h : List Entry}
    → HasHoldWithFunctions k o pid s h → ℕ
control_in w = let g = w.begins in let whole = g.whole in handle_in (reply_at whole.settings 0)

abbrev pub exchanges_in : {k : ℕ} {o : Options} {pid : ℕ} {s : TracedState} {h : List Entry}
    → HasHoldWithFunctions k o pid s h → List Exchange
exchanges_in {k} w = let g = w.begins in g.opening ++ exchanges k w.hold

-- ---- what truss has marked as planted

-- Which breakpoints truss has marked as planted in a process, a part of its own state, is told by its calls and their
-- replies. Wherever it has the process among those that it traces, with the exchanges since it opened its control file:
-- each that it has marked was planted there, and not lifted since; and each that was planted there, and not lifted
-- since, it has marked, unless it was told that the memory is another, or that a child has it too. In a hold these are
-- the exchanges from the first one of the opening on.
pub record MarksWhatItPlanted (k : ℕ) (o : Options) (first : TracedState) (h : List Entry) : Type 0 where
  pub opened : (front later : List Entry) (pid place : ℕ) → h ≡ front ++ later
      → position (is_process pid) (functions_at k o front).traced ≡ Some place
      → (control : ℕ) × ((xs : List Exchange) × IsSinceOpened k pid front control xs)
  pub marked : (front later : List Entry) (pid place control function : ℕ) (xs : List Exchange) → h ≡ front ++ later
      → position (is_process pid) (functions_at k o front).traced ≡ Some place → IsSinceOpened k pid front control xs
      → has_function (marks_at (functions_at k o front) place).planted function ≡ true
      → IsFirstNamed o function × WasPlanted o control function xs
  pub planted : (front later : List Entry) (pid place control function : ℕ) (xs : List Exchange) → h ≡ front ++ later
      → position (is_process pid) (functions_at k o front).traced ≡ Some place → IsSinceOpened k pid front control xs
      → IsFirstNamed o function → WasPlanted o control function xs
      → (has_function (marks_at (functions_at k o front) place).planted function ≡ true)
      ⊎ WasToldReplaced k pid first front
  pub held : (front later : List Entry) (pid : ℕ) → h ≡ front ++ later
      → (w : HasHoldWithFunctions k o pid first front)
      → IsSinceOpened k pid front (control_in w) (exchanges_in w)
