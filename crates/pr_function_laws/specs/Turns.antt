-- The turns of the machine that are calls of functions, and the reads between which they come.
use Rattle.std.specs.Prelude.{◌≡◌, ◌≢◌, ◌++◌, ℕ, Bool, true, false, All, List, [], ◌∷◌, Option, Some, option_and_then, slice_index}
use Rattle.pr_line.specs.Events.{event_of}
use Rattle.pr_line.specs.declared.events.Event.{Event}
use Rattle.pr_line.specs.declared.events.Event.TheVariants.{Incurred, Received}
use Rattle.pr_model.specs.InstructionEffects.{Store, instruction_effect, runs}
use Rattle.pr_model.specs.Legal.{after, state_after}
use Rattle.pr_model.specs.Registers.{pc_of}
use Rattle.pr_model.specs.Replies.{bytes_in}
use Rattle.pr_model.specs.State.{TracedLwp, TracedProcess, TracedState, live_process, lwp_of}
use Rattle.pr_model.specs.Statuses.{status_of}
use Rattle.pr_model.specs.declared.calls.Reply.{Reply}
use Rattle.pr_model.specs.declared.events.Act.TheVariants.{Turn}
use Rattle.pr_model.specs.declared.events.Actor.TheVariants.{Lwp}
use Rattle.pr_model.specs.declared.events.Did.TheVariants.{Faulted}
use Rattle.pr_model.specs.declared.events.Entry.{Entry}
use Rattle.pr_model.specs.declared.events.Turned.{Turned}
use Rattle.pr_model.specs.declared.lwps.Phase.TheVariants.{User}
use Rattle.pr_num.specs.declared.faults.Flt.TheVariants.{Trace}
use Rattle.pr_rec.specs.InRange.{IsStatus}
use Rattle.pr_rec.specs.declared.lwps.LwpStatus.{LwpStatus}
use Rattle.pr_truss.specs.Marks.{address_of}
use Rattle.pr_truss.specs.NextCalls.{read_record}
use Rattle.pr_truss.specs.Records.{status_lwp}
use Rattle.pr_truss.specs.Trusses.{TrussState, traced_at}
use Rattle.pr_truss.specs.declared.reports.Report.{Report}
use Rattle.pr_truss.specs.declared.reports.Report.TheVariants.{Called}
use Rattle.pr_truss_laws.specs.Exchanges.{Exchange, exchange_of, exchanges}
use Rattle.pr_function_laws.specs.Calls.{call_told}
use Rattle.pr_function_laws.specs.Lifted.{IsAtStopAtBreakpoint}
use Rattle.pr_function_laws.specs.Met.{arguments_of}
use Rattle.pr_function_laws.specs.Runs.{functions_after}

-- ---- the turn of a call

-- r1 to r3
abbrev pub first_arguments : List ℕ → List ℕ
first_arguments regs = slice_index regs 1 ∷ slice_index regs 2 ∷ slice_index regs 3 ∷ []

-- a turn that ends with a trace trap
abbrev pub EndsInTrap : Turned → Type 0
EndsInTrap turned = turned.did ≡ Faulted Trace

-- An lwp runs the instruction at its pc, and no fault or system call comes of it.
pub record RunsInstruction (p : TracedProcess) (l : TracedLwp) : Type 0 where
  pub regs : List ℕ
  pub store : Option Store
  pub is : instruction_effect p.space p.control.areas l.regs ≡ runs regs store

-- A turn of an lwp in a state completes the instruction at an address, with these in r1 to r3 before it: the lwp is in
-- its program, and not on its way out of a call, its pc is there, the instruction there runs, and the turn ends with
-- the trace trap that follows it.
pub record CompletesAt (s : TracedState) (pid id : ℕ) (turned : Turned) (address : ℕ) (arguments : List ℕ)
    : Type 0 where
  pub process : TracedProcess
  pub live : live_process s.system pid ≡ Some process
  pub lwp : TracedLwp
  pub there : lwp_of process id ≡ Some lwp
  pub in_program : lwp.phase ≡ User
  pub stands : pc_of lwp.regs ≡ address
  pub holds : first_arguments lwp.regs ≡ arguments
  pub ran : RunsInstruction process lwp
  pub trapped : EndsInTrap turned

-- an entry that is no turn of this lwp
pub record IsNoTurnOf (pid id : ℕ) (e : Entry) : Type 0 where
  pub other : e.actor ≢ Lwp pid id

-- In these entries the lwp has one turn alone, this one.
pub record HasOneTurn (pid id : ℕ) (before : List Entry) (turned : Turned) (later h : List Entry) : Type 0 where
  pub is : h ≡ before ++ record { actor = Lwp pid id; act = Turn turned } ∷ later
  pub none_before : All (IsNoTurnOf pid id) before
  pub none_later : All (IsNoTurnOf pid id) later

-- In these entries the lwp has one turn alone.
pub record TurnsOnce (pid id : ℕ) (h : List Entry) : Type 0 where
  pub before : List Entry
  pub turned : Turned
  pub later : List Entry
  pub one : HasOneTurn pid id before turned later h

-- In these entries, from a state on, the lwp has one turn alone, which completes the instruction at an address, with
-- these in r1 to r3 before it.
pub record CompletesOnce (pid id : ℕ) (s : TracedState) (h : List Entry) (address : ℕ) (arguments : List ℕ)
    : Type 0 where
  pub before : List Entry
  pub turned : Turned
  pub later : List Entry
  pub one : HasOneTurn pid id before turned later h
  pub completes : CompletesAt (state_after s before) pid id turned address arguments

-- ---- the reads between which it comes

-- In the first of these entries truss reads that the lwp of this id stands at a breakpoint, and in the last one it
-- reads the status of the process again, not having read it between. The process lives then, and its status has its
-- fields in their ranges.
pub record ReadsAgain (n k : ℕ) (t : TrussState) (place status pid id : ℕ) (s : TracedState) (e : Entry)
    (between : List Entry) (again : Entry) : Type 0 where
  pub stop : IsAtStopAtBreakpoint n k t place status pid id s e (between ++ again ∷ [])
  pub y : Exchange
  pub own : exchange_of k again ≡ Some y
  pub reads : y.call ≡ read_record (Some status)
  pub process : TracedProcess
  pub live : live_process (state_after (after s e) between).system pid ≡ Some process
  pub ranged : IsStatus (status_of (state_after (after s e) between).system pid process)

module _ (n k : ℕ) (t : TrussState) (place status pid id : ℕ) (s : TracedState) (e : Entry) (between : List Entry)
    (again : Entry) (w : ReadsAgain n k t place status pid id s e between again) where
  -- what the second read tells truss of a call
  abbrev pub told_again : List Report
  told_again = call_told (functions_after t (exchanges k (e ∷ between))) w.y.reply

  -- the call of the function at whose breakpoint the lwp stood, with r1 to r3 of then
  abbrev pub call_of_stop : Report
  call_of_stop =
      Called (traced_at t place).pid id w.stop.meets.function (arguments_of w.stop.meets.l)

  -- the address of that function
  abbrev pub address_of_stop : ℕ
  address_of_stop = address_of t.options w.stop.meets.function

-- Where the second read tells of a call, it is the one of the function at whose breakpoint the lwp stood, and between
-- the reads the lwp had one turn alone, which completed the instruction there, with the arguments of the call in r1 to
-- r3 before it.
pub record TellsItsTurn (n k : ℕ) (t : TrussState) (place status pid id : ℕ) (s : TracedState) (e : Entry)
    (between : List Entry) (again : Entry) (w : ReadsAgain n k t place status pid id s e between again) (r : Report)
    : Type 0 where
  pub call : r ≡ call_of_stop n k t place status pid id s e between again w
  pub turn : CompletesOnce pid id (after s e) between (address_of_stop n k t place status pid id s e between again w)
      (arguments_of w.stop.meets.l)

-- an event by which the step over an instruction ends that is no system call: a signal or a fault
abbrev pub ends_step : Event → Bool
ends_step (Received signal disposition info) = true
ends_step (Incurred fault pc) = true
ends_step _ = false

-- A reply tells that the lwp of this id stands at a signal or a fault.
pub record TellsOfLwp (r : Reply) (id : ℕ) : Type 0 where
  pub l : LwpStatus
  pub told : option_and_then status_lwp (bytes_in r) ≡ Some l
  pub its : l.id ≡ id
  pub event : Event
  pub stands : event_of l ≡ Some event
  pub ends : ends_step event ≡ true

-- Among these entries is a turn of this lwp that ends with a trace trap.
pub record HasTrap (pid id : ℕ) (h : List Entry) : Type 0 where
  pub before : List Entry
  pub turned : Turned
  pub later : List Entry
  pub is : h ≡ before ++ record { actor = Lwp pid id; act = Turn turned } ∷ later
  pub trapped : EndsInTrap turned

-- ---- in a history

-- In a history, from a state on, in which truss began like this, stand the two reads of an lwp at a breakpoint, behind
-- these entries and before those.
pub record AreTwoReads (n k : ℕ) (t : TrussState) (place status pid id : ℕ) (s : TracedState) (front : List Entry)
    (e : Entry) (between : List Entry) (again : Entry) (later h : List Entry) : Type 0 where
  pub is : h ≡ front ++ e ∷ (between ++ again ∷ later)
  pub reads : ReadsAgain n k (functions_after t (exchanges k front)) place status pid id (state_after s front) e between
      again
