-- What each event is to the breakpoints of truss with calls of functions.
use Rattle.std.specs.Prelude.{◌≡◌, ◌≢◌, ◌==◌, ℕ, true, false, All, List, [], ◌∷◌, None, Some, Result, Ok, Err, position}
use Rattle.pr_line.specs.declared.events.Event.TheVariants.{Entered, Left, Received, Incurred}
use Rattle.pr_line.specs.Events.{event_of}
use Rattle.pr_line.specs.declared.functions.Function.{Function}
use Rattle.pr_line.specs.declared.options.Options.{Options}
use Rattle.pr_num.specs.declared.errnos.Errno.{Errno}
use Rattle.pr_num.specs.declared.faults.Flt.{Flt}
use Rattle.pr_num.specs.declared.faults.Flt.TheVariants.{Bpt, Trace}
use Rattle.pr_num.specs.declared.infos.Info.{Info}
use Rattle.pr_num.specs.declared.signals.Sig.{Sig}
use Rattle.pr_num.specs.declared.syscalls.Sysno.{Sysno}
use Rattle.pr_num.specs.declared.syscalls.Sysno.TheVariants.{Exec, Fork, Vfork}
use Rattle.pr_rec.specs.declared.lwps.Disposition.{Disposition}
use Rattle.pr_rec.specs.declared.lwps.LwpStatus.{LwpStatus}
use Rattle.pr_truss.specs.FunctionEvents.{begins_at, fresh_event, function_event}
use Rattle.pr_truss.specs.Marks.{has_function, standing}
use Rattle.pr_truss.specs.declared.function_events.FunctionEvent.TheVariants.{Other, AtBreakpoint, Completed, TraceTrap, BeforeCopy, AfterCopy, Replaced}
use Rattle.pr_truss.specs.declared.marks.Marks.{Marks}
use Rattle.pr_truss.specs.declared.marks.Stepped.{Stepped}
use Rattle.pr_truss.specs.declared.processes.Traced.{Traced}

-- the calls that copy the memory of a process, lend it or replace it
abbrev pub copying_calls : List Sysno
copying_calls = Fork ∷ Vfork ∷ Exec ∷ []

-- What an event of an lwp is, with these options and these marks of its process, a row a kind. All breakpoints are
-- lifted before a call that copies, lends or replaces the memory; the process has its memory still after fork, and
-- after vfork or exec that failed, and has another, or a child has it too, after those that were granted. FLTBPT is a
-- breakpoint of truss where the first function at that address is planted, or lifted for the step of an lwp; and
-- FLTTRACE completes a step where it is of the lwp that is stepped. Every other event, the entry and the exit of
-- another call, a signal, another fault, is nothing to them. A function is at an address where it begins there.
pub record AreEventKinds (o : Options) (m : Marks) (id : ℕ) : Type 0 where
  pub entered : All (λ (call : Sysno). (arguments : List ℕ)
      → function_event o m id (Entered call arguments) ≡ BeforeCopy) copying_calls
  pub forked : (arguments : List ℕ) (value : ℕ) → function_event o m id (Left Fork arguments (Ok value)) ≡ AfterCopy
  pub failed : All (λ (call : Sysno). (arguments : List ℕ) (errno : Errno)
      → function_event o m id (Left call arguments (Err errno)) ≡ AfterCopy) copying_calls
  pub replaced : All (λ (call : Sysno). (arguments : List ℕ) (value : ℕ)
      → function_event o m id (Left call arguments (Ok value)) ≡ Replaced) (Vfork ∷ Exec ∷ [])
  pub at_breakpoint : (pc function : ℕ) → position (begins_at pc) o.functions ≡ Some function
      → has_function (standing m) function ≡ true → function_event o m id (Incurred Bpt pc) ≡ AtBreakpoint function
  pub left_alone : (pc function : ℕ) → position (begins_at pc) o.functions ≡ Some function
      → has_function (standing m) function ≡ false → function_event o m id (Incurred Bpt pc) ≡ Other
  pub elsewhere : (pc : ℕ) → position (begins_at pc) o.functions ≡ None
      → function_event o m id (Incurred Bpt pc) ≡ Other
  pub completed : (pc : ℕ) (step : Stepped) → m.stepped ≡ Some step → step.lwp ≡ id
      → function_event o m id (Incurred Trace pc) ≡ Completed step
  pub of_another : (pc : ℕ) (step : Stepped) → m.stepped ≡ Some step → step.lwp ≢ id
      → function_event o m id (Incurred Trace pc) ≡ TraceTrap
  pub stray : (pc : ℕ) → m.stepped ≡ None → function_event o m id (Incurred Trace pc) ≡ TraceTrap
  pub other_entries : (call : Sysno) (arguments : List ℕ) → All (λ (copying : Sysno). copying ≢ call) copying_calls
      → function_event o m id (Entered call arguments) ≡ Other
  pub other_exits : (call : Sysno) (arguments : List ℕ) (result : Result ℕ Errno)
      → All (λ (copying : Sysno). copying ≢ call) copying_calls
      → function_event o m id (Left call arguments result) ≡ Other
  pub received : (signal : Sig) (disposition : Disposition) (info : Info)
      → function_event o m id (Received signal disposition info) ≡ Other
  pub other_faults : (fault : Flt) (pc : ℕ) → fault ≢ Bpt → fault ≢ Trace
      → function_event o m id (Incurred fault pc) ≡ Other
  pub begins : (pc : ℕ) (f : Function) → begins_at pc f ≡ (f.at == pc)

-- Where no stop is left that stood before truss came, and truss has not looked at the stop yet, the event at which an
-- lwp stands is the one that it looks at.
pub record LooksAtEachEvent (t : Traced) : Type 0 where
  pub fresh : (l : LwpStatus) → t.old ≡ 0 → t.seen ≡ false → fresh_event t l ≡ event_of l
