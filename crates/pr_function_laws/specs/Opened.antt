-- What truss with calls of functions has of each process that it has opened: its own files of it, alone, and all
-- signals and faults of it traced.
use Rattle.std.specs.Prelude.{◌≡◌, ◌≢◌, ◌<◌, ◌==◌, ◌++◌, ℕ, Bool, true, false, not, All, List, ◌∷◌, Some, length, slice_get}
use Rattle.pr_line.specs.Functions.{function_limit}
use Rattle.pr_line.specs.declared.functions.Function.{Function}
use Rattle.pr_line.specs.declared.options.Options.{Options}
use Rattle.pr_model.specs.Lawful.{IsLawful}
use Rattle.pr_model.specs.Legal.{IsLegal, after, state_after}
use Rattle.pr_model.specs.State.{TracedControl, TracedProcess, TracedState, has_agent, live_process}
use Rattle.pr_model.specs.declared.calls.Reply.TheVariants.{Fail}
use Rattle.pr_model.specs.declared.events.Entry.{Entry}
use Rattle.pr_num.specs.declared.errnos.Errno.TheVariants.{Intr}
use Rattle.pr_truss.specs.FunctionCalls.{with_copying}
use Rattle.pr_truss.specs.Marks.{has_functions}
use Rattle.pr_truss.specs.Messages.{traced_entries, traced_exits}
use Rattle.pr_truss.specs.Trusses.{TrussState, first_truss, traced_at}
use Rattle.pr_truss.specs.declared.stages.Stage.{Stage}
use Rattle.pr_truss.specs.declared.stages.Stage.TheVariants.{Opening, Closing}
use Rattle.pr_truss_laws.specs.Exchanges.{Exchange, exchange_of, exchanges}
use Rattle.pr_truss_laws.specs.Handles.{HasNoOtherWriter, HasNothingOpen}
use Rattle.pr_function_laws.specs.Lifted.{HasControl, HoldsFiles, MeetsBreakpoint, ReadsOnlyLast}
use Rattle.pr_function_laws.specs.Runs.{MakesFunctionCalls, functions_after}
use Rattle.pr_function_laws.specs.Steppable.{IsSteppable, StepsItsCode}
use Rattle.pr_function_laws.specs.Steps.{StopsAtAll}
use Rattle.pr_function_laws.specs.Stretches.{OthersOnlyStop}

-- ---- what is traced

-- Of a process all signals but SIGKILL and all faults are traced, and PR_ASYNC is not set. Of the calls those are
-- traced that the options choose; and fork, vfork and exec, which copy or replace its memory, at their entry and at
-- their exit.
pub record TracesAll (o : Options) (c : TracedControl) : Type 0 where
  pub stops : StopsAtAll c
  pub entries : c.traced_entries ≡ with_copying (traced_entries o)
  pub exits : c.traced_exits ≡ with_copying (traced_exits o)

-- ---- truss along a history

-- truss after a history, where it began with these options
abbrev pub functions_at : ℕ → Options → List Entry → TrussState
functions_at k o h = functions_after (first_truss o) (exchanges k h)

-- a call that was not interrupted; with the first one that is, truss begins to leave its processes
pub record WasNotInterrupted (x : Exchange) : Type 0 where
  pub unbroken : x.reply ≢ Fail Intr

-- A legal history from a lawful state in which the controller of this number has nothing open, and in which it makes
-- the calls that a truss with these options makes. They name functions, and then follow no children.
pub record IsFunctionRun (n k : ℕ) (o : Options) (s : TracedState) (h : List Entry) : Type 0 where
  pub has : has_functions o ≡ true
  pub follows_none : o.follow ≡ false
  pub lawful : IsLawful s
  pub nothing_open : HasNothingOpen k s
  pub legal : IsLegal n s h
  pub makes : MakesFunctionCalls (first_truss o) (exchanges k h)

-- ---- the processes that it has opened

-- whether truss, which does this next, has opened the process at a place whole, and does not close its files
abbrev pub is_opened : Stage → ℕ → Bool
is_opened (Opening at next) place = not (at == place)
is_opened (Closing at next) place = not (at == place)
is_opened _ place = true

-- Truss has its own control file and status file of the process at a place, and its other handles are of other
-- processes; nobody else has that process open for writing; and as long as it lives, truss traces all of it, and it has
-- no agent.
pub record OwnsAndTraces (k : ℕ) (o : Options) (t : TrussState) (place : ℕ) (s : TracedState) : Type 0 where
  pub status : ℕ
  pub files : HoldsFiles k (traced_at t place).pid t place status s
  pub alone : HasNoOtherWriter k (traced_at t place).pid s.opens
  pub traces : (p : TracedProcess) → live_process s.system (traced_at t place).pid ≡ Some p → TracesAll o p.control
  pub no_agent : (p : TracedProcess) → live_process s.system (traced_at t place).pid ≡ Some p → has_agent p ≡ false

-- Truss has its own control file of the process at a place, and nobody else has that process open for writing; and as
-- long as it lives, truss traces all of it, and it has no agent.
pub record TracesAlone (k : ℕ) (o : Options) (t : TrussState) (place : ℕ) (s : TracedState) : Type 0 where
  pub control : HasControl k (traced_at t place).pid (traced_at t place).control s
  pub alone : HasNoOtherWriter k (traced_at t place).pid s.opens
  pub traces : (p : TracedProcess) → live_process s.system (traced_at t place).pid ≡ Some p → TracesAll o p.control
  pub no_agent : (p : TracedProcess) → live_process s.system (traced_at t place).pid ≡ Some p → has_agent p ≡ false

-- So it is of each process from the end of its opening on, until truss is interrupted or closes its files. Once truss
-- was interrupted it leaves its processes, one after another: of each that was attached it has its files and traces it
-- until it closes them, and alone has it open for writing and traces it until it closes the last one.
pub record HoldsWhatItOpened (k : ℕ) (o : Options) (first : TracedState) (h : List Entry) : Type 0 where
  pub each : (before later : List Entry) (place : ℕ) → h ≡ before ++ later
      → All WasNotInterrupted (exchanges k before) → place < length (functions_at k o before).traced
      → is_opened (functions_at k o before).stage place ≡ true
      → OwnsAndTraces k o (functions_at k o before) place (state_after first before)
  pub left : (before later : List Entry) (place : ℕ) → h ≡ before ++ later
      → (functions_at k o before).leaving ≡ true → place < length (functions_at k o before).traced
      → (traced_at (functions_at k o before) place).attached ≡ true
      → is_opened (functions_at k o before).stage place ≡ true
      → OwnsAndTraces k o (functions_at k o before) place (state_after first before)
  pub closed_last : (before later : List Entry) (place : ℕ) → h ≡ before ++ later
      → (functions_at k o before).leaving ≡ true → place < length (functions_at k o before).traced
      → (traced_at (functions_at k o before) place).attached ≡ true
      → TracesAlone k o (functions_at k o before) place (state_after first before)

-- ---- its stops at breakpoints

-- In the first of these entries truss reads that the lwp of this id of the process at a place stands at a breakpoint.
-- The function is one of the first 16 and begins with an instruction that is no system call, as each does that truss
-- was given. Truss is not interrupted in these entries, and makes no call any more once it has read the status of the
-- process again.
pub record ReadsBreakpoint (k : ℕ) (t : TrussState) (place id : ℕ) (s : TracedState) (e : Entry)
    (between : List Entry) : Type 0 where
  pub x : Exchange
  pub own : exchange_of k e ≡ Some x
  pub meets : MeetsBreakpoint t x place
  pub its : meets.l.id ≡ id
  pub f : Function
  pub named : slice_get t.options.functions meets.function ≡ Some f
  pub few : meets.function < function_limit
  pub steppable : IsSteppable f
  pub reads_last : (status : ℕ) → (traced_at t place).status ≡ Some status → ReadsOnlyLast status (exchanges k between)

-- From each of them on, as long as truss has not been interrupted, no other lwp of the process begins an instruction;
-- and where truss steps the lwp the first instruction of the function stands at its address again.
pub record LiftsForOneAlone (k : ℕ) (o : Options) (first : TracedState) (h : List Entry) : Type 0 where
  pub each : (before between later : List Entry) (e : Entry) (place id : ℕ) → h ≡ before ++ e ∷ (between ++ later)
      → All WasNotInterrupted (exchanges k before)
      → ReadsBreakpoint k (functions_at k o before) place id (state_after first before) e between
      → OthersOnlyStop (traced_at (functions_at k o before) place).pid id between
  pub code : (before between later : List Entry) (e : Entry) (place id : ℕ) → h ≡ before ++ e ∷ (between ++ later)
      → All WasNotInterrupted (exchanges k before)
      → (w : ReadsBreakpoint k (functions_at k o before) place id (state_after first before) e between)
      → StepsItsCode k (traced_at (functions_at k o before) place).pid id
      (traced_at (functions_at k o before) place).control w.f (after (state_after first before) e) between
