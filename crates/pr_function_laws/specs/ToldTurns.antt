-- Each call of a function that truss tells in its loop is told by the second read of a stop at a breakpoint.
use Rattle.std.specs.Prelude.{◌≡◌, ◌≢◌, ◌<◌, ◌≤◌, ◌++◌, ℕ, true, false, All, List, [], ◌∷◌, Some, length}
use Rattle.pr_line.specs.Functions.{function_limit}
use Rattle.pr_line.specs.declared.options.Options.{Options}
use Rattle.pr_model.specs.Legal.{state_after}
use Rattle.pr_model.specs.State.{TracedProcess, TracedState, live_process}
use Rattle.pr_model.specs.declared.events.Act.TheVariants.{Turn}
use Rattle.pr_model.specs.declared.events.Actor.TheVariants.{Lwp}
use Rattle.pr_model.specs.declared.events.Did.TheVariants.{Stopped}
use Rattle.pr_model.specs.declared.events.Entry.{Entry}
use Rattle.pr_model.specs.declared.events.Turned.{Turned}
use Rattle.pr_truss.specs.Asides.{marks_at}
use Rattle.pr_truss.specs.NextCalls.{read_record}
use Rattle.pr_truss.specs.Trusses.{traced_at}
use Rattle.pr_truss.specs.declared.marks.Stepped.{Stepped}
use Rattle.pr_truss.specs.declared.reports.Report.{Report}
use Rattle.pr_truss.specs.declared.reports.Report.TheVariants.{Called}
use Rattle.pr_truss_laws.specs.Exchanges.{Exchange, exchange_of, exchanges}
use Rattle.pr_function_laws.specs.CalledTurns.{HasItsTurn, ReadsTwice, call_met}
use Rattle.pr_function_laws.specs.Calls.{call_told}
use Rattle.pr_function_laws.specs.Lifted.{IsNoRead}
use Rattle.pr_function_laws.specs.Opened.{WasNotInterrupted, functions_at, is_opened}
use Rattle.pr_function_laws.specs.Steppable.{IsSteppable}
use Rattle.pr_function_laws.specs.Turns.{EndsInTrap}

-- The options name as many functions as words can, and truss can step the first instruction of each.
pub record AreSteppable (o : Options) : Type 0 where
  pub few : length o.functions ≤ function_limit
  pub each : All IsSteppable o.functions

-- The entry behind these is the second read of a stop at a breakpoint; and between the two the lwp had one turn alone,
-- which is this call: it completed the instruction at the address of the function, with the arguments in r1 to r3.
pub record TellsATurn (k : ℕ) (o : Options) (first : TracedState) (h front : List Entry) (again : Entry)
    (later : List Entry) (report : Report) : Type 0 where
  pub before : List Entry
  pub e : Entry
  pub between : List Entry
  pub front_is : front ≡ before ++ e ∷ between
  pub place : ℕ
  pub id : ℕ
  pub reads : ReadsTwice k o first h before e between again later place id
  pub call : report ≡ call_met k o first h before e between again later place id reads
  pub turn : HasItsTurn k o first h before e between again later place id reads

-- Of each call that truss tells in a history, as long as it has not been interrupted, this is so. So it tells no call
-- that is no turn of the machine, whichever reply tells it.
pub record TellsTurnsAlone (k : ℕ) (o : Options) (first : TracedState) (h : List Entry) : Type 0 where
  pub each : (front later : List Entry) (again : Entry) (y : Exchange) (report : Report) → h ≡ front ++ again ∷ later
      → exchange_of k again ≡ Some y → All WasNotInterrupted (exchanges k front)
      → call_told (functions_at k o front) y.reply ≡ report ∷ []
      → TellsATurn k o first h front again later report

-- ---- a step that is under way

-- In the process at a place, which truss has opened whole and does not close, the step over a function is under way: so
-- its marks say. It has not been interrupted.
pub record HasStep (k : ℕ) (o : Options) (front : List Entry) (place : ℕ) (step : Stepped) : Type 0 where
  pub calm : All WasNotInterrupted (exchanges k front)
  pub within : place < length (functions_at k o front).traced
  pub opened : is_opened (functions_at k o front).stage place ≡ true
  pub under_way : (marks_at (functions_at k o front) place).stepped ≡ Some step

-- Behind this entry and these between truss reads the status of that process, which lives then. It has not read it
-- between, and was not interrupted.
pub record IsReadAgain (k : ℕ) (o : Options) (first : TracedState) (front : List Entry) (place : ℕ) (e : Entry)
    (between : List Entry) (again : Entry) (y : Exchange) : Type 0 where
  pub own : exchange_of k again ≡ Some y
  pub reads : y.call ≡ read_record (traced_at (functions_at k o front) place).status
  pub quiet : (status : ℕ) → (traced_at (functions_at k o front) place).status ≡ Some status
      → All (IsNoRead status) (exchanges k between)
  pub process : TracedProcess
  pub live : live_process (state_after (state_after first front) (e ∷ between)).system
      (traced_at (functions_at k o front) place).pid ≡ Some process

-- While a step is under way in a process, each turn of another lwp than that of the step is only the stop to which that
-- lwp was directed; and the lwp of the step has one turn at most until truss reads the process again, whether or not it
-- does. And where a turn ends with a trace trap then, the next read of the process tells of the call of the
-- step. So whatever completes an instruction while a step is under way is that step, which the next read tells.
pub record StepsAreRead (k : ℕ) (o : Options) (first : TracedState) (h : List Entry) : Type 0 where
  pub alone : (front later : List Entry) (place id : ℕ) (step : Stepped) (t : Turned)
      → h ≡ front ++ record { actor = Lwp (traced_at (functions_at k o front) place).pid id; act = Turn t } ∷ later
      → HasStep k o front place step → id ≢ step.lwp → t ≡ record { did = Stopped; stop = false }
  pub once : (front between later : List Entry) (place id : ℕ) (step : Stepped) (t again : Turned)
      → h ≡ front ++ record { actor = Lwp (traced_at (functions_at k o front) place).pid id; act = Turn t }
      ∷ (between ++ record { actor = Lwp (traced_at (functions_at k o front) place).pid id; act = Turn again } ∷ later)
      → HasStep k o front place step → id ≡ step.lwp
      → ((status : ℕ) → (traced_at (functions_at k o front) place).status ≡ Some status
      → All (IsNoRead status) (exchanges k between)) → ⊥
  pub told : (front between later : List Entry) (place id : ℕ) (step : Stepped) (t : Turned) (again : Entry)
      (y : Exchange)
      → h ≡ front ++ record { actor = Lwp (traced_at (functions_at k o front) place).pid id; act = Turn t }
      ∷ (between ++ again ∷ later)
      → HasStep k o front place step → EndsInTrap t
      → IsReadAgain k o first front place
      (record { actor = Lwp (traced_at (functions_at k o front) place).pid id; act = Turn t }) between again y
      → call_told
      (functions_at k o
      (front ++ record { actor = Lwp (traced_at (functions_at k o front) place).pid id; act = Turn t } ∷ between))
      y.reply
      ≡ Called (traced_at (functions_at k o front) place).pid step.lwp step.function step.arguments ∷ []
