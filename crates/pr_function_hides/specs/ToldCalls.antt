-- Which turns are calls of functions, told by the calls of truss and their replies.
use Rattle.std.specs.Prelude.{◌≡◌, ◌⊎◌, ◌++◌, ℕ, true, All, List, [], ◌∷◌, Some, position}
use Rattle.pr_line.specs.declared.options.Options.{Options}
use Rattle.pr_model.specs.Legal.{state_after}
use Rattle.pr_model.specs.Registers.{pc_of}
use Rattle.pr_model.specs.State.{TracedLwp, TracedState}
use Rattle.pr_model.specs.declared.events.Act.TheVariants.{Turn}
use Rattle.pr_model.specs.declared.events.Actor.TheVariants.{Lwp}
use Rattle.pr_model.specs.declared.events.Entry.{Entry}
use Rattle.pr_model.specs.declared.events.Turned.{Turned}
use Rattle.pr_truss.specs.FunctionEvents.{begins_at}
use Rattle.pr_truss.specs.declared.reports.Report.{Report}
use Rattle.pr_truss.specs.declared.reports.Report.TheVariants.{Called}
use Rattle.pr_truss_laws.specs.Exchanges.{Exchange, exchanges}
use Rattle.pr_function_laws.specs.FunctionTurns.{call_of_turn, is_in_program, is_process, lwp_in}
use Rattle.pr_function_laws.specs.Opened.{WasNotInterrupted, functions_at}
use Rattle.pr_function_laws.specs.PlantedByCalls.{IsSinceOpened, WasPlanted, WasToldReplaced}
use Rattle.pr_function_laws.specs.Turns.{EndsInTrap, first_arguments}
use Rattle.pr_function_hides.specs.SteppedByCalls.{IsLiftedForStep}

-- With the exchanges since truss opened the control file of the process, this turn of an lwp is a call of a function:
-- it ends with a trace trap, the lwp was in its program before it, with its pc at the function, the first at that
-- address; and the breakpoint of the function was planted and not lifted since, or lifted for a step, and nothing was
-- written there since.
pub record IsCallByCalls (o : Options) (s : TracedState) (control : ℕ) (xs : List Exchange) (pid id : ℕ) (t : Turned)
    (report : Report) : Type 0 where
  pub traps : EndsInTrap t
  pub l : TracedLwp
  pub there : lwp_in s pid id ≡ Some l
  pub in_program : is_in_program l.phase ≡ true
  pub function : ℕ
  pub at : position (begins_at (pc_of l.regs)) o.functions ≡ Some function
  pub counts : WasPlanted o control function xs ⊎ IsLiftedForStep o control function xs
  pub is : report ≡ Called pid id function (first_arguments l.regs)

-- Wherever an lwp of a process that truss traces has a turn, before truss was interrupted, and with the exchanges since
-- it opened the control file of the process: if the turn is a call of a function, it is that call by calls; and if it
-- is one by calls, it is that call, unless truss was told that the memory is another, or that a child has it too.
pub record TellsItsCallsByCalls (k : ℕ) (o : Options) (first : TracedState) (h : List Entry) : Type 0 where
  pub tells : (front later : List Entry) (pid id place control : ℕ) (t : Turned) (xs : List Exchange) (report : Report)
      → h ≡ front ++ record { actor = Lwp pid id; act = Turn t } ∷ later
      → All WasNotInterrupted (exchanges k front)
      → position (is_process pid) (functions_at k o front).traced ≡ Some place
      → IsSinceOpened k pid front control xs
      → call_of_turn (functions_at k o front) (state_after first front) pid (Lwp pid id) (Turn t) ≡ report ∷ []
      → IsCallByCalls o (state_after first front) control xs pid id t report
  pub told : (front later : List Entry) (pid id place control : ℕ) (t : Turned) (xs : List Exchange) (report : Report)
      → h ≡ front ++ record { actor = Lwp pid id; act = Turn t } ∷ later
      → All WasNotInterrupted (exchanges k front)
      → position (is_process pid) (functions_at k o front).traced ≡ Some place
      → IsSinceOpened k pid front control xs
      → IsCallByCalls o (state_after first front) control xs pid id t report
      → (call_of_turn (functions_at k o front) (state_after first front) pid (Lwp pid id) (Turn t) ≡ report ∷ [])
      ⊎ WasToldReplaced k pid first front
