-- The function that is being stepped in a process, which a truss with calls of functions has in its marks, told by its
-- calls and their replies.
use Rattle.std.specs.Prelude.{◌≡◌, ◌++◌, ℕ, All, List, ◌∷◌, Some, position}
use Rattle.pr_line.specs.declared.options.Options.{Options}
use Rattle.pr_model.specs.State.{TracedState}
use Rattle.pr_model.specs.declared.events.Act.TheVariants.{Turn}
use Rattle.pr_model.specs.declared.events.Actor.TheVariants.{Lwp}
use Rattle.pr_model.specs.declared.events.Entry.{Entry}
use Rattle.pr_model.specs.declared.events.Turned.{Turned}
use Rattle.pr_num.specs.Control.{clear_fault, single_step}
use Rattle.pr_num.specs.Sets.{union_word}
use Rattle.pr_num.specs.declared.messages.Message.TheVariants as message
use Rattle.pr_truss.specs.Asides.{marks_at}
use Rattle.pr_truss.specs.FunctionCalls.{lift_call}
use Rattle.pr_truss.specs.Messages.{message_call}
use Rattle.pr_truss.specs.declared.marks.Stepped.{Stepped}
use Rattle.pr_truss_laws.specs.Exchanges.{Exchange, exchanges}
use Rattle.pr_function_laws.specs.FunctionTurns.{is_process}
use Rattle.pr_function_laws.specs.Opened.{WasNotInterrupted, functions_at}
use Rattle.pr_function_laws.specs.PlantedByCalls.{IsFirstNamed, IsSinceOpened, LeavesCodeAlone}

-- The breakpoint of a function was lifted so that an lwp is stepped over the instruction: the code was written back,
-- and with the next call the process was run with PRCFAULT and PRSTEP; and nothing was written there since.
pub record IsLiftedForStep (o : Options) (control function : ℕ) (xs : List Exchange) : Type 0 where
  pub before : List Exchange
  pub x : Exchange
  pub run : Exchange
  pub after : List Exchange
  pub is : xs ≡ before ++ x ∷ (run ∷ after)
  pub lifts : x.call ≡ lift_call o control function
  pub runs : run.call ≡ message_call control (message.Run (union_word clear_fault single_step))
  pub stays : All (LeavesCodeAlone o control function) after

-- Truss has this function as the one that is being stepped in the process at a place.
pub record HasAsStepped (k : ℕ) (o : Options) (front : List Entry) (place function : ℕ) : Type 0 where
  pub step : Stepped
  pub under_way : (marks_at (functions_at k o front) place).stepped ≡ Some step
  pub over : step.function ≡ function

-- Wherever an lwp of a process that truss traces has a turn, before truss was interrupted, and with the exchanges since
-- it opened the control file of the process: the function that truss has as the one that is being stepped there was
-- lifted for the step, and nothing was written there since; and a function that was lifted so, and not written since,
-- truss has as that one. Between turns this is not so: there truss may have read of a breakpoint, and not have lifted
-- it yet, or of the end of the step, and not have planted it again. The process stands still meanwhile.
pub record StepsWhatItLifted (k : ℕ) (o : Options) (first : TracedState) (h : List Entry) : Type 0 where
  pub lifted : (front later : List Entry) (pid id place control : ℕ) (t : Turned) (step : Stepped)
      (xs : List Exchange) → h ≡ front ++ record { actor = Lwp pid id; act = Turn t } ∷ later
      → All WasNotInterrupted (exchanges k front)
      → position (is_process pid) (functions_at k o front).traced ≡ Some place
      → IsSinceOpened k pid front control xs
      → (marks_at (functions_at k o front) place).stepped ≡ Some step → IsLiftedForStep o control step.function xs
  pub stepped : (front later : List Entry) (pid id place control function : ℕ) (t : Turned) (xs : List Exchange)
      → h ≡ front ++ record { actor = Lwp pid id; act = Turn t } ∷ later
      → All WasNotInterrupted (exchanges k front)
      → position (is_process pid) (functions_at k o front).traced ≡ Some place
      → IsSinceOpened k pid front control xs
      → IsFirstNamed o function → IsLiftedForStep o control function xs → HasAsStepped k o front place function
