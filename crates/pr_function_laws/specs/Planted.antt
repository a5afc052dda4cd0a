-- Which functions truss plants in a process that it opens.
use Rattle.std.specs.Prelude.{◌≡◌, ◌+◌, ◌++◌, ℕ, Bool, All, List, [], ◌∷◌, Option, None, Some, length, nat_lt, position, slice_get, if◌then◌else◌}
use Rattle.pr_line.specs.declared.functions.Function.{Function}
use Rattle.pr_line.specs.declared.options.Options.{Options}
use Rattle.pr_model.specs.Replies.{bytes_in, handle_in}
use Rattle.pr_num.specs.declared.messages.Message.TheVariants as message
use Rattle.pr_truss.specs.Asides.{marks_at}
use Rattle.pr_truss.specs.FunctionCalls.{plant_call, read_code_call}
use Rattle.pr_truss.specs.FunctionEvents.{begins_at}
use Rattle.pr_truss.specs.FunctionFeeding.{fed_functions}
use Rattle.pr_truss.specs.Marks.{no_functions, no_marks, with_function}
use Rattle.pr_truss.specs.Messages.{message_call}
use Rattle.pr_truss.specs.Replies.{answer_of}
use Rattle.pr_truss.specs.Trusses.{TrussState, first_truss, traced_at}
use Rattle.pr_truss.specs.declared.asides.Aside.TheVariants.{Nothing}
use Rattle.pr_truss.specs.declared.processes.Traced.{Traced}
use Rattle.pr_truss.specs.declared.replies.Answer.{Answer}
use Rattle.pr_truss.specs.declared.replies.Answer.TheVariants.{Accepted, Interrupted, Gone, Refused}
use Rattle.pr_truss.specs.declared.stages.Stage.TheVariants.{OpeningControl}
use Rattle.pr_truss_laws.specs.Exchanges.{Exchange, IsGranted}
use Rattle.pr_function_laws.specs.Coming.{Anything, Come, Later, close_calls, lift_calls}
use Rattle.pr_function_laws.specs.Runs.{functions_after}

-- ---- one function

-- of the functions at its address this one is the first that the options name
abbrev pub IsFirstThere : Options → ℕ → Function → Type 0
IsFirstThere o function f = position (begins_at f.at) o.functions ≡ Some function

-- the code of a function was read, and no function before it has its address
pub record IsToPlant (o : Options) (function : ℕ) (bytes : Option (List ℕ)) : Type 0 where
  pub f : Function
  pub named : slice_get o.functions function ≡ Some f
  pub code : bytes ≡ Some f.code
  pub first : IsFirstThere o function f

-- ---- one function after another

-- the first instruction of a function is read next, or the function is planted next
pub data Look : Type 0 where
  Reads : (function : ℕ) → Look
  Plants : (function : ℕ) → Look

-- the look at the function at a place, none behind the last one
abbrev pub look_at : Options → ℕ → Option Look
look_at o function = if nat_lt function (length o.functions) then Some (Reads function) else None

-- What truss does where a look was refused: the files of the process are closed, and before that all that it planted
-- there so far is lifted, unless the process has ended. The replies to these calls change nothing of them. An interrupt
-- makes truss leave its processes, and of that nothing is said here.
abbrev pub GivesUp : Options → ℕ → List Bool → Traced → Answer → Later
GivesUp o control set t Accepted = Anything
GivesUp o control set t Interrupted = Anything
GivesUp o control set t Gone = Come (close_calls t) Anything
GivesUp o control set t (Refused errno) = Come (lift_calls o control set ++ close_calls t) Anything

-- What truss does with its functions in the process at a place, of which the control file has this handle, and in which
-- it has planted these so far. It reads the first instruction of each by PCREAD. Where that is the code of the
-- function, and no function before it has its address, it plants the function by PCWRITE next, and else it leaves it
-- alone and goes on with the next function. Behind the last one it has marked those that it planted, and no other; and
-- it runs the process. Where a call is refused it gives the process up.
abbrev pub LooksAtFunctions : Options → ℕ → ℕ → Option Look → List Bool → TrussState → List Exchange → Type 0
LooksAtFunctions o control place None set t xs =
    (marks_at t place ≡ record no_marks { planted = set })
    × Come (message_call control (message.Run 0) ∷ []) Anything xs
LooksAtFunctions o control place (Some look) set t [] = Unit {0}
LooksAtFunctions o control place (Some (Reads function)) set t (x ∷ xs) =
    (x.call ≡ read_code_call o control function)
    × ((IsToPlant o function (bytes_in x.reply)
    → LooksAtFunctions o control place (Some (Plants function)) set (fed_functions t x.reply) xs)
    × ((IsGranted x → (IsToPlant o function (bytes_in x.reply) → ⊥)
    → LooksAtFunctions o control place (look_at o (function + 1)) set (fed_functions t x.reply) xs)
    × GivesUp o control set (traced_at t place) (answer_of x.reply) xs))
LooksAtFunctions o control place (Some (Plants function)) set t (x ∷ xs) =
    (x.call ≡ plant_call o control function)
    × ((IsGranted x
    → LooksAtFunctions o control place (look_at o (function + 1)) (with_function set function) (fed_functions t x.reply)
    xs)
    × GivesUp o control set (traced_at t place) (answer_of x.reply) xs)

-- ---- in all exchanges

-- So it is wherever truss has opened the control file of a process that it was given, and then had twelve calls
-- granted: the opens of the other three files; the two that set its modes; the stop, and the wait for it; the look at
-- the lwps; and the four traced sets.
pub record PlantsWhatItRead (o : Options) (xs : List Exchange) : Type 0 where
  pub each : (before opening after : List Exchange) (x : Exchange) (pid : ℕ) → xs ≡ before ++ x ∷ (opening ++ after)
      → (functions_after (first_truss o) before).stage ≡ OpeningControl pid
      → (functions_after (first_truss o) before).aside ≡ Nothing → IsGranted x → All IsGranted opening
      → length opening ≡ 12
      → LooksAtFunctions o (handle_in x.reply) (length (functions_after (first_truss o) before).traced) (look_at o 0)
      no_functions (functions_after (first_truss o) (before ++ x ∷ opening)) after
