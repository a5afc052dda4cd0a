-- Which calls of a controller come next, as far as its exchanges go.
use Rattle.std.specs.Prelude.{◌≡◌, ◌+◌, ℕ, Bool, true, false, List, [], ◌∷◌, map}
use Rattle.pr_line.specs.declared.options.Options.{Options}
use Rattle.pr_model.specs.declared.calls.Call.{Call}
use Rattle.pr_model.specs.declared.calls.Call.TheVariants as call
use Rattle.pr_model.specs.declared.calls.Reply.{Reply}
use Rattle.pr_model.specs.declared.calls.Reply.TheVariants as reply
use Rattle.pr_num.specs.declared.errnos.Errno.TheVariants.{Noent}
use Rattle.pr_truss.specs.FunctionCalls.{lift_call, plant_call}
use Rattle.pr_truss.specs.declared.processes.Traced.{Traced}
use Rattle.pr_truss_laws.specs.Exchanges.{Exchange}
use Rattle.pr_truss_laws.specs.Handles.{handles_of}

-- what is said of the exchanges that come later
abbrev pub Later : Type 1
Later = List Exchange → Type 0

-- nothing
abbrev pub Anything : Later
Anything xs = Unit {0}

-- These calls come next, in this order, whatever their replies are, and then what is said of the rest.
abbrev pub Come : List Call → Later → Later
Come [] Then xs = Then xs
Come (c ∷ cs) Then [] = Unit {0}
Come (c ∷ cs) Then (x ∷ xs) = (x.call ≡ c) × Come cs Then xs

-- one thing where a reply says that the process has ended, and else another
abbrev pub IfEnded : Reply → Type 0 → Type 0 → Type 0
IfEnded (reply.Fail Noent) ended lives = ended
IfEnded _ ended lives = lives

-- These calls come next, in this order, and then what is said of the rest; but once a reply says that the process has
-- ended, what is said of that comes instead.
abbrev pub ComeWhileItLives : List Call → Later → Later → Later
ComeWhileItLives [] Then Ended xs = Then xs
ComeWhileItLives (c ∷ cs) Then Ended [] = Unit {0}
ComeWhileItLives (c ∷ cs) Then Ended (x ∷ xs) =
    (x.call ≡ c) × IfEnded x.reply (Ended xs) (ComeWhileItLives cs Then Ended xs)

-- ---- of truss

-- the files of a process are closed, the one that was opened last first, and its control file last
abbrev pub close_calls : Traced → List Call
close_calls t = map call.Close (handles_of t)

-- the functions of a set, each once and in their order, where the first of its places is this one
abbrev pub functions_from : ℕ → List Bool → List ℕ
functions_from n [] = []
functions_from n (true ∷ set) = n ∷ functions_from (n + 1) set
functions_from n (false ∷ set) = functions_from (n + 1) set

abbrev pub functions_in : List Bool → List ℕ
functions_in set = functions_from 0 set

-- the breakpoint of each function of a set is planted, and lifted
abbrev pub plant_calls : Options → ℕ → List Bool → List Call
plant_calls o control set = map (plant_call o control) (functions_in set)

abbrev pub lift_calls : Options → ℕ → List Bool → List Call
lift_calls o control set = map (lift_call o control) (functions_in set)
