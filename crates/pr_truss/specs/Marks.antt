-- What truss(1) keeps of its breakpoints in a process (-u). A function is named by its place in the options' list.
use Rattle.std.specs.Prelude.{ℕ, Bool, true, false, Option, Some, None, List, length, not, replicate, position, slice_get, slice_set, unwrap_or, ◌==◌}
use Rattle.pr_line.specs.Functions.{function_limit}
use Rattle.pr_line.specs.declared.functions.Function.{Function}
use Rattle.pr_line.specs.declared.options.Options.{Options}
use Rattle.pr_num.specs.Instructions.{instruction_bytes}
use Rattle.pr_num.specs.declared.instructions.Instruction.TheVariants.{Bpt}
use Rattle.pr_truss.specs.declared.marks.Marks.{Marks}
use Rattle.pr_truss.specs.declared.marks.Stepped.{Stepped}

-- ---- sets of functions: for each place whether the function there is in the set

abbrev pub no_functions : List Bool
no_functions = replicate function_limit false

abbrev pub with_function : List Bool → ℕ → List Bool
with_function set place = slice_set set place true

abbrev pub without_function : List Bool → ℕ → List Bool
without_function set place = slice_set set place false

abbrev pub has_function : List Bool → ℕ → Bool
has_function set place = unwrap_or (slice_get set place) false

abbrev pub is_in : Bool → Bool
is_in b = b

-- the first function of a set
abbrev pub first_function : List Bool → Option ℕ
first_function set = position is_in set

-- ---- the functions of the options

-- whether truss shows calls of functions
abbrev pub has_functions : Options → Bool
has_functions o = not (length o.functions == 0)

-- the instruction that stands at a function's address while its breakpoint is planted
abbrev pub breakpoint : List ℕ
breakpoint = instruction_bytes Bpt

-- the address of a function, and the bytes of its first instruction
abbrev pub address_in : Option Function → ℕ
address_in (Some f) = f.at
address_in None = 0

abbrev pub code_in : Option Function → List ℕ
code_in (Some f) = f.code
code_in None = breakpoint

unfoldable pub address_of : Options → ℕ → ℕ
address_of o place = address_in (slice_get o.functions place)

unfoldable pub code_of : Options → ℕ → List ℕ
code_of o place = code_in (slice_get o.functions place)

-- ---- marks

-- No breakpoint is planted, none waits to be planted again, no function is stepped, and the process will be run with no
-- run flag.
abbrev pub no_marks : Marks
no_marks = record { planted = no_functions; lifted = no_functions; stepped = None; flags = 0 }

-- a set with the function whose first instruction is being stepped, if there is one
abbrev pub with_step : Option Stepped → List Bool → List Bool
with_step None set = set
with_step (Some step) set = with_function set step.function

-- The functions whose breakpoints are planted. That of a function whose first instruction is being stepped counts as
-- planted: it is lifted for this lwp's step alone.
unfoldable pub standing : Marks → List Bool
standing m = with_step m.stepped m.planted

-- the functions to be planted again once the step that is under way is over
unfoldable pub put_back : Marks → List Bool
put_back m = with_step m.stepped no_functions
