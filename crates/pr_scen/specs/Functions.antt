-- The functions of programs that a truss line names.
use Rattle.std.specs.Prelude.{◌+◌, ◌*◌, ℕ, Bool, true, false, Option, None, Some, List, [], ◌∷◌, ◌++◌, find, option_and_then, option_map, slice_get, if◌then◌else◌}
use Rattle.std.specs.List.{list_any}
use Rattle.std.specs.Str.{bytes_eq}
use Rattle.pr_line.specs.declared.function_names.FunctionNames.{FunctionNames}
use Rattle.pr_line.specs.declared.functions.Function.{Function}
use Rattle.pr_num.specs.Instructions.{instruction_bytes}
use Rattle.pr_num.specs.Layout.{text_base}
use Rattle.pr_num.specs.Limits.{instruction_size}
use Rattle.pr_num.specs.Programs.{Program, Label}
use Rattle.pr_num.specs.declared.instructions.Instruction.{Instruction}
use Rattle.pr_num.specs.declared.instructions.Instruction.TheVariants.{Bpt, Sys}
use Rattle.pr_scen.specs.Names.{place_of}

abbrev pub is_labelled : List ℕ → Label → Bool
is_labelled name l = bytes_eq l.name name

abbrev pub is_called : List ℕ → Function → Bool
is_called name f = bytes_eq f.name name

-- before which instruction the label of a name stands, counted from 0
abbrev pub labelled_place : List Label → List ℕ → Option ℕ
labelled_place labels name = option_map (λ l. l.place) (find (is_labelled name) labels)

-- Whether an instruction can be the first of a function: a breakpoint of the program would not be told from truss's
-- own, and a system call is no step.
unfoldable pub can_begin_function : Instruction → Bool
can_begin_function Bpt = false
can_begin_function (Sys call) = false
can_begin_function _ = true

-- the function that begins with an instruction, if there is one and it can be the first of a function
unfoldable pub function_with : List ℕ → ℕ → Option Instruction → Option Function
function_with name at None = None
function_with name at (Some i) =
    if can_begin_function i then Some (record { name = name; at = at; code = instruction_bytes i }) else None

-- the function of a name that begins at a place of a program
unfoldable pub function_at : Program → List ℕ → ℕ → Option Function
function_at p name place = function_with name (text_base + instruction_size * place) (slice_get p.code place)

-- the function that a label of a program names
unfoldable pub function_named : Program → List ℕ → Option Function
function_named p name = option_and_then (function_at p name) (labelled_place p.labels name)

-- Functions with those of more labels. None: a label names none, or stands twice.
unfoldable pub with_functions : Program → List Function → List (List ℕ) → Option (List Function)
with_functions p functions [] = Some functions
with_functions p functions (name ∷ names) =
    if list_any (is_called name) functions then None
    else option_and_then (λ f. with_functions p (functions ++ f ∷ []) names) (function_named p name)

-- the functions that labels name, where there is such a program
abbrev pub functions_in : Option Program → List (List ℕ) → Option (List Function)
functions_in None names = None
functions_in (Some p) names = with_functions p [] names

-- the program of a name, among programs of these names
abbrev pub program_named : List (List ℕ) → List Program → List ℕ → Option Program
program_named names programs name = option_and_then (slice_get programs) (place_of names name)

-- the functions that are named, in programs of these names
unfoldable pub functions_of : List (List ℕ) → List Program → Option FunctionNames → Option (List Function)
functions_of names programs None = Some []
functions_of names programs (Some asked) = functions_in (program_named names programs asked.program) asked.labels
