use Rattle.std.specs.Prelude.{◌≤◌, ℕ, ◌&&◌, List, [], ◌∷◌, Option, find, codes, decimal, if◌then◌else◌}
use Rattle.std.specs.List.{range_with_len}
use Rattle.std.specs.Option.{option_map_or}
use Rattle.std.specs.Str.{bytes_eq}
use Rattle.pr_model.specs.ToolNames.{is_tool_named}
use Rattle.pr_model.specs.declared.tools.ToolKind.{ToolKind}
use Rattle.pr_model.specs.declared.tools.ToolKind.TheVariants.{Pfiles, Pflags, Pmap, Psig, Pstack}
use Rattle.pr_num.specs.Limits.{child_limit, worker_limit}
use Rattle.pr_output.specs.declared.runs.Showing.{Showing}
use Rattle.pr_output.specs.declared.runs.Showing.TheVariants.{Whole, Quiet}
use Rattle.pr_commands.specs.declared.commands.Work.{Work}
use Rattle.pr_commands.specs.declared.commands.Work.TheVariants.{Checks, Explains, Generates, Runs, Shares, ShowsCore, Strips}

-- What the words after the program's name ask for: the run of a scenario on one thread or on several, of which the
-- history is written, or not; the run of a scenario on one thread, of which is written what the machine without
-- controllers makes of its history; the judging of a history; the writing of a scenario for so many children; the text
-- of a tool over a core. The shapes are run, run -q, run -j N, run -q -j N, run -j N -q, check, plain, gen N and core
-- TOOL; words of no other shape ask for anything, and get the usage line.

-- The number from 1 on, of so many, that a word writes in decimal. No numeral has a leading zero or a sign.
unfoldable pub number_up_to : ℕ → List ℕ → Option ℕ
number_up_to most word = find (λ n. bytes_eq (decimal n) word) (range_with_len 1 most)

-- a run with the processor shared by as many threads as a word says, 1 to 16
unfoldable pub shared_run : Showing → List ℕ → Work
shared_run showing workers = option_map_or (Shares showing) (number_up_to worker_limit workers) Explains

-- a scenario with as many children as a word says, 1 to 64
unfoldable pub generation : List ℕ → Work
generation children = option_map_or Generates (number_up_to child_limit children) Explains

-- the tools that show cores
abbrev pub core_tools : List ToolKind
core_tools = Pflags ∷ Psig ∷ Pstack ∷ Pmap ∷ Pfiles ∷ []

-- the tool of this name among them
unfoldable pub core_tool_of_name : List ℕ → Option ToolKind
core_tool_of_name tool = find (is_tool_named tool) core_tools

-- the tool of this name over a core
unfoldable pub core_shown : List ℕ → Work
core_shown tool = option_map_or ShowsCore (core_tool_of_name tool) Explains

unfoldable pub of_one_word : List ℕ → Work
of_one_word a =
    if bytes_eq a (codes "run") then Runs Whole
    else (if bytes_eq a (codes "check") then Checks
    else (if bytes_eq a (codes "plain") then Strips
    else Explains))

unfoldable pub of_two_words : List ℕ → List ℕ → Work
of_two_words a b =
    if bytes_eq a (codes "run") && bytes_eq b (codes "-q") then Runs Quiet
    else (if bytes_eq a (codes "gen") then generation b
    else (if bytes_eq a (codes "core") then core_shown b
    else Explains))

unfoldable pub of_three_words : List ℕ → List ℕ → List ℕ → Work
of_three_words a b c =
    if bytes_eq a (codes "run") && bytes_eq b (codes "-j") then shared_run Whole c
    else Explains

unfoldable pub of_four_words : List ℕ → List ℕ → List ℕ → List ℕ → Work
of_four_words a b c d =
    if bytes_eq a (codes "run") && bytes_eq b (codes "-q") && bytes_eq c (codes "-j") then shared_run Quiet d
    else (if bytes_eq a (codes "run") && bytes_eq b (codes "-j") && bytes_eq d (codes "-q") then shared_run Quiet c
    else Explains)

unfoldable pub work_of : List (List ℕ) → Work
work_of (a ∷ []) = of_one_word a
work_of (a ∷ b ∷ []) = of_two_words a b
work_of (a ∷ b ∷ c ∷ []) = of_three_words a b c
work_of (a ∷ b ∷ c ∷ d ∷ []) = of_four_words a b c d
work_of _ = Explains

-- how many threads share the processor in a piece of work: where it is shared, 1 to 16
abbrev pub HasWorkers : Work → Type 0
HasWorkers (Shares showing workers) = (1 ≤ workers) × (workers ≤ worker_limit)
HasWorkers _ = Unit {0}
