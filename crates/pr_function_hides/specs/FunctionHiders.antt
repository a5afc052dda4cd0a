-- Which trusses hide breakpoints, and which of their breakpoints stand.
use Rattle.std.specs.Prelude.{◌≡◌, ◌≤◌, ◌+◌, ◌%◌, ◌^◌, ℕ, Bool, true, false, All, List, Some, length, map, slice_get}
use Rattle.std.specs.Str.{bytes_eq}
use Rattle.pr_function_laws.specs.Planted.{IsFirstThere}
use Rattle.pr_hidden.specs.Covers.{Patch}
use Rattle.pr_hidden.specs.Hiders.{Hiders, hides, patch_at}
use Rattle.pr_hidden.specs.Tidiness.{AreApart}
use Rattle.pr_line.specs.Functions.{function_limit}
use Rattle.pr_line.specs.declared.functions.Function.{Function}
use Rattle.pr_line.specs.declared.options.Options.{Options}
use Rattle.pr_model.specs.State.{TracedState}
use Rattle.pr_num.specs.Limits.{instruction_size}
use Rattle.pr_num.specs.Words.{IsByte}
use Rattle.pr_truss.specs.Marks.{breakpoint, has_function, has_functions}
use Rattle.pr_truss.specs.Trusses.{first_truss}
use Rattle.pr_truss_laws.specs.Handles.{HasNothingOpen}
use Rattle.pr_world.specs.ControllerStates.{ControllerState, FnTruss}

-- ---- functions

-- what programs have where the breakpoint of a function is planted: its first instruction
abbrev pub patch_of : Function → Patch
patch_of f = record { at = f.at; bytes = f.code }

-- A function begins where an instruction stands, and not with that of a breakpoint.
pub record IsPatchable (f : Function) : Type 0 where
  pub aligned : f.at % instruction_size ≡ 0
  pub within : f.at + instruction_size ≤ 2 ^ 64
  pub size : length f.code ≡ instruction_size
  pub bytes : All IsByte f.code
  pub other : bytes_eq breakpoint f.code ≡ false

-- The options name as many functions as words can, and those at one address begin with the same code.
pub record ArePatchable (o : Options) : Type 0 where
  pub few : length o.functions ≤ function_limit
  pub each : All IsPatchable o.functions
  pub alike : (i j : ℕ) (f g : Function) → slice_get o.functions i ≡ Some f → slice_get o.functions j ≡ Some g
      → f.at ≡ g.at → f.code ≡ g.code

-- ---- who hides

-- The controller of a number is a truss at first, which shows calls of functions and follows no children; and what it
-- hides is its breakpoints.
pub record IsTrussAt (who : Hiders) (controllers : List ControllerState) (k : ℕ) : Type 0 where
  pub options : Options
  pub starts : slice_get controllers k ≡ Some (FnTruss (first_truss options))
  pub has : has_functions options ≡ true
  pub follows_none : options.follow ≡ false
  pub patchable : ArePatchable options
  pub hides_these : who.functions k ≡ map patch_of options.functions

-- The controllers that hide what they do are each a truss that shows calls of functions, which has nothing open at
-- first, and none asks by an agent.
pub record AreTrusses (who : Hiders) (controllers : List ControllerState) (first : TracedState) : Type 0 where
  pub no_probes : (k : ℕ) → who.probes k ≡ false
  pub trusses : (k : ℕ) → hides who k ≡ true → IsTrussAt who controllers k
  pub begins : (k : ℕ) → hides who k ≡ true → HasNothingOpen k first

-- ---- which breakpoints stand

-- a patch is where the breakpoint of a function of this set is planted
pub record IsMarked (o : Options) (set : List Bool) (p : Patch) : Type 0 where
  pub function : ℕ
  pub f : Function
  pub named : slice_get o.functions function ≡ Some f
  pub marked : has_function set function ≡ true
  pub is : p ≡ patch_of f

-- The breakpoints that stand are those of the functions of this set, and have no byte in common. Of the functions at
-- one address only the first is in the set.
pub record StandAsMarked (o : Options) (set : List Bool) (ps : List Patch) : Type 0 where
  pub long : length set ≡ function_limit
  pub apart : AreApart ps
  pub all : All (IsMarked o set) ps
  pub each : (function : ℕ) (f : Function) → slice_get o.functions function ≡ Some f
      → has_function set function ≡ true → patch_at f.at ps ≡ Some (patch_of f)
  pub first : (function : ℕ) (f : Function) → slice_get o.functions function ≡ Some f
      → has_function set function ≡ true → IsFirstThere o function f
