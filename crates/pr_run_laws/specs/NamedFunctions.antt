-- The functions that the words of a scenario name, which are as the laws on truss with calls of functions ask.
use Rattle.std.specs.Prelude.{◌≡◌, ◌≢◌, ◌≤◌, ℕ, false, All, [], Some, length, slice_get}
use Rattle.pr_function_hides.specs.FunctionHiders.{IsPatchable}
use Rattle.pr_function_laws.specs.Steppable.{IsSteppable}
use Rattle.pr_line.specs.Functions.{function_limit}
use Rattle.pr_line.specs.declared.functions.Function.{Function}
use Rattle.pr_line.specs.declared.options.Options.{Options}
use Rattle.pr_scen.specs.declared.plans.Plan.{Plan}
use Rattle.pr_scen.specs.declared.plans.Plan.TheVariants as plan

-- A function stands where an instruction can, below the end of the address space, and begins with the 16 bytes of one
-- that is neither a system call nor a breakpoint: truss can step it, and tell it from a breakpoint of its own.
pub record IsShowable (f : Function) : Type 0 where
  pub steppable : IsSteppable f
  pub patchable : IsPatchable f

-- What words of truss name: at most 16 functions; and where they name some, no children are followed. Two labels may
-- stand before one instruction, and words may name both: functions at one address begin with the same code.
pub record AreShowable (o : Options) : Type 0 where
  pub few : length o.functions ≤ function_limit
  pub each : All IsShowable o.functions
  pub alike : (i j : ℕ) (f g : Function) → slice_get o.functions i ≡ Some f → slice_get o.functions j ≡ Some g
      → f.at ≡ g.at → f.code ≡ g.code
  pub follows_none : o.functions ≢ [] → o.follow ≡ false

-- so it is of the options of each truss
unfoldable pub NamesShowable : Plan → Type 0
NamesShowable (plan.Truss options) = AreShowable options
NamesShowable _ = Unit {0}
