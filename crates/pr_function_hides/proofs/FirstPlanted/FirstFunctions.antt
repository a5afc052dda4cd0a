use Rattle.std.proofs.Common.{◌≡◌, ℕ, Some, position, sym, ap, ◌∙◌}
use Rattle.std.proofs.lemmas.Option.{same_Some}
use Rattle.std.specs.List.{slice_get}
use Rattle.pr_function_laws.specs.Planted.{IsFirstThere}
use Rattle.pr_line.specs.declared.functions.Function.{Function}
use Rattle.pr_line.specs.declared.options.Options.{Options}
use Rattle.pr_truss.specs.FunctionEvents.{begins_at}

-- The first function at an address: there is one at most.

module _ (o : Options) where
  pub one-first : (i j : ℕ) (f g : Function) → IsFirstThere o i f → IsFirstThere o j g → f.at ≡ g.at → i ≡ j
  one-first i j f g first second same =
      same_Some i j (sym first ∙ ap (λ a. position (begins_at a) o.functions) same ∙ second)

-- the function of a number, where there is one, is the first at its address; so it is in whatever process
abbrev pub IsFirstOf : Options → ℕ → ℕ → Type 0
IsFirstOf o pid i = (f : Function) → slice_get o.functions i ≡ Some f → IsFirstThere o i f
