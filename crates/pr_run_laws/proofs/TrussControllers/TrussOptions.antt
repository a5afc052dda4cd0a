-- The options of a truss before its first call.
use Rattle.std.proofs.Common.{◌≡◌, ◌≢◌, ◌==◌, ℕ, true, false, not, Option, Some, None, List, [], ◌∷◌, length, refl, ap, arith}
use Rattle.std.specs.List.{slice_get}
use Rattle.std.proofs.lemmas.Bool.{ne_eqb}
use Rattle.pr_line.specs.declared.functions.Function.{Function}
use Rattle.pr_line.specs.declared.options.Options.{Options}
use Rattle.pr_truss.specs.Marks.{has_functions}
use Rattle.pr_truss.specs.Trusses.{first_of_program, first_truss, idle, opening_or}

-- truss before its first call has the options that it was given
pub first-options : (o : Options) → (first_truss o).options ≡ o
unfolding first_truss
first-options o = of o.program
  where
    begun : (pid : Option ℕ) → (opening_or (idle o) (idle o) pid).options ≡ o
    begun None = refl
    begun (Some pid) = refl

    of : (program : Option (List ℕ)) → (first_of_program o program).options ≡ o
    of None = begun (slice_get o.pids 0)
    of (Some program) = refl

-- whether it shows calls of functions
pub bare-truss : (o : Options) → o.functions ≡ [] → has_functions o ≡ false
bare-truss o none = ap (λ (functions : List Function). not (length functions == 0)) none

pub full-truss : (o : Options) → o.functions ≢ [] → has_functions o ≡ true
full-truss o some = at o.functions some
  where
    at : (functions : List Function) → functions ≢ [] → not (length functions == 0) ≡ true
    at [] some = absurd (some refl)
    at (f ∷ functions) some =
        ap not (ne_eqb (length (f ∷ functions)) 0 (λ (none : length (f ∷ functions) ≡ 0). omega (arith, none)))
