use Rattle.std.specs.Prelude.{Bool, true, false, not, List, [], Option, Some, slice_get}
use Rattle.pr_hidden.specs.Covers.{Patch}
use Rattle.pr_hidden.specs.Hiders.{Hiders, are_some}
use Rattle.pr_hide.specs.declared.hiders.Hider.{Hider}
use Rattle.pr_hide.specs.declared.hiders.Hider.TheVariants.{Functions, Nothing, Probe}

-- Who hides what it does, of controllers that are listed by their numbers.

-- where the functions of a controller begin, with the code that stands there
abbrev pub functions_in : Option Hider → List Patch
functions_in (Some (Functions functions)) = functions
functions_in _ = []

-- whether a controller asks by an agent
abbrev pub is_probe : Option Hider → Bool
is_probe (Some Probe) = true
is_probe _ = false

-- whether a controller hides nothing
abbrev pub is_nothing : Hider → Bool
is_nothing Nothing = true
is_nothing (Functions functions) = not (are_some functions)
is_nothing Probe = false

-- a controller that is not in the list hides nothing
unfoldable pub hiders_of : List Hider → Hiders
hiders_of who = record { functions = λ k. functions_in (slice_get who k); probes = λ k. is_probe (slice_get who k) }
