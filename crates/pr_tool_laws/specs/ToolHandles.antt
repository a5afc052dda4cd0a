use Rattle.std.specs.Prelude.{◌≡◌, ℕ, Bool, true, false, List, [], ◌∷◌, Some}
use Rattle.pr_model.specs.Handles.{handle_of}
use Rattle.pr_model.specs.Legal.{after}
use Rattle.pr_model.specs.State.{TracedState}
use Rattle.pr_model.specs.declared.events.Actor.TheVariants.{Controller}
use Rattle.pr_model.specs.declared.events.Entry.{Entry}
use Rattle.pr_model.specs.declared.handles.Held.{Held}
use Rattle.pr_model.specs.declared.tools.ToolKind.{ToolKind}
use Rattle.pr_model.specs.declared.tools.ToolKind.TheVariants.{Pflags, Psig, Pstack, Pmap, Pfiles, Pstop, Prun, Pwait, Ptree}

-- What a tool has open, and what tools that only read leave as it is.

-- this is so of each handle that a controller has
pub record AllHeld (k : ℕ) (IsSo : Held → Type 0) (s : TracedState) : Type 0 where
  pub each : (number : ℕ) (h : Held) → handle_of s.opens k number ≡ Some h → IsSo h

-- each is one of this process
abbrev pub HoldsOnly : ℕ → ℕ → TracedState → Type 0
HoldsOnly k pid s = AllHeld k (λ h. h.pid ≡ pid) s

-- the tools that send no message
unfoldable pub only_reads : ToolKind → Bool
only_reads Pflags = true
only_reads Psig = true
only_reads Pstack = false
only_reads Pmap = true
only_reads Pfiles = true
only_reads Pstop = false
only_reads Prun = false
only_reads Pwait = true
only_reads Ptree = true

-- each entry of a controller leaves the system as it was: all that programs see, and all that is set on processes
abbrev pub LeavesTheSystem : ℕ → TracedState → List Entry → Type 0
LeavesTheSystem k s [] = Unit {0}
LeavesTheSystem k s (e ∷ es) =
    (e.actor ≡ Controller k → (after s e).system ≡ s.system) × LeavesTheSystem k (after s e) es
