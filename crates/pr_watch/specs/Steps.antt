-- How far the first watched byte of an access is from its first byte.
use Rattle.std.specs.Prelude.{◌+◌, ◌-◌, ◌^◌, ℕ, Bool, List, [], ◌∷◌, Option, Some, None, nat_lt, nat_le, if◌then◌else◌}
use Rattle.pr_num.specs.Control.{has_flags}
use Rattle.pr_num.specs.declared.mappings.Area.{Area}
use Rattle.pr_parts.specs.WatchedAreas.{first_hit, watcher}

-- how many bytes after an address an area is reached, where 0 stands after the last address
unfoldable pub steps_to : ℕ → Area → ℕ
steps_to at a =
    if nat_le at a.at then a.at - at
    else (if nat_lt at (a.at + a.size) then 0 else (2 ^ 64 - at) + a.at)

-- the lesser of two numbers of steps
abbrev pub fewer : Option ℕ → ℕ → Option ℕ
fewer None steps = Some steps
fewer (Some best) steps = if nat_le best steps then Some best else Some steps

-- the fewest steps so far, or to one area more
unfoldable pub nearer : ℕ → ℕ → Option ℕ → Area → Option ℕ
nearer kind at best a = if has_flags a.flags kind then fewer best (steps_to at a) else best

-- the fewest steps so far, or to any of these areas
abbrev pub nearest_from : ℕ → ℕ → Option ℕ → List Area → Option ℕ
nearest_from kind at best [] = best
nearest_from kind at best (a ∷ areas) = nearest_from kind at (nearer kind at best a) areas

-- a byte, if it is watched, and whether its area has TRAPAFTER
abbrev pub hit_at : ℕ → List Area → ℕ → Option (ℕ × Bool)
hit_at kind areas address = first_hit address (watcher kind areas address) None
