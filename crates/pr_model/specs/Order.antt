use Rattle.std.specs.Prelude.{◌≡◌, ◌==◌, ◌&&◌, ◌||◌, ℕ, Bool, true, false, List, [], ◌∷◌, ◌++◌, Option, Some, None, IsSome, find, is_none, nat_lt, if◌then◌else◌}
use Rattle.std.specs.List.{All}
use Rattle.pr_model.specs.State.{TracedSystem, TracedProcess, TracedLwp, live_process, lwp_of}

-- The order in which lwps are looked at for a turn: by process, and then by lwp.

-- the ids of lwps, each after its process's
abbrev pub pairs_of : ℕ → List (ℕ × TracedLwp) → List (ℕ × ℕ)
pairs_of pid [] = []
pairs_of pid (e ∷ es) = (pid, e.0) ∷ pairs_of pid es

-- those of a live process; a zombie has none
unfoldable pub lwps_in : ℕ × TracedProcess → List (ℕ × ℕ)
lwps_in e = if is_none e.1.ended then pairs_of e.0 e.1.lwps else []

abbrev pub lwps_among : List (ℕ × TracedProcess) → List (ℕ × ℕ)
lwps_among [] = []
lwps_among (e ∷ es) = lwps_in e ++ lwps_among es

-- the lwps of all live processes
unfoldable pub live_lwps : TracedSystem → List (ℕ × ℕ)
live_lwps s = lwps_among s.processes

-- whether an lwp comes after another one; each comes after none
unfoldable pub is_after : Option (ℕ × ℕ) → ℕ × ℕ → Bool
is_after None x = true
is_after (Some y) x = nat_lt y.0 x.0 || ((y.0 == x.0) && nat_lt y.1 x.1)

-- a pair of ids that comes after another one is a third, or comes after that
abbrev pub IsNotBefore : Option (ℕ × ℕ) → ℕ × ℕ → ℕ × ℕ → Type 0
IsNotBefore after x y = is_after after y ≡ true → is_after (Some x) y ≡ false → x ≡ y

-- what that is: a live lwp that comes after the other one, and none of those that do has lesser ids
pub record IsNext (s : TracedSystem) (after : Option (ℕ × ℕ)) (x : ℕ × ℕ) : Type 0 where
  pub process : TracedProcess
  pub live : live_process s x.0 ≡ Some process
  pub stands : IsSome (lwp_of process x.1)
  pub after_it : is_after after x ≡ true
  pub least : All (IsNotBefore after x) (live_lwps s)

-- The next lwp of a live process after another one, or the first of all: ids rise, so it is the least of those above.
unfoldable pub next_lwp : TracedSystem → Option (ℕ × ℕ) → Option (ℕ × ℕ)
next_lwp s after = find (is_after after) (live_lwps s)
