use Rattle.std.specs.Prelude.{◌&&◌, ℕ, Bool, Option, None, Some, find}
use Rattle.pr_model.specs.Order.{is_after, live_lwps}
use Rattle.pr_model.specs.State.{TracedSystem}

-- The order in which a question is asked about lwps: by process, and then by lwp.

-- whether an lwp, named after its process's id, comes after another one and the answer about it is yes
unfoldable pub asked_after : (ℕ × ℕ → Bool) → Option (ℕ × ℕ) → ℕ × ℕ → Bool
asked_after answer after lwp = is_after after lwp && answer lwp

-- the least id of a process that can have an lwp after another one, or of all
abbrev pub first_id : Option (ℕ × ℕ) → ℕ
first_id None = 0
first_id (Some lwp) = lwp.0

-- the next lwp of a live process after another one, or the first of all, about which the answer is yes
unfoldable pub next_asked : (ℕ × ℕ → Bool) → TracedSystem → Option (ℕ × ℕ) → Option (ℕ × ℕ)
next_asked answer s after = find (asked_after answer after) (live_lwps s)
