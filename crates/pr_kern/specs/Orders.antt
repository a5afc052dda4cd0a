use Rattle.std.specs.Prelude.{ℕ, Bool, true, false, Option}
use Rattle.pr_model.specs.LwpTurns.{can_move}
use Rattle.pr_model.specs.Order.{next_lwp}
use Rattle.pr_model.specs.State.{TracedSystem}
use Rattle.pr_proc.specs.Orders.{next_asked}

-- The order in which lwps that can have a turn are looked at: by process, and then by lwp.

-- the next lwp of a live process after another one, or the first of all, that can have a turn
unfoldable pub next_movable : TracedSystem → Option (ℕ × ℕ) → Option (ℕ × ℕ)
next_movable s after = next_asked (λ lwp. can_move s lwp.0 lwp.1) s after

-- The next lwp; only one that can have a turn, where that is asked. Ids rise: so the first is the one of least ids.
abbrev pub next_of : Bool → TracedSystem → Option (ℕ × ℕ) → Option (ℕ × ℕ)
next_of true s after = next_movable s after
next_of false s after = next_lwp s after
