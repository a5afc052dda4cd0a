use Rattle.std.specs.Prelude.{ℕ, Bool, false, Option, Some, None, find}
use Rattle.std.specs.List.{list_any}
use Rattle.pr_api.specs.Sleepers.{is_sleeper}
use Rattle.pr_model.specs.Order.{pairs_of}
use Rattle.pr_model.specs.State.{TracedProcess}
use Rattle.pr_proc.specs.Orders.{asked_after}

-- What is found in one process, and where a walk over processes begins.

-- the first of its lwps after another one about which the answer is yes
abbrev pub first_of : (ℕ × ℕ → Bool) → Option (ℕ × ℕ) → ℕ → Option TracedProcess → Option (ℕ × ℕ)
first_of answer after pid None = None
first_of answer after pid (Some p) = find (asked_after answer after) (pairs_of pid p.lwps)

-- the process of an lwp after which others come
abbrev pub first_pid : Option (ℕ × ℕ) → ℕ
first_pid None = 0
first_pid (Some lwp) = lwp.0

-- whether an lwp of it sleeps in sleep with a later moment
abbrev pub has_sleeper_of : ℕ → Option TracedProcess → Bool
has_sleeper_of clock None = false
has_sleeper_of clock (Some p) = list_any (is_sleeper clock) p.lwps
