use Rattle.std.proofs.Common.{◌≡◌, ◌+◌, length, take}
use Rattle.pr_strip.specs.Pasts.{past_of}
use Rattle.pr_hide.specs.CoverTables.{covers_of}
use Rattle.pr_hide.specs.Hidings.{hiders_of}
use Rattle.pr_hide.specs.Walks.{HasHidden}
use Rattle.pr_hide.proofs.hiding.strip_hidden.Given as goal

-- the walk came to this place, and the kernel played the entries before it
abbrev pub invariant-loop-i : goal.invariant-loop-i
invariant-loop-i l =
    HasHidden (hiders_of l.who) l.fn.kern.state (take l.i l.history.entries) l.steps.items (past_of l.past)
    (covers_of l.table) l.kern.state
    × (length l.kern.history ≡ length l.fn.kern.history + l.i)
    × (l.kern.places ≡ l.fn.kern.places)
