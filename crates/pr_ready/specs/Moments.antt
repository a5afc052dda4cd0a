use Rattle.std.specs.Prelude.{ℕ, List, Option, Some, None, min, nat_lt, if◌then◌else◌}
use Rattle.std.specs.List.{fold}
use Rattle.pr_num.specs.declared.syscalls.Sysno.TheVariants.{Sleep}
use Rattle.pr_model.specs.State.{TracedLwp, TracedProcess}
use Rattle.pr_model.specs.declared.lwps.Phase.{Phase}
use Rattle.pr_model.specs.declared.lwps.Phase.TheVariants.{Asleep}
use Rattle.pr_ready_laws.specs.Left.{moment_of}

-- The next moment at which the clock wakes someone, as a word.

-- the last moment of a word: no clock comes behind it
abbrev pub last_moment : ℕ
last_moment = 18446744073709551615

-- a moment where it is still to come, and else the last one
abbrev pub if_coming : ℕ → ℕ → ℕ
if_coming clock moment = if nat_lt clock moment then moment else last_moment

-- until when a phase is asleep in sleep, if that is still to come
abbrev pub coming_moment : ℕ → Phase → ℕ
coming_moment clock (Asleep Sleep args since) = if_coming clock (min (moment_of args since) last_moment)
coming_moment clock _ = last_moment

-- the least such moment of some lwps
abbrev pub lesser_moment : ℕ → ℕ → ℕ × TracedLwp → ℕ
lesser_moment clock least e = min least (coming_moment clock e.1.phase)

abbrev pub next_moment : ℕ → List (ℕ × TracedLwp) → ℕ
next_moment clock lwps = fold (lesser_moment clock) last_moment lwps

-- and of those of a live process
abbrev pub next_moment_of : ℕ → Option TracedProcess → ℕ
next_moment_of clock None = last_moment
next_moment_of clock (Some p) = next_moment clock p.lwps
