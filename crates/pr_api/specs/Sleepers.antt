use Rattle.std.specs.Prelude.{◌+◌, ℕ, Bool, false, nat_lt, slice_index}
use Rattle.std.specs.List.{list_any}
use Rattle.pr_num.specs.declared.syscalls.Sysno.TheVariants.{Sleep}
use Rattle.pr_model.specs.State.{TracedSystem, TracedProcess, TracedLwp}
use Rattle.pr_model.specs.declared.lwps.Phase.{Phase}
use Rattle.pr_model.specs.declared.lwps.Phase.TheVariants.{Asleep}

-- Whether an lwp waits for the clock.

-- whether a phase is asleep in the call sleep until a moment that is still to come: the call's first argument says for
-- how many milliseconds
abbrev pub sleeps_on : ℕ → Phase → Bool
sleeps_on clock (Asleep Sleep args since) = nat_lt clock (since + slice_index args 0)
sleeps_on clock _ = false

abbrev pub is_sleeper : ℕ → ℕ × TracedLwp → Bool
is_sleeper clock e = sleeps_on clock e.1.phase

abbrev pub has_sleeper : ℕ → ℕ × TracedProcess → Bool
has_sleeper clock e = list_any (is_sleeper clock) e.1.lwps

-- whether some lwp, stopped or not, sleeps in the call sleep with a later moment
abbrev pub some_sleeper : TracedSystem → Bool
some_sleeper s = list_any (has_sleeper s.clock) s.processes
