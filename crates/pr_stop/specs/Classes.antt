use Rattle.std.specs.Prelude.{ℕ, Option, Some, None}
use Rattle.std.specs.Option.{option_or}
use Rattle.pr_model.specs.State.{TracedLwp, TracedProcess, with_lwp}
use Rattle.pr_model.specs.Stops.{directed, first_in_class, with_all_directed}

-- Of the first class that has any, the lwp of least id: the representative where there is no agent.
unfoldable pub in_classes : TracedProcess → Option (ℕ × TracedLwp)
in_classes p =
    option_or
    (option_or
    (option_or
    (option_or (first_in_class p.job_stop 1 p.lwps)
    (first_in_class p.job_stop 2 p.lwps))
    (first_in_class p.job_stop 3 p.lwps))
    (first_in_class p.job_stop 4 p.lwps))
    (first_in_class p.job_stop 5 p.lwps)

-- the id of an lwp that was found
abbrev pub id_found : Option (ℕ × TracedLwp) → Option ℕ
id_found None = None
id_found (Some e) = Some e.0

-- the lwp itself
abbrev pub lwp_found : Option (ℕ × TracedLwp) → Option TracedLwp
lwp_found None = None
lwp_found (Some e) = Some e.1

-- a process of which one lwp, or all, are directed to stop
abbrev pub with_directed : Option ℕ → TracedProcess → TracedProcess
with_directed None p = with_all_directed p
with_directed (Some id) p = with_lwp id directed p
