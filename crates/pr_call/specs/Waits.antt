use Rattle.std.specs.Prelude.{◌==◌, ℕ, if◌then◌else◌}
use Rattle.pr_model.specs.Lives.{with_reaped}
use Rattle.pr_model.specs.State.{TracedSystem}

-- a child of a process reaped, which is never that process itself
abbrev pub reaped_by : ℕ → ℕ → TracedSystem → TracedSystem
reaped_by pid child s = if child == pid then s else with_reaped child s
