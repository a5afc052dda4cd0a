use Rattle.std.specs.Prelude.{◌≡◌, ◌≢◌, ◌≤◌, ◌+◌, ◌*◌, ◌-◌, ℕ, All, List, ◌++◌, length}
use Rattle.pr_line.specs.declared.options.Options.{Options}
use Rattle.pr_model.specs.declared.calls.Call.TheVariants.{Poll}
use Rattle.pr_truss.specs.Trusses.{TrussState, first_truss}
use Rattle.pr_truss_laws.specs.Exchanges.{Exchange, truss_after}

-- How soon truss(1) polls, so that it waits for all its processes, or has finished.

pub record IsNoPoll (x : Exchange) : Type 0 where
  pub other : (handles : List ℕ) → x.call ≢ Poll handles

-- How many calls come at most before it polls: 38 to look at one process and to open its child, or to open a process;
-- 12 for each process that it traces, if it leaves them; and 40 for each process that it is still to open.
abbrev pub calls_without_poll : TrussState → ℕ
calls_without_poll s = 38 + 12 * length s.traced + 40 * (length s.options.pids - s.begun)

-- Wherever truss has come to, at most so many calls come before it polls, or has finished.
pub record PollsSoon (o : Options) (xs : List Exchange) : Type 0 where
  pub each : (before between after : List Exchange) → xs ≡ before ++ (between ++ after) → All IsNoPoll between
      → length between ≤ calls_without_poll (truss_after (first_truss o) before)
