use Rattle.std.specs.Prelude.{◌≡◌, ◌==◌, ℕ, Bool, false, Some, if◌then◌else◌}
use Rattle.std.specs.List.{list_all}
use Rattle.pr_num.specs.ById.{without_id}
use Rattle.pr_model.specs.Running.{shows_run}
use Rattle.pr_model.specs.State.{TracedProcess, TracedLwp}
use Rattle.pr_model.specs.Stops.{has_event_stop}
use Rattle.pr_model.specs.declared.stops.Stop.TheVariants.{Requested}

-- What PCRUN without flags makes of a process whose representative stands on an event of interest (proc(4), "PCRUN").

-- whether every lwp but one shows a requested stop or a suspension
abbrev pub others_let_run : TracedProcess → ℕ → Bool
others_let_run p id = list_all (shows_run p.job_stop) (without_id id p.lwps)

-- an lwp that neither stands on an event of interest nor is directed to stop
pub record IsFree (e : ℕ × TracedLwp) : Type 0 where
  pub no_stop : has_event_stop e.1 ≡ false
  pub no_directive : e.1.control.directed ≡ false

-- an lwp that stays where it stands and is no longer directed to stop: of the representative the stop is a requested
-- one
abbrev pub with_stop_kept : ℕ → ℕ → TracedLwp → TracedLwp
with_stop_kept representative id l = record l {
  control = record l.control {
    stop = if id == representative then Some Requested else l.control.stop;
    directed = false;
  };
}
