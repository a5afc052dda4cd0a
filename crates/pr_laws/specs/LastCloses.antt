use Rattle.std.specs.Prelude.{◌≡◌, ℕ, false, [], None}
use Rattle.std.specs.List.{All}
use Rattle.pr_model.specs.State.{TracedProcess, TracedLwp}

-- What is left of a controller after the last handle for writing was closed (proc(4), "PR_RLC").

-- an lwp that stands on no event of interest, is not directed to stop, and is not to incur FLTTRACE
pub record HasNoMark (e : ℕ × TracedLwp) : Type 0 where
  pub no_stop : e.1.control.stop ≡ None
  pub no_directive : e.1.control.directed ≡ false
  pub no_step : e.1.control.step ≡ false

-- a process of which nothing is traced or watched, and no lwp has a mark
pub record IsReleased (p : TracedProcess) : Type 0 where
  pub no_signals : p.control.traced_signals ≡ 0
  pub no_faults : p.control.traced_faults ≡ 0
  pub no_entries : p.control.traced_entries ≡ 0
  pub no_exits : p.control.traced_exits ≡ 0
  pub no_areas : p.control.areas ≡ []
  pub lwps : All HasNoMark p.lwps
