use Rattle.std.specs.Prelude.{ℕ, List, Option}
use Rattle.std.specs.Borrow.{Lends, LendsIf, MutBor, Fml, RattleType}
use Rattle.pr_num.specs.ById.{put_under}
use Rattle.pr_num.specs.contracts.by_id.ById as by_id
use Rattle.pr_file.specs.contracts.fds.Fds as fds
use Rattle.pr_mem.specs.contracts.spaces.Space as space
use Rattle.pr_sig.specs.contracts.pending.Pendings as pendings
use Rattle.pr_watch.specs.contracts.areas.Areas as areas
use Rattle.pr_model.specs.contracts.lwps.LwpControl as lwp_control
use Rattle.pr_model.specs.contracts.lwps.LwpOf as lwp
use Rattle.pr_model.specs.contracts.lwps.Phase as phase
use Rattle.pr_model.specs.contracts.processes.Control as control
use Rattle.pr_model.specs.contracts.processes.ProcessOf as process
use Rattle.pr_model.specs.State.{TracedProcess}
use Rattle.pr_proc.specs.contracts.processes.Processes.{the_row}

-- the type of a process, as the logic holds it
abbrev proc_row : RattleType
proc_row =
    process.the_row space.the_row fds.the_row pendings.the_row
    (by_id.the_row (lwp.the_row pendings.the_row phase.the_row lwp_control.the_row)) (control.the_row areas.the_row)

module _ (s : MutBor (List (ℕ × TracedProcess))) where
  -- the list ends with the process of this id as it was left behind r
  abbrev pub lends_under : ℕ → MutBor TracedProcess → Fml
  lends_under id r = Lends the_row proc_row s r (λ w. put_under id w s.now)

  -- the list stays where there is none
  abbrev pub lends_found : ℕ → Option (MutBor TracedProcess) → Fml
  lends_found id r = LendsIf the_row proc_row s r (λ w. put_under id w s.now) s.now
