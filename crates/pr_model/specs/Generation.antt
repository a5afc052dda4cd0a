use Rattle.std.specs.Prelude.{◌==◌, ℕ, Bool, true, false, Option, Some, None, is_none, if◌then◌else◌}
use Rattle.pr_num.specs.declared.signals.Sig.{Sig}
use Rattle.pr_num.specs.declared.signals.Sig.TheVariants.{Cont}
use Rattle.pr_parts.specs.SignalRules.{deleted_by}
use Rattle.pr_num.specs.ById.{change_under, map_each}
use Rattle.pr_parts.specs.PendingSignals.{added, without_signals}
use Rattle.pr_model.specs.State.{LwpOf, ProcessOf}
use Rattle.pr_num.specs.declared.infos.Info.{Info}

-- How a signal becomes pending, for a process or for one of its lwps (signal.h(3HEAD)). SIGKILL never does: see
-- Signals.

-- SIGCONT ends a job stop
abbrev pub ends_job_stop : Sig → Bool
ends_job_stop Cont = true
ends_job_stop _ = false

module _ {H K : Type 0} where
  unfoldable pub lwp_without_pending : ℕ → LwpOf H K → LwpOf H K
  lwp_without_pending signals l = record l { pending = without_signals signals l.pending }

  -- a signal pends for an lwp
  unfoldable pub lwp_with_pending : Sig → Info → LwpOf H K → LwpOf H K
  lwp_with_pending s info l = record l { pending = added s info l.pending }

module _ {C H K : Type 0} where
  -- these signals pend no more, neither for the process nor for an lwp of it
  unfoldable pub without_pending : ℕ → ProcessOf C H K → ProcessOf C H K
  without_pending signals p =
      record p { pending = without_signals signals p.pending; lwps = map_each (lwp_without_pending signals) p.lwps }

  unfoldable pub without_job_stop : Sig → ProcessOf C H K → ProcessOf C H K
  without_job_stop s p = if ends_job_stop s then record p { job_stop = None } else p

  -- A stop signal deletes a pending SIGCONT, of the process and of each lwp; SIGCONT deletes pending stop signals
  -- likewise, and ends a job stop. Other signals delete nothing.
  unfoldable pub with_deletions : Sig → ProcessOf C H K → ProcessOf C H K
  with_deletions s p = if deleted_by s == 0 then p else without_job_stop s (without_pending (deleted_by s) p)

  -- a signal pends for a process, or for the lwp of an id in it
  unfoldable pub with_pending : Option ℕ → Sig → Info → ProcessOf C H K → ProcessOf C H K
  with_pending None s info p = record p { pending = added s info p.pending }
  with_pending (Some id) s info p = record p { lwps = change_under id (lwp_with_pending s info) p.lwps }

  -- A signal is sent to a process, or to the lwp of an id in it: first it deletes, and then it pends, also where it is
  -- ignored. A zombie is sent nothing.
  unfoldable pub signalled : Option ℕ → Sig → Info → ProcessOf C H K → ProcessOf C H K
  signalled target s info p = if is_none p.ended then with_pending target s info (with_deletions s p) else p
