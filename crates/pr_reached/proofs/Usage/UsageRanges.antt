use Rattle.std.proofs.Common.{subst, sym, ◌==◌, ℕ, is_none, is_some, Option, Some, None, arith}
use Rattle.pr_num.proofs.ByIdLaws.{All-change_under}
use Rattle.pr_num.specs.Control.{has_flags, async_mode, fork_mode}
use Rattle.pr_num.specs.declared.infos.Info.{Info}
use Rattle.pr_num.specs.declared.signals.Sig.{Sig}
use Rattle.pr_parts.specs.SignalRules.{deleted_by}
use Rattle.pr_lawful.proofs.ProcessParts.FileLemmas.{choice}
use Rattle.pr_model.specs.Changes.{with_disposition_of, with_fds, with_job_stop, with_shared_taken, with_space}
use Rattle.pr_model.specs.Generation.{ends_job_stop, signalled, with_deletions, with_pending, without_job_stop, without_pending}
use Rattle.pr_model.specs.Lives.{bare_process, forked, new_process, orphaned, with_new_lwp, with_program, without_lwp, zombie, is_id, lent_to, with_loan_back, with_lender_of}
use Rattle.pr_model.specs.Machines.{child_control, exec_control, nothing_set, nothing_used, traced, zombie_control}
use Rattle.pr_model.specs.Points.{after_meeting, is_traced, with_others_directed, with_stop_at}
use Rattle.pr_model.specs.State.{TracedControl, TracedProcess, TracedSystem, lwp_of, with_lwp, with_process}
use Rattle.pr_model.specs.Stops.{with_all_directed}
use Rattle.pr_model.specs.declared.stops.Point.{Point}
use Rattle.pr_reached.specs.Used.{HaveUsed, IsUsedWithin}
use Rattle.pr_keeps.proofs.KeptProcesses.{AnyMade, processes-keep}
use Rattle.pr_keeps.proofs.KeptSystems as step
use Rattle.pr_keeps.proofs.KeptSystems.{AnyLwp, KeepsSystem, Newborn, ProcessStep}
use Rattle.pr_keeps.proofs.UsageLemmas.{edits-usage}
use Rattle.pr_model.specs.Handles.{released, released_control}

-- What processes have used grows by at most one of each with a turn, and else stays.

pub nothing-used : (most : ℕ) → IsUsedWithin most nothing_used
nothing-used most = record {
  calls = omega arith;
  signals = omega arith;
  faults = omega arith;
  instructions = omega arith;
}

module _ (most : ℕ) where
  abbrev pub UsedWithin : ℕ × TracedProcess → Type 0
  UsedWithin e = IsUsedWithin most e.1.control.usage

  abbrev pub IsUsed : TracedProcess → Type 0
  IsUsed x = IsUsedWithin most x.control.usage

  -- ---- changes of a process that leave what it has used

  abbrev pub Keeps : (TracedProcess → TracedProcess) → Type 0
  Keeps f = (x : TracedProcess) → IsUsed x → IsUsed (f x)

  pub used-one : (s : TracedSystem) (pid : ℕ) (f : TracedProcess → TracedProcess) → Keeps f → HaveUsed most s
      → HaveUsed most (with_process pid f s)
  unfolding with_process
  used-one s pid f keeps h =
      record { processes = All-change_under UsedWithin pid f s.processes (λ x there it. keeps x it) h.processes }

  signalled-keeps : (target : Option ℕ) (g : Sig) (info : Info) → Keeps (signalled target g info)
  unfolding signalled with_pending with_deletions without_job_stop without_pending
  signalled-keeps target g info x h = choice IsUsed (is_none x.ended) _ _ (λ live. pends target (deletes h)) (λ over. h)
    where
      deletes : IsUsed x → IsUsed (with_deletions g x)
      deletes it =
          choice IsUsed (deleted_by g == 0) _ _ (λ none. it)
          (λ some. choice IsUsed (ends_job_stop g) _ _ (λ ends. it) (λ stays. it))

      pends : (o : Option ℕ) → IsUsed (with_deletions g x) → IsUsed (with_pending o g info (with_deletions g x))
      pends None it = it
      pends (Some id) it = it

  -- ---- the steps of a process

  child-used : (c : TracedControl) → IsUsedWithin most (child_control c).usage
  unfolding child_control nothing_set
  child-used c =
      choice (λ (x : TracedControl). IsUsedWithin most x.usage) (has_flags c.modes fork_mode) _ _
      (λ forks. nothing-used most) (λ alone. nothing-used most)

  newborn-used : (x : TracedProcess) → Newborn AnyLwp x → IsUsed x
  unfolding new_process bare_process forked traced nothing_set
  newborn-used x (step.spawned program clock held) = nothing-used most
  newborn-used x (step.forks birth pid p id l args clock own) = child-used p.control

  step-used : (f : TracedProcess → TracedProcess) → ProcessStep AnyLwp f → Keeps f
  unfolding zombie traced zombie_control orphaned released released_control lent_to with_loan_back with_lender_of
      with_fds
      with_space with_shared_taken with_job_stop with_disposition_of with_program exec_control with_lwp with_new_lwp
      without_lwp
  step-used f (step.told target g info other) x h = signalled-keeps target g info x h
  step-used f (step.loses_parent gone) x h = choice IsUsed (x.parent == gone) _ _ (λ own. h) (λ other. h)
  step-used f (step.gets_back gone p) x h = choice IsUsed (is_id gone x.borrower) _ _ (λ lent. h) (λ other. h)
  step-used f (step.gets_lender gone p) x h = choice IsUsed (is_id gone x.lender) _ _ (λ borrowed. h) (λ other. h)
  step-used f (step.gets_lwp id regs held) x h = choice IsUsed (is_some (lwp_of x id)) _ _ (λ stands. h) (λ free. h)
  step-used f _ x h = h

  pub used-keep : KeepsSystem AnyLwp (HaveUsed most)
  used-keep =
      processes-keep AnyLwp AnyMade UsedWithin (HaveUsed most) (λ s h. (tt, h.processes))
      (λ s it. record { processes = it.1 })
      (record {
        step = λ pid x f is h. step-used f is x h;
        edits = λ pid m tail x y made h. subst (IsUsedWithin most) (sym (edits-usage m tail x y made)) h;
        newborn = λ made x known new. newborn-used x new;
        later = λ made known. tt;
      })

  -- the stop at a point
  pub meeting-keeps : (point : Option Point) (id : ℕ) → Keeps (after_meeting point id)
  unfolding after_meeting with_stop_at with_others_directed with_lwp with_all_directed
  meeting-keeps None id x h = h
  meeting-keeps (Some point) id x h =
      choice IsUsed (is_traced x.control point) _ _
      (λ traces. choice IsUsed (has_flags x.control.modes async_mode) _ _ (λ alone. h) (λ all. h)) (λ passes. h)
