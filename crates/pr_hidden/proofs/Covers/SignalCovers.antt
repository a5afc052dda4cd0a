use Rattle.std.proofs.Common.{◌≡◌, ℕ, Bool, true, false, eqb, is_none, Option, Some, None, cond, refl, sym, ◌∙◌, ap}
use Rattle.pr_num.specs.declared.infos.Info.{Info}
use Rattle.pr_num.specs.declared.signals.Sig.{Sig}
use Rattle.pr_parts.specs.SignalRules.{deleted_by}
use Rattle.pr_model.specs.Generation.{ends_job_stop, lwp_without_pending, lwp_with_pending, without_pending, without_job_stop, with_deletions, with_pending, signalled}
use Rattle.pr_model.specs.State.{TracedProcess}
use Rattle.pr_hidden.specs.Covers.{Cover, keeps_lwp, lwp_beneath, uncovered_lwp, uncovered_process}
use Rattle.pr_hidden.proofs.Covers.SeenLemmas.{seen-change, seen-each}

-- Signals that become pending, and that are deleted, without what is hidden.

pending-uncovered : (c : Cover) (target : Option ℕ) (s : Sig) (info : Info) (p : TracedProcess)
    → uncovered_process c (with_pending target s info p) ≡ with_pending target s info (uncovered_process c p)
unfolding uncovered_process with_pending uncovered_lwp lwp_with_pending
pending-uncovered c None s info p = refl
pending-uncovered c (Some id) s info p =
    ap (λ ls. record (uncovered_process c p) { lwps = ls })
    (seen-change (keeps_lwp c) (lwp_beneath c) id
    (lwp_with_pending s info) (lwp_with_pending s info) (λ x. refl) p.lwps)

without_pending-uncovered : (c : Cover) (set : ℕ) (p : TracedProcess)
    → uncovered_process c (without_pending set p) ≡ without_pending set (uncovered_process c p)
unfolding uncovered_process without_pending uncovered_lwp lwp_without_pending
without_pending-uncovered c set p =
    ap (λ ls. record (without_pending set (uncovered_process c p)) { lwps = ls })
    (seen-each (keeps_lwp c) (lwp_beneath c) (lwp_without_pending set) (lwp_without_pending set) (λ id x. refl) p.lwps)

job-uncovered : (c : Cover) (s : Sig) (p : TracedProcess)
    → uncovered_process c (without_job_stop s p) ≡ without_job_stop s (uncovered_process c p)
unfolding uncovered_process without_job_stop
job-uncovered c s p =
    elim (ends_job_stop s) as
    (λ b. uncovered_process c (cond b (record p { job_stop = None }) p)
    ≡ cond b (record (uncovered_process c p) { job_stop = None }) (uncovered_process c p))
    [ true ↦ refl | false ↦ refl ]

deletions-uncovered : (c : Cover) (s : Sig) (p : TracedProcess)
    → uncovered_process c (with_deletions s p) ≡ with_deletions s (uncovered_process c p)
unfolding with_deletions
deletions-uncovered c s p =
    elim (eqb (deleted_by s) 0) as
    (λ b. uncovered_process c (cond b p (without_job_stop s (without_pending (deleted_by s) p)))
    ≡ cond b (uncovered_process c p) (without_job_stop s (without_pending (deleted_by s) (uncovered_process c p)))) [
      | true ↦ refl
      | false ↦ job-uncovered c s (without_pending (deleted_by s) p)
          ∙ ap (without_job_stop s) (without_pending-uncovered c (deleted_by s) p)
    ]

ended-same : (c : Cover) (p : TracedProcess) → (uncovered_process c p).ended ≡ p.ended
unfolding uncovered_process
ended-same c p = refl

pub signalled-uncovered : (c : Cover) (target : Option ℕ) (s : Sig) (info : Info) (p : TracedProcess)
    → uncovered_process c (signalled target s info p) ≡ signalled target s info (uncovered_process c p)
unfolding signalled
signalled-uncovered c target s info p =
    elim (is_none p.ended) as
    (λ b. uncovered_process c (cond b (with_pending target s info (with_deletions s p)) p)
    ≡ cond b (with_pending target s info (with_deletions s (uncovered_process c p))) (uncovered_process c p)) [
      | true ↦ pending-uncovered c target s info (with_deletions s p)
          ∙ ap (with_pending target s info) (deletions-uncovered c s p)
      | false ↦ refl
    ]
    ∙ ap (λ o. cond (is_none o) (with_pending target s info (with_deletions s (uncovered_process c p)))
    (uncovered_process c p)) (sym (ended-same c p))
