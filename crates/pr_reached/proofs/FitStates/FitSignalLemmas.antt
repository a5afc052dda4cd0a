use Rattle.std.proofs.Common.{◌≡◌, ◌==◌, ℕ, false, is_none, Option, Some, None, refl}
use Rattle.std.proofs.lemmas.List.Elements.{All-nil}
use Rattle.pr_num.proofs.ByIdLaws.{All-map_each, All-without_id}
use Rattle.pr_num.specs.declared.infos.Info.{Info}
use Rattle.pr_num.specs.declared.signals.Sig.{Sig}
use Rattle.pr_parts.specs.SignalRules.{deleted_by}
use Rattle.pr_lawful.proofs.ProcessParts.FileLemmas.{choice}
use Rattle.pr_model.specs.Generation.{ends_job_stop, lwp_without_pending, lwp_with_pending, without_pending, without_job_stop, with_deletions, with_pending, signalled}
use Rattle.pr_model.specs.Lives.{bare_process, orphaned, without_lwp, zombie, is_id, with_loan_back, with_lender_of}
use Rattle.pr_model.specs.Machines.{traced}
use Rattle.pr_model.specs.Signals.{is_kill}
use Rattle.pr_model.specs.State.{TracedProcess, with_lwp}
use Rattle.pr_reached.proofs.FitStates.FitLemmas.{KeepsFit, KeepsProcess, LwpFits, added-spares, deleted-spares, keeps-one, nothing-spares, same_place}
use Rattle.pr_reached.specs.Fits.{IsFitProcess}

-- A signal that is sent, and the end of a process or of an lwp, leave processes fit.

-- ---- signals

added-keeps : (g : Sig) (info : Info) → is_kill g ≡ false → KeepsFit (lwp_with_pending g info)
unfolding lwp_with_pending
added-keeps g info other =
    same_place (lwp_with_pending g info) (λ l. refl) (λ l. refl) (λ l it. added-spares g info l.pending other it)

deleted-keeps : (set : ℕ) → KeepsFit (lwp_without_pending set)
unfolding lwp_without_pending
deleted-keeps set =
    same_place (lwp_without_pending set) (λ l. refl) (λ l. refl) (λ l it. deleted-spares set l.pending it)

pending-keeps : (target : Option ℕ) (g : Sig) (info : Info) → is_kill g ≡ false
    → KeepsProcess (with_pending target g info)
unfolding with_pending with_lwp
pending-keeps None g info other x h = record { lwps = h.lwps; pending = added-spares g info x.pending other h.pending }
pending-keeps (Some id) g info other x h = keeps-one id (lwp_with_pending g info) (added-keeps g info other) x h

without_pending-keeps : (set : ℕ) → KeepsProcess (without_pending set)
unfolding without_pending
without_pending-keeps set x h = record {
  lwps = All-map_each LwpFits LwpFits (lwp_without_pending set) (λ e it. deleted-keeps set e.1 it) x.lwps h.lwps;
  pending = deleted-spares set x.pending h.pending;
}

deletions-keep : (g : Sig) → KeepsProcess (with_deletions g)
unfolding with_deletions without_job_stop
deletions-keep g x h =
    let deleted = without_pending-keeps (deleted_by g) x h in
    choice IsFitProcess (deleted_by g == 0) _ _ (λ none. h)
    (λ some. choice IsFitProcess (ends_job_stop g) _ _
    (λ ends. record { lwps = deleted.lwps; pending = deleted.pending }) (λ stays. deleted))

pub signalled-keeps : (target : Option ℕ) (g : Sig) (info : Info) → is_kill g ≡ false
    → KeepsProcess (signalled target g info)
unfolding signalled
signalled-keeps target g info other x h =
    choice IsFitProcess (is_none x.ended) _ _
    (λ live. pending-keeps target g info other (with_deletions g x) (deletions-keep g x h)) (λ over. h)

-- ---- ends

pub zombie-fits : (status : ℕ) (p : TracedProcess) → IsFitProcess (zombie traced status p)
unfolding zombie bare_process
zombie-fits status p = record { lwps = All-nil LwpFits; pending = nothing-spares }

pub orphaned-keeps : (gone : ℕ) → KeepsProcess (orphaned gone)
unfolding orphaned
orphaned-keeps gone x h =
    choice IsFitProcess (x.parent == gone) _ _ (λ is. record { lwps = h.lwps; pending = h.pending }) (λ apart. h)

pub loan_back-keeps : (pid : ℕ) (p : TracedProcess) → KeepsProcess (with_loan_back pid p)
unfolding with_loan_back
loan_back-keeps pid p x h =
    choice IsFitProcess (is_id pid x.borrower) _ _ (λ lent. record { lwps = h.lwps; pending = h.pending }) (λ other. h)

pub lender_of-keeps : (pid : ℕ) (p : TracedProcess) → KeepsProcess (with_lender_of pid p)
unfolding with_lender_of
lender_of-keeps pid p x h =
    choice IsFitProcess (is_id pid x.lender) _ _ (λ borrowed. record { lwps = h.lwps; pending = h.pending })
    (λ other. h)

pub without_lwp-keeps : (id : ℕ) → KeepsProcess (without_lwp id)
unfolding without_lwp
without_lwp-keeps id x h = record { lwps = All-without_id LwpFits id x.lwps h.lwps; pending = h.pending }
