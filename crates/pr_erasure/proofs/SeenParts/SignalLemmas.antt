use Rattle.std.proofs.Common.{◌≡◌, ◌-◌, ℕ, zero, suc, true, false, is_none, eqb, Option, Some, None, List, [], ◌∷◌, cond, refl, sym, ◌∙◌, ap, inl, inr}
use Rattle.std.proofs.lemmas.Bool.{cases_Bool}
use Rattle.std.specs.List.{slice_set, slice_index_or}
use Rattle.pr_num.specs.Faults.{fault_signal}
use Rattle.pr_num.specs.Signals.{signal_number}
use Rattle.pr_num.specs.declared.faults.Flt.{Flt}
use Rattle.pr_num.specs.declared.faults.Flt.TheVariants.{Ill, Bpt, Trace, Watch, Access, Bounds, Stack, Izdiv}
use Rattle.pr_num.specs.declared.infos.Info.{Info}
use Rattle.pr_num.specs.declared.signals.Sig.{Sig}
use Rattle.pr_num.proofs.ByIdLaws.{map_each-change_under}
use Rattle.pr_parts.specs.SignalRules.{deleted_by}
use Rattle.pr_model.specs.Erasure.{erased_lwp, erased_pending, erased_process}
use Rattle.pr_model.specs.Generation.{ends_job_stop, lwp_without_pending, lwp_with_pending, without_pending, without_job_stop, with_deletions, with_pending, signalled}
use Rattle.pr_parts.specs.PendingSignals.{Pending, is_standard, kept_info, with_standard, with_queued, added, without_signals}
use Rattle.pr_parts.proofs.PendingLemmas.{added-standard, added-queued, early_signal-stays}
use Rattle.pr_num.specs.Infos.{of_fault}
use Rattle.pr_model.specs.State.{TracedLwp, TracedProcess}
use Rattle.pr_model.specs.declared.lwps.Phase.{Phase}
use Rattle.pr_model.specs.declared.lwps.Phase.TheVariants.{User, Entered, Asleep, Exiting, Faulted}
use Rattle.pr_erasure.specs.Suiting.{IsSent}
use Rattle.pr_erasure.proofs.SeenParts.StateLemmas.{map_each-all}

-- Signals that become pending, and that are deleted, as programs see it.

-- The signal of a fault that was incurred counts early. It is there whether another signal comes before or after it,
-- and
-- no other signal deletes it.
kept-early : (xs : List (Option Info)) (i j : ℕ) (info : Info) (address : ℕ) → IsSent info
    → slice_set (slice_set xs j (Some (kept_info (slice_index_or xs j None) (of_fault address)))) i
    (Some (kept_info
    (slice_index_or (slice_set xs j (Some (kept_info (slice_index_or xs j None) (of_fault address)))) i None) info))
    ≡ slice_set (slice_set xs i (Some (kept_info (slice_index_or xs i None) info))) j
    (Some (kept_info (slice_index_or (slice_set xs i (Some (kept_info (slice_index_or xs i None) info))) j None)
    (of_fault address)))
kept-early [] i j info address sent = refl
kept-early (x ∷ xs) zero zero info address sent = ap (λ it. Some it ∷ xs) (early x info address sent)
  where
    early : (x : Option Info) (info : Info) (address : ℕ) → IsSent info
        → kept_info (Some (kept_info x (of_fault address))) info ≡ kept_info (Some (kept_info x info))
        (of_fault address)
    early None info address sent = rw (sent.no_fault) refl
    early (Some standing) info address sent = rw (sent.no_fault) refl
kept-early (x ∷ xs) zero (suc j) info address sent = refl
kept-early (x ∷ xs) (suc i) zero info address sent = refl
kept-early (x ∷ xs) (suc i) (suc j) info address sent = ap (λ ys. x ∷ ys) (kept-early xs i j info address sent)

fault-standard : (f : Flt) → is_standard (fault_signal f) ≡ true
unfolding fault_signal signal_number
fault-standard Ill = refl
fault-standard Bpt = refl
fault-standard Trace = refl
fault-standard Watch = refl
fault-standard Access = refl
fault-standard Bounds = refl
fault-standard Stack = refl
fault-standard Izdiv = refl

added-early : (s : Sig) (info : Info) → IsSent info → (f : Flt) (address : ℕ) (p : Pending)
    → added s info (added (fault_signal f) (of_fault address) p) ≡ added (fault_signal f) (of_fault address)
    (added s info p)
added-early s info sent f address p =
    let g = fault_signal f in
    let came = of_fault address in
    let i = signal_number s - 1 in
    let j = signal_number g - 1 in
    let kind = fault-standard f in
    elim (cases_Bool (is_standard s)) [
      | inl stands ↦
          ap (added s info) (added-standard g came p kind) ∙ added-standard s info (with_standard j came p) stands
          ∙ ap (λ ys. record p { standard = ys }) (kept-early p.standard i j info address sent)
          ∙ sym (ap (added g came) (added-standard s info p stands)
          ∙ added-standard g came (with_standard i info p) kind)
      | inr queues ↦
          ap (added s info) (added-standard g came p kind) ∙ added-queued s info (with_standard j came p) queues
          ∙ sym (ap (added g came) (added-queued s info p queues) ∙ added-standard g came (with_queued s info p) kind)
    ]

without_signals-early : (s : Sig) (f : Flt) (address : ℕ) (p : Pending)
    → without_signals (deleted_by s) (added (fault_signal f) (of_fault address) p) ≡ added (fault_signal f)
    (of_fault address) (without_signals (deleted_by s) p)
without_signals-early s f address p = early_signal-stays s f (of_fault address) p

pending-early : (phase : Phase) (g : Pending → Pending)
    → ((f : Flt) (address : ℕ) (p : Pending) → g (added (fault_signal f) (of_fault address) p) ≡ added (fault_signal f)
    (of_fault address) (g p)) → (p : Pending) → erased_pending phase (g p) ≡ g (erased_pending phase p)
unfolding erased_pending
pending-early User g early p = refl
pending-early (Entered call) g early p = refl
pending-early (Asleep call args since) g early p = refl
pending-early (Exiting call args result) g early p = refl
pending-early (Faulted f address) g early p = sym (early f address p)

lwp-early : (l : TracedLwp) (g : Pending → Pending)
    → ((f : Flt) (address : ℕ) (p : Pending) → g (added (fault_signal f) (of_fault address) p) ≡ added (fault_signal f)
    (of_fault address) (g p)) → erased_lwp (record l { pending = g l.pending }) ≡ record (erased_lwp l) {
      pending =
          g (erased_lwp l).pending;
    }
unfolding erased_lwp
lwp-early l g early = ap (λ w. record (erased_lwp l) { pending = w }) (pending-early l.phase g early l.pending)

pub lwp_with_pending-erased : (s : Sig) (info : Info) → IsSent info → (l : TracedLwp)
    → erased_lwp (lwp_with_pending s info l) ≡ lwp_with_pending s info (erased_lwp l)
unfolding lwp_with_pending
lwp_with_pending-erased s info sent l = lwp-early l (added s info) (added-early s info sent)

lwp_without_pending-erased : (s : Sig) (l : TracedLwp)
    → erased_lwp (lwp_without_pending (deleted_by s) l) ≡ lwp_without_pending (deleted_by s) (erased_lwp l)
unfolding lwp_without_pending
lwp_without_pending-erased s l = lwp-early l (without_signals (deleted_by s)) (without_signals-early s)

without_pending-erased : (s : Sig) (p : TracedProcess)
    → erased_process (without_pending (deleted_by s) p) ≡ without_pending (deleted_by s) (erased_process p)
unfolding erased_process without_pending
without_pending-erased s p =
    ap (λ ls. record (erased_process p) { pending = without_signals (deleted_by s) p.pending; lwps = ls })
    (map_each-all erased_lwp (lwp_without_pending (deleted_by s)) (lwp_without_pending (deleted_by s)) p.lwps
    (lwp_without_pending-erased s))

without_job_stop-erased : (s : Sig) (p : TracedProcess)
    → erased_process (without_job_stop s p) ≡ without_job_stop s (erased_process p)
unfolding erased_process without_job_stop
without_job_stop-erased s p =
    elim (ends_job_stop s) as
    (λ b. erased_process (cond b (record p { job_stop = None }) p) ≡ cond b
    (record (erased_process p) { job_stop = None }) (erased_process p)) [ true ↦ refl | false ↦ refl ]

with_deletions-erased : (s : Sig) (p : TracedProcess)
    → erased_process (with_deletions s p) ≡ with_deletions s (erased_process p)
unfolding with_deletions
with_deletions-erased s p = elim (eqb (deleted_by s) 0) as
    (λ b. erased_process (cond b p (without_job_stop s (without_pending (deleted_by s) p))) ≡ cond b (erased_process p)
    (without_job_stop s
    (without_pending (deleted_by s) (erased_process p)))) [
      | true ↦ refl
      | false ↦ without_job_stop-erased s
          (without_pending (deleted_by s) p) ∙ ap (without_job_stop s) (without_pending-erased s p)
    ]

with_pending-erased : (target : Option ℕ) (s : Sig) (info : Info) → IsSent info → (p : TracedProcess)
    → erased_process (with_pending target s info p) ≡ with_pending target s info (erased_process p)
unfolding erased_process with_pending
with_pending-erased None s info sent p = refl
with_pending-erased (Some id) s info sent p =
    ap (λ ls. record (erased_process p) { lwps = ls })
    (map_each-change_under erased_lwp id (lwp_with_pending s info) (lwp_with_pending s info) p.lwps
    (λ x found. lwp_with_pending-erased s info sent x))

signalled-ended : (p : TracedProcess) → (erased_process p).ended ≡ p.ended
unfolding erased_process
signalled-ended p = refl

-- a signal is sent to a process, or to an lwp of it
pub signalled-erased : (target : Option ℕ) (s : Sig) (info : Info) → IsSent info → (p : TracedProcess)
    → erased_process (signalled target s info p) ≡ signalled target s info (erased_process p)
unfolding signalled
signalled-erased target s info sent p =
    elim (is_none p.ended) as
    (λ b. erased_process (cond b (with_pending target s info (with_deletions s p)) p) ≡ cond b
    (with_pending target s info (with_deletions s (erased_process p))) (erased_process p)) [
      | true ↦ with_pending-erased target s info sent (with_deletions s p)
          ∙ ap (with_pending target s info) (with_deletions-erased s p)
      | false ↦ refl
    ]
    ∙ ap (λ o. cond (is_none o) (with_pending target s info (with_deletions s (erased_process p))) (erased_process p))
    (sym (signalled-ended p))
