use Rattle.std.proofs.Common.{◌≡◌, ℕ, eqb, Option, Some, None, List, is_none, refl, sym, ◌∙◌, subst, inl, inr, arith}
use Rattle.std.proofs.lemmas.Bool.{cases_Bool}
use Rattle.pr_num.proofs.ByIdLaws.{All-change_under, All-inserted, All-map_each, All-under, All-without_id}
use Rattle.pr_num.specs.ById.{change_under, map_each, under}
use Rattle.pr_num.specs.Signals.{signal_number}
use Rattle.pr_num.specs.declared.infos.Info.{Info}
use Rattle.pr_num.specs.declared.signals.Sig.{Sig}
use Rattle.pr_parts.specs.SignalRules.{deleted_by}
use Rattle.pr_model.specs.Generation.{ends_job_stop, signalled, with_deletions, with_pending, without_job_stop, without_pending}
use Rattle.pr_model.specs.Lives.{Birth, bare_process, by_fork, by_vfork, ended_if_live, is_id, lent_to, orphaned, with_ended, with_lender_of, with_lent, with_loan_back, with_loans_passed, with_made, with_parent_signalled, with_reaped, with_this_ended, zombie}
use Rattle.pr_model.specs.Machines.{nothing_set, nothing_used, traced, zombie_control}
use Rattle.pr_model.specs.Signals.{generated, is_kill}
use Rattle.pr_model.specs.State.{TracedProcess, TracedSystem, live_process, with_process, with_process_if}
use Rattle.pr_proc.specs.Counts.{AllUsedAtMost, HasUsedAtMost, UsedAtMost}

-- What keeps what processes have used.

-- a process changed in a way that keeps what it used
pub AllUsedAtMost-with_process : (n pid : ℕ) (f : TracedProcess → TracedProcess) (s : TracedSystem)
    → ((p : TracedProcess) → (f p).control.usage ≡ p.control.usage) → AllUsedAtMost n s
    → AllUsedAtMost n (with_process pid f s)
unfolding with_process
AllUsedAtMost-with_process n pid f s kept h = record {
  each = All-change_under (HasUsedAtMost n) pid f s.processes
      (λ p at within. subst (UsedAtMost n) (sym (kept p)) within) h.each;
}

AllUsedAtMost-each : (n : ℕ) (f : TracedProcess → TracedProcess) (ps : List (ℕ × TracedProcess)) (s : TracedSystem)
    → ((p : TracedProcess) → (f p).control.usage ≡ p.control.usage) → AllUsedAtMost n (record s { processes = ps })
    → AllUsedAtMost n (record s { processes = map_each f ps })
AllUsedAtMost-each n f ps s kept h = record {
  each = All-map_each (HasUsedAtMost n) (HasUsedAtMost n) f
      (λ e within. subst (UsedAtMost n) (sym (kept e.1)) within) ps h.each;
}

AllUsedAtMost-with_process_if : (n : ℕ) (o : Option ℕ) (f : TracedProcess → TracedProcess) (s : TracedSystem)
    → ((p : TracedProcess) → (f p).control.usage ≡ p.control.usage) → AllUsedAtMost n s
    → AllUsedAtMost n (with_process_if o f s)
AllUsedAtMost-with_process_if n None f s kept h = h
AllUsedAtMost-with_process_if n (Some pid) f s kept h = AllUsedAtMost-with_process n pid f s kept h

-- ---- lent memory

lent-usage : (child : ℕ) (p : TracedProcess) → (lent_to child p).control.usage ≡ p.control.usage
unfolding lent_to
lent-usage child p = refl

loan_back-usage : (pid : ℕ) (p lender : TracedProcess)
    → (with_loan_back pid p lender).control.usage ≡ lender.control.usage
unfolding with_loan_back
loan_back-usage pid p lender = elim (cases_Bool (is_id pid lender.borrower)) [ inl e ↦ rw e refl | inr e ↦ rw e refl ]

lender_of-usage : (pid : ℕ) (p borrower : TracedProcess)
    → (with_lender_of pid p borrower).control.usage ≡ borrower.control.usage
unfolding with_lender_of
lender_of-usage pid p borrower = elim (cases_Bool (is_id pid borrower.lender)) [ inl e ↦ rw e refl | inr e ↦ rw e refl ]

-- a child takes its maker's memory
pub AllUsedAtMost-lent : (n : ℕ) (birth : Birth) (pid child : ℕ) (s : TracedSystem) → AllUsedAtMost n s
    → AllUsedAtMost n (with_lent birth pid child s)
AllUsedAtMost-lent n by_fork pid child s h = h
AllUsedAtMost-lent n by_vfork pid child s h = AllUsedAtMost-with_process n pid (lent_to child) s (lent-usage child) h

-- a loan goes back
pub AllUsedAtMost-loan_back : (n pid : ℕ) (p : TracedProcess) (o : Option ℕ) (s : TracedSystem) → AllUsedAtMost n s
    → AllUsedAtMost n (with_process_if o (with_loan_back pid p) s)
AllUsedAtMost-loan_back n pid p o s h =
    AllUsedAtMost-with_process_if n o (with_loan_back pid p) s (loan_back-usage pid p) h

AllUsedAtMost-loans_passed : (n pid : ℕ) (p : TracedProcess) (s : TracedSystem) → AllUsedAtMost n s
    → AllUsedAtMost n (with_loans_passed pid p s)
unfolding with_loans_passed
AllUsedAtMost-loans_passed n pid p s h =
    AllUsedAtMost-loan_back n pid p p.lender _
    (AllUsedAtMost-with_process_if n p.borrower (with_lender_of pid p) s (lender_of-usage pid p) h)

-- ---- the end of a process

orphaned-usage : (parent : ℕ) (p : TracedProcess) → (orphaned parent p).control.usage ≡ p.control.usage
unfolding orphaned
orphaned-usage parent p = elim (cases_Bool (eqb p.parent parent)) [ inl e ↦ rw e refl | inr e ↦ rw e refl ]

zombie-usage : (status : ℕ) (p : TracedProcess) → (zombie traced status p).control.usage ≡ p.control.usage
unfolding zombie bare_process traced zombie_control nothing_set
zombie-usage status p = refl

job_stop-usage : (g : Sig) (p : TracedProcess) → (without_job_stop g p).control.usage ≡ p.control.usage
unfolding without_job_stop
job_stop-usage g p = elim (cases_Bool (ends_job_stop g)) [ inl e ↦ rw e refl | inr e ↦ rw e refl ]

deletions-usage : (g : Sig) (p : TracedProcess) → (with_deletions g p).control.usage ≡ p.control.usage
unfolding with_deletions without_pending
deletions-usage g p =
    elim (cases_Bool (eqb (deleted_by g) 0))
    [ inl e ↦ rw e refl | inr e ↦ rw e (job_stop-usage g (without_pending (deleted_by g) p)) ]

pending-usage : (target : Option ℕ) (g : Sig) (info : Info) (p : TracedProcess)
    → (with_pending target g info p).control.usage ≡ p.control.usage
unfolding with_pending
pending-usage None g info p = refl
pending-usage (Some id) g info p = refl

pub signalled-usage : (target : Option ℕ) (g : Sig) (info : Info) (p : TracedProcess)
    → (signalled target g info p).control.usage ≡ p.control.usage
unfolding signalled
signalled-usage target g info p =
    elim (cases_Bool (is_none p.ended))
    [ inl e ↦ rw e (pending-usage target g info (with_deletions g p) ∙ deletions-usage g p) | inr e ↦ rw e refl ]

AllUsedAtMost-signalled : (n parent pid status : ℕ) (s : TracedSystem) → AllUsedAtMost n s
    → AllUsedAtMost n (with_parent_signalled parent pid status s)
unfolding with_parent_signalled
AllUsedAtMost-signalled n parent pid status s h =
    elim (cases_Bool (eqb parent 0)) [
      | inl none ↦ rw none h
      | inr some ↦ rw some (AllUsedAtMost-with_process n parent _ s (λ p. signalled-usage _ _ _ p) h)
    ]

pub AllUsedAtMost-ended : (n pid : ℕ) (p : TracedProcess) (status : ℕ) (s : TracedSystem) → AllUsedAtMost n s
    → AllUsedAtMost n (with_this_ended traced pid p status s)
unfolding with_this_ended
AllUsedAtMost-ended n pid p status s h =
    let buried : AllUsedAtMost n (record s { processes = change_under pid (zombie traced status) s.processes }) =
    record {
      each = All-change_under (HasUsedAtMost n) pid (zombie traced status) s.processes
          (λ q at within. subst (UsedAtMost n) (sym (zombie-usage status q)) within) h.each;
    } in
    let left = AllUsedAtMost-each n (orphaned pid) _ s (orphaned-usage pid) buried in
    AllUsedAtMost-signalled n p.parent pid status _ (AllUsedAtMost-loans_passed n pid p _ (record { each = left.each }))

-- what bounds all counts bounds those of a process
pub AllUsedAtMost-under : (n pid : ℕ) (s : TracedSystem) (p : TracedProcess) → under pid s.processes ≡ Some p
    → AllUsedAtMost n s → UsedAtMost n p.control.usage
AllUsedAtMost-under n pid s p found h = All-under (HasUsedAtMost n) pid p s.processes h.each found

pub AllUsedAtMost-if_live : (n pid status : ℕ) (s : TracedSystem) (o : Option TracedProcess) → AllUsedAtMost n s
    → AllUsedAtMost n (ended_if_live traced pid status s o)
AllUsedAtMost-if_live n pid status s None h = h
AllUsedAtMost-if_live n pid status s (Some p) h = AllUsedAtMost-ended n pid p status s h

pub AllUsedAtMost-generated : (n pid : ℕ) (target : Option ℕ) (g : Sig) (info : Info) (s : TracedSystem)
    → AllUsedAtMost n s → AllUsedAtMost n (generated traced pid target g info s)
unfolding generated with_ended
AllUsedAtMost-generated n pid target g info s h =
    elim (cases_Bool (is_kill g)) [
      | inl kills ↦ rw kills (AllUsedAtMost-if_live n pid (signal_number g) s (live_process s pid) h)
      | inr other ↦
          rw other (AllUsedAtMost-with_process n pid (signalled target g info) s (signalled-usage target g info) h)
    ]

-- ---- a process more, and one less

pub unused : (n : ℕ) → UsedAtMost n nothing_used
unused n = record { calls = omega arith; signals = omega arith; faults = omega arith; instructions = omega arith }

pub AllUsedAtMost-made : (n : ℕ) (p : TracedProcess) (s : TracedSystem) → p.control.usage ≡ nothing_used
    → AllUsedAtMost n s → AllUsedAtMost n (with_made p s)
unfolding with_made
AllUsedAtMost-made n p s none h = record {
  each = All-inserted (HasUsedAtMost n) s.made p s.processes (subst (UsedAtMost n) (sym none) (unused n)) h.each;
}

pub AllUsedAtMost-reaped : (n pid : ℕ) (s : TracedSystem) → AllUsedAtMost n s → AllUsedAtMost n (with_reaped pid s)
unfolding with_reaped
AllUsedAtMost-reaped n pid s h = record { each = All-without_id (HasUsedAtMost n) pid s.processes h.each }
