use Rattle.std.proofs.Common.{◌≡◌, ◌≢◌, ℕ, true, eqb, is_none, Option, Some, None, IsSome, length, refl, sym, ◌∙◌, ap, subst}
use Rattle.std.specs.Option.{option_map}
use Rattle.pr_num.specs.ById.{change_under, map_each, under}
use Rattle.pr_num.specs.Files.{with_all_closed}
use Rattle.pr_num.specs.Infos.{of_child}
use Rattle.pr_num.specs.Programs.{Program}
use Rattle.pr_num.specs.Signals.{signal_number}
use Rattle.pr_num.specs.declared.infos.Info.{Info}
use Rattle.pr_num.specs.declared.signals.Sig.{Sig}
use Rattle.pr_num.specs.declared.signals.Sig.TheVariants.{Cld}
use Rattle.pr_num.proofs.BoolLemmas.{either}
use Rattle.pr_keeps.proofs.KeepsLemmas.{choice}
use Rattle.pr_parts.specs.SignalRules.{deleted_by}
use Rattle.pr_num.proofs.ByIdLaws.{under-change_under, under-change_under_other, under-map_each}
use Rattle.pr_model.specs.Generation.{ends_job_stop, signalled, with_deletions, with_pending, without_job_stop, without_pending}
use Rattle.pr_lending.specs.Lending.{AreLending}
use Rattle.pr_model.specs.Lives.{bare_process, ended_if_live, orphaned, with_ended, with_loan_back, with_loans_passed, with_lender_of, with_lwp_ended, with_parent_signalled, with_program, with_this_ended, without_lwp, zombie}
use Rattle.pr_model.specs.Machines.{traced}
use Rattle.pr_model.specs.Readers.{borrower_at, lender_at, space_at}
use Rattle.pr_model.specs.Signals.{generated, is_kill}
use Rattle.pr_model.specs.State.{TracedLwp, TracedProcess, TracedSystem, live_process, process_of, with_process, with_process_if}
use Rattle.pr_model.proofs.StateLemmas.{live_process-found}
use Rattle.pr_lending.proofs.ProcessLoans.LoanLemmas.{alike-loans, same-of, borrower_in, lender_in, space_in, is_live_in, borrower-found, lender-found, space-found, live-alike, KeepsLoans, SameLoans, lending-kept, loans-same, next-loans, process-kept, same-loans}
use Rattle.pr_lending.proofs.ProcessLoans.PassLemmas.{IsFree, Stands, lending-freed, loans-passed, passed}

-- Memory stays lent in order where a signal is generated, and where processes begin, run another program, and end.

-- ---- signals

deleted-same : (g : Sig) (x : TracedProcess) → SameLoans x (with_deletions g x)
unfolding with_deletions without_job_stop without_pending
deleted-same g x =
    let less = without_pending (deleted_by g) x in
    let fewer : SameLoans x less = alike-loans _ _ refl refl refl refl in
    either (SameLoans x) (eqb (deleted_by g) 0) x (without_job_stop g less) (same-loans x)
    (either (SameLoans x) (ends_job_stop g) (record less { job_stop = None }) less
    (alike-loans _ _ refl refl refl refl) fewer)

pending-same : (target : Option ℕ) (g : Sig) (info : Info) (x : TracedProcess)
    → SameLoans x (with_pending target g info x)
unfolding with_pending
pending-same None g info x = alike-loans _ _ refl refl refl refl
pending-same (Some id) g info x = alike-loans _ _ refl refl refl refl

pub signalled-same : (target : Option ℕ) (g : Sig) (info : Info) (x : TracedProcess)
    → SameLoans x (signalled target g info x)
unfolding signalled
signalled-same target g info x =
    let less = with_deletions g x in
    either (SameLoans x) (is_none x.ended) (with_pending target g info less) x
    (next-loans x less (with_pending target g info less) (deleted-same g x) (pending-same target g info less))
    (same-loans x)

parent-kept : (s : TracedSystem) (parent pid status : ℕ) → KeepsLoans s (with_parent_signalled parent pid status s)
unfolding with_parent_signalled
parent-kept s parent pid status =
    either (KeepsLoans s) (eqb parent 0) _ _ (loans-same s)
    (process-kept s parent (signalled None Cld (of_child pid status))
    (λ z found. signalled-same None Cld (of_child pid status) z))

-- ---- who has lent nothing

-- a live process that has not lent its memory
pub record IsOwner (s : TracedSystem) (pid : ℕ) : Type 0 where
  pub own : borrower_at s pid ≡ None
  pub live : IsSome (live_process s pid)

pub owner-kept : (s t : TracedSystem) (pid : ℕ) → KeepsLoans s t → IsOwner s pid → IsOwner t pid
owner-kept s t pid k o = record { own = k.borrower pid ∙ o.own; live = k.lives pid o.live }

pub stands-kept : (s t : TracedSystem) (pid : ℕ) (p : TracedProcess) → KeepsLoans s t → Stands s pid p → Stands t pid p
stands-kept s t pid p k stands = record {
  borrower = k.borrower pid ∙ stands.borrower;
  lender = k.lender pid ∙ stands.lender;
  space = stands.space;
}

pub found-stands : (s : TracedSystem) (pid : ℕ) (p : TracedProcess) → AreLending s → process_of s pid ≡ Some p
    → Stands s pid p
found-stands s pid p h found = record {
  borrower = borrower-found s pid p found;
  lender = lender-found s pid p found;
  space = λ child is.
      sym (space-found s pid p found) ∙ h.bare pid child (borrower-found s pid p found ∙ is);
}

-- ---- ends

module _ (s : TracedSystem) (pid : ℕ) (p : TracedProcess) (status : ℕ) (h : AreLending s)
    (stands : Stands s pid p) where
  -- the system where the process is a zombie, and its children are orphans
  buried : TracedSystem
  buried = record s {
    files = with_all_closed s.files p.fds;
    processes = map_each (orphaned pid) (change_under pid (zombie traced status) s.processes);
  }

  seen-orphaned : {A : Type 0} (v : Option TracedProcess → A) (x : ℕ)
      → ((z : TracedProcess) → v (Some (orphaned pid z)) ≡ v (Some z))
      → v (process_of buried x) ≡ v (under x (change_under pid (zombie traced status) s.processes))
  unfolding buried
  seen-orphaned v x same =
      ap v (under-map_each x (orphaned pid) (change_under pid (zombie traced status) s.processes))
      ∙ by (under x (change_under pid (zombie traced status) s.processes))
    where
      by : (o : Option TracedProcess) → v (option_map (orphaned pid) o) ≡ v o
      by None = refl
      by (Some z) = same z

  seen-buried : {A : Type 0} (v : Option TracedProcess → A) (x : ℕ) → pid ≢ x
      → ((z : TracedProcess) → v (Some (orphaned pid z)) ≡ v (Some z)) → v (process_of buried x) ≡ v (process_of s x)
  seen-buried v x apart same =
      seen-orphaned v x same ∙ ap v (under-change_under_other pid x (zombie traced status) apart s.processes)

  seen-dead : {A : Type 0} (v : Option TracedProcess → A)
      → ((z : TracedProcess) → v (Some (orphaned pid z)) ≡ v (Some z))
      → ((z : TracedProcess) → v (Some (zombie traced status z)) ≡ v None) → v (process_of buried pid) ≡ v None
  seen-dead v same none =
      seen-orphaned v pid same ∙ ap v (under-change_under pid (zombie traced status) s.processes)
      ∙ by (process_of s pid)
    where
      by : (o : Option TracedProcess) → v (option_map (zombie traced status) o) ≡ v None
      by None = refl
      by (Some z) = none z

  orphan-same : {A : Type 0} (v : TracedProcess → A) (z : TracedProcess) → v (record z { parent = 0 }) ≡ v z
      → v (orphaned pid z) ≡ v z
  unfolding orphaned
  orphan-same v z same = same-of v (eqb z.parent pid) (record z { parent = 0 }) z same

  buried-free : IsFree s buried pid
  unfolding borrower_at lender_at space_at live_process zombie bare_process
  buried-free = record {
    own_borrower = seen-dead borrower_in (λ z. orphan-same (λ x. x.borrower) z refl) (λ z. refl);
    own_lender = seen-dead lender_in (λ z. orphan-same (λ x. x.lender) z refl) (λ z. refl);
    borrower = λ x apart. seen-buried borrower_in x apart (λ z. orphan-same (λ x. x.borrower) z refl);
    lender = λ x apart. seen-buried lender_in x apart (λ z. orphan-same (λ x. x.lender) z refl);
    lives = λ x apart is.
        seen-buried is_live_in x apart
        (λ z. live-alike z (orphaned pid z) (orphan-same (λ x. x.ended) z refl)) ∙ is;
    space = λ x apart. seen-buried space_in x apart (λ z. orphan-same (λ x. x.space) z refl);
  }

  pub lending-ended : AreLending (with_this_ended traced pid p status s)
  unfolding with_this_ended buried
  lending-ended =
      lending-kept (with_loans_passed pid p buried) (with_this_ended traced pid p status s)
      (parent-kept (with_loans_passed pid p buried) p.parent pid status)
      (lending-freed s buried pid p h stands buried-free)

  -- the end of a process leaves another one as it was, if that has lent nothing
  pub owner-left : (other : ℕ) → pid ≢ other → IsOwner s other → IsOwner (with_this_ended traced pid p status s) other
  unfolding with_this_ended buried
  owner-left other apart o =
      let passes = loans-passed s buried pid p h stands buried-free in
      owner-kept (with_loans_passed pid p buried) (with_this_ended traced pid p status s) other
      (parent-kept (with_loans_passed pid p buried) p.parent pid status)
      (record {
        own = passes.borrower other apart ∙ ap (passed pid p.borrower) o.own;
        live = passes.lives other apart o.live;
      })

-- the live process of an id ends, if there is one
with_ended-lends : (s : TracedSystem) (pid status : ℕ) → AreLending s → AreLending (with_ended traced pid status s)
unfolding with_ended
with_ended-lends s pid status h = by (live_process s pid) refl
  where
    by : (o : Option TracedProcess) → live_process s pid ≡ o → AreLending (ended_if_live traced pid status s o)
    by None is = h
    by (Some p) is = lending-ended s pid p status h (found-stands s pid p h (live_process-found s pid p is))

with_ended-leaves : (s : TracedSystem) (pid status other : ℕ) → AreLending s → pid ≢ other → IsOwner s other
    → IsOwner (with_ended traced pid status s) other
unfolding with_ended
with_ended-leaves s pid status other h apart own = by (live_process s pid) refl
  where
    by : (o : Option TracedProcess) → live_process s pid ≡ o → IsOwner (ended_if_live traced pid status s o) other
    by None is = own
    by (Some p) is =
        owner-left s pid p status h (found-stands s pid p h (live_process-found s pid p is)) other apart own

-- ---- signals that are generated

generated-kept : (s : TracedSystem) (pid : ℕ) (target : Option ℕ) (g : Sig) (info : Info)
    → KeepsLoans s (with_process pid (signalled target g info) s)
generated-kept s pid target g info =
    process-kept s pid (signalled target g info) (λ z found. signalled-same target g info z)

pub lending-generated : (s : TracedSystem) (pid : ℕ) (target : Option ℕ) (g : Sig) (info : Info) → AreLending s
    → AreLending (generated traced pid target g info s)
unfolding generated
lending-generated s pid target g info h =
    either AreLending (is_kill g) _ _ (with_ended-lends s pid (signal_number g) h)
    (lending-kept s (with_process pid (signalled target g info) s) (generated-kept s pid target g info) h)

-- a signal to a process that has lent nothing, other than one that kills it, leaves it so
pub owner-signalled : (s : TracedSystem) (pid : ℕ) (target : Option ℕ) (g : Sig) (info : Info) (other : ℕ)
    → AreLending s → (is_kill g ≡ true → pid ≢ other) → IsOwner s other
    → IsOwner (generated traced pid target g info s) other
unfolding generated
owner-signalled s pid target g info other h apart o =
    choice (λ (t : TracedSystem). IsOwner t other) (is_kill g) _ _
    (λ kill. with_ended-leaves s pid (signal_number g) other h (apart kill) o)
    (λ spares. owner-kept s (with_process pid (signalled target g info) s) other
    (generated-kept s pid target g info) o)

-- ---- one lwp ends

pub lwp_ended-lends : (s : TracedSystem) (pid : ℕ) (p : TracedProcess) (id : ℕ) → AreLending s → Stands s pid p
    → AreLending (with_lwp_ended traced pid p id s)
unfolding with_lwp_ended without_lwp
lwp_ended-lends s pid p id h stands =
    either AreLending (eqb (length p.lwps) 1) _ _ (lending-ended s pid p 0 h stands)
    (lending-kept s (with_process pid (without_lwp id) s)
    (process-kept s pid (without_lwp id) (λ z found. alike-loans _ _ refl refl refl refl)) h)

-- ---- another program

-- a process that has lent nothing runs another program: its lender has its memory back
module _ (s : TracedSystem) (pid : ℕ) (p : TracedProcess) (id : ℕ) (l : TracedLwp) (program : Program)
    (h : AreLending s) (stands : Stands s pid p) (o : IsOwner s pid) where
  abbrev begun : TracedSystem
  begun = with_process pid (with_program traced id l program) s

  begun-free : IsFree s begun pid
  unfolding borrower_at lender_at space_at live_process with_program with_process
  begun-free = record {
    own_borrower =
        ap borrower_in (under-change_under pid (with_program traced id l program) s.processes)
        ∙ same-borrower (process_of s pid) ∙ o.own;
    own_lender =
        ap lender_in (under-change_under pid (with_program traced id l program) s.processes)
        ∙ no-lender (process_of s pid);
    borrower = λ x apart. others borrower_in x apart;
    lender = λ x apart. others lender_in x apart;
    lives = λ x apart is. others is_live_in x apart ∙ is;
    space = λ x apart. others space_in x apart;
  }
    where
      same-borrower : (o : Option TracedProcess)
          → borrower_in (option_map (with_program traced id l program) o) ≡ borrower_in o
      same-borrower None = refl
      same-borrower (Some z) = refl

      no-lender : (o : Option TracedProcess) → lender_in (option_map (with_program traced id l program) o) ≡ None
      no-lender None = refl
      no-lender (Some z) = refl

      others : {A : Type 0} (v : Option TracedProcess → A) (x : ℕ) → pid ≢ x
          → v (under x (change_under pid (with_program traced id l program) s.processes)) ≡ v (process_of s x)
      others v x apart = ap v (under-change_under_other pid x (with_program traced id l program) apart s.processes)

  pub lending-begun : AreLending (with_process_if p.lender (with_loan_back pid p) begun)
  unfolding with_loans_passed
  lending-begun =
      let lent_nothing : p.borrower ≡ None = sym stands.borrower ∙ o.own in
      let same : with_loans_passed pid p begun ≡ with_process_if p.lender (with_loan_back pid p) begun =
      ap (λ (b : Option ℕ). with_process_if p.lender (with_loan_back pid p)
      (with_process_if b (with_lender_of pid p) begun)) lent_nothing in
      subst AreLending same (lending-freed s begun pid p h stands begun-free)
