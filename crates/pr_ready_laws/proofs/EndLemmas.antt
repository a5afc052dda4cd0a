use Rattle.std.proofs.Common.{◌≡◌, ◌≢◌, ℕ, Bool, true, false, is_none, eqb, cond, Option, Some, None, refl, sym, subst, ◌∙◌, ap, arith}
use Rattle.std.specs.Option.{option_map}
use Rattle.std.proofs.lemmas.Bool.{eqb-false, or_parts, true≢false}
use Rattle.std.proofs.lemmas.Option.{none-some, same_Some}
use Rattle.pr_num.specs.ById.{change_under}
use Rattle.pr_num.proofs.ByIdLaws.{under-change_under_other, under-map_each}
use Rattle.pr_num.proofs.BoolLemmas.{either}
use Rattle.pr_num.specs.Infos.{of_child}
use Rattle.pr_num.specs.Signals.{signal_number}
use Rattle.pr_num.specs.declared.infos.Info.{Info}
use Rattle.pr_num.specs.declared.signals.Sig.{Sig}
use Rattle.pr_num.specs.declared.signals.Sig.TheVariants.{Cld}
use Rattle.pr_parts.specs.SignalRules.{deleted_by}
use Rattle.pr_model.specs.Generation.{ends_job_stop, signalled, with_deletions, with_pending, without_job_stop, without_pending}
use Rattle.pr_model.specs.Lives.{bare_process, ended_if_live, is_id, orphaned, with_ended, with_lender_of, with_loan_back, with_loans_passed, with_parent_signalled, with_this_ended, zombie}
use Rattle.pr_model.specs.Machines.{traced}
use Rattle.pr_model.specs.Readers.{children_of}
use Rattle.pr_model.specs.Signals.{generated, is_kill}
use Rattle.pr_model.specs.State.{TracedProcess, TracedSystem, live_process, process_of, with_process_if}
use Rattle.pr_lawful.proofs.LawfulTurns.EndLemmas.{buried, found-live}
use Rattle.pr_ready_laws.specs.Touched.{is_kin, is_kin_of, is_with_kin}
use Rattle.pr_ready_laws.proofs.ChildLemmas.{KeepsFamily, children-apart, children-orphaned}
use Rattle.pr_ready_laws.proofs.LeftLemmas.{Leaves, leaves-either, leaves-next, leaves-other, leaves-other_if, leaves-self}

-- What the end of another process leaves of one, and a signal that is sent to another.

-- ---- signals

-- what leaves its parent and its end, leaves them with what comes next
abbrev pub SameFamily : TracedProcess → TracedProcess → Type 0
SameFamily x y = (y.parent ≡ x.parent) × (y.ended ≡ x.ended)

pub family-next : (x y z : TracedProcess) → SameFamily x y → SameFamily y z → SameFamily x z
family-next x y z one two = (two.0 ∙ one.0, two.1 ∙ one.1)

job-family : (g : Sig) → KeepsFamily (without_job_stop g)
unfolding without_job_stop
job-family g x = either (SameFamily x) (ends_job_stop g) (record x { job_stop = None }) x (refl, refl) (refl, refl)

deletions-family : (g : Sig) → KeepsFamily (with_deletions g)
unfolding with_deletions without_pending
deletions-family g x =
    either (SameFamily x) (eqb (deleted_by g) 0) x (without_job_stop g (without_pending (deleted_by g) x)) (refl, refl)
    (family-next x (without_pending (deleted_by g) x) (without_job_stop g (without_pending (deleted_by g) x))
    (refl, refl)
    (job-family g (without_pending (deleted_by g) x)))

pending-family : (own : Option ℕ) (g : Sig) (info : Info) → KeepsFamily (with_pending own g info)
unfolding with_pending
pending-family None g info x = (refl, refl)
pending-family (Some id) g info x = (refl, refl)

pub signalled-family : (own : Option ℕ) (g : Sig) (info : Info) → KeepsFamily (signalled own g info)
unfolding signalled
signalled-family own g info x =
    either (SameFamily x) (is_none x.ended) (with_pending own g info (with_deletions g x)) x
    (family-next x (with_deletions g x) (with_pending own g info (with_deletions g x)) (deletions-family g x)
    (pending-family own g info (with_deletions g x)))
    (refl, refl)

-- ---- memory that was lent

pub loan_back-family : (gone : ℕ) (p : TracedProcess) → KeepsFamily (with_loan_back gone p)
unfolding with_loan_back
loan_back-family gone p x =
    either (SameFamily x) (is_id gone x.borrower) (record x { space = p.space; borrower = p.borrower }) x (refl, refl)
    (refl, refl)

lender_of-family : (gone : ℕ) (p : TracedProcess) → KeepsFamily (with_lender_of gone p)
unfolding with_lender_of
lender_of-family gone p x =
    either (SameFamily x) (is_id gone x.lender) (record x { lender = p.lender }) x (refl, refl) (refl, refl)

-- ---- orphans

orphaned-same : (gone : ℕ) (x : TracedProcess) → orphaned gone x ≡ record x { parent = (orphaned gone x).parent }
unfolding orphaned
orphaned-same gone x =
    elim (eqb x.parent gone) as
    (λ b. cond b (record x { parent = 0 }) x ≡ record x { parent = (cond b (record x { parent = 0 }) x).parent }) [
      | true ↦ refl
      | false ↦ refl
    ]

zombie-parent : (status : ℕ) (x : TracedProcess) → (zombie traced status x).parent ≡ x.parent
unfolding zombie bare_process
zombie-parent status x = refl

module _ (pid : ℕ) (files clock : Bool) (user : pid ≢ 0) (may : files ≡ true) where
  -- a process is a zombie and its children are orphans
  leaves-buried : (gone : ℕ) (p x : TracedProcess) (status : ℕ) (s : TracedSystem) → process_of s gone ≡ Some x
      → gone ≢ pid → x.parent ≢ pid → Leaves pid files clock s (buried gone p status s)
  unfolding children_of
  leaves-buried gone p x status s found other apart = record {
    process = λ q there live. by (process_of s pid) refl q (sym is ∙ there);
    children = λ all.
        children-orphaned pid gone other user (change_under gone (zombie traced status) s.processes)
        ∙ children-apart pid gone (zombie traced status) x s.processes found apart
        (λ same. apart (sym (zombie-parent status x) ∙ same))
        ∙ all;
    same_files = λ none. absurd (true≢false (sym may ∙ none));
    same_clock = λ none. refl;
    goes_on = omega arith;
  }
    where
      is : process_of (buried gone p status s) pid ≡ option_map (orphaned gone) (process_of s pid)
      is =
          under-map_each pid (orphaned gone) (change_under gone (zombie traced status) s.processes)
          ∙ ap (option_map (orphaned gone)) (under-change_under_other gone pid (zombie traced status) other s.processes)

      by : (o : Option TracedProcess) → process_of s pid ≡ o → (q : TracedProcess)
          → option_map (orphaned gone) (process_of s pid) ≡ Some q
          → (r : TracedProcess) × ((process_of s pid ≡ Some r) × (q ≡ record r { parent = q.parent }))
      by None none q there = absurd (none-some q (sym (ap (option_map (orphaned gone)) none) ∙ there))
      by (Some r) here q there =
          let same : orphaned gone r ≡ q =
          same_Some (orphaned gone r) q (sym (ap (option_map (orphaned gone)) here) ∙ there) in
          (r, (here, subst (λ (y : TracedProcess). y ≡ record r { parent = y.parent }) same (orphaned-same gone r)))

  passed-leaves : (gone : ℕ) (p : TracedProcess) (s : TracedSystem) → is_id pid p.lender ≡ false
      → is_id pid p.borrower ≡ false → Leaves pid files clock s (with_loans_passed gone p s)
  unfolding with_loans_passed
  passed-leaves gone p s lender borrower =
      let on : TracedSystem = with_process_if p.borrower (with_lender_of gone p) s in
      leaves-next pid files clock s on (with_process_if p.lender (with_loan_back gone p) on)
      (leaves-other_if pid files clock p.borrower (with_lender_of gone p) s borrower (lender_of-family gone p))
      (leaves-other_if pid files clock p.lender (with_loan_back gone p) on lender (loan_back-family gone p))

  parent-leaves : (parent gone status : ℕ) (s : TracedSystem) → parent ≢ pid
      → Leaves pid files clock s (with_parent_signalled parent gone status s)
  unfolding with_parent_signalled
  parent-leaves parent gone status s apart =
      leaves-either pid files clock (eqb parent 0) s s _ (leaves-self pid files clock s)
      (leaves-other pid files clock parent (signalled None Cld (of_child gone status)) s apart
      (signalled-family None Cld (of_child gone status)))

  -- a process ends, where it stands as one with the same parent
  pub leaves-ended : (gone : ℕ) (p x : TracedProcess) (status : ℕ) (s : TracedSystem) → process_of s gone ≡ Some x
      → x.parent ≡ p.parent → gone ≢ pid → is_kin p pid ≡ false
      → Leaves pid files clock s (with_this_ended traced gone p status s)
  unfolding with_this_ended
  leaves-ended gone p x status s found same other apart =
      let parts = or_parts (eqb p.parent pid) _ apart in
      let lent = or_parts (is_id pid p.lender) (is_id pid p.borrower) parts.1 in
      let parent : p.parent ≢ pid = eqb-false p.parent pid parts.0 in
      let b : TracedSystem = buried gone p status s in
      let passed : TracedSystem = with_loans_passed gone p b in
      leaves-next pid files clock s passed (with_parent_signalled p.parent gone status passed)
      (leaves-next pid files clock s b passed
      (leaves-buried gone p x status s found other (λ is. parent (sym same ∙ is)))
      (passed-leaves gone p b lent.0 lent.1)) (parent-leaves p.parent gone status passed parent)

  -- a signal is generated for a process
  pub leaves-generated : (target : ℕ) (own : Option ℕ) (g : Sig) (info : Info) (s : TracedSystem)
      → is_with_kin s target pid ≡ false → Leaves pid files clock s (generated traced target own g info s)
  unfolding generated with_ended is_with_kin
  leaves-generated target own g info s apart =
      leaves-either pid files clock (is_kill g) s _ _ (kill (live_process s target) refl)
      (leaves-other pid files clock target (signalled own g info) s other (signalled-family own g info))
    where
      parts : (eqb target pid ≡ false) × (is_kin_of (process_of s target) pid ≡ false)
      parts = or_parts (eqb target pid) (is_kin_of (process_of s target) pid) apart

      other : target ≢ pid
      other = eqb-false target pid parts.0

      kill : (o : Option TracedProcess) → live_process s target ≡ o
          → Leaves pid files clock s (ended_if_live traced target (signal_number g) s o)
      kill None is = leaves-self pid files clock s
      kill (Some p) is =
          let found = (found-live s target p is).0 in
          leaves-ended target p p (signal_number g) s found refl other
          (subst (λ (o : Option TracedProcess). is_kin_of o pid ≡ false) found parts.1)
