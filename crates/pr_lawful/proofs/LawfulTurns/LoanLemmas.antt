use Rattle.std.proofs.Common.{◌≡◌, ◌≢◌, ◌⊎◌, ℕ, ◌+◌, ◌≤◌, Bool, true, false, Option, Some, None, cond, refl, sym, subst, ◌∙◌, ap, arith, inl, inr}
use Rattle.std.proofs.lemmas.Bool.{false≢true}
use Rattle.std.proofs.lemmas.List.Elements.{All-nil}
use Rattle.std.proofs.lemmas.Option.{same_Some}
use Rattle.pr_num.proofs.ByIdLaws.{All-under}
use Rattle.pr_num.specs.ById.{change_under}
use Rattle.pr_num.specs.Limits.{all_mappings_limit}
use Rattle.pr_parts.specs.AddressSpaces.{LeavesHeapPlace}
use Rattle.pr_keeps.proofs.LoanLemmas.{process_if-keeps}
use Rattle.pr_model.specs.FirstState.{system_process}
use Rattle.pr_model.specs.Lawful.{IsLawfulProcess, IsLawfulSystem}
use Rattle.pr_model.specs.Lives.{bare_process, is_id, lent_to, with_loan_back, with_lender_of, with_loans_passed}
use Rattle.pr_model.specs.Readers.{size_of, total_size}
use Rattle.pr_model.specs.State.{TracedProcess, TracedSystem, process_of, with_process, with_process_if}
use Rattle.pr_lawful.proofs.ProcessParts.LocalLemmas.{live-empty, StaysLawful, kept-parts, same_rest, same_lwps}
use Rattle.pr_lawful.proofs.ProcessParts.SumLemmas.{sum-change_under, sizes-sum}
use Rattle.pr_lawful.proofs.ProcessParts.SystemLemmas.{Replaces, kept-replaces, replaced, unchanged, unfound}

-- Memory that is lent, given back or passed on leaves the system lawful, and no more of it is mapped.

-- ---- a process that may be none

-- A change leaves the process that it finds as it is, or puts another one in its place, where that is not the system
-- process.
LeavesOrReplaces : TracedSystem → (TracedProcess → TracedProcess) → ℕ → TracedProcess → Type 0
LeavesOrReplaces s f pid x = (f x ≡ x) ⊎ ((pid ≢ 0) × Replaces s s.files pid x (f x))

replaced_if : (s : TracedSystem) (o : Option ℕ) (f : TracedProcess → TracedProcess) → IsLawfulSystem s
    → ((pid : ℕ) (x : TracedProcess) → process_of s pid ≡ Some x → LeavesOrReplaces s f pid x)
    → IsLawfulSystem (with_process_if o f s)
unfolding LeavesOrReplaces
replaced_if s None f h each = h
replaced_if s (Some it) f h each = at it (process_of s it) refl
  where
    either : (pid : ℕ) (x : TracedProcess) → process_of s pid ≡ Some x
        → (f x ≡ x) ⊎ ((pid ≢ 0) × Replaces s s.files pid x (f x)) → IsLawfulSystem (with_process pid f s)
    either pid x found (inl same) = subst IsLawfulSystem (sym (unchanged s pid f x found same)) h
    either pid x found (inr other) = replaced s s.files pid f x h other.0 found other.1

    at : (pid : ℕ) (there : Option TracedProcess) → process_of s pid ≡ there → IsLawfulSystem (with_process pid f s)
    at pid None none = subst IsLawfulSystem (sym (unfound s pid f none)) h
    at pid (Some x) found = either pid x found (each pid x found)

-- ---- who lends and who borrows

-- who is named is someone
is_id-some : (pid : ℕ) (o : Option ℕ) → is_id pid o ≡ true → o ≢ None
is_id-some pid None is none = false≢true is
is_id-some pid (Some other) is none = cc

-- a process that lends is live
lending-lives : (pid : ℕ) (x : TracedProcess) → IsLawfulProcess (pid, x) → x.borrower ≢ None → x.ended ≡ None
lending-lives pid x h lends = by x.ended refl
  where
    by : (o : Option ℕ) → x.ended ≡ o → o ≡ None
    by None is = refl
    by (Some status) is = absurd (lends (h.empty_zombie.no_loan status is))

-- the system process neither lends nor borrows
system-lends : (s : TracedSystem) (pid : ℕ) (x : TracedProcess) → IsLawfulSystem s → process_of s pid ≡ Some x
    → x.borrower ≢ None → pid ≢ 0
unfolding system_process bare_process
system-lends s pid x h found lends is =
    lends (ap (λ (p : TracedProcess). p.borrower)
    (sym (same_Some system_process x (sym h.first ∙ ap (process_of s) (sym is) ∙ found))))

system-borrows : (s : TracedSystem) (pid : ℕ) (x : TracedProcess) → IsLawfulSystem s → process_of s pid ≡ Some x
    → x.lender ≢ None → pid ≢ 0
unfolding system_process bare_process
system-borrows s pid x h found borrows is =
    borrows (ap (λ (p : TracedProcess). p.lender)
    (sym (same_Some system_process x (sym h.first ∙ ap (process_of s) (sym is) ∙ found))))

-- ---- how much is mapped

-- how much is mapped once a process stands in the place of another
pub total-changed : (s : TracedSystem) (pid : ℕ) (f : TracedProcess → TracedProcess) (x : TracedProcess)
    → process_of s pid ≡ Some x → total_size (with_process pid f s) + size_of x ≡ total_size s + size_of (f x)
unfolding total_size with_process
total-changed s pid f x found =
    let all = sum-change_under size_of pid f x s.processes found in
    let before = sizes-sum s.processes in
    let after = sizes-sum (change_under pid f s.processes) in
    omega arith

total-same : (s : TracedSystem) (pid : ℕ) (f : TracedProcess → TracedProcess)
    → ((x : TracedProcess) → size_of (f x) ≡ size_of x) → total_size (with_process pid f s) ≡ total_size s
total-same s pid f same = by (process_of s pid) refl
  where
    by : (o : Option TracedProcess) → process_of s pid ≡ o → total_size (with_process pid f s) ≡ total_size s
    by None none = ap total_size (unfound s pid f none)
    by (Some x) found = let all = total-changed s pid f x found in let here = same x in omega arith

-- ---- a loan is given back

-- the lender has the memory again, where there is room for it
back-replaces : (s : TracedSystem) (pid lender : ℕ) (p x : TracedProcess) → IsLawfulSystem s
    → IsLawfulProcess (pid, p) → total_size s + size_of p ≤ all_mappings_limit → IsLawfulProcess (lender, x)
    → x.borrower ≢ None → Replaces s s.files lender x (record x { space = p.space; borrower = p.borrower })
unfolding size_of
back-replaces s pid lender p x h own room lends-lawfully lends = record {
  lawful = λ it. record {
    has_lwps = record { some = it.has_lwps.some };
    empty_zombie =
        live-empty (record x { space = p.space; borrower = p.borrower }) (lending-lives lender x it lends);
    rising = it.rising;
    lwps = it.lwps;
    next_lwp = it.next_lwp;
    few_lwps = it.few_lwps;
    descriptors = it.descriptors;
    traced = it.traced;
    uncaught = it.uncaught;
    pending = it.pending;
    heap_place = own.heap_place;
    small_space = own.small_space;
  };
  parent = refl;
  ended = refl;
  mapped = omega arith;
  table = h.files.table;
  pipes = h.files.pipes;
  users = λ place. refl;
}

pub back-lawful : (s : TracedSystem) (pid : ℕ) (p : TracedProcess) (o : Option ℕ) → IsLawfulSystem s
    → IsLawfulProcess (pid, p) → total_size s + size_of p ≤ all_mappings_limit
    → IsLawfulSystem (with_process_if o (with_loan_back pid p) s)
unfolding with_loan_back LeavesOrReplaces
back-lawful s pid p o h own room =
    replaced_if s o (with_loan_back pid p) h (λ lender x found. by lender x found (is_id pid x.borrower) refl)
  where
    by : (lender : ℕ) (x : TracedProcess) → process_of s lender ≡ Some x → (b : Bool) → is_id pid x.borrower ≡ b
        → (cond b (record x { space = p.space; borrower = p.borrower }) x ≡ x)
        ⊎ ((lender ≢ 0) × Replaces s s.files lender x (cond b (record x { space = p.space; borrower = p.borrower }) x))
    by lender x found false is = inl refl
    by lender x found true is =
        let lends = is_id-some pid x.borrower is in
        let lawful = All-under IsLawfulProcess lender x s.processes h.processes found in
        inr (system-lends s lender x h found lends, back-replaces s pid lender p x h own room lawful lends)

-- ---- a borrower gets another lender

lender_of-keeps : (pid borrower : ℕ) (p x : TracedProcess) → StaysLawful borrower x (record x { lender = p.lender })
lender_of-keeps pid borrower p x =
    kept-parts borrower x (record x { lender = p.lender }) refl
    (same_rest x _ refl refl refl refl refl (λ it. it)) (same_lwps x _ refl refl) refl refl

lender_of-lawful : (s : TracedSystem) (pid : ℕ) (p : TracedProcess) (o : Option ℕ) → IsLawfulSystem s
    → IsLawfulSystem (with_process_if o (with_lender_of pid p) s)
unfolding with_lender_of LeavesOrReplaces
lender_of-lawful s pid p o h =
    replaced_if s o (with_lender_of pid p) h (λ borrower x found. by borrower x found (is_id pid x.lender) refl)
  where
    by : (borrower : ℕ) (x : TracedProcess) → process_of s borrower ≡ Some x → (b : Bool) → is_id pid x.lender ≡ b
        → (cond b (record x { lender = p.lender }) x ≡ x)
        ⊎ ((borrower ≢ 0) × Replaces s s.files borrower x (cond b (record x { lender = p.lender }) x))
    by borrower x found false is = inl refl
    by borrower x found true is = inr (
      system-borrows s borrower x h found (is_id-some pid x.lender is),
      kept-replaces s borrower x (record x { lender = p.lender }) h (lender_of-keeps pid borrower p x),
    )

lender_of-size : (pid : ℕ) (p x : TracedProcess) → size_of (with_lender_of pid p x) ≡ size_of x
unfolding with_lender_of size_of
lender_of-size pid p x =
    elim (is_id pid x.lender) as
    (λ b. size_of (cond b (record x { lender = p.lender }) x) ≡ size_of x) [ true ↦ refl | false ↦ refl ]

-- ---- an end passes on what was borrowed and lent

pub loans-lawful : (s : TracedSystem) (pid : ℕ) (p : TracedProcess) → IsLawfulSystem s → IsLawfulProcess (pid, p)
    → total_size s + size_of p ≤ all_mappings_limit → IsLawfulSystem (with_loans_passed pid p s)
unfolding with_loans_passed
loans-lawful s pid p h own room =
    let t : TracedSystem = with_process_if p.borrower (with_lender_of pid p) s in
    let same : total_size t ≡ total_size s =
    process_if-keeps (λ (u : TracedSystem). total_size u ≡ total_size s) p.borrower (with_lender_of pid p)
    (λ borrower u is. total-same u borrower (with_lender_of pid p) (lender_of-size pid p) ∙ is) s refl in
    back-lawful t pid p p.lender (lender_of-lawful s pid p p.borrower h) own (omega arith)

-- ---- a loan begins

lent-replaces : (s : TracedSystem) (pid child : ℕ) (p : TracedProcess) → IsLawfulSystem s → p.ended ≡ None
    → Replaces s s.files pid p (lent_to child p)
unfolding lent_to size_of
lent-replaces s pid child p h live = record {
  lawful = λ it. record {
    has_lwps = record { some = it.has_lwps.some };
    empty_zombie = live-empty (lent_to child p) live;
    rising = it.rising;
    lwps = it.lwps;
    next_lwp = it.next_lwp;
    few_lwps = it.few_lwps;
    descriptors = it.descriptors;
    traced = it.traced;
    uncaught = it.uncaught;
    pending = it.pending;
    heap_place = All-nil LeavesHeapPlace;
    small_space = omega arith;
  };
  parent = refl;
  ended = refl;
  mapped = let limit = h.mapped in omega arith;
  table = h.files.table;
  pipes = h.files.pipes;
  users = λ place. refl;
}

pub lent-lawful : (s : TracedSystem) (pid child : ℕ) (p : TracedProcess) → IsLawfulSystem s → pid ≢ 0
    → process_of s pid ≡ Some p → p.ended ≡ None → IsLawfulSystem (with_process pid (lent_to child) s)
lent-lawful s pid child p h user found live =
    replaced s s.files pid (lent_to child) p h user found (lent-replaces s pid child p h live)

-- the memory is its borrower's
pub lent-total : (s : TracedSystem) (pid child : ℕ) (p : TracedProcess) → process_of s pid ≡ Some p
    → total_size (with_process pid (lent_to child) s) + size_of p ≡ total_size s
unfolding lent_to size_of
lent-total s pid child p found = let all = total-changed s pid (lent_to child) p found in omega arith
