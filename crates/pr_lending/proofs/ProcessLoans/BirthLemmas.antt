use Rattle.std.proofs.Common.{◌≡◌, ◌≢◌, ◌<◌, ℕ, true, Option, Some, None, IsSome, List, [], refl, sym, ◌∙◌, ap, subst, arith, inl, inr}
use Rattle.std.specs.Option.{option_map}
use Rattle.std.proofs.lemmas.Bool.{cases_eq, false≢true}
use Rattle.std.proofs.lemmas.Option.{none-some, same_Some}
use Rattle.pr_num.specs.ById.{change_under, under}
use Rattle.pr_parts.specs.FileCalls.{with_all_shared}
use Rattle.pr_num.proofs.ByIdLaws.{under-change_under, under-change_under_other, under-inserted, under-inserted_other}
use Rattle.pr_lending.specs.Lending.{AreLending}
use Rattle.pr_model.specs.Lives.{Birth, by_fork, by_vfork, forked, lent_to, with_child, with_made}
use Rattle.pr_model.specs.Machines.{traced}
use Rattle.pr_model.specs.Readers.{borrower_at, lender_at, space_at}
use Rattle.pr_model.specs.State.{TracedLwp, TracedProcess, TracedSystem, live_process, process_of, with_process}
use Rattle.pr_lending.proofs.ProcessLoans.LifeLemmas.{IsOwner}
use Rattle.pr_lending.proofs.ProcessLoans.LoanLemmas.{borrower_in, lender_in, space_in, is_live_in, live-alike, KeepsLoans, lending-kept, loans-next, made-kept, processes-same}

-- Memory is lent in order where a process that has lent nothing makes a child, by fork or by vfork.

-- the next id is that of nobody, and above that of a process
pub record IsNextFree (s : TracedSystem) (pid : ℕ) : Type 0 where
  pub free : process_of s s.made ≡ None
  pub above : pid < s.made

module _ (s : TracedSystem) (pid : ℕ) (p : TracedProcess) (l : TracedLwp) (args : List ℕ) (h : AreLending s)
    (o : IsOwner s pid) (next : IsNextFree s pid) where
  -- the system as another one in all but its files
  abbrev as_shared : TracedSystem
  as_shared = record s { files = with_all_shared s.files p.fds }

  forked-kept : KeepsLoans s (with_child traced by_fork pid p l args s)
  unfolding with_child forked
  forked-kept =
      loans-next s as_shared (with_child traced by_fork pid p l args s) (processes-same s as_shared refl)
      (made-kept as_shared (forked traced by_fork pid p l args s.clock) next.free refl refl)

  -- ---- by vfork

  free-lends : borrower_at s s.made ≡ None
  unfolding borrower_at
  free-lends = ap borrower_in next.free

  free-borrows : lender_at s s.made ≡ None
  unfolding lender_at
  free-borrows = ap lender_in next.free

  abbrev then : TracedSystem
  then = with_child traced by_vfork pid p l args s

  -- what is seen of the child, of its lender, and of another process
  seen-child : {A : Type 0} (v : Option TracedProcess → A)
      → v (process_of then s.made) ≡ v (Some (forked traced by_vfork pid p l args s.clock))
  unfolding with_child with_made with_process
  seen-child v =
      ap v (under-inserted s.made (forked traced by_vfork pid p l args s.clock)
      (change_under pid (lent_to s.made) s.processes))

  seen-old : {A : Type 0} (v : Option TracedProcess → A) (x : ℕ) → s.made ≢ x
      → v (process_of then x) ≡ v (under x (change_under pid (lent_to s.made) s.processes))
  unfolding with_child with_made with_process
  seen-old v x apart =
      ap v (under-inserted_other s.made x (forked traced by_vfork pid p l args s.clock) apart
      (change_under pid (lent_to s.made) s.processes))

  seen-other : {A : Type 0} (v : Option TracedProcess → A) (x : ℕ) → s.made ≢ x → pid ≢ x
      → v (process_of then x) ≡ v (process_of s x)
  seen-other v x apart away =
      seen-old v x apart ∙ ap v (under-change_under_other pid x (lent_to s.made) away s.processes)

  seen-lender : {A : Type 0} (v : Option TracedProcess → A)
      → v (process_of then pid) ≡ v (option_map (lent_to s.made) (process_of s pid))
  seen-lender v =
      seen-old v pid (λ same. let above = next.above in absurd (omega arith))
      ∙ ap v (under-change_under pid (lent_to s.made) s.processes)

  -- the lender has lent to the child, the child borrows from it, and all others as before
  lender-lends : borrower_at then pid ≡ Some s.made
  unfolding borrower_at live_process lent_to
  lender-lends = seen-lender borrower_in ∙ by (process_of s pid) o.live
    where
      by : (found : Option TracedProcess) → is_live_in found ≡ true
          → borrower_in (option_map (lent_to s.made) found) ≡ Some s.made
      by None live = absurd (false≢true live)
      by (Some z) live = refl

  others-lend : (x : ℕ) → pid ≢ x → borrower_at then x ≡ borrower_at s x
  unfolding borrower_at forked
  others-lend x away = elim (cases_eq s.made x) [
    | inl here ↦ rw (← here) (seen-child borrower_in ∙ sym free-lends)
    | inr apart ↦ seen-other borrower_in x apart away
  ]

  child-borrows : lender_at then s.made ≡ Some pid
  unfolding lender_at forked
  child-borrows = seen-child lender_in

  others-borrow : (y : ℕ) → s.made ≢ y → lender_at then y ≡ lender_at s y
  unfolding lender_at lent_to
  others-borrow y apart = elim (cases_eq pid y) [
    | inl here ↦ rw (← here) (seen-lender lender_in ∙ by (process_of s pid))
    | inr away ↦ seen-other lender_in y apart away
  ]
    where
      by : (found : Option TracedProcess) → lender_in (option_map (lent_to s.made) found) ≡ lender_in found
      by None = refl
      by (Some z) = refl

  child-lives : IsSome (live_process then s.made)
  unfolding live_process forked
  child-lives = seen-child is_live_in

  all-live : (x : ℕ) → IsSome (live_process s x) → IsSome (live_process then x)
  unfolding live_process lent_to
  all-live x is = elim (cases_eq s.made x) [
    | inl here ↦ absurd (false≢true (sym (ap is_live_in (sym (ap (process_of s) here) ∙ next.free)) ∙ is))
    | inr apart ↦ elim (cases_eq pid x) [
      | inl same ↦
          rw (← same)
          (seen-lender is_live_in ∙ by (process_of s pid) ∙ ap (λ n. is_live_in (process_of s n)) same ∙ is)
      | inr away ↦ seen-other is_live_in x apart away ∙ is
    ]
  ]
    where
      by : (found : Option TracedProcess) → is_live_in (option_map (lent_to s.made) found) ≡ is_live_in found
      by None = refl
      by (Some z) = live-alike z (lent_to s.made z) refl

  lender-bare : space_at then pid ≡ []
  unfolding space_at lent_to
  lender-bare = seen-lender space_in ∙ by (process_of s pid)
    where
      by : (found : Option TracedProcess) → space_in (option_map (lent_to s.made) found) ≡ []
      by None = refl
      by (Some z) = refl

  lenders-bare : (x y : ℕ) → borrower_at s x ≡ Some y → space_at then x ≡ []
  unfolding space_at
  lenders-bare x y is = elim (cases_eq s.made x) [
    | inl here ↦ absurd (none-some y (sym free-lends ∙ ap (borrower_at s) here ∙ is))
    | inr apart ↦ elim (cases_eq pid x) [
      | inl same ↦ absurd (none-some y (sym o.own ∙ ap (borrower_at s) same ∙ is))
      | inr away ↦ seen-other space_in x apart away ∙ h.bare x y is
    ]
  ]

  -- one lends to another then: the caller to the child, or as before
  data Lends (x y : ℕ) : Type 0 where
    anew : pid ≡ x → s.made ≡ y → Lends x y
    still : borrower_at s x ≡ Some y → Lends x y

  lends : (x y : ℕ) → borrower_at then x ≡ Some y → Lends x y
  lends x y is = elim (cases_eq pid x) [
    | inl here ↦ anew here (same_Some s.made y (sym lender-lends ∙ ap (borrower_at then) here ∙ is))
    | inr away ↦ still (sym (others-lend x away) ∙ is)
  ]

  borrows : (x y : ℕ) → lender_at then y ≡ Some x → Lends x y
  borrows x y is = elim (cases_eq s.made y) [
    | inl here ↦ anew (same_Some pid x (sym child-borrows ∙ ap (lender_at then) here ∙ is)) here
    | inr apart ↦ still (h.borrowed x y (sym (others-borrow y apart) ∙ is))
  ]

  then-lent : (x y : ℕ) → Lends x y → lender_at then y ≡ Some x
  then-lent x y (anew from to) = ap (lender_at then) (sym to) ∙ child-borrows ∙ ap (λ n. Some n) from
  then-lent x y (still is) =
      let before = h.lent x y is in
      others-borrow y (λ same. none-some x (sym free-borrows ∙ ap (lender_at s) same ∙ before)) ∙ before

  then-borrowed : (x y : ℕ) → Lends x y → borrower_at then x ≡ Some y
  then-borrowed x y (anew from to) = ap (borrower_at then) (sym from) ∙ lender-lends ∙ ap (λ n. Some n) to
  then-borrowed x y (still is) =
      others-lend x (λ same. none-some y (sym o.own ∙ ap (borrower_at s) same ∙ is)) ∙ is

  then-younger : (x y : ℕ) → Lends x y → x < y
  then-younger x y (anew from to) = let above = next.above in omega arith
  then-younger x y (still is) = h.younger x y is

  then-lives : (x y : ℕ) → Lends x y → IsSome (live_process then x) × IsSome (live_process then y)
  then-lives x y (anew from to) = (
    subst (λ n. IsSome (live_process then n)) from (all-live pid o.live),
    subst (λ n. IsSome (live_process then n)) to child-lives,
  )
  then-lives x y (still is) = let both = h.lives x y is in (all-live x both.0, all-live y both.1)

  then-bare : (x y : ℕ) → Lends x y → space_at then x ≡ []
  then-bare x y (anew from to) = ap (space_at then) (sym from) ∙ lender-bare
  then-bare x y (still is) = lenders-bare x y is

  vforked-lends : AreLending then
  vforked-lends = record {
    lent = λ x y is. then-lent x y (lends x y is);
    borrowed = λ x y is. then-borrowed x y (borrows x y is);
    younger = λ x y is. then-younger x y (lends x y is);
    lives = λ x y is. then-lives x y (lends x y is);
    bare = λ x y is. then-bare x y (lends x y is);
  }

  pub lending-born : (birth : Birth) → AreLending (with_child traced birth pid p l args s)
  lending-born by_fork = lending-kept s (with_child traced by_fork pid p l args s) forked-kept h
  lending-born by_vfork = vforked-lends
