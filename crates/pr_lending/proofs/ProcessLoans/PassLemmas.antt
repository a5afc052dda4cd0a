use Rattle.std.proofs.Common.{◌≡◌, ◌≢◌, ◌⊎◌, ◌<◌, ℕ, true, false, cond, Option, Some, None, IsSome, [], refl, sym, ◌∙◌, ap, arith, inl, inr}
use Rattle.std.specs.Option.{option_map}
use Rattle.std.proofs.lemmas.Bool.{cases_eq, eq-eqb, ne_eqb}
use Rattle.std.proofs.lemmas.Option.{none-some, same_Some}
use Rattle.pr_num.specs.Spaces.{Space}
use Rattle.pr_num.proofs.ByIdLaws.{under-change_under, under-change_under_other}
use Rattle.pr_lending.specs.Lending.{AreLending}
use Rattle.pr_model.specs.Lives.{is_id, with_loan_back, with_lender_of, with_loans_passed}
use Rattle.pr_model.specs.Readers.{borrower_at, lender_at, space_at}
use Rattle.pr_model.specs.State.{TracedProcess, TracedSystem, live_process, process_of, with_process, with_process_if}
use Rattle.pr_lending.proofs.ProcessLoans.LoanLemmas.{borrower_in, lender_in, space_in, is_live_in, live-alike, same-of}

-- A process that ends or runs another program passes on what it lent and borrowed, and memory is lent in order still.

-- ---- whose memory it is once a process has passed it on

-- who stands where a process stood, if one did
abbrev pub passed : ℕ → Option ℕ → Option ℕ → Option ℕ
passed pid to o = cond (is_id pid o) to o

is_id-same : (pid : ℕ) → is_id pid (Some pid) ≡ true
is_id-same pid = eq-eqb pid pid refl

is_id-other : (pid : ℕ) (o : Option ℕ) → o ≢ Some pid → is_id pid o ≡ false
is_id-other pid None apart = refl
is_id-other pid (Some other) apart = ne_eqb other pid (λ same. apart (ap (λ n. Some n) same))

passed-other : (pid : ℕ) (to o : Option ℕ) → o ≢ Some pid → passed pid to o ≡ o
passed-other pid to o apart = ap (λ b. cond b to o) (is_id-other pid o apart)

passed-same : (pid : ℕ) (to o : Option ℕ) → o ≡ Some pid → passed pid to o ≡ to
passed-same pid to o here = ap (λ b. cond b to o) (ap (is_id pid) here ∙ is_id-same pid)

-- where one stands then, he stood there, or where the process led to him
passed-cases : (pid : ℕ) (to o : Option ℕ) (y : ℕ) → passed pid to o ≡ Some y
    → ((o ≡ Some pid) × (to ≡ Some y)) ⊎ ((o ≡ Some y) × (y ≢ pid))
passed-cases pid to None y is = absurd (none-some y is)
passed-cases pid to (Some other) y is = elim (cases_eq other pid) [
  | inl here ↦ inl (ap (λ n. Some n) here, sym (passed-same pid to (Some other) (ap (λ n. Some n) here)) ∙ is)
  | inr apart ↦
      let still = sym (passed-other pid to (Some other) (λ same. apart (same_Some other pid same))) ∙ is in
      inr (still, λ same. apart (same_Some other y still ∙ same))
]

-- ---- what is so of both systems

-- a process that is said to be as it stands: it lends and borrows so, and has nothing of its own where it has lent that
pub record Stands (s : TracedSystem) (pid : ℕ) (p : TracedProcess) : Type 0 where
  pub borrower : borrower_at s pid ≡ p.borrower
  pub lender : lender_at s pid ≡ p.lender
  pub space : (child : ℕ) → p.borrower ≡ Some child → p.space ≡ []

-- In the second system a process of the first one has no loan any more: who had lent to it has its memory, and lends to
-- its borrower.
pub record PassesLoans (s t : TracedSystem) (pid : ℕ) (p : TracedProcess) : Type 0 where
  pub own_borrower : borrower_at t pid ≡ None
  pub own_lender : lender_at t pid ≡ None
  pub borrower : (x : ℕ) → pid ≢ x → borrower_at t x ≡ passed pid p.borrower (borrower_at s x)
  pub lender : (x : ℕ) → pid ≢ x → lender_at t x ≡ passed pid p.lender (lender_at s x)
  pub lives : (x : ℕ) → pid ≢ x → IsSome (live_process s x) → IsSome (live_process t x)
  pub space : (x : ℕ) → pid ≢ x → space_at t x ≡ cond (is_id pid (borrower_at s x)) p.space (space_at s x)

module _ (s t : TracedSystem) (pid : ℕ) (p : TracedProcess) (h : AreLending s) (stands : Stands s pid p)
    (it : PassesLoans s t pid p) where
  -- who lends to whom then did before, or by way of the process
  data Lends (x y : ℕ) : Type 0 where
    still : pid ≢ x → pid ≢ y → borrower_at s x ≡ Some y → Lends x y
    through : pid ≢ x → pid ≢ y → borrower_at s x ≡ Some pid → borrower_at s pid ≡ Some y → Lends x y

  others : (x y : ℕ) → borrower_at s x ≡ Some y → x ≢ y
  others x y is same = let less = h.younger x y is in absurd (omega arith)

  lends : (x y : ℕ) → borrower_at t x ≡ Some y → Lends x y
  lends x y is = elim (cases_eq pid x) [
    | inl here ↦ absurd (none-some y (sym it.own_borrower ∙ ap (borrower_at t) here ∙ is))
    | inr apart ↦ elim (passed-cases pid p.borrower (borrower_at s x) y (sym (it.borrower x apart) ∙ is)) [
      | inl way ↦ through apart (others pid y (stands.borrower ∙ way.1)) way.0 (stands.borrower ∙ way.1)
      | inr direct ↦ still apart (λ same. direct.1 (sym same)) direct.0
    ]
  ]

  borrows : (x y : ℕ) → lender_at t y ≡ Some x → Lends x y
  borrows x y is = elim (cases_eq pid y) [
    | inl here ↦ absurd (none-some x (sym it.own_lender ∙ ap (lender_at t) here ∙ is))
    | inr apart ↦ elim (passed-cases pid p.lender (lender_at s y) x (sym (it.lender y apart) ∙ is)) [
      | inl way ↦
          let before = h.borrowed x pid (stands.lender ∙ way.1) in
          through (λ same. others x pid before (sym same)) apart before (h.borrowed pid y way.0)
      | inr direct ↦ still (λ same. direct.1 (sym same)) apart (h.borrowed x y direct.0)
    ]
  ]

  then-lent : (x y : ℕ) → Lends x y → lender_at t y ≡ Some x
  then-lent x y (still own apart is) =
      it.lender y apart
      ∙ passed-other pid p.lender (lender_at s y) (λ same. own (sym (same_Some x pid (sym (h.lent x y is) ∙ same))))
      ∙ h.lent x y is
  then-lent x y (through own apart to on) =
      it.lender y apart ∙ passed-same pid p.lender (lender_at s y) (h.lent pid y on) ∙ sym stands.lender
      ∙ h.lent x pid to

  then-borrowed : (x y : ℕ) → Lends x y → borrower_at t x ≡ Some y
  then-borrowed x y (still own apart is) =
      it.borrower x own
      ∙ passed-other pid p.borrower (borrower_at s x) (λ same. apart (sym (same_Some y pid (sym is ∙ same))))
      ∙ is
  then-borrowed x y (through own apart to on) =
      it.borrower x own ∙ passed-same pid p.borrower (borrower_at s x) to ∙ sym stands.borrower ∙ on

  then-younger : (x y : ℕ) → Lends x y → x < y
  then-younger x y (still own apart is) = h.younger x y is
  then-younger x y (through own apart to on) =
      let first = h.younger x pid to in let next = h.younger pid y on in omega arith

  then-lives : (x y : ℕ) → Lends x y → IsSome (live_process t x) × IsSome (live_process t y)
  then-lives x y (still own apart is) =
      let both = h.lives x y is in (it.lives x own both.0, it.lives y apart both.1)
  then-lives x y (through own apart to on) =
      (it.lives x own (h.lives x pid to).0, it.lives y apart (h.lives pid y on).1)

  then-bare : (x y : ℕ) → Lends x y → space_at t x ≡ []
  then-bare x y (still own apart is) =
      it.space x own
      ∙ ap (λ b. cond b p.space (space_at s x))
      (is_id-other pid (borrower_at s x) (λ same. apart (sym (same_Some y pid (sym is ∙ same)))))
      ∙ h.bare x y is
  then-bare x y (through own apart to on) =
      it.space x own ∙ ap (λ b. cond b p.space (space_at s x)) (ap (is_id pid) to ∙ is_id-same pid)
      ∙ stands.space y (sym stands.borrower ∙ on)

  pub lending-passed : AreLending t
  lending-passed = record {
    lent = λ x y is. then-lent x y (lends x y is);
    borrowed = λ x y is. then-borrowed x y (borrows x y is);
    younger = λ x y is. then-younger x y (lends x y is);
    lives = λ x y is. then-lives x y (lends x y is);
    bare = λ x y is. then-bare x y (lends x y is);
  }

-- ---- what passing loans on makes of the other processes

-- What is seen of a process where the process of an id, if that is one, is changed: what the change makes of it, if it
-- makes nothing of what is seen of the others.
seen-changed : {A : Type 0} (v : Option TracedProcess → A) (g : A → A) (o : Option ℕ)
    (f : TracedProcess → TracedProcess) (s : TracedSystem) (x : ℕ)
    → ((z : TracedProcess) → v (Some (f z)) ≡ g (v (Some z))) → g (v None) ≡ v None
    → (o ≢ Some x → g (v (process_of s x)) ≡ v (process_of s x))
    → v (process_of (with_process_if o f s) x) ≡ g (v (process_of s x))
unfolding with_process
seen-changed v g None f s x change none other = sym (other (λ same. none-some x same))
seen-changed v g (Some y) f s x change none other =
    elim (cases_eq y x) [
      | inl here ↦ rw (← here) (ap v (under-change_under y f s.processes) ∙ by (process_of s y))
      | inr apart ↦
          ap v (under-change_under_other y x f apart s.processes) ∙ sym (other (λ same. apart (same_Some y x same)))
    ]
  where
    by : (o : Option TracedProcess) → v (option_map f o) ≡ g (v o)
    by None = sym none
    by (Some z) = change z

-- a system as another one, but for a process which has no loan any more
pub record IsFree (s t : TracedSystem) (pid : ℕ) : Type 0 where
  pub own_borrower : borrower_at t pid ≡ None
  pub own_lender : lender_at t pid ≡ None
  pub borrower : (x : ℕ) → pid ≢ x → borrower_at t x ≡ borrower_at s x
  pub lender : (x : ℕ) → pid ≢ x → lender_at t x ≡ lender_at s x
  pub lives : (x : ℕ) → pid ≢ x → IsSome (live_process s x) → IsSome (live_process t x)
  pub space : (x : ℕ) → pid ≢ x → space_at t x ≡ space_at s x

-- what is seen of a process itself: whom it lent to, and its memory
abbrev own_in : Option TracedProcess → Option ℕ × Space
own_in o = (borrower_in o, space_in o)

-- the same once a process gave its memory and its borrower back
abbrev given_back : ℕ → TracedProcess → Option ℕ × Space → Option ℕ × Space
given_back pid p own = (passed pid p.borrower own.0, cond (is_id pid own.0) p.space own.1)

module _ (pid : ℕ) (p z : TracedProcess) where
  abbrev onto : TracedProcess
  onto = record z { lender = p.lender }

  abbrev back : TracedProcess
  back = record z { space = p.space; borrower = p.borrower }

  onto-lender : (with_lender_of pid p z).lender ≡ passed pid p.lender z.lender
  unfolding with_lender_of
  onto-lender =
      elim (is_id pid z.lender) as
      (λ b. (cond b onto z).lender ≡ cond b p.lender z.lender) [ true ↦ refl | false ↦ refl ]

  onto-own : own_in (Some (with_lender_of pid p z)) ≡ own_in (Some z)
  unfolding with_lender_of
  onto-own = same-of (λ x. own_in (Some x)) (is_id pid z.lender) onto z refl

  onto-live : is_live_in (Some (with_lender_of pid p z)) ≡ is_live_in (Some z)
  unfolding with_lender_of
  onto-live = live-alike z (with_lender_of pid p z) (same-of (λ x. x.ended) (is_id pid z.lender) onto z refl)

  back-lender : (with_loan_back pid p z).lender ≡ z.lender
  unfolding with_loan_back
  back-lender = same-of (λ x. x.lender) (is_id pid z.borrower) back z refl

  back-own : own_in (Some (with_loan_back pid p z)) ≡ given_back pid p (own_in (Some z))
  unfolding with_loan_back
  back-own =
      elim (is_id pid z.borrower) as
      (λ b. own_in (Some (cond b back z)) ≡ (cond b p.borrower z.borrower, cond b p.space z.space))
      [ true ↦ refl | false ↦ refl ]

  back-live : is_live_in (Some (with_loan_back pid p z)) ≡ is_live_in (Some z)
  unfolding with_loan_back
  back-live = live-alike z (with_loan_back pid p z) (same-of (λ x. x.ended) (is_id pid z.borrower) back z refl)

module _ (s t : TracedSystem) (pid : ℕ) (p : TracedProcess) (h : AreLending s) (stands : Stands s pid p)
    (free : IsFree s t pid) where
  -- its borrower has its lender; its lender has its borrower and its memory
  lent : TracedSystem
  lent = with_process_if p.borrower (with_lender_of pid p) t

  lender-sought : (x : ℕ) → p.borrower ≢ Some x → lender_at t x ≢ Some pid
  lender-sought x other is = elim (cases_eq pid x) [
    | inl here ↦ absurd (none-some pid (sym free.own_lender ∙ ap (lender_at t) here ∙ is))
    | inr apart ↦ other (sym stands.borrower ∙ h.borrowed pid x (sym (free.lender x apart) ∙ is))
  ]

  borrower-sought : (x : ℕ) → p.lender ≢ Some x → borrower_at t x ≢ Some pid
  borrower-sought x other is = elim (cases_eq pid x) [
    | inl here ↦ absurd (none-some pid (sym free.own_borrower ∙ ap (borrower_at t) here ∙ is))
    | inr apart ↦ other (sym stands.lender ∙ h.lent x pid (sym (free.borrower x apart) ∙ is))
  ]

  lender-passed : (x : ℕ) → lender_at (with_loans_passed pid p t) x ≡ passed pid p.lender (lender_at t x)
  unfolding lender_at with_loans_passed lent
  lender-passed x =
      seen-changed lender_in (λ o. o) p.lender (with_loan_back pid p) lent x (back-lender pid p) refl (λ other. refl)
      ∙ seen-changed lender_in (passed pid p.lender) p.borrower (with_lender_of pid p) t x (onto-lender pid p) refl
      (λ other. passed-other pid p.lender (lender_at t x) (lender-sought x other))

  own-lent : (x : ℕ) → own_in (process_of lent x) ≡ own_in (process_of t x)
  unfolding lent
  own-lent x =
      seen-changed own_in (λ own. own) p.borrower (with_lender_of pid p) t x (onto-own pid p) refl (λ other. refl)

  own-unsought : (x : ℕ) → p.lender ≢ Some x
      → given_back pid p (own_in (process_of t x)) ≡ own_in (process_of t x)
  unfolding borrower_at
  own-unsought x other =
      ap (λ b. (cond b p.borrower (borrower_in (process_of t x)), cond b p.space (space_in (process_of t x))))
      (is_id-other pid (borrower_in (process_of t x)) (borrower-sought x other))

  own-passed : (x : ℕ) → own_in (process_of (with_loans_passed pid p t) x) ≡ given_back pid p (own_in (process_of t x))
  unfolding with_loans_passed lent
  own-passed x =
      seen-changed own_in (given_back pid p) p.lender (with_loan_back pid p) lent x (back-own pid p) refl
      (λ other. ap (given_back pid p) (own-lent x) ∙ own-unsought x other ∙ sym (own-lent x))
      ∙ ap (given_back pid p) (own-lent x)

  live-passed : (x : ℕ) → is_live_in (process_of (with_loans_passed pid p t) x) ≡ is_live_in (process_of t x)
  unfolding with_loans_passed lent
  live-passed x =
      seen-changed is_live_in (λ b. b) p.lender (with_loan_back pid p) lent x (back-live pid p) refl (λ other. refl)
      ∙ seen-changed is_live_in (λ b. b) p.borrower (with_lender_of pid p) t x (onto-live pid p) refl (λ other. refl)

  pub loans-passed : PassesLoans s (with_loans_passed pid p t) pid p
  unfolding borrower_at space_at live_process
  loans-passed = record {
    own_borrower = ap (λ own. own.0) (own-passed pid) ∙ ap (passed pid p.borrower) free.own_borrower;
    own_lender = lender-passed pid ∙ ap (passed pid p.lender) free.own_lender;
    borrower = λ x apart. ap (λ own. own.0) (own-passed x) ∙ ap (passed pid p.borrower) (free.borrower x apart);
    lender = λ x apart. lender-passed x ∙ ap (passed pid p.lender) (free.lender x apart);
    lives = λ x apart is. live-passed x ∙ free.lives x apart is;
    space = λ x apart.
        ap (λ own. own.1) (own-passed x)
        ∙ ap (λ o. cond (is_id pid o) p.space (space_at t x)) (free.borrower x apart)
        ∙ ap (cond (is_id pid (borrower_at s x)) p.space) (free.space x apart);
  }

  pub lending-freed : AreLending (with_loans_passed pid p t)
  lending-freed = lending-passed s (with_loans_passed pid p t) pid p h stands loans-passed
