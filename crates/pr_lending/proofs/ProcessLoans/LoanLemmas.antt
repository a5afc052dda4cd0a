use Rattle.std.proofs.Common.{◌≡◌, ℕ, Bool, true, false, is_none, is_some, cond, Option, Some, None, IsSome, [], refl, sym, ◌∙◌, ap, inl, inr}
use Rattle.std.specs.Option.{option_and_then, option_map}
use Rattle.std.proofs.lemmas.Bool.{cases_eq, false≢true}
use Rattle.std.proofs.lemmas.Option.{none-some}
use Rattle.pr_num.specs.ById.{IsRising, inserted, under, without_id}
use Rattle.pr_num.specs.Spaces.{Space}
use Rattle.pr_num.proofs.ByIdLaws.{under-change_under, under-change_under_other, under-inserted, under-inserted_other, under-without_id, under-without_id_other}
use Rattle.pr_lending.specs.Lending.{AreLending}
use Rattle.pr_model.specs.Lives.{with_made, with_reaped}
use Rattle.pr_model.specs.Readers.{borrower_at, lender_at, space_at}
use Rattle.pr_model.specs.State.{TracedProcess, TracedSystem, if_live, live_process, process_of, with_process}

-- What is so of lent memory is so of who lends to whom. Most changes keep that.

-- ---- what is seen of a process, if there is one

abbrev pub borrower_in : Option TracedProcess → Option ℕ
borrower_in None = None
borrower_in (Some p) = p.borrower

abbrev pub lender_in : Option TracedProcess → Option ℕ
lender_in None = None
lender_in (Some p) = p.lender

abbrev pub space_in : Option TracedProcess → Space
space_in None = []
space_in (Some p) = p.space

abbrev pub is_live_in : Option TracedProcess → Bool
is_live_in o = is_some (option_and_then if_live o)

pub borrower-found : (s : TracedSystem) (pid : ℕ) (p : TracedProcess) → process_of s pid ≡ Some p
    → borrower_at s pid ≡ p.borrower
unfolding borrower_at
borrower-found s pid p found = ap borrower_in found

pub lender-found : (s : TracedSystem) (pid : ℕ) (p : TracedProcess) → process_of s pid ≡ Some p
    → lender_at s pid ≡ p.lender
unfolding lender_at
lender-found s pid p found = ap lender_in found

pub space-found : (s : TracedSystem) (pid : ℕ) (p : TracedProcess) → process_of s pid ≡ Some p
    → space_at s pid ≡ p.space
unfolding space_at
space-found s pid p found = ap space_in found

-- two processes are live alike where they have ended alike
pub live-of : (x : TracedProcess) → is_live_in (Some x) ≡ is_none x.ended
live-of x = elim (is_none x.ended) as (λ b. is_some (cond b (Some x) None) ≡ b) [ true ↦ refl | false ↦ refl ]

pub live-alike : (x y : TracedProcess) → y.ended ≡ x.ended → is_live_in (Some y) ≡ is_live_in (Some x)
live-alike x y same = live-of y ∙ ap (λ (o : Option ℕ). is_none o) same ∙ sym (live-of x)

-- what is the same of two processes is so of either
pub same-of : {A : Type 0} (v : TracedProcess → A) (b : Bool) (y z : TracedProcess) → v y ≡ v z → v (cond b y z) ≡ v z
same-of v true y z same = same
same-of v false y z same = refl

-- ---- who lends to whom is as before

-- Two systems, where in the second one the same lend to the same as in the first, who was live is live, and who has
-- lent his memory has of his own what he had.
pub record KeepsLoans (s t : TracedSystem) : Type 0 where
  pub borrower : (x : ℕ) → borrower_at t x ≡ borrower_at s x
  pub lender : (x : ℕ) → lender_at t x ≡ lender_at s x
  pub lives : (x : ℕ) → IsSome (live_process s x) → IsSome (live_process t x)
  pub space : (x y : ℕ) → borrower_at s x ≡ Some y → space_at t x ≡ space_at s x

pub loans-same : (s : TracedSystem) → KeepsLoans s s
loans-same s = record { borrower = λ x. refl; lender = λ x. refl; lives = λ x is. is; space = λ x y is. refl }

pub loans-next : (s t u : TracedSystem) → KeepsLoans s t → KeepsLoans t u → KeepsLoans s u
loans-next s t u first next = record {
  borrower = λ x. next.borrower x ∙ first.borrower x;
  lender = λ x. next.lender x ∙ first.lender x;
  lives = λ x is. next.lives x (first.lives x is);
  space = λ x y is. next.space x y (first.borrower x ∙ is) ∙ first.space x y is;
}

-- memory is lent in order still
pub lending-kept : (s t : TracedSystem) → KeepsLoans s t → AreLending s → AreLending t
lending-kept s t k h = record {
  lent = λ x y is. k.lender y ∙ h.lent x y (sym (k.borrower x) ∙ is);
  borrowed = λ x y is. k.borrower x ∙ h.borrowed x y (sym (k.lender y) ∙ is);
  younger = λ x y is. h.younger x y (sym (k.borrower x) ∙ is);
  lives = λ x y is. let both = h.lives x y (sym (k.borrower x) ∙ is) in (k.lives x both.0, k.lives y both.1);
  bare = λ x y is. let was = sym (k.borrower x) ∙ is in k.space x y was ∙ h.bare x y was;
}

-- the same processes
pub processes-same : (s t : TracedSystem) → t.processes ≡ s.processes → KeepsLoans s t
unfolding borrower_at lender_at space_at live_process
processes-same s t same = record {
  borrower = λ x. ap (λ ps. borrower_in (under x ps)) same;
  lender = λ x. ap (λ ps. lender_in (under x ps)) same;
  lives = λ x is. ap (λ ps. is_live_in (under x ps)) same ∙ is;
  space = λ x y is. ap (λ ps. space_in (under x ps)) same;
}

-- ---- a process is changed in its place

-- What is seen of a process is as before where the process of an id is changed, and this is seen of it as before.
pub seen-kept : {A : Type 0} (v : Option TracedProcess → A) (s : TracedSystem) (pid : ℕ)
    (f : TracedProcess → TracedProcess) (x : ℕ)
    → ((z : TracedProcess) → process_of s pid ≡ Some z → pid ≡ x → v (Some (f z)) ≡ v (Some z))
    → v (process_of (with_process pid f s) x) ≡ v (process_of s x)
unfolding with_process
seen-kept v s pid f x same =
    elim (cases_eq pid x) [
      | inl here ↦ rw (← here) (ap v (under-change_under pid f s.processes) ∙ by (process_of s pid) refl here)
      | inr apart ↦ ap v (under-change_under_other pid x f apart s.processes)
    ]
  where
    by : (o : Option TracedProcess) → process_of s pid ≡ o → pid ≡ x → v (option_map f o) ≡ v o
    by None none here = refl
    by (Some z) found here = same z found here

-- A process in the place of another one: it lends, borrows and has ended as that one, and has of its own what that has,
-- where that has lent its memory.
pub record SameLoans (x y : TracedProcess) : Type 0 where
  pub borrower : y.borrower ≡ x.borrower
  pub lender : y.lender ≡ x.lender
  pub ended : y.ended ≡ x.ended
  pub space : (child : ℕ) → x.borrower ≡ Some child → y.space ≡ x.space

-- where none of that is changed
pub alike-loans : (x y : TracedProcess) → y.borrower ≡ x.borrower → y.lender ≡ x.lender → y.ended ≡ x.ended
    → y.space ≡ x.space → SameLoans x y
alike-loans x y borrower lender ended space =
    record { borrower = borrower; lender = lender; ended = ended; space = λ child is. space }

pub same-loans : (x : TracedProcess) → SameLoans x x
same-loans x = alike-loans x x refl refl refl refl

pub next-loans : (x y z : TracedProcess) → SameLoans x y → SameLoans y z → SameLoans x z
next-loans x y z first next = record {
  borrower = next.borrower ∙ first.borrower;
  lender = next.lender ∙ first.lender;
  ended = next.ended ∙ first.ended;
  space = λ child is. next.space child (first.borrower ∙ is) ∙ first.space child is;
}

pub process-kept : (s : TracedSystem) (pid : ℕ) (f : TracedProcess → TracedProcess)
    → ((z : TracedProcess) → process_of s pid ≡ Some z → SameLoans z (f z)) → KeepsLoans s (with_process pid f s)
unfolding borrower_at lender_at space_at live_process
process-kept s pid f keeps = record {
  borrower = λ x. seen-kept borrower_in s pid f x (λ z found here. (keeps z found).borrower);
  lender = λ x. seen-kept lender_in s pid f x (λ z found here. (keeps z found).lender);
  lives = λ x is. seen-kept is_live_in s pid f x (λ z found here. live-alike z (f z) (keeps z found).ended) ∙ is;
  space = λ x y is.
      seen-kept space_in s pid f x
      (λ z found here. (keeps z found).space y
      (sym (ap borrower_in found) ∙ ap (λ n. borrower_in (process_of s n)) here ∙ is));
}

-- ---- a process is made, or a zombie reaped

-- a new process that neither lends nor borrows
pub made-kept : (s : TracedSystem) (p : TracedProcess) → process_of s s.made ≡ None → p.borrower ≡ None
    → p.lender ≡ None → KeepsLoans s (with_made p s)
unfolding borrower_at lender_at space_at live_process with_made
made-kept s p free lends_not borrows_not = record {
  borrower = λ x. seen borrower_in x (lends_not ∙ refl);
  lender = λ x. seen lender_in x (borrows_not ∙ refl);
  lives = λ x is. elim (cases_eq s.made x) [
    | inl here ↦ absurd (false≢true (sym (ap is_live_in (sym (ap (process_of s) here) ∙ free)) ∙ is))
    | inr apart ↦ ap is_live_in (under-inserted_other s.made x p apart s.processes) ∙ is
  ];
  space = λ x y is. elim (cases_eq s.made x) [
    | inl here ↦ absurd (none-some y (sym (ap borrower_in (sym (ap (process_of s) here) ∙ free)) ∙ is))
    | inr apart ↦ ap space_in (under-inserted_other s.made x p apart s.processes)
  ];
}
  where
    seen : {A : Type 0} (v : Option TracedProcess → A) (x : ℕ) → v (Some p) ≡ v None
        → v (under x (inserted s.made p s.processes)) ≡ v (process_of s x)
    seen v x same =
        elim (cases_eq s.made x) [
          | inl here ↦ rw (← here) (ap v (under-inserted s.made p s.processes) ∙ same ∙ ap v (sym free))
          | inr apart ↦ ap v (under-inserted_other s.made x p apart s.processes)
        ]

-- who has ended neither lends nor borrows
pub record IsZombie (s : TracedSystem) (pid : ℕ) : Type 0 where
  pub rising : IsRising s.processes
  pub zombie : TracedProcess
  pub status : ℕ
  pub found : process_of s pid ≡ Some zombie
  pub over : zombie.ended ≡ Some status

pub zombie-dead : (s : TracedSystem) (pid : ℕ) → IsZombie s pid → IsSome (live_process s pid) → ⊥
unfolding live_process
zombie-dead s pid it is =
    let dead : is_none it.zombie.ended ≡ false = rw it.over refl in
    let none : is_live_in (Some it.zombie) ≡ false = rw dead refl in
    false≢true (sym none ∙ sym (ap is_live_in it.found) ∙ is)

pub reaped-kept : (s : TracedSystem) (pid : ℕ) → AreLending s → IsZombie s pid → KeepsLoans s (with_reaped pid s)
unfolding borrower_at lender_at space_at live_process with_reaped
reaped-kept s pid h it = record {
  borrower = λ x. seen borrower_in x (lends-not (borrower_at s pid) refl);
  lender = λ x. seen lender_in x (borrows-not (lender_at s pid) refl);
  lives = λ x is. elim (cases_eq pid x) [
    | inl here ↦ absurd (zombie-dead s pid it (ap (λ n. is_live_in (process_of s n)) here ∙ is))
    | inr apart ↦ ap is_live_in (under-without_id_other pid x apart s.processes) ∙ is
  ];
  space = λ x y is. elim (cases_eq pid x) [
    | inl here ↦ absurd (zombie-dead s pid it (h.lives pid y (ap (λ n. borrower_in (process_of s n)) here ∙ is)).0)
    | inr apart ↦ ap space_in (under-without_id_other pid x apart s.processes)
  ];
}
  where
    lends-not : (o : Option ℕ) → borrower_at s pid ≡ o → o ≡ None
    lends-not None is = refl
    lends-not (Some y) is = absurd (zombie-dead s pid it (h.lives pid y is).0)

    borrows-not : (o : Option ℕ) → lender_at s pid ≡ o → o ≡ None
    borrows-not None is = refl
    borrows-not (Some x) is = absurd (zombie-dead s pid it (h.lives x pid (h.borrowed x pid is)).1)

    seen : {A : Type 0} (v : Option TracedProcess → A) (x : ℕ) → v (process_of s pid) ≡ v None
        → v (under x (without_id pid s.processes)) ≡ v (process_of s x)
    seen v x same =
        elim (cases_eq pid x) [
          | inl here ↦ rw (← here) (ap v (under-without_id 0 pid s.processes it.rising) ∙ sym same)
          | inr apart ↦ ap v (under-without_id_other pid x apart s.processes)
        ]
