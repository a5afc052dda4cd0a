use Rattle.std.proofs.Common.{◌≡◌, ◌<◌, ◌≤◌, ◌+◌, ℕ, zero, suc, Option, Some, None, IsSome, refl, sym, subst, ap, ◌∙◌, arith}
use Rattle.std.proofs.lemmas.Bool.{false≢true}
use Rattle.std.proofs.lemmas.Option.{none-some, same_Some}
use Rattle.pr_keeps.proofs.LoanLemmas.{own-space}
use Rattle.pr_lending.proofs.ProcessLoans.LoanLemmas.{borrower-found, space-found}
use Rattle.pr_lending.proofs.ShownSpaces.SpaceLemmas.{shown-alike}
use Rattle.pr_lending.specs.Lending.{AreLending}
use Rattle.pr_model.proofs.StateLemmas.{live_process-found}
use Rattle.pr_model.specs.Lawful.{IsLawfulSystem, IsNumberedBelow}
use Rattle.pr_model.specs.Readers.{borrower_at, space_at, space_seen}
use Rattle.pr_model.specs.State.{TracedProcess, TracedSystem, live_process, process_of}
use Rattle.pr_num.proofs.ByIdLaws.{All-under}
use Rattle.pr_num.specs.Spaces.{Space}

-- The memory that a process shows: its own, or that of the last of those to whom it was lent on.

-- so it is of the memory of the last of the borrowers that begin with a process
pub data Shows (P : Space → Type 0) (s : TracedSystem) : ℕ → Type 0 where
  its_own : {a : ℕ} → borrower_at s a ≡ None → P (space_at s a) → Shows P s a
  of_borrower : {a : ℕ} (b : ℕ) → borrower_at s a ≡ Some b → Shows P s b → Shows P s a

-- a process is that of an id, or its memory was lent on to it
pub data HasMemoryOf (s : TracedSystem) (pid : ℕ) : ℕ → Type 0 where
  itself : HasMemoryOf s pid pid
  lent_on : {a b : ℕ} → HasMemoryOf s pid a → borrower_at s a ≡ Some b → HasMemoryOf s pid b

-- ---- from one system to another

-- What became of one of them. It lends to the same later, which stays, or its own memory is so still; or it has back
-- what it lent, or lends it to whom its borrower lent it, who stays.
pub data Moves (P : Space → Type 0) (s t : TracedSystem) (Stays : ℕ → Type 0) (a : ℕ) : Type 0 where
  stays : borrower_at t a ≡ borrower_at s a → ((b : ℕ) → borrower_at s a ≡ Some b → Stays b)
      → (borrower_at s a ≡ None → P (space_at s a) → P (space_at t a)) → Moves P s t Stays a
  gets_back : (b : ℕ) → borrower_at s a ≡ Some b → borrower_at t a ≡ borrower_at s b → space_at t a ≡ space_at s b
      → ((c : ℕ) → borrower_at s b ≡ Some c → Stays c) → Moves P s t Stays a

module _ (P : Space → Type 0) (s t : TracedSystem) (pid : ℕ) (Stays : ℕ → Type 0)
    (each : (a : ℕ) → HasMemoryOf s pid a → Stays a → Moves P s t Stays a) where
  -- one that stays shows it later, and so does who has later what it had
  record Goes (a : ℕ) : Type 0 where
    shows : HasMemoryOf s pid a → Stays a → Shows P t a
    taken : (x : ℕ) → HasMemoryOf s pid a → borrower_at t x ≡ borrower_at s a → space_at t x ≡ space_at s a
        → ((c : ℕ) → borrower_at s a ≡ Some c → Stays c) → Shows P t x

  own-goes : (a : ℕ) → borrower_at s a ≡ None → P (space_at s a) → Goes a
  own-goes a none holds = record {
    shows = λ there stay. by (each a there stay);
    taken = λ x there lends space on. its_own (lends ∙ none) (subst P (sym space) holds);
  }
    where
      by : Moves P s t Stays a → Shows P t a
      by (stays same on keeps) = its_own (same ∙ none) (keeps none holds)
      by (gets_back b lends same space on) = absurd (none-some b (sym none ∙ lends))

  lent-goes : (a b : ℕ) → borrower_at s a ≡ Some b → Goes b → Goes a
  lent-goes a b is rest = record {
    shows = λ there stay. by there (each a there stay);
    taken = λ x there lends space on. of_borrower b (lends ∙ is) (rest.shows (lent_on there is) (on b is));
  }
    where
      by : HasMemoryOf s pid a → Moves P s t Stays a → Shows P t a
      by there (stays same on keeps) = of_borrower b (same ∙ is) (rest.shows (lent_on there is) (on b is))
      by there (gets_back c lends same space on) =
          let one : c ≡ b = same_Some c b (sym lends ∙ is) in
          rest.taken a (lent_on there is) (same ∙ ap (borrower_at s) one) (space ∙ ap (space_at s) one)
          (λ d its. on d (ap (borrower_at s) one ∙ its))

  goes : (a : ℕ) → Shows P s a → Goes a
  goes a (its_own none holds) = own-goes a none holds
  goes a (of_borrower b is rest) = lent-goes a b is (goes b rest)

  pub moved-shows : Stays pid → Shows P s pid → Shows P t pid
  moved-shows begins it = let g = goes pid it in g.shows itself begins

  -- whoever is among them later was so before
  pub moved-in : Stays pid → (x : ℕ) → HasMemoryOf t pid x → HasMemoryOf s pid x × Stays x
  moved-in begins x itself = (itself, begins)
  moved-in begins x (lent_on {a = a} there is) = by (moved-in begins a there)
    where
      by : HasMemoryOf s pid a × Stays a → HasMemoryOf s pid x × Stays x
      by both = of (each a both.0 both.1)
        where
          of : Moves P s t Stays a → HasMemoryOf s pid x × Stays x
          of (stays same on keeps) = (lent_on both.0 (sym same ∙ is), on x (sym same ∙ is))
          of (gets_back b lends same space on) =
              (lent_on (lent_on both.0 lends) (sym same ∙ is), on x (sym same ∙ is))

-- one that has lent its memory to nobody is alone
pub alone-in : (s : TracedSystem) (pid : ℕ) → borrower_at s pid ≡ None → (x : ℕ) → HasMemoryOf s pid x → x ≡ pid
alone-in s pid none x itself = refl
alone-in s pid none x (lent_on {a = a} there is) =
    absurd (none-some x (sym none ∙ ap (borrower_at s) (sym (alone-in s pid none a there)) ∙ is))

-- ---- what controllers are shown

module _ (P : Space → Type 0) (s : TracedSystem) (lawful : IsLawfulSystem s) (lending : AreLending s) where
  -- who has borrowed memory stands
  pub borrower-stands : (a b : ℕ) → borrower_at s a ≡ Some b → (q : TracedProcess) × (process_of s b ≡ Some q)
  borrower-stands a b is = by (live_process s b) refl (lending.lives a b is).1
    where
      by : (o : Option TracedProcess) → live_process s b ≡ o → IsSome o
          → (q : TracedProcess) × (process_of s b ≡ Some q)
      by None none some = absurd (false≢true some)
      by (Some q) live some = (q, live_process-found s b q live)

  alike : (a b : ℕ) (p q : TracedProcess) → process_of s a ≡ Some p → process_of s b ≡ Some q
      → borrower_at s a ≡ Some b → space_seen s p ≡ space_seen s q
  alike a b p q lender borrower is =
      shown-alike s lawful lending a b p q
      (record { lender = lender; lends = sym (borrower-found s a p lender) ∙ is; borrower = borrower })

  pub shows-seen : (a : ℕ) (p : TracedProcess) → process_of s a ≡ Some p → Shows P s a → P (space_seen s p)
  shows-seen a p found (its_own none holds) =
      subst P (space-found s a p found ∙ sym (own-space s p (sym (borrower-found s a p found) ∙ none))) holds
  shows-seen a p found (of_borrower b is rest) =
      let q = borrower-stands a b is in
      subst P (sym (alike a b p q.0 found q.1 is)) (shows-seen b q.0 q.1 rest)

  own-or-next : (a : ℕ) (p : TracedProcess) → process_of s a ≡ Some p → P (space_seen s p)
      → ((b : ℕ) (q : TracedProcess) → a < b → process_of s b ≡ Some q → P (space_seen s q) → Shows P s b)
      → Shows P s a
  own-or-next a p found holds next = by p.borrower refl
    where
      by : (o : Option ℕ) → p.borrower ≡ o → Shows P s a
      by None none =
          its_own (borrower-found s a p found ∙ none)
          (subst P (own-space s p none ∙ sym (space-found s a p found)) holds)
      by (Some b) lends =
          let is : borrower_at s a ≡ Some b = borrower-found s a p found ∙ lends in
          let q = borrower-stands a b is in
          of_borrower b is
          (next b q.0 (lending.younger a b is) q.1 (subst P (alike a b p q.0 found q.1 is) holds))

  last-shows : (n a : ℕ) (p : TracedProcess) → s.made ≤ n + a → process_of s a ≡ Some p → P (space_seen s p)
      → Shows P s a
  last-shows zero a p all found holds =
      let below = (All-under (IsNumberedBelow s.made) a p s.processes lawful.numbered found).id in absurd (omega arith)
  last-shows (suc n) a p all found holds =
      own-or-next a p found holds (λ b q later there it. last-shows n b q (omega arith) there it)

  pub seen-shows : (a : ℕ) (p : TracedProcess) → process_of s a ≡ Some p → P (space_seen s p) → Shows P s a
  seen-shows a p found holds = last-shows s.made a p (omega arith) found holds
