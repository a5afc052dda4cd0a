use Rattle.std.proofs.Common.{◌≡◌, ◌+◌, ◌<◌, ◌≤◌, ℕ, zero, suc, true, Option, Some, None, IsSome, refl, ◌∙◌, ap, arith}
use Rattle.std.proofs.lemmas.Bool.{false≢true}
use Rattle.pr_num.specs.Spaces.{Space}
use Rattle.pr_num.proofs.ByIdLaws.{All-under}
use Rattle.pr_model.specs.Lawful.{IsLawfulSystem, IsNumberedBelow}
use Rattle.pr_lending.specs.Lending.{AreLending}
use Rattle.pr_model.specs.Readers.{borrower_at, space_at, space_seen, space_shown}
use Rattle.pr_model.specs.State.{TracedProcess, TracedSystem, live_process, process_of}
use Rattle.pr_lending.specs.Loans.{HasLentTo, ShowsSpaceOf}
use Rattle.pr_lending.proofs.ProcessLoans.LoanLemmas.{is_live_in, borrower-found, space-found}

-- A process that has lent its memory shows what its borrower shows.

module _ (s : TracedSystem) (lawful : IsLawfulSystem s) (h : AreLending s) where
  live-numbered : (pid : ℕ) → IsSome (live_process s pid) → pid < s.made
  unfolding live_process
  live-numbered pid live = by (process_of s pid) refl live
    where
      by : (o : Option TracedProcess) → process_of s pid ≡ o → is_live_in o ≡ true → pid < s.made
      by None none live = absurd (false≢true live)
      by (Some p) found live = (All-under (IsNumberedBelow s.made) pid p s.processes lawful.numbered found).id

  borrower-numbered : (a b : ℕ) → borrower_at s a ≡ Some b → b < s.made
  borrower-numbered a b is = live-numbered b (h.lives a b is).1

  -- As many borrowers are followed as can come after a process: one more makes no difference.
  enough : (n pid : ℕ) (space : Space) → s.made ≤ n + pid
      → space_shown s n (borrower_at s pid) space ≡ space_shown s (suc n) (borrower_at s pid) space
  enough zero pid space all = by (borrower_at s pid) refl
    where
      by : (o : Option ℕ) → borrower_at s pid ≡ o → space_shown s zero o space ≡ space_shown s (suc zero) o space
      by None is = refl
      by (Some b) is =
          let later = h.younger pid b is in let below = borrower-numbered pid b is in absurd (omega arith)
  enough (suc n) pid space all =
      by (borrower_at s pid) refl (λ b more. enough n b (space_at s b) more)
    where
      by : (o : Option ℕ) → borrower_at s pid ≡ o
          → ((b : ℕ) → s.made ≤ n + b
          → space_shown s n (borrower_at s b) (space_at s b) ≡ space_shown s (suc n) (borrower_at s b) (space_at s b))
          → space_shown s (suc n) o space ≡ space_shown s (suc (suc n)) o space
      by None is next = refl
      by (Some b) is next = let later = h.younger pid b is in next b (omega arith)

  pub shown-alike : (a b : ℕ) (p q : TracedProcess) → HasLentTo s a p b q → space_seen s p ≡ space_seen s q
  shown-alike a b p q it =
      ap (λ (o : Option ℕ). space_shown s s.made o p.space) it.lends ∙ by s.made refl
    where
      is : borrower_at s a ≡ Some b
      is = borrower-found s a p it.lender ∙ it.lends

      by : (made : ℕ) → s.made ≡ made → space_shown s made (Some b) p.space ≡ space_shown s made q.borrower q.space
      by zero none = let below = borrower-numbered a b is in absurd (omega arith)
      by (suc n) some =
          let later = h.younger a b is in
          enough n b (space_at s b) (omega arith)
          ∙ ap (λ o. space_shown s (suc n) o (space_at s b)) (borrower-found s b q it.borrower)
          ∙ ap (space_shown s (suc n) q.borrower) (space-found s b q it.borrower)

  -- a borrower stands
  borrower-stands : (a b : ℕ) → borrower_at s a ≡ Some b → (q : TracedProcess) × (process_of s b ≡ Some q)
  unfolding live_process
  borrower-stands a b is = by (process_of s b) refl (h.lives a b is).1
    where
      by : (o : Option TracedProcess) → process_of s b ≡ o → is_live_in o ≡ true
          → (q : TracedProcess) × (process_of s b ≡ Some q)
      by None none live = absurd (false≢true live)
      by (Some q) found live = (q, found)

  -- a process shows the memory of one that has it to itself
  Shows : TracedProcess → Type 0
  Shows p = (b : ℕ) × (q : TracedProcess) × ShowsSpaceOf s p b q

  own-or-next : (a : ℕ) (p : TracedProcess) → process_of s a ≡ Some p
      → ((b : ℕ) (q : TracedProcess) → a < b → process_of s b ≡ Some q → Shows q) → Shows p
  unfolding Shows
  own-or-next a p found next = by p.borrower refl
    where
      by : (o : Option ℕ) → p.borrower ≡ o → Shows p
      by None own = (
        a,
        p,
        record { stands = found; owns = own; shown = ap (λ (o : Option ℕ). space_shown s s.made o p.space) own },
      )
      by (Some b) lends =
          let is : borrower_at s a ≡ Some b = borrower-found s a p found ∙ lends in
          let stands = borrower-stands a b is in
          let it : HasLentTo s a p b stands.0 = record { lender = found; lends = lends; borrower = stands.1 } in
          let last = next b stands.0 (h.younger a b is) stands.1 in (
            last.0,
            last.1,
            record {
              stands = last.2.stands;
              owns = last.2.owns;
              shown = shown-alike a b p stands.0 it ∙ last.2.shown;
            },
          )

  last-shown : (n a : ℕ) (p : TracedProcess) → s.made ≤ n + a → process_of s a ≡ Some p → Shows p
  last-shown zero a p all found =
      let below = (All-under (IsNumberedBelow s.made) a p s.processes lawful.numbered found).id in absurd (omega arith)
  last-shown (suc n) a p all found =
      own-or-next a p found (λ b q later there. last-shown n b q (omega arith) there)

  pub shows-one : (a : ℕ) (p : TracedProcess) → process_of s a ≡ Some p
      → (b : ℕ) × (q : TracedProcess) × ShowsSpaceOf s p b q
  unfolding Shows
  shows-one a p found = last-shown s.made a p (omega arith) found
