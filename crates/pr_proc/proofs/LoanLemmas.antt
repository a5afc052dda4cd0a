use Rattle.std.proofs.Common.{◌≡◌, ℕ, zero, suc, ◌+◌, ◌-◌, ◌<◌, ◌≤◌, true, false, Option, Some, None, is_some, [], refl, ap, ◌∙◌, arith}
use Rattle.pr_num.specs.Spaces.{Space}
use Rattle.pr_model.specs.Readers.{borrower_at, space_at, space_shown}
use Rattle.pr_model.specs.State.{TracedProcess, TracedSystem, process_of}

-- Lent memory: what is shown along a chain of borrowers, of which i were followed and at most n are.

-- one that has lent nothing shows its own
pub shown-own : (s : TracedSystem) (n : ℕ) (o : Option ℕ) (space : Space) → is_some o ≡ false
    → space_shown s n o space ≡ space
shown-own s zero None space none = refl
shown-own s (suc n) None space none = refl
shown-own s n (Some pid) space none = absurd (cc)

-- one that has lent its own shows what its borrower does
pub shown-next : (s : TracedSystem) (n i : ℕ) (o : Option ℕ) (space : Space) (pid : ℕ) (q : TracedProcess) → i < n
    → o ≡ Some pid → process_of s pid ≡ Some q
    → space_shown s (n - i) o space ≡ space_shown s (n - (i + 1)) q.borrower q.space
unfolding borrower_at space_at
shown-next s n i o space pid q more lent stands =
    let left : n - i ≡ suc (n - (i + 1)) = omega arith in
    let next : borrower_at s pid ≡ q.borrower = rw stands refl in
    let memory : space_at s pid ≡ q.space = rw stands refl in
    ap (λ k. space_shown s k o space) left ∙ ap (λ b. space_shown s (suc (n - (i + 1))) b space) lent
    ∙ ap (λ b. space_shown s (n - (i + 1)) b (space_at s pid)) next ∙ ap (space_shown s (n - (i + 1)) q.borrower) memory

-- and nothing, where there is no such process
pub shown-gone : (s : TracedSystem) (n i : ℕ) (o : Option ℕ) (space : Space) (pid : ℕ) → i < n → o ≡ Some pid
    → process_of s pid ≡ None → space_shown s (n - i) o space ≡ []
unfolding borrower_at space_at
shown-gone s n i o space pid more lent gone =
    let left : n - i ≡ suc (n - (i + 1)) = omega arith in
    let next : borrower_at s pid ≡ None = rw gone refl in
    let memory : space_at s pid ≡ [] = rw gone refl in
    ap (λ k. space_shown s k o space) left ∙ ap (λ b. space_shown s (suc (n - (i + 1))) b space) lent
    ∙ ap (λ b. space_shown s (n - (i + 1)) b (space_at s pid)) next
    ∙ shown-own s (n - (i + 1)) None (space_at s pid) refl ∙ memory

-- or where no more are followed
pub shown-past : (s : TracedSystem) (n i : ℕ) (o : Option ℕ) (space : Space) → n ≤ i → is_some o ≡ true
    → space_shown s (n - i) o space ≡ []
shown-past s n i None space past lent = absurd (cc)
shown-past s n i (Some pid) space past lent = let none : n - i ≡ 0 = omega arith in rw none refl
