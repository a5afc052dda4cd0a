use Rattle.std.proofs.Common.{◌≡◌, ℕ, List, ◌++◌, take, drop, Result, Ok, Err, IfOk, Some, ap, sym, ◌∙◌}
use Rattle.std.proofs.lemmas.List.{take-append-drop}
use Rattle.pr_io.specs.declared.failures.Failed.{Failed}
use Rattle.pr_io.specs.Known.{with_front}
use Rattle.pr_io.specs.InMemory.{Supply, after_read}

-- the bytes that a read gave, and those that are left then, were left before it
pub left-read : (r : Result ℕ Failed) (buf : List ℕ) (old new : Supply) → IfOk r (λ n. take n buf ≡ take n old.left)
    → IfOk r (λ n. new ≡ after_read old n) → IfOk r (λ n. Some old.left ≡ with_front (take n buf) (Some new.left))
unfolding with_front
left-read (Err e) buf old new bytes ok = tt
left-read (Ok n) buf old new bytes ok =
    ap Some (sym (take-append-drop n old.left) ∙ ap (λ xs. xs ++ drop n old.left) (sym bytes)
    ∙ ap (λ s. take n buf ++ s.left) (sym ok))
