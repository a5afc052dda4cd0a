use Rattle.std.specs.Prelude.{◌≡◌, ◌==◌, ◌&&◌, ℕ, Bool, true, false, [], ◌∷◌, Option, Some, None, refl}
use Rattle.std.proofs.Common.{◌∙◌, ap, arith}
use Rattle.std.proofs.lemmas.Bool.{eqb-true}
use Rattle.std.specs.List.{Contains}
use Rattle.pr_api.specs.TableKernels.{TableState, is_the_lwp, table_view, the_lwp}
use Rattle.pr_api.specs.Views.{IsLawful}

-- What holds of every kernel holds of one that answers from a list.

and_left : (a b : Bool) → (a && b) ≡ true → a ≡ true
and_left true b h = refl
and_left false b h = cc

and_right : (a b : Bool) → (a && b) ≡ true → b ≡ true
and_right true b h = h
and_right false b h = cc

same_pair : (a b c d : ℕ) → a ≡ c → b ≡ d → Contains {X = ℕ × ℕ} ((a, b) ∷ []) (c, d)
same_pair a b c d left right = (0, omega arith, ap (λ x. (x, b)) left ∙ ap (λ y. (c, y)) right)

lwp-there : (lwp : Option (ℕ × ℕ)) (pid id : ℕ) → is_the_lwp lwp pid id ≡ true → Contains (the_lwp lwp) (pid, id)
lwp-there None pid id h = cc
lwp-there (Some lwp) pid id h =
    same_pair lwp.0 lwp.1 pid id (eqb-true _ _ (and_left (lwp.0 == pid) (lwp.1 == id) h))
    (eqb-true _ _ (and_right (lwp.0 == pid) (lwp.1 == id) h))

pub table-lawful : (k : TableState) → IsLawful (table_view k)
table-lawful k = record { live = lwp-there k.lwp; told = λ s e. cc }
