use Rattle.std.proofs.Common.{◌≡◌, ℕ, zero, suc, ◌+◌, ◌-◌, ◌<◌, ◌≤◌, ◌==◌, true, Some, None, List, [], ◌∷◌, length, refl, ap, arith}
use Rattle.std.specs.List.{slice_get}
use Rattle.std.proofs.lemmas.Bool.{eqb-true, ne_eqb}
use Rattle.std.proofs.lemmas.Option.{same_Some}
use Rattle.pr_num.specs.ById.{rises_from, under}
use Rattle.pr_num.proofs.ByIdLemmas.{rises_from-at, rises_from-tail}

-- Ids that are below a number.

-- an id above the last one is free
beyond-last : {X : Type 0} (low : ℕ) (es : List (ℕ × X)) (k n : ℕ) (e : ℕ × X) → rises_from low es ≡ true
    → slice_get es k ≡ Some e → length es ≤ k + 1 → e.0 < n → under n es ≡ None
beyond-last low [] k n e rises here last below = refl
beyond-last low (d ∷ []) zero n e rises here last below =
    let id : d.0 ≡ e.0 = ap (λ (x : ℕ × _). x.0) (same_Some d e here) in
    rw (ne_eqb d.0 n (λ same. absurd (omega arith))) refl
beyond-last low (d ∷ (c ∷ es)) zero n e rises here last below = absurd (omega arith)
beyond-last low (d ∷ es) (suc k) n e rises here last below =
    let tail = rises_from-tail low d es rises in
    let next : d.0 + 1 ≤ e.0 = rises_from-at (d.0 + 1) es k e tail here in
    rw (ne_eqb d.0 n (λ same. absurd (omega arith))) (beyond-last (d.0 + 1) es k n e tail here (omega arith) below)

pub above-last : {X : Type 0} (es : List (ℕ × X)) (n : ℕ) (e : ℕ × X) → rises_from 0 es ≡ true
    → slice_get es (length es - 1) ≡ Some e → e.0 < n → under n es ≡ None
above-last es n e rises here below = beyond-last 0 es (length es - 1) n e rises here (omega arith) below

pub empty-none : {X : Type 0} (es : List (ℕ × X)) (n : ℕ) → (length es == 0) ≡ true → under n es ≡ None
empty-none [] n empty = refl
empty-none (e ∷ es) n empty = absurd (let none = eqb-true (length (e ∷ es)) 0 empty in omega arith)

pub ruleset id_laws = (above-last, empty-none)
