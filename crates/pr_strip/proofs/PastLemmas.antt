-- What is remembered, as a set of lwps and a map of handles that grow.
use Rattle.std.proofs.Common.{◌≡◌, ◌==◌, ◌&&◌, ℕ, Bool, true, false, cond, Option, Some, refl, sym, ◌∙◌, ap}
use Rattle.std.proofs.Math.Path.{fun_ext}
use Rattle.std.proofs.lemmas.Cmp.{nat_eq_equiv}
use Rattle.std.specs.BTreeMap as map
use Rattle.std.specs.BTreeMap.{BTreeMap, is_at}
use Rattle.std.specs.BTreeSet as set
use Rattle.std.specs.BTreeSet.{BTreeSet}
use Rattle.std.specs.Cmp.{tied_then, unsigned_tied}
use Rattle.std.specs.List.{list_any}
use Rattle.std.specs.Map.{lookup}
use Rattle.std.specs.Option.{unwrap_or}
use Rattle.std.specs.Ordering.{is_eq, nat_cmp}
use Rattle.pr_model.specs.UntracedSteps.{nothing_yet, with_returning, with_named}
use Rattle.pr_strip.specs.Pasts.{lwp_cmp, memory_of}

-- a number is at another where the two are the same
pub same_number : (a b : ℕ) → is_at (nat_cmp a) b ≡ (b == a)
same_number a b = unsigned_tied a b ∙ nat_eq_equiv.symm a b

same_lwp : (p l q k : ℕ) → is_at (lwp_cmp (p, l)) (q, k) ≡ ((q == p) && (k == l))
same_lwp p l q k =
    sym (tied_then (nat_cmp p q) (nat_cmp l k))
    ∙ ap (λ (b : Bool). b && is_eq (nat_cmp l k)) (same_number p q)
    ∙ ap (λ (b : Bool). (q == p) && b) (same_number l k)

pub past-new : (lwps : BTreeSet (ℕ × ℕ)) (handles : BTreeMap ℕ ℕ) → set.IsEmpty lwps → map.IsEmpty handles
    → memory_of lwps handles ≡ nothing_yet
unfolding memory_of nothing_yet
past-new lwps handles none no_handle =
    ap (λ (f : ℕ → ℕ → Bool). record (memory_of lwps handles) { returning = f })
    (fun_ext (λ p. fun_ext (λ l. ap (list_any (is_at (lwp_cmp (p, l)))) none)))
    ∙ ap (λ (f : ℕ → ℕ). record nothing_yet { named = f })
    (fun_ext (λ h. ap (λ entries. unwrap_or (lookup (is_at (nat_cmp h)) entries) 0) no_handle))

pub past-returning : (old new : BTreeSet (ℕ × ℕ)) (handles : BTreeMap ℕ ℕ) (p l : ℕ) (out : Bool)
    → set.Updates lwp_cmp old new (p, l) out → memory_of new handles ≡ with_returning p l out (memory_of old handles)
unfolding memory_of with_returning
past-returning old new handles p l out u =
    ap (λ (f : ℕ → ℕ → Bool). record (memory_of old handles) { returning = f })
    (fun_ext
    (λ q. fun_ext (λ k. u.0 (q, k) ∙ ap (λ b. cond b out (set.contains lwp_cmp old (q, k))) (same_lwp p l q k))))

chosen : (b : Bool) (pid : ℕ) (o : Option ℕ) → unwrap_or (cond b (Some pid) o) 0 ≡ cond b pid (unwrap_or o 0)
chosen true pid o = refl
chosen false pid o = refl

pub past-named : (lwps : BTreeSet (ℕ × ℕ)) (old new : BTreeMap ℕ ℕ) (handle pid : ℕ)
    → map.Updates nat_cmp old new handle (Some pid) → memory_of lwps new ≡ with_named handle pid (memory_of lwps old)
unfolding memory_of with_named
past-named lwps old new handle pid u =
    ap (λ (f : ℕ → ℕ). record (memory_of lwps old) { named = f })
    (fun_ext
    (λ other.
    ap (λ o. unwrap_or o 0)
    (u.0 other ∙ ap (λ b. cond b (Some pid) (map.get nat_cmp old other)) (same_number handle other))
    ∙ chosen (other == handle) pid (map.get nat_cmp old other)))

pub ruleset pasts = (past-new, past-returning, past-named)
