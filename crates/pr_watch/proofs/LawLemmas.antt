-- What an access hits that does not wrap.
use Rattle.std.proofs.Common.{◌≡◌, ℕ, zero, suc, ◌+◌, ◌^◌, ◌%◌, ◌<◌, ◌≤◌, Bool, true, false, leb, cond, ◌||◌, Option, Some, None, is_some, List, [], ◌∷◌, refl, sym, ◌∙◌, ap, arith, inl, inr}
use Rattle.std.specs.List.{list_any}
use Rattle.std.specs.Option.{option_map}
use Rattle.std.proofs.lemmas.Bool.{leb-true, leb-false, false≢true, cases_Bool}
use Rattle.std.proofs.lemmas.Option.{same_Some}
use Rattle.pr_num.specs.declared.mappings.Area.{Area}
use Rattle.pr_parts.specs.WatchedAreas.{first_hit, watches, watcher, hit_in}
use Rattle.pr_watch.specs.Laws.{is_watched, traps_after, IsLeastWatched, IsUnwatched}
use Rattle.pr_num.proofs.NumberLemmas.{unwrapped}

-- a byte is watched where an area is found that watches it
is_watched-watcher : (kind byte : ℕ) (areas : List Area)
    → is_watched kind areas byte ≡ is_some (watcher kind areas byte)
is_watched-watcher kind byte [] = refl
is_watched-watcher kind byte (a ∷ areas) =
    elim (watches kind byte a)
    as (λ b. (b || list_any (watches kind byte) areas) ≡ is_some (cond b (Some a) (watcher kind areas byte)))
    [ true ↦ refl | false ↦ is_watched-watcher kind byte areas ]

nobody : (found : Option Area) → is_some found ≡ false → found ≡ None
nobody None e = refl
nobody (Some a) e = absurd (false≢true (sym e))

-- the bytes behind the first do not wrap either
behind_first : (kind address size : ℕ) (areas : List Area) → address + suc size ≤ 2 ^ 64
    → hit_in kind areas ((address + 1) % 2 ^ 64) size ≡ hit_in kind areas (address + 1) size
unfolding hit_in
behind_first kind address zero areas within = refl
behind_first kind address (suc size) areas within =
    let same : (address + 1) % 2 ^ 64 ≡ address + 1 = unwrapped (address + 1) (omega arith) in
    ap (λ (b : ℕ). hit_in kind areas b (suc size)) same

-- where the first byte is not watched, a byte is not watched if those behind the first are not
not_first : (kind address byte : ℕ) (areas : List Area) → watcher kind areas address ≡ None → address ≤ byte
    → (address + 1 ≤ byte → is_watched kind areas byte ≡ false) → is_watched kind areas byte ≡ false
not_first kind address byte areas none low others =
    elim (cases_Bool (leb byte address)) [
      | inl t ↦
          (let same : byte ≡ address = omega (arith, leb-true byte address t) in
          ap (is_watched kind areas) same ∙ is_watched-watcher kind address areas ∙ ap is_some none)
      | inr f ↦ others (omega (arith, leb-false byte address f))
    ]

pub hit_in-least : (kind address size byte : ℕ) (after : Bool) (areas : List Area) → address + size ≤ 2 ^ 64
    → hit_in kind areas address size ≡ Some (byte, after) → IsLeastWatched kind areas address size byte after
unfolding hit_in
hit_in-least kind address zero byte after areas within hit = absurd cc
hit_in-least kind address (suc size) byte after areas within hit =
    by (watcher kind areas address) refl hit
    (λ e. hit_in-least kind (address + 1) size byte after areas (omega arith)
    (sym (behind_first kind address size areas within) ∙ e))
  where
    by : (here : Option Area) → watcher kind areas address ≡ here
        → first_hit address here (hit_in kind areas ((address + 1) % 2 ^ 64) size) ≡ Some (byte, after)
        → (hit_in kind areas ((address + 1) % 2 ^ 64) size ≡ Some (byte, after)
        → IsLeastWatched kind areas (address + 1) size byte after)
        → IsLeastWatched kind areas address (suc size) byte after
    by (Some a) is e others =
        let same : address ≡ byte = ap (λ (p : ℕ × Bool). p.0) (same_Some _ _ e) in
        record {
          from = omega arith;
          to = omega arith;
          watched = ap (is_watched kind areas) (sym same) ∙ is_watched-watcher kind address areas ∙ ap is_some is;
          after_is =
              ap (λ (b : ℕ). option_map traps_after (watcher kind areas b)) (sym same) ∙ ap (option_map traps_after) is
              ∙ ap Some (ap (λ (p : ℕ × Bool). p.1) (same_Some _ _ e));
          least = λ lower low high. absurd (omega arith);
        }
    by None is e others =
        let rest = others e in
        record {
          from = omega (arith, rest.from);
          to = omega (arith, rest.to);
          watched = rest.watched;
          after_is = rest.after_is;
          least = λ lower low high. not_first kind address lower areas is low (λ more. rest.least lower more high);
        }

pub hit_in-none : (kind address size : ℕ) (areas : List Area) → address + size ≤ 2 ^ 64
    → hit_in kind areas address size ≡ None → IsUnwatched kind areas address size
unfolding hit_in
hit_in-none kind address zero areas within hit = λ byte low high. absurd (omega arith)
hit_in-none kind address (suc size) areas within hit =
    by (watcher kind areas address) refl hit
    (λ e. hit_in-none kind (address + 1) size areas (omega arith)
    (sym (behind_first kind address size areas within) ∙ e))
  where
    by : (here : Option Area) → watcher kind areas address ≡ here
        → first_hit address here (hit_in kind areas ((address + 1) % 2 ^ 64) size) ≡ None
        → (hit_in kind areas ((address + 1) % 2 ^ 64) size ≡ None → IsUnwatched kind areas (address + 1) size)
        → IsUnwatched kind areas address (suc size)
    by (Some a) is e others = absurd cc
    by None is e others =
        λ byte low high. not_first kind address byte areas is low (λ more. others e byte more (omega arith))

pub none-hit_in : (kind address size : ℕ) (areas : List Area) → address + size ≤ 2 ^ 64
    → IsUnwatched kind areas address size → hit_in kind areas address size ≡ None
unfolding hit_in
none-hit_in kind address zero areas within none = refl
none-hit_in kind address (suc size) areas within none =
    let here : watcher kind areas address ≡ None =
    nobody (watcher kind areas address)
    (sym (is_watched-watcher kind address areas) ∙ none address (omega arith) (omega arith)) in
    let behind =
    none-hit_in kind (address + 1) size areas (omega arith)
    (λ byte low high. none byte (omega arith) (omega arith)) in
    rw here (behind_first kind address size areas within ∙ behind)
