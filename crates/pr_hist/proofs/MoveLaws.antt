-- In which entry a process last moved.
use Rattle.std.proofs.Common.{◌≡◌, ◌≢◌, ◌↔◌, ◌⊎◌, inl, inr, ℕ, ◌+◌, Bool, true, false, not, ◌&&◌, if◌then◌else◌, Option, Some, None, is_some, List, [], ◌∷◌, length, refl, sym, ap, subst, ◌∙◌, arith}
use Rattle.std.proofs.lemmas.Bool.{and_from, and_parts, eqb-false, eqb-true, false≢true, not-true, not_from_false}
use Rattle.std.proofs.lemmas.Option.{same_Some}
use Rattle.std.specs.Option.{option_map}
use Rattle.pr_num.specs.ById.{inserted, put_under, under}
use Rattle.pr_num.proofs.ByIdLaws.{put_under-found, under-change_under, under-change_under_other, under-inserted, under-inserted_other}
use Rattle.pr_model.specs.declared.events.Actor.{Actor}
use Rattle.pr_model.specs.declared.events.Actor.TheVariants.{Controller, Lwp, Clock}
use Rattle.pr_model.specs.declared.events.Entry.{Entry}
use Rattle.pr_hist.specs.Lanes.{is_lwp_of}
use Rattle.pr_hist.specs.Laws.{names_behind}
use Rattle.pr_hist.specs.Names.{Names}
use Rattle.pr_hist.specs.News.{moved_after, moved_now, names_beyond}
use Rattle.pr_hist.specs.Processes.{LastMovedIn, none_moves}
use Rattle.pr_hist.proofs.BehindLemmas.{names_behind-append}

-- ---- one entry

moved_now-own : (p n : ℕ) (moved : List (ℕ × ℕ)) → under p (moved_now p n moved) ≡ Some n
unfolding moved_now
moved_now-own p n moved = by (under p moved) refl
  where
    by : (o : Option ℕ) → under p moved ≡ o
        → under p (if is_some (under p moved) then put_under p n moved else inserted p n moved) ≡ Some n
    by None is =
        ap (λ o. under p (if is_some o then put_under p n moved else inserted p n moved)) is
        ∙ under-inserted p n moved
    by (Some m) is =
        ap (λ o. under p (if is_some o then put_under p n moved else inserted p n moved)) is
        ∙ ap (under p) (put_under-found p (λ x. n) m moved is)
        ∙ under-change_under p (λ x. n) moved
        ∙ ap (option_map (λ x. n)) is

moved_now-other : (p other n : ℕ) (moved : List (ℕ × ℕ)) → p ≢ other
    → under other (moved_now p n moved) ≡ under other moved
unfolding moved_now
moved_now-other p other n moved apart = by (under p moved) refl
  where
    by : (o : Option ℕ) → under p moved ≡ o
        → under other (if is_some (under p moved) then put_under p n moved else inserted p n moved)
        ≡ under other moved
    by None is =
        ap (λ o. under other (if is_some o then put_under p n moved else inserted p n moved)) is
        ∙ under-inserted_other p other n apart moved
    by (Some m) is =
        ap (λ o. under other (if is_some o then put_under p n moved else inserted p n moved)) is
        ∙ ap (under other) (put_under-found p (λ x. n) m moved is)
        ∙ under-change_under_other p other (λ x. n) apart moved

moved_after-own : (p n : ℕ) (a : Actor) (moved : List (ℕ × ℕ)) → is_lwp_of p a ≡ true
    → under p (moved_after n a moved) ≡ Some n
unfolding moved_after is_lwp_of
moved_after-own p n (Lwp q l) moved is =
    ap (λ i. under i (moved_now q n moved)) (sym (eqb-true q p is)) ∙ moved_now-own q n moved
moved_after-own p n (Controller k) moved is = absurd (false≢true is)
moved_after-own p n Clock moved is = absurd (false≢true is)

moved_after-other : (p n : ℕ) (a : Actor) (moved : List (ℕ × ℕ)) → is_lwp_of p a ≡ false
    → under p (moved_after n a moved) ≡ under p moved
unfolding moved_after is_lwp_of
moved_after-other p n (Lwp q l) moved is = moved_now-other q p n moved (eqb-false q p is)
moved_after-other p n (Controller k) moved is = refl
moved_after-other p n Clock moved is = refl

-- ---- entries

stays-behind : (names : Names) (n : ℕ) (es : List Entry) (p : ℕ) → none_moves p es ≡ true
    → under p (names_behind names n es).moved ≡ under p names.moved
unfolding names_behind names_beyond none_moves
stays-behind names n [] p none = refl
stays-behind names n (e ∷ es) p none =
    stays-behind (names_beyond names n e) (n + 1) es p
    (and_parts (not (is_lwp_of p e.actor)) (none_moves p es) none).1
    ∙ moved_after-other p n e.actor names.moved
    (not-true (is_lwp_of p e.actor) (and_parts (not (is_lwp_of p e.actor)) (none_moves p es) none).0)

last-moved : (names : Names) (es : List Entry) (p number : ℕ) → LastMovedIn p number es
    → under p (names_behind names 0 es).moved ≡ Some number
unfolding names_behind names_beyond
last-moved names es p number last =
    let before : Names = names_behind names 0 last.before in
    let at : ℕ = 0 + length last.before in
    let same : at ≡ number = omega (arith, last.counts) in
    ap (λ fs. under p (names_behind names 0 fs).moved) last.are
    ∙ ap (λ (ns : Names). under p ns.moved) (names_behind-append names 0 last.before (last.entry ∷ last.behind))
    ∙ stays-behind (names_beyond before at last.entry) (at + 1) last.behind p last.left
    ∙ moved_after-own p at last.entry.actor before.moved last.is
    ∙ ap (λ k. Some k) same

-- the same in entries that count from a number
abbrev MovedBehind : ℕ → ℕ → ℕ → List Entry → Type 0
MovedBehind n p number es = (m : ℕ) × (number ≡ n + m) × LastMovedIn p m es

later : (n p number : ℕ) (e : Entry) (es : List Entry) → MovedBehind (n + 1) p number es
    → MovedBehind n p number (e ∷ es)
later n p number e es moved =
    let last : LastMovedIn p moved.0 es = moved.2 in
    let counts : moved.0 ≡ length last.before = last.counts in (
      moved.0 + 1,
      omega (arith, moved.1),
      record {
        before = e ∷ last.before;
        entry = last.entry;
        behind = last.behind;
        are = ap (λ fs. e ∷ fs) last.are;
        counts = omega arith;
        is = last.is;
        left = last.left;
      },
    )

moved-or : (names : Names) (n : ℕ) (es : List Entry) (p number : ℕ)
    → under p (names_behind names n es).moved ≡ Some number
    → MovedBehind n p number es ⊎ ((under p names.moved ≡ Some number) × (none_moves p es ≡ true))
unfolding names_behind names_beyond none_moves
moved-or names n [] p number found = inr (found, refl)
moved-or names n (e ∷ es) p number found =
    by_rest (moved-or (names_beyond names n e) (n + 1) es p number found)
  where
    by_entry : none_moves p es ≡ true → under p (moved_after n e.actor names.moved) ≡ Some number
        → (b : Bool) → is_lwp_of p e.actor ≡ b
        → MovedBehind n p number (e ∷ es)
        ⊎ ((under p names.moved ≡ Some number) × ((not (is_lwp_of p e.actor) && none_moves p es) ≡ true))
    by_entry left now true is =
        let same : n ≡ number = same_Some n number (sym (moved_after-own p n e.actor names.moved is) ∙ now) in
        inl (
          0,
          omega arith,
          record { before = []; entry = e; behind = es; are = refl; counts = refl; is = is; left = left },
        )
    by_entry left now false is =
        inr (
          sym (moved_after-other p n e.actor names.moved is) ∙ now,
          and_from (not (is_lwp_of p e.actor)) (none_moves p es) (not_from_false (is_lwp_of p e.actor) is) left,
        )

    by_rest : MovedBehind (n + 1) p number es
        ⊎ ((under p (moved_after n e.actor names.moved) ≡ Some number) × (none_moves p es ≡ true))
        → MovedBehind n p number (e ∷ es)
        ⊎ ((under p names.moved ≡ Some number) × ((not (is_lwp_of p e.actor) && none_moves p es) ≡ true))
    by_rest (inl moved) = inl (later n p number e es moved)
    by_rest (inr stood) = by_entry stood.1 stood.0 (is_lwp_of p e.actor) refl

pub moved-exactly : (names : Names) (es : List Entry) (p number : ℕ)
    → (under p (names_behind names 0 es).moved ≡ Some number)
    ↔ (LastMovedIn p number es ⊎ ((under p names.moved ≡ Some number) × (none_moves p es ≡ true)))
moved-exactly names es p number = (λ found. to (moved-or names 0 es p number found), from)
  where
    to : MovedBehind 0 p number es ⊎ ((under p names.moved ≡ Some number) × (none_moves p es ≡ true))
        → LastMovedIn p number es ⊎ ((under p names.moved ≡ Some number) × (none_moves p es ≡ true))
    to (inl moved) =
        let same : moved.0 ≡ number = omega (arith, moved.1) in
        inl (subst (λ k. LastMovedIn p k es) same moved.2)
    to (inr stood) = inr stood

    from : LastMovedIn p number es ⊎ ((under p names.moved ≡ Some number) × (none_moves p es ≡ true))
        → under p (names_behind names 0 es).moved ≡ Some number
    from (inl last) = last-moved names es p number last
    from (inr stood) = stays-behind names 0 es p stood.1 ∙ stood.0
