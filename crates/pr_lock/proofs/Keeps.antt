-- Each step of a seat keeps the rule of the lock.
use Rattle.std.proofs.Common.{◌≡◌, ◌≢◌, ℕ, zero, suc, ◌+◌, ◌<◌, ◌≤◌, ◌||◌, Bool, true, false, List, [], ◌∷◌, ◌++◌, length, set, slice_set, slice_index, map, slice_get, Option, None, Some, is_some, unwrap_or, IfSome, IsSomeAnd, sum_by, cond, ◌==◌, sym, ap, refl, ◌∙◌, subst, ◌⊎◌, inl, inr, ⊎_elim, arith, le-ltb, lt-ltb}
use Rattle.std.proofs.lemmas.List.Elements.{All-nil, All-append}
use Rattle.std.proofs.lemmas.List.Sums.{sum_by-append, sum_by_push}
use mathlib.Core.Option.{some, some-injective, some-ne-none, none}
use mathlib.Core.Option as logic
use mathlib.Core.Logic.{dite}
use native.Mathlib.Decide.{ℕ_discrete}
use lib.ListN.{get_elem?}
use Rattle.atomic_table.specs.Table.{State, Me, keeps, takes, gives, put_back, rest, Allows, Splits, Joins, Final, Seen, opening}
use Rattle.atomic_table.proofs.Lists.{at_set, at_snoc, at_longer, set_again, set_else}
use Rattle.pr_lock.specs.declared.views.Origin.{Origin}
use Rattle.pr_lock.specs.declared.views.View.{View}
use Rattle.pr_lock.specs.History.{StartsWith, StandIn, AreAll, added, times_at}
use Rattle.pr_lock.specs.Rule.{one_if, newcomer, Fits, KeepsRule}
use Rattle.pr_lock.specs.Steps.{shares_in, begun, holding, departed, lessened, offspring, joined, spent, Begins, HasTaken, Tries, Leaves, carried_entries, carried_over}
use Rattle.pr_lock.proofs.Sums.{set_at, sum_by-at, sum_by-same_at, one_of_sum, two_of_sum, sum_by-only}
use Rattle.pr_lock.proofs.Histories.{StartsWith-itself, StartsWith-longer, StartsWith-longer_of, StartsWith-whole, StandIn-longer, StandIn-added, IsInOrder-added, times_at-added, longer-whole}

zero_or_one : (n : ℕ) → n < 2 → (n ≡ 0) ⊎ (n ≡ 1)
zero_or_one zero small = inl refl
zero_or_one (suc n) small = inr (omega arith)

-- what comes of one of two, comes where one of them is so
of_either : (a b : Bool) (P : Type 0) → (a ≡ true → P) → (b ≡ true → P) → (a || b) ≡ true → P
of_either true b P one other e = one refl
of_either false b P one other e = other e

module _ {V I : Type 0} (entries : V → List I) (over : V → Bool) (comes : V → V → Type 0) (made : Origin V) where
  -- a lock opens with the first seat, which has no share yet
  pub opens : (value : V) (slots : List (Option V)) → slots ≡ Some value ∷ [] → made.first.value ≡ value
      → entries value ≡ [] → comes value value
      → KeepsRule entries over comes made (opening (0 ∷ 0 ∷ []) slots (newcomer {V = V} {I = I} made))
  opens value slots one first empty source = record {
    log = [];
    ended = over value;
    held = 0;
    begun = 0;
    slot = some (Some value);
    words = refl;
    homes = ap (map some) one;
    bit = omega arith;
    inside = refl;
    at_home =
        λ _. record {
          value = value;
          is = refl;
          stands = empty;
          ends = refl;
          source =
              subst (comes value) (sym first) source;
        };
    fits = λ seat v at. only seat v at;
    whole = (0, newcomer made, refl, refl);
    once = λ at. ap one_if (sym (le-ltb at 0 (omega arith)));
    opened = refl;
    before = λ _. refl;
    after = λ e. absurd (omega arith);
  }
    where
      fresh : Fits made [] (over value) (newcomer {V = V} {I = I} made)
      fresh = record {
        source = refl;
        inside = tt;
        begins = refl;
        stand =
            All-nil (λ e. Rattle.std.specs.Prelude.slice_get [] e.0 ≡ Some e.1);
        saw = λ (e : false ≡ true). cc;
        knows =
            tt;
        idle = λ _. (refl, refl, refl);
      }

      only : (seat : ℕ) (v : View V I) → get_elem? (newcomer {V = V} {I = I} made ∷ []) seat ≡ some v
          → Fits made [] (over value) v
      only zero v at = subst (Fits made [] (over value)) (some-injective (newcomer made) v at) fresh
      only (suc seat) v at = absurd (some-ne-none v (sym at))

  -- what the seats know, where one of them changes
  fits_set : (log : List I) (ended : Bool) (views : List (View V I)) (id : ℕ) (w : View V I)
      → ((seat : ℕ) (v : View V I) → seat ≢ id → get_elem? views seat ≡ some v → Fits made log ended v)
      → Fits made log ended w
      → (seat : ℕ) (v : View V I) → get_elem? (set views id w) seat ≡ some v → Fits made log ended v
  fits_set log ended views id w others mine seat v at =
      ⊎_elim (λ t. subst (Fits made log ended) t.1 mine) (λ t. others seat v t.0 t.1) (at_set views id seat w v at)

  -- some seat has seen the whole history, where one of them changes that has seen as much as before
  whole_set : (log : List I) (views : List (View V I)) (id : ℕ) (v w : View V I) → get_elem? views id ≡ some v
      → w.seen ≡ v.seen
      → (seat : ℕ) × (u : View V I) × (get_elem? views seat ≡ some u) × (u.seen ≡ log)
      → (seat : ℕ) × (u : View V I) × (get_elem? (set views id w) seat ≡ some u) × (u.seen ≡ log)
  whole_set log views id v w at same (seat, u, there, all) =
      dite (ℕ_discrete seat id)
      (λ e. (
        id,
        w,
        set_at views id v w at,
        same
            ∙ (ap (λ (x : View V I). x.seen) (some-injective v u (sym at ∙ (ap (get_elem? views) (sym e) ∙ there)))
            ∙ all),
      ))
      (λ ne. (seat, u, set_else views id seat w ne ∙ there, all))

  source_of : (o : Option (Origin V)) (value : V) → IfSome o (λ x. x ≡ made) → comes value made.first.value
      → IfSome o (λ x. comes value x.first.value)
  source_of None value is source = tt
  source_of (Some x) value is source = subst (λ (y : Origin V). comes value y.first.value) (sym is) source

  found_held : (s : State (Option V) (View V I)) (kept : KeepsRule entries over comes made s)
      → slice_index s.words 0 ≡ kept.held
  found_held s kept = ap (λ ws. slice_index ws 0) kept.words

  -- the first seat gets its shares
  pub begins : (slots id : ℕ) (m : Me (Option V) (View V I)) → m ≡ (newcomer made, [])
      → Allows (KeepsRule entries over comes made) slots id m 1 (λ _. 1) (Begins m)
  begins slots id m is s kept long at small =
      let v = m.0 in
      let new : v ≡ newcomer made = ap (λ p. p.0) is in
      let fresh : one_if v.fresh ≡ 1 = ap (λ (u : View V I). one_if u.fresh) new in
      let shares : v.shares ≡ 0 = ap (λ (u : View V I). u.shares) new in
      let all : shares_in v.origin ≡ made.seats = ap (λ (u : View V I). shares_in u.origin) new in
      let first : kept.begun ≡ 0 =
      omega (arith, one_of_sum (λ (u : View V I). one_if u.fresh) s.views id v at, fresh, kept.opened) in
      let f = kept.fits id v at in (
        begun v,
        keeps,
        tt,
        record {
          log = kept.log;
          ended = kept.ended;
          held = kept.held;
          begun = 1;
          slot = kept.slot;
          words = ap (λ ws. slice_set ws 1 1) kept.words;
          homes = kept.homes;
          bit = kept.bit;
          inside =
              sum_by-same_at (λ (u : View V I). one_if (is_some u.entered)) s.views id v (begun v) at refl
              ∙ kept.inside;
          at_home = kept.at_home;
          fits = fits_set kept.log kept.ended s.views id (begun v) (λ seat u apart there. kept.fits seat u there)
              (record {
                source = f.source;
                inside = f.inside;
                begins = f.begins;
                stand = f.stand;
                saw = f.saw;
                knows = f.knows;
                idle = λ _. (
                  ap (λ (u : View V I). u.entered) new,
                  ap (λ (u : View V I). u.own) new,
                  ap (λ (u : View V I). u.seen) new,
                );
              });
          whole = whole_set kept.log s.views id v (begun v) at refl kept.whole;
          once = λ place. sum_by-same_at (λ (u : View V I). times_at place u.own) s.views id v (begun v) at refl
              ∙ kept.once place;
          opened =
              omega (
                arith,
                sum_by-at (λ (u : View V I). one_if u.fresh) s.views id v (begun v) at,
                fresh,
                kept.opened,
                first,
              );
          before = λ e. absurd (omega arith);
          after = λ _.
              omega (
                arith,
                sum_by-at (λ (u : View V I). u.shares) s.views id v (begun v) at,
                shares,
                all,
                kept.before first,
              );
        },
        (ap (λ ws. slice_index ws 1) kept.words ∙ first, refl),
      )

  -- a seat finds the lock free, and takes the value
  holds_after : (s : State (Option V) (View V I)) (kept : KeepsRule entries over comes made s) (id : ℕ) (v : View V I)
      → get_elem? s.views id ≡ some v
      → v.entered ≡ None → 0 < v.shares → kept.held ≡ 0 → (log : List I) → log ≡ kept.log → (ended : Bool)
      → ended ≡ kept.ended
      → KeepsRule entries over comes made
      (record {
        words = slice_set s.words 0 1;
        homes = slice_set s.homes 0 none;
        views =
            slice_set s.views id (holding v log ended);
      })
  holds_after s kept id v at idle some_share free log same ended known =
      let f = kept.fits id v at in
      let out : one_if (is_some v.entered) ≡ 0 = ap (λ (o : Option (List I)). one_if (is_some o)) idle in
      record {
        log = kept.log;
        ended = kept.ended;
        held = 1;
        begun = kept.begun;
        slot = none;
        words = ap (λ ws. slice_set ws 0 1) kept.words;
        homes = ap (λ hs. slice_set hs 0 none) kept.homes;
        bit = omega arith;
        inside =
            omega (
              arith,
              sum_by-at (λ (u : View V I). one_if (is_some u.entered)) s.views id v (holding v log ended) at,
              kept.inside,
              free,
              out,
            );
        at_home = λ e. absurd (omega arith);
        fits = fits_set kept.log kept.ended s.views id (holding v log ended)
            (λ seat u apart there. kept.fits seat u there)
            (record {
              source = f.source;
              inside = same;
              begins = f.begins;
              stand = f.stand;
              saw = λ e. sym known ∙ e;
              knows = known;
              idle = λ e. absurd (omega (arith, e, some_share));
            });
        whole = whole_set kept.log s.views id v (holding v log ended) at refl kept.whole;
        once = λ place.
            sum_by-same_at (λ (u : View V I). times_at place u.own) s.views id v (holding v log ended) at refl
            ∙ kept.once place;
        opened =
            ap (λ n. n + kept.begun)
            (sum_by-same_at (λ (u : View V I). one_if u.fresh) s.views id v (holding v log ended) at refl)
            ∙ kept.opened;
        before =
            λ e. sum_by-same_at (λ (u : View V I). u.shares) s.views id v (holding v log ended) at refl ∙ kept.before e;
        after = λ e. sum_by-same_at (λ (u : View V I). u.shares) s.views id v (holding v log ended) at refl
            ∙ kept.after e;
      }

  -- a seat finds the lock taken, and nothing changes
  same_after : (s : State (Option V) (View V I)) (kept : KeepsRule entries over comes made s) (id : ℕ) (v : View V I)
      → get_elem? s.views id ≡ some v
      → kept.held ≡ 1
      → KeepsRule entries over comes made
      (record { words = slice_set s.words 0 1; homes = s.homes; views = slice_set s.views id v })
  same_after s kept id v at busy =
      let words : s.words ≡ slice_set s.words 0 1 =
      kept.words ∙ (ap (λ held. held ∷ kept.begun ∷ []) busy ∙ sym (ap (λ ws. slice_set ws 0 1) kept.words)) in
      let views : s.views ≡ slice_set s.views id v = sym (set_again s.views id v at) in
      subst (KeepsRule entries over comes made) (λ i. record { words = words i; homes = s.homes; views = views i }) kept

  pub tries : (slots id : ℕ) (m : Me (Option V) (View V I)) → m.0.entered ≡ None → 0 < m.0.shares
      → Allows (KeepsRule entries over comes made) slots id m 0 (λ _. 1) (Tries entries over comes m)
  tries slots id m idle some_share s kept long at small =
      let v = m.0 in
      let f = kept.fits id v at in
      let found = found_held s kept in
      ⊎_elim
      (λ (free : kept.held ≡ 0).
      let home = kept.at_home free in
      let log = entries home.value in (
        holding v log (over home.value),
        takes 0 (Some home.value),
        ap (λ hs. get_elem? hs 0) kept.homes ∙ ap some home.is,
        holds_after s kept id v at idle some_share free log home.stands (over home.value) home.ends,
        record {
          free = λ _. record {
            value = home.value;
            is = refl;
            begins = subst (λ l. StartsWith l v.seen) (sym home.stands) f.begins;
            stand = subst (λ l. StandIn l v.own) (sym home.stands) f.stand;
            stays = λ e. home.ends ∙ f.saw e;
            source = source_of v.origin home.value f.source home.source;
          };
          taken = λ busy. absurd (busy (found ∙ free));
        },
      ))
      (λ (busy : kept.held ≡ 1). (
        v,
        keeps,
        tt,
        same_after s kept id v at busy,
        record { free = λ e. absurd (omega (arith, e, found, busy)); taken = λ _. refl },
      ))
      (zero_or_one kept.held kept.bit)

  entered_is : (log old : List I) (entered : Option (List I)) → IfSome entered (λ l. l ≡ log) → entered ≡ Some old
      → old ≡ log
  entered_is log old entered inside is = subst (λ (o : Option (List I)). IfSome o (λ l. l ≡ log)) is inside

  known_is : (ended was : Bool) (old : List I) (entered : Option (List I)) → IfSome entered (λ _. was ≡ ended)
      → entered ≡ Some old → was ≡ ended
  known_is ended was old entered knows is = subst (λ (o : Option (List I)). IfSome o (λ _. was ≡ ended)) is knows

  -- one seat at most is inside
  outside : (s : State (Option V) (View V I)) (kept : KeepsRule entries over comes made s) (id seat : ℕ)
      (v u : View V I) → get_elem? s.views id ≡ some v
      → get_elem? s.views seat ≡ some u → seat ≢ id → one_if (is_some v.entered) ≡ 1 → u.entered ≡ None
  outside s kept id seat v u at there apart inside =
      none_where u.entered
      (omega (
        arith,
        two_of_sum (λ (x : View V I). one_if (is_some x.entered)) s.views id seat v u at there apart,
        inside,
        kept.inside,
        kept.bit,
      ))
    where
      none_where : (o : Option (List I)) → one_if (is_some o) ≡ 0 → o ≡ None
      none_where None e = refl
      none_where (Some l) e = absurd (omega (arith, e))

  -- a seat gives the value back, with a longer history
  home_after : (s : State (Option V) (View V I)) (kept : KeepsRule entries over comes made s) (id : ℕ) (v : View V I)
      (homes : List (logic.Option (Option V))) (old : List I) (value : V)
      → get_elem? s.views id ≡ some v → v.entered ≡ Some old → 0 < v.shares → StartsWith (entries value) old
      → (v.over ≡ true → over value ≡ true) → comes value made.first.value
      → homes ≡ slice_set s.homes 0 (some (Some value))
      → KeepsRule entries over comes made
      (record {
        words = slice_set s.words 0 0;
        homes = homes;
        views =
            slice_set s.views id (departed v (entries value) (over value));
      })
  home_after s kept id v homes old value at entered some_share grown stays source put =
      let log = entries value in
      let w = departed v log (over value) in
      let f = kept.fits id v at in
      let inside : one_if (is_some v.entered) ≡ 1 = ap (λ (o : Option (List I)). one_if (is_some o)) entered in
      let was : old ≡ kept.log = entered_is kept.log old v.entered f.inside entered in
      let longer : StartsWith log kept.log = subst (StartsWith log) was grown in
      let known : v.over ≡ kept.ended = known_is kept.ended v.over old v.entered f.knows entered in
      let new : added (unwrap_or v.entered []) log ≡ added kept.log log =
      ap (λ (o : Option (List I)). added (unwrap_or o []) log) entered ∙ ap (λ l. added l log) was in
      record {
        log = log;
        ended = over value;
        held = 0;
        begun = kept.begun;
        slot = some (Some value);
        words = ap (λ ws. slice_set ws 0 0) kept.words;
        homes = put ∙ ap (λ hs. slice_set hs 0 (some (Some value))) kept.homes;
        bit = omega arith;
        inside =
            omega (
              arith,
              sum_by-at (λ (u : View V I). one_if (is_some u.entered)) s.views id v w at,
              kept.inside,
              kept.bit,
              inside,
            );
        at_home = λ _. record { value = value; is = refl; stands = refl; ends = refl; source = source };
        fits = fits_set log (over value) s.views id w
            (λ seat u apart there.
            let g = kept.fits seat u there in
            let out = sym (outside s kept id seat v u at there apart inside) in
            record {
              source = g.source;
              inside = subst (λ (o : Option (List I)). IfSome o (λ l. l ≡ log)) out tt;
              begins = StartsWith-longer kept.log log u.seen g.begins longer;
              stand = StandIn-longer kept.log log u.own g.stand longer;
              saw = λ e. stays (known ∙ g.saw e);
              knows = subst (λ (o : Option (List I)). IfSome o (λ _. u.over ≡ over value)) out tt;
              idle = g.idle;
            })
            (record {
              source = f.source;
              inside = tt;
              begins = StartsWith-itself log;
              stand = All-append (λ e. slice_get log e.0 ≡ Some e.1) v.own (added (unwrap_or v.entered []) log)
                  (StandIn-longer kept.log log v.own f.stand longer) (StandIn-added (unwrap_or v.entered []) log);
              saw = λ e. e;
              knows = tt;
              idle = λ e. absurd (omega (arith, e, some_share));
            });
        whole = (id, w, set_at s.views id v w at, refl);
        once = λ place.
            let own : times_at place w.own ≡ times_at place v.own + times_at place (added kept.log log) =
            sum_by-append (λ (e : ℕ × I). cond (e.0 == place) 1 0) v.own (added (unwrap_or v.entered []) log)
            ∙ ap (λ (es : List (ℕ × I)). times_at place v.own + times_at place es) new in
            omega (
              arith,
              sum_by-at (λ (u : View V I). times_at place u.own) s.views id v w at,
              kept.once place,
              own,
              times_at-added place kept.log log longer,
            );
        opened =
            ap (λ n. n + kept.begun) (sum_by-same_at (λ (u : View V I). one_if u.fresh) s.views id v w at refl)
            ∙ kept.opened;
        before = λ e. sum_by-same_at (λ (u : View V I). u.shares) s.views id v w at refl ∙ kept.before e;
        after = λ e. sum_by-same_at (λ (u : View V I). u.shares) s.views id v w at refl ∙ kept.after e;
      }

  pub leaves : (slots id : ℕ) (m before : Me (Option V) (View V I)) (old : List I) (value : V)
      → m ≡ (before.0, (0, Some value) ∷ rest before.1) → before.0.entered ≡ Some old → 0 < before.0.shares
      → StartsWith (entries value) old → (before.0.over ≡ true → over value ≡ true) → comes value made.first.value
      → Allows (KeepsRule entries over comes made) slots id m 0 (λ _. 0) (Leaves entries over m)
  leaves slots id m before old value now entered some_share grown stays source s kept long at small =
      let f = kept.fits id m.0 at in
      let view : m.0 ≡ before.0 = ap (λ x. x.0) now in
      let holds : m.0.entered ≡ Some old = ap (λ v. v.entered) view ∙ entered in
      let was : old ≡ kept.log = entered_is kept.log old m.0.entered f.inside holds in
      let new : unwrap_or m.0.entered [] ≡ kept.log = ap (λ o. unwrap_or o []) holds ∙ was in
      let carried : carried_entries entries m.1 ≡ entries value = ap (λ x. carried_entries entries x.1) now in
      let ends : carried_over over m.1 ≡ over value = ap (λ x. carried_over over x.1) now in
      let homes : put_back s.homes m.1 ≡ slice_set s.homes 0 (some (Some value)) =
      ap (λ x. put_back s.homes x.1) now in (
        departed m.0 (entries value) (over value),
        gives,
        tt,
        home_after s kept id m.0 (put_back s.homes m.1) old value at holds
            (subst (λ v. 0 < v.shares) (sym view) some_share) grown
            (λ e. stays (sym (ap (λ v. v.over) view) ∙ e)) source homes,
        record {
          is = ap (λ log. (departed m.0 log (over value), rest m.1)) (sym carried)
              ∙ ap (λ o. (departed m.0 (carried_entries entries m.1) o, rest m.1)) (sym ends);
          order = IsInOrder-added (unwrap_or m.0.entered []) (entries value) m.0.own
              (subst (λ log. StandIn log m.0.own) (sym new) f.stand);
        },
      )

  -- a seat gives a share to a new seat
  pub splits : (id : ℕ) (v : View V I) → 2 ≤ v.shares
      → Splits (KeepsRule entries over comes made) id v (lessened v) (offspring v)
  splits id v two s kept at =
      let w = lessened v in
      let n = offspring v in
      let f = kept.fits id v at in
      let sum_is : (f : View V I → ℕ) → f w + f n ≡ f v
      → sum_by f (slice_set s.views id w ++ n ∷ []) ≡ sum_by f s.views =
      λ f same. omega (arith, sum_by_push f (slice_set s.views id w) n, sum_by-at f s.views id v w at, same) in
      let whole = whole_set kept.log s.views id v w at refl kept.whole in
      record {
        log = kept.log;
        ended = kept.ended;
        held = kept.held;
        begun = kept.begun;
        slot = kept.slot;
        words = kept.words;
        homes = kept.homes;
        bit = kept.bit;
        inside = sum_is (λ u. one_if (is_some u.entered)) (omega arith) ∙ kept.inside;
        at_home = kept.at_home;
        fits = λ seat u there.
            ⊎_elim
            (fits_set kept.log kept.ended s.views id w (λ other x apart is. kept.fits other x is)
            (record {
              source = f.source;
              inside = f.inside;
              begins = f.begins;
              stand = f.stand;
              saw = f.saw;
              knows =
                  f.knows;
              idle = λ e. absurd (omega (arith, e, two));
            }) seat u)
            (λ (same : n ≡ u).
            subst (Fits made kept.log kept.ended) same
            (record {
              source = f.source;
              inside = tt;
              begins = f.begins;
              stand =
                  All-nil (λ e. slice_get kept.log e.0 ≡ Some e.1);
              saw = f.saw;
              knows = tt;
              idle =
                  λ e. absurd (omega (arith, e));
            }))
            (at_snoc (slice_set s.views id w) n u seat there);
        whole = (whole.0, whole.1, at_longer (slice_set s.views id w) (n ∷ []) whole.0 whole.1 whole.2, whole.3);
        once = λ place. sum_is (λ u. times_at place u.own) (omega arith) ∙ kept.once place;
        opened = ap (λ m. m + kept.begun) (sum_is (λ u. one_if u.fresh) (omega arith)) ∙ kept.opened;
        before = λ e. sum_is (λ u. u.shares) (omega (arith, two)) ∙ kept.before e;
        after = λ e. sum_is (λ u. u.shares) (omega (arith, two)) ∙ kept.after e;
      }

  -- a seat takes in another
  pub joins : (id : ℕ) (v : View V I) (other : ℕ) (w : View V I) → 0 < v.shares → v.entered ≡ None → w.entered ≡ None
      → w.fresh ≡ false
      → Joins (KeepsRule entries over comes made) id v other w (joined v w) spent
  joins id v other w some_share out idle old s kept at apart there =
      let both = joined v w in
      let none : View V I = spent in
      let views = slice_set s.views id both in
      let was : get_elem? s.views other ≡ some w = sym (set_else s.views id other both apart) ∙ there in
      let f = kept.fits id v at in
      let g = kept.fits other w was in
      let sum_is : (f : View V I → ℕ) → f both + f none ≡ f v + f w
      → sum_by f (slice_set views other none) ≡ sum_by f s.views =
      λ f same. omega (arith, sum_by-at f s.views id v both at, sum_by-at f views other w none there, same) in
      let outside : one_if (is_some w.entered) ≡ 0 = ap (λ (o : Option (List I)). one_if (is_some o)) idle in
      let begun : one_if w.fresh ≡ 0 = ap one_if old in
      let both_there : get_elem? (slice_set views other none) id ≡ some both =
      set_else views other id none (λ e. apart (sym e)) ∙ set_at s.views id v both at in
      record {
        log = kept.log;
        ended = kept.ended;
        held = kept.held;
        begun = kept.begun;
        slot = kept.slot;
        words = kept.words;
        homes = kept.homes;
        bit = kept.bit;
        inside = sum_is (λ u. one_if (is_some u.entered)) (omega (arith, outside)) ∙ kept.inside;
        at_home = kept.at_home;
        fits = fits_set kept.log kept.ended views other none
            (λ seat u _ is. fits_set kept.log kept.ended s.views id both (λ third x _ here. kept.fits third x here)
            (record {
              source = f.source;
              inside = f.inside;
              begins = StartsWith-longer_of kept.log v.seen w.seen f.begins g.begins;
              stand = All-append (λ e. slice_get kept.log e.0 ≡ Some e.1) v.own w.own f.stand g.stand;
              saw = of_either v.over w.over (kept.ended ≡ true) f.saw g.saw;
              knows = subst (λ (o : Option (List I)). IfSome o (λ _. both.over ≡ kept.ended)) (sym out) tt;
              idle = λ e. absurd (omega (arith, e, some_share));
            }) seat u is)
            (record {
              source = tt;
              inside = tt;
              begins = refl;
              stand = All-nil (λ e. slice_get kept.log e.0 ≡ Some e.1);
              saw = λ (e : false ≡ true). cc;
              knows = tt;
              idle = λ _. (refl, refl, refl);
            });
        whole =
            let seat = kept.whole.0 in
            let u = kept.whole.1 in
            let here = kept.whole.2 in
            let all = kept.whole.3 in
            let longest : (v.seen ≡ kept.log) ⊎ (w.seen ≡ kept.log) → both.seen ≡ kept.log =
            longer-whole kept.log v.seen w.seen f.begins g.begins in
            dite (ℕ_discrete seat id)
            (λ e. (
              id,
              both,
              both_there,
              longest (inl
                  (ap (λ (x : View V I). x.seen) (some-injective v u (sym at ∙ (ap (get_elem? s.views) (sym e) ∙ here)))
                  ∙ all)),
            ))
            (λ not_id.
            dite (ℕ_discrete seat other)
            (λ e. (
              id,
              both,
              both_there,
              longest (inr
                  (ap (λ (x : View V I). x.seen)
                  (some-injective w u (sym was ∙ (ap (get_elem? s.views) (sym e) ∙ here)))
                  ∙ all)),
            ))
            (λ not_other. (
              seat,
              u,
              set_else views other seat none not_other
                  ∙ (set_else s.views id seat both not_id ∙ here),
              all,
            )));
        once = λ place.
            sum_is (λ u. times_at place u.own)
            (omega (arith, sum_by-append (λ (e : ℕ × I). cond (e.0 == place) 1 0) v.own w.own)) ∙ kept.once place;
        opened = ap (λ n. n + kept.begun) (sum_is (λ u. one_if u.fresh) (omega (arith, begun))) ∙ kept.opened;
        before = λ e. sum_is (λ u. u.shares) (omega arith) ∙ kept.before e;
        after = λ e. sum_is (λ u. u.shares) (omega arith) ∙ kept.after e;
      }

  -- what a seat with all shares finds at the end
  pub record Ends (v : View V I) (value : V) : Type 0 where
    pub seen : entries value ≡ v.seen
    pub all : AreAll (entries value) v.own
    pub stays : v.over ≡ true → over value ≡ true
    pub source : comes value made.first.value

  pub ends : (id : ℕ) (v : View V I) (words : List ℕ) (slots : List (Option V)) (last : Option V) → v.entered ≡ None
      → v.shares ≡ made.seats → 0 < v.shares
      → Final (Seen (KeepsRule entries over comes made) id v) words slots → get_elem? slots 0 ≡ some last
      → IsSomeAnd last (Ends v)
  ends id v words slots last idle all some_share (s, (kept, at), _, _, values) there =
      let shares = one_of_sum (λ (u : View V I). u.shares) s.views id v at in
      let begun : kept.begun ≡ 1 =
      ⊎_elim (λ (e : kept.begun ≡ 0). absurd (omega (arith, shares, kept.before e, some_share))) (λ e. e)
      (zero_or_one kept.begun (omega (arith, kept.opened))) in
      let others : (seat : ℕ) (u : View V I) → seat ≢ id → get_elem? s.views seat ≡ some u
      → (u.entered ≡ None) × (u.own ≡ []) × (u.seen ≡ []) =
      λ seat u apart there. (kept.fits seat u there).idle
      (omega (
        arith,
        two_of_sum (λ (x : View V I). x.shares) s.views id seat v u at there apart,
        kept.after begun,
        all,
      )) in
      let held : kept.held ≡ one_if (is_some v.entered) =
      sym kept.inside ∙ sum_by-only (λ (u : View V I). one_if (is_some u.entered)) s.views id v at
      (λ seat u apart there. ap (λ (o : Option (List I)). one_if (is_some o)) (others seat u apart there).0) in
      let home = kept.at_home (held ∙ ap (λ (o : Option (List I)). one_if (is_some o)) idle) in
      let f = kept.fits id v at in
      let seen : v.seen ≡ kept.log =
      dite (ℕ_discrete kept.whole.0 id)
      (λ e. ap (λ (x : View V I). x.seen)
      (some-injective v kept.whole.1 (sym at ∙ (ap (get_elem? s.views) (sym e) ∙ kept.whole.2))) ∙ kept.whole.3)
      (λ apart.
      let nothing : kept.log ≡ [] = sym kept.whole.3 ∙ (others kept.whole.0 kept.whole.1 apart kept.whole.2).2 in
      StartsWith-whole kept.log v.seen f.begins (omega (arith, ap length nothing))) in
      let is : Some home.value ≡ last =
      some-injective (Some home.value) last
      (sym (values 0 (Some home.value) (ap (λ hs. get_elem? hs 0) kept.homes ∙ ap some home.is)) ∙ there) in
      subst (λ (o : Option V). IsSomeAnd o (Ends v)) is
      (record {
        seen = home.stands ∙ sym seen;
        all = subst (λ (log : List I). AreAll log v.own) (sym home.stands)
            (record {
              stand = f.stand;
              once = λ place below.
                  sym (sum_by-only (λ (u : View V I). times_at place u.own) s.views id v at
                  (λ seat u apart there. ap (times_at place) (others seat u apart there).1))
                  ∙ (kept.once place ∙ ap one_if (lt-ltb place (length kept.log) below));
            });
        stays = λ e. home.ends ∙ f.saw e;
        source = home.source;
      })

module _ {V I : Type 0} (entries : V → List I) (over : V → Bool) (comes : V → V → Type 0) where
  -- what a seat has that took the value out of the slot
  pub record Took (before : Me (Option V) (View V I)) (view : View V I) (value : V) : Type 0 where
    pub view_is : view ≡ holding before.0 (entries value) (over value)
    pub begins : StartsWith (entries value) before.0.seen
    pub stand : StandIn (entries value) before.0.own
    pub stays : before.0.over ≡ true → over value ≡ true
    pub source : IfSome before.0.origin (λ o. comes value o.first.value)

  abbrev first_slot : List (ℕ × Option V) → Option V
  first_slot [] = None
  first_slot (slot ∷ slots) = slot.1

  pub took-slot : (before after : Me (Option V) (View V I)) (taken : HasTaken entries over comes before after)
      → after.1 ≡ (0, Some taken.value) ∷ rest after.1
  took-slot before after taken =
      subst (λ (m : Me (Option V) (View V I)). m.1 ≡ (0, Some taken.value) ∷ rest m.1) (sym taken.is) refl

  pub took : (before after : Me (Option V) (View V I)) → HasTaken entries over comes before after → (result : Option V)
      → after.1 ≡ (0, result) ∷ rest after.1 → IsSomeAnd result (Took before after.0)
  took before after taken result there =
      subst (λ (o : Option V). IsSomeAnd o (Took before after.0))
      (ap first_slot (sym (took-slot before after taken) ∙ there))
      (record {
        view_is = ap (λ m. m.0) taken.is;
        begins = taken.begins;
        stand = taken.stand;
        stays = taken.stays;
        source = taken.source;
      })
