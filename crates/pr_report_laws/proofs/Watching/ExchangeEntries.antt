use Rattle.std.proofs.Common.{◌≡◌, ◌++◌, ℕ, Option, Some, None, List, [], ◌∷◌, refl, sym, ap, ◌∙◌}
use Rattle.std.specs.List.{cons_option}
use Rattle.pr_model.specs.declared.events.Entry.{Entry}
use Rattle.pr_truss_laws.specs.Exchanges.{Exchange, exchange_of, exchanges}
use Rattle.pr_report_laws.proofs.Files.WatchHistories.{cons-exchanges, no-exchanges}
use Rattle.pr_report_laws.proofs.FollowedChildren.FollowCalm.{head-same, tail-same}

-- The entry of an exchange in a history.

pub record HasEntryOf (k : ℕ) (h : List Entry) (xs : List Exchange) (x : Exchange) (ys : List Exchange) : Type 0 where
  pub before : List Entry
  pub entry : Entry
  pub later : List Entry
  pub is : h ≡ before ++ entry ∷ later
  pub earlier : exchanges k before ≡ xs
  pub own : exchange_of k entry ≡ Some x
  pub rest : exchanges k later ≡ ys

no-split : (xs ys : List Exchange) (x : Exchange) → [] ≡ xs ++ x ∷ ys → ⊥
no-split [] ys x is = cc
no-split (z ∷ xs) ys x is = cc

pub entry-of : (k : ℕ) (h : List Entry) (xs : List Exchange) (x : Exchange) (ys : List Exchange)
    → exchanges k h ≡ xs ++ x ∷ ys → HasEntryOf k h xs x ys
entry-of k [] xs x ys is = absurd (no-split xs ys x (sym (no-exchanges k) ∙ is))
entry-of k (e ∷ h) xs x ys is =
    by (exchange_of k e) refl xs (sym (cons-exchanges k e h) ∙ is) (λ zs rest. entry-of k h zs x ys rest)
  where
    first : (y : Option Exchange) → exchange_of k e ≡ y → (zs us : List Exchange) → HasEntryOf k h zs x ys
        → cons_option y zs ≡ us → HasEntryOf k (e ∷ h) us x ys
    first y at zs us w is = record {
      before = e ∷ w.before;
      entry = w.entry;
      later = w.later;
      is = ap (λ (es : List Entry). e ∷ es) w.is;
      earlier =
          cons-exchanges k e w.before ∙ ap (λ z. cons_option z (exchanges k w.before)) at
          ∙ ap (λ (vs : List Exchange). cons_option y vs) w.earlier ∙ is;
      own = w.own;
      rest = w.rest;
    }

    by : (y : Option Exchange) → exchange_of k e ≡ y → (us : List Exchange)
        → cons_option y (exchanges k h) ≡ us ++ x ∷ ys
        → ((zs : List Exchange) → exchanges k h ≡ zs ++ x ∷ ys → HasEntryOf k h zs x ys)
        → HasEntryOf k (e ∷ h) us x ys
    by None at us same later = first None at us us (later us same) refl
    by (Some y) at [] same later = record {
      before = [];
      entry = e;
      later = h;
      is = refl;
      earlier = no-exchanges k;
      own = at ∙ ap Some (head-same same);
      rest = tail-same same;
    }
    by (Some y) at (u ∷ us) same later =
        first (Some y) at us (u ∷ us) (later us (tail-same same)) (ap (λ z. z ∷ us) (head-same same))
