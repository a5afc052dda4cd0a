use Rattle.std.proofs.Common.{◌≡◌, ◌<◌, ◌+◌, ◌++◌, ℕ, zero, suc, Some, cond, List, [], ◌∷◌, All, ◌==◌, append-nil, append_assoc, flat_map, length, map, take, sym, ◌∙◌, ap, subst, refl, arith}
use Rattle.std.proofs.lemmas.List.{drop_at, get_or-map, length-map, map-append, take_at}
use Rattle.std.proofs.lemmas.List.Elements.{All-cons, All-drop, All-map, All-nil, All-take, All-weaker}
use Rattle.std.proofs.lemmas.List.Sums.{sum_by-cons}
use Rattle.std.proofs.lemmas.Option.{none-some, same_Some}
use Rattle.std.specs.List.{slice_get, slice_index_or}
use Rattle.pr_lock.specs.History.{AreAll, IsInOrder, StandIn, times_at}
use Rattle.pr_model.specs.declared.events.Entry.{Entry}
use Rattle.pr_run.specs.Logs.{behind, entries_of, log_from, log_of}
use Rattle.pr_run.specs.declared.shared_worlds.LoggedEntry.{LoggedEntry}

-- The log of a history.

pub log-length : (past history : List Entry) → length (log_from past history) ≡ length history
log-length past [] = refl
log-length past (e ∷ es) = let rest = log-length (past ++ e ∷ []) es in omega (arith, rest)

pub ruleset counts = (log-length)

-- one more entry of the history is one more of its log
log-push : (past history : List Entry) (e : Entry)
    → log_from past (history ++ e ∷ []) ≡ log_from past history ++ behind (past ++ history) e ∷ []
log-push past [] e = ap (λ (h : List Entry). behind h e ∷ []) (sym (append-nil past))
log-push past (x ∷ es) e =
    ap (λ (l : List LoggedEntry). behind past x ∷ l)
    (log-push (past ++ x ∷ []) es e
    ∙ ap (λ (h : List Entry). log_from (past ++ x ∷ []) es ++ behind h e ∷ []) (append_assoc past (x ∷ []) es))

pub log-next : (old new : List Entry) (e : Entry) → new ≡ old ++ e ∷ [] → log_of new ≡ log_of old ++ behind old e ∷ []
log-next old new e is = ap log_of is ∙ log-push [] old e

-- What stands at a place of a log: an entry of the history, with all that is before it.
pub record IsLoggedAt (past history : List Entry) (i : ℕ) (x : LoggedEntry) : Type 0 where
  pub before : x.before ≡ past ++ take i history
  pub entry : slice_get history i ≡ Some x.entry

pub log-at : (past history : List Entry) (i : ℕ) (x : LoggedEntry) → slice_get (log_from past history) i ≡ Some x
    → IsLoggedAt past history i x
log-at past [] i x e = absurd (none-some x e)
log-at past (y ∷ ys) zero x e =
    let same : behind past y ≡ x = same_Some (behind past y) x e in
    record {
      before = ap (λ (s : LoggedEntry). s.before) (sym same) ∙ sym (append-nil past);
      entry =
          ap (λ (s : LoggedEntry). Some s.entry) same;
    }
log-at past (y ∷ ys) (suc i) x e =
    let rest = log-at (past ++ y ∷ []) ys i x e in
    record { before = rest.before ∙ append_assoc past (y ∷ []) (take i ys); entry = rest.entry }

-- ---- entries, without those before them

abbrev entry_in : ℕ × LoggedEntry → ℕ × Entry
entry_in e = (e.0, e.1.entry)

pub entries-append : (own more : List (ℕ × LoggedEntry)) → entries_of (own ++ more) ≡ entries_of own ++ entries_of more
entries-append own more = map-append entry_in own more

place-kept : (own : List (ℕ × LoggedEntry)) (i : ℕ) (x : ℕ × LoggedEntry) (d : ℕ × Entry) → i < length own
    → (slice_index_or (entries_of own) i d).0 ≡ (slice_index_or own i x).0
place-kept own i x d h = ap (λ (e : ℕ × Entry). e.0) (get_or-map entry_in own i x d h)

one-of : (own : List (ℕ × LoggedEntry)) (i : ℕ) → i < length own → ℕ × LoggedEntry
one-of [] i h = absurd (omega arith)
one-of (e ∷ own) i h = e

-- they stand in order where those of the log do
pub order-entries : (own : List (ℕ × LoggedEntry)) → IsInOrder own → IsInOrder (entries_of own)
order-entries own order = λ i j d before within.
    let below : j < length own = omega (arith, within, length-map own entry_in) in
    let x = one-of own j below in
    let first = place-kept own i x d (omega (arith, before, below)) in
    let second = place-kept own j x d below in
    omega (arith, first, second, order i j x before below)

pub order-log : (own : List (ℕ × LoggedEntry)) → IsInOrder (entries_of own) → IsInOrder own
order-log own order = λ i j x before within.
    let first = place-kept own i x (entry_in x) (omega (arith, before, within)) in
    let second = place-kept own j x (entry_in x) within in
    omega (arith, first, second, order i j (entry_in x) before (omega (arith, within, length-map own entry_in)))

times-entries : (place : ℕ) (own : List (ℕ × LoggedEntry)) → times_at place (entries_of own) ≡ times_at place own
times-entries place [] = refl
times-entries place (e ∷ own) =
    sum_by-cons (λ (x : ℕ × Entry). cond (x.0 == place) 1 0) (entry_in e) (entries_of own)
    ∙ (ap (λ (n : ℕ). cond (e.0 == place) 1 0 + n) (times-entries place own)
    ∙ sym (sum_by-cons (λ (x : ℕ × LoggedEntry). cond (x.0 == place) 1 0) e own))

-- they are those of the history where these are those of its log
pub all-entries : (history : List Entry) (own : List (ℕ × LoggedEntry)) → AreAll (log_of history) own
    → AreAll history (entries_of own)
all-entries history own all = record {
  stand = All-map (λ (e : ℕ × Entry). slice_get history e.0 ≡ Some e.1) entry_in own
      (All-weaker (λ (e : ℕ × LoggedEntry). slice_get (log_of history) e.0 ≡ Some e.1)
      (λ (e : ℕ × LoggedEntry). slice_get history e.0 ≡ Some e.1.entry)
      (λ e at. (log-at [] history e.0 e.1 at).entry) own all.stand);
  once = λ place below. times-entries place own ∙ all.once place (omega (arith, below, log-length [] history));
}

-- ---- those of several

-- Where those of two stand, those of each stand.
pub record StandApart (history : List LoggedEntry) (one other : List (ℕ × LoggedEntry)) : Type 0 where
  pub first : StandIn history one
  pub second : StandIn history other

pub stands-apart : (history : List LoggedEntry) (one other : List (ℕ × LoggedEntry)) → StandIn history (one ++ other)
    → StandApart history one other
stands-apart history one other stand =
    let P : ℕ × LoggedEntry → Type 0 = λ e. slice_get history e.0 ≡ Some e.1 in
    record {
      first = subst (All P) (take_at one other (length one) refl) (All-take P (length one) (one ++ other) stand);
      second = subst (All P) (drop_at one other (length one) refl) (All-drop P (length one) (one ++ other) stand);
    }

module _ {X : Type 0} (own_in : X → List (ℕ × LoggedEntry)) where
  pub entries-of_each : (xs : List X)
      → entries_of (flat_map own_in xs)
      ≡ flat_map (λ (l : List (ℕ × Entry)). l) (map (λ (x : X). entries_of (own_in x)) xs)
  entries-of_each [] = refl
  entries-of_each (x ∷ xs) =
      entries-append (own_in x) (flat_map own_in xs)
      ∙ ap (λ (l : List (ℕ × Entry)). entries_of (own_in x) ++ l) (entries-of_each xs)

  pub each-stands : (history : List LoggedEntry) (xs : List X) → StandIn history (flat_map own_in xs)
      → All (λ (x : X). StandIn history (own_in x)) xs
  each-stands history [] stand = All-nil (λ (x : X). StandIn history (own_in x))
  each-stands history (x ∷ xs) stand =
      let parts = stands-apart history (own_in x) (flat_map own_in xs) stand in
      All-cons (λ (x : X). StandIn history (own_in x)) x xs parts.first (each-stands history xs parts.second)
