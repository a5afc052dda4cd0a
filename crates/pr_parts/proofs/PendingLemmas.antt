use Rattle.std.proofs.Common.{◌≡◌, ◌≢◌, ℕ, zero, suc, ◌+◌, ◌-◌, ◌^◌, ◌<◌, ◌≤◌, Bool, true, false, not, ◌&&◌, ◌||◌, eqb, leb, ltb, cond, Option, Some, None, IsSome, IsNone, is_some, List, [], ◌∷◌, ◌++◌, length, set, take, drop, replicate, get_or, refl, sym, ◌∙◌, ap, add-one, arith, lit≤, lit<, inl, inr, length-append, length-set}
use Rattle.std.proofs.lemmas.Bool.{leb-true, leb-false, ltb-true, eqb-true, eq-eqb, ne_eqb, or_right, and_parts, cases_Bool, cases_eq, false≢true}
use Rattle.std.proofs.lemmas.List.{get_or-set_same, get_or-set_other}
use Rattle.std.proofs.lemmas.List.Elements.{filter-append}
use Rattle.std.proofs.lemmas.List.Folds.{list_all-append}
use Rattle.std.specs.List.{find, filter, list_all}
use Rattle.std.specs.Option.{option_map}
use Rattle.pr_num.specs.declared.faults.Flt.{Flt}
use Rattle.pr_num.specs.declared.infos.Info.{Info}
use Rattle.pr_num.specs.declared.signals.Sig.{Sig}
use Rattle.pr_num.specs.Faults.{fault_signal}
use Rattle.pr_num.specs.Infos.{fault_code}
use Rattle.pr_num.specs.KeyedTables.{without_first}
use Rattle.pr_num.specs.Limits.{signal_count, standard_signal_count, queue_limit}
use Rattle.pr_num.specs.Sets.{has_number, minus_word, with_number, without_number}
use Rattle.pr_num.specs.Signals.{signal_number}
use Rattle.pr_num.proofs.BoolLemmas.{and_false, and_true, cond-same, eqb_comm, or_false}
use Rattle.pr_num.proofs.NumberedLemmas.{has_signal-set_of, set_of_signals-lt, same_signals, signal_number-range}
use Rattle.pr_num.proofs.SetLemmas.{has_number-zero, has_number-minus, has_number-with, has_number-without, minus_word-le, with_number-lt, without_number-le}
use Rattle.pr_num.proofs.TableLaws.{find-without_first_other}
use Rattle.pr_parts.specs.SignalRules.{deleted_by}
use Rattle.pr_parts.specs.PendingSignals.{Pending, IsPendings, is_standard, is_of, nothing_pending, info_of, pending_set, has_room, kept_info, with_standard, with_queued, added, without_one, without_infos, without_signals}
use Rattle.pr_parts.specs.declared.signals.Queued.{Queued}
use Rattle.pr_parts.proofs.SignalLemmas.{deleted_by-fault}

-- ---- the words, by the kind of the signal

pub info_of-standard : (s : Sig) (p : Pending) → is_standard s ≡ true
    → info_of s p ≡ get_or p.standard (signal_number s - 1) None
unfolding info_of
info_of-standard s p kind = rw kind refl

pub info_of-queued : (s : Sig) (p : Pending) → is_standard s ≡ false
    → info_of s p ≡ option_map (λ q. q.info) (find (is_of s) p.queued)
unfolding info_of
info_of-queued s p kind = rw kind refl

pub added-standard : (s : Sig) (info : Info) (p : Pending) → is_standard s ≡ true
    → added s info p ≡ with_standard (signal_number s - 1) info p
unfolding added
added-standard s info p kind = rw kind refl

pub added-queued : (s : Sig) (info : Info) (p : Pending) → is_standard s ≡ false → added s info p ≡ with_queued s info p
unfolding added
added-queued s info p kind = rw kind refl

pub without_one-standard : (s : Sig) (p : Pending) → is_standard s ≡ true
    → without_one s p ≡ record p { standard = set p.standard (signal_number s - 1) None }
unfolding without_one
without_one-standard s p kind = rw kind refl

pub without_one-queued : (s : Sig) (p : Pending) → is_standard s ≡ false
    → without_one s p ≡ record p { queued = without_first (is_of s) p.queued }
unfolding without_one
without_one-queued s p kind = rw kind refl

-- a standard signal has a place
pub place-within : (s : Sig) (p : Pending) → IsPendings p → is_standard s ≡ true
    → signal_number s - 1 < length p.standard
place-within s p fits kind =
    let most = leb-true (signal_number s) standard_signal_count kind in
    let least = signal_number-range s in
    let places = fits.places in
    omega arith

-- a signal that queues is no standard signal
kinds_differ : (s t : Sig) → is_standard s ≡ true → is_standard t ≡ false → signal_number t ≢ signal_number s
kinds_differ s t standard queues same =
    let most = leb-true (signal_number s) standard_signal_count standard in
    let least = leb-false (signal_number t) standard_signal_count queues in
    absurd (omega arith)

-- ---- what is pending

pub pending-signal : (p : Pending) (s : Sig) → has_number (pending_set p) (signal_number s) ≡ is_some (info_of s p)
unfolding pending_set
pending-signal p s = has_signal-set_of (λ t. is_some (info_of t p)) s

pub pending_set-lt : (p : Pending) → pending_set p < 2 ^ signal_count
unfolding pending_set
pending_set-lt p = set_of_signals-lt (λ t. is_some (info_of t p))

-- ---- a place that changes

-- numbers that count from 1 are equal where their places are
same_place : (m n : ℕ) → 1 ≤ m → 1 ≤ n → eqb (m - 1) (n - 1) ≡ eqb m n
same_place m n p q =
    elim (cases_eq m n) [
      | inl e ↦ eq-eqb (m - 1) (n - 1) (omega arith) ∙ sym (eq-eqb m n e)
      | inr ne ↦ ne_eqb (m - 1) (n - 1) (λ e. ne (omega arith)) ∙ sym (ne_eqb m n ne)
    ]

filled : (os : List (Option Info)) (a b : ℕ) (info : Info) → a < length os
    → is_some (get_or (set os a (Some info)) b None) ≡ (is_some (get_or os b None) || eqb b a)
filled os a b info within =
    elim (cases_eq b a) [
      | inl e ↦ ap (λ k. is_some (get_or (set os a (Some info)) k None)) e
          ∙ ap is_some (get_or-set_same os a (Some info) None within)
          ∙ sym (or_right (is_some (get_or os b None)) (eqb b a) (eq-eqb b a e))
      | inr ne ↦ ap is_some (get_or-set_other os a b (Some info) None ne)
          ∙ sym (or_false (is_some (get_or os b None)))
          ∙ ap (λ c. is_some (get_or os b None) || c) (sym (ne_eqb b a ne))
    ]

emptied : (os : List (Option Info)) (a b : ℕ) → a < length os
    → is_some (get_or (set os a None) b None) ≡ (is_some (get_or os b None) && not (eqb b a))
emptied os a b within =
    elim (cases_eq b a) [
      | inl e ↦ ap (λ k. is_some (get_or (set os a None) k None)) e
          ∙ ap is_some (get_or-set_same os a None None within) ∙ sym (and_false (is_some (get_or os b None)))
          ∙ ap (λ c. is_some (get_or os b None) && not c) (sym (eq-eqb b a e))
      | inr ne ↦ ap is_some (get_or-set_other os a b None None ne) ∙ sym (and_true (is_some (get_or os b None)))
          ∙ ap (λ c. is_some (get_or os b None) && not c) (sym (ne_eqb b a ne))
    ]

pub get_or-without_infos : (w k : ℕ) (os : List (Option Info)) (j : ℕ)
    → get_or (without_infos w k os) j None ≡ cond (has_number w (k + j)) None (get_or os j None)
get_or-without_infos w k [] j = sym (cond-same (has_number w (k + j)) None)
get_or-without_infos w k (o ∷ os) zero =
    let place : k + 0 ≡ k = omega arith in
    ap (λ n. cond (has_number w n) None o) (sym place)
get_or-without_infos w k (o ∷ os) (suc j) =
    let place : suc k + j ≡ k + suc j = omega arith in
    get_or-without_infos w (suc k) os j ∙ ap (λ n. cond (has_number w n) None (get_or os j None)) place

-- ---- a queue that changes

-- whether a signal of this number queues
abbrev waits : ℕ → List Queued → Bool
waits n qs = is_some (option_map (λ q. q.info) (find (λ q. eqb (signal_number q.signal) n) qs))

waits-push : (n : ℕ) (q : Queued) (qs : List Queued)
    → waits n (qs ++ q ∷ []) ≡ (waits n qs || eqb (signal_number q.signal) n)
waits-push n q [] =
    elim (eqb (signal_number q.signal) n)
    as (λ b. is_some (option_map (λ (r : Queued). r.info) (cond b (Some q) None)) ≡ b)
    [ true ↦ refl | false ↦ refl ]
waits-push n q (r ∷ rs) =
    elim (eqb (signal_number r.signal) n)
    as (λ b.
    is_some (option_map (λ (x : Queued). x.info)
    (cond b (Some r) (find (λ x. eqb (signal_number x.signal) n) (rs ++ q ∷ []))))
    ≡ (is_some
    (option_map (λ (x : Queued). x.info) (cond b (Some r) (find (λ x. eqb (signal_number x.signal) n) rs)))
    || eqb (signal_number q.signal) n)) [ true ↦ refl | false ↦ waits-push n q rs ]

waits-filter : (w n : ℕ) (qs : List Queued)
    → waits n (filter (λ q. not (has_number w (signal_number q.signal))) qs) ≡ (waits n qs && not (has_number w n))
waits-filter w n [] = refl
waits-filter w n (r ∷ rs) =
    let rest = waits-filter w n rs in
    elim (cases_Bool (has_number w (signal_number r.signal))) [
      | inl gone ↦ elim (cases_Bool (eqb (signal_number r.signal) n)) [
        | inl here ↦ let set_has : has_number w n ≡ true =
            ap (has_number w) (sym (eqb-true (signal_number r.signal) n here)) ∙ gone in
            rw (gone, here) (rest ∙ rw set_has (and_false (waits n rs)))
        | inr other ↦ rw (gone, other) rest
      ]
      | inr stays ↦ elim (cases_Bool (eqb (signal_number r.signal) n)) [
        | inl here ↦ let set_lacks : has_number w n ≡ false =
            ap (has_number w) (sym (eqb-true (signal_number r.signal) n here)) ∙ stays in
            rw (stays, here) (rw set_lacks refl)
        | inr other ↦ rw (stays, other) rest
      ]
    ]

waits-info : (s : Sig) (p : Pending) → is_standard s ≡ false → is_some (info_of s p) ≡ waits (signal_number s) p.queued
waits-info s p kind = ap is_some (info_of-queued s p kind)

-- ---- what is pending afterwards

pub is_some-info_of_added : (s t : Sig) (info : Info) (p : Pending) → IsPendings p
    → is_some (info_of t (added s info p)) ≡ (is_some (info_of t p) || eqb (signal_number t) (signal_number s))
is_some-info_of_added s t info p fits =
    let numbered = signal_number-range s in
    let other = signal_number-range t in
    elim (cases_Bool (is_standard s)) [
      | inl s-stands ↦ elim (cases_Bool (is_standard t)) [
        | inl t-stands ↦
            rw (
              added-standard s info p s-stands,
              info_of-standard t (with_standard (signal_number s - 1) info p) t-stands,
              info_of-standard t p t-stands,
            )
            (filled p.standard (signal_number s - 1) (signal_number t - 1) _ (place-within s p fits s-stands)
            ∙ ap (λ b. is_some (get_or p.standard (signal_number t - 1) None) || b)
            (same_place (signal_number t) (signal_number s) (omega arith) (omega arith)))
        | inr t-queues ↦
            rw (
              added-standard s info p s-stands,
              info_of-queued t (with_standard (signal_number s - 1) info p) t-queues,
              info_of-queued t p t-queues,
              ne_eqb (signal_number t) (signal_number s) (kinds_differ s t s-stands t-queues),
            )
            (sym (or_false _))
      ]
      | inr s-queues ↦ elim (cases_Bool (is_standard t)) [
        | inl t-stands ↦
            rw (
              added-queued s info p s-queues,
              info_of-standard t (with_queued s info p) t-stands,
              info_of-standard t p t-stands,
              ne_eqb (signal_number t) (signal_number s) (λ e. kinds_differ t s t-stands s-queues (sym e)),
            ) (sym (or_false _))
        | inr t-queues ↦
            rw (
              added-queued s info p s-queues,
              info_of-queued t (with_queued s info p) t-queues,
              info_of-queued t p t-queues,
            )
            (waits-push (signal_number t) (record { signal = s; info = info }) p.queued
            ∙ ap (λ b. waits (signal_number t) p.queued || b) (eqb_comm (signal_number s) (signal_number t)))
      ]
    ]

pub is_some-info_of_without_signals : (w : ℕ) (t : Sig) (p : Pending)
    → is_some (info_of t (without_signals w p)) ≡ (is_some (info_of t p) && not (has_number w (signal_number t)))
unfolding without_signals
is_some-info_of_without_signals w t p =
    let numbered = signal_number-range t in
    let place : 1 + (signal_number t - 1) ≡ signal_number t = omega arith in
    elim (cases_Bool (is_standard t)) [
      | inl stands ↦
          ap is_some
          (info_of-standard t (without_signals w p) stands ∙ get_or-without_infos w 1 p.standard (signal_number t - 1)
          ∙ ap (λ n. cond (has_number w n) None (get_or p.standard (signal_number t - 1) None)) place)
          ∙ kept (has_number w (signal_number t)) (get_or p.standard (signal_number t - 1) None)
          ∙ ap (λ o. is_some o && not (has_number w (signal_number t))) (sym (info_of-standard t p stands))
      | inr queues ↦ ap is_some (info_of-queued t (without_signals w p) queues)
          ∙ waits-filter w (signal_number t) p.queued
          ∙ ap (λ o. is_some o && not (has_number w (signal_number t))) (sym (info_of-queued t p queues))
    ] where
      kept : (b : Bool) (o : Option Info) → is_some (cond b None o) ≡ (is_some o && not b)
      kept true o = sym (and_false (is_some o))
      kept false o = sym (and_true (is_some o))

pub is_some-info_of_without_standard : (s t : Sig) (p : Pending) → IsPendings p → is_standard s ≡ true
    → is_some (info_of t (without_one s p)) ≡ (is_some (info_of t p) && not (eqb (signal_number t) (signal_number s)))
is_some-info_of_without_standard s t p fits s-stands =
    let numbered = signal_number-range s in
    let other = signal_number-range t in
    let left : Pending = record p { standard = set p.standard (signal_number s - 1) None } in
    elim (cases_Bool (is_standard t)) [
      | inl t-stands ↦
          rw (without_one-standard s p s-stands, info_of-standard t left t-stands, info_of-standard t p t-stands)
          (emptied p.standard (signal_number s - 1) (signal_number t - 1) (place-within s p fits s-stands)
          ∙ ap (λ b. is_some (get_or p.standard (signal_number t - 1) None) && not b)
          (same_place (signal_number t) (signal_number s) (omega arith) (omega arith)))
      | inr t-queues ↦
          rw (
            without_one-standard s p s-stands,
            info_of-queued t left t-queues,
            info_of-queued t p t-queues,
            ne_eqb (signal_number t) (signal_number s) (kinds_differ s t s-stands t-queues),
          ) (sym (and_true _))
    ]

-- another signal than the one that queues and is taken is pending as before
pub info_of-without_queued : (s t : Sig) (p : Pending) → is_standard s ≡ false → signal_number t ≢ signal_number s
    → info_of t (without_one s p) ≡ info_of t p
info_of-without_queued s t p s-queues apart =
    let left : Pending = record p { queued = without_first (is_of s) p.queued } in
    elim (cases_Bool (is_standard t)) [
      | inl t-stands ↦
          rw (without_one-queued s p s-queues, info_of-standard t left t-stands, info_of-standard t p t-stands) refl
      | inr t-queues ↦
          rw (without_one-queued s p s-queues, info_of-queued t left t-queues, info_of-queued t p t-queues)
          (ap (option_map (λ (q : Queued). q.info))
          (find-without_first_other (is_of s) (is_of t)
          (λ q here.
          ne_eqb (signal_number q.signal) (signal_number t)
          (λ e. apart (sym e ∙ eqb-true (signal_number q.signal) (signal_number s) here))) p.queued))
    ]

-- ---- the set of the pending signals afterwards

pub pending_set-added : (s : Sig) (info : Info) (p : Pending) → IsPendings p
    → pending_set (added s info p) ≡ with_number (pending_set p) (signal_number s)
pending_set-added s info p fits =
    let numbered = signal_number-range s in
    same_signals (pending_set (added s info p)) (with_number (pending_set p) (signal_number s))
    (pending_set-lt (added s info p))
    (with_number-lt signal_count (pending_set p) (signal_number s) (pending_set-lt p) (omega arith) (omega arith))
    (λ t. (let other = signal_number-range t in
    pending-signal (added s info p) t ∙ is_some-info_of_added s t info p fits
    ∙ ap (λ b. b || eqb (signal_number t) (signal_number s)) (sym (pending-signal p t))
    ∙ sym (has_number-with (pending_set p) (signal_number s) (signal_number t) (omega arith) (omega arith))))

pub pending_set-without_signals : (w : ℕ) (p : Pending) → w < 2 ^ 64
    → pending_set (without_signals w p) ≡ minus_word (pending_set p) w
pending_set-without_signals w p small =
    let less = minus_word-le (pending_set p) w in
    let within = pending_set-lt p in
    same_signals (pending_set (without_signals w p)) (minus_word (pending_set p) w)
    (pending_set-lt (without_signals w p)) (omega arith)
    (λ t. (let other = signal_number-range t in
    pending-signal (without_signals w p) t ∙ is_some-info_of_without_signals w t p
    ∙ ap (λ b. b && not (has_number w (signal_number t))) (sym (pending-signal p t))
    ∙ sym (has_number-minus (pending_set p) w (signal_number t) small (omega arith) (omega arith))))

pub pending_set-without_standard : (s : Sig) (p : Pending) → IsPendings p → is_standard s ≡ true
    → pending_set (without_one s p) ≡ without_number (pending_set p) (signal_number s)
pending_set-without_standard s p fits kind =
    let less = without_number-le (pending_set p) (signal_number s) in
    let within = pending_set-lt p in
    let numbered = signal_number-range s in
    same_signals (pending_set (without_one s p)) (without_number (pending_set p) (signal_number s))
    (pending_set-lt (without_one s p)) (omega arith)
    (λ t. (let other = signal_number-range t in
    pending-signal (without_one s p) t ∙ is_some-info_of_without_standard s t p fits kind
    ∙ ap (λ b. b && not (eqb (signal_number t) (signal_number s))) (sym (pending-signal p t))
    ∙ sym (has_number-without (pending_set p) (signal_number s) (signal_number t) (omega arith) (omega arith)
    (omega arith) (omega arith))))

-- of one that queues, where another of its number still does, and where none does
waits-left : (n : ℕ) (qs : List Queued) → waits n (without_first (λ q. eqb (signal_number q.signal) n) qs) ≡ true
    → waits n qs ≡ true
waits-left n [] left = left
waits-left n (q ∷ qs) left =
    elim (cases_Bool (eqb (signal_number q.signal) n))
    [ inl here ↦ rw here refl | inr other ↦ rw other (waits-left n qs (rw (other, other) at left)) ]

pub pending_set-without_first : (s : Sig) (p : Pending) → is_standard s ≡ false → IsSome (info_of s (without_one s p))
    → pending_set (without_one s p) ≡ pending_set p
pending_set-without_first s p kind still =
    let gone : without_one s p ≡ record p { queued = without_first (is_of s) p.queued } = without_one-queued s p kind in
    let left : waits (signal_number s) (without_first (is_of s) p.queued) ≡ true =
    ap (λ (r : Pending). waits (signal_number s) r.queued) (sym gone) ∙ sym (waits-info s (without_one s p) kind)
    ∙ still in
    let before : is_some (info_of s p) ≡ true = waits-info s p kind ∙ waits-left (signal_number s) p.queued left in
    same_signals (pending_set (without_one s p)) (pending_set p) (pending_set-lt (without_one s p)) (pending_set-lt p)
    (λ t. elim (cases_eq (signal_number t) (signal_number s)) [
      | inl same ↦ ap (has_number (pending_set (without_one s p))) same ∙ pending-signal (without_one s p) s ∙ still
          ∙ sym before ∙ sym (pending-signal p s) ∙ ap (has_number (pending_set p)) (sym same)
      | inr apart ↦ pending-signal (without_one s p) t ∙ ap is_some (info_of-without_queued s t p kind apart)
          ∙ sym (pending-signal p t)
    ])

pub pending_set-without_last : (s : Sig) (p : Pending) → is_standard s ≡ false → IsNone (info_of s (without_one s p))
    → pending_set (without_one s p) ≡ without_number (pending_set p) (signal_number s)
pending_set-without_last s p kind none =
    let less = without_number-le (pending_set p) (signal_number s) in
    let within = pending_set-lt p in
    let numbered = signal_number-range s in
    same_signals (pending_set (without_one s p)) (without_number (pending_set p) (signal_number s))
    (pending_set-lt (without_one s p)) (omega arith)
    (λ t. (let other = signal_number-range t in
    elim (cases_eq (signal_number t) (signal_number s)) [
      | inl same ↦ ap (has_number (pending_set (without_one s p))) same ∙ pending-signal (without_one s p) s ∙ none
          ∙ sym (has_number-without (pending_set p) (signal_number s) (signal_number t) (omega arith) (omega arith)
          (omega arith) (omega arith)
          ∙ ap (λ b. has_number (pending_set p) (signal_number t) && not b)
          (eq-eqb (signal_number t) (signal_number s) same) ∙ and_false _)
      | inr apart ↦ pending-signal (without_one s p) t ∙ ap is_some (info_of-without_queued s t p kind apart)
          ∙ sym (pending-signal p t)
          ∙ sym (has_number-without (pending_set p) (signal_number s) (signal_number t) (omega arith) (omega arith)
          (omega arith) (omega arith)
          ∙ ap (λ b. has_number (pending_set p) (signal_number t) && not b)
          (ne_eqb (signal_number t) (signal_number s) apart) ∙ and_true _)
    ]))

-- a standard signal that is taken is pending no longer
pub info_of-without_standard : (s : Sig) (p : Pending) → IsPendings p → is_standard s ≡ true
    → IsNone (info_of s (without_one s p))
info_of-without_standard s p fits kind =
    is_some-info_of_without_standard s s p fits kind
    ∙ ap (λ b. is_some (info_of s p) && not b) (eq-eqb (signal_number s) (signal_number s) refl)
    ∙ and_false (is_some (info_of s p))

-- whichever kind it is of: the set loses the signal exactly where none of it is left
pub pending_set-without_gone : (s : Sig) (p : Pending) → IsPendings p → IsNone (info_of s (without_one s p))
    → pending_set (without_one s p) ≡ without_number (pending_set p) (signal_number s)
pending_set-without_gone s p fits none =
    elim (cases_Bool (is_standard s)) [
      | inl stands ↦ pending_set-without_standard s p fits stands
      | inr queues ↦ pending_set-without_last s p queues none
    ]

pub pending_set-without_left : (s : Sig) (p : Pending) → IsPendings p → IsSome (info_of s (without_one s p))
    → pending_set (without_one s p) ≡ pending_set p
pending_set-without_left s p fits still =
    elim (cases_Bool (is_standard s)) [
      | inl stands ↦ absurd (false≢true (sym (info_of-without_standard s p fits stands) ∙ still))
      | inr queues ↦ pending_set-without_first s p queues still
    ]

empty : (n i : ℕ) → is_some (get_or {A = Option Info} (replicate n None) i None) ≡ false
empty zero i = refl
empty (suc n) zero = refl
empty (suc n) (suc i) = empty n i

pub pending_set-nothing : pending_set nothing_pending ≡ 0
pending_set-nothing =
    same_signals (pending_set nothing_pending) 0 (pending_set-lt nothing_pending) (lit< tt)
    (λ s. pending-signal nothing_pending s ∙ none s ∙ sym (has_number-zero (signal_number s))) where
      none : (s : Sig) → is_some (info_of s nothing_pending) ≡ false
      none s =
          elim (cases_Bool (is_standard s)) [
            | inl stands ↦ ap is_some (info_of-standard s nothing_pending stands) ∙ empty 31 (signal_number s - 1)
            | inr queues ↦ ap is_some (info_of-queued s nothing_pending queues)
          ]

-- ---- a loop that clears places

pub cleared_place : (w k n : ℕ) (os ys : List (Option Info)) (i : ℕ) → i < length os → n ≡ k + i → has_number w n ≡ true
    → ys ≡ without_infos w k (take i os) ++ drop i os
    → set ys i None ≡ without_infos w k (take (i + 1) os) ++ drop (i + 1) os
cleared_place w k n os ys i within numbered there so_far =
    ap (λ zs. set zs i None) so_far ∙ step w k os i within (ap (has_number w) (sym numbered) ∙ there)
    ∙ rw (add-one i) refl where
      step : (w k : ℕ) (os : List (Option Info)) (i : ℕ) → i < length os → has_number w (k + i) ≡ true
          → set (without_infos w k (take i os) ++ drop i os) i None
          ≡ without_infos w k (take (suc i) os) ++ drop (suc i) os
      step w k [] i within there = absurd (omega arith)
      step w k (o ∷ os) zero within there =
          let here : has_number w k ≡ true = ap (has_number w) (let place : k ≡ k + 0 = omega arith in place) ∙ there in
          ap (λ b. (cond b None o) ∷ os) (sym here)
      step w k (o ∷ os) (suc i) within there =
          let place : suc k + i ≡ k + suc i = omega arith in
          ap (λ zs. (cond (has_number w k) None o) ∷ zs)
          (step w (suc k) os i (omega arith) (ap (has_number w) place ∙ there))

pub kept_place : (w k n : ℕ) (os ys : List (Option Info)) (i : ℕ) → i < length os → n ≡ k + i → has_number w n ≡ false
    → ys ≡ without_infos w k (take i os) ++ drop i os → ys ≡ without_infos w k (take (i + 1) os) ++ drop (i + 1) os
kept_place w k n os ys i within numbered there so_far =
    so_far ∙ step w k os i within (ap (has_number w) (sym numbered) ∙ there) ∙ rw (add-one i) refl where
      step : (w k : ℕ) (os : List (Option Info)) (i : ℕ) → i < length os → has_number w (k + i) ≡ false
          → without_infos w k (take i os) ++ drop i os ≡ without_infos w k (take (suc i) os) ++ drop (suc i) os
      step w k [] i within there = absurd (omega arith)
      step w k (o ∷ os) zero within there =
          let here : has_number w k ≡ false =
          ap (has_number w) (let place : k ≡ k + 0 = omega arith in place) ∙ there in
          ap (λ b. (cond b None o) ∷ os) (sym here)
      step w k (o ∷ os) (suc i) within there =
          let place : suc k + i ≡ k + suc i = omega arith in
          ap (λ zs. (cond (has_number w k) None o) ∷ zs)
          (step w (suc k) os i (omega arith) (ap (has_number w) place ∙ there))

-- ---- what came with a signal

-- a fault's information replaces what stands
pub info_of-added_fault : (s : Sig) (info : Info) (p : Pending) → IsPendings p → is_standard s ≡ true
    → info.code ≡ fault_code → info_of s (added s info p) ≡ Some info
info_of-added_fault s info p fits stands sent =
    ap (info_of s) (added-standard s info p stands)
    ∙ info_of-standard s (with_standard (signal_number s - 1) info p) stands
    ∙ get_or-set_same p.standard (signal_number s - 1) _ None (place-within s p fits stands)
    ∙ ap Some (replaced (get_or p.standard (signal_number s - 1) None)) where
      replaced : (o : Option Info) → kept_info o info ≡ info
      replaced None = refl
      replaced (Some first) = ap (λ b. cond b info first) (eq-eqb info.code fault_code sent)

found_first : (test : Queued → Bool) (qs rest : List Queued) (first : Info)
    → option_map (λ q. q.info) (find test qs) ≡ Some first
    → option_map (λ q. q.info) (find test (qs ++ rest)) ≡ Some first
found_first test [] rest first found = cc
found_first test (q ∷ qs) rest first found =
    elim (test q)
    as (λ b. option_map (λ (r : Queued). r.info) (cond b (Some q) (find test qs)) ≡ Some first
    → option_map (λ (r : Queued). r.info) (cond b (Some q) (find test (qs ++ rest))) ≡ Some first)
    [ true ↦ λ h. h | false ↦ λ h. found_first test qs rest first h ] found

-- whatever else comes, what came first stays
pub info_of-added_standing : (s : Sig) (info first : Info) (p : Pending) → IsPendings p
    → eqb info.code fault_code ≡ false → info_of s p ≡ Some first → info_of s (added s info p) ≡ Some first
info_of-added_standing s info first p fits other standing =
    elim (cases_Bool (is_standard s)) [
      | inl stands ↦ ap (info_of s) (added-standard s info p stands)
          ∙ info_of-standard s (with_standard (signal_number s - 1) info p) stands
          ∙ get_or-set_same p.standard (signal_number s - 1) _ None (place-within s p fits stands)
          ∙ ap (λ o. Some (kept_info o info)) (sym (info_of-standard s p stands) ∙ standing)
          ∙ ap (λ b. Some (cond b info first)) other
      | inr queues ↦ ap (info_of s) (added-queued s info p queues) ∙ info_of-queued s (with_queued s info p) queues
          ∙ found_first (is_of s) p.queued (record { signal = s; info = info } ∷ []) first
          (sym (info_of-queued s p queues) ∙ standing)
    ]

found_last : (s : Sig) (info : Info) (qs : List Queued) → option_map (λ q. q.info) (find (is_of s) qs) ≡ None
    → option_map (λ q. q.info) (find (is_of s) (qs ++ record { signal = s; info = info } ∷ [])) ≡ Some info
found_last s info [] none =
    ap (λ b. option_map (λ (r : Queued). r.info) (cond b (Some (record { signal = s; info = info })) None))
    (eq-eqb (signal_number s) (signal_number s) refl)
found_last s info (q ∷ qs) none =
    elim (is_of s q)
    as (λ b. option_map (λ (r : Queued). r.info) (cond b (Some q) (find (is_of s) qs)) ≡ None
    → option_map (λ (r : Queued). r.info)
    (cond b (Some q) (find (is_of s) (qs ++ record { signal = s; info = info } ∷ []))) ≡ Some info)
    [ true ↦ λ h. cc | false ↦ λ h. found_last s info qs h ] none

-- what comes alone stands
pub info_of-added_alone : (s : Sig) (info : Info) (p : Pending) → IsPendings p → info_of s p ≡ None
    → info_of s (added s info p) ≡ Some info
info_of-added_alone s info p fits none =
    elim (cases_Bool (is_standard s)) [
      | inl stands ↦ ap (info_of s) (added-standard s info p stands)
          ∙ info_of-standard s (with_standard (signal_number s - 1) info p) stands
          ∙ get_or-set_same p.standard (signal_number s - 1) _ None (place-within s p fits stands)
          ∙ ap (λ o. Some (kept_info o info)) (sym (info_of-standard s p stands) ∙ none)
      | inr queues ↦ ap (info_of s) (added-queued s info p queues) ∙ info_of-queued s (with_queued s info p) queues
          ∙ found_last s info p.queued (sym (info_of-queued s p queues) ∙ none)
    ]

-- ---- what a process and an lwp can have stays within its places

pub IsPendings-nothing : IsPendings nothing_pending
IsPendings-nothing = record { places = refl; limit = lit≤ tt; queues = refl }

pub IsPendings-added : (s : Sig) (info : Info) (p : Pending) → has_room s p ≡ true → IsPendings p
    → IsPendings (added s info p)
unfolding has_room
IsPendings-added s info p room fits =
    elim (cases_Bool (is_standard s)) [
      | inl stands ↦
          rw (added-standard s info p stands)
          (record {
            places = length-set p.standard (signal_number s - 1) _ ∙ fits.places;
            limit = fits.limit;
            queues =
                fits.queues;
          })
      | inr queues ↦
          rw (added-queued s info p queues)
          (record {
            places = fits.places;
            limit =
                (let below : length p.queued < queue_limit =
                ltb-true (length p.queued) queue_limit (rw queues at room) in
                let more = length-append p.queued (record { signal = s; info = info } ∷ []) in omega arith);
            queues =
                list_all-append (λ q. not (is_standard q.signal)) p.queued (record { signal = s; info = info } ∷ [])
                ∙ rw (fits.queues, queues) refl;
          })
    ]

shorter : (p : Queued → Bool) (qs : List Queued) → length (without_first p qs) ≤ length qs
shorter p [] = omega arith
shorter p (q ∷ qs) =
    let rest = shorter p qs in
    elim (p q) as (λ b. length (cond b qs (q ∷ without_first p qs)) ≤ suc (length qs))
    [ true ↦ omega arith | false ↦ omega arith ]

all-without_first : (test p : Queued → Bool) (qs : List Queued) → list_all test qs ≡ true
    → list_all test (without_first p qs) ≡ true
all-without_first test p [] all = refl
all-without_first test p (q ∷ qs) all =
    let parts = and_parts (test q) (list_all test qs) all in
    elim (p q) as (λ b. list_all test (cond b qs (q ∷ without_first p qs)) ≡ true)
    [ true ↦ parts.1 | false ↦ rw parts.0 (all-without_first test p qs parts.1) ]

pub IsPendings-without_pair : (s : Sig) (p : Pending) → IsPendings p
    → IsPendings (record p { queued = without_first (is_of s) p.queued })
IsPendings-without_pair s p fits =
    let limit = fits.limit in
    let less = shorter (is_of s) p.queued in
    record {
      places = fits.places;
      limit = omega arith;
      queues = all-without_first (λ q. not (is_standard q.signal)) (is_of s) p.queued fits.queues;
    }

pub IsPendings-without_one : (s : Sig) (p : Pending) → IsPendings p → IsPendings (without_one s p)
IsPendings-without_one s p fits =
    elim (cases_Bool (is_standard s)) [
      | inl stands ↦
          rw (without_one-standard s p stands)
          (record {
            places = length-set p.standard (signal_number s - 1) None ∙ fits.places;
            limit = fits.limit;
            queues =
                fits.queues;
          })
      | inr queues ↦ rw (without_one-queued s p queues) (IsPendings-without_pair s p fits)
    ]

pub length-without_infos : (w k : ℕ) (os : List (Option Info)) → length (without_infos w k os) ≡ length os
length-without_infos w k [] = refl
length-without_infos w k (o ∷ os) = ap suc (length-without_infos w (suc k) os)

length-filter-le : (p : Queued → Bool) (qs : List Queued) → length (filter p qs) ≤ length qs
length-filter-le p [] = omega arith
length-filter-le p (q ∷ qs) =
    let rest = length-filter-le p qs in
    elim (p q) as (λ b. length (cond b (q ∷ filter p qs) (filter p qs)) ≤ suc (length qs))
    [ true ↦ omega arith | false ↦ omega arith ]

all-filter : (test p : Queued → Bool) (qs : List Queued) → list_all test qs ≡ true → list_all test (filter p qs) ≡ true
all-filter test p [] all = refl
all-filter test p (q ∷ qs) all =
    let parts = and_parts (test q) (list_all test qs) all in
    elim (p q) as (λ b. list_all test (cond b (q ∷ filter p qs) (filter p qs)) ≡ true)
    [ true ↦ rw parts.0 (all-filter test p qs parts.1) | false ↦ all-filter test p qs parts.1 ]

pub IsPendings-without_signals : (w : ℕ) (p : Pending) → IsPendings p → IsPendings (without_signals w p)
unfolding without_signals
IsPendings-without_signals w p fits =
    let limit = fits.limit in
    let less = length-filter-le (λ q. not (has_number w (signal_number q.signal))) p.queued in
    record {
      places = length-without_infos w 1 p.standard ∙ fits.places;
      limit = omega arith;
      queues =
          all-filter (λ q. not (is_standard q.signal))
          (λ q. not (has_number w (signal_number q.signal))) p.queued fits.queues;
    }

-- ---- an early signal: one that no deletion takes may come before the deletion or after it

without_infos-set : (w k : ℕ) (os : List (Option Info)) (j : ℕ) (o : Option Info) → has_number w (k + j) ≡ false
    → without_infos w k (set os j o) ≡ set (without_infos w k os) j o
without_infos-set w k [] j o stays = refl
without_infos-set w k (x ∷ os) zero o stays =
    let place : k + 0 ≡ k = omega arith in
    let here : has_number w k ≡ false = ap (has_number w) (sym place) ∙ stays in
    ap (λ b. (cond b None o) ∷ without_infos w (suc k) os) here
without_infos-set w k (x ∷ os) (suc j) o stays =
    let place : suc k + j ≡ k + suc j = omega arith in
    ap (λ ys. (cond (has_number w k) None x) ∷ ys)
    (without_infos-set w (suc k) os j o (ap (has_number w) place ∙ stays))

pub without_signals-added : (w : ℕ) (s : Sig) (info : Info) (p : Pending) → has_number w (signal_number s) ≡ false
    → without_signals w (added s info p) ≡ added s info (without_signals w p)
unfolding without_signals
without_signals-added w s info p stays =
    let numbered = signal_number-range s in
    let place : 1 + (signal_number s - 1) ≡ signal_number s = omega arith in
    let stays_there : has_number w (1 + (signal_number s - 1)) ≡ false = ap (has_number w) place ∙ stays in
    elim (cases_Bool (is_standard s)) [
      | inl stands ↦ ap (without_signals w) (added-standard s info p stands)
          ∙ standard-kept (signal_number s - 1) stays_there ∙ sym (added-standard s info (without_signals w p) stands)
      | inr queues ↦ ap (without_signals w) (added-queued s info p queues) ∙ queued-kept
          ∙ sym (added-queued s info (without_signals w p) queues)
    ] where
      standard-kept : (j : ℕ) → has_number w (1 + j) ≡ false
          → without_signals w (with_standard j info p) ≡ with_standard j info (without_signals w p)
      standard-kept j there =
          let read : get_or (without_infos w 1 p.standard) j None ≡ get_or p.standard j None =
          get_or-without_infos w 1 p.standard j ∙ ap (λ b. cond b None (get_or p.standard j None)) there in
          ap (λ (os : List (Option Info)). record (without_signals w p) { standard = os })
          (without_infos-set w 1 p.standard j (Some (kept_info (get_or p.standard j None) info)) there
          ∙ ap (λ o. set (without_infos w 1 p.standard) j (Some (kept_info o info))) (sym read))

      queued-kept : without_signals w (with_queued s info p) ≡ with_queued s info (without_signals w p)
      queued-kept =
          let keeps : Queued → Bool = λ q. not (has_number w (signal_number q.signal)) in
          ap (λ (qs : List Queued). record (without_signals w p) { queued = qs })
          (filter-append keeps p.queued (record { signal = s; info = info } ∷ [])
          ∙ ap (λ b. filter keeps p.queued ++ cond (not b) (record { signal = s; info = info } ∷ []) []) stays)

-- No deletion takes a fault's signal, so that a fault's signal may come early.
pub early_signal-stays : (t : Sig) (f : Flt) (info : Info) (p : Pending)
    → without_signals (deleted_by t) (added (fault_signal f) info p)
    ≡ added (fault_signal f) info (without_signals (deleted_by t) p)
early_signal-stays t f info p =
    without_signals-added (deleted_by t) (fault_signal f) info p (deleted_by-fault t f)

pub ruleset kind_laws =
    (info_of-standard, info_of-queued, added-standard, added-queued, without_one-standard, without_one-queued)

pub ruleset clearing_laws = (cleared_place, kept_place)

pub ruleset pending_laws = (
  pending_set-nothing,
  pending_set-added,
  pending_set-without_signals,
  pending_set-without_gone,
  pending_set-without_left,
  IsPendings-added,
  IsPendings-without_one,
  IsPendings-without_signals,
)
