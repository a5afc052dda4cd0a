use Rattle.std.proofs.Common.{◌≡◌, ◌↔◌, ◌⊎◌, ℕ, zero, suc, ◌+◌, ◌-◌, ◌^◌, ◌<◌, ◌≤◌, Bool, true, false, ◌||◌, eqb, cond, Option, Some, None, IsNone, IsSome, is_some, List, [], ◌∷◌, length, lit≤, refl, sym, ◌∙◌, ap, arith, inl, inr}
use Rattle.std.specs.List.{slice_get}
use Rattle.std.proofs.lemmas.Option.{slice_get_past, same_Some}
use Rattle.std.proofs.lemmas.Nat.{pow_pos}
use Rattle.std.proofs.lemmas.Bool.{and_parts, or_from, or_right, eqb-true, eq-eqb, cases_eq, cases_lt, cond-false, ne_eqb, false≢true}
use Rattle.pr_num.specs.declared.signals.Sig.{Sig}
use Rattle.pr_num.specs.declared.signals.Sig.TheVariants.{Hup}
use Rattle.pr_num.specs.Sets.{has_number, with_number, least_entry, set_of}
use Rattle.pr_num.specs.Limits.{signal_count}
use Rattle.pr_num.specs.Tables.{entry_at, counts_from}
use Rattle.pr_num.specs.Signals.{signals, signal_number, least_signal}
use Rattle.pr_num.specs.Faults.{faults, fault_number}
use Rattle.pr_num.specs.Syscalls.{syscalls, syscall_number}
use Rattle.pr_num.proofs.BoolLemmas.{or_false}
use Rattle.pr_num.proofs.SetLemmas.{has_number-zero, has_number-with, same_set, with_number-lt}

-- ---- tables whose entries are numbered in their order

-- the entry at a place has the number of the place
pub number-slice_get : {T : Type 0} (number : T → ℕ) (n : ℕ) (xs : List T) → counts_from number n xs ≡ true
    → (i : ℕ) (x : T) → slice_get xs i ≡ Some x → number x ≡ n + i
number-slice_get number n [] ok i x e = cc
number-slice_get number n (y ∷ ys) ok zero x e =
    let same : y ≡ x = cc in
    ap number (sym same) ∙ eqb-true _ _ (and_parts (eqb (number y) n) _ ok).0 ∙ omega arith
number-slice_get number n (y ∷ ys) ok (suc i) x e =
    number-slice_get number (suc n) ys (and_parts (eqb (number y) n) _ ok).1 i x e ∙ omega arith

slice_get-some : {T : Type 0} (xs : List T) (i : ℕ) → i < length xs → IsSome (slice_get xs i)
slice_get-some [] i below = absurd (omega arith)
slice_get-some (x ∷ xs) zero below = refl
slice_get-some (x ∷ xs) (suc i) below = slice_get-some xs i (omega arith)

-- the entry of a number, at a number that is not 0
entry_at-suc : {T : Type 0} (xs : List T) (n : ℕ) → entry_at xs (suc n) ≡ slice_get xs n
unfolding entry_at
entry_at-suc xs n =
    let counted : suc n ≡ 0 → ⊥ = λ e. omega arith in
    let place : suc n - 1 ≡ n = omega arith in
    cond-false (eqb (suc n) 0) None (slice_get xs (suc n - 1)) (ne_eqb (suc n) 0 counted) ∙ ap (slice_get xs) place

pub number-entry_at : {T : Type 0} (number : T → ℕ) (xs : List T) → counts_from number 1 xs ≡ true → (n : ℕ) (x : T)
    → entry_at xs n ≡ Some x → number x ≡ n
unfolding entry_at
number-entry_at number xs ok zero x e = cc
number-entry_at number xs ok (suc n) x e =
    number-slice_get number 1 xs ok n x (sym (entry_at-suc xs n) ∙ e) ∙ omega arith

-- a table has as many numbers as entries
pub IsSome-entry_at : {T : Type 0} (xs : List T) (n : ℕ) → IsSome (entry_at xs n) ↔ ((1 ≤ n) × (n ≤ length xs))
unfolding entry_at
IsSome-entry_at xs zero = (λ e. cc, λ within. absurd (omega arith))
IsSome-entry_at xs (suc n) = (
  λ e. inside (cases_lt n (length xs)) (ap is_some (sym (entry_at-suc xs n)) ∙ e),
  λ within. ap is_some (entry_at-suc xs n) ∙ found (omega arith),
) where
  inside : (n < length xs) ⊎ (length xs ≤ n) → IsSome (slice_get xs n) → (1 ≤ suc n) × (suc n ≤ length xs)
  inside (inl below) e = (omega arith, omega arith)
  inside (inr past) e = absurd (false≢true (sym (ap is_some (slice_get_past xs n past)) ∙ e))

  found : n < length xs → IsSome (slice_get xs n)
  found below = slice_get-some xs n below

-- nothing is found first, and nothing after
none_here : {T : Type 0} (b : Bool) (x : T) (rest : Option T) → cond b (Some x) rest ≡ None → b ≡ false
none_here true x rest e = cc
none_here false x rest e = refl

none_after : {T : Type 0} (b : Bool) (x : T) (rest : Option T) → cond b (Some x) rest ≡ None → rest ≡ None
none_after true x rest e = cc
none_after false x rest e = e

-- a set with no least entry has no number of the table
has_number-none : {T : Type 0} (number : T → ℕ) (w n : ℕ) (xs : List T) → counts_from number n xs ≡ true
    → least_entry number xs w ≡ None → (m : ℕ) → n ≤ m → m < n + length xs → has_number w m ≡ false
has_number-none number w n [] ok none m least most = absurd (omega arith)
has_number-none number w n (x ∷ xs) ok none m least most =
    let here : number x ≡ n = eqb-true _ _ (and_parts (eqb (number x) n) _ ok).0 in
    let rest : counts_from number (suc n) xs ≡ true = (and_parts (eqb (number x) n) _ ok).1 in
    elim (cases_eq m n) [
      | inl e ↦ ap (has_number w) (e ∙ sym here) ∙ none_here (has_number w (number x)) x _ none
      | inr ne ↦
          has_number-none number w (suc n) xs rest (none_after (has_number w (number x)) x _ none) m (omega arith)
          (omega arith)
    ]

-- a set within its table has no least entry exactly where it is empty
zero-from-none : {T : Type 0} (number : T → ℕ) (w : ℕ) (xs : List T) → counts_from number 1 xs ≡ true
    → w < 2 ^ length xs → least_entry number xs w ≡ None → w ≡ 0
zero-from-none number w xs ok small none =
    same_set (length xs) w 0 small (omega arith)
    (λ m least most. has_number-none number w 1 xs ok none m least (omega arith) ∙ sym (has_number-zero m))

from_is_none : {T : Type 0} (o : Option T) → IsNone o → o ≡ None
from_is_none None e = refl
from_is_none (Some x) e = cc

pub least_entry-zero : {T : Type 0} (number : T → ℕ) (xs : List T) (w : ℕ) → w ≡ 0 → least_entry number xs w ≡ None
least_entry-zero number [] w e = refl
least_entry-zero number (x ∷ xs) w e =
    ap (λ b. cond b (Some x) (least_entry number xs w))
    (ap (λ w. has_number w (number x)) e ∙ has_number-zero (number x)) ∙ least_entry-zero number xs w e

pub least_entry-none : {T : Type 0} (number : T → ℕ) (xs : List T) (w : ℕ) → counts_from number 1 xs ≡ true
    → w < 2 ^ length xs → IsNone (least_entry number xs w) ↔ (w ≡ 0)
least_entry-none number xs w ok small =
    (λ e. zero-from-none number w xs ok small (from_is_none _ e), λ e. ap is_some (least_entry-zero number xs w e))

-- the least entry of a set is in it
pub has_number-least_entry : {T : Type 0} (number : T → ℕ) (w : ℕ) (xs : List T) (x : T)
    → least_entry number xs w ≡ Some x → has_number w (number x) ≡ true
has_number-least_entry number w [] x found = cc
has_number-least_entry number w (y ∷ ys) x found =
    elim (has_number w (number y))
    as (λ b. has_number w (number y) ≡ b → cond b (Some y) (least_entry number ys w) ≡ Some x
    → has_number w (number x) ≡ true) [
      | true ↦ λ here e. ap (λ z. has_number w (number z)) (sym (same_Some y x e)) ∙ here
      | false ↦ λ _ e. has_number-least_entry number w ys x e
    ] refl found

-- and no number of the table below it is
pub least_entry-least : {T : Type 0} (number : T → ℕ) (w n : ℕ) (xs : List T) (x : T) → counts_from number n xs ≡ true
    → least_entry number xs w ≡ Some x → (m : ℕ) → n ≤ m → m < number x → has_number w m ≡ false
least_entry-least number w n [] x ok found m least below = cc
least_entry-least number w n (y ∷ ys) x ok found m least below =
    let here : number y ≡ n = eqb-true _ _ (and_parts (eqb (number y) n) _ ok).0 in
    let rest : counts_from number (suc n) ys ≡ true = (and_parts (eqb (number y) n) _ ok).1 in
    elim (has_number w (number y))
    as (λ b. has_number w (number y) ≡ b → cond b (Some y) (least_entry number ys w) ≡ Some x
    → has_number w m ≡ false) [
      | true ↦ λ _ e. (let same : number y ≡ number x = ap number (same_Some y x e) in absurd (omega arith))
      | false ↦ λ not_here e.
          (elim (cases_eq m n) [
            | inl at ↦ ap (has_number w) (at ∙ sym here) ∙ not_here
            | inr ne ↦ least_entry-least number w (suc n) ys x rest e m (omega arith) below
          ])
    ] refl found

-- ---- the set of the entries that pass a test

from_counted : {T : Type 0} (number : T → ℕ) (k : ℕ) (x : T) (xs : List T) → counts_from number k (x ∷ xs) ≡ true
    → (number x ≡ k) × (counts_from number (suc k) xs ≡ true)
from_counted number k x xs ok =
    let parts = and_parts (eqb (number x) k) (counts_from number (suc k) xs) ok in
    (eqb-true (number x) k parts.0, parts.1)

-- it has no number before the table's first
has_number-set_of_before : {T : Type 0} (number : T → ℕ) (test : T → Bool) (k : ℕ) (xs : List T)
    → counts_from number k xs ≡ true → (n : ℕ) → 1 ≤ n → n < k → has_number (set_of number test xs) n ≡ false
has_number-set_of_before number test k [] ok n least below = has_number-zero n
has_number-set_of_before number test k (x ∷ xs) ok n least below =
    let here = from_counted number k x xs ok in
    let rest = has_number-set_of_before number test (suc k) xs here.1 n least (omega arith) in
    let other : eqb n (number x) ≡ false = ne_eqb n (number x) (λ e. absurd (omega arith)) in
    elim (test x)
    as (λ b. has_number (cond b (with_number (set_of number test xs) (number x)) (set_of number test xs)) n ≡ false) [
      | true ↦ has_number-with (set_of number test xs) (number x) n (omega arith) least ∙ or_from _ _ rest other
      | false ↦ rest
    ]

pub has_number-set_of : {T : Type 0} (number : T → ℕ) (test : T → Bool) (k : ℕ) (xs : List T)
    → counts_from number k xs ≡ true → 1 ≤ k → (i : ℕ) (x : T) → slice_get xs i ≡ Some x
    → has_number (set_of number test xs) (number x) ≡ test x
has_number-set_of number test k [] ok least i x there = cc
has_number-set_of number test k (y ∷ ys) ok least zero x there =
    let here = from_counted number k y ys ok in
    let same : y ≡ x = same_Some y x there in
    let rest = has_number-set_of_before number test (suc k) ys here.1 (number y) (omega arith) (omega arith) in
    rw (← same) (at_first (test y) rest) where
      at_first : (b : Bool) → has_number (set_of number test ys) (number y) ≡ false
          → has_number (cond b (with_number (set_of number test ys) (number y)) (set_of number test ys)) (number y) ≡ b
      at_first true rest =
          has_number-with (set_of number test ys) (number y) (number y)
          (omega (arith, (from_counted number k y ys ok).0)) (omega (arith, (from_counted number k y ys ok).0))
          ∙ or_right _ _ (eq-eqb (number y) (number y) refl)
      at_first false rest = rest
has_number-set_of number test k (y ∷ ys) ok least (suc i) x there =
    let here = from_counted number k y ys ok in
    let later : number x ≡ suc k + i = number-slice_get number (suc k) ys here.1 i x there in
    let rest = has_number-set_of number test (suc k) ys here.1 (omega arith) i x there in
    let other : eqb (number x) (number y) ≡ false = ne_eqb (number x) (number y) (λ e. absurd (omega arith)) in
    elim (test y)
    as (λ b. has_number (cond b (with_number (set_of number test ys) (number y)) (set_of number test ys)) (number x)
    ≡ test x) [
      | true ↦ has_number-with (set_of number test ys) (number y) (number x) (omega arith) (omega arith)
          ∙ ap (λ b. has_number (set_of number test ys) (number x) || b) other ∙ or_false _ ∙ rest
      | false ↦ rest
    ]

pub set_of-lt : {T : Type 0} (number : T → ℕ) (test : T → Bool) (k m : ℕ) (xs : List T) → counts_from number k xs ≡ true
    → 1 ≤ k → k + length xs ≤ m + 1 → set_of number test xs < 2 ^ m
set_of-lt number test k m [] ok least most = pow_pos m
set_of-lt number test k m (x ∷ xs) ok least most =
    let here = from_counted number k x xs ok in
    let rest = set_of-lt number test (suc k) m xs here.1 (omega arith) (omega arith) in
    elim (test x) as (λ b. cond b (with_number (set_of number test xs) (number x)) (set_of number test xs) < 2 ^ m)
    [ true ↦ with_number-lt m _ (number x) rest (omega arith) (omega arith) | false ↦ rest ]

-- ---- the three tables

pub signals_counted : counts_from signal_number 1 signals ≡ true
unfolding signal_number
signals_counted = refl

pub faults_counted : counts_from fault_number 1 faults ≡ true
unfolding fault_number
faults_counted = refl

pub syscalls_counted : counts_from syscall_number 1 syscalls ≡ true
unfolding syscall_number
syscalls_counted = refl

pub ruleset tables_counted = (signals_counted, faults_counted, syscalls_counted)

-- ---- the least signal of a set

pub has_number-least_signal : (w : ℕ) (least : Sig) → least_signal w ≡ Some least
    → has_number w (signal_number least) ≡ true
unfolding least_signal
has_number-least_signal w least found = has_number-least_entry signal_number w signals least found

-- ---- sets of signals

signal-entry_at : (s : Sig) → entry_at signals (signal_number s) ≡ Some s
unfolding signal_number entry_at
signal-entry_at Hup = refl
signal-entry_at _ = refl

-- the number of a signal, and the place of the signal in its table
pub signal_number-range : (s : Sig) → (1 ≤ signal_number s) × (signal_number s ≤ signal_count)
signal_number-range s = (IsSome-entry_at signals (signal_number s)).0 (ap is_some (signal-entry_at s))

pub signals-at : (s : Sig) → slice_get signals (signal_number s - 1) ≡ Some s
unfolding signal_number
signals-at Hup = refl
signals-at _ = refl

-- the set of the signals that pass a test has those
pub has_signal-set_of : (test : Sig → Bool) (s : Sig)
    → has_number (set_of signal_number test signals) (signal_number s) ≡ test s
has_signal-set_of test s =
    has_number-set_of signal_number test 1 signals signals_counted (lit≤ tt) (signal_number s - 1) s (signals-at s)

pub set_of_signals-lt : (test : Sig → Bool) → set_of signal_number test signals < 2 ^ signal_count
set_of_signals-lt test = set_of-lt signal_number test 1 signal_count signals signals_counted (lit≤ tt) (lit≤ tt)

-- sets that have the same signals are one
pub same_signals : (a b : ℕ) → a < 2 ^ signal_count → b < 2 ^ signal_count
    → ((s : Sig) → has_number a (signal_number s) ≡ has_number b (signal_number s)) → a ≡ b
same_signals a b p q same =
    same_set signal_count a b p q
    (λ n least most. found n (entry_at signals n) refl ((IsSome-entry_at signals n).1 (least, most))) where
      found : (n : ℕ) (o : Option Sig) → entry_at signals n ≡ o → IsSome o → has_number a n ≡ has_number b n
      found n None e some = cc
      found n (Some s) e some =
          let number : signal_number s ≡ n = number-entry_at signal_number signals signals_counted n s e in
          rw (← number) (same s)
