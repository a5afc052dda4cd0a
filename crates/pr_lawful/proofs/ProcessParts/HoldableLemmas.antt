use Rattle.std.proofs.Common.{◌≡◌, ◌≢◌, ℕ, ◌-◌, ◌^◌, ◌<◌, ◌≤◌, Bool, true, false, not, ◌&&◌, ◌||◌, eqb, bit_and, refl, sym, ◌∙◌, ap, arith, lit≤}
use Rattle.std.proofs.lemmas.Bool.{eqb-true, false≢true}
use Rattle.std.proofs.lemmas.Nat.{and_le_r}
use Rattle.pr_num.proofs.SetLemmas.{has_number-holdable, has_number-with, same_set, with_number-lt}
use Rattle.pr_num.specs.Sets.{has_number, minus_word, with_number, without_number}
use Rattle.pr_num.specs.Signals.{holdable_word}
use Rattle.pr_model.specs.Lawful.{IsHoldable}

-- Sets that can be held: SIGKILL and SIGSTOP, 9 and 23, are not in them.

-- such a set is a word
and-lt : (x m : ℕ) → bit_and x (2 ^ 64 - 1 - m) < 2 ^ 64
and-lt x m = let most = and_le_r x (2 ^ 64 - 1 - m) in omega arith

pub holdable-lt : (w : ℕ) → holdable_word w < 2 ^ 64
unfolding holdable_word without_number minus_word
holdable-lt w = and-lt _ _

-- what is left of a set is such a set
again : (a b c : Bool) → (((a && b) && c) && b) && c ≡ ((a && b) && c)
again true true true = refl
again true true false = refl
again true false c = refl
again false b c = refl

pub holdable-holdable : (w : ℕ) → IsHoldable (holdable_word w)
holdable-holdable w = record {
  same =
      same_set 64 (holdable_word (holdable_word w)) (holdable_word w) (holdable-lt (holdable_word w)) (holdable-lt w)
      (λ n least most.
      has_number-holdable (holdable_word w) n least most
      ∙ ap (λ x. x && not (eqb n 9) && not (eqb n 23)) (has_number-holdable w n least most)
      ∙ again (has_number w n) (not (eqb n 9)) (not (eqb n 23))
      ∙ sym (has_number-holdable w n least most));
}

-- ---- a signal more is held

held-lt : (w : ℕ) → IsHoldable w → w < 2 ^ 64
held-lt w h = let small = holdable-lt w in rw h.same at small

-- it has neither of the two
has_kill : (a c : Bool) → (a && false) && c ≡ false
has_kill true c = refl
has_kill false c = refl

has_stop : (a c : Bool) → (a && c) && false ≡ false
has_stop true true = refl
has_stop true false = refl
has_stop false c = refl

pub no-kill : (w : ℕ) → IsHoldable w → has_number w 9 ≡ false
no-kill w h =
    ap (λ x. has_number x 9) (sym h.same) ∙ has_number-holdable w 9 (lit≤ tt) (lit≤ tt) ∙ has_kill (has_number w 9) true

pub no-stop : (w : ℕ) → IsHoldable w → has_number w 23 ≡ false
no-stop w h =
    ap (λ x. has_number x 23) (sym h.same) ∙ has_number-holdable w 23 (lit≤ tt) (lit≤ tt)
    ∙ has_stop (has_number w 23) true

-- a bit of a set to which a number was added that is neither of the two
same_bits : (w k n : ℕ) (has is9 is23 isk : Bool) → has_number w n ≡ has → eqb n 9 ≡ is9 → eqb n 23 ≡ is23
    → eqb n k ≡ isk → IsHoldable w → 9 ≢ k → 23 ≢ k → (((has || isk) && not is9) && not is23) ≡ (has || isk)
same_bits w k n true true b23 c e is9 is23 isk h ne9 ne23 =
    absurd (false≢true (sym (no-kill w h) ∙ ap (has_number w) (sym (eqb-true n 9 is9)) ∙ e))
same_bits w k n true false true c e is9 is23 isk h ne9 ne23 =
    absurd (false≢true (sym (no-stop w h) ∙ ap (has_number w) (sym (eqb-true n 23 is23)) ∙ e))
same_bits w k n true false false c e is9 is23 isk h ne9 ne23 = refl
same_bits w k n false true b23 true e is9 is23 isk h ne9 ne23 = absurd (ne9 (sym (eqb-true n 9 is9) ∙ eqb-true n k isk))
same_bits w k n false false true true e is9 is23 isk h ne9 ne23 =
    absurd (ne23 (sym (eqb-true n 23 is23) ∙ eqb-true n k isk))
same_bits w k n false false false true e is9 is23 isk h ne9 ne23 = refl
same_bits w k n false b9 b23 false e is9 is23 isk h ne9 ne23 = refl

pub holdable-with : (w k : ℕ) → IsHoldable w → 1 ≤ k → k ≤ 64 → 9 ≢ k → 23 ≢ k → IsHoldable (with_number w k)
holdable-with w k h low high ne9 ne23 = record {
  same =
      same_set 64 (holdable_word (with_number w k)) (with_number w k) (holdable-lt (with_number w k))
      (with_number-lt 64 w k (held-lt w h) low high) (λ n least most.
      has_number-holdable (with_number w k) n least most
      ∙ ap (λ x. (x && not (eqb n 9)) && not (eqb n 23)) (has_number-with w k n low least)
      ∙ same_bits w k n (has_number w n) (eqb n 9) (eqb n 23) (eqb n k) refl refl refl refl h ne9 ne23
      ∙ sym (has_number-with w k n low least));
}
