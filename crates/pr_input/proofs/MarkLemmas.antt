-- Where the line between the parts of an input is found.
use Rattle.std.proofs.Common.{◌≡◌, ◌<◌, ◌≤◌, ◌+◌, ℕ, Bool, true, false, cond, Option, Some, None, IfSome, List, find, length, min, suc, sym, subst, arith, zero}
use Rattle.std.specs.List.{range_with_len}
use Rattle.pr_input.specs.Marks.{is_mark_at, mark_place}
use Rattle.pr_input.specs.declared.marks.Mark.{Mark}

-- what holds of a number holds of it where less is asked
weaker : (o : Option ℕ) (a b : ℕ) → a ≤ b → IfSome o (λ place. place < a) → IfSome o (λ place. place < b)
weaker None a b le h = tt
weaker (Some place) a b le h = omega (arith, le, h)

find-within : (p : ℕ → Bool) (a n : ℕ) → IfSome (find p (range_with_len a n)) (λ place. place < a + n)
find-within p a zero = tt
find-within p a (suc n) = by (p a) (find-within p (a + 1) n)
  where
    by : (b : Bool) → IfSome (find p (range_with_len (a + 1) n)) (λ place. place < a + 1 + n)
        → IfSome (cond b (Some a) (find p (range_with_len (a + 1) n))) (λ place. place < a + suc n)
    by true rest = omega arith
    by false rest = weaker (find p (range_with_len (a + 1) n)) (a + 1 + n) (a + suc n) (omega arith) rest

-- It stands within the text.
pub mark-within : (m : Mark) (limit : ℕ) (text : List ℕ)
    → IfSome (mark_place m limit text) (λ place. place < length text)
unfolding mark_place
mark-within m limit text =
    weaker (mark_place m limit text) (0 + min (length text) (limit + 1)) (length text) (omega arith)
    (find-within (is_mark_at m text) 0 (min (length text) (limit + 1)))

-- the same of what is found there
pub found-within : (m : Mark) (limit : ℕ) (text : List ℕ) (o : Option ℕ) → o ≡ mark_place m limit text
    → IfSome o (λ place. place < length text)
found-within m limit text o is =
    subst (λ (x : Option ℕ). IfSome x (λ place. place < length text)) (sym is) (mark-within m limit text)
