-- A text that is written piece by piece.
use Rattle.std.proofs.Common.{◌≡◌, ℕ, ◌+◌, ◌<◌, ◌≤◌, arith, decimal, get_or, length, refl, Option, Some, Result, Err, List, [], ◌∷◌, ◌++◌, take, drop, suc, sym, ap, subst, ◌∙◌, take-append-drop, zero}
use Rattle.std.proofs.lemmas.List.{append-nil}
use Rattle.std.proofs.lemmas.List.Concat.{flat_map-append}
use Rattle.std.specs.Borrow.{Bor}
use Rattle.std.specs.List.{slice_get}
use Rattle.pr_num.proofs.ListLemmas.{take-next}
use Rattle.pr_io.specs.Faults.{Rose}
use Rattle.pr_io.specs.Known.{with_end}
use Rattle.pr_io.specs.Writing.{AppendsFront}
use Rattle.pr_io.proofs.Fronts.{AppendsFront-first, AppendsFront-second}
use Rattle.pr_io.proofs.Known.{with_end-nil, with_end-with_end}
use Rattle.pr_output.specs.Puts.{Puts}
use Rattle.pr_output.specs.declared.cuts.Cut.{Cut}
use Rattle.pr_output.specs.declared.cuts.Cut.TheVariants.{WriteFailed}
use Rattle.pr_commands.specs.Giving.{text_of}

module _ (old mid new : Option (List ℕ)) (pieces : List (Bor (List ℕ))) (i : ℕ) (p : Bor (List ℕ))
    (at : slice_get pieces i ≡ Some p) (so_far : mid ≡ with_end old (text_of (take i pieces))) where
  text-next : text_of (take (i + 1) pieces) ≡ text_of (take i pieces) ++ p.now
  text-next =
      ap text_of (take-next i pieces p at)
      ∙ flat_map-append (λ (q : Bor (List ℕ)). q.now) (take i pieces) (p ∷ [])
      ∙ ap (λ t. text_of (take i pieces) ++ t) (append-nil p.now)

  pub piece-next : new ≡ with_end mid p.now → new ≡ with_end old (text_of (take (i + 1) pieces))
  piece-next more =
      more ∙ ap (λ known. with_end known p.now) so_far ∙ with_end-with_end old (text_of (take i pieces)) p.now
      ∙ ap (with_end old) (sym text-next)

  text-whole : text_of (take (i + 1) pieces) ++ text_of (drop (i + 1) pieces) ≡ text_of pieces
  text-whole =
      sym (flat_map-append (λ (q : Bor (List ℕ)). q.now) (take (i + 1) pieces) (drop (i + 1) pieces))
      ∙ ap text_of (take-append-drop (i + 1) pieces)

  piece-cut : AppendsFront mid new p.now → AppendsFront old new (text_of pieces)
  piece-cut front =
      let here : AppendsFront old new (text_of (take i pieces) ++ p.now) =
      AppendsFront-second old mid new (text_of (take i pieces)) p.now so_far front in
      let there : AppendsFront old new (text_of (take (i + 1) pieces)) =
      subst (λ t. AppendsFront old new t) (sym text-next) here in
      subst (λ t. AppendsFront old new t) text-whole
      (AppendsFront-first old new (text_of (take (i + 1) pieces)) (text_of (drop (i + 1) pieces)) there)

  -- A write failed in this piece.
  pub piece-failed : (r : Result Unit Cut) (before between after : ℕ) → r ≡ Err WriteFailed → between ≡ before
      → AppendsFront mid new p.now → Rose between after → between ≤ after → Puts r old new before after (text_of pieces)
  piece-failed r before between after is same front rose grows =
      subst (λ (x : Result Unit Cut). Puts x old new before after (text_of pieces)) (sym is) (record {
        all = tt;
        failed = λ e. piece-cut front;
        rose = λ e. subst (λ (n : ℕ). Rose n after) same rose;
        memory = λ e. cc;
        no_fault = λ other. absurd (other refl);
        never_falls = omega (arith, same, grows);
      })

-- nothing was written yet
pub piece-none : (old : Option (List ℕ)) → old ≡ with_end old []
piece-none old = sym (with_end-nil old)

-- the piece at a place before the end
pub piece-at : {X : Type 0} (xs : List X) (i : ℕ) (d : X) → i < length xs → slice_get xs i ≡ Some (get_or xs i d)
piece-at [] i d h = absurd (omega (arith, h))
piece-at (x ∷ xs) zero d h = refl
piece-at (x ∷ xs) (suc i) d h = piece-at xs i d (omega (arith, h))

-- a number between two texts, in pieces
pub numbered : (before digits behind : Bor (List ℕ)) (n : ℕ) → digits.now ≡ decimal n
    → text_of (before ∷ digits ∷ behind ∷ []) ≡ before.now ++ (decimal n ++ behind.now)
numbered before digits behind n is =
    ap (λ (t : List ℕ). before.now ++ (t ++ (behind.now ++ []))) is
    ∙ ap (λ (t : List ℕ). before.now ++ (decimal n ++ t)) (append-nil behind.now)
