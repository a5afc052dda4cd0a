-- Lists that are read one element after another.
use Rattle.std.proofs.Common.{◌≡◌, ℕ, ◌<◌, true, false, cond, Option, Some, None, List, [], ◌∷◌, ◌++◌, length, refl, sym, ap, ◌∙◌, arith}
use Rattle.std.proofs.lemmas.List.{append_assoc, append-nil}
use Rattle.std.specs.Str.{bytes_eq}
use Rattle.pr_plain.specs.CallReading.{arrow, handles_at}
use Rattle.pr_plain.specs.DecimalWords.{decimal_id_of}
use Rattle.pr_plain.specs.Readings.{◌>>=◌}
use Rattle.pr_plain.specs.WordReading.{Words, word_at}

-- handles that are read behind those that were read before, and what stands behind them
abbrev pub with_handles : List ℕ → Option (List ℕ × Words) → Option (List ℕ × Words)
with_handles front None = None
with_handles front (Some x) = Some (front ++ x.0, x.1)

-- ---- words

pub word_at-is : (ws : Words) (w : List ℕ) (rest : Words) → word_at ws ≡ Some (w, rest) → ws ≡ w ∷ rest
unfolding word_at
word_at-is [] w rest e = cc
word_at-is (v ∷ vs) w rest e =
    let first : v ≡ w = ap (λ (o : Option (List ℕ × Words)). first_of v o) e in
    let others : vs ≡ rest = ap (λ (o : Option (List ℕ × Words)). others_of vs o) e in
    ap (λ u. u ∷ vs) first ∙ ap (λ us. w ∷ us) others
  where
    first_of : List ℕ → Option (List ℕ × Words) → List ℕ
    first_of d None = d
    first_of d (Some x) = x.0

    others_of : Words → Option (List ℕ × Words) → Words
    others_of d None = d
    others_of d (Some x) = x.1

pub word_at-none : (ws : Words) → word_at ws ≡ None → ws ≡ []
unfolding word_at
word_at-none [] e = refl
word_at-none (v ∷ vs) e = cc

pub word_at-shorter : (ws : Words) (w : List ℕ) (rest : Words) → word_at ws ≡ Some (w, rest) → length rest < length ws
word_at-shorter ws w rest e = omega (arith, ap length (word_at-is ws w rest e))

-- ---- handles

regroup : (front : List ℕ) (h : ℕ) (o : Option (List ℕ × Words))
    → with_handles front (o >>= λ hs. Some (h ∷ hs.0, hs.1)) ≡ with_handles (front ++ h ∷ []) o
regroup front h None = refl
regroup front h (Some x) = ap (λ (hs : List ℕ). Some (hs, x.1)) (sym (append_assoc front (h ∷ []) x.0))

handles_more : (front : List ℕ) (w : List ℕ) (h : ℕ) (rest : Words) → bytes_eq w arrow ≡ false
    → decimal_id_of w ≡ Some h
    → with_handles front (handles_at (w ∷ rest)) ≡ with_handles (front ++ h ∷ []) (handles_at rest)
unfolding handles_at
handles_more front w h rest other found =
    ap (λ t.
    with_handles front
    (cond t (Some ([], w ∷ rest)) (decimal_id_of w >>= λ h. (handles_at rest >>= λ hs. Some (h ∷ hs.0, hs.1)))))
    other
    ∙ ap (λ o. with_handles front (o >>= λ h. (handles_at rest >>= λ hs. Some (h ∷ hs.0, hs.1)))) found
    ∙ regroup front h (handles_at rest)

pub handles_at-more : (front : List ℕ) (ws : Words) (w : List ℕ) (h : ℕ) (rest : Words) → word_at ws ≡ Some (w, rest)
    → bytes_eq w arrow ≡ false → decimal_id_of w ≡ Some h
    → with_handles front (handles_at ws) ≡ with_handles (front ++ h ∷ []) (handles_at rest)
handles_at-more front ws w h rest e other found =
    ap (λ vs. with_handles front (handles_at vs)) (word_at-is ws w rest e) ∙ handles_more front w h rest other found

handles_bad : (w : List ℕ) (rest : Words) → bytes_eq w arrow ≡ false → decimal_id_of w ≡ None
    → handles_at (w ∷ rest) ≡ None
unfolding handles_at
handles_bad w rest other none =
    ap (λ t. cond t (Some ([], w ∷ rest)) (decimal_id_of w >>= λ h. (handles_at rest >>= λ hs. Some (h ∷ hs.0, hs.1))))
    other
    ∙ ap (λ o. o >>= λ h. (handles_at rest >>= λ hs. Some (h ∷ hs.0, hs.1))) none

-- where a word is neither the arrow nor a handle, nothing is read, whatever was read before
pub handles_at-bad : (front : List ℕ) (ws : Words) (w : List ℕ) (rest : Words) → word_at ws ≡ Some (w, rest)
    → bytes_eq w arrow ≡ false → decimal_id_of w ≡ None → with_handles front (handles_at ws) ≡ None
handles_at-bad front ws w rest e other none =
    ap (λ vs. with_handles front (handles_at vs)) (word_at-is ws w rest e)
    ∙ ap (with_handles front) (handles_bad w rest other none)

handles_arrow : (w : List ℕ) (rest : Words) → bytes_eq w arrow ≡ true → handles_at (w ∷ rest) ≡ Some ([], w ∷ rest)
unfolding handles_at
handles_arrow w rest is =
    ap (λ t.
    cond t (Some ([], w ∷ rest)) (decimal_id_of w >>= λ h. (handles_at rest >>= λ hs. Some (h ∷ hs.0, hs.1)))) is

-- at the arrow the handles are those that were read before
pub handles_at-arrow : (front : List ℕ) (ws : Words) (w : List ℕ) (rest : Words) → word_at ws ≡ Some (w, rest)
    → bytes_eq w arrow ≡ true → with_handles front (handles_at ws) ≡ Some (front, ws)
handles_at-arrow front ws w rest e is =
    let words = word_at-is ws w rest e in
    ap (λ vs. with_handles front (handles_at vs)) words ∙ ap (with_handles front) (handles_arrow w rest is)
    ∙ ap (λ (hs : List ℕ). Some (hs, w ∷ rest)) (append-nil front) ∙ ap (λ vs. Some (front, vs)) (sym words)

handles_none : handles_at [] ≡ None
unfolding handles_at
handles_none = refl

pub handles_at-end : (front : List ℕ) (ws : Words) → word_at ws ≡ None → with_handles front (handles_at ws) ≡ None
handles_at-end front ws e =
    ap (λ vs. with_handles front (handles_at vs)) (word_at-none ws e) ∙ ap (with_handles front) handles_none

pub ruleset handles_read = (word_at-shorter, handles_at-more, handles_at-bad, handles_at-arrow, handles_at-end)
