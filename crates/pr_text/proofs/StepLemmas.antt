-- Lists that are folded by steps that may be refused.
use Rattle.std.proofs.Common.{◌≡◌, ℕ, ◌+◌, ◌<◌, ◌≤◌, List, ◌∷◌, length, drop, get_or, Result, Ok, Err, sym, ◌∙◌, ap, subst}
use Rattle.std.proofs.lemmas.List.{drop_all, drop_more}
use Rattle.pr_text.specs.Reads.{Fails, Gives}
use Rattle.pr_text.specs.Steps.{◌>>=◌, folded}
use Rattle.pr_text.specs.declared.refusals.Refused.{Refused}
use Rattle.pr_text.specs.declared.refusals.Refused.TheVariants.{Kind, NoMemory}

module _ {D L E : Type 0} (step : ℕ → D → L → Result D E) where
  -- the element at a place, and the others after it
  folded-at : (n i : ℕ) (d : D) (x y : L) (xs : List L) → i < length xs → x ≡ get_or xs i y
      → step n d x >>= (λ e. folded step (n + 1) e (drop (i + 1) xs)) ≡ folded step n d (drop i xs)
  unfolding folded
  folded-at n i d x y xs inside here =
      ap (λ z. folded step n d (z ∷ drop (i + 1) xs)) here ∙ ap (folded step n d) (sym (drop_more xs i y inside))

  -- it is accepted, and the others are left
  pub folded-more : (n i m : ℕ) (d e : D) (x y : L) (xs : List L) (whole : Result D E) → i < length xs
      → x ≡ get_or xs i y → step n d x ≡ Ok e → m ≡ n + 1 → folded step n d (drop i xs) ≡ whole
      → folded step m e (drop (i + 1) xs) ≡ whole
  folded-more n i m d e x y xs whole inside here ok next kept =
      ap (λ k. folded step k e (drop (i + 1) xs)) next
      ∙ ap (λ r. r >>= (λ z. folded step (n + 1) z (drop (i + 1) xs))) (sym ok) ∙ folded-at n i d x y xs inside here
      ∙ kept

  -- it is refused, and so is the whole
  pub folded-stop : (n i : ℕ) (d : D) (x y : L) (xs : List L) (whole : Result D E) (refusal : E) → i < length xs
      → x ≡ get_or xs i y → step n d x ≡ Err refusal → folded step n d (drop i xs) ≡ whole → whole ≡ Err refusal
  folded-stop n i d x y xs whole refusal inside here stopped kept =
      sym kept ∙ sym (folded-at n i d x y xs inside here)
      ∙ ap (λ r. r >>= (λ z. folded step (n + 1) z (drop (i + 1) xs))) stopped

  -- nothing is left
  pub folded-end : (n i : ℕ) (d : D) (xs : List L) (whole : Result D E) → length xs ≤ i
      → folded step n d (drop i xs) ≡ whole → whole ≡ Ok d
  unfolding folded
  folded-end n i d xs whole over kept = sym kept ∙ ap (folded step n d) (drop_all i xs over)

-- what refuses a part refuses the whole
pub fails_whole : {X Y K : Type 0} (e : Refused K) (part : Result X K) (whole : Result Y K) → Fails e part
    → ((kind : K) → part ≡ Err kind → whole ≡ Err kind) → Fails e whole
fails_whole (NoMemory error) part whole failed on = tt
fails_whole (Kind kind) part whole failed on = on kind failed

-- what gives a part gives the whole that is the part
pub gives_whole : {X Y K : Type 0} (view : X → Y) (r : Result X (Refused K)) (part whole : Result Y K)
    → Gives view r part → whole ≡ part → Gives view r whole
gives_whole {X} {Y} {K} view r part whole gives same = let P : Result Y K → Type 0 = λ read. Gives view r read in
    subst P (sym same) gives
