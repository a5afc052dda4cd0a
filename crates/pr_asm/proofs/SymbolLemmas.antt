-- The last label at or below an address.
use Rattle.std.proofs.Common.{◌≡◌, ℕ, ◌+◌, ◌-◌, ◌≤◌, ◌<◌, true, false, ◌&&◌, leb, cond, Option, Some, None, List, [], ◌∷◌, ◌++◌, length, drop, get_or, refl, sym, ◌∙◌, ap, arith, subst, ⊎_elim}
use Rattle.std.specs.List.{All}
use Rattle.std.proofs.lemmas.List.{append_assoc, append-nil, drop_all, drop_at, drop_more}
use Rattle.std.proofs.lemmas.List.Elements.{All-nil, All-append, All-cons, All-drop, All-get_or, All-head, All-weaker}
use Rattle.std.proofs.lemmas.Bool.Decides.{leb_tells}
use Rattle.pr_num.specs.Limits.{code_limit}
use Rattle.pr_num.specs.Programs.{Label}
use Rattle.pr_asm.specs.Symbols.{label_address, reaches, nearer, nearest, IsSymbol}

-- what the best label of some labels is: none where all stand above pc, else the last at or below
abbrev pub Stands : ℕ → List Label → Option (List ℕ × ℕ) → Type 0
Stands pc labels None = All (λ l. pc < label_address l) labels
Stands pc labels (Some b) = IsSymbol labels pc b.0 (pc - b.1) × (b.1 ≤ pc)

-- a label at or below pc is not above an address, or is below it
abbrev pub IsAtMost : ℕ → ℕ → Label → Type 0
IsAtMost pc top l = label_address l ≤ pc → label_address l ≤ top

abbrev pub IsUnder : ℕ → ℕ → Label → Type 0
IsUnder pc top l = label_address l ≤ pc → label_address l < top

abbrev pub IsAbove : ℕ → Label → Type 0
IsAbove pc l = pc < label_address l

-- a label above pc, or below the best, changes nothing
stays : (pc : ℕ) (labels : List Label) (b : List ℕ × ℕ) (l : Label) → (label_address l ≤ pc → label_address l < b.1)
    → Stands pc labels (Some b) → Stands pc (labels ++ l ∷ []) (Some b)
stays pc labels b l lower (s, below) = (
  record {
    label = s.label;
    before = s.before;
    after = s.after ++ l ∷ [];
    whole = ap (λ xs. xs ++ l ∷ []) s.whole ∙ append_assoc s.before (s.label ∷ s.after) (l ∷ []);
    named = s.named;
    far = s.far;
    highest = s.highest;
    latest = let P : Label → Type 0 = IsUnder pc (label_address s.label) in
        let here : P l = λ in_reach. let low = lower in_reach in let far = s.far in omega arith in
        All-append P s.after (l ∷ []) s.latest (All-cons P l [] here (All-nil P));
  },
  below,
)

-- a label at or below pc that is as high as the best takes its place
takes : (pc : ℕ) (labels : List Label) (l : Label) → label_address l ≤ pc
    → All (λ m. label_address m ≤ pc → label_address m ≤ label_address l) labels
    → Stands pc (labels ++ l ∷ []) (Some (l.name, label_address l))
takes pc labels l under highest = (
  record {
    label = l;
    before = labels;
    after = [];
    whole = refl;
    named = refl;
    far = omega arith;
    highest = highest;
    latest = All-nil (IsUnder pc (label_address l));
  },
  under,
)

-- each label at or below pc is no higher than the best
under_best : (pc : ℕ) (labels : List Label) (b : List ℕ × ℕ) (top : ℕ) → b.1 ≤ top → Stands pc labels (Some b)
    → All (λ m. label_address m ≤ pc → label_address m ≤ top) labels
under_best pc labels b top under (s, below) =
    let far = s.far in
    let at : label_address s.label ≤ top = omega arith in
    let P : Label → Type 0 = IsAtMost pc top in
    let first : (m : Label) → IsAtMost pc (label_address s.label) m → P m = λ m h in_reach. let le = h in_reach in
    omega arith in
    let last : (m : Label) → IsUnder pc (label_address s.label) m → P m = λ m h in_reach. let le = h in_reach in
    omega arith in
    let all : All P (s.before ++ s.label ∷ s.after) =
    All-append P s.before (s.label ∷ s.after)
    (All-weaker (IsAtMost pc (label_address s.label)) P first s.before s.highest)
    (All-cons P s.label s.after (λ in_reach. at)
    (All-weaker (IsUnder pc (label_address s.label)) P last s.after s.latest)) in
    let Q : List Label → Type 0 = λ ls. All P ls in
    subst Q (sym s.whole) all

nearer-true : (pc : ℕ) (best : Option (List ℕ × ℕ)) (l : Label) → leb (label_address l) pc ≡ true
    → reaches best (label_address l) ≡ true → nearer pc best l ≡ Some (l.name, label_address l)
unfolding nearer
nearer-true pc best l p q =
    ap (λ b. cond (b && reaches best (label_address l)) (Some (l.name, label_address l)) best) p
    ∙ ap (λ b. cond b (Some (l.name, label_address l)) best) q

nearer-above : (pc : ℕ) (best : Option (List ℕ × ℕ)) (l : Label) → leb (label_address l) pc ≡ false
    → nearer pc best l ≡ best
unfolding nearer
nearer-above pc best l p = ap (λ b. cond (b && reaches best (label_address l)) (Some (l.name, label_address l)) best) p

nearer-below : (pc : ℕ) (best : Option (List ℕ × ℕ)) (l : Label) → leb (label_address l) pc ≡ true
    → reaches best (label_address l) ≡ false → nearer pc best l ≡ best
unfolding nearer
nearer-below pc best l p q =
    ap (λ b. cond (b && reaches best (label_address l)) (Some (l.name, label_address l)) best) p
    ∙ ap (λ b. cond b (Some (l.name, label_address l)) best) q

stands_at : (pc : ℕ) (labels : List Label) (x y : Option (List ℕ × ℕ)) → x ≡ y → Stands pc labels y → Stands pc labels x
stands_at pc labels x y e h =
    let P : Option (List ℕ × ℕ) → Type 0 = λ b. Stands pc labels b in subst P (sym e) h

-- one label more
stands_more : (pc : ℕ) (labels : List Label) (best : Option (List ℕ × ℕ)) (l : Label) → Stands pc labels best
    → Stands pc (labels ++ l ∷ []) (nearer pc best l)
stands_more pc labels None l h =
    ⊎_elim (λ under.
    stands_at pc (labels ++ l ∷ []) _ _ (nearer-true pc None l under.0 refl)
    (takes pc labels l under.1
    (let apart : (m : Label) → IsAbove pc m → IsAtMost pc (label_address l) m = λ m above in_reach. omega arith in
    All-weaker (IsAbove pc) (IsAtMost pc (label_address l)) apart labels h)))
    (λ over.
    stands_at pc (labels ++ l ∷ []) _ _ (nearer-above pc None l over.0)
    (All-append (IsAbove pc) labels (l ∷ []) h (All-cons (IsAbove pc) l [] over.1 (All-nil (IsAbove pc)))))
    (leb_tells (label_address l) pc)
stands_more pc labels (Some b) l h =
    ⊎_elim (λ under.
    ⊎_elim (λ high.
    stands_at pc (labels ++ l ∷ []) _ _ (nearer-true pc (Some b) l under.0 high.0)
    (takes pc labels l under.1 (under_best pc labels b (label_address l) high.1 h)))
    (λ low. stands_at pc (labels ++ l ∷ []) _ _ (nearer-below pc (Some b) l under.0 low.0)
    (stays pc labels b l (λ in_reach. low.1) h)) (leb_tells b.1 (label_address l)))
    (λ over.
    stands_at pc (labels ++ l ∷ []) _ _ (nearer-above pc (Some b) l over.0)
    (stays pc labels b l (λ in_reach. omega (arith, in_reach, over.1)) h)) (leb_tells (label_address l) pc)

-- all labels
stands_all : (pc : ℕ) (front ls : List Label) (best : Option (List ℕ × ℕ)) → Stands pc front best
    → Stands pc (front ++ ls) (nearest pc best ls)
unfolding nearest
stands_all pc front [] best h =
    let P : List Label → Type 0 = λ xs. Stands pc xs best in subst P (sym (append-nil front)) h
stands_all pc front (l ∷ ls) best h =
    let P : List Label → Type 0 = λ xs. Stands pc xs (nearest pc (nearer pc best l) ls) in
    subst P (append_assoc front (l ∷ []) ls)
    (stands_all pc (front ++ l ∷ []) ls (nearer pc best l) (stands_more pc front best l h))

pub stands : (pc : ℕ) (labels : List Label) → Stands pc labels (nearest pc None labels)
stands pc labels = stands_all pc [] labels None (All-nil (IsAbove pc))

-- what the best label of all is
stands_as : (pc : ℕ) (from labels : List Label) (best : Option (List ℕ × ℕ)) → best ≡ nearest pc None from
    → from ≡ labels → Stands pc labels best
stands_as pc from labels best e same =
    stands_at pc labels best (nearest pc None labels) (e ∙ ap (nearest pc None) same) (stands pc labels)

pub symbol_here : (pc : ℕ) (from labels : List Label) (name : List ℕ) (at : ℕ) → Some (name, at) ≡ nearest pc None from
    → from ≡ labels → IsSymbol labels pc name (pc - at)
symbol_here pc from labels name at e same = (stands_as pc from labels (Some (name, at)) e same).0

pub symbol_nowhere : (pc : ℕ) (from labels : List Label) → None ≡ nearest pc None from → from ≡ labels
    → All (λ l. pc < label_address l) labels
symbol_nowhere pc from labels e same = stands_as pc from labels None e same

-- where a label is found not all stand above pc
pub symbol_somewhere : (pc : ℕ) (from labels : List Label) (name : List ℕ) (at : ℕ)
    → Some (name, at) ≡ nearest pc None from → from ≡ labels → All (λ l. pc < label_address l) labels → ⊥
symbol_somewhere pc from labels name at e same above =
    let found = stands_as pc from labels (Some (name, at)) e same in
    let s = found.0 in
    let P : List Label → Type 0 = λ ls. All (IsAbove pc) ls in
    let from_label : P (s.label ∷ s.after) =
    subst P (ap (drop (length s.before)) s.whole ∙ drop_at s.before (s.label ∷ s.after) (length s.before) refl)
    (All-drop (IsAbove pc) (length s.before) labels above) in
    let at_label : IsAbove pc s.label = All-head (IsAbove pc) s.label s.after from_label in
    let far = s.far in
    omega arith

-- a label at a place, and the labels after it
pub label_at : (labels : List Label) (i : ℕ) (item d : Label) → item ≡ get_or labels i d → i < length labels
    → All (λ l. l.place ≤ code_limit) labels → item.place ≤ code_limit
label_at labels i item d here inside all =
    let P : Label → Type 0 = λ l. l.place ≤ code_limit in subst P (sym here) (All-get_or P labels i d inside all)

pub nearest-step : (pc i : ℕ) (labels : List Label) (best now whole : Option (List ℕ × ℕ)) (item d : Label)
    → item ≡ get_or labels i d → i < length labels → now ≡ nearer pc best item → nearest pc best (drop i labels) ≡ whole
    → nearest pc now (drop (i + 1) labels) ≡ whole
unfolding nearest
nearest-step pc i labels best now whole item d here inside e kept =
    ap (λ b. nearest pc b (drop (i + 1) labels)) (e ∙ ap (nearer pc best) here)
    ∙ ap (nearest pc best) (sym (drop_more labels i d inside)) ∙ kept

pub nearest-end : (pc i : ℕ) (labels : List Label) (best whole : Option (List ℕ × ℕ)) → length labels ≤ i
    → nearest pc best (drop i labels) ≡ whole → best ≡ whole
unfolding nearest
nearest-end pc i labels best whole over kept = ap (nearest pc best) (sym (drop_all i labels over)) ∙ kept

-- places within the limit
pub within : (labels : List Label) (n : ℕ) → n ≤ code_limit → All (λ l. l.place ≤ n) labels
    → All (λ l. l.place ≤ code_limit) labels
within labels n fits all = All-weaker (λ l. l.place ≤ n) (λ l. l.place ≤ code_limit) (λ l h. omega arith) labels all
