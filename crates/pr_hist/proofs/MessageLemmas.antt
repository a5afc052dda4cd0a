-- The messages of a write, told one after another.
use Rattle.std.proofs.Common.{◌≡◌, ℕ, zero, suc, ◌-◌, ◌<◌, Option, List, [], ◌∷◌, ◌++◌, length, refl, sym, ap, ◌∙◌, append_assoc, arith}
use Rattle.std.proofs.lemmas.List.{append-nil}
use Rattle.pr_hist.specs.Listings.{Listing}
use Rattle.pr_hist.specs.Messages.{first_text, rest_of, messages_in}

-- where bytes are left, the first message is told, and then the others
messages_in-more : (l : Option Listing) (most : ℕ) (bytes : List ℕ) → 0 < most → 0 < length bytes
    → messages_in l most bytes ≡ first_text l bytes ++ messages_in l (most - 1) (rest_of bytes)
unfolding messages_in
messages_in-more l zero bytes some left = let none : ⊥ = omega arith in absurd none
messages_in-more l (suc most) [] some left = let none : ⊥ = omega arith in absurd none
messages_in-more l (suc most) (b ∷ bs) some left =
    ap (λ m. first_text l (b ∷ bs) ++ messages_in l m (rest_of (b ∷ bs))) {x = most} {y = suc most - 1} (omega arith)

-- what was told, and the first message behind it, leaves the others to be told
pub messages_in-next : (l : Option Listing) (most : ℕ) (bytes rest now next all : List ℕ) → 0 < most → 0 < length bytes
    → rest ≡ rest_of bytes → now ++ messages_in l most bytes ≡ all → next ≡ now ++ first_text l bytes
    → next ++ messages_in l (most - 1) rest ≡ all
messages_in-next l most bytes rest now next all some left behind before is =
    ap (λ t. t ++ messages_in l (most - 1) rest) is
    ∙ ap (λ r. now ++ first_text l bytes ++ messages_in l (most - 1) r) behind
    ∙ append_assoc now (first_text l bytes) (messages_in l (most - 1) (rest_of bytes))
    ∙ ap (λ t. now ++ t) (sym (messages_in-more l most bytes some left))
    ∙ before

messages_in-none : (l : Option Listing) (most : ℕ) → messages_in l most [] ≡ []
unfolding messages_in
messages_in-none l zero = refl
messages_in-none l (suc most) = refl

-- all is told where no bytes are left
pub messages_in-done : (l : Option Listing) (most : ℕ) (bytes now all : List ℕ) → length bytes ≡ 0
    → now ++ messages_in l most bytes ≡ all → now ≡ all
messages_in-done l most [] now all none is =
    sym (append-nil now) ∙ ap (λ t. now ++ t) (sym (messages_in-none l most)) ∙ is
messages_in-done l most (b ∷ bs) now all none is = let never : ⊥ = omega (arith, none) in absurd never

-- and where as many messages were told as there can be
pub messages_in-spent : (l : Option Listing) (most : ℕ) (bytes now all : List ℕ) → most ≡ 0
    → now ++ messages_in l most bytes ≡ all → now ≡ all
unfolding messages_in
messages_in-spent l zero bytes now all none is = sym (append-nil now) ∙ is
messages_in-spent l (suc most) bytes now all none is = let never : ⊥ = omega (arith, none) in absurd never
