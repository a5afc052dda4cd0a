-- Programs with their lines, one after another.
use Rattle.std.proofs.Common.{◌≡◌, ℕ, List, [], ◌∷◌, ◌++◌, length, drop, sym, ap, ◌∙◌, append_assoc, append-nil, arith}
use Rattle.pr_hist.specs.Listings.{Listing}
use Rattle.pr_num.specs.Programs.{Program}
use Rattle.phist.specs.Sources.{listing_of, listings_of}

-- where a program is left, it comes first, and then the others
listings_of-more : (p : Program) (left others : List Program) (numbers : List ℕ) → left ≡ p ∷ others
    → listings_of left numbers ≡ listing_of p numbers ∷ listings_of others (drop (length p.code) numbers)
unfolding listings_of
listings_of-more p left others numbers is = ap (λ ps. listings_of ps numbers) is

-- the listings so far and the next one leave the others to be listed
pub listings_of-next : (p : Program) (left others : List Program) (numbers rest : List ℕ) (now next all : List Listing)
    (l : Listing) → left ≡ p ∷ others → next ≡ now ++ l ∷ [] → l ≡ listing_of p numbers
    → rest ≡ drop (length p.code) numbers → now ++ listings_of left numbers ≡ all
    → next ++ listings_of others rest ≡ all
listings_of-next p left others numbers rest now next all l is added listed behind before =
    ap (λ ls. ls ++ listings_of others rest) added
    ∙ append_assoc now (l ∷ []) (listings_of others rest)
    ∙ ap (λ k. now ++ k ∷ listings_of others rest) listed
    ∙ ap (λ r. now ++ listing_of p numbers ∷ listings_of others r) behind
    ∙ ap (λ ls. now ++ ls) (sym (listings_of-more p left others numbers is))
    ∙ before

-- all are listed where no program is left
pub listings_of-done : (left : List Program) (numbers : List ℕ) (now all : List Listing) → length left ≡ 0
    → now ++ listings_of left numbers ≡ all → now ≡ all
unfolding listings_of
listings_of-done [] numbers now all none is = sym (append-nil now) ∙ is
listings_of-done (p ∷ ps) numbers now all none is = let never : ⊥ = omega (arith, none) in absurd never
