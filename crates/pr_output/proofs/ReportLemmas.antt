use Rattle.std.proofs.Common.{◌≡◌, ℕ, ◌+◌, ◌<◌, List, [], ◌∷◌, ◌++◌, length, get_or, take, drop, sym, ap, ◌∙◌}
use Rattle.std.specs.List.{flat_map}
use Rattle.std.proofs.lemmas.Grind.{flat_map-append}
use Rattle.std.proofs.lemmas.List.{append-nil, drop_more, take_more, take-append-drop}

-- The texts of items, put one behind the other.
module _ {X A : Type 0} (f : X → List A) (i : ℕ) (xs : List X) (x : X) (within : i < length xs)
    (at : x ≡ get_or xs i x) where
  -- those up to and with the item at a place
  pub flat_map-next : flat_map f (take (i + 1) xs) ≡ flat_map f (take i xs) ++ f x
  flat_map-next =
      ap (flat_map f) (take_more xs i x within ∙ ap (λ y. take i xs ++ y ∷ []) (sym at))
      ∙ flat_map-append f (take i xs) (x ∷ []) ∙ ap (λ last. flat_map f (take i xs) ++ last) (append-nil (f x))

  -- all, of which those before the place come first, then its own
  pub flat_map-parts : flat_map f xs ≡ flat_map f (take i xs) ++ (f x ++ flat_map f (drop (i + 1) xs))
  flat_map-parts =
      ap (flat_map f) (sym (take-append-drop i xs)) ∙ flat_map-append f (take i xs) (drop i xs)
      ∙ ap (λ rest. flat_map f (take i xs) ++ flat_map f rest)
      (drop_more xs i x within ∙ ap (λ y. y ∷ drop (i + 1) xs) (sym at))
