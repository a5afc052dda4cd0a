-- Texts that grow.
use Rattle.std.proofs.Common.{◌≡◌, ◌<◌, ◌+◌, ℕ, List, [], ◌∷◌, ◌++◌, length, map, take, get_or, sym, ap, ◌∙◌}
use Rattle.std.specs.List.{flat_map}
use Rattle.std.proofs.lemmas.List.{flat_map_more, map-append, take_more}

-- a text with a line for each of the first elements, and that of one more
pub lines-next : {X Y : Type 0} (f : Y → List ℕ) (w : X → Y) (xs : List X) (i : ℕ) (x : X) (old text new : List ℕ)
    → i < length xs → x ≡ get_or xs i x → text ≡ old ++ flat_map f (map w (take i xs)) → new ≡ text ++ f (w x)
    → new ≡ old ++ flat_map f (map w (take (i + 1) xs))
lines-next f w xs i x old text new inside item before line =
    let more : take (i + 1) xs ≡ take i xs ++ x ∷ [] =
    take_more xs i x inside ∙ ap (λ y. take i xs ++ y ∷ []) (sym item) in
    line ∙ ap (λ t. t ++ f (w x)) before ∙ flat_map_more f old (map w (take i xs)) (w x)
    ∙ ap (λ ys. old ++ flat_map f ys) (sym (map-append w (take i xs) (x ∷ [])))
    ∙ ap (λ ys. old ++ flat_map f (map w ys)) (sym more)
