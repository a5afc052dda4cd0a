-- The words of a line that are still to come.
use Rattle.std.proofs.Common.{◌≡◌, ℕ, List, ◌∷◌, subst}
use Rattle.std.specs.List.{All}
use Rattle.std.proofs.lemmas.List.Elements.{All-tail}
use Rattle.pr_text.specs.declared.spans.Word.{Word}
use Rattle.pr_text.specs.Division.{StandsIn}

-- words that stand in a line, but for the first
pub others_stand : (line : List ℕ) (w : Word) (ws all : List Word) → All (StandsIn line) all → all ≡ w ∷ ws
    → All (StandsIn line) ws
others_stand line w ws all h e =
    All-tail (StandsIn line) w ws (let P : List Word → Type 0 = λ xs. All (StandsIn line) xs in subst P e h)
