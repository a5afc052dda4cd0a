use Rattle.std.proofs.Common.{◌≡◌, List, [], ◌∷◌, ◌++◌, reverse}
use Rattle.std.proofs.lemmas.List.{reverse-append}
use Rattle.pr_model.specs.declared.calls.Reply.{Reply}

-- A list that stands last element first: the last one is next.
pub reversed-push : (left : List Reply) (next : Reply) → reverse (left ++ next ∷ []) ≡ next ∷ reverse left
reversed-push left next = reverse-append left (next ∷ [])

pub ruleset reply_laws = (reversed-push)
