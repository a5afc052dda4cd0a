use Rattle.std.proofs.Common.{◌≡◌, IfSome, List, [], ◌∷◌, ◌++◌, refl, subst}
use Rattle.std.proofs.lemmas.List.Elements.{All-nil, All-cons}
use Rattle.std.specs.List.{All}
use Rattle.pr_model.specs.declared.calls.Call.{Call}
use Rattle.pr_truss.specs.Feeding.{fed}
use Rattle.pr_truss.specs.NextCalls.{next_call_of}
use Rattle.pr_truss.specs.Trusses.{TrussState}
use Rattle.pr_truss_laws.specs.Exchanges.{Ends, Exchange, Makes, truss_after}

-- Exchanges of truss, one after another.

pub after-append : (t : TrussState) (xs ys : List Exchange)
    → truss_after t (xs ++ ys) ≡ truss_after (truss_after t xs) ys
after-append t [] ys = refl
after-append t (x ∷ xs) ys = after-append (fed t x.reply) xs ys

pub makes-front : (t : TrussState) (xs ys : List Exchange) → Makes t (xs ++ ys) → Makes t xs
makes-front t [] ys makes = tt
makes-front t (x ∷ xs) ys makes = (makes.0, makes-front (fed t x.reply) xs ys makes.1)

pub makes-rest : (t : TrussState) (xs ys : List Exchange) → Makes t (xs ++ ys) → Makes (truss_after t xs) ys
makes-rest t [] ys makes = makes
makes-rest t (x ∷ xs) ys makes = makes-rest (fed t x.reply) xs ys makes.1

pub ends-later : (s : TrussState) (x : Exchange) (xs : List Exchange) → Ends s (x ∷ xs) → Ends (fed s x.reply) xs
ends-later s x xs ends = record { makes = ends.makes.1; finished = ends.finished }

-- what holds of whatever truss calls next holds of each of its calls
pub each-call : (P : Call → Type 0) → ((t : TrussState) → IfSome (next_call_of t) P) → (xs : List Exchange)
    → (s : TrussState)
    → Makes s xs
    → All (λ (x : Exchange). P x.call) xs
each-call P next [] s makes = All-nil (λ (x : Exchange). P x.call)
each-call P next (x ∷ xs) s makes =
    All-cons (λ (y : Exchange). P y.call) x xs (subst (λ c. IfSome c P) makes.0 (next s))
    (each-call P next xs (fed s x.reply) makes.1)
