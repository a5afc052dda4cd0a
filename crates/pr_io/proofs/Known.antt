use Rattle.std.proofs.Common.{◌≡◌, ℕ, List, [], ◌++◌, Option, None, Some, IfSome, subst, append_assoc, append-nil, ap, refl, sym, ◌∙◌, ◌+◌, take, drop}
use Rattle.std.proofs.Math.Seq.{take-add}
use Rattle.std.proofs.lemmas.List.{take_rest}
use Rattle.std.specs.Io.KnownBytes.{IsAtEnd}
use Rattle.pr_io.specs.Known.{with_front, with_end}
use Rattle.pr_io.specs.Reading.{ReadsAll}

pub with_front-nil : (known : Option (List ℕ)) → with_front [] known ≡ known
unfolding with_front
with_front-nil None = refl
with_front-nil (Some left) = refl

pub with_front-with_front : (a b : List ℕ) (known : Option (List ℕ))
    → with_front a (with_front b known) ≡ with_front (a ++ b) known
unfolding with_front
with_front-with_front a b None = refl
with_front-with_front a b (Some left) = ap Some (sym (append_assoc a b left))

pub with_end-nil : (known : Option (List ℕ)) → with_end known [] ≡ known
unfolding with_end
with_end-nil None = refl
with_end-nil (Some written) = ap Some (append-nil written)

pub with_end-with_end : (known : Option (List ℕ)) (a b : List ℕ)
    → with_end (with_end known a) b ≡ with_end known (a ++ b)
unfolding with_end
with_end-with_end None a b = refl
with_end-with_end (Some written) a b = ap Some (append_assoc written a b)

pub with_end-Some : (written part : List ℕ) → with_end (Some written) part ≡ Some (written ++ part)
unfolding with_end
with_end-Some written part = refl

-- what came before the end is all that was left
pub ReadsAll-at_end : (old mid new : Option (List ℕ)) (bytes : List ℕ) → old ≡ with_front bytes mid
    → mid ≡ with_front [] new → IsAtEnd new → ReadsAll old new bytes
unfolding with_front
ReadsAll-at_end None mid new bytes h k e = record { all = tt; end = tt }
ReadsAll-at_end (Some left) None new bytes h k e = record { all = cc; end = cc }
ReadsAll-at_end (Some left) (Some more) None bytes h k e = record { all = cc; end = cc }
ReadsAll-at_end (Some left) (Some more) (Some rest) bytes h k e =
    let all : left ≡ bytes ++ more = cc in
    let none : more ≡ rest = cc in
    record { all = sym (all ∙ ap (λ xs. bytes ++ xs) (none ∙ e) ∙ append-nil bytes); end = ap Some e }

-- what holds of the bytes that came holds of those that were left
pub IfSome-ReadsAll : (P : List ℕ → Type 0) (old new : Option (List ℕ)) (bytes : List ℕ) → ReadsAll old new bytes
    → P bytes → IfSome old P
IfSome-ReadsAll P None new bytes h p = tt
IfSome-ReadsAll P (Some left) new bytes h p = subst P h.all p

-- the front of a part, and then more of it
pub with_end-more : (known : Option (List ℕ)) (part : List ℕ) (at n : ℕ)
    → with_end (with_end known (take at part)) (take n (drop at part)) ≡ with_end known (take (at + n) part)
with_end-more known part at n =
    with_end-with_end known (take at part) (take n (drop at part)) ∙ ap (with_end known) (sym (take-add at n part))

pub ruleset parts = (with_end-more, take_rest)

pub ruleset known = (with_front-nil, with_front-with_front, with_end-nil, with_end-with_end, with_end-Some)
