-- Lines that begin with what they were.
use Rattle.std.proofs.Common.{◌≡◌, ℕ, ◌≤◌, Result, Ok, Err, List, ◌++◌, length, take, ap, sym, refl, ◌∙◌, arith}
use Rattle.std.specs.Result.{OnErr}
use Rattle.std.proofs.lemmas.List.{length-append, take-take, take_at}

-- a line that keeps a longer one in front keeps what that one began with
take_through : (old more now later : List ℕ) → now ≡ old ++ more → take (length now) later ≡ now
    → take (length old) later ≡ old
take_through old more now later is kept =
    let longer : length old ≤ length now = omega (arith, ap length is, length-append old more) in
    sym (take-take (length old) (length now) later longer) ∙ ap (take (length old)) (kept ∙ is)
    ∙ take_at old more (length old) refl

pub kept_on_err : {T E : Type 0} (answer : Result T E) (old more now later : List ℕ) → now ≡ old ++ more
    → take (length now) later ≡ now → OnErr answer (take (length old) later ≡ old)
kept_on_err (Ok x) old more now later is kept = tt
kept_on_err (Err e) old more now later is kept = take_through old more now later is kept
