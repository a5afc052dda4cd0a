use Rattle.std.proofs.Common.{◌≡◌, ℕ, replicate, Option, None, ap, ◌∙◌, arith}
use Rattle.pr_slots.proofs.slots.no_keys.Goals as goal

pub returns : goal.returns
returns c =
    let all : c.loop.counter ≡ c.args.places = omega arith in
    c.loop.invariant ∙ ap (λ (n : ℕ). replicate {A = Option ℕ} n None) all
