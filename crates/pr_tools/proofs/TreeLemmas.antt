-- The lines of a tree, a level at a time.
use Rattle.std.proofs.Common.{◌≡◌, ◌<◌, ◌-◌, ℕ, zero, suc, List, [], refl, ap, arith}
use Rattle.std.specs.List.{flat_map}
use Rattle.pr_tools.specs.Ptree.{branch_lines, deeper, lines_below}

pub lines_below-step : (levels depth : ℕ) (processes : List (List ℕ)) (parent : ℕ) → 0 < levels
    → lines_below levels depth processes parent
    ≡ flat_map (branch_lines depth parent (lines_below (levels - 1) (deeper depth) processes)) processes
unfolding lines_below
lines_below-step zero depth processes parent some = absurd (omega arith)
lines_below-step (suc levels) depth processes parent some =
    let less : levels ≡ suc levels - 1 = omega arith in
    ap (λ (k : ℕ). flat_map (branch_lines depth parent (lines_below k (deeper depth) processes)) processes) less

pub lines_below-none : (depth : ℕ) (processes : List (List ℕ)) (parent : ℕ) → lines_below 0 depth processes parent ≡ []
unfolding lines_below
lines_below-none depth processes parent = refl

pub ruleset levels = (lines_below-step, lines_below-none)
