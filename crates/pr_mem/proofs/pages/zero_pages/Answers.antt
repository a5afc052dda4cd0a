use Rattle.std.proofs.Common.{◌≡◌, ◌∙◌, ℕ, ap, arith, replicate}
use Rattle.pr_num.specs.Layout.{page_size}
use Rattle.pr_mem.proofs.pages.zero_pages.Goals as goal

pub returns : goal.returns
returns c =
    let all : c.loop.counter ≡ c.args.count = omega (arith, c.loop.invariant.within) in
    c.loop.invariant.pages ∙ ap (λ n. replicate n (replicate {A = ℕ} page_size 0)) all
