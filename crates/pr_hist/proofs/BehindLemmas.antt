-- What is known behind entries: behind some and then others, and behind one more.
use Rattle.std.proofs.Common.{◌≡◌, ℕ, ◌+◌, List, [], ◌∷◌, ◌++◌, length, ap, ◌∙◌, arith}
use Rattle.pr_model.specs.declared.events.Entry.{Entry}
use Rattle.pr_hist.specs.Laws.{names_behind}
use Rattle.pr_hist.specs.Names.{Names}
use Rattle.pr_hist.specs.News.{names_beyond}

pub names_behind-append : (names : Names) (n : ℕ) (es fs : List Entry)
    → names_behind names n (es ++ fs) ≡ names_behind (names_behind names n es) (n + length es) fs
unfolding names_behind
names_behind-append names n [] fs = ap (λ k. names_behind names k fs) {x = n} {y = n + 0} (omega arith)
names_behind-append names n (e ∷ es) fs =
    names_behind-append (names_beyond names n e) (n + 1) es fs
    ∙ ap (λ k. names_behind (names_behind (names_beyond names n e) (n + 1) es) k fs)
    {x = n + 1 + length es} {y = n + length (e ∷ es)} (omega arith)

pub names_behind-end : (names : Names) (n : ℕ) (es : List Entry) (e : Entry)
    → names_behind names n (es ++ e ∷ []) ≡ names_beyond (names_behind names n es) (n + length es) e
unfolding names_behind
names_behind-end names n es e = names_behind-append names n es (e ∷ [])
