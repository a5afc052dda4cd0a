-- Histories in words grow by a block an entry.
use Rattle.std.proofs.Common.{◌≡◌, ℕ, ◌+◌, false, List, [], ◌∷◌, ◌++◌, length, refl, sym, ap, ◌∙◌, append_assoc, arith}
use Rattle.std.proofs.lemmas.List.{append-nil}
use Rattle.pr_model.specs.declared.events.Entry.{Entry}
use Rattle.pr_hist.specs.Entries.{blocks, text_of, words_of}
use Rattle.pr_hist.specs.Laws.{names_behind}
use Rattle.pr_hist.specs.Names.{Names}
use Rattle.pr_hist.specs.News.{names_beyond}

-- the blocks of one entry more
blocks-end : (n : ℕ) (names : Names) (es : List Entry) (e : Entry)
    → blocks n names (es ++ e ∷ []) ≡ blocks n names es ++ words_of false (n + length es) (names_behind names n es) e
unfolding blocks names_behind
blocks-end n names [] e =
    append-nil (words_of false n names e) ∙ ap (λ k. words_of false k names e) {x = n} {y = n + 0} (omega arith)
blocks-end n names (d ∷ es) e =
    ap (λ t. words_of false n names d ++ t) (blocks-end (n + 1) (names_beyond names n d) es e)
    ∙ sym (append_assoc (words_of false n names d) (blocks (n + 1) (names_beyond names n d) es)
    (words_of false (n + 1 + length es) (names_behind (names_beyond names n d) (n + 1) es) e))
    ∙ ap (λ k. words_of false n names d ++ blocks (n + 1) (names_beyond names n d) es
    ++ words_of false k (names_behind (names_beyond names n d) (n + 1) es) e)
    {x = n + 1 + length es} {y = n + length (d ∷ es)} (omega arith)

pub text_of-none : (names : Names) → text_of names [] ≡ []
unfolding blocks
text_of-none names = refl

pub text_of-end : (names : Names) (es : List Entry) (e : Entry)
    → text_of names (es ++ e ∷ []) ≡ text_of names es ++ words_of false (length es) (names_behind names 0 es) e
text_of-end names es e =
    blocks-end 0 names es e ∙ ap (λ k. text_of names es ++ words_of false k (names_behind names 0 es) e)
    {x = 0 + length es} {y = length es} (omega arith)

pub ruleset growing_text = (text_of-none, text_of-end)
