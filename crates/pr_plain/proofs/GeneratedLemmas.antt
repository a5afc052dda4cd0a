-- The pieces of the generated scenario, one behind the other.
use Rattle.std.proofs.Common.{◌≡◌, ℕ, List, [], ◌∷◌, ◌++◌, codes, sym, ap, ◌∙◌, append_assoc}
use Rattle.std.specs.Fmt.{decimal}
use Rattle.pr_plain.specs.Generated.{generated_text}

abbrev head : List ℕ
head = codes "turns 100000\nprogram g\nset r4, "

abbrev middle : List ℕ
middle = codes "set r5, 1\nmore:\nsys fork\njz r0, kid\nsub r4, r5\njnz r4, more\nset r4, "

abbrev tail : List ℕ
tail = codes
    "reap:\nset r1, 0\nsys wait\nsub r4, r5\njnz r4, reap\nset r1, 0\nsys exit\nkid:\nset r2, 20\nagain:\nsys getpid\nsub r2, r5\njnz r2, again\nset r1, 0\nsys exit\nend\ntruss -f -c -s !CLD g\n"

pub pieces_text : (n : ℕ) (digits : List ℕ) → digits ≡ decimal n
    → head ++ (digits ++ (10 ∷ (middle ++ (digits ++ (10 ∷ tail))))) ≡ generated_text n
unfolding generated_text
pieces_text n digits same =
    ap (λ d. head ++ (d ++ (10 ∷ (middle ++ (d ++ (10 ∷ tail)))))) same
    ∙ ap (λ x. head ++ (decimal n ++ (10 ∷ (middle ++ x)))) (sym (append_assoc (decimal n) (10 ∷ []) tail))
    ∙ ap (λ x. head ++ x) (sym (append_assoc (decimal n) (10 ∷ []) (middle ++ ((decimal n ++ 10 ∷ []) ++ tail))))
