-- A scenario of any size, for measurements: a program forks n children, each of which makes 20 calls, and then waits
-- for them; a truss traces all of them, but for SIGCLD.
use Rattle.std.specs.Prelude.{ℕ, List, [], ◌∷◌, ◌++◌, codes, decimal}
use Rattle.std.specs.List.{flat_map}
use Rattle.pr_text.specs.TextLines.{newline}

-- the lines of the scenario for n children
abbrev pub generated_lines : ℕ → List (List ℕ)
generated_lines n =
    codes "turns 100000" ∷ codes "program g"
    ∷ (codes "set r4, " ++ decimal n) ∷ codes "set r5, 1"
    ∷ codes "more:" ∷ codes "sys fork" ∷ codes "jz r0, kid" ∷ codes "sub r4, r5" ∷ codes "jnz r4, more"
    ∷ (codes "set r4, " ++ decimal n)
    ∷ codes "reap:" ∷ codes "set r1, 0" ∷ codes "sys wait" ∷ codes "sub r4, r5" ∷ codes "jnz r4, reap"
    ∷ codes "set r1, 0" ∷ codes "sys exit"
    ∷ codes "kid:" ∷ codes "set r2, 20"
    ∷ codes "again:" ∷ codes "sys getpid" ∷ codes "sub r2, r5" ∷ codes "jnz r2, again"
    ∷ codes "set r1, 0" ∷ codes "sys exit"
    ∷ codes "end" ∷ codes "truss -f -c -s !CLD g" ∷ []

abbrev pub ended : List ℕ → List ℕ
ended line = line ++ newline ∷ []

-- its text, a newline behind each line
unfoldable pub generated_text : ℕ → List ℕ
generated_text n = flat_map ended (generated_lines n)
