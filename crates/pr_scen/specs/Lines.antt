-- Lines before their words are looked at, and the lines that end a block.
use Rattle.std.specs.Prelude.{ℕ, Bool, false, List, [], ◌∷◌, codes, length, nat_lt, Result, Ok, Err, if◌then◌else◌}
use Rattle.std.specs.List.{list_all}
use Rattle.std.specs.Str.{bytes_eq}
use Rattle.pr_text.specs.Words.{texts_of}
use Rattle.pr_num.specs.Limits.{line_limit}
use Rattle.pr_scen.specs.declared.refusals.ScenKind.{ScenKind}
use Rattle.pr_scen.specs.declared.refusals.ScenKind.TheVariants.{TooLong, NotAscii}

-- whether each byte of a line is one of ASCII
unfoldable pub is_ascii : List ℕ → Bool
is_ascii line = list_all (λ b. nat_lt b 128) line

-- a line can be read where it has at most 4,096 bytes, and all are of ASCII
unfoldable pub readable : List ℕ → Result (Unit {0}) ScenKind
readable line =
    if nat_lt line_limit (length line) then Err TooLong
    else (if is_ascii line then Ok tt else Err NotAscii)

-- whether the first of a line's words is this one
abbrev pub first_is : List ℕ → List (List ℕ) → Bool
first_is word [] = false
first_is word (first ∷ others) = bytes_eq first word

-- whether a line ends a block: its first word is `end`
unfoldable pub is_end : List ℕ → Bool
is_end line = first_is (codes "end") (texts_of line)
