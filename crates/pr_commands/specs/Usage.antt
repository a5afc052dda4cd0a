use Rattle.std.specs.Prelude.{ℕ, List, codes}

-- what is written where the words ask for nothing: how the program is called, and a newline
abbrev pub usage_line : List ℕ
usage_line = codes "usage: proclab run [-q] [-j N] | check | plain | gen N | core TOOL\n"
