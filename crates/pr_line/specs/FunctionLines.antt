-- The line of a call of a function (truss(1)).
use Rattle.std.specs.Prelude.{ℕ, List, ◌++◌, codes, slice_index}
use Rattle.pr_line.specs.EventLines.{prefix}
use Rattle.pr_line.specs.declared.options.Options.{Options}
use Rattle.pr_text.specs.Numerals.{hex_text}

-- a number in hex, with a text before it
abbrev pub hex_after : List ℕ → ℕ → List ℕ
hex_after label n = label ++ hex_text n

-- the first three arguments of a call, which r1 to r3 hold
unfoldable pub three_text : List ℕ → List ℕ
three_text arguments =
    hex_after (codes "(") (slice_index arguments 0) ++ hex_after (codes ", ") (slice_index arguments 1)
    ++ hex_after (codes ", ") (slice_index arguments 2) ++ codes ")"

-- the call of a function
unfoldable pub called_text : List ℕ → List ℕ → List ℕ
called_text name arguments = codes "-> " ++ name ++ three_text arguments

-- the same with what stands before it, of an lwp of a process
unfoldable pub function_text : Options → ℕ → ℕ → List ℕ → List ℕ → List ℕ
function_text o pid id name arguments = prefix o.follow o.lwps pid id ++ called_text name arguments
