use Rattle.std.proofs.Common.{◌≡◌, ◌++◌, length}
use Rattle.pr_core.specs.CoreText.{hex_lines, lines_of}
use Rattle.pr_core.proofs.core_lines.push_lines.Given as goal

-- what was written so far, and the lines of the rest, are what is to be written
abbrev pub invariant-loop-rest : goal.invariant-loop-rest
invariant-loop-rest l =
    l.text ++ hex_lines (lines_of l.rest) l.rest ≡ l.fn.text ++ hex_lines (lines_of l.bytes) l.bytes

abbrev pub decreases-loop-rest : goal.decreases-loop-rest
decreases-loop-rest l = length l.rest
