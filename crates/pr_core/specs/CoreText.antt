-- The text of a core, which gcore(1) prints: how many bytes it has, and these in hex.
use Rattle.std.specs.Prelude.{ℕ, zero, suc, ◌+◌, ◌-◌, ◌/◌, ◌++◌, List, [], Option, Some, None, codes, decimal, drop, length, take, if◌then◌else◌}
use Rattle.pr_num.specs.declared.errnos.Errno.{Errno}
use Rattle.pr_text.specs.HexWords.{digits_of_bytes}
use Rattle.pr_tools.specs.Refusals.{refusal_line}
use Rattle.pr_tools.specs.Texts.{line_end}
use Rattle.pr_core.specs.Gcores.{GcoreState, has_ended}

-- how many bytes a line has
abbrev pub line_bytes : ℕ
line_bytes = 1024

-- so many lines of bytes in hex; the last has the rest
unfoldable pub hex_lines : ℕ → List ℕ → List ℕ
hex_lines zero bytes = []
hex_lines (suc n) bytes = digits_of_bytes (take line_bytes bytes) ++ line_end ++ hex_lines n (drop line_bytes bytes)

-- how many lines bytes have
abbrev pub lines_of : List ℕ → ℕ
lines_of bytes = (length bytes + (line_bytes - 1)) / line_bytes

-- the text of a core of these bytes
unfoldable pub core_text : List ℕ → List ℕ
core_text bytes = codes "core " ++ decimal (length bytes) ++ line_end ++ hex_lines (lines_of bytes) bytes

-- the text of the core, or the line of the refusal
abbrev pub report : GcoreState → Option Errno → List ℕ
report s None = core_text s.bytes
report s (Some e) = refusal_line (codes "gcore") s.pid e

-- what gcore prints: nothing until it has finished
unfoldable pub printed : GcoreState → List ℕ
printed s = if has_ended s then report s s.refusal else []
