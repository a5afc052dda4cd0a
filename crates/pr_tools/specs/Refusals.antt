-- The line of a tool whose call was refused.
use Rattle.std.specs.Prelude.{ℕ, List, ◌++◌, codes, decimal}
use Rattle.pr_num.specs.Errnos.{errno_name}
use Rattle.pr_num.specs.declared.errnos.Errno.{Errno}
use Rattle.pr_tools.specs.Texts.{line_end}

-- the name of the tool, and the process that it cannot examine
unfoldable pub cannot_examine : List ℕ → ℕ → List ℕ
cannot_examine tool pid = tool ++ codes ": cannot examine " ++ decimal pid

-- these, and why
unfoldable pub refusal_line : List ℕ → ℕ → Errno → List ℕ
refusal_line tool pid errno = cannot_examine tool pid ++ codes ": " ++ errno_name errno ++ line_end
