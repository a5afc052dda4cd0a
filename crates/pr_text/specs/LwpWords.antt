-- An lwp of a process as a word (proc(1)).
use Rattle.std.specs.Prelude.{ℕ, List, ◌++◌, codes, decimal}

-- an lwp is the id of its process, a slash and its own
unfoldable pub lwp_text : ℕ → ℕ → List ℕ
lwp_text pid lwp = decimal pid ++ codes "/" ++ decimal lwp
