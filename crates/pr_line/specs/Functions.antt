-- The functions whose calls truss(1) shows (-u).
use Rattle.std.specs.Prelude.{ℕ}

-- how many there can be
abbrev pub function_limit : ℕ
function_limit = 16
