use Rattle.std.specs.Prelude.{ℕ, [], ◌∷◌, Result, Ok, Err}
use Rattle.pr_num.specs.Spaces.{Space}
use Rattle.pr_num.specs.declared.errnos.Errno.{Errno}
use Rattle.pr_model.specs.Changes.{Effect, fails, gives, space_is}

-- the effect of a call on memory that answered so, and left this space
abbrev pub memory_effect : Result ℕ Errno → Space → Effect
memory_effect (Ok value) space = gives value (space_is space ∷ [])
memory_effect (Err e) space = fails e
