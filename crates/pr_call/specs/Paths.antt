use Rattle.std.specs.Prelude.{ℕ, List, [], ◌∷◌, Option, Some, None, Result, Ok, Err, take}
use Rattle.pr_num.specs.declared.errnos.Errno.{Errno}
use Rattle.pr_num.specs.declared.errnos.Errno.TheVariants.{Inval, Fault}
use Rattle.pr_num.specs.declared.mappings.BadByte.{BadByte}

-- Paths as code has them: how long one is, and the buffer at whose start it stands.

abbrev pub path_meant : Result ℕ Errno → List ℕ → Result (List ℕ) Errno
path_meant (Ok len) out = Ok (take len out)
path_meant (Err e) out = Err e

-- what was read of a text, as a path
abbrev pub path_read : Result (Option (List ℕ)) BadByte → Result (List ℕ) Errno
path_read (Err bad) = Err Fault
path_read (Ok None) = Err Inval
path_read (Ok (Some [])) = Err Inval
path_read (Ok (Some (b ∷ bytes))) = Ok (b ∷ bytes)
