-- For what an access can be watched, by its flag.
use Rattle.std.specs.Prelude.{◌==◌, ◌||◌, ℕ, Bool}
use Rattle.pr_num.specs.Control.{watch_read, watch_write, watch_exec}
use Rattle.pr_watch.specs.declared.accesses.AccessKind.{AccessKind}
use Rattle.pr_watch.specs.declared.accesses.AccessKind.TheVariants.{Read, Write, Exec}

-- the flag of areas that are watched for a kind of access
abbrev pub access_flag : AccessKind → ℕ
access_flag Read = watch_read
access_flag Write = watch_write
access_flag Exec = watch_exec

-- whether a number is such a flag
abbrev pub is_access_flag : ℕ → Bool
is_access_flag n = (n == watch_read || n == watch_write) || n == watch_exec
