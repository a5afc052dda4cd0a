-- The errno in the status of an lwp.
use Rattle.std.proofs.Common.{◌≡◌, ◌==◌, false, refl}
use Rattle.pr_num.specs.Errnos.{errno_number}
use Rattle.pr_num.specs.declared.errnos.Errno.{Errno}
use Rattle.pr_num.specs.declared.errnos.Errno.TheVariants.{Perm}

-- no errno has the number 0
pub errno-not-zero : (e : Errno) → (errno_number e == 0) ≡ false
unfolding errno_number
errno-not-zero Perm = refl
errno-not-zero _ = refl
