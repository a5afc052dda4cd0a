use Rattle.pr_num.specs.declared.errnos.Errno.{Errno}
use Rattle.pr_num.specs.declared.errnos.Errno.TheVariants as errno
use Rattle.pr_open.specs.declared.refusals.OpenNo.{OpenNo}
use Rattle.pr_open.specs.declared.refusals.OpenNo.TheVariants.{Busy, Full, BadHandle}

-- the errno of an open that the open handles refuse
abbrev pub errno_of : OpenNo → Errno
errno_of Busy = errno.Busy
errno_of Full = errno.Mfile
errno_of BadHandle = errno.Badf
