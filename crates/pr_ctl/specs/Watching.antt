use Rattle.pr_num.specs.declared.errnos.Errno.{Errno}
use Rattle.pr_num.specs.declared.errnos.Errno.TheVariants.{Inval, Nomem}
use Rattle.pr_watch.specs.declared.areas.WatchFault.{WatchFault}
use Rattle.pr_watch.specs.declared.areas.WatchFault.TheVariants.{BadFlags, Overlap, TooMany}

-- the errno of an area that is refused
abbrev pub errno_of : WatchFault → Errno
errno_of Overlap = Inval
errno_of TooMany = Nomem
errno_of BadFlags = Inval
