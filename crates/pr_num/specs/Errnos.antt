use Rattle.std.specs.Prelude.{◌==◌, ℕ, Bool, List, [], ◌∷◌, codes, Option, find}
use Rattle.std.specs.Str.{bytes_eq}
use Rattle.pr_num.specs.declared.errnos.Errno.{Errno}
use Rattle.pr_num.specs.declared.errnos.Errno.TheVariants.{Perm, Noent, Srch, Intr, Io, Badf, Child, Again, Nomem, Fault, Busy, Inval, Nfile, Mfile, Nospc, Spipe, Pipe, Notsup}

-- every errno, in the order of its number
abbrev pub errnos : List Errno
errnos =
    Perm ∷ Noent ∷ Srch ∷ Intr ∷ Io ∷ Badf ∷ Child ∷ Again ∷ Nomem ∷ Fault ∷ Busy ∷ Inval ∷ Nfile ∷ Mfile ∷ Nospc
    ∷ Spipe ∷ Pipe ∷ Notsup ∷ []

-- the number of an errno (Intro(2))
unfoldable pub errno_number : Errno → ℕ
errno_number Perm = 1
errno_number Noent = 2
errno_number Srch = 3
errno_number Intr = 4
errno_number Io = 5
errno_number Badf = 9
errno_number Child = 10
errno_number Again = 11
errno_number Nomem = 12
errno_number Fault = 14
errno_number Busy = 16
errno_number Inval = 22
errno_number Nfile = 23
errno_number Mfile = 24
errno_number Nospc = 28
errno_number Spipe = 29
errno_number Pipe = 32
errno_number Notsup = 48

-- the name of an errno (Intro(2))
unfoldable pub errno_name : Errno → List ℕ
errno_name Perm = codes "EPERM"
errno_name Noent = codes "ENOENT"
errno_name Srch = codes "ESRCH"
errno_name Intr = codes "EINTR"
errno_name Io = codes "EIO"
errno_name Badf = codes "EBADF"
errno_name Child = codes "ECHILD"
errno_name Again = codes "EAGAIN"
errno_name Nomem = codes "ENOMEM"
errno_name Fault = codes "EFAULT"
errno_name Busy = codes "EBUSY"
errno_name Inval = codes "EINVAL"
errno_name Nfile = codes "ENFILE"
errno_name Mfile = codes "EMFILE"
errno_name Nospc = codes "ENOSPC"
errno_name Spipe = codes "ESPIPE"
errno_name Pipe = codes "EPIPE"
errno_name Notsup = codes "ENOTSUP"

-- whether the errno has this number
abbrev pub is_numbered : ℕ → Errno → Bool
is_numbered n e = errno_number e == n

-- whether these bytes are the whole name of the errno
abbrev pub is_named : List ℕ → Errno → Bool
is_named bytes e = bytes_eq bytes (errno_name e)

-- the errno of a number, none where no errno has it
unfoldable pub errno_of_number : ℕ → Option Errno
errno_of_number n = find (is_numbered n) errnos

-- the errno that these bytes name, none where they name none
unfoldable pub errno_of_name : List ℕ → Option Errno
errno_of_name bytes = find (is_named bytes) errnos
