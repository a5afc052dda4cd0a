use Rattle.std.specs.Prelude.{true, false, ℕ, Bool, Option, List, [], ◌∷◌, codes, find}
use Rattle.std.specs.Str.{bytes_eq}
use Rattle.pr_num.specs.Tables.{entry_at}
use Rattle.pr_num.specs.declared.syscalls.Sysno.{Sysno}
use Rattle.pr_num.specs.declared.syscalls.Sysno.TheVariants.{Exit, Fork, Read, Write, Open, Close, Wait, Getpid, Getppid, Exec, Pipe, Dup, Lseek, Kill, Sigaction, Sigmask, Pause, Sigreturn, Brk, Mmap, Munmap, Mprotect, Time, Sleep, LwpCreate, LwpExit, LwpSuspend, LwpContinue, Fstat, Sigqueue, Vfork}
use Rattle.pr_num.specs.declared.syscalls.ArgKind.{ArgKind}
use Rattle.pr_num.specs.declared.syscalls.ArgKind.TheVariants.{Dec, Hex, Text, Buf}

-- every system call, in the order of its number, which counts from 1
abbrev pub syscalls : List Sysno
syscalls =
    Exit ∷ Fork ∷ Read ∷ Write ∷ Open ∷ Close ∷ Wait ∷ Getpid ∷ Getppid ∷ Exec ∷ Pipe ∷ Dup ∷ Lseek ∷ Kill ∷ Sigaction
    ∷ Sigmask ∷ Pause ∷ Sigreturn ∷ Brk ∷ Mmap ∷ Munmap ∷ Mprotect ∷ Time ∷ Sleep ∷ LwpCreate ∷ LwpExit ∷ LwpSuspend
    ∷ LwpContinue ∷ Fstat ∷ Sigqueue ∷ Vfork ∷ []

-- the number of a call, of this project's own
unfoldable pub syscall_number : Sysno → ℕ
syscall_number Exit = 1
syscall_number Fork = 2
syscall_number Read = 3
syscall_number Write = 4
syscall_number Open = 5
syscall_number Close = 6
syscall_number Wait = 7
syscall_number Getpid = 8
syscall_number Getppid = 9
syscall_number Exec = 10
syscall_number Pipe = 11
syscall_number Dup = 12
syscall_number Lseek = 13
syscall_number Kill = 14
syscall_number Sigaction = 15
syscall_number Sigmask = 16
syscall_number Pause = 17
syscall_number Sigreturn = 18
syscall_number Brk = 19
syscall_number Mmap = 20
syscall_number Munmap = 21
syscall_number Mprotect = 22
syscall_number Time = 23
syscall_number Sleep = 24
syscall_number LwpCreate = 25
syscall_number LwpExit = 26
syscall_number LwpSuspend = 27
syscall_number LwpContinue = 28
syscall_number Fstat = 29
syscall_number Sigqueue = 30
syscall_number Vfork = 31

-- the name of a call (section 2 of the manual)
unfoldable pub syscall_name : Sysno → List ℕ
syscall_name Exit = codes "exit"
syscall_name Fork = codes "fork"
syscall_name Read = codes "read"
syscall_name Write = codes "write"
syscall_name Open = codes "open"
syscall_name Close = codes "close"
syscall_name Wait = codes "wait"
syscall_name Getpid = codes "getpid"
syscall_name Getppid = codes "getppid"
syscall_name Exec = codes "exec"
syscall_name Pipe = codes "pipe"
syscall_name Dup = codes "dup"
syscall_name Lseek = codes "lseek"
syscall_name Kill = codes "kill"
syscall_name Sigaction = codes "sigaction"
syscall_name Sigmask = codes "sigmask"
syscall_name Pause = codes "pause"
syscall_name Sigreturn = codes "sigreturn"
syscall_name Brk = codes "brk"
syscall_name Mmap = codes "mmap"
syscall_name Munmap = codes "munmap"
syscall_name Mprotect = codes "mprotect"
syscall_name Time = codes "time"
syscall_name Sleep = codes "sleep"
syscall_name LwpCreate = codes "lwp_create"
syscall_name LwpExit = codes "lwp_exit"
syscall_name LwpSuspend = codes "lwp_suspend"
syscall_name LwpContinue = codes "lwp_continue"
syscall_name Fstat = codes "fstat"
syscall_name Sigqueue = codes "sigqueue"
syscall_name Vfork = codes "vfork"

-- whether these bytes are the whole name of the call
abbrev pub is_named : List ℕ → Sysno → Bool
is_named bytes c = bytes_eq bytes (syscall_name c)

-- the kinds of the arguments of a call, as truss(1) writes them
unfoldable pub syscall_args : Sysno → List ArgKind
syscall_args Exit = Dec ∷ []
syscall_args Fork = []
syscall_args Read = Dec ∷ Buf ∷ Dec ∷ []
syscall_args Write = Dec ∷ Buf ∷ Dec ∷ []
syscall_args Open = Text ∷ Dec ∷ []
syscall_args Close = Dec ∷ []
syscall_args Wait = Hex ∷ []
syscall_args Getpid = []
syscall_args Getppid = []
syscall_args Exec = Hex ∷ []
syscall_args Pipe = Hex ∷ []
syscall_args Dup = Dec ∷ []
syscall_args Lseek = Dec ∷ Dec ∷ []
syscall_args Kill = Dec ∷ Dec ∷ []
syscall_args Sigaction = Dec ∷ Hex ∷ []
syscall_args Sigmask = Hex ∷ []
syscall_args Pause = []
syscall_args Sigreturn = []
syscall_args Brk = Hex ∷ []
syscall_args Mmap = Dec ∷ Dec ∷ []
syscall_args Munmap = Hex ∷ Dec ∷ []
syscall_args Mprotect = Hex ∷ Dec ∷ Dec ∷ []
syscall_args Time = []
syscall_args Sleep = Dec ∷ []
syscall_args LwpCreate = Hex ∷ Hex ∷ Dec ∷ []
syscall_args LwpExit = []
syscall_args LwpSuspend = Dec ∷ []
syscall_args LwpContinue = Dec ∷ []
syscall_args Fstat = Dec ∷ Hex ∷ []
syscall_args Sigqueue = Dec ∷ Dec ∷ Dec ∷ []
syscall_args Vfork = []

-- whether a call makes a child that begins on its way out of that same call
unfoldable pub is_fork_call : Sysno → Bool
is_fork_call Exit = false
is_fork_call Fork = true
is_fork_call Read = false
is_fork_call Write = false
is_fork_call Open = false
is_fork_call Close = false
is_fork_call Wait = false
is_fork_call Getpid = false
is_fork_call Getppid = false
is_fork_call Exec = false
is_fork_call Pipe = false
is_fork_call Dup = false
is_fork_call Lseek = false
is_fork_call Kill = false
is_fork_call Sigaction = false
is_fork_call Sigmask = false
is_fork_call Pause = false
is_fork_call Sigreturn = false
is_fork_call Brk = false
is_fork_call Mmap = false
is_fork_call Munmap = false
is_fork_call Mprotect = false
is_fork_call Time = false
is_fork_call Sleep = false
is_fork_call LwpCreate = false
is_fork_call LwpExit = false
is_fork_call LwpSuspend = false
is_fork_call LwpContinue = false
is_fork_call Fstat = false
is_fork_call Sigqueue = false
is_fork_call Vfork = true

-- whether a call can put its lwp to sleep
unfoldable pub may_sleep : Sysno → Bool
may_sleep Exit = false
may_sleep Fork = false
may_sleep Read = true
may_sleep Write = true
may_sleep Open = false
may_sleep Close = false
may_sleep Wait = true
may_sleep Getpid = false
may_sleep Getppid = false
may_sleep Exec = false
may_sleep Pipe = false
may_sleep Dup = false
may_sleep Lseek = false
may_sleep Kill = false
may_sleep Sigaction = false
may_sleep Sigmask = false
may_sleep Pause = true
may_sleep Sigreturn = false
may_sleep Brk = false
may_sleep Mmap = false
may_sleep Munmap = false
may_sleep Mprotect = false
may_sleep Time = false
may_sleep Sleep = true
may_sleep LwpCreate = false
may_sleep LwpExit = false
may_sleep LwpSuspend = false
may_sleep LwpContinue = false
may_sleep Fstat = false
may_sleep Sigqueue = false
may_sleep Vfork = false

-- the call of a number, none where no call has it
unfoldable pub syscall_of_number : ℕ → Option Sysno
syscall_of_number n = entry_at syscalls n

-- the call that these bytes name, none where they name none
unfoldable pub syscall_of_name : List ℕ → Option Sysno
syscall_of_name bytes = find (is_named bytes) syscalls
