use Rattle.std.specs.Prelude.{◌≡◌, ℕ, Option, Some, None, Result, Ok, Err, nat_le, if◌then◌else◌}
use Rattle.pr_num.specs.Limits.{process_limit}
use Rattle.pr_num.specs.Programs.{Program}
use Rattle.pr_num.specs.Spaces.{first_space, mapped_size}
use Rattle.pr_num.specs.declared.errnos.Errno.{Errno}
use Rattle.pr_num.specs.declared.errnos.Errno.TheVariants as errno
use Rattle.pr_model.specs.ProcessCalls.{given_up}
use Rattle.pr_model.specs.Readers.{size_of, total_has_room}
use Rattle.pr_model.specs.State.{TracedProcess, TracedSystem}
use Rattle.pr_proc.specs.declared.refusals.ProcNo.{ProcNo}
use Rattle.pr_proc.specs.declared.refusals.ProcNo.TheVariants.{Again, NoSpace, NoMemory}

-- What refuses a process that is made, and a program that is run.

-- a child of a process: as many processes were made as can be; too much would be mapped
unfoldable pub fork_refusal : TracedSystem → TracedProcess → Option Errno
fork_refusal s p =
    if nat_le process_limit s.made then Some errno.Again
    else (if total_has_room s (size_of p) 0 then None else Some errno.Nomem)

-- a child to which a process lends its memory: as many processes were made as can be
unfoldable pub lend_refusal : TracedSystem → Option Errno
lend_refusal s = if nat_le process_limit s.made then Some errno.Again else None

-- a program in place of the one that a process runs, by an lwp of it: too much would be mapped
unfoldable pub exec_refusal : TracedSystem → TracedProcess → ℕ → Program → Option Errno
exec_refusal s p id program =
    if total_has_room s (mapped_size (first_space program)) (given_up s p id) then None else Some errno.Nomem

-- A result says whether, and by which errno, a call is refused; but where memory ran out it says nothing of that.
abbrev pub SaysOf : ProcNo → Option Errno → Type 0
SaysOf Again refusal = refusal ≡ Some errno.Again
SaysOf NoSpace refusal = refusal ≡ Some errno.Nomem
SaysOf NoMemory refusal = Unit {0}

abbrev pub Says : {X : Type 0} → Result X ProcNo → Option Errno → Type 0
Says (Ok x) refusal = refusal ≡ None
Says (Err reason) refusal = SaysOf reason refusal
