use Rattle.std.specs.Prelude.{Option, Some, None, nat_le, if◌then◌else◌}
use Rattle.pr_num.specs.Programs.{Program}
use Rattle.pr_num.specs.Spaces.{first_space, mapped_size}
use Rattle.pr_num.specs.declared.errnos.Errno.{Errno}
use Rattle.pr_num.specs.declared.errnos.Errno.TheVariants.{Again, Nomem}
use Rattle.pr_num.specs.Limits.{process_limit}
use Rattle.pr_model.specs.Readers.{total_has_room}
use Rattle.pr_model.specs.State.{SystemOf}

-- What refuses a process of a program that is made from outside: EAGAIN, as many processes were made as can be; ENOMEM,
-- too much would be mapped.
unfoldable pub spawn_refusal : {C H K : Type 0} → SystemOf C H K → Program → Option Errno
spawn_refusal s program =
    if nat_le process_limit s.made then Some Again
    else (if total_has_room s (mapped_size (first_space program)) 0 then None else Some Nomem)
