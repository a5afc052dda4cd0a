use Rattle.std.specs.Prelude.{◌==◌, ◌+◌, ◌*◌, ◌%◌, ◌||◌, ℕ, Bool, not, List, [], ◌∷◌, Option, Some, None, Result, Ok, Err, find, is_some, length, nat_le, nat_lt, if◌then◌else◌}
use Rattle.std.specs.Str.{bytes_eq}
use Rattle.pr_num.specs.Agents.{agent_id}
use Rattle.pr_num.specs.Programs.{Program}
use Rattle.pr_num.specs.Spaces.{Space, first_space, mapped_size}
use Rattle.pr_num.specs.Words.{word_bytes}
use Rattle.pr_num.specs.declared.errnos.Errno.{Errno}
use Rattle.pr_num.specs.declared.errnos.Errno.TheVariants.{Inval, Noent, Again, Nomem, Child, Fault, Notsup}
use Rattle.pr_num.specs.Limits.{process_limit, sleep_limit}
use Rattle.pr_parts.specs.AddressSpaces.{with_bytes}
use Rattle.pr_model.specs.Changes.{Effect, sleeps, ends, ends_process, gives, fails, forks, becomes, reaps, space_is}
use Rattle.pr_model.specs.Lives.{by_fork, by_vfork}
use Rattle.pr_model.specs.MemoryCalls.{can_write, path_at}
use Rattle.pr_model.specs.FileCallRows.{word_size}
use Rattle.pr_model.specs.Readers.{Children, no_child, all_live, first_zombie, size_of, total_has_room}
use Rattle.pr_model.specs.State.{ProcessOf, SystemOf}

-- The system calls on processes and on the clock, a definition a call. Each tries its refusals in their order.

-- exit(2): the low 8 bits of its argument stand in the high byte of the wait status
unfoldable pub exit_effect : ℕ → Effect
exit_effect status = ends (ends_process (status % 256 * 256))

-- whether a program has this name
abbrev pub is_program_of : List ℕ → Program → Bool
is_program_of name program = bytes_eq program.name name

-- the program of a name
unfoldable pub program_named : List Program → List ℕ → Option Program
program_named programs name = find (is_program_of name) programs

-- wait(3C): gives the id of the least child that has ended, which is reaped, and stores its wait status unless the
-- address is 0. ECHILD: no child; EFAULT: the status cannot be stored, and nothing is reaped. It sleeps while no child
-- has ended.
unfoldable pub wait_effect : Space → Children → ℕ → Effect
wait_effect space children at = of children
  where
    reaped : ℕ → ℕ → Effect
    reaped child status =
        if at == 0 then gives child (reaps child ∷ [])
        else (if can_write space at word_size then gives child
        (reaps child ∷ space_is (with_bytes at (word_bytes status) space) ∷ [])
        else fails Fault)

    of : Children → Effect
    of no_child = fails Child
    of all_live = sleeps
    of (first_zombie child status) = reaped child status

-- sleep(3C): is over once so many milliseconds have passed since it began. EINVAL: too many.
unfoldable pub sleep_effect : ℕ → ℕ → ℕ → Effect
sleep_effect clock since time =
    if nat_lt sleep_limit time then fails Inval else (if nat_le (since + time) clock then gives 0 [] else sleeps)

module _ {C H K : Type 0} (s : SystemOf C H K) (p : ProcessOf C H K) (id : ℕ) where
  -- fork(2): gives the child's id. ENOTSUP: by the agent; EAGAIN: as many processes were made as can be; ENOMEM: too
  -- much would be mapped.
  unfoldable pub fork_effect : List ℕ → Effect
  fork_effect args =
      if id == agent_id then fails Notsup
      else (if nat_le process_limit s.made then fails Again
      else (if total_has_room s (size_of p) 0 then gives s.made (forks by_fork args ∷ []) else fails Nomem))

  -- vfork(2): gives the child's id; the child has the memory of the process, as a loan. ENOTSUP: by the agent, or
  -- beside another lwp; EAGAIN: as many processes were made as can be. No memory is mapped.
  unfoldable pub vfork_effect : List ℕ → Effect
  vfork_effect args =
      if (id == agent_id) || not (length p.lwps == 1) then fails Notsup
      else (if nat_le process_limit s.made then fails Again else gives s.made (forks by_vfork args ∷ []))

  -- how many bytes a process gives up when it runs another program: a loan goes back
  unfoldable pub given_up : ℕ
  given_up = if is_some p.lender then 0 else size_of p

  -- exec(2): the process runs the program that a path names. ENOTSUP: by the agent; EFAULT, EINVAL: the path; ENOENT:
  -- no such program; ENOMEM: too much would be mapped.
  unfoldable pub exec_effect : ℕ → Effect
  exec_effect at = if id == agent_id then fails Notsup else of (path_at p.space at)
    where
      found : Option Program → Effect
      found None = fails Noent
      found (Some program) =
          if total_has_room s (mapped_size (first_space program)) given_up then gives 0
          (becomes program ∷ []) else fails Nomem

      of : Result (List ℕ) Errno → Effect
      of (Err e) = fails e
      of (Ok name) = found (program_named s.programs name)
