use Rattle.std.specs.Prelude.{ℕ, List, [], slice_index}
use Rattle.pr_num.specs.declared.syscalls.Sysno.{Sysno}
use Rattle.pr_num.specs.declared.syscalls.Sysno.TheVariants.{Exit, Fork, Read, Write, Open, Close, Wait, Getpid, Getppid, Exec, Pipe, Dup, Lseek, Kill, Sigaction, Sigmask, Pause, Sigreturn, Brk, Mmap, Munmap, Mprotect, Time, Sleep, LwpCreate, LwpExit, LwpSuspend, LwpContinue, Fstat, Sigqueue, Vfork}
use Rattle.pr_model.specs.Changes.{Effect, gives, sleeps, ends, ends_lwp}
use Rattle.pr_model.specs.FileCallRows.{read_effect, write_effect, open_effect, close_effect, pipe_effect, dup_effect, lseek_effect, fstat_effect}
use Rattle.pr_model.specs.LwpCalls.{lwp_create_effect, lwp_suspend_effect, lwp_continue_effect}
use Rattle.pr_model.specs.MemoryCalls.{brk_effect, mmap_effect, munmap_effect, mprotect_effect}
use Rattle.pr_model.specs.ProcessCalls.{exit_effect, fork_effect, vfork_effect, wait_effect, exec_effect, sleep_effect}
use Rattle.pr_model.specs.Readers.{children_of, life_of}
use Rattle.pr_model.specs.SignalCalls.{send_effect, sigaction_effect, sigmask_effect, sigreturn_effect}
use Rattle.pr_num.specs.Infos.{killed_by, queued_by}
use Rattle.pr_model.specs.State.{LwpOf, ProcessOf, SystemOf}

-- What system calls do (section 2 of the manual), a row a call: of the lwp of an id in the process of an id, which
-- makes the call with six arguments. A call that was made before and sleeps since some moment is performed anew.

module _ {C H K : Type 0} (s : SystemOf C H K) (pid : ℕ) (p : ProcessOf C H K) (id : ℕ) (l : LwpOf H K) where
  unfoldable pub call_effect : ℕ → Sysno → List ℕ → Effect
  call_effect since Exit args = exit_effect (slice_index args 0)
  call_effect since Fork args = fork_effect s p id args
  call_effect since Read args =
      read_effect s.files p.fds p.space (slice_index args 0) (slice_index args 1) (slice_index args 2)
  call_effect since Write args =
      write_effect s.files p.fds p.space (slice_index args 0) (slice_index args 1) (slice_index args 2)
  call_effect since Open args = open_effect s.files p.fds p.space (slice_index args 0) (slice_index args 1)
  call_effect since Close args = close_effect s.files p.fds p.space (slice_index args 0)
  call_effect since Wait args = wait_effect p.space (children_of s pid) (slice_index args 0)
  call_effect since Getpid args = gives pid []
  call_effect since Getppid args = gives p.parent []
  call_effect since Exec args = exec_effect s p id (slice_index args 0)
  call_effect since Pipe args = pipe_effect s.files p.fds p.space (slice_index args 0)
  call_effect since Dup args = dup_effect s.files p.fds p.space (slice_index args 0)
  call_effect since Lseek args = lseek_effect s.files p.fds p.space (slice_index args 0) (slice_index args 1)
  call_effect since Kill args =
      send_effect pid (slice_index args 0) (slice_index args 1) (killed_by pid) (life_of s (slice_index args 0))
  call_effect since Sigaction args = sigaction_effect p.dispositions (slice_index args 0) (slice_index args 1)
  call_effect since Sigmask args = sigmask_effect l.held (slice_index args 0)
  -- pause(2): only a signal that is caught ends it
  call_effect since Pause args = sleeps
  call_effect since Sigreturn args = sigreturn_effect l.frames
  call_effect since Brk args = brk_effect s p (slice_index args 0)
  call_effect since Mmap args = mmap_effect s p (slice_index args 0) (slice_index args 1)
  call_effect since Munmap args = munmap_effect s p (slice_index args 0) (slice_index args 1)
  call_effect since Mprotect args = mprotect_effect s p (slice_index args 0) (slice_index args 1) (slice_index args 2)
  -- time(2): the clock
  call_effect since Time args = gives s.clock []
  call_effect since Sleep args = sleep_effect s.clock since (slice_index args 0)
  call_effect since LwpCreate args =
      lwp_create_effect p id l.held (slice_index args 0) (slice_index args 1) (slice_index args 2)
  call_effect since LwpExit args = ends ends_lwp
  call_effect since LwpSuspend args = lwp_suspend_effect p id (slice_index args 0)
  call_effect since LwpContinue args = lwp_continue_effect p (slice_index args 0)
  call_effect since Fstat args = fstat_effect s.files p.fds p.space (slice_index args 0) (slice_index args 1)
  call_effect since Sigqueue args =
      send_effect pid (slice_index args 0) (slice_index args 1) (queued_by pid (slice_index args 2))
      (life_of s (slice_index args 0))
  call_effect since Vfork args = vfork_effect s p id args
