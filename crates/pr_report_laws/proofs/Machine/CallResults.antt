use Rattle.std.proofs.Common.{◌≡◌, ◌==◌, ◌||◌, ◌&&◌, ℕ, ◌+◌, ◌*◌, ◌-◌, Bool, true, false, not, ltb, leb, is_none, cond, Option, Some, None, Result, Ok, Err, List, length, refl}
use Rattle.std.specs.List.{list_any, slice_get}
use Rattle.std.specs.Prelude.{slice_index}
use Rattle.pr_num.specs.Agents.{agent_id}
use Rattle.pr_num.specs.Control.{prot_read}
use Rattle.pr_num.specs.Infos.{killed_by, queued_by}
use Rattle.pr_num.specs.Layout.{heap_base, break_limit}
use Rattle.pr_num.specs.Limits.{last_lwp, lwp_limit, process_limit, sleep_limit, transfer_limit}
use Rattle.pr_num.specs.Programs.{Program, rounded}
use Rattle.pr_num.specs.Signals.{signal_of_number}
use Rattle.pr_num.specs.Spaces.{Space, bytes_for, first_space, mapped_size, mapping_limit}
use Rattle.pr_num.specs.declared.errnos.Errno.{Errno}
use Rattle.pr_num.specs.declared.infos.Info.{Info}
use Rattle.pr_num.specs.declared.mappings.BadByte.{BadByte}
use Rattle.pr_num.specs.declared.mappings.MappingKind.TheVariants.{Mapped}
use Rattle.pr_num.specs.declared.signals.Sig.{Sig}
use Rattle.pr_num.specs.declared.syscalls.Sysno.{Sysno}
use Rattle.pr_num.specs.declared.syscalls.Sysno.TheVariants as sys
use Rattle.pr_parts.specs.AddressSpaces.{gap_in, has_range, with_break, with_mapping, zeros_at}
use Rattle.pr_parts.specs.FileCalls.{FileEffect, are_open_flags, closed, described, open_for_reading, open_for_writing, piped}
use Rattle.pr_parts.specs.FileTransfers.{read_fd}
use Rattle.pr_parts.specs.declared.files.FileNo.{FileNo}
use Rattle.pr_parts.specs.declared.files.FileNo.TheVariants.{Sleep}
use Rattle.pr_parts.specs.declared.files.Stat.{Stat}
use Rattle.pr_model.specs.CallEffects.{call_effect}
use Rattle.pr_model.specs.Changes.{Effect, does}
use Rattle.pr_model.specs.FileCallRows.{read_effect, write_effect, open_effect, close_effect, pipe_effect, dup_effect, lseek_effect, fstat_effect, refusal_effect, file_effect, word_size}
use Rattle.pr_model.specs.LwpCalls.{lwp_create_effect, lwp_suspend_effect, lwp_continue_effect, can_be_named}
use Rattle.pr_model.specs.MemoryCalls.{can_write, path_at, brk_effect, mmap_effect, munmap_effect, mprotect_effect, unless_too_big, is_mapped_range, prot_limit}
use Rattle.pr_model.specs.ProcessCalls.{exit_effect, fork_effect, wait_effect, exec_effect, sleep_effect, program_named, vfork_effect, given_up}
use Rattle.pr_model.specs.Readers.{Life, Children, no_child, all_live, first_zombie, children_of, life_of, size_of, total_has_room}
use Rattle.pr_model.specs.SignalCalls.{Sending, refuses, sends_nothing, sends, sending, sent_effect, send_effect, can_be_caught, sigaction_effect, sigmask_effect, sigreturn_effect}
use Rattle.pr_model.specs.Signals.{is_kill}
use Rattle.pr_model.specs.State.{TracedLwp, TracedProcess, TracedSystem}
use Rattle.pr_model.specs.declared.events.Res.TheVariants.{Ended}
use Rattle.pr_model.specs.declared.frames.Frame.{Frame}

-- A call that gives a result gives a value or an errno: only a call that ends its lwp or its process gives nothing.

abbrev pub is_answered : Effect → Bool
is_answered (does Ended changes) = false
is_answered _ = true

abbrev pub IsAnswered : Effect → Type 0
IsAnswered e = is_answered e ≡ true

either : (b : Bool) (x y : Effect) → IsAnswered x → IsAnswered y → IsAnswered (cond b x y)
either true x y one other = one
either false x y one other = other

module _ (s : TracedSystem) (pid : ℕ) (p : TracedProcess) (id : ℕ) (l : TracedLwp) where
  -- ---- memory

  big-answered : (value : ℕ) (space : Space) → IsAnswered (unless_too_big s p value space)
  big-answered value space =
      either (leb (mapped_size space) mapping_limit && total_has_room s (mapped_size space) (size_of p)) _ _ refl refl

  brk-answered : (end : ℕ) → IsAnswered (brk_effect s p end)
  unfolding brk_effect
  brk-answered end =
      either (ltb end heap_base || ltb break_limit end) _ _ refl (big-answered 0 (with_break end p.space))

  mmap-answered : (len prot : ℕ) → IsAnswered (mmap_effect s p len prot)
  unfolding mmap_effect
  mmap-answered len prot = by (gap_in (rounded len) p.space) refl
    where
      by : (o : Option ℕ) → gap_in (rounded len) p.space ≡ o → IsAnswered (mmap_effect s p len prot)
      by None is = rw is (either ((len == 0) || (ltb mapping_limit len || ltb prot_limit prot)) _ _ refl refl)
      by (Some at) is =
          rw is (either ((len == 0) || (ltb mapping_limit len || ltb prot_limit prot)) _ _ refl
          (big-answered at (with_mapping (zeros_at at (rounded len) prot Mapped) p.space)))

  munmap-answered : (at len : ℕ) → IsAnswered (munmap_effect s p at len)
  unfolding munmap_effect
  munmap-answered at len = either (list_any (is_mapped_range at (rounded len)) p.space) _ _ refl refl

  mprotect-answered : (at len prot : ℕ) → IsAnswered (mprotect_effect s p at len prot)
  unfolding mprotect_effect
  mprotect-answered at len prot = either (has_range at (rounded len) p.space && leb prot prot_limit) _ _ refl refl

  -- ---- files

  refusal-answered : (why : FileNo) → IsAnswered (refusal_effect why)
  refusal-answered Sleep = refl
  refusal-answered _ = refl

  file-answered : (e : FileEffect ℕ) → IsAnswered (file_effect e)
  unfolding file_effect
  file-answered e = by e.answer refl
    where
      by : (r : Result ℕ FileNo) → e.answer ≡ r → IsAnswered (file_effect e)
      by (Ok value) is = rw is refl
      by (Err why) is = rw is (refusal-answered why)

  read-answered : (fd at size : ℕ) → IsAnswered (read_effect s.files p.fds p.space fd at size)
  unfolding read_effect
  read-answered fd at size = by (read_fd s.files p.fds fd size).bytes refl
    where
      by : (r : Result (List ℕ) FileNo) → (read_fd s.files p.fds fd size).bytes ≡ r
          → IsAnswered (read_effect s.files p.fds p.space fd at size)
      by (Ok bytes) is =
          rw is (either (is_none (open_for_reading s.files p.fds fd)) _ _ refl
          (either (ltb transfer_limit size) _ _ refl (either (can_write p.space at size) _ _ refl refl)))
      by (Err why) is =
          rw is (either (is_none (open_for_reading s.files p.fds fd)) _ _ refl
          (either (ltb transfer_limit size) _ _ refl
          (either (can_write p.space at size) _ _ (refusal-answered why) refl)))

  write-answered : (fd at size : ℕ) → IsAnswered (write_effect s.files p.fds p.space fd at size)
  unfolding write_effect
  write-answered fd at size = by (bytes_for prot_read p.space at size) refl
    where
      by : (r : Result (List ℕ) BadByte) → bytes_for prot_read p.space at size ≡ r
          → IsAnswered (write_effect s.files p.fds p.space fd at size)
      by (Ok bytes) is =
          rw is (either (is_none (open_for_writing s.files p.fds fd)) _ _ refl
          (either (ltb transfer_limit size) _ _ refl (file-answered _)))
      by (Err bad) is =
          rw is (either (is_none (open_for_writing s.files p.fds fd)) _ _ refl
          (either (ltb transfer_limit size) _ _ refl refl))

  open-answered : (at flags : ℕ) → IsAnswered (open_effect s.files p.fds p.space at flags)
  unfolding open_effect
  open-answered at flags = by (path_at p.space at) refl
    where
      by : (r : Result (List ℕ) Errno) → path_at p.space at ≡ r
          → IsAnswered (open_effect s.files p.fds p.space at flags)
      by (Err e) is = rw is refl
      by (Ok name) is = rw is (either (are_open_flags flags) _ _ (file-answered _) refl)

  close-answered : (fd : ℕ) → IsAnswered (close_effect s.files p.fds p.space fd)
  unfolding close_effect
  close-answered fd = by (closed s.files p.fds fd).answer refl
    where
      by : (r : Result (Unit {0}) FileNo) → (closed s.files p.fds fd).answer ≡ r
          → IsAnswered (close_effect s.files p.fds p.space fd)
      by (Ok done) is = rw is refl
      by (Err why) is = rw is (refusal-answered why)

  pipe-answered : (at : ℕ) → IsAnswered (pipe_effect s.files p.fds p.space at)
  unfolding pipe_effect
  pipe-answered at = by (piped s.files p.fds).answer refl
    where
      by : (r : Result (ℕ × ℕ) FileNo) → (piped s.files p.fds).answer ≡ r
          → IsAnswered (pipe_effect s.files p.fds p.space at)
      by (Ok both) is = rw is (either (can_write p.space at (2 * word_size)) _ _ refl refl)
      by (Err why) is = rw is (either (can_write p.space at (2 * word_size)) _ _ (refusal-answered why) refl)

  fstat-answered : (fd at : ℕ) → IsAnswered (fstat_effect s.files p.fds p.space fd at)
  unfolding fstat_effect
  fstat-answered fd at = by (described s.files p.fds fd) refl
    where
      by : (r : Result Stat FileNo) → described s.files p.fds fd ≡ r
          → IsAnswered (fstat_effect s.files p.fds p.space fd at)
      by (Ok stat) is = rw is (either (can_write p.space at (3 * word_size)) _ _ refl refl)
      by (Err why) is = rw is (refusal-answered why)

  -- ---- processes

  fork-answered : (args : List ℕ) → IsAnswered (fork_effect s p id args)
  unfolding fork_effect
  fork-answered args =
      either (id == agent_id) _ _ refl
      (either (leb process_limit s.made) _ _ refl (either (total_has_room s (size_of p) 0) _ _ refl refl))

  vfork-answered : (args : List ℕ) → IsAnswered (vfork_effect s p id args)
  unfolding vfork_effect
  vfork-answered args =
      either ((id == agent_id) || not (length p.lwps == 1)) _ _ refl (either (leb process_limit s.made) _ _ refl refl)

  exec-answered : (at : ℕ) → IsAnswered (exec_effect s p id at)
  unfolding exec_effect
  exec-answered at = by (path_at p.space at) refl
    where
      named : (name : List ℕ) (o : Option Program) → path_at p.space at ≡ Ok name → program_named s.programs name ≡ o
          → IsAnswered (exec_effect s p id at)
      named name None is found = rw (is, found) (either (id == agent_id) _ _ refl refl)
      named name (Some program) is found =
          rw (is, found)
          (either (id == agent_id) _ _ refl
          (either (total_has_room s (mapped_size (first_space program)) (given_up s p id)) _ _ refl refl))

      by : (r : Result (List ℕ) Errno) → path_at p.space at ≡ r → IsAnswered (exec_effect s p id at)
      by (Err e) is = rw is (either (id == agent_id) _ _ refl refl)
      by (Ok name) is = named name (program_named s.programs name) is refl

  wait-answered : (children : Children) (at : ℕ) → IsAnswered (wait_effect p.space children at)
  unfolding wait_effect
  wait-answered no_child at = refl
  wait-answered all_live at = refl
  wait-answered (first_zombie child status) at =
      either (at == 0) _ _ refl (either (can_write p.space at word_size) _ _ refl refl)

  sleep-answered : (since time : ℕ) → IsAnswered (sleep_effect s.clock since time)
  unfolding sleep_effect
  sleep-answered since time = either (ltb sleep_limit time) _ _ refl (either (leb (since + time) s.clock) _ _ refl refl)

  -- ---- signals

  send-answered : (target number : ℕ) (info : Info) (life : Life) → IsAnswered (send_effect pid target number info life)
  unfolding send_effect sent_effect
  send-answered target number info life = by (sending target number life)
    where
      by : (x : Sending) → IsAnswered (sent_effect pid target info x)
      by (refuses e) = refl
      by sends_nothing = refl
      by (sends g) = either (is_kill g && (target == pid)) _ _ refl refl

  sigaction-answered : (number disposition : ℕ) → IsAnswered (sigaction_effect p.dispositions number disposition)
  unfolding sigaction_effect
  sigaction-answered number disposition = by (signal_of_number number) refl
    where
      by : (o : Option Sig) → signal_of_number number ≡ o
          → IsAnswered (sigaction_effect p.dispositions number disposition)
      by None is = rw is refl
      by (Some g) is = rw is (either (can_be_caught g) _ _ refl refl)

  sigmask-answered : (word : ℕ) → IsAnswered (sigmask_effect l.held word)
  unfolding sigmask_effect
  sigmask-answered word = either (ltb word _) _ _ refl refl

  sigreturn-answered : IsAnswered (sigreturn_effect l.frames)
  unfolding sigreturn_effect
  sigreturn-answered = by (slice_get l.frames (length l.frames - 1)) refl
    where
      by : (o : Option Frame) → slice_get l.frames (length l.frames - 1) ≡ o → IsAnswered (sigreturn_effect l.frames)
      by None is = rw is refl
      by (Some frame) is = rw is refl

  -- ---- lwps

  create-answered : (pc sp r1 : ℕ) → IsAnswered (lwp_create_effect p id l.held pc sp r1)
  unfolding lwp_create_effect
  create-answered pc sp r1 =
      either (id == agent_id) _ _ refl (either (leb lwp_limit (length p.lwps) || ltb last_lwp p.next_lwp) _ _ refl refl)

  suspend-answered : (other : ℕ) → IsAnswered (lwp_suspend_effect p id other)
  unfolding lwp_suspend_effect
  suspend-answered other = either (can_be_named p other) _ _ (either (other == id) _ _ refl refl) refl

  continue-answered : (other : ℕ) → IsAnswered (lwp_continue_effect p other)
  unfolding lwp_continue_effect
  continue-answered other = either (can_be_named p other) _ _ refl refl

  -- ---- the calls

  pub call-answered : (since : ℕ) (call : Sysno) (args : List ℕ) → IsAnswered (call_effect s pid p id l since call args)
  unfolding call_effect exit_effect dup_effect lseek_effect
  call-answered since sys.Exit args = refl
  call-answered since sys.Fork args = fork-answered args
  call-answered since sys.Vfork args = vfork-answered args
  call-answered since sys.Read args = read-answered (slice_index args 0) (slice_index args 1) (slice_index args 2)
  call-answered since sys.Write args = write-answered (slice_index args 0) (slice_index args 1) (slice_index args 2)
  call-answered since sys.Open args = open-answered (slice_index args 0) (slice_index args 1)
  call-answered since sys.Close args = close-answered (slice_index args 0)
  call-answered since sys.Wait args = wait-answered (children_of s pid) (slice_index args 0)
  call-answered since sys.Getpid args = refl
  call-answered since sys.Getppid args = refl
  call-answered since sys.Exec args = exec-answered (slice_index args 0)
  call-answered since sys.Pipe args = pipe-answered (slice_index args 0)
  call-answered since sys.Dup args = file-answered _
  call-answered since sys.Lseek args = file-answered _
  call-answered since sys.Kill args =
      send-answered (slice_index args 0) (slice_index args 1) (killed_by pid) (life_of s (slice_index args 0))
  call-answered since sys.Sigaction args = sigaction-answered (slice_index args 0) (slice_index args 1)
  call-answered since sys.Sigmask args = sigmask-answered (slice_index args 0)
  call-answered since sys.Pause args = refl
  call-answered since sys.Sigreturn args = sigreturn-answered
  call-answered since sys.Brk args = brk-answered (slice_index args 0)
  call-answered since sys.Mmap args = mmap-answered (slice_index args 0) (slice_index args 1)
  call-answered since sys.Munmap args = munmap-answered (slice_index args 0) (slice_index args 1)
  call-answered since sys.Mprotect args =
      mprotect-answered (slice_index args 0) (slice_index args 1) (slice_index args 2)
  call-answered since sys.Time args = refl
  call-answered since sys.Sleep args = sleep-answered since (slice_index args 0)
  call-answered since sys.LwpCreate args =
      create-answered (slice_index args 0) (slice_index args 1) (slice_index args 2)
  call-answered since sys.LwpExit args = refl
  call-answered since sys.LwpSuspend args = suspend-answered (slice_index args 0)
  call-answered since sys.LwpContinue args = continue-answered (slice_index args 0)
  call-answered since sys.Fstat args = fstat-answered (slice_index args 0) (slice_index args 1)
  call-answered since sys.Sigqueue args =
      send-answered (slice_index args 0) (slice_index args 1) (queued_by pid (slice_index args 2))
      (life_of s (slice_index args 0))
