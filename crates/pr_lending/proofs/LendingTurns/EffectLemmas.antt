use Rattle.std.proofs.Common.{◌≡◌, ◌&&◌, ◌||◌, ◌+◌, ◌-◌, ◌*◌, ℕ, Bool, true, false, eqb, leb, ltb, not, cond, is_none, Option, Some, None, Result, Ok, Err, List, [], ◌∷◌, length, refl}
use Rattle.std.specs.List.{list_any, slice_get}
use Rattle.std.specs.Prelude.{slice_index}
use Rattle.pr_num.specs.Agents.{agent_id}
use Rattle.pr_num.specs.Control.{prot_read}
use Rattle.pr_num.specs.Infos.{killed_by, queued_by}
use Rattle.pr_num.specs.Layout.{heap_base, break_limit}
use Rattle.pr_num.specs.Limits.{last_lwp, lwp_limit, process_limit, sleep_limit, transfer_limit}
use Rattle.pr_num.specs.Programs.{Program, rounded}
use Rattle.pr_num.specs.Signals.{signal_of_number}
use Rattle.pr_num.specs.Spaces.{Space, bytes_for, first_space, mapped_size, mapping_limit}
use Rattle.pr_num.specs.Words.{word_bytes}
use Rattle.pr_num.specs.declared.errnos.Errno.{Errno}
use Rattle.pr_num.specs.declared.errnos.Errno.TheVariants.{Fault}
use Rattle.pr_num.specs.declared.infos.Info.{Info}
use Rattle.pr_num.specs.declared.mappings.BadByte.{BadByte}
use Rattle.pr_num.specs.declared.mappings.MappingKind.TheVariants.{Mapped}
use Rattle.pr_num.specs.declared.signals.Sig.{Sig}
use Rattle.pr_num.specs.declared.syscalls.Sysno.{Sysno}
use Rattle.pr_num.specs.declared.syscalls.Sysno.TheVariants as sys
use Rattle.pr_num.proofs.BoolLemmas.{either}
use Rattle.pr_parts.specs.AddressSpaces.{gap_in, has_range, with_break, with_bytes, with_mapping, zeros_at}
use Rattle.pr_parts.specs.FileCalls.{FileEffect, are_open_flags, closed, described, duplicated, open_for_reading, open_for_writing, opened, piped, sought}
use Rattle.pr_parts.specs.FileTransfers.{read_fd, write_fd}
use Rattle.pr_parts.specs.declared.files.FileNo.{FileNo}
use Rattle.pr_parts.specs.declared.files.FileNo.TheVariants as no
use Rattle.pr_parts.specs.declared.files.Stat.{Stat}
use Rattle.pr_model.specs.CallEffects.{call_effect}
use Rattle.pr_model.specs.Changes.{Effect, does, sleeps, ends, fails, gives, reaps, space_is}
use Rattle.pr_model.specs.FileCallRows.{close_effect, dup_effect, file_effect, fstat_effect, lseek_effect, open_effect, pipe_effect, read_effect, refusal_effect, word_size, write_effect}
use Rattle.pr_model.specs.LwpCalls.{can_be_named, lwp_continue_effect, lwp_create_effect, lwp_suspend_effect}
use Rattle.pr_model.specs.MemoryCalls.{brk_effect, can_write, is_mapped_range, mmap_effect, mprotect_effect, munmap_effect, path_at, prot_limit, unless_too_big}
use Rattle.pr_model.specs.ProcessCalls.{exec_effect, exit_effect, fork_effect, given_up, program_named, sleep_effect, vfork_effect, wait_effect}
use Rattle.pr_model.specs.Readers.{Children, all_live, children_of, first_zombie, life_of, no_child, size_of, total_has_room}
use Rattle.pr_model.specs.SignalCalls.{Sending, can_be_caught, refuses, send_effect, sending, sends, sends_nothing, sent_effect, sigaction_effect, sigmask_effect, sigreturn_effect}
use Rattle.pr_model.specs.Signals.{is_kill}
use Rattle.pr_model.specs.State.{TracedLwp, TracedProcess, TracedSystem}
use Rattle.pr_model.specs.declared.frames.Frame.{Frame}
use Rattle.pr_lawful.proofs.LawfulTurns.EffectLemmas.{IsActing, Suits as Suitable, call-suits}
use Rattle.pr_lawful.proofs.LawfulTurns.SuitingLemmas.{SuitsReaped}
use Rattle.pr_lending.proofs.ProcessLoans.BirthLemmas.{IsNextFree}
use Rattle.pr_lending.proofs.LendingTurns.ChangeLemmas.{SuitChanges}
use Rattle.pr_lending.proofs.ProcessLoans.LoanLemmas.{IsZombie}
use Rattle.pr_lending.proofs.ProcessLoans.PassLemmas.{Stands}

-- What a system call changes suits lent memory: a line a call.

module _ (s : TracedSystem) (pid : ℕ) (p : TracedProcess) (id : ℕ) (l : TracedLwp) (a : IsActing s pid p id l)
    (next : IsNextFree s pid) (stands : Stands s pid p) where
  unfoldable pub Suits : Effect → Type 0
  Suits (does result changes) = SuitChanges pid p id l s changes
  Suits sleeps = Unit {0}
  Suits (ends how) = Unit {0}

  -- one of two
  one-of : (b : Bool) (e f : Effect) → Suits e → Suits f → Suits (cond b e f)
  one-of b e f one other = either Suits b e f one other

  -- a call that is refused first by one test, and by two
  after-one : (b : Bool) (why : Errno) (e : Effect) → Suits e → Suits (cond b (fails why) e)
  unfolding Suits
  after-one b why e it = one-of b (fails why) e tt it

  after-two : (b c : Bool) (why other : Errno) (e : Effect) → Suits e
      → Suits (cond b (fails why) (cond c (fails other) e))
  after-two b c why other e it = after-one b why (cond c (fails other) e) (after-one c other e it)

  -- a call that does what it does if it can
  if-it-can : (b : Bool) (why : Errno) (e : Effect) → Suits e → Suits (cond b e (fails why))
  unfolding Suits
  if-it-can b why e it = one-of b e (fails why) it tt

  -- ---- memory

  big-suits : (value : ℕ) (space : Space) → Suits (unless_too_big s p value space)
  unfolding Suits
  big-suits value space =
      one-of (leb (mapped_size space) mapping_limit && total_has_room s (mapped_size space) (size_of p)) _ _ (tt, tt) tt

  brk-suits : (end : ℕ) → Suits (brk_effect s p end)
  unfolding brk_effect Suits
  brk-suits end = one-of (ltb end heap_base || ltb break_limit end) _ _ tt (big-suits 0 (with_break end p.space))

  mmap-suits : (len prot : ℕ) → Suits (mmap_effect s p len prot)
  unfolding mmap_effect Suits
  mmap-suits len prot = by (gap_in (rounded len) p.space) refl
    where
      by : (o : Option ℕ) → gap_in (rounded len) p.space ≡ o → Suits (mmap_effect s p len prot)
      by None is = rw is (one-of (eqb len 0 || (ltb mapping_limit len || ltb prot_limit prot)) _ _ tt tt)
      by (Some at) is =
          rw is (one-of (eqb len 0 || (ltb mapping_limit len || ltb prot_limit prot)) _ _ tt
          (big-suits at (with_mapping (zeros_at at (rounded len) prot Mapped) p.space)))

  munmap-suits : (at len : ℕ) → Suits (munmap_effect s p at len)
  unfolding munmap_effect Suits
  munmap-suits at len = one-of (list_any (is_mapped_range at (rounded len)) p.space) _ _ (tt, tt) tt

  mprotect-suits : (at len prot : ℕ) → Suits (mprotect_effect s p at len prot)
  unfolding mprotect_effect Suits
  mprotect-suits at len prot = one-of (has_range at (rounded len) p.space && leb prot prot_limit) _ _ (tt, tt) tt

  -- ---- files

  refusal-suits : (why : FileNo) → Suits (refusal_effect why)
  unfolding Suits
  refusal-suits no.NoReader = (tt, tt)
  refusal-suits _ = tt

  file-suits : (e : FileEffect ℕ) → Suits (file_effect e)
  unfolding file_effect Suits
  file-suits e = by e.answer refl
    where
      by : (r : Result ℕ FileNo) → e.answer ≡ r → Suits (file_effect e)
      by (Ok value) is = rw is (tt, tt)
      by (Err why) is = rw is (refusal-suits why)

  read-suits : (fd at size : ℕ) → Suits (read_effect s.files p.fds p.space fd at size)
  unfolding read_effect Suits
  read-suits fd at size = by (read_fd s.files p.fds fd size).bytes refl
    where
      by : (r : Result (List ℕ) FileNo) → (read_fd s.files p.fds fd size).bytes ≡ r
          → Suits (read_effect s.files p.fds p.space fd at size)
      by (Ok bytes) is =
          rw is (after-two (is_none (open_for_reading s.files p.fds fd)) (ltb transfer_limit size) _ _ _
          (if-it-can (can_write p.space at size) _ _ (tt, (tt, tt))))
      by (Err why) is =
          rw is (after-two (is_none (open_for_reading s.files p.fds fd)) (ltb transfer_limit size) _ _ _
          (if-it-can (can_write p.space at size) _ _ (refusal-suits why)))

  write-suits : (fd at size : ℕ) → Suits (write_effect s.files p.fds p.space fd at size)
  unfolding write_effect Suits
  write-suits fd at size = by (bytes_for prot_read p.space at size) refl
    where
      by : (r : Result (List ℕ) BadByte) → bytes_for prot_read p.space at size ≡ r
          → Suits (write_effect s.files p.fds p.space fd at size)
      by (Ok bytes) is =
          rw is (after-two (is_none (open_for_writing s.files p.fds fd)) (ltb transfer_limit size) _ _ _
          (file-suits (write_fd s.files p.fds fd bytes)))
      by (Err bad) is =
          rw is (after-two (is_none (open_for_writing s.files p.fds fd)) (ltb transfer_limit size) _ _ _ tt)

  open-suits : (at flags : ℕ) → Suits (open_effect s.files p.fds p.space at flags)
  unfolding open_effect Suits
  open-suits at flags = by (path_at p.space at) refl
    where
      by : (r : Result (List ℕ) Errno) → path_at p.space at ≡ r → Suits (open_effect s.files p.fds p.space at flags)
      by (Err e) is = rw is tt
      by (Ok name) is =
          rw is (if-it-can (are_open_flags flags) _ _ (file-suits (opened s.files p.fds name flags)))

  close-suits : (fd : ℕ) → Suits (close_effect s.files p.fds p.space fd)
  unfolding close_effect Suits
  close-suits fd = by (closed s.files p.fds fd).answer refl
    where
      by : (r : Result (Unit {0}) FileNo) → (closed s.files p.fds fd).answer ≡ r
          → Suits (close_effect s.files p.fds p.space fd)
      by (Ok done) is = rw is (tt, tt)
      by (Err why) is = rw is (refusal-suits why)

  pipe-suits : (at : ℕ) → Suits (pipe_effect s.files p.fds p.space at)
  unfolding pipe_effect Suits
  pipe-suits at = by (piped s.files p.fds).answer refl
    where
      by : (r : Result (ℕ × ℕ) FileNo) → (piped s.files p.fds).answer ≡ r → Suits (pipe_effect s.files p.fds p.space at)
      by (Ok both) is = rw is (if-it-can (can_write p.space at (2 * word_size)) _ _ (tt, (tt, tt)))
      by (Err why) is = rw is (if-it-can (can_write p.space at (2 * word_size)) _ _ (refusal-suits why))

  fstat-suits : (fd at : ℕ) → Suits (fstat_effect s.files p.fds p.space fd at)
  unfolding fstat_effect Suits
  fstat-suits fd at = by (described s.files p.fds fd) refl
    where
      by : (r : Result Stat FileNo) → described s.files p.fds fd ≡ r → Suits (fstat_effect s.files p.fds p.space fd at)
      by (Ok stat) is = rw is (if-it-can (can_write p.space at (3 * word_size)) _ _ (tt, tt))
      by (Err why) is = rw is (refusal-suits why)

  -- ---- processes

  -- a child is made last
  fork-suits : (args : List ℕ) → Suits (fork_effect s p id args)
  unfolding fork_effect Suits
  fork-suits args =
      after-two (eqb id agent_id) (leb process_limit s.made) _ _ _
      (if-it-can (total_has_room s (size_of p) 0) _ _ ((next, refl), tt))

  vfork-suits : (args : List ℕ) → Suits (vfork_effect s p id args)
  unfolding vfork_effect Suits
  vfork-suits args =
      after-two (eqb id agent_id || not (eqb (length p.lwps) 1)) (leb process_limit s.made) _ _ _ ((next, refl), tt)

  exec-suits : (at : ℕ) → Suits (exec_effect s p id at)
  unfolding exec_effect Suits
  exec-suits at = by (path_at p.space at) refl
    where
      run : (name : List ℕ) (o : Option Program) → path_at p.space at ≡ Ok name → program_named s.programs name ≡ o
          → Suits (exec_effect s p id at)
      run name None is found = rw (is, found) (after-one (eqb id agent_id) _ _ tt)
      run name (Some program) is found =
          rw (is, found) (after-one (eqb id agent_id) _ _
          (if-it-can (total_has_room s (mapped_size (first_space program)) (given_up s p id)) _ _ ((stands, refl), tt)))

      by : (r : Result (List ℕ) Errno) → path_at p.space at ≡ r → Suits (exec_effect s p id at)
      by (Err e) is = rw is (after-one (eqb id agent_id) _ _ tt)
      by (Ok name) is = run name (program_named s.programs name) is refl

  -- what is reaped is a zombie
  abbrev waited : ℕ → ℕ → ℕ → Bool → Bool → Effect
  waited child status at nowhere fits =
      cond nowhere (gives child (reaps child ∷ []))
      (cond fits (gives child (reaps child ∷ space_is (with_bytes at (word_bytes status) p.space) ∷ [])) (fails Fault))

  reaped-suits : (child status at : ℕ) → Suitable s pid p id l a (wait_effect p.space (first_zombie child status) at)
      → Suits (wait_effect p.space (first_zombie child status) at)
  unfolding wait_effect Suits Suitable
  reaped-suits child status at = by (eqb at 0) (can_write p.space at word_size)
    where
      zombie : SuitsReaped s child → IsZombie s child
      zombie it = record {
        rising = a.lawful.rising;
        zombie = it.zombie;
        status = it.status;
        found = it.found;
        over = it.over;
      }

      by : (b c : Bool) → Suitable s pid p id l a (waited child status at b c) → Suits (waited child status at b c)
      by true c it = (zombie it.0, tt)
      by false true it = (zombie it.0, (tt, tt))
      by false false it = tt

  wait-suits : (c : Children) (at : ℕ) → Suitable s pid p id l a (wait_effect p.space c at)
      → Suits (wait_effect p.space c at)
  unfolding wait_effect Suits
  wait-suits no_child at it = tt
  wait-suits all_live at it = tt
  wait-suits (first_zombie child status) at it = reaped-suits child status at it

  sleep-suits : (since time : ℕ) → Suits (sleep_effect s.clock since time)
  unfolding sleep_effect Suits
  sleep-suits since time =
      after-one (ltb sleep_limit time) _ _ (one-of (leb (since + time) s.clock) _ _ tt tt)

  -- ---- signals

  send-suits : (target number : ℕ) (info : Info) → Suits (send_effect pid target number info (life_of s target))
  unfolding send_effect sent_effect Suits
  send-suits target number info = by (sending target number (life_of s target))
    where
      by : (x : Sending) → Suits (sent_effect pid target info x)
      by (refuses e) = tt
      by sends_nothing = tt
      by (sends g) = one-of (is_kill g && eqb target pid) _ _ tt (tt, tt)

  sigaction-suits : (number disposition : ℕ) → Suits (sigaction_effect p.dispositions number disposition)
  unfolding sigaction_effect Suits
  sigaction-suits number disposition = by (signal_of_number number) refl
    where
      by : (o : Option Sig) → signal_of_number number ≡ o → Suits (sigaction_effect p.dispositions number disposition)
      by None is = rw is tt
      by (Some g) is = rw is (if-it-can (can_be_caught g) _ _ (tt, tt))

  sigreturn-suits : Suits (sigreturn_effect l.frames)
  unfolding sigreturn_effect Suits
  sigreturn-suits = by (slice_get l.frames (length l.frames - 1)) refl
    where
      by : (o : Option Frame) → slice_get l.frames (length l.frames - 1) ≡ o → Suits (sigreturn_effect l.frames)
      by None is = rw is tt
      by (Some frame) is = rw is (tt, tt)

  -- ---- lwps

  create-suits : (pc sp r1 : ℕ) → Suits (lwp_create_effect p id l.held pc sp r1)
  unfolding lwp_create_effect Suits
  create-suits pc sp r1 =
      after-two (eqb id agent_id) (leb lwp_limit (length p.lwps) || ltb last_lwp p.next_lwp) _ _ _ (tt, tt)

  suspend-suits : (other : ℕ) → Suits (lwp_suspend_effect p id other)
  unfolding lwp_suspend_effect Suits
  suspend-suits other = if-it-can (can_be_named p other) _ _ (after-one (eqb other id) _ _ (tt, tt))

  -- ---- the calls

  pub call-suits-loans : (since : ℕ) (call : Sysno) (args : List ℕ) → Suits (call_effect s pid p id l since call args)
  unfolding call_effect exit_effect dup_effect lseek_effect sigmask_effect lwp_continue_effect Suits
  call-suits-loans since sys.Exit args = tt
  call-suits-loans since sys.Fork args = fork-suits args
  call-suits-loans since sys.Read args = read-suits (slice_index args 0) (slice_index args 1) (slice_index args 2)
  call-suits-loans since sys.Write args = write-suits (slice_index args 0) (slice_index args 1) (slice_index args 2)
  call-suits-loans since sys.Open args = open-suits (slice_index args 0) (slice_index args 1)
  call-suits-loans since sys.Close args = close-suits (slice_index args 0)
  call-suits-loans since sys.Wait args =
      wait-suits (children_of s pid) (slice_index args 0) (call-suits s pid p id l a since sys.Wait args)
  call-suits-loans since sys.Getpid args = tt
  call-suits-loans since sys.Getppid args = tt
  call-suits-loans since sys.Exec args = exec-suits (slice_index args 0)
  call-suits-loans since sys.Pipe args = pipe-suits (slice_index args 0)
  call-suits-loans since sys.Dup args = file-suits (duplicated s.files p.fds (slice_index args 0))
  call-suits-loans since sys.Lseek args =
      file-suits (sought s.files p.fds (slice_index args 0) (slice_index args 1))
  call-suits-loans since sys.Kill args = send-suits (slice_index args 0) (slice_index args 1) (killed_by pid)
  call-suits-loans since sys.Sigaction args = sigaction-suits (slice_index args 0) (slice_index args 1)
  call-suits-loans since sys.Sigmask args = if-it-can (ltb (slice_index args 0) _) _ _ (tt, tt)
  call-suits-loans since sys.Pause args = tt
  call-suits-loans since sys.Sigreturn args = sigreturn-suits
  call-suits-loans since sys.Brk args = brk-suits (slice_index args 0)
  call-suits-loans since sys.Mmap args = mmap-suits (slice_index args 0) (slice_index args 1)
  call-suits-loans since sys.Munmap args = munmap-suits (slice_index args 0) (slice_index args 1)
  call-suits-loans since sys.Mprotect args =
      mprotect-suits (slice_index args 0) (slice_index args 1) (slice_index args 2)
  call-suits-loans since sys.Time args = tt
  call-suits-loans since sys.Sleep args = sleep-suits since (slice_index args 0)
  call-suits-loans since sys.LwpCreate args =
      create-suits (slice_index args 0) (slice_index args 1) (slice_index args 2)
  call-suits-loans since sys.LwpExit args = tt
  call-suits-loans since sys.LwpSuspend args = suspend-suits (slice_index args 0)
  call-suits-loans since sys.LwpContinue args = if-it-can (can_be_named p (slice_index args 0)) _ _ (tt, tt)
  call-suits-loans since sys.Fstat args = fstat-suits (slice_index args 0) (slice_index args 1)
  call-suits-loans since sys.Sigqueue args =
      send-suits (slice_index args 0) (slice_index args 1) (queued_by pid (slice_index args 2))
  call-suits-loans since sys.Vfork args = vfork-suits args
