use Rattle.std.proofs.Common.{◌≡◌, ◌&&◌, ◌||◌, ◌+◌, ◌-◌, ◌*◌, ℕ, Bool, true, false, eqb, leb, ltb, not, cond, is_none, Option, Some, None, Result, Ok, Err, List, [], ◌∷◌, length, refl}
use Rattle.std.specs.List.{list_any, slice_get}
use Rattle.std.specs.Prelude.{slice_index}
use Rattle.pr_num.specs.Agents.{agent_id}
use Rattle.pr_num.specs.Control.{prot_read}
use Rattle.pr_num.specs.Infos.{killed_by, queued_by}
use Rattle.pr_num.specs.Layout.{heap_base, break_limit}
use Rattle.pr_num.specs.Limits.{last_lwp, lwp_limit, process_limit, sleep_limit, transfer_limit}
use Rattle.pr_num.specs.Programs.{Program, rounded}
use Rattle.pr_num.specs.Signals.{signal_number, signal_of_number}
use Rattle.pr_num.specs.Spaces.{Space, bytes_for, first_space, mapped_size, mapping_limit}
use Rattle.pr_num.specs.Words.{word_bytes}
use Rattle.pr_num.specs.declared.errnos.Errno.{Errno}
use Rattle.pr_num.specs.declared.errnos.Errno.TheVariants.{Fault}
use Rattle.pr_num.specs.declared.infos.Info.{Info}
use Rattle.pr_num.specs.declared.mappings.BadByte.{BadByte}
use Rattle.pr_num.specs.declared.mappings.MappingKind.TheVariants.{Mapped}
use Rattle.pr_num.specs.declared.signals.Sig.{Sig}
use Rattle.pr_num.specs.declared.syscalls.Sysno.{Sysno}
use Rattle.pr_num.specs.declared.syscalls.Sysno.TheVariants as sys
use Rattle.pr_num.proofs.BoolLemmas.{either}
use Rattle.pr_hidden.specs.Covers.{Covers}
use Rattle.pr_hidden.specs.Following.{IsReturnable, MayEnd}
use Rattle.pr_hidden.specs.Tidiness.{AreTidyChanges}
use Rattle.pr_parts.specs.AddressSpaces.{gap_in, has_range, with_break, with_bytes, with_mapping, zeros_at}
use Rattle.pr_parts.specs.FileCalls.{FileEffect, are_open_flags, closed, described, duplicated, open_for_reading, open_for_writing, opened, piped, sought}
use Rattle.pr_parts.specs.FileTransfers.{read_fd, write_fd}
use Rattle.pr_parts.specs.declared.files.FileNo.{FileNo}
use Rattle.pr_parts.specs.declared.files.FileNo.TheVariants as no
use Rattle.pr_parts.specs.declared.files.Stat.{Stat}
use Rattle.pr_model.specs.CallEffects.{call_effect}
use Rattle.pr_model.specs.Changes.{Effect, does, sleeps, ends, ends_process, fails, gives, reaps, signals, space_is}
use Rattle.pr_model.specs.FileCallRows.{close_effect, dup_effect, file_effect, fstat_effect, lseek_effect, open_effect, pipe_effect, read_effect, refusal_effect, word_size, write_effect}
use Rattle.pr_model.specs.LwpCalls.{can_be_named, lwp_continue_effect, lwp_create_effect, lwp_suspend_effect}
use Rattle.pr_model.specs.MemoryCalls.{brk_effect, can_write, is_mapped_range, mmap_effect, mprotect_effect, munmap_effect, path_at, prot_limit, unless_too_big}
use Rattle.pr_model.specs.ProcessCalls.{exec_effect, exit_effect, fork_effect, given_up, program_named, sleep_effect, vfork_effect, wait_effect}
use Rattle.pr_model.specs.Readers.{Children, all_live, children_of, first_zombie, life_of, no_child, size_of, total_has_room}
use Rattle.pr_model.specs.SignalCalls.{Sending, can_be_caught, refuses, send_effect, sending, sends, sends_nothing, sent_effect, sigaction_effect, sigmask_effect, sigreturn_effect}
use Rattle.pr_model.specs.Signals.{is_kill}
use Rattle.pr_model.specs.State.{TracedLwp, TracedProcess, TracedSystem}
use Rattle.pr_model.specs.declared.frames.Frame.{Frame}

-- What a system call changes is tidy, where nothing is written over in its process, if it is one that copies or
-- replaces the memory: a line a call.

-- a call that copies the memory of its process, or replaces it
abbrev pub IsCopying : Sysno → Type 0
IsCopying sys.Fork = Unit {0}
IsCopying sys.Vfork = Unit {0}
IsCopying sys.Exec = Unit {0}
IsCopying call = ⊥

module _ (covers : Covers) (s : TracedSystem) (pid : ℕ) (p : TracedProcess) (id : ℕ) (l : TracedLwp)
    (back : IsReturnable covers pid p) (Does : Effect → Type 0)
    (kills : (target : ℕ) (g : Sig) (info : Info) → is_kill g ≡ true → (is_kill g && eqb target pid) ≡ false
    → Does (gives 0 (signals target g info ∷ [])) → MayEnd covers s target) where
  unfoldable pub IsTidyEffect : Effect → Type 0
  IsTidyEffect (does result changes) = AreTidyChanges covers pid p id l changes s
  IsTidyEffect sleeps = Unit {0}
  IsTidyEffect (ends how) = Unit {0}

  -- one of two
  one-of : (b : Bool) (e f : Effect) → IsTidyEffect e → IsTidyEffect f → IsTidyEffect (cond b e f)
  one-of b e f one other = either IsTidyEffect b e f one other

  -- a call that is refused first by one test, and by two
  after-one : (b : Bool) (why : Errno) (e : Effect) → IsTidyEffect e → IsTidyEffect (cond b (fails why) e)
  unfolding IsTidyEffect
  after-one b why e it = one-of b (fails why) e tt it

  after-two : (b c : Bool) (why other : Errno) (e : Effect) → IsTidyEffect e
      → IsTidyEffect (cond b (fails why) (cond c (fails other) e))
  after-two b c why other e it = after-one b why (cond c (fails other) e) (after-one c other e it)

  -- a call that does what it does if it can
  if-it-can : (b : Bool) (why : Errno) (e : Effect) → IsTidyEffect e → IsTidyEffect (cond b e (fails why))
  unfolding IsTidyEffect
  if-it-can b why e it = one-of b e (fails why) it tt

  -- ---- memory

  big-tidy : (value : ℕ) (space : Space) → IsTidyEffect (unless_too_big s p value space)
  unfolding IsTidyEffect
  big-tidy value space =
      one-of (leb (mapped_size space) mapping_limit && total_has_room s (mapped_size space) (size_of p)) _ _ (tt, tt) tt

  brk-tidy : (end : ℕ) → IsTidyEffect (brk_effect s p end)
  unfolding brk_effect IsTidyEffect
  brk-tidy end = one-of (ltb end heap_base || ltb break_limit end) _ _ tt (big-tidy 0 (with_break end p.space))

  mmap-tidy : (len prot : ℕ) → IsTidyEffect (mmap_effect s p len prot)
  unfolding mmap_effect IsTidyEffect
  mmap-tidy len prot = by (gap_in (rounded len) p.space) refl
    where
      by : (o : Option ℕ) → gap_in (rounded len) p.space ≡ o → IsTidyEffect (mmap_effect s p len prot)
      by None is = rw is (one-of (eqb len 0 || (ltb mapping_limit len || ltb prot_limit prot)) _ _ tt tt)
      by (Some at) is =
          rw is (one-of (eqb len 0 || (ltb mapping_limit len || ltb prot_limit prot)) _ _ tt
          (big-tidy at (with_mapping (zeros_at at (rounded len) prot Mapped) p.space)))

  munmap-tidy : (at len : ℕ) → IsTidyEffect (munmap_effect s p at len)
  unfolding munmap_effect IsTidyEffect
  munmap-tidy at len = one-of (list_any (is_mapped_range at (rounded len)) p.space) _ _ (tt, tt) tt

  mprotect-tidy : (at len prot : ℕ) → IsTidyEffect (mprotect_effect s p at len prot)
  unfolding mprotect_effect IsTidyEffect
  mprotect-tidy at len prot = one-of (has_range at (rounded len) p.space && leb prot prot_limit) _ _ (tt, tt) tt

  -- ---- files

  refusal-tidy : (why : FileNo) → IsTidyEffect (refusal_effect why)
  unfolding IsTidyEffect
  refusal-tidy no.NoReader = (tt, tt)
  refusal-tidy _ = tt

  file-tidy : (e : FileEffect ℕ) → IsTidyEffect (file_effect e)
  unfolding file_effect IsTidyEffect
  file-tidy e = by e.answer refl
    where
      by : (r : Result ℕ FileNo) → e.answer ≡ r → IsTidyEffect (file_effect e)
      by (Ok value) is = rw is (tt, tt)
      by (Err why) is = rw is (refusal-tidy why)

  read-tidy : (fd at size : ℕ) → IsTidyEffect (read_effect s.files p.fds p.space fd at size)
  unfolding read_effect IsTidyEffect
  read-tidy fd at size = by (read_fd s.files p.fds fd size).bytes refl
    where
      by : (r : Result (List ℕ) FileNo) → (read_fd s.files p.fds fd size).bytes ≡ r
          → IsTidyEffect (read_effect s.files p.fds p.space fd at size)
      by (Ok bytes) is =
          rw is (after-two (is_none (open_for_reading s.files p.fds fd)) (ltb transfer_limit size) _ _ _
          (if-it-can (can_write p.space at size) _ _ (tt, (tt, tt))))
      by (Err why) is =
          rw is (after-two (is_none (open_for_reading s.files p.fds fd)) (ltb transfer_limit size) _ _ _
          (if-it-can (can_write p.space at size) _ _ (refusal-tidy why)))

  write-tidy : (fd at size : ℕ) → IsTidyEffect (write_effect s.files p.fds p.space fd at size)
  unfolding write_effect IsTidyEffect
  write-tidy fd at size = by (bytes_for prot_read p.space at size) refl
    where
      by : (r : Result (List ℕ) BadByte) → bytes_for prot_read p.space at size ≡ r
          → IsTidyEffect (write_effect s.files p.fds p.space fd at size)
      by (Ok bytes) is =
          rw is (after-two (is_none (open_for_writing s.files p.fds fd)) (ltb transfer_limit size) _ _ _
          (file-tidy (write_fd s.files p.fds fd bytes)))
      by (Err bad) is =
          rw is (after-two (is_none (open_for_writing s.files p.fds fd)) (ltb transfer_limit size) _ _ _ tt)

  open-tidy : (at flags : ℕ) → IsTidyEffect (open_effect s.files p.fds p.space at flags)
  unfolding open_effect IsTidyEffect
  open-tidy at flags = by (path_at p.space at) refl
    where
      by : (r : Result (List ℕ) Errno) → path_at p.space at ≡ r
          → IsTidyEffect (open_effect s.files p.fds p.space at flags)
      by (Err e) is = rw is tt
      by (Ok name) is =
          rw is (if-it-can (are_open_flags flags) _ _ (file-tidy (opened s.files p.fds name flags)))

  close-tidy : (fd : ℕ) → IsTidyEffect (close_effect s.files p.fds p.space fd)
  unfolding close_effect IsTidyEffect
  close-tidy fd = by (closed s.files p.fds fd).answer refl
    where
      by : (r : Result (Unit {0}) FileNo) → (closed s.files p.fds fd).answer ≡ r
          → IsTidyEffect (close_effect s.files p.fds p.space fd)
      by (Ok done) is = rw is (tt, tt)
      by (Err why) is = rw is (refusal-tidy why)

  pipe-tidy : (at : ℕ) → IsTidyEffect (pipe_effect s.files p.fds p.space at)
  unfolding pipe_effect IsTidyEffect
  pipe-tidy at = by (piped s.files p.fds).answer refl
    where
      by : (r : Result (ℕ × ℕ) FileNo) → (piped s.files p.fds).answer ≡ r
          → IsTidyEffect (pipe_effect s.files p.fds p.space at)
      by (Ok both) is = rw is (if-it-can (can_write p.space at (2 * word_size)) _ _ (tt, (tt, tt)))
      by (Err why) is = rw is (if-it-can (can_write p.space at (2 * word_size)) _ _ (refusal-tidy why))

  fstat-tidy : (fd at : ℕ) → IsTidyEffect (fstat_effect s.files p.fds p.space fd at)
  unfolding fstat_effect IsTidyEffect
  fstat-tidy fd at = by (described s.files p.fds fd) refl
    where
      by : (r : Result Stat FileNo) → described s.files p.fds fd ≡ r
          → IsTidyEffect (fstat_effect s.files p.fds p.space fd at)
      by (Ok stat) is = rw is (if-it-can (can_write p.space at (3 * word_size)) _ _ (tt, tt))
      by (Err why) is = rw is (refusal-tidy why)

  -- ---- processes

  -- a child is made last
  fork-tidy : (covers pid).patches ≡ [] → (args : List ℕ) → IsTidyEffect (fork_effect s p id args)
  unfolding fork_effect IsTidyEffect
  fork-tidy bare args =
      after-two (eqb id agent_id) (leb process_limit s.made) _ _ _
      (if-it-can (total_has_room s (size_of p) 0) _ _ (bare, tt))

  vfork-tidy : (covers pid).patches ≡ [] → (args : List ℕ) → IsTidyEffect (vfork_effect s p id args)
  unfolding vfork_effect IsTidyEffect
  vfork-tidy bare args =
      after-two (eqb id agent_id || not (eqb (length p.lwps) 1)) (leb process_limit s.made) _ _ _ (bare, tt)

  exec-tidy : (covers pid).patches ≡ [] → (at : ℕ) → IsTidyEffect (exec_effect s p id at)
  unfolding exec_effect IsTidyEffect
  exec-tidy bare at = by (path_at p.space at) refl
    where
      run : (name : List ℕ) (o : Option Program) → path_at p.space at ≡ Ok name → program_named s.programs name ≡ o
          → IsTidyEffect (exec_effect s p id at)
      run name None is found = rw (is, found) (after-one (eqb id agent_id) _ _ tt)
      run name (Some program) is found =
          rw (is, found) (after-one (eqb id agent_id) _ _
          (if-it-can (total_has_room s (mapped_size (first_space program)) (given_up s p id)) _ _ ((bare, back), tt)))

      by : (r : Result (List ℕ) Errno) → path_at p.space at ≡ r → IsTidyEffect (exec_effect s p id at)
      by (Err e) is = rw is (after-one (eqb id agent_id) _ _ tt)
      by (Ok name) is = run name (program_named s.programs name) is refl

  -- what is reaped is a zombie
  abbrev waited : ℕ → ℕ → ℕ → Bool → Bool → Effect
  waited child status at nowhere fits =
      cond nowhere (gives child (reaps child ∷ []))
      (cond fits (gives child (reaps child ∷ space_is (with_bytes at (word_bytes status) p.space) ∷ [])) (fails Fault))

  wait-tidy : (c : Children) (at : ℕ) → IsTidyEffect (wait_effect p.space c at)
  unfolding wait_effect IsTidyEffect
  wait-tidy no_child at = tt
  wait-tidy all_live at = tt
  wait-tidy (first_zombie child status) at = by (eqb at 0) (can_write p.space at word_size)
    where
      by : (b c : Bool) → IsTidyEffect (waited child status at b c)
      by true c = (tt, tt)
      by false true = (tt, (tt, tt))
      by false false = tt

  sleep-tidy : (since time : ℕ) → IsTidyEffect (sleep_effect s.clock since time)
  unfolding sleep_effect IsTidyEffect
  sleep-tidy since time =
      after-one (ltb sleep_limit time) _ _ (one-of (leb (since + time) s.clock) _ _ tt tt)

  -- ---- signals

  -- one that kills another process does just that
  send-tidy : (target number : ℕ) (info : Info) → Does (send_effect pid target number info (life_of s target))
      → IsTidyEffect (send_effect pid target number info (life_of s target))
  unfolding send_effect sent_effect IsTidyEffect
  send-tidy target number info = by (sending target number (life_of s target))
    where
      of : (g : Sig) (b : Bool) → (is_kill g && eqb target pid) ≡ b
          → Does (cond b (ends (ends_process (signal_number g))) (gives 0 (signals target g info ∷ [])))
          → IsTidyEffect (cond b (ends (ends_process (signal_number g))) (gives 0 (signals target g info ∷ [])))
      of g true own doing = tt
      of g false other doing = ((λ deadly. kills target g info deadly other doing), tt)

      by : (x : Sending) → Does (sent_effect pid target info x) → IsTidyEffect (sent_effect pid target info x)
      by (refuses e) doing = tt
      by sends_nothing doing = tt
      by (sends g) doing = of g (is_kill g && eqb target pid) refl doing

  sigaction-tidy : (number disposition : ℕ) → IsTidyEffect (sigaction_effect p.dispositions number disposition)
  unfolding sigaction_effect IsTidyEffect
  sigaction-tidy number disposition = by (signal_of_number number) refl
    where
      by : (o : Option Sig) → signal_of_number number ≡ o → IsTidyEffect
          (sigaction_effect p.dispositions number disposition)
      by None is = rw is tt
      by (Some g) is = rw is (if-it-can (can_be_caught g) _ _ (tt, tt))

  sigreturn-tidy : IsTidyEffect (sigreturn_effect l.frames)
  unfolding sigreturn_effect IsTidyEffect
  sigreturn-tidy = by (slice_get l.frames (length l.frames - 1)) refl
    where
      by : (o : Option Frame) → slice_get l.frames (length l.frames - 1) ≡ o → IsTidyEffect (sigreturn_effect l.frames)
      by None is = rw is tt
      by (Some frame) is = rw is (tt, tt)

  -- ---- lwps

  create-tidy : (pc sp r1 : ℕ) → IsTidyEffect (lwp_create_effect p id l.held pc sp r1)
  unfolding lwp_create_effect IsTidyEffect
  create-tidy pc sp r1 =
      after-two (eqb id agent_id) (leb lwp_limit (length p.lwps) || ltb last_lwp p.next_lwp) _ _ _ (tt, tt)

  suspend-tidy : (other : ℕ) → IsTidyEffect (lwp_suspend_effect p id other)
  unfolding lwp_suspend_effect IsTidyEffect
  suspend-tidy other = if-it-can (can_be_named p other) _ _ (after-one (eqb other id) _ _ (tt, tt))

  -- ---- the calls

  pub call-tidy : (since : ℕ) (call : Sysno) (args : List ℕ) → (IsCopying call → (covers pid).patches ≡ [])
      → Does (call_effect s pid p id l since call args) → IsTidyEffect (call_effect s pid p id l since call args)
  unfolding call_effect exit_effect dup_effect lseek_effect sigmask_effect lwp_continue_effect IsTidyEffect
  call-tidy since sys.Exit args bare doing = tt
  call-tidy since sys.Fork args bare doing = fork-tidy (bare tt) args
  call-tidy since sys.Read args bare doing = read-tidy (slice_index args 0) (slice_index args 1) (slice_index args 2)
  call-tidy since sys.Write args bare doing = write-tidy (slice_index args 0) (slice_index args 1) (slice_index args 2)
  call-tidy since sys.Open args bare doing = open-tidy (slice_index args 0) (slice_index args 1)
  call-tidy since sys.Close args bare doing = close-tidy (slice_index args 0)
  call-tidy since sys.Wait args bare doing =
      wait-tidy (children_of s pid) (slice_index args 0)
  call-tidy since sys.Getpid args bare doing = tt
  call-tidy since sys.Getppid args bare doing = tt
  call-tidy since sys.Exec args bare doing = exec-tidy (bare tt) (slice_index args 0)
  call-tidy since sys.Pipe args bare doing = pipe-tidy (slice_index args 0)
  call-tidy since sys.Dup args bare doing = file-tidy (duplicated s.files p.fds (slice_index args 0))
  call-tidy since sys.Lseek args bare doing =
      file-tidy (sought s.files p.fds (slice_index args 0) (slice_index args 1))
  call-tidy since sys.Kill args bare doing = send-tidy (slice_index args 0) (slice_index args 1) (killed_by pid) doing
  call-tidy since sys.Sigaction args bare doing = sigaction-tidy (slice_index args 0) (slice_index args 1)
  call-tidy since sys.Sigmask args bare doing = if-it-can (ltb (slice_index args 0) _) _ _ (tt, tt)
  call-tidy since sys.Pause args bare doing = tt
  call-tidy since sys.Sigreturn args bare doing = sigreturn-tidy
  call-tidy since sys.Brk args bare doing = brk-tidy (slice_index args 0)
  call-tidy since sys.Mmap args bare doing = mmap-tidy (slice_index args 0) (slice_index args 1)
  call-tidy since sys.Munmap args bare doing = munmap-tidy (slice_index args 0) (slice_index args 1)
  call-tidy since sys.Mprotect args bare doing =
      mprotect-tidy (slice_index args 0) (slice_index args 1) (slice_index args 2)
  call-tidy since sys.Time args bare doing = tt
  call-tidy since sys.Sleep args bare doing = sleep-tidy since (slice_index args 0)
  call-tidy since sys.LwpCreate args bare doing =
      create-tidy (slice_index args 0) (slice_index args 1) (slice_index args 2)
  call-tidy since sys.LwpExit args bare doing = tt
  call-tidy since sys.LwpSuspend args bare doing = suspend-tidy (slice_index args 0)
  call-tidy since sys.LwpContinue args bare doing = if-it-can (can_be_named p (slice_index args 0)) _ _ (tt, tt)
  call-tidy since sys.Fstat args bare doing = fstat-tidy (slice_index args 0) (slice_index args 1)
  call-tidy since sys.Sigqueue args bare doing =
      send-tidy (slice_index args 0) (slice_index args 1) (queued_by pid (slice_index args 2)) doing
  call-tidy since sys.Vfork args bare doing = vfork-tidy (bare tt) args
