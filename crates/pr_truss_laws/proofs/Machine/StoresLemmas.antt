use Rattle.std.proofs.Common.{◌≡◌, ◌&&◌, ◌||◌, ℕ, ◌+◌, ◌*◌, Bool, true, false, not, is_none, eqb, ltb, leb, cond, Option, Some, None, Result, Ok, Err, List, ◌∷◌, length, refl, []}
use Rattle.std.specs.List.{list_any, slice_get}
use Rattle.std.specs.Prelude.{◌-◌, slice_index}
use Rattle.pr_num.specs.Agents.{agent_id}
use Rattle.pr_num.specs.Control.{prot_read}
use Rattle.pr_num.specs.Files.{FileTable, Descriptors}
use Rattle.pr_num.specs.Infos.{killed_by, queued_by}
use Rattle.pr_num.specs.Layout.{heap_base, break_limit}
use Rattle.pr_num.specs.Limits.{frame_limit, last_lwp, lwp_limit, process_limit, sleep_limit, transfer_limit}
use Rattle.pr_num.specs.Programs.{Program, rounded}
use Rattle.pr_num.specs.Signals.{signal_of_number}
use Rattle.pr_num.specs.Spaces.{Space, bytes_for, first_space, mapped_size, mapping_limit}
use Rattle.pr_num.specs.declared.errnos.Errno.{Errno}
use Rattle.pr_num.specs.declared.infos.Info.{Info}
use Rattle.pr_num.specs.declared.mappings.BadByte.{BadByte}
use Rattle.pr_num.specs.declared.mappings.MappingKind.TheVariants.{Mapped}
use Rattle.pr_num.specs.declared.signals.Sig.{Sig}
use Rattle.pr_num.specs.declared.syscalls.Sysno.{Sysno}
use Rattle.pr_num.specs.declared.syscalls.Sysno.TheVariants as sys
use Rattle.pr_parts.specs.AddressSpaces.{gap_in, has_range, with_break, with_mapping, zeros_at}
use Rattle.pr_parts.specs.FileCalls.{FileEffect, are_open_flags, closed, described, open_for_reading, open_for_writing, piped}
use Rattle.pr_parts.specs.FileTransfers.{read_fd}
use Rattle.pr_parts.specs.declared.files.FileNo.{FileNo}
use Rattle.pr_parts.specs.declared.files.FileNo.TheVariants.{Sleep}
use Rattle.pr_parts.specs.declared.files.Stat.{Stat}
use Rattle.pr_lawful.proofs.ProcessParts.FileLemmas.{choice}
use Rattle.pr_keeps.specs.RowKinds as kind
use Rattle.pr_keeps.specs.RowKinds.{RowKind}
use Rattle.pr_keeps.proofs.RowLemmas.{row-kind}
use Rattle.pr_model.specs.CallEffects.{call_effect}
use Rattle.pr_model.specs.Changes.{Change, space_is, forks, Effect, does, sleeps, ends}
use Rattle.pr_model.specs.FileCallRows.{read_effect, write_effect, open_effect, close_effect, pipe_effect, fstat_effect, dup_effect, lseek_effect, refusal_effect, file_effect, word_size}
use Rattle.pr_model.specs.InstructionEffects.{InstructionEffect, Store, instruction_effect}
use Rattle.pr_model.specs.InstructionEffects as instruction
use Rattle.pr_model.specs.Lives.{by_vfork}
use Rattle.pr_model.specs.LwpCalls.{lwp_create_effect, lwp_suspend_effect, lwp_continue_effect, can_be_named}
use Rattle.pr_model.specs.MemoryCalls.{can_write, path_at, brk_effect, mmap_effect, munmap_effect, mprotect_effect, unless_too_big, is_mapped_range, prot_limit}
use Rattle.pr_model.specs.ProcessCalls.{exit_effect, fork_effect, vfork_effect, given_up, wait_effect, exec_effect, sleep_effect, program_named}
use Rattle.pr_model.specs.Readers.{Life, Children, no_child, all_live, first_zombie, children_of, life_of, size_of, total_has_room}
use Rattle.pr_model.specs.Rows.{Row, requested_row, posted_row, returned_row, ran_row, entered_row, incurred_row, watched_row, executed_row, own_taken_row, shared_taken_row, handler_row, interrupted_row, performed_row, row_for}
use Rattle.pr_model.specs.SignalCalls.{Sending, refuses, sends_nothing, sends, sending, sent_effect, send_effect, can_be_caught, sigaction_effect, sigmask_effect, sigreturn_effect}
use Rattle.pr_model.specs.Signals.{is_kill}
use Rattle.pr_model.specs.State.{TracedLwp, TracedProcess, TracedSystem}
use Rattle.pr_model.specs.Transitions.{Transition, stored_in, requested, posted, returned, ran, entered, incurred, trapped, own_taken, shared_taken, handled, dropped, job_stopped, died, interrupted, performed}
use Rattle.pr_model.specs.declared.events.Did.{Did}
use Rattle.pr_model.specs.declared.events.Did.TheVariants.{Made, Woke}
use Rattle.pr_model.specs.declared.frames.Frame.{Frame}
use Rattle.pr_model.specs.declared.lwps.Current.{Current}

-- A turn makes one change, and after it at most stores bytes in the memory of its process. Only vfork(2) lends memory.

-- whether a change lends no memory, where none may be lent
abbrev pub may_lend : Bool → Change → Bool
may_lend lends (forks by_vfork args) = lends
may_lend lends _ = true

-- whether a list of changes is of this form
abbrev pub stores_after : Bool → List Change → Bool
stores_after lends [] = true
stores_after lends (c ∷ []) = may_lend lends c
stores_after lends (c ∷ space_is space ∷ []) = may_lend lends c
stores_after lends _ = false

abbrev stores_in : Bool → Effect → Bool
stores_in lends (does result changes) = stores_after lends changes
stores_in lends sleeps = true
stores_in lends (ends how) = true

-- whether a call may lend memory, and a turn that did this
abbrev pub is_lending_call : Sysno → Bool
is_lending_call sys.Vfork = true
is_lending_call _ = false

abbrev pub may_have_lent : Did → Bool
may_have_lent (Made call result) = is_lending_call call
may_have_lent (Woke call result) = is_lending_call call
may_have_lent _ = false

-- whether the changes of a row are of this form, and lend memory only where what it did may have
abbrev pub stores_by : Row → Bool
stores_by row = stores_after (may_have_lent row.did) row.transition.changes

-- ---- the calls

abbrev Stores : Effect → Type 0
Stores e = stores_in false e ≡ true

either : (b : Bool) (x y : Effect) → Stores x → Stores y → Stores (cond b x y)
either true x y one other = one
either false x y one other = other

refusal-stores : (why : FileNo) → Stores (refusal_effect why)
refusal-stores Sleep = refl
refusal-stores _ = refl

file-stores : (e : FileEffect ℕ) → Stores (file_effect e)
unfolding file_effect
file-stores e = by e.answer refl
  where
    by : (r : Result ℕ FileNo) → e.answer ≡ r → Stores (file_effect e)
    by (Ok value) is = rw is refl
    by (Err why) is = rw is (refusal-stores why)

module _ (t : FileTable) (fds : Descriptors) (space : Space) where
  read-stores : (fd at size : ℕ) → Stores (read_effect t fds space fd at size)
  unfolding read_effect
  read-stores fd at size = by (read_fd t fds fd size).bytes refl
    where
      by : (r : Result (List ℕ) FileNo) → (read_fd t fds fd size).bytes ≡ r
          → Stores (read_effect t fds space fd at size)
      by (Ok bytes) is =
          rw is (either (is_none (open_for_reading t fds fd)) _ _ refl
          (either (ltb transfer_limit size) _ _ refl (either (can_write space at size) _ _ refl refl)))
      by (Err why) is =
          rw is (either (is_none (open_for_reading t fds fd)) _ _ refl
          (either (ltb transfer_limit size) _ _ refl
          (either (can_write space at size) _ _ (refusal-stores why) refl)))

  write-stores : (fd at size : ℕ) → Stores (write_effect t fds space fd at size)
  unfolding write_effect
  write-stores fd at size = by (bytes_for prot_read space at size) refl
    where
      by : (r : Result (List ℕ) BadByte) → bytes_for prot_read space at size ≡ r
          → Stores (write_effect t fds space fd at size)
      by (Ok bytes) is =
          rw is (either (is_none (open_for_writing t fds fd)) _ _ refl
          (either (ltb transfer_limit size) _ _ refl (file-stores _)))
      by (Err bad) is =
          rw is (either (is_none (open_for_writing t fds fd)) _ _ refl (either (ltb transfer_limit size) _ _ refl refl))

  open-stores : (at flags : ℕ) → Stores (open_effect t fds space at flags)
  unfolding open_effect
  open-stores at flags = by (path_at space at) refl
    where
      by : (r : Result (List ℕ) Errno) → path_at space at ≡ r → Stores (open_effect t fds space at flags)
      by (Err e) is = rw is refl
      by (Ok name) is = rw is (either (are_open_flags flags) _ _ (file-stores _) refl)

  close-stores : (fd : ℕ) → Stores (close_effect t fds space fd)
  unfolding close_effect
  close-stores fd = by (closed t fds fd).answer refl
    where
      by : (r : Result (Unit {0}) FileNo) → (closed t fds fd).answer ≡ r → Stores (close_effect t fds space fd)
      by (Ok done) is = rw is refl
      by (Err why) is = rw is (refusal-stores why)

  pipe-stores : (at : ℕ) → Stores (pipe_effect t fds space at)
  unfolding pipe_effect
  pipe-stores at = by (piped t fds).answer refl
    where
      by : (r : Result (ℕ × ℕ) FileNo) → (piped t fds).answer ≡ r → Stores (pipe_effect t fds space at)
      by (Ok both) is = rw is (either (can_write space at (2 * word_size)) _ _ refl refl)
      by (Err why) is = rw is (either (can_write space at (2 * word_size)) _ _ (refusal-stores why) refl)

  fstat-stores : (fd at : ℕ) → Stores (fstat_effect t fds space fd at)
  unfolding fstat_effect
  fstat-stores fd at = by (described t fds fd) refl
    where
      by : (r : Result Stat FileNo) → described t fds fd ≡ r → Stores (fstat_effect t fds space fd at)
      by (Ok stat) is = rw is (either (can_write space at (3 * word_size)) _ _ refl refl)
      by (Err why) is = rw is (refusal-stores why)

wait-stores : (space : Space) (c : Children) (at : ℕ) → Stores (wait_effect space c at)
unfolding wait_effect
wait-stores space no_child at = refl
wait-stores space all_live at = refl
wait-stores space (first_zombie child status) at =
    either (eqb at 0) _ _ refl (either (can_write space at word_size) _ _ refl refl)

send-stores : (own target number : ℕ) (info : Info) (life : Life) → Stores (send_effect own target number info life)
unfolding send_effect sent_effect
send-stores own target number info life = by (sending target number life)
  where
    by : (x : Sending) → Stores (sent_effect own target info x)
    by (refuses e) = refl
    by sends_nothing = refl
    by (sends g) = either (is_kill g && eqb target own) _ _ refl refl

sigaction-stores : (dispositions : List ℕ) (number disposition : ℕ)
    → Stores (sigaction_effect dispositions number disposition)
unfolding sigaction_effect
sigaction-stores dispositions number disposition = by (signal_of_number number) refl
  where
    by : (o : Option Sig) → signal_of_number number ≡ o → Stores (sigaction_effect dispositions number disposition)
    by None is = rw is refl
    by (Some g) is = rw is (either (can_be_caught g) _ _ refl refl)

sigreturn-stores : (frames : List Frame) → Stores (sigreturn_effect frames)
unfolding sigreturn_effect
sigreturn-stores frames = by (slice_get frames (length frames - 1)) refl
  where
    by : (o : Option Frame) → slice_get frames (length frames - 1) ≡ o → Stores (sigreturn_effect frames)
    by None is = rw is refl
    by (Some frame) is = rw is refl

module _ (s : TracedSystem) (p : TracedProcess) (id : ℕ) where
  exec-stores : (at : ℕ) → Stores (exec_effect s p id at)
  unfolding exec_effect
  exec-stores at = by (path_at p.space at) refl
    where
      named : (name : List ℕ) (o : Option Program) → path_at p.space at ≡ Ok name → program_named s.programs name ≡ o
          → Stores (exec_effect s p id at)
      named name None is found = rw (is, found) (either (eqb id agent_id) _ _ refl refl)
      named name (Some program) is found =
          rw (is, found)
          (either (eqb id agent_id) _ _ refl
          (either (total_has_room s (mapped_size (first_space program)) (given_up s p id)) _ _ refl refl))

      by : (r : Result (List ℕ) Errno) → path_at p.space at ≡ r → Stores (exec_effect s p id at)
      by (Err e) is = rw is (either (eqb id agent_id) _ _ refl refl)
      by (Ok name) is = named name (program_named s.programs name) is refl

  big-stores : (value : ℕ) (space : Space) → Stores (unless_too_big s p value space)
  big-stores value space =
      either (leb (mapped_size space) mapping_limit && total_has_room s (mapped_size space) (size_of p)) _ _ refl refl

  mmap-stores : (len prot : ℕ) → Stores (mmap_effect s p len prot)
  unfolding mmap_effect
  mmap-stores len prot = by (gap_in (rounded len) p.space) refl
    where
      by : (o : Option ℕ) → gap_in (rounded len) p.space ≡ o → Stores (mmap_effect s p len prot)
      by None is = rw is (either (eqb len 0 || (ltb mapping_limit len || ltb prot_limit prot)) _ _ refl refl)
      by (Some at) is =
          rw is (either (eqb len 0 || (ltb mapping_limit len || ltb prot_limit prot)) _ _ refl
          (big-stores at (with_mapping (zeros_at at (rounded len) prot Mapped) p.space)))

module _ (s : TracedSystem) (pid : ℕ) (p : TracedProcess) (id : ℕ) (l : TracedLwp) where
  vfork-stores : (args : List ℕ) → stores_in true (vfork_effect s p id args) ≡ true
  unfolding vfork_effect
  vfork-stores args =
      choice (λ (e : Effect). stores_in true e ≡ true) (eqb id agent_id || not (eqb (length p.lwps) 1)) _ _
      (λ refused. refl)
      (λ goes_on. choice (λ (e : Effect). stores_in true e ≡ true) (leb process_limit s.made) _ _ (λ full. refl)
      (λ room. refl))

  call-stores : (since : ℕ) (call : Sysno) (args : List ℕ)
      → stores_in (is_lending_call call) (call_effect s pid p id l since call args) ≡ true
  unfolding call_effect exit_effect fork_effect dup_effect lseek_effect brk_effect munmap_effect
      mprotect_effect sigmask_effect sleep_effect lwp_create_effect lwp_suspend_effect lwp_continue_effect
  call-stores since sys.Exit args = refl
  call-stores since sys.Fork args =
      either (eqb id agent_id) _ _ refl
      (either (leb process_limit s.made) _ _ refl (either (total_has_room s (size_of p) 0) _ _ refl refl))
  call-stores since sys.Vfork args = vfork-stores args
  call-stores since sys.Read args =
      read-stores s.files p.fds p.space (slice_index args 0) (slice_index args 1) (slice_index args 2)
  call-stores since sys.Write args =
      write-stores s.files p.fds p.space (slice_index args 0) (slice_index args 1) (slice_index args 2)
  call-stores since sys.Open args = open-stores s.files p.fds p.space (slice_index args 0) (slice_index args 1)
  call-stores since sys.Close args = close-stores s.files p.fds p.space (slice_index args 0)
  call-stores since sys.Wait args = wait-stores p.space (children_of s pid) (slice_index args 0)
  call-stores since sys.Getpid args = refl
  call-stores since sys.Getppid args = refl
  call-stores since sys.Exec args = exec-stores s p id (slice_index args 0)
  call-stores since sys.Pipe args = pipe-stores s.files p.fds p.space (slice_index args 0)
  call-stores since sys.Dup args = file-stores _
  call-stores since sys.Lseek args = file-stores _
  call-stores since sys.Kill args =
      send-stores pid (slice_index args 0) (slice_index args 1) (killed_by pid) (life_of s (slice_index args 0))
  call-stores since sys.Sigaction args = sigaction-stores p.dispositions (slice_index args 0) (slice_index args 1)
  call-stores since sys.Sigmask args = either (ltb (slice_index args 0) _) _ _ refl refl
  call-stores since sys.Pause args = refl
  call-stores since sys.Sigreturn args = sigreturn-stores l.frames
  call-stores since sys.Brk args =
      either (ltb (slice_index args 0) heap_base || ltb break_limit (slice_index args 0)) _ _ refl
      (big-stores s p id 0 (with_break (slice_index args 0) p.space))
  call-stores since sys.Mmap args = mmap-stores s p id (slice_index args 0) (slice_index args 1)
  call-stores since sys.Munmap args =
      either (list_any (is_mapped_range (slice_index args 0) (rounded (slice_index args 1))) p.space) _ _ refl refl
  call-stores since sys.Mprotect args =
      either (has_range (slice_index args 0) (rounded (slice_index args 1)) p.space && leb
      (slice_index args 2) prot_limit) _ _ refl refl
  call-stores since sys.Time args = refl
  call-stores since sys.Sleep args =
      either (ltb sleep_limit (slice_index args 0)) _ _ refl
      (either (leb (since + slice_index args 0) s.clock) _ _ refl refl)
  call-stores since sys.LwpCreate args =
      either (eqb id agent_id) _ _ refl
      (either (leb lwp_limit (length p.lwps) || ltb last_lwp p.next_lwp) _ _ refl refl)
  call-stores since sys.LwpExit args = refl
  call-stores since sys.LwpSuspend args =
      either (can_be_named p (slice_index args 0)) _ _ (either (eqb (slice_index args 0) id) _ _ refl refl) refl
  call-stores since sys.LwpContinue args = either (can_be_named p (slice_index args 0)) _ _ refl refl
  call-stores since sys.Fstat args = fstat-stores s.files p.fds p.space (slice_index args 0) (slice_index args 1)
  call-stores since sys.Sigqueue args =
      send-stores pid (slice_index args 0) (slice_index args 1) (queued_by pid (slice_index args 2))
      (life_of s (slice_index args 0))

  -- ---- the rows

  abbrev StoresRow : Row → Type 0
  StoresRow row = stores_by row ≡ true

  either-row : (b : Bool) (x y : Row) → StoresRow x → StoresRow y → StoresRow (cond b x y)
  either-row true x y one other = one
  either-row false x y one other = other

  store-stores : (store : Option Store) → stores_after false (stored_in p.space store) ≡ true
  unfolding stored_in
  store-stores None = refl
  store-stores (Some store) = refl

  executed-stores : (e : InstructionEffect) → StoresRow (executed_row p l e)
  unfolding executed_row ran_row entered_row incurred_row watched_row ran entered incurred trapped
  executed-stores (instruction.runs regs store) =
      either-row l.control.step _ _ (store-stores store) (store-stores store)
  executed-stores (instruction.calls call regs) = refl
  executed-stores (instruction.faults f address) = refl
  executed-stores (instruction.runs_into_watch address regs store) = store-stores store

  handler-stores : (c : Current) (handler : ℕ) → StoresRow (handler_row l c handler)
  unfolding handler_row handled
  handler-stores c handler =
      choice (λ (t : Transition). stores_after false t.changes ≡ true) (ltb (length l.frames) frame_limit) _ _
      (λ room. refl) (λ full. refl)

  performed-stores : (woken : Bool) (call : Sysno) (args : List ℕ) (since : ℕ) (effect : Effect)
      → stores_in (is_lending_call call) effect ≡ true → StoresRow (performed_row woken call args since effect)
  unfolding performed_row performed
  performed-stores true call args since (does result changes) stores = stores
  performed-stores false call args since (does result changes) stores = stores
  performed-stores woken call args since sleeps stores = refl
  performed-stores woken call args since (ends how) stores = refl

  kind-stores : (row : Row) → RowKind s pid p id l row → StoresRow row
  unfolding requested_row requested posted_row posted dropped job_stopped died own_taken_row shared_taken_row own_taken
      shared_taken interrupted_row interrupted returned_row returned trapped stored_in
  kind-stores row (kind.catches {c = c} {handler = handler} now is) = handler-stores c handler
  kind-stores row (kind.performs {woken = woken} {call = call} {args = args} {since = since} it goes none) =
      performed-stores woken call args since (call_effect s pid p id l since call args) (call-stores since call args)
  kind-stores row (kind.returns at none) = either-row l.control.step _ _ refl refl
  kind-stores row (kind.executes at none) = executed-stores (instruction_effect p.space p.control.areas l.regs)
  kind-stores row _ = refl

  pub row-stores : stores_by (row_for s pid p id l) ≡ true
  row-stores = kind-stores (row_for s pid p id l) (row-kind s pid p id l)
