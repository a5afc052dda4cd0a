use Rattle.std.proofs.Common.{◌≡◌, ◌&&◌, ◌||◌, ℕ, ◌+◌, ◌*◌, Bool, true, false, not, is_none, eqb, ltb, leb, cond, Option, Some, None, Result, Ok, Err, List, ◌∷◌, length, refl, sym, subst, []}
use Rattle.std.specs.List.{list_any, slice_get}
use Rattle.std.proofs.lemmas.Bool.{eq-eqb, false≢true}
use Rattle.std.specs.Prelude.{◌-◌, slice_index}
use Rattle.pr_num.specs.Agents.{agent_id}
use Rattle.pr_num.specs.Control.{prot_read}
use Rattle.pr_num.specs.Files.{FileTable, Descriptors}
use Rattle.pr_num.specs.Infos.{killed_by, queued_by}
use Rattle.pr_num.specs.Layout.{heap_base, break_limit}
use Rattle.pr_num.specs.Limits.{frame_limit, last_lwp, lwp_limit, process_limit, sleep_limit, transfer_limit}
use Rattle.pr_num.specs.Programs.{Program, rounded}
use Rattle.pr_num.specs.Signals.{signal_number, signal_of_number}
use Rattle.pr_num.specs.Spaces.{Space, bytes_for, first_space, mapped_size, mapping_limit}
use Rattle.pr_num.specs.declared.errnos.Errno.{Errno}
use Rattle.pr_num.specs.declared.infos.Info.{Info}
use Rattle.pr_num.specs.declared.mappings.BadByte.{BadByte}
use Rattle.pr_num.specs.declared.mappings.MappingKind.TheVariants.{Mapped}
use Rattle.pr_num.specs.declared.signals.Sig.{Sig}
use Rattle.pr_num.specs.declared.signals.Sig.TheVariants.{Segv}
use Rattle.pr_num.specs.declared.syscalls.Sysno.{Sysno}
use Rattle.pr_num.specs.declared.syscalls.Sysno.TheVariants as sys
use Rattle.pr_parts.specs.AddressSpaces.{gap_in, has_range, with_break, with_mapping, zeros_at}
use Rattle.pr_parts.specs.FileCalls.{FileEffect, are_open_flags, closed, described, open_for_reading, open_for_writing, piped}
use Rattle.pr_parts.specs.FileTransfers.{read_fd}
use Rattle.pr_parts.specs.declared.files.FileNo.{FileNo}
use Rattle.pr_parts.specs.declared.files.FileNo.TheVariants.{Sleep}
use Rattle.pr_parts.specs.declared.files.Stat.{Stat}
use Rattle.pr_keeps.specs.RowKinds as kind
use Rattle.pr_keeps.specs.RowKinds.{IsInCall, RowKind}
use Rattle.pr_keeps.proofs.RowLemmas.{row-kind}
use Rattle.pr_model.specs.CallEffects.{call_effect}
use Rattle.pr_model.specs.Changes.{Change, files_are, space_is, signals, forks, becomes, Effect, does, sleeps, ends, Ending, ends_process}
use Rattle.pr_model.specs.FileCallRows.{read_effect, write_effect, open_effect, close_effect, pipe_effect, fstat_effect, dup_effect, lseek_effect, refusal_effect, file_effect, word_size}
use Rattle.pr_model.specs.InstructionEffects.{InstructionEffect, Store, instruction_effect}
use Rattle.pr_model.specs.InstructionEffects as instruction
use Rattle.pr_model.specs.Lives.{is_id}
use Rattle.pr_model.specs.LwpCalls.{lwp_create_effect, lwp_suspend_effect, lwp_continue_effect, can_be_named}
use Rattle.pr_model.specs.MemoryCalls.{can_write, path_at, brk_effect, mmap_effect, munmap_effect, mprotect_effect, unless_too_big, is_mapped_range, prot_limit}
use Rattle.pr_model.specs.ProcessCalls.{exit_effect, fork_effect, vfork_effect, given_up, wait_effect, exec_effect, sleep_effect, program_named}
use Rattle.pr_model.specs.Readers.{Life, Children, no_child, all_live, first_zombie, children_of, life_of, size_of, total_has_room}
use Rattle.pr_model.specs.Rows.{Row, quiet_row, requested_row, posted_row, returned_row, ran_row, entered_row, incurred_row, watched_row, executed_row, own_taken_row, shared_taken_row, handler_row, interrupted_row, performed_row, row_for}
use Rattle.pr_model.specs.SignalCalls.{Sending, refuses, sends_nothing, sends, sending, sent_effect, send_effect, can_be_caught, sigaction_effect, sigmask_effect, sigreturn_effect}
use Rattle.pr_model.specs.Signals.{handler_held, handler_registers, is_kill, with_frame}
use Rattle.pr_model.specs.State.{TracedLwp, TracedProcess, TracedSystem}
use Rattle.pr_model.specs.Moves.{catches}
use Rattle.pr_model.specs.Transitions.{ending, moving, stored_in, requested, posted, returned, ran, entered, incurred, trapped, own_taken, shared_taken, handled, dropped, job_stopped, died, interrupted, performed}
use Rattle.pr_model.specs.declared.events.Did.TheVariants.{Acted}
use Rattle.pr_model.specs.declared.events.How.TheVariants.{Caught, Died}
use Rattle.pr_model.specs.declared.events.Res.TheVariants.{Value, Error, Ended}
use Rattle.pr_model.specs.declared.frames.Frame.{Frame}
use Rattle.pr_model.specs.declared.lwps.Current.{Current}
use Rattle.pr_ready_laws.specs.Reach.{Reach, around, changes_files, itself, reach_of, reach_of_call, reaches_around, to_pipes}
use Rattle.pr_ready_laws.specs.Touched.{target_in, target_of_call}

-- What a turn changes is within its reach: a line a call, and a line a row. A turn makes one change, and after it at
-- most stores bytes in the memory of its process.

-- whether a turn of this reach may make a change, where a signal is sent to this process, if to any
abbrev pub allows : Reach → Option ℕ → Change → Bool
allows reach target (files_are files fds) = changes_files reach
allows reach target (signals pid g info) = reaches_around reach && is_id pid target
allows reach target (forks birth args) = reaches_around reach
allows reach target (becomes program) = reaches_around reach
allows reach target _ = true

abbrev pub allows_all : Reach → Option ℕ → List Change → Bool
allows_all reach target [] = true
allows_all reach target (c ∷ []) = allows reach target c
allows_all reach target (c ∷ space_is space ∷ []) = allows reach target c
allows_all reach target _ = false

-- the same of what a call does; that it ended its lwp it does not say
abbrev reaches_in : Reach → Option ℕ → Effect → Bool
reaches_in reach target (does Ended changes) = false
reaches_in reach target (does (Value value) changes) = allows_all reach target changes
reaches_in reach target (does (Error e) changes) = allows_all reach target changes
reaches_in reach target sleeps = true
reaches_in reach target (ends how) = true

-- an end is within reach of what reaches around
abbrev pub ends_within : Reach → Option Ending → Bool
ends_within reach None = true
ends_within reach (Some how) = reaches_around reach

-- a row within the reach of what it did
pub record IsWithinReach (target : Option ℕ) (row : Row) : Type 0 where
  pub changes : allows_all (reach_of row.did) target row.transition.changes ≡ true
  pub ending : ends_within (reach_of row.did) row.transition.ending ≡ true

-- ---- the calls

abbrev Within : Reach → Option ℕ → Effect → Type 0
Within reach target e = reaches_in reach target e ≡ true

either : (reach : Reach) (target : Option ℕ) (b : Bool) (x y : Effect) → Within reach target x → Within reach target y
    → Within reach target (cond b x y)
either reach target true x y one other = one
either reach target false x y one other = other

-- a call on files reaches those at pipes, and of others most reach no further than their process
abbrev OfFiles : Effect → Type 0
OfFiles e = Within to_pipes None e

abbrev Alone : Effect → Type 0
Alone e = Within itself None e

refusal-within : (reach : Reach) (why : FileNo) → Within reach None (refusal_effect why)
refusal-within reach Sleep = refl
refusal-within reach _ = refl

file-within : (e : FileEffect ℕ) → OfFiles (file_effect e)
unfolding file_effect
file-within e = by e.answer refl
  where
    by : (r : Result ℕ FileNo) → e.answer ≡ r → OfFiles (file_effect e)
    by (Ok value) is = rw is refl
    by (Err why) is = rw is (refusal-within to_pipes why)

module _ (t : FileTable) (fds : Descriptors) (space : Space) where
  read-within : (fd at size : ℕ) → OfFiles (read_effect t fds space fd at size)
  unfolding read_effect
  read-within fd at size = by (read_fd t fds fd size).bytes refl
    where
      by : (r : Result (List ℕ) FileNo) → (read_fd t fds fd size).bytes ≡ r
          → OfFiles (read_effect t fds space fd at size)
      by (Ok bytes) is =
          rw is (either to_pipes None (is_none (open_for_reading t fds fd)) _ _ refl
          (either to_pipes None (ltb transfer_limit size) _ _ refl
          (either to_pipes None (can_write space at size) _ _ refl refl)))
      by (Err why) is =
          rw is (either to_pipes None (is_none (open_for_reading t fds fd)) _ _ refl
          (either to_pipes None (ltb transfer_limit size) _ _ refl
          (either to_pipes None (can_write space at size) _ _ (refusal-within to_pipes why) refl)))

  write-within : (fd at size : ℕ) → OfFiles (write_effect t fds space fd at size)
  unfolding write_effect
  write-within fd at size = by (bytes_for prot_read space at size) refl
    where
      by : (r : Result (List ℕ) BadByte) → bytes_for prot_read space at size ≡ r
          → OfFiles (write_effect t fds space fd at size)
      by (Ok bytes) is =
          rw is (either to_pipes None (is_none (open_for_writing t fds fd)) _ _ refl
          (either to_pipes None (ltb transfer_limit size) _ _ refl (file-within _)))
      by (Err bad) is =
          rw is (either to_pipes None (is_none (open_for_writing t fds fd)) _ _ refl
          (either to_pipes None (ltb transfer_limit size) _ _ refl refl))

  open-within : (at flags : ℕ) → OfFiles (open_effect t fds space at flags)
  unfolding open_effect
  open-within at flags = by (path_at space at) refl
    where
      by : (r : Result (List ℕ) Errno) → path_at space at ≡ r → OfFiles (open_effect t fds space at flags)
      by (Err e) is = rw is refl
      by (Ok name) is = rw is (either to_pipes None (are_open_flags flags) _ _ (file-within _) refl)

  close-within : (fd : ℕ) → OfFiles (close_effect t fds space fd)
  unfolding close_effect
  close-within fd = by (closed t fds fd).answer refl
    where
      by : (r : Result (Unit {0}) FileNo) → (closed t fds fd).answer ≡ r → OfFiles (close_effect t fds space fd)
      by (Ok done) is = rw is refl
      by (Err why) is = rw is (refusal-within to_pipes why)

  pipe-within : (at : ℕ) → OfFiles (pipe_effect t fds space at)
  unfolding pipe_effect
  pipe-within at = by (piped t fds).answer refl
    where
      by : (r : Result (ℕ × ℕ) FileNo) → (piped t fds).answer ≡ r → OfFiles (pipe_effect t fds space at)
      by (Ok both) is = rw is (either to_pipes None (can_write space at (2 * word_size)) _ _ refl refl)
      by (Err why) is =
          rw is (either to_pipes None (can_write space at (2 * word_size)) _ _ (refusal-within to_pipes why) refl)

  fstat-within : (fd at : ℕ) → Alone (fstat_effect t fds space fd at)
  unfolding fstat_effect
  fstat-within fd at = by (described t fds fd) refl
    where
      by : (r : Result Stat FileNo) → described t fds fd ≡ r → Alone (fstat_effect t fds space fd at)
      by (Ok stat) is = rw is (either itself None (can_write space at (3 * word_size)) _ _ refl refl)
      by (Err why) is = rw is (refusal-within itself why)

wait-within : (space : Space) (c : Children) (at : ℕ) → Alone (wait_effect space c at)
unfolding wait_effect
wait-within space no_child at = refl
wait-within space all_live at = refl
wait-within space (first_zombie child status) at =
    either itself None (eqb at 0) _ _ refl (either itself None (can_write space at word_size) _ _ refl refl)

send-within : (own target number : ℕ) (info : Info) (life : Life)
    → Within around (Some target) (send_effect own target number info life)
unfolding send_effect sent_effect
send-within own target number info life = by (sending target number life)
  where
    by : (x : Sending) → Within around (Some target) (sent_effect own target info x)
    by (refuses e) = refl
    by sends_nothing = refl
    by (sends g) =
        either around (Some target) (is_kill g && eqb target own) _ _ refl (eq-eqb target target refl)

sigaction-within : (dispositions : List ℕ) (number disposition : ℕ)
    → Alone (sigaction_effect dispositions number disposition)
unfolding sigaction_effect
sigaction-within dispositions number disposition = by (signal_of_number number) refl
  where
    by : (o : Option Sig) → signal_of_number number ≡ o → Alone (sigaction_effect dispositions number disposition)
    by None is = rw is refl
    by (Some g) is = rw is (either itself None (can_be_caught g) _ _ refl refl)

sigreturn-within : (frames : List Frame) → Alone (sigreturn_effect frames)
unfolding sigreturn_effect
sigreturn-within frames = by (slice_get frames (length frames - 1)) refl
  where
    by : (o : Option Frame) → slice_get frames (length frames - 1) ≡ o → Alone (sigreturn_effect frames)
    by None is = rw is refl
    by (Some frame) is = rw is refl

module _ (s : TracedSystem) (p : TracedProcess) (id : ℕ) where
  exec-within : (at : ℕ) → Within around None (exec_effect s p id at)
  unfolding exec_effect
  exec-within at = by (path_at p.space at) refl
    where
      named : (name : List ℕ) (o : Option Program) → path_at p.space at ≡ Ok name → program_named s.programs name ≡ o
          → Within around None (exec_effect s p id at)
      named name None is found = rw (is, found) (either around None (eqb id agent_id) _ _ refl refl)
      named name (Some program) is found =
          rw (is, found)
          (either around None (eqb id agent_id) _ _ refl
          (either around None (total_has_room s (mapped_size (first_space program)) (given_up s p id)) _ _ refl refl))

      by : (r : Result (List ℕ) Errno) → path_at p.space at ≡ r → Within around None (exec_effect s p id at)
      by (Err e) is = rw is (either around None (eqb id agent_id) _ _ refl refl)
      by (Ok name) is = named name (program_named s.programs name) is refl

  big-within : (value : ℕ) (space : Space) → Alone (unless_too_big s p value space)
  big-within value space =
      either itself None
      (leb (mapped_size space) mapping_limit && total_has_room s (mapped_size space) (size_of p)) _ _ refl refl

  mmap-within : (len prot : ℕ) → Alone (mmap_effect s p len prot)
  unfolding mmap_effect
  mmap-within len prot = by (gap_in (rounded len) p.space) refl
    where
      by : (o : Option ℕ) → gap_in (rounded len) p.space ≡ o → Alone (mmap_effect s p len prot)
      by None is =
          rw is (either itself None (eqb len 0 || (ltb mapping_limit len || ltb prot_limit prot)) _ _ refl refl)
      by (Some at) is =
          rw is (either itself None (eqb len 0 || (ltb mapping_limit len || ltb prot_limit prot)) _ _ refl
          (big-within at (with_mapping (zeros_at at (rounded len) prot Mapped) p.space)))

module _ (s : TracedSystem) (pid : ℕ) (p : TracedProcess) (id : ℕ) (l : TracedLwp) where
  call-within : (since : ℕ) (call : Sysno) (args : List ℕ)
      → Within (reach_of_call call) (target_of_call call args) (call_effect s pid p id l since call args)
  unfolding call_effect exit_effect fork_effect vfork_effect dup_effect lseek_effect brk_effect munmap_effect
      mprotect_effect sigmask_effect sleep_effect lwp_create_effect lwp_suspend_effect lwp_continue_effect
  call-within since sys.Exit args = refl
  call-within since sys.Fork args =
      either around None (eqb id agent_id) _ _ refl
      (either around None (leb process_limit s.made) _ _ refl
      (either around None (total_has_room s (size_of p) 0) _ _ refl refl))
  call-within since sys.Vfork args =
      either around None (eqb id agent_id || not (eqb (length p.lwps) 1)) _ _ refl
      (either around None (leb process_limit s.made) _ _ refl refl)
  call-within since sys.Read args =
      read-within s.files p.fds p.space (slice_index args 0) (slice_index args 1) (slice_index args 2)
  call-within since sys.Write args =
      write-within s.files p.fds p.space (slice_index args 0) (slice_index args 1) (slice_index args 2)
  call-within since sys.Open args = open-within s.files p.fds p.space (slice_index args 0) (slice_index args 1)
  call-within since sys.Close args = close-within s.files p.fds p.space (slice_index args 0)
  call-within since sys.Wait args = wait-within p.space (children_of s pid) (slice_index args 0)
  call-within since sys.Getpid args = refl
  call-within since sys.Getppid args = refl
  call-within since sys.Exec args = exec-within s p id (slice_index args 0)
  call-within since sys.Pipe args = pipe-within s.files p.fds p.space (slice_index args 0)
  call-within since sys.Dup args = file-within _
  call-within since sys.Lseek args = file-within _
  call-within since sys.Kill args =
      send-within pid (slice_index args 0) (slice_index args 1) (killed_by pid) (life_of s (slice_index args 0))
  call-within since sys.Sigaction args = sigaction-within p.dispositions (slice_index args 0) (slice_index args 1)
  call-within since sys.Sigmask args = either itself None (ltb (slice_index args 0) _) _ _ refl refl
  call-within since sys.Pause args = refl
  call-within since sys.Sigreturn args = sigreturn-within l.frames
  call-within since sys.Brk args =
      either itself None (ltb (slice_index args 0) heap_base || ltb break_limit (slice_index args 0)) _ _ refl
      (big-within s p id 0 (with_break (slice_index args 0) p.space))
  call-within since sys.Mmap args = mmap-within s p id (slice_index args 0) (slice_index args 1)
  call-within since sys.Munmap args =
      either itself None
      (list_any (is_mapped_range (slice_index args 0) (rounded (slice_index args 1))) p.space) _ _ refl refl
  call-within since sys.Mprotect args =
      either itself None (has_range (slice_index args 0) (rounded (slice_index args 1)) p.space && leb
      (slice_index args 2) prot_limit) _ _ refl refl
  call-within since sys.Time args = refl
  call-within since sys.Sleep args =
      either itself None (ltb sleep_limit (slice_index args 0)) _ _ refl
      (either itself None (leb (since + slice_index args 0) s.clock) _ _ refl refl)
  call-within since sys.LwpCreate args =
      either itself None (eqb id agent_id) _ _ refl
      (either itself None (leb lwp_limit (length p.lwps) || ltb last_lwp p.next_lwp) _ _ refl refl)
  call-within since sys.LwpExit args = refl
  call-within since sys.LwpSuspend args =
      either itself None (can_be_named p (slice_index args 0)) _ _
      (either itself None (eqb (slice_index args 0) id) _ _ refl refl) refl
  call-within since sys.LwpContinue args = either itself None (can_be_named p (slice_index args 0)) _ _ refl refl
  call-within since sys.Fstat args = fstat-within s.files p.fds p.space (slice_index args 0) (slice_index args 1)
  call-within since sys.Sigqueue args =
      send-within pid (slice_index args 0) (slice_index args 1) (queued_by pid (slice_index args 2))
      (life_of s (slice_index args 0))

  -- ---- the rows

  abbrev target : Option ℕ
  target = target_in l.phase l.regs

  abbrev WithinRow : Row → Type 0
  WithinRow row = IsWithinReach target row

  either-row : (b : Bool) (x y : Row) → WithinRow x → WithinRow y → WithinRow (cond b x y)
  either-row true x y one other = one
  either-row false x y one other = other

  store-within : (store : Option Store) → allows_all itself target (stored_in p.space store) ≡ true
  unfolding stored_in
  store-within None = refl
  store-within (Some store) = refl

  executed-within : (e : InstructionEffect) → WithinRow (executed_row p l e)
  unfolding executed_row ran_row entered_row incurred_row watched_row ran entered incurred trapped reach_of
  executed-within (instruction.runs regs store) =
      either-row l.control.step _ _ (record { changes = store-within store; ending = refl })
      (record { changes = store-within store; ending = refl })
  executed-within (instruction.calls call regs) = record { changes = refl; ending = refl }
  executed-within (instruction.faults f address) = record { changes = refl; ending = refl }
  executed-within (instruction.runs_into_watch address regs store) =
      record { changes = store-within store; ending = refl }

  handler-within : (c : Current) (handler : ℕ) → WithinRow (handler_row l c handler)
  unfolding handler_row handled reach_of
  handler-within c handler =
      elim (ltb (length l.frames) frame_limit) as
      (λ b. WithinRow
      (quiet_row (Acted c.signal (cond b Caught Died))
      (cond b
      (moving (catches (with_frame l.regs l.held l.frames) (handler_registers c handler l.regs)
      (handler_held c l.held)))
      (ending (ends_process (signal_number Segv)))))) [
        | true ↦ record { changes = refl; ending = refl }
        | false ↦ record { changes = refl; ending = refl }
      ]

  -- whom a call sends a signal to is told by its lwp
  in-call : (woken : Bool) (call : Sysno) (args : List ℕ) (since : ℕ) → IsInCall s l woken call args since
      → target ≡ target_of_call call args
  in-call woken call args since (kind.at_it at) = rw at refl
  in-call woken call args since (kind.asleep_in_it at) = rw at refl

  performed-within : (woken : Bool) (call : Sysno) (args : List ℕ) (since : ℕ) (effect : Effect)
      → Within (reach_of_call call) target effect → WithinRow (performed_row woken call args since effect)
  unfolding performed_row performed reach_of
  performed-within woken call args since (does Ended changes) within = absurd (false≢true within)
  performed-within true call args since (does (Value value) changes) within =
      record { changes = within; ending = refl }
  performed-within false call args since (does (Value value) changes) within =
      record { changes = within; ending = refl }
  performed-within true call args since (does (Error e) changes) within = record { changes = within; ending = refl }
  performed-within false call args since (does (Error e) changes) within = record { changes = within; ending = refl }
  performed-within true call args since sleeps within = record { changes = refl; ending = refl }
  performed-within false call args since sleeps within = record { changes = refl; ending = refl }
  performed-within true call args since (ends how) within = record { changes = refl; ending = refl }
  performed-within false call args since (ends how) within = record { changes = refl; ending = refl }

  kind-within : (row : Row) → RowKind s pid p id l row → WithinRow row
  unfolding requested_row requested posted_row posted dropped job_stopped died own_taken_row shared_taken_row own_taken
      shared_taken interrupted_row interrupted returned_row returned trapped stored_in reach_of
  kind-within row (kind.catches {c = c} {handler = handler} now is) = handler-within c handler
  kind-within row (kind.performs {woken = woken} {call = call} {args = args} {since = since} it goes none) =
      performed-within woken call args since (call_effect s pid p id l since call args)
      (subst (λ (o : Option ℕ). Within (reach_of_call call) o (call_effect s pid p id l since call args))
      (sym (in-call woken call args since it)) (call-within since call args))
  kind-within row (kind.returns at none) =
      either-row l.control.step _ _ (record { changes = refl; ending = refl })
      (record { changes = refl; ending = refl })
  kind-within row (kind.executes at none) = executed-within (instruction_effect p.space p.control.areas l.regs)
  kind-within row (kind.interrupts {woken = true} it why) = record { changes = refl; ending = refl }
  kind-within row (kind.interrupts {woken = false} it why) = record { changes = refl; ending = refl }
  kind-within row _ = record { changes = refl; ending = refl }

  pub row-within : WithinRow (row_for s pid p id l)
  row-within = kind-within (row_for s pid p id l) (row-kind s pid p id l)
