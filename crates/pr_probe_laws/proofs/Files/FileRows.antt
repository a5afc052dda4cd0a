use Rattle.std.proofs.Common.{◌∙◌, ◌≡◌, ◌&&◌, ◌||◌, ℕ, ◌*◌, Bool, true, false, not, is_none, eqb, ltb, leb, Option, Some, None, Result, Ok, Err, List, ◌∷◌, length, refl, sym, []}
use Rattle.std.proofs.lemmas.Bool.{false≢true}
use Rattle.std.specs.Prelude.{slice_index}
use Rattle.pr_num.specs.Agents.{agent_id}
use Rattle.pr_num.specs.Control.{prot_read}
use Rattle.pr_num.specs.Files.{FileTable, Descriptors}
use Rattle.pr_num.specs.Infos.{killed_by, queued_by}
use Rattle.pr_num.specs.Limits.{frame_limit, process_limit, transfer_limit}
use Rattle.pr_num.specs.Programs.{Program}
use Rattle.pr_num.specs.Spaces.{Space, bytes_for, first_space, mapped_size}
use Rattle.pr_num.specs.declared.errnos.Errno.{Errno}
use Rattle.pr_num.specs.declared.infos.Info.{Info}
use Rattle.pr_num.specs.declared.mappings.BadByte.{BadByte}
use Rattle.pr_num.specs.declared.syscalls.Sysno.{Sysno}
use Rattle.pr_num.specs.declared.syscalls.Sysno.TheVariants as sys
use Rattle.pr_parts.specs.FileCalls.{FileEffect, are_open_flags, closed, open_for_reading, open_for_writing, piped}
use Rattle.pr_parts.specs.FileTransfers.{read_fd}
use Rattle.pr_parts.specs.declared.files.FileNo.{FileNo}
use Rattle.pr_parts.specs.declared.files.FileNo.TheVariants.{Sleep}
use Rattle.pr_keeps.specs.RowKinds as kind
use Rattle.pr_keeps.specs.RowKinds.{RowKind}
use Rattle.pr_keeps.proofs.RowLemmas.{row-kind}
use Rattle.pr_model.specs.CallEffects.{call_effect}
use Rattle.pr_model.specs.Changes.{Change, files_are, space_is, Effect, does, sleeps, ends}
use Rattle.pr_model.specs.FileCallRows.{read_effect, write_effect, open_effect, close_effect, pipe_effect, dup_effect, lseek_effect, refusal_effect, file_effect, word_size}
use Rattle.pr_model.specs.InstructionEffects.{InstructionEffect, Store, instruction_effect}
use Rattle.pr_model.specs.InstructionEffects as instruction
use Rattle.pr_model.specs.MemoryCalls.{can_write, path_at}
use Rattle.pr_model.specs.ProcessCalls.{fork_effect, vfork_effect, given_up, exec_effect, program_named}
use Rattle.pr_model.specs.Readers.{Life, life_of, size_of, total_has_room}
use Rattle.pr_model.specs.Rows.{Row, requested_row, posted_row, returned_row, ran_row, entered_row, incurred_row, watched_row, executed_row, own_taken_row, shared_taken_row, handler_row, interrupted_row, performed_row, row_for}
use Rattle.pr_model.specs.SignalCalls.{Sending, refuses, sends_nothing, sends, sending, sent_effect, send_effect}
use Rattle.pr_model.specs.Signals.{is_kill}
use Rattle.pr_model.specs.State.{TracedLwp, TracedProcess, TracedSystem}
use Rattle.pr_model.specs.Transitions.{Transition, stored_in, requested, posted, returned, ran, entered, incurred, trapped, own_taken, shared_taken, handled, dropped, job_stopped, died, interrupted, performed}
use Rattle.pr_model.specs.declared.events.Res.TheVariants.{Value, Error, Ended}
use Rattle.pr_model.specs.declared.lwps.Current.{Current}
use Rattle.pr_ready_laws.specs.Reach.{Reach, changes_files, reach_of, reach_of_call}
use Rattle.pr_keeps.proofs.KeepsLemmas.{choice}
use Rattle.pr_parts.specs.FileCalls.{duplicated, opened, sought}
use Rattle.pr_parts.specs.FileTransfers.{write_fd}
use Rattle.pr_ready_laws.proofs.ReachLemmas.{IsWithinReach, allows, allows_all, row-within}
use Rattle.pr_ready_laws.specs.Touched.{target_in}
use Rattle.pr_report_laws.proofs.Machine.CallResults.{IsAnswered, call-answered}
use Rattle.pr_probe_laws.proofs.Files.FileKinds.{Stay, closed-stay, duplicated-stay, opened-stay, piped-stay, read-stay, sought-stay, write-stay}

-- The change that a turn makes first leaves to each open file what it is.

module _ (t : FileTable) where
  abbrev pub SparesChange : Change → Type 0
  SparesChange (files_are files fds) = Stay t files
  SparesChange _ = Unit {0}

  abbrev pub SparesFirst : List Change → Type 0
  SparesFirst [] = Unit {0}
  SparesFirst (c ∷ cs) = SparesChange c

  abbrev Spares : Effect → Type 0
  Spares (does result changes) = SparesFirst changes
  Spares sleeps = Unit {0}
  Spares (ends how) = Unit {0}

  -- ---- what reaches no files

  first-allowed : (reach : Reach) (target : Option ℕ) (c : Change) (cs : List Change)
      → allows_all reach target (c ∷ cs) ≡ true → allows reach target c ≡ true
  first-allowed reach target c [] is = is
  first-allowed reach target c (space_is space ∷ []) is = is
  first-allowed reach target c _ is = absurd (false≢true is)

  allowed-spares : (reach : Reach) (target : Option ℕ) → changes_files reach ≡ false → (c : Change)
      → allows reach target c ≡ true → SparesChange c
  allowed-spares reach target none (files_are files fds) is = absurd (false≢true (sym none ∙ is))
  allowed-spares reach target none _ is = tt

  changes-spare : (reach : Reach) (target : Option ℕ) → changes_files reach ≡ false → (cs : List Change)
      → allows_all reach target cs ≡ true → SparesFirst cs
  changes-spare reach target none [] is = tt
  changes-spare reach target none (c ∷ cs) is =
      allowed-spares reach target none c (first-allowed reach target c cs is)

  performed-quiet : (target : Option ℕ) (woken : Bool) (call : Sysno) (args : List ℕ) (since : ℕ) (e : Effect)
      → IsAnswered e → changes_files (reach_of_call call) ≡ false
      → IsWithinReach target (performed_row woken call args since e) → Spares e
  unfolding performed_row performed reach_of
  performed-quiet target woken call args since (does Ended changes) answered none within =
      absurd (false≢true answered)
  performed-quiet target true call args since (does (Value value) changes) answered none within =
      changes-spare (reach_of_call call) target none changes within.changes
  performed-quiet target false call args since (does (Value value) changes) answered none within =
      changes-spare (reach_of_call call) target none changes within.changes
  performed-quiet target true call args since (does (Error e) changes) answered none within =
      changes-spare (reach_of_call call) target none changes within.changes
  performed-quiet target false call args since (does (Error e) changes) answered none within =
      changes-spare (reach_of_call call) target none changes within.changes
  performed-quiet target woken call args since sleeps answered none within = tt
  performed-quiet target woken call args since (ends how) answered none within = tt

  -- ---- the calls on files

  refusal-spares : (why : FileNo) → Spares (refusal_effect why)
  refusal-spares Sleep = tt
  refusal-spares _ = tt

  file-spares : (e : FileEffect ℕ) → Stay t e.files → Spares (file_effect e)
  unfolding file_effect
  file-spares e stay = by e.answer refl
    where
      by : (r : Result ℕ FileNo) → e.answer ≡ r → Spares (file_effect e)
      by (Ok value) is = rw is stay
      by (Err why) is = rw is (refusal-spares why)

  module _ (fds : Descriptors) (space : Space) where
    read-spares : (fd at size : ℕ) → Spares (read_effect t fds space fd at size)
    unfolding read_effect
    read-spares fd at size = by (read_fd t fds fd size).bytes refl
      where
        by : (r : Result (List ℕ) FileNo) → (read_fd t fds fd size).bytes ≡ r
            → Spares (read_effect t fds space fd at size)
        by (Ok bytes) is =
            rw is (choice Spares (is_none (open_for_reading t fds fd)) _ _ (λ shut. tt)
            (λ there. choice Spares (ltb transfer_limit size) _ _ (λ long. tt)
            (λ short. choice Spares (can_write space at size) _ _ (λ fits. read-stay t fds fd size) (λ bad. tt))))
        by (Err why) is =
            rw is (choice Spares (is_none (open_for_reading t fds fd)) _ _ (λ shut. tt)
            (λ there. choice Spares (ltb transfer_limit size) _ _ (λ long. tt)
            (λ short. choice Spares (can_write space at size) _ _ (λ fits. refusal-spares why) (λ bad. tt))))

    write-spares : (fd at size : ℕ) → Spares (write_effect t fds space fd at size)
    unfolding write_effect
    write-spares fd at size = by (bytes_for prot_read space at size) refl
      where
        by : (r : Result (List ℕ) BadByte) → bytes_for prot_read space at size ≡ r
            → Spares (write_effect t fds space fd at size)
        by (Ok bytes) is =
            rw is (choice Spares (is_none (open_for_writing t fds fd)) _ _ (λ shut. tt)
            (λ there. choice Spares (ltb transfer_limit size) _ _ (λ long. tt)
            (λ short. file-spares (write_fd t fds fd bytes) (write-stay t fds fd bytes))))
        by (Err bad) is =
            rw is (choice Spares (is_none (open_for_writing t fds fd)) _ _ (λ shut. tt)
            (λ there. choice Spares (ltb transfer_limit size) _ _ (λ long. tt) (λ short. tt)))

    open-spares : (at flags : ℕ) → Spares (open_effect t fds space at flags)
    unfolding open_effect
    open-spares at flags = by (path_at space at) refl
      where
        by : (r : Result (List ℕ) Errno) → path_at space at ≡ r → Spares (open_effect t fds space at flags)
        by (Err e) is = rw is tt
        by (Ok name) is =
            rw is (choice Spares (are_open_flags flags) _ _
            (λ right. file-spares (opened t fds name flags) (opened-stay t fds name flags)) (λ wrong. tt))

    close-spares : (fd : ℕ) → Spares (close_effect t fds space fd)
    unfolding close_effect
    close-spares fd = by (closed t fds fd).answer refl
      where
        by : (r : Result (Unit {0}) FileNo) → (closed t fds fd).answer ≡ r → Spares (close_effect t fds space fd)
        by (Ok done) is = rw is (closed-stay t fds fd)
        by (Err why) is = rw is (refusal-spares why)

    pipe-spares : (at : ℕ) → Spares (pipe_effect t fds space at)
    unfolding pipe_effect
    pipe-spares at = by (piped t fds).answer refl
      where
        by : (r : Result (ℕ × ℕ) FileNo) → (piped t fds).answer ≡ r → Spares (pipe_effect t fds space at)
        by (Ok both) is =
            rw is (choice Spares (can_write space at (2 * word_size)) _ _ (λ fits. piped-stay t fds) (λ bad. tt))
        by (Err why) is =
            rw is (choice Spares (can_write space at (2 * word_size)) _ _ (λ fits. refusal-spares why) (λ bad. tt))

  -- ---- the calls that reach further

  send-spares : (own target number : ℕ) (info : Info) (life : Life)
      → Spares (send_effect own target number info life)
  unfolding send_effect sent_effect
  send-spares own target number info life = by (sending target number life)
    where
      by : (x : Sending) → Spares (sent_effect own target info x)
      by (refuses e) = tt
      by sends_nothing = tt
      by (sends g) = choice Spares (is_kill g && eqb target own) _ _ (λ is. tt) (λ not_it. tt)

  exec-spares : (s : TracedSystem) (p : TracedProcess) (id at : ℕ) → Spares (exec_effect s p id at)
  unfolding exec_effect
  exec-spares s p id at = by (path_at p.space at) refl
    where
      named : (name : List ℕ) (o : Option Program) → path_at p.space at ≡ Ok name → program_named s.programs name ≡ o
          → Spares (exec_effect s p id at)
      named name None is found =
          rw (is, found) (choice Spares (eqb id agent_id) _ _ (λ agent. tt) (λ other. tt))
      named name (Some program) is found =
          rw (is, found)
          (choice Spares (eqb id agent_id) _ _ (λ agent. tt)
          (λ other. choice Spares (total_has_room s (mapped_size (first_space program)) (given_up s p id)) _ _
          (λ room. tt) (λ full. tt)))

      by : (r : Result (List ℕ) Errno) → path_at p.space at ≡ r → Spares (exec_effect s p id at)
      by (Err e) is = rw is (choice Spares (eqb id agent_id) _ _ (λ agent. tt) (λ other. tt))
      by (Ok name) is = named name (program_named s.programs name) is refl

module _ (s : TracedSystem) (pid : ℕ) (p : TracedProcess) (id : ℕ) (l : TracedLwp) where
  abbrev t : FileTable
  t = s.files

  abbrev target : Option ℕ
  target = target_in l.phase l.regs

  quiet : (woken : Bool) (since : ℕ) (call : Sysno) (args : List ℕ) → changes_files (reach_of_call call) ≡ false
      → IsWithinReach target (performed_row woken call args since (call_effect s pid p id l since call args))
      → Spares t (call_effect s pid p id l since call args)
  quiet woken since call args none within =
      performed-quiet t target woken call args since (call_effect s pid p id l since call args)
      (call-answered s pid p id l since call args) none within

  call-spares : (woken : Bool) (since : ℕ) (call : Sysno) (args : List ℕ)
      → IsWithinReach target (performed_row woken call args since (call_effect s pid p id l since call args))
      → Spares t (call_effect s pid p id l since call args)
  unfolding call_effect fork_effect vfork_effect dup_effect lseek_effect
  call-spares woken since sys.Fork args within =
      choice (Spares t) (eqb id agent_id) _ _ (λ agent. tt)
      (λ other. choice (Spares t) (leb process_limit s.made) _ _ (λ full. tt)
      (λ few. choice (Spares t) (total_has_room s (size_of p) 0) _ _ (λ room. tt) (λ none. tt)))
  call-spares woken since sys.Vfork args within =
      choice (Spares t) (eqb id agent_id || not (eqb (length p.lwps) 1)) _ _ (λ agent. tt)
      (λ other. choice (Spares t) (leb process_limit s.made) _ _ (λ full. tt) (λ few. tt))
  call-spares woken since sys.Read args within =
      read-spares t p.fds p.space (slice_index args 0) (slice_index args 1) (slice_index args 2)
  call-spares woken since sys.Write args within =
      write-spares t p.fds p.space (slice_index args 0) (slice_index args 1) (slice_index args 2)
  call-spares woken since sys.Open args within = open-spares t p.fds p.space (slice_index args 0) (slice_index args 1)
  call-spares woken since sys.Close args within = close-spares t p.fds p.space (slice_index args 0)
  call-spares woken since sys.Pipe args within = pipe-spares t p.fds p.space (slice_index args 0)
  call-spares woken since sys.Dup args within =
      file-spares t (duplicated t p.fds (slice_index args 0)) (duplicated-stay t p.fds (slice_index args 0))
  call-spares woken since sys.Lseek args within =
      file-spares t (sought t p.fds (slice_index args 0) (slice_index args 1))
      (sought-stay t p.fds (slice_index args 0) (slice_index args 1))
  call-spares woken since sys.Exec args within = exec-spares t s p id (slice_index args 0)
  call-spares woken since sys.Kill args within =
      send-spares t pid (slice_index args 0) (slice_index args 1) (killed_by pid) (life_of s (slice_index args 0))
  call-spares woken since sys.Sigqueue args within =
      send-spares t pid (slice_index args 0) (slice_index args 1) (queued_by pid (slice_index args 2))
      (life_of s (slice_index args 0))
  call-spares woken since sys.Exit args within = quiet woken since sys.Exit args refl within
  call-spares woken since sys.Wait args within = quiet woken since sys.Wait args refl within
  call-spares woken since sys.Getpid args within = quiet woken since sys.Getpid args refl within
  call-spares woken since sys.Getppid args within = quiet woken since sys.Getppid args refl within
  call-spares woken since sys.Sigaction args within = quiet woken since sys.Sigaction args refl within
  call-spares woken since sys.Sigmask args within = quiet woken since sys.Sigmask args refl within
  call-spares woken since sys.Pause args within = quiet woken since sys.Pause args refl within
  call-spares woken since sys.Sigreturn args within = quiet woken since sys.Sigreturn args refl within
  call-spares woken since sys.Brk args within = quiet woken since sys.Brk args refl within
  call-spares woken since sys.Mmap args within = quiet woken since sys.Mmap args refl within
  call-spares woken since sys.Munmap args within = quiet woken since sys.Munmap args refl within
  call-spares woken since sys.Mprotect args within = quiet woken since sys.Mprotect args refl within
  call-spares woken since sys.Time args within = quiet woken since sys.Time args refl within
  call-spares woken since sys.Sleep args within = quiet woken since sys.Sleep args refl within
  call-spares woken since sys.LwpCreate args within = quiet woken since sys.LwpCreate args refl within
  call-spares woken since sys.LwpExit args within = quiet woken since sys.LwpExit args refl within
  call-spares woken since sys.LwpSuspend args within = quiet woken since sys.LwpSuspend args refl within
  call-spares woken since sys.LwpContinue args within = quiet woken since sys.LwpContinue args refl within
  call-spares woken since sys.Fstat args within = quiet woken since sys.Fstat args refl within

  -- ---- the rows

  performed-spares : (woken : Bool) (call : Sysno) (args : List ℕ) (since : ℕ) (e : Effect) → Spares t e
      → SparesFirst t (performed_row woken call args since e).transition.changes
  unfolding performed_row performed
  performed-spares true call args since (does result changes) it = it
  performed-spares false call args since (does result changes) it = it
  performed-spares true call args since sleeps it = tt
  performed-spares false call args since sleeps it = tt
  performed-spares true call args since (ends how) it = tt
  performed-spares false call args since (ends how) it = tt

  stored-spares : (store : Option Store) → SparesFirst t (stored_in p.space store)
  unfolding stored_in
  stored-spares None = tt
  stored-spares (Some store) = tt

  abbrev RowSpares : Row → Type 0
  RowSpares row = SparesFirst t row.transition.changes

  executed-spares : (e : InstructionEffect) → RowSpares (executed_row p l e)
  unfolding executed_row ran_row entered_row incurred_row watched_row ran entered incurred trapped
  executed-spares (instruction.runs regs store) =
      choice RowSpares l.control.step _ _ (λ step. stored-spares store) (λ none. stored-spares store)
  executed-spares (instruction.calls call regs) = tt
  executed-spares (instruction.faults f address) = tt
  executed-spares (instruction.runs_into_watch address regs store) = stored-spares store

  handler-spares : (c : Current) (handler : ℕ) → RowSpares (handler_row l c handler)
  unfolding handler_row handled
  handler-spares c handler =
      choice (λ (x : Transition). SparesFirst t x.changes) (ltb (length l.frames) frame_limit) _ _ (λ room. tt)
      (λ full. tt)

  kind-spares : (row : Row) → RowKind s pid p id l row → IsWithinReach target row → RowSpares row
  unfolding requested_row requested posted_row posted dropped job_stopped died own_taken_row shared_taken_row own_taken
      shared_taken interrupted_row interrupted returned_row returned trapped stored_in
  kind-spares row (kind.catches {c = c} {handler = handler} now is) within = handler-spares c handler
  kind-spares row (kind.performs {woken = woken} {call = call} {args = args} {since = since} it goes none) within =
      performed-spares woken call args since (call_effect s pid p id l since call args)
      (call-spares woken since call args within)
  kind-spares row (kind.returns at none) within =
      choice RowSpares l.control.step _ _ (λ step. tt) (λ on. tt)
  kind-spares row (kind.executes at none) within =
      executed-spares (instruction_effect p.space p.control.areas l.regs)
  kind-spares row (kind.interrupts {woken = true} it why) within = tt
  kind-spares row (kind.interrupts {woken = false} it why) within = tt
  kind-spares row _ within = tt

  pub row-spares : SparesFirst t (row_for s pid p id l).transition.changes
  row-spares = kind-spares (row_for s pid p id l) (row-kind s pid p id l) (row-within s pid p id l)
