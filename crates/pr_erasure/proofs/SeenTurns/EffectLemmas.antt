use Rattle.std.proofs.Common.{◌≡◌, ◌||◌, ◌+◌, ◌-◌, ℕ, Bool, true, false, eqb, leb, ltb, is_none, is_some, Option, Some, None, Result, Ok, Err, List, [], ◌∷◌, length, take, cond, refl, sym, ◌∙◌, ap}
use Rattle.std.proofs.lemmas.Bool.{ne_eqb}
use Rattle.std.specs.List.{count_by, slice_get, slice_index}
use Rattle.pr_num.specs.Agents.{agent_id}
use Rattle.pr_num.specs.Control.{prot_read}
use Rattle.pr_num.specs.Files.{FileTable, Descriptors}
use Rattle.pr_num.specs.Infos.{killed_by, queued_by}
use Rattle.pr_num.specs.Programs.{Program, rounded}
use Rattle.pr_num.specs.Signals.{signal_number, signal_of_number}
use Rattle.pr_num.specs.Spaces.{Space, bytes_for}
use Rattle.pr_num.specs.declared.errnos.Errno.{Errno}
use Rattle.pr_num.specs.declared.errnos.Errno.TheVariants.{Badf, Noent, Mfile, Nfile, Nospc, Spipe, Inval, Nomem, Fault, Again, Child, Notsup, Srch}
use Rattle.pr_num.specs.declared.files.OpenFile.{OpenFile}
use Rattle.pr_num.specs.declared.infos.Info.{Info}
use Rattle.pr_num.specs.Words.{word_bytes}
use Rattle.pr_num.specs.declared.mappings.BadByte.{BadByte}
use Rattle.pr_num.specs.declared.mappings.MappingKind.TheVariants.{Mapped}
use Rattle.pr_num.specs.declared.signals.Sig.{Sig}
use Rattle.pr_num.specs.declared.syscalls.Sysno.{Sysno}
use Rattle.pr_num.specs.declared.syscalls.Sysno.TheVariants as sys
use Rattle.pr_parts.specs.AddressSpaces.{with_break, with_bytes, with_mapping, zeros_at, gap_in}
use Rattle.pr_parts.specs.FileCalls.{FileEffect, refused, closed, creates, created_file, opened_file, opened, duplicated, piped, made_pipe, open_for_reading, open_for_writing, sought, described, with_file, with_open_at}
use Rattle.pr_parts.specs.FileTables.{open_of, free_fd, free_fd_behind, file_named}
use Rattle.pr_parts.specs.FileTransfers.{read_fd, write_fd}
use Rattle.pr_parts.specs.declared.files.FileNo.{FileNo}
use Rattle.pr_parts.specs.declared.files.FileNo.TheVariants.{BadFd, NoFile, NoPlace, TableFull, NoSpace, NotSeekable, BadOffset, NoReader, Sleep, NoMemory}
use Rattle.pr_model.specs.CallEffects.{call_effect}
use Rattle.pr_model.specs.Changes.{Change, files_are, space_is, signals, disposition_is, held_is, resumes, forks, reaps, becomes, makes_lwp, suspends, ends_process, Effect, does, sleeps, ends, gives, fails, is_over}
use Rattle.pr_model.specs.FileCallRows.{word_size, refusal_effect, file_effect, read_effect, write_effect, open_effect, close_effect, pipe_effect, dup_effect, lseek_effect, fstat_effect}
use Rattle.pr_num.specs.Limits.{last_lwp, sleep_limit, transfer_limit}
use Rattle.pr_model.specs.Lives.{by_fork, by_vfork}
use Rattle.pr_model.specs.LwpCalls.{lwp_create_effect, lwp_suspend_effect, lwp_continue_effect}
use Rattle.pr_model.specs.LwpTurns.{is_ready}
use Rattle.pr_model.specs.MemoryCalls.{can_write, path_at, unless_too_big, brk_effect, mmap_effect, munmap_effect, mprotect_effect}
use Rattle.pr_model.specs.ProcessCalls.{exit_effect, fork_effect, vfork_effect, wait_effect, program_named, exec_effect, sleep_effect}
use Rattle.pr_model.specs.Readers.{Children, no_child, all_live, first_zombie, children_of, life_of}
use Rattle.pr_model.specs.SignalCalls.{Sending, refuses, sends_nothing, sends, sending, sent_effect, send_effect, sigaction_effect, sigmask_effect, sigreturn_effect}
use Rattle.pr_model.specs.State.{TracedLwp, TracedProcess, TracedSystem}
use Rattle.pr_model.specs.declared.frames.Frame.{Frame}
use Rattle.pr_erasure.specs.Suiting.{IsSent, AreProper}

-- What system calls do: none sends a signal as a fault's, or makes an agent; and one that is ready does not sleep.

abbrev pub IsProperEffect : Effect → Type 0
IsProperEffect (does result changes) = AreProper changes
IsProperEffect sleeps = Unit {0}
IsProperEffect (ends how) = Unit {0}

-- an effect that is no sleep, and one of a call that sleeps unless it is ready
record IsDone (e : Effect) : Type 0 where
  proper : IsProperEffect e
  over : is_over e ≡ true

pub record IsKnown (ready : Bool) (e : Effect) : Type 0 where
  pub proper : IsProperEffect e
  pub over : ready ≡ true → is_over e ≡ true

known : (e : Effect) → IsDone e → IsKnown true e
known e d = record { proper = d.proper; over = λ ready. d.over }

-- ---- parts of effects

failed : (e : Errno) → IsDone (fails e)
failed e = record { proper = tt; over = refl }

gave : (value : ℕ) (changes : List Change) → AreProper changes → IsDone (gives value changes)
gave value changes proper = record { proper = proper; over = refl }

unless : (b : Bool) (x y : Effect) → IsDone x → IsDone y → IsDone (cond b x y)
unless true x y one other = one
unless false x y one other = other

-- an effect that may be a sleep
record IsFine (e : Effect) : Type 0 where
  proper : IsProperEffect e

fine : (e : Effect) → IsProperEffect e → IsFine e
fine e proper = record { proper = proper }

unless_fine : (b : Bool) (x y : Effect) → IsFine x → IsFine y → IsFine (cond b x y)
unless_fine true x y one other = one
unless_fine false x y one other = other

sleeper : (e : Effect) → IsFine e → IsKnown (is_over e) e
sleeper e f = record { proper = f.proper; over = λ ready. ready }

-- ---- files

-- a refusal that is no sleep
AwakeNo : FileNo → Type 0
AwakeNo BadFd = Unit {0}
AwakeNo NoFile = Unit {0}
AwakeNo NoPlace = Unit {0}
AwakeNo TableFull = Unit {0}
AwakeNo NoSpace = Unit {0}
AwakeNo NotSeekable = Unit {0}
AwakeNo BadOffset = Unit {0}
AwakeNo NoReader = Unit {0}
AwakeNo Sleep = ⊥
AwakeNo NoMemory = Unit {0}

Awake : {A : Type 0} → Result A FileNo → Type 0
Awake (Ok x) = Unit {0}
Awake (Err why) = AwakeNo why

refusal-done : (why : FileNo) → AwakeNo why → IsDone (refusal_effect why)
unfolding AwakeNo
refusal-done BadFd awake = failed Badf
refusal-done NoFile awake = failed Noent
refusal-done NoPlace awake = failed Mfile
refusal-done TableFull awake = failed Nfile
refusal-done NoSpace awake = failed Nospc
refusal-done NotSeekable awake = failed Spipe
refusal-done BadOffset awake = failed Inval
refusal-done NoReader awake = record { proper = (record { no_fault = refl }, tt); over = refl }
refusal-done Sleep awake = absurd awake
refusal-done NoMemory awake = failed Nomem

refusal-fine : (why : FileNo) → IsFine (refusal_effect why)
refusal-fine BadFd = record { proper = tt }
refusal-fine NoFile = record { proper = tt }
refusal-fine NoPlace = record { proper = tt }
refusal-fine TableFull = record { proper = tt }
refusal-fine NoSpace = record { proper = tt }
refusal-fine NotSeekable = record { proper = tt }
refusal-fine BadOffset = record { proper = tt }
refusal-fine NoReader = fine (refusal_effect NoReader) (record { no_fault = refl }, tt)
refusal-fine Sleep = record { proper = tt }
refusal-fine NoMemory = record { proper = tt }

-- a call on files that does not sleep
record IsAwake {A : Type 0} (e : FileEffect A) : Type 0 where
  awake : Awake e.answer

either : {A : Type 0} (b : Bool) (x y : FileEffect A) → IsAwake x → IsAwake y → IsAwake (cond b x y)
either true x y one other = one
either false x y one other = other

denied : {A : Type 0} (t : FileTable) (fds : Descriptors) (why : FileNo) → AwakeNo why
    → IsAwake {A = A} (refused t fds why)
unfolding Awake
denied t fds why awake = record { awake = awake }

file-done : (e : FileEffect ℕ) → IsAwake e → IsDone (file_effect e)
unfolding file_effect Awake
file-done e awake = by e.answer refl awake.awake
  where
    by : (r : Result ℕ FileNo) → e.answer ≡ r → Awake r → IsDone (file_effect e)
    by (Ok value) is it = rw is (gave value (files_are e.files e.fds ∷ []) (tt, tt))
    by (Err why) is it = rw is (refusal-done why it)

file-fine : (e : FileEffect ℕ) → IsFine (file_effect e)
unfolding file_effect
file-fine e = by e.answer refl
  where
    by : (r : Result ℕ FileNo) → e.answer ≡ r → IsFine (file_effect e)
    by (Ok value) is = rw is (fine (gives value (files_are e.files e.fds ∷ [])) (tt, tt))
    by (Err why) is = rw is (refusal-fine why)

module _ (t : FileTable) (fds : Descriptors) where
  file_opened-awake : (fd file flags : ℕ) (u : FileTable) → IsAwake (opened_file u fds fd file flags)
  unfolding opened_file Awake
  file_opened-awake fd file flags u = record { awake = tt }

  created-awake : (fd : ℕ) (name : List ℕ) (flags : ℕ) → IsAwake (created_file t fds fd name flags)
  unfolding created_file AwakeNo
  created-awake fd name flags =
      either (ltb (length t.files) 256) (opened_file (with_file t name []) fds fd (length t.files) flags)
      (refused t fds TableFull)
      (file_opened-awake fd (length t.files) flags (with_file t name [])) (denied t fds TableFull tt)

  opened-awake : (name : List ℕ) (flags : ℕ) → IsAwake (opened t fds name flags)
  unfolding opened AwakeNo
  opened-awake name flags = by (file_named t name) (free_fd fds) refl refl
    where
      by : (file free : Option ℕ) → file_named t name ≡ file → free_fd fds ≡ free → IsAwake (opened t fds name flags)
      by None None is place =
          rw (is, place)
          (either (creates flags) (refused t fds NoPlace) (refused t fds NoFile) (denied t fds NoPlace tt)
          (denied t fds NoFile tt))
      by None (Some fd) is place =
          rw (is, place)
          (either (creates flags) (created_file t fds fd name flags) (refused t fds NoFile)
          (created-awake fd name flags) (denied t fds NoFile tt))
      by (Some file) None is place = rw (is, place) (denied t fds NoPlace tt)
      by (Some file) (Some fd) is place = rw (is, place) (file_opened-awake fd file flags t)

  duplicated-awake : (fd : ℕ) → IsAwake (duplicated t fds fd)
  unfolding duplicated AwakeNo Awake
  duplicated-awake fd = by (open_of t fds fd) (free_fd fds) refl refl
    where
      by : (found : Option (ℕ × OpenFile)) (free : Option ℕ) → open_of t fds fd ≡ found → free_fd fds ≡ free
          → IsAwake (duplicated t fds fd)
      by None free is place = rw is (denied t fds BadFd tt)
      by (Some found) None is place = rw (is, place) (denied t fds NoPlace tt)
      by (Some found) (Some free) is place = rw (is, place) (record { awake = tt })

  sought-awake : (fd offset : ℕ) → IsAwake (sought t fds fd offset)
  unfolding sought AwakeNo Awake
  sought-awake fd offset = by (open_of t fds fd) refl
    where
      by : (found : Option (ℕ × OpenFile)) → open_of t fds fd ≡ found → IsAwake (sought t fds fd offset)
      by None is = rw is (denied t fds BadFd tt)
      by (Some found) is =
          let there : FileEffect ℕ = record {
            files = with_open_at t found.0 (record found.1 { offset = offset });
            fds = fds;
            answer = Ok offset;
          } in
          let moved : IsAwake there = record { awake = tt } in
          rw is (either _ (refused t fds NotSeekable) _ (denied t fds NotSeekable tt)
          (either _ there (refused t fds BadOffset) moved (denied t fds BadOffset tt)))

  module _ (space : Space) where
    open-done : (at flags : ℕ) → IsDone (open_effect t fds space at flags)
    unfolding open_effect
    open-done at flags = by (path_at space at) refl
      where
        by : (r : Result (List ℕ) Errno) → path_at space at ≡ r → IsDone (open_effect t fds space at flags)
        by (Err e) is = rw is (failed e)
        by (Ok name) is =
            rw is (unless _ (file_effect (opened t fds name flags)) (fails Inval)
            (file-done (opened t fds name flags) (opened-awake name flags)) (failed Inval))

    close-done : (fd : ℕ) → IsDone (close_effect t fds space fd)
    unfolding close_effect closed
    close-done fd = by (open_of t fds fd) refl
      where
        by : (found : Option (ℕ × OpenFile)) → open_of t fds fd ≡ found → IsDone (close_effect t fds space fd)
        by None is = rw is (failed Badf)
        by (Some found) is = rw is (gave 0 _ (tt, tt))

    dup-done : (fd : ℕ) → IsDone (dup_effect t fds space fd)
    unfolding dup_effect
    dup-done fd = file-done (duplicated t fds fd) (duplicated-awake fd)

    lseek-done : (fd offset : ℕ) → IsDone (lseek_effect t fds space fd offset)
    unfolding lseek_effect
    lseek-done fd offset = file-done (sought t fds fd offset) (sought-awake fd offset)

    fstat-done : (fd at : ℕ) → IsDone (fstat_effect t fds space fd at)
    unfolding fstat_effect described
    fstat-done fd at = by (open_of t fds fd) refl
      where
        by : (found : Option (ℕ × OpenFile)) → open_of t fds fd ≡ found → IsDone (fstat_effect t fds space fd at)
        by None is = rw is (failed Badf)
        by (Some found) is =
            rw is (unless _ (gives 0 (space_is _ ∷ [])) (fails Fault) (gave 0 (space_is _ ∷ []) (tt, tt))
            (failed Fault))

    read-fine : (fd at size : ℕ) → IsFine (read_effect t fds space fd at size)
    unfolding read_effect
    read-fine fd at size = by (read_fd t fds fd size).bytes refl
      where
        tried : (e : Effect) → IsFine e
            → IsFine
            (cond (is_none (open_for_reading t fds fd)) (fails Badf)
            (cond (ltb transfer_limit size) (fails Inval) (cond (can_write space at size) e (fails Fault))))
        tried e f =
            unless_fine (is_none (open_for_reading t fds fd)) (fails Badf)
            (cond (ltb transfer_limit size) (fails Inval) (cond (can_write space at size) e (fails Fault)))
            (fine (fails Badf) tt)
            (unless_fine (ltb transfer_limit size) (fails Inval) (cond (can_write space at size) e (fails Fault))
            (fine (fails Inval) tt)
            (unless_fine (can_write space at size) e (fails Fault) f (fine (fails Fault) tt)))

        by : (r : Result (List ℕ) FileNo) → (read_fd t fds fd size).bytes ≡ r
            → IsFine (read_effect t fds space fd at size)
        by (Ok bytes) is =
            rw is (tried
            (gives (length bytes)
            (files_are (read_fd t fds fd size).files fds ∷ space_is (with_bytes at bytes space) ∷ []))
            (fine (gives (length bytes)
            (files_are (read_fd t fds fd size).files fds ∷ space_is (with_bytes at bytes space) ∷ []))
            (tt, (tt, tt))))
        by (Err why) is = rw is (tried (refusal_effect why) (refusal-fine why))

    write-fine : (fd at size : ℕ) → IsFine (write_effect t fds space fd at size)
    unfolding write_effect
    write-fine fd at size = by (bytes_for prot_read space at size) refl
      where
        tried : (e : Effect) → IsFine e
            → IsFine
            (cond (is_none (open_for_writing t fds fd)) (fails Badf) (cond (ltb transfer_limit size) (fails Inval) e))
        tried e f =
            unless_fine (is_none (open_for_writing t fds fd)) (fails Badf)
            (cond (ltb transfer_limit size) (fails Inval) e) (fine (fails Badf) tt)
            (unless_fine (ltb transfer_limit size) (fails Inval) e (fine (fails Inval) tt) f)

        by : (r : Result (List ℕ) BadByte) → bytes_for prot_read space at size ≡ r
            → IsFine (write_effect t fds space fd at size)
        by (Err bad) is = rw is (tried (fails Fault) (fine (fails Fault) tt))
        by (Ok bytes) is = rw is (tried (file_effect (write_fd t fds fd bytes)) (file-fine (write_fd t fds fd bytes)))

    pipe-done : (at : ℕ) → IsDone (pipe_effect t fds space at)
    unfolding pipe_effect piped made_pipe
    pipe-done at = by (free_fd fds) refl
      where
        second : (reader : ℕ) (o : Option ℕ) → free_fd fds ≡ Some reader → free_fd_behind fds reader ≡ o
            → IsDone (pipe_effect t fds space at)
        second reader None first is =
            rw (first, is) (unless _ (fails Mfile) (fails Fault) (failed Mfile) (failed Fault))
        second reader (Some writer) first is = room (ltb (count_by is_some t.pipes) 256) refl
          where
            room : (b : Bool) → ltb (count_by is_some t.pipes) 256 ≡ b → IsDone (pipe_effect t fds space at)
            room true has =
                rw (first, is, has) (unless _ (gives 0 _) (fails Fault) (gave 0 _ (tt, (tt, tt))) (failed Fault))
            room false has = rw (first, is, has) (unless _ (fails Nfile) (fails Fault) (failed Nfile) (failed Fault))

        by : (o : Option ℕ) → free_fd fds ≡ o → IsDone (pipe_effect t fds space at)
        by None is = rw is (unless _ (fails Mfile) (fails Fault) (failed Mfile) (failed Fault))
        by (Some reader) is = second reader (free_fd_behind fds reader) is refl

-- ---- processes and the clock

exit-done : (status : ℕ) → IsDone (exit_effect status)
unfolding exit_effect
exit-done status = record { proper = tt; over = refl }

fork-done : (s : TracedSystem) (p : TracedProcess) (id : ℕ) (args : List ℕ) → IsDone (fork_effect s p id args)
unfolding fork_effect
fork-done s p id args =
    unless _ (fails Notsup) _ (failed Notsup)
    (unless _ (fails Again) _ (failed Again)
    (unless _ (gives s.made (forks by_fork args ∷ [])) (fails Nomem)
    (gave s.made (forks by_fork args ∷ []) (tt, tt)) (failed Nomem)))

vfork-done : (s : TracedSystem) (p : TracedProcess) (id : ℕ) (args : List ℕ) → IsDone (vfork_effect s p id args)
unfolding vfork_effect
vfork-done s p id args =
    unless _ (fails Notsup) _ (failed Notsup)
    (unless _ (fails Again) (gives s.made (forks by_vfork args ∷ [])) (failed Again)
    (gave s.made (forks by_vfork args ∷ []) (tt, tt)))

exec-done : (s : TracedSystem) (p : TracedProcess) (id at : ℕ) → IsDone (exec_effect s p id at)
unfolding exec_effect
exec-done s p id at = by (path_at p.space at) refl
  where
    named : (name : List ℕ) (o : Option Program) → path_at p.space at ≡ Ok name → program_named s.programs name ≡ o
        → IsDone (exec_effect s p id at)
    named name None is found = rw (is, found) (unless _ (fails Notsup) (fails Noent) (failed Notsup) (failed Noent))
    named name (Some program) is found =
        rw (is, found)
        (unless _ (fails Notsup) _ (failed Notsup)
        (unless _ (gives 0 (becomes program ∷ [])) (fails Nomem) (gave 0 (becomes program ∷ []) (tt, tt))
        (failed Nomem)))

    by : (r : Result (List ℕ) Errno) → path_at p.space at ≡ r → IsDone (exec_effect s p id at)
    by (Err e) is = rw is (unless _ (fails Notsup) (fails e) (failed Notsup) (failed e))
    by (Ok name) is = named name (program_named s.programs name) is refl

wait-fine : (space : Space) (children : Children) (at : ℕ) → IsFine (wait_effect space children at)
unfolding wait_effect
wait-fine space no_child at = fine (fails Child) tt
wait-fine space all_live at = fine sleeps tt
wait-fine space (first_zombie child status) at =
    let stored = gives child (reaps child ∷ space_is (with_bytes at (word_bytes status) space) ∷ []) in
    unless_fine (eqb at 0) (gives child (reaps child ∷ [])) (cond (can_write space at word_size) stored (fails Fault))
    (fine (gives child (reaps child ∷ [])) (tt, tt))
    (unless_fine (can_write space at word_size) stored (fails Fault) (fine stored (tt, (tt, tt)))
    (fine (fails Fault) tt))

sleep-fine : (clock since time : ℕ) → IsFine (sleep_effect clock since time)
unfolding sleep_effect
sleep-fine clock since time =
    unless_fine (ltb sleep_limit time) (fails Inval) (cond (leb (since + time) clock) (gives 0 []) sleeps)
    (fine (fails Inval) tt)
    (unless_fine (leb (since + time) clock) (gives 0 []) sleeps (fine (gives 0 []) tt) (fine sleeps tt))

-- ---- signals

sent-done : (own target : ℕ) (info : Info) → IsSent info → (x : Sending) → IsDone (sent_effect own target info x)
unfolding sent_effect
sent-done own target info sent (refuses e) = failed e
sent-done own target info sent sends_nothing = gave 0 [] tt
sent-done own target info sent (sends g) =
    unless _ (ends (ends_process (signal_number g))) (gives 0 (signals target g info ∷ []))
    (record { proper = tt; over = refl }) (gave 0 (signals target g info ∷ []) (sent, tt))

sigaction-done : (dispositions : List ℕ) (number disposition : ℕ)
    → IsDone (sigaction_effect dispositions number disposition)
unfolding sigaction_effect
sigaction-done dispositions number disposition = by (signal_of_number number) refl
  where
    by : (o : Option Sig) → signal_of_number number ≡ o → IsDone (sigaction_effect dispositions number disposition)
    by None is = rw is (failed Inval)
    by (Some g) is =
        rw is (unless _ (gives _ (disposition_is g disposition ∷ [])) (fails Inval)
        (gave _ (disposition_is g disposition ∷ []) (tt, tt)) (failed Inval))

sigmask-done : (held word : ℕ) → IsDone (sigmask_effect held word)
unfolding sigmask_effect
sigmask-done held word =
    unless _ (gives held (held_is _ ∷ [])) (fails Inval) (gave held (held_is _ ∷ []) (tt, tt)) (failed Inval)

sigreturn-done : (frames : List Frame) → IsDone (sigreturn_effect frames)
unfolding sigreturn_effect
sigreturn-done frames = by (slice_get frames (length frames - 1)) refl
  where
    by : (o : Option Frame) → slice_get frames (length frames - 1) ≡ o → IsDone (sigreturn_effect frames)
    by None is = rw is (failed Inval)
    by (Some frame) is = rw is (gave 0 (resumes frame (take (length frames - 1) frames) ∷ []) (tt, tt))

-- ---- memory and lwps

module _ (s : TracedSystem) (p : TracedProcess) where
  space-done : (value : ℕ) (space : Space) → IsDone (unless_too_big s p value space)
  space-done value space =
      unless _ (gives value (space_is space ∷ [])) (fails Nomem) (gave value (space_is space ∷ []) (tt, tt))
      (failed Nomem)

  brk-done : (end : ℕ) → IsDone (brk_effect s p end)
  unfolding brk_effect
  brk-done end = unless _ (fails Inval) _ (failed Inval) (space-done 0 (with_break end p.space))

  mmap-done : (len prot : ℕ) → IsDone (mmap_effect s p len prot)
  unfolding mmap_effect
  mmap-done len prot = by (gap_in (rounded len) p.space) refl
    where
      by : (o : Option ℕ) → gap_in (rounded len) p.space ≡ o → IsDone (mmap_effect s p len prot)
      by None is = rw is (unless _ (fails Inval) (fails Nomem) (failed Inval) (failed Nomem))
      by (Some at) is =
          rw is (unless _ (fails Inval) _ (failed Inval)
          (space-done at (with_mapping (zeros_at at (rounded len) prot Mapped) p.space)))

  munmap-done : (at len : ℕ) → IsDone (munmap_effect s p at len)
  unfolding munmap_effect
  munmap-done at len =
      unless _ (gives 0 (space_is _ ∷ [])) (fails Inval) (gave 0 (space_is _ ∷ []) (tt, tt)) (failed Inval)

  mprotect-done : (at len prot : ℕ) → IsDone (mprotect_effect s p at len prot)
  unfolding mprotect_effect
  mprotect-done at len prot =
      unless _ (gives 0 (space_is _ ∷ [])) (fails Inval) (gave 0 (space_is _ ∷ []) (tt, tt)) (failed Inval)

-- an id that is no more than the last of an lwp is not the agent's
no_agent : (n : ℕ) → ltb last_lwp n ≡ false → eqb n agent_id ≡ false
no_agent n within = ne_eqb n agent_id (λ is. clash (sym (ap (ltb last_lwp) is) ∙ within))
  where
    clash : true ≡ false → ⊥
    clash e = cc

created-done : (a b : Bool) (value new : ℕ) (regs : List ℕ) (held : ℕ) → (b ≡ false → eqb new agent_id ≡ false)
    → IsDone (cond (a || b) (fails Again) (gives value (makes_lwp new regs held ∷ [])))
created-done true b value new regs held plain = failed Again
created-done false true value new regs held plain = failed Again
created-done false false value new regs held plain = gave value (makes_lwp new regs held ∷ []) (plain refl, tt)

create-done : (p : TracedProcess) (id held pc sp r1 : ℕ) → IsDone (lwp_create_effect p id held pc sp r1)
unfolding lwp_create_effect
create-done p id held pc sp r1 =
    unless _ (fails Notsup) _ (failed Notsup)
    (created-done _ (ltb last_lwp p.next_lwp) p.next_lwp p.next_lwp _ held (no_agent p.next_lwp))

suspend-done : (p : TracedProcess) (id other : ℕ) → IsDone (lwp_suspend_effect p id other)
unfolding lwp_suspend_effect
suspend-done p id other =
    unless _ _ (fails Srch)
    (unless _ (fails Inval) (gives 0 (suspends other true ∷ [])) (failed Inval)
    (gave 0 (suspends other true ∷ []) (tt, tt))) (failed Srch)

continue-done : (p : TracedProcess) (other : ℕ) → IsDone (lwp_continue_effect p other)
unfolding lwp_continue_effect
continue-done p other =
    unless _ (gives 0 (suspends other false ∷ [])) (fails Srch) (gave 0 (suspends other false ∷ []) (tt, tt))
    (failed Srch)

-- ---- the calls

pub call-known : (s : TracedSystem) (pid : ℕ) (p : TracedProcess) (id : ℕ) (l : TracedLwp) (since : ℕ) (call : Sysno)
    (args : List ℕ) → IsKnown (is_ready s pid p id l since call args) (call_effect s pid p id l since call args)
unfolding call_effect is_ready send_effect
call-known s pid p id l since sys.Exit args = known _ (exit-done (slice_index args 0))
call-known s pid p id l since sys.Fork args = known _ (fork-done s p id args)
call-known s pid p id l since sys.Vfork args = known _ (vfork-done s p id args)
call-known s pid p id l since sys.Read args =
    sleeper _ (read-fine s.files p.fds p.space (slice_index args 0) (slice_index args 1) (slice_index args 2))
call-known s pid p id l since sys.Write args =
    sleeper _ (write-fine s.files p.fds p.space (slice_index args 0) (slice_index args 1) (slice_index args 2))
call-known s pid p id l since sys.Open args =
    known _ (open-done s.files p.fds p.space (slice_index args 0) (slice_index args 1))
call-known s pid p id l since sys.Close args = known _ (close-done s.files p.fds p.space (slice_index args 0))
call-known s pid p id l since sys.Wait args = sleeper _ (wait-fine p.space (children_of s pid) (slice_index args 0))
call-known s pid p id l since sys.Getpid args = known _ (gave pid [] tt)
call-known s pid p id l since sys.Getppid args = known _ (gave p.parent [] tt)
call-known s pid p id l since sys.Exec args = known _ (exec-done s p id (slice_index args 0))
call-known s pid p id l since sys.Pipe args = known _ (pipe-done s.files p.fds p.space (slice_index args 0))
call-known s pid p id l since sys.Dup args = known _ (dup-done s.files p.fds p.space (slice_index args 0))
call-known s pid p id l since sys.Lseek args =
    known _ (lseek-done s.files p.fds p.space (slice_index args 0) (slice_index args 1))
call-known s pid p id l since sys.Kill args =
    known _ (sent-done pid (slice_index args 0) (killed_by pid) (record { no_fault = refl })
    (sending (slice_index args 0) (slice_index args 1) (life_of s (slice_index args 0))))
call-known s pid p id l since sys.Sigaction args =
    known _ (sigaction-done p.dispositions (slice_index args 0) (slice_index args 1))
call-known s pid p id l since sys.Sigmask args = known _ (sigmask-done l.held (slice_index args 0))
call-known s pid p id l since sys.Pause args = record { proper = tt; over = λ ready. ready }
call-known s pid p id l since sys.Sigreturn args = known _ (sigreturn-done l.frames)
call-known s pid p id l since sys.Brk args = known _ (brk-done s p (slice_index args 0))
call-known s pid p id l since sys.Mmap args = known _ (mmap-done s p (slice_index args 0) (slice_index args 1))
call-known s pid p id l since sys.Munmap args = known _ (munmap-done s p (slice_index args 0) (slice_index args 1))
call-known s pid p id l since sys.Mprotect args =
    known _ (mprotect-done s p (slice_index args 0) (slice_index args 1) (slice_index args 2))
call-known s pid p id l since sys.Time args = known _ (gave s.clock [] tt)
call-known s pid p id l since sys.Sleep args = sleeper _ (sleep-fine s.clock since (slice_index args 0))
call-known s pid p id l since sys.LwpCreate args =
    known _ (create-done p id l.held (slice_index args 0) (slice_index args 1) (slice_index args 2))
call-known s pid p id l since sys.LwpExit args = record { proper = tt; over = λ ready. refl }
call-known s pid p id l since sys.LwpSuspend args = known _ (suspend-done p id (slice_index args 0))
call-known s pid p id l since sys.LwpContinue args = known _ (continue-done p (slice_index args 0))
call-known s pid p id l since sys.Fstat args =
    known _ (fstat-done s.files p.fds p.space (slice_index args 0) (slice_index args 1))
call-known s pid p id l since sys.Sigqueue args =
    known _ (sent-done pid (slice_index args 0) (queued_by pid (slice_index args 2)) (record { no_fault = refl })
    (sending (slice_index args 0) (slice_index args 1) (life_of s (slice_index args 0))))
