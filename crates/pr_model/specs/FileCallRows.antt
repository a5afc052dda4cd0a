use Rattle.std.specs.Prelude.{◌*◌, ℕ, List, [], ◌∷◌, ◌++◌, Result, Ok, Err, is_none, length, nat_lt, if◌then◌else◌}
use Rattle.pr_num.specs.Control.{prot_read}
use Rattle.pr_num.specs.Files.{FileTable, Descriptors}
use Rattle.pr_num.specs.Limits.{transfer_limit}
use Rattle.pr_num.specs.Spaces.{Space, bytes_for}
use Rattle.pr_num.specs.Words.{word_bytes}
use Rattle.pr_num.specs.declared.errnos.Errno.{Errno}
use Rattle.pr_num.specs.declared.errnos.Errno.TheVariants.{Badf, Noent, Mfile, Nfile, Nospc, Spipe, Inval, Pipe, Nomem, Fault, Intr}
use Rattle.pr_num.specs.declared.mappings.BadByte.{BadByte}
use Rattle.pr_num.specs.declared.signals.Sig.TheVariants.{Pipe as SigPipe}
use Rattle.pr_parts.specs.AddressSpaces.{with_bytes}
use Rattle.pr_parts.specs.FileCalls.{FileEffect, are_open_flags, closed, described, duplicated, opened, open_for_reading, open_for_writing, piped, sought}
use Rattle.pr_parts.specs.FileTransfers.{ReadEffect, read_fd, write_fd}
use Rattle.pr_parts.specs.declared.files.FileNo.{FileNo}
use Rattle.pr_parts.specs.declared.files.FileNo.TheVariants.{BadFd, NoFile, NoPlace, TableFull, NoSpace, NotSeekable, BadOffset, NoReader, Sleep, NoMemory}
use Rattle.pr_parts.specs.declared.files.Stat.{Stat}
use Rattle.pr_model.specs.Changes.{Effect, does, sleeps, gives, fails, files_are, space_is, signals_itself}
use Rattle.pr_model.specs.MemoryCalls.{can_write, path_at}
use Rattle.pr_num.specs.Infos.{of_broken_pipe}
use Rattle.pr_model.specs.declared.events.Res.TheVariants.{Error}

-- The system calls on files and pipes, a definition a call, of the files, of the descriptors and of the space of the
-- process. Each tries its refusals in their order.

-- the errno of a refusal of files
abbrev pub file_errno : FileNo → Errno
file_errno BadFd = Badf
file_errno NoFile = Noent
file_errno NoPlace = Mfile
file_errno TableFull = Nfile
file_errno NoSpace = Nospc
file_errno NotSeekable = Spipe
file_errno BadOffset = Inval
file_errno NoReader = Pipe
file_errno Sleep = Intr
file_errno NoMemory = Nomem

-- A refusal of files as an effect: a call that has to wait sleeps, and where nothing reads a pipe any more its writer
-- is sent SIGPIPE.
abbrev pub refusal_effect : FileNo → Effect
refusal_effect Sleep = sleeps
refusal_effect NoReader = does (Error Pipe) (signals_itself SigPipe of_broken_pipe ∷ [])
refusal_effect why = fails (file_errno why)

-- a call on files that gives a number
unfoldable pub file_effect : FileEffect ℕ → Effect
file_effect e = of e.answer
  where
    of : Result ℕ FileNo → Effect
    of (Ok value) = gives value (files_are e.files e.fds ∷ [])
    of (Err why) = refusal_effect why

-- how many bytes of memory hold a word
abbrev pub word_size : ℕ
word_size = 8

module _ (t : FileTable) (fds : Descriptors) (space : Space) where
  -- read(2): gives how many bytes were read. EBADF: not open for reading; EINVAL: more than 4,096 bytes; EFAULT: not
  -- all of the buffer can be written.
  unfoldable pub read_effect : ℕ → ℕ → ℕ → Effect
  read_effect fd at size =
      if is_none (open_for_reading t fds fd) then fails Badf
      else (if nat_lt transfer_limit size then fails Inval
      else (if can_write space at size then of (read_fd t fds fd size)
      else fails Fault))
    where
      given : FileTable → Result (List ℕ) FileNo → Effect
      given files (Ok bytes) = gives (length bytes) (files_are files fds ∷ space_is (with_bytes at bytes space) ∷ [])
      given files (Err why) = refusal_effect why

      of : ReadEffect → Effect
      of e = given e.files e.bytes

  -- write(2): gives how many bytes were written. EBADF: not open for writing; EINVAL: more than 4,096 bytes; EFAULT:
  -- not all of the buffer can be read; then what the file or pipe refuses.
  unfoldable pub write_effect : ℕ → ℕ → ℕ → Effect
  write_effect fd at size =
      if is_none (open_for_writing t fds fd) then fails Badf
      else (if nat_lt transfer_limit size then fails Inval
      else of (bytes_for prot_read space at size))
    where
      of : Result (List ℕ) BadByte → Effect
      of (Err bad) = fails Fault
      of (Ok bytes) = file_effect (write_fd t fds fd bytes)

  -- open(2): gives the least free descriptor. EFAULT, EINVAL: the path; EINVAL: the flags; ENOENT, EMFILE, ENFILE.
  unfoldable pub open_effect : ℕ → ℕ → Effect
  open_effect at flags = of (path_at space at)
    where
      of : Result (List ℕ) Errno → Effect
      of (Err e) = fails e
      of (Ok name) = if are_open_flags flags then file_effect (opened t fds name flags) else fails Inval

  -- close(2). EBADF.
  unfoldable pub close_effect : ℕ → Effect
  close_effect fd = of (closed t fds fd)
    where
      answered : FileTable → Descriptors → Result (Unit {0}) FileNo → Effect
      answered files descriptors (Ok done) = gives 0 (files_are files descriptors ∷ [])
      answered files descriptors (Err why) = refusal_effect why

      of : FileEffect (Unit {0}) → Effect
      of e = answered e.files e.fds e.answer

  -- pipe(2): stores the descriptors of its read end and its write end as two words. EFAULT, EMFILE, ENFILE.
  unfoldable pub pipe_effect : ℕ → Effect
  pipe_effect at = if can_write space at (2 * word_size) then of (piped t fds) else fails Fault
    where
      answered : FileTable → Descriptors → Result (ℕ × ℕ) FileNo → Effect
      answered files descriptors (Ok ends) =
          gives 0 (files_are files descriptors ∷ space_is (with_bytes at (word_bytes ends.0 ++ word_bytes ends.1) space)
          ∷ [])
      answered files descriptors (Err why) = refusal_effect why

      of : FileEffect (ℕ × ℕ) → Effect
      of e = answered e.files e.fds e.answer

  -- dup(2): gives the least free descriptor. EBADF, EMFILE.
  unfoldable pub dup_effect : ℕ → Effect
  dup_effect fd = file_effect (duplicated t fds fd)

  -- lseek(2): gives the new offset. EBADF, ESPIPE, EINVAL.
  unfoldable pub lseek_effect : ℕ → ℕ → Effect
  lseek_effect fd offset = file_effect (sought t fds fd offset)

  -- fstat(2): stores kind, size and offset as three words. EBADF, EFAULT.
  unfoldable pub fstat_effect : ℕ → ℕ → Effect
  fstat_effect fd at = of (described t fds fd)
    where
      words_of : Stat → List ℕ
      words_of stat = word_bytes stat.kind ++ word_bytes stat.size ++ word_bytes stat.offset

      of : Result Stat FileNo → Effect
      of (Err why) = refusal_effect why
      of (Ok stat) =
          if can_write space at (3 * word_size) then gives 0 (space_is (with_bytes at (words_of stat) space) ∷ [])
          else fails Fault
