use Rattle.std.proofs.Common.{◌≡◌, ◌⊎◌, ◌==◌, ◌+◌, ℕ, true, false, Some, None, List, length, refl, inl, inr}
use Rattle.std.specs.Prelude.{nat_lt}
use Rattle.std.proofs.lemmas.Bool.{cases_Bool}
use Rattle.pr_num.specs.Limits.{file_size_limit, pipe_size_limit}
use Rattle.pr_num.specs.Files.{FileTable, Descriptors}
use Rattle.pr_num.specs.declared.files.OpenFile.{OpenFile}
use Rattle.pr_num.specs.declared.files.Target.TheVariants.{File, PipeReader, PipeWriter}
use Rattle.pr_parts.specs.FileCalls.{open_for_reading, open_for_writing}
use Rattle.pr_parts.specs.FileTransfers.{has_reader, has_writer, pipe_bytes, read_fd, read_file, read_pipe, write_fd, write_file, write_pipe}
use Rattle.pr_file.specs.Waits.{waits}

-- Which reads and writes wait.

-- ---- reads

module _ (t : FileTable) (pipe most : ℕ) where
  pub reads-some : (length (pipe_bytes t pipe) == 0) ≡ false → false ≡ waits (read_pipe t pipe most).bytes
  unfolding read_pipe
  reads-some some = rw some refl

  pub reads-empty : (length (pipe_bytes t pipe) == 0) ≡ true → has_writer t pipe ≡ waits (read_pipe t pipe most).bytes
  unfolding read_pipe
  reads-empty none =
      rw none (elim (cases_Bool (has_writer t pipe))
      [ inl written ↦ rw written refl | inr unwritten ↦ rw unwritten refl ])

pub ruleset reading_pipes = (reads-some, reads-empty)

module _ (t : FileTable) (fds : Descriptors) (fd most : ℕ) where
  pub reads-closed : open_for_reading t fds fd ≡ None → false ≡ waits (read_fd t fds fd most).bytes
  unfolding read_fd
  reads-closed closed = rw closed refl

  pub reads-file : (found : ℕ × OpenFile) (file : ℕ) → open_for_reading t fds fd ≡ Some found
      → found.1.target ≡ File file → false ≡ waits (read_fd t fds fd most).bytes
  unfolding read_fd read_file
  reads-file found file is of = rw is (rw of refl)

  pub reads-pipe : (found : ℕ × OpenFile) (pipe : ℕ) → open_for_reading t fds fd ≡ Some found
      → (found.1.target ≡ PipeReader pipe) ⊎ (found.1.target ≡ PipeWriter pipe)
      → waits (read_pipe t pipe most).bytes ≡ waits (read_fd t fds fd most).bytes
  unfolding read_fd
  reads-pipe found pipe is (inl of) = rw is (rw of refl)
  reads-pipe found pipe is (inr of) = rw is (rw of refl)

pub ruleset reading_files = (reads-closed, reads-file)

-- ---- writes

module _ (t : FileTable) (fds : Descriptors) (bytes : List ℕ) where
  pub writes-broken : (pipe : ℕ) → has_reader t pipe ≡ false → false ≡ waits (write_pipe t fds pipe bytes).answer
  unfolding write_pipe
  writes-broken pipe unread = rw unread refl

  pub writes-read : (pipe : ℕ) → has_reader t pipe ≡ true
      → nat_lt pipe_size_limit (length (pipe_bytes t pipe) + length bytes) ≡ waits (write_pipe t fds pipe bytes).answer
  unfolding write_pipe
  writes-read pipe read =
      rw read (elim (cases_Bool (nat_lt pipe_size_limit (length (pipe_bytes t pipe) + length bytes)))
      [ inl full ↦ rw full refl | inr room ↦ rw room refl ])

  pub writes-closed : (fd : ℕ) → open_for_writing t fds fd ≡ None → false ≡ waits (write_fd t fds fd bytes).answer
  unfolding write_fd
  writes-closed fd closed = rw closed refl

  pub writes-file : (fd : ℕ) (found : ℕ × OpenFile) (file : ℕ) → open_for_writing t fds fd ≡ Some found
      → found.1.target ≡ File file → false ≡ waits (write_fd t fds fd bytes).answer
  unfolding write_fd write_file
  writes-file fd found file is of =
      rw is (rw of
      (elim (cases_Bool (nat_lt file_size_limit (found.1.offset + length bytes)))
      [ inl long ↦ rw long refl | inr short ↦ rw short refl ]))

  pub writes-pipe : (fd : ℕ) (found : ℕ × OpenFile) (pipe : ℕ) → open_for_writing t fds fd ≡ Some found
      → (found.1.target ≡ PipeReader pipe) ⊎ (found.1.target ≡ PipeWriter pipe)
      → waits (write_pipe t fds pipe bytes).answer ≡ waits (write_fd t fds fd bytes).answer
  unfolding write_fd
  writes-pipe fd found pipe is (inl of) = rw is (rw of refl)
  writes-pipe fd found pipe is (inr of) = rw is (rw of refl)

pub ruleset writing_pipes = (writes-broken, writes-read)

pub ruleset writing_files = (writes-closed, writes-file)
