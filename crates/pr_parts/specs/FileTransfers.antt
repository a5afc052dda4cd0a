use Rattle.std.specs.Prelude.{◌+◌, ◌-◌, ◌==◌, ℕ, Bool, false, List, [], ◌++◌, length, take, drop, replicate, Option, Some, None, Result, Ok, Err, nat_lt, if◌then◌else◌, slice_get, slice_set}
use Rattle.std.specs.List.{list_any}
use Rattle.pr_num.specs.Limits.{file_size_limit, pipe_size_limit}
use Rattle.pr_num.specs.Files.{FileTable, Descriptors}
use Rattle.pr_num.specs.declared.files.OpenFile.{OpenFile}
use Rattle.pr_num.specs.declared.files.StoredFile.{StoredFile}
use Rattle.pr_num.specs.declared.files.Target.{Target}
use Rattle.pr_num.specs.declared.files.Target.TheVariants.{File, PipeReader, PipeWriter}
use Rattle.pr_parts.specs.FileCalls.{FileEffect, refused, contents, open_for_reading, open_for_writing, with_open_at}
use Rattle.pr_parts.specs.declared.files.FileNo.{FileNo}
use Rattle.pr_parts.specs.declared.files.FileNo.TheVariants.{BadFd, NoSpace, NoReader, Sleep}

-- Reading and writing files and pipes. Each definition tries its refusals in their order.

-- ---- the ends of a pipe

abbrev pub reads_pipe : ℕ → Target → Bool
reads_pipe pipe (File place) = false
reads_pipe pipe (PipeReader place) = place == pipe
reads_pipe pipe (PipeWriter place) = false

abbrev pub writes_pipe : ℕ → Target → Bool
writes_pipe pipe (File place) = false
writes_pipe pipe (PipeReader place) = false
writes_pipe pipe (PipeWriter place) = place == pipe

-- whether an open file, if one stands there, is the read end of this pipe, and whether it is its write end
abbrev pub is_read_end : ℕ → Option OpenFile → Bool
is_read_end pipe None = false
is_read_end pipe (Some o) = reads_pipe pipe o.target

abbrev pub is_write_end : ℕ → Option OpenFile → Bool
is_write_end pipe None = false
is_write_end pipe (Some o) = writes_pipe pipe o.target

-- whether some descriptor can read a pipe, and whether some descriptor can write it
abbrev pub has_reader : FileTable → ℕ → Bool
has_reader t pipe = list_any (is_read_end pipe) t.opens

abbrev pub has_writer : FileTable → ℕ → Bool
has_writer t pipe = list_any (is_write_end pipe) t.opens

-- a pipe with other bytes
unfoldable pub with_pipe_bytes : FileTable → ℕ → List ℕ → FileTable
with_pipe_bytes t pipe bytes = record t { pipes = slice_set t.pipes pipe (Some bytes) }

-- the bytes that stand in a pipe
abbrev pub pipe_bytes : FileTable → ℕ → List ℕ
pipe_bytes t pipe = contents t (PipeReader pipe)

-- ---- read(2)

-- what a read makes of the files, and the bytes that it gives
pub record ReadEffect : Type 0 where
  pub files : FileTable
  pub bytes : Result (List ℕ) FileNo

-- how many bytes a read gave, or why it gave none
abbrev pub count_of : Result (List ℕ) FileNo → Result ℕ FileNo
count_of (Ok bytes) = Ok (length bytes)
count_of (Err why) = Err why

-- a buffer after a read: the bytes that it gave, and behind them what stood there
abbrev pub filled : List ℕ → Result (List ℕ) FileNo → List ℕ
filled buffer (Ok bytes) = bytes ++ drop (length bytes) buffer
filled buffer (Err why) = buffer

-- the bytes of a file from an offset on, at most so many
abbrev pub bytes_from : List ℕ → ℕ → ℕ → List ℕ
bytes_from bytes offset most = take most (drop offset bytes)

-- A file gives its bytes from the offset on, as many as there are and are asked for, and the offset moves behind them.
unfoldable pub read_file : FileTable → ℕ → OpenFile → ℕ → ReadEffect
read_file t place o most = record {
  files = with_open_at t place
      (record o { offset = o.offset + length (bytes_from (contents t o.target) o.offset most) });
  bytes = Ok (bytes_from (contents t o.target) o.offset most);
}

-- A pipe gives the bytes that were written first, and loses them. An empty one gives none where nothing can write it
-- any more, and else the read waits, also one of no bytes.
unfoldable pub read_pipe : FileTable → ℕ → ℕ → ReadEffect
read_pipe t pipe most =
    if length (pipe_bytes t pipe) == 0
    then (if has_writer t pipe then record { files = t; bytes = Err Sleep } else record { files = t; bytes = Ok [] })
    else record {
      files = with_pipe_bytes t pipe (drop most (pipe_bytes t pipe));
      bytes =
          Ok (take most (pipe_bytes t pipe));
    }

-- what an open file gives
abbrev pub read_open : FileTable → ℕ → OpenFile → ℕ → ReadEffect
read_open t place o most = from o.target
  where
    from : Target → ReadEffect
    from (File file) = read_file t place o most
    from (PipeReader pipe) = read_pipe t pipe most
    from (PipeWriter pipe) = read_pipe t pipe most

-- a read of at most so many bytes through a descriptor
unfoldable pub read_fd : FileTable → Descriptors → ℕ → ℕ → ReadEffect
read_fd t fds fd most = of_open (open_for_reading t fds fd)
  where
    of_open : Option (ℕ × OpenFile) → ReadEffect
    of_open None = record { files = t; bytes = Err BadFd }
    of_open (Some found) = read_open t found.0 found.1 most

-- ---- write(2)

-- bytes with others written over them from an offset on: what lies between their end and the offset is zeros
abbrev pub written_over : List ℕ → ℕ → List ℕ → List ℕ
written_over bytes offset others =
    take offset bytes ++ replicate (offset - length bytes) 0 ++ others ++ drop (offset + length others) bytes

-- the bytes of a file after a write: a write of no bytes leaves them, also behind their end
abbrev pub after_write : List ℕ → ℕ → List ℕ → List ℕ
after_write bytes offset others = if length others == 0 then bytes else written_over bytes offset others

-- a file with other bytes
unfoldable pub with_file_bytes : FileTable → ℕ → List ℕ → FileTable
with_file_bytes t place bytes = at (slice_get t.files place)
  where
    at : Option StoredFile → FileTable
    at None = t
    at (Some f) = record t { files = slice_set t.files place (record f { bytes = bytes }) }

-- A file takes all bytes from the offset on, which moves behind them, unless it would be longer than 65,536 bytes.
unfoldable pub write_file : FileTable → Descriptors → ℕ → OpenFile → ℕ → List ℕ → FileEffect ℕ
write_file t fds place o file bytes =
    if nat_lt file_size_limit (o.offset + length bytes)
    then refused t fds NoSpace
    else record {
      files = with_open_at (with_file_bytes t file (after_write (contents t o.target) o.offset bytes)) place
          (record o { offset = o.offset + length bytes });
      fds = fds;
      answer = Ok (length bytes);
    }

-- A pipe takes all bytes behind those that it has. Where nothing can read it any more the write is refused, and where
-- it has no room for all of them, 4,096 bytes in all, the write waits.
unfoldable pub write_pipe : FileTable → Descriptors → ℕ → List ℕ → FileEffect ℕ
write_pipe t fds pipe bytes =
    if has_reader t pipe
    then (if nat_lt pipe_size_limit (length (pipe_bytes t pipe) + length bytes)
    then refused t fds Sleep
    else record { files = with_pipe_bytes t pipe (pipe_bytes t pipe ++ bytes); fds = fds; answer = Ok (length bytes) })
    else refused t fds NoReader

-- what an open file takes
abbrev pub write_open : FileTable → Descriptors → ℕ → OpenFile → List ℕ → FileEffect ℕ
write_open t fds place o bytes = into o.target
  where
    into : Target → FileEffect ℕ
    into (File file) = write_file t fds place o file bytes
    into (PipeReader pipe) = write_pipe t fds pipe bytes
    into (PipeWriter pipe) = write_pipe t fds pipe bytes

-- a write of bytes through a descriptor
unfoldable pub write_fd : FileTable → Descriptors → ℕ → List ℕ → FileEffect ℕ
write_fd t fds fd bytes = of_open (open_for_writing t fds fd)
  where
    of_open : Option (ℕ × OpenFile) → FileEffect ℕ
    of_open None = refused t fds BadFd
    of_open (Some found) = write_open t fds found.0 found.1 bytes
