use Rattle.std.specs.Prelude.{is_some, is_ok, count_by, unwrap_or, slice_get, true, false, ◌+◌, ◌%◌, ◌==◌, ℕ, Bool, List, [], ◌∷◌, ◌++◌, length, Option, Some, None, Result, Ok, Err, nat_lt, nat_le, ◌||◌, ◌&&◌, if◌then◌else◌, slice_set}
use Rattle.std.specs.Option.{option_map, option_and_then}
use Rattle.pr_num.specs.Limits.{file_limit, file_size_limit, pipe_limit}
use Rattle.pr_num.specs.Files.{FileTable, Descriptors, with_user_gone, pipe_of, access_number, fd_kind_number, fd_kind_of}
use Rattle.pr_num.specs.declared.files.Access.{Access}
use Rattle.pr_num.specs.declared.files.Access.TheVariants.{Read, Write, Both}
use Rattle.pr_num.specs.declared.files.OpenFile.{OpenFile}
use Rattle.pr_num.specs.declared.files.Target.{Target}
use Rattle.pr_num.specs.declared.files.Target.TheVariants.{File, PipeReader, PipeWriter}
use Rattle.pr_parts.specs.FileTables.{free_place, with_placed, at_place, free_fd, free_fd_behind, open_of, file_named}
use Rattle.pr_parts.specs.declared.files.FileNo.{FileNo}
use Rattle.pr_parts.specs.declared.files.Stat.{Stat}
use Rattle.pr_parts.specs.declared.files.FileNo.TheVariants.{BadFd, NoFile, NoPlace, TableFull, NotSeekable, BadOffset, NoMemory}

-- The calls on files and descriptors. Each definition tries its refusals in their order.

-- what a call makes of the files and of the descriptors of its process, and what it answers
pub record FileEffect (A : Type 0) : Type 0 where
  pub files : FileTable
  pub fds : Descriptors
  pub answer : Result A FileNo

-- a refused call changes nothing
abbrev pub refused : {A : Type 0} → FileTable → Descriptors → FileNo → FileEffect A
refused t fds why = record { files = t; fds = fds; answer = Err why }

-- what a call does that may find no memory: where it found none it was refused, but every other refusal comes before
-- that
abbrev pub unless_no_memory : {A : Type 0} → FileTable → Descriptors → Result A FileNo → FileEffect A → FileEffect A
unless_no_memory t fds (Err NoMemory) done = if is_ok done.answer then refused t fds NoMemory else done
unless_no_memory t fds _ done = done

-- no file, pipe or open file
abbrev pub no_files : FileTable
no_files = record { files = []; pipes = []; opens = [] }

-- one file more
unfoldable pub with_file : FileTable → List ℕ → List ℕ → FileTable
with_file t name bytes = record t { files = t.files ++ record { name = name; bytes = bytes } ∷ [] }

-- an open file at its beginning, for which one descriptor stands
abbrev pub first_open : Target → Access → OpenFile
first_open target access = record { target = target; access = access; offset = 0; users = 1 }

-- one open file more, at the least free place
unfoldable pub with_open : FileTable → OpenFile → FileTable
with_open t o = record t { opens = with_placed t.opens o }

-- one descriptor more stands for the open file at a place
unfoldable pub with_user_added : FileTable → ℕ → FileTable
with_user_added t place = at (at_place t.opens place)
  where
    at : Option OpenFile → FileTable
    at None = t
    at (Some o) = record t { opens = slice_set t.opens place (Some (record o { users = o.users + 1 })) }

-- ---- close(2)

unfoldable pub closed : FileTable → Descriptors → ℕ → FileEffect (Unit {0})
closed t fds fd = of_open (open_of t fds fd)
  where
    of_open : Option (ℕ × OpenFile) → FileEffect (Unit {0})
    of_open None = refused t fds BadFd
    of_open (Some found) = record { files = with_user_gone t found.0; fds = slice_set fds fd None; answer = Ok tt }

-- ---- dup(2): the least free descriptor stands for the same open file

unfoldable pub duplicated : FileTable → Descriptors → ℕ → FileEffect ℕ
duplicated t fds fd = of_open (open_of t fds fd) (free_fd fds)
  where
    of_open : Option (ℕ × OpenFile) → Option ℕ → FileEffect ℕ
    of_open None free = refused t fds BadFd
    of_open (Some found) None = refused t fds NoPlace
    of_open (Some found) (Some free) =
        record { files = with_user_added t found.0; fds = slice_set fds free (Some found.0); answer = Ok free }

-- ---- fork(2): the child's descriptors are the parent's, for the same open files

unfoldable pub with_all_shared : FileTable → Descriptors → FileTable
with_all_shared t [] = t
with_all_shared t (None ∷ fds) = with_all_shared t fds
with_all_shared t (Some place ∷ fds) = with_all_shared (with_user_added t place) fds

-- ---- open(2)

-- The flags of an open: 0 for reading, 1 for writing, 2 for both, and 256 beside them to make the file where there is
-- none of its name.
abbrev pub are_open_flags : ℕ → Bool
are_open_flags flags = nat_le flags 2 || (nat_le 256 flags && nat_le flags 258)

abbrev pub creates : ℕ → Bool
creates flags = nat_le 256 flags

abbrev pub access_of : ℕ → Access
access_of flags = if flags % 256 == 0 then Read else (if flags % 256 == 1 then Write else Both)

-- the file at a place is opened, and the descriptor stands for it
unfoldable pub opened_file : FileTable → Descriptors → ℕ → ℕ → ℕ → FileEffect ℕ
opened_file t fds fd file flags = record {
  files = with_open t (first_open (File file) (access_of flags));
  fds = slice_set fds fd (Some (free_place t.opens));
  answer = Ok fd;
}

-- a file without bytes is made and opened, unless 256 files stand
unfoldable pub created_file : FileTable → Descriptors → ℕ → List ℕ → ℕ → FileEffect ℕ
created_file t fds fd name flags =
    if nat_lt (length t.files) file_limit then opened_file (with_file t name []) fds fd
    (length t.files) flags else refused t fds TableFull

unfoldable pub opened : FileTable → Descriptors → List ℕ → ℕ → FileEffect ℕ
opened t fds name flags = found (file_named t name) (free_fd fds)
  where
    made : Option ℕ → FileEffect ℕ
    made None = refused t fds NoPlace
    made (Some fd) = created_file t fds fd name flags

    found : Option ℕ → Option ℕ → FileEffect ℕ
    found None free = if creates flags then made free else refused t fds NoFile
    found (Some file) None = refused t fds NoPlace
    found (Some file) (Some fd) = opened_file t fds fd file flags

-- ---- pipe(2)

-- a pipe more, at the least free place, with its read end
unfoldable pub with_read_end : FileTable → FileTable
with_read_end t =
    with_open (record t { pipes = with_placed t.pipes [] }) (first_open (PipeReader (free_place t.pipes)) Read)

-- the same with both ends
unfoldable pub with_pipe : FileTable → FileTable
with_pipe t = with_open (with_read_end t) (first_open (PipeWriter (free_place t.pipes)) Write)

-- a pipe is made, and two descriptors stand for its ends
unfoldable pub made_pipe : FileTable → Descriptors → ℕ → ℕ → FileEffect (ℕ × ℕ)
made_pipe t fds reader writer = record {
  files = with_pipe t;
  fds = slice_set (slice_set fds reader (Some (free_place t.opens))) writer (Some (free_place (with_read_end t).opens));
  answer = Ok (reader, writer);
}

-- the two least free descriptors stand for the read end and the write end of a new pipe, unless 256 pipes stand
unfoldable pub piped : FileTable → Descriptors → FileEffect (ℕ × ℕ)
piped t fds = from (free_fd fds)
  where
    ends : ℕ → Option ℕ → FileEffect (ℕ × ℕ)
    ends reader None = refused t fds NoPlace
    ends reader (Some writer) =
        if nat_lt (count_by is_some t.pipes) pipe_limit then made_pipe t fds reader writer else refused t fds TableFull

    from : Option ℕ → FileEffect (ℕ × ℕ)
    from None = refused t fds NoPlace
    from (Some reader) = ends reader (free_fd_behind fds reader)

-- ---- what a descriptor is open for

abbrev pub reads : Access → Bool
reads Read = true
reads Write = false
reads Both = true

abbrev pub writes : Access → Bool
writes Read = false
writes Write = true
writes Both = true

abbrev pub if_reads : ℕ × OpenFile → Option (ℕ × OpenFile)
if_reads found = if reads found.1.access then Some found else None

abbrev pub if_writes : ℕ × OpenFile → Option (ℕ × OpenFile)
if_writes found = if writes found.1.access then Some found else None

-- the open file that a descriptor stands for, with its place, where it is open for reading
unfoldable pub open_for_reading : FileTable → Descriptors → ℕ → Option (ℕ × OpenFile)
open_for_reading t fds fd = option_and_then if_reads (open_of t fds fd)

-- the same where it is open for writing
unfoldable pub open_for_writing : FileTable → Descriptors → ℕ → Option (ℕ × OpenFile)
open_for_writing t fds fd = option_and_then if_writes (open_of t fds fd)

-- ---- lseek(2)

-- another open file at a place
unfoldable pub with_open_at : FileTable → ℕ → OpenFile → FileTable
with_open_at t place o = record t { opens = slice_set t.opens place (Some o) }

-- the bytes of what an open file reads and writes
abbrev pub contents : FileTable → Target → List ℕ
contents t (File place) = unwrap_or (option_map (λ f. f.bytes) (slice_get t.files place)) []
contents t (PipeReader place) = unwrap_or (at_place t.pipes place) []
contents t (PipeWriter place) = unwrap_or (at_place t.pipes place) []

unfoldable pub sought : FileTable → Descriptors → ℕ → ℕ → FileEffect ℕ
sought t fds fd offset = of_open (open_of t fds fd)
  where
    of_open : Option (ℕ × OpenFile) → FileEffect ℕ
    of_open None = refused t fds BadFd
    of_open (Some found) =
        if is_some (pipe_of found.1.target)
        then refused t fds NotSeekable
        else (if nat_le offset file_size_limit
        then record {
          files = with_open_at t found.0 (record found.1 { offset = offset });
          fds = fds;
          answer =
              Ok offset;
        }
        else refused t fds BadOffset)

-- ---- fstat(2)

abbrev pub name_of : FileTable → Target → Option (List ℕ)
name_of t (File place) = option_map (λ f. f.name) (slice_get t.files place)
name_of t (PipeReader place) = None
name_of t (PipeWriter place) = None

abbrev pub stat_of : FileTable → OpenFile → Stat
stat_of t o = record {
  kind = fd_kind_number (fd_kind_of o.target);
  mode = access_number o.access;
  size = length (contents t o.target);
  offset = o.offset;
  name = name_of t o.target;
}

unfoldable pub described : FileTable → Descriptors → ℕ → Result Stat FileNo
described t fds fd = of_open (open_of t fds fd)
  where
    of_open : Option (ℕ × OpenFile) → Result Stat FileNo
    of_open None = Err BadFd
    of_open (Some found) = Ok (stat_of t found.1)
