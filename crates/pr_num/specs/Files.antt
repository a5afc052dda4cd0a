use Rattle.std.specs.Prelude.{◌==◌, ◌-◌, ℕ, Bool, false, List, [], ◌∷◌, Option, Some, None, replicate, slice_get, slice_set, nat_lt, if◌then◌else◌}
use Rattle.std.specs.List.{list_any}
use Rattle.pr_num.specs.Limits.{descriptor_limit}
use Rattle.pr_num.specs.declared.files.StoredFile.{StoredFile}
use Rattle.pr_num.specs.declared.files.OpenFile.{OpenFile}
use Rattle.pr_num.specs.declared.files.Access.{Access}
use Rattle.pr_num.specs.declared.files.Access.TheVariants.{Read, Write, Both}
use Rattle.pr_num.specs.declared.files.FdKind.{FdKind}
use Rattle.pr_num.specs.declared.files.FdKind.TheVariants as fd_kind
use Rattle.pr_num.specs.declared.files.Target.{Target}
use Rattle.pr_num.specs.declared.files.Target.TheVariants.{File, PipeReader, PipeWriter}

-- what a descriptor of an open file stands for, and its number in fstat(2) and in records
abbrev pub fd_kind_of : Target → FdKind
fd_kind_of (File place) = fd_kind.File
fd_kind_of (PipeReader place) = fd_kind.PipeReader
fd_kind_of (PipeWriter place) = fd_kind.PipeWriter

abbrev pub fd_kind_number : FdKind → ℕ
fd_kind_number fd_kind.File = 1
fd_kind_number fd_kind.PipeReader = 2
fd_kind_number fd_kind.PipeWriter = 3

-- for what a file is open, by number
abbrev pub access_number : Access → ℕ
access_number Read = 0
access_number Write = 1
access_number Both = 2

-- The files of the system. Pipes and open files keep their places in their lists while they stand; a place that is
-- free is taken again by the next one that is made, the least place first.
pub record FileTable : Type 0 where
  pub files : List StoredFile
  pub pipes : List (Option (List ℕ))
  pub opens : List (Option OpenFile)

-- A process's 64 places for descriptors, each the place of an open file.
abbrev pub Descriptors : Type 0
Descriptors = List (Option ℕ)

-- no descriptor is open
abbrev pub no_descriptors : Descriptors
no_descriptors = replicate descriptor_limit None

-- the pipe that an open file is an end of
abbrev pub pipe_of : Target → Option ℕ
pipe_of (File place) = None
pipe_of (PipeReader place) = Some place
pipe_of (PipeWriter place) = Some place

-- whether an open file, if one stands there, is an end of this pipe
abbrev pub is_end_of : ℕ → Option OpenFile → Bool
is_end_of pipe None = false
is_end_of pipe (Some o) = is_this (pipe_of o.target)
  where
    is_this : Option ℕ → Bool
    is_this None = false
    is_this (Some place) = place == pipe

-- without a pipe of which no open file is an end any more: a pipe stands while one of its ends is open
unfoldable pub without_idle_pipe : Option ℕ → FileTable → FileTable
without_idle_pipe None t = t
without_idle_pipe (Some pipe) t =
    if list_any (is_end_of pipe) t.opens then t else record t { pipes = slice_set t.pipes pipe None }

-- one descriptor fewer stands for the open file at a place; with the last one it is closed
unfoldable pub with_user_gone : FileTable → ℕ → FileTable
with_user_gone t place = at (unwrapped (slice_get t.opens place))
  where
    unwrapped : Option (Option OpenFile) → Option OpenFile
    unwrapped None = None
    unwrapped (Some o) = o

    at : Option OpenFile → FileTable
    at None = t
    at (Some o) =
        if nat_lt 1 o.users
        then record t { opens = slice_set t.opens place (Some (record o { users = o.users - 1 })) }
        else without_idle_pipe (pipe_of o.target) (record t { opens = slice_set t.opens place None })

-- every descriptor of a process is closed
unfoldable pub with_all_closed : FileTable → Descriptors → FileTable
with_all_closed t [] = t
with_all_closed t (None ∷ fds) = with_all_closed t fds
with_all_closed t (Some place ∷ fds) = with_all_closed (with_user_gone t place) fds
