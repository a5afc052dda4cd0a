use Rattle.std.specs.Prelude.{◌≡◌, ◌==◌, ◌≤◌, ◌+◌, ◌<◌, ◌^◌, ◌&&◌, ℕ, Bool, true, false, count_by, not, List, [], ◌∷◌, length, Option, Some, None, is_some, is_none, nat_lt, drop, position, slice_get, bytes_eq}
use Rattle.std.specs.List.{All, list_any, position_or_len}
use Rattle.std.specs.Option.{option_map, option_flatten}
use Rattle.pr_num.specs.Limits.{file_limit, file_size_limit, pipe_limit, pipe_size_limit}
use Rattle.pr_num.specs.Files.{FileTable, Descriptors, is_end_of}
use Rattle.pr_num.specs.declared.files.OpenFile.{OpenFile}
use Rattle.pr_num.specs.declared.files.StoredFile.{StoredFile}
use Rattle.pr_num.specs.declared.files.Target.{Target}
use Rattle.pr_num.specs.declared.files.Target.TheVariants.{File, PipeReader, PipeWriter}

-- What stands in a table of files and in a process's descriptors, and what is always so.

-- ---- places that are taken again

-- the least free place, which is a new one at the end where all are taken
abbrev pub free_place : {X : Type 0} → List (Option X) → ℕ
free_place xs = position_or_len is_none xs

-- the list with something at its least free place
abbrev pub with_placed : {X : Type 0} → List (Option X) → X → List (Option X)
with_placed [] x = Some x ∷ []
with_placed (None ∷ xs) x = Some x ∷ xs
with_placed (Some y ∷ xs) x = Some y ∷ with_placed xs x

-- what stands at a place, none where the place is free or there is no such place
abbrev pub at_place : {X : Type 0} → List (Option X) → ℕ → Option X
at_place xs place = option_flatten (slice_get xs place)

-- ---- descriptors

-- the least descriptor of a process that is free
abbrev pub free_fd : Descriptors → Option ℕ
free_fd fds = position is_none fds

-- the least free descriptor that is greater than this one
abbrev pub free_fd_behind : Descriptors → ℕ → Option ℕ
free_fd_behind fds fd = option_map (λ i. fd + 1 + i) (position is_none (drop (fd + 1) fds))

-- the open file at a place, with the place
abbrev pub open_with_place : FileTable → Option ℕ → Option (ℕ × OpenFile)
open_with_place t None = None
open_with_place t (Some place) = option_map (λ o. (place, o)) (at_place t.opens place)

-- the open file that a descriptor stands for, with its place; none where the descriptor is not open
unfoldable pub open_of : FileTable → Descriptors → ℕ → Option (ℕ × OpenFile)
open_of t fds fd = open_with_place t (at_place fds fd)

-- ---- files

abbrev pub has_name : List ℕ → StoredFile → Bool
has_name name f = bytes_eq f.name name

-- the place of the file of a name
unfoldable pub file_named : FileTable → List ℕ → Option ℕ
file_named t name = position (has_name name) t.files

-- ---- what is always so

-- whether what an open file reads and writes stands, of these files and these places of pipes
abbrev pub stands : List StoredFile → List (Option (List ℕ)) → Target → Bool
stands files pipes (File place) = nat_lt place (length files)
stands files pipes (PipeReader place) = is_some (at_place pipes place)
stands files pipes (PipeWriter place) = is_some (at_place pipes place)

-- An open file has a descriptor that stands for it, its offset is no further than the longest file's end, and what it
-- reads and writes stands.
pub record IsOpenFile (files : List StoredFile) (pipes : List (Option (List ℕ))) (o : OpenFile) : Type 0 where
  pub used : 1 ≤ o.users
  pub within : o.offset ≤ file_size_limit
  pub target_stands : stands files pipes o.target ≡ true

-- a place of the open files is free, or has an open file that is in order
abbrev pub IsOpenPlace : List StoredFile → List (Option (List ℕ)) → Option OpenFile → Type 0
IsOpenPlace files pipes None = Unit {0}
IsOpenPlace files pipes (Some o) = IsOpenFile files pipes o

-- a place of the pipes is free, or has a pipe of at most 4,096 bytes
abbrev pub IsPipePlace : Option (List ℕ) → Type 0
IsPipePlace None = Unit {0}
IsPipePlace (Some bytes) = length bytes ≤ pipe_size_limit

-- a file has at most 65,536 bytes
abbrev pub IsShortFile : StoredFile → Type 0
IsShortFile f = length f.bytes ≤ file_size_limit

-- whether no two files have one name
abbrev pub names_differ : List StoredFile → Bool
names_differ [] = true
names_differ (f ∷ fs) = not (list_any (has_name f.name) fs) && names_differ fs

-- A table of files: at most 256 files with names of their own, at most 256 places for pipes, no file and no pipe longer
-- than it can be, and open files that are in order.
pub record IsFileTable (t : FileTable) : Type 0 where
  pub few_files : length t.files ≤ file_limit
  pub few_pipes : length t.pipes ≤ pipe_limit
  pub short_files : All IsShortFile t.files
  pub short_pipes : All IsPipePlace t.pipes
  pub own_names : names_differ t.files ≡ true
  pub open_files : All (IsOpenPlace t.files t.pipes) t.opens

-- each count of descriptors of an open file has room for so many more
abbrev pub HasRoomAt : ℕ → Option OpenFile → Type 0
HasRoomAt more None = Unit {0}
HasRoomAt more (Some o) = o.users + more < 2 ^ 32

pub record HasRoom (t : FileTable) (more : ℕ) : Type 0 where
  pub each : All (HasRoomAt more) t.opens

-- Each pipe that stands has an end that is open.
pub record PipesHaveEnds (t : FileTable) : Type 0 where
  pub each : (pipe : ℕ) → is_some (at_place t.pipes pipe) ≡ true → list_any (is_end_of pipe) t.opens ≡ true

-- ---- which descriptors are open

abbrev pub users_of : Option OpenFile → ℕ
users_of None = 0
users_of (Some o) = o.users

-- how many descriptors the open file at a place counts, 0 where no file is open there
abbrev pub users_at : FileTable → ℕ → ℕ
users_at t place = users_of (at_place t.opens place)

-- whether a descriptor stands for the open file at a place
abbrev pub stands_for : ℕ → Option ℕ → Bool
stands_for place None = false
stands_for place (Some other) = other == place

-- how many descriptors of a process do
abbrev pub count_at : Descriptors → ℕ → ℕ
count_at fds place = count_by (stands_for place) fds

-- A process's descriptors are open in a table of files: each open file counts at least those that stand for it.
pub record AreOpenIn (fds : Descriptors) (t : FileTable) : Type 0 where
  pub each : (place : ℕ) → count_at fds place ≤ users_at t place

-- What a call of a process makes of the files and of its descriptors: each open file counts as many descriptors more,
-- or fewer, as now stand for it. So where the open files count all descriptors of all processes, they do so afterwards.
pub record CountsUsers (t : FileTable) (fds : Descriptors) (files : FileTable) (after : Descriptors) : Type 0 where
  pub each : (place : ℕ) → users_at files place + count_at fds place ≡ users_at t place + count_at after place
