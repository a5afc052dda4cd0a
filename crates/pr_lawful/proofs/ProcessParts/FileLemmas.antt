use Rattle.std.proofs.Common.{◌≡◌, ℕ, ◌+◌, ◌<◌, ◌≤◌, Bool, true, false, eqb, ltb, leb, Ok, Option, Some, None, is_some, is_none, List, length, set, drop, refl, ◌∙◌, ap, arith, length-drop, []}
use Rattle.std.specs.List.{count_by, position}
use Rattle.std.proofs.lemmas.Bool.{ltb-true, ltb-false, leb-true}
use Rattle.std.proofs.lemmas.List.{length-set, length-take}
pub use Rattle.pr_keeps.proofs.KeepsLemmas.{choice}
use Rattle.pr_num.specs.Limits.{file_limit, file_size_limit, pipe_limit, pipe_size_limit}
use Rattle.pr_num.specs.Files.{FileTable, Descriptors, pipe_of}
use Rattle.pr_num.specs.declared.files.OpenFile.{OpenFile}
use Rattle.pr_num.specs.declared.files.Target.{Target}
use Rattle.pr_num.specs.declared.files.Target.TheVariants.{File, PipeReader, PipeWriter}
use Rattle.pr_parts.specs.FileCalls.{FileEffect, access_of, closed, contents, created_file, creates, duplicated, made_pipe, open_for_reading, open_for_writing, opened, opened_file, piped, refused, sought, with_file, with_open_at}
use Rattle.pr_parts.specs.FileTables.{CountsUsers, IsFileTable, PipesHaveEnds, at_place, count_at, file_named, free_fd_behind, free_place, has_name, open_of, users_at}
use Rattle.pr_parts.specs.FileTransfers.{ReadEffect, bytes_from, has_reader, has_writer, pipe_bytes, read_fd, read_file, read_open, read_pipe, write_fd, write_file, write_open, write_pipe}
use Rattle.pr_parts.specs.declared.files.FileNo.TheVariants.{BadFd, BadOffset, NotSeekable}
use Rattle.pr_file_laws.proofs.CountLemmas.{CountsUsers-closed, CountsUsers-duplicated, CountsUsers-opened, CountsUsers-piped, open_of-there, read-there, write-there, users-sought, users-read, users-written}
use Rattle.pr_file_laws.proofs.EndLemmas.{ends-closed, ends-duplicated, ends-opened, ends-piped, ends-sought, ends-read, ends-written}
use Rattle.pr_file_laws.proofs.TableLemmas.{IsFileTable-user_gone, IsFileTable-user_added, IsFileTable-created, IsFileTable-opened, IsFileTable-with_pipe, IsFileTable-moved, IsFileTable-dropped, IsFileTable-extended, IsFileTable-written, IsOpenFile-at, length-contents}
use Rattle.pr_num.proofs.TableLemmas.{position-within}

-- What a call on files makes of a table that is in order is in order, and counts the descriptors that there are then.

-- the table and the number of places for descriptors after a call
pub record IsOrdered {A : Type 0} (t : FileTable) (fds : Descriptors) (e : FileEffect A) : Type 0 where
  pub table : IsFileTable e.files
  pub places : length e.fds ≡ length fds

pub record IsFair {A : Type 0} (t : FileTable) (fds : Descriptors) (e : FileEffect A) : Type 0 where
  pub table : IsFileTable e.files
  pub pipes : PipesHaveEnds e.files
  pub counted : CountsUsers t fds e.files e.fds
  pub places : length e.fds ≡ length fds

module _ (t : FileTable) (fds : Descriptors) (h : IsFileTable t) where
  same : {A : Type 0} (why : _) → IsOrdered t fds (refused {A = A} t fds why)
  same why = record { table = h; places = refl }

  -- ---- close and dup

  closed-ordered : (fd : ℕ) → IsOrdered t fds (closed t fds fd)
  unfolding closed
  closed-ordered fd = by (open_of t fds fd) refl
    where
      by : (o : Option (ℕ × OpenFile)) → open_of t fds fd ≡ o → IsOrdered t fds (closed t fds fd)
      by None is = rw is (same BadFd)
      by (Some found) is = rw is (record { table = IsFileTable-user_gone t found.0 h; places = length-set fds fd None })

  duplicated-ordered : (fd : ℕ) → IsOrdered t fds (duplicated t fds fd)
  unfolding duplicated
  duplicated-ordered fd = by (open_of t fds fd) (position is_none fds) refl refl
    where
      by : (o : Option (ℕ × OpenFile)) (free : Option ℕ) → open_of t fds fd ≡ o → position is_none fds ≡ free
          → IsOrdered t fds (duplicated t fds fd)
      by None free is at = rw is (same BadFd)
      by (Some found) None is at = rw (is, at) (record { table = h; places = refl })
      by (Some found) (Some free) is at =
          rw (is, at) (record {
            table = IsFileTable-user_added t found.0 h;
            places = length-set fds free (Some found.0);
          })

  -- ---- open and pipe

  opened_file-ordered : (fd file flags : ℕ) → file < length t.files → IsOrdered t fds (opened_file t fds fd file flags)
  unfolding opened_file
  opened_file-ordered fd file flags within = record {
    table = IsFileTable-opened t file (access_of flags) within h;
    places = length-set fds fd (Some (free_place t.opens));
  }

  created-ordered : (fd : ℕ) (name : List ℕ) (flags : ℕ) → file_named t name ≡ None
      → IsOrdered t fds (created_file t fds fd name flags)
  unfolding created_file opened_file
  created-ordered fd name flags none =
      choice (IsOrdered t fds) (ltb (length t.files) file_limit)
      (opened_file (with_file t name []) fds fd (length t.files) flags) _
      (λ few. record {
        table = IsFileTable-created t name (access_of flags) (ltb-true (length t.files) file_limit few) none h;
        places = length-set fds fd _;
      })
      (λ full. record { table = h; places = refl })

  named-within : (name : List ℕ) (file : ℕ) → file_named t name ≡ Some file → file < length t.files
  unfolding file_named
  named-within name file found = position-within (has_name name) t.files file found

  opened-ordered : (name : List ℕ) (flags : ℕ) → IsOrdered t fds (opened t fds name flags)
  unfolding opened
  opened-ordered name flags = by (file_named t name) refl
    where
      at_new : (free : Option ℕ) → file_named t name ≡ None → position is_none fds ≡ free → creates flags ≡ true
          → IsOrdered t fds (opened t fds name flags)
      at_new None none at made = rw (none, at, made) (record { table = h; places = refl })
      at_new (Some fd) none at made = rw (none, at, made) (created-ordered fd name flags none)

      at_none : (made : Bool) → file_named t name ≡ None → creates flags ≡ made
          → IsOrdered t fds (opened t fds name flags)
      at_none true none made = at_new (position is_none fds) none refl made
      at_none false none made = rw (none, made) (record { table = h; places = refl })

      at_free : (file : ℕ) (free : Option ℕ) → file_named t name ≡ Some file → position is_none fds ≡ free
          → file < length t.files → IsOrdered t fds (opened t fds name flags)
      at_free file None found at within = rw (found, at) (record { table = h; places = refl })
      at_free file (Some fd) found at within = rw (found, at) (opened_file-ordered fd file flags within)

      by : (file : Option ℕ) → file_named t name ≡ file → IsOrdered t fds (opened t fds name flags)
      by None none = at_none (creates flags) none refl
      by (Some file) found = at_free file (position is_none fds) found refl (named-within name file found)

  piped-ordered : IsOrdered t fds (piped t fds)
  unfolding piped made_pipe
  piped-ordered = by (position is_none fds) refl
    where
      two : (reader writer at to : ℕ) → length (set (set fds reader (Some at)) writer (Some to)) ≡ length fds
      two reader writer at to = length-set (set fds reader (Some at)) writer (Some to) ∙ length-set fds reader (Some at)

      at_room : (room : Bool) (reader writer : ℕ) → position is_none fds ≡ Some reader
          → free_fd_behind fds reader ≡ Some writer → ltb (count_by is_some t.pipes) pipe_limit ≡ room
          → IsOrdered t fds (piped t fds)
      at_room true reader writer first second room =
          rw (first, second, room) (record {
            table = IsFileTable-with_pipe t (ltb-true _ _ room) h;
            places = two reader writer _ _;
          })
      at_room false reader writer first second room = rw (first, second, room) (record { table = h; places = refl })

      at_second : (reader : ℕ) (writer : Option ℕ) → position is_none fds ≡ Some reader
          → free_fd_behind fds reader ≡ writer → IsOrdered t fds (piped t fds)
      at_second reader None first second = rw (first, second) (record { table = h; places = refl })
      at_second reader (Some writer) first second =
          at_room (ltb (count_by is_some t.pipes) pipe_limit) reader writer first second refl

      by : (reader : Option ℕ) → position is_none fds ≡ reader → IsOrdered t fds (piped t fds)
      by None first = rw first (record { table = h; places = refl })
      by (Some reader) first = at_second reader (free_fd_behind fds reader) first refl

  -- ---- lseek

  sought-ordered : (fd offset : ℕ) → IsOrdered t fds (sought t fds fd offset) × ((sought t fds fd offset).fds ≡ fds)
  unfolding sought
  sought-ordered fd offset = by (open_of t fds fd) refl
    where
      Good : FileEffect ℕ → Type 0
      Good e = IsOrdered t fds e × (e.fds ≡ fds)

      by : (o : Option (ℕ × OpenFile)) → open_of t fds fd ≡ o → Good (sought t fds fd offset)
      by None is = rw is (same BadFd, refl)
      by (Some found) is =
          rw is (choice Good (is_some (pipe_of found.1.target)) (refused t fds NotSeekable) _
          (λ pipe. (same NotSeekable, refl)) (λ file.
          choice Good (leb offset file_size_limit)
          (record {
            files = with_open_at t found.0
                (record found.1 { offset = offset });
            fds = fds;
            answer = Ok offset;
          }) (refused t fds BadOffset)
          (λ within. (
            record {
              table = IsFileTable-moved t found.0 offset found.1
                  (IsOpenFile-at t found.0 found.1 (open_of-there t fds fd found is) h)
                  (leb-true offset file_size_limit within) h;
              places = refl;
            },
            refl,
          ))
          (λ past. (same BadOffset, refl))))

  -- ---- read

  read-within : (most offset : ℕ) (bytes : List ℕ) → length bytes ≤ file_size_limit → offset ≤ file_size_limit
      → offset + length (bytes_from bytes offset most) ≤ file_size_limit
  read-within most offset bytes short within =
      let taken = length-take most (drop offset bytes) in
      let left = length-drop offset bytes in
      omega arith

  read_open-table : (here most : ℕ) (o : OpenFile) → at_place t.opens here ≡ Some o
      → IsFileTable (read_open t here o most).files
  unfolding read_file read_pipe
  read_open-table here most o there = by o.target refl
    where
      pipe-table : (pipe : ℕ) → IsFileTable (read_pipe t pipe most).files
      pipe-table pipe =
          choice (λ (e : ReadEffect). IsFileTable e.files) (eqb (length (pipe_bytes t pipe)) 0) _ _
          (λ empty. choice (λ (e : ReadEffect). IsFileTable e.files) (has_writer t pipe) _ _ (λ waits. h) (λ over. h))
          (λ some. IsFileTable-dropped t pipe most h)

      file-table : (file : ℕ) (f : OpenFile) → at_place t.opens here ≡ Some f
          → IsFileTable (read_file t here f most).files
      file-table file f at =
          let is_open = IsOpenFile-at t here f at h in
          IsFileTable-moved t here (f.offset + length (bytes_from (contents t f.target) f.offset most)) f is_open
          (read-within most f.offset (contents t f.target) (length-contents t f.target h) is_open.within) h

      by : (target : Target) → o.target ≡ target → IsFileTable (read_open t here o most).files
      by (File file) is =
          rw is (file-table file (record o { target = File file }) (there
          ∙ ap (λ (target : Target). Some (record o { target = target })) is))
      by (PipeReader pipe) is = rw is (pipe-table pipe)
      by (PipeWriter pipe) is = rw is (pipe-table pipe)

  read-table : (fd most : ℕ) → IsFileTable (read_fd t fds fd most).files
  unfolding read_fd
  read-table fd most = by (open_for_reading t fds fd) refl
    where
      by : (o : Option (ℕ × OpenFile)) → open_for_reading t fds fd ≡ o → IsFileTable (read_fd t fds fd most).files
      by None is = rw is h
      by (Some found) is = rw is (read_open-table found.0 most found.1 (read-there t fds fd found is))

  -- ---- write

  Written : FileEffect ℕ → Type 0
  Written e = IsOrdered t fds e × (e.fds ≡ fds)

  write_pipe-ordered : (pipe : ℕ) (bytes : List ℕ) → Written (write_pipe t fds pipe bytes)
  unfolding write_pipe Written
  write_pipe-ordered pipe bytes =
      choice Written (has_reader t pipe) _ _
      (λ read. choice Written (ltb pipe_size_limit (length (pipe_bytes t pipe) + length bytes)) _ _
      (λ full. (record { table = h; places = refl }, refl))
      (λ room. (record { table = IsFileTable-extended t pipe bytes (ltb-false _ _ room) h; places = refl }, refl)))
      (λ broken. (record { table = h; places = refl }, refl))

  write_file-ordered : (here file : ℕ) (o : OpenFile) (bytes : List ℕ)
      → at_place t.opens here ≡ Some (record o { target = File file })
      → Written (write_file t fds here (record o { target = File file }) file bytes)
  unfolding write_file Written
  write_file-ordered here file o bytes there =
      choice Written (ltb file_size_limit (o.offset + length bytes)) _ _
      (λ full. (record { table = h; places = refl }, refl))
      (λ room. (
        record {
          table = IsFileTable-written t here file (record o { target = File file }) bytes
              (IsOpenFile-at t here (record o { target = File file }) there h) (ltb-false _ _ room) h;
          places =
              refl;
        },
        refl,
      ))

  write_open-ordered : (here : ℕ) (o : OpenFile) (bytes : List ℕ) → at_place t.opens here ≡ Some o
      → Written (write_open t fds here o bytes)
  unfolding Written
  write_open-ordered here o bytes there = by o.target refl
    where
      by : (target : Target) → o.target ≡ target → Written (write_open t fds here o bytes)
      by (File file) is =
          rw is (write_file-ordered here file o bytes (there
          ∙ ap (λ (target : Target). Some (record o { target = target })) is))
      by (PipeReader pipe) is = rw is (write_pipe-ordered pipe bytes)
      by (PipeWriter pipe) is = rw is (write_pipe-ordered pipe bytes)

  written-ordered : (fd : ℕ) (bytes : List ℕ) → Written (write_fd t fds fd bytes)
  unfolding write_fd Written
  written-ordered fd bytes = by (open_for_writing t fds fd) refl
    where
      by : (o : Option (ℕ × OpenFile)) → open_for_writing t fds fd ≡ o → Written (write_fd t fds fd bytes)
      by None is = rw is (record { table = h; places = refl }, refl)
      by (Some found) is = rw is (write_open-ordered found.0 found.1 bytes (write-there t fds fd found is))

  -- ---- the calls

  module _ (ends : PipesHaveEnds t) where
    pub fair-closed : (fd : ℕ) → IsFair t fds (closed t fds fd)
    fair-closed fd =
        let it = closed-ordered fd in
        record {
          table = it.table;
          pipes = ends-closed t fds fd ends;
          counted = CountsUsers-closed t fds fd h;
          places = it.places;
        }

    pub fair-duplicated : (fd : ℕ) → IsFair t fds (duplicated t fds fd)
    fair-duplicated fd =
        let it = duplicated-ordered fd in
        record {
          table = it.table;
          pipes = ends-duplicated t fds fd ends;
          counted = CountsUsers-duplicated t fds fd;
          places = it.places;
        }

    pub fair-opened : (name : List ℕ) (flags : ℕ) → IsFair t fds (opened t fds name flags)
    fair-opened name flags =
        let it = opened-ordered name flags in
        record {
          table = it.table;
          pipes = ends-opened t fds name flags ends;
          counted = CountsUsers-opened t fds name flags;
          places = it.places;
        }

    pub fair-piped : IsFair t fds (piped t fds)
    fair-piped = record {
      table = piped-ordered.table;
      pipes = ends-piped t fds ends;
      counted = CountsUsers-piped t fds;
      places = piped-ordered.places;
    }

    -- a call that leaves the descriptors, and how many stand for each open file
    left : {A : Type 0} (e : FileEffect A) → IsOrdered t fds e × (e.fds ≡ fds) → PipesHaveEnds e.files
        → ((place : ℕ) → users_at e.files place ≡ users_at t place) → IsFair t fds e
    left e it pipes users = record {
      table = it.0.table;
      pipes = pipes;
      counted = record { each = λ place. rw (it.1, users place) refl };
      places = it.0.places;
    }

    pub fair-sought : (fd offset : ℕ) → IsFair t fds (sought t fds fd offset)
    fair-sought fd offset =
        left (sought t fds fd offset) (sought-ordered fd offset) (ends-sought t fds fd offset ends)
        (users-sought t fds fd offset)

    pub fair-written : (fd : ℕ) (bytes : List ℕ) → IsFair t fds (write_fd t fds fd bytes)
    unfolding Written
    fair-written fd bytes =
        left (write_fd t fds fd bytes) (written-ordered fd bytes) (ends-written t fds fd bytes ends)
        (λ place. users-written t fds fd place bytes)

    -- a read leaves the descriptors
    pub fair-read : (fd most : ℕ) → CountsUsers t fds (read_fd t fds fd most).files fds
    fair-read fd most = record { each = λ place. ap (λ n. n + count_at fds place) (users-read t fds fd most place) }

    pub read-ends : (fd most : ℕ) → PipesHaveEnds (read_fd t fds fd most).files
    read-ends fd most = ends-read t fds fd most ends

  pub read-ordered : (fd most : ℕ) → IsFileTable (read_fd t fds fd most).files
  read-ordered fd most = read-table fd most
