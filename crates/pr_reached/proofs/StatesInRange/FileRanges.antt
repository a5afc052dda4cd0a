use Rattle.std.proofs.Common.{◌≡◌, ◌==◌, ◌+◌, ◌-◌, ◌≤◌, ℕ, Bool, true, false, ltb, leb, is_none, is_some, length, set, take, drop, replicate, Option, Some, None, Result, Ok, Err, List, [], ◌∷◌, ◌++◌, refl, sym, subst, arith}
use Rattle.std.specs.List.{All, count_by, list_any, slice_get}
use Rattle.std.specs.Option.{unwrap_or}
use Rattle.std.proofs.lemmas.Bool.{leb-true, ltb-false}
use Rattle.std.proofs.lemmas.List.{length-take}
use Rattle.std.proofs.lemmas.List.Elements.{All-nil, All-cons, All-head, All-tail, All-append, All-drop, All-replicate, All-set, All-take}
use Rattle.pr_num.proofs.SearchLemmas.{All-at}
use Rattle.pr_num.proofs.TableLemmas.{position-within}
use Rattle.pr_num.specs.Files.{Descriptors, FileTable, is_end_of, pipe_of, with_all_closed, with_user_gone, without_idle_pipe}
use Rattle.pr_num.specs.Limits.{descriptor_limit, file_limit, file_size_limit, pipe_limit, pipe_size_limit}
use Rattle.pr_num.specs.Words.{IsByte, IsWord}
use Rattle.pr_num.specs.declared.files.OpenFile.{OpenFile}
use Rattle.pr_num.specs.declared.files.StoredFile.{StoredFile}
use Rattle.pr_num.specs.declared.files.Target.{Target}
use Rattle.pr_num.specs.declared.files.Target.TheVariants.{File, PipeReader, PipeWriter}
use Rattle.pr_parts.specs.FileCalls.{FileEffect, closed, contents, created_file, creates, duplicated, made_pipe, open_for_reading, open_for_writing, opened, opened_file, piped, refused, sought, with_all_shared, with_file, with_open, with_open_at, with_pipe, with_read_end, with_user_added}
use Rattle.pr_parts.specs.FileTables.{at_place, file_named, free_fd, free_fd_behind, open_of, with_placed}
use Rattle.pr_parts.specs.FileTransfers.{ReadEffect, after_write, has_reader, has_writer, pipe_bytes, read_fd, read_file, read_open, read_pipe, with_file_bytes, with_pipe_bytes, write_fd, write_file, write_open, write_pipe, written_over}
use Rattle.pr_parts.specs.declared.files.FileNo.{FileNo}
use Rattle.pr_lawful.proofs.ProcessParts.FileLemmas.{choice}
use Rattle.pr_reached.specs.InRange.{AreFilesInRange, IsFileInRange, IsShortName, IsPipeInRange}

-- The bytes of files and pipes stay bytes, whatever calls on files do; and the numbers that these calls give are words.

-- ---- descriptors that come and go

idle-range : (pipe : Option ℕ) (t : FileTable) → AreFilesInRange t → AreFilesInRange (without_idle_pipe pipe t)
unfolding without_idle_pipe
idle-range None t h = h
idle-range (Some pipe) t h =
    choice AreFilesInRange (list_any (is_end_of pipe) t.opens) _ _ (λ open_now. h) (λ idle. record {
      files = h.files;
      pipes = All-set IsPipeInRange t.pipes pipe None tt h.pipes;
    })

gone-range : (t : FileTable) (place : ℕ) → AreFilesInRange t → AreFilesInRange (with_user_gone t place)
unfolding with_user_gone
gone-range t place h = by (slice_get t.opens place) refl
  where
    by : (o : Option (Option OpenFile)) → slice_get t.opens place ≡ o → AreFilesInRange (with_user_gone t place)
    by None is = rw is h
    by (Some None) is = rw is h
    by (Some (Some o)) is =
        rw is (choice AreFilesInRange (ltb 1 o.users) _ _ (λ more. record { files = h.files; pipes = h.pipes })
        (λ last. idle-range (pipe_of o.target) (record t { opens = set t.opens place None }) (record {
          files = h.files;
          pipes = h.pipes;
        })))

pub all_closed-range : (t : FileTable) (fds : Descriptors) → AreFilesInRange t → AreFilesInRange (with_all_closed t fds)
unfolding with_all_closed
all_closed-range t [] h = h
all_closed-range t (None ∷ fds) h = all_closed-range t fds h
all_closed-range t (Some place ∷ fds) h = all_closed-range (with_user_gone t place) fds (gone-range t place h)

added-range : (t : FileTable) (place : ℕ) → AreFilesInRange t → AreFilesInRange (with_user_added t place)
unfolding with_user_added
added-range t place h = by (at_place t.opens place) refl
  where
    by : (o : Option OpenFile) → at_place t.opens place ≡ o → AreFilesInRange (with_user_added t place)
    by None is = rw is h
    by (Some o) is = rw is (record { files = h.files; pipes = h.pipes })

pub all_shared-range : (t : FileTable) (fds : Descriptors) → AreFilesInRange t → AreFilesInRange (with_all_shared t fds)
unfolding with_all_shared
all_shared-range t [] h = h
all_shared-range t (None ∷ fds) h = all_shared-range t fds h
all_shared-range t (Some place ∷ fds) h = all_shared-range (with_user_added t place) fds (added-range t place h)

-- ---- what calls do, and the number that they give

abbrev pub IsNumber : Result ℕ FileNo → Type 0
IsNumber (Ok value) = IsWord value
IsNumber (Err why) = Unit {0}

pub record IsFileEffect (e : FileEffect ℕ) : Type 0 where
  pub files : AreFilesInRange e.files
  pub answer : IsNumber e.answer

-- what a read gives, of at most so many bytes
abbrev pub AreBytesGiven : ℕ → Result (List ℕ) FileNo → Type 0
AreBytesGiven most (Ok bytes) = All IsByte bytes × (length bytes ≤ most)
AreBytesGiven most (Err why) = Unit {0}

pub record IsRead (most : ℕ) (e : ReadEffect) : Type 0 where
  pub files : AreFilesInRange e.files
  pub bytes : AreBytesGiven most e.bytes

-- ---- contents

pipe-bytes : (t : FileTable) (place : ℕ) → AreFilesInRange t → All IsByte (unwrap_or (at_place t.pipes place) [])
pipe-bytes t place h = by (slice_get t.pipes place) refl
  where
    by : (o : Option (Option (List ℕ))) → slice_get t.pipes place ≡ o
        → All IsByte (unwrap_or (at_place t.pipes place) [])
    by None is = rw is (All-nil IsByte)
    by (Some None) is = rw is (All-nil IsByte)
    by (Some (Some bytes)) is = rw is (All-at IsPipeInRange t.pipes place (Some bytes) is h.pipes)

pub contents-range : (t : FileTable) (target : Target) → AreFilesInRange t → All IsByte (contents t target)
contents-range t (File place) h = by (slice_get t.files place) refl
  where
    by : (o : Option StoredFile) → slice_get t.files place ≡ o → All IsByte (contents t (File place))
    by None is = rw is (All-nil IsByte)
    by (Some f) is = rw is (All-at IsFileInRange t.files place f is h.files).bytes
contents-range t (PipeReader place) h = pipe-bytes t place h
contents-range t (PipeWriter place) h = pipe-bytes t place h

with_pipe_bytes-range : (t : FileTable) (pipe : ℕ) (bytes : List ℕ) → All IsByte bytes → AreFilesInRange t
    → AreFilesInRange (with_pipe_bytes t pipe bytes)
unfolding with_pipe_bytes
with_pipe_bytes-range t pipe bytes all h = record {
  files = h.files;
  pipes = All-set IsPipeInRange t.pipes pipe (Some bytes) all h.pipes;
}

with_file_bytes-range : (t : FileTable) (place : ℕ) (bytes : List ℕ) → All IsByte bytes → AreFilesInRange t
    → AreFilesInRange (with_file_bytes t place bytes)
unfolding with_file_bytes
with_file_bytes-range t place bytes all h = by (slice_get t.files place) refl
  where
    by : (o : Option StoredFile) → slice_get t.files place ≡ o → AreFilesInRange (with_file_bytes t place bytes)
    by None is = rw is h
    by (Some f) is =
        rw is (record {
          files =
              All-set IsFileInRange t.files place (record f { bytes = bytes })
              (record { name = (All-at IsFileInRange t.files place f is h.files).name; bytes = all }) h.files;
          pipes = h.pipes;
        })

-- the open files beside them have no range
with_opens : (t : FileTable) (opens : List (Option OpenFile)) → AreFilesInRange t
    → AreFilesInRange (record t { opens = opens })
with_opens t opens h = record { files = h.files; pipes = h.pipes }

after_write-bytes : (bytes : List ℕ) (offset : ℕ) (others : List ℕ) → All IsByte bytes → All IsByte others
    → All IsByte (after_write bytes offset others)
after_write-bytes bytes offset others all new =
    choice (All IsByte) (length others == 0) bytes (written_over bytes offset others) (λ none. all)
    (λ some.
    All-append IsByte (take offset bytes ++ replicate (offset - length bytes) 0 ++ others)
    (drop (offset + length others) bytes)
    (All-append IsByte (take offset bytes ++ replicate (offset - length bytes) 0) others
    (All-append IsByte (take offset bytes) (replicate (offset - length bytes) 0) (All-take IsByte offset bytes all)
    (All-replicate IsByte (offset - length bytes) 0 (omega arith))) new)
    (All-drop IsByte (offset + length others) bytes all))

placed-range : (pipes : List (Option (List ℕ))) → All IsPipeInRange pipes → All IsPipeInRange (with_placed pipes [])
placed-range [] h = All-cons IsPipeInRange (Some []) [] (All-nil IsByte) h
placed-range (None ∷ pipes) h =
    All-cons IsPipeInRange (Some []) pipes (All-nil IsByte) (All-tail IsPipeInRange None pipes h)
placed-range (Some bytes ∷ pipes) h =
    All-cons IsPipeInRange (Some bytes) (with_placed pipes []) (All-head IsPipeInRange (Some bytes) pipes h)
    (placed-range pipes (All-tail IsPipeInRange (Some bytes) pipes h))

-- ---- the calls

module _ (t : FileTable) (fds : Descriptors) (h : AreFilesInRange t) where
  refused-range : (why : FileNo) → IsFileEffect (refused t fds why)
  refused-range why = record { files = h; answer = tt }

  pub closed-range : (fd : ℕ) → AreFilesInRange (closed t fds fd).files
  unfolding closed
  closed-range fd = by (open_of t fds fd) refl
    where
      by : (o : Option (ℕ × OpenFile)) → open_of t fds fd ≡ o → AreFilesInRange (closed t fds fd).files
      by None is = rw is h
      by (Some found) is = rw is (gone-range t found.0 h)

  -- a descriptor is below 64
  free-word : length fds ≡ descriptor_limit → (fd : ℕ) → free_fd fds ≡ Some fd → IsWord fd
  free-word places fd is = let within = position-within is_none fds fd is in omega arith

  pub duplicated-range : (fd : ℕ) → length fds ≡ descriptor_limit → IsFileEffect (duplicated t fds fd)
  unfolding duplicated
  duplicated-range fd places = by (open_of t fds fd) (free_fd fds) refl refl
    where
      by : (o : Option (ℕ × OpenFile)) (free : Option ℕ) → open_of t fds fd ≡ o → free_fd fds ≡ free
          → IsFileEffect (duplicated t fds fd)
      by None free is at = rw is (refused-range _)
      by (Some found) None is at = rw (is, at) (refused-range _)
      by (Some found) (Some free) is at =
          rw (is, at) (record { files = added-range t found.0 h; answer = free-word places free at })

  opened_file-range : (u : FileTable) (fd file flags : ℕ) → AreFilesInRange u → IsWord fd
      → IsFileEffect (opened_file u fds fd file flags)
  unfolding opened_file with_open
  opened_file-range u fd file flags it fits = record { files = with_opens u _ it; answer = fits }

  created-range : (fd : ℕ) (name : List ℕ) (flags : ℕ) → IsShortName name → IsWord fd
      → IsFileEffect (created_file t fds fd name flags)
  unfolding created_file with_file
  created-range fd name flags named fits =
      choice IsFileEffect (ltb (length t.files) file_limit) _ _
      (λ few. opened_file-range (with_file t name []) fd (length t.files) flags (record {
        files =
            All-append IsFileInRange t.files (record { name = name; bytes = [] } ∷ []) h.files
            (All-cons IsFileInRange (record { name = name; bytes = [] }) []
            (record { name = named; bytes = All-nil IsByte }) (All-nil IsFileInRange));
        pipes = h.pipes;
      }) fits)
      (λ full. refused-range _)

  pub opened-range : (name : List ℕ) (flags : ℕ) → IsShortName name → length fds ≡ descriptor_limit
      → IsFileEffect (opened t fds name flags)
  unfolding opened
  opened-range name flags named places = by (file_named t name) (free_fd fds) refl refl
    where
      new : (made : Bool) (free : Option ℕ) → creates flags ≡ made → file_named t name ≡ None → free_fd fds ≡ free
          → IsFileEffect (opened t fds name flags)
      new false free flag none at = rw (none, flag) (refused-range _)
      new true None flag none at = rw (none, flag, at) (refused-range _)
      new true (Some fd) flag none at = rw (none, flag, at) (created-range fd name flags named (free-word places fd at))

      by : (o free : Option ℕ) → file_named t name ≡ o → free_fd fds ≡ free → IsFileEffect (opened t fds name flags)
      by None free is at = new (creates flags) free refl is at
      by (Some file) None is at = rw (is, at) (refused-range _)
      by (Some file) (Some fd) is at = rw (is, at) (opened_file-range t fd file flags h (free-word places fd at))

  with_pipe-range : AreFilesInRange (with_pipe t)
  unfolding with_pipe with_read_end with_open
  with_pipe-range = record { files = h.files; pipes = placed-range t.pipes h.pipes }

  pub piped-range : AreFilesInRange (piped t fds).files
  unfolding piped made_pipe
  piped-range = by (free_fd fds) refl
    where
      room : (b : Bool) (reader writer : ℕ) → ltb (count_by is_some t.pipes) pipe_limit ≡ b → free_fd fds ≡ Some reader
          → free_fd_behind fds reader ≡ Some writer → AreFilesInRange (piped t fds).files
      room true reader writer few first second = rw (first, second, few) with_pipe-range
      room false reader writer full first second = rw (first, second, full) h

      both : (reader : ℕ) (o : Option ℕ) → free_fd fds ≡ Some reader → free_fd_behind fds reader ≡ o
          → AreFilesInRange (piped t fds).files
      both reader None first second = rw (first, second) h
      both reader (Some writer) first second =
          room (ltb (count_by is_some t.pipes) pipe_limit) reader writer refl first second

      by : (o : Option ℕ) → free_fd fds ≡ o → AreFilesInRange (piped t fds).files
      by None first = rw first h
      by (Some reader) first = both reader (free_fd_behind fds reader) first refl

  pub sought-range : (fd offset : ℕ) → IsFileEffect (sought t fds fd offset)
  unfolding sought with_open_at
  sought-range fd offset = by (open_of t fds fd) refl
    where
      by : (o : Option (ℕ × OpenFile)) → open_of t fds fd ≡ o → IsFileEffect (sought t fds fd offset)
      by None is = rw is (refused-range _)
      by (Some found) is =
          rw is (choice IsFileEffect (is_some (pipe_of found.1.target)) _ _ (λ pipe. refused-range _) (λ file.
          choice IsFileEffect (leb offset file_size_limit) _ _
          (λ within. record {
            files = with_opens t _ h;
            answer = let small = leb-true offset file_size_limit within in
                omega arith;
          }) (λ past. refused-range _)))

  -- ---- read

  taken-short : (most : ℕ) (bytes : List ℕ) → length (take most bytes) ≤ most
  taken-short most bytes = let size = length-take most bytes in omega arith

  read_pipe-range : (pipe most : ℕ) → IsRead most (read_pipe t pipe most)
  unfolding read_pipe
  read_pipe-range pipe most =
      let all = pipe-bytes t pipe h in
      choice (IsRead most) (length (pipe_bytes t pipe) == 0) _ _
      (λ empty. choice (IsRead most) (has_writer t pipe) _ _ (λ waits. record { files = h; bytes = tt })
      (λ over. record { files = h; bytes = (All-nil IsByte, omega arith) }))
      (λ some. record {
        files =
            with_pipe_bytes-range t pipe (drop most (pipe_bytes t pipe))
            (All-drop IsByte most (pipe_bytes t pipe) all) h;
        bytes = (All-take IsByte most (pipe_bytes t pipe) all, taken-short most (pipe_bytes t pipe));
      })

  read_file-range : (place most : ℕ) (o : OpenFile) → IsRead most (read_file t place o most)
  unfolding read_file with_open_at
  read_file-range place most o = record {
    files = with_opens t _ h;
    bytes = (
      All-take IsByte most (drop o.offset (contents t o.target))
          (All-drop IsByte o.offset (contents t o.target) (contents-range t o.target h)),
      taken-short most
          (drop o.offset (contents t o.target)),
    );
  }

  read_open-range : (place most : ℕ) (o : OpenFile) → IsRead most (read_open t place o most)
  read_open-range place most o = by o.target refl
    where
      by : (target : Target) → o.target ≡ target → IsRead most (read_open t place o most)
      by (File file) is = subst (IsRead most) (sym (opens is)) (read_file-range place most o)
        where
          opens : o.target ≡ File file → read_open t place o most ≡ read_file t place o most
          opens at = rw at refl
      by (PipeReader pipe) is = rw is (read_pipe-range pipe most)
      by (PipeWriter pipe) is = rw is (read_pipe-range pipe most)

  pub read-range : (fd most : ℕ) → IsRead most (read_fd t fds fd most)
  unfolding read_fd
  read-range fd most = by (open_for_reading t fds fd) refl
    where
      by : (o : Option (ℕ × OpenFile)) → open_for_reading t fds fd ≡ o → IsRead most (read_fd t fds fd most)
      by None is = rw is (record { files = h; bytes = tt })
      by (Some found) is = rw is (read_open-range found.0 most found.1)

  -- ---- write

  write_pipe-range : (pipe : ℕ) (bytes : List ℕ) → All IsByte bytes → IsFileEffect (write_pipe t fds pipe bytes)
  unfolding write_pipe
  write_pipe-range pipe bytes all =
      choice IsFileEffect (has_reader t pipe) _ _
      (λ read. choice IsFileEffect (ltb pipe_size_limit (length (pipe_bytes t pipe) + length bytes)) _ _
      (λ full. refused-range _)
      (λ room. record {
        files =
            with_pipe_bytes-range t pipe (pipe_bytes t pipe ++ bytes)
            (All-append IsByte (pipe_bytes t pipe) bytes (pipe-bytes t pipe h) all) h;
        answer = let few = ltb-false pipe_size_limit (length (pipe_bytes t pipe) + length bytes) room in omega arith;
      }))
      (λ broken. refused-range _)

  write_file-range : (place file : ℕ) (o : OpenFile) (bytes : List ℕ) → All IsByte bytes
      → IsFileEffect (write_file t fds place o file bytes)
  unfolding write_file with_open_at
  write_file-range place file o bytes all =
      choice IsFileEffect (ltb file_size_limit (o.offset + length bytes)) _ _ (λ full. refused-range _)
      (λ room. record {
        files =
            with_opens _ _
            (with_file_bytes-range t file (after_write (contents t o.target) o.offset bytes)
            (after_write-bytes (contents t o.target) o.offset bytes (contents-range t o.target h) all) h);
        answer = let few = ltb-false file_size_limit (o.offset + length bytes) room in omega arith;
      })

  write_open-range : (place : ℕ) (o : OpenFile) (bytes : List ℕ) → All IsByte bytes
      → IsFileEffect (write_open t fds place o bytes)
  write_open-range place o bytes all = by o.target refl
    where
      by : (target : Target) → o.target ≡ target → IsFileEffect (write_open t fds place o bytes)
      by (File file) is = subst IsFileEffect (sym (opens is)) (write_file-range place file o bytes all)
        where
          opens : o.target ≡ File file → write_open t fds place o bytes ≡ write_file t fds place o file bytes
          opens at = rw at refl
      by (PipeReader pipe) is = rw is (write_pipe-range pipe bytes all)
      by (PipeWriter pipe) is = rw is (write_pipe-range pipe bytes all)

  pub written-range : (fd : ℕ) (bytes : List ℕ) → All IsByte bytes → IsFileEffect (write_fd t fds fd bytes)
  unfolding write_fd
  written-range fd bytes all = by (open_for_writing t fds fd) refl
    where
      by : (o : Option (ℕ × OpenFile)) → open_for_writing t fds fd ≡ o → IsFileEffect (write_fd t fds fd bytes)
      by None is = rw is (refused-range _)
      by (Some found) is = rw is (write_open-range found.0 found.1 bytes all)
