use Rattle.std.proofs.Common.{is_some, nat_le, nat_lt, length, set, slice_get, count_by, ◌==◌, ◌+◌, ◌≡◌, ◌∷◌, ◌-◌, ℕ, zero, suc, List, [], Option, Some, None, refl, sym, subst, ap, ◌∙◌}
use Rattle.pr_file_laws.proofs.CountLemmas.{open_of-there, opens-file_bytes, read-there, write-there}
use Rattle.pr_keeps.proofs.KeepsLemmas.{choice}
use Rattle.std.specs.List.{list_any}
use Rattle.std.specs.Option.{option_flatten}
use Rattle.pr_num.specs.Limits.{file_limit, file_size_limit, pipe_limit, pipe_size_limit}
use Rattle.pr_num.specs.Files.{Descriptors, FileTable, is_end_of, pipe_of, with_all_closed, with_user_gone, without_idle_pipe}
use Rattle.pr_num.specs.declared.files.OpenFile.{OpenFile}
use Rattle.pr_num.specs.declared.files.Target.{Target}
use Rattle.pr_num.specs.declared.files.Target.TheVariants.{File, PipeReader, PipeWriter}
use Rattle.pr_parts.specs.FileCalls.{FileEffect, contents, created_file, creates, made_pipe, opened_file, with_file, closed, duplicated, open_for_reading, open_for_writing, opened, piped, sought, with_all_shared, with_open, with_open_at, with_pipe, with_read_end, with_user_added}
use Rattle.pr_parts.specs.FileTables.{file_named, free_fd, free_fd_behind, at_place, open_of, with_placed}
use Rattle.pr_parts.specs.FileTransfers.{ReadEffect, after_write, has_reader, has_writer, pipe_bytes, read_fd, read_file, read_pipe, with_file_bytes, with_pipe_bytes, write_fd, write_file, write_pipe}

-- An open file keeps its place and what it is, until it is closed: what each call on files makes of the others.

-- ---- what becomes of a place

-- an open file keeps what it is, or is closed
abbrev pub Keeps : Option OpenFile → Option OpenFile → Type 0
Keeps None y = Unit {0}
Keeps (Some o) None = Unit {0}
Keeps (Some o) (Some n) = n.target ≡ o.target

-- and no file is opened there
abbrev pub Fades : Option OpenFile → Option OpenFile → Type 0
Fades None None = Unit {0}
Fades None (Some n) = ⊥
Fades (Some o) None = Unit {0}
Fades (Some o) (Some n) = n.target ≡ o.target

-- an open file stays as it is
abbrev Holds : Option OpenFile → Option OpenFile → Type 0
Holds None y = Unit {0}
Holds (Some o) y = y ≡ Some o

fades-same : (x : Option OpenFile) → Fades x x
fades-same None = tt
fades-same (Some o) = refl

fades-keeps : (x y : Option OpenFile) → Fades x y → Keeps x y
fades-keeps None y it = tt
fades-keeps (Some o) None it = tt
fades-keeps (Some o) (Some n) it = it

keeps-fades : (x y z : Option OpenFile) → Keeps x y → Fades y z → Keeps x z
keeps-fades None y z one two = tt
keeps-fades (Some o) y None one two = tt
keeps-fades (Some o) None (Some n) one two = absurd two
keeps-fades (Some o) (Some m) (Some n) one two = two ∙ one

fades-fades : (x y z : Option OpenFile) → Fades x y → Fades y z → Fades x z
fades-fades None None z one two = two
fades-fades None (Some m) z one two = absurd one
fades-fades (Some o) y None one two = tt
fades-fades (Some o) None (Some n) one two = absurd two
fades-fades (Some o) (Some m) (Some n) one two = two ∙ one

holds-same : (x : Option OpenFile) → Holds x x
holds-same None = tt
holds-same (Some o) = refl

holds-holds : (x y z : Option OpenFile) → Holds x y → Holds y z → Holds x z
holds-holds None y z one two = tt
holds-holds (Some o) y z one two = subst (λ (w : Option OpenFile). Holds w z) one two

holds-keeps : (x y : Option OpenFile) → Holds x y → Keeps x y
holds-keeps None y it = tt
holds-keeps (Some o) y it = subst (Keeps (Some o)) (sym it) refl

-- ---- of the table

pub record Stay (t u : FileTable) : Type 0 where
  pub each : (place : ℕ) → Keeps (at_place t.opens place) (at_place u.opens place)

pub record Fade (t u : FileTable) : Type 0 where
  pub each : (place : ℕ) → Fades (at_place t.opens place) (at_place u.opens place)

record Hold (t u : FileTable) : Type 0 where
  each : (place : ℕ) → Holds (at_place t.opens place) (at_place u.opens place)

pub fade-same : (t : FileTable) → Fade t t
fade-same t = record { each = λ place. fades-same (at_place t.opens place) }

pub fade-stay : (t u : FileTable) → Fade t u → Stay t u
fade-stay t u it = record { each = λ place. fades-keeps _ _ (it.each place) }

pub stay-same : (t : FileTable) → Stay t t
stay-same t = fade-stay t t (fade-same t)

pub stay-fade : (t u v : FileTable) → Stay t u → Fade u v → Stay t v
stay-fade t u v one two = record { each = λ place. keeps-fades _ _ _ (one.each place) (two.each place) }

pub fade-fade : (t u v : FileTable) → Fade t u → Fade u v → Fade t v
fade-fade t u v one two = record { each = λ place. fades-fades _ _ _ (one.each place) (two.each place) }

hold-hold : (t u v : FileTable) → Hold t u → Hold u v → Hold t v
hold-hold t u v one two = record { each = λ place. holds-holds _ _ _ (one.each place) (two.each place) }

hold-stay : (t u : FileTable) → Hold t u → Stay t u
hold-stay t u it = record { each = λ place. holds-keeps _ _ (it.each place) }

-- where the open files are the same
same-opens : (t u : FileTable) → u.opens ≡ t.opens → Fade t u
same-opens t u same = record {
  each = λ place.
      subst (λ (xs : List (Option OpenFile)). Fades (at_place t.opens place) (at_place xs place)) (sym same)
      (fades-same (at_place t.opens place));
}

-- ---- one place

set-fades : (xs : List (Option OpenFile)) (at : ℕ) (y : Option OpenFile) → Fades (at_place xs at) y → (place : ℕ)
    → Fades (at_place xs place) (at_place (set xs at y) place)
set-fades [] at y it place = tt
set-fades (x ∷ xs) zero y it zero = it
set-fades (x ∷ xs) zero y it (suc place) = fades-same (at_place xs place)
set-fades (x ∷ xs) (suc at) y it zero = fades-same x
set-fades (x ∷ xs) (suc at) y it (suc place) = set-fades xs at y it place

placed-holds : (xs : List (Option OpenFile)) (x : OpenFile) (place : ℕ)
    → Holds (at_place xs place) (at_place (with_placed xs x) place)
placed-holds [] x place = tt
placed-holds (None ∷ xs) x zero = tt
placed-holds (None ∷ xs) x (suc place) = holds-same (at_place xs place)
placed-holds (Some y ∷ xs) x zero = refl
placed-holds (Some y ∷ xs) x (suc place) = placed-holds xs x place

open-holds : (t : FileTable) (o : OpenFile) → Hold t (with_open t o)
unfolding with_open
open-holds t o = record { each = λ place. placed-holds t.opens o place }

pipe-holds : (t : FileTable) → Hold t (with_pipe t)
unfolding with_pipe with_read_end
pipe-holds t =
    hold-hold t (with_read_end t) (with_pipe t)
    (record { each = λ place. (open-holds (record t { pipes = with_placed t.pipes [] }) _).each place })
    (open-holds (with_read_end t) _)

moved-fades : (t : FileTable) (at : ℕ) (o n : OpenFile) → at_place t.opens at ≡ Some o → n.target ≡ o.target
    → Fade t (with_open_at t at n)
unfolding with_open_at
moved-fades t at o n there same = record {
  each = λ place.
      set-fades t.opens at (Some n) (subst (λ (x : Option OpenFile). Fades x (Some n)) (sym there) same) place;
}

-- ---- one descriptor more or fewer

idle-fades : (pipe : Option ℕ) (t : FileTable) → Fade t (without_idle_pipe pipe t)
unfolding without_idle_pipe
idle-fades None t = fade-same t
idle-fades (Some pipe) t =
    choice (Fade t) (list_any (is_end_of pipe) t.opens) _ _ (λ used. fade-same t)
    (λ idle. same-opens t _ refl)

shut-fades : (xs : List (Option OpenFile)) (at place : ℕ) → Fades (at_place xs place) (at_place (set xs at None) place)
shut-fades xs at place = set-fades xs at None (none (at_place xs at)) place
  where
    none : (x : Option OpenFile) → Fades x None
    none None = tt
    none (Some o) = tt

gone-fades : (t : FileTable) (at : ℕ) → Fade t (with_user_gone t at)
unfolding with_user_gone with_open_at
gone-fades t at = by (slice_get t.opens at) refl
  where
    open_at : (o : OpenFile) → slice_get t.opens at ≡ Some (Some o) → at_place t.opens at ≡ Some o
    open_at o is = ap option_flatten is

    by : (x : Option (Option OpenFile)) → slice_get t.opens at ≡ x → Fade t (with_user_gone t at)
    by None is = rw is (fade-same t)
    by (Some None) is = rw is (fade-same t)
    by (Some (Some o)) is =
        rw is (choice (Fade t) (nat_lt 1 o.users) _ _
        (λ more. moved-fades t at o (record o { users = o.users - 1 }) (open_at o is) refl)
        (λ last. fade-fade t (record t { opens = set t.opens at None }) _
        (record { each = λ place. shut-fades t.opens at place })
        (idle-fades (pipe_of o.target) (record t { opens = set t.opens at None }))))

added-fades : (t : FileTable) (at : ℕ) → Fade t (with_user_added t at)
unfolding with_user_added with_open_at
added-fades t at = by (at_place t.opens at) refl
  where
    by : (x : Option OpenFile) → at_place t.opens at ≡ x → Fade t (with_user_added t at)
    by None is = rw is (fade-same t)
    by (Some o) is = rw is (moved-fades t at o (record o { users = o.users + 1 }) is refl)

pub all_closed-fades : (t : FileTable) (fds : Descriptors) → Fade t (with_all_closed t fds)
unfolding with_all_closed
all_closed-fades t [] = fade-same t
all_closed-fades t (None ∷ fds) = all_closed-fades t fds
all_closed-fades t (Some at ∷ fds) =
    fade-fade t (with_user_gone t at) (with_all_closed (with_user_gone t at) fds) (gone-fades t at)
    (all_closed-fades (with_user_gone t at) fds)

pub all_shared-fades : (t : FileTable) (fds : Descriptors) → Fade t (with_all_shared t fds)
unfolding with_all_shared
all_shared-fades t [] = fade-same t
all_shared-fades t (None ∷ fds) = all_shared-fades t fds
all_shared-fades t (Some at ∷ fds) =
    fade-fade t (with_user_added t at) (with_all_shared (with_user_added t at) fds) (added-fades t at)
    (all_shared-fades (with_user_added t at) fds)

-- ---- the calls

module _ (t : FileTable) (fds : Descriptors) where
  pub closed-stay : (fd : ℕ) → Stay t (closed t fds fd).files
  unfolding closed
  closed-stay fd = by (open_of t fds fd) refl
    where
      by : (o : Option (ℕ × OpenFile)) → open_of t fds fd ≡ o → Stay t (closed t fds fd).files
      by None is = rw is (stay-same t)
      by (Some found) is = rw is (fade-stay t _ (gone-fades t found.0))

  pub duplicated-stay : (fd : ℕ) → Stay t (duplicated t fds fd).files
  unfolding duplicated
  duplicated-stay fd = by (open_of t fds fd) (free_fd fds) refl refl
    where
      by : (o : Option (ℕ × OpenFile)) (free : Option ℕ) → open_of t fds fd ≡ o → free_fd fds ≡ free
          → Stay t (duplicated t fds fd).files
      by None free is at = rw is (stay-same t)
      by (Some found) None is at = rw (is, at) (stay-same t)
      by (Some found) (Some free) is at = rw (is, at) (fade-stay t _ (added-fades t found.0))

  pub sought-stay : (fd offset : ℕ) → Stay t (sought t fds fd offset).files
  unfolding sought
  sought-stay fd offset = by (open_of t fds fd) refl
    where
      by : (o : Option (ℕ × OpenFile)) → open_of t fds fd ≡ o → Stay t (sought t fds fd offset).files
      by None is = rw is (stay-same t)
      by (Some found) is =
          rw is (choice (λ (e : FileEffect ℕ). Stay t e.files) (is_some (pipe_of found.1.target)) _ _
          (λ pipe. stay-same t)
          (λ file. choice (λ (e : FileEffect ℕ). Stay t e.files) (nat_le offset file_size_limit) _ _
          (λ near. fade-stay t _
          (moved-fades t found.0 found.1 (record found.1 { offset = offset }) (open_of-there t fds fd found is) refl))
          (λ far. stay-same t)))

  pub opened-stay : (name : List ℕ) (flags : ℕ) → Stay t (opened t fds name flags).files
  unfolding opened created_file opened_file with_file with_open
  opened-stay name flags = by (file_named t name) (free_fd fds) refl refl
    where
      by : (file free : Option ℕ) → file_named t name ≡ file → free_fd fds ≡ free
          → Stay t (opened t fds name flags).files
      by None None none at =
          rw (none, at) (choice (λ (e : FileEffect ℕ). Stay t e.files) (creates flags) _ _ (λ made. stay-same t)
          (λ not_made. stay-same t))
      by None (Some fd) none at =
          rw (none, at) (choice (λ (e : FileEffect ℕ). Stay t e.files) (creates flags) _ _
          (λ made. choice (λ (e : FileEffect ℕ). Stay t e.files) (nat_lt (length t.files) file_limit) _ _
          (λ few. hold-stay t _ (record { each = λ place. placed-holds t.opens _ place })) (λ full. stay-same t))
          (λ not_made. stay-same t))
      by (Some file) None found at = rw (found, at) (stay-same t)
      by (Some file) (Some fd) found at = rw (found, at) (hold-stay t _ (open-holds t _))

  pub piped-stay : Stay t (piped t fds).files
  unfolding piped made_pipe
  piped-stay = by (free_fd fds) refl
    where
      by_second : (reader : ℕ) (writer : Option ℕ) → free_fd fds ≡ Some reader → free_fd_behind fds reader ≡ writer
          → Stay t (piped t fds).files
      by_second reader None first second = rw (first, second) (stay-same t)
      by_second reader (Some writer) first second =
          rw (first, second)
          (choice (λ (e : FileEffect (ℕ × ℕ)). Stay t e.files) (nat_lt (count_by is_some t.pipes) pipe_limit) _ _
          (λ few. hold-stay t _ (pipe-holds t)) (λ full. stay-same t))

      by : (reader : Option ℕ) → free_fd fds ≡ reader → Stay t (piped t fds).files
      by None first = rw first (stay-same t)
      by (Some reader) first = by_second reader (free_fd_behind fds reader) first refl

  -- ---- reads and writes

  read_pipe-stay : (pipe most : ℕ) → Stay t (read_pipe t pipe most).files
  unfolding read_pipe with_pipe_bytes
  read_pipe-stay pipe most =
      choice (λ (e : ReadEffect). Stay t e.files) (length (pipe_bytes t pipe) == 0) _ _
      (λ empty. choice (λ (e : ReadEffect). Stay t e.files) (has_writer t pipe) _ _ (λ waits. stay-same t)
      (λ over. stay-same t))
      (λ some. fade-stay t _ (same-opens t _ refl))

  pub read-stay : (fd most : ℕ) → Stay t (read_fd t fds fd most).files
  unfolding read_fd read_file
  read-stay fd most = by (open_for_reading t fds fd) refl
    where
      from : (found : ℕ × OpenFile) (target : Target) → open_for_reading t fds fd ≡ Some found
          → found.1.target ≡ target → Stay t (read_fd t fds fd most).files
      from found (File file) is at =
          rw (is, at) (fade-stay t _ (moved-fades t found.0 found.1 _ (read-there t fds fd found is) (sym at)))
      from found (PipeReader pipe) is at = rw (is, at) (read_pipe-stay pipe most)
      from found (PipeWriter pipe) is at = rw (is, at) (read_pipe-stay pipe most)

      by : (o : Option (ℕ × OpenFile)) → open_for_reading t fds fd ≡ o → Stay t (read_fd t fds fd most).files
      by None is = rw is (stay-same t)
      by (Some found) is = from found found.1.target is refl

  write_pipe-stay : (pipe : ℕ) (bytes : List ℕ) → Stay t (write_pipe t fds pipe bytes).files
  unfolding write_pipe with_pipe_bytes
  write_pipe-stay pipe bytes =
      choice (λ (e : FileEffect ℕ). Stay t e.files) (has_reader t pipe) _ _
      (λ read. choice (λ (e : FileEffect ℕ). Stay t e.files)
      (nat_lt pipe_size_limit (length (pipe_bytes t pipe) + length bytes)) _ _ (λ full. stay-same t)
      (λ room. fade-stay t _ (same-opens t _ refl)))
      (λ none. stay-same t)

  write_file-stay : (at : ℕ) (o : OpenFile) (file : ℕ) (bytes : List ℕ) → at_place t.opens at ≡ Some o
      → Stay t (write_file t fds at o file bytes).files
  unfolding write_file
  write_file-stay at o file bytes there =
      choice (λ (e : FileEffect ℕ). Stay t e.files) (nat_lt file_size_limit (o.offset + length bytes)) _ _
      (λ long. stay-same t)
      (λ short.
      let written : FileTable = with_file_bytes t file (after_write (contents t o.target) o.offset bytes) in
      let same : written.opens ≡ t.opens =
      opens-file_bytes t file (after_write (contents t o.target) o.offset bytes) in
      fade-stay t _
      (fade-fade t written _ (same-opens t written same)
      (moved-fades written at o (record o { offset = o.offset + length bytes })
      (ap (λ (xs : List (Option OpenFile)). at_place xs at) same ∙ there) refl)))

  pub write-stay : (fd : ℕ) (bytes : List ℕ) → Stay t (write_fd t fds fd bytes).files
  unfolding write_fd
  write-stay fd bytes = by (open_for_writing t fds fd) refl
    where
      into : (found : ℕ × OpenFile) (target : Target) → open_for_writing t fds fd ≡ Some found
          → found.1.target ≡ target → Stay t (write_fd t fds fd bytes).files
      into found (File file) is at =
          rw (is, at) (write_file-stay found.0 (record found.1 { target = File file }) file bytes
          (write-there t fds fd found is ∙ ap (λ (x : Target). Some (record found.1 { target = x })) at))
      into found (PipeReader pipe) is at = rw (is, at) (write_pipe-stay pipe bytes)
      into found (PipeWriter pipe) is at = rw (is, at) (write_pipe-stay pipe bytes)

      by : (o : Option (ℕ × OpenFile)) → open_for_writing t fds fd ≡ o → Stay t (write_fd t fds fd bytes).files
      by None is = rw is (stay-same t)
      by (Some found) is = into found found.1.target is refl
