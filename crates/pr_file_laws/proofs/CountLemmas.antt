use Rattle.std.proofs.Common.{◌≡◌, ◌≢◌, ℕ, zero, suc, ◌+◌, ◌-◌, ◌^◌, ◌<◌, ◌≤◌, Bool, true, false, eqb, ltb, leb, cond, Ok, ◌⊎◌, Option, Some, None, is_some, is_none, List, [], ◌∷◌, length, get_or, set, drop, refl, sym, ◌∙◌, ap, arith, inl, inr}
use Rattle.std.specs.List.{count_by, list_any, position, slice_get}
use Rattle.std.specs.Option.{option_and_then, option_flatten, option_map}
use Rattle.std.proofs.lemmas.Bool.{cases_eq, eq-eqb, ne_eqb, ltb-true, ltb-false}
use Rattle.std.proofs.lemmas.List.Elements.{All-from_get_or}
use Rattle.std.proofs.lemmas.List.Quantifiers.{position-Some}
use Rattle.std.proofs.lemmas.List.Sums.{sum_by-cons, sum_by-set}
use Rattle.std.proofs.lemmas.Option.{get_or_from_slice_get, cond_some, same_Some, slice_get-get_or, slice_get_within}
use Rattle.pr_num.specs.Limits.{file_size_limit, pipe_size_limit, file_limit, pipe_limit}
use Rattle.pr_num.specs.declared.files.OpenFile.{OpenFile}
use Rattle.pr_num.specs.declared.files.Access.TheVariants.{Read, Write}
use Rattle.pr_num.specs.declared.files.StoredFile.{StoredFile}
use Rattle.pr_num.specs.declared.files.Target.{Target}
use Rattle.pr_num.specs.declared.files.Target.TheVariants.{File, PipeReader, PipeWriter}
use Rattle.pr_parts.specs.declared.files.FileNo.TheVariants.{BadOffset, NotSeekable, TableFull}
use Rattle.pr_num.specs.Files.{FileTable, Descriptors, with_user_gone, with_all_closed, without_idle_pipe, pipe_of, is_end_of}
use Rattle.pr_parts.specs.FileTables.{open_of, open_with_place, IsFileTable, HasRoom, HasRoomAt, AreOpenIn, CountsUsers, file_named, users_of, users_at, stands_for, count_at, at_place, free_fd_behind, free_place, with_placed}
use Rattle.pr_parts.specs.FileTransfers.{after_write, bytes_from, has_reader, has_writer, pipe_bytes, read_fd, read_file, read_open, read_pipe, with_file_bytes, with_pipe_bytes, write_fd, write_file, write_open, write_pipe}
use Rattle.pr_parts.specs.FileCalls.{contents, open_for_reading, open_for_writing, reads, writes, FileEffect, sought, with_open_at, with_user_added, with_open, with_file, with_all_shared, access_of, closed, created_file, creates, duplicated, first_open, made_pipe, opened, opened_file, piped, refused, with_pipe, with_read_end}
use Rattle.pr_file_laws.proofs.PlaceLemmas.{slice_get-set_other, slice_get-set_same}
use Rattle.pr_file_laws.proofs.TableLemmas.{IsFileTable-user_gone, IsOpenFile-at, from_flat}

-- Each open file counts the descriptors that stand for it.

-- so many at one place, and none elsewhere
abbrev pub only_at : ℕ → ℕ → ℕ → ℕ
only_at here place n = cond (eqb here place) n 0

at_same : (here n : ℕ) → only_at here here n ≡ n
at_same here n = ap (λ b. cond b n 0) (eq-eqb here here refl)

elsewhere : (here place n : ℕ) → here ≢ place → only_at here place n ≡ 0
elsewhere here place n ne = ap (λ b. cond b n 0) (ne_eqb here place ne)

-- ---- the users of an open file that is written anew

users-set : (opens : List (Option OpenFile)) (here place : ℕ) (o : OpenFile) (next : Option OpenFile)
    → at_place opens here ≡ Some o
    → users_of (at_place (set opens here next) place) + only_at here place o.users
    ≡ users_of (at_place opens place) + only_at here place (users_of next)
users-set opens here place o next there = go (cases_eq here place)
  where
    at : slice_get opens here ≡ Some (Some o)
    at = from_flat (slice_get opens here) o there

    go : (here ≡ place) ⊎ (here ≢ place)
        → users_of (at_place (set opens here next) place) + only_at here place o.users
        ≡ users_of (at_place opens place) + only_at here place (users_of next)
    go (inl same) =
        rw (
          ← same,
          slice_get-set_same opens here (Some o) next at,
          at,
          at_same here o.users,
          at_same here (users_of next),
        ) (omega arith)
    go (inr ne) =
        rw (
          slice_get-set_other opens here place next (λ e. ne (sym e)),
          elsewhere here place o.users ne,
          elsewhere here place (users_of next) ne,
        ) refl

-- ---- a descriptor fewer and a descriptor more

opens-without_idle_pipe : (pipe : Option ℕ) (t : FileTable) → (without_idle_pipe pipe t).opens ≡ t.opens
unfolding without_idle_pipe
opens-without_idle_pipe None t = refl
opens-without_idle_pipe (Some pipe) t =
    elim (list_any (is_end_of pipe) t.opens)
    as (λ b. (cond b t (record t { pipes = set t.pipes pipe None })).opens ≡ t.opens) [ true ↦ refl | false ↦ refl ]

none_at : (b : Bool) → cond {A = ℕ} b 0 0 ≡ 0
none_at true = refl
none_at false = refl

gone_users : (t : FileTable) (here place : ℕ) (o : OpenFile) → at_place t.opens here ≡ Some o → 1 ≤ o.users
    → users_at
    (cond (ltb 1 o.users) (record t { opens = set t.opens here (Some (record o { users = o.users - 1 })) })
    (without_idle_pipe (pipe_of o.target) (record t { opens = set t.opens here None }))) place + only_at here place 1
    ≡ users_at t place
gone_users t here place o there used =
    elim (ltb 1 o.users)
    as (λ b. ltb 1 o.users ≡ b
    → users_at
    (cond b (record t { opens = set t.opens here (Some (record o { users = o.users - 1 })) })
    (without_idle_pipe (pipe_of o.target) (record t { opens = set t.opens here None }))) place
    + only_at here place 1 ≡ users_at t place)
    [ true ↦ λ more. fewer (ltb-true 1 o.users more) | false ↦ λ last. none_left (ltb-false 1 o.users last) ] refl
  where
    split : only_at here place o.users ≡ only_at here place (o.users - 1) + only_at here place 1
    split = elim (eqb here place) as (λ b. cond b o.users 0 ≡ cond b (o.users - 1) 0 + cond b 1 0)
        [ true ↦ omega arith | false ↦ omega arith ]

    fewer : 1 < o.users
        → users_of (at_place (set t.opens here (Some (record o { users = o.users - 1 }))) place) + only_at here place 1
        ≡ users_at t place
    fewer more = omega (arith, users-set t.opens here place o (Some (record o { users = o.users - 1 })) there, split)

    one : o.users ≤ 1 → only_at here place o.users ≡ only_at here place 1
    one last = ap (only_at here place) (omega arith)

    zero_there : only_at here place 0 ≡ 0
    zero_there = none_at (eqb here place)

    none_left : o.users ≤ 1
        → users_at (without_idle_pipe (pipe_of o.target) (record t { opens = set t.opens here None })) place
        + only_at here place 1 ≡ users_at t place
    none_left last =
        rw (opens-without_idle_pipe (pipe_of o.target) (record t { opens = set t.opens here None }))
        (omega (arith, users-set t.opens here place o None there, one last, zero_there))

pub users-user_gone : (t : FileTable) (here place : ℕ) (o : OpenFile) → at_place t.opens here ≡ Some o → 1 ≤ o.users
    → users_at (with_user_gone t here) place + only_at here place 1 ≡ users_at t place
unfolding with_user_gone
users-user_gone t here place o there used =
    rw (from_flat (slice_get t.opens here) o there) (gone_users t here place o there used)

pub users-user_added : (t : FileTable) (here place : ℕ) (o : OpenFile) → at_place t.opens here ≡ Some o
    → users_at (with_user_added t here) place ≡ users_at t place + only_at here place 1
unfolding with_user_added
users-user_added t here place o there =
    rw (from_flat (slice_get t.opens here) o there)
    (omega (arith, users-set t.opens here place o (Some (record o { users = o.users + 1 })) there, split))
  where
    split : only_at here place (o.users + 1) ≡ only_at here place o.users + only_at here place 1
    split = elim (eqb here place) as (λ b. cond b (o.users + 1) 0 ≡ cond b o.users 0 + cond b 1 0)
        [ true ↦ refl | false ↦ refl ]

-- ---- the descriptors of a process, when one is written anew

pub count-set : (fds : Descriptors) (fd place : ℕ) (before next : Option ℕ) → slice_get fds fd ≡ Some before
    → count_at (set fds fd next) place + cond (stands_for place before) 1 0
    ≡ count_at fds place + cond (stands_for place next) 1 0
count-set fds fd place before next there =
    let counted =
    sum_by-set (λ x. cond (stands_for place x) 1 0) fds fd next before (slice_get_within fds fd before there) in
    rw (get_or_from_slice_get fds fd before before there) at counted

-- ---- each call

unchanged : (t : FileTable) (fds : Descriptors) → CountsUsers t fds t fds
unchanged t fds = record { each = λ place. refl }

-- an open file that stands at a place counts some descriptor
used_at : (t : FileTable) (here : ℕ) (o : OpenFile) → slice_get t.opens here ≡ Some (Some o) → IsFileTable t
    → 1 ≤ o.users
used_at t here o there h = (IsOpenFile-at t here o (ap option_flatten there) h).used

pub CountsUsers-closed : (t : FileTable) (fds : Descriptors) (fd : ℕ) → IsFileTable t
    → CountsUsers t fds (closed t fds fd).files (closed t fds fd).fds
unfolding closed open_of
CountsUsers-closed t fds fd h = at_fd (slice_get fds fd) refl
  where
    gone : (here : ℕ) (o : OpenFile) → slice_get fds fd ≡ Some (Some here) → slice_get t.opens here ≡ Some (Some o)
        → CountsUsers t fds (with_user_gone t here) (set fds fd None)
    gone here o e there =
        record {
          each =
              λ place.
              omega (
                arith,
                users-user_gone t here place o (ap option_flatten there) (used_at t here o there h),
                count-set fds fd place (Some here) None e,
              );
        }

    at_open : (here : ℕ) (found : Option (Option OpenFile)) → slice_get fds fd ≡ Some (Some here)
        → slice_get t.opens here ≡ found → CountsUsers t fds (closed t fds fd).files (closed t fds fd).fds
    at_open here None e there = rw (e, there) (unchanged t fds)
    at_open here (Some None) e there = rw (e, there) (unchanged t fds)
    at_open here (Some (Some o)) e there = rw (e, there) (gone here o e there)

    at_fd : (found : Option (Option ℕ)) → slice_get fds fd ≡ found
        → CountsUsers t fds (closed t fds fd).files (closed t fds fd).fds
    at_fd None e = rw e (unchanged t fds)
    at_fd (Some None) e = rw e (unchanged t fds)
    at_fd (Some (Some here)) e = at_open here (slice_get t.opens here) e refl

-- ---- a free descriptor is taken

from_none : {X : Type 0} (o : Option X) → is_none o ≡ true → o ≡ None
from_none None e = refl
from_none (Some x) e = cc

free-None : (fds : Descriptors) (fd : ℕ) → position is_none fds ≡ Some fd → slice_get fds fd ≡ Some None
free-None fds fd e =
    let found = position-Some is_none fds fd None e in
    slice_get-get_or fds fd None found.0 ∙ ap Some (from_none (get_or fds fd None) found.1)

count-taken : (fds : Descriptors) (fd here place : ℕ) → slice_get fds fd ≡ Some None
    → count_at (set fds fd (Some here)) place ≡ count_at fds place + only_at here place 1
count-taken fds fd here place free =
    let counted = count-set fds fd place None (Some here) free in
    omega (arith, counted)

-- ---- dup

pub CountsUsers-duplicated : (t : FileTable) (fds : Descriptors) (fd : ℕ)
    → CountsUsers t fds (duplicated t fds fd).files (duplicated t fds fd).fds
unfolding duplicated open_of
CountsUsers-duplicated t fds fd = at_fd (slice_get fds fd) refl
  where
    added : (here free : ℕ) (o : OpenFile) → position is_none fds ≡ Some free → slice_get t.opens here ≡ Some (Some o)
        → CountsUsers t fds (with_user_added t here) (set fds free (Some here))
    added here free o e there =
        record {
          each =
              λ place.
              omega (
                arith,
                users-user_added t here place o (ap option_flatten there),
                count-taken fds free here place (free-None fds free e),
              );
        }

    at_free : (here : ℕ) (o : OpenFile) (free : Option ℕ) → slice_get fds fd ≡ Some (Some here)
        → slice_get t.opens here ≡ Some (Some o) → position is_none fds ≡ free
        → CountsUsers t fds (duplicated t fds fd).files (duplicated t fds fd).fds
    at_free here o None e there none = rw (e, there, none) (unchanged t fds)
    at_free here o (Some free) e there found = rw (e, there, found) (added here free o found there)

    at_open : (here : ℕ) (found : Option (Option OpenFile)) → slice_get fds fd ≡ Some (Some here)
        → slice_get t.opens here ≡ found → CountsUsers t fds (duplicated t fds fd).files (duplicated t fds fd).fds
    at_open here None e there = rw (e, there) (unchanged t fds)
    at_open here (Some None) e there = rw (e, there) (unchanged t fds)
    at_open here (Some (Some o)) e there = at_free here o (position is_none fds) e there refl

    at_fd : (found : Option (Option ℕ)) → slice_get fds fd ≡ found
        → CountsUsers t fds (duplicated t fds fd).files (duplicated t fds fd).fds
    at_fd None e = rw e (unchanged t fds)
    at_fd (Some None) e = rw e (unchanged t fds)
    at_fd (Some (Some here)) e = at_open here (slice_get t.opens here) e refl

-- ---- an open file more

shift : (n p k : ℕ) → only_at (1 + n) (suc p) k ≡ only_at n p k
shift n p k =
    elim (cases_eq n p) [
      | inl same ↦
          (let next : 1 + n ≡ suc p = omega arith in
          ap (λ b. cond b k 0) (eq-eqb (1 + n) (suc p) next ∙ sym (eq-eqb n p same)))
      | inr ne ↦
          (let other : 1 + n ≢ suc p = λ e. ne (omega arith) in
          ap (λ b. cond b k 0) (ne_eqb (1 + n) (suc p) other ∙ sym (ne_eqb n p ne)))
    ]

users-placed : (opens : List (Option OpenFile)) (o : OpenFile) (place : ℕ)
    → users_of (at_place (with_placed opens o) place)
    ≡ users_of (at_place opens place) + only_at (free_place opens) place o.users
users-placed [] o zero = omega (arith, at_same 0 o.users)
users-placed [] o (suc p) = omega (arith, elsewhere 0 (suc p) o.users (λ e. omega arith))
users-placed (None ∷ xs) o zero = omega (arith, at_same 0 o.users)
users-placed (None ∷ xs) o (suc p) = omega (arith, elsewhere 0 (suc p) o.users (λ e. omega arith))
users-placed (Some y ∷ xs) o zero = omega (arith, elsewhere (1 + free_place xs) 0 o.users (λ e. omega arith))
users-placed (Some y ∷ xs) o (suc p) = omega (arith, users-placed xs o p, shift (free_place xs) p o.users)

pub users-with_open : (t : FileTable) (o : OpenFile) (place : ℕ)
    → users_at (with_open t o) place ≡ users_at t place + only_at (free_place t.opens) place o.users
unfolding with_open
users-with_open t o place = users-placed t.opens o place

pub CountsUsers-opened_file : (t : FileTable) (fds : Descriptors) (fd file flags : ℕ) → position is_none fds ≡ Some fd
    → CountsUsers t fds (opened_file t fds fd file flags).files (opened_file t fds fd file flags).fds
unfolding opened_file
CountsUsers-opened_file t fds fd file flags e = record {
  each = λ place.
      omega (
        arith,
        users-with_open t (first_open (File file) (access_of flags)) place,
        count-taken fds fd (free_place t.opens) place (free-None fds fd e),
      );
}

CountsUsers-created_file : (t : FileTable) (fds : Descriptors) (fd : ℕ) (name : List ℕ) (flags : ℕ)
    → position is_none fds ≡ Some fd
    → CountsUsers t fds (created_file t fds fd name flags).files (created_file t fds fd name flags).fds
unfolding created_file with_file
CountsUsers-created_file t fds fd name flags e =
    elim (ltb (length t.files) file_limit)
    as (λ b.
    CountsUsers t fds
    (cond b (opened_file (with_file t name []) fds fd (length t.files) flags) (refused t fds TableFull)).files
    (cond b (opened_file (with_file t name []) fds fd (length t.files) flags) (refused t fds TableFull)).fds) [
      | true ↦ record { each = (CountsUsers-opened_file (with_file t name []) fds fd (length t.files) flags e).each }
      | false ↦ unchanged t fds
    ]

pub CountsUsers-opened : (t : FileTable) (fds : Descriptors) (name : List ℕ) (flags : ℕ)
    → CountsUsers t fds (opened t fds name flags).files (opened t fds name flags).fds
unfolding opened
CountsUsers-opened t fds name flags = at_file (file_named t name) refl
  where
    at_new : (free : Option ℕ) → file_named t name ≡ None → position is_none fds ≡ free → creates flags ≡ true
        → CountsUsers t fds (opened t fds name flags).files (opened t fds name flags).fds
    at_new None none e made = rw (none, e, made) (unchanged t fds)
    at_new (Some fd) none e made = rw (none, e, made) (CountsUsers-created_file t fds fd name flags e)

    at_none : (made : Bool) → file_named t name ≡ None → creates flags ≡ made
        → CountsUsers t fds (opened t fds name flags).files (opened t fds name flags).fds
    at_none true none made = at_new (position is_none fds) none refl made
    at_none false none made = rw (none, made) (unchanged t fds)

    at_free : (file : ℕ) (free : Option ℕ) → file_named t name ≡ Some file → position is_none fds ≡ free
        → CountsUsers t fds (opened t fds name flags).files (opened t fds name flags).fds
    at_free file None found e = rw (found, e) (unchanged t fds)
    at_free file (Some fd) found e = rw (found, e) (CountsUsers-opened_file t fds fd file flags e)

    at_file : (file : Option ℕ) → file_named t name ≡ file
        → CountsUsers t fds (opened t fds name flags).files (opened t fds name flags).fds
    at_file None none = at_none (creates flags) none refl
    at_file (Some file) found = at_free file (position is_none fds) found refl

-- ---- pipe

slice_get-drop : {X : Type 0} (n : ℕ) (xs : List X) (i : ℕ) → slice_get (drop n xs) i ≡ slice_get xs (n + i)
slice_get-drop zero xs i = let same : i ≡ 0 + i = omega arith in ap (slice_get xs) same
slice_get-drop (suc n) [] i = refl
slice_get-drop (suc n) (x ∷ xs) i =
    let next : suc n + i ≡ suc (n + i) = omega arith in
    slice_get-drop n xs i ∙ ap (slice_get (x ∷ xs)) (sym next)

-- the next free descriptor is free, and is another one
behind_is_free : (fds : Descriptors) (fd next : ℕ) → free_fd_behind fds fd ≡ Some next
    → (slice_get fds next ≡ Some None) × (next ≢ fd)
behind_is_free fds fd next e = from (position is_none (drop (fd + 1) fds)) refl e
  where
    from : (found : Option ℕ) → position is_none (drop (fd + 1) fds) ≡ found
        → option_map (λ i. fd + 1 + i) found ≡ Some next → (slice_get fds next ≡ Some None) × (next ≢ fd)
    from None at none = cc
    from (Some i) at there =
        let here : fd + 1 + i ≡ next = same_Some (fd + 1 + i) next there in (
          ap (slice_get fds) (sym here) ∙ sym (slice_get-drop (fd + 1) fds i)
              ∙ free-None (drop (fd + 1) fds) i at,
          λ same. omega arith,
        )

pub CountsUsers-made_pipe : (t : FileTable) (fds : Descriptors) (reader writer : ℕ) → position is_none fds ≡ Some reader
    → free_fd_behind fds reader ≡ Some writer
    → CountsUsers t fds (made_pipe t fds reader writer).files (made_pipe t fds reader writer).fds
unfolding made_pipe with_pipe with_read_end
CountsUsers-made_pipe t fds reader writer first second =
    let piped : FileTable = record t { pipes = with_placed t.pipes [] } in
    let read_end : OpenFile = first_open (PipeReader (free_place t.pipes)) Read in
    let write_end : OpenFile = first_open (PipeWriter (free_place t.pipes)) Write in
    let behind = behind_is_free fds reader writer second in
    let still : slice_get (set fds reader (Some (free_place t.opens))) writer ≡ Some None =
    slice_get-set_other fds reader writer (Some (free_place t.opens)) behind.1 ∙ behind.0 in
    record {
      each = λ place.
          omega (
            arith,
            users-with_open piped read_end place,
            users-with_open (with_open piped read_end) write_end place,
            count-taken fds reader (free_place t.opens) place (free-None fds reader first),
            count-taken (set fds reader (Some (free_place t.opens))) writer
                (free_place (with_open piped read_end).opens) place still,
          );
    }

pub CountsUsers-piped : (t : FileTable) (fds : Descriptors) → CountsUsers t fds (piped t fds).files (piped t fds).fds
unfolding piped
CountsUsers-piped t fds = at_first (position is_none fds) refl
  where
    at_room : (room : Bool) (reader writer : ℕ) → position is_none fds ≡ Some reader
        → free_fd_behind fds reader ≡ Some writer → ltb (count_by is_some t.pipes) pipe_limit ≡ room
        → CountsUsers t fds (piped t fds).files (piped t fds).fds
    at_room true reader writer first second room =
        rw (first, second, room) (CountsUsers-made_pipe t fds reader writer first second)
    at_room false reader writer first second room = rw (first, second, room) (unchanged t fds)

    at_second : (reader : ℕ) (writer : Option ℕ) → position is_none fds ≡ Some reader
        → free_fd_behind fds reader ≡ writer → CountsUsers t fds (piped t fds).files (piped t fds).fds
    at_second reader None first second = rw (first, second) (unchanged t fds)
    at_second reader (Some writer) first second =
        at_room (ltb (count_by is_some t.pipes) pipe_limit) reader writer first second refl

    at_first : (reader : Option ℕ) → position is_none fds ≡ reader
        → CountsUsers t fds (piped t fds).files (piped t fds).fds
    at_first None first = rw first (unchanged t fds)
    at_first (Some reader) first = at_second reader (free_fd_behind fds reader) first refl

-- ---- all descriptors at once

count-cons : (fd : Option ℕ) (fds : Descriptors) (place : ℕ)
    → count_at (fd ∷ fds) place ≡ cond (stands_for place fd) 1 0 + count_at fds place
count-cons fd fds place = sum_by-cons (λ x. cond (stands_for place x) 1 0) fd fds

rest_open : (fd : Option ℕ) (fds : Descriptors) (t : FileTable) → AreOpenIn (fd ∷ fds) t → AreOpenIn fds t
rest_open fd fds t h = record { each = λ place. omega (arith, count-cons fd fds place, h.each place) }

-- where some descriptor is counted an open file stands
counted_open : (o : Option OpenFile) → 1 ≤ users_of o → (f : OpenFile) × (o ≡ Some f)
counted_open None used = absurd (omega arith)
counted_open (Some o) used = (o, refl)

-- the first of some open descriptors stands for an open file
first_is_open : (here : ℕ) (fds : Descriptors) (t : FileTable) → AreOpenIn (Some here ∷ fds) t
    → (f : OpenFile) × (at_place t.opens here ≡ Some f)
first_is_open here fds t h =
    counted_open (at_place t.opens here) (omega (arith, h.each here, count-cons (Some here) fds here, at_same here 1))

pub users-all_shared : (t : FileTable) (fds : Descriptors) → AreOpenIn fds t → (place : ℕ)
    → users_at (with_all_shared t fds) place ≡ users_at t place + count_at fds place
unfolding with_all_shared
users-all_shared t [] h place = omega arith
users-all_shared t (None ∷ fds) h place =
    omega (arith, users-all_shared t fds (rest_open None fds t h) place, count-cons None fds place)
users-all_shared t (Some here ∷ fds) h place =
    let file = first_is_open here fds t h in
    let next : AreOpenIn fds (with_user_added t here) =
    record {
      each =
          λ p. omega (arith, (rest_open (Some here) fds t h).each p, users-user_added t here p file.0 file.1);
    } in
    omega (
      arith,
      users-all_shared (with_user_added t here) fds next place,
      users-user_added t here place file.0 file.1,
      count-cons (Some here) fds place,
    )

pub users-all_closed : (t : FileTable) (fds : Descriptors) → IsFileTable t → AreOpenIn fds t → (place : ℕ)
    → users_at (with_all_closed t fds) place + count_at fds place ≡ users_at t place
unfolding with_all_closed
users-all_closed t [] k h place = omega arith
users-all_closed t (None ∷ fds) k h place =
    omega (arith, users-all_closed t fds k (rest_open None fds t h) place, count-cons None fds place)
users-all_closed t (Some here ∷ fds) k h place =
    let file = first_is_open here fds t h in
    let used = (IsOpenFile-at t here file.0 file.1 k).used in
    let next : AreOpenIn fds (with_user_gone t here) =
    record {
      each =
          λ p. omega (arith, h.each p, users-user_gone t here p file.0 file.1 used, count-cons (Some here) fds p);
    } in
    omega (
      arith,
      users-all_closed (with_user_gone t here) fds (IsFileTable-user_gone t here k) next place,
      users-user_gone t here place file.0 file.1 used,
      count-cons (Some here) fds place,
    )

-- ---- calls that leave the descriptors

from_pair : (o : Option OpenFile) (here : ℕ) (found : ℕ × OpenFile) → option_map (λ f. (here, f)) o ≡ Some found
    → (here ≡ found.0) × (o ≡ Some found.1)
from_pair None here found e = cc
from_pair (Some f) here found e = let same = same_Some (here, f) found e in
    (ap (λ x. x.0) same, ap (λ x. Some x.1) same)

pub open_of-there : (t : FileTable) (fds : Descriptors) (fd : ℕ) (found : ℕ × OpenFile) → open_of t fds fd ≡ Some found
    → at_place t.opens found.0 ≡ Some found.1
unfolding open_of
open_of-there t fds fd found e = at (at_place fds fd) e
  where
    at : (place : Option ℕ) → open_with_place t place ≡ Some found → at_place t.opens found.0 ≡ Some found.1
    at None none = cc
    at (Some here) there = let parts = from_pair (at_place t.opens here) here found there in rw (← parts.0) parts.1

users-moved : (t : FileTable) (here place offset : ℕ) (o : OpenFile) → at_place t.opens here ≡ Some o
    → users_at (with_open_at t here (record o { offset = offset })) place ≡ users_at t place
unfolding with_open_at
users-moved t here place offset o there =
    omega (arith, users-set t.opens here place o (Some (record o { offset = offset })) there)

-- one of two effects, neither of which changes a count
kept_effect : {A : Type 0} (b : Bool) (x y : FileEffect A) (place users : ℕ) → users_at x.files place ≡ users
    → users_at y.files place ≡ users → users_at (cond b x y).files place ≡ users
kept_effect true x y place users p q = p
kept_effect false x y place users p q = q

pub users-sought : (t : FileTable) (fds : Descriptors) (fd offset place : ℕ)
    → users_at (sought t fds fd offset).files place ≡ users_at t place
unfolding sought
users-sought t fds fd offset place = at_open (open_of t fds fd) refl
  where
    moved : (found : ℕ × OpenFile) → open_of t fds fd ≡ Some found
        → users_at
        (cond (is_some (pipe_of found.1.target)) (refused {A = ℕ} t fds NotSeekable)
        (cond (leb offset file_size_limit)
        (record { files = with_open_at t found.0 (record found.1 { offset = offset }); fds = fds; answer = Ok offset })
        (refused t fds BadOffset))).files place ≡ users_at t place
    moved found e =
        kept_effect (is_some (pipe_of found.1.target)) (refused t fds NotSeekable)
        (cond (leb offset file_size_limit)
        (record {
          files = with_open_at t found.0 (record found.1 { offset = offset });
          fds = fds;
          answer =
              Ok offset;
        }) (refused t fds BadOffset)) place (users_at t place) refl
        (kept_effect (leb offset file_size_limit)
        (record {
          files = with_open_at t found.0 (record found.1 { offset = offset });
          fds = fds;
          answer =
              Ok offset;
        }) (refused t fds BadOffset) place (users_at t place)
        (users-moved t found.0 place offset found.1 (open_of-there t fds fd found e)) refl)

    at_open : (found : Option (ℕ × OpenFile)) → open_of t fds fd ≡ found
        → users_at (sought t fds fd offset).files place ≡ users_at t place
    at_open None e = rw e refl
    at_open (Some found) e = rw e (moved found e)

-- an open file that may be used so is the descriptor's
chosen : (b : ℕ × OpenFile → Bool) (o : Option (ℕ × OpenFile)) (found : ℕ × OpenFile)
    → option_and_then (λ x. cond (b x) (Some x) None) o ≡ Some found → o ≡ Some found
chosen b None found e = cc
chosen b (Some x) found e = ap Some (cond_some (b x) x found e).1

pub read-there : (t : FileTable) (fds : Descriptors) (fd : ℕ) (found : ℕ × OpenFile)
    → open_for_reading t fds fd ≡ Some found → at_place t.opens found.0 ≡ Some found.1
unfolding open_for_reading
read-there t fds fd found e = open_of-there t fds fd found (chosen (λ x. reads x.1.access) (open_of t fds fd) found e)

pub write-there : (t : FileTable) (fds : Descriptors) (fd : ℕ) (found : ℕ × OpenFile)
    → open_for_writing t fds fd ≡ Some found → at_place t.opens found.0 ≡ Some found.1
unfolding open_for_writing
write-there t fds fd found e = open_of-there t fds fd found (chosen (λ x. writes x.1.access) (open_of t fds fd) found e)

users-read_pipe : (t : FileTable) (pipe most place : ℕ)
    → users_at (read_pipe t pipe most).files place ≡ users_at t place
unfolding read_pipe with_pipe_bytes
users-read_pipe t pipe most place = at_empty (eqb (length (pipe_bytes t pipe)) 0) refl
  where
    at_writer : (b : Bool) → eqb (length (pipe_bytes t pipe)) 0 ≡ true → has_writer t pipe ≡ b
        → users_at (read_pipe t pipe most).files place ≡ users_at t place
    at_writer true e w = rw (e, w) refl
    at_writer false e w = rw (e, w) refl

    at_empty : (b : Bool) → eqb (length (pipe_bytes t pipe)) 0 ≡ b
        → users_at (read_pipe t pipe most).files place ≡ users_at t place
    at_empty true e = at_writer (has_writer t pipe) e refl
    at_empty false e = rw e refl

users-read_file : (t : FileTable) (here most place : ℕ) (o : OpenFile) → at_place t.opens here ≡ Some o
    → users_at (read_file t here o most).files place ≡ users_at t place
unfolding read_file
users-read_file t here most place o there =
    users-moved t here place (o.offset + length (bytes_from (contents t o.target) o.offset most)) o there

users-read_open : (t : FileTable) (here most place : ℕ) (o : OpenFile) → at_place t.opens here ≡ Some o
    → users_at (read_open t here o most).files place ≡ users_at t place
users-read_open t here most place o there = at_target o.target refl
  where
    at_target : (target : Target) → o.target ≡ target
        → users_at (read_open t here o most).files place ≡ users_at t place
    at_target (File file) e =
        rw e (users-read_file t here most place (record o { target = File file })
        (there ∙ ap (λ (target : Target). Some (record o { target = target })) e))
    at_target (PipeReader pipe) e = rw e (users-read_pipe t pipe most place)
    at_target (PipeWriter pipe) e = rw e (users-read_pipe t pipe most place)

pub users-read : (t : FileTable) (fds : Descriptors) (fd most place : ℕ)
    → users_at (read_fd t fds fd most).files place ≡ users_at t place
unfolding read_fd
users-read t fds fd most place = at_open (open_for_reading t fds fd) refl
  where
    at_open : (found : Option (ℕ × OpenFile)) → open_for_reading t fds fd ≡ found
        → users_at (read_fd t fds fd most).files place ≡ users_at t place
    at_open None e = rw e refl
    at_open (Some found) e = rw e (users-read_open t found.0 most place found.1 (read-there t fds fd found e))

pub opens-file_bytes : (t : FileTable) (file : ℕ) (bytes : List ℕ) → (with_file_bytes t file bytes).opens ≡ t.opens
unfolding with_file_bytes
opens-file_bytes t file bytes = at (slice_get t.files file) refl
  where
    at : (found : Option StoredFile) → slice_get t.files file ≡ found → (with_file_bytes t file bytes).opens ≡ t.opens
    at None e = rw e refl
    at (Some f) e = rw e refl

users-write_file : (t : FileTable) (fds : Descriptors) (here file place : ℕ) (bytes : List ℕ) (o : OpenFile)
    → at_place t.opens here ≡ Some o → users_at (write_file t fds here o file bytes).files place ≡ users_at t place
unfolding write_file
users-write_file t fds here file place bytes o there = at_end (ltb file_size_limit (o.offset + length bytes)) refl
  where
    after : List ℕ
    after = after_write (contents t o.target) o.offset bytes

    moved : users_at
        (with_open_at (with_file_bytes t file after) here (record o { offset = o.offset + length bytes })) place
        ≡ users_at t place
    moved =
        let same = opens-file_bytes t file after in
        users-moved (with_file_bytes t file after) here place (o.offset + length bytes) o
        (ap (λ opens. at_place opens here) same ∙ there) ∙ ap (λ opens. users_of (at_place opens place)) same

    at_end : (b : Bool) → ltb file_size_limit (o.offset + length bytes) ≡ b
        → users_at (write_file t fds here o file bytes).files place ≡ users_at t place
    at_end true e = rw e refl
    at_end false e = rw e moved

users-write_pipe : (t : FileTable) (fds : Descriptors) (pipe place : ℕ) (bytes : List ℕ)
    → users_at (write_pipe t fds pipe bytes).files place ≡ users_at t place
unfolding write_pipe with_pipe_bytes
users-write_pipe t fds pipe place bytes = at_reader (has_reader t pipe) refl
  where
    at_room : (b : Bool) → has_reader t pipe ≡ true
        → ltb pipe_size_limit (length (pipe_bytes t pipe) + length bytes) ≡ b
        → users_at (write_pipe t fds pipe bytes).files place ≡ users_at t place
    at_room true e room = rw (e, room) refl
    at_room false e room = rw (e, room) refl

    at_reader : (b : Bool) → has_reader t pipe ≡ b
        → users_at (write_pipe t fds pipe bytes).files place ≡ users_at t place
    at_reader true e = at_room (ltb pipe_size_limit (length (pipe_bytes t pipe) + length bytes)) e refl
    at_reader false e = rw e refl

users-write_open : (t : FileTable) (fds : Descriptors) (here place : ℕ) (bytes : List ℕ) (o : OpenFile)
    → at_place t.opens here ≡ Some o → users_at (write_open t fds here o bytes).files place ≡ users_at t place
users-write_open t fds here place bytes o there = at_target o.target refl
  where
    at_target : (target : Target) → o.target ≡ target
        → users_at (write_open t fds here o bytes).files place ≡ users_at t place
    at_target (File file) e =
        rw e (users-write_file t fds here file place bytes (record o { target = File file })
        (there ∙ ap (λ (target : Target). Some (record o { target = target })) e))
    at_target (PipeReader pipe) e = rw e (users-write_pipe t fds pipe place bytes)
    at_target (PipeWriter pipe) e = rw e (users-write_pipe t fds pipe place bytes)

pub users-written : (t : FileTable) (fds : Descriptors) (fd place : ℕ) (bytes : List ℕ)
    → users_at (write_fd t fds fd bytes).files place ≡ users_at t place
unfolding write_fd
users-written t fds fd place bytes = at_open (open_for_writing t fds fd) refl
  where
    at_open : (found : Option (ℕ × OpenFile)) → open_for_writing t fds fd ≡ found
        → users_at (write_fd t fds fd bytes).files place ≡ users_at t place
    at_open None e = rw e refl
    at_open (Some found) e = rw e (users-write_open t fds found.0 place bytes found.1 (write-there t fds fd found e))

-- ---- room

fits : (o : Option OpenFile) (more : ℕ) → users_of o + more < 2 ^ 32 → HasRoomAt more o
fits None more small = tt
fits (Some o) more small = small

pub HasRoom-from_users : (t : FileTable) (more : ℕ) → ((place : ℕ) → users_at t place + more < 2 ^ 32) → HasRoom t more
HasRoom-from_users t more small = record {
  each = All-from_get_or (HasRoomAt more) t.opens None
      (λ i within. fits (get_or t.opens i None) more (rw (flat_get_or t.opens i within) at (small i)));
}
  where
    flat_get_or : (opens : List (Option OpenFile)) (i : ℕ) → i < length opens → at_place opens i ≡ get_or opens i None
    flat_get_or opens i within = ap option_flatten (slice_get-get_or opens i None within)

pub ruleset countings = (
  CountsUsers-closed,
  CountsUsers-duplicated,
  CountsUsers-opened,
  CountsUsers-piped,
  users-all_shared,
  users-all_closed,
  users-sought,
  users-read,
  users-written,
  HasRoom-from_users,
)
