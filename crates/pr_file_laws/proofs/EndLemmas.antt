use Rattle.std.proofs.Common.{◌≡◌, ◌≢◌, ℕ, zero, suc, ◌+◌, ◌-◌, Bool, true, false, ◌||◌, eqb, ltb, leb, cond, Ok, ◌⊎◌, Option, Some, None, is_some, is_none, List, [], ◌∷◌, ◌++◌, length, set, drop, refl, sym, ◌∙◌, ap, arith, inl, inr}
use Rattle.std.specs.List.{count_by, list_any, position, slice_get}
use Rattle.std.specs.Option.{option_flatten}
use Rattle.std.proofs.lemmas.Bool.{cases_eq, eq-eqb, ne_eqb}
use Rattle.pr_num.specs.Limits.{file_size_limit, pipe_size_limit, file_limit, pipe_limit}
use Rattle.pr_num.specs.declared.files.Access.TheVariants.{Read, Write}
use Rattle.pr_num.specs.declared.files.OpenFile.{OpenFile}
use Rattle.pr_num.specs.declared.files.StoredFile.{StoredFile}
use Rattle.pr_num.specs.declared.files.Target.{Target}
use Rattle.pr_num.specs.declared.files.Target.TheVariants.{File, PipeReader, PipeWriter}
use Rattle.pr_parts.specs.declared.files.FileNo.TheVariants.{BadOffset, NotSeekable, TableFull}
use Rattle.pr_num.specs.Files.{FileTable, Descriptors, with_user_gone, with_all_closed, without_idle_pipe, pipe_of, is_end_of}
use Rattle.pr_parts.specs.FileTables.{PipesHaveEnds, at_place, file_named, free_fd_behind, free_place, open_of, with_placed}
use Rattle.pr_parts.specs.FileCalls.{FileEffect, access_of, closed, contents, created_file, creates, duplicated, first_open, made_pipe, no_files, open_for_reading, open_for_writing, opened, opened_file, piped, refused, sought, with_all_shared, with_file, with_open, with_open_at, with_pipe, with_read_end, with_user_added}
use Rattle.pr_parts.specs.FileTransfers.{after_write, bytes_from, has_reader, has_writer, pipe_bytes, read_fd, read_file, read_open, read_pipe, with_file_bytes, with_pipe_bytes, write_fd, write_file, write_open, write_pipe}
use Rattle.pr_file_laws.proofs.PlaceLemmas.{slice_get-set_other}
use Rattle.pr_file_laws.proofs.CountLemmas.{open_of-there, opens-file_bytes, read-there, write-there}
use Rattle.pr_file_laws.proofs.TableLemmas.{from_flat}

-- Each pipe that stands has an open end.

-- ---- the ends of a pipe among open files

-- whether an open file is an end of a pipe is told by its target
end-target : (pipe : ℕ) (o next : OpenFile) → next.target ≡ o.target
    → is_end_of pipe (Some next) ≡ is_end_of pipe (Some o)
end-target pipe o next same = ap (λ (target : Target). is_end_of pipe (Some (record o { target = target }))) same

-- an open file is written anew with the same target
ends-set : (pipe here : ℕ) (opens : List (Option OpenFile)) (o next : OpenFile) → slice_get opens here ≡ Some (Some o)
    → next.target ≡ o.target → list_any (is_end_of pipe) (set opens here (Some next)) ≡ list_any (is_end_of pipe) opens
ends-set pipe here [] o next e same = cc
ends-set pipe zero (x ∷ xs) o next e same =
    let there : Some o ≡ x = cc in
    ap (λ b. b || list_any (is_end_of pipe) xs) (end-target pipe o next same ∙ ap (is_end_of pipe) there)
ends-set pipe (suc here) (x ∷ xs) o next e same = ap (λ b. is_end_of pipe x || b) (ends-set pipe here xs o next e same)

-- an open file that is no end of a pipe is closed
ends-gone : (pipe here : ℕ) (opens : List (Option OpenFile)) (o : OpenFile) → slice_get opens here ≡ Some (Some o)
    → is_end_of pipe (Some o) ≡ false
    → list_any (is_end_of pipe) (set opens here None) ≡ list_any (is_end_of pipe) opens
ends-gone pipe here [] o e other = cc
ends-gone pipe zero (x ∷ xs) o e other =
    let there : Some o ≡ x = cc in
    ap (λ b. b || list_any (is_end_of pipe) xs) (sym other ∙ ap (is_end_of pipe) there)
ends-gone pipe (suc here) (x ∷ xs) o e other = ap (λ b. is_end_of pipe x || b) (ends-gone pipe here xs o e other)

-- one more file is open
ends-placed : (pipe : ℕ) (opens : List (Option OpenFile)) (o : OpenFile) → list_any (is_end_of pipe) opens ≡ true
    → list_any (is_end_of pipe) (with_placed opens o) ≡ true
ends-placed pipe [] o e = cc
ends-placed pipe (None ∷ xs) o e =
    elim (is_end_of pipe (Some o)) as (λ b. (b || list_any (is_end_of pipe) xs) ≡ true) [ true ↦ refl | false ↦ e ]
ends-placed pipe (Some y ∷ xs) o e =
    elim (is_end_of pipe (Some y))
    as (λ b. (b || list_any (is_end_of pipe) xs) ≡ true
    → (b || list_any (is_end_of pipe) (with_placed xs o)) ≡ true)
    [ true ↦ λ _. refl | false ↦ λ rest. ends-placed pipe xs o rest ] e

-- one more end is open
end-placed : (pipe : ℕ) (opens : List (Option OpenFile)) (o : OpenFile) → is_end_of pipe (Some o) ≡ true
    → list_any (is_end_of pipe) (with_placed opens o) ≡ true
end-placed pipe [] o e = ap (λ b. b || false) e
end-placed pipe (None ∷ xs) o e = ap (λ b. b || list_any (is_end_of pipe) xs) e
end-placed pipe (Some y ∷ xs) o e =
    elim (is_end_of pipe (Some y)) as (λ b. (b || list_any (is_end_of pipe) (with_placed xs o)) ≡ true)
    [ true ↦ refl | false ↦ end-placed pipe xs o e ]

-- an open file at a place is an end
end-there : (pipe here : ℕ) (opens : List (Option OpenFile)) (o : OpenFile) → slice_get opens here ≡ Some (Some o)
    → is_end_of pipe (Some o) ≡ true → list_any (is_end_of pipe) opens ≡ true
end-there pipe here [] o e one = cc
end-there pipe zero (x ∷ xs) o e one =
    let there : x ≡ Some o = cc in
    ap (λ b. b || list_any (is_end_of pipe) xs) (ap (is_end_of pipe) there ∙ one)
end-there pipe (suc here) (x ∷ xs) o e one =
    elim (is_end_of pipe x) as (λ b. (b || list_any (is_end_of pipe) xs) ≡ true)
    [ true ↦ refl | false ↦ end-there pipe here xs o e one ]

-- ---- the pipes that stand

freed : (pipes : List (Option (List ℕ))) (pipe : ℕ) → is_some (at_place (set pipes pipe None) pipe) ≡ false
freed [] pipe = refl
freed (x ∷ xs) zero = refl
freed (x ∷ xs) (suc pipe) = freed xs pipe

-- a pipe that stands once another was put at the least free place is that one, or stood before
placed_or_stood : (pipes : List (Option (List ℕ))) (bytes : List ℕ) (pipe : ℕ)
    → is_some (at_place (with_placed pipes bytes) pipe) ≡ true
    → (is_some (at_place pipes pipe) ≡ true) ⊎ (free_place pipes ≡ pipe)
placed_or_stood [] bytes zero e = inr refl
placed_or_stood [] bytes (suc pipe) e = cc
placed_or_stood (None ∷ xs) bytes zero e = inr refl
placed_or_stood (None ∷ xs) bytes (suc pipe) e = inl e
placed_or_stood (Some y ∷ xs) bytes zero e = inl refl
placed_or_stood (Some y ∷ xs) bytes (suc pipe) e =
    elim (placed_or_stood xs bytes pipe e) [ inl stood ↦ inl stood | inr new ↦ inr (next new) ]
  where
    next : free_place xs ≡ pipe → 1 + free_place xs ≡ suc pipe
    next new = omega arith

-- a pipe that stands once one has other bytes is that one, or stood before
stood-set : (pipes : List (Option (List ℕ))) (here pipe : ℕ) (bytes : Option (List ℕ)) → here ≢ pipe
    → is_some (at_place (set pipes here bytes) pipe) ≡ true → is_some (at_place pipes pipe) ≡ true
stood-set pipes here pipe bytes ne e =
    sym (ap (λ p. is_some (option_flatten p)) (slice_get-set_other pipes here pipe bytes (λ same. ne (sym same)))) ∙ e

-- ---- no file, a file more, an open file more

pub ends-none : PipesHaveEnds no_files
ends-none = record { each = λ pipe stands. cc }

pub ends-with_file : (t : FileTable) (name bytes : List ℕ) → PipesHaveEnds t → PipesHaveEnds (with_file t name bytes)
unfolding with_file
ends-with_file t name bytes h = record { each = h.each }

ends-with_open : (t : FileTable) (o : OpenFile) → PipesHaveEnds t → PipesHaveEnds (with_open t o)
unfolding with_open
ends-with_open t o h = record { each = λ pipe stands. ends-placed pipe t.opens o (h.each pipe stands) }

-- ---- an open file written anew

ends-rewritten : (t : FileTable) (here : ℕ) (o next : OpenFile) → slice_get t.opens here ≡ Some (Some o)
    → next.target ≡ o.target → PipesHaveEnds t → PipesHaveEnds (record t { opens = set t.opens here (Some next) })
ends-rewritten t here o next e same h =
    record { each = λ pipe stands. ends-set pipe here t.opens o next e same ∙ h.each pipe stands }

ends-moved : (t : FileTable) (here offset : ℕ) (o : OpenFile) → at_place t.opens here ≡ Some o → PipesHaveEnds t
    → PipesHaveEnds (with_open_at t here (record o { offset = offset }))
unfolding with_open_at
ends-moved t here offset o e h =
    ends-rewritten t here o (record o { offset = offset }) (from_flat (slice_get t.opens here) o e) refl h

ends-user_added : (t : FileTable) (here : ℕ) → PipesHaveEnds t → PipesHaveEnds (with_user_added t here)
unfolding with_user_added
ends-user_added t here h = go (slice_get t.opens here) refl
  where
    go : (found : Option (Option OpenFile)) → slice_get t.opens here ≡ found → PipesHaveEnds (with_user_added t here)
    go None e = rw e h
    go (Some None) e = rw e h
    go (Some (Some o)) e = rw e (ends-rewritten t here o (record o { users = o.users + 1 }) e refl h)

-- ---- a descriptor fewer

-- an end of a pipe is closed, and the pipe goes with its last one
ends-end_closed : (t : FileTable) (here end : ℕ) (o : OpenFile) → slice_get t.opens here ≡ Some (Some o)
    → ((pipe : ℕ) → end ≢ pipe → is_end_of pipe (Some o) ≡ false) → PipesHaveEnds t
    → PipesHaveEnds (without_idle_pipe (Some end) (record t { opens = set t.opens here None }))
unfolding without_idle_pipe
ends-end_closed t here end o e others h =
    elim (list_any (is_end_of end) (set t.opens here None))
    as (λ b. list_any (is_end_of end) (set t.opens here None) ≡ b
    → PipesHaveEnds
    (cond b (record t { opens = set t.opens here None })
    (record t { opens = set t.opens here None; pipes = set t.pipes end None }))) [
      | true ↦ λ one. record { each = λ pipe stands. with_ends one pipe stands (cases_eq end pipe) }
      | false ↦ λ _. record { each = λ pipe stands. without_ends pipe stands (cases_eq end pipe) }
    ] refl
  where
    with_ends : list_any (is_end_of end) (set t.opens here None) ≡ true → (pipe : ℕ)
        → is_some (at_place t.pipes pipe) ≡ true → (end ≡ pipe) ⊎ (end ≢ pipe)
        → list_any (is_end_of pipe) (set t.opens here None) ≡ true
    with_ends one pipe stands (inl same) = rw (← same) one
    with_ends one pipe stands (inr ne) = ends-gone pipe here t.opens o e (others pipe ne) ∙ h.each pipe stands

    without_ends : (pipe : ℕ) → is_some (at_place (set t.pipes end None) pipe) ≡ true → (end ≡ pipe) ⊎ (end ≢ pipe)
        → list_any (is_end_of pipe) (set t.opens here None) ≡ true
    without_ends pipe stands (inl same) =
        let gone : is_some (at_place (set t.pipes end None) pipe) ≡ false = rw (← same) (freed t.pipes end) in
        cc
    without_ends pipe stands (inr ne) =
        ends-gone pipe here t.opens o e (others pipe ne) ∙ h.each pipe (stood-set t.pipes end pipe None ne stands)

-- an open file is closed
ends-closed_file : (t : FileTable) (here : ℕ) (o : OpenFile) (target : Target)
    → slice_get t.opens here ≡ Some (Some (record o { target = target })) → PipesHaveEnds t
    → PipesHaveEnds (without_idle_pipe (pipe_of target) (record t { opens = set t.opens here None }))
unfolding without_idle_pipe
ends-closed_file t here o (File file) e h =
    record {
      each =
          λ pipe stands. ends-gone pipe here t.opens (record o { target = File file }) e refl ∙ h.each pipe stands;
    }
ends-closed_file t here o (PipeReader end) e h =
    ends-end_closed t here end (record o { target = PipeReader end }) e (λ pipe ne. ne_eqb end pipe ne) h
ends-closed_file t here o (PipeWriter end) e h =
    ends-end_closed t here end (record o { target = PipeWriter end }) e (λ pipe ne. ne_eqb end pipe ne) h

ends-user_gone : (t : FileTable) (here : ℕ) → PipesHaveEnds t → PipesHaveEnds (with_user_gone t here)
unfolding with_user_gone
ends-user_gone t here h = go (slice_get t.opens here) refl
  where
    fewer : (o : OpenFile) → slice_get t.opens here ≡ Some (Some o)
        → PipesHaveEnds
        (cond (ltb 1 o.users) (record t { opens = set t.opens here (Some (record o { users = o.users - 1 })) })
        (without_idle_pipe (pipe_of o.target) (record t { opens = set t.opens here None })))
    fewer o e =
        elim (ltb 1 o.users)
        as (λ b.
        PipesHaveEnds
        (cond b (record t { opens = set t.opens here (Some (record o { users = o.users - 1 })) })
        (without_idle_pipe (pipe_of o.target) (record t { opens = set t.opens here None })))) [
          | true ↦ ends-rewritten t here o (record o { users = o.users - 1 }) e refl h
          | false ↦ ends-closed_file t here o o.target e h
        ]

    go : (found : Option (Option OpenFile)) → slice_get t.opens here ≡ found → PipesHaveEnds (with_user_gone t here)
    go None e = rw e h
    go (Some None) e = rw e h
    go (Some (Some o)) e = rw e (fewer o e)

-- ---- each call

-- one of two effects, both of which keep the ends
either_effect : {A : Type 0} (b : Bool) (x y : FileEffect A) → PipesHaveEnds x.files → PipesHaveEnds y.files
    → PipesHaveEnds (cond b x y).files
either_effect true x y p q = p
either_effect false x y p q = q

pub ends-closed : (t : FileTable) (fds : Descriptors) (fd : ℕ) → PipesHaveEnds t → PipesHaveEnds (closed t fds fd).files
unfolding closed
ends-closed t fds fd h = at_open (open_of t fds fd) refl
  where
    at_open : (found : Option (ℕ × OpenFile)) → open_of t fds fd ≡ found → PipesHaveEnds (closed t fds fd).files
    at_open None e = rw e h
    at_open (Some found) e = rw e (ends-user_gone t found.0 h)

pub ends-duplicated : (t : FileTable) (fds : Descriptors) (fd : ℕ) → PipesHaveEnds t
    → PipesHaveEnds (duplicated t fds fd).files
unfolding duplicated
ends-duplicated t fds fd h = at_open (open_of t fds fd) (position is_none fds) refl refl
  where
    at_open : (found : Option (ℕ × OpenFile)) (free : Option ℕ) → open_of t fds fd ≡ found → position is_none fds ≡ free
        → PipesHaveEnds (duplicated t fds fd).files
    at_open None free e f = rw e h
    at_open (Some found) None e f = rw (e, f) h
    at_open (Some found) (Some free) e f = rw (e, f) (ends-user_added t found.0 h)

ends-opened_file : (t : FileTable) (fds : Descriptors) (fd file flags : ℕ) → PipesHaveEnds t
    → PipesHaveEnds (opened_file t fds fd file flags).files
unfolding opened_file
ends-opened_file t fds fd file flags h = ends-with_open t (first_open (File file) (access_of flags)) h

ends-created_file : (t : FileTable) (fds : Descriptors) (fd : ℕ) (name : List ℕ) (flags : ℕ) → PipesHaveEnds t
    → PipesHaveEnds (created_file t fds fd name flags).files
unfolding created_file
ends-created_file t fds fd name flags h =
    either_effect (ltb (length t.files) file_limit) (opened_file (with_file t name []) fds fd (length t.files) flags)
    (refused t fds TableFull)
    (ends-opened_file (with_file t name []) fds fd (length t.files) flags (ends-with_file t name [] h)) h

pub ends-opened : (t : FileTable) (fds : Descriptors) (name : List ℕ) (flags : ℕ) → PipesHaveEnds t
    → PipesHaveEnds (opened t fds name flags).files
unfolding opened
ends-opened t fds name flags h = at_file (file_named t name) (position is_none fds) (creates flags) refl refl refl
  where
    at_file : (file free : Option ℕ) (made : Bool) → file_named t name ≡ file → position is_none fds ≡ free
        → creates flags ≡ made → PipesHaveEnds (opened t fds name flags).files
    at_file None None true e f m = rw (e, f, m) h
    at_file None (Some fd) true e f m = rw (e, f, m) (ends-created_file t fds fd name flags h)
    at_file None free false e f m = rw (e, m) h
    at_file (Some file) None made e f m = rw (e, f) h
    at_file (Some file) (Some fd) made e f m = rw (e, f) (ends-opened_file t fds fd file flags h)

ends-with_pipe : (t : FileTable) → PipesHaveEnds t → PipesHaveEnds (with_pipe t)
unfolding with_pipe with_read_end with_open
ends-with_pipe t h = record { each = λ pipe stands. at pipe (placed_or_stood t.pipes [] pipe stands) }
  where
    reader : OpenFile
    reader = first_open (PipeReader (free_place t.pipes)) Read

    writer : OpenFile
    writer = first_open (PipeWriter (free_place t.pipes)) Write

    at : (pipe : ℕ) → (is_some (at_place t.pipes pipe) ≡ true) ⊎ (free_place t.pipes ≡ pipe)
        → list_any (is_end_of pipe) (with_placed (with_placed t.opens reader) writer) ≡ true
    at pipe (inl stood) =
        ends-placed pipe (with_placed t.opens reader) writer (ends-placed pipe t.opens reader (h.each pipe stood))
    at pipe (inr new) = end-placed pipe (with_placed t.opens reader) writer (eq-eqb (free_place t.pipes) pipe new)

pub ends-piped : (t : FileTable) (fds : Descriptors) → PipesHaveEnds t → PipesHaveEnds (piped t fds).files
unfolding piped made_pipe
ends-piped t fds h = at_first (position is_none fds) refl
  where
    at_room : (room : Bool) (reader writer : ℕ) → position is_none fds ≡ Some reader
        → free_fd_behind fds reader ≡ Some writer → ltb (count_by is_some t.pipes) pipe_limit ≡ room
        → PipesHaveEnds (piped t fds).files
    at_room true reader writer first second room = rw (first, second, room) (ends-with_pipe t h)
    at_room false reader writer first second room = rw (first, second, room) h

    at_second : (reader : ℕ) (writer : Option ℕ) → position is_none fds ≡ Some reader
        → free_fd_behind fds reader ≡ writer → PipesHaveEnds (piped t fds).files
    at_second reader None first second = rw (first, second) h
    at_second reader (Some writer) first second =
        at_room (ltb (count_by is_some t.pipes) pipe_limit) reader writer first second refl

    at_first : (reader : Option ℕ) → position is_none fds ≡ reader → PipesHaveEnds (piped t fds).files
    at_first None first = rw first h
    at_first (Some reader) first = at_second reader (free_fd_behind fds reader) first refl

pub ends-sought : (t : FileTable) (fds : Descriptors) (fd offset : ℕ) → PipesHaveEnds t
    → PipesHaveEnds (sought t fds fd offset).files
unfolding sought
ends-sought t fds fd offset h = at_open (open_of t fds fd) refl
  where
    moved : (found : ℕ × OpenFile) → FileEffect ℕ
    moved found =
        record { files = with_open_at t found.0 (record found.1 { offset = offset }); fds = fds; answer = Ok offset }

    at_open : (found : Option (ℕ × OpenFile)) → open_of t fds fd ≡ found → PipesHaveEnds (sought t fds fd offset).files
    at_open None e = rw e h
    at_open (Some found) e =
        rw e (either_effect (is_some (pipe_of found.1.target)) (refused {A = ℕ} t fds NotSeekable)
        (cond (leb offset file_size_limit) (moved found) (refused t fds BadOffset)) h
        (either_effect (leb offset file_size_limit) (moved found) (refused t fds BadOffset)
        (ends-moved t found.0 offset found.1 (open_of-there t fds fd found e) h) h))

-- ---- read and write

-- a pipe gets other bytes through one of its ends
ends-pipe_bytes : (t : FileTable) (here end : ℕ) (o : OpenFile) (bytes : List ℕ) → at_place t.opens here ≡ Some o
    → is_end_of end (Some o) ≡ true → PipesHaveEnds t → PipesHaveEnds (with_pipe_bytes t end bytes)
unfolding with_pipe_bytes
ends-pipe_bytes t here end o bytes there one h = record { each = λ pipe stands. at pipe stands (cases_eq end pipe) }
  where
    at : (pipe : ℕ) → is_some (at_place (set t.pipes end (Some bytes)) pipe) ≡ true → (end ≡ pipe) ⊎ (end ≢ pipe)
        → list_any (is_end_of pipe) t.opens ≡ true
    at pipe stands (inl same) =
        rw (← same) (end-there end here t.opens o (from_flat (slice_get t.opens here) o there) one)
    at pipe stands (inr ne) = h.each pipe (stood-set t.pipes end pipe (Some bytes) ne stands)

ends-read_pipe : (t : FileTable) (here end most : ℕ) (o : OpenFile) → at_place t.opens here ≡ Some o
    → is_end_of end (Some o) ≡ true → PipesHaveEnds t → PipesHaveEnds (read_pipe t end most).files
unfolding read_pipe
ends-read_pipe t here end most o there one h = at_empty (eqb (length (pipe_bytes t end)) 0) (has_writer t end) refl refl
  where
    at_empty : (empty writer : Bool) → eqb (length (pipe_bytes t end)) 0 ≡ empty → has_writer t end ≡ writer
        → PipesHaveEnds (read_pipe t end most).files
    at_empty true true e w = rw (e, w) h
    at_empty true false e w = rw (e, w) h
    at_empty false writer e w = rw e (ends-pipe_bytes t here end o (drop most (pipe_bytes t end)) there one h)

ends-read_file : (t : FileTable) (here most : ℕ) (o : OpenFile) → at_place t.opens here ≡ Some o → PipesHaveEnds t
    → PipesHaveEnds (read_file t here o most).files
unfolding read_file
ends-read_file t here most o there h =
    ends-moved t here (o.offset + length (bytes_from (contents t o.target) o.offset most)) o there h

ends-read_open : (t : FileTable) (here most : ℕ) (o : OpenFile) (target : Target)
    → at_place t.opens here ≡ Some (record o { target = target }) → PipesHaveEnds t
    → PipesHaveEnds (read_open t here (record o { target = target }) most).files
ends-read_open t here most o (File file) there h = ends-read_file t here most (record o { target = File file }) there h
ends-read_open t here most o (PipeReader end) there h =
    ends-read_pipe t here end most (record o { target = PipeReader end }) there (eq-eqb end end refl) h
ends-read_open t here most o (PipeWriter end) there h =
    ends-read_pipe t here end most (record o { target = PipeWriter end }) there (eq-eqb end end refl) h

pub ends-read : (t : FileTable) (fds : Descriptors) (fd most : ℕ) → PipesHaveEnds t
    → PipesHaveEnds (read_fd t fds fd most).files
unfolding read_fd
ends-read t fds fd most h = at_open (open_for_reading t fds fd) refl
  where
    at_open : (found : Option (ℕ × OpenFile)) → open_for_reading t fds fd ≡ found
        → PipesHaveEnds (read_fd t fds fd most).files
    at_open None e = rw e h
    at_open (Some found) e = rw e (ends-read_open t found.0 most found.1 found.1.target (read-there t fds fd found e) h)

ends-file_bytes : (t : FileTable) (file : ℕ) (bytes : List ℕ) → PipesHaveEnds t
    → PipesHaveEnds (with_file_bytes t file bytes)
unfolding with_file_bytes
ends-file_bytes t file bytes h = at (slice_get t.files file) refl
  where
    at : (found : Option StoredFile) → slice_get t.files file ≡ found → PipesHaveEnds (with_file_bytes t file bytes)
    at None e = rw e h
    at (Some f) e = rw e (record { each = h.each })

ends-write_file : (t : FileTable) (fds : Descriptors) (here file : ℕ) (bytes : List ℕ) (o : OpenFile)
    → at_place t.opens here ≡ Some o → PipesHaveEnds t → PipesHaveEnds (write_file t fds here o file bytes).files
unfolding write_file
ends-write_file t fds here file bytes o there h = at_end (ltb file_size_limit (o.offset + length bytes)) refl
  where
    after : List ℕ
    after = after_write (contents t o.target) o.offset bytes

    at_end : (b : Bool) → ltb file_size_limit (o.offset + length bytes) ≡ b
        → PipesHaveEnds (write_file t fds here o file bytes).files
    at_end true e = rw e h
    at_end false e =
        rw e (ends-moved (with_file_bytes t file after) here (o.offset + length bytes) o
        (ap (λ opens. at_place opens here) (opens-file_bytes t file after) ∙ there)
        (ends-file_bytes t file after h))

ends-write_pipe : (t : FileTable) (fds : Descriptors) (here end : ℕ) (bytes : List ℕ) (o : OpenFile)
    → at_place t.opens here ≡ Some o → is_end_of end (Some o) ≡ true → PipesHaveEnds t
    → PipesHaveEnds (write_pipe t fds end bytes).files
unfolding write_pipe
ends-write_pipe t fds here end bytes o there one h =
    at_reader (has_reader t end) (ltb pipe_size_limit (length (pipe_bytes t end) + length bytes)) refl refl
  where
    at_reader : (reader full : Bool) → has_reader t end ≡ reader
        → ltb pipe_size_limit (length (pipe_bytes t end) + length bytes) ≡ full
        → PipesHaveEnds (write_pipe t fds end bytes).files
    at_reader false full e f = rw e h
    at_reader true true e f = rw (e, f) h
    at_reader true false e f = rw (e, f) (ends-pipe_bytes t here end o (pipe_bytes t end ++ bytes) there one h)

ends-write_open : (t : FileTable) (fds : Descriptors) (here : ℕ) (bytes : List ℕ) (o : OpenFile) (target : Target)
    → at_place t.opens here ≡ Some (record o { target = target }) → PipesHaveEnds t
    → PipesHaveEnds (write_open t fds here (record o { target = target }) bytes).files
ends-write_open t fds here bytes o (File file) there h =
    ends-write_file t fds here file bytes (record o { target = File file }) there h
ends-write_open t fds here bytes o (PipeReader end) there h =
    ends-write_pipe t fds here end bytes (record o { target = PipeReader end }) there (eq-eqb end end refl) h
ends-write_open t fds here bytes o (PipeWriter end) there h =
    ends-write_pipe t fds here end bytes (record o { target = PipeWriter end }) there (eq-eqb end end refl) h

pub ends-written : (t : FileTable) (fds : Descriptors) (fd : ℕ) (bytes : List ℕ) → PipesHaveEnds t
    → PipesHaveEnds (write_fd t fds fd bytes).files
unfolding write_fd
ends-written t fds fd bytes h = at_open (open_for_writing t fds fd) refl
  where
    at_open : (found : Option (ℕ × OpenFile)) → open_for_writing t fds fd ≡ found
        → PipesHaveEnds (write_fd t fds fd bytes).files
    at_open None e = rw e h
    at_open (Some found) e =
        rw e (ends-write_open t fds found.0 bytes found.1 found.1.target (write-there t fds fd found e) h)

-- ---- all descriptors at once

pub ends-all_shared : (t : FileTable) (fds : Descriptors) → PipesHaveEnds t → PipesHaveEnds (with_all_shared t fds)
unfolding with_all_shared
ends-all_shared t [] h = h
ends-all_shared t (None ∷ fds) h = ends-all_shared t fds h
ends-all_shared t (Some here ∷ fds) h = ends-all_shared (with_user_added t here) fds (ends-user_added t here h)

pub ends-all_closed : (t : FileTable) (fds : Descriptors) → PipesHaveEnds t → PipesHaveEnds (with_all_closed t fds)
unfolding with_all_closed
ends-all_closed t [] h = h
ends-all_closed t (None ∷ fds) h = ends-all_closed t fds h
ends-all_closed t (Some here ∷ fds) h = ends-all_closed (with_user_gone t here) fds (ends-user_gone t here h)

pub ruleset ends_kept = (
  ends-none,
  ends-with_file,
  ends-closed,
  ends-duplicated,
  ends-opened,
  ends-piped,
  ends-sought,
  ends-read,
  ends-written,
  ends-all_shared,
  ends-all_closed,
)
