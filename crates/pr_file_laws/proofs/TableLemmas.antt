use Rattle.std.proofs.Common.{◌≡◌, ℕ, zero, suc, ◌+◌, ◌-◌, ◌<◌, ◌≤◌, Bool, true, false, not, ◌||◌, eqb, ltb, cond, Option, Some, None, is_some, List, [], ◌∷◌, ◌++◌, length, set, take, drop, min, refl, sym, ◌∙◌, ap, arith, inl, inr}
use Rattle.std.specs.List.{count_by, list_any, slice_get}
use Rattle.std.specs.Option.{option_flatten}
use Rattle.std.proofs.lemmas.Bool.{and_parts, or_parts, not-true, ltb-true, lt-ltb, eqb-false, false≢true, cases_Bool}
use Rattle.std.proofs.lemmas.List.{length-append, length-drop, length-replicate, length-set, length-take}
use Rattle.std.proofs.lemmas.List.Elements.{All-nil, All-set, All-push, All-weaker}
use Rattle.std.proofs.lemmas.Slice.Eq.{bytes_eq-Decides}
use Rattle.pr_num.specs.Limits.{file_size_limit, pipe_size_limit, file_limit, pipe_limit}
use Rattle.pr_num.specs.declared.files.Access.{Access}
use Rattle.pr_num.specs.declared.files.Access.TheVariants.{Read, Write}
use Rattle.pr_num.specs.declared.files.OpenFile.{OpenFile}
use Rattle.pr_num.specs.declared.files.StoredFile.{StoredFile}
use Rattle.pr_num.specs.declared.files.Target.{Target}
use Rattle.pr_num.specs.declared.files.Target.TheVariants.{File, PipeReader, PipeWriter}
use Rattle.pr_num.specs.Files.{FileTable, with_user_gone, without_idle_pipe, pipe_of, is_end_of}
use Rattle.pr_parts.specs.FileTables.{IsFileTable, IsOpenFile, IsOpenPlace, IsPipePlace, IsShortFile, at_place, free_place, with_placed, file_named, has_name, names_differ, stands}
use Rattle.pr_parts.specs.FileCalls.{no_files, with_user_added, with_file, with_open, with_open_at, with_pipe, with_read_end, first_open, contents}
use Rattle.pr_parts.specs.FileTransfers.{after_write, written_over, pipe_bytes, with_pipe_bytes, with_file_bytes}
use Rattle.pr_file_laws.proofs.PlaceLemmas.{All-untested, All-placed, at_place-placed, length-placed, slice_get-set_other, taken-placed, taken-set}
use Rattle.pr_num.proofs.SearchLemmas.{All-at, list_any-push}
use Rattle.pr_num.proofs.TableLemmas.{list_any-no_place}

-- A table of files stays one.

pub IsFileTable-none : IsFileTable no_files
IsFileTable-none = record {
  few_files = omega arith;
  few_pipes = omega arith;
  short_files = All-nil IsShortFile;
  short_pipes = All-nil IsPipePlace;
  own_names = refl;
  open_files = All-nil (IsOpenPlace [] []);
}

-- ---- a descriptor fewer

-- what an open file reads and writes still stands when a pipe of which it is no end is gone
still_stands : (files : List StoredFile) (pipes : List (Option (List ℕ))) (pipe : ℕ) (o : OpenFile) (target : Target)
    → is_end_of pipe (Some (record o { target = target })) ≡ false → stands files pipes target ≡ true
    → stands files (set pipes pipe None) target ≡ true
still_stands files pipes pipe o (File place) other here = here
still_stands files pipes pipe o (PipeReader place) other here =
    ap (λ p. is_some (option_flatten p)) (slice_get-set_other pipes pipe place None (eqb-false place pipe other)) ∙ here
still_stands files pipes pipe o (PipeWriter place) other here =
    ap (λ p. is_some (option_flatten p)) (slice_get-set_other pipes pipe place None (eqb-false place pipe other)) ∙ here

open_without_pipe : (files : List StoredFile) (pipes : List (Option (List ℕ))) (pipe : ℕ) (o : Option OpenFile)
    → is_end_of pipe o ≡ false → IsOpenPlace files pipes o → IsOpenPlace files (set pipes pipe None) o
open_without_pipe files pipes pipe None other here = tt
open_without_pipe files pipes pipe (Some o) other here = record {
  used = here.used;
  within = here.within;
  target_stands = still_stands files pipes pipe o o.target other here.target_stands;
}

IsFileTable-without_idle_pipe : (pipe : Option ℕ) (t : FileTable) → IsFileTable t
    → IsFileTable (without_idle_pipe pipe t)
unfolding without_idle_pipe
IsFileTable-without_idle_pipe None t h = h
IsFileTable-without_idle_pipe (Some pipe) t h =
    elim (list_any (is_end_of pipe) t.opens)
    as (λ b. list_any (is_end_of pipe) t.opens ≡ b
    → IsFileTable (cond b t (record t { pipes = set t.pipes pipe None }))) [
      | true ↦ λ _. h
      | false ↦ λ idle. record {
        few_files = h.few_files;
        few_pipes = omega (arith, length-set t.pipes pipe None, h.few_pipes);
        short_files = h.short_files;
        short_pipes = All-set IsPipePlace t.pipes pipe None tt h.short_pipes;
        own_names = h.own_names;
        open_files =
            All-untested (is_end_of pipe) (IsOpenPlace t.files t.pipes) (IsOpenPlace t.files (set t.pipes pipe None))
            (open_without_pipe t.files t.pipes pipe) t.opens idle h.open_files;
      }
    ] refl

-- another open file at a place, or none
IsFileTable-open_set : (t : FileTable) (place : ℕ) (o : Option OpenFile) → IsOpenPlace t.files t.pipes o → IsFileTable t
    → IsFileTable (record t { opens = set t.opens place o })
IsFileTable-open_set t place o here h = record {
  few_files = h.few_files;
  few_pipes = h.few_pipes;
  short_files = h.short_files;
  short_pipes = h.short_pipes;
  own_names = h.own_names;
  open_files = All-set (IsOpenPlace t.files t.pipes) t.opens place o here h.open_files;
}

-- the open file at a place, with a descriptor fewer
one_fewer : (t : FileTable) (place : ℕ) (o : OpenFile) → IsOpenFile t.files t.pipes o → IsFileTable t
    → IsFileTable
    (cond (ltb 1 o.users) (record t { opens = set t.opens place (Some (record o { users = o.users - 1 })) })
    (without_idle_pipe (pipe_of o.target) (record t { opens = set t.opens place None })))
one_fewer t place o here h =
    elim (ltb 1 o.users)
    as (λ b. ltb 1 o.users ≡ b
    → IsFileTable
    (cond b (record t { opens = set t.opens place (Some (record o { users = o.users - 1 })) })
    (without_idle_pipe (pipe_of o.target) (record t { opens = set t.opens place None })))) [
      | true ↦ λ more. IsFileTable-open_set t place (Some (record o { users = o.users - 1 })) (record {
        used = omega (arith, ltb-true 1 o.users more);
        within = here.within;
        target_stands = here.target_stands;
      }) h
      | false ↦ λ _. IsFileTable-without_idle_pipe (pipe_of o.target) _ (IsFileTable-open_set t place None tt h)
    ] refl

pub IsFileTable-user_gone : (t : FileTable) (place : ℕ) → IsFileTable t → IsFileTable (with_user_gone t place)
unfolding with_user_gone
IsFileTable-user_gone t place h = go (slice_get t.opens place) refl
  where
    go : (found : Option (Option OpenFile)) → slice_get t.opens place ≡ found → IsFileTable (with_user_gone t place)
    go None e = rw e h
    go (Some None) e = rw e h
    go (Some (Some o)) e =
        rw e (one_fewer t place o (All-at (IsOpenPlace t.files t.pipes) t.opens place (Some o) e h.open_files) h)

-- ---- a descriptor more

pub IsFileTable-user_added : (t : FileTable) (place : ℕ) → IsFileTable t → IsFileTable (with_user_added t place)
unfolding with_user_added
IsFileTable-user_added t place h = go (slice_get t.opens place) refl
  where
    go : (found : Option (Option OpenFile)) → slice_get t.opens place ≡ found → IsFileTable (with_user_added t place)
    go None e = rw e h
    go (Some None) e = rw e h
    go (Some (Some o)) e =
        rw e (let here = All-at (IsOpenPlace t.files t.pipes) t.opens place (Some o) e h.open_files in
        IsFileTable-open_set t place (Some (record o { users = o.users + 1 })) (record {
          used = omega arith;
          within = here.within;
          target_stands = here.target_stands;
        }) h)

-- ---- a file more, an open file more

more_files_stand : (files : List StoredFile) (pipes : List (Option (List ℕ))) (f : StoredFile) (target : Target)
    → stands files pipes target ≡ true → stands (files ++ f ∷ []) pipes target ≡ true
more_files_stand files pipes f (File place) here =
    lt-ltb place (length (files ++ f ∷ []))
    (omega (arith, length-append files (f ∷ []), ltb-true place (length files) here))
more_files_stand files pipes f (PipeReader place) here = here
more_files_stand files pipes f (PipeWriter place) here = here

open_with_file : (files : List StoredFile) (pipes : List (Option (List ℕ))) (f : StoredFile) (o : Option OpenFile)
    → IsOpenPlace files pipes o → IsOpenPlace (files ++ f ∷ []) pipes o
open_with_file files pipes f None here = tt
open_with_file files pipes f (Some o) here = record {
  used = here.used;
  within = here.within;
  target_stands = more_files_stand files pipes f o.target here.target_stands;
}

-- names that differ are told apart both ways
pub has_name-false : (f g : StoredFile) → has_name f.name g ≡ false → has_name g.name f ≡ false
has_name-false f g other =
    elim (cases_Bool (has_name g.name f)) [
      | inl same ↦
          absurd (false≢true
          (sym other ∙ (bytes_eq-Decides g.name f.name).1 (sym ((bytes_eq-Decides f.name g.name).0 same))))
      | inr e ↦ e
    ]

names_differ-push : (fs : List StoredFile) (f : StoredFile) → names_differ fs ≡ true
    → list_any (has_name f.name) fs ≡ false → names_differ (fs ++ f ∷ []) ≡ true
names_differ-push [] f own new = refl
names_differ-push (g ∷ gs) f own new =
    let apart = and_parts (not (list_any (has_name g.name) gs)) (names_differ gs) own in
    let others = or_parts (has_name f.name g) (list_any (has_name f.name) gs) new in
    rw (
      list_any-push (has_name g.name) gs f (not-true _ apart.0) (has_name-false f g others.0),
      names_differ-push gs f apart.1 others.1,
    ) refl

pub IsFileTable-with_file : (t : FileTable) (name bytes : List ℕ) → length t.files < file_limit
    → length bytes ≤ file_size_limit → file_named t name ≡ None → IsFileTable t → IsFileTable (with_file t name bytes)
unfolding with_file file_named
IsFileTable-with_file t name bytes few short new h =
    let f : StoredFile = record { name = name; bytes = bytes } in
    record {
      few_files = omega (arith, length-append t.files (f ∷ []));
      few_pipes = h.few_pipes;
      short_files = All-push IsShortFile t.files f h.short_files short;
      short_pipes = h.short_pipes;
      own_names = names_differ-push t.files f h.own_names (list_any-no_place (has_name name) t.files new);
      open_files =
          All-weaker (IsOpenPlace t.files t.pipes) (IsOpenPlace (t.files ++ f ∷ []) t.pipes)
          (open_with_file t.files t.pipes f) t.opens h.open_files;
    }

pub IsFileTable-with_open : (t : FileTable) (o : OpenFile) → IsOpenFile t.files t.pipes o → IsFileTable t
    → IsFileTable (with_open t o)
unfolding with_open
IsFileTable-with_open t o here h = record {
  few_files = h.few_files;
  few_pipes = h.few_pipes;
  short_files = h.short_files;
  short_pipes = h.short_pipes;
  own_names = h.own_names;
  open_files = All-placed (IsOpenPlace t.files t.pipes) t.opens o here h.open_files;
}

-- a file is made and opened
pub IsFileTable-created : (t : FileTable) (name : List ℕ) (access : Access) → length t.files < file_limit
    → file_named t name ≡ None → IsFileTable t
    → IsFileTable (with_open (with_file t name []) (first_open (File (length t.files)) access))
unfolding with_file
IsFileTable-created t name access few new h =
    let f : StoredFile = record { name = name; bytes = [] } in
    IsFileTable-with_open (with_file t name []) (first_open (File (length t.files)) access) (record {
      used = omega arith;
      within = omega arith;
      target_stands =
          lt-ltb (length t.files) (length (t.files ++ f ∷ [])) (omega (arith, length-append t.files (f ∷ [])));
    }) (IsFileTable-with_file t name [] few (omega arith) new h)

-- a file is opened
pub IsFileTable-opened : (t : FileTable) (file : ℕ) (access : Access) → file < length t.files → IsFileTable t
    → IsFileTable (with_open t (first_open (File file) access))
IsFileTable-opened t file access within h =
    IsFileTable-with_open t (first_open (File file) access)
    (record { used = omega arith; within = omega arith; target_stands = lt-ltb file (length t.files) within }) h

-- ---- a pipe more

open_with_pipe : (files : List StoredFile) (pipes : List (Option (List ℕ))) (bytes : List ℕ) (o : Option OpenFile)
    → IsOpenPlace files pipes o → IsOpenPlace files (with_placed pipes bytes) o
open_with_pipe files pipes bytes None here = tt
open_with_pipe files pipes bytes (Some o) here = record {
  used = here.used;
  within = here.within;
  target_stands = more_pipes_stand o.target here.target_stands;
}
  where
    more_pipes_stand : (target : Target) → stands files pipes target ≡ true
        → stands files (with_placed pipes bytes) target ≡ true
    more_pipes_stand (File place) there = there
    more_pipes_stand (PipeReader place) there = taken-placed pipes bytes place there
    more_pipes_stand (PipeWriter place) there = taken-placed pipes bytes place there

IsFileTable-pipe_placed : (t : FileTable) → count_by is_some t.pipes < pipe_limit → IsFileTable t
    → IsFileTable (record t { pipes = with_placed t.pipes [] })
IsFileTable-pipe_placed t few h = record {
  few_files = h.few_files;
  few_pipes = length-placed t.pipes [] pipe_limit h.few_pipes few;
  short_files = h.short_files;
  short_pipes = All-placed IsPipePlace t.pipes [] (omega arith) h.short_pipes;
  own_names = h.own_names;
  open_files =
      All-weaker (IsOpenPlace t.files t.pipes) (IsOpenPlace t.files (with_placed t.pipes []))
      (open_with_pipe t.files t.pipes []) t.opens h.open_files;
}

pub IsFileTable-with_pipe : (t : FileTable) → count_by is_some t.pipes < pipe_limit → IsFileTable t
    → IsFileTable (with_pipe t)
unfolding with_pipe with_read_end with_open
IsFileTable-with_pipe t few h =
    let placed = IsFileTable-pipe_placed t few h in
    let there : is_some (at_place (with_placed t.pipes []) (free_place t.pipes)) ≡ true =
    ap is_some (at_place-placed t.pipes []) in
    let reader =
    IsFileTable-with_open _ (first_open (PipeReader (free_place t.pipes)) Read)
    (record { used = omega arith; within = omega arith; target_stands = there }) placed in
    IsFileTable-with_open _ (first_open (PipeWriter (free_place t.pipes)) Write)
    (record { used = omega arith; within = omega arith; target_stands = there }) reader

-- ---- an open file in the place of one

pub from_flat : {X : Type 0} (found : Option (Option X)) (x : X) → option_flatten found ≡ Some x → found ≡ Some (Some x)
from_flat None x e = cc
from_flat (Some None) x e = cc
from_flat (Some (Some y)) x e = ap Some e

-- an open file that stands at a place is in order
pub IsOpenFile-at : (t : FileTable) (place : ℕ) (o : OpenFile) → at_place t.opens place ≡ Some o → IsFileTable t
    → IsOpenFile t.files t.pipes o
IsOpenFile-at t place o e h =
    All-at (IsOpenPlace t.files t.pipes) t.opens place (Some o) (from_flat (slice_get t.opens place) o e) h.open_files

pub IsFileTable-moved : (t : FileTable) (place offset : ℕ) (o : OpenFile) → IsOpenFile t.files t.pipes o
    → offset ≤ file_size_limit → IsFileTable t → IsFileTable (with_open_at t place (record o { offset = offset }))
unfolding with_open_at
IsFileTable-moved t place offset o here within h =
    IsFileTable-open_set t place (Some (record o { offset = offset }))
    (record { used = here.used; within = within; target_stands = here.target_stands }) h

-- ---- other bytes

open_with_pipe_set : (files : List StoredFile) (pipes : List (Option (List ℕ))) (pipe : ℕ) (bytes : List ℕ)
    (o : Option OpenFile) → IsOpenPlace files pipes o → IsOpenPlace files (set pipes pipe (Some bytes)) o
open_with_pipe_set files pipes pipe bytes None here = tt
open_with_pipe_set files pipes pipe bytes (Some o) here = record {
  used = here.used;
  within = here.within;
  target_stands = still o.target here.target_stands;
}
  where
    still : (target : Target) → stands files pipes target ≡ true
        → stands files (set pipes pipe (Some bytes)) target ≡ true
    still (File place) there = there
    still (PipeReader place) there = taken-set pipes pipe place bytes there
    still (PipeWriter place) there = taken-set pipes pipe place bytes there

pub IsFileTable-pipe_bytes : (t : FileTable) (pipe : ℕ) (bytes : List ℕ) → length bytes ≤ pipe_size_limit
    → IsFileTable t → IsFileTable (with_pipe_bytes t pipe bytes)
unfolding with_pipe_bytes
IsFileTable-pipe_bytes t pipe bytes short h = record {
  few_files = h.few_files;
  few_pipes = omega (arith, length-set t.pipes pipe (Some bytes), h.few_pipes);
  short_files = h.short_files;
  short_pipes = All-set IsPipePlace t.pipes pipe (Some bytes) short h.short_pipes;
  own_names = h.own_names;
  open_files =
      All-weaker (IsOpenPlace t.files t.pipes) (IsOpenPlace t.files (set t.pipes pipe (Some bytes)))
      (open_with_pipe_set t.files t.pipes pipe bytes) t.opens h.open_files;
}

-- what is looked for among names is not changed by other bytes
list_any-rewritten : (name : List ℕ) (fs : List StoredFile) (place : ℕ) (f : StoredFile) (bytes : List ℕ)
    → slice_get fs place ≡ Some f
    → list_any (has_name name) (set fs place (record f { bytes = bytes })) ≡ list_any (has_name name) fs
list_any-rewritten name [] place f bytes e = cc
list_any-rewritten name (g ∷ gs) zero f bytes e = let same : g ≡ f = cc in rw same refl
list_any-rewritten name (g ∷ gs) (suc place) f bytes e =
    ap (λ b. has_name name g || b) (list_any-rewritten name gs place f bytes e)

names_differ-rewritten : (fs : List StoredFile) (place : ℕ) (f : StoredFile) (bytes : List ℕ)
    → slice_get fs place ≡ Some f → names_differ (set fs place (record f { bytes = bytes })) ≡ names_differ fs
names_differ-rewritten [] place f bytes e = cc
names_differ-rewritten (g ∷ gs) zero f bytes e = let same : g ≡ f = cc in rw same refl
names_differ-rewritten (g ∷ gs) (suc place) f bytes e =
    rw (list_any-rewritten g.name gs place f bytes e, names_differ-rewritten gs place f bytes e) refl

open_with_file_set : (files : List StoredFile) (pipes : List (Option (List ℕ))) (place : ℕ) (f : StoredFile)
    (o : Option OpenFile) → IsOpenPlace files pipes o → IsOpenPlace (set files place f) pipes o
open_with_file_set files pipes place f None here = tt
open_with_file_set files pipes place f (Some o) here = record {
  used = here.used;
  within = here.within;
  target_stands = still o.target here.target_stands;
}
  where
    still : (target : Target) → stands files pipes target ≡ true → stands (set files place f) pipes target ≡ true
    still (File other) there = rw (length-set files place f) there
    still (PipeReader pipe) there = there
    still (PipeWriter pipe) there = there

pub IsFileTable-file_bytes : (t : FileTable) (place : ℕ) (bytes : List ℕ) → length bytes ≤ file_size_limit
    → IsFileTable t → IsFileTable (with_file_bytes t place bytes)
unfolding with_file_bytes
IsFileTable-file_bytes t place bytes short h = go (slice_get t.files place) refl
  where
    rewritten : (f : StoredFile) → slice_get t.files place ≡ Some f
        → IsFileTable (record t { files = set t.files place (record f { bytes = bytes }) })
    rewritten f e = record {
      few_files = omega (arith, length-set t.files place (record f { bytes = bytes }), h.few_files);
      few_pipes = h.few_pipes;
      short_files = All-set IsShortFile t.files place (record f { bytes = bytes }) short h.short_files;
      short_pipes = h.short_pipes;
      own_names = names_differ-rewritten t.files place f bytes e ∙ h.own_names;
      open_files =
          All-weaker (IsOpenPlace t.files t.pipes)
          (IsOpenPlace (set t.files place (record f { bytes = bytes })) t.pipes)
          (open_with_file_set t.files t.pipes place (record f { bytes = bytes })) t.opens h.open_files;
    }

    go : (found : Option StoredFile) → slice_get t.files place ≡ found → IsFileTable (with_file_bytes t place bytes)
    go None e = rw e h
    go (Some f) e = rw e (rewritten f e)

-- ---- how much there is to read

pub length-pipe_bytes : (t : FileTable) (pipe : ℕ) → IsFileTable t → length (pipe_bytes t pipe) ≤ pipe_size_limit
length-pipe_bytes t pipe h = go (slice_get t.pipes pipe) refl
  where
    go : (found : Option (Option (List ℕ))) → slice_get t.pipes pipe ≡ found
        → length (pipe_bytes t pipe) ≤ pipe_size_limit
    go None e = rw e (omega arith)
    go (Some None) e = rw e (omega arith)
    go (Some (Some bytes)) e = rw e (All-at IsPipePlace t.pipes pipe (Some bytes) e h.short_pipes)

length-file_bytes : (t : FileTable) (place : ℕ) → IsFileTable t → length (contents t (File place)) ≤ file_size_limit
length-file_bytes t place h = go (slice_get t.files place) refl
  where
    go : (found : Option StoredFile) → slice_get t.files place ≡ found
        → length (contents t (File place)) ≤ file_size_limit
    go None e = rw e (omega arith)
    go (Some f) e = rw e (All-at IsShortFile t.files place f e h.short_files)

pub length-contents : (t : FileTable) (target : Target) → IsFileTable t → length (contents t target) ≤ file_size_limit
length-contents t (File place) h = length-file_bytes t place h
length-contents t (PipeReader pipe) h = let short = length-pipe_bytes t pipe h in omega arith
length-contents t (PipeWriter pipe) h = let short = length-pipe_bytes t pipe h in omega arith

-- ---- what a read and a write leave

-- a read does not move an offset beyond the longest file's end
pub read_within : (bytes : List ℕ) (offset start most rest count : ℕ) → start ≡ min (length bytes) offset
    → count ≡ length (take most (take rest (drop start bytes))) → length bytes ≤ file_size_limit
    → offset ≤ file_size_limit → offset + count ≤ file_size_limit
read_within bytes offset start most rest count from given short within =
    omega (
      arith,
      length-take most (take rest (drop start bytes)),
      length-take rest (drop start bytes),
      length-drop start bytes,
    )

pub IsFileTable-dropped : (t : FileTable) (pipe count : ℕ) → IsFileTable t
    → IsFileTable (with_pipe_bytes t pipe (drop count (pipe_bytes t pipe)))
IsFileTable-dropped t pipe count h =
    let short = length-pipe_bytes t pipe h in
    IsFileTable-pipe_bytes t pipe (drop count (pipe_bytes t pipe))
    (omega (arith, length-drop count (pipe_bytes t pipe))) h

pub IsFileTable-extended : (t : FileTable) (pipe : ℕ) (bytes : List ℕ)
    → length (pipe_bytes t pipe) + length bytes ≤ pipe_size_limit → IsFileTable t
    → IsFileTable (with_pipe_bytes t pipe (pipe_bytes t pipe ++ bytes))
IsFileTable-extended t pipe bytes room h =
    IsFileTable-pipe_bytes t pipe (pipe_bytes t pipe ++ bytes)
    (omega (arith, length-append (pipe_bytes t pipe) bytes)) h

length-written_over : (bytes others : List ℕ) (offset : ℕ) → offset + length others ≤ file_size_limit
    → length bytes ≤ file_size_limit → length (written_over bytes offset others) ≤ file_size_limit
length-written_over bytes others offset room short =
    simp (length-append, length-take, length-replicate, length-drop) (omega arith)

length-after_write : (bytes others : List ℕ) (offset : ℕ) → offset + length others ≤ file_size_limit
    → length bytes ≤ file_size_limit → length (after_write bytes offset others) ≤ file_size_limit
length-after_write bytes others offset room short =
    elim (eqb (length others) 0) as (λ b. length (cond b bytes (written_over bytes offset others)) ≤ file_size_limit)
    [ true ↦ short | false ↦ length-written_over bytes others offset room short ]

-- an open file stays in order where a file gets other bytes
IsOpenFile-rewritten : (t : FileTable) (place : ℕ) (bytes : List ℕ) (o : OpenFile) → IsOpenFile t.files t.pipes o
    → IsOpenFile (with_file_bytes t place bytes).files (with_file_bytes t place bytes).pipes o
unfolding with_file_bytes
IsOpenFile-rewritten t place bytes o here = go (slice_get t.files place) refl
  where
    go : (found : Option StoredFile) → slice_get t.files place ≡ found
        → IsOpenFile (with_file_bytes t place bytes).files (with_file_bytes t place bytes).pipes o
    go None e = rw e here
    go (Some f) e = rw e (open_with_file_set t.files t.pipes place (record f { bytes = bytes }) (Some o) here)

pub IsFileTable-written : (t : FileTable) (place file : ℕ) (o : OpenFile) (bytes : List ℕ)
    → IsOpenFile t.files t.pipes o → o.offset + length bytes ≤ file_size_limit → IsFileTable t
    → IsFileTable
    (with_open_at (with_file_bytes t file (after_write (contents t (File file)) o.offset bytes)) place
    (record o { offset = o.offset + length bytes }))
IsFileTable-written t place file o bytes here room h =
    let after : List ℕ = after_write (contents t (File file)) o.offset bytes in
    IsFileTable-moved (with_file_bytes t file after) place (o.offset + length bytes) o
    (IsOpenFile-rewritten t file after o here) room
    (IsFileTable-file_bytes t file after
    (length-after_write (contents t (File file)) bytes o.offset room (length-contents t (File file) h)) h)

pub ruleset opens_in_order = (IsOpenFile-at)
