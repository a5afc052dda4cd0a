use Rattle.std.proofs.Common.{◌≡◌, ◌+◌, ◌*◌, ◌≤◌, ◌<◌, ℕ, Bool, true, false, eqb, ltb, is_none, Option, Some, None, Result, Ok, Err, List, [], ◌∷◌, ◌++◌, length, take, drop, min, cond, refl, sym, ◌∙◌, ap, arith, inl, inr}
use Rattle.std.proofs.lemmas.Bool.{cases_Bool}
use Rattle.std.proofs.lemmas.List.{length-append, length-take}
use Rattle.std.specs.List.{list_any}
use Rattle.pr_num.specs.Control.{prot_read, prot_write}
use Rattle.pr_num.specs.Files.{Descriptors, FileTable}
use Rattle.pr_num.specs.Limits.{path_limit, transfer_limit}
use Rattle.pr_num.specs.Spaces.{Space, bytes_for}
use Rattle.pr_num.specs.Words.{word_bytes}
use Rattle.pr_num.specs.declared.errnos.Errno.{Errno}
use Rattle.pr_num.specs.declared.files.OpenFile.{OpenFile}
use Rattle.pr_num.specs.declared.files.Target.{Target}
use Rattle.pr_num.specs.declared.files.Target.TheVariants.{File, PipeReader, PipeWriter}
use Rattle.pr_num.specs.declared.mappings.BadByte.{BadByte}
use Rattle.pr_parts.specs.AddressSpaces.{with_bytes}
use Rattle.pr_parts.specs.FileCalls.{FileEffect, are_open_flags, closed, contents, described, open_for_reading, open_for_writing, opened, piped}
use Rattle.pr_parts.specs.FileTransfers.{ReadEffect, bytes_from, has_writer, pipe_bytes, read_fd, read_file, read_open, read_pipe, write_fd}
use Rattle.pr_parts.specs.declared.files.FileNo.{FileNo}
use Rattle.pr_parts.specs.declared.files.FileNo.TheVariants as no
use Rattle.pr_parts.specs.declared.files.Stat.{Stat}
use Rattle.pr_model.specs.Changes.{Effect, does, ends, fails, files_are, gives, sleeps, space_is}
use Rattle.pr_model.specs.FileCallRows.{close_effect, file_effect, fstat_effect, open_effect, pipe_effect, read_effect, refusal_effect, word_size, write_effect}
use Rattle.pr_model.specs.MemoryCalls.{can_write, path_at}
use Rattle.pr_hidden.specs.Covers.{Patch, patched}
use Rattle.pr_hidden.specs.Following.{patched_effect}
use Rattle.pr_hidden.specs.Sparing.{AreWithin, are_spared}
use Rattle.pr_hidden.proofs.PatchedSpaces.AccessLemmas.{bytes-spared, path-spared}
use Rattle.pr_hidden.proofs.PatchedSpaces.ByteLemmas.{Spares, spares-range}
use Rattle.pr_hidden.proofs.PatchedSpaces.PatchLemmas.{patched-store}

-- The calls on files and pipes, in a space with patches.

-- ---- a read gives at most as many bytes as were asked for

abbrev Bytes : Type 0
Bytes = Result (List ℕ) FileNo

same_Ok : (x y : List ℕ) → (let r : Bytes = Ok x in r) ≡ Ok y → x ≡ y
same_Ok x y e = cc

take-most : (n : ℕ) (xs : List ℕ) → length (take n xs) ≤ n
take-most n xs = omega (arith, length-take n xs)

pipe-most : (t : FileTable) (pipe most : ℕ) (bytes : List ℕ) → (read_pipe t pipe most).bytes ≡ Ok bytes
    → length bytes ≤ most
unfolding read_pipe
pipe-most t pipe most bytes is = by (eqb (length (pipe_bytes t pipe)) 0) refl (has_writer t pipe) refl
  where
    waits : (let r : Bytes = Err no.Sleep in r) ≡ Ok bytes → ⊥
    waits e = cc

    by : (e : Bool) → eqb (length (pipe_bytes t pipe)) 0 ≡ e → (w : Bool) → has_writer t pipe ≡ w → length bytes ≤ most
    by true empty true writer = absurd (waits (rw (empty, writer) at is))
    by true empty false none = omega (arith, ap length (same_Ok [] bytes (rw (empty, none) at is)))
    by false some w writer =
        omega (
          arith,
          ap length (same_Ok (take most (pipe_bytes t pipe)) bytes (rw some at is)),
          take-most most (pipe_bytes t pipe),
        )

fd-most : (t : FileTable) (fds : Descriptors) (fd most : ℕ) (bytes : List ℕ) → (read_fd t fds fd most).bytes ≡ Ok bytes
    → length bytes ≤ most
unfolding read_fd read_file
fd-most t fds fd most bytes is = by (open_for_reading t fds fd) refl
  where
    targeted : (o : OpenFile) (place : ℕ) (target : Target) → o.target ≡ target
        → (read_open t place o most).bytes ≡ Ok bytes → length bytes ≤ most
    targeted o place (File file) to it =
        omega (
          arith,
          take-most most (drop o.offset (contents t (File file))),
          ap length (same_Ok (bytes_from (contents t (File file)) o.offset most) bytes (rw to at it)),
        )
    targeted o place (PipeReader pipe) to it = pipe-most t pipe most bytes (rw to at it)
    targeted o place (PipeWriter pipe) to it = pipe-most t pipe most bytes (rw to at it)

    refused : (let r : Bytes = Err no.BadFd in r) ≡ Ok bytes → ⊥
    refused e = cc

    by : (o : Option (ℕ × OpenFile)) → open_for_reading t fds fd ≡ o → length bytes ≤ most
    by None shut = absurd (refused (rw shut at is))
    by (Some found) there = targeted found.1 found.0 found.1.target refl (rw there at is)

-- ---- words that are stored

pub one_word : (a : ℕ) → length (word_bytes a) ≡ 8
unfolding word_bytes
one_word a = refl

two_words : (a b : ℕ) → length (word_bytes a ++ word_bytes b) ≤ 2 * word_size
two_words a b = omega (arith, length-append (word_bytes a) (word_bytes b), one_word a, one_word b)

three_words : (a b c : ℕ) → length (word_bytes a ++ word_bytes b ++ word_bytes c) ≤ 3 * word_size
three_words a b c =
    omega (arith, length-append (word_bytes a ++ word_bytes b) (word_bytes c), two_words a b, one_word c)

-- ---- refusals

refused-patched : (ps : List Patch) (why : FileNo) → patched_effect ps (refusal_effect why) ≡ refusal_effect why
refused-patched ps no.BadFd = refl
refused-patched ps no.NoFile = refl
refused-patched ps no.NoPlace = refl
refused-patched ps no.TableFull = refl
refused-patched ps no.NoSpace = refl
refused-patched ps no.NotSeekable = refl
refused-patched ps no.BadOffset = refl
refused-patched ps no.NoReader = refl
refused-patched ps no.Sleep = refl
refused-patched ps no.NoMemory = refl

pub file-patched : (ps : List Patch) (e : FileEffect ℕ) → patched_effect ps (file_effect e) ≡ file_effect e
unfolding file_effect
file-patched ps e = by e.answer refl
  where
    by : (r : Result ℕ FileNo) → e.answer ≡ r → patched_effect ps (file_effect e) ≡ file_effect e
    by (Ok value) is = rw is refl
    by (Err why) is = rw is (refused-patched ps why)

-- ---- the calls

pub can-spared : (ps : List Patch) → AreWithin ps → (space : Space) (at size : ℕ) → are_spared ps at size ≡ true
    → can_write (patched ps space) at size ≡ can_write space at size
can-spared ps within space at size spared = rw (bytes-spared ps prot_write at size space spared) refl

-- a store of at most as many bytes as were asked for
pub store-spared : (ps : List Patch) → AreWithin ps → (space : Space) (at size : ℕ) (bytes : List ℕ)
    → are_spared ps at size ≡ true → length bytes ≤ size
    → with_bytes at bytes (patched ps space) ≡ patched ps (with_bytes at bytes space)
store-spared ps within space at size bytes spared few =
    let spares = spares-range ps at size within spared in
    sym (patched-store ps at bytes (λ a low high. spares a low (omega arith)) space)

module _ (ps : List Patch) (within : AreWithin ps) (t : FileTable) (fds : Descriptors) (space : Space) where
  pub read-patched : (fd at size : ℕ) → are_spared ps at size ≡ true
      → read_effect t fds (patched ps space) fd at size ≡ patched_effect ps (read_effect t fds space fd at size)
  unfolding read_effect
  read-patched fd at size spared =
      by (is_none (open_for_reading t fds fd)) refl (ltb transfer_limit size) refl (can_write space at size) refl
      (read_fd t fds fd size).bytes refl
    where
      by : (a : Bool) → is_none (open_for_reading t fds fd) ≡ a → (b : Bool) → ltb transfer_limit size ≡ b
          → (w : Bool) → can_write space at size ≡ w → (r : Result (List ℕ) FileNo)
          → (read_fd t fds fd size).bytes ≡ r
          → read_effect t fds (patched ps space) fd at size ≡ patched_effect ps (read_effect t fds space fd at size)
      by true shut b long w can r is = rw shut refl
      by false may true long w can r is = rw (may, long) refl
      by false may false short false can r is =
          rw (may, short, can-spared ps within space at size spared ∙ can, can) refl
      by false may false short true can (Err why) is =
          rw (may, short, can-spared ps within space at size spared ∙ can, can, is) (sym (refused-patched ps why))
      by false may false short true can (Ok bytes) is =
          rw (may, short, can-spared ps within space at size spared ∙ can, can, is)
          (ap (λ (sp : Space). gives (length bytes) (files_are (read_fd t fds fd size).files fds ∷ space_is sp ∷ []))
          (store-spared ps within space at size bytes spared (fd-most t fds fd size bytes is)))

  pub write-patched : (fd at size : ℕ) → are_spared ps at size ≡ true
      → write_effect t fds (patched ps space) fd at size ≡ patched_effect ps (write_effect t fds space fd at size)
  unfolding write_effect
  write-patched fd at size spared =
      by (is_none (open_for_writing t fds fd)) refl
      (ltb transfer_limit size) refl (bytes_for prot_read space at size) refl
    where
      by : (a : Bool) → is_none (open_for_writing t fds fd) ≡ a → (b : Bool) → ltb transfer_limit size ≡ b
          → (r : Result (List ℕ) BadByte) → bytes_for prot_read space at size ≡ r
          → write_effect t fds (patched ps space) fd at size ≡ patched_effect ps (write_effect t fds space fd at size)
      by true shut b long r is = rw shut refl
      by false may true long r is = rw (may, long) refl
      by false may false short (Err bad) is =
          rw (may, short, bytes-spared ps prot_read at size space spared ∙ is, is) refl
      by false may false short (Ok bytes) is =
          rw (may, short, bytes-spared ps prot_read at size space spared ∙ is, is)
          (sym (file-patched ps (write_fd t fds fd bytes)))

  pub open-patched : (at flags : ℕ) → are_spared ps at path_limit ≡ true
      → open_effect t fds (patched ps space) at flags ≡ patched_effect ps (open_effect t fds space at flags)
  unfolding open_effect
  open-patched at flags spared = by (path_at space at) refl (are_open_flags flags) refl
    where
      by : (r : Result (List ℕ) Errno) → path_at space at ≡ r → (b : Bool) → are_open_flags flags ≡ b
          → open_effect t fds (patched ps space) at flags ≡ patched_effect ps (open_effect t fds space at flags)
      by (Err e) is b flagged = rw (path-spared ps space at spared ∙ is, is) refl
      by (Ok name) is true flagged =
          rw (path-spared ps space at spared ∙ is, is, flagged) (sym (file-patched ps (opened t fds name flags)))
      by (Ok name) is false flagged = rw (path-spared ps space at spared ∙ is, is, flagged) refl

  pub close-patched : (fd : ℕ)
      → close_effect t fds (patched ps space) fd ≡ patched_effect ps (close_effect t fds space fd)
  unfolding close_effect
  close-patched fd = by (closed t fds fd).answer refl
    where
      by : (r : Result (Unit {0}) FileNo) → (closed t fds fd).answer ≡ r
          → close_effect t fds (patched ps space) fd ≡ patched_effect ps (close_effect t fds space fd)
      by (Ok done) is = rw is refl
      by (Err why) is = rw is (sym (refused-patched ps why))

  pub pipe-patched : (at : ℕ) → are_spared ps at (2 * word_size) ≡ true
      → pipe_effect t fds (patched ps space) at ≡ patched_effect ps (pipe_effect t fds space at)
  unfolding pipe_effect
  pipe-patched at spared = by (can_write space at (2 * word_size)) refl (piped t fds).answer refl
    where
      by : (w : Bool) → can_write space at (2 * word_size) ≡ w → (r : Result (ℕ × ℕ) FileNo)
          → (piped t fds).answer ≡ r
          → pipe_effect t fds (patched ps space) at ≡ patched_effect ps (pipe_effect t fds space at)
      by false can r is = rw (can-spared ps within space at (2 * word_size) spared ∙ can, can) refl
      by true can (Err why) is =
          rw (can-spared ps within space at (2 * word_size) spared ∙ can, can, is) (sym (refused-patched ps why))
      by true can (Ok pair) is =
          rw (can-spared ps within space at (2 * word_size) spared ∙ can, can, is)
          (ap (λ (sp : Space). gives 0 (files_are (piped t fds).files (piped t fds).fds ∷ space_is sp ∷ []))
          (store-spared ps within space at (2 * word_size)
          (word_bytes pair.0 ++ word_bytes pair.1) spared (two_words pair.0 pair.1)))

  pub fstat-patched : (fd at : ℕ) → are_spared ps at (3 * word_size) ≡ true
      → fstat_effect t fds (patched ps space) fd at ≡ patched_effect ps (fstat_effect t fds space fd at)
  unfolding fstat_effect
  fstat-patched fd at spared = by (described t fds fd) refl (can_write space at (3 * word_size)) refl
    where
      by : (r : Result Stat FileNo) → described t fds fd ≡ r → (w : Bool) → can_write space at (3 * word_size) ≡ w
          → fstat_effect t fds (patched ps space) fd at ≡ patched_effect ps (fstat_effect t fds space fd at)
      by (Err why) is w can = rw is (sym (refused-patched ps why))
      by (Ok stat) is false can = rw (is, can-spared ps within space at (3 * word_size) spared ∙ can, can) refl
      by (Ok stat) is true can =
          rw (is, can-spared ps within space at (3 * word_size) spared ∙ can, can)
          (ap (λ (sp : Space). gives 0 (space_is sp ∷ []))
          (store-spared ps within space at (3 * word_size)
          (word_bytes stat.kind ++ word_bytes stat.size ++ word_bytes stat.offset)
          spared (three_words stat.kind stat.size stat.offset)))
