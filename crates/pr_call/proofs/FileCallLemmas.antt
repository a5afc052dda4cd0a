use Rattle.std.proofs.Common.{◌≡◌, ℕ, Ok, Err, [], ◌∷◌, refl, sym}
use Rattle.pr_num.specs.Files.{FileTable, Descriptors}
use Rattle.pr_num.specs.Spaces.{Space}
use Rattle.pr_parts.specs.FileCalls.{closed, duplicated, sought}
use Rattle.pr_parts.specs.declared.files.FileNo.{FileNo}
use Rattle.pr_model.specs.Changes.{gives, files_are}
use Rattle.pr_model.specs.FileCallRows.{close_effect, dup_effect, file_effect, lseek_effect, refusal_effect}
use Rattle.pr_call.proofs.FileKeptLemmas.{closed-keeps, duplicated-keeps, sought-keeps, kept-fds, kept-files}

-- What the calls on files do, by what the files answer.

module _ (t : FileTable) (fds : Descriptors) (space : Space) (f : FileTable) (d : Descriptors) where
  -- close
  module _ (fd : ℕ) where
    pub close-done : record { files = f; fds = d; answer = Ok tt } ≡ closed t fds fd
        → gives 0 (files_are f d ∷ []) ≡ close_effect t fds space fd
    unfolding close_effect
    close-done is = rw (sym is) refl

    pub close-refused : (why : FileNo) → record { files = f; fds = d; answer = Err why } ≡ closed t fds fd
        → refusal_effect why ≡ close_effect t fds space fd
    unfolding close_effect
    close-refused why is = rw (sym is) refl

    pub close-files : (why : FileNo) → record { files = f; fds = d; answer = Err why } ≡ closed t fds fd → f ≡ t
    close-files why is = kept-files t fds f d why (closed t fds fd) (closed-keeps t fds fd) is

    pub close-fds : (why : FileNo) → record { files = f; fds = d; answer = Err why } ≡ closed t fds fd → d ≡ fds
    close-fds why is = kept-fds t fds f d why (closed t fds fd) (closed-keeps t fds fd) is

    -- dup
    pub dup-done : (free : ℕ) → record { files = f; fds = d; answer = Ok free } ≡ duplicated t fds fd
        → gives free (files_are f d ∷ []) ≡ dup_effect t fds space fd
    unfolding dup_effect file_effect
    dup-done free is = rw (sym is) refl

    pub dup-refused : (why : FileNo) → record { files = f; fds = d; answer = Err why } ≡ duplicated t fds fd
        → refusal_effect why ≡ dup_effect t fds space fd
    unfolding dup_effect file_effect
    dup-refused why is = rw (sym is) refl

    pub dup-files : (why : FileNo) → record { files = f; fds = d; answer = Err why } ≡ duplicated t fds fd → f ≡ t
    dup-files why is = kept-files t fds f d why (duplicated t fds fd) (duplicated-keeps t fds fd) is

    pub dup-fds : (why : FileNo) → record { files = f; fds = d; answer = Err why } ≡ duplicated t fds fd → d ≡ fds
    dup-fds why is = kept-fds t fds f d why (duplicated t fds fd) (duplicated-keeps t fds fd) is

    -- lseek
    module _ (offset : ℕ) where
      pub seek-done : (value : ℕ) → record { files = f; fds = d; answer = Ok value } ≡ sought t fds fd offset
          → gives value (files_are f d ∷ []) ≡ lseek_effect t fds space fd offset
      unfolding lseek_effect file_effect
      seek-done value is = rw (sym is) refl

      pub seek-refused : (why : FileNo) → record { files = f; fds = d; answer = Err why } ≡ sought t fds fd offset
          → refusal_effect why ≡ lseek_effect t fds space fd offset
      unfolding lseek_effect file_effect
      seek-refused why is = rw (sym is) refl

      pub seek-files : (why : FileNo) → record { files = f; fds = d; answer = Err why } ≡ sought t fds fd offset → f ≡ t
      seek-files why is = kept-files t fds f d why (sought t fds fd offset) (sought-keeps t fds fd offset) is

pub ruleset closing = (close-done, close-refused, close-files, close-fds)

pub ruleset duplicating = (dup-done, dup-refused, dup-files, dup-fds)

pub ruleset seeking = (seek-done, seek-refused, seek-files)
