use Rattle.std.proofs.Common.{◌≡◌, ◌*◌, ℕ, Option, Some, None, Ok, Err, List, [], ◌∷◌, ◌++◌, true, false, is_some, length, ltb, inl, inr, refl, sym, ap, subst, ◌∙◌}
use Rattle.std.specs.List.{count_by}
use Rattle.std.proofs.lemmas.Bool.{cases_Bool}
use Rattle.pr_num.specs.Files.{FileTable, Descriptors}
use Rattle.pr_num.specs.Spaces.{Space}
use Rattle.pr_num.specs.Words.{word_bytes}
use Rattle.pr_num.specs.declared.errnos.Errno.{Errno}
use Rattle.pr_num.specs.declared.errnos.Errno.TheVariants.{Inval, Fault}
use Rattle.pr_parts.specs.AddressSpaces.{with_bytes}
use Rattle.pr_parts.specs.FileCalls.{FileEffect, are_open_flags, created_file, creates, made_pipe, opened, opened_file, piped, unless_no_memory}
use Rattle.pr_parts.specs.FileTables.{file_named, free_fd, free_fd_behind}
use Rattle.pr_parts.specs.declared.files.FileNo.{FileNo}
use Rattle.pr_model.specs.Changes.{fails, gives, files_are, space_is}
use Rattle.pr_model.specs.FileCallRows.{file_effect, open_effect, pipe_effect, refusal_effect, word_size}
use Rattle.pr_model.specs.MemoryCalls.{can_write, path_at}
use Rattle.pr_call.proofs.FileKeptLemmas.{Keeps, lacking-by, lacking-file, unless-fds, unless-files, unless-refused}
use Rattle.pr_call.specs.Effects.{is_granted}
use Rattle.pr_call.specs.FileAnswers.{lacks_memory}
use Rattle.pr_call.specs.declared.answers.Refusal.TheVariants.{Files}

-- What the calls do that make files and pipes, by what the files answer.

-- ---- a refused call leaves all as it was

module _ (t : FileTable) (fds : Descriptors) where
  created-keeps : (fd : ℕ) (name : List ℕ) (flags : ℕ) → Keeps t fds (created_file t fds fd name flags)
  unfolding created_file opened_file
  created-keeps fd name flags =
      elim (cases_Bool (ltb (length t.files) 256))
      [ inl few ↦ rw few (record { kept = tt }) | inr full ↦ rw full (record { kept = (refl, refl, refl) }) ]

  pub opened-keeps : (name : List ℕ) (flags : ℕ) → Keeps t fds (opened t fds name flags)
  unfolding opened opened_file
  opened-keeps name flags = by (file_named t name) (free_fd fds) refl refl
    where
      by : (o : Option ℕ) (free : Option ℕ) → file_named t name ≡ o → free_fd fds ≡ free
          → Keeps t fds (opened t fds name flags)
      by (Some file) None e f = rw (e, f) (record { kept = (refl, refl, refl) })
      by (Some file) (Some fd) e f = rw (e, f) (record { kept = tt })
      by None None e f =
          elim (cases_Bool (creates flags)) [
            | inl made ↦ rw (e, f, made) (record { kept = (refl, refl, refl) })
            | inr not_made ↦ rw (e, f, not_made) (record { kept = (refl, refl, refl) })
          ]
      by None (Some fd) e f =
          elim (cases_Bool (creates flags)) [
            | inl made ↦ rw (e, f, made) (created-keeps fd name flags)
            | inr not_made ↦ rw (e, f, not_made) (record { kept = (refl, refl, refl) })
          ]

  pub piped-keeps : Keeps t fds (piped t fds)
  unfolding piped made_pipe
  piped-keeps = by (free_fd fds) refl
    where
      ends : (reader : ℕ) (free : Option ℕ) → free_fd fds ≡ Some reader → free_fd_behind fds reader ≡ free
          → Keeps t fds (piped t fds)
      ends reader None e f = rw (e, f) (record { kept = (refl, refl, refl) })
      ends reader (Some writer) e f =
          elim (cases_Bool (ltb (count_by is_some t.pipes) 256)) [
            | inl few ↦ rw (e, f, few) (record { kept = tt })
            | inr full ↦ rw (e, f, full) (record { kept = (refl, refl, refl) })
          ]

      by : (free : Option ℕ) → free_fd fds ≡ free → Keeps t fds (piped t fds)
      by None e = rw e (record { kept = (refl, refl, refl) })
      by (Some reader) e = ends reader (free_fd_behind fds reader) e refl

-- ---- open

module _ (t : FileTable) (fds : Descriptors) (space : Space) (at flags : ℕ) where
  pub open-path : (e : Errno) → Err e ≡ path_at space at → fails e ≡ open_effect t fds space at flags
  unfolding open_effect
  open-path e is = rw (sym is) refl

  module _ (name : List ℕ) (named : Ok name ≡ path_at space at) where
    pub open-flags : are_open_flags flags ≡ false → fails Inval ≡ open_effect t fds space at flags
    unfolding open_effect
    open-flags bad = rw (sym named, bad) refl

    module _ (f : FileTable) (d : Descriptors) (good : are_open_flags flags ≡ true) where
      pub open-done : (fd : ℕ)
          → record { files = f; fds = d; answer = Ok fd } ≡ unless_no_memory t fds (Ok fd) (opened t fds name flags)
          → gives fd (files_are f d ∷ []) ≡ open_effect t fds space at flags
      unfolding open_effect file_effect
      open-done fd is = rw (sym named, good, sym is) refl

      pub open-refused : (why : FileNo)
          → record { files = f; fds = d; answer = Err why } ≡ unless_no_memory t fds (Err why) (opened t fds name flags)
          → lacks_memory (Err (Files why)) ≡ false → refusal_effect why ≡ open_effect t fds space at flags
      unfolding open_effect file_effect
      open-refused why is lacks =
          let whole = unless-refused t fds f d (opened t fds name flags) why lacks is in
          rw (sym named, good, sym whole) refl

      pub open-lacks : (why : FileNo)
          → record { files = f; fds = d; answer = Err why } ≡ unless_no_memory t fds (Err why) (opened t fds name flags)
          → lacks_memory (Err (Files why)) ≡ true → is_granted (open_effect t fds space at flags) ≡ true
      unfolding open_effect
      open-lacks why is lacks =
          rw (sym named, good)
          (lacking-file t fds f d (opened t fds name flags) (opened-keeps t fds name flags) why is lacks)

module _ (t : FileTable) (fds : Descriptors) (name : List ℕ) (flags : ℕ) (f : FileTable) (d : Descriptors)
    (why : FileNo)
    (is : record { files = f; fds = d; answer = Err why }
    ≡ unless_no_memory t fds (Err why) (opened t fds name flags)) where
  pub open-files : f ≡ t
  open-files = unless-files t fds f d (opened t fds name flags) why (opened-keeps t fds name flags) is

  pub open-fds : d ≡ fds
  open-fds = unless-fds t fds f d (opened t fds name flags) why (opened-keeps t fds name flags) is

pub ruleset opening = (open-path, open-flags)

-- ---- pipe

module _ (t : FileTable) (fds : Descriptors) (space : Space) (at : ℕ) where
  pub pipe-fault : can_write space at (2 * word_size) ≡ false → fails Fault ≡ pipe_effect t fds space at
  unfolding pipe_effect
  pipe-fault cannot = rw cannot refl

  module _ (f : FileTable) (d : Descriptors) (can : can_write space at (2 * word_size) ≡ true) where
    pub pipe-done : (reader writer : ℕ) (new : Space)
        → record { files = f; fds = d; answer = Ok (reader, writer) }
        ≡ unless_no_memory t fds (Ok (reader, writer)) (piped t fds)
        → new ≡ with_bytes at (word_bytes reader ++ word_bytes writer) space
        → gives 0 (files_are f d ∷ space_is new ∷ []) ≡ pipe_effect t fds space at
    unfolding pipe_effect
    pipe-done reader writer new is stored = rw (can, stored, sym is) refl

    pub pipe-refused : (why : FileNo)
        → record { files = f; fds = d; answer = Err why } ≡ unless_no_memory t fds (Err why) (piped t fds)
        → lacks_memory (Err (Files why)) ≡ false → refusal_effect why ≡ pipe_effect t fds space at
    unfolding pipe_effect
    pipe-refused why is lacks =
        let whole = unless-refused t fds f d (piped t fds) why lacks is in
        rw (can, sym whole) refl

    pub pipe-lacks : (why : FileNo)
        → record { files = f; fds = d; answer = Err why } ≡ unless_no_memory t fds (Err why) (piped t fds)
        → lacks_memory (Err (Files why)) ≡ true → is_granted (pipe_effect t fds space at) ≡ true
    unfolding pipe_effect
    pipe-lacks why is lacks =
        lacking-by t fds f d (piped t fds)
        (λ r. (piped t fds).answer ≡ r → is_granted (pipe_effect t fds space at) ≡ true)
        (λ value e. rw (can, e) refl) (piped-keeps t fds) why is lacks refl

    -- the descriptors that were looked up are those of the pipe
    pub pipe-made : (ends : ℕ × ℕ) (reader writer : ℕ) (new : Space) → Ok (reader, writer) ≡ (piped t fds).answer
        → record { files = f; fds = d; answer = Ok ends } ≡ unless_no_memory t fds (Ok ends) (piped t fds)
        → new ≡ with_bytes at (word_bytes reader ++ word_bytes writer) space
        → gives 0 (files_are f d ∷ space_is new ∷ []) ≡ pipe_effect t fds space at
    pipe-made ends reader writer new looked is stored =
        let answer : Ok ends ≡ (piped t fds).answer = ap (λ (e : FileEffect (ℕ × ℕ)). e.answer) is in
        let both = answer ∙ sym looked in
        let same : ends ≡ (reader, writer) = cc in
        pipe-done reader writer new
        (subst (λ (p : ℕ × ℕ). record { files = f; fds = d; answer = Ok p }
        ≡ unless_no_memory t fds (Ok p) (piped t fds)) same is) stored

  -- what was looked up is refused, or can be stored
  pub pipe-unlooked : (why : FileNo) → can_write space at (2 * word_size) ≡ true → Err why ≡ (piped t fds).answer
      → refusal_effect why ≡ pipe_effect t fds space at
  unfolding pipe_effect
  pipe-unlooked why can is = rw (can, sym is) refl

  pub pipe-unlooked-lacks : (why : FileNo) → Err why ≡ (piped t fds).answer → lacks_memory (Err (Files why)) ≡ true
      → is_granted (pipe_effect t fds space at) ≡ true
  pipe-unlooked-lacks why is lacks =
      let kept = (piped-keeps t fds).kept in
      let told : lacks_memory (Err (Files why)) ≡ false = (rw (sym is) at kept).2 in
      absurd (cc)

  pub pipe-looked-lacks : (ends : ℕ × ℕ) → can_write space at (2 * word_size) ≡ true → Ok ends ≡ (piped t fds).answer
      → is_granted (pipe_effect t fds space at) ≡ true
  unfolding pipe_effect
  pipe-looked-lacks ends can is = rw (can, sym is) refl

module _ (t : FileTable) (fds : Descriptors) (f : FileTable) (d : Descriptors) (why : FileNo)
    (is : record { files = f; fds = d; answer = Err why } ≡ unless_no_memory t fds (Err why) (piped t fds)) where
  pub pipe-files : f ≡ t
  pipe-files = unless-files t fds f d (piped t fds) why (piped-keeps t fds) is

  pub pipe-fds : d ≡ fds
  pipe-fds = unless-fds t fds f d (piped t fds) why (piped-keeps t fds) is

pub ruleset piping = (pipe-fault, pipe-unlooked, pipe-unlooked-lacks, pipe-looked-lacks)
