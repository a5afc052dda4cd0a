use Rattle.std.proofs.Common.{◌≡◌, ◌+◌, ℕ, true, false, Option, Some, None, List, Result, Ok, Err, IfErr, cond, is_ok, is_some, is_none, length, position, eqb, leb, ltb, inl, inr, refl, sym, ap, subst}
use Rattle.std.proofs.lemmas.Bool.{cases_Bool}
use Rattle.pr_num.specs.Limits.{file_size_limit, pipe_size_limit}
use Rattle.pr_num.specs.Files.{FileTable, Descriptors, pipe_of}
use Rattle.pr_num.specs.declared.files.OpenFile.{OpenFile}
use Rattle.pr_num.specs.declared.files.Target.{Target}
use Rattle.pr_num.specs.declared.files.Target.TheVariants.{File, PipeReader, PipeWriter}
use Rattle.pr_parts.specs.FileCalls.{FileEffect, closed, described, duplicated, open_for_reading, open_for_writing, refused, sought, unless_no_memory}
use Rattle.pr_parts.specs.FileTables.{open_of}
use Rattle.pr_parts.specs.FileTransfers.{has_reader, has_writer, pipe_bytes, read_fd, read_file, read_pipe, write_fd, write_file, write_pipe}
use Rattle.pr_parts.specs.declared.files.FileNo.{FileNo}
use Rattle.pr_parts.specs.declared.files.FileNo.TheVariants.{BadFd, NoMemory}
use Rattle.pr_model.specs.FileCallRows.{file_effect}
use Rattle.pr_call.specs.Effects.{is_granted}
use Rattle.pr_call.specs.FileAnswers.{lacks_memory}
use Rattle.pr_call.specs.declared.answers.Refusal.TheVariants.{Files}

-- A refused call leaves the files and the descriptors as they were, and does not lack memory by its definition.

pub record Keeps {A : Type 0} (t : FileTable) (fds : Descriptors) (e : FileEffect A) : Type 0 where
  pub kept : IfErr e.answer (λ why. (e.files ≡ t) × (e.fds ≡ fds) × (lacks_memory (Err (Files why)) ≡ false))

module _ (t : FileTable) (fds : Descriptors) where
  pub closed-keeps : (fd : ℕ) → Keeps t fds (closed t fds fd)
  unfolding closed
  closed-keeps fd = by (open_of t fds fd) refl
    where
      by : (o : Option (ℕ × OpenFile)) → open_of t fds fd ≡ o → Keeps t fds (closed t fds fd)
      by None e = rw e (record { kept = (refl, refl, refl) })
      by (Some found) e = rw e (record { kept = tt })

  pub duplicated-keeps : (fd : ℕ) → Keeps t fds (duplicated t fds fd)
  unfolding duplicated
  duplicated-keeps fd = by (open_of t fds fd) (position is_none fds) refl refl
    where
      by : (o : Option (ℕ × OpenFile)) (free : Option ℕ) → open_of t fds fd ≡ o → position is_none fds ≡ free
          → Keeps t fds (duplicated t fds fd)
      by None free e f = rw e (record { kept = (refl, refl, refl) })
      by (Some found) None e f = rw (e, f) (record { kept = (refl, refl, refl) })
      by (Some found) (Some free) e f = rw (e, f) (record { kept = tt })

  pub sought-keeps : (fd offset : ℕ) → Keeps t fds (sought t fds fd offset)
  unfolding sought
  sought-keeps fd offset = by (open_of t fds fd) refl
    where
      by : (o : Option (ℕ × OpenFile)) → open_of t fds fd ≡ o → Keeps t fds (sought t fds fd offset)
      by None e = rw e (record { kept = (refl, refl, refl) })
      by (Some found) e =
          elim (cases_Bool (is_some (pipe_of found.1.target))) [
            | inl pipe ↦ rw (e, pipe) (record { kept = (refl, refl, refl) })
            | inr file ↦ elim (cases_Bool (leb offset file_size_limit)) [
              | inl within ↦ rw (e, file, within) (record { kept = tt })
              | inr beyond ↦ rw (e, file, beyond) (record { kept = (refl, refl, refl) })
            ]
          ]

  read_pipe-keeps : (pipe most : ℕ)
      → IfErr (read_pipe t pipe most).bytes
      (λ why. ((read_pipe t pipe most).files ≡ t) × (lacks_memory (Err (Files why)) ≡ false))
  unfolding read_pipe
  read_pipe-keeps pipe most =
      elim (cases_Bool (eqb (length (pipe_bytes t pipe)) 0)) [
        | inl empty ↦ elim (cases_Bool (has_writer t pipe))
            [ inl written ↦ rw (empty, written) (refl, refl) | inr unwritten ↦ rw (empty, unwritten) tt ]
        | inr some ↦ rw some tt
      ]

  pub read-keeps : (fd most : ℕ)
      → IfErr (read_fd t fds fd most).bytes
      (λ why. ((read_fd t fds fd most).files ≡ t) × (lacks_memory (Err (Files why)) ≡ false))
  unfolding read_fd read_file
  read-keeps fd most = by (open_for_reading t fds fd) refl
    where
      into : (found : ℕ × OpenFile) (target : Target) → open_for_reading t fds fd ≡ Some found → found.1.target ≡ target
          → IfErr (read_fd t fds fd most).bytes
          (λ why. ((read_fd t fds fd most).files ≡ t) × (lacks_memory (Err (Files why)) ≡ false))
      into found (File file) e is = rw e (rw is tt)
      into found (PipeReader pipe) e is = rw e (rw is (read_pipe-keeps pipe most))
      into found (PipeWriter pipe) e is = rw e (rw is (read_pipe-keeps pipe most))

      by : (o : Option (ℕ × OpenFile)) → open_for_reading t fds fd ≡ o
          → IfErr (read_fd t fds fd most).bytes
          (λ why. ((read_fd t fds fd most).files ≡ t) × (lacks_memory (Err (Files why)) ≡ false))
      by None e = rw e (refl, refl)
      by (Some found) e = into found found.1.target e refl

  write_pipe-keeps : (pipe : ℕ) (bytes : List ℕ) → Keeps t fds (write_pipe t fds pipe bytes)
  unfolding write_pipe
  write_pipe-keeps pipe bytes =
      elim (cases_Bool (has_reader t pipe)) [
        | inl read ↦ elim (cases_Bool (ltb pipe_size_limit (length (pipe_bytes t pipe) + length bytes))) [
          | inl full ↦ rw (read, full) (record { kept = (refl, refl, refl) })
          | inr room ↦ rw (read, room) (record { kept = tt })
        ]
        | inr unread ↦ rw unread (record { kept = (refl, refl, refl) })
      ]

  pub written-keeps : (fd : ℕ) (bytes : List ℕ) → Keeps t fds (write_fd t fds fd bytes)
  unfolding write_fd write_file
  written-keeps fd bytes = by (open_for_writing t fds fd) refl
    where
      into : (found : ℕ × OpenFile) (target : Target) → open_for_writing t fds fd ≡ Some found → found.1.target ≡ target
          → Keeps t fds (write_fd t fds fd bytes)
      into found (File file) e is =
          rw e (rw is
          (elim (cases_Bool (ltb file_size_limit (found.1.offset + length bytes)))
          [ inl long ↦ rw long (record { kept = (refl, refl, refl) }) | inr short ↦ rw short (record { kept = tt }) ]))
      into found (PipeReader pipe) e is = rw e (rw is (write_pipe-keeps pipe bytes))
      into found (PipeWriter pipe) e is = rw e (rw is (write_pipe-keeps pipe bytes))

      by : (o : Option (ℕ × OpenFile)) → open_for_writing t fds fd ≡ o → Keeps t fds (write_fd t fds fd bytes)
      by None e = rw e (record { kept = (refl, refl, refl) })
      by (Some found) e = into found found.1.target e refl

-- what a refused call was, by its effect
module _ {A : Type 0} (t : FileTable) (fds : Descriptors) (f : FileTable) (d : Descriptors) (why : FileNo)
    (e : FileEffect A) where
  pub kept-files : Keeps t fds e → record { files = f; fds = d; answer = Err why } ≡ e → f ≡ t
  kept-files keeps is = let kept = keeps.kept in (rw (sym is) at kept).0

  pub kept-fds : Keeps t fds e → record { files = f; fds = d; answer = Err why } ≡ e → d ≡ fds
  kept-fds keeps is = let kept = keeps.kept in (rw (sym is) at kept).1

  kept-unlacking : Keeps t fds e → record { files = f; fds = d; answer = Err why } ≡ e
      → lacks_memory (Err (Files why)) ≡ false
  kept-unlacking keeps is = let kept = keeps.kept in (rw (sym is) at kept).2

-- the same of a call that may have found no memory
module _ {A : Type 0} (t : FileTable) (fds : Descriptors) (f : FileTable) (d : Descriptors) (e : FileEffect A) where
  pub unless-files : (why : FileNo) → Keeps t fds e
      → record { files = f; fds = d; answer = Err why } ≡ unless_no_memory t fds (Err why) e → f ≡ t
  unless-files NoMemory keeps is = by e.answer is
    where
      by : (r : Result A FileNo)
          → record { files = f; fds = d; answer = Err NoMemory } ≡ cond (is_ok r) (refused t fds NoMemory) e → f ≡ t
      by (Ok value) made = ap (λ (x : FileEffect A). x.files) made
      by (Err other) made = kept-files t fds f d NoMemory e keeps made
  unless-files why keeps is = kept-files t fds f d why e keeps is

  pub unless-fds : (why : FileNo) → Keeps t fds e
      → record { files = f; fds = d; answer = Err why } ≡ unless_no_memory t fds (Err why) e → d ≡ fds
  unless-fds NoMemory keeps is = by e.answer is
    where
      by : (r : Result A FileNo)
          → record { files = f; fds = d; answer = Err NoMemory } ≡ cond (is_ok r) (refused t fds NoMemory) e → d ≡ fds
      by (Ok value) made = ap (λ (x : FileEffect A). x.fds) made
      by (Err other) made = kept-fds t fds f d NoMemory e keeps made
  unless-fds why keeps is = kept-fds t fds f d why e keeps is

  pub unless-refused : (why : FileNo) → lacks_memory (Err (Files why)) ≡ false
      → record { files = f; fds = d; answer = Err why } ≡ unless_no_memory t fds (Err why) e
      → record { files = f; fds = d; answer = Err why } ≡ e
  unless-refused NoMemory other is = absurd (cc)
  unless-refused why other is = is

  -- where memory ran out, the call would have been granted
  pub lacking-by : (P : Result A FileNo → Type 0) → ((value : A) → P (Ok value)) → Keeps t fds e → (why : FileNo)
      → record { files = f; fds = d; answer = Err why } ≡ unless_no_memory t fds (Err why) e
      → lacks_memory (Err (Files why)) ≡ true → P e.answer
  lacking-by P done keeps NoMemory is lacks = by e.answer refl is
    where
      by : (r : Result A FileNo) → e.answer ≡ r
          → record { files = f; fds = d; answer = Err NoMemory } ≡ cond (is_ok r) (refused t fds NoMemory) e
          → P e.answer
      by (Ok value) at made = subst P (sym at) (done value)
      by (Err other) at made = absurd (let wrong : true ≡ false = kept-unlacking t fds f d NoMemory e keeps made in cc)
  lacking-by P done keeps why is lacks = absurd (cc)

-- the same of a call that gives a number
pub lacking-file : (t : FileTable) (fds : Descriptors) (f : FileTable) (d : Descriptors) (e : FileEffect ℕ)
    → Keeps t fds e → (why : FileNo)
    → record { files = f; fds = d; answer = Err why } ≡ unless_no_memory t fds (Err why) e
    → lacks_memory (Err (Files why)) ≡ true → is_granted (file_effect e) ≡ true
unfolding file_effect
lacking-file t fds f d e =
    lacking-by t fds f d e
    (λ r. is_granted (file_effect (record { files = e.files; fds = e.fds; answer = r })) ≡ true) (λ value. refl)

-- a file is described without memory
pub described-unlacking : (t : FileTable) (fds : Descriptors) (fd : ℕ) (why : FileNo) → Err why ≡ described t fds fd
    → lacks_memory (Err (Files why)) ≡ false
unfolding described
described-unlacking t fds fd why = by (open_of t fds fd) refl
  where
    by : (o : Option (ℕ × OpenFile)) → open_of t fds fd ≡ o → Err why ≡ described t fds fd
        → lacks_memory (Err (Files why)) ≡ false
    by None e = rw e (λ is. let same : why ≡ BadFd = cc in rw same refl)
    by (Some found) e = rw e (λ is. absurd (cc))
