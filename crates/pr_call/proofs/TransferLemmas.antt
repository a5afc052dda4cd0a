use Rattle.std.proofs.Common.{◌≡◌, ◌≤◌, ◌<◌, ◌+◌, ◌^◌, ◌%◌, ◌++◌, ℕ, zero, suc, Bool, true, false, Option, Some, None, Result, Ok, Err, List, [], ◌∷◌, length, take, drop, is_some, is_none, length-append, refl, sym, ap, ◌∙◌, arith}
use Rattle.std.specs.Prelude.{is_ok, not}
use Rattle.std.proofs.lemmas.Bool.{le-ltb, lt-ltb}
use Rattle.std.proofs.lemmas.List.{length-take, take_at}
use Rattle.pr_num.specs.Control.{prot_read, prot_write}
use Rattle.pr_num.specs.Files.{FileTable, Descriptors}
use Rattle.pr_num.specs.Limits.{transfer_limit}
use Rattle.pr_num.specs.Spaces.{Space, byte_for, bytes_for, one_more}
use Rattle.pr_num.specs.declared.errnos.Errno.{Errno}
use Rattle.pr_num.specs.declared.errnos.Errno.TheVariants.{Badf, Fault, Inval}
use Rattle.pr_num.specs.declared.mappings.BadByte.{BadByte}
use Rattle.pr_file.specs.Waits.{waits}
use Rattle.pr_mem.specs.Answers.{access_answer}
use Rattle.pr_mem.specs.declared.faults.MemFault.{MemFault}
use Rattle.pr_parts.specs.AddressSpaces.{with_bytes}
use Rattle.pr_parts.specs.FileCalls.{FileEffect, open_for_reading, open_for_writing, unless_no_memory}
use Rattle.pr_parts.specs.FileTransfers.{ReadEffect, count_of, filled, read_fd, write_fd}
use Rattle.pr_parts.specs.declared.files.FileNo.{FileNo}
use Rattle.pr_parts.specs.declared.files.FileNo.TheVariants.{BadFd, NoFile, NoPlace, TableFull, NoSpace, NotSeekable, BadOffset, NoReader, Sleep, NoMemory}
use Rattle.pr_model.specs.Changes.{Effect, fails, files_are, gives, is_over, space_is}
use Rattle.pr_model.specs.FileCallRows.{file_effect, read_effect, refusal_effect, write_effect}
use Rattle.pr_model.specs.MemoryCalls.{can_read, can_write}
use Rattle.pr_parts.proofs.ByteLemmas.{length-bytes_for}
use Rattle.pr_call.specs.Effects.{gives_bytes}
use Rattle.pr_call.specs.FileAnswers.{lacks_memory}
use Rattle.pr_call.specs.Transfers.{read_meant}
use Rattle.pr_call.specs.declared.answers.Refusal.TheVariants.{Files}
use Rattle.pr_call.proofs.FileKeptLemmas.{read-keeps, unless-files, unless-refused, written-keeps}

-- What reads and writes do.

-- ---- what is refused

none-some : {X : Type 0} (o : Option X) → is_some o ≡ false → is_none o ≡ true
none-some None e = refl
none-some (Some x) e = cc

some-none : {X : Type 0} (o : Option X) → is_some o ≡ true → is_none o ≡ false
some-none None e = cc
some-none (Some x) e = refl

-- a call that fails does not sleep
pub over-fails : (e : Errno) (x : Effect) → fails e ≡ x → true ≡ is_over x
over-fails e x is = ap is_over is

-- a refused call sleeps where it has to wait
over-refusal : (why : FileNo) → is_over (refusal_effect why) ≡ not (waits {A = ℕ} (Err why))
over-refusal BadFd = refl
over-refusal NoFile = refl
over-refusal NoPlace = refl
over-refusal TableFull = refl
over-refusal NoSpace = refl
over-refusal NotSeekable = refl
over-refusal BadOffset = refl
over-refusal NoReader = refl
over-refusal Sleep = refl
over-refusal NoMemory = refl

over-read : (fds : Descriptors) (space : Space) (at : ℕ) (files : FileTable) (r : Result (List ℕ) FileNo)
    → is_over (read_meant fds space at files r) ≡ not (waits r)
over-read fds space at files (Ok bytes) = refl
over-read fds space at files (Err why) = over-refusal why

over-file : (e : FileEffect ℕ) (r : Result ℕ FileNo) → e.answer ≡ r → is_over (file_effect e) ≡ not (waits r)
unfolding file_effect
over-file e (Ok value) is = rw is refl
over-file e (Err why) is = rw is (over-refusal why)

-- ---- reads

-- what is read, by the bytes
whole : (e : ReadEffect) (r : Result (List ℕ) FileNo) → e.bytes ≡ r → e ≡ record { files = e.files; bytes = r }
whole e r is = ap (λ (b : Result (List ℕ) FileNo). record { files = e.files; bytes = b }) is

module _ (t : FileTable) (fds : Descriptors) (space : Space) (fd at size : ℕ) where
  pub read-closed : is_some (open_for_reading t fds fd) ≡ false → read_effect t fds space fd at size ≡ fails Badf
  unfolding read_effect
  read-closed closed = rw (none-some _ closed) refl

  pub read-long : is_some (open_for_reading t fds fd) ≡ true → transfer_limit < size
      → read_effect t fds space fd at size ≡ fails Inval
  unfolding read_effect
  read-long ready beyond = rw (some-none _ ready, lt-ltb transfer_limit size beyond) refl

  pub read-faulty : is_some (open_for_reading t fds fd) ≡ true → size ≤ transfer_limit → can_write space at size ≡ false
      → read_effect t fds space fd at size ≡ fails Fault
  unfolding read_effect
  read-faulty ready within cannot = rw (some-none _ ready, le-ltb transfer_limit size within, cannot) refl

  -- what a read makes of what the files answer
  pub read-made : (r : Result (List ℕ) FileNo) → is_some (open_for_reading t fds fd) ≡ true → size ≤ transfer_limit
      → can_write space at size ≡ true → (read_fd t fds fd size).bytes ≡ r
      → read_effect t fds space fd at size ≡ read_meant fds space at (read_fd t fds fd size).files r
  unfolding read_effect
  read-made (Ok bytes) ready within can is =
      rw (some-none _ ready, le-ltb transfer_limit size within, can, whole (read_fd t fds fd size) (Ok bytes) is) refl
  read-made (Err why) ready within can is =
      rw (some-none _ ready, le-ltb transfer_limit size within, can, whole (read_fd t fds fd size) (Err why) is) refl

  -- which reads would not sleep
  pub read_over-made : (w : Bool) → is_some (open_for_reading t fds fd) ≡ true → size ≤ transfer_limit
      → can_write space at size ≡ true → w ≡ waits (read_fd t fds fd size).bytes
      → not w ≡ is_over (read_effect t fds space fd at size)
  read_over-made w ready within can is =
      ap not is
      ∙ sym (over-read fds space at (read_fd t fds fd size).files (read_fd t fds fd size).bytes)
      ∙ ap is_over (sym (read-made (read_fd t fds fd size).bytes ready within can refl))

pub ruleset reads_over = (over-fails, read_over-made)

-- ---- writes

module _ (t : FileTable) (fds : Descriptors) (space : Space) (fd at size : ℕ) where
  pub write-closed : is_some (open_for_writing t fds fd) ≡ false → write_effect t fds space fd at size ≡ fails Badf
  unfolding write_effect
  write-closed closed = rw (none-some _ closed) refl

  pub write-long : is_some (open_for_writing t fds fd) ≡ true → transfer_limit < size
      → write_effect t fds space fd at size ≡ fails Inval
  unfolding write_effect
  write-long ready beyond = rw (some-none _ ready, lt-ltb transfer_limit size beyond) refl

  pub write-faulty : is_some (open_for_writing t fds fd) ≡ true → size ≤ transfer_limit → can_read space at size ≡ false
      → write_effect t fds space fd at size ≡ fails Fault
  unfolding write_effect
  write-faulty ready within cannot = by (bytes_for prot_read space at size) refl cannot
    where
      by : (r : Result (List ℕ) BadByte) → bytes_for prot_read space at size ≡ r → is_ok r ≡ false
          → write_effect t fds space fd at size ≡ fails Fault
      by (Ok bytes) is e = absurd (cc)
      by (Err bad) is e = rw (some-none _ ready, le-ltb transfer_limit size within, is) refl

  -- what a write makes of what the files answer
  pub write-made : (bytes : List ℕ) → is_some (open_for_writing t fds fd) ≡ true → size ≤ transfer_limit
      → bytes_for prot_read space at size ≡ Ok bytes
      → write_effect t fds space fd at size ≡ file_effect (write_fd t fds fd bytes)
  unfolding write_effect
  write-made bytes ready within is = rw (some-none _ ready, le-ltb transfer_limit size within, is) refl

  -- which writes would not sleep
  pub write_over-made : (w : Bool) → is_some (open_for_writing t fds fd) ≡ true → size ≤ transfer_limit
      → can_read space at size ≡ true
      → ((bytes : List ℕ) → length bytes ≡ size → w ≡ waits (write_fd t fds fd bytes).answer)
      → not w ≡ is_over (write_effect t fds space fd at size)
  write_over-made w ready within can is = by (bytes_for prot_read space at size) refl can
    where
      by : (r : Result (List ℕ) BadByte) → bytes_for prot_read space at size ≡ r → is_ok r ≡ true
          → not w ≡ is_over (write_effect t fds space fd at size)
      by (Ok bytes) read e =
          ap not (is bytes (length-bytes_for prot_read space at size bytes read))
          ∙ sym (over-file (write_fd t fds fd bytes) (write_fd t fds fd bytes).answer refl)
          ∙ ap is_over (sym (write-made bytes ready within read))
      by (Err bad) read e = absurd (cc)

pub ruleset writes_over = (over-fails, write_over-made)

-- ---- a read that is made

-- as many bytes as came
pub count-within : (r : Result (List ℕ) FileNo) (count : ℕ) (old new : List ℕ) → Ok count ≡ count_of r
    → new ≡ filled old r → length new ≡ length old → count ≤ length old
count-within (Ok bytes) count old new is filled_so same =
    let long : count ≡ length bytes = cc in
    let parts : length (bytes ++ drop (length bytes) old) ≡ length bytes + length (drop (length bytes) old) =
    length-append bytes (drop (length bytes) old) in
    let all : length new ≡ length (bytes ++ drop (length bytes) old) = ap (λ (xs : List ℕ). length xs) filled_so in
    omega arith
count-within (Err why) count old new is filled_so same = absurd (cc)

-- what stands at the front of the buffer
front : (r : Result (List ℕ) FileNo) (count : ℕ) (old new bytes : List ℕ) → Ok count ≡ count_of r → new ≡ filled old r
    → r ≡ Ok bytes → take count new ≡ bytes
front (Ok read) count old new bytes is filled_so same =
    let this : read ≡ bytes = cc in
    let long : length read ≡ count = cc in
    rw filled_so (take_at read (drop (length read) old) count long ∙ this)
front (Err why) count old new bytes is filled_so same = absurd (cc)

-- fewer bytes can be accessed where more can
parts-ok : (b : Result ℕ BadByte) (r : Result (List ℕ) BadByte) → is_ok (one_more b r) ≡ true
    → (is_ok b ≡ true) × (is_ok r ≡ true)
parts-ok (Err bad) r e = absurd (cc)
parts-ok (Ok byte) (Err bad) e = absurd (cc)
parts-ok (Ok byte) (Ok bytes) e = (refl, refl)

both-ok : (b : Result ℕ BadByte) (r : Result (List ℕ) BadByte) → is_ok b ≡ true → is_ok r ≡ true
    → is_ok (one_more b r) ≡ true
both-ok (Err bad) r eb er = absurd (cc)
both-ok (Ok byte) (Err bad) eb er = absurd (cc)
both-ok (Ok byte) (Ok bytes) eb er = refl

ok-less : (need : ℕ) (space : Space) (at size n : ℕ) → n ≤ size → is_ok (bytes_for need space at size) ≡ true
    → is_ok (bytes_for need space at n) ≡ true
unfolding bytes_for
ok-less need space at size zero within all = refl
ok-less need space at zero (suc n) within all = absurd (omega arith)
ok-less need space at (suc size) (suc n) within all =
    let parts = parts-ok (byte_for need space at) (bytes_for need space ((at + 1) % 2 ^ 64) size) all in
    both-ok (byte_for need space at) (bytes_for need space ((at + 1) % 2 ^ 64) n) parts.0
    (ok-less need space ((at + 1) % 2 ^ 64) size n (omega arith) parts.1)

pub can_write-less : (space : Space) (at size n : ℕ) → n ≤ size → can_write space at size ≡ true
    → can_write space at n ≡ true
can_write-less space at size n within can = ok-less prot_write space at size n within can

-- so much of the buffer can be stored
pub can_write-front : (space : Space) (at : ℕ) (r : Result (List ℕ) FileNo) (count : ℕ) (old new : List ℕ)
    → can_write space at (length old) ≡ true → Ok count ≡ count_of r → new ≡ filled old r → length new ≡ length old
    → can_write space at (length (take count new)) ≡ true
can_write-front space at r count old new can is filled_so same =
    can_write-less space at (length old) (length (take count new))
    (let within = count-within r count old new is filled_so same in let taken = length-take count new in
    omega arith) can

module _ (t : FileTable) (fds : Descriptors) (space : Space) (fd at size : ℕ) where
  -- what stands in the buffer is stored
  pub fill-gave : (count : ℕ) (f : FileTable) (new : Space) (old read : List ℕ)
      → is_some (open_for_reading t fds fd) ≡ true → size ≤ transfer_limit → can_write space at size ≡ true
      → f ≡ (read_fd t fds fd size).files → Ok count ≡ count_of (read_fd t fds fd size).bytes
      → read ≡ filled old (read_fd t fds fd size).bytes → new ≡ with_bytes at (take count read) space
      → gives count (files_are f fds ∷ space_is new ∷ []) ≡ read_effect t fds space fd at size
  fill-gave count f new old read ready within can files answer buffer wrote = by (read_fd t fds fd size).bytes refl
    where
      by : (r : Result (List ℕ) FileNo) → (read_fd t fds fd size).bytes ≡ r
          → gives count (files_are f fds ∷ space_is new ∷ []) ≡ read_effect t fds space fd at size
      by (Ok bytes) is =
          let long : count ≡ length bytes = (let same = answer ∙ ap count_of is in cc) in
          let same : take count read ≡ bytes =
          front (read_fd t fds fd size).bytes count old read bytes answer buffer is in
          rw (files, long, wrote, same) (sym (read-made t fds space fd at size (Ok bytes) ready within can is))
      by (Err why) is = absurd (let wrong = answer ∙ ap count_of is in cc)

  pub fill-refused : (why : FileNo) → is_some (open_for_reading t fds fd) ≡ true → size ≤ transfer_limit
      → can_write space at size ≡ true → Err why ≡ count_of (read_fd t fds fd size).bytes
      → refusal_effect why ≡ read_effect t fds space fd at size
  fill-refused why ready within can answer = by (read_fd t fds fd size).bytes refl
    where
      by : (r : Result (List ℕ) FileNo) → (read_fd t fds fd size).bytes ≡ r
          → refusal_effect why ≡ read_effect t fds space fd at size
      by (Ok bytes) is = absurd (let wrong = answer ∙ ap count_of is in cc)
      by (Err other) is =
          let same : why ≡ other = (let e = answer ∙ ap count_of is in cc) in
          rw same (sym (read-made t fds space fd at size (Err other) ready within can is))

  -- memory may run out where bytes are stored; the files do not say so
  pub fill-lacks : (count : ℕ) → 0 < count → is_some (open_for_reading t fds fd) ≡ true → size ≤ transfer_limit
      → can_write space at size ≡ true → Ok count ≡ count_of (read_fd t fds fd size).bytes
      → gives_bytes (read_effect t fds space fd at size) ≡ true
  fill-lacks count some ready within can answer = by (read_fd t fds fd size).bytes refl
    where
      by : (r : Result (List ℕ) FileNo) → (read_fd t fds fd size).bytes ≡ r
          → gives_bytes (read_effect t fds space fd at size) ≡ true
      by (Ok bytes) is =
          let long : count ≡ length bytes = (let same = answer ∙ ap count_of is in cc) in
          ap gives_bytes (read-made t fds space fd at size (Ok bytes) ready within can is)
          ∙ lt-ltb 0 (length bytes) (omega (arith, some, long))
      by (Err why) is = absurd (let wrong = answer ∙ ap count_of is in cc)

  pub fill-refused-lacks : (why : FileNo) → Err why ≡ count_of (read_fd t fds fd size).bytes
      → lacks_memory (Err (Files why)) ≡ true → gives_bytes (read_effect t fds space fd at size) ≡ true
  fill-refused-lacks why answer lacks = by (read_fd t fds fd size).bytes refl
    where
      by : (r : Result (List ℕ) FileNo) → (read_fd t fds fd size).bytes ≡ r
          → gives_bytes (read_effect t fds space fd at size) ≡ true
      by (Ok bytes) is = absurd (let wrong = answer ∙ ap count_of is in cc)
      by (Err other) is =
          let same : why ≡ other = (let e = answer ∙ ap count_of is in cc) in
          let told : lacks_memory (Err (Files other)) ≡ false = (rw is at (read-keeps t fds fd size)).1 in
          let lacking : lacks_memory (Err (Files other)) ≡ true = rw same at lacks in
          absurd (cc)

  pub fill-files : (why : FileNo) (f : FileTable) → f ≡ (read_fd t fds fd size).files
      → Err why ≡ count_of (read_fd t fds fd size).bytes → f ≡ t
  fill-files why f files answer = by (read_fd t fds fd size).bytes refl
    where
      by : (r : Result (List ℕ) FileNo) → (read_fd t fds fd size).bytes ≡ r → f ≡ t
      by (Ok bytes) is = absurd (let wrong = answer ∙ ap count_of is in cc)
      by (Err other) is = files ∙ (rw is at (read-keeps t fds fd size)).0

-- a second read of as many bytes gives as many
pub read-again : (t : FileTable) (fds : Descriptors) (fd size again count : ℕ) (why : FileNo)
    → Ok count ≡ count_of (read_fd t fds fd size).bytes → Err why ≡ count_of (read_fd t fds fd again).bytes
    → again ≡ size → ⊥
read-again t fds fd size again count why first second same =
    let wrong : Err why ≡ Ok count = second ∙ ap (λ n. count_of (read_fd t fds fd n).bytes) same ∙ sym first in
    absurd (cc)

pub ruleset filling = (fill-refused, fill-lacks, fill-refused-lacks)

pub ruleset reading = (read-closed, read-long, read-faulty)

-- ---- a write that is made

module _ (t : FileTable) (fds : Descriptors) (f : FileTable) (e : FileEffect ℕ) where
  pub put-done : (count : ℕ) → record { files = f; fds = fds; answer = Ok count } ≡ unless_no_memory t fds (Ok count) e
      → gives count (files_are f fds ∷ []) ≡ file_effect e
  unfolding file_effect
  put-done count is = rw (sym is) refl

  pub put-refused : (why : FileNo) → lacks_memory (Err (Files why)) ≡ false
      → record { files = f; fds = fds; answer = Err why } ≡ unless_no_memory t fds (Err why) e
      → refusal_effect why ≡ file_effect e
  unfolding file_effect
  put-refused why some is = rw (sym (unless-refused t fds f fds e why some is)) refl

pub put-files : (t : FileTable) (fds : Descriptors) (f : FileTable) (fd : ℕ) (bytes : List ℕ) (why : FileNo)
    → record { files = f; fds = fds; answer = Err why } ≡ unless_no_memory t fds (Err why) (write_fd t fds fd bytes)
    → f ≡ t
put-files t fds f fd bytes why is =
    unless-files t fds f fds (write_fd t fds fd bytes) why (written-keeps t fds fd bytes) is

cannot-read : (r : Result (List ℕ) BadByte) (fault : MemFault) → Err fault ≡ access_answer r → is_ok r ≡ false
cannot-read (Ok bytes) fault is = absurd (cc)
cannot-read (Err bad) fault is = refl

pub write-unread : (t : FileTable) (fds : Descriptors) (space : Space) (fd at size : ℕ) (fault : MemFault)
    → is_some (open_for_writing t fds fd) ≡ true → size ≤ transfer_limit
    → Err fault ≡ access_answer (bytes_for prot_read space at size) → fails Fault ≡ write_effect t fds space fd at size
write-unread t fds space fd at size fault ready within is =
    sym (write-faulty t fds space fd at size ready within (cannot-read (bytes_for prot_read space at size) fault is))

pub ruleset writing = (write-closed, write-long, write-faulty)
