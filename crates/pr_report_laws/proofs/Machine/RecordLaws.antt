use Rattle.std.proofs.Common.{◌≡◌, ◌≢◌, ◌==◌, ◌*◌, ◌^◌, ◌<◌, ◌≤◌, ◌+◌, ◌⊎◌, ℕ, suc, Bool, true, false, cond, None, Some, Ok, Option, List, [], ◌∷◌, ◌++◌, length, drop, map, min, All, refl, sym, ap, ◌∙◌, arith, inl, inr, ltb, le-ltb}
use Rattle.std.specs.List.{filter}
use Rattle.std.specs.Option.{option_and_then, unwrap_or}
use Rattle.std.proofs.lemmas.Bool.{eqb-false, ne_eqb}
use Rattle.std.proofs.lemmas.List.{append-nil, drop_at, length-append, length-map, take_all, take_at}
use Rattle.std.proofs.lemmas.List.Elements.{All-head, All-tail}
use Rattle.std.proofs.lemmas.Option.{none-some, same_Some}
use Rattle.pr_codec.proofs.WordLemmas.{length-word_bytes, length-words_bytes, word_of-word_bytes}
use Rattle.pr_codec.specs.Words.{word_at}
use Rattle.pr_line.specs.TextRanges.{text_range}
use Rattle.pr_line.specs.declared.events.Event.{Event}
use Rattle.pr_line.specs.declared.events.Event.TheVariants as event
use Rattle.pr_line.specs.declared.options.Options.{Options}
use Rattle.pr_model.specs.Calls.{Answer, answer_to, answered}
use Rattle.pr_model.specs.Handles.{handle_of, is_control, outlives}
use Rattle.pr_model.specs.Readers.{space_seen}
use Rattle.pr_model.specs.Reads.{file_read, file_reply, held_read, mapped_from, of_process, part_read, read_process, read_reply, readable, unless_none}
use Rattle.pr_model.specs.Records.{lstatus_of, statuses_of_lwps}
use Rattle.pr_model.specs.Replies.{bytes_in}
use Rattle.pr_model.specs.ShownBytes.{buffer_range, range_from}
use Rattle.pr_model.specs.State.{TracedLwp, TracedProcess, TracedState, TracedSystem, live_process}
use Rattle.pr_model.specs.Statuses.{lwpstatus_of, status_of, status_of_found}
use Rattle.pr_model.specs.Stops.{representative}
use Rattle.pr_model.specs.declared.calls.Call.TheVariants as call
use Rattle.pr_model.specs.declared.calls.File.{File}
use Rattle.pr_model.specs.declared.calls.File.TheVariants as file
use Rattle.pr_model.specs.declared.handles.Held.{Held}
use Rattle.pr_num.specs.Limits.{asked_limit, lwp_limit, read_limit}
use Rattle.pr_num.specs.Records.{Range, entries_words, lwpstatus_ranges, lwpstatus_size, status_ranges}
use Rattle.pr_num.specs.Syscalls.{syscall_args}
use Rattle.pr_num.specs.Words.{IsWord, word_bytes, word_of, words_bytes}
use Rattle.pr_num.specs.declared.errnos.Errno.TheVariants.{Io}
use Rattle.pr_num.specs.declared.syscalls.ArgKind.{ArgKind}
use Rattle.pr_num.specs.declared.syscalls.ArgKind.TheVariants.{Buf, Dec, Hex, Text}
use Rattle.pr_rec.proofs.EntryLemmas.{length-entries}
use Rattle.pr_rec.proofs.LwpStatusLemmas.{lwpstatus-ranged, lwpstatus_take}
use Rattle.pr_rec.proofs.ReadLemmas.{front_words-words_bytes, record_read-whole, words_bytes-append}
use Rattle.pr_rec.proofs.RecordLemmas.{AreRanged, AreWords-ranged, TakeWords, first_out-ranged}
use Rattle.pr_rec.proofs.StatusLemmas.{status-ranged, status_take}
use Rattle.pr_rec.specs.Fields.{front_words}
use Rattle.pr_rec.specs.InRange.{IsLwpStatus, IsStatus}
use Rattle.pr_rec.specs.Reading.{record_read}
use Rattle.pr_rec.specs.RecordBytes.{lstatus_bytes, status_bytes}
use Rattle.pr_rec.specs.RecordWords.{lwpstatus_words_of, status_words_of}
use Rattle.pr_rec.specs.declared.lwps.LwpStatus.{LwpStatus}
use Rattle.pr_rec.specs.declared.statuses.Status.{Status}
use Rattle.pr_truss.proofs.RecordLemmas.{lwp_found, status_found}
use Rattle.pr_truss.specs.NextCalls.{read_record}
use Rattle.pr_truss.specs.Records.{event_stops, is_on_event, lstatus_lwps, lwp_in, lwps_in, status_lwp}
use Rattle.pr_truss.specs.Replies.{answer_of}
use Rattle.pr_truss.specs.Stops.{asked_range}
use Rattle.pr_truss.specs.declared.replies.Answer.TheVariants.{Accepted, Gone, Interrupted, Refused}

-- What truss reads of a process is how the process stands.

-- ---- records are read back from their bytes

-- words in their ranges, whatever follows their bytes
record-back : (ranges : List Range) (words more : List ℕ) → TakeWords ranges → length words ≡ length ranges
    → AreRanged ranges words → record_read ranges (words_bytes words ++ more) ≡ Ok words
record-back ranges words more takes size ranged =
    let fit : All IsWord words = AreWords-ranged ranges words takes ranged size in
    let front = front_words-words_bytes words more fit in
    let enough : 8 * length ranges ≤ length (words_bytes words ++ more) =
    omega (arith, length-append (words_bytes words) more, length-words_bytes words) in
    record_read-whole ranges (words_bytes words ++ more) words None enough
    (sym (ap (λ (n : ℕ). front_words n (words_bytes words ++ more)) (sym size)
    ∙ front)) (sym (first_out-ranged ranges words 0 ranged))

-- the representative's status, of the bytes of a process's
pub status-back : (st : Status) → IsStatus st → status_lwp (status_bytes st) ≡ Some st.lwp
unfolding status_bytes
status-back st is =
    let words = status_words_of st in
    status_found (words_bytes words) st is.lwp.sizes
    (ap (record_read status_ranges) (sym (append-nil (words_bytes words)))
    ∙ record-back status_ranges words [] status_take refl (status-ranged st is))

abbrev rows : List LwpStatus → List ℕ
rows lwps = entries_words (map lwpstatus_words_of lwps)

lwps-back : (lwps : List LwpStatus) → All IsLwpStatus lwps → lwps_in (length lwps) (words_bytes (rows lwps)) ≡ Some lwps
unfolding lwps_in
lwps-back [] all = refl
lwps-back (l ∷ lwps) all =
    let is : IsLwpStatus l = All-head IsLwpStatus l lwps all in
    let words = lwpstatus_words_of l in
    let rest = words_bytes (rows lwps) in
    let apart : words_bytes (words ++ rows lwps) ≡ words_bytes words ++ rest = words_bytes-append words (rows lwps) in
    let first : lwp_in (words_bytes (words ++ rows lwps)) ≡ Some l =
    lwp_found (words_bytes (words ++ rows lwps)) l is.sizes (ap (record_read lwpstatus_ranges) apart
    ∙ record-back lwpstatus_ranges words rest lwpstatus_take refl (lwpstatus-ranged l is)) in
    let others : drop lwpstatus_size (words_bytes (words ++ rows lwps)) ≡ rest =
    ap (drop lwpstatus_size) apart ∙ drop_at (words_bytes words) rest lwpstatus_size (length-words_bytes words) in
    rw (first, others, lwps-back lwps (All-tail IsLwpStatus l lwps all)) refl

module _ (lwps : List LwpStatus) where
  lstatus-length : length (lstatus_bytes lwps) ≡ 8 + lwpstatus_size * length lwps
  unfolding lstatus_bytes
  lstatus-length =
      let all : length (words_bytes (rows lwps)) ≡ lwpstatus_size * length lwps =
      length-entries lwpstatus_words_of 33 (λ _. refl) lwps in
      let front = length-words_bytes (length (map lwpstatus_words_of lwps) ∷ rows lwps) in
      let rest = length-words_bytes (rows lwps) in
      omega arith

  lstatus-number : length lwps ≤ lwp_limit → word_at (lstatus_bytes lwps) 0 ≡ length lwps
  unfolding lstatus_bytes
  lstatus-number few =
      let n : ℕ = length (map lwpstatus_words_of lwps) in
      let same : n ≡ length lwps = length-map lwps lwpstatus_words_of in
      let small : n < 2 ^ 64 = omega arith in
      ap word_of (take_at (word_bytes n) (words_bytes (rows lwps)) 8 (length-word_bytes n))
      ∙ word_of-word_bytes n small ∙ same

  behind-number : drop 8 (lstatus_bytes lwps) ≡ words_bytes (rows lwps)
  unfolding lstatus_bytes
  behind-number =
      let n : ℕ = length (map lwpstatus_words_of lwps) in
      drop_at (word_bytes n) (words_bytes (rows lwps)) 8 (length-word_bytes n)

  -- the statuses of the lwps, of the bytes of their record
  pub lstatus-back : length lwps ≤ lwp_limit → All IsLwpStatus lwps → lstatus_lwps (lstatus_bytes lwps) ≡ Some lwps
  unfolding lstatus_lwps
  lstatus-back few all =
      let size = lstatus-length in
      let long : ltb (length (lstatus_bytes lwps)) 8 ≡ false = le-ltb (length (lstatus_bytes lwps)) 8 (omega arith) in
      let number = lstatus-number few in
      let behind = behind-number in
      rw (long, number, behind) (lwps-back lwps all)

length-statuses : (p : TracedProcess) (es : List (ℕ × TracedLwp)) → length (statuses_of_lwps p es) ≡ length es
length-statuses p [] = refl
length-statuses p (e ∷ es) = ap suc (length-statuses p es)

length-lstatus : (p : TracedProcess) → length (lstatus_of p) ≡ length p.lwps
unfolding lstatus_of
length-lstatus p = length-statuses p p.lwps

-- ---- what the machine answers to a read

pub read-is : (s : TracedState) (k m from len : ℕ) (a : Answer) → answer_to s k (call.Read m from len) ≡ Some a
    → a ≡ answered s (read_reply s k m from len)
unfolding answer_to
read-is s k m from len a is = sym (same_Some _ _ is)

pub held-is : (s : TracedState) (k m from len : ℕ) (h : Held) (f : File) → handle_of s.opens k m ≡ Some h → h.file ≡ f
    → is_control f ≡ false → read_reply s k m from len ≡ file_read s.system h.pid h.lwp from len f
unfolding read_reply
held-is s k m from len h f opened same plain =
    ap (λ o. held_read s.system (readable o) from len) opened ∙ rw (same, plain) refl

file-is : (s : TracedSystem) (pid id from len : ℕ) (f : File) → 1 ≤ len → len ≤ read_limit
    → file_read s pid id from len f ≡ of_process s pid id from len f (read_process s pid f)
unfolding file_read
file-is s pid id from len f least most =
    let some : (len == 0) ≡ false = ne_eqb len 0 (λ is. absurd (omega arith)) in
    let few : ltb read_limit len ≡ false = le-ltb read_limit len most in
    rw (some, few) refl

pub lives-by : (s : TracedSystem) (pid : ℕ) (f : File) → outlives f ≡ false → read_process s pid f ≡ live_process s pid
unfolding read_process
lives-by s pid f ends = rw ends refl

-- a record of at most so many bytes is read whole
read-whole : (len : ℕ) (bytes : List ℕ) → length bytes ≤ len → part_read bytes 0 len ≡ bytes
unfolding part_read
read-whole len bytes few = take_all len bytes few

-- ---- what truss is told

-- the process has ended: nothing has changed
pub record SeesEnd (s : TracedState) (a : Answer) : Type 0 where
  pub state : a.state ≡ s
  pub gone : answer_of a.reply ≡ Gone

-- the representative's status, the very same record
pub record SeesStatus (s : TracedState) (pid : ℕ) (p : TracedProcess) (a : Answer) : Type 0 where
  pub state : a.state ≡ s
  pub accepted : answer_of a.reply ≡ Accepted
  pub lwp : option_and_then status_lwp (bytes_in a.reply) ≡ Some (status_of s.system pid p).lwp

-- the lwps that stand on events, by their statuses
pub record SeesLwps (s : TracedState) (p : TracedProcess) (a : Answer) : Type 0 where
  pub state : a.state ≡ s
  pub accepted : answer_of a.reply ≡ Accepted
  pub stops : event_stops (bytes_in a.reply) ≡ filter is_on_event (lstatus_of p)

-- bytes of memory, or that its first byte is not mapped
pub record SeesMemory (s : TracedState) (a : Answer) : Type 0 where
  pub state : a.state ≡ s
  pub known : (answer_of a.reply ≡ Accepted) ⊎ (answer_of a.reply ≡ Refused Io)
  pub not_gone : answer_of a.reply ≢ Gone
  pub not_interrupted : answer_of a.reply ≢ Interrupted

-- the status of a process tells that of its representative
pub representative-told : (s : TracedSystem) (pid : ℕ) (p : TracedProcess) (e : ℕ × TracedLwp)
    → representative p ≡ Some e → (status_of s pid p).lwp ≡ lwpstatus_of p e.0 e.1
unfolding status_of
representative-told s pid p e is = ap (status_of_found p) is

module _ (s : TracedState) (k m : ℕ) (h : Held) (opened : handle_of s.opens k m ≡ Some h) (a : Answer) where
  -- what a read of a file that ends with its process gives, within the limits of a read
  read-answer : (from len : ℕ) (f : File) (o : Option TracedProcess) → h.file ≡ f → is_control f ≡ false
      → outlives f ≡ false → 1 ≤ len → len ≤ read_limit
      → live_process s.system h.pid ≡ o → answer_to s k (call.Read m from len) ≡ Some a
      → a ≡ answered s (of_process s.system h.pid h.lwp from len f o)
  read-answer from len f o same plain ends least most is answers =
      read-is s k m from len a answers
      ∙ ap (answered s)
      (held-is s k m from len h f opened same plain ∙ file-is s.system h.pid h.lwp from len f least most
      ∙ ap (of_process s.system h.pid h.lwp from len f) (lives-by s.system h.pid f ends ∙ is))

  -- ---- where the process has ended

  ended-read : (from len : ℕ) (f : File) → h.file ≡ f → is_control f ≡ false → outlives f ≡ false → 1 ≤ len
      → len ≤ read_limit
      → live_process s.system h.pid ≡ None → answer_to s k (call.Read m from len) ≡ Some a → SeesEnd s a
  unfolding answer_of
  ended-read from len f same plain ends least most ended answers =
      let is = read-answer from len f None same plain ends least most ended answers in
      record { state = ap (λ (x : Answer). x.state) is; gone = ap (λ (x : Answer). answer_of x.reply) is }

  pub status-ended : h.file ≡ file.Status → live_process s.system h.pid ≡ None
      → answer_to s k (read_record (Some m)) ≡ Some a → SeesEnd s a
  status-ended same ended answers =
      ended-read 0 read_limit file.Status same refl refl (omega arith) (omega arith) ended answers

  pub lstatus-ended : h.file ≡ file.Lstatus → live_process s.system h.pid ≡ None
      → answer_to s k (read_record (Some m)) ≡ Some a → SeesEnd s a
  lstatus-ended same ended answers =
      ended-read 0 read_limit file.Lstatus same refl refl (omega arith) (omega arith) ended answers

  pub memory-ended : (from len : ℕ) → h.file ≡ file.Mem → 1 ≤ len → len ≤ read_limit
      → live_process s.system h.pid ≡ None → answer_to s k (call.Read m from len) ≡ Some a → SeesEnd s a
  memory-ended from len same least most ended answers =
      ended-read from len file.Mem same refl refl least most ended answers

  -- ---- where it lives

  module _ (p : TracedProcess) (live : live_process s.system h.pid ≡ Some p) where
    pub status-read : h.file ≡ file.Status → IsStatus (status_of s.system h.pid p)
        → answer_to s k (read_record (Some m)) ≡ Some a → SeesStatus s h.pid p a
    unfolding file_reply answer_of bytes_in status_bytes
    status-read same fit answers =
        let st : Status = status_of s.system h.pid p in
        let is =
        read-answer 0 read_limit file.Status (Some p) same refl refl (omega arith) (omega arith) live answers in
        let size : length (status_bytes st) ≡ 368 = length-words_bytes (status_words_of st) in
        let whole : part_read (status_bytes st) 0 read_limit ≡ status_bytes st =
        read-whole read_limit (status_bytes st) (omega arith) in
        record {
          state = ap (λ (x : Answer). x.state) is;
          accepted = ap (λ (x : Answer). answer_of x.reply) is;
          lwp =
              ap (λ (x : Answer). option_and_then status_lwp (bytes_in x.reply)) is ∙ ap status_lwp whole
              ∙ status-back st fit;
        }

    pub lstatus-read : h.file ≡ file.Lstatus → All IsLwpStatus (lstatus_of p) → length p.lwps ≤ lwp_limit
        → answer_to s k (read_record (Some m)) ≡ Some a → SeesLwps s p a
    unfolding file_reply answer_of bytes_in event_stops
    lstatus-read same fit few answers =
        let lwps : List LwpStatus = lstatus_of p in
        let is =
        read-answer 0 read_limit file.Lstatus (Some p) same refl refl (omega arith) (omega arith) live answers in
        let many : length lwps ≤ lwp_limit = omega (arith, length-lstatus p) in
        let whole : part_read (lstatus_bytes lwps) 0 read_limit ≡ lstatus_bytes lwps =
        read-whole read_limit (lstatus_bytes lwps) (omega (arith, lstatus-length lwps)) in
        record {
          state = ap (λ (x : Answer). x.state) is;
          accepted = ap (λ (x : Answer). answer_of x.reply) is;
          stops =
              ap (λ (x : Answer). event_stops (bytes_in x.reply)) is
              ∙ ap (λ bytes. filter is_on_event (unwrap_or (lstatus_lwps bytes) [])) whole
              ∙ ap (λ o. filter is_on_event (unwrap_or o [])) (lstatus-back lwps many fit);
        }

    pub memory-read : (from len : ℕ) → h.file ≡ file.Mem → 1 ≤ len → len ≤ read_limit
        → answer_to s k (call.Read m from len) ≡ Some a → SeesMemory s a
    unfolding file_reply answer_of
    memory-read from len same least most answers =
        let is = read-answer from len file.Mem (Some p) same refl refl least most live answers in
        by (mapped_from (space_seen s.system p) from len) (ap (λ (x : Answer). x.state) is)
        (ap (λ (x : Answer). answer_of x.reply) is)
      where
        by : (bytes : List ℕ) → a.state ≡ s → answer_of a.reply ≡ answer_of (unless_none bytes) → SeesMemory s a
        by [] state is = record { state = state; known = inr is; not_gone = λ gone. cc; not_interrupted = λ intr. cc }
        by (b ∷ bytes) state is = record {
          state = state;
          known = inl is;
          not_gone = λ gone. cc;
          not_interrupted = λ intr. cc;
        }

-- ---- how much memory truss asks for

-- an address, and at least one byte and at most as many as a line shows
abbrev pub IsAsked : ℕ × ℕ → Type 0
IsAsked range = (1 ≤ range.1) × (range.1 ≤ asked_limit)

buffer-asked : (address : ℕ) (size : Option ℕ) (range : ℕ × ℕ) → buffer_range address size ≡ Some range → IsAsked range
buffer-asked address None range is = absurd (none-some range is)
buffer-asked address (Some size) range is = by (size == 0) refl is
  where
    by : (b : Bool) → (size == 0) ≡ b → cond b None (Some (address, min size asked_limit)) ≡ Some range → IsAsked range
    by true none is = absurd (none-some range is)
    by false some is =
        let differs = eqb-false size 0 some in
        let same : min size asked_limit ≡ range.1 = ap (λ (r : ℕ × ℕ). r.1) (same_Some _ _ is) in
        (omega arith, omega arith)

asked-from : (arguments : List ℕ) (size : Option ℕ) (kinds : List ArgKind) (place : ℕ) (range : ℕ × ℕ)
    → range_from arguments size kinds place ≡ Some range → IsAsked range
unfolding range_from
asked-from arguments size [] place range is = absurd (none-some range is)
asked-from arguments size (Dec ∷ kinds) place range is = asked-from arguments size kinds (place + 1) range is
asked-from arguments size (Hex ∷ kinds) place range is = asked-from arguments size kinds (place + 1) range is
asked-from arguments size (Text ∷ kinds) place range is =
    let same : asked_limit ≡ range.1 = ap (λ (r : ℕ × ℕ). r.1) (same_Some _ _ is) in
    (omega arith, omega arith)
asked-from arguments size (Buf ∷ kinds) place range is = buffer-asked _ size range is

pub text-asked : (e : Event) (range : ℕ × ℕ) → text_range e ≡ Some range → IsAsked range
unfolding text_range
text-asked (event.Entered c args) range is = absurd (none-some range is)
text-asked (event.Left c args result) range is = asked-from args _ (syscall_args c) 0 range is
text-asked (event.Received g d info) range is = absurd (none-some range is)
text-asked (event.Incurred f pc) range is = absurd (none-some range is)

pub range-asked : (o : Options) (e : Event) (range : ℕ × ℕ) → asked_range o e ≡ Some range → IsAsked range
unfolding asked_range
range-asked o e range is = by o.count is
  where
    by : (b : Bool) → cond b None (text_range e) ≡ Some range → IsAsked range
    by true is = absurd (none-some range is)
    by false is = text-asked e range is
