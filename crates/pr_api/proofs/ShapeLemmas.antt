use Rattle.std.proofs.Common.{◌≡◌, ◌||◌, ◌&&◌, ◌==◌, ◌+◌, ◌-◌, ◌/◌, ◌<◌, ◌≤◌, ◌%◌, ◌^◌, ℕ, zero, suc, Bool, true, false, not, Option, Some, None, List, [], ◌∷◌, Result, Ok, Err, IfSome, IfOk, cond, eqb, ltb, length, drop, nat_le, nat_lt, refl, sym, ap, ◌∙◌, subst, arith}
use Rattle.std.specs.List.{All, find, list_all, list_any, slice_range}
use Rattle.std.specs.Option.{option_map}
use Rattle.std.proofs.lemmas.Bool.{eq-eqb, eqb-false, le-leb, leb-true}
use Rattle.std.proofs.lemmas.List.{length-take}
use Rattle.std.proofs.lemmas.List.Elements.{All-head, All-tail}
use Rattle.std.proofs.lemmas.Option.{same_Some}
use Rattle.pr_num.proofs.ByIdLemmas.{rises_from-head, rises_from-tail}
use Rattle.pr_num.specs.ById.{rises_from}
use Rattle.pr_num.specs.Limits.{controller_limit, handle_limit, message_bytes_limit, read_limit, list_limit}
use Rattle.pr_num.specs.Messages.{bad_operand, encoded_length, first_message, in_columns, message_read, nth_word, unless_bad, unpadded_length, with_tail, ◌>>=◌}
use Rattle.pr_num.specs.Programs.{Program}
use Rattle.pr_num.specs.Sets.{with_number}
use Rattle.pr_num.specs.Spaces.{Space, byte_for}
use Rattle.pr_num.specs.declared.errnos.Errno.{Errno}
use Rattle.pr_num.specs.declared.errnos.Errno.TheVariants.{Inval, Intr}
use Rattle.pr_num.specs.declared.mappings.BadByte.{BadByte}
use Rattle.pr_num.specs.declared.messages.Message.{Message}
use Rattle.pr_num.specs.declared.messages.Message.TheVariants as message
use Rattle.pr_num.specs.declared.messages.MsgFault.{MsgFault}
use Rattle.pr_num.specs.declared.messages.MsgFault.TheVariants.{Short, BadOperand}
use Rattle.pr_rec.proofs.EntryLemmas.{length-entries}
use Rattle.pr_rec.specs.RecordBytes.{list_bytes}
use Rattle.pr_rec.specs.RecordWords.{list_entry_words_of}
use Rattle.pr_rec.specs.declared.entries.ListEntry.{ListEntry}
use Rattle.pr_model.specs.Calls.{Answer, answer_to, answered, close_answer, close_held, controlled, interrupt_answer, is_interrupted, is_open_by, is_polled_ready, kill_answer as call_kill_answer, open_answer, open_unless, opened, poll_answer, ready_answer, refused as call_refused, sent_reply, spawn_answer, spawn_found, spawn_unless, until_answer, waited}
use Rattle.pr_model.specs.ControlMessages.{aim_of, control_answer, control_handle, decoded_answer, decoded_wait, held_answer, held_wait, system_refusal, tail_of, target_of, targeted_answer, targeted_wait, wait_over, wait_reply, waiting_reply, waits}
use Rattle.pr_model.specs.Handles.{handle_of}
use Rattle.pr_model.specs.Lawful.{IsLawfulSystem, IsNumberedBelow}
use Rattle.pr_model.specs.Messages.{Controlled, refused, Aim, message_answer}
use Rattle.pr_model.specs.Readers.{space_seen}
use Rattle.pr_model.specs.Records.{list_entries, list_entry_of, list_of}
use Rattle.pr_model.specs.SignalCalls.{Sending, refuses as refuses_signal, sends_nothing, sends}
use Rattle.pr_model.specs.Reads.{file_read, file_reply, held_read, mapped_from, of_lwp, of_process, part, part_read, read_process, read_reply, readable, unless_none}
use Rattle.pr_model.specs.State.{TracedLwp, TracedProcess, TracedState, TracedSystem, lwp_of}
use Rattle.pr_model.specs.declared.calls.Call as calls
use Rattle.pr_model.specs.declared.calls.Call.TheVariants as call
use Rattle.pr_model.specs.declared.calls.File.{File}
use Rattle.pr_model.specs.declared.calls.File.TheVariants as file
use Rattle.pr_model.specs.declared.calls.Mode.{Mode}
use Rattle.pr_model.specs.declared.calls.Reply.{Reply}
use Rattle.pr_model.specs.declared.calls.Reply.TheVariants.{Bytes, Done, Fail, Used}
use Rattle.pr_model.specs.declared.handles.Held.{Held}
use Rattle.pr_parts.proofs.ByteLemmas.{length-bytes_for}
use Rattle.pr_keeps.proofs.MessageLemmas.{message-answered}
use Rattle.pr_keeps.specs.MessageAnswers as answer
use Rattle.pr_keeps.specs.MessageAnswers.{MessageAnswer}
use Rattle.pr_api.specs.Shapes.{answers_message, has_shape, is_at_most, is_done, is_failure, is_used}
use Rattle.pr_num.proofs.BoolLemmas.{either}

-- What the machine answers to a call has the shape of a reply to it.

-- ---- what is read of memory and of messages

read-within : (at size : ℕ) → bad_operand (message.Read at size) ≡ None → size ≤ message_bytes_limit
unfolding bad_operand
read-within at size columns = of (nat_le 1 size) (nat_le size message_bytes_limit) refl columns
  where
    of : (least most : Bool) → nat_le size message_bytes_limit ≡ most
        → (let o : Option ℕ = cond (least && most) None (Some 2) in o) ≡ None → size ≤ message_bytes_limit
    of true true is e = leb-true size message_bytes_limit is
    of true false is e = absurd (cc)
    of false most is e = absurd (cc)

in_columns-good : (m k : Message) → in_columns m ≡ Ok k → bad_operand k ≡ None
unfolding in_columns
in_columns-good m k e = of (bad_operand m) refl e
  where
    of : (o : Option ℕ) → bad_operand m ≡ o → unless_bad m o ≡ Ok k → bad_operand k ≡ None
    of None is e = let same : m ≡ k = cc in ap bad_operand (sym same) ∙ is
    of (Some word) is e = absurd (cc)

abbrev Read : Type 0
Read = Result (Message × ℕ) MsgFault

-- the message that stands before its tail is the one that was read
tail-columns : (bytes : List ℕ) (m : Message) → bad_operand m ≡ None
    → IfOk (with_tail bytes m) (λ first. bad_operand first.0 ≡ None)
unfolding with_tail
tail-columns bytes m columns =
    of (nat_lt (length bytes) (encoded_length m))
    (list_all (λ b. b == 0) (slice_range bytes (unpadded_length m) (encoded_length m))) (encoded_length m / 8 - 1)
  where
    of : (short zeros : Bool) (word : ℕ)
        → IfOk (let r : Read =
        cond short (Err Short) (cond zeros (let ok : Read = Ok (m, encoded_length m) in ok) (Err (BadOperand word))) in
        r) (λ first. bad_operand first.0 ≡ None)
    of true zeros word = tt
    of false true word = columns
    of false false word = tt

then-columns : (bytes : List ℕ) (r : Result Message MsgFault)
    → IfOk ((r >>= in_columns) >>= with_tail bytes) (λ first. bad_operand first.0 ≡ None)
then-columns bytes (Err fault) = tt
then-columns bytes (Ok m) = of (in_columns m) refl
  where
    of : (r : Result Message MsgFault) → in_columns m ≡ r
        → IfOk (r >>= with_tail bytes) (λ first. bad_operand first.0 ≡ None)
    of (Err fault) is = tt
    of (Ok k) is = tail-columns bytes k (in_columns-good m k is)

-- the operands of the message with which bytes begin lie in their columns
first-columns : (bytes : List ℕ) → IfOk (first_message bytes) (λ first. bad_operand first.0 ≡ None)
unfolding first_message
first-columns bytes = of (nat_lt (length bytes) 8)
  where
    of : (short : Bool)
        → IfOk (let r : Read =
        cond short (Err Short) ((message_read (nth_word bytes 0) bytes >>= in_columns) >>= with_tail bytes) in r)
        (λ first. bad_operand first.0 ≡ None)
    of true = tt
    of false = then-columns bytes (message_read (nth_word bytes 0) bytes)

or-true : (a b : Bool) → b ≡ true → (a || b) ≡ true
or-true true b e = refl
or-true false b e = e

-- what is found in a list stands there
found-among : (p : ℕ → Bool) (xs : List ℕ) (x : ℕ) → find p xs ≡ Some x → list_any (λ y. y == x) xs ≡ true
found-among p [] x e = absurd (cc)
found-among p (y ∷ xs) x e = of (p y) e (found-among p xs x)
  where
    of : (b : Bool) → cond b (Some y) (find p xs) ≡ Some x → (find p xs ≡ Some x → list_any (λ y. y == x) xs ≡ true)
        → list_any (λ y. y == x) (y ∷ xs) ≡ true
    of true here more = rw (eq-eqb y x (same_Some y x here)) refl
    of false rest more = or-true (eqb y x) (list_any (λ y. y == x) xs) (more rest)

-- ---- control messages

-- an answer to a message is one that a message may have
record Answers (c : Controlled) : Type 0 where
  shape : (answers_message c.reply || is_failure c.reply) ≡ true

refuses : (s : TracedSystem) (e : Errno) → Answers (refused s e)
refuses s e = record { shape = refl }

module _ (s : TracedSystem) (pid : ℕ) (p : TracedProcess) (tail : List ℕ) (len : ℕ) where
  made-answers : (m : Message) (c : Controlled) → bad_operand m ≡ None → MessageAnswer s pid p tail len m c → Answers c
  made-answers m c columns (answer.refuses {e = e} with_errno) = refuses s e
  made-answers m c columns (answer.uses_up used e) = record { shape = refl }
  made-answers m c columns (answer.goes_on waiting e) = record { shape = refl }
  made-answers m c columns (answer.reads {at = at} {size = size} {bytes = bytes} mapped) =
      let within = read-within at size columns in
      let all = length-bytes_for 0 (space_seen s p) at size bytes mapped in
      record { shape = ap (λ b. b || false) (le-leb (length bytes) message_bytes_limit (omega arith)) }

  -- every message
  message-answers : (aim : Aim) (m : Message) → bad_operand m ≡ None → Answers (message_answer s pid p aim m tail len)
  message-answers aim m columns =
      made-answers m (message_answer s pid p aim m tail len) columns (message-answered s pid p tail len aim m)

decoded-answers : (s : TracedSystem) (h : Held) (p : TracedProcess) (bytes : List ℕ)
    (read : Result (Message × ℕ) MsgFault) → IfOk read (λ first. bad_operand first.0 ≡ None)
    → Answers (decoded_answer s h p bytes read)
decoded-answers s h p bytes (Err fault) columns = refuses s _
decoded-answers s h p bytes (Ok (m, n)) columns =
    either Answers (eqb h.pid 0) (refused s (system_refusal m))
    (message_answer s h.pid p (aim_of h) m (tail_of m bytes) n) (refuses s _)
    (message-answers s h.pid p (tail_of m bytes) n (aim_of h) m columns)

targeted-answers : (s : TracedSystem) (h : Held) (p : Option TracedProcess) (bytes : List ℕ)
    → Answers (targeted_answer s h p bytes)
targeted-answers s h None bytes = refuses s _
targeted-answers s h (Some p) bytes = decoded-answers s h p bytes (first_message bytes) (first-columns bytes)

held-answers : (s : TracedSystem) (o : Option Held) (bytes : List ℕ) → Answers (held_answer s o bytes)
held-answers s None bytes = refuses s _
held-answers s (Some h) bytes = targeted-answers s h (target_of s h) bytes

-- ---- waits

Ends : Option Reply → Type 0
Ends o = IfSome o (λ (r : Reply). (is_used r || is_failure r) ≡ true)

ends : (r : Reply) → (is_used r || is_failure r) ≡ true → Ends (Some r)
unfolding Ends
ends r h = h

goes_on : Ends None
unfolding Ends
goes_on = tt

waiting-ends : (s : TracedSystem) (h : Held) (p : TracedProcess) (until : ℕ) (interrupted : Bool) (n : ℕ)
    → Ends (waiting_reply s h p until interrupted n)
waiting-ends s h p until interrupted n =
    let told : Option Reply = cond (wait_over s h p until) (Some (Used n)) None in
    let seen : Option Reply = cond interrupted (Some (Fail Intr)) told in
    either Ends (eqb h.pid 0) _ seen (ends _ refl)
    (either Ends interrupted _ told (ends _ refl) (either Ends (wait_over s h p until) _ _ (ends _ refl) goes_on))

decoded-ends : (s : TracedSystem) (h : Held) (p : TracedProcess) (until : ℕ) (interrupted : Bool)
    (read : Result (Message × ℕ) MsgFault) → Ends (decoded_wait s h p until interrupted read)
decoded-ends s h p until interrupted (Err fault) = ends _ refl
decoded-ends s h p until interrupted (Ok (m, n)) =
    either Ends (waits m) _ _ (waiting-ends s h p until interrupted n) (ends _ refl)

targeted-ends : (s : TracedSystem) (h : Held) (p : Option TracedProcess) (until : ℕ) (interrupted : Bool)
    (bytes : List ℕ) → Ends (targeted_wait s h p until interrupted bytes)
targeted-ends s h None until interrupted bytes = ends _ refl
targeted-ends s h (Some p) until interrupted bytes = decoded-ends s h p until interrupted (first_message bytes)

held-ends : (s : TracedSystem) (h : Option Held) (until : ℕ) (interrupted : Bool) (bytes : List ℕ)
    → Ends (held_wait s h until interrupted bytes)
held-ends s None until interrupted bytes = ends _ refl
held-ends s (Some h) until interrupted bytes = targeted-ends s h (target_of s h) until interrupted bytes

-- ---- reads

-- what a read of so many bytes may get
record Reads (len : ℕ) (r : Reply) : Type 0 where
  shape : (is_at_most len r || is_failure r) ≡ true

fails-reads : (len : ℕ) (e : Errno) → Reads len (Fail e)
fails-reads len e = record { shape = refl }

bytes-reads : (len : ℕ) (bytes : List ℕ) → length bytes ≤ len → Reads len (Bytes bytes)
bytes-reads len bytes within = record { shape = ap (λ b. b || false) (le-leb _ _ within) }

part-reads : (bytes : List ℕ) (from len : ℕ) → Reads len (part from len bytes)
unfolding part_read
part-reads bytes from len = bytes-reads len _ (omega (arith, length-take len (drop from bytes)))

mapped-within : (space : Space) (at len : ℕ) → length (mapped_from space at len) ≤ len
unfolding mapped_from
mapped-within space at zero = omega arith
mapped-within space at (suc n) = of (byte_for 0 space at) refl (mapped-within space ((at + 1) % 2 ^ 64) n)
  where
    of : (r : Result ℕ BadByte) → byte_for 0 space at ≡ r → length (mapped_from space ((at + 1) % 2 ^ 64) n) ≤ n
        → length (mapped_from space at (suc n)) ≤ suc n
    of (Err bad) is rest = rw is (omega arith)
    of (Ok byte) is rest = rw is (omega (arith, rest))

memory-reads : (len : ℕ) (bytes : List ℕ) → length bytes ≤ len → Reads len (unless_none bytes)
memory-reads len [] within = fails-reads len _
memory-reads len (b ∷ bytes) within = bytes-reads len (b ∷ bytes) within

lwp-reads : (p : TracedProcess) (id from len : ℕ) (o : Option TracedLwp) → Reads len (of_lwp p id from len o)
lwp-reads p id from len None = fails-reads len _
lwp-reads p id from len (Some l) = part-reads _ from len

file-reads : (s : TracedSystem) (pid : ℕ) (p : TracedProcess) (id from len : ℕ) (f : File)
    → Reads len (file_reply s pid p id from len f)
unfolding file_reply
file-reads s pid p id from len file.Ctl = fails-reads len _
file-reads s pid p id from len file.Lwpctl = fails-reads len _
file-reads s pid p id from len file.Mem = memory-reads len _ (mapped-within (space_seen s p) from len)
file-reads s pid p id from len file.Lwpstatus = lwp-reads p id from len (lwp_of p id)
file-reads s pid p id from len file.Status = part-reads _ from len
file-reads s pid p id from len file.Lstatus = part-reads _ from len
file-reads s pid p id from len file.Psinfo = part-reads _ from len
file-reads s pid p id from len file.Map = part-reads _ from len
file-reads s pid p id from len file.Usage = part-reads _ from len
file-reads s pid p id from len file.Sigact = part-reads _ from len
file-reads s pid p id from len file.Watch = part-reads _ from len
file-reads s pid p id from len file.Fds = part-reads _ from len

process-reads : (s : TracedSystem) (pid id from len : ℕ) (f : File) (o : Option TracedProcess)
    → Reads len (of_process s pid id from len f o)
process-reads s pid id from len f None = fails-reads len _
process-reads s pid id from len f (Some p) = file-reads s pid p id from len f

held-reads : (s : TracedSystem) (o : Option Held) (from len : ℕ) → Reads len (held_read s o from len)
unfolding file_read
held-reads s None from len = fails-reads len _
held-reads s (Some h) from len =
    either (Reads len) (eqb len 0 || ltb read_limit len) (Fail Inval)
    (of_process s h.pid h.lwp from len h.file (read_process s h.pid h.file)) (fails-reads len _)
    (process-reads s h.pid h.lwp from len h.file (read_process s h.pid h.file))

-- ---- the list of processes

-- beyond process 0 there are no more entries than ids that were given out
few-from : (made low : ℕ) (es : List (ℕ × TracedProcess)) → 1 ≤ low → rises_from low es ≡ true
    → All (IsNumberedBelow made) es → length (list_entries es) ≤ made - low
few-from made low [] past rises all = omega arith
few-from made low (e ∷ es) past rises all =
    let below = (All-head (IsNumberedBelow made) e es all).id in
    let first = rises_from-head low e es rises in
    let rest =
    few-from made (e.0 + 1) es (omega arith) (rises_from-tail low e es rises)
    (All-tail (IsNumberedBelow made) e es all) in
    either (λ (entries : List ListEntry). length entries ≤ made - low) (eqb e.0 0) (list_entries es)
    (list_entry_of e.0 e.1 ∷ list_entries es) (omega arith) (omega arith)

few-listed : (made : ℕ) (es : List (ℕ × TracedProcess)) → rises_from 0 es ≡ true → All (IsNumberedBelow made) es
    → length (list_entries es) ≤ made - 1
few-listed made [] rises all = omega arith
few-listed made (e ∷ es) rises all = of (eqb e.0 0) refl
  where
    below : e.0 < made
    below = (All-head (IsNumberedBelow made) e es all).id

    rest : length (list_entries es) ≤ made - (e.0 + 1)
    rest = few-from made (e.0 + 1) es (omega arith) (rises_from-tail 0 e es rises)
        (All-tail (IsNumberedBelow made) e es all)

    of : (b : Bool) → eqb e.0 0 ≡ b
        → length
        (let entries : List ListEntry = cond b (list_entries es) (list_entry_of e.0 e.1 ∷ list_entries es) in entries)
        ≤ made - 1
    of true zeroth = omega (arith, rest)
    of false other = let above = eqb-false e.0 0 other in omega (arith, rest, below, above)

list-within : (s : TracedSystem) → IsLawfulSystem s → length (list_bytes (list_of s)) ≤ list_limit
unfolding list_bytes list_of
list-within s h =
    let bytes = length-entries list_entry_words_of 6 (λ _. refl) (list_entries s.processes) in
    let few = few-listed s.made s.processes h.rising h.numbered in
    let made = h.made in
    omega (arith, bytes, few, made)

-- ---- every call

HaveShape : calls.Call → Option Answer → Type 0
HaveShape c o = IfSome o (λ (a : Answer). has_shape c a.reply ≡ true)

module _ (s : TracedState) (by : ℕ) where
  shaped : (c : calls.Call) (a : Answer) → has_shape c a.reply ≡ true → HaveShape c (Some a)
  unfolding HaveShape
  shaped c a h = h

  -- a call that is not ready
  no_answer : (c : calls.Call) → HaveShape c None
  unfolding HaveShape
  no_answer c = tt

  opened-shaped : (pid id : ℕ) (f : File) (mode : Mode) (h : Held) (place : Option ℕ)
      → HaveShape (call.Open pid id f mode) (Some (opened s h place))
  unfolding has_shape
  opened-shaped pid id f mode h None = shaped _ _ refl
  opened-shaped pid id f mode h (Some place) = shaped _ _ refl

  unless-shaped : (pid id : ℕ) (f : File) (mode : Mode) (h : Held) (refusal : Option Errno)
      → HaveShape (call.Open pid id f mode) (Some (open_unless s h refusal))
  unfolding has_shape
  unless-shaped pid id f mode h (Some e) = shaped _ _ refl
  unless-shaped pid id f mode h None = opened-shaped pid id f mode h _

  open-shaped : (pid id : ℕ) (f : File) (mode : Mode)
      → HaveShape (call.Open pid id f mode) (Some (open_answer s by pid id f mode))
  unfolding open_answer
  open-shaped pid id f mode = unless-shaped pid id f mode _ _

  close-shaped : (handle : ℕ) (h : Option Held) → HaveShape (call.Close handle) (Some (close_held s handle h))
  unfolding has_shape
  close-shaped handle None = shaped _ _ refl
  close-shaped handle (Some h) = shaped _ _ refl

  control-shaped : (handle : ℕ) (bytes : List ℕ)
      → HaveShape (call.Ctl handle bytes) (Some (controlled s (control_answer s.system s.opens by handle bytes)))
  unfolding has_shape control_answer
  control-shaped handle bytes =
      shaped _ _ (held-answers s.system (control_handle (handle_of s.opens by handle)) bytes).shape

  wait-shaped : (handle until : ℕ) (bytes : List ℕ) (o : Option Reply) → Ends o
      → HaveShape (call.CtlWait handle until bytes) (option_map (waited s by) o)
  unfolding Ends has_shape
  wait-shaped handle until bytes None h = no_answer _
  wait-shaped handle until bytes (Some (Fail Intr)) h = shaped _ _ refl
  wait-shaped handle until bytes (Some r) h = shaped _ _ h

  read-shaped : (handle from len : ℕ)
      → HaveShape (call.Read handle from len) (Some (answered s (read_reply s by handle from len)))
  unfolding has_shape read_reply
  read-shaped handle from len = shaped _ _ (held-reads s.system (readable (handle_of s.opens by handle)) from len).shape

  ready-shaped : (handles : List ℕ) (o : Option ℕ) → find (is_polled_ready s by) handles ≡ o
      → HaveShape (call.Poll handles) (ready_answer s o)
  unfolding has_shape
  ready-shaped handles None is = no_answer _
  ready-shaped handles (Some handle) is =
      shaped _ _ (ap (λ b. b || false) (found-among (is_polled_ready s by) handles handle is))

  poll-shaped : (handles : List ℕ) → HaveShape (call.Poll handles) (poll_answer s by handles)
  unfolding has_shape poll_answer
  poll-shaped handles =
      let P = HaveShape (call.Poll handles) in
      either P (not (list_all (is_open_by s.opens by) handles)) _ _ (shaped _ _ refl)
      (either P (eqb (length handles) 0 || nat_lt handle_limit (length handles)) _ _ (shaped _ _ refl)
      (either P (is_interrupted s by) _ _ (shaped _ _ refl)
      (ready-shaped handles (find (is_polled_ready s by) handles) refl)))

  until-shaped : (moment : ℕ) → HaveShape (call.Until moment) (until_answer s by moment)
  unfolding has_shape until_answer
  until-shaped moment =
      let P = HaveShape (call.Until moment) in
      either P (is_interrupted s by) _ _ (shaped _ _ refl)
      (either P (nat_le moment s.system.clock) _ _ (shaped _ _ refl) (no_answer _))

  interrupt-shaped : (controller : ℕ) → HaveShape (call.Interrupt controller) (Some (interrupt_answer s controller))
  unfolding has_shape interrupt_answer
  interrupt-shaped controller =
      shaped _ _
      (either (λ (a : Answer). (is_done a.reply || is_failure a.reply) ≡ true) (nat_lt controller controller_limit)
      (record { state = record s { interrupted = with_number s.interrupted (controller + 1) }; reply = Done })
      (call_refused s Inval) refl refl)

  sent-shape : (sending : Sending) → (is_done (sent_reply sending) || is_failure (sent_reply sending)) ≡ true
  sent-shape (refuses_signal e) = refl
  sent-shape sends_nothing = refl
  sent-shape (sends g) = refl

  kill-shaped : (pid number : ℕ) → HaveShape (call.Kill pid number) (Some (call_kill_answer s pid number))
  unfolding has_shape call_kill_answer
  kill-shaped pid number = shaped _ _ (sent-shape _)

  spawn_unless-shaped : (name : List ℕ) (held : Bool) (program : Program) (refusal : Option Errno)
      → HaveShape (call.Spawn name held) (Some (spawn_unless s program held refusal))
  unfolding has_shape
  spawn_unless-shaped name held program None = shaped _ _ refl
  spawn_unless-shaped name held program (Some e) = shaped _ _ refl

  spawn_found-shaped : (name : List ℕ) (held : Bool) (o : Option Program)
      → HaveShape (call.Spawn name held) (Some (spawn_found s held o))
  unfolding has_shape
  spawn_found-shaped name held None = shaped _ _ refl
  spawn_found-shaped name held (Some program) = spawn_unless-shaped name held program _

  spawn-shaped : (name : List ℕ) (held : Bool) → HaveShape (call.Spawn name held) (Some (spawn_answer s name held))
  unfolding spawn_answer
  spawn-shaped name held = spawn_found-shaped name held _

  list-shaped : IsLawfulSystem s.system
      → HaveShape call.List (Some (answered s (Bytes (list_bytes (list_of s.system)))))
  unfolding has_shape
  list-shaped h = shaped _ _ (le-leb _ _ (list-within s.system h))

  answer-shaped : IsLawfulSystem s.system → (c : calls.Call) → HaveShape c (answer_to s by c)
  unfolding answer_to close_answer wait_reply
  answer-shaped h (call.Open pid id f mode) = open-shaped pid id f mode
  answer-shaped h (call.Close handle) = close-shaped handle (handle_of s.opens by handle)
  answer-shaped h (call.Ctl handle bytes) = control-shaped handle bytes
  answer-shaped h (call.CtlWait handle until bytes) =
      wait-shaped handle until bytes _
      (held-ends s.system (control_handle (handle_of s.opens by handle)) until (is_interrupted s by) bytes)
  answer-shaped h (call.Read handle from len) = read-shaped handle from len
  answer-shaped h (call.Poll handles) = poll-shaped handles
  answer-shaped h (call.Interrupt controller) = interrupt-shaped controller
  answer-shaped h (call.Spawn name held) = spawn-shaped name held
  answer-shaped h (call.Kill pid number) = kill-shaped pid number
  answer-shaped h (call.Until moment) = until-shaped moment
  answer-shaped h call.List = list-shaped h

pub machine-shaped : (s : TracedState) (by : ℕ) (c : calls.Call) (a : Answer) → IsLawfulSystem s.system
    → answer_to s by c ≡ Some a → has_shape c a.reply ≡ true
unfolding HaveShape
machine-shaped s by c a h is = let P : Option Answer → Type 0 =
    λ o. IfSome o (λ (x : Answer). has_shape c x.reply ≡ true) in subst P is (answer-shaped s by h c)

pub ruleset shapes = (machine-shaped)
