use Rattle.std.proofs.Common.{◌≡◌, ◌≢◌, ◌+◌, ◌^◌, ◌<◌, ◌≤◌, ◌++◌, ◌∷◌, ℕ, Bool, true, false, cond, is_ok, is_some, nat_lt, List, [], Option, Some, None, Result, Ok, Err, length, replicate, take, refl, sym, subst, ap, ◌∙◌, arith}
use Rattle.std.proofs.lemmas.Bool.{le-ltb}
use Rattle.std.proofs.lemmas.List.{append-nil, length-append, take_all}
use Rattle.pr_codec.proofs.WordLemmas.{length-words_bytes}
use Rattle.pr_parts.proofs.WriteLemmas.{bytes_for-with_bytes}
use Rattle.pr_parts.specs.Accesses.{checked}
use Rattle.pr_keeps.proofs.LoanLemmas.{own-space}
use Rattle.pr_model.specs.Calls.{Answer, answer_to, controlled}
use Rattle.pr_model.specs.Changes.{with_space}
use Rattle.pr_model.specs.ControlMessages.{tail_of, targeted_answer}
use Rattle.pr_model.specs.Handles.{handle_of}
use Rattle.pr_model.specs.Messages.{at_process, message_answer, read_answer, read_of, refused, with_process_changed, write_answer}
use Rattle.pr_model.specs.Readers.{has_lent, space_seen}
use Rattle.pr_model.specs.State.{TracedProcess, TracedState, TracedSystem, live_process}
use Rattle.pr_model.specs.declared.calls.Call.TheVariants as call
use Rattle.pr_model.specs.declared.calls.File.TheVariants.{Ctl}
use Rattle.pr_model.specs.declared.calls.Mode.TheVariants as mode
use Rattle.pr_model.specs.declared.calls.Reply.TheVariants as reply
use Rattle.pr_model.specs.declared.handles.Held.{Held}
use Rattle.pr_num.specs.Layout.{stack_base, text_base}
use Rattle.pr_num.specs.Messages.{first_message, message_code, message_read, nth_word, operand_count, operands, padding, spelling, tail_length, two_words, unpadded_length, ◌>>=◌}
use Rattle.pr_num.specs.Spaces.{Space, bytes_for}
use Rattle.pr_num.specs.Words.{word_bytes, word_of, words_bytes}
use Rattle.pr_num.specs.declared.errnos.Errno.{Errno}
use Rattle.pr_num.specs.declared.errnos.Errno.TheVariants.{Busy, Io, Noent}
use Rattle.pr_num.specs.declared.mappings.BadByte.{BadByte}
use Rattle.pr_num.specs.declared.messages.Message.{Message}
use Rattle.pr_num.specs.declared.messages.Message.TheVariants as message
use Rattle.pr_num.specs.declared.messages.MsgFault.{MsgFault}
use Rattle.pr_parts.proofs.ByteLemmas.{length-bytes_for}
use Rattle.pr_parts.specs.AddressSpaces.{with_bytes}
use Rattle.pr_probe.specs.AgentCode.{code_size, stack_size}
use Rattle.pr_truss_laws.proofs.Files.OpensLemmas.{held_by}
use Rattle.pr_truss_laws.proofs.Machine.StillLemmas.{live-changed}
use Rattle.pr_truss_laws.proofs.Machine.TakenLemmas.{ReadsAs, ctl-is, read-as, taken-unless}
use Rattle.pr_probe_laws.specs.PutBack.{StandAt}

-- What PCREAD gives of the memory of a process, and what PCWRITE leaves there, where they are not refused.

-- the control file of a process, open for writing
abbrev pub writer_of : ℕ → ℕ → Held
writer_of k pid = held_by k pid 0 Ctl mode.Write

-- ---- the messages

abbrev pub read_bytes : ℕ → ℕ → List ℕ
read_bytes at size = spelling (message.Read at size) []

abbrev pub write_bytes : ℕ → List ℕ → List ℕ
write_bytes at bytes = spelling (message.Write at (length bytes)) bytes

pub code-reads : ReadsAs (message.Read text_base code_size) (first_message (read_bytes text_base code_size))
unfolding message_code operands nth_word word_bytes word_of message_read two_words
code-reads = read-as (read_bytes text_base code_size) (message.Read text_base code_size) refl refl

pub stack-reads : ReadsAs (message.Read stack_base stack_size) (first_message (read_bytes stack_base stack_size))
unfolding message_code operands nth_word word_bytes word_of message_read two_words
stack-reads = read-as (read_bytes stack_base stack_size) (message.Read stack_base stack_size) refl refl

-- a message that writes so many bytes, which stand after its operands
pub record IsWriteOf (at : ℕ) (bytes : List ℕ) : Type 0 where
  pub reads : ReadsAs (message.Write at (length bytes)) (first_message (write_bytes at bytes))
  pub tail : tail_of (message.Write at (length bytes)) (write_bytes at bytes) ≡ bytes

-- three words are 24 bytes at least
pub words-long : (n a b c : ℕ) (rest : List ℕ) → n ≤ 24
    → nat_lt (length (words_bytes (a ∷ b ∷ c ∷ []) ++ rest)) n ≡ false
words-long n a b c rest few =
    let whole = length-append (words_bytes (a ∷ b ∷ c ∷ [])) rest in
    let words = length-words_bytes (a ∷ b ∷ c ∷ []) in
    le-ltb (length (words_bytes (a ∷ b ∷ c ∷ []) ++ rest)) n (omega arith)

-- how a message is read that writes
two-read : (bytes : List ℕ) → nat_lt (length bytes) 24 ≡ false
    → two_words bytes ≡ Ok (nth_word bytes 1, nth_word bytes 2)
unfolding two_words
two-read bytes long = rw long refl

pub write-read : (bytes : List ℕ) (at size : ℕ) → nat_lt (length bytes) 24 ≡ false → nth_word bytes 1 ≡ at
    → nth_word bytes 2 ≡ size → message_read 23 bytes ≡ Ok (message.Write at size)
unfolding message_read
write-read bytes at size long first second =
    let does : ℕ × ℕ → Result Message MsgFault = λ w. Ok (message.Write w.0 w.1) in
    ap (λ (r : Result (ℕ × ℕ) MsgFault). r >>= does) (two-read bytes long)
    ∙ ap (λ (a : ℕ). does (a, nth_word bytes 2)) first ∙ ap (λ (b : ℕ). does (at, b)) second

-- a list with nothing behind it, as far as it reaches
all-taken : (size : ℕ) (bytes : List ℕ) → length bytes ≡ size → take size (bytes ++ []) ≡ bytes
all-taken size bytes long =
    ap (take size) (append-nil bytes) ∙ take_all size bytes (omega (arith, long))

-- the bytes of a message that writes so many bytes
abbrev pub written_as : ℕ → ℕ → List ℕ → List ℕ
written_as at n bytes =
    words_bytes (message_code (message.Write at n) ∷ operands (message.Write at n)) ++ bytes ++ replicate (padding n) 0

-- they are such where they are for their length
sized-write : (at n : ℕ) (bytes : List ℕ) → length bytes ≡ n
    → ReadsAs (message.Write at n) (first_message (written_as at n bytes))
    → tail_of (message.Write at n) (written_as at n bytes) ≡ bytes → IsWriteOf at bytes
sized-write at n bytes long reads tail = record {
  reads =
      subst (λ (m : ℕ). ReadsAs (message.Write at m) (first_message (written_as at m bytes))) (sym long) reads;
  tail = subst (λ (m : ℕ). tail_of (message.Write at m) (written_as at m bytes) ≡ bytes) (sym long) tail;
}

-- the bytes as they are where the length is that of whole words
abbrev pub unpadded : ℕ → ℕ → List ℕ → List ℕ
unpadded at n bytes = words_bytes (23 ∷ at ∷ n ∷ []) ++ bytes ++ []

pub code-written : (bytes : List ℕ) → length bytes ≡ code_size → IsWriteOf text_base bytes
unfolding message_code operands nth_word word_bytes word_of unpadded_length operand_count tail_length
code-written bytes size =
    let all : List ℕ = unpadded text_base code_size bytes in
    let long : nat_lt (length all) 24 ≡ false = words-long 24 23 text_base code_size (bytes ++ []) (omega arith) in
    let some : nat_lt (length all) 8 ≡ false = words-long 8 23 text_base code_size (bytes ++ []) (omega arith) in
    sized-write text_base code_size bytes size
    (read-as all (message.Write text_base code_size) some (write-read all text_base code_size long refl refl))
    (all-taken code_size bytes size)

pub stack-written : (bytes : List ℕ) → length bytes ≡ stack_size → IsWriteOf stack_base bytes
unfolding message_code operands nth_word word_bytes word_of unpadded_length operand_count tail_length
stack-written bytes size =
    let all : List ℕ = unpadded stack_base stack_size bytes in
    let long : nat_lt (length all) 24 ≡ false = words-long 24 23 stack_base stack_size (bytes ++ []) (omega arith) in
    let some : nat_lt (length all) 8 ≡ false = words-long 8 23 stack_base stack_size (bytes ++ []) (omega arith) in
    sized-write stack_base stack_size bytes size
    (read-as all (message.Write stack_base stack_size) some (write-read all stack_base stack_size long refl refl))
    (all-taken stack_size bytes size)

module _ (s : TracedState) (k c pid : ℕ) (a : Answer) (stands : handle_of s.opens k c ≡ Some (writer_of k pid))
    (granted : (e : Errno) → a.reply ≢ reply.Fail e) where
  -- a message is refused where the process is gone
  pub gone : (bytes : List ℕ) → answer_to s k (call.Ctl c bytes) ≡ Some a → live_process s.system pid ≡ None → ⊥
  gone bytes given none =
      granted Noent
      (ap (λ (x : Answer). x.reply) (ctl-is s k c (writer_of k pid) stands refl bytes a given)
      ∙ ap (λ (o : Option TracedProcess). (targeted_answer s.system (writer_of k pid) o bytes).reply) none)

  -- ---- PCREAD

  -- these bytes were given, and stood there
  pub record HasGiven (at size : ℕ) : Type 0 where
    pub bytes : List ℕ
    pub reply : a.reply ≡ reply.Bytes bytes
    pub size_is : length bytes ≡ size
    pub stood : StandAt pid at bytes s.system

  module _ (at size : ℕ) (reads : ReadsAs (message.Read at size) (first_message (read_bytes at size)))
      (given : answer_to s k (call.Ctl c (read_bytes at size)) ≡ Some a) where
    of-bytes : (p : TracedProcess) → live_process s.system pid ≡ Some p → (r : Result (List ℕ) BadByte)
        → bytes_for 0 (space_seen s.system p) at size ≡ r → a.reply ≡ (read_of s.system pid p r).reply
        → HasGiven at size
    of-bytes p live (Err bad) is gives = absurd (granted Io gives)
    of-bytes p live (Ok bytes) is gives =
        let long = length-bytes_for 0 (space_seen s.system p) at size bytes is in
        record {
          bytes = bytes;
          reply = gives;
          size_is = long;
          stood = record {
            process = p;
            lives = live;
            there = ap (bytes_for 0 (space_seen s.system p) at) long ∙ is;
          };
        }

    pub read-given : HasGiven at size
    unfolding message_answer read_answer
    read-given = by (live_process s.system pid) refl
      where
        by : (o : Option TracedProcess) → live_process s.system pid ≡ o → HasGiven at size
        by None none = absurd (gone (read_bytes at size) given none)
        by (Some p) live =
            let taken =
            taken-unless s k c (writer_of k pid) stands refl p live (read_bytes at size) (message.Read at size) a
            reads given granted in
            of-bytes p live (bytes_for 0 (space_seen s.system p) at size) refl
            (ap (λ (x : Answer). x.reply) taken.is)

  -- ---- PCWRITE

  module _ (at : ℕ) (bytes : List ℕ) (end : at + length bytes < 2 ^ 64) (writes : IsWriteOf at bytes)
      (given : answer_to s k (call.Ctl c (write_bytes at bytes)) ≡ Some a) where
    no-borrower : (o : Option ℕ) → is_some o ≡ false → o ≡ None
    no-borrower None none = refl
    no-borrower (Some b) none = cc

    can : (r : Result (List ℕ) BadByte) → is_ok r ≡ true → checked r ≡ Ok tt
    can (Ok found) ok = refl
    can (Err bad) ok = absurd (cc)

    abbrev later_of : TracedProcess → TracedProcess
    later_of p = with_space (with_bytes at bytes p.space) p

    -- they stand there in memory that the process has to itself
    stand-there : (t : TracedSystem) (p : TracedProcess) → live_process t pid ≡ Some (later_of p)
        → has_lent p ≡ false → is_ok (bytes_for 0 p.space at (length bytes)) ≡ true → StandAt pid at bytes t
    unfolding with_space
    stand-there t p live own mapped = record {
      process = later_of p;
      lives = live;
      there =
          ap (λ (m : Space). bytes_for 0 m at (length bytes)) (own-space t (later_of p) (no-borrower p.borrower own))
          ∙ bytes_for-with_bytes p.space at bytes 0 end (can (bytes_for 0 p.space at (length bytes)) mapped);
    }

    of-room : (p : TracedProcess) → live_process s.system pid ≡ Some p → has_lent p ≡ false → (len : ℕ) (b : Bool)
        → is_ok (bytes_for 0 p.space at (length bytes)) ≡ b
        → a ≡ controlled s
        (cond b (with_process_changed s.system pid p len (with_space (with_bytes at bytes p.space)))
        (refused s.system Io))
        → StandAt pid at bytes a.state.system
    unfolding with_space
    of-room p live own len false mapped is = absurd (granted Io (ap (λ (x : Answer). x.reply) is))
    of-room p live own len true mapped is =
        stand-there a.state.system p
        (ap (λ (x : Answer). live_process x.state.system pid) is
        ∙ live-changed s.system pid (with_space (with_bytes at bytes p.space)) p live refl) own mapped

    of-lent : (p : TracedProcess) → live_process s.system pid ≡ Some p → (len : ℕ) (b : Bool) → has_lent p ≡ b
        → a ≡ controlled s (cond b (refused s.system Busy) (write_answer s.system pid p at bytes len))
        → StandAt pid at bytes a.state.system
    unfolding write_answer
    of-lent p live len true lent is = absurd (granted Busy (ap (λ (x : Answer). x.reply) is))
    of-lent p live len false own is =
        of-room p live own len (is_ok (bytes_for 0 p.space at (length bytes))) refl is

    pub written-stands : StandAt pid at bytes a.state.system
    unfolding message_answer
    written-stands = by (live_process s.system pid) refl
      where
        by : (o : Option TracedProcess) → live_process s.system pid ≡ o → StandAt pid at bytes a.state.system
        by None none = absurd (gone (write_bytes at bytes) given none)
        by (Some p) live =
            let m : Message = message.Write at (length bytes) in
            let taken =
            taken-unless s k c (writer_of k pid) stands refl p live (write_bytes at bytes) m a writes.reads given
            granted in
            of-lent p live taken.len (has_lent p) refl
            (taken.is
            ∙ ap (λ (tail : List ℕ). controlled s (message_answer s.system pid p at_process m tail taken.len))
            writes.tail)
