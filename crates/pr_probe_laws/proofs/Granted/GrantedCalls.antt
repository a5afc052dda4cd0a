use Rattle.std.proofs.Common.{◌≡◌, ◌≢◌, ◌==◌, ◌⊎◌, ◌+◌, ◌<◌, ◌&&◌, ◌||◌, ◌∷◌, ◌++◌, ℕ, suc, Bool, true, false, cond, not, List, [], Option, Some, None, Result, Ok, is_ok, is_some, length, nat_lt, is_none, slice_get, slice_range, refl, sym, subst, ap, ◌∙◌, inl, inr, arith}
use Rattle.std.proofs.lemmas.Bool.{cases_Bool, eqb-true, false≢true, le-ltb}
use Rattle.std.proofs.lemmas.List.{append-nil, length-append}
use Rattle.std.proofs.lemmas.List.Elements.{All-from_recursion, All-nil}
use Rattle.std.proofs.lemmas.Option.{none-some, same_Some}
use Rattle.std.specs.List.{All, find, list_all, list_any, position, slice_set}
use Rattle.pr_codec.proofs.MessageLemmas.{spelt_is_read}
use Rattle.pr_codec.proofs.WordLemmas.{length-words_bytes}
use Rattle.pr_lawful.proofs.LawfulTurns.EndLemmas.{found-live}
use Rattle.pr_lawful.proofs.ProcessParts.HandleLemmas.{any-swap, count-some, count-swap}
use Rattle.pr_model.specs.Calls.{Answer, answer_to, controlled, interrupted_answer, is_interrupted, is_polled_ready, open_answer, open_unless, opened, poll_answer, ready_answer, refused as denied}
use Rattle.pr_model.specs.ControlMessages.{control_answer, control_handle, decoded_answer, held_answer, still_there, system_refusal, tail_of, target_of, targeted_answer}
use Rattle.pr_model.specs.Changes.{with_space}
use Rattle.pr_model.specs.FirstState.{system_process}
use Rattle.pr_model.specs.Handles.{conflicts, fits_file, handle_of, has_exclusive_writer, has_file, is_exclusive, is_exclusive_writer, is_writable, is_writer, open_refusal}
use Rattle.pr_model.specs.Lawful.{AreExclusive, IsLawfulSystem}
use Rattle.pr_model.specs.Lives.{bare_process}
use Rattle.pr_model.specs.Messages.{aimed_lwp, at_lwp, at_process, found_at, message_answer, on_stopped_found, read_answer, read_of, refused, run_answer, run_found, with_process_changed, with_registers, write_answer}
use Rattle.pr_model.specs.Readers.{space_seen}
use Rattle.pr_model.specs.Reads.{file_read, file_reply, of_lwp, of_process, read_process}
use Rattle.pr_model.specs.Running.{lwp_run_refused, run_lwp}
use Rattle.pr_model.specs.State.{Places, TracedLwp, TracedProcess, TracedState, TracedSystem, has_agent, live_process, lwp_of, process_of, with_lwp}
use Rattle.pr_model.specs.Stops.{has_event_stop}
use Rattle.pr_model.specs.declared.calls.Call.TheVariants as call
use Rattle.pr_model.specs.declared.calls.File.{File}
use Rattle.pr_model.specs.declared.calls.File.TheVariants as file
use Rattle.pr_model.specs.declared.calls.Mode.{Mode}
use Rattle.pr_model.specs.declared.calls.Mode.TheVariants as mode
use Rattle.pr_model.specs.declared.calls.Reply.TheVariants as reply
use Rattle.pr_model.specs.declared.handles.Held.{Held}
use Rattle.pr_num.specs.Agents.{agent_id}
use Rattle.pr_num.specs.Layout.{stack_base, text_base}
use Rattle.pr_num.specs.Limits.{descriptor_limit, read_limit}
use Rattle.pr_num.specs.Messages.{bad_operand, encoded_length, first_message, in_columns, message_code, message_read, nth_word, operand_count, operands, spelling, tail_length, unpadded_length, with_tail}
use Rattle.pr_num.specs.Spaces.{Space, bytes_for}
use Rattle.pr_num.specs.Words.{IsByte, IsWord, word_bytes, word_of, words_bytes}
use Rattle.pr_num.specs.declared.errnos.Errno.{Errno}
use Rattle.pr_num.specs.declared.errnos.Errno.TheVariants.{Badf, Busy, Intr, Io, Mfile}
use Rattle.pr_num.specs.declared.mappings.BadByte.{BadByte}
use Rattle.pr_num.specs.declared.messages.Message.{Message}
use Rattle.pr_num.specs.declared.messages.Message.TheVariants as message
use Rattle.pr_parts.specs.AddressSpaces.{with_bytes}
use Rattle.pr_probe.specs.AgentCode.{agent_registers, code_size, stack_size}
use Rattle.pr_tool_laws.proofs.Pstack.StackReads.{own-seen, read-answer}
use Rattle.pr_truss_laws.proofs.Files.OpensLemmas.{held_by}
use Rattle.pr_truss_laws.proofs.Machine.TakenLemmas.{IsTaken, Read, ctl-is}
use Rattle.pr_probe_laws.proofs.Agents.AgentCalls.{agent_writer}
use Rattle.pr_probe_laws.proofs.Agents.AgentTurns.{asks}
use Rattle.pr_probe_laws.proofs.Hiding.HiddenMessages.{exit-words}
use Rattle.pr_probe_laws.proofs.Agents.LeavingRows.{exit_registers}
use Rattle.pr_probe_laws.proofs.PuttingBack.MemoryMessages.{IsWriteOf, unpadded, words-long, write-read, write_bytes, writer_of, written_as}
use Rattle.pr_probe_laws.proofs.OneState.TextMessages.{asked-words}

-- Calls that the machine does not refuse, since nothing is in their way.

-- ---- process 0 has no memory

nothing-there : (need at n : ℕ) → is_ok (bytes_for need [] at (suc n)) ≡ false
unfolding bytes_for
nothing-there need at n = refl

-- a process of which a byte is mapped is another one
pub maps-some : (s : TracedSystem) (pid : ℕ) (q : TracedProcess) → IsLawfulSystem s → live_process s pid ≡ Some q
    → (need at n : ℕ) → is_ok (bytes_for need q.space at (suc n)) ≡ true → pid ≢ 0
unfolding system_process bare_process
maps-some s pid q lawful live need at n there zero =
    let found : process_of s 0 ≡ Some q =
    subst (λ (m : ℕ). process_of s m ≡ Some q) zero (found-live s pid q live).0 in
    let is : q ≡ system_process = same_Some q system_process (sym found ∙ lawful.first) in
    false≢true (sym (ap (λ (x : TracedProcess). is_ok (bytes_for need x.space at (suc n))) is
    ∙ nothing-there need at n) ∙ there)

-- ---- an open file of a process leaves none that is exclusive

exclusive-writes : (pid : ℕ) (o : Option Held) → is_exclusive_writer pid o ≡ true → is_writer pid o ≡ true
exclusive-writes pid None is = is
exclusive-writes pid (Some h) is = by (h.pid == pid) h.mode is
  where
    by : (b : Bool) (m : Mode) → (b && is_exclusive m) ≡ true → (b && is_writable m) ≡ true
    by false m it = it
    by true mode.Read it = it
    by true mode.Write it = refl
    by true mode.WriteExcl it = refl

exclusives-write : (pid : ℕ) (opens : Places) → list_any (is_exclusive_writer pid) opens ≡ true
    → list_any (is_writer pid) opens ≡ true
exclusives-write pid [] some = some
exclusives-write pid (o ∷ os) some =
    by (λ it. exclusives-write pid os it) (is_exclusive_writer pid o) refl (is_writer pid o) refl some
  where
    by : (list_any (is_exclusive_writer pid) os ≡ true → list_any (is_writer pid) os ≡ true) → (b : Bool)
        → is_exclusive_writer pid o ≡ b → (d : Bool) → is_writer pid o ≡ d
        → (b || list_any (is_exclusive_writer pid) os) ≡ true → (d || list_any (is_writer pid) os) ≡ true
    by rest b is true writes it = refl
    by rest true is false not it = absurd (false≢true (sym not ∙ exclusive-writes pid o is))
    by rest false is false not it = rest it

pub none-exclusive : (pid number : ℕ) (opens : Places) (h : Held) → slice_get opens number ≡ Some (Some h)
    → is_writer pid (Some h) ≡ true → is_exclusive_writer pid (Some h) ≡ false → AreExclusive opens
    → has_exclusive_writer pid opens ≡ false
none-exclusive pid number opens h there writes shares alone =
    elim (cases_Bool (has_exclusive_writer pid opens)) [ inl some ↦ absurd (never some) | inr none ↦ none ]
  where
    left : Places
    left = slice_set opens number None

    or-none : (a b c : Bool) → (a || b) ≡ (c || false) → b ≡ false → c ≡ true → a ≡ true
    or-none true b c same none some = refl
    or-none false b true same none some = absurd (false≢true (sym none ∙ same))
    or-none false b false same none some = absurd (false≢true some)

    never : has_exclusive_writer pid opens ≡ true → ⊥
    never some =
        let still : list_any (is_exclusive_writer pid) (slice_set opens number None) ≡ true =
        or-none (list_any (is_exclusive_writer pid) (slice_set opens number None)) (is_exclusive_writer pid (Some h))
        (has_exclusive_writer pid opens) (any-swap (is_exclusive_writer pid) opens number (Some h) None there) shares
        some in
        let own : cond (is_writer pid (Some h)) 1 0 ≡ 1 = ap (λ b. cond {A = ℕ} b 1 0) writes in
        omega (
          arith,
          count-swap (is_writer pid) opens number (Some h) None there,
          count-some (is_writer pid) (slice_set opens number None)
              (exclusives-write pid (slice_set opens number None) still),
          alone.alone pid some,
          own,
        )

-- ---- messages that are read

-- bytes are read as a message, however many bytes that takes
pub record IsWhole (m : Message) (bytes : List ℕ) : Type 0 where
  pub len : ℕ
  pub read : first_message bytes ≡ Ok (m, len)

pub spelt-whole : (m : Message) → All IsWord (operands m) → length (operands m) ≡ operand_count m
    → bad_operand m ≡ None → tail_length m ≡ 0 → IsWhole m (spelling m [])
spelt-whole m words count columns none = record {
  len = _;
  read =
      ap first_message (sym (append-nil (spelling m [])))
      ∙ spelt_is_read (spelling m []) [] m []
      (record {
        words = words;
        count = count;
        columns = columns;
        tail_bytes = All-nil IsByte;
        tail_fits = sym none;
        spelt = refl;
      });
}

pub run-whole : IsWhole (message.Run 0) (spelling (message.Run 0) [])
unfolding operands operand_count bad_operand tail_length
run-whole = spelt-whole (message.Run 0) (All-from_recursion IsWord (0 ∷ []) (omega arith, tt)) refl refl refl

pub exits-whole : IsWhole (message.Sexit 0) (spelling (message.Sexit 0) [])
unfolding operands operand_count bad_operand tail_length
exits-whole = spelt-whole (message.Sexit 0) (All-from_recursion IsWord (0 ∷ []) (omega arith, tt)) refl refl refl

pub kind-whole : IsWhole (message.Read stack_base 8) (spelling (message.Read stack_base 8) [])
unfolding operands operand_count bad_operand tail_length
kind-whole =
    spelt-whole (message.Read stack_base 8)
    (All-from_recursion IsWord (stack_base ∷ 8 ∷ []) (omega arith, (omega arith, tt))) refl refl refl

pub registers-whole : (d : ℕ) → d < descriptor_limit
    → IsWhole (message.Sreg (asks d)) (spelling (message.Sreg (asks d)) [])
unfolding operands operand_count bad_operand tail_length agent_registers
registers-whole d small = spelt-whole (message.Sreg (asks d)) (asked-words d small) refl refl refl

pub exit-whole : IsWhole (message.Sreg exit_registers) (spelling (message.Sreg exit_registers) [])
unfolding operands operand_count bad_operand tail_length agent_registers
exit-whole = spelt-whole (message.Sreg exit_registers) exit-words refl refl refl

-- bytes that are to be written
read-whole : (bytes : List ℕ) (m : Message) → nat_lt (length bytes) 8 ≡ false
    → message_read (nth_word bytes 0) bytes ≡ Ok m → bad_operand m ≡ None
    → nat_lt (length bytes) (encoded_length m) ≡ false
    → list_all (λ b. b == 0) (slice_range bytes (unpadded_length m) (encoded_length m)) ≡ true
    → first_message bytes ≡ Ok (m, encoded_length m)
unfolding first_message in_columns with_tail
read-whole bytes m long read columns whole zeros = rw (long, read, columns, whole, zeros) refl

sized-whole : (at n : ℕ) (bytes : List ℕ) → length bytes ≡ n → IsWhole (message.Write at n) (written_as at n bytes)
    → IsWhole (message.Write at (length bytes)) (write_bytes at bytes)
sized-whole at n bytes long whole =
    subst (λ (m : ℕ). IsWhole (message.Write at m) (written_as at m bytes)) (sym long) whole

long-enough : (at n : ℕ) (bytes : List ℕ) → length bytes ≡ n → nat_lt (length (unpadded at n bytes)) (24 + n) ≡ false
long-enough at n bytes long =
    let front = length-append (words_bytes (23 ∷ at ∷ n ∷ [])) bytes in
    let whole = length-append (words_bytes (23 ∷ at ∷ n ∷ []) ++ bytes) [] in
    let words = length-words_bytes (23 ∷ at ∷ n ∷ []) in
    le-ltb (length ((words_bytes (23 ∷ at ∷ n ∷ []) ++ bytes) ++ [])) (24 + n)
    (omega (arith, whole, words, front, long))

pub code-whole : (bytes : List ℕ) → length bytes ≡ code_size
    → IsWhole (message.Write text_base (length bytes)) (write_bytes text_base bytes)
unfolding message_code operands nth_word word_bytes word_of unpadded_length operand_count tail_length encoded_length
    bad_operand
code-whole bytes size =
    let all : List ℕ = unpadded text_base code_size bytes in
    let long : nat_lt (length all) 24 ≡ false = words-long 24 23 text_base code_size (bytes ++ []) (omega arith) in
    let some : nat_lt (length all) 8 ≡ false = words-long 8 23 text_base code_size (bytes ++ []) (omega arith) in
    sized-whole text_base code_size bytes size
    (record {
      len = _;
      read =
          read-whole all (message.Write text_base code_size) some
          (write-read all text_base code_size long refl refl) refl (long-enough text_base code_size bytes size) refl;
    })

pub stack-whole : (bytes : List ℕ) → length bytes ≡ stack_size
    → IsWhole (message.Write stack_base (length bytes)) (write_bytes stack_base bytes)
unfolding message_code operands nth_word word_bytes word_of unpadded_length operand_count tail_length encoded_length
    bad_operand
stack-whole bytes size =
    let all : List ℕ = unpadded stack_base stack_size bytes in
    let long : nat_lt (length all) 24 ≡ false = words-long 24 23 stack_base stack_size (bytes ++ []) (omega arith) in
    let some : nat_lt (length all) 8 ≡ false = words-long 8 23 stack_base stack_size (bytes ++ []) (omega arith) in
    sized-whole stack_base stack_size bytes size
    (record {
      len = _;
      read =
          read-whole all (message.Write stack_base stack_size) some
          (write-read all stack_base stack_size long refl refl) refl
          (long-enough stack_base stack_size bytes size) refl;
    })

module _ (s : TracedState) (k pid : ℕ) (a : Answer) where
  -- it is no refusal
  abbrev pub IsGranted : Type 0
  IsGranted = (e : Errno) → a.reply ≢ reply.Fail e

  used-grants : (n : ℕ) → a.reply ≡ reply.Used n → IsGranted
  used-grants n used e denied = absurd (let both : reply.Used n ≡ reply.Fail e = sym used ∙ denied in cc)

  bytes-grant : (bytes : List ℕ) → a.reply ≡ reply.Bytes bytes → IsGranted
  bytes-grant bytes given e denied = absurd (let both : reply.Bytes bytes ≡ reply.Fail e = sym given ∙ denied in cc)

  module _ (q : TracedProcess) (live : live_process s.system pid ≡ Some q) (c : ℕ) (user : pid ≢ 0) where
    -- ---- messages to the process

    module _ (stands : handle_of s.opens k c ≡ Some (writer_of k pid)) where
      -- one that is read does what its row says
      taken-as : (bytes : List ℕ) (m : Message) → IsWhole m bytes → answer_to s k (call.Ctl c bytes) ≡ Some a
          → IsTaken s pid q m bytes a
      taken-as bytes m whole given =
          by (pid == 0) refl
          (ctl-is s k c (writer_of k pid) stands refl bytes a given
          ∙ ap (λ (o : Option TracedProcess). controlled s (targeted_answer s.system (writer_of k pid) o bytes)) live
          ∙ ap (λ (r : Read). controlled s (decoded_answer s.system (writer_of k pid) q bytes r)) whole.read)
        where
          by : (b : Bool) → (pid == 0) ≡ b
              → a ≡ controlled s
              (cond b (refused s.system (system_refusal m))
              (message_answer s.system pid q at_process m (tail_of m bytes) whole.len)) → IsTaken s pid q m bytes a
          by true is it = absurd (user (eqb-true pid 0 is))
          by false is it = record { len = whole.len; is = it }

      -- PCWRITE, where the process has its memory to itself and the bytes are mapped
      pub write-granted : (at : ℕ) (bytes : List ℕ) → IsWriteOf at bytes
          → IsWhole (message.Write at (length bytes)) (write_bytes at bytes) → q.borrower ≡ None
          → is_ok (bytes_for 0 q.space at (length bytes)) ≡ true
          → answer_to s k (call.Ctl c (write_bytes at bytes)) ≡ Some a → IsGranted
      unfolding message_answer write_answer
      write-granted at bytes writes whole own mapped given =
          let m : Message = message.Write at (length bytes) in
          let t = taken-as (write_bytes at bytes) m whole given in
          used-grants t.len
          (ap (λ (x : Answer). x.reply)
          (t.is
          ∙ ap (λ (tail : List ℕ).
          controlled s (cond (is_some q.borrower) (refused s.system Busy) (write_answer s.system pid q at tail t.len)))
          writes.tail
          ∙ ap (λ (o : Option ℕ).
          controlled s (cond (is_some o) (refused s.system Busy) (write_answer s.system pid q at bytes t.len))) own
          ∙ ap (λ (b : Bool).
          controlled s
          (cond b (with_process_changed s.system pid q t.len (with_space (with_bytes at bytes q.space)))
          (refused s.system Io))) mapped))

      -- PCREAD
      pub read-granted : (bytes : List ℕ) (at size : ℕ) (found : List ℕ) → IsWhole (message.Read at size) bytes
          → q.borrower ≡ None → bytes_for 0 q.space at size ≡ Ok found → answer_to s k (call.Ctl c bytes) ≡ Some a
          → IsGranted
      unfolding message_answer read_answer
      read-granted bytes at size found whole own mapped given =
          let t = taken-as bytes (message.Read at size) whole given in
          let seen : bytes_for 0 (space_seen s.system q) at size ≡ Ok found =
          ap (λ (space : Space). bytes_for 0 space at size) (own-seen s.system q own) ∙ mapped in
          bytes-grant found
          (ap (λ (x : Answer). x.reply)
          (t.is ∙ ap (λ (r : Result (List ℕ) BadByte). controlled s (read_of s.system pid q r)) seen))

      -- PCSEXIT
      pub exits-granted : (bytes : List ℕ) (calls : ℕ) → IsWhole (message.Sexit calls) bytes
          → answer_to s k (call.Ctl c bytes) ≡ Some a → IsGranted
      unfolding message_answer
      exits-granted bytes calls whole given =
          let t = taken-as bytes (message.Sexit calls) whole given in
          used-grants t.len (ap (λ (x : Answer). x.reply) t.is)

    -- ---- messages to the agent

    module _ (stands : handle_of s.opens k c ≡ Some (agent_writer k pid)) (l : TracedLwp)
        (there : lwp_of q agent_id ≡ Some l) (stops : has_event_stop l ≡ true) where
      sent-as : (bytes : List ℕ) (m : Message) (whole : IsWhole m bytes) → answer_to s k (call.Ctl c bytes) ≡ Some a
          → a ≡ controlled s (message_answer s.system pid q (at_lwp agent_id) m (tail_of m bytes) whole.len)
      unfolding answer_to control_answer target_of
      sent-as bytes m whole given =
          by (pid == 0) refl
          (sym (same_Some _ a given)
          ∙ ap (λ (o : Option Held). controlled s (held_answer s.system (control_handle o) bytes)) stands
          ∙ ap (λ (o : Option TracedProcess).
          controlled s (targeted_answer s.system (agent_writer k pid) (still_there (agent_writer k pid) o) bytes)) live
          ∙ ap (λ (o : Option TracedLwp).
          controlled s (targeted_answer s.system (agent_writer k pid) (cond (is_some o) (Some q) None) bytes)) there
          ∙ ap (λ (r : Read). controlled s (decoded_answer s.system (agent_writer k pid) q bytes r)) whole.read)
        where
          by : (b : Bool) → (pid == 0) ≡ b
              → a ≡ controlled s
              (cond b (refused s.system (system_refusal m))
              (message_answer s.system pid q (at_lwp agent_id) m (tail_of m bytes) whole.len))
              → a ≡ controlled s (message_answer s.system pid q (at_lwp agent_id) m (tail_of m bytes) whole.len)
          by true is it = absurd (user (eqb-true pid 0 is))
          by false is it = it

      -- PCSREG
      pub registers-granted : (bytes regs : List ℕ) → IsWhole (message.Sreg regs) bytes
          → answer_to s k (call.Ctl c bytes) ≡ Some a → IsGranted
      unfolding message_answer aimed_lwp
      registers-granted bytes regs whole given =
          used-grants whole.len
          (ap (λ (x : Answer). x.reply)
          (sent-as bytes (message.Sreg regs) whole given
          ∙ ap (λ (o : Option TracedLwp).
          controlled s
          (on_stopped_found s.system pid q whole.len (with_registers regs) (found_at s.system pid q agent_id o))) there
          ∙ ap (λ (b : Bool).
          controlled s
          (cond b (with_process_changed s.system pid q whole.len (with_lwp agent_id (with_registers regs)))
          (refused s.system Busy))) stops))

      -- PCRUN
      goes-on : lwp_run_refused q agent_id l ≡ false
      unfolding lwp_run_refused
      goes-on = by (has_agent q) (has_event_stop l) stops
        where
          by : (b d : Bool) → d ≡ true → ((b && false) || not (d || l.control.directed)) ≡ false
          by true true is = refl
          by false true is = refl
          by b false is = absurd (false≢true is)

      pub run-granted : (bytes : List ℕ) → IsWhole (message.Run 0) bytes → answer_to s k (call.Ctl c bytes) ≡ Some a
          → IsGranted
      unfolding message_answer run_answer
      run-granted bytes whole given =
          used-grants whole.len
          (ap (λ (x : Answer). x.reply)
          (sent-as bytes (message.Run 0) whole given
          ∙ ap (λ (o : Option TracedLwp).
          controlled s (run_found s.system pid q 0 whole.len (found_at s.system pid q agent_id o))) there
          ∙ ap (λ (b : Bool).
          controlled s
          (cond b (refused s.system Busy)
          (with_process_changed s.system pid q whole.len (with_lwp agent_id (run_lwp 0))))) goes-on))

  -- ---- polls, reads and opens

  -- a poll of an open handle is answered, or interrupted
  pub poll-granted : (c : ℕ) (held : Held) → handle_of s.opens k c ≡ Some held
      → answer_to s k (call.Poll (c ∷ [])) ≡ Some a → IsGranted ⊎ (a.reply ≡ reply.Fail Intr)
  unfolding answer_to poll_answer
  poll-granted c held stands given =
      by (is_interrupted s k)
      (subst (λ (o : Option Held).
      cond (not (is_some o && true)) (Some (denied s Badf))
      (cond (is_interrupted s k) (Some (interrupted_answer s k))
      (ready_answer s (find (is_polled_ready s k) (c ∷ []))))
      ≡ Some a) stands given)
    where
      ready : (o : Option ℕ) → ready_answer s o ≡ Some a → IsGranted
      ready None is e failed = absurd (none-some a is)
      ready (Some n) is e failed =
          absurd (let both : reply.Ready n ≡ reply.Fail e =
          ap (λ (x : Answer). x.reply) (same_Some _ a is) ∙ failed in cc)

      by : (b : Bool)
          → cond b (Some (interrupted_answer s k)) (ready_answer s (find (is_polled_ready s k) (c ∷ []))) ≡ Some a
          → IsGranted ⊎ (a.reply ≡ reply.Fail Intr)
      by true is = inr (sym (ap (λ (x : Answer). x.reply) (same_Some _ a is)))
      by false is = inl (ready (find (is_polled_ready s k) (c ∷ [])) is)

  -- the status of the agent is read where it lives
  pub status-granted : (q : TracedProcess) → live_process s.system pid ≡ Some q → (l : TracedLwp)
      → lwp_of q agent_id ≡ Some l → (c : ℕ)
      → handle_of s.opens k c ≡ Some (held_by k pid agent_id file.Lwpstatus mode.Read)
      → answer_to s k (call.Read c 0 read_limit) ≡ Some a → IsGranted
  unfolding file_read read_process file_reply
  status-granted q live l there c stands given =
      bytes-grant _
      (ap (λ (x : Answer). x.reply)
      (read-answer s c 0 read_limit (held_by k pid agent_id file.Lwpstatus mode.Read) a refl stands given)
      ∙ ap (of_process s.system pid agent_id 0 read_limit file.Lwpstatus) live
      ∙ ap (of_lwp q agent_id 0 read_limit) there)

  -- A file of the agent is opened where that lives, no handle of the process is exclusive, and a place is free.
  refused-none : (name : File) (way : Mode) → fits_file name way agent_id ≡ true
      → has_file (process_of s.system pid) name agent_id ≡ true → conflicts pid way s.opens ≡ false
      → open_refusal s pid agent_id name way ≡ None
  unfolding open_refusal
  refused-none name way fits has free = rw (fits, has, free) refl

  opened-granted : (name : File) (way : Mode) → open_refusal s pid agent_id name way ≡ None
      → a.reply ≢ reply.Fail Mfile → answer_to s k (call.Open pid agent_id name way) ≡ Some a → IsGranted
  unfolding answer_to open_answer
  opened-granted name way none room given =
      by (position is_none s.opens)
      (sym (ap (open_unless s (held_by k pid agent_id name way)) none) ∙ same_Some _ a given)
    where
      by : (o : Option ℕ) → opened s (held_by k pid agent_id name way) o ≡ a → IsGranted
      by None is e failed = absurd (room (sym (ap (λ (x : Answer). x.reply) is)))
      by (Some place) is e failed =
          absurd (let both : reply.Handle place ≡ reply.Fail e = ap (λ (x : Answer). x.reply) is ∙ failed in cc)

  module _ (q : TracedProcess) (live : live_process s.system pid ≡ Some q) (l : TracedLwp)
      (there : lwp_of q agent_id ≡ Some l) (room : a.reply ≢ reply.Fail Mfile) where
    found : process_of s.system pid ≡ Some q
    found = (found-live s.system pid q live).0

    lives : q.ended ≡ None
    lives = (found-live s.system pid q live).1

    pub control-opened : has_exclusive_writer pid s.opens ≡ false
        → answer_to s k (call.Open pid agent_id file.Lwpctl mode.Write) ≡ Some a → IsGranted
    control-opened shared given =
        opened-granted file.Lwpctl mode.Write
        (refused-none file.Lwpctl mode.Write refl (rw (found, lives, there) refl) shared) room given

    pub status-opened : answer_to s k (call.Open pid agent_id file.Lwpstatus mode.Read) ≡ Some a → IsGranted
    status-opened given =
        opened-granted file.Lwpstatus mode.Read
        (refused-none file.Lwpstatus mode.Read refl (rw (found, lives, there) refl) refl) room given
