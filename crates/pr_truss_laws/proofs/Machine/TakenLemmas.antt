use Rattle.std.proofs.Common.{◌≡◌, ◌≢◌, ◌==◌, ◌-◌, ◌/◌, ℕ, Bool, true, false, cond, nat_lt, None, Some, Option, List, [], Result, Ok, Err, IfOk, length, refl, sym, ap, ◌∙◌}
use Rattle.std.proofs.lemmas.Option.{same_Some}
use Rattle.std.specs.List.{list_all, slice_range}
use Rattle.pr_model.specs.Calls.{Answer, answer_to, controlled}
use Rattle.pr_model.specs.ControlMessages.{aim_of, control_answer, control_handle, decoded_answer, held_answer, still_there, system_refusal, tail_of, target_of, targeted_answer}
use Rattle.pr_model.specs.Handles.{handle_of}
use Rattle.pr_model.specs.Messages.{at_process, message_answer, refused, with_aim_directed}
use Rattle.pr_model.specs.State.{TracedProcess, TracedState, live_process}
use Rattle.pr_model.specs.Stops.{with_all_directed}
use Rattle.pr_model.specs.declared.calls.Call.TheVariants as call
use Rattle.pr_model.specs.declared.calls.File.TheVariants.{Ctl}
use Rattle.pr_model.specs.declared.calls.Reply.TheVariants as reply
use Rattle.pr_model.specs.declared.handles.Held.{Held}
use Rattle.pr_num.specs.Messages.{bad_operand, encoded_length, first_message, in_columns, message_code, message_read, nth_word, operands, spelling, unless_bad, unpadded_length, with_tail, ◌>>=◌}
use Rattle.pr_num.specs.Words.{word_bytes, word_of}
use Rattle.pr_num.specs.declared.errnos.Errno.{Errno}
use Rattle.pr_num.specs.declared.messages.Message.{Message}
use Rattle.pr_num.specs.declared.messages.Message.TheVariants as message
use Rattle.pr_num.specs.declared.messages.MsgFault.{MsgFault}
use Rattle.pr_num.specs.declared.messages.MsgFault.TheVariants.{BadOperand, Short}
use Rattle.pr_truss_laws.proofs.Machine.StillLemmas.{live-changed}

-- A control message that a controller writes to the control file of a process: it is read as the message that was
-- meant,
-- and does what its row says unless it is refused.

-- ---- how messages are read

abbrev pub Read : Type 0
Read = Result (Message × ℕ) MsgFault

-- bytes are read as this message, or refused
abbrev pub ReadsAs : Message → Read → Type 0
ReadsAs m r = IfOk r (λ first. first.0 ≡ m)

tail-reads : (bytes : List ℕ) (m : Message) → ReadsAs m (with_tail bytes m)
unfolding with_tail
tail-reads bytes m =
    of (nat_lt (length bytes) (encoded_length m))
    (list_all (λ b. b == 0) (slice_range bytes (unpadded_length m) (encoded_length m))) (encoded_length m / 8 - 1)
  where
    of : (short zeros : Bool) (word : ℕ)
        → ReadsAs m
        (let r : Read = cond short (Err Short)
        (cond zeros (let ok : Read = Ok (m, encoded_length m) in ok) (Err (BadOperand word))) in r)
    of true zeros word = tt
    of false true word = refl
    of false false word = tt

columns-reads : (bytes : List ℕ) (m : Message) → ReadsAs m (in_columns m >>= with_tail bytes)
unfolding in_columns
columns-reads bytes m = of (bad_operand m)
  where
    of : (o : Option ℕ) → ReadsAs m (unless_bad m o >>= with_tail bytes)
    of None = tail-reads bytes m
    of (Some word) = tt

pub read-as : (bytes : List ℕ) (m : Message) → nat_lt (length bytes) 8 ≡ false
    → message_read (nth_word bytes 0) bytes ≡ Ok m → ReadsAs m (first_message bytes)
unfolding first_message
read-as bytes m long read = rw (long, read) (columns-reads bytes m)

pub stop-reads : ReadsAs message.Stop (first_message (spelling message.Stop []))
unfolding message_code operands nth_word word_bytes word_of message_read
stop-reads = read-as (spelling message.Stop []) message.Stop refl refl

-- ---- where a message comes to

-- A message that was taken does what its row says.
pub record IsTaken (s : TracedState) (pid : ℕ) (p : TracedProcess) (msg : Message) (bytes : List ℕ)
    (a : Answer) : Type 0 where
  pub len : ℕ
  pub is : a ≡ controlled s (message_answer s.system pid p at_process msg (tail_of msg bytes) len)

-- what the control file of a process stands for is that process
pub process-aim : (h : Held) → h.file ≡ Ctl → aim_of h ≡ at_process
process-aim h control = rw control refl

module _ (s : TracedState) (k m : ℕ) (h : Held) (held : handle_of s.opens k m ≡ Some h) (control : h.file ≡ Ctl) where
  pub control-held : control_handle (handle_of s.opens k m) ≡ Some h
  control-held = ap control_handle held ∙ rw control refl

  pub target-live : target_of s.system h ≡ live_process s.system h.pid
  unfolding target_of
  target-live = by (live_process s.system h.pid)
    where
      by : (o : Option TracedProcess) → still_there h o ≡ o
      by None = refl
      by (Some p) = rw control refl

  write-is : (bytes : List ℕ)
      → control_answer s.system s.opens k m bytes ≡ targeted_answer s.system h (live_process s.system h.pid) bytes
  unfolding control_answer
  write-is bytes =
      ap (λ o. held_answer s.system o bytes) control-held ∙ ap (λ o. targeted_answer s.system h o bytes) target-live

  pub ctl-is : (bytes : List ℕ) (a : Answer) → answer_to s k (call.Ctl m bytes) ≡ Some a
      → a ≡ controlled s (targeted_answer s.system h (live_process s.system h.pid) bytes)
  unfolding answer_to
  ctl-is bytes a is = sym (same_Some _ a is) ∙ ap (controlled s) (write-is bytes)

  module _ (p : TracedProcess) (live : live_process s.system h.pid ≡ Some p) where
    -- a message that is not refused is taken
    pub taken-unless : (bytes : List ℕ) (msg : Message) (a : Answer) → ReadsAs msg (first_message bytes)
        → answer_to s k (call.Ctl m bytes) ≡ Some a → ((e : Errno) → a.reply ≢ reply.Fail e)
        → IsTaken s h.pid p msg bytes a
    taken-unless bytes msg a reads is granted =
        by-read (first_message bytes) reads (ctl-is bytes a is
        ∙ ap (λ o. controlled s (targeted_answer s.system h o bytes)) live)
      where
        by-process : (n : Message) (len : ℕ) → n ≡ msg → (b : Bool)
            → a ≡ controlled s
            (cond b (refused s.system (system_refusal n))
            (message_answer s.system h.pid p (aim_of h) n (tail_of n bytes) len)) → IsTaken s h.pid p msg bytes a
        by-process n len same true it = absurd (granted (system_refusal n) (ap (λ (x : Answer). x.reply) it))
        by-process n len same false it = record {
          len = len;
          is =
              it ∙ ap (λ x. controlled s (message_answer s.system h.pid p x n (tail_of n bytes) len))
              (process-aim h control)
              ∙ ap (λ x. controlled s
              (message_answer s.system h.pid p at_process x (tail_of x bytes) len)) same;
        }

        by-read : (r : Read) → ReadsAs msg r → a ≡ controlled s (decoded_answer s.system h p bytes r)
            → IsTaken s h.pid p msg bytes a
        by-read (Err fault) same it = absurd (granted _ (ap (λ (x : Answer). x.reply) it))
        by-read (Ok first) same it = by-process first.0 first.1 same (h.pid == 0) it

    -- A request to stop that is not refused directs each lwp to stop.
    pub stop-directs : (a : Answer) → answer_to s k (call.Ctl m (spelling message.Stop [])) ≡ Some a
        → ((e : Errno) → a.reply ≢ reply.Fail e) → live_process a.state.system h.pid ≡ Some (with_all_directed p)
    unfolding message_answer with_aim_directed with_all_directed
    stop-directs a is granted =
        let t = taken-unless (spelling message.Stop []) message.Stop a stop-reads is granted in
        ap (λ (x : Answer). live_process x.state.system h.pid) t.is
        ∙ live-changed s.system h.pid with_all_directed p live refl
