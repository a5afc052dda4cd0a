use Rattle.std.proofs.Common.{◌≡◌, ◌≢◌, ℕ, cond, Some, List, [], Ok, refl, ap, ◌∙◌}
use Rattle.std.proofs.lemmas.Bool.{ne_eqb}
use Rattle.pr_model.specs.Calls.{Answer, answer_to, controlled}
use Rattle.pr_model.specs.ControlMessages.{aim_of, decoded_answer, system_refusal, tail_of, targeted_answer}
use Rattle.pr_model.specs.Handles.{handle_of}
use Rattle.pr_model.specs.Messages.{message_answer, refused}
use Rattle.pr_model.specs.State.{TracedProcess, TracedState, live_process}
use Rattle.pr_model.specs.declared.calls.Call.TheVariants as call
use Rattle.pr_model.specs.declared.calls.File.TheVariants.{Ctl}
use Rattle.pr_model.specs.declared.handles.Held.{Held}
use Rattle.pr_num.specs.Control.{rlc_mode}
use Rattle.pr_num.specs.Messages.{bad_operand, encoded_length, first_message, in_columns, message_code, message_read, nth_word, one_word, operand_count, operands, spelling, tail_length, unpadded_length, with_tail}
use Rattle.pr_num.specs.Words.{word_bytes, word_of}
use Rattle.pr_num.specs.declared.messages.Message.{Message}
use Rattle.pr_num.specs.declared.messages.Message.TheVariants as message
use Rattle.pr_truss.specs.Messages.{all_modes, message_call}
use Rattle.pr_truss.specs.Replies.{answer_of}
use Rattle.pr_truss.specs.declared.replies.Answer.TheVariants.{Accepted}
use Rattle.pr_truss_laws.proofs.Machine.TakenLemmas.{ctl-is}

-- Truss is granted the modes of each live process but process 0.

clear-whole : first_message (spelling (message.Unset all_modes) []) ≡ Ok (message.Unset all_modes, 16)
unfolding first_message message_code operands nth_word word_bytes word_of message_read one_word in_columns bad_operand
    with_tail encoded_length unpadded_length tail_length operand_count
clear-whole = refl

pub release-whole : first_message (spelling (message.Set rlc_mode) []) ≡ Ok (message.Set rlc_mode, 16)
unfolding first_message message_code operands nth_word word_bytes word_of message_read one_word in_columns bad_operand
    with_tail encoded_length unpadded_length tail_length operand_count
release-whole = refl

module _ (s : TracedState) (k m : ℕ) (h : Held) (held : handle_of s.opens k m ≡ Some h) (control : h.file ≡ Ctl)
    (p : TracedProcess) (live : live_process s.system h.pid ≡ Some p) (some : h.pid ≢ 0) (a : Answer) where
  read-answer : (bytes : List ℕ) (msg : Message) (len : ℕ) → first_message bytes ≡ Ok (msg, len)
      → answer_to s k (call.Ctl m bytes) ≡ Some a
      → a ≡ controlled s (message_answer s.system h.pid p (aim_of h) msg (tail_of msg bytes) len)
  read-answer bytes msg len reads is =
      ctl-is s k m h held control bytes a is
      ∙ ap (λ o. controlled s (targeted_answer s.system h o bytes)) live
      ∙ ap (λ r. controlled s (decoded_answer s.system h p bytes r)) reads
      ∙ ap (λ b. controlled s
      (cond b (refused s.system (system_refusal msg))
      (message_answer s.system h.pid p (aim_of h) msg (tail_of msg bytes) len))) (ne_eqb h.pid 0 some)

  pub clear-granted : answer_to s k (message_call m (message.Unset all_modes)) ≡ Some a → answer_of a.reply ≡ Accepted
  unfolding message_answer answer_of
  clear-granted is =
      ap (λ (x : Answer). answer_of x.reply)
      (read-answer (spelling (message.Unset all_modes) []) (message.Unset all_modes) 16 clear-whole is)

  pub release-granted : answer_to s k (message_call m (message.Set rlc_mode)) ≡ Some a → answer_of a.reply ≡ Accepted
  unfolding message_answer answer_of
  release-granted is =
      ap (λ (x : Answer). answer_of x.reply)
      (read-answer (spelling (message.Set rlc_mode) []) (message.Set rlc_mode) 16 release-whole is)

pub ruleset grants = (clear-granted, release-granted)
