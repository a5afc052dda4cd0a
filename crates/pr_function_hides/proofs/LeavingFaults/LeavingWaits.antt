use Rattle.std.proofs.Common.{◌≡◌, ◌==◌, ◌||◌, ◌&&◌, ℕ, Bool, true, false, not, nat_le, cond, Some, None, Ok, List, []}
use Rattle.std.proofs.Common.{refl, sym, subst, ap, ◌∙◌}
use Rattle.std.proofs.lemmas.Bool.{eqb-true}
use Rattle.std.proofs.lemmas.Option.{none-some, same_Some}
use Rattle.std.specs.Option.{option_map}
use Rattle.pr_lawful.proofs.LawfulTurns.EndLemmas.{found-live}
use Rattle.pr_model.specs.Calls.{Answer, answer_to, controlled, is_interrupted, waited}
use Rattle.pr_model.specs.ControlMessages.{aim_of, decoded_answer, decoded_wait, held_wait, system_refusal, tail_of}
use Rattle.pr_model.specs.ControlMessages.{target_stopped, targeted_answer, targeted_wait, wait_over, wait_reply, waits}
use Rattle.pr_model.specs.FirstState.{system_process}
use Rattle.pr_model.specs.Handles.{handle_of}
use Rattle.pr_model.specs.Lawful.{IsLawfulSystem}
use Rattle.pr_model.specs.Lives.{bare_process}
use Rattle.pr_model.specs.Messages.{Aim, message_answer, refused}
use Rattle.pr_model.specs.Replies.{until_in}
use Rattle.pr_model.specs.State.{TracedLwp, TracedProcess, lwp_of, TracedState, TracedSystem, live_process, process_of}
use Rattle.pr_model.specs.Stops.{is_stopped}
use Rattle.pr_model.specs.declared.calls.Call.TheVariants as call
use Rattle.pr_model.specs.declared.calls.File.TheVariants.{Ctl}
use Rattle.pr_model.specs.declared.calls.Reply.TheVariants as reply
use Rattle.pr_model.specs.declared.handles.Held.{Held}
use Rattle.pr_num.specs.Messages.{bad_operand, encoded_length, first_message, in_columns, message_code, message_read}
use Rattle.pr_num.specs.Messages.{nth_word, operand_count, operands, spelling, tail_length, unpadded_length, with_tail}
use Rattle.pr_num.specs.Words.{word_bytes, word_of}
use Rattle.pr_num.specs.declared.errnos.Errno.TheVariants.{Busy, Intr, Inval}
use Rattle.pr_num.specs.declared.messages.Message.{Message}
use Rattle.pr_num.specs.declared.messages.Message.TheVariants as message
use Rattle.pr_report_laws.proofs.Machine.ControlLaws.{target-process}
use Rattle.pr_truss.specs.Replies.{answer_of}
use Rattle.pr_truss.specs.declared.replies.Answer.TheVariants.{Accepted, Gone, Interrupted, Refused}
use Rattle.pr_truss_laws.proofs.Machine.TakenLemmas.{control-held, ctl-is, target-live}
use Rattle.pr_truss_laws.specs.Stills.{IsFrozen}

-- PCSTOP, PCWSTOP, and their waits, of a process that lives: unless it is the system process they are not refused, but
-- for an interrupt; and where a wait without an end is granted the process is stopped on an event.

-- the system process has no lwps
pub system-still : (s : TracedSystem) (pid : ℕ) (p : TracedProcess) → IsLawfulSystem s → live_process s pid ≡ Some p
    → pid ≡ 0 → IsFrozen p
unfolding system_process bare_process
system-still s pid p lawful live zero_pid =
    subst IsFrozen
    (sym (same_Some p system_process
    (sym (found-live s pid p live).0 ∙ ap (process_of s) zero_pid ∙ lawful.first)))
    (record { each = λ id l there. absurd (none-some l there) })

pub system-none : (s : TracedSystem) (pid : ℕ) (p : TracedProcess) → IsLawfulSystem s → live_process s pid ≡ Some p
    → pid ≡ 0 → (id : ℕ) (l : TracedLwp) → lwp_of p id ≡ Some l → ⊥
unfolding system_process bare_process
system-none s pid p lawful live zero_pid =
    subst (λ (q : TracedProcess). (id : ℕ) (l : TracedLwp) → lwp_of q id ≡ Some l → ⊥)
    (sym (same_Some p system_process
    (sym (found-live s pid p live).0 ∙ ap (process_of s) zero_pid ∙ lawful.first))) (λ id l there. none-some l there)

-- ---- how they are read

pub stop-read : first_message (spelling message.Stop []) ≡ Ok (message.Stop, 8)
unfolding first_message message_read message_code operands nth_word word_bytes word_of in_columns bad_operand
    with_tail encoded_length unpadded_length operand_count tail_length
stop-read = refl

pub wstop-read : first_message (spelling message.Wstop []) ≡ Ok (message.Wstop, 8)
unfolding first_message message_read message_code operands nth_word word_bytes word_of in_columns bad_operand
    with_tail encoded_length unpadded_length operand_count tail_length
wstop-read = refl

-- what a wait without an end tells
pub data WaitTold (pid : ℕ) (p : TracedProcess) (a : Answer) : Type 0 where
  of_system : pid ≡ 0 → WaitTold pid p a
  interrupted : answer_of a.reply ≡ Interrupted → WaitTold pid p a
  is_over : is_stopped p ≡ true → answer_of a.reply ≡ Accepted → WaitTold pid p a

-- what a request for a stop tells
pub data AskTold (pid : ℕ) (a : Answer) : Type 0 where
  asks_system : pid ≡ 0 → answer_of a.reply ≡ Refused Busy → AskTold pid a
  is_asked : answer_of a.reply ≡ Accepted → until_in a.reply ≡ 0 → AskTold pid a

module _ (s : TracedState) (k m : ℕ) (h : Held) (held : handle_of s.opens k m ≡ Some h) (control : h.file ≡ Ctl)
    (p : TracedProcess) (live : live_process s.system h.pid ≡ Some p) (w : Message) (bytes : List ℕ) (len : ℕ)
    (reads : first_message bytes ≡ Ok (w, len)) where
  abbrev Told : Answer → Type 0
  Told a = WaitTold h.pid p a

  module _ (waits_so : waits w ≡ true) (a : Answer) (is : answer_to s k (call.CtlWait m 0 bytes) ≡ Some a) where
    abbrev Waits : Bool → Type 0
    Waits b =
        option_map (waited s k)
        (cond b
        (cond (h.pid == 0) (Some (reply.Fail Busy))
        (cond (is_interrupted s k) (Some (reply.Fail Intr))
        (cond (wait_over s.system h p 0) (Some (reply.Used len)) None)))
        (Some (reply.Fail Inval))) ≡ Some a

    waits-is : Waits (waits w)
    unfolding answer_to wait_reply
    waits-is =
        ap (option_map (waited s k))
        (sym (ap (λ o. held_wait s.system o 0 (is_interrupted s k) bytes) (control-held s k m h held control)
        ∙ ap (λ o. targeted_wait s.system h o 0 (is_interrupted s k) bytes)
        (target-live s k m h held control ∙ live)
        ∙ ap (λ r. decoded_wait s.system h p 0 (is_interrupted s k) r) reads)) ∙ is

    over-stopped : (b : Bool) → (b || (not true && nat_le 0 s.system.clock)) ≡ true → b ≡ true
    over-stopped true over = refl
    over-stopped false over = cc

    by-over : (b : Bool) → wait_over s.system h p 0 ≡ b
        → option_map (waited s k) (cond b (Some (reply.Used len)) None) ≡ Some a → Told a
    unfolding answer_of
    by-over true over it =
        is_over (sym (target-process h p control) ∙ over-stopped (target_stopped h p) over)
        (ap (λ (x : Answer). answer_of x.reply) (sym (same_Some _ a it)))
    by-over false over it = absurd (none-some a it)

    by-interrupt : (b : Bool)
        → option_map (waited s k)
        (cond b (Some (reply.Fail Intr)) (cond (wait_over s.system h p 0) (Some (reply.Used len)) None)) ≡ Some a
        → Told a
    unfolding answer_of
    by-interrupt true it = interrupted (ap (λ (x : Answer). answer_of x.reply) (sym (same_Some _ a it)))
    by-interrupt false it = by-over (wait_over s.system h p 0) refl it

    by-process : (b : Bool) → (h.pid == 0) ≡ b
        → option_map (waited s k)
        (cond b (Some (reply.Fail Busy))
        (cond (is_interrupted s k) (Some (reply.Fail Intr))
        (cond (wait_over s.system h p 0) (Some (reply.Used len)) None))) ≡ Some a → Told a
    by-process true zero_pid it = of_system (eqb-true h.pid 0 zero_pid)
    by-process false zero_pid it = by-interrupt (is_interrupted s k) it

    pub wait-told : Told a
    wait-told = by-process (h.pid == 0) refl (subst Waits waits_so waits-is)

  module _ (busy : system_refusal w ≡ Busy)
      (half : (aim : Aim) → (message_answer s.system h.pid p aim w (tail_of w bytes) len).reply ≡ reply.Half 0)
      (a : Answer) (is : answer_to s k (call.Ctl m bytes) ≡ Some a) where
    pub ask-told : AskTold h.pid a
    unfolding answer_of until_in
    ask-told = by (h.pid == 0) refl
      where
        answers : (b : Bool) → (h.pid == 0) ≡ b
            → a ≡ controlled s
            (cond b (refused s.system (system_refusal w))
            (message_answer s.system h.pid p (aim_of h) w (tail_of w bytes) len))
        answers b zero_pid =
            ctl-is s k m h held control bytes a is
            ∙ ap (λ o. controlled s (targeted_answer s.system h o bytes)) live
            ∙ ap (λ r. controlled s (decoded_answer s.system h p bytes r)) reads
            ∙ ap (λ x. controlled s
            (cond x (refused s.system (system_refusal w))
            (message_answer s.system h.pid p (aim_of h) w (tail_of w bytes) len))) zero_pid

        by : (b : Bool) → (h.pid == 0) ≡ b → AskTold h.pid a
        by true zero_pid =
            let replied : a.reply ≡ reply.Fail Busy =
            ap (λ (x : Answer). x.reply) (answers true zero_pid) ∙ ap (λ errno. reply.Fail errno) busy in
            asks_system (eqb-true h.pid 0 zero_pid) (ap answer_of replied)
        by false zero_pid =
            let replied : a.reply ≡ reply.Half 0 =
            ap (λ (x : Answer). x.reply) (answers false zero_pid) ∙ half (aim_of h) in
            is_asked (ap answer_of replied) (ap until_in replied)

-- ---- what is told of one that has ended

pub ask-ended : (s : TracedState) (k m : ℕ) (h : Held) → handle_of s.opens k m ≡ Some h → h.file ≡ Ctl
    → (bytes : List ℕ) (a : Answer) → answer_to s k (call.Ctl m bytes) ≡ Some a
    → live_process s.system h.pid ≡ None → answer_of a.reply ≡ Gone
unfolding answer_of
ask-ended s k m h held control bytes a is ended =
    ap (λ (x : Answer). answer_of x.reply)
    (ctl-is s k m h held control bytes a is ∙ ap (λ o. controlled s (targeted_answer s.system h o bytes)) ended)

-- ---- what they reply of one that lives

pub stop-half : (s : TracedSystem) (pid : ℕ) (p : TracedProcess) (aim : Aim) (tail : List ℕ) (len : ℕ)
    → (message_answer s pid p aim message.Stop tail len).reply ≡ reply.Half 0
unfolding message_answer
stop-half s pid p aim tail len = refl

pub wstop-half : (s : TracedSystem) (pid : ℕ) (p : TracedProcess) (aim : Aim) (tail : List ℕ) (len : ℕ)
    → (message_answer s pid p aim message.Wstop tail len).reply ≡ reply.Half 0
unfolding message_answer
wstop-half s pid p aim tail len = refl
