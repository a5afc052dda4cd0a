use Rattle.std.proofs.Common.{◌≡◌, ◌≢◌, ◌==◌, ℕ, Bool, true, false, cond, not, is_none, None, Some, Option, Result, Ok, Err, List, refl, sym, subst, ap, ◌∙◌}
use Rattle.std.proofs.lemmas.Bool.{false≢true}
use Rattle.std.proofs.lemmas.Option.{none-some, same_Some}
use Rattle.std.specs.List.{position}
use Rattle.std.specs.Option.{option_map}
use Rattle.pr_keeps.proofs.MessageLemmas.{message-answered}
use Rattle.pr_keeps.specs.MessageAnswers as answer
use Rattle.pr_keeps.specs.MessageAnswers.{MessageAnswer, MessageRefusal}
use Rattle.pr_lawful.proofs.LawfulTurns.EndLemmas.{found-live}
use Rattle.pr_model.specs.Calls.{Answer, answer_to, is_interrupted, open_answer, open_unless, opened, waited}
use Rattle.pr_model.specs.ControlMessages.{aim_of, decoded_answer, decoded_wait, held_wait, system_refusal, tail_of, targeted_answer, targeted_wait, wait_over, wait_reply, waits}
use Rattle.pr_model.specs.Handles.{conflicts, handle_of, has_file, open_refusal}
use Rattle.pr_model.specs.Messages.{Aim, Controlled, message_answer, refused}
use Rattle.pr_model.specs.State.{TracedProcess, TracedState, TracedSystem, live_process, process_of}
use Rattle.pr_model.specs.declared.calls.Call.TheVariants as call
use Rattle.pr_model.specs.declared.calls.File.{File}
use Rattle.pr_model.specs.declared.calls.File.TheVariants as file
use Rattle.pr_model.specs.declared.calls.Mode.TheVariants.{Read}
use Rattle.pr_model.specs.declared.calls.Reply.{Reply}
use Rattle.pr_model.specs.declared.calls.Reply.TheVariants as reply
use Rattle.pr_model.specs.declared.handles.Held.{Held}
use Rattle.pr_num.specs.Messages.{first_message}
use Rattle.pr_num.specs.declared.errnos.Errno.{Errno}
use Rattle.pr_num.specs.declared.errnos.Errno.TheVariants.{Busy, Inval, Intr, Mfile, Noent}
use Rattle.pr_num.specs.declared.messages.Message.{Message}
use Rattle.pr_num.specs.declared.messages.Message.TheVariants as message
use Rattle.pr_num.specs.declared.messages.MsgFault.{MsgFault}
use Rattle.pr_report_laws.proofs.Machine.GoneLaws.{is_read}
use Rattle.pr_truss.specs.Replies.{answer_of}
use Rattle.pr_truss.specs.declared.replies.Answer.TheVariants.{Gone}
use Rattle.pr_truss_laws.proofs.Machine.TakenLemmas.{control-held, ctl-is, target-live}

-- A call of truss on a process is told that the process is gone only where it has ended.

abbrev There : Reply → Type 0
There r = answer_of r ≢ Gone

fails : (e : Errno) → (e ≡ Noent → ⊥) → There (reply.Fail e)
unfolding answer_of
fails Noent other gone = other refl
fails Intr other gone = cc
fails _ other gone = cc

busy : There (reply.Fail Busy)
busy = fails Busy (λ e. cc)

inval : There (reply.Fail Inval)
inval = fails Inval (λ e. cc)

used : (n : ℕ) → There (reply.Used n)
unfolding answer_of
used n gone = cc

half : (n : ℕ) → There (reply.Half n)
unfolding answer_of
half n gone = cc

bytes-there : (bytes : List ℕ) → There (reply.Bytes bytes)
unfolding answer_of
bytes-there bytes gone = cc

handle-there : (n : ℕ) → There (reply.Handle n)
unfolding answer_of
handle-there n gone = cc

-- ---- control messages

-- one of two answers
two : (b : Bool) (c d : Controlled) → There c.reply → There d.reply → There (cond b c d).reply
two true c d one other = one
two false c d one other = other

message_refusal-there : (m : Message) (e : Errno) → MessageRefusal m e → There (reply.Fail e)
unfolding answer_of
message_refusal-there m e answer.run_busy = λ gone. cc
message_refusal-there m e _ = λ gone. cc

module _ (s : TracedSystem) (pid : ℕ) (p : TracedProcess) (tail : List ℕ) (len : ℕ) where
  made-there : (m : Message) (c : Controlled) → MessageAnswer s pid p tail len m c → There c.reply
  made-there m c (answer.refuses {e = e} with_errno) = message_refusal-there m e with_errno
  made-there m c (answer.uses_up is_used e) = used len
  made-there m c (answer.goes_on waiting e) = half _
  made-there m c (answer.reads {bytes = bytes} mapped) = bytes-there bytes

  message-there : (aim : Aim) (m : Message) → There (message_answer s pid p aim m tail len).reply
  message-there aim m = made-there m (message_answer s pid p aim m tail len) (message-answered s pid p tail len aim m)

refusal-there : (m : Message) → There (reply.Fail (system_refusal m))
refusal-there (message.Set modes) = inval
refusal-there (message.Unset modes) = inval
refusal-there _ = busy

module _ (s : TracedState) (k m : ℕ) (h : Held) (held : handle_of s.opens k m ≡ Some h) (control : h.file ≡ file.Ctl)
    (a : Answer) where
  decoded-there : (p : TracedProcess) (bytes : List ℕ) (r : Result (Message × ℕ) MsgFault)
      → There (decoded_answer s.system h p bytes r).reply
  decoded-there p bytes (Err fault) = inval
  decoded-there p bytes (Ok f) =
      two (h.pid == 0) (refused s.system (system_refusal f.0))
      (message_answer s.system h.pid p (aim_of h) f.0 (tail_of f.0 bytes) f.1) (refusal-there f.0)
      (message-there s.system h.pid p (tail_of f.0 bytes) f.1 (aim_of h) f.0)

  -- a write of messages to its control file
  pub ctl-gone : (bytes : List ℕ) → answer_to s k (call.Ctl m bytes) ≡ Some a → answer_of a.reply ≡ Gone
      → live_process s.system h.pid ≡ None
  ctl-gone bytes is gone =
      by (live_process s.system h.pid)
      (sym (ap (λ (x : Answer). answer_of x.reply) (ctl-is s k m h held control bytes a is)) ∙ gone)
    where
      by : (o : Option TracedProcess) → answer_of (targeted_answer s.system h o bytes).reply ≡ Gone → o ≡ None
      by None told = refl
      by (Some p) told = absurd (decoded-there p bytes (first_message bytes) told)

  -- a wait
  wait-there : (p : TracedProcess) (until : ℕ) (interrupted : Bool) (r : Result (Message × ℕ) MsgFault) (w : Reply)
      → decoded_wait s.system h p until interrupted r ≡ Some w → There (waited s k w).reply
  wait-there p until interrupted (Err fault) w is =
      subst (λ (x : Reply). There (waited s k x).reply) (same_Some (reply.Fail Inval) w is) inval
  wait-there p until interrupted (Ok f) w is = by (waits f.0) is
    where
      plain : (x : Reply) → There (waited s k x).reply → Some x ≡ Some w → There (waited s k w).reply
      plain x there same = subst (λ (y : Reply). There (waited s k y).reply) (same_Some x w same) there

      over : (b : Bool) → cond b (Some (reply.Used f.1)) None ≡ Some w → There (waited s k w).reply
      over true same = plain (reply.Used f.1) (used f.1) same
      over false same = absurd (none-some w same)

      broken : (b : Bool)
          → cond b (Some (reply.Fail Intr)) (cond (wait_over s.system h p until) (Some (reply.Used f.1)) None) ≡ Some w
          → There (waited s k w).reply
      broken true same = plain (reply.Fail Intr) (fails Intr (λ e. cc)) same
      broken false same = over (wait_over s.system h p until) same

      zeroth : (b : Bool)
          → cond b (Some (reply.Fail Busy)) (cond interrupted (Some (reply.Fail Intr))
          (cond (wait_over s.system h p until) (Some (reply.Used f.1)) None)) ≡ Some w
          → There (waited s k w).reply
      zeroth true same = plain (reply.Fail Busy) busy same
      zeroth false same = broken interrupted same

      by : (b : Bool)
          → cond b (cond (h.pid == 0) (Some (reply.Fail Busy)) (cond interrupted (Some (reply.Fail Intr))
          (cond (wait_over s.system h p until) (Some (reply.Used f.1)) None))) (Some (reply.Fail Inval)) ≡ Some w
          → There (waited s k w).reply
      by true same = zeroth (h.pid == 0) same
      by false same = plain (reply.Fail Inval) inval same

  pub wait-gone : (until : ℕ) (bytes : List ℕ) → answer_to s k (call.CtlWait m until bytes) ≡ Some a
      → answer_of a.reply ≡ Gone → live_process s.system h.pid ≡ None
  unfolding answer_to wait_reply
  wait-gone until bytes is gone =
      by (live_process s.system h.pid) refl
      (sym (ap (λ o. option_map (waited s k) (held_wait s.system o until (is_interrupted s k) bytes))
      (control-held s k m h held control)
      ∙ ap (λ o. option_map (waited s k) (targeted_wait s.system h o until (is_interrupted s k) bytes))
      (target-live s k m h held control)) ∙ is)
    where
      found : (p : TracedProcess) (o : Option Reply)
          → decoded_wait s.system h p until (is_interrupted s k) (first_message bytes) ≡ o
          → option_map (waited s k) o ≡ Some a → There a.reply
      found p None told same = absurd (none-some a same)
      found p (Some w) told same =
          subst (λ (x : Answer). There x.reply) (same_Some (waited s k w) a same)
          (wait-there p until (is_interrupted s k) (first_message bytes) w told)

      by : (o : Option TracedProcess) → live_process s.system h.pid ≡ o
          → option_map (waited s k) (targeted_wait s.system h o until (is_interrupted s k) bytes) ≡ Some a
          → live_process s.system h.pid ≡ None
      by None none told = none
      by (Some p) live told =
          absurd (found p (decoded_wait s.system h p until (is_interrupted s k) (first_message bytes)) refl told gone)

-- ---- its other files are opened

module _ (s : TracedState) (k pid : ℕ) (f : File) (reads : is_read f ≡ true) (a : Answer) where
  has-file : (p : TracedProcess) (g : File) → is_read g ≡ true → p.ended ≡ None → has_file (Some p) g 0 ≡ true
  has-file p file.Status is ended = rw ended refl
  has-file p file.Lstatus is ended = rw ended refl
  has-file p file.Mem is ended = rw ended refl
  has-file p _ is ended = absurd (false≢true is)

  abbrev held : Held
  held = record { controller = k; pid = pid; lwp = 0; file = f; mode = Read }

  opened-there : (o : Option ℕ) → There (opened s held o).reply
  opened-there None = fails Mfile (λ e. cc)
  opened-there (Some place) = handle-there place

  refused-there : (a b c : Bool) → b ≡ true
      → There (open_unless s held
      (cond a (Some Inval) (cond (not b) (Some Noent) (cond c (Some Busy) None)))).reply
  refused-there true b c has = inval
  refused-there false true true has = busy
  refused-there false true false has = opened-there (position is_none s.opens)
  refused-there false false c has = absurd (false≢true has)

  pub open-gone : answer_to s k (call.Open pid 0 f Read) ≡ Some a → answer_of a.reply ≡ Gone
      → live_process s.system pid ≡ None
  unfolding answer_to open_answer open_refusal
  open-gone is gone = by (live_process s.system pid) refl
    where
      by : (o : Option TracedProcess) → live_process s.system pid ≡ o → live_process s.system pid ≡ None
      by None none = none
      by (Some p) live =
          let found = found-live s.system pid p live in
          absurd (subst (λ (x : Answer). There x.reply) (same_Some _ a is)
          (refused-there _ (has_file (process_of s.system pid) f 0) (conflicts pid Read s.opens)
          (ap (λ o. has_file o f 0) found.0 ∙ has-file p f reads found.1)) gone)
