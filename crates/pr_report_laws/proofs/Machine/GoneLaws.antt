use Rattle.std.proofs.Common.{◌≡◌, ◌≢◌, ◌⊎◌, ◌==◌, ◌||◌, ℕ, Bool, true, false, cond, nat_lt, None, Some, Option, Result, Ok, Err, List, [], ◌∷◌, refl, sym, ap, ◌∙◌, inl, inr}
use Rattle.std.proofs.lemmas.Bool.{false≢true}
use Rattle.pr_model.specs.Calls.{Answer, answer_to}
use Rattle.pr_model.specs.ControlMessages.{aim_of, decoded_answer, system_refusal, tail_of, targeted_answer}
use Rattle.pr_model.specs.Handles.{handle_of, is_control, outlives}
use Rattle.pr_model.specs.Messages.{at_process, message_answer, refused, run_answer, with_process_changed}
use Rattle.pr_model.specs.Readers.{space_seen}
use Rattle.pr_model.specs.Reads.{file_read, file_reply, mapped_from, of_process, unless_none}
use Rattle.pr_model.specs.Running.{run_refused, with_run}
use Rattle.pr_model.specs.State.{TracedProcess, TracedState, TracedSystem, live_process}
use Rattle.pr_model.specs.declared.calls.Call.TheVariants as call
use Rattle.pr_model.specs.declared.calls.File.{File}
use Rattle.pr_model.specs.declared.calls.File.TheVariants as file
use Rattle.pr_model.specs.declared.calls.Reply.{Reply}
use Rattle.pr_model.specs.declared.calls.Reply.TheVariants as reply
use Rattle.pr_model.specs.declared.handles.Held.{Held}
use Rattle.pr_num.specs.Control.{fork_mode}
use Rattle.pr_num.specs.Limits.{read_limit}
use Rattle.pr_num.specs.Messages.{first_message, spelling}
use Rattle.pr_num.specs.declared.errnos.Errno.TheVariants.{Busy, Inval}
use Rattle.pr_num.specs.declared.messages.Message.{Message}
use Rattle.pr_num.specs.declared.messages.Message.TheVariants as message
use Rattle.pr_num.specs.declared.messages.MsgFault.{MsgFault}
use Rattle.pr_truss.specs.Messages.{message_call}
use Rattle.pr_truss.specs.NextCalls.{run_call}
use Rattle.pr_truss.specs.Replies.{answer_of}
use Rattle.pr_truss.specs.declared.replies.Answer.TheVariants.{Gone}
use Rattle.pr_report_laws.proofs.Machine.ControlLaws.{run-reads, unfollow-reads}
use Rattle.pr_report_laws.proofs.Machine.RecordLaws.{held-is, lives-by, read-is}
use Rattle.pr_truss_laws.proofs.Machine.TakenLemmas.{ReadsAs, ctl-is, process-aim}

-- The machine says that a process is gone only where it has ended.

-- ---- reads of its files

-- the files of a process that truss reads
abbrev pub is_read : File → Bool
is_read file.Status = true
is_read file.Lstatus = true
is_read file.Mem = true
is_read _ = false

read-plain : (f : File) → is_read f ≡ true → is_control f ≡ false
read-plain file.Status is = refl
read-plain file.Lstatus is = refl
read-plain file.Mem is = refl
read-plain file.Ctl is = absurd (false≢true is)
read-plain file.Lwpctl is = absurd (false≢true is)
read-plain file.Psinfo is = refl
read-plain _ is = refl

read-ends : (f : File) → is_read f ≡ true → outlives f ≡ false
read-ends file.Status is = refl
read-ends file.Lstatus is = refl
read-ends file.Mem is = refl
read-ends file.Psinfo is = absurd (false≢true is)
read-ends file.Usage is = absurd (false≢true is)
read-ends _ is = refl

memory-there : (bytes : List ℕ) → answer_of (unless_none bytes) ≢ Gone
unfolding answer_of
memory-there [] gone = cc
memory-there (b ∷ bytes) gone = cc

live-there : (s : TracedSystem) (pid id from len : ℕ) (p : TracedProcess) (f : File) → is_read f ≡ true
    → answer_of (file_reply s pid p id from len f) ≢ Gone
unfolding file_reply answer_of
live-there s pid id from len p file.Status is gone = cc
live-there s pid id from len p file.Lstatus is gone = cc
live-there s pid id from len p file.Mem is gone = memory-there (mapped_from (space_seen s p) from len) gone
live-there s pid id from len p _ is gone = absurd (false≢true is)

refused-length : answer_of (reply.Fail Inval) ≢ Gone
unfolding answer_of
refused-length gone = cc

-- bytes that a reply gives
pub record GivesBytes (r : Reply) : Type 0 where
  pub bytes : List ℕ
  pub is : r ≡ reply.Bytes bytes

module _ (s : TracedState) (k m : ℕ) (h : Held) (held : handle_of s.opens k m ≡ Some h) (a : Answer) where
  reply-is : (from len : ℕ) (f : File) → h.file ≡ f → is_read f ≡ true → answer_to s k (call.Read m from len) ≡ Some a
      → a.reply ≡ cond ((len == 0) || nat_lt read_limit len) (reply.Fail Inval)
      (of_process s.system h.pid h.lwp from len f (live_process s.system h.pid))
  unfolding file_read
  reply-is from len f same read is =
      ap (λ (x : Answer). x.reply) (read-is s k m from len a is)
      ∙ held-is s k m from len h f held same (read-plain f read)
      ∙ ap (λ o. cond ((len == 0) || nat_lt read_limit len) (reply.Fail Inval)
      (of_process s.system h.pid h.lwp from len f o)) (lives-by s.system h.pid f (read-ends f read))

  -- A read that is told so: the process has ended.
  pub read-gone : (from len : ℕ) (f : File) → h.file ≡ f → is_read f ≡ true
      → answer_to s k (call.Read m from len) ≡ Some a → answer_of a.reply ≡ Gone → live_process s.system h.pid ≡ None
  read-gone from len f same read is gone =
      by ((len == 0) || nat_lt read_limit len) (live_process s.system h.pid)
      (sym (ap answer_of (reply-is from len f same read is)) ∙ gone)
    where
      by : (b : Bool) (o : Option TracedProcess)
          → answer_of (cond b (reply.Fail Inval) (of_process s.system h.pid h.lwp from len f o)) ≡ Gone → o ≡ None
      by true o told = absurd (refused-length told)
      by false None told = refl
      by false (Some p) told = absurd (live-there s.system h.pid h.lwp from len p f read told)

  -- A read that gives bytes: the process lives.
  pub read-lives : (from len : ℕ) (f : File) (bytes : List ℕ) → h.file ≡ f → is_read f ≡ true
      → answer_to s k (call.Read m from len) ≡ Some a → a.reply ≡ reply.Bytes bytes → live_process s.system h.pid ≢ None
  read-lives from len f bytes same read is given =
      by ((len == 0) || nat_lt read_limit len) (live_process s.system h.pid) (sym (reply-is from len f same read is)
      ∙ given)
    where
      by : (b : Bool) (o : Option TracedProcess)
          → cond b (reply.Fail Inval) (of_process s.system h.pid h.lwp from len f o) ≡ reply.Bytes bytes → o ≢ None
      by true o told none = cc
      by false None told none = cc
      by false (Some p) told none = cc

  -- The statuses of its lwps are read, or the process has ended.
  pub lwps-given : h.file ≡ file.Lstatus → answer_to s k (call.Read m 0 read_limit) ≡ Some a
      → (live_process s.system h.pid ≡ None) ⊎ GivesBytes a.reply
  unfolding file_reply
  lwps-given same is = by (live_process s.system h.pid) (reply-is 0 read_limit file.Lstatus same refl is)
    where
      by : (o : Option TracedProcess) → a.reply ≡ of_process s.system h.pid h.lwp 0 read_limit file.Lstatus o
          → (o ≡ None) ⊎ GivesBytes a.reply
      by None told = inl refl
      by (Some p) told = inr (record { bytes = _; is = told })

-- ---- control messages

abbrev Read : Type 0
Read = Result (Message × ℕ) MsgFault

refused-busy : answer_of (reply.Fail Busy) ≢ Gone
unfolding answer_of
refused-busy gone = cc

taken-whole : (len : ℕ) → answer_of (reply.Used len) ≢ Gone
unfolding answer_of
taken-whole len gone = cc

module _ (s : TracedState) (k m : ℕ) (h : Held) (held : handle_of s.opens k m ≡ Some h) (control : h.file ≡ file.Ctl)
    (a : Answer) where
  -- a message for which neither its row nor process 0 says so
  message-lives : (bytes : List ℕ) (msg : Message) → ReadsAs msg (first_message bytes)
      → answer_of (reply.Fail (system_refusal msg)) ≢ Gone
      → ((p : TracedProcess) (tail : List ℕ) (len : ℕ) → answer_of
      (message_answer s.system h.pid p at_process msg tail len).reply ≢ Gone)
      → answer_to s k (call.Ctl m bytes) ≡ Some a → answer_of a.reply ≡ Gone → live_process s.system h.pid ≡ None
  message-lives bytes msg reads zero_not row_not is gone =
      by (live_process s.system h.pid)
      (sym (ap (λ (x : Answer). answer_of x.reply) (ctl-is s k m h held control bytes a is)) ∙ gone)
    where
      by-process : (p : TracedProcess) (x : Message) (len : ℕ) → x ≡ msg → (b : Bool)
          → answer_of
          (cond b (refused s.system (system_refusal x))
          (message_answer s.system h.pid p (aim_of h) x (tail_of x bytes) len)).reply ≡ Gone → ⊥
      by-process p x len same true told =
          zero_not (ap (λ y. answer_of (reply.Fail (system_refusal y))) (sym same) ∙ told)
      by-process p x len same false told =
          row_not p (tail_of x bytes) len
          (ap (λ y. answer_of (message_answer s.system h.pid p at_process y (tail_of x bytes) len).reply) (sym same)
          ∙ ap (λ y. answer_of (message_answer s.system h.pid p y x (tail_of x bytes) len).reply)
          (sym (process-aim h control)) ∙ told)

      by-read : (p : TracedProcess) (r : Read) → ReadsAs msg r
          → answer_of (decoded_answer s.system h p bytes r).reply ≡ Gone → ⊥
      by-read p (Err fault) same told = refused-length told
      by-read p (Ok first) same told = by-process p first.0 first.1 same (h.pid == 0) told

      by : (o : Option TracedProcess) → answer_of (targeted_answer s.system h o bytes).reply ≡ Gone → o ≡ None
      by None told = refl
      by (Some p) told = absurd (by-read p (first_message bytes) reads told)

  run-row : (p : TracedProcess) (tail : List ℕ) (len : ℕ)
      → answer_of (message_answer s.system h.pid p at_process (message.Run 0) tail len).reply ≢ Gone
  unfolding message_answer run_answer
  run-row p tail len gone = by (run_refused p) gone
    where
      by : (b : Bool)
          → answer_of
          (cond b (refused s.system Busy) (with_process_changed s.system h.pid p len (with_run 0))).reply ≡ Gone → ⊥
      by true told = refused-busy told
      by false told = taken-whole len told

  -- PCRUN, and PCUNSET of inherit-on-fork
  pub run-gone : answer_to s k (run_call m) ≡ Some a → answer_of a.reply ≡ Gone → live_process s.system h.pid ≡ None
  run-gone is gone = message-lives (spelling (message.Run 0) []) (message.Run 0) run-reads refused-busy run-row is gone

  unset-row : (p : TracedProcess) (tail : List ℕ) (len : ℕ)
      → answer_of (message_answer s.system h.pid p at_process (message.Unset fork_mode) tail len).reply ≢ Gone
  unfolding message_answer
  unset-row p tail len gone = taken-whole len gone

  pub unfollow-gone : answer_to s k (message_call m (message.Unset fork_mode)) ≡ Some a → answer_of a.reply ≡ Gone
      → live_process s.system h.pid ≡ None
  unfollow-gone is gone =
      message-lives (spelling (message.Unset fork_mode) [])
      (message.Unset fork_mode) unfollow-reads refused-length unset-row is gone
