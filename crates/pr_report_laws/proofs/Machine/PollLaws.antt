use Rattle.std.proofs.Common.{◌≡◌, ◌≢◌, ◌==◌, ◌||◌, ◌+◌, ℕ, suc, Bool, true, false, not, cond, is_none, nat_lt, None, Some, Option, List, [], ◌∷◌, Result, Ok, Err, length, refl, sym, subst, ap, ◌∙◌, inl, inr, ◌⊎◌}
use Rattle.std.proofs.lemmas.Bool.{false≢true}
use Rattle.std.proofs.lemmas.Option.{none-some, same_Some}
use Rattle.std.specs.List.{find, list_all, position, slice_get}
use Rattle.pr_num.proofs.SearchLemmas.{find-passes}
use Rattle.pr_num.specs.Limits.{controller_limit, handle_limit}
use Rattle.pr_num.specs.Messages.{first_message}
use Rattle.pr_num.specs.Programs.{Program}
use Rattle.pr_num.specs.Sets.{with_number}
use Rattle.pr_num.specs.Signals.{signal_of_number}
use Rattle.pr_num.specs.declared.errnos.Errno.{Errno}
use Rattle.pr_num.specs.declared.errnos.Errno.TheVariants.{Again, Badf, Busy, Inval, Intr, Io, Mfile, Noent, Nomem, Perm, Srch}
use Rattle.pr_num.specs.declared.messages.Message.{Message}
use Rattle.pr_num.specs.declared.messages.Message.TheVariants as message
use Rattle.pr_num.specs.declared.messages.MsgFault.{MsgFault}
use Rattle.pr_num.specs.declared.signals.Sig.{Sig}
use Rattle.pr_model.specs.Calls.{Answer, answer_to, close_answer, close_held, control_ready, interrupt_answer, interrupted_answer, is_handle_ready, is_held_ready, is_interrupted, is_open_by, is_polled_ready, kill_answer, open_answer, open_unless, opened, poll_answer, ready_answer, refused, sent_reply, spawn_answer, spawn_found, spawn_unless}
use Rattle.pr_model.specs.ControlMessages.{aim_of, control_answer, control_handle, decoded_answer, held_answer, system_refusal, tail_of, target_of, targeted_answer}
use Rattle.pr_model.specs.Handles.{handle_of, is_control, open_refusal}
use Rattle.pr_model.specs.Messages.{Aim, Controlled, message_answer, refused as message_refused}
use Rattle.pr_model.specs.ProcessCalls.{program_named}
use Rattle.pr_model.specs.Readers.{Life, a_zombie, gone, life_of, live as lives, space_seen}
use Rattle.pr_model.specs.Reads.{file_read, file_reply, held_read, mapped_from, of_lwp, of_process, read_process, read_reply, readable, unless_none}
use Rattle.pr_model.specs.SignalCalls.{Sending, refuses, sending, sends, sends_nothing}
use Rattle.pr_model.specs.Spawning.{spawn_refusal}
use Rattle.pr_model.specs.State.{Places, TracedLwp, TracedProcess, TracedState, TracedSystem, live_process, lwp_of}
use Rattle.pr_model.specs.Stops.{is_stopped}
use Rattle.pr_model.specs.declared.calls.Call.{Call}
use Rattle.pr_model.specs.declared.calls.Call.TheVariants as call
use Rattle.pr_model.specs.declared.calls.File.{File}
use Rattle.pr_model.specs.declared.calls.File.TheVariants as file
use Rattle.pr_model.specs.declared.calls.Mode.{Mode}
use Rattle.pr_model.specs.declared.calls.Reply.{Reply}
use Rattle.pr_model.specs.declared.calls.Reply.TheVariants as reply
use Rattle.pr_model.specs.declared.handles.Held.{Held}
use Rattle.pr_keeps.proofs.MessageLemmas.{message-answered}
use Rattle.pr_keeps.specs.MessageAnswers as answer
use Rattle.pr_keeps.specs.MessageAnswers.{MessageAnswer, MessageRefusal}
use Rattle.pr_truss.specs.Replies.{answer_of}
use Rattle.pr_truss.specs.declared.replies.Answer.TheVariants.{Interrupted}
use Rattle.pr_truss_laws.proofs.Replies.AnswerLemmas.{IsAnswer, answer-is}
use Rattle.pr_truss_laws.proofs.Files.OpensLemmas.{looking-stays}
use Rattle.pr_truss_laws.proofs.Machine.TakenLemmas.{target-live}
use Rattle.pr_report_laws.proofs.Files.KeepLemmas.{can_wait}
use Rattle.pr_report_laws.proofs.Machine.ControlLaws.{target-process}

-- What a poll says of the processes whose control files it names, and which calls can be interrupted.

-- ---- polls

-- A poll that found a handle ready: one that it named, which the controller has open.
pub record IsNamedReady (s : TracedState) (k : ℕ) (handles : List ℕ) (m : ℕ) : Type 0 where
  pub place : ℕ
  pub named : slice_get handles place ≡ Some m
  pub held : Held
  pub is : handle_of s.opens k m ≡ Some held
  pub ready : is_handle_ready s.system held ≡ true

-- A process of an id that lives and is stopped on an event of interest.
pub record IsStoppedAt (s : TracedSystem) (pid : ℕ) : Type 0 where
  pub process : TracedProcess
  pub live : live_process s pid ≡ Some process
  pub stopped : is_stopped process ≡ true

control-ready : (s : TracedSystem) (h : Held) → h.file ≡ file.Ctl
    → is_handle_ready s h ≡ control_ready h (target_of s h)
unfolding is_handle_ready
control-ready s h control =
    ap (λ f. cond (is_control f) (control_ready h (target_of s h)) (is_none (live_process s h.pid))) control

-- What a poll replies: a handle that is ready, or a refusal.
pub record FindsReady (s : TracedState) (k : ℕ) (handles : List ℕ) (r : Reply) : Type 0 where
  pub handle : ℕ
  pub reply : r ≡ reply.Ready handle
  pub ready : IsNamedReady s k handles handle

pub record IsRefusal (r : Reply) : Type 0 where
  pub errno : Errno
  pub reply : r ≡ reply.Fail errno

found-at : (q : ℕ → Bool) (ms : List ℕ) (m : ℕ) → find q ms ≡ Some m → (place : ℕ) × (slice_get ms place ≡ Some m)
found-at q [] m found = absurd (none-some m found)
found-at q (x ∷ ms) m found =
    elim (q x) as (λ b. cond b (Some x) (find q ms) ≡ Some m → (place : ℕ) × (slice_get (x ∷ ms) place ≡ Some m))
    [ true ↦ λ it. (0, it) | false ↦ λ it. (let rest = found-at q ms m it in (suc rest.0, rest.1)) ] found

module _ (s : TracedState) (k : ℕ) (handles : List ℕ) where
  ready-held : (m : ℕ) → find (is_polled_ready s k) handles ≡ Some m → IsNamedReady s k handles m
  unfolding is_polled_ready
  ready-held m found = by (handle_of s.opens k m) refl (find-passes (is_polled_ready s k) handles m found)
    where
      by : (o : Option Held) → handle_of s.opens k m ≡ o → is_held_ready s.system o ≡ true → IsNamedReady s k handles m
      by None is it = cc
      by (Some h) is it =
          let at_place = found-at (is_polled_ready s k) handles m found in
          record { place = at_place.0; named = at_place.1; held = h; is = is; ready = it }

  refusal-here : (e : Errno) (t : TracedState) (a : Answer) → Some (refused t e) ≡ Some a → IsRefusal a.reply
  refusal-here e t a is = record { errno = e; reply = ap (λ (x : Answer). x.reply) (sym (same_Some _ a is)) }

  pub poll-replies : (a : Answer) → answer_to s k (call.Poll handles) ≡ Some a
      → FindsReady s k handles a.reply ⊎ IsRefusal a.reply
  unfolding answer_to poll_answer
  poll-replies a is = by-open (not (list_all (is_open_by s.opens k) handles)) is
    where
      by-found : (o : Option ℕ) → find (is_polled_ready s k) handles ≡ o → ready_answer s o ≡ Some a
          → FindsReady s k handles a.reply ⊎ IsRefusal a.reply
      by-found None found it = absurd (none-some a it)
      by-found (Some m) found it =
          inl (record {
            handle = m;
            reply = ap (λ (x : Answer). x.reply) (sym (same_Some _ a it));
            ready = ready-held m found;
          })

      by-interrupt : (b : Bool)
          → cond b (Some (interrupted_answer s k)) (ready_answer s (find (is_polled_ready s k) handles)) ≡ Some a
          → FindsReady s k handles a.reply ⊎ IsRefusal a.reply
      by-interrupt true it = inr (refusal-here Intr _ a it)
      by-interrupt false it = by-found (find (is_polled_ready s k) handles) refl it

      by-number : (b : Bool)
          → cond b (Some (refused s Inval))
          (cond (is_interrupted s k) (Some (interrupted_answer s k))
          (ready_answer s
          (find (is_polled_ready s k) handles))) ≡ Some a → FindsReady s k handles a.reply ⊎ IsRefusal a.reply
      by-number true it = inr (refusal-here Inval s a it)
      by-number false it = by-interrupt (is_interrupted s k) it

      by-open : (b : Bool)
          → cond b (Some (refused s Badf))
          (cond ((length handles == 0) || nat_lt handle_limit (length handles)) (Some (refused s Inval))
          (cond (is_interrupted s k) (Some (interrupted_answer s k))
          (ready_answer s
          (find (is_polled_ready s k) handles)))) ≡ Some a → FindsReady s k handles a.reply ⊎ IsRefusal a.reply
      by-open true it = inr (refusal-here Badf s a it)
      by-open false it = by-number ((length handles == 0) || nat_lt handle_limit (length handles)) it

  -- A poll leaves the system.
  pub poll-stays : (a : Answer) → answer_to s k (call.Poll handles) ≡ Some a → a.state.system ≡ s.system
  poll-stays a is = ap (λ (x : TracedState). x.system) (looking-stays s k (call.Poll handles) a refl is)

  -- The handle that a poll found ready was named.
  pub poll-named : (a : Answer) (m : ℕ) → answer_to s k (call.Poll handles) ≡ Some a → a.reply ≡ reply.Ready m
      → IsNamedReady s k handles m
  poll-named a m is ready =
      elim (poll-replies a is) [
        | inl f ↦ subst (IsNamedReady s k handles) (same-handle f.handle m (sym f.reply
            ∙ ready)) f.ready
        | inr r ↦ absurd (clash r.errno (sym r.reply ∙ ready))
      ]
    where
      same-handle : (x y : ℕ) → reply.Ready x ≡ reply.Ready y → x ≡ y
      same-handle x y same = cc

      clash : (e : Errno) → reply.Fail e ≡ reply.Ready m → ⊥
      clash e same = cc

  -- The process of a control file that a poll found ready has ended or is stopped on an event of interest.
  pub poll-ready : (a : Answer) (m : ℕ) (h : Held) → answer_to s k (call.Poll handles) ≡ Some a
      → a.reply ≡ reply.Ready m → handle_of s.opens k m ≡ Some h → h.file ≡ file.Ctl
      → (live_process s.system h.pid ≡ None) ⊎ IsStoppedAt s.system h.pid
  poll-ready a m h is ready held control =
      let named = poll-named a m is ready in
      let same : named.held ≡ h = same_Some named.held h (sym named.is ∙ held) in
      let it : is_handle_ready s.system h ≡ true =
      subst (λ (x : Held). is_handle_ready s.system x ≡ true) same named.ready in
      by (live_process s.system h.pid) refl (sym (control-ready s.system h control
      ∙ ap (control_ready h) (target-live s k m h held control)) ∙ it)
    where
      by : (o : Option TracedProcess) → live_process s.system h.pid ≡ o → control_ready h o ≡ true
          → (live_process s.system h.pid ≡ None) ⊎ IsStoppedAt s.system h.pid
      by None live it = inl live
      by (Some p) live it = inr (record { process = p; live = live; stopped = sym (target-process h p control) ∙ it })

-- ---- interrupts

-- whether a reply is not that of an interrupted wait
abbrev is_calm : Reply → Bool
is_calm (reply.Fail Intr) = false
is_calm _ = true

-- No control message is refused so.
IsCalm : Controlled → Type 0
IsCalm c = is_calm c.reply ≡ true

calm : (t : TracedSystem) (r : Reply) → is_calm r ≡ true → IsCalm (record { system = t; reply = r })
unfolding IsCalm
calm t r is = is

either : (b : Bool) (x y : Controlled) → IsCalm x → IsCalm y → IsCalm (cond b x y)
either true x y one other = one
either false x y one other = other

refusal-calm : (m : Message) (e : Errno) → MessageRefusal m e → is_calm (reply.Fail e) ≡ true
refusal-calm m e answer.run_busy = refl
refusal-calm m e _ = refl

module _ (s : TracedSystem) (pid : ℕ) (p : TracedProcess) (tail : List ℕ) (len : ℕ) where
  made-calm : (m : Message) (c : Controlled) → MessageAnswer s pid p tail len m c → IsCalm c
  made-calm m c (answer.refuses {e = e} with_errno) = calm s (reply.Fail e) (refusal-calm m e with_errno)
  made-calm m c (answer.uses_up used e) = calm _ (reply.Used len) refl
  made-calm m c (answer.goes_on waiting e) = calm _ (reply.Half _) refl
  made-calm m c (answer.reads {bytes = bytes} mapped) = calm s (reply.Bytes bytes) refl

  message-calm : (aim : Aim) (m : Message) → IsCalm (message_answer s pid p aim m tail len)
  message-calm aim m = made-calm m (message_answer s pid p aim m tail len) (message-answered s pid p tail len aim m)

module _ (s : TracedSystem) where
  system-calm : (m : Message) → IsCalm (message_refused s (system_refusal m))
  unfolding IsCalm
  system-calm (message.Set modes) = refl
  system-calm _ = refl

  decoded-calm : (h : Held) (p : TracedProcess) (bytes : List ℕ) (r : Result (Message × ℕ) MsgFault)
      → IsCalm (decoded_answer s h p bytes r)
  decoded-calm h p bytes (Err fault) = calm s (reply.Fail Inval) refl
  decoded-calm h p bytes (Ok m) =
      either _ _ _ (system-calm m.0) (message-calm s h.pid p (tail_of m.0 bytes) m.1 (aim_of h) m.0)

  targeted-calm : (h : Held) (o : Option TracedProcess) (bytes : List ℕ) → IsCalm (targeted_answer s h o bytes)
  targeted-calm h None bytes = calm s (reply.Fail Noent) refl
  targeted-calm h (Some p) bytes = decoded-calm h p bytes (first_message bytes)

  held-calm : (o : Option Held) (bytes : List ℕ) → IsCalm (held_answer s o bytes)
  held-calm None bytes = calm s (reply.Fail Badf) refl
  held-calm (Some h) bytes = targeted-calm h (target_of s h) bytes

  control-calm : (opens : Places) (by handle : ℕ) (bytes : List ℕ) → IsCalm (control_answer s opens by handle bytes)
  unfolding control_answer
  control-calm opens by handle bytes = held-calm (control_handle (handle_of opens by handle)) bytes

-- ---- the other calls, a row a call

Calm : Reply → Type 0
Calm r = is_calm r ≡ true

made : (r : Reply) → is_calm r ≡ true → Calm r
unfolding Calm
made r is = is

one-of : (b : Bool) (x y : Reply) → Calm x → Calm y → Calm (cond b x y)
one-of true x y one other = one
one-of false x y one other = other

-- a refusal, if there is one
CalmIf : Option Errno → Type 0
CalmIf None = Unit {0}
CalmIf (Some e) = is_calm (reply.Fail e) ≡ true

none-refuses : CalmIf None
unfolding CalmIf
none-refuses = tt

refuses-calmly : (e : Errno) → is_calm (reply.Fail e) ≡ true → CalmIf (Some e)
unfolding CalmIf
refuses-calmly e is = is

one-if : (b : Bool) (x y : Option Errno) → CalmIf x → CalmIf y → CalmIf (cond b x y)
one-if true x y one other = one
one-if false x y one other = other

open-calm : (s : TracedState) (h : Held) (o : Option Errno) → CalmIf o → Calm (open_unless s h o).reply
unfolding CalmIf
open-calm s h (Some e) it = made (reply.Fail e) it
open-calm s h None it = by (position is_none s.opens)
  where
    by : (o : Option ℕ) → Calm (opened s h o).reply
    by None = made (reply.Fail Mfile) refl
    by (Some place) = made (reply.Handle place) refl

open_refusal-calm : (s : TracedState) (pid id : ℕ) (f : File) (mode : Mode) → CalmIf (open_refusal s pid id f mode)
unfolding open_refusal
open_refusal-calm s pid id f mode =
    one-if _ _ _ (refuses-calmly Inval refl)
    (one-if _ _ _ (refuses-calmly Noent refl) (one-if _ _ _ (refuses-calmly Busy refl) none-refuses))

close-calm : (s : TracedState) (handle : ℕ) (o : Option Held) → Calm (close_held s handle o).reply
close-calm s handle None = made (reply.Fail Badf) refl
close-calm s handle (Some h) = made reply.Done refl

bytes-calm : (bytes : List ℕ) → Calm (unless_none bytes)
bytes-calm [] = made (reply.Fail Io) refl
bytes-calm (b ∷ bytes) = made (reply.Bytes (b ∷ bytes)) refl

lwp-calm : (p : TracedProcess) (id from len : ℕ) (o : Option TracedLwp) → Calm (of_lwp p id from len o)
lwp-calm p id from len None = made (reply.Fail Noent) refl
lwp-calm p id from len (Some l) = made (reply.Bytes _) refl

file-calm : (s : TracedSystem) (pid : ℕ) (p : TracedProcess) (id from len : ℕ) (f : File)
    → Calm (file_reply s pid p id from len f)
unfolding file_reply
file-calm s pid p id from len file.Ctl = made (reply.Fail Badf) refl
file-calm s pid p id from len file.Lwpctl = made (reply.Fail Badf) refl
file-calm s pid p id from len file.Mem = bytes-calm (mapped_from (space_seen s p) from len)
file-calm s pid p id from len file.Lwpstatus = lwp-calm p id from len (lwp_of p id)
file-calm s pid p id from len _ = made (reply.Bytes _) refl

process-calm : (s : TracedSystem) (pid id from len : ℕ) (f : File) (o : Option TracedProcess)
    → Calm (of_process s pid id from len f o)
process-calm s pid id from len f None = made (reply.Fail Noent) refl
process-calm s pid id from len f (Some p) = file-calm s pid p id from len f

held_read-calm : (s : TracedSystem) (o : Option Held) (from len : ℕ) → Calm (held_read s o from len)
unfolding file_read
held_read-calm s None from len = made (reply.Fail Badf) refl
held_read-calm s (Some h) from len =
    one-of _ _ _ (made (reply.Fail Inval) refl)
    (process-calm s h.pid h.lwp from len h.file (read_process s h.pid h.file))

interrupt-calm : (s : TracedState) (controller : ℕ) → Calm (interrupt_answer s controller).reply
unfolding interrupt_answer
interrupt-calm s controller = by (nat_lt controller controller_limit)
  where
    by : (b : Bool)
        → Calm (let x : Answer = cond b
        (record { state = record s { interrupted = with_number s.interrupted (controller + 1) }; reply = reply.Done })
        (refused s Inval) in x).reply
    by true = made reply.Done refl
    by false = made (reply.Fail Inval) refl

spawn_refusal-calm : (s : TracedSystem) (program : Program) → CalmIf (spawn_refusal s program)
unfolding spawn_refusal
spawn_refusal-calm s program =
    one-if _ _ _ (refuses-calmly Again refl) (one-if _ _ _ none-refuses (refuses-calmly Nomem refl))

spawn-calm : (s : TracedState) (held : Bool) (o : Option Program) → Calm (spawn_found s held o).reply
unfolding CalmIf
spawn-calm s held None = made (reply.Fail Noent) refl
spawn-calm s held (Some program) = by (spawn_refusal s.system program) (spawn_refusal-calm s.system program)
  where
    by : (o : Option Errno) → CalmIf o → Calm (spawn_unless s program held o).reply
    by (Some e) it = made (reply.Fail e) it
    by None it = made (reply.Pid s.system.made) refl

CalmSending : Sending → Type 0
CalmSending x = Calm (sent_reply x)

sends-calmly : (x : Sending) → is_calm (sent_reply x) ≡ true → CalmSending x
unfolding CalmSending
sends-calmly x is = made (sent_reply x) is

one-sending : (b : Bool) (x y : Sending) → CalmSending x → CalmSending y → CalmSending (cond b x y)
one-sending true x y one other = one
one-sending false x y one other = other

sending-calm : (target number : ℕ) (life : Life) → CalmSending (sending target number life)
unfolding sending
sending-calm target number gone =
    one-sending _ _ _ (sends-calmly (refuses Inval) refl)
    (one-sending _ _ _ (sends-calmly (refuses Perm) refl) (sends-calmly (refuses Srch) refl))
sending-calm target number a_zombie =
    one-sending _ _ _ (sends-calmly (refuses Inval) refl)
    (one-sending _ _ _ (sends-calmly (refuses Perm) refl) (sends-calmly sends_nothing refl))
sending-calm target number (lives pending) =
    by (signal_of_number number) refl
  where
    by : (o : Option Sig) → signal_of_number number ≡ o → CalmSending (sending target number (lives pending))
    by None is =
        rw is (one-sending _ _ _ (sends-calmly (refuses Inval) refl)
        (one-sending _ _ _ (sends-calmly (refuses Perm) refl) (sends-calmly sends_nothing refl)))
    by (Some g) is =
        rw is (one-sending _ _ _ (sends-calmly (refuses Inval) refl)
        (one-sending _ _ _ (sends-calmly (refuses Perm) refl)
        (one-sending _ _ _ (sends-calmly (sends g) refl) (sends-calmly (refuses Again) refl))))

-- Only a call that may have to wait is replied that it was interrupted.
call-calm : (s : TracedState) (by : ℕ) (c : Call) (a : Answer) → can_wait c ≡ false → answer_to s by c ≡ Some a
    → Calm a.reply
unfolding answer_to open_answer close_answer spawn_answer kill_answer read_reply IsCalm CalmSending
call-calm s by (call.Open pid id f mode) a waits is =
    subst (λ (x : Answer). Calm x.reply) (same_Some _ a is)
    (open-calm s _ (open_refusal s pid id f mode) (open_refusal-calm s pid id f mode))
call-calm s by (call.Close handle) a waits is =
    subst (λ (x : Answer). Calm x.reply) (same_Some _ a is) (close-calm s handle (handle_of s.opens by handle))
call-calm s by (call.Ctl handle bytes) a waits is =
    subst (λ (x : Answer). Calm x.reply) (same_Some _ a is) (made _ (control-calm s.system s.opens by handle bytes))
call-calm s by (call.Read handle from len) a waits is =
    subst (λ (x : Answer). Calm x.reply) (same_Some _ a is)
    (held_read-calm s.system (readable (handle_of s.opens by handle)) from len)
call-calm s by (call.Interrupt controller) a waits is =
    subst (λ (x : Answer). Calm x.reply) (same_Some _ a is) (interrupt-calm s controller)
call-calm s by (call.Spawn program held) a waits is =
    subst (λ (x : Answer). Calm x.reply) (same_Some _ a is)
    (spawn-calm s held (program_named s.system.programs program))
call-calm s by (call.Kill pid number) a waits is =
    subst (λ (x : Answer). Calm x.reply) (same_Some _ a is) (sending-calm pid number (life_of s.system pid))
call-calm s by call.List a waits is =
    subst (λ (x : Answer). Calm x.reply) (same_Some _ a is) (made (reply.Bytes _) refl)
call-calm s by _ a waits is = cc

pub never-interrupted : (s : TracedState) (by : ℕ) (c : Call) (a : Answer) → can_wait c ≡ false
    → answer_to s by c ≡ Some a → answer_of a.reply ≢ Interrupted
unfolding IsAnswer Calm
never-interrupted s by c a waits is interrupted =
    let reply-is : a.reply ≡ reply.Fail Intr = subst (IsAnswer a.reply) interrupted (answer-is a.reply) in
    false≢true (sym (ap is_calm reply-is) ∙ call-calm s by c a waits is)
