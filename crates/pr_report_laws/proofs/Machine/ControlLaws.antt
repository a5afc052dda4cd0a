use Rattle.std.proofs.Common.{◌≡◌, ◌≢◌, ◌==◌, ◌||◌, ◌&&◌, ◌<◌, ◌+◌, ◌-◌, ◌*◌, ◌%◌, ◌^◌, ℕ, Bool, true, false, not, cond, nat_le, is_some, None, Some, Option, List, [], Ok, Err, refl, sym, subst, ap, ◌∙◌, arith}
use Rattle.std.proofs.lemmas.Nat.{and_mod, and_le_r, mod-pow-add}
use Rattle.std.proofs.lemmas.Option.{none-some, same_Some}
use Rattle.std.specs.Int.RustNames.{bit_and}
use Rattle.std.specs.Option.{option_map}
use Rattle.pr_line.specs.declared.options.Options.{Options}
use Rattle.pr_model.specs.Calls.{Answer, answer_to, controlled, is_interrupted, waited}
use Rattle.pr_model.specs.ControlMessages.{decoded_wait, held_wait, target_stopped, targeted_answer, targeted_wait, wait_over, wait_reply}
use Rattle.pr_model.specs.Handles.{handle_of, is_of_lwp}
use Rattle.pr_model.specs.Messages.{message_answer, tracing_entries, tracing_exits, tracing_faults, tracing_signals, with_aim_directed, with_control, with_modes, with_set, without_modes}
use Rattle.pr_model.specs.Replies.{until_in}
use Rattle.pr_model.specs.State.{TracedControl, TracedLwp, TracedProcess, TracedState, has_agent, live_process, lwp_of}
use Rattle.pr_model.specs.Stops.{directed, is_stopped, stands_on_event, with_all_directed}
use Rattle.pr_model.specs.declared.calls.Call.TheVariants as call
use Rattle.pr_model.specs.declared.calls.File.TheVariants.{Ctl}
use Rattle.pr_model.specs.declared.calls.Reply.{Reply}
use Rattle.pr_model.specs.declared.calls.Reply.TheVariants as reply
use Rattle.pr_model.specs.declared.handles.Held.{Held}
use Rattle.pr_num.proofs.ByIdLaws.{under-map_each}
use Rattle.pr_num.proofs.SetLemmas.{with_number-lt}
use Rattle.pr_num.specs.Agents.{agent_id}
use Rattle.pr_num.specs.Control.{fork_mode, rlc_mode}
use Rattle.pr_num.specs.Messages.{first_message, message_code, message_read, nth_word, one_word, operands, spelling}
use Rattle.pr_num.specs.Sets.{common_word, minus_word, with_number, without_number}
use Rattle.pr_num.specs.Signals.{signal_number}
use Rattle.pr_num.specs.Syscalls.{syscall_number}
use Rattle.pr_num.specs.Words.{IsWord, word_bytes, word_of}
use Rattle.pr_num.specs.declared.errnos.Errno.{Errno}
use Rattle.pr_num.specs.declared.errnos.Errno.TheVariants.{Busy, Intr, Inval, Noent}
use Rattle.pr_num.specs.declared.messages.Message.{Message}
use Rattle.pr_num.specs.declared.messages.Message.TheVariants as message
use Rattle.pr_num.specs.declared.signals.Sig.TheVariants.{Kill}
use Rattle.pr_num.specs.declared.syscalls.Sysno.TheVariants.{Exit, LwpExit}
use Rattle.pr_truss.proofs.ForkLemmas.{with_forks-word}
use Rattle.pr_truss.specs.Messages.{all_modes, ending_calls, message_call, traced_entries, traced_exits, traced_faults, traced_signals, with_forks}
use Rattle.pr_truss.specs.Replies.{answer_of, refusal_of}
use Rattle.pr_truss.specs.declared.replies.Answer.TheVariants.{Accepted, Gone}
use Rattle.pr_truss_laws.proofs.Files.OpensLemmas.{looking-stays}
use Rattle.pr_truss_laws.proofs.EventStops.OwnTurnLemmas.{all-directed}
use Rattle.pr_truss_laws.proofs.Machine.StillLemmas.{live-changed}
use Rattle.pr_truss_laws.proofs.Machine.TakenLemmas.{IsTaken, Read, ReadsAs, control-held, ctl-is, read-as, stop-directs, stop-reads, taken-unless, target-live}
use Rattle.pr_truss_laws.specs.Stills.{IsHalting}

-- What the control messages of truss do to the process of a control file that it holds, where they are accepted: each
-- is read then as the message that truss meant.

-- ---- how messages are read

-- these messages of truss are the same whatever its options
pub run-reads : ReadsAs (message.Run 0) (first_message (spelling (message.Run 0) []))
unfolding message_code operands nth_word word_bytes word_of message_read one_word
run-reads = read-as (spelling (message.Run 0) []) (message.Run 0) refl refl

pub clear-reads : ReadsAs (message.Unset all_modes) (first_message (spelling (message.Unset all_modes) []))
unfolding message_code operands nth_word word_bytes word_of message_read one_word
clear-reads = read-as (spelling (message.Unset all_modes) []) (message.Unset all_modes) refl refl

pub unfollow-reads : ReadsAs (message.Unset fork_mode) (first_message (spelling (message.Unset fork_mode) []))
unfolding message_code operands nth_word word_bytes word_of message_read one_word
unfollow-reads = read-as (spelling (message.Unset fork_mode) []) (message.Unset fork_mode) refl refl

pub follow-reads : ReadsAs (message.Set fork_mode) (first_message (spelling (message.Set fork_mode) []))
unfolding message_code operands nth_word word_bytes word_of message_read one_word
follow-reads = read-as (spelling (message.Set fork_mode) []) (message.Set fork_mode) refl refl

pub release-reads : ReadsAs (message.Set rlc_mode) (first_message (spelling (message.Set rlc_mode) []))
unfolding message_code operands nth_word word_bytes word_of message_read one_word
release-reads = read-as (spelling (message.Set rlc_mode) []) (message.Set rlc_mode) refl refl

-- ---- a word as its bytes

added : (a b c d e f g h p q r t u v w x : ℕ) → p ≡ a → q ≡ b * 256 + p → r ≡ c * 65536 + q → t ≡ d * 16777216 + r
    → u ≡ e * 4294967296 + t → v ≡ f * 1099511627776 + u → w ≡ g * 281474976710656 + v → x ≡ h * 72057594037927936 + w
    → a + b * 256 + c * 65536 + d * 16777216 + e * 4294967296 + f * 1099511627776 + g * 281474976710656 + h *
    72057594037927936 ≡ x
added a b c d e f g h p q r t u v w x at_0 at_1 at_2 at_3 at_4 at_5 at_6 at_7 = omega arith

-- of a number that is no word its bytes have the lowest bits
word-wrapped : (n : ℕ) → word_of (word_bytes n) ≡ n % 2 ^ 64
unfolding word_bytes word_of
word-wrapped n =
    added _ _ _ _ _ _ _ _ (n % 2 ^ 8) (n % 2 ^ 16) (n % 2 ^ 24) (n % 2 ^ 32) (n % 2 ^ 40) (n % 2 ^ 48) (n % 2 ^ 56)
    (n % 2 ^ 64)
    refl (mod-pow-add n 8 8) (mod-pow-add n 8 16) (mod-pow-add n 8 24) (mod-pow-add n 8 32) (mod-pow-add n 8 40)
    (mod-pow-add n 8 48) (mod-pow-add n 8 56)

pub signals-read : (w : ℕ) → ReadsAs (message.Strace (w % 2 ^ 64)) (first_message (spelling (message.Strace w) []))
unfolding message_code operands nth_word word_bytes word_of message_read one_word
signals-read w =
    let bytes : List ℕ = spelling (message.Strace w) [] in
    subst (λ v. ReadsAs (message.Strace v) (first_message bytes)) (word-wrapped w)
    (read-as bytes (message.Strace (nth_word bytes 1)) refl refl)

pub faults-read : (w : ℕ) → ReadsAs (message.Sfault (w % 2 ^ 64)) (first_message (spelling (message.Sfault w) []))
unfolding message_code operands nth_word word_bytes word_of message_read one_word
faults-read w =
    let bytes : List ℕ = spelling (message.Sfault w) [] in
    subst (λ v. ReadsAs (message.Sfault v) (first_message bytes)) (word-wrapped w)
    (read-as bytes (message.Sfault (nth_word bytes 1)) refl refl)

pub entries-read : (w : ℕ) → ReadsAs (message.Sentry (w % 2 ^ 64)) (first_message (spelling (message.Sentry w) []))
unfolding message_code operands nth_word word_bytes word_of message_read one_word
entries-read w =
    let bytes : List ℕ = spelling (message.Sentry w) [] in
    subst (λ v. ReadsAs (message.Sentry v) (first_message bytes)) (word-wrapped w)
    (read-as bytes (message.Sentry (nth_word bytes 1)) refl refl)

pub exits-read : (w : ℕ) → ReadsAs (message.Sexit (w % 2 ^ 64)) (first_message (spelling (message.Sexit w) []))
unfolding message_code operands nth_word word_bytes word_of message_read one_word
exits-read w =
    let bytes : List ℕ = spelling (message.Sexit w) [] in
    subst (λ v. ReadsAs (message.Sexit v) (first_message bytes)) (word-wrapped w)
    (read-as bytes (message.Sexit (nth_word bytes 1)) refl refl)

-- ---- what truss traces, as words

wrapped : (w : ℕ) → IsWord w → w % 2 ^ 64 ≡ w
wrapped w small = omega arith

-- the bits beyond a word go with those that are taken out
minus-wrapped : (a b : ℕ) → minus_word (a % 2 ^ 64) b ≡ minus_word a b
unfolding minus_word
minus-wrapped a b =
    let mask : ℕ = 2 ^ 64 - 1 - b in
    let small : mask < 2 ^ 64 = omega arith in
    let whole = and_mod a mask 64 in
    let most = and_le_r a mask in
    let within : bit_and a mask % 2 ^ 64 ≡ bit_and a mask = omega arith in
    ap (bit_and (a % 2 ^ 64)) (sym (wrapped mask small)) ∙ sym whole ∙ within

minus-word : (a b : ℕ) → IsWord (minus_word a b)
unfolding minus_word
minus-word a b = let most = and_le_r a (2 ^ 64 - 1 - b) in omega arith

endings-word : IsWord ending_calls
unfolding ending_calls syscall_number
endings-word =
    with_number-lt 64 (with_number 0 (syscall_number Exit)) (syscall_number LwpExit)
    (with_number-lt 64 0 (syscall_number Exit) (omega arith) (omega arith) (omega arith)) (omega arith)
    (omega arith)

entries-word : (o : Options) → IsWord (traced_entries o)
unfolding traced_entries common_word
entries-word o = let most = and_le_r o.calls ending_calls in let small = endings-word in omega arith

exits-word : (o : Options) → IsWord (traced_exits o)
unfolding traced_exits
exits-word o =
    let others : ℕ = minus_word o.calls ending_calls in
    let word = minus-word o.calls ending_calls in
    elim o.follow as (λ b. IsWord (cond b (with_forks others) others))
    [ true ↦ with_forks-word others word | false ↦ word ]

same-signals : (w : ℕ) (c : TracedControl) → tracing_signals (w % 2 ^ 64) c ≡ tracing_signals w c
unfolding tracing_signals without_number
same-signals w c = ap (λ (n : ℕ). record c { traced_signals = n }) (minus-wrapped w (2 ^ (signal_number Kill - 1)))

-- ---- where a message comes to, through the control file of a process

-- A call to a process that has ended: it says so, and changes nothing.
pub record IsGone (s : TracedState) (a : Answer) : Type 0 where
  pub gone : answer_of a.reply ≡ Gone
  pub state : a.state ≡ s

-- A stop that was asked for: each lwp of the process stands still or will stop, what is set stays, and the wait for it
-- has no end.
pub record IsStopAsked (p : TracedProcess) (pid : ℕ) (a : Answer) : Type 0 where
  pub process : TracedProcess
  pub live : live_process a.state.system pid ≡ Some process
  pub is : process ≡ with_all_directed p
  pub halting : IsHalting process
  pub control : process.control ≡ p.control
  pub agent : has_agent process ≡ has_agent p
  pub until : until_in a.reply ≡ 0

pub some-mapped : {X Y : Type 0} (f : X → Y) (o : Option X) → is_some (option_map f o) ≡ is_some o
some-mapped f None = refl
some-mapped f (Some x) = refl

directed-agent : (p : TracedProcess) → has_agent (with_all_directed p) ≡ has_agent p
unfolding with_all_directed
directed-agent p =
    ap (λ (o : Option TracedLwp). is_some o) (under-map_each agent_id directed p.lwps)
    ∙ some-mapped directed (lwp_of p agent_id)

-- no refusal is an acceptance
pub refusal-not : (e : Errno) → answer_of (reply.Fail e) ≡ Accepted → ⊥
unfolding answer_of
refusal-not e is = not-accepted e is
  where
    not-accepted : (e : Errno) → refusal_of e ≡ Accepted → ⊥
    not-accepted Intr it = cc
    not-accepted _ it = cc

pub refused-not : (a : Answer) (t : TracedState) (e : Errno) → a ≡ record { state = t; reply = reply.Fail e }
    → answer_of a.reply ≡ Accepted → ⊥
refused-not a t e is accepted = refusal-not e (ap (λ (x : Answer). answer_of x.reply) (sym is) ∙ accepted)

-- what is accepted is not refused
accepted-not : (a : Answer) → answer_of a.reply ≡ Accepted → (e : Errno) → a.reply ≢ reply.Fail e
accepted-not a accepted e refuses = refusal-not e (ap answer_of (sym refuses) ∙ accepted)

-- the reply of a wait stays, also where an interrupt was seen
waited-reply : (s : TracedState) (by : ℕ) (r : Reply) → (waited s by r).reply ≡ r
waited-reply s by (reply.Fail e) = refused-reply e
  where
    refused-reply : (e : Errno) → (waited s by (reply.Fail e)).reply ≡ reply.Fail e
    refused-reply Intr = refl
    refused-reply _ = refl
waited-reply s by _ = refl

gone-is : (s : TracedState) (a : Answer) → a ≡ record { state = s; reply = reply.Fail Noent } → IsGone s a
unfolding answer_of
gone-is s a is = record { gone = ap (λ (x : Answer). answer_of x.reply) is; state = ap (λ (x : Answer). x.state) is }

pub target-process : (h : Held) (p : TracedProcess) → h.file ≡ Ctl → target_stopped h p ≡ is_stopped p
unfolding target_stopped
target-process h p control = ap (λ f. cond (is_of_lwp f) (stands_on_event (lwp_of p h.lwp)) (is_stopped p)) control

module _ (s : TracedState) (k m : ℕ) (h : Held) (held : handle_of s.opens k m ≡ Some h) (control : h.file ≡ Ctl) where
  -- The process has ended.
  pub message-gone : (msg : Message) (a : Answer) → live_process s.system h.pid ≡ None
      → answer_to s k (message_call m msg) ≡ Some a → IsGone s a
  message-gone msg a ended is =
      gone-is s a (ctl-is s k m h held control (spelling msg []) a is
      ∙ ap (λ o. controlled s (targeted_answer s.system h o (spelling msg []))) ended)

  wait-is : (until : ℕ) (interrupted : Bool) (bytes : List ℕ)
      → wait_reply s.system s.opens k m until interrupted bytes ≡ targeted_wait s.system h
      (live_process s.system h.pid) until interrupted bytes
  unfolding wait_reply
  wait-is until interrupted bytes =
      ap (λ o. held_wait s.system o until interrupted bytes) (control-held s k m h held control)
      ∙ ap (λ o. targeted_wait s.system h o until interrupted bytes) (target-live s k m h held control)

  stop-wait : (a : Answer) → answer_to s k (call.CtlWait m 0 (spelling message.Stop [])) ≡ Some a
      → option_map (waited s k)
      (targeted_wait s.system h (live_process s.system h.pid) 0 (is_interrupted s k)
      (spelling message.Stop [])) ≡ Some a
  unfolding answer_to
  stop-wait a is = ap (option_map (waited s k)) (sym (wait-is 0 (is_interrupted s k) (spelling message.Stop []))) ∙ is

  pub wait-gone : (a : Answer) → live_process s.system h.pid ≡ None
      → answer_to s k (call.CtlWait m 0 (spelling message.Stop [])) ≡ Some a → IsGone s a
  wait-gone a ended is =
      gone-is s a
      (sym (same_Some _ a
      (sym (ap
      (λ o. option_map (waited s k)
      (targeted_wait s.system h o 0 (is_interrupted s k) (spelling message.Stop []))) ended)
      ∙ stop-wait a is)))

  -- A wait leaves the system.
  pub wait-stays : (until : ℕ) (bytes : List ℕ) (a : Answer) → answer_to s k (call.CtlWait m until bytes) ≡ Some a
      → a.state.system ≡ s.system
  wait-stays until bytes a is =
      ap (λ (x : TracedState). x.system) (looking-stays s k (call.CtlWait m until bytes) a refl is)

  module _ (p : TracedProcess) (live : live_process s.system h.pid ≡ Some p) where
    -- ---- a message that is accepted is taken

    pub taken : (bytes : List ℕ) (msg : Message) (a : Answer) → ReadsAs msg (first_message bytes)
        → answer_to s k (call.Ctl m bytes) ≡ Some a → answer_of a.reply ≡ Accepted → IsTaken s h.pid p msg bytes a
    taken bytes msg a reads is accepted =
        taken-unless s k m h held control p live bytes msg a reads is (accepted-not a accepted)

    -- ---- what is set on the process

    set-live : (change : TracedControl → TracedControl) (len : ℕ) (a : Answer)
        → a ≡ controlled s (with_set s.system h.pid p len change)
        → live_process a.state.system h.pid ≡ Some (with_control change p)
    unfolding with_control
    set-live change len a is =
        ap (λ (x : Answer). live_process x.state.system h.pid) is
        ∙ live-changed s.system h.pid (with_control change) p live refl

    pub modes-cleared : (a : Answer) → answer_to s k (message_call m (message.Unset all_modes)) ≡ Some a
        → answer_of a.reply ≡ Accepted
        → live_process a.state.system h.pid ≡ Some (with_control (without_modes all_modes) p)
    unfolding message_answer
    modes-cleared a is accepted =
        let t = taken (spelling (message.Unset all_modes) []) (message.Unset all_modes) a clear-reads is accepted in
        set-live (without_modes all_modes) t.len a t.is

    pub release-set : (a : Answer) → answer_to s k (message_call m (message.Set rlc_mode)) ≡ Some a
        → answer_of a.reply ≡ Accepted → live_process a.state.system h.pid ≡ Some (with_control (with_modes rlc_mode) p)
    unfolding message_answer
    release-set a is accepted =
        let t = taken (spelling (message.Set rlc_mode) []) (message.Set rlc_mode) a release-reads is accepted in
        set-live (with_modes rlc_mode) t.len a t.is

    pub follow-set : (a : Answer) → answer_to s k (message_call m (message.Set fork_mode)) ≡ Some a
        → answer_of a.reply ≡ Accepted
        → live_process a.state.system h.pid ≡ Some (with_control (with_modes fork_mode) p)
    unfolding message_answer
    follow-set a is accepted =
        let t = taken (spelling (message.Set fork_mode) []) (message.Set fork_mode) a follow-reads is accepted in
        set-live (with_modes fork_mode) t.len a t.is

    pub follow-cleared : (a : Answer) → answer_to s k (message_call m (message.Unset fork_mode)) ≡ Some a
        → answer_of a.reply ≡ Accepted
        → live_process a.state.system h.pid ≡ Some (with_control (without_modes fork_mode) p)
    unfolding message_answer
    follow-cleared a is accepted =
        let t = taken (spelling (message.Unset fork_mode) []) (message.Unset fork_mode) a unfollow-reads is accepted in
        set-live (without_modes fork_mode) t.len a t.is

    pub signals-set : (o : Options) (a : Answer)
        → answer_to s k (message_call m (message.Strace (traced_signals o))) ≡ Some a → answer_of a.reply ≡ Accepted
        → live_process a.state.system h.pid ≡ Some (with_control (tracing_signals (traced_signals o)) p)
    unfolding message_answer with_control
    signals-set o a is accepted =
        let word : ℕ = traced_signals o in
        let t =
        taken (spelling (message.Strace word) []) (message.Strace (word % 2 ^ 64)) a (signals-read word) is accepted in
        set-live (tracing_signals (word % 2 ^ 64)) t.len a t.is
        ∙ ap (λ (c : TracedControl). Some (record p { control = c })) (same-signals word p.control)

    -- Of the faults that truss means those are traced that a word can have.
    pub faults-set : (o : Options) (a : Answer)
        → answer_to s k (message_call m (message.Sfault (traced_faults o))) ≡ Some a → answer_of a.reply ≡ Accepted
        → live_process a.state.system h.pid ≡ Some (with_control (tracing_faults (traced_faults o % 2 ^ 64)) p)
    unfolding message_answer
    faults-set o a is accepted =
        let word : ℕ = traced_faults o in
        let t =
        taken (spelling (message.Sfault word) []) (message.Sfault (word % 2 ^ 64)) a (faults-read word) is accepted in
        set-live (tracing_faults (word % 2 ^ 64)) t.len a t.is

    pub all-faults-set : (o : Options) (a : Answer) → IsWord (traced_faults o)
        → answer_to s k (message_call m (message.Sfault (traced_faults o))) ≡ Some a → answer_of a.reply ≡ Accepted
        → live_process a.state.system h.pid ≡ Some (with_control (tracing_faults (traced_faults o)) p)
    all-faults-set o a word is accepted =
        faults-set o a is accepted
        ∙ ap (λ (w : ℕ). Some (with_control (tracing_faults w) p)) (wrapped (traced_faults o) word)

    pub entries-set : (o : Options) (a : Answer)
        → answer_to s k (message_call m (message.Sentry (traced_entries o))) ≡ Some a → answer_of a.reply ≡ Accepted
        → live_process a.state.system h.pid ≡ Some (with_control (tracing_entries (traced_entries o)) p)
    unfolding message_answer
    entries-set o a is accepted =
        let calls : ℕ = traced_entries o in
        let t =
        taken (spelling (message.Sentry calls) []) (message.Sentry (calls % 2 ^ 64)) a
        (entries-read calls) is accepted in
        set-live (tracing_entries (calls % 2 ^ 64)) t.len a t.is
        ∙ ap (λ (w : ℕ). Some (with_control (tracing_entries w) p)) (wrapped calls (entries-word o))

    pub exits-set : (o : Options) (a : Answer)
        → answer_to s k (message_call m (message.Sexit (traced_exits o))) ≡ Some a → answer_of a.reply ≡ Accepted
        → live_process a.state.system h.pid ≡ Some (with_control (tracing_exits (traced_exits o)) p)
    unfolding message_answer
    exits-set o a is accepted =
        let calls : ℕ = traced_exits o in
        let t =
        taken (spelling (message.Sexit calls) []) (message.Sexit (calls % 2 ^ 64)) a
        (exits-read calls) is accepted in
        set-live (tracing_exits (calls % 2 ^ 64)) t.len a t.is
        ∙ ap (λ (w : ℕ). Some (with_control (tracing_exits w) p)) (wrapped calls (exits-word o))

    -- ---- a stop, and the wait for it

    pub stop-asked : (a : Answer) → answer_to s k (message_call m message.Stop) ≡ Some a → answer_of a.reply ≡ Accepted
        → IsStopAsked p h.pid a
    unfolding message_answer with_aim_directed with_all_directed until_in
    stop-asked a is accepted =
        let t = taken (spelling message.Stop []) message.Stop a stop-reads is accepted in
        record {
          process = with_all_directed p;
          live = stop-directs s k m h held control p live a is (accepted-not a accepted);
          is = refl;
          halting = all-directed p;
          control = refl;
          agent = directed-agent p;
          until = ap (λ (x : Answer). until_in x.reply) t.is;
        }

    -- The wait is over where the process is stopped on an event of interest.
    pub wait-stopped : (a : Answer) → answer_to s k (call.CtlWait m 0 (spelling message.Stop [])) ≡ Some a
        → answer_of a.reply ≡ Accepted → is_stopped p ≡ true
    wait-stopped a is accepted =
        by-read (first_message (spelling message.Stop [])) stop-reads
        (ap (λ o. option_map (waited s k)
        (targeted_wait s.system h o 0 (is_interrupted s k) (spelling message.Stop []))) (sym live)
        ∙ stop-wait a is)
      where
        failed : (e : Errno) → option_map (waited s k) (Some (reply.Fail e)) ≡ Some a → ⊥
        failed e it =
            refusal-not e (ap answer_of (sym (waited-reply s k (reply.Fail e)))
            ∙ ap (λ (x : Answer). answer_of x.reply) (same_Some _ a it) ∙ accepted)

        over-stopped : (b : Bool) → (b || (not true && nat_le 0 s.system.clock)) ≡ true → b ≡ true
        over-stopped true over = refl
        over-stopped false over = cc

        by-over : (len : ℕ) (b : Bool) → wait_over s.system h p 0 ≡ b
            → option_map (waited s k) (cond b (Some (reply.Used len)) None) ≡ Some a → is_stopped p ≡ true
        by-over len true over it = sym (target-process h p control) ∙ over-stopped (target_stopped h p) over
        by-over len false over it = absurd (none-some a it)

        by-interrupt : (len : ℕ) (b : Bool)
            → option_map (waited s k)
            (cond b (Some (reply.Fail Intr)) (cond (wait_over s.system h p 0) (Some (reply.Used len)) None)) ≡ Some a
            → is_stopped p ≡ true
        by-interrupt len true it = absurd (failed Intr it)
        by-interrupt len false it = by-over len (wait_over s.system h p 0) refl it

        by-process : (len : ℕ) (b : Bool)
            → option_map (waited s k)
            (cond b (Some (reply.Fail Busy))
            (cond (is_interrupted s k) (Some (reply.Fail Intr))
            (cond (wait_over s.system h p 0) (Some (reply.Used len)) None))) ≡ Some a → is_stopped p ≡ true
        by-process len true it = absurd (failed Busy it)
        by-process len false it = by-interrupt len (is_interrupted s k) it

        by-read : (r : Read) → ReadsAs message.Stop r
            → option_map (waited s k) (decoded_wait s.system h p 0 (is_interrupted s k) r) ≡ Some a
            → is_stopped p ≡ true
        by-read (Err fault) same it = absurd (failed Inval it)
        by-read (Ok first) same it =
            by-process first.1 (h.pid == 0)
            (ap (λ n. option_map (waited s k) (decoded_wait s.system h p 0 (is_interrupted s k) (Ok (n, first.1))))
            (sym same) ∙ it)
