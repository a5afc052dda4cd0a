use Rattle.std.proofs.Common.{◌≡◌, ◌≢◌, ◌==◌, ◌⊎◌, ◌%◌, ◌^◌, ℕ, Bool, true, false, cond, Some, List, [], Result, Ok, Err, refl, sym, subst, ap, ◌∙◌, arith, inl, inr}
use Rattle.std.proofs.lemmas.Option.{same_Some}
use Rattle.pr_line.specs.declared.options.Options.{Options}
use Rattle.pr_model.specs.Calls.{Answer, answer_to, controlled}
use Rattle.pr_model.specs.ControlMessages.{aim_of, decoded_answer, system_refusal, tail_of, targeted_answer}
use Rattle.pr_model.specs.Handles.{handle_of}
use Rattle.pr_model.specs.Messages.{Controlled, at_process, message_answer, refused, run_answer, tracing_entries, tracing_exits, tracing_faults, tracing_signals, with_control, with_modes, with_process_changed, without_modes}
use Rattle.pr_model.specs.Running.{run_refused, with_run}
use Rattle.pr_model.specs.State.{TracedControl, TracedProcess, TracedState, live_process}
use Rattle.pr_model.specs.declared.calls.Call.TheVariants as call
use Rattle.pr_model.specs.declared.calls.File.TheVariants.{Ctl}
use Rattle.pr_model.specs.declared.handles.Held.{Held}
use Rattle.pr_num.specs.Control.{fork_mode, has_flags, klc_mode, rlc_mode}
use Rattle.pr_num.specs.Messages.{first_message, spelling}
use Rattle.pr_num.specs.Sets.{has_number}
use Rattle.pr_num.specs.declared.errnos.Errno.TheVariants.{Busy}
use Rattle.pr_num.specs.declared.messages.Message.{Message}
use Rattle.pr_num.specs.declared.messages.Message.TheVariants as message
use Rattle.pr_num.specs.declared.messages.MsgFault.{MsgFault}
use Rattle.pr_truss.specs.Messages.{all_modes, message_call, traced_entries, traced_exits, traced_faults, traced_signals}
use Rattle.pr_truss.specs.NextCalls.{run_call}
use Rattle.pr_truss.specs.Replies.{answer_of}
use Rattle.pr_truss.specs.declared.replies.Answer.TheVariants.{Accepted}
use Rattle.pr_truss_laws.specs.Stills.{HasSameSettings, IsUndisturbed}
use Rattle.pr_report_laws.proofs.Machine.ControlLaws.{clear-reads, entries-read, entries-set, exits-read, exits-set, faults-read, faults-set, follow-cleared, follow-reads, follow-set, modes-cleared, release-reads, release-set, run-reads, signals-read, signals-set, stop-asked, unfollow-reads}
use Rattle.pr_report_laws.proofs.Machine.FrameLaws.{alone-control}
use Rattle.pr_report_laws.proofs.Machine.RunLaws.{run-control, run-live}
use Rattle.pr_report_laws.proofs.Machine.SettingLaws.{cleared-plain, other-added, other-taken, release-has}
use Rattle.pr_report_laws.specs.Releases.{HasModes, Modes, released, spared}
use Rattle.pr_truss_laws.proofs.Machine.TakenLemmas.{ReadsAs, ctl-is, process-aim, stop-reads}

-- What is done to a process leaves its PR_RLC and its PR_KLC, but for the messages that set them.

-- ---- processes with the same flags

pub record HasSameFlags (p q : TracedProcess) : Type 0 where
  pub runs : has_flags q.control.modes rlc_mode ≡ has_flags p.control.modes rlc_mode
  pub kills : has_flags q.control.modes klc_mode ≡ has_flags p.control.modes klc_mode

pub modes-flags : (p q : TracedProcess) → q.control.modes ≡ p.control.modes → HasSameFlags p q
modes-flags p q same = record {
  runs = ap (λ m. has_flags m rlc_mode) same;
  kills = ap (λ m. has_flags m klc_mode) same;
}

pub same-flags : (p q : TracedProcess) → p ≡ q → HasSameFlags p q
same-flags p q same = modes-flags p q (ap (λ (x : TracedProcess). x.control.modes) (sym same))

pub alone-flags : (p q : TracedProcess) → IsUndisturbed p q → HasSameFlags p q
alone-flags p q alone = modes-flags p q (ap (λ (c : TracedControl). c.modes) (alone-control p q alone))

pub settings-flags : (p q : TracedProcess) → HasSameSettings p q → HasSameFlags p q
settings-flags p q same = modes-flags p q (ap (λ (c : TracedControl). c.modes) same.control)

pub flags-keep : (m : Modes) (p q : TracedProcess) → HasSameFlags p q → HasModes m p → HasModes m q
flags-keep spared p q same has = same.kills ∙ has
flags-keep released p q same has = (same.runs ∙ has.0, same.kills ∙ has.1)

-- ---- what the messages of truss make of them

signals-flags : (w : ℕ) (p : TracedProcess) → HasSameFlags p (with_control (tracing_signals w) p)
unfolding with_control tracing_signals
signals-flags w p = modes-flags p (with_control (tracing_signals w) p) refl

faults-flags : (w : ℕ) (p : TracedProcess) → HasSameFlags p (with_control (tracing_faults w) p)
unfolding with_control tracing_faults
faults-flags w p = modes-flags p (with_control (tracing_faults w) p) refl

entries-flags : (w : ℕ) (p : TracedProcess) → HasSameFlags p (with_control (tracing_entries w) p)
unfolding with_control tracing_entries
entries-flags w p = modes-flags p (with_control (tracing_entries w) p) refl

exits-flags : (w : ℕ) (p : TracedProcess) → HasSameFlags p (with_control (tracing_exits w) p)
unfolding with_control tracing_exits
exits-flags w p = modes-flags p (with_control (tracing_exits w) p) refl

follow-flags : (p : TracedProcess) → HasSameFlags p (with_control (with_modes fork_mode) p)
unfolding with_control with_modes has_number
follow-flags p = record {
  runs = other-added p.control.modes fork_mode 2 (omega arith) refl;
  kills = other-added p.control.modes fork_mode 3 (omega arith) refl;
}

unfollow-flags : (p : TracedProcess) → HasSameFlags p (with_control (without_modes fork_mode) p)
unfolding with_control without_modes has_number
unfollow-flags p = record {
  runs = other-taken p.control.modes fork_mode 2 (omega arith) (omega arith) (omega arith) refl;
  kills = other-taken p.control.modes fork_mode 3 (omega arith) (omega arith) (omega arith) refl;
}

cleared-spares : (p : TracedProcess) → HasModes spared (with_control (without_modes all_modes) p)
unfolding with_control
cleared-spares p = let h = cleared-plain p.control in h.spares

release-kills : (c : TracedControl) → has_flags (with_modes rlc_mode c).modes klc_mode ≡ has_flags c.modes klc_mode
unfolding with_modes has_number
release-kills c = other-added c.modes rlc_mode 3 (omega arith) refl

release-modes : (m : Modes) (p : TracedProcess) → HasModes m p
    → HasModes released (with_control (with_modes rlc_mode) p)
unfolding with_control
release-modes spared p has = (release-has p.control, release-kills p.control ∙ has)
release-modes released p has = (release-has p.control, release-kills p.control ∙ has.1)

-- ---- a message is accepted, or it changes nothing

abbrev Read : Type 0
Read = Result (Message × ℕ) MsgFault

-- it is accepted, or it changes nothing
abbrev Takes : TracedState → Controlled → Type 0
Takes s x = (answer_of x.reply ≡ Accepted) ⊎ (x.system ≡ s.system)

module _ (s : TracedState) (k m : ℕ) (h : Held) (held : handle_of s.opens k m ≡ Some h) (control : h.file ≡ Ctl)
    (p q : TracedProcess) (live : live_process s.system h.pid ≡ Some p) (a : Answer)
    (now : live_process a.state.system h.pid ≡ Some q) where
  takes-or : (bytes : List ℕ) (msg : Message) → ReadsAs msg (first_message bytes)
      → ((tail : List ℕ) (len : ℕ) → Takes s (message_answer s.system h.pid p at_process msg tail len))
      → answer_to s k (call.Ctl m bytes) ≡ Some a → (answer_of a.reply ≡ Accepted) ⊎ (a.state.system ≡ s.system)
  takes-or bytes msg reads row is =
      let same : a ≡ controlled s (decoded_answer s.system h p bytes (first_message bytes)) =
      ctl-is s k m h held control bytes a is ∙ ap (λ o. controlled s (targeted_answer s.system h o bytes)) live in
      subst (λ (x : Answer). (answer_of x.reply ≡ Accepted) ⊎ (x.state.system ≡ s.system)) (sym same)
      (by-read (first_message bytes) reads)
    where
      by-process : (x : Message) (len : ℕ) → x ≡ msg → (b : Bool)
          → Takes s
          (cond b (refused s.system (system_refusal x))
          (message_answer s.system h.pid p (aim_of h) x (tail_of x bytes) len))
      by-process x len same true = inr refl
      by-process x len same false =
          subst (λ y. Takes s (message_answer s.system h.pid p (aim_of h) y (tail_of y bytes) len)) (sym same)
          (subst (λ y. Takes s (message_answer s.system h.pid p y msg (tail_of msg bytes) len))
          (sym (process-aim h control)) (row (tail_of msg bytes) len))

      by-read : (r : Read) → ReadsAs msg r → Takes s (decoded_answer s.system h p bytes r)
      by-read (Err fault) same = inr refl
      by-read (Ok first) same = by-process first.0 first.1 same (h.pid == 0)

  -- the process is the same where nothing changed
  unchanged : a.state.system ≡ s.system → p ≡ q
  unchanged same = same_Some p q (sym live ∙ ap (λ x. live_process x h.pid) (sym same) ∙ now)

  -- a message that leaves the flags, where it is accepted
  flags-or : (bytes : List ℕ) (msg : Message) → ReadsAs msg (first_message bytes)
      → ((tail : List ℕ) (len : ℕ) → Takes s (message_answer s.system h.pid p at_process msg tail len))
      → answer_to s k (call.Ctl m bytes) ≡ Some a
      → (answer_of a.reply ≡ Accepted → (r : TracedProcess) ×
      ((live_process a.state.system h.pid ≡ Some r) × HasSameFlags p r)) → HasSameFlags p q
  flags-or bytes msg reads row is done = elim (takes-or bytes msg reads row is) [
    | inl accepted ↦ let d = done accepted in subst (HasSameFlags p) (same_Some d.0 q (sym d.1.0 ∙ now)) d.1.1
    | inr same ↦ same-flags p q (unchanged same)
  ]

  set-row : (change : TracedControl → TracedControl) (len : ℕ)
      → Takes s (with_process_changed s.system h.pid p len (with_control change))
  unfolding answer_of
  set-row change len = inl refl

  pub signals-keep : (o : Options) → answer_to s k (message_call m (message.Strace (traced_signals o))) ≡ Some a
      → HasSameFlags p q
  unfolding message_answer
  signals-keep o is =
      let word : ℕ = traced_signals o in
      flags-or (spelling (message.Strace word) []) (message.Strace (word % 2 ^ 64)) (signals-read word)
      (λ tail len. set-row (tracing_signals (word % 2 ^ 64)) len)
      is (λ accepted. (_, (signals-set s k m h held control p live o a is accepted, signals-flags word p)))

  pub faults-keep : (o : Options) → answer_to s k (message_call m (message.Sfault (traced_faults o))) ≡ Some a
      → HasSameFlags p q
  unfolding message_answer
  faults-keep o is =
      let word : ℕ = traced_faults o in
      flags-or (spelling (message.Sfault word) []) (message.Sfault (word % 2 ^ 64)) (faults-read word)
      (λ tail len. set-row (tracing_faults (word % 2 ^ 64)) len)
      is (λ accepted. (_, (faults-set s k m h held control p live o a is accepted, faults-flags (word % 2 ^ 64) p)))

  pub entries-keep : (o : Options) → answer_to s k (message_call m (message.Sentry (traced_entries o))) ≡ Some a
      → HasSameFlags p q
  unfolding message_answer
  entries-keep o is =
      flags-or (spelling (message.Sentry (traced_entries o)) []) (message.Sentry (traced_entries o % 2 ^ 64))
      (entries-read (traced_entries o)) (λ tail len. set-row (tracing_entries (traced_entries o % 2 ^ 64)) len) is
      (λ accepted.
      (_, (entries-set s k m h held control p live o a is accepted, entries-flags (traced_entries o) p)))

  pub exits-keep : (o : Options) → answer_to s k (message_call m (message.Sexit (traced_exits o))) ≡ Some a
      → HasSameFlags p q
  unfolding message_answer
  exits-keep o is =
      flags-or (spelling (message.Sexit (traced_exits o)) []) (message.Sexit (traced_exits o % 2 ^ 64))
      (exits-read (traced_exits o)) (λ tail len. set-row (tracing_exits (traced_exits o % 2 ^ 64)) len) is
      (λ accepted. (_, (exits-set s k m h held control p live o a is accepted, exits-flags (traced_exits o) p)))

  pub follow-keep : answer_to s k (message_call m (message.Set fork_mode)) ≡ Some a → HasSameFlags p q
  unfolding message_answer
  follow-keep is =
      flags-or (spelling (message.Set fork_mode) []) (message.Set fork_mode) follow-reads
      (λ tail len. set-row (with_modes fork_mode) len) is
      (λ accepted. (_, (follow-set s k m h held control p live a is accepted, follow-flags p)))

  pub unfollow-keep : answer_to s k (message_call m (message.Unset fork_mode)) ≡ Some a → HasSameFlags p q
  unfolding message_answer
  unfollow-keep is =
      flags-or (spelling (message.Unset fork_mode) []) (message.Unset fork_mode) unfollow-reads
      (λ tail len. set-row (without_modes fork_mode) len) is
      (λ accepted. (_, (follow-cleared s k m h held control p live a is accepted, unfollow-flags p)))

  stop-row : (tail : List ℕ) (len : ℕ) → Takes s (message_answer s.system h.pid p at_process message.Stop tail len)
  unfolding message_answer answer_of
  stop-row tail len = inl refl

  pub stop-keep : answer_to s k (message_call m message.Stop) ≡ Some a → HasSameFlags p q
  stop-keep is =
      flags-or (spelling message.Stop []) message.Stop stop-reads stop-row is
      (λ accepted. let st = stop-asked s k m h held control p live a is accepted in
      (st.process, (st.live, modes-flags p st.process (ap (λ (c : TracedControl). c.modes) st.control))))

  run-row : (tail : List ℕ) (len : ℕ) → Takes s (message_answer s.system h.pid p at_process (message.Run 0) tail len)
  unfolding message_answer run_answer answer_of
  run-row tail len = by (run_refused p)
    where
      by : (b : Bool)
          → Takes s (cond b (refused s.system Busy) (with_process_changed s.system h.pid p len (with_run 0)))
      by true = inr refl
      by false = inl refl

  pub run-keep : answer_to s k (run_call m) ≡ Some a → HasSameFlags p q
  run-keep is =
      flags-or (spelling (message.Run 0) []) (message.Run 0) run-reads run-row is
      (λ accepted. (
        with_run 0 p,
        (
          run-live s k m h held control p live a is accepted,
          modes-flags p (with_run 0 p)
              (ap (λ (c : TracedControl). c.modes) (run-control p)),
        ),
      ))

  -- ---- the messages that set them

  clear-row : (tail : List ℕ) (len : ℕ)
      → Takes s (message_answer s.system h.pid p at_process (message.Unset all_modes) tail len)
  unfolding message_answer
  clear-row tail len = set-row (without_modes all_modes) len

  pub clear-accepted : answer_to s k (message_call m (message.Unset all_modes)) ≡ Some a → answer_of a.reply ≡ Accepted
      → HasModes spared q
  clear-accepted is accepted =
      subst (HasModes spared)
      (same_Some (with_control (without_modes all_modes) p) q
      (sym (modes-cleared s k m h held control p live a is accepted) ∙ now)) (cleared-spares p)

  pub clear-refused : answer_to s k (message_call m (message.Unset all_modes)) ≡ Some a → answer_of a.reply ≢ Accepted
      → HasSameFlags p q
  clear-refused is not =
      elim (takes-or (spelling (message.Unset all_modes) [])
      (message.Unset all_modes) clear-reads clear-row is) [
        | inl accepted ↦ absurd
            (not accepted)
        | inr same ↦ same-flags p q (unchanged same)
      ]

  release-row : (tail : List ℕ) (len : ℕ)
      → Takes s (message_answer s.system h.pid p at_process (message.Set rlc_mode) tail len)
  unfolding message_answer
  release-row tail len = set-row (with_modes rlc_mode) len

  pub release-accepted : (n : Modes) → answer_to s k (message_call m (message.Set rlc_mode)) ≡ Some a
      → answer_of a.reply ≡ Accepted → HasModes n p → HasModes released q
  release-accepted n is accepted has =
      subst (HasModes released)
      (same_Some (with_control (with_modes rlc_mode) p) q
      (sym (release-set s k m h held control p live a is accepted) ∙ now)) (release-modes n p has)

  pub release-refused : answer_to s k (message_call m (message.Set rlc_mode)) ≡ Some a → answer_of a.reply ≢ Accepted
      → HasSameFlags p q
  release-refused is not =
      elim (takes-or (spelling (message.Set rlc_mode) [])
      (message.Set rlc_mode) release-reads release-row is) [
        | inl accepted ↦ absurd
            (not accepted)
        | inr same ↦ same-flags p q (unchanged same)
      ]
