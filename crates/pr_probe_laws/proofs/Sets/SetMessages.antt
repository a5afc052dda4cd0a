use Rattle.std.proofs.Common.{eqb-true, ◌≡◌, ◌≢◌, ◌&&◌, ◌==◌, ◌≤◌, ◌%◌, ◌^◌, ℕ, Bool, true, false, not, List, [], Option, Some, None, refl, sym, ap, ◌∙◌, arith}
use Rattle.pr_model.specs.Calls.{Answer, answer_to, controlled}
use Rattle.pr_model.specs.Handles.{handle_of}
use Rattle.pr_model.specs.Messages.{message_answer, tracing_entries, tracing_exits, tracing_faults, tracing_signals, with_control, with_set}
use Rattle.pr_model.specs.State.{TracedControl, TracedProcess, TracedState, live_process}
use Rattle.pr_model.specs.declared.calls.Call.TheVariants as call
use Rattle.pr_model.specs.declared.calls.Reply.TheVariants as reply
use Rattle.pr_num.proofs.SetLemmas.{has_number-without, same_set, without_number-le}
use Rattle.pr_num.specs.Messages.{spelling}
use Rattle.pr_num.specs.Sets.{has_number, without_number}
use Rattle.pr_num.specs.Signals.{signal_number}
use Rattle.pr_num.specs.Words.{IsWord}
use Rattle.pr_num.specs.declared.errnos.Errno.{Errno}
use Rattle.pr_num.specs.declared.messages.Message.TheVariants as message
use Rattle.pr_num.specs.declared.signals.Sig.TheVariants.{Kill}
use Rattle.pr_probe.specs.TracedSets.{trace_message}
use Rattle.pr_probe.specs.declared.traced_sets.SetKind.{SetKind}
use Rattle.pr_probe.specs.declared.traced_sets.SetKind.TheVariants.{Signals, Faults, Entries, Exits}
use Rattle.pr_report_laws.proofs.Machine.ControlLaws.{entries-read, exits-read, faults-read, signals-read}
use Rattle.pr_truss_laws.proofs.Machine.StillLemmas.{live-changed}
use Rattle.pr_truss_laws.proofs.Machine.TakenLemmas.{taken-unless}
use Rattle.pr_probe_laws.proofs.PuttingBack.MemoryMessages.{gone, writer_of}

-- What the messages do by which apfiles sets one of the traced sets of a process, where they are not refused.

-- ---- the sets as words

-- sets that a process can have: words, and SIGKILL is not traced
pub record AreProper (signals faults entries exits : ℕ) : Type 0 where
  pub signals_fit : IsWord signals
  pub no_kill : has_number signals (signal_number Kill) ≡ false
  pub faults_fit : IsWord faults
  pub entries_fit : IsWord entries
  pub exits_fit : IsWord exits

wrapped : (w : ℕ) → IsWord w → w % 2 ^ 64 ≡ w
wrapped w small = omega (arith, small)

-- a set without what it has not is the same set
pub without-none : (w n : ℕ) → IsWord w → 1 ≤ n → n ≤ 64 → has_number w n ≡ false → without_number w n ≡ w
without-none w n small least most none =
    same_set 64 (without_number w n) w (omega (arith, small, without_number-le w n)) small
    (λ m first last. has_number-without w n m least most first last ∙ by m (m == n) refl)
  where
    and-true : (b : Bool) → (b && true) ≡ b
    and-true true = refl
    and-true false = refl

    by : (m : ℕ) (b : Bool) → (m == n) ≡ b → (has_number w m && not b) ≡ has_number w m
    by m true same =
        let none_here : has_number w m ≡ false = ap (has_number w) (eqb-true m n same) ∙ none in
        ap (λ (b : Bool). b && false) none_here ∙ sym none_here
    by m false apart = and-true (has_number w m)

-- ---- what is set

-- the control of a process with one of its sets set to a word
abbrev pub setting : SetKind → ℕ → TracedControl → TracedControl
setting Signals w c = tracing_signals w c
setting Faults w c = tracing_faults w c
setting Entries w c = tracing_entries w c
setting Exits w c = tracing_exits w c

module _ (s : TracedState) (k c pid : ℕ) (a : Answer) (stands : handle_of s.opens k c ≡ Some (writer_of k pid))
    (granted : (e : Errno) → a.reply ≢ reply.Fail e) where
  -- the process lives, since the message was not refused
  pub record Lives : Type 0 where
    pub process : TracedProcess
    pub live : live_process s.system pid ≡ Some process

  pub still-lives : (bytes : List ℕ) → answer_to s k (call.Ctl c bytes) ≡ Some a → Lives
  still-lives bytes given = by (live_process s.system pid) refl
    where
      by : (o : Option TracedProcess) → live_process s.system pid ≡ o → Lives
      by None none = absurd (gone s k c pid a stands granted bytes given none)
      by (Some p) live = record { process = p; live = live }

  module _ (p : TracedProcess) (live : live_process s.system pid ≡ Some p) where
    set-live : (change : TracedControl → TracedControl) (len : ℕ)
        → a ≡ controlled s (with_set s.system pid p len change)
        → live_process a.state.system pid ≡ Some (with_control change p)
    unfolding with_control
    set-live change len is =
        ap (λ (x : Answer). live_process x.state.system pid) is
        ∙ live-changed s.system pid (with_control change) p live refl

    -- a set is what the message says
    pub set-done : (kind : SetKind) (w : ℕ) → IsWord w
        → answer_to s k (call.Ctl c (spelling (trace_message kind w) [])) ≡ Some a
        → live_process a.state.system pid ≡ Some (with_control (setting kind w) p)
    unfolding message_answer trace_message
    set-done Signals w small given =
        let bytes : List ℕ = spelling (message.Strace w) [] in
        let t =
        taken-unless s k c (writer_of k pid) stands refl p live bytes (message.Strace (w % 2 ^ 64)) a (signals-read w)
        given granted in
        set-live (tracing_signals (w % 2 ^ 64)) t.len t.is
        ∙ ap (λ (v : ℕ). Some (with_control (tracing_signals v) p)) (wrapped w small)
    set-done Faults w small given =
        let bytes : List ℕ = spelling (message.Sfault w) [] in
        let t =
        taken-unless s k c (writer_of k pid) stands refl p live bytes (message.Sfault (w % 2 ^ 64)) a (faults-read w)
        given granted in
        set-live (tracing_faults (w % 2 ^ 64)) t.len t.is
        ∙ ap (λ (v : ℕ). Some (with_control (tracing_faults v) p)) (wrapped w small)
    set-done Entries w small given =
        let bytes : List ℕ = spelling (message.Sentry w) [] in
        let t =
        taken-unless s k c (writer_of k pid) stands refl p live bytes (message.Sentry (w % 2 ^ 64)) a (entries-read w)
        given granted in
        set-live (tracing_entries (w % 2 ^ 64)) t.len t.is
        ∙ ap (λ (v : ℕ). Some (with_control (tracing_entries v) p)) (wrapped w small)
    set-done Exits w small given =
        let bytes : List ℕ = spelling (message.Sexit w) [] in
        let t =
        taken-unless s k c (writer_of k pid) stands refl p live bytes (message.Sexit (w % 2 ^ 64)) a (exits-read w)
        given granted in
        set-live (tracing_exits (w % 2 ^ 64)) t.len t.is
        ∙ ap (λ (v : ℕ). Some (with_control (tracing_exits v) p)) (wrapped w small)
