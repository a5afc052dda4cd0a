use Rattle.std.proofs.Common.{◌≡◌, ◌==◌, ◌&&◌, ℕ, true, false, Some, None, [], ◌∷◌, refl, sym, ap, ◌∙◌}
use Rattle.pr_num.specs.Signals.{signal_number}
use Rattle.pr_num.specs.declared.errnos.Errno.{Errno}
use Rattle.pr_num.specs.declared.infos.Info.{Info}
use Rattle.pr_num.specs.declared.signals.Sig.{Sig}
use Rattle.pr_model.specs.Changes.{all_changed, changed, does, ended, ends, ends_process, fails, gives, signals}
use Rattle.pr_model.specs.declared.events.Res.{Res}
use Rattle.pr_model.specs.declared.events.Res.TheVariants.{Value, Error}
use Rattle.pr_model.specs.Lives.{with_ended}
use Rattle.pr_model.specs.Machines.{traced}
use Rattle.pr_model.specs.Readers.{Life}
use Rattle.pr_model.specs.SignalCalls.{refuses, sends_nothing, sends, sending, sent_effect, send_effect}
use Rattle.pr_model.specs.Signals.{generated, is_kill}
use Rattle.pr_model.specs.State.{TracedLwp, TracedProcess, TracedSystem, live_process}
use Rattle.pr_call.specs.Effects.{after_effect, outcome_of}
use Rattle.pr_proc.specs.Sendings.{IsSent}
use Rattle.pr_call.specs.declared.requests.Performed.TheVariants as performed

-- Signals that a process sends.

-- ---- what is sent

module _ (s : TracedSystem) (own : ℕ) (p : TracedProcess) (caller : ℕ) (l : TracedLwp) (id : ℕ) (g : Sig)
    (info : Info) where
  pub sent-kill : live_process s own ≡ Some p → (is_kill g && (id == own)) ≡ true
      → with_ended traced own (signal_number g) s ≡ after_effect own p caller l (sent_effect own id info (sends g)) s
  unfolding after_effect sent_effect ended with_ended
  sent-kill found own_kill = rw (own_kill, found) refl

  pub sent-other : (is_kill g && (id == own)) ≡ false
      → generated traced id None g info s ≡ after_effect own p caller l (sent_effect own id info (sends g)) s
  unfolding after_effect sent_effect all_changed changed
  sent-other other = rw (other, other) refl

pub outcome-kill : (own id : ℕ) (g : Sig) (info : Info) → (is_kill g && (id == own)) ≡ true
    → sent_effect own id info (sends g) ≡ ends (ends_process (signal_number g))
unfolding sent_effect
outcome-kill own id g info e = rw e refl

pub outcome-other : (own id : ℕ) (g : Sig) (info : Info) → (is_kill g && (id == own)) ≡ false
    → sent_effect own id info (sends g) ≡ gives 0 (signals id g info ∷ [])
unfolding sent_effect
outcome-other own id g info e = rw e refl

pub ruleset sent_laws = (sent-kill, sent-other, outcome-kill, outcome-other)

-- ---- the call

pub sent-own : (s : TracedSystem) (target id : ℕ) (g : Sig) → IsSent s target id g → IsSent s id id g
sent-own s target id g sent = record { named = refl; lives = sent.lives; room = sent.room }

module _ (own target number : ℕ) (info : Info) (life : Life) where
  send-refuses : (e : Errno) → refuses e ≡ sending target number life
      → send_effect own target number info life ≡ fails e
  unfolding send_effect sent_effect
  send-refuses e is = rw (sym is) refl

  send-nothing : sends_nothing ≡ sending target number life → send_effect own target number info life ≡ gives 0 []
  unfolding send_effect sent_effect
  send-nothing is = rw (sym is) refl

  pub send-sends : (id : ℕ) (g : Sig) → sends g ≡ sending target number life → id ≡ target
      → sent_effect own id info (sends g) ≡ send_effect own target number info life
  unfolding send_effect
  send-sends id g is named = rw (sym is, named) refl

  pub outcome-refuses : (e : Errno) → refuses e ≡ sending target number life
      → performed.Done (Error e) ≡ outcome_of (send_effect own target number info life)
  outcome-refuses e is = ap outcome_of (sym (send-refuses e is))

  pub outcome-nothing : sends_nothing ≡ sending target number life
      → performed.Done (Value 0) ≡ outcome_of (send_effect own target number info life)
  outcome-nothing is = ap outcome_of (sym (send-nothing is))

  module _ (s : TracedSystem) (p : TracedProcess) (caller : ℕ) (l : TracedLwp) where
    none-changed : (r : Res) → s ≡ after_effect own p caller l (does r []) s
    unfolding after_effect all_changed
    none-changed r = refl

    pub kept-refuses : (e : Errno) → refuses e ≡ sending target number life
        → s ≡ after_effect own p caller l (send_effect own target number info life) s
    kept-refuses e is = none-changed (Error e) ∙ ap (λ x. after_effect own p caller l x s) (sym (send-refuses e is))

    pub kept-nothing : sends_nothing ≡ sending target number life
        → s ≡ after_effect own p caller l (send_effect own target number info life) s
    kept-nothing is = none-changed (Value 0) ∙ ap (λ x. after_effect own p caller l x s) (sym (send-nothing is))

pub ruleset send_laws = (outcome-refuses, outcome-nothing, kept-refuses, kept-nothing)
