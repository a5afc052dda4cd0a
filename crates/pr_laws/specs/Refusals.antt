use Rattle.std.specs.Prelude.{◌≡◌, ◌⊎◌, ℕ}
use Rattle.pr_num.specs.declared.errnos.Errno.TheVariants.{Intr}
use Rattle.pr_model.specs.Calls.{Answer, with_interrupt_seen}
use Rattle.pr_model.specs.State.{TracedState}
use Rattle.pr_model.specs.declared.calls.Reply.{Reply}
use Rattle.pr_model.specs.declared.calls.Reply.TheVariants.{Fail}

-- An answer that refuses a call leaves the state as it was, or it is EINTR and the controller's interrupt is over.
abbrev pub LeavesIfRefused : TracedState → ℕ → Answer → Type 0
LeavesIfRefused s by a = leaves a.reply
  where
    leaves : Reply → Type 0
    leaves (Fail e) = (a.state ≡ s) ⊎ ((e ≡ Intr) × (a.state ≡ with_interrupt_seen by s))
    leaves _ = Unit {0}
