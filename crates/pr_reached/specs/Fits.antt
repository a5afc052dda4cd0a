use Rattle.std.specs.Prelude.{◌≡◌, ℕ, false, List, Some}
use Rattle.std.specs.List.{All}
use Rattle.pr_num.specs.Sets.{has_number}
use Rattle.pr_num.specs.Signals.{signal_number}
use Rattle.pr_num.specs.declared.signals.Sig.TheVariants.{Kill}
use Rattle.pr_num.specs.declared.syscalls.Sysno.{Sysno}
use Rattle.pr_parts.specs.PendingSignals.{Pending, pending_set}
use Rattle.pr_model.specs.State.{TracedLwp, TracedProcess, TracedSystem}
use Rattle.pr_model.specs.declared.events.Res.{Res}
use Rattle.pr_model.specs.declared.lwps.Phase.TheVariants.{Entered, Exiting}
use Rattle.pr_model.specs.declared.stops.Stop.TheVariants.{SysEntry, SysExit}

-- What is so of the stops and the signals of every state that the machine reaches, beside what makes it lawful.

-- SIGKILL never pends: it ends its process at once
pub record SparesKill (p : Pending) : Type 0 where
  pub none : has_number (pending_set p) (signal_number Kill) ≡ false

-- An lwp that stands at the entry of a call has come to that call and not made it; one that stands at the exit of a
-- call is on its way out of it. SIGKILL does not pend for it.
pub record IsFitLwp (l : TracedLwp) : Type 0 where
  pub entry : (call : Sysno) → l.control.stop ≡ Some (SysEntry call) → l.phase ≡ Entered call
  pub exit : (call : Sysno) → l.control.stop ≡ Some (SysExit call)
      → (args : List ℕ) × ((result : Res) × (l.phase ≡ Exiting call args result))
  pub pending : SparesKill l.pending

pub record IsFitProcess (p : TracedProcess) : Type 0 where
  pub lwps : All (λ (e : ℕ × TracedLwp). IsFitLwp e.1) p.lwps
  pub pending : SparesKill p.pending

pub record IsFitSystem (s : TracedSystem) : Type 0 where
  pub processes : All (λ (e : ℕ × TracedProcess). IsFitProcess e.1) s.processes
