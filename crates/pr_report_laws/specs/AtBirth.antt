use Rattle.std.specs.Prelude.{◌≡◌, ◌%◌, ◌^◌, ℕ, Bool, false, List, ◌∷◌, ◌++◌, Option, Some, None, count_by}
use Rattle.pr_line.specs.declared.options.Options.{Options}
use Rattle.pr_model.specs.Legal.{state_after}
use Rattle.pr_model.specs.State.{TracedLwp, TracedProcess, TracedState, has_agent, live_process}
use Rattle.pr_model.specs.declared.calls.Reply.TheVariants.{Handle}
use Rattle.pr_model.specs.declared.events.Entry.{Entry}
use Rattle.pr_model.specs.declared.stops.Stop.{Stop}
use Rattle.pr_num.specs.Control.{async_mode, has_flags, klc_mode}
use Rattle.pr_num.specs.Sets.{without_number}
use Rattle.pr_num.specs.Signals.{signal_number}
use Rattle.pr_num.specs.declared.signals.Sig.TheVariants.{Kill}
use Rattle.pr_truss.specs.Messages.{traced_entries, traced_exits, traced_faults, traced_signals}
use Rattle.pr_truss.specs.declared.stages.Stage.TheVariants.{OpeningChildControl}
use Rattle.pr_truss_laws.specs.Exchanges.{Exchange, exchange_of, truss_at}
use Rattle.pr_truss_laws.specs.Stills.{IsFrozen, is_met}

-- How a process stands that truss follows as the child of a fork, when truss gets hold of it.

-- What truss has set on a process: the four traced sets of its options (SIGKILL is never traced, and the set of faults
-- is what a word of the message can hold of it), neither PR_ASYNC nor PR_KLC; and no agent stands there.
pub record IsTracedBy (o : Options) (p : TracedProcess) : Type 0 where
  pub signals : p.control.traced_signals ≡ without_number (traced_signals o) (signal_number Kill)
  pub faults : p.control.traced_faults ≡ traced_faults o % 2 ^ 64
  pub entries : p.control.traced_entries ≡ traced_entries o
  pub exits : p.control.traced_exits ≡ traced_exits o
  pub directs : has_flags p.control.modes async_mode ≡ false
  pub spares : has_flags p.control.modes klc_mode ≡ false
  pub no_agent : has_agent p ≡ false

-- whether an lwp stands on an event of interest other than a requested stop
abbrev pub is_met_if : Option Stop → Bool
is_met_if None = false
is_met_if (Some stop) = is_met stop

abbrev pub has_met : TracedLwp → Bool
has_met l = is_met_if l.control.stop

-- how many lwps of a process do
abbrev pub met_in : TracedProcess → ℕ
met_in p = count_by (λ (e : ℕ × TracedLwp). has_met e.1) p.lwps

-- A process that stands still, and so many lwps of which stand on events that they met.
pub record Waits (p : TracedProcess) (n : ℕ) : Type 0 where
  pub frozen : IsFrozen p
  pub count : met_in p ≡ n

-- A process that is traced so stands still, with one event that it met: so stands the child of a fork under PR_FORK at
-- its birth, where its parent was traced so.
pub record IsAtBirth (o : Options) (p : TracedProcess) : Type 0 where
  pub traced : IsTracedBy o p
  pub waits : Waits p 1

-- Where truss gets hold of this process as the child of a fork, which is where its open of the control file as that of
-- a child is granted, the process stands as at its birth, if it lives.
pub record IsFollowedAtBirth (k : ℕ) (o : Options) (pid : ℕ) (s : TracedState) (h : List Entry) : Type 0 where
  pub each : (before later : List Entry) (e : Entry) (opening : Exchange) (handle parent : ℕ) (p : TracedProcess)
      → h ≡ before ++ e ∷ later → exchange_of k e ≡ Some opening
      → (truss_at k o before).stage ≡ OpeningChildControl parent pid → opening.reply ≡ Handle handle
      → live_process (state_after s before).system pid ≡ Some p → IsAtBirth o p
