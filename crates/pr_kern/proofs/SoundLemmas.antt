use Rattle.std.proofs.Common.{◌≡◌, ℕ, ◌≤◌, Option, sym, subst, arith}
use Rattle.pr_num.specs.declared.infos.Info.{Info}
use Rattle.pr_num.specs.declared.signals.Sig.{Sig}
use Rattle.pr_model.specs.Lives.{with_made, with_this_ended}
use Rattle.pr_model.specs.Machines.{traced, nothing_used}
use Rattle.pr_model.specs.Signals.{generated}
use Rattle.pr_model.specs.State.{TracedProcess, TracedSystem, with_process}
use Rattle.pr_proc.proofs.CountLemmas.{AllUsedAtMost-more}
use Rattle.pr_proc.proofs.UsageLemmas.{AllUsedAtMost-ended, AllUsedAtMost-generated, AllUsedAtMost-made, AllUsedAtMost-with_process}
use Rattle.pr_turn.proofs.ClockLemmas.{generated-clock, this_ended-clock}
use Rattle.pr_kern.specs.Soundness.{IsSound}

-- What keeps a system sound: a lemma for each way in which processes are changed, made and taken away.

-- a sound system is sound after more steps
pub IsSound-more : (n m : ℕ) (s : TracedSystem) → n ≤ m → IsSound n s → IsSound m s
IsSound-more n m s more h = record { clock = omega (arith, h.clock); counts = AllUsedAtMost-more n m s more h.counts }

-- a change that leaves what a process has used
unfoldable pub KeepsUsage : (TracedProcess → TracedProcess) → Type 0
KeepsUsage f = (p : TracedProcess) → (f p).control.usage ≡ p.control.usage

pub sound-with_process : (n pid : ℕ) (f : TracedProcess → TracedProcess) (s : TracedSystem) → KeepsUsage f → IsSound n s
    → IsSound n (with_process pid f s)
unfolding with_process KeepsUsage
sound-with_process n pid f s h sound =
    record { clock = sound.clock; counts = AllUsedAtMost-with_process n pid f s h sound.counts }

-- a process more, and one that ends
pub sound-with_made : (n : ℕ) (p : TracedProcess) (s : TracedSystem) → p.control.usage ≡ nothing_used → IsSound n s
    → IsSound n (with_made p s)
unfolding with_made
sound-with_made n p s none sound = record { clock = sound.clock; counts = AllUsedAtMost-made n p s none sound.counts }

pub sound-with_this_ended : (n pid : ℕ) (p : TracedProcess) (status : ℕ) (s : TracedSystem) → IsSound n s
    → IsSound n (with_this_ended traced pid p status s)
sound-with_this_ended n pid p status s sound = record {
  clock = subst (λ clock. clock ≤ n) (sym (this_ended-clock pid p status s)) sound.clock;
  counts = AllUsedAtMost-ended n pid p status s sound.counts;
}

-- a signal
pub sound-generated : (n pid : ℕ) (target : Option ℕ) (g : Sig) (info : Info) (s : TracedSystem) → IsSound n s
    → IsSound n (generated traced pid target g info s)
sound-generated n pid target g info s sound = record {
  clock = subst (λ clock. clock ≤ n) (sym (generated-clock pid target g info s)) sound.clock;
  counts = AllUsedAtMost-generated n pid target g info s sound.counts;
}
