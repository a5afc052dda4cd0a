use Rattle.std.proofs.Common.{◌≡◌, ℕ, ◌≤◌, Some, arith}
use Rattle.std.proofs.lemmas.List.Elements.{All-weaker}
use Rattle.pr_num.proofs.ByIdLaws.{All-under}
use Rattle.pr_model.specs.State.{TracedSystem, TracedProcess, live_process}
use Rattle.pr_model.specs.declared.processes.Usage.{Usage}
use Rattle.pr_proc.specs.Counts.{UsedAtMost, HasUsedAtMost, AllUsedAtMost}
use Rattle.pr_model.proofs.StateLemmas.{live_process-found}

-- What bounds counts of use.

pub UsedAtMost-more : (n m : ℕ) (u : Usage) → n ≤ m → UsedAtMost n u → UsedAtMost m u
UsedAtMost-more n m u more h =
    record { calls = omega arith; signals = omega arith; faults = omega arith; instructions = omega arith }

-- a bound is one below another
pub AllUsedAtMost-more : (n m : ℕ) (s : TracedSystem) → n ≤ m → AllUsedAtMost n s → AllUsedAtMost m s
AllUsedAtMost-more n m s more h =
    record {
      each =
          All-weaker (HasUsedAtMost n) (HasUsedAtMost m)
          (λ e. UsedAtMost-more n m e.1.control.usage more) s.processes h.each;
    }

-- what bounds all counts bounds those of a live process
pub AllUsedAtMost-live : (n : ℕ) (s : TracedSystem) (pid : ℕ) (p : TracedProcess) → live_process s pid ≡ Some p
    → AllUsedAtMost n s → UsedAtMost n p.control.usage
AllUsedAtMost-live n s pid p live h =
    All-under (HasUsedAtMost n) pid p s.processes h.each (live_process-found s pid p live)

pub ruleset count_laws = (AllUsedAtMost-more, AllUsedAtMost-live)
