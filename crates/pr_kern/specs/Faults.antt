use Rattle.std.specs.Prelude.{ℕ, List, Option, Some, None}
use Rattle.pr_model.specs.Registers.{pc_of}
use Rattle.pr_model.specs.State.{TracedLwp, TracedProcess, TracedSystem, live_process, lwp_of}
use Rattle.pr_model.specs.declared.lwps.Phase.{Phase}
use Rattle.pr_model.specs.declared.lwps.Phase.TheVariants.{Faulted}

-- Where a fault stood.

-- the pc of an lwp with these registers, where it incurred a fault whose signal is not posted yet
abbrev pub pc_in_phase : Phase → List ℕ → Option ℕ
pc_in_phase (Faulted f address) regs = Some (pc_of regs)
pc_in_phase _ regs = None

abbrev pub pc_at_fault : Option TracedLwp → Option ℕ
pc_at_fault None = None
pc_at_fault (Some l) = pc_in_phase l.phase l.regs

abbrev pub pc_at_fault_in : Option TracedProcess → ℕ → Option ℕ
pc_at_fault_in None id = None
pc_at_fault_in (Some p) id = pc_at_fault (lwp_of p id)

-- that of the lwp of an id in the live process of an id, if there is one
unfoldable pub fault_pc : TracedSystem → ℕ → ℕ → Option ℕ
fault_pc s pid id = pc_at_fault_in (live_process s pid) id
