use Rattle.std.specs.Prelude.{ℕ, Option, Some, None}
use Rattle.pr_mem.specs.declared.faults.MemFault.{MemFault}
use Rattle.pr_mem.specs.declared.faults.MemFault.TheVariants.{Hole, NotAllowed, Overlap, TooBig, NoMemory}

-- the address of the byte at which an access failed, if the fault is one that an access has
abbrev pub fault_address : MemFault → Option ℕ
fault_address (Hole at) = Some at
fault_address (NotAllowed at) = Some at
fault_address Overlap = None
fault_address TooBig = None
fault_address NoMemory = None
