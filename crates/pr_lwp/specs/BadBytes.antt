use Rattle.std.specs.Prelude.{Option, Some, None}
use Rattle.pr_mem.specs.declared.faults.MemFault.{MemFault}
use Rattle.pr_mem.specs.declared.faults.MemFault.TheVariants as fault
use Rattle.pr_num.specs.declared.mappings.BadByte.{BadByte}
use Rattle.pr_num.specs.declared.mappings.BadByte.TheVariants.{Hole, NotAllowed}

-- the byte at which an access failed, of a fault that an access can have
abbrev pub bad_byte_of : MemFault → Option BadByte
bad_byte_of (fault.Hole at) = Some (Hole at)
bad_byte_of (fault.NotAllowed at) = Some (NotAllowed at)
bad_byte_of _ = None
