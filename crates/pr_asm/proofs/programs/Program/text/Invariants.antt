use Rattle.std.proofs.Common.{◌≡◌, take}
use Rattle.std.specs.List.{flat_map}
use Rattle.pr_num.specs.Instructions.{instruction_bytes}
use Rattle.pr_asm.proofs.programs.Program.text.Given as goal

abbrev pub invariant-loop-instruction : goal.invariant-loop-instruction
invariant-loop-instruction l = l.text.items ≡ flat_map instruction_bytes (take l.instruction-index l.instruction-items)
