use Rattle.std.proofs.Common.{◌≡◌, Some, sym, ◌∙◌, arith}
use Rattle.pr_line.specs.declared.functions.Function.{Function}
use Rattle.pr_num.proofs.InstructionLemmas.{spelled-read}
use Rattle.pr_num.proofs.ListLemmas.{length-instruction}
use Rattle.pr_num.specs.Instructions.{HasImmediate, fields_of, instruction_in}
use Rattle.pr_num.specs.declared.instructions.Instruction.TheVariants.{Bpt, Sys}
use Rattle.pr_reached.proofs.StatesInRange.MemoryRanges.{instruction-bytes}
use Rattle.pr_truss.specs.Marks.{breakpoint}
use Rattle.pr_function_laws.specs.Steppable.{IsSteppable}

-- What the bytes of a breakpoint are: an instruction that is no system call.

pub breakpoint-read : instruction_in breakpoint ≡ Some Bpt
unfolding HasImmediate fields_of
breakpoint-read = spelled-read Bpt (omega arith)

-- a function as its breakpoint stands there
abbrev pub with_breakpoint : Function → Function
with_breakpoint f = record f { code = breakpoint }

pub breakpoint-sound : (f : Function) → IsSteppable f → IsSteppable (with_breakpoint f)
breakpoint-sound f w = record {
  size = length-instruction Bpt;
  bytes = instruction-bytes Bpt;
  no_call = λ c is. let both : Some Bpt ≡ Some (Sys c) = sym breakpoint-read ∙ is in cc;
  fits = w.fits;
}
