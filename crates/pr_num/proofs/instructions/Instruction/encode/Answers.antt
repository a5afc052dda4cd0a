use Rattle.std.proofs.Common.{◌∙◌}
use Rattle.pr_num.specs.Words.{word_bytes}
use Rattle.pr_num.proofs.InstructionLemmas.{laid_out}
use Rattle.pr_num.proofs.instructions.Instruction.encode.Goals as goal

pub returns : goal.returns
unfolding word_bytes
returns c = laid_out _ _ _ c.of-fields.ensures (c.copy_from_slice.ensures.after ∙ c.to_le_bytes.ensures)
