use Rattle.pr_num.specs.Words.{word_of}
use Rattle.pr_num.proofs.InstructionLemmas.{decoded}
use Rattle.pr_num.proofs.instructions.Instruction.decode.Goals as goal

pub returns : goal.returns
unfolding word_of
returns c =
    decoded c.args.bytes.now c.copy_from_slice.new.self c.from_le_bytes.result _ _ c.if-not-are_zeros.false
    c.are_zeros.ensures c.copy_from_slice.ensures.after c.from_le_bytes.ensures c.instruction.ensures
