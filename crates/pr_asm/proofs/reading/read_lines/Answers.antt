use Rattle.std.proofs.Common.{arith, ◌∙◌}
use Rattle.pr_asm.proofs.ReadingLemmas.{few_read}
use Rattle.pr_asm.proofs.reading.read_lines.Goals as goal

pub assemble-requires : goal.assemble-requires
assemble-requires c =
    omega (
      arith,
      few_read c.args.lines.now (λ line. line.now) c.deref.result.now (c.deref.ensures.value ∙ c.in_ok-reads.ensures),
    )
