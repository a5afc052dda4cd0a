use Rattle.std.proofs.Common.{ap, arith, length}
use Rattle.pr_core_text.specs.CoreTexts.{Bytes}
use Rattle.pr_core_text.proofs.core_texts.line_of.Goals as goal

pub overflow_cast-result : goal.overflow_cast-result
overflow_cast-result c =
    omega (
      arith,
      c.requires.few,
      c.requires.small,
      c.if-at-len.true,
      c.len.ensures,
      ap (λ (b : Bytes). length b.bytes) c.read.view_is,
    )

pub overflow_add-result : goal.overflow_add-result
overflow_add-result c =
    omega (
      arith,
      c.requires.few,
      c.requires.small,
      c.if-at-len.true,
      c.len.ensures,
      ap (λ (b : Bytes). length b.bytes) c.read.view_is,
    )
