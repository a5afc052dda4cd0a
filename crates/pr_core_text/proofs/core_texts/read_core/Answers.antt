use Rattle.std.proofs.Common.{arith, ap, length}
use Rattle.std.proofs.lemmas.List.{length-map}
use Rattle.pr_text.proofs.LineLemmas.{few_lines}
use Rattle.pr_core_text.proofs.TextLemmas.{bytes_of}
use Rattle.pr_core_text.proofs.core_texts.read_core.Goals as goal

pub read_lines-requires : goal.read_lines-requires
read_lines-requires c =
    omega (
      arith,
      ap length c.deref.ensures.value,
      length-map c.in_ok-lines.lines.items bytes_of,
      ap length c.in_ok-lines.ensures,
      few_lines c.args.text.now,
    )
