use Rattle.std.proofs.Common.{ap, length, arith}
use Rattle.std.proofs.lemmas.List.{length-map}
use Rattle.pr_text.proofs.LineLemmas.{few_lines}
use Rattle.phist.proofs.sources.names_from.Goals as goal

pub line_numbers-requires : goal.line_numbers-requires
line_numbers-requires c =
    let lines = length-map c.in_ok-lines.lines.items (λ line. line.now) in
    omega (
      arith,
      ap length c.deref.ensures.value,
      lines,
      ap length c.in_ok-lines.ensures,
      few_lines c.args.text.now,
      c.requires.few,
    )
