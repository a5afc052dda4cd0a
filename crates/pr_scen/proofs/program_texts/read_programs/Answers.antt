use Rattle.std.proofs.Common.{arith, ap, length}
use Rattle.std.proofs.lemmas.List.{length-map}
use Rattle.pr_text.proofs.LineLemmas.{few_lines}
use Rattle.pr_scen.proofs.LineLemmas.{bytes_of}
use Rattle.pr_scen.proofs.program_texts.read_programs.Goals as goal

pub read_parts-requires : goal.read_parts-requires
read_parts-requires c =
    omega (
      arith,
      ap length c.deref.ensures.value,
      length-map c.in_ok-lines.lines.items bytes_of,
      ap length c.in_ok-lines.ensures,
      few_lines c.args.text.now,
    )
