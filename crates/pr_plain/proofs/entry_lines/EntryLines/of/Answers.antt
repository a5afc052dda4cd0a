use Rattle.std.proofs.Common.{◌≡◌, ◌∙◌, Some, sym, ap, arith}
use Rattle.std.specs.List.{slice_split}
use Rattle.pr_plain.proofs.EntryLoop.{heading-fewer}
use Rattle.pr_plain.specs.EntryReading.{heading_in}
use Rattle.pr_plain.specs.WordReading.{word_at}
use Rattle.pr_text.specs.TextLines.{is_newline}
use Rattle.pr_plain.proofs.entry_lines.EntryLines.of.Goals as goal

-- below a heading there are fewer lines than bytes in the text
pub overflow_add-result : goal.overflow_add-result
overflow_add-result c =
    let first : word_at (slice_split is_newline c.args.text.now) ≡ Some (c.in-Some.bytes.now, c.in-Some.rest) =
    ap word_at (sym c.of.ensures) ∙ c.in-Some.ensures in
    let found : heading_in c.in-Some.bytes.now ≡ Some c.in-Some-heading_in.count =
    sym c.heading_in.ensures ∙ c.in-Some-heading_in.is in
    let fewer =
    heading-fewer c.args.text.now c.in-Some.bytes.now c.in-Some.rest c.in-Some-heading_in.count first found in
    omega (arith, fewer, c.requires)

pub invariant_of-result : goal.invariant_of-result
invariant_of-result c =
    let first : word_at (slice_split is_newline c.args.text.now) ≡ Some (c.in-Some.bytes.now, c.in-Some.rest) =
    ap word_at (sym c.of.ensures) ∙ c.in-Some.ensures in
    let found : heading_in c.in-Some.bytes.now ≡ Some c.in-Some-heading_in.count =
    sym c.heading_in.ensures ∙ c.in-Some-heading_in.is in
    let fewer =
    heading-fewer c.args.text.now c.in-Some.bytes.now c.in-Some.rest c.in-Some-heading_in.count first found in
    omega (arith, fewer, c.requires)
